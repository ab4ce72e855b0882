-- Laws of the searches of the words behind the first one.
use Rattle.std.proofs.Common.{◌≡◌, ℕ, zero, suc, ◌<◌, ◌≤◌, true, false, List, [], ◌∷◌, length, take, map, Option, refl, sym, ap, subst, ◌∙◌, inl, inr, ⊎_elim, arith, Result}
use Rattle.std.proofs.lemmas.List.{length-map, take_all}
use Rattle.std.specs.List.{AllByRecursion, slice_index_or, slice_set}
use Rattle.sasi_types.specs.declared.tree.Pair.{Pair}
use Rattle.sasi_host.specs.declared.name.FileName.{FileName}
use Rattle.sasi_host.specs.declared.damage.Damage.{Damage}
use Rattle.sasi_host.specs.declared.fault.ReadFault.{ReadFault}
use Rattle.sasi_host.specs.Names.{Folder}
use Rattle.sasi_host.specs.Disk.{Changes, Same}
use Rattle.sasi_host.specs.View.{View}
use Rattle.sasi_host.proofs.ContentLaws.{contents_same}
use Rattle.sasi_indexwrite.specs.Content.{IndexContent}
use Rattle.sasi_indexread.specs.Damages.{ShowsIndex}
use Rattle.sasi_indexread.specs.Opened.{OpenIndexFile}
use Rattle.sasi_indexread.specs.Searches.{IsSearching}
use Rattle.sasi_ranges.specs.StreamCalls.{CanStream, HasStreamed, StreamFaults}
use Rattle.sasi_ranges.proofs.Calling.{on_err}
use Rattle.sasi_candidates.specs.Searches.{is_asked_pair}
use Rattle.sasi_hits.specs.declared.meeting.Met.{Met}
use Rattle.sasi_hits.specs.declared.meeting.Met.TheVariants.{All, NotAll, NoMore}
use Rattle.sasi_hits.specs.declared.word_search.WordSearch.{WordSearch}
use Rattle.sasi_hits.specs.Calls.{IsFile, ShowsIn}
use Rattle.sasi_hits.specs.WordSearches.{AllCanFollow, AllGive, AreFollowing, AskAgain, Asking, AsksAgain, CanFollow, EachCanFollow, From, IsFollowing, IsMet, IsMetBy, OthersOpen, OthersShow, WordOpens, WordShows, asking, is_all}
use Rattle.sasi_hits.specs.inside.Moving.{can_moves, following_moves}
use Rattle.sasi_hits.proofs.Lists.{all_as, all_at, all_mapped, all_more, all_set, mapped_all, open_at, open_set, show_at, show_set}
use Rattle.sasi_hits.proofs.PairLaws.{no_both}

-- ---- one of them is read on

pub asking_again : (old new : WordSearch) → AsksAgain old.search new.search → asking new ≡ asking old
asking_again old new asked =
    ap (λ i. (i, new.search.op, new.search.body)) asked.index ∙ ap (λ o. (old.search.index, o, new.search.body)) asked.op ∙ ap (λ b. (old.search.index, old.search.op, b)) asked.body

module _ (d : WordSearch) where
  pub can_at : (K : Option Folder → Type 0) (v : View) (others : List WordSearch) (i : ℕ) → i < length others → CanStream K (OthersOpen others) v → CanStream K (IsFile (slice_index_or others i d).search.index.file) v
  can_at K v others i lt can = record { there = λ name is. can.there name (open_at d WordOpens others i name lt is); agrees = can.agrees }

  pub streamed_set : (K : Option Folder → Type 0) (A B : FileName → Type 0) (u v : View) (others : List WordSearch) (i : ℕ) (new : WordSearch) → i < length others
      → new.search.index ≡ (slice_index_or others i d).search.index
      → HasStreamed K A B (IsFile (slice_index_or others i d).search.index.file) (IsFile (slice_index_or others i d).search.index.file) u v → HasStreamed K A B (OthersOpen others) (OthersOpen (slice_set others i new)) u v
  streamed_set K A B u v others i new lt same one = record {
    agrees = one.agrees;
    covers = λ name is. ⊎_elim (λ before. inl before) (λ mine. inr (open_at d WordOpens others i name lt mine)) (one.covers name is);
    opens = λ name is. open_set d WordOpens others i new name (λ mine. mine ∙ ap (λ (o : OpenIndexFile). o.file) same) is;
    changes = one.changes;
  }

  pub faults_set : {T : Type 0} (u v : View) (pair : Pair) (others : List WordSearch) (i : ℕ) (new : WordSearch) (r : Result T ReadFault) → i < length others → v.files ≡ u.files
      → new.search.index ≡ (slice_index_or others i d).search.index
      → StreamFaults (WordShows (slice_index_or others i d) u.files) (WordShows (slice_index_or others i d) v.files) (IsSearching u (slice_index_or others i d).search) u v r
      → StreamFaults (OthersShow u.files others) (OthersShow v.files (slice_set others i new)) (λ content. AreFollowing u content (From pair) others) u v r
  faults_set u v pair others i new r lt same index one = record {
    causes = one.causes;
    damaged = on_err (WordShows (slice_index_or others i d) u.files) (OthersShow u.files others) r (λ damage is. show_at d WordShows u.files others i damage lt is) one.damaged;
    undamaged = on_err (λ _. (content : IndexContent) → IsSearching u (slice_index_or others i d).search content → ⊥) (λ _. (content : IndexContent) → AreFollowing u content (From pair) others → ⊥) r
        (λ damage no content all. no content (all_at d (IsFollowing u content (From pair)) others i lt all).searching) one.undamaged;
    shows = λ damage is. show_set d WordShows u.files v.files others i new damage same (λ mine. one.shows damage (shown mine)) is;
  }
    where
      shown : {damage : Damage} → WordShows new v.files damage → WordShows (slice_index_or others i d) v.files damage
      shown {damage} mine = subst (λ (o : OpenIndexFile). ShowsIn o.file (ShowsIndex o) v.files damage) index mine

  -- ---- whether all give the pair

  at : (content : IndexContent) (pair : Pair) (before others : List WordSearch) (i : ℕ) → i < length others → AskAgain before others → AllGive content before pair
      → is_asked_pair content (slice_index_or others i d).search.op pair (slice_index_or others i d).search.body ≡ true
  at content pair before others i lt asked all =
      all_at d (λ (word : WordSearch). is_asked_pair content word.search.op pair word.search.body ≡ true) others i lt
      (mapped_all (λ (a : Asking). is_asked_pair content a.1 pair a.2 ≡ true) asking others
      (subst (λ (l : List Asking). AllByRecursion (λ (a : Asking). is_asked_pair content a.1 pair a.2 ≡ true) l) (sym asked) all))

  -- a word that doesn't give it tells of all
  pub met_word : (content : IndexContent) (pair : Pair) (before others : List WordSearch) (i : ℕ) (met : Met) → i < length others → AskAgain before others → is_all met ≡ false
      → IsMetBy content (slice_index_or others i d).search pair met → IsMet content before pair met
  met_word content pair before others i All lt asked isnt is = cc
  met_word content pair before others i NotAll lt asked isnt is = λ all. no_both _ (at content pair before others i lt asked all) is
  met_word content pair before others i NoMore lt asked isnt is = λ later from all. no_both _ (at content later before others i lt asked all) (is later from)

pub met_is : (content : IndexContent) (word : WordSearch) (pair : Pair) (met : Met) → is_all met ≡ true → IsMetBy content word.search pair met → IsMetBy content word.search pair All
met_is content word pair All is by = by
met_is content word pair NotAll is by = cc
met_is content word pair NoMore is by = cc

-- ---- all of them are in one file

module _ (index : OpenIndexFile) where
  pub each_can : (v : View) (others : List WordSearch) → AllCanFollow v index others → EachCanFollow v others
  each_can v [] all = tt
  each_can v (word ∷ others) all = (record { can = all.0.can; index_is = refl; last_is = all.0.last_is; floor_is = all.0.floor_is }, each_can v others all.1)

  pub indexes_are : (v : View) (others : List WordSearch) → AllCanFollow v index others → AllByRecursion (λ (word : WordSearch). word.search.index ≡ index) others
  indexes_are v others all = all_as (CanFollow v index) (λ (word : WordSearch). word.search.index ≡ index) others (λ word can. can.index_is) all

  pub indexes_again : (old new : List WordSearch) → AskAgain old new → AllByRecursion (λ (word : WordSearch). word.search.index ≡ index) old → AllByRecursion (λ (word : WordSearch). word.search.index ≡ index) new
  indexes_again old new asked all =
      mapped_all (λ (a : Asking). a.0 ≡ index) asking new
      (subst (λ (l : List Asking). AllByRecursion (λ (a : Asking). a.0 ≡ index) l) (sym asked) (all_mapped (λ (a : Asking). a.0 ≡ index) asking old all))

  pub all_can : (v : View) (others : List WordSearch) → AllByRecursion (λ (word : WordSearch). word.search.index ≡ index) others → EachCanFollow v others → AllCanFollow v index others
  all_can v [] named each = tt
  all_can v (word ∷ others) named each = (record { can = each.0.can; index_is = named.0; last_is = each.0.last_is; floor_is = each.0.floor_is }, all_can v others named.1 each.1)

  pub opens_file : (others : List WordSearch) (name : FileName) → AllByRecursion (λ (word : WordSearch). word.search.index ≡ index) others → OthersOpen others name → IsFile index.file name
  opens_file [] name named is = absurd is
  opens_file (word ∷ others) name named is = ⊎_elim (λ here. here ∙ ap (λ (o : OpenIndexFile). o.file) named.0) (λ later. opens_file others name named.1 later) is

  pub shows_index : (files : Option Folder) (others : List WordSearch) (damage : Damage) → AllByRecursion (λ (word : WordSearch). word.search.index ≡ index) others → OthersShow files others damage → ShowsIn index.file (ShowsIndex index) files damage
  shows_index files [] damage named is = absurd is
  shows_index files (word ∷ others) damage named is =
      ⊎_elim (λ here. subst (λ (o : OpenIndexFile). ShowsIn o.file (ShowsIndex o) files damage) named.0 here) (λ later. shows_index files others damage named.1 later) is

  pub can_others : (K : Option Folder → Type 0) (v : View) (others : List WordSearch) → AllByRecursion (λ (word : WordSearch). word.search.index ≡ index) others → CanStream K (IsFile index.file) v → CanStream K (OthersOpen others) v
  can_others K v others named can = record { there = λ name is. can.there name (opens_file others name named is); agrees = can.agrees }

  pub streamed_others : (K : Option Folder → Type 0) (A B : FileName → Type 0) (u v : View) (old new : List WordSearch) → AllByRecursion (λ (word : WordSearch). word.search.index ≡ index) old
      → HasStreamed K A B (OthersOpen old) (OthersOpen new) u v → HasStreamed K A B (IsFile index.file) (IsFile index.file) u v
  streamed_others K A B u v old new named one = record {
    agrees = one.agrees;
    covers = λ name is. ⊎_elim (λ before. inl before) (λ mine. inr (opens_file old name named mine)) (one.covers name is);
    opens = λ name is. is;
    changes = one.changes;
  }

-- ---- a call on one of them

pub others_follow_at : (d : WordSearch) (v w : View) (content : IndexContent) (pair : Pair) (others : List WordSearch) (i : ℕ) (new : WordSearch) → Changes Same v w
    → IsFollowing w content (From pair) new → AreFollowing v content (From pair) others → AreFollowing w content (From pair) (slice_set others i new)
others_follow_at d v w content pair others i new change is all =
    all_set d (IsFollowing v content (From pair)) (IsFollowing w content (From pair)) others i new
    (λ word was. following_moves v w content (From pair) word (contents_same v w word.search.index.file change) was) is all

pub others_can_at : (d : WordSearch) (v w : View) (others : List WordSearch) (i : ℕ) (new : WordSearch) → Changes Same v w → new.search.index ≡ (slice_index_or others i d).search.index
    → CanFollow w (slice_index_or others i d).search.index new → EachCanFollow v others → EachCanFollow w (slice_set others i new)
others_can_at d v w others i new change same is all =
    all_set d (λ (word : WordSearch). CanFollow v word.search.index word) (λ (word : WordSearch). CanFollow w word.search.index word) others i new
    (λ word was. record { can = can_moves v w word.search (contents_same v w word.search.index.file change) was.can; index_is = refl; last_is = was.last_is; floor_is = was.floor_is })
    (record { can = is.can; index_is = refl; last_is = is.last_is; floor_is = is.floor_is }) all

-- of the words the first so many give the pair, and one more
pub met_more : (d : WordSearch) (content : IndexContent) (pair : Pair) (before others : List WordSearch) (i n : ℕ) → i < length others → n ≡ suc i → AskAgain before others
    → IsMetBy content (slice_index_or others i d).search pair All → AllByRecursion (λ (a : Asking). is_asked_pair content a.1 pair a.2 ≡ true) (take i (map asking before))
    → AllByRecursion (λ (a : Asking). is_asked_pair content a.1 pair a.2 ≡ true) (take n (map asking before))
met_more d content pair before others i n lt next asked is all =
    subst (λ (l : List Asking). AllByRecursion Gives (take n l)) asked
    (all_more (asking d) Gives (map asking others) i n (omega (arith, lt, length-map others asking)) next
    (subst Gives (sym (mapped_at others i)) is) (subst (λ (l : List Asking). AllByRecursion Gives (take i l)) (sym asked) all))
  where
    Gives : Asking → Type 0
    Gives a = is_asked_pair content a.1 pair a.2 ≡ true

    mapped_at : (others : List WordSearch) (i : ℕ) → slice_index_or (map asking others) i (asking d) ≡ asking (slice_index_or others i d)
    mapped_at [] i = refl
    mapped_at (word ∷ others) zero = refl
    mapped_at (word ∷ others) (suc i) = mapped_at others i

pub met_all : (content : IndexContent) (pair : Pair) (before others : List WordSearch) (i : ℕ) → length others ≤ i → AskAgain before others
    → AllByRecursion (λ (a : Asking). is_asked_pair content a.1 pair a.2 ≡ true) (take i (map asking before)) → AllGive content before pair
met_all content pair before others i end asked all =
    let long : length (map asking before) ≤ i = omega (arith, ap length asked, length-map others asking, end) in
    subst (λ (l : List Asking). AllByRecursion (λ (a : Asking). is_asked_pair content a.1 pair a.2 ≡ true) l) (take_all i (map asking before) long) all

-- ---- as calls on the one file

module _ (index : OpenIndexFile) where
  pub others_faults : {T : Type 0} (v w : View) (pair : Pair) (old new : List WordSearch) (r : Result T ReadFault) → AllByRecursion (λ (word : WordSearch). word.search.index ≡ index) old → Changes Same v w
      → StreamFaults (OthersShow v.files old) (OthersShow w.files new) (λ content. AreFollowing v content (From pair) old) v w r
      → StreamFaults (ShowsIn index.file (ShowsIndex index) v.files) (ShowsIn index.file (ShowsIndex index) w.files) (λ content. AreFollowing v content (From pair) old) v w r
  others_faults v w pair old new r named change one = record {
    causes = one.causes;
    damaged = on_err (OthersShow v.files old) (ShowsIn index.file (ShowsIndex index) v.files) r (λ damage is. shows_index index v.files old damage named is) one.damaged;
    undamaged = one.undamaged;
    shows = λ damage is bytes reads. is bytes (contents_same v w index.file change ∙ reads);
  }
