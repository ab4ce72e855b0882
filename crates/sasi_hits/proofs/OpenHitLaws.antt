-- An index file is opened for the searches of some words.
use Rattle.std.proofs.Common.{◌≡◌, ℕ, ◌+◌, ◌*◌, ◌^◌, ◌<◌, ◌≤◌, Bool, false, if◌then◌else◌, List, [], ◌∷◌, ◌++◌, length, drop, get_or, map, Option, None, Some, IfErr, refl, sym, ap, subst, ◌∙◌, add-one, append_assoc, arith, Result, Ok, Err}
use Rattle.std.proofs.Math.Seq.{drop-cons}
use Rattle.std.proofs.lemmas.List.{append-nil, drop_all, map-append}
use Rattle.std.proofs.lemmas.List.Sums.{sum_by-cons}
use Rattle.std.specs.List.{AllByRecursion}
use Rattle.sasi_types.specs.declared.tree.Pair.{Pair}
use Rattle.sasi_host.specs.declared.name.FileName.{FileName}
use Rattle.sasi_host.specs.declared.damage.Damage.{Damage}
use Rattle.sasi_host.specs.declared.fault.ReadFault.{ReadFault}
use Rattle.sasi_host.specs.declared.fault.ReadFault.TheVariants as fault
use Rattle.sasi_host.specs.Names.{Bytes}
use Rattle.sasi_host.specs.Damages.{DamageShown}
use Rattle.sasi_host.specs.Disk.{Changes, Same}
use Rattle.sasi_host.specs.View.{ReadCost, View, contents}
use Rattle.sasi_host.proofs.ContentLaws.{contents_same}
use Rattle.sasi_terms.specs.declared.op.Op.{Op}
use Rattle.sasi_termblocks.specs.declared.block_ref.BlockRef.{BlockRef}
use Rattle.sasi_indexwrite.specs.declared.footer.Footer.{Footer}
use Rattle.sasi_indexwrite.specs.Content.{IndexContent}
use Rattle.sasi_indexwrite.specs.Files.{IsIndexFile}
use Rattle.sasi_treemerge.specs.Merges.{sources_of, unread_of}
use Rattle.sasi_indexread.specs.Costs.{cost_left, whole_cost}
use Rattle.sasi_indexread.specs.HeaderAndFooter.{ShowsHeaderOrFooter}
use Rattle.sasi_indexread.specs.Opened.{HasHeaderAndFooterOf, IsOpenOn, NoFalseIndexDamage, OpenIndexFile}
use Rattle.sasi_indexread.specs.Searches.{Searching}
use Rattle.sasi_indexread.proofs.Callers.{fresh_can, fresh_searches}
use Rattle.sasi_indexread.proofs.Footers.{numbers_tell}
use Rattle.sasi_ranges.specs.StreamCalls.{StreamFaults}
use Rattle.sasi_ranges.proofs.Calling.{on_err}
use Rattle.sasi_hits.specs.declared.open_searches.WordSearches.{WordSearches}
use Rattle.sasi_hits.specs.declared.word_search.WordSearch.{WordSearch}
use Rattle.sasi_hits.specs.Calls.{ShowsIn, quiet}
use Rattle.sasi_hits.specs.HitPairs.{AreHits}
use Rattle.sasi_hits.specs.IndexHits.{AreFresh, AreOpen, HitsLeave, HitsPay, HitsShow, all_cost}
use Rattle.sasi_indexread.specs.Damages.{ShowsIndexFile}
use Rattle.sasi_indexread.specs.Damages.ShowsIndexFile.{outside}
use Rattle.sasi_hits.specs.WordSearches.{AllCanFollow, AreSearching, AskWords, Behind, CanFollow, IsFollowing, IsFreshWord, IsGiven, IsToCome, others_cost}
use Rattle.sasi_hits.proofs.CallLaws.{faults_of}
use Rattle.sasi_hits.proofs.Lists.{all_as}

-- ---- they are begun one by one

-- the searches so far, and the words that are left
pub record HasBegun (index : OpenIndexFile) (op : Op) (words : List Bytes) (n : ℕ) (others : List WordSearch) : Type 0 where
  pub fresh : AllByRecursion (IsFreshWord index op) others
  pub bodies : map (λ (word : WordSearch). word.search.body) others ++ drop n words ≡ words

fresh_more : (index : OpenIndexFile) (op : Op) (others : List WordSearch) (one : WordSearch) → AllByRecursion (IsFreshWord index op) others → IsFreshWord index op one
    → AllByRecursion (IsFreshWord index op) (others ++ one ∷ [])
fresh_more index op [] one all is = (is, tt)
fresh_more index op (word ∷ others) one all is = (all.0, fresh_more index op others one all.1 is)

pub one_begun : (index : OpenIndexFile) (op : Op) (words : List Bytes) (n : ℕ) (others new : List WordSearch) (body : Bytes) (one : WordSearch) → n < length words → body ≡ get_or words n body
    → one.search.body ≡ body → IsFreshWord index op one → new ≡ others ++ one ∷ [] → HasBegun index op words n others → HasBegun index op words (n + 1) new
one_begun index op words n others new body one inside is asked fresh pushed so_far =
    let body_of : WordSearch → Bytes = λ word. word.search.body in
    let next : drop n words ≡ body ∷ drop (n + 1) words = rw (add-one, drop-cons words n body inside, ← is) refl in
    record {
      fresh = subst (λ (l : List WordSearch). AllByRecursion (IsFreshWord index op) l) (sym pushed) (fresh_more index op others one so_far.fresh fresh);
      bodies =
          ap (λ (l : List WordSearch). map body_of l ++ drop (n + 1) words) pushed
          ∙ ap (λ (l : List Bytes). l ++ drop (n + 1) words) (map-append body_of others (one ∷ []))
          ∙ append_assoc (map body_of others) (one.search.body ∷ []) (drop (n + 1) words)
          ∙ ap (λ b. map body_of others ++ b ∷ drop (n + 1) words) asked
          ∙ ap (λ l. map body_of others ++ l) (sym next)
          ∙ so_far.bodies;
    }

-- all of them are
pub all_begun : (index : OpenIndexFile) (op : Op) (words : List Bytes) (n : ℕ) (others : List WordSearch) → length words ≤ n → HasBegun index op words n others
    → map (λ (word : WordSearch). word.search.body) others ≡ words
all_begun index op words n others end is =
    let bodies = map (λ (word : WordSearch). word.search.body) others in
    sym (append-nil bodies) ∙ ap (λ l. bodies ++ l) (sym (drop_all n words end)) ∙ is.bodies

-- ---- nothing was read of the searches

fresh_cost : (search : Searching) (content : IndexContent) → search.is_collected ≡ false → cost_left search content ≡ whole_cost search.index.blocks.levels content search.op search.body
fresh_cost search content begins = ap (λ (b : Bool). if b then 2 * unread_of (sources_of search.merge) else whole_cost search.index.blocks.levels content search.op search.body) begins

module _ (v : View) (index : OpenIndexFile) (op : Op) where
  fresh_word_can : (word : WordSearch) → IsFreshWord index op word → CanFollow v index word
  fresh_word_can word is = record { can = fresh_can v word.search is.fresh; index_is = is.index_is; last_is = is.fresh.last ∙ sym is.head; floor_is = is.fresh.floor }

  fresh_word_follows : (content : IndexContent) (These : Pair → Type 0) → IsOpenOn v index content → (word : WordSearch) → IsFreshWord index op word → IsFollowing v content These word
  fresh_word_follows content These on word is = record {
    searching = fresh_searches v word.search content is.fresh (subst (λ (o : OpenIndexFile). IsOpenOn v o content) (sym is.index_is) on);
    given = subst (λ (o : Option Pair). IsGiven content word.search o) (sym is.head) tt;
    comes = λ q these given. subst (λ (o : Option Pair). IsToCome o q) (sym is.head) tt;
  }

  module _ (words : List Bytes) (searches : WordSearches) (fresh : AreFresh index op words searches) where
    abbrev others : List WordSearch
    others = searches.others.items

    ask : AskWords op words searches.first others
    ask = record {
      op_is = fresh.op_is;
      words_are = fresh.words_are;
      ops_are = all_as (IsFreshWord index op) (λ (word : WordSearch). word.search.op ≡ op) others (λ word is. is.op_is) fresh.others;
      files_are = all_as (IsFreshWord index op) (λ (word : WordSearch). word.search.index.file ≡ searches.first.index.file) others
          (λ word is. ap (λ (o : OpenIndexFile). o.file) (is.index_is ∙ sym fresh.index_is)) fresh.others;
    }

    pub fresh_searching : (content : IndexContent) → IsOpenOn v index content → AreSearching v op words searches.first others content
    fresh_searching content on = record {
      asked = ask;
      searching = fresh_searches v searches.first content fresh.fresh (subst (λ (o : OpenIndexFile). IsOpenOn v o content) (sym fresh.index_is) on);
      following = all_as (IsFreshWord index op) (IsFollowing v content (Behind searches.first.merge.last)) others (fresh_word_follows content (Behind searches.first.merge.last) on) fresh.others;
    }

    pub fresh_can_follow : AllCanFollow v searches.first.index others
    fresh_can_follow = subst (λ (o : OpenIndexFile). AllCanFollow v o others) (sym fresh.index_is) (all_as (IsFreshWord index op) (CanFollow v index) others fresh_word_can fresh.others)

  one_cost : (content : IndexContent) (search : Searching) → search.is_collected ≡ false → search.index ≡ index → search.op ≡ op → cost_left search content ≡ whole_cost index.blocks.levels content op search.body
  one_cost content search begins index_is op_is =
      fresh_cost search content begins
      ∙ ap (λ (o : OpenIndexFile). whole_cost o.blocks.levels content search.op search.body) index_is
      ∙ ap (λ o. whole_cost index.blocks.levels content o search.body) op_is

  others_costs : (content : IndexContent) (others : List WordSearch) → AllByRecursion (IsFreshWord index op) others
      → others_cost content others ≡ all_cost index.blocks.levels content op (map (λ (word : WordSearch). word.search.body) others)
  others_costs content [] all = refl
  others_costs content (word ∷ others) all =
      let first = one_cost content word.search all.0.fresh.begins all.0.index_is all.0.op_is in
      omega (
        arith,
        sum_by-cons (λ (word : WordSearch). cost_left word.search content) word others,
        sum_by-cons (whole_cost index.blocks.levels content op) word.search.body (map (λ (word : WordSearch). word.search.body) others),
        first,
        others_costs content others all.1,
      )

  -- what they cost is what all words cost
  pub fresh_costs : (words : List Bytes) (searches : WordSearches) → AreFresh index op words searches → (content : IndexContent)
      → cost_left searches.first content + others_cost content searches.others.items ≡ all_cost index.blocks.levels content op words
  fresh_costs words searches fresh content =
      let bodies = map (λ (word : WordSearch). word.search.body) searches.others.items in
      let all = ap (all_cost index.blocks.levels content op) fresh.words_are in
      omega (
        arith,
        all,
        sum_by-cons (whole_cost index.blocks.levels content op) searches.first.body bodies,
        one_cost content searches.first fresh.fresh.begins fresh.index_is fresh.op_is,
        others_costs content searches.others.items fresh.others,
      )

-- ---- the file was opened

module _ (v w : View) (file : FileName) (op : Op) (words : List Bytes) (index : OpenIndexFile) (searches : WordSearches) (change : Changes Same v w) (named : index.file ≡ file) (fresh : AreFresh index op words searches) where
  name_is : searches.first.index.file ≡ file
  name_is = ap (λ (o : OpenIndexFile). o.file) fresh.index_is ∙ named

  abbrev Opens : Type 0
  Opens = (bytes : Bytes) (content : IndexContent) → contents v file ≡ Some bytes → IsIndexFile bytes content → IsOpenOn w index content

  quietly : (content : IndexContent) → IsOpenOn w index content → IsOpenOn (quiet w.files) index content
  quietly content on = record { bytes = on.bytes; reads = on.reads; index_file = on.index_file; mode = on.mode; kind = on.kind; blocks = on.blocks; spill = on.spill }

  pub opened_hits : Opens → (floor : ℕ) (left : List Pair) → HitsLeave file op words floor None v.files left → HitsLeave file op words floor (Some searches) w.files left
  opened_hits opens floor left is = (
    name_is,
    (
      is.1,
      fresh_searching (quiet w.files) index op words searches fresh is.1 (quietly is.1 (opens is.0 is.1 is.2.reads is.2.index_file)),
      subst (λ (o : Option Pair). AreHits is.1 op words o floor left) (sym fresh.fresh.last) is.3,
    ),
  )

  pub opened_hits_pay : Opens → ((bytes : Bytes) → contents v file ≡ Some bytes → length bytes ≤ 2 ^ 62)
      → ((bytes : Bytes) → contents v file ≡ Some bytes → HasHeaderAndFooterOf bytes index) → w.reads ≤ v.reads + 3
      → (most : ℕ) → HitsPay file op words None v.files most → (rest : ℕ) × HitsPay file op words (Some searches) w.files rest × (w.reads + rest ≤ v.reads + most)
  opened_hits_pay opens short has within most is =
      let one = is.2.index_file in
      let blocks : index.blocks ≡ one.blocks = ap (λ (n : Footer). n.blocks) (numbers_tell is.0 is.1 one (short is.0 is.2.reads) index.mode index.kind (record { blocks = index.blocks; table = (has is.0 is.2.reads).0; spill = index.spill }) (has is.0 is.2.reads).1) in
      let costs = fresh_costs (quiet w.files) index op words searches fresh is.1 ∙ ap (λ (b : BlockRef). all_cost b.levels is.1 op words) blocks in (
        all_cost one.blocks.levels is.1 op words,
        (name_is, (is.1, fresh_searching (quiet w.files) index op words searches fresh is.1 (quietly is.1 (opens is.0 is.1 is.2.reads one)), omega (arith, costs))),
        omega (arith, within, is.3),
      )

  pub opened_hits_ready : ((bytes : Bytes) → contents v file ≡ Some bytes → HasHeaderAndFooterOf bytes index) → AreOpen file searches w.files
  opened_hits_ready has = record {
    named = name_is;
    opened = λ bytes reads.
        subst (λ (o : OpenIndexFile). HasHeaderAndFooterOf bytes o) (sym fresh.index_is) (has bytes (sym (contents_same v w file change) ∙ reads));
    can = record {
      can = fresh_can (quiet w.files) searches.first fresh.fresh;
      floor_is = fresh.fresh.floor;
      follow = fresh_can_follow (quiet w.files) index op words searches fresh;
    };
  }

-- ---- it wasn't

pub unopened_hits_pay : (v w : View) (file : FileName) (op : Op) (words : List Bytes) → w.reads ≤ v.reads + 3 → (most : ℕ) → HitsPay file op words None v.files most → w.reads ≤ v.reads + most
unopened_hits_pay v w file op words within most is = omega (arith, within, is.3)

-- damage of the header or the footer
pub opening_hit_faults : {T : Type 0} (v w : View) (file : FileName) (op : Op) (words : List Bytes) (n : ℕ) (r : Result T ReadFault) → Changes Same v w → ReadCost n v w r
    → IfErr r (DamageShown v file (ShowsHeaderOrFooter file)) → IfErr r (NoFalseIndexDamage v file)
    → StreamFaults (HitsShow file v.files) (HitsShow file w.files) (λ (left : List Pair). (floor : ℕ) × HitsLeave file op words floor None v.files left) v w r
opening_hit_faults v w file op words n r change causes damaged undamaged =
    faults_of file (ShowsIndexFile file) (λ (left : List Pair). (floor : ℕ) × HitsLeave file op words floor None v.files left) v w n r change causes
    (on_err (ShowsIn file (ShowsHeaderOrFooter file) v.files) (HitsShow file v.files) r (λ damage shows bytes reads. outside (shows bytes reads)) damaged)
    (on_err (λ _. (bytes : Bytes) (content : IndexContent) → contents v file ≡ Some bytes → IsIndexFile bytes content → ⊥) (λ _. (left : List Pair) → (floor : ℕ) × HitsLeave file op words floor None v.files left → ⊥) r
    (λ damage no left is. no is.1.0 is.1.1 is.1.2.reads is.1.2.index_file) undamaged)
