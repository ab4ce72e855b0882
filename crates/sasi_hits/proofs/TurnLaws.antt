-- Laws of a turn: the next pair of the first word is looked for among those of the others.
use Rattle.std.proofs.Common.{◌≡◌, ◌&&◌, ℕ, ◌<◌, ◌≤◌, true, false, List, [], ◌∷◌, map, Option, None, Some, refl, sym, ap, subst, ◌∙◌, arith}
use Rattle.std.proofs.lemmas.Bool.{and_from, and_parts}
use Rattle.std.specs.List.{AllByRecursion, list_all}
use Rattle.sasi_types.specs.declared.tree.Pair.{Pair}
use Rattle.sasi_host.specs.Names.{Bytes}
use Rattle.sasi_host.specs.Disk.{Changes, Same}
use Rattle.sasi_host.specs.View.{View}
use Rattle.sasi_host.proofs.ContentLaws.{contents_same}
use Rattle.sasi_terms.specs.declared.op.Op.{Op}
use Rattle.sasi_treemerge.specs.Merges.{IsLeast, is_behind, last_after}
use Rattle.sasi_treemerge.specs.Sources.{is_before}
use Rattle.sasi_indexwrite.specs.Content.{IndexContent}
use Rattle.sasi_indexread.specs.Asked.{asked_lists}
use Rattle.sasi_indexread.specs.Opened.{OpenIndexFile}
use Rattle.sasi_indexread.specs.Searches.{CanSearch, IsSearching, Searching}
use Rattle.sasi_candidates.specs.Searches.{is_asked_pair}
use Rattle.sasi_hits.specs.declared.meeting.Met.{Met}
use Rattle.sasi_hits.specs.declared.meeting.Met.TheVariants.{All, NotAll, NoMore}
use Rattle.sasi_hits.specs.declared.meeting.Turn.TheVariants.{Passed, Ended}
use Rattle.sasi_hits.specs.declared.word_search.WordSearch.{WordSearch}
use Rattle.sasi_hits.specs.HitPairs.{AreHits, IsHit, all_give}
use Rattle.sasi_hits.specs.WordSearches.{AllCanFollow, AllGive, AreFollowing, AreSearching, AskAgain, AskWords, Asking, AsksAgain, Behind, CanMeet, EachCanFollow, From, IsFollowing, IsMet, TurnGives, asking, turn_of, word_gives}
use Rattle.sasi_hits.specs.inside.Moving.{are_searching_move, can_meet_moves, can_moves, searching_moves}
use Rattle.sasi_hits.proofs.HitLaws.{hits_end, hits_pass, hits_take}
use Rattle.sasi_hits.proofs.Lists.{all_as, all_mapped, map_twice, mapped_all}
use Rattle.sasi_hits.proofs.OtherLaws.{all_can, indexes_again, indexes_are}
use Rattle.sasi_hits.proofs.PairLaws.{before_one, from_behind}
use Rattle.sasi_hits.proofs.WordLaws.{IsNext, next_is, none_next}

-- ---- the same words

bodies_again : (old new : List WordSearch) → AskAgain old new → map (λ (word : WordSearch). word.search.body) new ≡ map (λ (word : WordSearch). word.search.body) old
bodies_again old new again = sym (map_twice (λ (a : Asking). a.2) asking new) ∙ ap (map (λ (a : Asking). a.2)) again ∙ map_twice (λ (a : Asking). a.2) asking old

of_asking : (P : Asking → Type 0) (old new : List WordSearch) → AskAgain old new → AllByRecursion (λ (word : WordSearch). P (asking word)) old → AllByRecursion (λ (word : WordSearch). P (asking word)) new
of_asking P old new again all = mapped_all P asking new (subst (λ (l : List Asking). AllByRecursion P l) (sym again) (all_mapped P asking old all))

pub words_again : (op : Op) (words : List Bytes) (first now : Searching) (old new : List WordSearch) → AsksAgain first now → AskAgain old new → AskWords op words first old → AskWords op words now new
words_again op words first now old new asked again was = record {
  op_is = asked.op ∙ was.op_is;
  words_are = was.words_are ∙ ap (λ b. b ∷ map (λ (word : WordSearch). word.search.body) old) (sym asked.body) ∙ ap (λ l. now.body ∷ l) (sym (bodies_again old new again));
  ops_are = of_asking (λ (a : Asking). a.1 ≡ op) old new again was.ops_are;
  files_are = of_asking (λ (a : Asking). a.0.file ≡ now.index.file) old new again
      (subst (λ (o : OpenIndexFile). AllByRecursion (λ (word : WordSearch). word.search.index.file ≡ o.file) old) (sym asked.index) was.files_are);
}

-- ---- what all words give

others_give : (content : IndexContent) (op : Op) (q : Pair) (others : List WordSearch) → AllByRecursion (λ (word : WordSearch). word.search.op ≡ op) others
    → list_all (is_asked_pair content op q) (map (λ (word : WordSearch). word.search.body) others) ≡ true → AllGive content others q
others_give content op q [] ops all = tt
others_give content op q (word ∷ others) ops all =
    let parts = and_parts (is_asked_pair content op q word.search.body) (list_all (is_asked_pair content op q) (map (λ (word : WordSearch). word.search.body) others)) all in
    (ap (λ o. is_asked_pair content o q word.search.body) ops.0 ∙ parts.0, others_give content op q others ops.1 parts.1)

give_others : (content : IndexContent) (op : Op) (q : Pair) (others : List WordSearch) → AllByRecursion (λ (word : WordSearch). word.search.op ≡ op) others
    → AllGive content others q → list_all (is_asked_pair content op q) (map (λ (word : WordSearch). word.search.body) others) ≡ true
give_others content op q [] ops all = refl
give_others content op q (word ∷ others) ops all =
    and_from (is_asked_pair content op q word.search.body) (list_all (is_asked_pair content op q) (map (λ (word : WordSearch). word.search.body) others))
    (ap (λ o. is_asked_pair content o q word.search.body) (sym ops.0) ∙ all.0) (give_others content op q others ops.1 all.1)

module _ (content : IndexContent) (op : Op) (words : List Bytes) (first : Searching) (others : List WordSearch) (asked : AskWords op words first others) where
  parts : (q : Pair) → all_give content op words q ≡ (is_asked_pair content op q first.body && list_all (is_asked_pair content op q) (map (λ (word : WordSearch). word.search.body) others))
  parts q = ap (list_all (is_asked_pair content op q)) asked.words_are

  pub first_gives : (q : Pair) → all_give content op words q ≡ true → word_gives content first q ≡ true
  first_gives q all = ap (λ o. is_asked_pair content o q first.body) asked.op_is ∙ (and_parts _ _ (sym (parts q) ∙ all)).0

  pub all_others : (q : Pair) → all_give content op words q ≡ true → AllGive content others q
  all_others q all = others_give content op q others asked.ops_are (and_parts _ _ (sym (parts q) ∙ all)).1

  pub together : (q : Pair) → word_gives content first q ≡ true → AllGive content others q → all_give content op words q ≡ true
  together q one all = parts q ∙ and_from _ _ (ap (λ o. is_asked_pair content o q first.body) (sym asked.op_is) ∙ one) (give_others content op q others asked.ops_are all)

  -- ---- what a turn gives

  module _ (floor : ℕ) (left : List Pair) (now : Option Pair) where
    -- no pair of the first word is left
    pub turn_ends : first.merge.floor ≡ 0 → IsLeast (asked_lists content first.op first.body) first.merge.last first.merge.floor None → now ≡ last_after first.merge.last None
        → AreHits content op words first.merge.last floor left → TurnGives (AreHits content op words now floor) left Ended
    turn_ends none least last are =
        hits_end content op words floor first.merge.last now left (λ q behind. subst (λ (o : Option Pair). Behind o q) last behind)
        (λ q hit. none_next content first first.merge.last first.merge.floor none least q (first_gives q hit.given) hit.behind) are

    module _ (pair : Pair) (none : first.merge.floor ≡ 0) (least : IsLeast (asked_lists content first.op first.body) first.merge.last first.merge.floor (Some pair)) (last : now ≡ Some pair) (are : AreHits content op words first.merge.last floor left) where
      next : IsNext content first first.merge.last pair
      next = next_is content first first.merge.last first.merge.floor pair none least

      none_before : (q : Pair) → is_behind first.merge.last q ≡ true → all_give content op words q ≡ true → is_before q pair ≡ false
      none_before q behind all = next.first q (first_gives q all) behind

      passes : (IsHit content op words first.merge.last floor pair → ⊥) → AreHits content op words now floor left
      passes isnt = subst (λ (o : Option Pair). AreHits content op words o floor left) (sym last) (hits_pass content op words floor first.merge.last pair left next.behind none_before isnt are)

      -- the pair is below the floor
      pub turn_below : pair.token < floor → TurnGives (AreHits content op words now floor) left Passed
      turn_below below = passes (λ hit. omega (arith, below, hit.from))

      -- the other words were asked
      pub turn_met : (met : Met) → floor ≤ pair.token → IsMet content others pair met → TurnGives (AreHits content op words now floor) left (turn_of met pair)
      turn_met All from is =
          let taken = hits_take content op words floor first.merge.last pair left none_before (record { behind = next.behind; from = from; given = together pair next.gives is }) are in
          (taken.0, taken.1, subst (λ (o : Option Pair). AreHits content op words o floor taken.0) (sym last) taken.2)
      turn_met NotAll from is = passes (λ hit. is (all_others pair hit.given))
      turn_met NoMore from is =
          hits_end content op words floor first.merge.last now left
          (λ q behind. from_behind first.merge.last pair q next.behind (before_one pair q (subst (λ (o : Option Pair). Behind o q) last behind)))
          (λ q hit. is q (none_before q hit.behind hit.given) (all_others q hit.given)) are

-- ---- the searches go on

less_follow : (v : View) (content : IndexContent) (These Those : Pair → Type 0) (others : List WordSearch) → ((q : Pair) → Those q → These q) → AreFollowing v content These others → AreFollowing v content Those others
less_follow v content These Those others less all =
    all_as (IsFollowing v content These) (IsFollowing v content Those) others
    (λ word is. record { searching = is.searching; given = is.given; comes = λ q those given. is.comes q (less q those) given }) all

module _ (v w : View) (op : Op) (words : List Bytes) (first now : Searching) (others : List WordSearch) (content : IndexContent) (change : Changes Same v w) where
  -- they were moved with the view
  pub follows_moved : AreSearching v op words first others content → AreFollowing w content (Behind first.merge.last) others
  follows_moved is = (are_searching_move v w op words first others content (contents_same v w first.index.file change) is).following

  -- the first one alone was read on
  pub first_on : AsksAgain first now → ((q : Pair) → Behind now.merge.last q → Behind first.merge.last q) → IsSearching w now content → AreSearching v op words first others content
      → AreSearching w op words now others content
  first_on asked later searching is = record {
    asked = words_again op words first now others others asked refl is.asked;
    searching = searching;
    following = less_follow w content (Behind first.merge.last) (Behind now.merge.last) others later (follows_moved is);
  }

  -- from its pair on the others are followed
  pub from_pair : (pair : Pair) → is_behind first.merge.last pair ≡ true → AreSearching v op words first others content → AreFollowing w content (From pair) others
  from_pair pair behind is = less_follow w content (Behind first.merge.last) (From pair) others (λ q from. from_behind first.merge.last pair q behind from) (follows_moved is)

-- and then they
pub others_on : (w u : View) (op : Op) (words : List Bytes) (first now : Searching) (old new : List WordSearch) (content : IndexContent) (pair : Pair) → Changes Same w u → AsksAgain first now → AskAgain old new
    → now.merge.last ≡ Some pair → AskWords op words first old → IsSearching w now content → AreFollowing u content (From pair) new → AreSearching u op words now new content
others_on w u op words first now old new content pair change asked again last words_are searching follow = record {
  asked = words_again op words first now old new asked again words_are;
  searching = searching_moves w u now content (contents_same w u now.index.file change) searching;
  following = less_follow u content (From pair) (Behind now.merge.last) new (λ q behind. before_one pair q (subst (λ (o : Option Pair). Behind o q) last behind)) follow;
}

-- ---- they can go on, in any file

pub can_first_on : (v w : View) (first now : Searching) (others : List WordSearch) → Changes Same v w → now.index ≡ first.index → now.merge.floor ≡ first.merge.floor → CanSearch w now → CanMeet v first others
    → CanMeet w now others
can_first_on v w first now others change index floor can is =
    let moved = can_meet_moves v w first others (contents_same v w first.index.file change) is in
    record { can = can; floor_is = floor ∙ is.floor_is; follow = subst (λ (o : OpenIndexFile). AllCanFollow w o others) (sym index) moved.follow }

pub can_others_on : (w u : View) (now : Searching) (old new : List WordSearch) → Changes Same w u → AskAgain old new → EachCanFollow u new → CanMeet w now old → CanMeet u now new
can_others_on w u now old new change again each is = record {
  can = can_moves w u now (contents_same w u now.index.file change) is.can;
  floor_is = is.floor_is;
  follow = all_can now.index u new (indexes_again now.index old new again (indexes_are now.index w old is.follow)) each;
}
