-- Laws of the search of one word.
use Rattle.std.proofs.Common.{◌≡◌, ◌⊎◌, ◌&&◌, ℕ, nat_le, Bool, true, false, not, if◌then◌else◌, Option, None, Some, refl, sym, ap, subst, ◌∙◌, inl, inr, ⊎_elim, arith}
use Rattle.std.proofs.lemmas.Bool.Decides.{nat_tests}
use Rattle.sasi_types.specs.declared.tree.Pair.{Pair}
use Rattle.sasi_host.specs.View.{View}
use Rattle.sasi_treemerge.specs.Merges.{IsLeast, is_behind, is_left}
use Rattle.sasi_treemerge.specs.Sources.{is_before}
use Rattle.sasi_treemerge.proofs.PairOrder.{before_itself}
use Rattle.sasi_indexwrite.specs.Content.{IndexContent}
use Rattle.sasi_indexread.specs.Asked.{asked_lists}
use Rattle.sasi_indexread.specs.Searches.{IsSearching, Searching}
use Rattle.sasi_candidates.specs.Searches.{is_asked_pair, same_pair}
use Rattle.sasi_candidates.proofs.PairLists.{equal_pairs, listed_pair, pair_itself, pair_listed}
use Rattle.sasi_hits.specs.declared.meeting.Met.{Met}
use Rattle.sasi_hits.specs.declared.meeting.Met.TheVariants.{All, NotAll, NoMore}
use Rattle.sasi_hits.specs.declared.word_search.WordSearch.{WordSearch}
use Rattle.sasi_hits.specs.WordSearches.{AsksAgain, Behind, From, HeadAdvances, IsFollowing, IsGiven, IsMetBy, IsToCome, has_come_to, met_at, word_gives}
use Rattle.sasi_hits.proofs.PairLaws.{chain, from_cases, no_both, split}

-- ---- what a search gives

all_left : (b t : Bool) → t ≡ true → (b && t) ≡ b
all_left true t is = is
all_left false t is = refl

-- without a floor a pair is left where it comes behind the last one
pub left_is : (last : Option Pair) (floor : ℕ) (pair : Pair) → floor ≡ 0 → is_left last floor pair ≡ is_behind last pair
left_is last floor pair none = (
    let over : nat_le floor pair.token ≡ true = grind (arith, nat_tests, none) in
    all_left (is_behind last pair) (nat_le floor pair.token) over
    )

-- the least pair that is left of a search
pub record IsNext (content : IndexContent) (search : Searching) (last : Option Pair) (pair : Pair) : Type 0 where
  pub gives : word_gives content search pair ≡ true
  pub behind : Behind last pair
  pub first : (q : Pair) → word_gives content search q ≡ true → Behind last q → From pair q

pub next_is : (content : IndexContent) (search : Searching) (last : Option Pair) (floor : ℕ) (pair : Pair) → floor ≡ 0
    → IsLeast (asked_lists content search.op search.body) last floor (Some pair) → IsNext content search last pair
next_is content search last floor pair none least = record {
  gives = listed_pair pair (asked_lists content search.op search.body) least.0;
  behind = sym (left_is last floor pair none) ∙ least.1;
  first = λ q given behind. least.2 q (pair_listed q (asked_lists content search.op search.body) given) (left_is last floor q none ∙ behind);
}

pub none_next : (content : IndexContent) (search : Searching) (last : Option Pair) (floor : ℕ) → floor ≡ 0 → IsLeast (asked_lists content search.op search.body) last floor None
    → (q : Pair) → word_gives content search q ≡ true → Behind last q → ⊥
none_next content search last floor none least q given behind =
    no_both (is_left last floor q) (left_is last floor q none ∙ behind) (least q (pair_listed q (asked_lists content search.op search.body) given))

pub advances_some : (content : IndexContent) (search : Searching) (head : Option Pair) (new : Option Pair) (pair : Pair) → search.merge.last ≡ head → search.merge.floor ≡ 0 → new ≡ Some pair
    → IsLeast (asked_lists content search.op search.body) search.merge.last search.merge.floor (Some pair) → HeadAdvances content search head new true
advances_some content search head new pair last floor is least =
    let next = subst (λ (o : Option Pair). IsNext content search o pair) last (next_is content search search.merge.last search.merge.floor pair floor least) in
    (pair, is, next.gives, next.behind, next.first)

pub advances_none : (content : IndexContent) (search : Searching) (head : Option Pair) → search.merge.last ≡ head → search.merge.floor ≡ 0
    → IsLeast (asked_lists content search.op search.body) search.merge.last search.merge.floor None → HeadAdvances content search head head false
advances_none content search head last floor least =
    (refl, λ q given behind. none_next content search search.merge.last search.merge.floor floor least q given (subst (λ (o : Option Pair). Behind o q) (sym last) behind))

-- ---- another state of the same search

gives_again : (content : IndexContent) (old new : Searching) (pair : Pair) → AsksAgain old new → word_gives content new pair ≡ word_gives content old pair
gives_again content old new pair asked =
    ap (λ op. is_asked_pair content op pair new.body) asked.op ∙ ap (λ body. is_asked_pair content old.op pair body) asked.body

-- ---- read on from one pair

-- the head hasn't come to the pair
behind_head : (head : Option Pair) (pair q : Pair) → has_come_to head pair ≡ false → From pair q → Behind head q
behind_head None pair q not_yet from = refl
behind_head (Some head) pair q not_yet from = by (split (is_before head pair))
  where
    by : (is_before head pair ≡ true) ⊎ (is_before head pair ≡ false) → is_before head q ≡ true
    by cases = ⊎_elim
        (λ below. ⊎_elim (λ same. ap (is_before head) same ∙ below) (λ later. chain head pair q below later) (from_cases pair q from))
        (λ no. no_both (not (is_before head pair)) (ap not no) not_yet)
        cases

-- the next head is at the first of the pairs that are still to come
pub follows_on : (v w : View) (content : IndexContent) (pair : Pair) (old new : WordSearch) → has_come_to old.head pair ≡ false → AsksAgain old.search new.search
    → HeadAdvances content old.search old.head new.head true → IsSearching w new.search content → IsFollowing v content (From pair) old → IsFollowing w content (From pair) new
follows_on v w content pair old new not_yet asked advances searching was = record {
  searching = searching;
  given = subst (λ (o : Option Pair). IsGiven content new.search o) (sym advances.1) (gives_again content old.search new.search advances.0 asked ∙ advances.2);
  comes = λ q from given.
      subst (λ (o : Option Pair). IsToCome o q) (sym advances.1)
      (advances.4 q (sym (gives_again content old.search new.search q asked) ∙ given) (behind_head old.head pair q not_yet from));
}

-- at its end it gives none from the pair on
pub follows_end : (v w : View) (content : IndexContent) (pair : Pair) (old new : WordSearch) → has_come_to old.head pair ≡ false → AsksAgain old.search new.search
    → HeadAdvances content old.search old.head new.head false → IsSearching w new.search content → IsFollowing v content (From pair) old
    → IsMetBy content old.search pair NoMore × IsFollowing w content (From pair) new
follows_end v w content pair old new not_yet asked advances searching was =
    let none : (q : Pair) → From pair q → word_gives content old.search q ≡ true → ⊥ = λ q from given. advances.1 q given (behind_head old.head pair q not_yet from) in (
      λ later from. ⊎_elim (λ given. absurd (none later from given)) (λ no. no) (split (word_gives content old.search later)),
      record {
        searching = searching;
        given = subst (λ (o : Option Pair). IsGiven content new.search o) (sym advances.0) (given_again old.head was.given);
        comes = λ q from given. absurd (none q from (sym (gives_again content old.search new.search q asked) ∙ given));
      },
    )
  where
    given_again : (head : Option Pair) → IsGiven content old.search head → IsGiven content new.search head
    given_again None is = tt
    given_again (Some head) is = gives_again content old.search new.search head asked ∙ is

-- once the head has come to the pair, it tells whether the word gives it
pub follows_met : (v : View) (content : IndexContent) (pair : Pair) (word : WordSearch) → has_come_to word.head pair ≡ true → IsFollowing v content (From pair) word
    → IsMetBy content word.search pair (met_at word.head pair)
follows_met v content pair word come is = by word.head come is.given (λ q from given. is.comes q from given)
  where
    by : (head : Option Pair) → has_come_to head pair ≡ true → IsGiven content word.search head → ((q : Pair) → From pair q → word_gives content word.search q ≡ true → IsToCome head q)
        → IsMetBy content word.search pair (met_at head pair)
    by None come given comes = cc
    by (Some head) come given comes = at (same_pair head pair) refl
      where
        at : (b : Bool) → same_pair head pair ≡ b → IsMetBy content word.search pair (if b then All else NotAll)
        at true same = subst (λ (p : Pair). word_gives content word.search p ≡ true) (equal_pairs head pair same) given
        at false other = ⊎_elim (λ gives. absurd (not_given gives)) (λ no. no) (split (word_gives content word.search pair))
          where
            from_cases_back : (head pair : Pair) → is_before pair head ≡ false → (head ≡ pair) ⊎ (is_before head pair ≡ true)
            from_cases_back head pair isnt = ⊎_elim (λ same. inl (sym same)) (λ below. inr below) (from_cases head pair isnt)

            not_given : word_gives content word.search pair ≡ true → ⊥
            not_given gives =
                let not_before : is_before pair head ≡ false = comes pair (before_itself pair) gives in
                ⊎_elim
                (λ same. no_both (same_pair head pair) (ap (λ (p : Pair). same_pair p pair) same ∙ pair_itself pair) other)
                (λ below. no_both (not (is_before head pair)) come (ap not below))
                (from_cases_back head pair not_before)

pub met_again : (content : IndexContent) (old new : Searching) (pair : Pair) (met : Met) → AsksAgain old new → IsMetBy content new pair met → IsMetBy content old pair met
met_again content old new pair All asked is = sym (gives_again content old new pair asked) ∙ is
met_again content old new pair NotAll asked is = sym (gives_again content old new pair asked) ∙ is
met_again content old new pair NoMore asked is = λ later from. sym (gives_again content old new later asked) ∙ is later from

pub asked_same : (search : Searching) → AsksAgain search search
asked_same search = record { index = refl; op = refl; body = refl }

pub asked_then : (a b c : Searching) → AsksAgain a b → AsksAgain b c → AsksAgain a c
asked_then a b c first second = record { index = second.index ∙ first.index; op = second.op ∙ first.op; body = second.body ∙ first.body }
