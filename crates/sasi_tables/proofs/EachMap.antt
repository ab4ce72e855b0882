-- What is done to each of several maps, one after another.
use Rattle.std.proofs.Common.{◌≡◌, ℕ, zero, suc, ◌+◌, ◌<◌, ◌≤◌, Bool, true, false, cond, nat_eq, nat_lt, is_some, List, [], ◌∷◌, ◌++◌, length, take, get_or, slice_get, None, Some, Result, Ok, Err, is_ok, refl, sym, ap, subst, ◌∙◌, inl, inr, ⊎_elim, arith}
use Rattle.std.specs.Prelude.{◌⊎◌, ◌↔◌, Contains, IsSome, IsTrue, MatchResult}
use Rattle.std.proofs.lemmas.Bool.Decides.{nat_tests}
use Rattle.std.proofs.lemmas.Cmp.{nat_cmp_total}
use Rattle.std.proofs.lemmas.List.Sorted.{searched}
use Rattle.std.proofs.lemmas.Option.{slice_get-get_or}
use Rattle.std.specs.List.Sorted.{IsBinarySearchResult}
use Rattle.std.specs.Ordering.{nat_cmp}
use Rattle.std.proofs.lemmas.List.Elements.{Contains-append_cases, Contains-append_left, Contains-get_or, Contains-push, Contains-push_cases, at_from_Contains}
use Rattle.std.specs.FinMap.{get, get-remove, remove}
use Rattle.std.specs.List.{AllByRecursion}
use Rattle.sasi_memindex.specs.Book.{Book, IsAdded}
use Rattle.sasi_tables.specs.Held.{AreForgotten, AreForgottenBut, HaveRising, IsAddedToAll, IsForgottenBut, IsOfTable, OthersStay, Rise, numbers_of}
use Rattle.sasi_tables.specs.declared.table_maps.TableMaps.{TableMaps}
use Rattle.sasi_tables.proofs.HeldChanges.{other_key, same_key}
use Rattle.sasi_tables.proofs.HeldMaps.{none_in, one_there, only_in, other_number, rise_last}
use Rattle.sasi_tables.proofs.TablesInMemory.{all_at, index_got, there_inside}
use Rattle.sasi_types.specs.declared.index_def.IndexDef.{IndexDef}
use Rattle.sasi_views.specs.Books.{Book as ViewBook, count_of}
use Rattle.sasi_views.specs.declared.component.Component.TheVariants.{Map}

-- ---- lists

pub take_next : {A : Type 0} (xs : List A) (i : ℕ) (x : A) → slice_get xs i ≡ Some x → take (i + 1) xs ≡ take i xs ++ x ∷ []
take_next [] i x there = cc
take_next (y ∷ xs) zero x there = let same : y ≡ x = cc in ap (λ z. z ∷ []) same
take_next {A} (y ∷ xs) (suc i) x there =
    let next : suc i + 1 ≡ suc (i + 1) = omega arith in
    ap (λ (n : ℕ). take n (y ∷ xs)) next ∙ ap (λ (l : List A). y ∷ l) (take_next xs i x there)

-- the numbers before one are less
take_below : (ns : List ℕ) (i n k : ℕ) → Rise ns → slice_get ns i ≡ Some n → Contains (take i ns) k → k < n
take_below [] i n k rise there has = cc
take_below (x ∷ ns) zero n k rise there has = absurd (none_in k has)
take_below (x ∷ ns) (suc i) n k rise there has =
    ⊎_elim (λ (here : Contains (x ∷ []) k). subst (λ j. j < n) (only_in x k here) (all_at (λ j. x < j) i ns n rise.0 there))
    (λ (later : Contains (take i ns) k). take_below ns i n k rise.1 there later)
    (Contains-append_cases (x ∷ []) (take i ns) k has)

pub take_apart : (ns : List ℕ) (i n : ℕ) → Rise ns → slice_get ns i ≡ Some n → Contains (take i ns) n → ⊥
take_apart ns i n rise there has = omega (arith, take_below ns i n n rise there has)

-- ---- an index in each

pub added_none : (def : IndexDef) (book : Book) → IsAddedToAll def [] book book
added_none def book = record { added = λ number has. absurd (none_in number has); others = λ number has. refl }

pub added_push : (def : IndexDef) (ns : List ℕ) (n : ℕ) (book mid after : Book) → (Contains ns n → ⊥) → IsAddedToAll def ns book mid → IsAdded def.number def.column def.kind def.rule (get mid n) (get after n) → OthersStay n mid after → IsAddedToAll def (ns ++ n ∷ []) book after
added_push def ns n book mid after apart on added others = record {
  added = λ number has.
      ⊎_elim (λ (old : Contains ns number).
      subst (IsAdded def.number def.column def.kind def.rule (get book number)) (sym (others number (other_number number n (λ same. apart (subst (Contains ns) same old))))) (on.added number old))
      (λ (same : n ≡ number).
      subst (λ k. IsAdded def.number def.column def.kind def.rule (get book k) (get after k)) same (subst (λ o. IsAdded def.number def.column def.kind def.rule o (get after n)) (on.others n apart) added))
      (Contains-push_cases ns n number has);
  others = λ number none.
      others number (other_number number n (λ same. none (subst (Contains (ns ++ n ∷ [])) (sym same) (Contains-push ns n)))) ∙ on.others number (λ old. none (Contains-append_left ns (n ∷ []) number old));
}

-- ---- maps that are forgotten

pub forgot_none : (views : ViewBook) (book : Book) → AreForgotten views [] book book
forgot_none views book = record { gone = λ number has none. absurd (none_in number has); listed = λ number some. refl; kept = λ number some. refl; others = λ number has. refl }

removed_here : (book : Book) (n : ℕ) → get (remove book n) n ≡ None
removed_here book n = get-remove nat_cmp_total book n n ∙ ap (λ b. cond b None (get book n)) (same_key n)

removed_others : (book : Book) (n number : ℕ) → nat_eq number n ≡ false → get (remove book n) number ≡ get book number
removed_others book n number differ = get-remove nat_cmp_total book n number ∙ ap (λ b. cond b None (get book number)) (other_key number n differ)

module _ (views : ViewBook) (ns : List ℕ) (n : ℕ) (book mid : Book) (on : AreForgotten views ns book mid) where
  -- no view lists it
  forgot_gone : count_of views (Map n) ≡ 0 → AreForgotten views (ns ++ n ∷ []) book (remove mid n)
  forgot_gone none = record {
    gone = λ number has zero_is.
        ⊎_elim (λ (old : Contains ns number). by number (on.gone number old zero_is) (nat_eq number n) refl) (λ (same : n ≡ number). subst (λ k. get (remove mid n) k ≡ None) same (removed_here mid n)) (Contains-push_cases ns n number has);
    listed = λ number some. removed_others mid n number (other_number number n (λ same. omega (arith, some, ap (λ k. count_of views (Map k)) same, none))) ∙ on.listed number some;
    kept = λ number some.
        let stays = removed_others mid n number (other_number number n (λ same. none_some number same some)) in
        stays ∙ on.kept number (ap is_some (sym stays) ∙ some);
    others = λ number has.
        removed_others mid n number (other_number number n (λ same. has (subst (Contains (ns ++ n ∷ [])) (sym same) (Contains-push ns n)))) ∙ on.others number (λ old. has (Contains-append_left ns (n ∷ []) number old));
  }
    where
      by : (number : ℕ) → get mid number ≡ None → (b : Bool) → nat_eq number n ≡ b → get (remove mid n) number ≡ None
      by number was true is = let same : n ≡ number = grind (arith, nat_tests) in subst (λ k. get (remove mid n) k ≡ None) same (removed_here mid n)
      by number was false is = removed_others mid n number is ∙ was

      none_some : (number : ℕ) → number ≡ n → IsSome (get (remove mid n) number) → ⊥
      none_some number same some =
          let gone : is_some (get (remove mid n) number) ≡ false = ap is_some (ap (get (remove mid n)) same ∙ removed_here mid n) in
          let no : true ≡ false = sym some ∙ gone in
          cc

  -- a view lists it
  forgot_kept : (count_of views (Map n) ≡ 0 → ⊥) → AreForgotten views (ns ++ n ∷ []) book mid
  forgot_kept some = record {
    gone = λ number has zero_is.
        ⊎_elim (λ (old : Contains ns number). on.gone number old zero_is) (λ (same : n ≡ number). absurd (some (ap (λ k. count_of views (Map k)) same ∙ zero_is))) (Contains-push_cases ns n number has);
    listed = on.listed;
    kept = on.kept;
    others = λ number has. on.others number (λ old. has (Contains-append_left ns (n ∷ []) number old));
  }

  pub forgot_push : (after : Book) → (count_of views (Map n) ≡ 0 → after ≡ remove mid n) → ((count_of views (Map n) ≡ 0 → ⊥) → after ≡ mid) → AreForgotten views (ns ++ n ∷ []) book after
  forgot_push after gone kept = by (count_of views (Map n)) refl
    where
      by : (k : ℕ) → count_of views (Map n) ≡ k → AreForgotten views (ns ++ n ∷ []) book after
      by zero none = subst (AreForgotten views (ns ++ n ∷ []) book) (sym (gone none)) (forgot_gone none)
      by (suc k) some = let differ : count_of views (Map n) ≡ 0 → ⊥ = λ none. omega (arith, some, none) in subst (AreForgotten views (ns ++ n ∷ []) book) (sym (kept differ)) (forgot_kept differ)

-- ---- maps that no table has

pub forgot_unless : (tables : List TableMaps) (views : ViewBook) (n : ℕ) (book after : Book) → (IsOfTable tables n → ⊥) → (count_of views (Map n) ≡ 0 → after ≡ remove book n) → ((count_of views (Map n) ≡ 0 → ⊥) → after ≡ book)
    → IsForgottenBut tables views n book after
forgot_unless tables views n book after unused gone kept = by (count_of views (Map n)) refl
  where
    by : (k : ℕ) → count_of views (Map n) ≡ k → IsForgottenBut tables views n book after
    by zero none = inl (gone none, unused, none)
    by (suc k) some = inr (kept (λ none. omega (arith, some, none)), inr (omega (arith, some)))

pub unused_none : (tables : List TableMaps) (views : ViewBook) (book : Book) → AreForgottenBut tables views [] book book
unused_none tables views book = record { gone = λ number has none unused. absurd (none_in number has); listed = λ number some. refl; own = λ number of. refl; others = λ number has. refl }

module _ (tables : List TableMaps) (views : ViewBook) (ns : List ℕ) (n : ℕ) (book mid : Book) (on : AreForgottenBut tables views ns book mid) where
  -- no table has it, and no view lists it
  unused_gone : (IsOfTable tables n → ⊥) → count_of views (Map n) ≡ 0 → AreForgottenBut tables views (ns ++ n ∷ []) book (remove mid n)
  unused_gone unused none = record {
    gone = λ number has zero_is free.
        ⊎_elim (λ (old : Contains ns number). by number (on.gone number old zero_is free) (nat_eq number n) refl) (λ (same : n ≡ number). subst (λ k. get (remove mid n) k ≡ None) same (removed_here mid n)) (Contains-push_cases ns n number has);
    listed = λ number some. removed_others mid n number (other_number number n (λ same. omega (arith, some, ap (λ k. count_of views (Map k)) same, none))) ∙ on.listed number some;
    own = λ number of. removed_others mid n number (other_number number n (λ same. unused (subst (IsOfTable tables) same of))) ∙ on.own number of;
    others = λ number has.
        removed_others mid n number (other_number number n (λ same. has (subst (Contains (ns ++ n ∷ [])) (sym same) (Contains-push ns n)))) ∙ on.others number (λ old. has (Contains-append_left ns (n ∷ []) number old));
  }
    where
      by : (number : ℕ) → get mid number ≡ None → (b : Bool) → nat_eq number n ≡ b → get (remove mid n) number ≡ None
      by number was true is = let same : n ≡ number = grind (arith, nat_tests) in subst (λ k. get (remove mid n) k ≡ None) same (removed_here mid n)
      by number was false is = removed_others mid n number is ∙ was

  -- one has it, or a view lists it
  unused_kept : IsOfTable tables n ⊎ (0 < count_of views (Map n)) → AreForgottenBut tables views (ns ++ n ∷ []) book mid
  unused_kept used = record {
    gone = λ number has zero_is free.
        ⊎_elim (λ (old : Contains ns number). on.gone number old zero_is free)
        (λ (same : n ≡ number).
        absurd (⊎_elim (λ (of : IsOfTable tables n). free (subst (IsOfTable tables) same of)) (λ (some : 0 < count_of views (Map n)). omega (arith, some, ap (λ k. count_of views (Map k)) same, zero_is)) used))
        (Contains-push_cases ns n number has);
    listed = on.listed;
    own = on.own;
    others = λ number has. on.others number (λ old. has (Contains-append_left ns (n ∷ []) number old));
  }

  pub unused_push : (after : Book) → IsForgottenBut tables views n mid after → AreForgottenBut tables views (ns ++ n ∷ []) book after
  unused_push after is =
      ⊎_elim (λ (gone : (after ≡ remove mid n) × (IsOfTable tables n → ⊥) × (count_of views (Map n) ≡ 0)). subst (AreForgottenBut tables views (ns ++ n ∷ []) book) (sym gone.0) (unused_gone gone.1 gone.2))
      (λ (kept : (after ≡ mid) × (IsOfTable tables n ⊎ (0 < count_of views (Map n)))). subst (AreForgottenBut tables views (ns ++ n ∷ []) book) (sym kept.0) (unused_kept kept.1))
      is

-- none of so many tables has the map with this number
abbrev pub HaveNot : List TableMaps → ℕ → ℕ → Type 0
HaveNot tables number count = (at : ℕ) (t : TableMaps) → at < count → slice_get tables at ≡ Some t → Contains (numbers_of t) number → ⊥

module _ (tables : List TableMaps) (number : ℕ) where
  pub have_not_yet : HaveNot tables number 0
  have_not_yet at t before there has = absurd (omega (arith, before))

  module _ (at : ℕ) (t : TableMaps) (inside : at < length tables) (is : t ≡ get_or tables at t) (has : Bool) (decides : IsTrue has ↔ (Contains t.frozen number ⊎ (t.memtable ≡ number))) where
    here : slice_get tables at ≡ Some t
    here = index_got tables at t inside is

    pub have_not_more : HaveNot tables number at → has ≡ false → HaveNot tables number (at + 1)
    have_not_more before none i x below there its = by (nat_eq i at) refl
      where
        by : (b : Bool) → nat_eq i at ≡ b → ⊥
        by true is_at =
            let same : i ≡ at = grind (arith, nat_tests) in
            let x_is : x ≡ t = one_there x t (slice_get tables at) (ap (slice_get tables) (sym same) ∙ there) here in
            let yes_has = decides.1 (Contains-push_cases t.frozen t.memtable number (subst (λ (r : TableMaps). Contains (numbers_of r) number) x_is its)) in
            let never : true ≡ false = sym yes_has ∙ none in
            cc
        by false differ =
            let earlier : i < at = grind (arith, nat_tests) in
            before i x earlier there its

    pub has_here : has ≡ true → IsTrue true ↔ IsOfTable tables number
    has_here yes_has = (
      λ _. (at, t, here, ⊎_elim (λ (old : Contains t.frozen number). Contains-append_left t.frozen (t.memtable ∷ []) number old) (λ (same : t.memtable ≡ number). subst (λ k. Contains (numbers_of t) k) same (Contains-push t.frozen t.memtable)) (decides.0 yes_has)),
      λ _. refl,
    )

  pub has_nowhere : (count : ℕ) → HaveNot tables number count → length tables ≤ count → IsTrue false ↔ IsOfTable tables number
  has_nowhere count none past = ((λ e. cc), (λ of. absurd (none of.0 of.1 (omega (arith, there_inside tables of.0 of.1 of.2, past)) of.2 of.3)))

-- ---- the frozen maps, and then the memtable

all_front : (P : ℕ → Type 0) (ns : List ℕ) (m : ℕ) → AllByRecursion P (ns ++ m ∷ []) → AllByRecursion P ns × P m
all_front P [] m all = (tt, all.0)
all_front P (n ∷ ns) m all = let rest = all_front P ns m all.1 in ((all.0, rest.0), rest.1)

pub rise_front : (ns : List ℕ) (m : ℕ) → Rise (ns ++ m ∷ []) → Rise ns
rise_front [] m rise = tt
rise_front (n ∷ ns) m rise = ((all_front (λ k. n < k) ns m rise.0).0, rise_front ns m rise.1)

pub can_front : (P : ℕ → Type 0) (ns : List ℕ) (m : ℕ) → AllByRecursion P (ns ++ m ∷ []) → AllByRecursion P ns
can_front P ns m all = (all_front P ns m all).0

pub can_last : (P : ℕ → Type 0) (ns : List ℕ) (m : ℕ) → AllByRecursion P (ns ++ m ∷ []) → P m
can_last P ns m all = (all_front P ns m all).1

pub last_apart : (ns : List ℕ) (m : ℕ) → Rise (ns ++ m ∷ []) → Contains ns m → ⊥
last_apart ns m rise has = omega (arith, rise_last ns m m rise has)

-- ---- a number among those that rise

pub frozen_rise : (tables : List TableMaps) → HaveRising tables → (at : ℕ) (t : TableMaps) → at < length tables → t ≡ get_or tables at t → Rise t.frozen
frozen_rise tables rising at t inside is = rise_front t.frozen t.memtable (rising at t (index_got tables at t inside is))

not_falling : (ns : List ℕ) → Rise ns → (i j : ℕ) → i ≤ j → j < length ns → get_or ns i 0 ≤ get_or ns j 0
not_falling [] rise i j le inside = absurd (omega (arith, inside))
not_falling (n ∷ ns) rise zero zero le inside = omega arith
not_falling (n ∷ ns) rise zero (suc j) le inside = let above = all_at (λ k. n < k) j ns (get_or ns j 0) rise.0 (slice_get-get_or ns j 0 (omega (arith, inside))) in omega (arith, above)
not_falling (n ∷ ns) rise (suc i) zero le inside = absurd (omega (arith, le))
not_falling (n ∷ ns) rise (suc i) (suc j) le inside = not_falling ns rise.1 i j (omega (arith, le)) (omega (arith, inside))

before_or_behind : (k i : ℕ) → (k < i) ⊎ (i ≤ k)
before_or_behind k i = by (nat_lt k i) refl
  where
    by : (b : Bool) → nat_lt k i ≡ b → (k < i) ⊎ (i ≤ k)
    by true is = inl (grind (arith, nat_tests))
    by false is = inr (grind (arith, nat_tests))

pub found_number : (ns : List ℕ) (number : ℕ) (r : Result ℕ ℕ) → Rise ns → IsBinarySearchResult (λ y. nat_cmp y number) ns r → (found : Bool) → found ≡ is_ok r → IsTrue found ↔ Contains ns number
found_number ns number r rise position found is = subst (λ b. IsTrue b ↔ Contains ns number) (sym is) (by r (searched ns number r position (not_falling ns rise)))
  where
    by : (r : Result ℕ ℕ) → MatchResult r (λ i. (i < length ns) × (get_or ns i 0 ≡ number)) (λ i. (i ≤ length ns) × ((k : ℕ) → k < i → get_or ns k 0 < number) × ((k : ℕ) → i ≤ k → k < length ns → number < get_or ns k 0))
        → IsTrue (is_ok r) ↔ Contains ns number
    by (Ok i) at = ((λ _. subst (Contains ns) at.1 (Contains-get_or ns i 0 at.0)), (λ _. refl))
    by (Err i) gap = (
      (λ e. cc),
      (λ has.
          let at = at_from_Contains ns number has in
          let value : get_or ns at.0 0 ≡ number = at.2 0 in
          absurd (⊎_elim (λ (before : at.0 < i). omega (arith, gap.1 at.0 before, value)) (λ (behind : i ≤ at.0). omega (arith, gap.2 at.0 behind at.1, value)) (before_or_behind at.0 i))),
    )
