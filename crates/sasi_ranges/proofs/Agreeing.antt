-- The token to which the streams of an intersection read on.
use Rattle.std.proofs.Common.{◌≡◌, ◌⊎◌, ◌&&◌, ◌||◌, ◌≤◌, ◌<◌, ℕ, zero, suc, max, min, Bool, true, false, cond, nat_eq, nat_lt, List, [], ◌∷◌, length, map, Option, None, Some, refl, sym, ap, subst, ◌∙◌, inl, inr, ⊎_elim, arith}
use Rattle.std.proofs.lemmas.Bool.Decides.{nat_tests, leb_tells}
use Rattle.std.specs.List.{AllByRecursion, list_any}
use Rattle.std.specs.Ordering.{is_lt, ordering_reverse}
use Rattle.sasi_host.specs.Names.{Folder}
use Rattle.sasi_ranges.specs.declared.entry.Entry.{Entry}
use Rattle.sasi_ranges.specs.declared.head.Head.{Head}
use Rattle.sasi_ranges.specs.declared.head.Head.TheVariants.{Unread, At, Ended}
use Rattle.sasi_ranges.specs.declared.head.Headed.{Headed}
use Rattle.sasi_ranges.specs.Entries.{Above, Rises, entry_total, from_token, has_token}
use Rattle.sasi_ranges.specs.inside.Heads.{AllLeave, AreRead, AtHead, IsRead, greater_token, greatest_low, head_at, lesser_token, low_at}
use Rattle.sasi_ranges.specs.inside.Meets.{Fewer, FirstAt, FirstFrom, IsMonotone, SomeFirstAt, bit_at, had, met_by}
use Rattle.sasi_ranges.proofs.Least.{token_above}

and_cut : (a b : Bool) → b ≡ false → (a && b) ≡ false
and_cut true b e = e
and_cut false b e = refl

and_first : (a b : Bool) → a ≡ false → (a && b) ≡ false
and_first a b e = ap (λ x. x && b) e

or_none : (a b : Bool) → a ≡ false → b ≡ false → (a || b) ≡ false
or_none a b first second = ap (λ x. x || b) first ∙ second

or_parts : (a b : Bool) → (a || b) ≡ false → (a ≡ false) × (b ≡ false)
or_parts true b is = cc
or_parts false b is = (refl, is)

or_first : (a b : Bool) → a ≡ true → (a || b) ≡ true
or_first a b is = ap (λ x. x || b) is

or_second : (a b : Bool) → b ≡ true → (a || b) ≡ true
or_second true b is = refl
or_second false b is = is

-- ---- the test

fewer_at : (bs cs : List Bool) (at : ℕ) → Fewer bs cs → bit_at cs at ≡ false → bit_at bs at ≡ false
fewer_at [] [] at few none = refl
fewer_at [] (c ∷ cs) at few none = absurd few
fewer_at (b ∷ bs) [] at few none = absurd few
fewer_at (b ∷ bs) (c ∷ cs) zero few none = few.0 none
fewer_at (b ∷ bs) (c ∷ cs) (suc at) few none = fewer_at bs cs at few.1 none

any_fewer : (bs cs : List Bool) (positions : List ℕ) → Fewer bs cs → list_any (bit_at cs) positions ≡ false → list_any (bit_at bs) positions ≡ false
any_fewer bs cs [] few none = refl
any_fewer bs cs (at ∷ positions) few none =
    let parts = or_parts (bit_at cs at) (list_any (bit_at cs) positions) none in
    or_none (bit_at bs at) (list_any (bit_at bs) positions) (fewer_at bs cs at few parts.0) (any_fewer bs cs positions few parts.1)

pub met_monotone : (relations : List (List ℕ)) → IsMonotone (met_by relations)
met_monotone [] bs cs few none = none
met_monotone (positions ∷ relations) bs cs few none = by (list_any (bit_at cs) positions) refl none (met_monotone relations bs cs few)
  where
    by : (b : Bool) → list_any (bit_at cs) positions ≡ b → (b && met_by relations cs) ≡ false → (met_by relations cs ≡ false → met_by relations bs ≡ false)
        → (list_any (bit_at bs) positions && met_by relations bs) ≡ false
    by true some none later = and_cut (list_any (bit_at bs) positions) (met_by relations bs) (later none)
    by false none_here none later = and_first (list_any (bit_at bs) positions) (met_by relations bs) (any_fewer bs cs positions few none_here)

-- ---- lists that rise

pub above_token : (x y : Entry) → Above x y → x.token ≤ y.token
above_token x y above = token_above y x (ap is_lt (entry_total.antisymm y x ∙ ap ordering_reverse above))

none_in : (token : ℕ) (x : Entry) (xs : List Entry) → AllByRecursion (Above x) xs → token < x.token → has_token token xs ≡ false
none_in token x [] above less = refl
none_in token x (y ∷ xs) above less =
    let at = above_token x y above.0 in
    let other : nat_eq y.token token ≡ false = grind (arith, nat_tests) in
    ap (λ b. b || has_token token xs) other ∙ none_in token x xs above.1 less

pub none_below : (token : ℕ) (x : Entry) (xs : List Entry) → Rises (x ∷ xs) → token < x.token → has_token token (x ∷ xs) ≡ false
none_below token x xs rises less =
    let other : nat_eq x.token token ≡ false = grind (arith, nat_tests) in
    ap (λ b. b || has_token token xs) other ∙ none_in token x xs rises.0 less

pub rises_from : (t : ℕ) (l : List Entry) → Rises l → Rises (from_token t l)
rises_from t [] rises = tt
rises_from t (x ∷ xs) rises = by (nat_lt x.token t) (rises_from t xs rises.1)
  where
    by : (b : Bool) → Rises (from_token t xs) → Rises (cond b (from_token t xs) (x ∷ xs))
    by true later = later
    by false later = rises

pub all_rise_from : (t : ℕ) (ls : List (List Entry)) → AllByRecursion Rises ls → AllByRecursion Rises (map (from_token t) ls)
all_rise_from t [] rise = tt
all_rise_from t (l ∷ ls) rise = (rises_from t l rise.0, all_rise_from t ls rise.1)

pub from_first : (t : ℕ) (l : List Entry) → FirstFrom t (from_token t l)
from_first t [] = tt
from_first t (x ∷ xs) = by (nat_lt x.token t) refl (from_first t xs)
  where
    by : (b : Bool) → nat_lt x.token t ≡ b → FirstFrom t (from_token t xs) → FirstFrom t (cond b (from_token t xs) (x ∷ xs))
    by true below later = later
    by false above later = grind (arith, nat_tests)

pub all_from_first : (t : ℕ) (ls : List (List Entry)) → AllByRecursion (FirstFrom t) (map (from_token t) ls)
all_from_first t [] = tt
all_from_first t (l ∷ ls) = (from_first t l, all_from_first t ls)

pub first_from_zero : (ls : List (List Entry)) → AllByRecursion (FirstFrom 0) ls
first_from_zero [] = tt
first_from_zero ([] ∷ ls) = (tt, first_from_zero ls)
first_from_zero ((x ∷ xs) ∷ ls) = (omega arith, first_from_zero ls)

pub first_weaker : (from t : ℕ) (ls : List (List Entry)) → t ≤ from → AllByRecursion (FirstFrom from) ls → AllByRecursion (FirstFrom t) ls
first_weaker from t [] le all = tt
first_weaker from t ([] ∷ ls) le all = (tt, first_weaker from t ls le all.1)
first_weaker from t ((x ∷ xs) ∷ ls) le all = (omega (arith, le, all.0), first_weaker from t ls le all.1)

first_low : (from t : ℕ) (ls : List (List Entry)) → AllByRecursion (FirstFrom from) ls → SomeFirstAt t ls → from ≤ t
first_low from t [] all some = absurd some
first_low from t ([] ∷ ls) all some = ⊎_elim (λ here. absurd here) (λ later. first_low from t ls all.1 later) some
first_low from t ((x ∷ xs) ∷ ls) all some = ⊎_elim (λ here. omega (arith, here, all.0)) (λ later. first_low from t ls all.1 later) some

-- ---- the heads

some_is : {A : Type 0} (x y : A) → ◌≡◌ {A = Option A} (Some x) (Some y) → x ≡ y
some_is x y e = cc

at_not_none : (low : Option ℕ) (e : Entry) → lesser_token low (At e) ≡ None → ⊥
at_not_none None e is = let no : ◌≡◌ {A = Option ℕ} (Some e.token) None = is in cc
at_not_none (Some so_far) e is = let no : ◌≡◌ {A = Option ℕ} (Some (min so_far e.token)) None = is in cc

-- what is known of the streams' heads and lists
module _ {S : Type 0} (leaves : S → Option Folder → List Entry → Type 0) (files : Option Folder) where
  head_is : (hs : List (Headed S)) (at : ℕ) → AreRead hs → (head_at hs at ≡ Ended) ⊎ ((e : Entry) × (head_at hs at ≡ At e))
  head_is [] at read = inl refl
  head_is (h ∷ hs) zero read = by h.head read.0
    where
      by : (head : Head) → IsRead head → (head ≡ Ended) ⊎ ((e : Entry) × (head ≡ At e))
      by Unread none = absurd none
      by Ended is = inl refl
      by (At e) is = inr (e, refl)
  head_is (h ∷ hs) (suc at) read = head_is hs at read.1

  ended_bit : (token : ℕ) (hs : List (Headed S)) (ls : List (List Entry)) (at : ℕ) → AllLeave leaves files hs ls → head_at hs at ≡ Ended
      → bit_at (had ls token) at ≡ false
  ended_bit token [] [] at all is = refl
  ended_bit token [] (l ∷ ls) at all is = absurd all
  ended_bit token (h ∷ hs) [] at all is = absurd all
  ended_bit token (h ∷ hs) (l ∷ ls) zero all is = (let empty : l ≡ [] = subst (λ (k : Head). AtHead leaves files k h.stream l) is all.0 in ap (has_token token) empty)
  ended_bit token (h ∷ hs) (l ∷ ls) (suc at) all is = ended_bit token hs ls at all.1 is

  below_bit : (token : ℕ) (e : Entry) (hs : List (Headed S)) (ls : List (List Entry)) (at : ℕ) → AllLeave leaves files hs ls → AllByRecursion Rises ls
      → head_at hs at ≡ At e → token < e.token → bit_at (had ls token) at ≡ false
  below_bit token e [] [] at all rise is less = refl
  below_bit token e [] (l ∷ ls) at all rise is less = absurd all
  below_bit token e (h ∷ hs) [] at all rise is less = absurd all
  below_bit token e (h ∷ hs) (l ∷ ls) zero all rise is less =
      let at_head : (rest : List Entry) × (l ≡ e ∷ rest) × leaves h.stream files rest = subst (λ (k : Head). AtHead leaves files k h.stream l) is all.0 in
      ap (has_token token) at_head.1 ∙ none_below token e at_head.0 (subst Rises at_head.1 rise.0) less
  below_bit token e (h ∷ hs) (l ∷ ls) (suc at) all rise is less = below_bit token e hs ls at all.1 rise.1 is less

  own_bit : (e : Entry) (hs : List (Headed S)) (ls : List (List Entry)) (at : ℕ) → AllLeave leaves files hs ls → head_at hs at ≡ At e
      → (bit_at (had ls e.token) at ≡ true) × SomeFirstAt e.token ls
  own_bit e [] [] at all is = (let no : Ended ≡ At e = is in cc)
  own_bit e [] (l ∷ ls) at all is = absurd all
  own_bit e (h ∷ hs) [] at all is = absurd all
  own_bit e (h ∷ hs) (l ∷ ls) zero all is =
      let at_head : (rest : List Entry) × (l ≡ e ∷ rest) × leaves h.stream files rest = subst (λ (k : Head). AtHead leaves files k h.stream l) is all.0 in
      let same : nat_eq e.token e.token ≡ true = grind (arith, nat_tests) in
      (ap (has_token e.token) at_head.1 ∙ or_first (nat_eq e.token e.token) (has_token e.token at_head.0) same, inl (subst (FirstAt e.token) (sym at_head.1) refl))
  own_bit e (h ∷ hs) (l ∷ ls) (suc at) all is = (let later = own_bit e hs ls at all.1 is in (later.0, inr later.1))

  module _ (hs : List (Headed S)) (ls : List (List Entry)) (read : AreRead hs) (all : AllLeave leaves files hs ls) where
    -- ---- the least token of a relation's streams

    low_none : (low : Option ℕ) (positions : List ℕ) → low_at hs low positions ≡ None
        → (low ≡ None) × ((token : ℕ) → list_any (bit_at (had ls token)) positions ≡ false)
    low_none low [] is = (is, λ token. refl)
    low_none low (at ∷ positions) is =
        let later = low_none (lesser_token low (head_at hs at)) positions is in
        ⊎_elim
        (λ ended. (subst (λ (k : Head). lesser_token low k ≡ None) ended later.0, λ token. or_none (bit_at (had ls token) at) (list_any (bit_at (had ls token)) positions) (ended_bit token hs ls at all ended) (later.1 token)))
        (λ found. absurd (at_not_none low found.0 (subst (λ (k : Head). lesser_token low k ≡ None) found.1 later.0)))
        (head_is hs at read)

    -- it is the token so far, or that of a first entry; no first entry has a lesser one
    abbrev pub IsLow : Option ℕ → ℕ → List ℕ → Type 0
    IsLow low m positions =
        ((k : ℕ) → low ≡ Some k → m ≤ k) × ((token : ℕ) → token < m → list_any (bit_at (had ls token)) positions ≡ false)
        × ((low ≡ Some m) ⊎ ((list_any (bit_at (had ls m)) positions ≡ true) × SomeFirstAt m ls))

    low_passed : (low : Option ℕ) (m at : ℕ) (positions : List ℕ) → head_at hs at ≡ Ended → IsLow low m positions → IsLow low m (at ∷ positions)
    low_passed low m at positions ended is = (
      is.0,
      λ token less. or_none (bit_at (had ls token) at) (list_any (bit_at (had ls token)) positions) (ended_bit token hs ls at all ended) (is.1 token less),
      ⊎_elim (λ same. inl same) (λ found. inr (or_second (bit_at (had ls m) at) (list_any (bit_at (had ls m)) positions) found.0, found.1)) is.2,
    )

    low_here : (m at : ℕ) (e : Entry) (positions : List ℕ) → head_at hs at ≡ At e → e.token ≡ m
        → (list_any (bit_at (had ls m)) (at ∷ positions) ≡ true) × SomeFirstAt m ls
    low_here m at e positions is same =
        let own = subst (λ (t : ℕ). (bit_at (had ls t) at ≡ true) × SomeFirstAt t ls) same (own_bit e hs ls at all is) in
        (or_first (bit_at (had ls m) at) (list_any (bit_at (had ls m)) positions) own.0, own.1)

    low_taken : (low : Option ℕ) (m at : ℕ) (e : Entry) (positions : List ℕ) → AllByRecursion Rises ls → head_at hs at ≡ At e
        → IsLow (lesser_token low (At e)) m positions → IsLow low m (at ∷ positions)
    low_taken None m at e positions rise here is =
        let most : m ≤ e.token = is.0 e.token refl in (
          (λ k none. cc),
          (λ token less. or_none (bit_at (had ls token) at) (list_any (bit_at (had ls token)) positions) (below_bit token e hs ls at all rise here (omega (arith, less, most))) (is.1 token less)),
          ⊎_elim
              (λ same. inr (low_here m at e positions here (some_is e.token m same)))
              (λ found. inr (or_second (bit_at (had ls m) at) (list_any (bit_at (had ls m)) positions) found.0, found.1))
              is.2,
        )
    low_taken (Some so_far) m at e positions rise here is =
        let most : m ≤ min so_far e.token = is.0 (min so_far e.token) refl in (
          (λ k same. (let is_k : so_far ≡ k = some_is so_far k same in omega (arith, most, is_k))),
          (λ token less. or_none (bit_at (had ls token) at) (list_any (bit_at (had ls token)) positions) (below_bit token e hs ls at all rise here (omega (arith, less, most))) (is.1 token less)),
          ⊎_elim
              (λ same. (let is_m : min so_far e.token ≡ m = some_is (min so_far e.token) m same in ⊎_elim
              (λ less. (let first : so_far ≡ m = omega (arith, is_m, less.1) in inl (ap (λ (k : ℕ). Some k) first)))
              (λ more. inr (low_here m at e positions here (omega (arith, is_m, more.1))))
              (leb_tells so_far e.token)))
              (λ found. inr (or_second (bit_at (had ls m) at) (list_any (bit_at (had ls m)) positions) found.0, found.1))
              is.2,
        )

    low_some : (low : Option ℕ) (m : ℕ) (positions : List ℕ) → AllByRecursion Rises ls → low_at hs low positions ≡ Some m → IsLow low m positions
    low_some low m [] rise is = (λ k same. (let is_k : m ≡ k = some_is m k (sym is ∙ same) in omega (arith, is_k)), (λ token less. refl), inl is)
    low_some low m (at ∷ positions) rise is =
        let later = low_some (lesser_token low (head_at hs at)) m positions rise is in
        ⊎_elim
        (λ ended. low_passed low m at positions ended (subst (λ (k : Head). IsLow (lesser_token low k) m positions) ended later))
        (λ found. low_taken low m at found.0 positions rise found.1 (subst (λ (k : Head). IsLow (lesser_token low k) m positions) found.1 later))
        (head_is hs at read)

    -- ---- the greatest of them

    -- a relation whose streams are at their ends
    pub none_greatest : (g : ℕ) (relations : List (List ℕ)) → greatest_low hs (Some g) relations ≡ None → (token : ℕ) → met_by relations (had ls token) ≡ false
    none_greatest g [] is token = (let no : ◌≡◌ {A = Option ℕ} (Some g) None = is in cc)
    none_greatest g (positions ∷ relations) is token = by (λ more is_none. none_greatest more relations is_none token) (low_at hs None positions) refl is
      where
        by : ((more : ℕ) → greatest_low hs (Some more) relations ≡ None → met_by relations (had ls token) ≡ false) → (o : Option ℕ)
            → low_at hs None positions ≡ o → greatest_low hs (greater_token g o) relations ≡ None
            → (list_any (bit_at (had ls token)) positions && met_by relations (had ls token)) ≡ false
        by again None low is_none = and_first (list_any (bit_at (had ls token)) positions) (met_by relations (had ls token)) ((low_none None positions low).1 token)
        by again (Some m) low is_none = and_cut (list_any (bit_at (had ls token)) positions) (met_by relations (had ls token)) (again (max g m) is_none)

    -- below the greatest its own relation has nothing
    pub below_greatest : (g t : ℕ) (relations : List (List ℕ)) → AllByRecursion Rises ls → greatest_low hs (Some g) relations ≡ Some t
        → (t ≡ g) ⊎ ((token : ℕ) → nat_lt token t ≡ true → met_by relations (had ls token) ≡ false)
    below_greatest g t [] rise is = inl (sym (some_is g t is))
    below_greatest g t (positions ∷ relations) rise is = by (λ more is_some. below_greatest more t relations rise is_some) (low_at hs None positions) refl is
      where
        by : ((more : ℕ) → greatest_low hs (Some more) relations ≡ Some t → (t ≡ more) ⊎ ((token : ℕ) → nat_lt token t ≡ true → met_by relations (had ls token) ≡ false)) → (o : Option ℕ) → low_at hs None positions ≡ o → greatest_low hs (greater_token g o) relations ≡ Some t
            → (t ≡ g) ⊎ ((token : ℕ) → nat_lt token t ≡ true → (list_any (bit_at (had ls token)) positions && met_by relations (had ls token)) ≡ false)
        by again None low is_some = (let no : ◌≡◌ {A = Option ℕ} None (Some t) = is_some in cc)
        by again (Some m) low is_some = ⊎_elim
            (λ same. ⊎_elim
            (λ less. inl (omega (arith, same, less.1)))
            (λ more. inr (λ token below. (
            let under : token < t = grind (arith, nat_tests) in
            and_first (list_any (bit_at (had ls token)) positions) (met_by relations (had ls token)) ((low_some None m positions rise low).1 token (omega (arith, under, same, more.1)))
            )))
            (leb_tells m g))
            (λ later. inr (λ token below. and_cut (list_any (bit_at (had ls token)) positions) (met_by relations (had ls token)) (later token below)))
            (again (max g m) is_some)

    -- where no first entry is below the greatest, each relation has it
    pub at_greatest : (from g t : ℕ) (relations : List (List ℕ)) → AllByRecursion Rises ls → AllByRecursion (FirstFrom from) ls
        → greatest_low hs (Some g) relations ≡ Some t → t ≤ from → (g ≤ t) × (met_by relations (had ls t) ≡ true) × (0 < length relations → SomeFirstAt t ls)
    at_greatest from g t [] rise firsts is le = (let same : g ≡ t = some_is g t is in (omega (arith, same), refl, λ some. absurd (omega (arith, some))))
    at_greatest from g t (positions ∷ relations) rise firsts is le = by (λ more is_some. at_greatest from more t relations rise firsts is_some le) (low_at hs None positions) refl is
      where
        by : ((more : ℕ) → greatest_low hs (Some more) relations ≡ Some t → (more ≤ t) × (met_by relations (had ls t) ≡ true) × (0 < length relations → SomeFirstAt t ls)) → (o : Option ℕ) → low_at hs None positions ≡ o → greatest_low hs (greater_token g o) relations ≡ Some t
            → (g ≤ t) × ((list_any (bit_at (had ls t)) positions && met_by relations (had ls t)) ≡ true) × (0 < suc (length relations) → SomeFirstAt t ls)
        by again None low is_some = (let no : ◌≡◌ {A = Option ℕ} None (Some t) = is_some in cc)
        by again (Some m) low is_some =
            let later = again (max g m) is_some in
            ⊎_elim
            (λ none. (let no : ◌≡◌ {A = Option ℕ} None (Some m) = none in cc))
            (λ found. (
            let least : from ≤ m = first_low from m ls firsts found.1 in
            let same : m ≡ t = omega (arith, least, later.0, le) in
            let here = subst (λ (k : ℕ). (list_any (bit_at (had ls k)) positions ≡ true) × SomeFirstAt k ls) same found in
            (omega (arith, later.0), ap (λ b. b && met_by relations (had ls t)) here.0 ∙ later.1, λ some. here.1)
            ))
            (low_some None m positions rise low).2
