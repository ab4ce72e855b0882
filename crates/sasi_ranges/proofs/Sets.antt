-- The union of rising lists rises, and has exactly their entries.
use Rattle.std.proofs.Common.{◌≡◌, ◌⊎◌, Bool, true, false, cond, List, [], ◌∷◌, map, refl, sym, subst, ◌∙◌, inl, inr, ⊎_elim}
use Rattle.std.specs.List.{AllByRecursion}
use Rattle.std.specs.declared.cmp.Ordering.{Ordering}
use Rattle.std.specs.declared.cmp.Ordering.TheVariants.{Less, Equal, Greater}
use Rattle.std.specs.Ordering.{is_eq, is_lt, ordering_reverse}
use Rattle.sasi_ranges.specs.declared.entry.Entry.{Entry}
use Rattle.sasi_ranges.specs.Entries.{Above, Rises, entry_cmp, entry_total}
use Rattle.sasi_ranges.specs.inside.Unions.{BeginsWith, NotBelow, SomeBegins, Unites, drop_if}
use Rattle.sasi_ranges.proofs.Least.{same_entry}

abbrev pub Has : Entry → List Entry → Type 0
Has e [] = ⊥
Has e (x ∷ xs) = (x ≡ e) ⊎ Has e xs

abbrev pub SomeHas : Entry → List (List Entry) → Type 0
SomeHas e [] = ⊥
SomeHas e (l ∷ ls) = Has e l ⊎ SomeHas e ls

-- ---- one list

pub tie_is : (r : Ordering) → is_eq r ≡ true → r ≡ Equal
tie_is Less e = cc
tie_is Equal e = refl
tie_is Greater e = cc

pub none_has : (e : Entry) (ls : List (List Entry)) → AllByRecursion (λ l. l ≡ []) ls → SomeHas e ls → ⊥
none_has e [] empty has = has
none_has e (l ∷ ls) empty has = ⊎_elim (λ here. subst (Has e) empty.0 here) (λ later. none_has e ls empty.1 later) has

dropped_or : (least e : Entry) (l : List Entry) → Has e l → (least ≡ e) ⊎ Has e (drop_if least l)
dropped_or least e [] has = absurd has
dropped_or least e (x ∷ xs) has = by (is_eq (entry_cmp x least)) refl
  where
    by : (b : Bool) → is_eq (entry_cmp x least) ≡ b → (least ≡ e) ⊎ Has e (cond b xs (x ∷ xs))
    by true tie = ⊎_elim (λ here. inl (sym (same_entry x least (tie_is _ tie)) ∙ here)) (λ later. inr later) has
    by false other = inr has

back : (least e : Entry) (l : List Entry) → Has e (drop_if least l) → Has e l
back least e [] has = has
back least e (x ∷ xs) has = by (is_eq (entry_cmp x least)) has
  where
    by : (b : Bool) → Has e (cond b xs (x ∷ xs)) → (x ≡ e) ⊎ Has e xs
    by true has = inr has
    by false has = has

pub some_dropped : (least e : Entry) (ls : List (List Entry)) → SomeHas e ls → (least ≡ e) ⊎ SomeHas e (map (drop_if least) ls)
some_dropped least e [] has = absurd has
some_dropped least e (l ∷ ls) has = ⊎_elim
    (λ here. ⊎_elim (λ is. inl is) (λ in_it. inr (inl in_it)) (dropped_or least e l here))
    (λ later. ⊎_elim (λ is. inl is) (λ in_it. inr (inr in_it)) (some_dropped least e ls later))
    has

pub some_back : (least e : Entry) (ls : List (List Entry)) → SomeHas e (map (drop_if least) ls) → SomeHas e ls
some_back least e [] has = has
some_back least e (l ∷ ls) has = ⊎_elim (λ here. inl (back least e l here)) (λ later. inr (some_back least e ls later)) has

begins_has : (e : Entry) (l : List Entry) → BeginsWith e l → Has e l
begins_has e [] is = is
begins_has e (x ∷ xs) is = inl is

some_begins_has : (e : Entry) (ls : List (List Entry)) → SomeBegins e ls → SomeHas e ls
some_begins_has e [] is = is
some_begins_has e (l ∷ ls) is = ⊎_elim (λ here. inl (begins_has e l here)) (λ later. inr (some_begins_has e ls later)) is

-- ---- **the entries are those of the lists**

pub unites_has : (ls : List (List Entry)) (es : List Entry) (e : Entry) → Unites ls es → SomeHas e ls → Has e es
unites_has ls [] e is has = none_has e ls is has
unites_has ls (least ∷ es) e is has = ⊎_elim (λ same. inl same) (λ later. inr (unites_has (map (drop_if least) ls) es e is.1 later)) (some_dropped least e ls has)

pub unites_from : (ls : List (List Entry)) (es : List Entry) (e : Entry) → Unites ls es → Has e es → SomeHas e ls
unites_from ls [] e is has = absurd has
unites_from ls (least ∷ es) e is has = ⊎_elim
    (λ same. subst (λ (x : Entry). SomeHas x ls) same (some_begins_has least ls is.0.some))
    (λ later. some_back least e ls (unites_from (map (drop_if least) ls) es e is.1 later))
    has

-- ---- the order

not_equal_above : (r : Ordering) → is_lt r ≡ false → is_eq r ≡ false → ordering_reverse r ≡ Less
not_equal_above Less a b = cc
not_equal_above Equal a b = cc
not_equal_above Greater a b = refl

pub above_first : (least x : Entry) → is_lt (entry_cmp x least) ≡ false → is_eq (entry_cmp x least) ≡ false → Above least x
above_first least x below other = entry_total.antisymm least x ∙ not_equal_above (entry_cmp x least) below other

pub all_above : (a b : Entry) (xs : List Entry) → Above a b → AllByRecursion (Above b) xs → AllByRecursion (Above a) xs
all_above a b [] first all = tt
all_above a b (x ∷ xs) first all = (entry_total.trans a b x first all.0, all_above a b xs first all.1)

pub dropped_above : (least : Entry) (l : List Entry) → NotBelow least l → Rises l → AllByRecursion (Above least) (drop_if least l) × Rises (drop_if least l)
dropped_above least [] below rises = (tt, tt)
dropped_above least (x ∷ xs) below rises = by (is_eq (entry_cmp x least)) refl
  where
    by : (b : Bool) → is_eq (entry_cmp x least) ≡ b → AllByRecursion (Above least) (cond b xs (x ∷ xs)) × Rises (cond b xs (x ∷ xs))
    by true tie = (subst (λ (y : Entry). AllByRecursion (Above y) xs) (same_entry x least (tie_is _ tie)) rises.0, rises.1)
    by false other = let first = above_first least x below other in ((first, all_above least x xs first rises.0), rises)

pub of_all : (a e : Entry) (l : List Entry) → AllByRecursion (Above a) l → Has e l → Above a e
of_all a e [] all has = absurd has
of_all a e (x ∷ xs) all has = ⊎_elim (λ here. subst (Above a) here all.0) (λ later. of_all a e xs all.1 later) has

pub some_above : (least e : Entry) (ls : List (List Entry)) → AllByRecursion (NotBelow least) ls → AllByRecursion Rises ls
    → SomeHas e (map (drop_if least) ls) → Above least e
some_above least e [] below rise has = absurd has
some_above least e (l ∷ ls) below rise has = ⊎_elim
    (λ here. of_all least e (drop_if least l) (dropped_above least l below.0 rise.0).0 here)
    (λ later. some_above least e ls below.1 rise.1 later)
    has

pub still_rise : (least : Entry) (ls : List (List Entry)) → AllByRecursion (NotBelow least) ls → AllByRecursion Rises ls
    → AllByRecursion Rises (map (drop_if least) ls)
still_rise least [] below rise = tt
still_rise least (l ∷ ls) below rise = ((dropped_above least l below.0 rise.0).1, still_rise least ls below.1 rise.1)

pub each : (P : Entry → Type 0) (es : List Entry) → ((e : Entry) → Has e es → P e) → AllByRecursion P es
each P [] all = tt
each P (e ∷ es) all = (all e (inl refl), each P es (λ x has. all x (inr has)))

-- **and they rise**
pub unites_rises : (ls : List (List Entry)) (es : List Entry) → AllByRecursion Rises ls → Unites ls es → Rises es
unites_rises ls [] rise is = tt
unites_rises ls (least ∷ es) rise is = (
  each (Above least) es (λ e has. some_above least e ls is.0.none_below rise (unites_from (map (drop_if least) ls) es e is.1 has)),
  unites_rises (map (drop_if least) ls) es (still_rise least ls is.0.none_below rise) is.1,
)
