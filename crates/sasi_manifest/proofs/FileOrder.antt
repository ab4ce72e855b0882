-- Files in the order of their numbers: searches, and where a file is put.
use Rattle.std.proofs.Common.{◌≡◌, ℕ, zero, suc, ◌+◌, ◌-◌, ◌<◌, ◌≤◌, Bool, true, false, not, cond, if◌then◌else◌, List, [], ◌∷◌, ◌++◌, length, map, set, get_or, slice_get, Some, refl, sym, ◌∙◌, ap, subst, arith}
use Rattle.std.specs.Prelude.{◌==◌, ◌||◌, nat_eq, nat_le, nat_lt}
use Rattle.std.specs.List.{AllByRecursion, position_or_len}
use Rattle.std.specs.List.Sorted.{IsNonDecreasingBy, IsPartitionPoint}
use Rattle.std.specs.Option.{option_map_or}
use Rattle.std.proofs.lemmas.Bool.Decides.{nat_tests}
use Rattle.sasi_manifest.specs.declared.files.ListedFile.{ListedFile}
use Rattle.sasi_manifest.specs.declared.listed.ListedTable.{ListedTable}
use Rattle.sasi_manifest.specs.ListedDefinition.{ListedDefinition}
use Rattle.sasi_manifest.specs.Edits.{files_of}
use Rattle.sasi_manifest.specs.ListedFiles.{AreInOrder, has_file, is_among, with_file, with_files, without}
use Rattle.sasi_manifest.specs.ListedTables.{listed}

-- ---- what keeps the order

in_order_from : (least less : ℕ) (files : List ListedFile) → less ≤ least → AreInOrder least files → AreInOrder less files
in_order_from least less [] le order = tt
in_order_from least less (f ∷ fs) le order = (omega (arith, le, order.0), order.1)

in_order_with : (least : ℕ) (f : ListedFile) (files : List ListedFile) → least ≤ f.number → AreInOrder least files → AreInOrder least (with_file f files)
in_order_with least f [] above order = (above, tt)
in_order_with least f (g ∷ gs) above order = by (nat_le f.number g.number) refl (λ below. in_order_with g.number f gs below order.1)
  where
    by : (b : Bool) → nat_le f.number g.number ≡ b → (g.number ≤ f.number → AreInOrder g.number (with_file f gs)) → AreInOrder least (if b then f ∷ g ∷ gs else g ∷ with_file f gs)
    by true is rest = (let below : f.number ≤ g.number = grind (arith, nat_tests, is) in (above, (below, order.1)))
    by false is rest = (let below : g.number ≤ f.number = grind (arith, nat_tests, is) in (order.0, rest below))

pub in_order_put : (f : ListedFile) (files : List ListedFile) → AreInOrder 0 files → AreInOrder 0 (with_file f files)
in_order_put f files order = in_order_with 0 f files (omega arith) order

in_order_all : (added files : List ListedFile) → AreInOrder 0 files → AreInOrder 0 (with_files added files)
in_order_all [] files order = order
in_order_all (f ∷ added) files order = in_order_all added (with_file f files) (in_order_put f files order)

in_order_without : (removed : List ℕ) (least : ℕ) (files : List ListedFile) → AreInOrder least files → AreInOrder least (without removed files)
in_order_without removed least [] order = tt
in_order_without removed least (f ∷ fs) order = by (not (is_among removed f.number)) (in_order_without removed f.number fs order.1)
  where
    by : (b : Bool) → AreInOrder f.number (without removed fs) → AreInOrder least (cond b (f ∷ without removed fs) (without removed fs))
    by true rest = (order.0, rest)
    by false rest = in_order_from f.number least (without removed fs) order.0 rest

pub in_order_less : (removed : List ℕ) (files : List ListedFile) → AreInOrder 0 files → AreInOrder 0 (without removed files)
in_order_less removed files order = in_order_without removed 0 files order

pub files_replaced : (removed : List ℕ) (added files : List ListedFile) → AreInOrder 0 files → AreInOrder 0 (with_files added (without removed files))
files_replaced removed added files order = in_order_all added (without removed files) (in_order_less removed files order)

no_numbers : (removed : List ℕ) → (length removed == 0) ≡ true → removed ≡ []
no_numbers [] none = refl
no_numbers (n ∷ removed) none = absurd (omega (arith, is_zero (length (n ∷ removed)) none))
  where
    is_zero : (count : ℕ) → (count == 0) ≡ true → count ≡ 0
    is_zero count is = grind (arith, nat_tests)

-- where no number is removed, all files stay
pub all_stay : (removed : List ℕ) (files : List ListedFile) → (length removed == 0) ≡ true → without removed files ≡ files
all_stay removed files none = ap (λ (l : List ℕ). without l files) (no_numbers removed none) ∙ stay files
  where
    stay : (files : List ListedFile) → without [] files ≡ files
    stay [] = refl
    stay (f ∷ fs) = ap (λ (l : List ListedFile). f ∷ l) (stay fs)

-- ---- by position

at_least : (least : ℕ) (files : List ListedFile) (i : ℕ) (d : ListedFile) → AreInOrder least files → i < length files → least ≤ (get_or files i d).number
at_least least [] i d order within = absurd (omega (arith, within))
at_least least (f ∷ fs) zero d order within = order.0
at_least least (f ∷ fs) (suc i) d order within = omega (arith, order.0, at_least f.number fs i d order.1 (omega (arith, within)))

pub numbers_rise : (least : ℕ) (files : List ListedFile) → AreInOrder least files → IsNonDecreasingBy (λ f. f.number) files
numbers_rise least [] order i j d le within = absurd (omega (arith, within))
numbers_rise least (f ∷ fs) order zero zero d le within = omega arith
numbers_rise least (f ∷ fs) order zero (suc j) d le within = at_least f.number fs j d order.1 (omega (arith, within))
numbers_rise least (f ∷ fs) order (suc i) zero d le within = absurd (omega (arith, le))
numbers_rise least (f ∷ fs) order (suc i) (suc j) d le within = numbers_rise f.number fs order.1 i j d (omega (arith, le)) (omega (arith, within))

-- where the lower numbers end is the first position of a number that isn't lower
pub place_is : (n : ℕ) (files : List ListedFile) (i : ℕ) → i ≤ length files → IsPartitionPoint (λ f. nat_lt f.number n ≡ true) (λ f. nat_lt f.number n ≡ false) files i
    → i ≡ position_or_len (λ f. nat_le n f.number) files
place_is n [] i within parts = omega (arith, within)
place_is n (f ∷ fs) zero within parts =
    let lower : nat_lt f.number n ≡ false = parts.1 0 f (omega arith) (omega arith) in
    let test : nat_le n f.number ≡ true = grind (arith, nat_tests, lower) in
    sym (ap (λ b. cond (not b) (1 + position_or_len (λ (g : ListedFile). nat_le n g.number) fs) 0) test)
place_is n (f ∷ fs) (suc i) within parts =
    let lower : nat_lt f.number n ≡ true = parts.0 0 f (omega arith) (omega arith) in
    let test : nat_le n f.number ≡ false = grind (arith, nat_tests, lower) in
    let rest = place_is n fs i (omega (arith, within)) (λ k d from to. parts.0 (suc k) d (omega arith) (omega (arith, to)), λ k d from to. parts.1 (suc k) d (omega (arith, from)) (omega (arith, to))) in
    omega (arith, rest) ∙ sym (ap (λ b. cond (not b) (1 + position_or_len (λ (g : ListedFile). nat_le n g.number) fs) 0) test)

-- ---- a number that is looked for

none_above : (n least : ℕ) (files : List ListedFile) → n < least → AreInOrder least files → has_file files n ≡ false
none_above n least [] less order = refl
none_above n least (f ∷ fs) less order =
    let other : nat_eq n f.number ≡ false = grind (arith, nat_tests, less, order.0) in
    ap (λ b. b || has_file fs n) other ∙ none_above n f.number fs (omega (arith, less, order.0)) order.1

-- where it would be put
pub has_there : (n least : ℕ) (files : List ListedFile) → AreInOrder least files → option_map_or (λ (f : ListedFile). nat_eq f.number n) (slice_get files (position_or_len (λ f. nat_le n f.number) files)) false ≡ has_file files n
has_there n least [] order = refl
has_there n least (f ∷ fs) order = by (nat_le n f.number) refl (nat_eq n f.number) refl (has_there n f.number fs order.1)
  where
    by : (le : Bool) → nat_le n f.number ≡ le → (eq : Bool) → nat_eq n f.number ≡ eq
        → option_map_or (λ (f : ListedFile). nat_eq f.number n) (slice_get fs (position_or_len (λ f. nat_le n f.number) fs)) false ≡ has_file fs n
        → option_map_or (λ (f : ListedFile). nat_eq f.number n) (slice_get (f ∷ fs) (cond (not le) (1 + position_or_len (λ f. nat_le n f.number) fs) 0)) false ≡ (eq || has_file fs n)
    by true le true eq rest = grind (arith, nat_tests, eq)
    by true le false eq rest =
        let less : n < f.number = grind (arith, nat_tests, le, eq) in
        let other : nat_eq f.number n ≡ false = grind (arith, nat_tests, eq) in
        other ∙ sym (none_above n f.number fs less order.1)
    by false le true eq rest = absurd (grind (arith, nat_tests, le, eq))
    by false le false eq rest =
        let next : 1 + position_or_len (λ (g : ListedFile). nat_le n g.number) fs ≡ suc (position_or_len (λ (g : ListedFile). nat_le n g.number) fs) = omega arith in
        ap (λ i. option_map_or (λ (f : ListedFile). nat_eq f.number n) (slice_get (f ∷ fs) i) false) next ∙ rest

-- ---- tables whose files are in order

abbrev pub AllInOrder : List ListedTable → Type 0
AllInOrder tables = AllByRecursion (λ (t : ListedTable). AreInOrder 0 t.files) tables

pub order_at : (tables : List ListedTable) (i : ℕ) (t : ListedTable) → AllInOrder tables → i < length tables → t ≡ get_or tables i t → AreInOrder 0 t.files
order_at [] i t all within is = absurd (omega (arith, within))
order_at (x ∷ tables) zero t all within is = subst (λ (u : ListedTable). AreInOrder 0 u.files) (sym is) all.0
order_at (x ∷ tables) (suc i) t all within is = order_at tables i t all.1 (omega (arith, within)) is

pub order_got : (tables : List ListedTable) (i : ℕ) (t : ListedTable) → AllInOrder tables → slice_get tables i ≡ Some t → AreInOrder 0 t.files
order_got [] i t all is = cc
order_got (x ∷ tables) zero t all is = (let same : x ≡ t = cc in subst (λ (u : ListedTable). AreInOrder 0 u.files) same all.0)
order_got (x ∷ tables) (suc i) t all is = order_got tables i t all.1 is

pub order_of : (tables : List ListedTable) (table : ℕ) → AllInOrder tables → AreInOrder 0 (files_of (map listed tables) table)
order_of tables table all = at tables (table - 1) all
  where
    at : (tables : List ListedTable) (i : ℕ) → AllInOrder tables → AreInOrder 0 (option_map_or (λ (t : ListedDefinition). t.files) (slice_get (map listed tables) i) [])
    at [] i all = tt
    at (x ∷ tables) zero all = all.0
    at (x ∷ tables) (suc i) all = at tables i all.1

pub order_push : (tables : List ListedTable) (t : ListedTable) → AllInOrder tables → AreInOrder 0 t.files → AllInOrder (tables ++ t ∷ [])
order_push [] t all order = (order, tt)
order_push (x ∷ tables) t all order = (all.0, order_push tables t all.1 order)

pub order_set : (tables : List ListedTable) (i : ℕ) (t : ListedTable) → AllInOrder tables → AreInOrder 0 t.files → AllInOrder (set tables i t)
order_set [] i t all order = tt
order_set (x ∷ tables) zero t all order = (order, all.1)
order_set (x ∷ tables) (suc i) t all order = (all.0, order_set tables i t all.1 order)

pub order_listed : (tables copies : List ListedTable) → map listed copies ≡ map listed tables → AllInOrder tables → AllInOrder copies
order_listed tables copies same all = from copies (subst (λ (l : List ListedDefinition). AllByRecursion (λ (t : ListedDefinition). AreInOrder 0 t.files) l) (sym same) (to tables all))
  where
    to : (tables : List ListedTable) → AllInOrder tables → AllByRecursion (λ (t : ListedDefinition). AreInOrder 0 t.files) (map listed tables)
    to [] all = tt
    to (x ∷ tables) all = (all.0, to tables all.1)

    from : (tables : List ListedTable) → AllByRecursion (λ (t : ListedDefinition). AreInOrder 0 t.files) (map listed tables) → AllInOrder tables
    from [] all = tt
    from (x ∷ tables) all = (all.0, from tables all.1)
