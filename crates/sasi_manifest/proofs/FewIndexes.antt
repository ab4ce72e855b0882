-- A table has fewer indexes than there are numbers of columns, so the parts of a file are few.
use Rattle.std.specs.Prelude.{◌≡◌, ◌≤◌, ◌<◌, ◌+◌, ◌-◌, ◌^◌, ℕ, zero, suc, Bool, true, false, not, ◌||◌, cond, if◌then◌else◌, nat_eq, List, [], ◌∷◌, length, slice_get, Option, None, Some, refl}
use Rattle.std.proofs.Common.{subst, arith}
use Rattle.std.specs.List.{AllByRecursion, count_by, filter}
use Rattle.std.specs.Option.{option_map_or}
use Rattle.std.proofs.lemmas.Bool.Decides.{nat_tests}
use Rattle.std.proofs.lemmas.List.Filters.{length-filter_both}
use Rattle.std.proofs.lemmas.List.Sums.{length-filter, sum_by-cons}
use Rattle.sasi_model.specs.State.{Index}
use Rattle.sasi_manifest.specs.declared.files.PartNumber.{PartNumber}
use Rattle.sasi_manifest.specs.declared.listing.Listing.{Listing}
use Rattle.sasi_manifest.specs.Consistent.{HasIndexes, IsConsistent}
use Rattle.sasi_manifest.specs.Edits.{numbers_at}
use Rattle.sasi_manifest.specs.ListedDefinition.{ListedDefinition}
use Rattle.sasi_manifest.specs.ListedFiles.{FitParts, IndexesRise, IsPart, is_among}
use Rattle.sasi_manifest.proofs.Replacing.{same_number}

-- ---- items of which no two have one key

count_filter : {A : Type 0} (p q : A → Bool) (xs : List A) → count_by p (filter q xs) ≤ count_by p xs
count_filter p q [] = omega arith
count_filter p q (x ∷ xs) =
    let rest = count_filter p q xs in
    elim (q x) as (λ b. count_by p (if b then x ∷ filter q xs else filter q xs) ≤ count_by p (x ∷ xs)) [
      | true ↦ omega (arith, rest, sum_by-cons (λ y. cond (p y) 1 0) x (filter q xs), sum_by-cons (λ y. cond (p y) 1 0) x xs)
      | false ↦ omega (arith, rest, sum_by-cons (λ y. cond (p y) 1 0) x xs)
    ]

-- those without the last key have the other keys
lower_keys : {A : Type 0} (f : A → ℕ) (low n : ℕ) (xs : List A) → AllByRecursion (λ x. (low ≤ f x) × (f x < low + suc n)) xs
    → AllByRecursion (λ x. (low ≤ f x) × (f x < low + n)) (filter (λ x. not (nat_eq (f x) (low + n))) xs)
lower_keys f low n [] all = tt
lower_keys f low n (x ∷ xs) all = by (nat_eq (f x) (low + n)) refl (lower_keys f low n xs all.1)
  where
    by : (b : Bool) → nat_eq (f x) (low + n) ≡ b → AllByRecursion (λ x. (low ≤ f x) × (f x < low + n)) (filter (λ x. not (nat_eq (f x) (low + n))) xs)
        → AllByRecursion (λ x. (low ≤ f x) × (f x < low + n)) (if not b then x ∷ filter (λ x. not (nat_eq (f x) (low + n))) xs else filter (λ x. not (nat_eq (f x) (low + n))) xs)
    by true here rest = rest
    by false other rest =
        let below : f x < low + suc n = all.0.1 in
        let lower : f x < low + n = grind (arith, nat_tests, below, other) in
        ((all.0.0, lower), rest)

-- with keys from a number on, of so many, they are at most so many
few_keys : {A : Type 0} (f : A → ℕ) (low n : ℕ) (xs : List A) → AllByRecursion (λ x. (low ≤ f x) × (f x < low + n)) xs → ((k : ℕ) → count_by (λ x. nat_eq (f x) k) xs ≤ 1) → length xs ≤ n
few_keys f low zero [] all once = omega arith
few_keys f low zero (x ∷ xs) all once = absurd (omega (arith, all.0.0, all.0.1))
few_keys {A = A} f low (suc n) xs all once =
    let last : A → Bool = λ x. nat_eq (f x) (low + n) in
    let others = filter (λ x. not (last x)) xs in
    let rest : length others ≤ n = few_keys f low n others (lower_keys f low n xs all) (λ k. omega (arith, once k, count_filter (λ x. nat_eq (f x) k) (λ x. not (last x)) xs)) in
    omega (arith, rest, once (low + n), length-filter last xs, length-filter_both last (λ x. not (last x)) (λ x. refl) xs)

-- ---- indexes

-- a table has fewer indexes than 2^16
pub numbers_few : (t : ListedDefinition) → HasIndexes t → length t.numbers < 2 ^ 16
numbers_few t has = omega (arith, has.counted, few_keys (λ (i : Index). i.column) 1 (2 ^ 16 - 1) t.definition.indexes has.regular has.columns)

number_fits : (numbers : List ℕ) (n : ℕ) → AllByRecursion (λ m. (1 ≤ m) × (m < 2 ^ 32)) numbers → is_among numbers n ≡ true → n < 2 ^ 32
number_fits [] n all is = cc
number_fits (m ∷ numbers) n all is =
    elim (nat_eq n m) as (λ b. nat_eq n m ≡ b → (b || is_among numbers n) ≡ true → n < 2 ^ 32) [
      | true ↦ λ same _. (let equal : n ≡ m = same_number n m same in omega (arith, equal, all.0.1))
      | false ↦ λ other rest. number_fits numbers n all.1 rest
    ] refl is

all_got : {A : Type 0} (P : A → Type 0) (xs : List A) (i : ℕ) (x : A) → AllByRecursion P xs → slice_get xs i ≡ Some x → P x
all_got P [] i x all is = cc
all_got P (y ∷ xs) zero x all is = (let same : y ≡ x = cc in subst P same all.0)
all_got P (y ∷ xs) (suc i) x all is = all_got P xs i x all.1 is

-- ---- parts

-- each is one of an index of these numbers, and has a number from 1 on
abbrev pub AreNumbered : List ℕ → List PartNumber → Type 0
AreNumbered numbers ps = AllByRecursion (λ (p : PartNumber). (is_among numbers p.index ≡ true) × (1 ≤ p.part) × (p.part < 2 ^ 32)) ps

are_parts : (numbers : List ℕ) (ps : List PartNumber) → AllByRecursion (λ n. (1 ≤ n) × (n < 2 ^ 32)) numbers → AreNumbered numbers ps → AllByRecursion (IsPart numbers) ps
are_parts numbers [] fit all = tt
are_parts numbers (p ∷ ps) fit all = (record { listed = all.0.0; index_fits = number_fits numbers p.index fit all.0.0; some = all.0.1; part_fits = all.0.2 }, are_parts numbers ps fit all.1)

-- **Parts of a table's indexes fit a new file of it**: of each index at most one, in their order, and each with a number.
pub fit_parts : (listing : Listing) (table : ℕ) (ps : List PartNumber) → IsConsistent listing → AreNumbered (numbers_at listing.tables table) ps → length ps ≤ length (numbers_at listing.tables table) → IndexesRise ps
    → FitParts (numbers_at listing.tables table) ps
fit_parts listing table ps known all few rise = by (slice_get listing.tables (table - 1)) refl all few
  where
    by : (o : Option ListedDefinition) → slice_get listing.tables (table - 1) ≡ o → AreNumbered (option_map_or (λ (t : ListedDefinition). t.numbers) o []) ps
        → length ps ≤ length (option_map_or (λ (t : ListedDefinition). t.numbers) o []) → FitParts (option_map_or (λ (t : ListedDefinition). t.numbers) o []) ps
    by None is all few = record { few = omega (arith, few); each = are_parts [] ps tt all; rise = rise }
    by (Some t) is all few =
        let has = all_got HasIndexes listing.tables (table - 1) t known.indexes is in
        record { few = omega (arith, few, numbers_few t has); each = are_parts t.numbers ps has.numbered all; rise = rise }
