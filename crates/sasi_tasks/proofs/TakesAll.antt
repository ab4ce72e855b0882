-- belongs in sasi_layout (in StillRunning, whose begins_running then stands on takes_all)
-- What a compaction takes in, where more numbers are used, and one of all files of a table.
use Rattle.std.specs.Prelude.{◌≡◌, ◌≤◌, ◌<◌, ◌||◌, ℕ, suc, true, false, nat_eq, List, [], ◌∷◌, ◌++◌, map, refl}
use Rattle.std.proofs.Common.{sym, ap, subst, ◌∙◌, arith, append_assoc}
use Rattle.std.proofs.lemmas.Bool.Decides.{nat_tests}
use Rattle.std.proofs.lemmas.List.{append-nil, map-append}
use Rattle.std.specs.List.{AllByRecursion}
use Rattle.sasi_manifest.specs.declared.files.ListedFile.{ListedFile}
use Rattle.sasi_manifest.specs.ListedFiles.{is_among}
use Rattle.sasi_layout.specs.Compacting.{Compaction, TakesFirst}
use Rattle.sasi_layout.specs.NumbersInOrder.{Rising}
use Rattle.sasi_layout.proofs.ListingLaws.{rising_bound}
use Rattle.sasi_layout.proofs.MovesInOrder.{rising_higher}

-- where more numbers are used
pub takes_higher : (a b : ℕ) (c : Compaction) (fs : List ListedFile) → a ≤ b → TakesFirst a c fs → TakesFirst b c fs
takes_higher a b c fs le is = record { older = is.older; later = is.later; parts = is.parts; named = is.named; below = is.below; some = is.some; rise = rising_higher c.output a b is.later le is.rise }

-- one of all files of a table, under the next number, takes in the first ones
pub takes_all : (used table : ℕ) (fs : List ListedFile) (indexes : List ℕ) → Rising 0 used fs → TakesFirst (suc used) (record { table = table; output = suc used; sources = map (λ (f : ListedFile). f.number) fs; indexes = indexes }) fs
takes_all used table fs indexes rise = record {
  older = fs;
  later = [];
  parts = sym (append-nil fs);
  named = all_named fs;
  below = all_below 0 used fs rise;
  some = omega arith;
  rise = omega arith;
}
  where
    number_of : ListedFile → ℕ
    number_of f = f.number

    among_more : (n : ℕ) (ks more : List ℕ) → is_among ks n ≡ true → is_among (ks ++ more) n ≡ true
    among_more n [] more is = cc
    among_more n (k ∷ ks) more is =
        elim (nat_eq n k) as (λ b. (b || is_among ks n) ≡ true → (b || is_among (ks ++ more) n) ≡ true) [ true ↦ λ _. refl | false ↦ λ rest. among_more n ks more rest ] is

    named_from : (before fs : List ListedFile) → AllByRecursion (λ (f : ListedFile). is_among (map number_of (before ++ fs)) f.number ≡ true) fs
    named_from before [] = tt
    named_from before (f ∷ fs) = (
      ap (λ (ks : List ℕ). is_among ks f.number) (map-append number_of before (f ∷ fs)) ∙ here (map number_of before),
      subst (λ (all : List ListedFile). AllByRecursion (λ (g : ListedFile). is_among (map number_of all) g.number ≡ true) fs) (append_assoc before (f ∷ []) fs) (named_from (before ++ f ∷ []) fs),
    )
      where
        here : (ks : List ℕ) → is_among (ks ++ f.number ∷ map number_of fs) f.number ≡ true
        here [] = (let same : nat_eq f.number f.number ≡ true = grind (arith, nat_tests) in ap (λ b. b || is_among (map number_of fs) f.number) same)
        here (k ∷ ks) = (let rest = here ks in elim (nat_eq f.number k) as (λ b. (b || is_among (ks ++ f.number ∷ map number_of fs) f.number) ≡ true) [ true ↦ refl | false ↦ rest ])

    all_named : (fs : List ListedFile) → AllByRecursion (λ (f : ListedFile). is_among (map number_of fs) f.number ≡ true) fs
    all_named fs = named_from [] fs

    all_below : (low high : ℕ) (fs : List ListedFile) → Rising low high fs → AllByRecursion (λ n. n < suc high) (map number_of fs)
    all_below low high [] rise = tt
    all_below low high (f ∷ fs) rise = (omega (arith, rising_bound f.number high fs rise.1), all_below f.number high fs rise.1)
