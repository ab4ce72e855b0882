-- A binary search for the number of a data file, where the numbers rise.
use Rattle.std.proofs.Common.{◌≡◌, ℕ, zero, suc, ◌<◌, ◌≤◌, ◌||◌, ◌⊎◌, inl, inr, ⊎_elim, Bool, true, false, List, [], ◌∷◌, length, get_or, Result, Ok, Err, refl, sym, ap, ◌∙◌, arith}
use Rattle.std.specs.Prelude.{is_ok, nat_eq}
use Rattle.std.specs.declared.cmp.Ordering.TheVariants.{Less, Equal, Greater}
use Rattle.std.specs.List.Sorted.{IsBinarySearchResult, IsNonDecreasingBy, IsSearchInRange}
use Rattle.std.specs.Ordering.{nat_cmp, ordering_index}
use Rattle.std.proofs.lemmas.Bool.Decides.{nat_tests}
use Rattle.std.proofs.lemmas.Cmp.{ranked}
use Rattle.std.proofs.lemmas.List.Sorted.{IsNonDecreasingBy-from_default}
use Rattle.sasi_layout.specs.NumbersInOrder.{Rising}
use Rattle.sasi_manifest.specs.ListedFiles.{has_file}
use Rattle.sasi_manifest.specs.declared.files.ListedFile.{ListedFile}

some_file : ListedFile
some_file = record { number = 0; parts = [] }

above : (low high : ℕ) (fs : List ListedFile) (i : ℕ) (d : ListedFile) → Rising low high fs → i < length fs → low < (get_or fs i d).number
above low high [] i d rise within = absurd (omega (arith, within))
above low high (f ∷ fs) zero d rise within = rise.0
above low high (f ∷ fs) (suc i) d rise within = omega (arith, rise.0, above f.number high fs i d rise.1 (omega (arith, within)))

rises : (low high : ℕ) (fs : List ListedFile) (i j : ℕ) (d : ListedFile) → Rising low high fs → i ≤ j → j < length fs → (get_or fs i d).number ≤ (get_or fs j d).number
rises low high [] i j d rise le within = absurd (omega (arith, within))
rises low high (f ∷ fs) zero zero d rise le within = omega arith
rises low high (f ∷ fs) (suc i) zero d rise le within = absurd (omega (arith, le))
rises low high (f ∷ fs) zero (suc j) d rise le within = omega (arith, above f.number high fs j d rise.1 (omega (arith, within)))
rises low high (f ∷ fs) (suc i) (suc j) d rise le within = rises f.number high fs i j d rise.1 (omega (arith, le)) (omega (arith, within))

comparisons_rise : (low high : ℕ) (fs : List ListedFile) (n : ℕ) → Rising low high fs → IsNonDecreasingBy (λ (f : ListedFile). ordering_index (nat_cmp f.number n)) fs
comparisons_rise low high fs n rise = IsNonDecreasingBy-from_default (λ (f : ListedFile). ordering_index (nat_cmp f.number n)) fs some_file (λ i j le within.
    let numbers : (get_or fs i some_file).number ≤ (get_or fs j some_file).number = rises low high fs i j some_file rise le within in
    grind (arith, nat_tests, numbers))

there : (fs : List ListedFile) (n i : ℕ) (d : ListedFile) → i < length fs → (get_or fs i d).number ≡ n → has_file fs n ≡ true
there [] n i d within is = absurd (omega (arith, within))
there (f ∷ fs) n zero d within is =
    let own : nat_eq n f.number ≡ true = grind (arith, nat_tests, is) in
    ap (λ b. b || has_file fs n) own
there (f ∷ fs) n (suc i) d within is = behind (nat_eq n f.number) (has_file fs n) (there fs n i d (omega (arith, within)) is)
  where
    behind : (x y : Bool) → y ≡ true → (x || y) ≡ true
    behind true y is = refl
    behind false y is = is

nowhere : (fs : List ListedFile) (n : ℕ) → ((i : ℕ) (d : ListedFile) → i < length fs → nat_eq n (get_or fs i d).number ≡ false) → has_file fs n ≡ false
nowhere [] n none = refl
nowhere (f ∷ fs) n none = ap (λ b. b || has_file fs n) (none 0 f (omega arith)) ∙ nowhere fs n (λ i d within. none (suc i) d (omega (arith, within)))

-- **What the search tells is whether a file has the number.**
pub search_tells : (low high : ℕ) (fs : List ListedFile) (n : ℕ) (r : Result ℕ ℕ) → Rising low high fs → IsSearchInRange r (length fs) → IsBinarySearchResult (λ (f : ListedFile). nat_cmp f.number n) fs r
    → is_ok r ≡ has_file fs n
search_tells low high fs n (Ok at) rise within equal = sym (there fs n at some_file within (ranked _ n Equal (sym (equal some_file))))
search_tells low high fs n (Err at) rise within parted = sym (nowhere fs n (λ i d inside. by i d inside (either i at)))
  where
    either : (k i : ℕ) → (k < i) ⊎ (i ≤ k)
    either k zero = inr (omega arith)
    either zero (suc i) = inl (omega arith)
    either (suc k) (suc i) = ⊎_elim (λ l. inl (omega (arith, l))) (λ l. inr (omega (arith, l))) (either k i)

    by : (i : ℕ) (d : ListedFile) → i < length fs → (i < at) ⊎ (at ≤ i) → nat_eq n (get_or fs i d).number ≡ false
    by i d inside (inl before) =
        let parts = parted (comparisons_rise low high fs n rise) in
        let less : (get_or fs i d).number < n = ranked _ n Less (sym (parts.0 i d (omega arith) before)) in
        grind (arith, nat_tests, less)
    by i d inside (inr after) =
        let parts = parted (comparisons_rise low high fs n rise) in
        let more : n < (get_or fs i d).number = ranked _ n Greater (sym (parts.1 i d after inside)) in
        grind (arith, nat_tests, more)
