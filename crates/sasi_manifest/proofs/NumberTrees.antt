-- Trees of numbers: one more number, and the numbers of files.
use Rattle.std.proofs.Common.{◌≡◌, ℕ, Bool, true, false, cond, List, [], ◌∷◌, ◌++◌, map, refl, sym, ◌∙◌, ap, arith}
use Rattle.std.specs.Prelude.{◌||◌, nat_eq}
use Rattle.std.specs.BTreeMap.{is_at}
use Rattle.std.specs.BTreeSet.{BTreeSet, contains, Updates}
use Rattle.std.specs.Ordering.{nat_cmp}
use Rattle.std.proofs.lemmas.Bool.Decides.{nat_tests}
use Rattle.std.proofs.lemmas.List.{map-append}
use Rattle.std.proofs.lemmas.List.Folds.{list_any-append}
use Rattle.sasi_manifest.specs.declared.files.ListedFile.{ListedFile}
use Rattle.sasi_manifest.specs.ListedFiles.{has_file, is_among}
use Rattle.sasi_manifest.specs.NumberSets.{IsTreeOf}

same_test : (k n : ℕ) → is_at (nat_cmp k) n ≡ nat_eq n k
same_test k n = grind (arith, nat_tests)

pub tree_more : (numbers more : List ℕ) (k : ℕ) (s t : BTreeSet ℕ) → IsTreeOf numbers s → Updates nat_cmp s t k true → more ≡ numbers ++ k ∷ [] → IsTreeOf more t
tree_more numbers more k s t tree updates is n =
    updates.0 n ∙ ap (λ b. cond b true (contains nat_cmp s n)) (same_test k n) ∙ ap (λ b. cond (nat_eq n k) true b) (tree n) ∙ either (is_among numbers n) (nat_eq n k)
    ∙ sym (list_any-append (nat_eq n) numbers (k ∷ [])) ∙ ap (λ (l : List ℕ). is_among l n) (sym is)
  where
    either : (a b : Bool) → cond b true a ≡ (a || (b || false))
    either true true = refl
    either false true = refl
    either true false = refl
    either false false = refl

-- the numbers of files
pub has_numbers : (n : ℕ) (files : List ListedFile) → is_among (map (λ f. f.number) files) n ≡ has_file files n
has_numbers n [] = refl
has_numbers n (f ∷ files) = ap (λ b. nat_eq n f.number || b) (has_numbers n files)

pub numbers_more : (numbers more : List ℕ) (files all : List ListedFile) (f : ListedFile) → numbers ≡ map (λ f. f.number) files → more ≡ numbers ++ f.number ∷ [] → all ≡ files ++ f ∷ [] → more ≡ map (λ f. f.number) all
numbers_more numbers more files all f was pushed is =
    pushed ∙ ap (λ (l : List ℕ). l ++ f.number ∷ []) was ∙ sym (map-append (λ (f : ListedFile). f.number) files (f ∷ [])) ∙ ap (λ (l : List ListedFile). map (λ f. f.number) l) (sym is)
