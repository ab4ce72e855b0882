-- Where a file is put by its number.
use Rattle.std.specs.Prelude.{◌≡◌, ◌+◌, suc, true, false, cond, not, nat_le, List, [], ◌∷◌, if◌then◌else◌, refl}
use Rattle.std.proofs.Common.{IsOk, is_ok, Ok, Err, Result, ap, ◌∙◌, arith}
use Rattle.std.specs.List.{insert, position_or_len}
use Rattle.sasi_manifest.specs.declared.files.ListedFile.{ListedFile}
use Rattle.sasi_manifest.specs.ListedFiles.{with_file}

-- it is before the first whose number isn't lower
pub with_file_is : (f : ListedFile) (files : List ListedFile) → insert files (position_or_len (λ g. nat_le f.number g.number) files) f ≡ with_file f files
with_file_is f [] = refl
with_file_is f (g ∷ gs) =
    elim (nat_le f.number g.number) as (λ b. insert (g ∷ gs) (cond (not b) (1 + position_or_len (λ g. nat_le f.number g.number) gs) 0) f ≡ (if b then f ∷ g ∷ gs else g ∷ with_file f gs)) [
      | true ↦ refl
      | false ↦
          let next : 1 + position_or_len (λ g. nat_le f.number g.number) gs ≡ suc (position_or_len (λ g. nat_le f.number g.number) gs) = omega arith in
          ap (λ n. insert (g ∷ gs) n f) next ∙ ap (λ l. g ∷ l) (with_file_is f gs)
    ]

-- what an insert that succeeds leaves
pub inserted : {A B E : Type 0} (r : Result B E) (old new all : List A) → IsOk r → all ≡ (if is_ok r then new else old) → all ≡ new
inserted (Ok b) old new all ok is = is
inserted (Err e) old new all ok is = cc
