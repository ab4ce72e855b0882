-- The size of a record, added up.
use Rattle.std.proofs.Common.{◌≡◌, ◌<◌, ◌≤◌, ◌+◌, ◌-◌, ◌^◌, ℕ, min, List, ◌∷◌, length, drop, get_or, sym, ap, ◌∙◌, arith, length-append}
use Rattle.std.proofs.lemmas.List.{drop_all, drop_more}
use Rattle.std.specs.List.{flat_map, sum_by}
use Rattle.std.proofs.lemmas.List.Sums.{sum_by-drop_more}
use Rattle.std.specs.Int.{to_be_bytes, w16}
use Rattle.sasi_host.specs.Names.{Bytes}
use Rattle.sasi_model.specs.State.{Column}
use Rattle.sasi_formats.specs.Formats as formats
use Rattle.sasi_manifest.specs.declared.edit.Edit.{Edit}
use Rattle.sasi_manifest.specs.Edits.{columns, encoded}
use Rattle.sasi_manifest.proofs.EditBytes.{column_bytes, columns_bytes, edit_bytes, encoded_length}

-- the turn of a loop
pub size_step : {A : Type 0} (f : A → Bytes) (xs : List A) (i : ℕ) (x : A) (old new all : ℕ) → i < length xs → x ≡ get_or xs i x → new ≡ min (old + min (length (f x)) (2 ^ 64 - 1)) (2 ^ 64 - 1)
    → min (old + length (flat_map f (drop i xs))) (2 ^ 64 - 1) ≡ all → min (new + length (flat_map f (drop (i + 1) xs))) (2 ^ 64 - 1) ≡ all
size_step {A = A} f xs i x old new all within is added so_far =
    let rest = flat_map f (drop (i + 1) xs) in
    let parts : drop i xs ≡ x ∷ drop (i + 1) xs = drop_more xs i x within ∙ ap (λ (y : A). y ∷ drop (i + 1) xs) (sym is) in
    let size : length (flat_map f (drop i xs)) ≡ length (f x) + length rest = ap (λ (l : List A). length (flat_map f l)) parts ∙ length-append (f x) rest in
    omega (arith, added, size, so_far)

-- its end
size_all : {A : Type 0} (f : A → Bytes) (xs : List A) (i size count : ℕ) → length xs ≤ i → size ≤ 2 ^ 64 - 1 → min (size + length (flat_map f (drop i xs))) (2 ^ 64 - 1) ≡ min count (2 ^ 64 - 1) → size ≡ min count (2 ^ 64 - 1)
size_all {A = A} f xs i size count end fits so_far =
    let none : length (flat_map f (drop i xs)) ≡ 0 = ap (λ (l : List A). length (flat_map f l)) (drop_all i xs end) in
    omega (arith, none, fits, so_far)

pub columns_size : (all : List Column) (i size : ℕ) → length all ≤ i → size ≤ 2 ^ 64 - 1 → min (size + length (flat_map column_bytes (drop i all))) (2 ^ 64 - 1) ≡ min (2 + length (flat_map column_bytes all)) (2 ^ 64 - 1)
    → size ≡ min (length (formats.encoded columns all)) (2 ^ 64 - 1)
columns_size all i size end fits so_far =
    let whole : length (formats.encoded columns all) ≡ 2 + length (flat_map column_bytes all) = ap length (columns_bytes all) ∙ length-append (to_be_bytes w16 (length all)) (flat_map column_bytes all) in
    size_all column_bytes all i size (2 + length (flat_map column_bytes all)) end fits so_far ∙ ap (λ n. min n (2 ^ 64 - 1)) (sym whole)

pub edits_size : (es : List Edit) (i size : ℕ) → length es ≤ i → size ≤ 2 ^ 64 - 1 → min (size + length (flat_map edit_bytes (drop i es))) (2 ^ 64 - 1) ≡ min (4 + length (flat_map edit_bytes es)) (2 ^ 64 - 1)
    → size ≡ min (length (encoded es)) (2 ^ 64 - 1)
edits_size es i size end fits so_far = size_all edit_bytes es i size (4 + length (flat_map edit_bytes es)) end fits so_far ∙ ap (λ n. min n (2 ^ 64 - 1)) (sym (encoded_length es))

-- ---- sums

-- the turn of a loop
pub sum_step : {A : Type 0} (f : A → ℕ) (xs : List A) (i : ℕ) (x : A) (old new all : ℕ) → i < length xs → x ≡ get_or xs i x → new ≡ min (old + min (f x) (2 ^ 64 - 1)) (2 ^ 64 - 1)
    → min (old + sum_by f (drop i xs)) (2 ^ 64 - 1) ≡ all → min (new + sum_by f (drop (i + 1) xs)) (2 ^ 64 - 1) ≡ all
sum_step f xs i x old new all within is added so_far = omega (arith, added, so_far, sum_by-drop_more f xs i x within, ap f is)

-- its end
pub sum_all : {A : Type 0} (f : A → ℕ) (xs : List A) (i size : ℕ) → length xs ≤ i → size ≤ 2 ^ 64 - 1 → min (size + sum_by f (drop i xs)) (2 ^ 64 - 1) ≡ min (sum_by f xs) (2 ^ 64 - 1) → size ≡ min (sum_by f xs) (2 ^ 64 - 1)
sum_all {A = A} f xs i size end fits so_far =
    let none : sum_by f (drop i xs) ≡ 0 = ap (λ (l : List A). sum_by f l) (drop_all i xs end) in
    omega (arith, none, fits, so_far)
