-- Byte strings that stand one after another, by their sizes.
use Rattle.std.proofs.Common.{◌≡◌, ℕ, ◌+◌, ◌-◌, ◌≤◌, suc, List, [], ◌∷◌, ◌++◌, length, take, drop, refl, sym, ap, ◌∙◌, arith}
use Rattle.std.proofs.lemmas.List.{take-append-le, drop-append-le, length-drop}
use Rattle.std.proofs.Math.Seq.{take-length}
use Rattle.sasi_types.specs.Strings.{cut, total}

-- one more at the end
pub cut_more : (sizes bytes string : List ℕ) → total sizes ≡ length bytes → cut (sizes ++ length string ∷ []) (bytes ++ string) ≡ cut sizes bytes ++ string ∷ []
cut_more [] [] string whole = rw take-length refl
cut_more [] (byte ∷ bytes) string whole = absurd (omega arith)
cut_more (size ∷ sizes) bytes string whole =
    let within : size ≤ length bytes = omega arith in
    let less : total sizes ≡ length bytes - size = omega arith in
    let left : total sizes ≡ length (drop size bytes) = less ∙ sym (length-drop size bytes) in
    rw (take-append-le size bytes string within, drop-append-le size bytes string within)
    (ap (λ strings. take size bytes ∷ strings) (cut_more sizes (drop size bytes) string left))

-- the bytes of one more at the end
pub total_more : (sizes : List ℕ) (size : ℕ) → total (sizes ++ size ∷ []) ≡ total sizes + size
total_more [] size = omega arith
total_more (first ∷ sizes) size = let rest = total_more sizes size in omega arith

-- as many as sizes
pub cut_length : (sizes bytes : List ℕ) → length (cut sizes bytes) ≡ length sizes
cut_length [] bytes = refl
cut_length (size ∷ sizes) bytes = ap suc (cut_length sizes (drop size bytes))
