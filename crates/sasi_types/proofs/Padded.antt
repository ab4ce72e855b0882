-- A list that is cut or padded to a length.
use Rattle.std.proofs.Common.{◌≡◌, ℕ, ◌-◌, ◌+◌, ◌≤◌, Bool, true, false, min, nat_le, List, ◌++◌, length, take, drop, replicate, refl, sym, ◌∙◌, ap, arith}
use Rattle.std.proofs.lemmas.List.{take-append-le, take-replicate, drop-replicate, append-nil}
use Rattle.std.proofs.Math.Seq.{take-append-add, take-length}

-- it is no longer than that
short : (key : List ℕ) (k m : ℕ) → length key + m ≡ k → take (length key) key ++ drop (length key) (replicate k 0) ≡ take k (key ++ replicate k 0)
short key k m all =
    let left : k - length key ≡ m = omega arith in
    let few : m ≤ k = omega arith in
    let back : take k (key ++ replicate k 0) ≡ key ++ replicate m 0 = ap (λ n. take n (key ++ replicate k 0)) (sym all) ∙ take-append-add key
    (replicate k 0) m ∙ ap (λ r. key ++ r) (take-replicate m k 0 few) in
    rw (take-length, drop-replicate, left) (sym back)

-- it is longer
long : (key : List ℕ) (k : ℕ) → k ≤ length key → take k key ++ drop k (replicate k 0) ≡ take k (key ++ replicate k 0)
long key k more =
    let none : k - k ≡ 0 = omega arith in
    rw (drop-replicate, none, append-nil) (sym (take-append-le k key (replicate k 0) more))

either : (key : List ℕ) (k n : ℕ) (fits : Bool) → nat_le (length key) k ≡ fits → n ≡ min (length key) k
    → take n key ++ drop n (replicate k 0) ≡ take k (key ++ replicate k 0)
either key k n true fits is =
    let n_is : n ≡ length key = grind arith in
    rw n_is (short key k (k - length key) (grind arith))
either key k n false fits is =
    let n_is : n ≡ k = grind arith in
    rw n_is (long key k (grind arith))

-- a front of the list, and as many zeros as are left
pub padded : (key : List ℕ) (k n : ℕ) → n ≡ min (length key) k → take n key ++ drop n (replicate k 0) ≡ take k (key ++ replicate k 0)
padded key k n is = either key k n _ refl is
