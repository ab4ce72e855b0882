-- For callers: the terms of numbers are in the order of the numbers, and a term's number is the one that it was made of.
use Rattle.std.proofs.Common.{◌≡◌, ℕ, zero, suc, ◌+◌, ◌-◌, ◌*◌, ◌^◌, ◌<◌, ◌≤◌, Bool, true, false, nat_lt, ltb, int_lt, List, [], ◌∷◌, length, ℤ, pos, negsuc, ◌+ℤ◌, FitsSigned, bit_xor, refl, sym, ap, ◌∙◌, ◌⊎◌, inl, inr, arith, rules, lit<, pow_pos, to_z-of_z, le-ltb}
use Rattle.std.specs.Int.{Width, w32, w64, from_be_bytes, to_be_bytes, cast_signed, cast_unsigned}
use Rattle.std.specs.Ordering.{MatchOrdering, is_lt, nat_cmp, ordering_then}
use Rattle.std.specs.declared.cmp.Ordering.{Ordering}
use Rattle.std.specs.declared.cmp.Ordering.TheVariants.{Less, Equal, Greater}
use Rattle.std.specs.Cmp.Lexicographic.{slice_cmp}
use Rattle.std.specs.Slice.Scan.{big_endian}
use Rattle.std.proofs.lemmas.Bool.{cases_lt}
use Rattle.std.proofs.lemmas.Cmp.{ranked}
use Rattle.std.proofs.lemmas.Int.{ints}
use Rattle.std.proofs.lemmas.Nat.{from_be_bytes-to_be_bytes_4, from_be_bytes-to_be_bytes_8, xor_block, xor_comm, xor_lt}
use mir.Val.{bits, hbits, sel}
use Rattle.sasi_types.specs.Token.{AreBytes}
use Rattle.sasi_types.proofs.Tokens.{number_fits}
use Rattle.sasi_terms.specs.Numbers.{bigint_of, bigint_term, int_of, int_term}

-- ---- bytes as big-endian numbers

-- bytes behind a lower number make a lower one than as many behind a higher one
rises : (a b : ℕ) (us vs : List ℕ) → length us ≡ length vs → AreBytes us → a < b → big_endian a us < big_endian b vs
rises a b [] [] same are lt = lt
rises a b [] (v ∷ vs) same are lt = absurd (omega (arith, same))
rises a b (u ∷ us) [] same are lt = absurd (omega (arith, same))
rises a b (u ∷ us) (v ∷ vs) same are lt = rises (a * 256 + u) (b * 256 + v) us vs (omega (arith, same)) (λ i. are (suc i)) (omega (arith, lt, are 0))

front_decides : (u v : ℕ) (us vs : List ℕ) (o : Ordering) → nat_cmp u v ≡ o → is_lt (slice_cmp nat_cmp (u ∷ us) (v ∷ vs)) ≡ is_lt (ordering_then o (slice_cmp nat_cmp us vs))
front_decides u v us vs o is = ap (λ (p : Ordering). is_lt (ordering_then p (slice_cmp nat_cmp us vs))) is

is_below : (m n : ℕ) → m < n → nat_lt m n ≡ true
is_below m n lt = search (rules, lt)

not_below : (m n : ℕ) → n ≤ m → nat_lt m n ≡ false
not_below m n le = search (rules, le)

-- bytes of one length are in the order of their numbers
ordered : (a : ℕ) (us vs : List ℕ) → length us ≡ length vs → AreBytes us → AreBytes vs → is_lt (slice_cmp nat_cmp us vs) ≡ nat_lt (big_endian a us) (big_endian a vs)
ordered a [] [] same one two = sym (not_below a a (omega arith))
ordered a [] (v ∷ vs) same one two = absurd (omega (arith, same))
ordered a (u ∷ us) [] same one two = absurd (omega (arith, same))
ordered a (u ∷ us) (v ∷ vs) same one two = by (nat_cmp u v) refl (ranked u v (nat_cmp u v) refl) (ordered (a * 256 + u) us vs (omega (arith, same)) (λ i. one (suc i)) (λ i. two (suc i)))
  where
    by : (o : Ordering) → nat_cmp u v ≡ o → MatchOrdering o (u < v) (u ≡ v) (v < u) → is_lt (slice_cmp nat_cmp us vs) ≡ nat_lt (big_endian (a * 256 + u) us) (big_endian (a * 256 + u) vs)
        → is_lt (slice_cmp nat_cmp (u ∷ us) (v ∷ vs)) ≡ nat_lt (big_endian (a * 256 + u) us) (big_endian (a * 256 + v) vs)
    by Less is lt rest =
        let first : u < v = lt in
        let far = rises (a * 256 + u) (a * 256 + v) us vs (omega (arith, same)) (λ i. one (suc i)) (omega (arith, first)) in
        front_decides u v us vs Less is ∙ sym (is_below (big_endian (a * 256 + u) us) (big_endian (a * 256 + v) vs) far)
    by Equal is e rest =
        let first : u ≡ v = e in
        front_decides u v us vs Equal is ∙ rest ∙ ap (λ (n : ℕ). nat_lt (big_endian (a * 256 + u) us) (big_endian (a * 256 + n) vs)) first
    by Greater is gt rest =
        let first : v < u = gt in
        let far = rises (a * 256 + v) (a * 256 + u) vs us (omega (arith, same)) (λ i. two (suc i)) (omega (arith, first)) in
        front_decides u v us vs Greater is ∙ sym (not_below (big_endian (a * 256 + u) us) (big_endian (a * 256 + v) vs) (omega (arith, far)))

four : (term : List ℕ) → length term ≡ 4 → from_be_bytes w32 term ≡ big_endian 0 term
four [] size = absurd (omega (arith, size))
four (a ∷ []) size = absurd (omega (arith, size))
four (a ∷ b ∷ []) size = absurd (omega (arith, size))
four (a ∷ b ∷ c ∷ []) size = absurd (omega (arith, size))
four (a ∷ b ∷ c ∷ d ∷ []) size = omega arith
four (a ∷ b ∷ c ∷ d ∷ e ∷ rest) size = absurd (omega (arith, size))

eight : (term : List ℕ) → length term ≡ 8 → from_be_bytes w64 term ≡ big_endian 0 term
eight [] size = absurd (omega (arith, size))
eight (a ∷ []) size = absurd (omega (arith, size))
eight (a ∷ b ∷ []) size = absurd (omega (arith, size))
eight (a ∷ b ∷ c ∷ []) size = absurd (omega (arith, size))
eight (a ∷ b ∷ c ∷ d ∷ []) size = absurd (omega (arith, size))
eight (a ∷ b ∷ c ∷ d ∷ e ∷ []) size = absurd (omega (arith, size))
eight (a ∷ b ∷ c ∷ d ∷ e ∷ f ∷ []) size = absurd (omega (arith, size))
eight (a ∷ b ∷ c ∷ d ∷ e ∷ f ∷ g ∷ []) size = absurd (omega (arith, size))
eight (a ∷ b ∷ c ∷ d ∷ e ∷ f ∷ g ∷ h ∷ []) size = omega arith
eight (a ∷ b ∷ c ∷ d ∷ e ∷ f ∷ g ∷ h ∷ i ∷ rest) size = absurd (omega (arith, size))

-- ---- the top bit

-- flipping the bit adds 2^k, or takes it away
flip_low : (k n : ℕ) → n < 2 ^ k → bit_xor n (2 ^ k) ≡ n + 2 ^ k
flip_low k n lt =
    let first : n ≡ 0 * 2 ^ k + n = omega arith in
    let second : 2 ^ k ≡ 1 * 2 ^ k + 0 = omega arith in
    let last : 1 * 2 ^ k + bit_xor n 0 ≡ n + 2 ^ k = omega (arith, xor_comm n 0) in
    ap (λ (m : ℕ). bit_xor m (2 ^ k)) first ∙ ap (λ (m : ℕ). bit_xor (0 * 2 ^ k + n) m) second ∙ xor_block k 0 1 n 0 lt (pow_pos k) ∙ last

flip_high : (k n : ℕ) → n < 2 ^ k → bit_xor (n + 2 ^ k) (2 ^ k) ≡ n
flip_high k n lt =
    let first : n + 2 ^ k ≡ 1 * 2 ^ k + n = omega arith in
    let second : 2 ^ k ≡ 1 * 2 ^ k + 0 = omega arith in
    let last : 0 * 2 ^ k + bit_xor n 0 ≡ n = omega (arith, xor_comm n 0) in
    ap (λ (m : ℕ). bit_xor m (2 ^ k)) first ∙ ap (λ (m : ℕ). bit_xor (1 * 2 ^ k + n) m) second ∙ xor_block k 1 1 n 0 lt (pow_pos k) ∙ last

flip_twice : (k n : ℕ) → n < 2 ^ k + 2 ^ k → bit_xor (bit_xor n (2 ^ k)) (2 ^ k) ≡ n
flip_twice k n lt = by (cases_lt n (2 ^ k))
  where
    by : (n < 2 ^ k) ⊎ (2 ^ k ≤ n) → bit_xor (bit_xor n (2 ^ k)) (2 ^ k) ≡ n
    by (inl low) = ap (λ (m : ℕ). bit_xor m (2 ^ k)) (flip_low k n low) ∙ flip_high k n low
    by (inr high) =
        let is : n ≡ n - 2 ^ k + 2 ^ k = omega (arith, high) in
        let small : n - 2 ^ k < 2 ^ k = omega (arith, high, lt) in
        ap (λ (m : ℕ). bit_xor (bit_xor m (2 ^ k)) (2 ^ k)) is ∙ ap (λ (m : ℕ). bit_xor m (2 ^ k)) (flip_high k (n - 2 ^ k) small) ∙ flip_low k (n - 2 ^ k) small ∙ sym is

-- ---- numbers

-- the signed number of n with its top bit flipped is n less 2^31, or 2^63
flipped : (w : Width) → 2 ^ bits w ≡ 2 ^ hbits w + 2 ^ hbits w → (n : ℕ) → n < 2 ^ bits w → cast_signed w (bit_xor n (2 ^ hbits w)) +ℤ pos (2 ^ hbits w) ≡ pos n
flipped w double n fits = by (cases_lt n (2 ^ hbits w))
  where
    by : (n < 2 ^ hbits w) ⊎ (2 ^ hbits w ≤ n) → cast_signed w (bit_xor n (2 ^ hbits w)) +ℤ pos (2 ^ hbits w) ≡ pos n
    by (inl low) =
        let large : ltb (n + 2 ^ hbits w) (2 ^ hbits w) ≡ false = le-ltb (n + 2 ^ hbits w) (2 ^ hbits w) (omega arith) in
        let read : cast_signed w (n + 2 ^ hbits w) ≡ negsuc (2 ^ bits w - suc (n + 2 ^ hbits w)) = ap (λ (t : Bool). sel t (pos (n + 2 ^ hbits w)) (negsuc (2 ^ bits w - suc (n + 2 ^ hbits w)))) large in
        let is : negsuc (2 ^ bits w - suc (n + 2 ^ hbits w)) +ℤ pos (2 ^ hbits w) ≡ pos n = omega (arith, ints, double, low) in
        ap (λ (m : ℕ). cast_signed w m +ℤ pos (2 ^ hbits w)) (flip_low (hbits w) n low) ∙ ap (λ (z : ℤ). z +ℤ pos (2 ^ hbits w)) read ∙ is
    by (inr high) =
        let whole : n ≡ n - 2 ^ hbits w + 2 ^ hbits w = omega (arith, high) in
        let small : n - 2 ^ hbits w < 2 ^ hbits w = omega (arith, high, double, fits) in
        let is : cast_signed w (n - 2 ^ hbits w) +ℤ pos (2 ^ hbits w) ≡ pos n = omega (arith, ints, high, small) in
        ap (λ (m : ℕ). cast_signed w (bit_xor m (2 ^ hbits w)) +ℤ pos (2 ^ hbits w)) whole ∙ ap (λ (m : ℕ). cast_signed w m +ℤ pos (2 ^ hbits w)) (flip_high (hbits w) (n - 2 ^ hbits w) small) ∙ is

-- two numbers are in the order of those that are larger by h
apart : (h m n : ℕ) (x y : ℤ) → x +ℤ pos h ≡ pos m → y +ℤ pos h ≡ pos n → nat_lt m n ≡ int_lt x y
apart h m n x y one two = by (int_lt x y) refl
  where
    by : (t : Bool) → int_lt x y ≡ t → nat_lt m n ≡ t
    by true is = is_below m n (omega (arith, ints, one, two, is))
    by false is = not_below m n (omega (arith, ints, one, two, is))

fits_4 : (term : List ℕ) → length term ≡ 4 → AreBytes term → from_be_bytes w32 term < 2 ^ 32
fits_4 term size are = omega (arith, are 0, are 1, are 2, are 3)

-- the order of terms is that of their ints
pub int_order : (first second : List ℕ) → length first ≡ 4 → length second ≡ 4 → AreBytes first → AreBytes second → is_lt (slice_cmp nat_cmp first second) ≡ int_lt (int_of first) (int_of second)
int_order first second one two are then_are =
    ordered 0 first second (one ∙ sym two) are then_are ∙ ap (λ (n : ℕ). nat_lt n (big_endian 0 second)) (sym (four first one)) ∙ ap (λ (n : ℕ). nat_lt (from_be_bytes w32 first) n) (sym (four second two))
    ∙ apart (2 ^ 31) (from_be_bytes w32 first) (from_be_bytes w32 second) (int_of first) (int_of second) (flipped w32 refl (from_be_bytes w32 first) (fits_4 first one are))
    (flipped w32 refl (from_be_bytes w32 second) (fits_4 second two then_are))

-- and that of their bigints
pub bigint_order : (first second : List ℕ) → length first ≡ 8 → length second ≡ 8 → AreBytes first → AreBytes second → is_lt (slice_cmp nat_cmp first second) ≡ int_lt (bigint_of first) (bigint_of second)
bigint_order first second one two are then_are =
    ordered 0 first second (one ∙ sym two) are then_are ∙ ap (λ (n : ℕ). nat_lt n (big_endian 0 second)) (sym (eight first one)) ∙ ap (λ (n : ℕ). nat_lt (from_be_bytes w64 first) n) (sym (eight second two))
    ∙ apart (2 ^ 63) (from_be_bytes w64 first) (from_be_bytes w64 second) (bigint_of first) (bigint_of second) (flipped w64 refl (from_be_bytes w64 first) (number_fits first one are))
    (flipped w64 refl (from_be_bytes w64 second) (number_fits second two then_are))

-- ---- the term of a number

none : AreBytes []
none zero = lit< tt
none (suc i) = lit< tt

pub int_bytes : (number : ℤ) → AreBytes (int_term number)
int_bytes number zero = omega arith
int_bytes number (suc zero) = omega arith
int_bytes number (suc (suc zero)) = omega arith
int_bytes number (suc (suc (suc zero))) = omega arith
int_bytes number (suc (suc (suc (suc i)))) = none i

pub bigint_bytes : (number : ℤ) → AreBytes (bigint_term number)
bigint_bytes number zero = omega arith
bigint_bytes number (suc zero) = omega arith
bigint_bytes number (suc (suc zero)) = omega arith
bigint_bytes number (suc (suc (suc zero))) = omega arith
bigint_bytes number (suc (suc (suc (suc zero)))) = omega arith
bigint_bytes number (suc (suc (suc (suc (suc zero))))) = omega arith
bigint_bytes number (suc (suc (suc (suc (suc (suc zero)))))) = omega arith
bigint_bytes number (suc (suc (suc (suc (suc (suc (suc zero))))))) = omega arith
bigint_bytes number (suc (suc (suc (suc (suc (suc (suc (suc i)))))))) = none i

-- a term's number is the one that it was made of
pub int_back : (number : ℤ) → FitsSigned w32 number → int_of (int_term number) ≡ number
int_back number fits =
    let own : cast_unsigned w32 number < 2 ^ 32 = omega (arith, ints, fits) in
    ap (λ (n : ℕ). cast_signed w32 (bit_xor n (2 ^ 31))) (from_be_bytes-to_be_bytes_4 (bit_xor (cast_unsigned w32 number) (2 ^ 31)) (xor_lt 32 (cast_unsigned w32 number) (2 ^ 31) own (lit< tt)))
    ∙ ap (λ (n : ℕ). cast_signed w32 n) (flip_twice 31 (cast_unsigned w32 number) own) ∙ to_z-of_z {w = w32} fits

pub bigint_back : (number : ℤ) → FitsSigned w64 number → bigint_of (bigint_term number) ≡ number
bigint_back number fits =
    let own : cast_unsigned w64 number < 2 ^ 64 = omega (arith, ints, fits) in
    ap (λ (n : ℕ). cast_signed w64 (bit_xor n (2 ^ 63))) (from_be_bytes-to_be_bytes_8 (bit_xor (cast_unsigned w64 number) (2 ^ 63)) (xor_lt 64 (cast_unsigned w64 number) (2 ^ 63) own (lit< tt)))
    ∙ ap (λ (n : ℕ). cast_signed w64 n) (flip_twice 63 (cast_unsigned w64 number) own) ∙ to_z-of_z {w = w64} fits
