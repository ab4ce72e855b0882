-- Numbers are read back.
use Rattle.std.proofs.Common.{◌≡◌, ◌<◌, ◌+◌, ◌*◌, ◌/◌, ◌%◌, ◌^◌, ℕ, Bool, true, ◌&&◌, [], ◌∷◌, ◌++◌, length, take, Option, Some, refl, ap, ◌∙◌, rules, arith}
use mir.Val.{bits}
use Rattle.std.specs.Int.{Width, w8, w16, w32, w64, w128, byte_len, to_be_bytes, from_be_bytes}
use Rattle.std.specs.Prelude.{nat_eq, nat_lt}
use Rattle.std.specs.Cmp.Lexicographic.{pointwise}
use native.Mathlib.Nat as nat
use Rattle.std.proofs.lemmas.Nat.{from_be_bytes-to_be_bytes_2, from_be_bytes-to_be_bytes_4, from_be_bytes-to_be_bytes_8}
use Rattle.sasi_host.specs.Names.{Bytes}
use Rattle.sasi_host.specs.declared.damage.FormatRule.TheVariants as rule
use Rattle.sasi_fields.specs.Reading.{Reading, ReadsField}
use Rattle.sasi_formats.specs.Reader.{Got, Failed, Short, read, tried}
use Rattle.std.specs.Bool.{then_some}
use Rattle.sasi_formats.specs.Codings.{number_of}
use Rattle.sasi_formats.specs.Formats.{Encodes}
use Rattle.sasi_formats.specs.Fields.{number}
use Rattle.sasi_formats.proofs.Agreement.{same_front}
use Rattle.sasi_formats.proofs.Completed.{taken_is, taken_short}

-- a number of sixteen bytes is the sum of what they are worth
joined_16 : (x0 x1 x2 x3 x4 x5 x6 x7 x8 x9 x10 x11 x12 x13 x14 x15 n p1 p2 p3 p4 p5 p6 p7 p8 p9 p10 p11 p12 p13 p14 p15 : ℕ) → n ≡ x0 + p1 * 256
    → p1 ≡ x1 + p2 * 256 → p2 ≡ x2 + p3 * 256 → p3 ≡ x3 + p4 * 256 → p4 ≡ x4 + p5 * 256 → p5 ≡ x5 + p6 * 256 → p6 ≡ x6 + p7 * 256 → p7 ≡ x7 + p8 * 256 → p8 ≡ x8 + p9 * 256 → p9 ≡ x9 + p10 * 256 → p10 ≡ x10 + p11 * 256 → p11 ≡ x11 + p12 * 256 → p12 ≡ x12 + p13 * 256 → p13 ≡ x13 + p14 * 256 → p14 ≡ x14 + p15 * 256 → p15 ≡ x15
    → x15 * 1329227995784915872903807060280344576 + x14 * 5192296858534827628530496329220096 + x13 * 20282409603651670423947251286016 + x12 * 79228162514264337593543950336 + x11 * 309485009821345068724781056 + x10 * 1208925819614629174706176 + x9 * 4722366482869645213696 + x8 * 18446744073709551616 + x7 * 72057594037927936 + x6 * 281474976710656 + x5 * 1099511627776 + x4 * 4294967296 + x3 * 16777216 + x2 * 65536 + x1 * 256 + x0 ≡ n
joined_16 x0 x1 x2 x3 x4 x5 x6 x7 x8 x9 x10 x11 x12 x13 x14 x15 n p1 p2 p3 p4 p5 p6 p7 p8 p9 p10 p11 p12 p13 p14 p15 at_0 at_1 at_2 at_3 at_4 at_5 at_6 at_7 at_8 at_9 at_10 at_11 at_12 at_13 at_14 at_15 = omega arith

byte_and_rest : (n p : ℕ) → n / p ≡ n / p % 256 + n / (p * 256) * 256
byte_and_rest n p = omega (arith, nat.div-div-eq-div-mul n p 256)

back_16 : (n : ℕ) → n < 2 ^ 128 → from_be_bytes w128 (to_be_bytes w128 n) ≡ n
back_16 n fits =
    let low : n ≡ n % 256 + n / 256 * 256 = omega arith in
    let high : n / 1329227995784915872903807060280344576 ≡ n / 1329227995784915872903807060280344576 % 256 = omega arith in
    joined_16 _ _ _ _ _ _ _ _ _ _ _ _ _ _ _ _ n _ _ _ _ _ _ _ _ _ _ _ _ _ _ _ low
    (byte_and_rest n 256) (byte_and_rest n 65536) (byte_and_rest n 16777216) (byte_and_rest n 4294967296) (byte_and_rest n 1099511627776) (byte_and_rest n 281474976710656) (byte_and_rest n 72057594037927936) (byte_and_rest n 18446744073709551616) (byte_and_rest n 4722366482869645213696) (byte_and_rest n 1208925819614629174706176) (byte_and_rest n 309485009821345068724781056) (byte_and_rest n 79228162514264337593543950336) (byte_and_rest n 20282409603651670423947251286016) (byte_and_rest n 5192296858534827628530496329220096) high

pub number_in_put : (width : Width) (n : ℕ) → n < 2 ^ bits width → from_be_bytes width (to_be_bytes width n) ≡ n
number_in_put w8 n fits = omega arith
number_in_put w16 n fits = from_be_bytes-to_be_bytes_2 n fits
number_in_put w32 n fits = from_be_bytes-to_be_bytes_4 n fits
number_in_put w64 n fits = from_be_bytes-to_be_bytes_8 n fits
number_in_put w128 n fits = back_16 n fits

pub same_self : (bytes : Bytes) → pointwise nat_eq bytes bytes ≡ true
same_self [] = refl
same_self (b ∷ bytes) =
    let first : nat_eq b b ≡ true = search rules in
    ap (λ (t : Bool). t && pointwise nat_eq bytes bytes) first ∙ same_self bytes

pub size_put : (width : Width) (n : ℕ) → length (to_be_bytes width n) ≡ byte_len width
size_put w8 n = refl
size_put w16 n = refl
size_put w32 n = refl
size_put w64 n = refl
size_put w128 n = refl

pub value_put : (width : Width) (n : ℕ) → n < 2 ^ bits width → (number_of width).decode (to_be_bytes width n) ≡ Some n
value_put width n fits =
    let less : nat_lt n (2 ^ bits width) ≡ true = search rules in
    ap (λ (m : ℕ). then_some (pointwise nat_eq (to_be_bytes width m) (to_be_bytes width n) && nat_lt m (2 ^ bits width)) m) (number_in_put width n fits)
    ∙ ap (λ (t : Bool). then_some (t && nat_lt n (2 ^ bits width)) n) (same_self (to_be_bytes width n))
    ∙ ap (λ (t : Bool). then_some t n) less

-- a number of this width is read
pub number_got : (width : Width) (n : ℕ) (s t : Reading) → ReadsField (to_be_bytes width n) s t → n < 2 ^ bits width → read (number width) s ≡ Got n t
number_got width n s t passes fits =
    taken_is rule.Number (number_of width) (byte_len width) (to_be_bytes width n) s t passes (size_put width n) ∙ ap (λ (v : Option ℕ). tried v rule.Number (length s.done) (take 8 (to_be_bytes width n)) t) (value_put width n fits)

pub number_short : (width : Width) (s : Reading) → length s.left < byte_len width → read (number width) s ≡ Failed Short
number_short width s short = taken_short rule.Number (number_of width) (byte_len width) s short

-- a number is encoded by its bytes
pub number_encodes : (width : Width) (n : ℕ) → n < 2 ^ bits width → Encodes (number width) n (to_be_bytes width n)
number_encodes width n fits = record { front = []; whole = refl; starts = (refl, size_put width n); is_value = value_put width n fits }

-- two numbers that begin the same bytes are one
pub same_number : (width : Width) (n m : ℕ) (a b : Bytes) → n < 2 ^ bits width → m < 2 ^ bits width → to_be_bytes width n ++ a ≡ to_be_bytes width m ++ b → (n ≡ m) × (a ≡ b)
same_number width n m a b n_fits m_fits same = same_front (number width) n m (to_be_bytes width n) (to_be_bytes width m) a b (number_encodes width n n_fits) (number_encodes width m m_fits) same
