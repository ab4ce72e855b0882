-- A token fits its field of eight bytes.
use Rattle.std.proofs.Common.{◌≡◌, ℕ, zero, suc, ◌-◌, ◌^◌, ◌<◌, Bool, true, false, List, [], ◌∷◌, ◌++◌, length, take, replicate, bit_xor, arith, lit<, length-append}
use Rattle.std.specs.Prelude.{nat_eq, if◌then◌else◌}
use Rattle.std.specs.Int.{w64, from_be_bytes}
use Rattle.std.proofs.lemmas.List.{length-take}
use Rattle.std.proofs.lemmas.Nat.{xor_lt}
use Rattle.sasi_types.specs.declared.murmur.HashState.{HashState}
use Rattle.sasi_types.specs.declared.partitioner.Partitioner.{Partitioner}
use Rattle.sasi_types.specs.declared.partitioner.Partitioner.TheVariants.{Lead8, Murmur3}
use Rattle.sasi_types.specs.Murmur.{plus, fmix, finalized, hash, ordered}
use Rattle.sasi_types.specs.Token.{token_of, AreBytes}

-- ---- under lead8

-- eight bytes are a number that fits
pub number_fits : (bytes : List ℕ) → length bytes ≡ 8 → AreBytes bytes → from_be_bytes w64 bytes < 2 ^ 64
number_fits bytes size are = omega (arith, are 0, are 1, are 2, are 3, are 4, are 5, are 6, are 7)

none : AreBytes []
none zero = lit< tt
none (suc index) = lit< tt

-- zeros behind bytes are bytes, and so is what is taken of them
zeros : (n : ℕ) → AreBytes (replicate n 0)
zeros zero index = none index
zeros (suc n) zero = lit< tt
zeros (suc n) (suc index) = zeros n index

joined : (key more : List ℕ) → AreBytes key → AreBytes more → AreBytes (key ++ more)
joined [] more are then_are index = then_are index
joined (byte ∷ key) more are then_are zero = are 0
joined (byte ∷ key) more are then_are (suc index) = joined key more (λ i. are (suc i)) then_are index

taken : (n : ℕ) (bytes : List ℕ) → AreBytes bytes → AreBytes (take n bytes)
taken zero bytes are index = none index
taken (suc n) [] are index = none index
taken (suc n) (byte ∷ bytes) are zero = are 0
taken (suc n) (byte ∷ bytes) are (suc index) = taken n bytes (λ i. are (suc i)) index

-- ---- under murmur3

plus_fits : (a b : ℕ) → plus a b < 2 ^ 64
plus_fits a b = omega arith

finalized_fits : (sums : HashState) (count : ℕ) → finalized sums count < 2 ^ 64
unfolding finalized
finalized_fits sums count =
    let first : ℕ = plus (bit_xor sums.first count) (bit_xor sums.second count) in
    plus_fits (fmix first) (fmix (plus (bit_xor sums.second count) first))

hash_fits : (key : List ℕ) → hash key < 2 ^ 64
unfolding hash
hash_fits key = finalized_fits _ (length key)

kept_fits : (least : Bool) (h : ℕ) → h < 2 ^ 64 → (if least then 2 ^ 63 - 1 else h) < 2 ^ 64
kept_fits true h fits = lit< tt
kept_fits false h fits = fits

ordered_fits : (h : ℕ) → h < 2 ^ 64 → ordered h < 2 ^ 64
unfolding ordered
ordered_fits h fits = xor_lt 64 (if nat_eq h (2 ^ 63) then 2 ^ 63 - 1 else h) (2 ^ 63) (kept_fits (nat_eq h (2 ^ 63)) h fits) (lit< tt)

-- ---- both

pub token_fits : (partitioner : Partitioner) (key : List ℕ) → AreBytes key → token_of partitioner key < 2 ^ 64
unfolding token_of
token_fits Lead8 key are =
    number_fits (take 8 (key ++ replicate 8 0)) (omega (arith, length-take 8 (key ++ replicate 8 0), length-append key (replicate 8 0)))
    (taken 8 (key ++ replicate 8 0) (joined key (replicate 8 0) are (zeros 8)))
token_fits Murmur3 key are = ordered_fits (hash key) (hash_fits key)
