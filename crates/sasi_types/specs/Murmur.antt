-- MurmurHash3, its form of 128 bits for machines of 64 bits, with seed 0, of which the first half counts. All numbers are
-- of 64 bits: sums and products wrap.
use Rattle.std.specs.Prelude.{ℕ, zero, suc, ◌+◌, ◌-◌, ◌*◌, ◌/◌, ◌%◌, ◌^◌, List, length, take, drop, slice_index, bit_xor, if◌then◌else◌, nat_eq}
use Rattle.std.specs.Int.{w8, w64, cast_signed, cast_unsigned, rotate_left, from_le_bytes}
use Rattle.std.specs.List.{fold}
use Rattle.std.specs.Simd.{first_chunks}
use Rattle.sasi_types.specs.declared.murmur.HashState.{HashState}

-- a sum and a product that wrap
abbrev pub plus : ℕ → ℕ → ℕ
plus a b = (a + b) % 2 ^ 64

abbrev pub times : ℕ → ℕ → ℕ
times a b = a * b % 2 ^ 64

-- what the first half of a block, and its second half, add to their sums, by the same two factors
unfoldable pub first_mixed : ℕ → ℕ
first_mixed half = times (rotate_left w64 (times half 0x87c37b91114253d5) 31) 0x4cf5ad432745937f

unfoldable pub second_mixed : ℕ → ℕ
second_mixed half = times (rotate_left w64 (times half 0x4cf5ad432745937f) 33) 0x87c37b91114253d5

-- the first sum behind a block with this first half, and the second sum behind one with this second half and that first sum
unfoldable pub first_after : HashState → ℕ → ℕ
first_after sums half =
    plus (times (plus (rotate_left w64 (bit_xor sums.first (first_mixed half)) 27) sums.second) 5) 0x52dce729

unfoldable pub second_after : HashState → ℕ → ℕ → ℕ
second_after sums half first =
    plus (times (plus (rotate_left w64 (bit_xor sums.second (second_mixed half)) 31) first) 5) 0x38495ab5

-- the sums behind a block, whose halves have their lowest byte first
unfoldable pub with_block : HashState → List ℕ → HashState
with_block sums block =
    let first : ℕ = first_after sums (from_le_bytes w64 (take 8 block)) in
    record { first = first; second = second_after sums (from_le_bytes w64 (drop 8 block)) first }

-- a byte as a signed number, widened to 64 bits, and shifted left by that many bytes
unfoldable pub shifted_byte : ℕ → ℕ → ℕ
shifted_byte index byte = cast_unsigned w64 (cast_signed w8 byte) * 2 ^ (8 * index) % 2 ^ 64

-- the exclusive or of the first n of these bytes, each shifted to its index
unfoldable pub signed_word : ℕ → List ℕ → ℕ
signed_word zero bytes = 0
signed_word (suc n) bytes = bit_xor (signed_word n bytes) (shifted_byte n (slice_index bytes n))

-- the exclusive or of all these bytes
abbrev pub signed_half : List ℕ → ℕ
signed_half bytes = signed_word (length bytes) bytes

-- the sums behind the fewer than sixteen bytes that are left
unfoldable pub with_tail : HashState → List ℕ → HashState
with_tail sums tail = record {
  first = bit_xor sums.first (first_mixed (signed_half (take 8 tail)));
  second = bit_xor sums.second (second_mixed (signed_half (drop 8 tail)));
}

-- each bit of a sum reaches each other one
unfoldable pub fmix_round : ℕ → ℕ → ℕ
fmix_round factor sum = times (bit_xor sum (sum / 2 ^ 33)) factor

unfoldable pub fmix : ℕ → ℕ
fmix sum =
    let twice : ℕ = fmix_round 0xc4ceb9fe1a85ec53 (fmix_round 0xff51afd7ed558ccd sum) in
    bit_xor twice (twice / 2 ^ 33)

-- the first sum at the end, for a key of that length
unfoldable pub finalized : HashState → ℕ → ℕ
finalized sums count =
    let first : ℕ = plus (bit_xor sums.first count) (bit_xor sums.second count) in
    plus (fmix first) (fmix (plus (bit_xor sums.second count) first))

-- the hash of a key: its whole blocks of sixteen bytes, and then the bytes that are left
unfoldable pub hash : List ℕ → ℕ
hash key = finalized
    (with_tail (fold with_block (record { first = 0; second = 0 }) (first_chunks 16 (length key / 16) key)) (drop (length key / 16 * 16) key)) (length key)

-- a hash as a token: the least signed number is replaced by the largest, and the top bit is flipped, so that the
-- order of the tokens is that of signed numbers
unfoldable pub ordered : ℕ → ℕ
ordered h = bit_xor (if nat_eq h (2 ^ 63) then 2 ^ 63 - 1 else h) (2 ^ 63)
