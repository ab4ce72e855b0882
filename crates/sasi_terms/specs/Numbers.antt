-- The terms of numbers: four bytes of an int or eight of a bigint, big-endian in two's complement with the top bit flipped, so
-- that the order of terms is that of numbers.
use Rattle.std.specs.Prelude.{ℕ, ◌^◌, ℤ, List, length, ◌==◌, if◌then◌else◌, bit_xor, Option, None, Some}
use Rattle.std.specs.Int.{w32, w64, from_be_bytes, to_be_bytes, cast_signed, cast_unsigned}

-- the term of an int
abbrev pub int_term : ℤ → List ℕ
int_term number = to_be_bytes w32 (bit_xor (cast_unsigned w32 number) (2 ^ 31))

-- the term of a bigint
abbrev pub bigint_term : ℤ → List ℕ
bigint_term number = to_be_bytes w64 (bit_xor (cast_unsigned w64 number) (2 ^ 63))

-- the int of four bytes
abbrev pub int_of : List ℕ → ℤ
int_of term = cast_signed w32 (bit_xor (from_be_bytes w32 term) (2 ^ 31))

-- the bigint of eight bytes
abbrev pub bigint_of : List ℕ → ℤ
bigint_of term = cast_signed w64 (bit_xor (from_be_bytes w64 term) (2 ^ 63))

-- the number of a term, by its length
abbrev pub number_of : List ℕ → Option ℤ
number_of term = if length term == 4 then Some (int_of term) else (if length term == 8 then Some (bigint_of term) else None)
