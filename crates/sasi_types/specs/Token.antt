-- The token of a key.
use Rattle.std.specs.Prelude.{ℕ, ◌<◌, List, ◌++◌, take, replicate, get_or}
use Rattle.std.specs.Int.{w64, from_be_bytes}
use Rattle.sasi_types.specs.Murmur.{hash, ordered}
use Rattle.sasi_types.specs.declared.partitioner.Partitioner.{Partitioner}
use Rattle.sasi_types.specs.declared.partitioner.Partitioner.TheVariants.{Lead8, Murmur3}

-- under lead8 the first eight bytes as a big-endian number, with zero bytes behind a shorter key; under murmur3 the hash
unfoldable pub token_of : Partitioner → List ℕ → ℕ
token_of Lead8 key = from_be_bytes w64 (take 8 (key ++ replicate 8 0))
token_of Murmur3 key = ordered (hash key)

-- they are bytes: each is below 256
abbrev pub AreBytes : List ℕ → Type 0
AreBytes bytes = (index : ℕ) → get_or bytes index 0 < 256
