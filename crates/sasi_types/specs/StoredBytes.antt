-- The bytes of a value, as they are handed out.
use Rattle.std.specs.Prelude.{ℕ, List}
use Rattle.sasi_types.specs.declared.value.Stored.{Stored}
use Rattle.sasi_types.specs.declared.value.Stored.TheVariants.{Borrowed, Int, BigInt}

abbrev pub bytes_of : Stored → List ℕ
bytes_of (Borrowed bytes) = bytes.now
bytes_of (Int bytes) = bytes
bytes_of (BigInt bytes) = bytes
