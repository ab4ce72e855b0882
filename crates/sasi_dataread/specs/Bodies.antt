-- Length-prefixed bodies in a data file.
use Rattle.std.specs.Prelude.{◌≡◌, ℕ, ◌+◌, ◌^◌, ◌<◌, ◌≤◌, List, ◌++◌, length, Option, Some}
use Rattle.std.specs.Int.{to_be_bytes, w32}
use Rattle.sasi_types.specs.declared.column.ColumnType.{ColumnType}
use Rattle.sasi_model.specs.Cells.{Partition}
use Rattle.sasi_host.specs.declared.name.FileName.{FileName}
use Rattle.sasi_host.specs.declared.fault.ReadFault.{ReadFault}
use Rattle.sasi_host.specs.Names.{Bytes}
use Rattle.sasi_host.specs.Damages.{HasAt, OnDamage}
use Rattle.sasi_host.specs.Buffered.{pages_of, unbuffered_pages}
use Rattle.sasi_host.specs.View.{View, contents}
use Rattle.sasi_formats.specs.declared.fault.FormatFault.{FormatFault}
use Rattle.sasi_formats.specs.declared.fault.FormatFault.TheVariants as fault
use Rattle.sasi_body.specs.Body.{body, IsBodyOf}

-- length-prefixed bytes
abbrev pub length_prefixed : Bytes → Bytes
length_prefixed body = to_be_bytes w32 (length body) ++ body

-- a partition can begin at this offset, where the partitions end at `end`: the smallest one has 17 bytes
pub record IsPartitionOffset (end place : ℕ) : Type 0 where
  pub behind : 16 ≤ place
  pub within : place + 17 ≤ end

-- the body of a partition at this offset may have so many bytes, where the partitions end at `end`
pub record IsLength (end place count : ℕ) : Type 0 where
  pub some : 0 < count
  pub short : count < 2 ^ 23
  pub within : place + 4 + count ≤ end

-- on how many pages a length-prefixed body of so many bytes lies
abbrev pub partition_pages : ℕ → ℕ → ℕ
partition_pages place count = pages_of place (4 + count)

-- how many of these pages aren't buffered
abbrev pub partition_reads : Option ℕ → ℕ → ℕ → ℕ
partition_reads page place count = unbuffered_pages page place (4 + count)

-- damage is reported only where the file has no such length at the offset
abbrev pub NoFalseLengthDamage : View → FileName → ℕ → ℕ → ReadFault → Type 0
NoFalseLengthDamage v file end place = OnDamage (λ _. (bytes : Bytes) (count : ℕ) → contents v file ≡ Some bytes → HasAt bytes place (to_be_bytes w32 count) → IsLength end place count → ⊥)

-- damage is reported only where it has no such length with its bytes there
abbrev pub NoFalseBytesDamage : View → FileName → ℕ → ℕ → ReadFault → Type 0
NoFalseBytesDamage v file end place = OnDamage (λ _. (bytes body : Bytes) → contents v file ≡ Some bytes → HasAt bytes place (length_prefixed body) → IsLength end place (length body) → ⊥)

-- the offset of a fault of a body is within so many bytes
abbrev pub IsWithinBody : ℕ → FormatFault → Type 0
IsWithinBody count (fault.Broken broken) = broken.at ≤ count
IsWithinBody count _ = Unit {0}

-- damage is reported only where the file has no partition of the table at the offset
abbrev pub NoFalseBodyDamage : View → FileName → List ColumnType → ℕ → ℕ → ReadFault → Type 0
NoFalseBodyDamage v file types end place =
    OnDamage (λ _. (bytes key : Bytes) (part : Partition) → contents v file ≡ Some bytes → HasAt bytes place (length_prefixed (body key part)) → IsBodyOf types
    key part → place + 4 + length (body key part) ≤ end → ⊥)
