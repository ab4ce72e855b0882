-- Look-ups of a key in a data file.
use Rattle.std.specs.Prelude.{◌≡◌, ◌≢◌, ℕ, ◌+◌, ◌<◌, false, List, [], ◌∷◌, length, nat_eq, if◌then◌else◌, Option, None, Some}
use Rattle.std.specs.Map.{lookup}
use Rattle.sasi_types.specs.declared.partitioner.Partitioner.{Partitioner}
use Rattle.sasi_types.specs.declared.tree.Pair.{Pair}
use Rattle.sasi_types.specs.Key.{key_eq}
use Rattle.sasi_types.specs.Token.{token_of}
use Rattle.sasi_model.specs.Cells.{Partition}
use Rattle.sasi_host.specs.Names.{Bytes}
use Rattle.sasi_host.specs.View.{View, contents}
use Rattle.sasi_body.specs.Body.{body}
use Rattle.sasi_tokentree.specs.Format.{pair_at, HasTree}
use Rattle.sasi_datawrite.specs.Format.{Content, partition_bytes}
use Rattle.sasi_dataread.specs.Opened.{OpenDataFile, StandsAt}
use Rattle.sasi_dataread.specs.Reads.{IsOpenOn, IsStoredAt, LeadsToPartition}
use Rattle.sasi_dataread.specs.Bodies.{partition_pages}
use Rattle.sasi_dataread.specs.Scans.{KeysAreBytes}

-- the partition of a key
abbrev pub partition_of : Content → Bytes → Option Partition
partition_of content key = lookup (key_eq key) content

-- where the file is the data file of a content, and this the token of the key, it is the partition of the key
abbrev pub FindsKey : View → OpenDataFile → ℕ → Bytes → Option Partition → Type 0
FindsKey v opened token key found =
    (partitioner : Partitioner) (content : Content) → IsOpenOn v opened partitioner content → KeysAreBytes content → token ≡ token_of partitioner key → found ≡ partition_of content key

-- the pages of the partitions with a token, and one for the pair behind each, where the first partition is at this offset
abbrev pub token_reads : Partitioner → ℕ → ℕ → Content → ℕ
token_reads partitioner token at [] = 0
token_reads partitioner token at (one ∷ others) =
    (if nat_eq (token_of partitioner one.0) token then partition_pages at (length (body one.0 one.1)) + 1 else 0) + token_reads partitioner token (at + length (partition_bytes one.0 one.1)) others

-- ---- in any file

-- what is found is the partition of the key to which a pair with the token leads
abbrev pub FindsStored : View → OpenDataFile → ℕ → Bytes → Option Partition → Type 0
FindsStored v opened token key None = Unit {0}
FindsStored v opened token key (Some part) = (index : ℕ) × LeadsToPartition v opened index token key part

-- the file has a partition of another key at this offset
abbrev pub HasOtherKey : View → OpenDataFile → ℕ → Bytes → Type 0
HasOtherKey v opened place key = (other : Bytes) × (part : Partition) × (key_eq key other ≡ false) × IsStoredAt v opened place other part

-- where the file has the key tree of these pairs, none is found only where each pair with the token leads to another key
abbrev pub MissesKey : View → OpenDataFile → ℕ → Bytes → Option Partition → Type 0
MissesKey v opened token key found = (bytes : Bytes) (pairs : List Pair) → contents v opened.file ≡ Some bytes → HasTree bytes opened.tree pairs → found ≡ None
    → (index : ℕ) → index < length pairs → (pair_at pairs index).token ≡ token → HasOtherKey v opened (pair_at pairs index).place key

-- ---- steps of a look-up

-- the offset of a pair with this token
abbrev pub LeadsTo : ℕ → Option Pair → Option ℕ → Type 0
LeadsTo token next None = (pair : Pair) → next ≡ Some pair → pair.token ≢ token
LeadsTo token next (Some place) = next ≡ Some (record { token = token; place = place })

-- the partition read is the one at an offset, where it has the key
abbrev pub ReadsPartitionOfKey : View → OpenDataFile → ℕ → Bytes → Option Partition → Type 0
ReadsPartitionOfKey v opened place key found = (partitioner : Partitioner) (content : Content) (k : Bytes) (p : Partition) → IsOpenOn v opened partitioner
    content → StandsAt content place k p → found ≡ partition_of ((k, p) ∷ []) key

-- in any file: a partition stands at an offset, and it is read where it has the key
abbrev pub ReadsStoredKey : View → OpenDataFile → ℕ → Bytes → Option Partition → Type 0
ReadsStoredKey v opened place key None = HasOtherKey v opened place key
ReadsStoredKey v opened place key (Some part) = IsStoredAt v opened place key part
