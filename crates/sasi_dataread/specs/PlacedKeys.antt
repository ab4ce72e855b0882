-- The keys of a token in a data file.
use Rattle.std.specs.Prelude.{◌≡◌, ◌≢◌, ◌⊎◌, ℕ, suc, ◌+◌, ◌≤◌, List, [], ◌∷◌, ◌++◌, length, nat_eq, if◌then◌else◌, Some}
use Rattle.sasi_types.specs.declared.partitioner.Partitioner.{Partitioner}
use Rattle.sasi_types.specs.declared.tree.Pair.{Pair}
use Rattle.sasi_types.specs.Token.{token_of}
use Rattle.sasi_model.specs.Cells.{Partition}
use Rattle.sasi_host.specs.Names.{Bytes}
use Rattle.sasi_host.specs.View.{View, contents}
use Rattle.sasi_tokentree.specs.Damages.{start}
use Rattle.sasi_tokentree.specs.Format.{HasTree}
use Rattle.sasi_tokentree.specs.Reads.{CountsBelow, CountsDown}
use Rattle.sasi_tokentree.specs.Scans.{HasEntry}
use Rattle.sasi_datawrite.specs.Format.{Content, partition_bytes}
use Rattle.sasi_dataread.specs.declared.token_keys.PlacedKey.{PlacedKey}
use Rattle.sasi_dataread.specs.Opened.{OpenDataFile}
use Rattle.sasi_dataread.specs.Reads.{IsStoredAt, LeadsToPartition, ReadsKey}

-- the keys with a token, each with the offset of its partition, where the first partition is at this offset
abbrev pub keys_at : Partitioner → ℕ → ℕ → Content → List PlacedKey
keys_at partitioner token at [] = []
keys_at partitioner token at (one ∷ others) =
    (if nat_eq (token_of partitioner one.0) token then record { place = at; key = one.0 } ∷ [] else []) ++ keys_at partitioner token (at + length (partition_bytes one.0 one.1)) others

-- ---- in any file

-- the pair with this index has the token, and leads to a partition of the key at the offset
pub record LeadsToKey (v : View) (opened : OpenDataFile) (token index : ℕ) (placed : PlacedKey) : Type 0 where
  pub part : Partition
  pub leads : LeadsToPartition v opened index token placed.key part
  pub at : leads.pair.place ≡ placed.place

-- the pairs from an index on lead to these keys, one after another
abbrev pub LeadToKeys : View → OpenDataFile → ℕ → ℕ → List PlacedKey → Type 0
LeadToKeys v opened token index [] = Unit {0}
LeadToKeys v opened token index (placed ∷ others) = LeadsToKey v opened token index placed × LeadToKeys v opened token (suc index) others

-- as the nodes of the key tree count, the pairs before an index are those below the token; or the reference counts no pairs
abbrev pub BeginsToken : View → OpenDataFile → ℕ → ℕ → Type 0
BeginsToken v opened token index = (bytes : Bytes) → contents v opened.file ≡ Some bytes → (opened.tree.pairs ≡ 0) ⊎ CountsDown bytes token 0 (start opened.tree) opened.tree.pairs index

-- no pair has this index, or the one that has it is of another token
abbrev pub EndsToken : View → OpenDataFile → ℕ → ℕ → Type 0
EndsToken v opened token index =
    (opened.tree.pairs ≤ index) ⊎ ((pair : Pair) × (pair.token ≢ token) × ((bytes : Bytes) → contents v opened.file ≡ Some bytes → HasEntry bytes opened.tree index pair))

-- the keys are those to which the pairs of the token lead: from the first pair that isn't below it up to the first one of another token
pub record HasKeysOfToken (v : View) (opened : OpenDataFile) (token : ℕ) (keys : List PlacedKey) : Type 0 where
  pub first : ℕ
  pub begins : BeginsToken v opened token first
  -- so many are below it where the file has the key tree of these pairs
  pub below : (bytes : Bytes) (pairs : List Pair) → contents v opened.file ≡ Some bytes → HasTree bytes opened.tree pairs → CountsBelow pairs token first
  pub lead : LeadToKeys v opened token first keys
  pub ends : EndsToken v opened token (first + length keys)

-- ---- a step

-- the key of the partition at an offset is added, which stands there in any file
pub record AddsKey (v : View) (opened : OpenDataFile) (place : ℕ) (old new : List PlacedKey) : Type 0 where
  pub key : Bytes
  pub added : new ≡ old ++ record { place = place; key = key } ∷ []
  pub right : ReadsKey v opened place key
  pub part : Partition
  pub stored : IsStoredAt v opened place key part
