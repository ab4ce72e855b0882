-- Scans of a data file.
use Rattle.std.specs.Prelude.{◌≡◌, ℕ, ◌+◌, ◌<◌, ◌≤◌, [], ◌∷◌, drop, Option, None, Some}
use Rattle.std.specs.List.{AllByRecursion}
use Rattle.sasi_types.specs.declared.decorated_key.DecoratedKey.{DecoratedKey}
use Rattle.sasi_types.specs.declared.partitioner.Partitioner.{Partitioner}
use Rattle.sasi_types.specs.declared.tree.Pair.{Pair}
use Rattle.sasi_types.specs.Token.{token_of, AreBytes}
use Rattle.sasi_model.specs.Cells.{Partition}
use Rattle.sasi_host.specs.declared.fault.ReadFault.{ReadFault}
use Rattle.sasi_host.specs.Names.{Bytes}
use Rattle.sasi_host.specs.Buffered.{Buffered}
use Rattle.sasi_host.specs.Damages.{OnDamage}
use Rattle.sasi_host.specs.View.{View}
use Rattle.sasi_tokentree.specs.Scans.{PairScan}
use Rattle.sasi_datawrite.specs.Format.{Content}
use Rattle.sasi_dataread.specs.Opened.{OpenDataFile}
use Rattle.sasi_dataread.specs.Reads.{IsOpenOn, LeadsToPartition}
use Rattle.sasi_dataread.specs.Tokens.{AgreesWith, token_by}

-- the view of a scan: the file, where its tokens come from, how many of its partitions it has passed, the buffered pages of the key tree and of
-- the partitions, the pair of the key tree that was read last, and the key that was given last
pub record DataScan : Type 0 where
  pub opened : OpenDataFile
  pub tokens : Option Partitioner
  pub passed : ℕ
  pub pairs_buffered : Buffered
  pub buffered : Buffered
  pub last_pair : Option Pair
  pub last : Option DecoratedKey

-- the scan of its key tree
abbrev pub pairs_of : DataScan → PairScan
pairs_of scan = record { buffered = scan.pairs_buffered; tree = scan.opened.tree; passed = scan.passed; last = scan.last_pair }

-- the keys are bytes, as those of each file are; then the tokens of the key tree fit their fields
abbrev pub KeysAreBytes : Content → Type 0
KeysAreBytes content = AllByRecursion (λ one. AreBytes one.0) content

-- the scan steps to the first of the partitions from an index on, with its token, and those behind it are left; to none where none is left
abbrev pub StepsToPartition : Partitioner → Content → ℕ → ℕ → Option (ℕ × Bytes × Partition) → Type 0
StepsToPartition partitioner content before after None = (drop before content ≡ []) × (after ≡ before)
StepsToPartition partitioner content before after (Some found) = (drop before content ≡ (found.1, found.2) ∷ drop after content) × (found.0 ≡ token_of partitioner found.1)

-- where the file is the data file of a content, under the partitioner of the scan's tokens, this is the next of its partitions
abbrev pub ReadsNextPartition : View → OpenDataFile → Option Partitioner → ℕ → ℕ → Option (ℕ × Bytes × Partition) → Type 0
ReadsNextPartition v opened tokens before after found =
    (partitioner : Partitioner) (content : Content) → AgreesWith tokens partitioner → IsOpenOn v opened partitioner content → KeysAreBytes content → StepsToPartition partitioner content before after found

-- damage is reported only where the file isn't the data file that was opened
abbrev pub NoFalseOpenedDamage : View → OpenDataFile → ReadFault → Type 0
NoFalseOpenedDamage v opened = OnDamage (λ _. (partitioner : Partitioner) (content : Content) → IsOpenOn v opened partitioner content → KeysAreBytes content → ⊥)

-- and by a scan only where it isn't that of a content under the partitioner of the scan's tokens
abbrev pub NoFalseScanDamage : View → OpenDataFile → Option Partitioner → ReadFault → Type 0
NoFalseScanDamage v opened tokens = OnDamage (λ _. (partitioner : Partitioner) (content : Content) → AgreesWith tokens partitioner → IsOpenOn v opened partitioner content → KeysAreBytes content → ⊥)

-- In any file a scan passes one pair of the key tree, and gives the partition to which it leads, with its token: that of the pair, or that of the key
-- under the scan's partitioner. It gives none exactly where all pairs are passed.
abbrev pub PassesPartition : View → OpenDataFile → Option Partitioner → ℕ → ℕ → Option (ℕ × Bytes × Partition) → Type 0
PassesPartition v opened tokens before after None = (opened.tree.pairs ≤ before) × (after ≡ before)
PassesPartition v opened tokens before after (Some found) =
    (before < opened.tree.pairs) × (after ≡ before + 1) × (stored : ℕ) × (found.0 ≡ token_by tokens stored found.1) × LeadsToPartition v opened before stored found.1 found.2
