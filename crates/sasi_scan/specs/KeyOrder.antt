-- The order of the keys that a scan of a table gives, in any file, and where it gives one.
use Rattle.std.specs.Prelude.{◌≡◌, ℕ, List, Some, IfSome, IsSome}
use Rattle.std.specs.List.{AllByRecursion, Contains}
use Rattle.std.specs.declared.cmp.Ordering.TheVariants.{Less}
use Rattle.sasi_types.specs.declared.decorated_key.DecoratedKey.{DecoratedKey}
use Rattle.sasi_types.specs.declared.partitioner.Partitioner.{Partitioner}
use Rattle.sasi_types.specs.DecoratedKey.{decorated_cmp}
use Rattle.sasi_types.specs.Token.{token_of}
use Rattle.sasi_model.specs.Cells.{Partition}
use Rattle.sasi_merge.specs.Merging.{Head, with_token}
use Rattle.sasi_scan.specs.Scanning.{ScanView}
use Rattle.sasi_scan.specs.Sources.{HasTokenOf}
use Rattle.sasi_scan.specs.declared.source.Source.{Source}
use Rattle.sasi_scan.specs.declared.source.Source.TheVariants.{File, Map}

-- ---- the tokens of a partitioner

-- the source is a data file, whose scan takes the tokens of the keys under the partitioner
abbrev pub TakesTokens : Partitioner → Source → Type 0
TakesTokens partitioner (File scan) = scan.tokens ≡ Some partitioner
TakesTokens partitioner (Map position) = ⊥

-- all parts are such data files, and the token of each next partition is that of its key
pub record IsUnder (partitioner : Partitioner) (scan : ScanView) : Type 0 where
  pub sources : AllByRecursion (TakesTokens partitioner) scan.sources
  pub heads : AllByRecursion (HasTokenOf partitioner) scan.heads

-- ---- the order

-- the next partition of a part, if it has one, comes behind a key
abbrev pub IsAbove : DecoratedKey → Head → Type 0
IsAbove key head = IfSome head (λ one. decorated_cmp key (with_token one.0 one.1) ≡ Less)

-- those of all parts do
abbrev pub AreAbove : DecoratedKey → List Head → Type 0
AreAbove key = AllByRecursion (IsAbove key)

-- The key that is given has a token, under which it comes behind each key that all parts were behind, and all parts are behind it afterwards. It is the
-- token of the key under the partitioner, where the scan takes its tokens from the keys.
pub record GivesAbove (old new : ScanView) (one : List ℕ × Partition) : Type 0 where
  pub token : ℕ
  pub above : (last : DecoratedKey) → AreAbove last old.heads → decorated_cmp last (with_token token one.0) ≡ Less
  pub behind : AreAbove (with_token token one.0) new.heads
  pub token_is : (partitioner : Partitioner) → IsUnder partitioner old → token ≡ token_of partitioner one.0

-- ---- the end

-- a part has a next partition
abbrev pub HasHead : ScanView → Type 0
HasHead scan = (head : Head) × Contains scan.heads head × IsSome head
