-- The order of the partitions that a scan gives, in any file.
use Rattle.std.specs.Prelude.{◌≡◌, ◌≢◌, ℕ, ◌+◌, ◌∷◌, drop, take, Option, None, Some, IfSome}
use Rattle.std.specs.declared.cmp.Ordering.TheVariants.{Less}
use Rattle.sasi_types.specs.declared.decorated_key.DecoratedKey.{DecoratedKey}
use Rattle.sasi_types.specs.declared.partitioner.Partitioner.{Partitioner}
use Rattle.sasi_types.specs.declared.tree.Pair.{Pair}
use Rattle.sasi_types.specs.DecoratedKey.{decorated_cmp}
use Rattle.sasi_types.specs.Token.{token_of}
use Rattle.sasi_model.specs.Cells.{Partition}
use Rattle.sasi_host.specs.declared.name.FileName.{FileName}
use Rattle.sasi_host.specs.declared.damage.Damage.{Damage}
use Rattle.sasi_host.specs.declared.damage.FormatRule.TheVariants.{Order}
use Rattle.sasi_host.specs.Names.{Bytes, Folder}
use Rattle.sasi_host.specs.Damages.{HasAt, seen_bytes}
use Rattle.sasi_host.specs.View.{contents_in}
use Rattle.sasi_body.specs.Body.{body, IsBodyOf}
use Rattle.sasi_tokentree.specs.Damages.{HasEntry}
use Rattle.sasi_datawrite.specs.Files.{IsDataFile}
use Rattle.sasi_datawrite.specs.Format.{Content, partition_bytes}
use Rattle.sasi_dataread.specs.Opened.{IsOpenedAs, OpenDataFile}
use Rattle.sasi_dataread.specs.Bodies.{length_prefixed}
use Rattle.sasi_dataread.specs.Scans.{KeysAreBytes}
use Rattle.sasi_dataread.specs.Tokens.{AgreesWith, token_by}

-- the key of what a scan gives, with its token
abbrev pub key_of : ℕ × Bytes × Partition → DecoratedKey
key_of one = record { token = one.0; key = one.1 }

-- the partition, if any, comes behind the last key, if there is one
abbrev pub KeyRises : Option DecoratedKey → Option (ℕ × Bytes × Partition) → Type 0
KeyRises last found = IfSome found (λ one. IfSome last (λ before. decorated_cmp before (key_of one) ≡ Less))

-- ---- what a scan knows of the key that it gave last

-- in the file the pair with this index leads to a partition of the key, which has the token of the pair, or that under the partitioner
pub record HoldsKey (bytes : Bytes) (opened : OpenDataFile) (tokens : Option Partitioner) (index : ℕ) (key : DecoratedKey) (part : Partition) : Type 0 where
  pub pair : Pair
  pub entry : HasEntry bytes opened.tree index pair
  pub token_is : key.token ≡ token_by tokens pair.token key.key
  pub in_table : IsBodyOf opened.types key.key part
  pub stands : HasAt bytes pair.place (length_prefixed (body key.key part))

-- the last of the passed pairs does, in any file
abbrev pub HoldsLast : Bytes → OpenDataFile → Option Partitioner → ℕ → Option DecoratedKey → Type 0
HoldsLast bytes opened tokens passed None = Unit {0}
HoldsLast bytes opened tokens passed (Some last) = (index : ℕ) × (part : Partition) × (passed ≡ index + 1) × HoldsKey bytes opened tokens index last part

-- and it is the key of the content's partition there
abbrev pub IsLastOf : Partitioner → Content → ℕ → Option DecoratedKey → Type 0
IsLastOf partitioner content passed None = Unit {0}
IsLastOf partitioner content passed (Some last) = (index : ℕ) × (part : Partition) × (drop index content ≡ (last.key, part) ∷ drop passed content) × (last.token ≡ token_of partitioner last.key)

-- the key that a scan with these tokens gave last, if it gave one, is that of the last of the passed pairs, also in a content
pub record IsLastKey (files : Option Folder) (opened : OpenDataFile) (tokens : Option Partitioner) (passed : ℕ) (last : Option DecoratedKey) : Type 0 where
  pub holds : (bytes : Bytes) → contents_in files opened.file ≡ Some bytes → HoldsLast bytes opened tokens passed last
  pub content : (bytes : Bytes) (partitioner : Partitioner) (content : Content) → AgreesWith tokens partitioner → contents_in files opened.file ≡ Some bytes → IsDataFile partitioner opened.types bytes content
      → IsOpenedAs opened partitioner content → KeysAreBytes content → IsLastOf partitioner content passed last

-- ---- damage

-- The damage is that of this file, in which two pairs, one behind the other, lead to partitions whose keys don't rise, under the tokens of the pairs or
-- under those of a partitioner. It is told of the later one.
pub record ShowsKeyDisorder (opened : OpenDataFile) (bytes : Bytes) (damage : Damage) : Type 0 where
  pub named : damage.file ≡ opened.file
  pub rule_is : damage.rule ≡ Order
  pub tokens : Option Partitioner
  pub before : ℕ
  pub index : ℕ
  pub follows : index ≡ before + 1
  pub last : DecoratedKey
  pub last_part : Partition
  pub key : DecoratedKey
  pub part : Partition
  pub has_last : HoldsKey bytes opened tokens before last last_part
  pub has_key : HoldsKey bytes opened tokens index key part
  pub disorder : decorated_cmp last key ≢ Less
  pub at_is : damage.at ≡ has_key.pair.place
  pub seen_is : seen_bytes damage.seen ≡ take 8 (partition_bytes key.key part)

-- the damage is that the partition at this offset doesn't come behind the last key
pub record TellsKeyDisorder (file : FileName) (place : ℕ) (last : Option DecoratedKey) (one : ℕ × Bytes × Partition) (damage : Damage) : Type 0 where
  pub before : DecoratedKey
  pub was : last ≡ Some before
  pub named : damage.file ≡ file
  pub rule_is : damage.rule ≡ Order
  pub disorder : decorated_cmp before (key_of one) ≢ Less
  pub at_is : damage.at ≡ place
  pub seen_is : seen_bytes damage.seen ≡ take 8 (partition_bytes one.1 one.2)
