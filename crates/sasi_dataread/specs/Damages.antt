-- Where a file breaks the format of a data file, and what is there.
use Rattle.std.specs.Prelude.{◌≡◌, ℕ, ◌+◌, ◌^◌, ◌<◌, List, length}
use Rattle.std.specs.Int.{to_be_bytes, w32, w64}
use Rattle.sasi_types.specs.declared.column.ColumnType.{ColumnType}
use Rattle.sasi_types.specs.declared.tree.Pair.{Pair}
use Rattle.sasi_host.specs.declared.name.FileName.{FileName}
use Rattle.sasi_host.specs.declared.damage.Damage.{Damage}
use Rattle.sasi_host.specs.declared.damage.FormatRule.TheVariants.{Number, Place}
use Rattle.sasi_host.specs.Names.{Bytes}
use Rattle.sasi_host.specs.Damages.{HasAt, ShowsEnd, seen_bytes}
use Rattle.sasi_body.specs.Body.{body_of}
use Rattle.sasi_formats.specs.Failures.{HasOtherLength}
use Rattle.sasi_formats.specs.Parts.{ShowsBrokenPart}
use Rattle.sasi_framing.specs.Damages.{ShowsFraming}
use Rattle.sasi_tokentree.specs.Damages.{ShowsPairs, pair_offset}
use Rattle.sasi_tokentree.specs.Scans.{HasEntry}
use Rattle.sasi_datawrite.specs.declared.footer.Footer.{Footer}
use Rattle.sasi_dataread.specs.Opened.{OpenDataFile}
use Rattle.sasi_dataread.specs.Bodies.{length_prefixed, IsLength, IsPartitionOffset}
use Rattle.sasi_dataread.specs.KeyOrder.{ShowsKeyDisorder}
use Rattle.sasi_dataread.specs.HeaderAndFooter.{HasHeaderAndFooter, data_framing}

-- ---- the header and the footer

-- the damage is that of this file: it is too short for a data file, or the mark at its end, its header or the numbers of its
-- footer break their format
abbrev pub ShowsHeaderOrFooter : FileName → Bytes → Damage → Type 0
ShowsHeaderOrFooter file = ShowsFraming data_framing file

-- ---- a partition at an offset, which has to end where the partitions do, or before

-- the file has a length there that no body has
pub record IsWrongLength (end place : ℕ) (file : FileName) (bytes : Bytes) (damage : Damage) : Type 0 where
  pub named : damage.file ≡ file
  pub rule : damage.rule ≡ Number
  pub at : damage.at ≡ place
  pub stands : HasAt bytes place (seen_bytes damage.seen)
  pub count : ℕ
  pub told : seen_bytes damage.seen ≡ to_be_bytes w32 count
  pub fits : count < 2 ^ 32
  pub wrong : ¬ IsLength end place count

-- the bytes behind it are a body of another length
pub record IsOfOtherLength (types : List ColumnType) (place : ℕ) (file : FileName) (bytes : Bytes) (damage : Damage) : Type 0 where
  pub named : damage.file ≡ file
  pub rule : damage.rule ≡ Number
  pub at : damage.at ≡ place
  pub body : Bytes
  pub stands : HasAt bytes place (length_prefixed body)
  pub fits : length body < 2 ^ 32
  pub told : seen_bytes damage.seen ≡ to_be_bytes w32 (length body)
  pub other : HasOtherLength (body_of types) body

-- the damage is that of this file, which has no partition of a table with these types at the offset
pub data ShowsPartition (types : List ColumnType) (end place : ℕ) (file : FileName) (bytes : Bytes) (damage : Damage) : Type 0 where
  -- it ends within the length, or within the bytes of that length
  no_length : ShowsEnd (place + 4) file bytes damage → ShowsPartition types end place file bytes damage
  no_body : (count : ℕ) → HasAt bytes place (to_be_bytes w32 count) → IsLength end place count → ShowsEnd (place + 4 + count) file bytes damage → ShowsPartition types end place file bytes damage
  wrong_length : IsWrongLength end place file bytes damage → ShowsPartition types end place file bytes damage
  other_length : IsOfOtherLength types place file bytes damage → ShowsPartition types end place file bytes damage
  -- or the body behind it breaks a rule of bodies
  broken_body : (count : ℕ) → count < 2 ^ 32 → HasAt bytes place (to_be_bytes w32 count) → ShowsBrokenPart (body_of types) (place + 4) count file bytes damage → ShowsPartition types end place file bytes damage

-- ---- an open file

-- no partition can begin at the offset to which the pair with this index leads
pub record LeadsNowhere (opened : OpenDataFile) (index place : ℕ) (damage : Damage) : Type 0 where
  pub named : damage.file ≡ opened.file
  pub rule : damage.rule ≡ Place
  pub at : damage.at ≡ pair_offset opened.tree index + 8
  pub told : seen_bytes damage.seen ≡ to_be_bytes w64 place
  pub wrong : ¬ IsPartitionOffset opened.end place

-- the damage is that of the pair with this index, which leads to this offset, or of the partition there
pub data ShowsPair (opened : OpenDataFile) (index place : ℕ) (bytes : Bytes) (damage : Damage) : Type 0 where
  leads_nowhere : LeadsNowhere opened index place damage → ShowsPair opened index place bytes damage
  in_partition : IsPartitionOffset opened.end place → ShowsPartition opened.types opened.end place opened.file bytes damage → ShowsPair opened index place bytes damage

-- the damage is that of the key tree or of the order of its pairs, of the order of two partitions to which they lead, or of one pair and the partition to which it leads
pub data ShowsData (opened : OpenDataFile) (bytes : Bytes) (damage : Damage) : Type 0 where
  in_tree : ShowsPairs opened.file opened.tree bytes damage → ShowsData opened bytes damage
  of_keys : ShowsKeyDisorder opened bytes damage → ShowsData opened bytes damage
  at_pair : (index : ℕ) (pair : Pair) → HasEntry bytes opened.tree index pair → ShowsPair opened index pair.place bytes damage → ShowsData opened bytes damage

-- ---- a data file

-- the view of a file of a table with these types, opened by these numbers of its footer
abbrev pub opened_by : FileName → List ColumnType → Footer → OpenDataFile
opened_by file types numbers = record { file = file; types = types; tree = numbers.tree; max_timestamp = numbers.max_timestamp; end = numbers.end }

-- the damage is that of this data file of a table with these types: of its header or its footer, or of a part to which the footer leads
pub data ShowsDataFile (types : List ColumnType) (file : FileName) (bytes : Bytes) (damage : Damage) : Type 0 where
  outside : ShowsHeaderOrFooter file bytes damage → ShowsDataFile types file bytes damage
  inside : (numbers : Footer) → HasHeaderAndFooter bytes numbers → ShowsData (opened_by file types numbers) bytes damage → ShowsDataFile types file bytes damage
