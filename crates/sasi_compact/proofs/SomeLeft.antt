-- A merge of data files has a partition, since each file has one.
use Rattle.std.proofs.Common.{◌≡◌, ◌≤◌, ◌<◌, ◌∙◌, ℕ, List, [], ◌∷◌, cond, length, Option, None, Some, is_some, true, refl, sym, ap, arith}
use Rattle.std.proofs.lemmas.Cmp.{tied_itself}
use Rattle.std.specs.FinMap as map_
use Rattle.std.specs.FinMap.{find}
use Rattle.std.specs.Ordering.{is_eq}
use Rattle.sasi_types.specs.declared.column.ColumnType.{ColumnType}
use Rattle.sasi_types.specs.declared.decorated_key.DecoratedKey.{DecoratedKey}
use Rattle.sasi_types.specs.declared.partitioner.Partitioner.{Partitioner}
use Rattle.sasi_types.specs.DecoratedKey.{decorated_cmp, decorated_total}
use Rattle.sasi_cells.specs.Maps.{joined, merged}
use Rattle.sasi_host.specs.Names.{Folder}
use Rattle.sasi_model.specs.Abbreviations.{Partitions}
use Rattle.sasi_model.specs.Cells.{Partition}
use Rattle.sasi_datawrite.specs.Format.{Content}
use Rattle.sasi_manifest.specs.declared.files.ListedFile.{ListedFile}
use Rattle.sasi_merge.specs.Streams.{Entries, maps_of}
use Rattle.sasi_scan.specs.Finding.{found_in}
use Rattle.sasi_scan.specs.Parts.{AreContents, entries_of, merged_parts, part_entries}
use Rattle.sasi_scan.proofs.KeyLookups.{found_merged}
use Rattle.sasi_compact.specs.Tasks.{CanCompact, HasAllLeft, files_numbered, sources_of}
use Rattle.sasi_compact.specs.declared.compaction.Compaction.{Compaction}

-- a map has the key of its first entry
first_found : (e : DecoratedKey × Partition) (es : Entries) → is_some (map_.get (map_.from_entries {R = decorated_cmp} (e ∷ es)) e.0) ≡ true
first_found e es =
    ap is_some (map_.get-from_entries decorated_total (e ∷ es) e.0 ∙ ap (λ r. cond (is_eq r) (Some e.1) (find decorated_cmp e.0 es)) (tied_itself decorated_total e.0))

-- what is found stays found in further maps
still_found : (q : DecoratedKey) (base : Option Partition) (ms : List Partitions) → is_some base ≡ true → is_some (found_in q base ms) ≡ true
still_found q base [] some = some
still_found q base (m ∷ ms) some = still_found q (joined base (map_.get m q)) ms (by base (map_.get m q) some)
  where
    by : (a b : Option Partition) → is_some a ≡ true → is_some (joined a b) ≡ true
    by a None some = some
    by a (Some part) some = refl

joined_found : (base found : Option Partition) → is_some found ≡ true → is_some (joined base found) ≡ true
joined_found base None some = absurd cc
joined_found base (Some part) some = refl

-- so the merge of maps has the first key of the first one
merged_some : (e : DecoratedKey × Partition) (es : Entries) (others : List Entries) → is_some (map_.get (merged (maps_of ((e ∷ es) ∷ others))) e.0) ≡ true
merged_some e es others =
    ap is_some (found_merged e.0 (maps_of ((e ∷ es) ∷ others)))
    ∙ still_found e.0 (joined None (map_.get (map_.from_entries {R = decorated_cmp} (e ∷ es)) e.0)) (maps_of others) (joined_found None (map_.get (map_.from_entries {R = decorated_cmp} (e ∷ es)) e.0) (first_found e es))

some_entry : (m : Partitions) (q : DecoratedKey) → is_some (map_.get m q) ≡ true → 0 < length (map_.entries m)
some_entry m q some = by (map_.entries m) (sym (ap is_some (map_.get-entries m q)) ∙ some)
  where
    by : (es : Entries) → is_some (find decorated_cmp q es) ≡ true → 0 < length es
    by [] is = absurd cc
    by (e ∷ es) is = omega arith

contents_some : (seen : Option Folder) (p : Partitioner) (types : List ColumnType) (files : List ListedFile) (contents : List Content) → 1 ≤ length files → AreContents seen p types files contents → 0 < length (map_.entries (merged_parts p contents []))
contents_some seen p types [] contents some are = absurd (omega (arith, some))
contents_some seen p types (file ∷ files) [] some are = absurd are
contents_some seen p types (file ∷ files) ([] ∷ contents) some are = absurd (omega (arith, are.0.data_file.content_is.some))
contents_some seen p types (file ∷ files) ((one ∷ content) ∷ contents) some are =
    some_entry (merged_parts p ((one ∷ content) ∷ contents) []) _ (merged_some _ (entries_of p content) (part_entries p contents []))

length_numbered : (numbers : List ℕ) → length (files_numbered numbers) ≡ length numbers
length_numbered [] = refl
length_numbered (n ∷ numbers) = omega (arith, length_numbered numbers)

-- **Before the first unit some of the merge is left.**
pub some_left : (seen : Option Folder) (c : Compaction) (passed left : Entries) → CanCompact c → HasAllLeft seen c passed left → 0 < length left
some_left seen c passed left can all =
    omega (arith, ap (λ (es : Entries). length es) all.all_left, contents_some seen c.partitioner c.types (sources_of c) all.contents (omega (arith, can.some, length_numbered c.sources)) all.are)
