-- A look-up before its first token.
use Rattle.std.proofs.Common.{ℕ, List, [], ◌∷◌, map, Option}
use Rattle.sasi_types.specs.declared.column.ColumnType.{ColumnType}
use Rattle.sasi_types.specs.declared.partitioner.Partitioner.{Partitioner}
use Rattle.sasi_host.specs.Names.{Folder}
use Rattle.sasi_datawrite.specs.Format.{Content}
use Rattle.sasi_manifest.specs.declared.files.ListedFile.{ListedFile}
use Rattle.sasi_scan.specs.Parts.{AreContents}
use Rattle.sasi_lookup.specs.Lookups.{AreDataOf, FilesReady, unopened_files}

pub unopened_ready : (types : List ColumnType) (seen : Option Folder) (numbers : List ℕ) → FilesReady types seen (unopened_files numbers)
unopened_ready types seen [] = tt
unopened_ready types seen (number ∷ numbers) = (tt, unopened_ready types seen numbers)

pub unopened_look : (seen : Option Folder) (p : Partitioner) (types : List ColumnType) (files : List ListedFile) (contents : List Content) → AreContents seen p types files contents
    → AreDataOf seen p types (unopened_files (map (λ (file : ListedFile). file.number) files)) contents
unopened_look seen p types [] [] have = have
unopened_look seen p types [] (content ∷ contents) have = absurd have
unopened_look seen p types (file ∷ files) [] have = absurd have
unopened_look seen p types (file ∷ files) (content ∷ contents) have = (
  record { bytes = have.0.bytes; reads = have.0.reads; data_file = have.0.data_file; of_bytes = have.0.keys; opened_as = tt },
  unopened_look seen p types files contents have.1,
)
