-- The index files of a flush are there for the table once they are durable.
use Rattle.std.proofs.Common.{◌≡◌, ℕ, suc, Bool, true, false, nat_eq, if◌then◌else◌, List, [], ◌∷◌, sym, ap, ◌∙◌, subst, refl, arith}
use Rattle.std.proofs.lemmas.Bool.Decides.{nat_tests}
use Rattle.std.proofs.lemmas.List.Elements.{All-contains, All-from_recursion}
use Rattle.std.specs.Prelude.{Contains, Some}
use Rattle.std.specs.List.{AllByRecursion}
use Rattle.std.specs.Option.{option_map_or}
use Rattle.sasi_types.specs.declared.column.ColumnType.{ColumnType}
use Rattle.sasi_types.specs.declared.index_def.IndexDef.{IndexDef}
use Rattle.sasi_types.specs.declared.partitioner.Partitioner.{Partitioner}
use Rattle.sasi_host.specs.Names.{Folder}
use Rattle.sasi_host.specs.View.{IsSound, View}
use Rattle.sasi_host.specs.Disk.{Each}
use Rattle.sasi_host.proofs.Durability.{file_durable_contents}
use Rattle.sasi_model.specs.Abbreviations.{Partitions}
use Rattle.sasi_model.specs.Indexes.{index_of}
use Rattle.sasi_cells.specs.Maps.{merged}
use Rattle.sasi_datawrite.specs.Format.{Content}
use Rattle.sasi_manifest.proofs.Replacing.{At}
use Rattle.sasi_manifest.specs.declared.files.PartNumber.{PartNumber}
use Rattle.sasi_manifest.specs.ListedFiles.{index_name}
use Rattle.sasi_pairs.specs.SealedFiles.{HasDurableIndex}
use Rattle.sasi_postings.specs.IndexFiles.{IsIndexFor}
use Rattle.sasi_layout.specs.Flushed.{contents_of}
use Rattle.sasi_layout.specs.Layout.{Layout, TableParts, numbered, numbered_indexes, unflushed}
use Rattle.sasi_layout.specs.Moves.{flush_parts, parts_drawn}
use Rattle.sasi_layout.specs.Shape.{HasIndexFile}
use Rattle.sasi_layout.proofs.NewFiles.{HasIndexes}
use Rattle.sasi_layout.proofs.Numbered.{at_past}
use Rattle.sasi_tables.specs.Flushing.{AreTableIndexes, AreWritten, IsTableIndex}

module _ (b : View) (sound : IsSound b) (x : Folder) (now : b.image x) (p : Partitioner) (file : ℕ) (defs : List IndexDef) (content : Content) where
  -- a durable index file is that of an index of the table
  part_there : (t : TableParts) (part : PartNumber) → AreTableIndexes defs t → HasDurableIndex b file p defs content part → HasIndexFile x p t.definition t.numbers file content part
  part_there t part indexes has =
      let is : IsTableIndex t has.def = All-contains (IsTableIndex t) defs has.def (All-from_recursion (IsTableIndex t) defs indexes) has.listed in
      record {
        index = index_of has.def;
        defined = subst (λ (n : ℕ). Contains (numbered_indexes t) (n, index_of has.def)) has.numbered is.listed;
        bytes = has.bytes;
        there = has.kept x now;
        stands = subst (λ (k : ColumnType). IsIndexFor p has.def.mode k has.def.column has.def.rule content has.bytes) (sym is.kind) has.stands;
        fits = sound.fits (index_name file part) has.bytes (file_durable_contents b (index_name file part) has.bytes sound (sound.told x now) has.kept);
      }

  parts_there : (t : TableParts) (parts : List PartNumber) → AreTableIndexes defs t → AllByRecursion (HasDurableIndex b file p defs content) parts → AllByRecursion (HasIndexFile x p t.definition t.numbers file content) parts
  parts_there t [] indexes has = tt
  parts_there t (part ∷ parts) indexes has = (part_there t part indexes has.0, parts_there t parts indexes has.1)

  module _ (used table : ℕ) (m : Partitions) (parts : List PartNumber) (same : content ≡ contents_of m) (has : AllByRecursion (HasDurableIndex b file p defs content) parts) where
    table_there : (t : TableParts) → parts ≡ parts_drawn used t → merged (unflushed t) ≡ m → AreTableIndexes defs t → HasIndexes x p file used t
    table_there t drawn holds indexes =
        subst (λ (ps : List PartNumber). AllByRecursion (HasIndexFile x p t.definition t.numbers file (contents_of (merged (unflushed t)))) ps) drawn
        (subst (λ (c : Content). AllByRecursion (HasIndexFile x p t.definition t.numbers file c) parts) (same ∙ ap contents_of (sym holds)) (parts_there t parts indexes has))

    tables_there : (n : ℕ) (ts : List TableParts) → parts ≡ option_map_or (parts_drawn used) (numbered n table ts) [] → At n table (λ (t : TableParts). merged (unflushed t) ≡ m) ts → At n table (AreTableIndexes defs) ts
        → At n table (HasIndexes x p file used) ts
    tables_there n [] drawn holds indexes = tt
    tables_there n (t ∷ ts) drawn holds indexes = by (nat_eq n table) refl drawn (λ rest. tables_there (suc n) ts rest holds.1 indexes.1)
      where
        by : (own : Bool) → nat_eq n table ≡ own → parts ≡ option_map_or (parts_drawn used) (if own then Some t else numbered (suc n) table ts) []
            → (parts ≡ option_map_or (parts_drawn used) (numbered (suc n) table ts) [] → At (suc n) table (HasIndexes x p file used) ts) → At n table (HasIndexes x p file used) (t ∷ ts)
        by true is here rest =
            let same_number : n ≡ table = grind (arith, nat_tests, is) in
            ((λ own. table_there t here (holds.0 own) (indexes.0 own)), at_past (suc n) table (HasIndexes x p file used) ts (omega (arith, same_number)))
        by false is here rest = ((λ own. (let never : true ≡ false = sym own ∙ is in cc)), rest here)

-- **Each image has the index files that the layout wants of the table.**
pub each_indexed : (b : View) → IsSound b → (table : ℕ) (l : Layout) (defs : List IndexDef) (parts : List PartNumber) (m : Partitions) → parts ≡ flush_parts table l → At 1 table (λ (t : TableParts). merged (unflushed t) ≡ m) l.tables
    → At 1 table (AreTableIndexes defs) l.tables → AreWritten b (suc l.used.«data») l.partitioner defs parts (contents_of m) → Each b (λ x. At 1 table (HasIndexes x l.partitioner (suc l.used.«data») l.used.part) l.tables)
each_indexed b sound table l defs parts m drawn holds indexes written x now =
    tables_there b sound x now l.partitioner (suc l.used.«data») defs (contents_of m) l.used.part table m parts refl written.indexes 1 l.tables drawn holds indexes
