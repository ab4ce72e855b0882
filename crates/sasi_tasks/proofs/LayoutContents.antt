-- belongs in sasi_compact
-- The data files of a table of a layout, as a compaction reads them before its first unit.
use Rattle.std.proofs.Common.{◌≡◌, ℕ, List, [], ◌∷◌, map, Option, Some, refl, sym, ap, subst, ◌∙◌}
use Rattle.std.proofs.lemmas.List.{append-nil}
use Rattle.std.specs.FinMap as map_
use Rattle.std.specs.List.{AllByRecursion}
use Rattle.sasi_types.specs.declared.column.ColumnType.{ColumnType}
use Rattle.sasi_types.specs.declared.partitioner.Partitioner.{Partitioner}
use Rattle.sasi_cells.specs.Maps.{merged}
use Rattle.sasi_host.specs.Names.{Folder}
use Rattle.sasi_host.specs.View.{View}
use Rattle.sasi_datawrite.specs.Format.{Content}
use Rattle.sasi_layout.specs.Layout.{File}
use Rattle.sasi_layout.specs.Shape.{HasFile}
use Rattle.sasi_manifest.specs.declared.files.ListedFile.{ListedFile}
use Rattle.sasi_merge.specs.Streams.{Entries, maps_of}
use Rattle.sasi_model.specs.Abbreviations.{Partitions, types_of}
use Rattle.sasi_model.specs.State.{Definition}
use Rattle.sasi_scan.specs.Parts.{AreContents, entries_of, merged_parts}
use Rattle.sasi_compact.specs.Tasks.{HasAllLeft, files_numbered, sources_of}
use Rattle.sasi_compact.specs.declared.compaction.Compaction.{Compaction}

-- the numbers of the files
abbrev pub numbers_in : List File → List ℕ
numbers_in fs = map (λ (f : ListedFile). f.number) (map (λ (f : File). f.listed) fs)

-- the merge of what they hold
abbrev pub merged_files : List File → Partitions
merged_files fs = merged (map (λ (f : File). f.holds) fs)

module _ (x : Folder) (q : Partitioner) (d : Definition) (ns : List ℕ) where
  abbrev contents_of : (fs : List File) → AllByRecursion (HasFile x q d ns) fs → List Content
  contents_of [] has = []
  contents_of (f ∷ fs) has = has.0.content ∷ contents_of fs has.1

  are_contents : (fs : List File) (has : AllByRecursion (HasFile x q d ns) fs) → AreContents (Some x) q (types_of d) (files_numbered (numbers_in fs)) (contents_of fs has)
  are_contents [] has = tt
  are_contents (f ∷ fs) has = (record { bytes = has.0.bytes; reads = has.0.there; data_file = has.0.data_file; keys = has.0.keys }, are_contents fs has.1)

  maps_are : (fs : List File) (has : AllByRecursion (HasFile x q d ns) fs) → maps_of (map (entries_of q) (contents_of fs has)) ≡ map (λ (f : File). f.holds) fs
  maps_are [] has = refl
  maps_are (f ∷ fs) has = (let one = has.0.holds in let rest = maps_are fs has.1 in λ i. sym one i ∷ rest i)

  merge_is : (fs : List File) (has : AllByRecursion (HasFile x q d ns) fs) → merged_parts q (contents_of fs has) [] ≡ merged_files fs
  merge_is fs has = ap (λ (es : List Entries). merged (maps_of es)) (append-nil (map (entries_of q) (contents_of fs has))) ∙ ap merged (maps_are fs has)

  -- **A compaction of all of them has the whole merge left.**
  pub all_left : (v : View) (c : Compaction) (fs : List File) → AllByRecursion (HasFile x q d ns) fs → v.files ≡ Some x → c.partitioner ≡ q → c.types ≡ types_of d → c.sources ≡ numbers_in fs → HasAllLeft v.files c [] (map_.entries (merged_files fs))
  all_left v c fs has files partitioner types sources =
      let contents = contents_of fs has in
      record {
        contents = contents;
        are = subst (λ (o : Option Folder). AreContents o c.partitioner c.types (sources_of c) contents) (sym files)
            (subst (λ (k : Partitioner). AreContents (Some x) k c.types (sources_of c) contents) (sym partitioner)
            (subst (λ (ts : List ColumnType). AreContents (Some x) q ts (sources_of c) contents) (sym types)
            (subst (λ (numbers : List ℕ). AreContents (Some x) q (types_of d) (files_numbered numbers) contents) (sym sources) (are_contents fs has))));
        none_passed = refl;
        all_left = ap map_.entries (sym (merge_is fs has)) ∙ ap (λ (k : Partitioner). map_.entries (merged_parts k contents [])) (sym partitioner);
      }
