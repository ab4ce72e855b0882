-- The files of a layout by their names, in the order in which they are told.
use Rattle.std.specs.Prelude.{List, map}
use Rattle.std.specs.List.{flat_map}
use Rattle.std.specs.Ordering.{nat_cmp, ordering_then}
use Rattle.std.specs.declared.cmp.Ordering.{Ordering}
use Rattle.sasi_host.specs.Names.{rank}
use Rattle.sasi_host.specs.declared.name.FileName.{FileName}
use Rattle.sasi_manifest.specs.ListedFiles.{names_of}
use Rattle.sasi_manifest.specs.declared.files.ListedFile.{ListedFile}
use Rattle.sasi_segments.specs.Sorting.{sort}
use Rattle.sasi_layout.specs.Layout.{File, Layout, TableParts}

-- by the number of the data file; the data file before the index files that go with it, and those by their indexes and parts
abbrev pub told_cmp : FileName → FileName → Ordering
told_cmp a b = ordering_then (nat_cmp a.number b.number) (ordering_then (nat_cmp (rank a.kind) (rank b.kind)) (ordering_then (nat_cmp a.index b.index) (nat_cmp a.part b.part)))

-- the data files and index files that these tables have
abbrev pub names_listed : List (List ListedFile) → List FileName
names_listed tables = flat_map (λ files. flat_map names_of files) tables

-- the names of the current files of all tables, in that order
abbrev pub file_names : Layout → List FileName
file_names l = sort told_cmp (names_listed (map (λ (t : TableParts). map (λ (f : File). f.listed) t.files) l.tables))
