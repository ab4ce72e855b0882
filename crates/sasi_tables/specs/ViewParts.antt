-- The parts that a view of a table lists.
use Rattle.std.specs.Prelude.{ℕ, ◌-◌, List, [], ◌++◌, map, slice_get}
use Rattle.std.specs.Option.{option_map_or}
use Rattle.sasi_manifest.specs.declared.files.ListedFile.{ListedFile}
use Rattle.sasi_manifest.specs.Edits.{files_of}
use Rattle.sasi_views.specs.declared.part.Part.{Part}
use Rattle.sasi_views.specs.declared.part.Part.TheVariants.{File, Map}
use Rattle.sasi_tables.specs.Held.{numbers_of}
use Rattle.sasi_tables.specs.declared.parts.Parts.{Parts}
use Rattle.sasi_tables.specs.declared.table_maps.TableMaps.{TableMaps}

-- a listed data file, with the index files that go with it
abbrev pub file_part : ListedFile → Part
file_part f = File f.number f.parts

-- each of these data files, and then the maps with these numbers
abbrev pub listed_parts : List ListedFile → List ℕ → List Part
listed_parts files numbers = map file_part files ++ map (λ number. Map number) numbers

-- the numbers of the maps of the table with this number, none where there is no such table
abbrev pub table_numbers : List TableMaps → ℕ → List ℕ
table_numbers tables table = option_map_or numbers_of (slice_get tables (table - 1)) []

-- those of its frozen maps
abbrev pub frozen_numbers : List TableMaps → ℕ → List ℕ
frozen_numbers tables table = option_map_or (λ (t : TableMaps). t.frozen) (slice_get tables (table - 1)) []

-- **The current parts of the table with this number**: its listed data files, rising by number, its frozen maps, the oldest first, and its memtable.
abbrev pub current_parts : Parts → ℕ → List Part
current_parts p table = listed_parts (files_of p.manifest.listing.tables table) (table_numbers p.tables.items table)

-- **The same without the memtable**, which is what a cursor sees of the table.
abbrev pub aside_parts : Parts → ℕ → List Part
aside_parts p table = listed_parts (files_of p.manifest.listing.tables table) (frozen_numbers p.tables.items table)
