-- The contents of the data files of a table of a layout.
use Rattle.std.specs.Prelude.{List, map}
use Rattle.std.specs.FinMap.{entries}
use Rattle.sasi_model.specs.Abbreviations.{Partitions}
use Rattle.sasi_datawrite.specs.Format.{Content}
use Rattle.sasi_layout.specs.Layout.{File, TableParts}

-- the keys of a map and their partitions, in order
abbrev pub content_of : Partitions → Content
content_of m = map (λ e. (e.0.key, e.1)) (entries m)

-- the contents of a table's data files
abbrev pub file_contents : TableParts → List Content
file_contents t = map (λ (f : File). content_of f.holds) t.files
