-- A part's components are listed once each.
use Rattle.std.proofs.Common.{ℕ, [], ◌∷◌, refl}
use Rattle.std.specs.List.{IsDistinct}
use Rattle.sasi_manifest.specs.ListedFiles.{index_name}
use Rattle.sasi_host.specs.Names.{data_name}
use Rattle.sasi_views.specs.declared.component.Component.TheVariants.{File, Map}
use Rattle.sasi_views.specs.Components.{same}
use Rattle.sasi_views.specs.Parts.{ListsOnce}
use Rattle.sasi_views.proofs.BookLaws.{listed_once}
use Rattle.sasi_views_tests.specs.OneView.{one_file, one_map}

file_apart : (number index part : ℕ) → IsDistinct same (File (data_name number) ∷ File (index_name number (record { index = index; part = part })) ∷ [])
unfolding IsDistinct
file_apart number index part = ((refl, tt), (tt, tt))

map_apart : (number : ℕ) → IsDistinct same (Map number ∷ [])
unfolding IsDistinct
map_apart number = (tt, tt)

pub file_once : (number index part : ℕ) → ListsOnce (one_file number index part)
file_once number index part = listed_once (File (data_name number) ∷ File (index_name number (record { index = index; part = part })) ∷ []) (file_apart number index part)

pub map_once : (number : ℕ) → ListsOnce (one_map number)
map_once number = listed_once (Map number ∷ []) (map_apart number)
