-- The components of parts.
use Rattle.std.specs.Prelude.{◌≤◌, List, [], ◌∷◌, map}
use Rattle.std.specs.List.{flat_map}
use Rattle.sasi_host.specs.declared.name.FileName.{FileName}
use Rattle.sasi_host.specs.Names.{data_name}
use Rattle.sasi_manifest.specs.ListedFiles.{index_name}
use Rattle.sasi_views.specs.declared.component.Component.{Component}
use Rattle.sasi_views.specs.declared.component.Component.TheVariants as component
use Rattle.sasi_views.specs.declared.part.Part.{Part}
use Rattle.sasi_views.specs.declared.part.Part.TheVariants.{File, Map}
use Rattle.sasi_views.specs.Components.{lists}

-- a data file and its index files, or a map
abbrev pub part_components : Part → List Component
part_components (File number indexes) = component.File (data_name number) ∷ map (λ p. component.File (index_name number p)) indexes
part_components (Map number) = component.Map number ∷ []

-- those of the parts, one after another
abbrev pub components_of : List Part → List Component
components_of parts = flat_map part_components parts

-- ---- their files

-- the data file of a part, and its index files
abbrev pub names_of : Part → List FileName
names_of (File number indexes) = data_name number ∷ map (index_name number) indexes
names_of (Map number) = []

-- those of the parts of a view
abbrev pub view_names : List Part → List FileName
view_names parts = flat_map names_of parts

-- no component stands twice among those of the parts
abbrev pub ListsOnce : List Part → Type 0
ListsOnce parts = (c : Component) → lists c (components_of parts) ≤ 1
