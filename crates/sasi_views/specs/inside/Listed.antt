-- The obsolete files among the entries of a map.
use Rattle.std.specs.Prelude.{◌==◌, Bool, not, ◌&&◌, cond, List, [], ◌∷◌}
use Rattle.sasi_host.specs.declared.name.FileName.{FileName}
use Rattle.sasi_views.specs.declared.component.Component.{Component}
use Rattle.sasi_views.specs.declared.component.Component.TheVariants.{File, Map}
use Rattle.sasi_views.specs.declared.counted.Counted.{Counted}

abbrev pub is_obsolete : Counted → Bool
is_obsolete s = not s.current && not (s.count == 0)

-- in front of others, if it is an obsolete file
abbrev pub listed_as : Component → Bool → List FileName → List FileName
listed_as (File name) obsolete rest = cond obsolete (name ∷ rest) rest
listed_as (Map number) obsolete rest = rest

-- in their order
abbrev pub obsolete_files : List (Component × Counted) → List FileName
obsolete_files [] = []
obsolete_files (e ∷ es) = listed_as e.0 (is_obsolete e.1) (obsolete_files es)
