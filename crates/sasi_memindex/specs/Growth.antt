-- Maps to which indexes were added.
use Rattle.std.specs.Prelude.{◌≡◌, ◌++◌, Option, None, Some}
use Rattle.sasi_memindex.specs.declared.map_part.MapPart.{MapPart}
use Rattle.sasi_memindex.specs.MemIndexView.{Numbered}

-- the map has what it had, and behind the indexes that it had perhaps further ones
pub record HasGrown (was now : MapPart) : Type 0 where
  pub same : now.map ≡ was.map
  pub added : Numbered
  pub indexes_are : now.indexes ≡ was.indexes ++ added

-- **At most indexes were added**: the map is missing still, or is there still with all that it had.
abbrev pub IsGrown : Option MapPart → Option MapPart → Type 0
IsGrown None None = Unit {0}
IsGrown None (Some now) = ⊥
IsGrown (Some was) None = ⊥
IsGrown (Some was) (Some now) = HasGrown was now
