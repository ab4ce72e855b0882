-- Searches of a file.
use Rattle.std.specs.Prelude.{◌≡◌}
use Rattle.sasi_host.specs.declared.name.FileName.{FileName}
use Rattle.sasi_host.specs.View.{View}
use Rattle.sasi_indexread.specs.Searches.{CanSearch, Searching}

-- it can go on
pub record IsSearchOf (file : FileName) (v : View) (search : Searching) : Type 0 where
  pub named : search.index.file ≡ file
  pub can : CanSearch v search
