-- What is kept of a cursor between its calls.
use Rattle.std.specs.Prelude.{◌≡◌, ℕ, true, List, Option}
use Rattle.sasi_types.specs.declared.column.ColumnType.{ColumnType}
use Rattle.sasi_host.specs.declared.damage.Damage.{Damage}
use Rattle.sasi_host.specs.declared.name.FileName.{FileName}
use Rattle.sasi_host.specs.Names.{Folder}
use Rattle.sasi_memindex.specs.Book.{Book}
use Rattle.sasi_sources.specs.Maps.{IsOneOf}
use Rattle.sasi_engine.specs.Plans.{is_file_of, map_numbers}
use Rattle.sasi_plan.specs.Reading.{PendingShows}
use Rattle.sasi_plan.specs.contracts.plan_candidates.PlanCandidatesCandidates.TheImpl as source
use Rattle.sasi_views.specs.declared.part.Part.{Part}
use Rattle.sasi_fetch.specs.declared.cursor.Cursor.{Cursor}

-- the parts of its view
abbrev pub view_of : Cursor → List Part
view_of c = c.reader.rows.candidates.view

-- **It can be read on**, in any folder and with this book of maps: it reads no file but those of its view, looks at no map but those of its view, and
-- reports no damage but what files of these types show there.
pub record IsReadable (types : List ColumnType) (files : Option Folder) (book : Book) (c : Cursor) : Type 0 where
  pub ready : source.ready-value.it c.reader.rows.candidates files book
  pub prints : source.prints-value.it c.reader.rows.candidates files book c.reader.picked.key
  pub opens : (name : FileName) → source.opens-value.it c.reader.rows.candidates name → is_file_of (view_of c) name ≡ true
  pub uses : (number : ℕ) → source.uses-value.it c.reader.rows.candidates number → IsOneOf (map_numbers (view_of c)) number
  pub shows : (seen : Option Folder) (damage : Damage) → source.shows-value.it c.reader.rows.candidates seen damage → PendingShows types (view_of c) seen damage
