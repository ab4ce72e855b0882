-- The maps in memory that a view of a table names by their numbers.
use Rattle.std.specs.Prelude.{ℕ, List, [], ◌∷◌}
use Rattle.std.specs.Coded.{Coded, coded_list}
use Rattle.std.specs.FinMap.{get}
use Rattle.std.specs.List.{flat_map}
use Rattle.std.specs.Option.{option_map_or}
use Rattle.sasi_memindex.specs.Book.{Book}
use Rattle.sasi_memindex.specs.declared.map_part.MapPart.{MapPart}
use Rattle.sasi_memtable.specs.MemtableView.{MemtableView, coded_memtable}

-- the memtable with this number, as a list of one; no memtable where the book hasn't the number
abbrev pub view_numbered : Book → ℕ → List MemtableView
view_numbered book number = option_map_or (λ (part : MapPart). part.map ∷ []) (get book number) []

-- the memtables with these numbers that the book has, in the order of the numbers
abbrev pub views_numbered : Book → List ℕ → List MemtableView
views_numbered book numbers = flat_map (view_numbered book) numbers

abbrev pub coded_views : Coded (List MemtableView)
coded_views = coded_list coded_memtable
