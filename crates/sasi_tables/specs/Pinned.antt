-- What a change of tables leaves of the maps that a view lists which is out: a reader that has the view can go on reading.
use Rattle.std.specs.Prelude.{◌≡◌, ◌<◌, ◌≤◌, ℕ, Contains, List, slice_get, None, Some}
use Rattle.std.specs.FinMap.{get}
use Rattle.sasi_memindex.specs.Growth.{IsGrown}
use Rattle.sasi_views.specs.Books.{Book, count_of}
use Rattle.sasi_views.specs.declared.component.Component.TheVariants.{Map}
use Rattle.sasi_tables.specs.Held.{IsOfTable}
use Rattle.sasi_tables.specs.declared.parts.Parts.{Parts}
use Rattle.sasi_tables.specs.declared.table_maps.TableMaps.{TableMaps}

-- the map with this number is the memtable of one of the tables
abbrev pub IsMemtable : List TableMaps → ℕ → Type 0
IsMemtable tables number = (at : ℕ) × (t : TableMaps) × (slice_get tables at ≡ Some t) × (t.memtable ≡ number)

-- The map with this number was frozen: it has been numbered, and no table writes into it.
pub record IsAside (p : Parts) (number : ℕ) : Type 0 where
  pub numbered : number ≤ p.last_map
  pub apart : IsMemtable p.tables.items number → ⊥

-- **Of the maps with these numbers those are gone that no table has and no view lists which is out**, and all else stays.
pub record AreReleased (views : Book) (numbers : List ℕ) (old new : Parts) : Type 0 where
  pub rest : new ≡ record old { maps = new.maps }
  pub gone : (number : ℕ) → Contains numbers number → count_of views (Map number) ≡ 0 → (IsOfTable old.tables.items number → ⊥) → get new.maps number ≡ None
  pub listed : (number : ℕ) → 0 < count_of views (Map number) → get new.maps number ≡ get old.maps number
  pub own : (number : ℕ) → IsOfTable old.tables.items number → get new.maps number ≡ get old.maps number
  pub others : (number : ℕ) → (Contains numbers number → ⊥) → get new.maps number ≡ get old.maps number

-- **The frozen maps that a view lists which is out stay**, but for indexes that are added to them, and none becomes a memtable.
pub record KeepsPinned (views : Book) (old new : Parts) : Type 0 where
  pub stay : (number : ℕ) → IsAside old number → 0 < count_of views (Map number) → IsGrown (get old.maps number) (get new.maps number)
  pub aside : (number : ℕ) → IsAside old number → IsAside new number
