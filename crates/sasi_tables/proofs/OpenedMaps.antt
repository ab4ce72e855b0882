-- The maps of an opened folder, put into the book one after another with their indexes.
use Rattle.std.proofs.Common.{◌≡◌, ℕ, zero, suc, ◌+◌, ◌<◌, List, [], ◌∷◌, ◌++◌, length, map, take, drop, get_or, Some, refl, sym, ap, subst, ◌∙◌, arith, append_assoc, length-append}
use Rattle.std.proofs.lemmas.List.{append-nil, drop_more}
use Rattle.std.specs.List.{AllByRecursion}
use Rattle.std.specs.FinMap as map_
use Rattle.std.specs.Ordering.{nat_cmp}
use Rattle.sasi_types.specs.declared.class.Class.{Class}
use Rattle.sasi_types.specs.declared.partitioner.Partitioner.{Partitioner}
use Rattle.sasi_layout.specs.Classes.{KnowsIndexes}
use Rattle.sasi_manifest.specs.Listings.{listed_definitions}
use Rattle.sasi_manifest.specs.ListedTables.{listed}
use Rattle.sasi_manifest.specs.declared.listed.ListedTable.{ListedTable}
use Rattle.sasi_memindex.specs.Book.{Book, bare}
use Rattle.sasi_recover.specs.ReplayState.{AreMapsFrom}
use Rattle.sasi_recover.specs.declared.opened.TableMap.{TableMap}
use Rattle.sasi_tables.specs.Held.{AreMapped, CanAddAll, CanIndexTables, HasRegularIndexes, HeldTable, IsAddedTo, KnowsDef, Subject, held_of, opened_held, subject_of, subjects_of, wanted_rows}
use Rattle.sasi_tables.specs.declared.table_maps.TableMaps.{TableMaps}
use Rattle.sasi_tables.proofs.HeldChanges.{added_held, added_mapped}
use Rattle.sasi_tables.proofs.IndexedTables.{known_defs, regular_table, table_subjects, table_values}

-- ---- before the first

pub mapped_none : (last : ℕ) → AreMapped (map_.empty {R = nat_cmp}) last [] []
mapped_none last = record { counted = refl; apart = λ i j x y n one two first second. cc; rising = λ i x one. cc; used = λ i x n one has. cc; indexed = λ i x s n one two has. cc }

-- what an opened folder gives can be indexed
pub can_open : (kinds : List Class) (p : Partitioner) (floor last n : ℕ) (rows : List ListedTable) (xs : List TableMap) → AreMapsFrom p floor last n (map listed rows) xs
    → AllByRecursion (KnowsIndexes kinds) (listed_definitions (map listed rows)) → CanIndexTables kinds rows xs
can_open kinds p floor last n [] [] maps known = tt
can_open kinds p floor last n [] (x ∷ xs) maps known = absurd maps
can_open kinds p floor last n (row ∷ rows) [] maps known = absurd maps
can_open kinds p floor last n (row ∷ rows) (x ∷ xs) maps known =
    (table_values p row x.memtable maps.0.storable, known_defs kinds row known.0, can_open kinds p floor last (suc n) rows xs maps.1 known.1)

pub rows_wanted : (rows : List ListedTable) → map subjects_of (map listed rows) ≡ wanted_rows rows
rows_wanted [] = refl
rows_wanted (row ∷ rows) = let here = table_subjects row in let rest = rows_wanted rows in λ i. here i ∷ rest i

pub rows_regular : (rows : List ListedTable) → AllByRecursion HasRegularIndexes (map listed rows)
rows_regular [] = tt
rows_regular (row ∷ rows) = (regular_table row, rows_regular rows)

-- ---- one after another

-- the first tables have maps with their indexes, and the others are left
pub record IsAdding (kinds : List Class) (rows : List ListedTable) (all left : List TableMap) (book : Book) (last : ℕ) (ts : List TableMaps) : Type 0 where
  pub mapped : AreMapped book last (wanted_rows (take (length ts) rows)) ts
  pub held : held_of book ts ++ map opened_held left ≡ map opened_held all
  pub can : CanIndexTables kinds (drop (length ts) rows) left

-- the row of the next one
front_inside : (kinds : List Class) (rows : List ListedTable) (n : ℕ) (x : TableMap) (rest : List TableMap) → CanIndexTables kinds (drop n rows) (x ∷ rest) → n < length rows
front_inside kinds [] zero x rest can = absurd can
front_inside kinds [] (suc n) x rest can = absurd can
front_inside kinds (row ∷ rows) zero x rest can = omega arith
front_inside kinds (row ∷ rows) (suc n) x rest can = omega (arith, front_inside kinds rows n x rest can)

take_row : (rows : List ListedTable) (n : ℕ) (row : ListedTable) → n < length rows → row ≡ get_or rows n row → wanted_rows (take (n + 1) rows) ≡ wanted_rows (take n rows) ++ map subject_of row.table.indexes ∷ []
take_row [] n row inside is = absurd (omega (arith, inside))
take_row (r ∷ rows) zero row inside is = ap (λ (k : ListedTable). map subject_of k.table.indexes ∷ []) (sym is)
take_row (r ∷ rows) (suc n) row inside is =
    let next : suc n + 1 ≡ suc (n + 1) = omega arith in
    ap (λ (k : ℕ). wanted_rows (take k (r ∷ rows))) next ∙ ap (λ (l : List (List Subject)). map subject_of r.table.indexes ∷ l) (take_row rows n row (omega (arith, inside)) is)

module _ (kinds : List Class) (rows : List ListedTable) (all left : List TableMap) (book : Book) (last : ℕ) (ts : List TableMaps) (on : IsAdding kinds rows all left book last ts) (x : TableMap) (rest : List TableMap) (is : left ≡ x ∷ rest) where
  front : CanIndexTables kinds (drop (length ts) rows) (x ∷ rest)
  front = subst (CanIndexTables kinds (drop (length ts) rows)) is on.can

  pub row_inside : length ts < length rows
  row_inside = front_inside kinds rows (length ts) x rest front

  module _ (row : ListedTable) (row_is : row ≡ get_or rows (length ts) row) where
    here : CanIndexTables kinds (row ∷ drop (length ts + 1) rows) (x ∷ rest)
    here = subst (λ (l : List ListedTable). CanIndexTables kinds l (x ∷ rest)) (drop_more rows (length ts) row row_inside ∙ ap (λ (k : ListedTable). k ∷ drop (length ts + 1) rows) (sym row_is)) front

    pub next_can : CanAddAll row.table.indexes (Some (bare x.memtable))
    next_can = here.0

    pub next_known : AllByRecursion (KnowsDef kinds) row.table.indexes
    next_known = here.1

    pub adding_more : (after : Book) (new : List TableMaps) → IsAddedTo last x row.table.indexes ts new book after → (number : ℕ) → number ≡ last + 1 → IsAdding kinds rows all rest after number new
    adding_more after new added number next =
        let count : length new ≡ length ts + 1 = ap length added.tables_are ∙ length-append ts (record { number = x.number; frozen = []; memtable = suc last; first = x.first } ∷ []) in
        record {
          mapped = subst (λ (w : List (List Subject)). AreMapped after number w new) (sym (ap (λ (n : ℕ). wanted_rows (take n rows)) count ∙ take_row rows (length ts) row row_inside row_is))
              (added_mapped book last (wanted_rows (take (length ts) rows)) ts on.mapped x row.table.indexes after new added number next);
          held =
              ap (λ (l : List HeldTable). l ++ map opened_held rest) (added_held book last (wanted_rows (take (length ts) rows)) ts on.mapped x row.table.indexes after new added)
              ∙ append_assoc (held_of book ts) (opened_held x ∷ []) (map opened_held rest) ∙ ap (λ (l : List TableMap). held_of book ts ++ map opened_held l) (sym is) ∙ on.held;
          can = subst (λ (n : ℕ). CanIndexTables kinds (drop n rows) rest) (sym count) here.2;
        }

-- all have
none_left : (kinds : List Class) (rows : List ListedTable) (n : ℕ) → CanIndexTables kinds (drop n rows) [] → take n rows ≡ rows
none_left kinds [] zero can = refl
none_left kinds [] (suc n) can = refl
none_left kinds (row ∷ rows) zero can = absurd can
none_left kinds (row ∷ rows) (suc n) can = ap (λ (l : List ListedTable). row ∷ l) (none_left kinds rows n can)

module _ (kinds : List Class) (rows : List ListedTable) (all left : List TableMap) (book : Book) (last : ℕ) (ts : List TableMaps) (on : IsAdding kinds rows all left book last ts) (none : left ≡ []) where
  pub adding_held : held_of book ts ≡ map opened_held all
  adding_held = sym (append-nil (held_of book ts)) ∙ ap (λ (l : List TableMap). held_of book ts ++ map opened_held l) (sym none) ∙ on.held

  pub adding_mapped : AreMapped book last (wanted_rows rows) ts
  adding_mapped =
      subst (λ (l : List ListedTable). AreMapped book last (wanted_rows l) ts) (none_left kinds rows (length ts) (subst (CanIndexTables kinds (drop (length ts) rows)) none on.can)) on.mapped
