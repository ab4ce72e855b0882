-- The map of a table whose index is defined has it, behind the others.
use Rattle.std.proofs.Common.{◌≡◌, ℕ, ◌+◌, ◌-◌, ◌<◌, ◌≤◌, List, [], ◌∷◌, ◌++◌, length, map, set, slice_get, Option, None, Some, refl, sym, ap, ◌∙◌, arith}
use Rattle.std.specs.Prelude.{Contains}
use Rattle.std.proofs.lemmas.List.{length-map, map-append}
use Rattle.std.proofs.lemmas.Option.{slice_get-map}
use Rattle.std.specs.List.{AllByRecursion, zip}
use Rattle.std.specs.Option.{option_map}
use Rattle.std.specs.FinMap.{get}
use Rattle.sasi_types.specs.declared.column.ColumnType.{ColumnType}
use Rattle.sasi_types.specs.declared.index_def.IndexDef.{IndexDef}
use Rattle.sasi_layout.proofs.Numbered.{all_changed}
use Rattle.sasi_manifest.proofs.Additions.{at_set}
use Rattle.sasi_manifest.specs.ListedDefinition.{ListedDefinition}
use Rattle.sasi_manifest.specs.Listings.{at_number, listed_with_index}
use Rattle.sasi_memindex.specs.declared.map_part.MapPart.{MapPart}
use Rattle.sasi_memindex.specs.Book.{AreValuesOf, Book, CanAdd, IsAdded}
use Rattle.sasi_model.specs.Abbreviations.{kind_of}
use Rattle.sasi_model.specs.Indexes.{index_of}
use Rattle.sasi_model.specs.State.{Index}
use Rattle.sasi_tables.specs.declared.table_maps.TableMaps.{TableMaps}
use Rattle.sasi_tables.specs.Held.{AreAdded, AreMapped, HasIndexes, HasRegularIndexes, IsAddedToAll, Subject, held_of, numbers_of, subject_in, subject_of, subjects_of}
use Rattle.sasi_tables.proofs.AddedToMaps.{added_first, added_more, indexed_held, indexed_mapped, map_of}
use Rattle.sasi_tables.proofs.HeldMaps.{set_at, set_other}
use Rattle.sasi_tables.proofs.TablesInMemory.{all_push, length_set, map_there}

-- ---- lists

zip_push : {A B : Type 0} (xs : List A) (ys : List B) (x : A) (y : B) → length xs ≡ length ys → zip (xs ++ x ∷ []) (ys ++ y ∷ []) ≡ zip xs ys ++ (x, y) ∷ []
zip_push [] [] x y same = refl
zip_push [] (w ∷ ys) x y same = absurd (omega (arith, same))
zip_push (v ∷ xs) [] x y same = absurd (omega (arith, same))
zip_push (v ∷ xs) (w ∷ ys) x y same = ap (λ (l : List (_ × _)). (v, w) ∷ l) (zip_push xs ys x y (omega (arith, same)))

-- ---- one index more

pub added_one : (def : IndexDef) (o n : Option MapPart) → IsAdded def.number def.column def.kind def.rule o n → AreAdded (def ∷ []) o n
added_one def None n added = absurd added
added_one def (Some old) n added = added_more [] def (Some old) (Some old) n (added_first [] (Some old) tt) added

pub can_define : (column : ℕ) (type : ColumnType) (subjects : List Subject) (o : Option MapPart) → HasIndexes subjects o → AreValuesOf column type (map_of o).partitions → CanAdd column type o
can_define column type subjects None has values = absurd has
can_define column type subjects (Some part) has values = values

with_index_subjects : (def : IndexDef) (t : ListedDefinition) → length t.numbers ≡ length t.definition.indexes → def.kind ≡ kind_of t.definition def.column → subjects_of (listed_with_index def t) ≡ subjects_of t ++ subject_of def ∷ []
with_index_subjects def t counted kind =
    ap (zip (t.numbers ++ def.number ∷ [])) (map-append (subject_in t.definition) t.definition.indexes (index_of def ∷ []))
    ∙ zip_push t.numbers (map (subject_in t.definition) t.definition.indexes) def.number (subject_in t.definition (index_of def)) (counted ∙ sym (length-map t.definition.indexes (subject_in t.definition)))
    ∙ ap (λ (k : ColumnType). subjects_of t ++ (def.number, (def.column, (k, def.rule))) ∷ []) (sym kind)

pub regular_defined : (def : IndexDef) → 1 ≤ def.column → (number : ℕ) (ts : List ListedDefinition) → AllByRecursion HasRegularIndexes ts → AllByRecursion HasRegularIndexes (at_number 1 number (listed_with_index def) ts)
regular_defined def above number ts regular =
    all_changed HasRegularIndexes HasRegularIndexes (listed_with_index def) (λ t is. all_push (λ (index : Index). 1 ≤ index.column) t.definition.indexes (index_of def) is above) (λ t is. is) 1 number ts regular

module _ (book : Book) (last : ℕ) (tables : List ListedDefinition) (ts : List TableMaps) (mapped : AreMapped book last (map subjects_of tables) ts) (def : IndexDef) (some : 0 < def.table) (t : TableMaps) (there : slice_get ts (def.table - 1) ≡ Some t)
    (row : ListedDefinition) (listed : slice_get tables (def.table - 1) ≡ Some row) (counted : length row.numbers ≡ length row.definition.indexes) (kind : def.kind ≡ kind_of row.definition def.column)
    (after : Book) (all : IsAddedToAll def (numbers_of t) book after) where
  abbrev at : ℕ
  at = def.table - 1

  abbrev new : List ListedDefinition
  new = at_number 1 def.table (listed_with_index def) tables

  one : (number : ℕ) → Contains (numbers_of t) number → AreAdded (def ∷ []) (get book number) (get after number)
  one number has = added_one def (get book number) (get after number) (all.added number has)

  pub defined_held : held_of after ts ≡ held_of book ts
  defined_held = indexed_held book last (map subjects_of tables) ts mapped at t there (def ∷ []) after one all.others

  new_is : new ≡ set tables at (listed_with_index def row)
  new_is =
      let e : 1 + at ≡ def.table = omega (arith, some) in
      ap (λ (k : ℕ). at_number 1 k (listed_with_index def) tables) (sym e) ∙ at_set 1 at (listed_with_index def) tables row listed

  seen : (i : ℕ) → slice_get (map subjects_of new) i ≡ option_map subjects_of (slice_get (set tables at (listed_with_index def row)) i)
  seen i = slice_get-map subjects_of new i ∙ ap (λ (l : List ListedDefinition). option_map subjects_of (slice_get l i)) new_is

  pub defined_mapped : AreMapped after last (map subjects_of new) ts
  defined_mapped =
      indexed_mapped book last (map subjects_of tables) ts mapped at t there (def ∷ []) after one all.others (subjects_of row) (map_there subjects_of tables at row listed) (map subjects_of new)
      (length-map new subjects_of ∙ ap length new_is ∙ length_set tables at (listed_with_index def row) ∙ sym (length-map tables subjects_of))
      (λ i differ. seen i ∙ ap (option_map subjects_of) (set_other tables at (listed_with_index def row) i differ) ∙ sym (slice_get-map subjects_of tables i))
      (seen at ∙ ap (option_map subjects_of) (set_at tables at row (listed_with_index def row) listed) ∙ ap (λ (l : List Subject). Some l) (with_index_subjects def row counted kind))
