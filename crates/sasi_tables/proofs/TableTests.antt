-- What the maps of one table hold, told of its numbers and of the table in memory.
use Rattle.std.proofs.Common.{◌≡◌, ◌||◌, ◌+◌, ◌-◌, ℕ, Bool, true, false, not, List, [], ◌∷◌, ◌++◌, length, get_or, slice_get, Some, refl, sym, ap, ◌∙◌, arith}
use Rattle.std.proofs.lemmas.List.{map-append}
use Rattle.std.proofs.lemmas.List.Sums.{sum_by_push}
use Rattle.std.specs.FinMap as map_
use Rattle.std.specs.FinMap.{get}
use Rattle.std.specs.List.{AllByRecursion, sum_by}
use Rattle.std.specs.Prelude.{◌==◌, IsSome, min, ◌^◌}
use Rattle.sasi_layout.specs.Statements.{any_partition}
use Rattle.sasi_memindex.specs.Book.{Book}
use Rattle.sasi_memtable.specs.MemtableView.{MemtableView}
use Rattle.sasi_memtable.specs.Sizes.{saturated}
use Rattle.sasi_model.specs.Abbreviations.{Partitions}
use Rattle.sasi_tables.specs.Held.{HasMapFor, HeldTable, held_by, held_of, in_memory, map_in, maps_with, unflushed_maps}
use Rattle.sasi_tables.specs.declared.table_maps.TableMaps.{TableMaps}
use Rattle.sasi_tables.proofs.EachMap.{can_front, can_last}
use Rattle.sasi_tables.proofs.HeldMaps.{held_there, one_there, unflushed_numbers}
use Rattle.sasi_tables.proofs.TablesInMemory.{index_got}

-- the map holds a partition
abbrev holds : Partitions → Bool
holds m = not (length (map_.entries m) == 0)

or_none : (b : Bool) → (b || false) ≡ b
or_none true = refl
or_none false = refl

any_push : (ms : List Partitions) (m : Partitions) → any_partition (ms ++ m ∷ []) ≡ (any_partition ms || holds m)
any_push [] m = or_none (holds m)
any_push (x ∷ ms) m = by (holds x) (any_push ms m)
  where
    by : (b : Bool) → any_partition (ms ++ m ∷ []) ≡ (any_partition ms || holds m) → (b || any_partition (ms ++ m ∷ [])) ≡ ((b || any_partition ms) || holds m)
    by true rest = refl
    by false rest = rest

module _ (book : Book) (ts : List TableMaps) (number : ℕ) (has : HasMapFor number ts book) (row : TableMaps) (is : row ≡ get_or ts (number - 1) row) where
  row_found : slice_get ts (number - 1) ≡ Some row
  row_found = index_got ts (number - 1) row (omega (arith, has.some, has.inside)) is

  pub frozen_there : AllByRecursion (λ n. IsSome (get book n)) row.frozen
  frozen_there = can_front (λ n. IsSome (get book n)) row.frozen row.memtable (has.there row row_found)

  pub memtable_there : IsSome (get book row.memtable)
  memtable_there = can_last (λ n. IsSome (get book n)) row.frozen row.memtable (has.there row row_found)

  row_held : (t : HeldTable) → slice_get (held_of book ts) (number - 1) ≡ Some t → held_by book row ≡ t
  row_held t found = one_there (held_by book row) t (slice_get (held_of book ts) (number - 1)) (held_there book ts (number - 1) row row_found) found

  -- what isn't flushed are its frozen maps and its memtable
  unflushed_are : (t : HeldTable) → slice_get (held_of book ts) (number - 1) ≡ Some t → maps_with book row.frozen ++ (map_in book row.memtable).partitions ∷ [] ≡ unflushed_maps (in_memory t)
  unflushed_are t found =
      sym (map-append (λ n. (map_in book n).partitions) row.frozen (row.memtable ∷ []))
      ∙ unflushed_numbers book row
      ∙ ap (λ (k : HeldTable). unflushed_maps (in_memory k)) (row_held t found)

  -- ---- whether they hold anything

  map_holds : (m : MemtableView) (empty : Bool) → m ≡ map_in book row.memtable → empty ≡ (length (map_.entries m.partitions) == 0) → not empty ≡ holds (map_in book row.memtable).partitions
  map_holds m empty is empty_is = ap not empty_is ∙ ap (λ (k : MemtableView). holds k.partitions) is

  pub memtable_holds : (m : MemtableView) (empty : Bool) → m ≡ map_in book row.memtable → empty ≡ (length (map_.entries m.partitions) == 0) → (t : HeldTable) → slice_get (held_of book ts) (number - 1) ≡ Some t
      → not empty ≡ any_partition (t.memtable.partitions ∷ [])
  memtable_holds m empty is empty_is t found =
      map_holds m empty is empty_is
      ∙ sym (or_none (holds (map_in book row.memtable).partitions))
      ∙ ap (λ (k : HeldTable). any_partition (k.memtable.partitions ∷ [])) (row_held t found)

  module _ (ns : List ℕ) (same : ns ≡ row.frozen) (any : Bool) (any_is : any ≡ any_partition (maps_with book ns)) (t : HeldTable) (found : slice_get (held_of book ts) (number - 1) ≡ Some t) where
    any_unflushed : (any || holds (map_in book row.memtable).partitions) ≡ any_partition (unflushed_maps (in_memory t))
    any_unflushed =
        ap (λ (b : Bool). b || holds (map_in book row.memtable).partitions) (any_is ∙ ap (λ (l : List ℕ). any_partition (maps_with book l)) same)
        ∙ sym (any_push (maps_with book row.frozen) (map_in book row.memtable).partitions)
        ∙ ap any_partition (unflushed_are t found)

    -- a frozen map holds something
    pub held_frozen : any ≡ true → any ≡ any_partition (unflushed_maps (in_memory t))
    held_frozen some = some ∙ ap (λ (b : Bool). b || holds (map_in book row.memtable).partitions) (sym some) ∙ any_unflushed

    -- none does, so the memtable tells
    pub held_memtable : any ≡ false → (m : MemtableView) (empty : Bool) → m ≡ map_in book row.memtable → empty ≡ (length (map_.entries m.partitions) == 0) → not empty ≡ any_partition (unflushed_maps (in_memory t))
    held_memtable none m empty is empty_is = map_holds m empty is empty_is ∙ ap (λ (b : Bool). b || holds (map_in book row.memtable).partitions) (sym none) ∙ any_unflushed

  -- ---- how much they hold

  pub all_counted : (f : Partitions → ℕ) (ns : List ℕ) → ns ≡ row.frozen → (m : MemtableView) → m ≡ map_in book row.memtable → (frozen own all : ℕ) → frozen ≡ saturated (sum_by f (maps_with book ns)) → own ≡ saturated (f m.partitions)
      → all ≡ min (frozen + own) (2 ^ 64 - 1) → (t : HeldTable) → slice_get (held_of book ts) (number - 1) ≡ Some t → all ≡ saturated (sum_by f (unflushed_maps (in_memory t)))
  all_counted f ns same m is frozen own all frozen_is own_is all_is t found =
      let older : frozen ≡ saturated (sum_by f (maps_with book row.frozen)) = frozen_is ∙ ap (λ (l : List ℕ). saturated (sum_by f (maps_with book l))) same in
      let newest : own ≡ saturated (f (map_in book row.memtable).partitions) = own_is ∙ ap (λ (k : MemtableView). saturated (f k.partitions)) is in
      let sum = sum_by_push f (maps_with book row.frozen) (map_in book row.memtable).partitions in
      let both : all ≡ saturated (sum_by f (maps_with book row.frozen ++ (map_in book row.memtable).partitions ∷ [])) = omega (arith, older, newest, sum, all_is) in
      both ∙ ap (λ (ms : List Partitions). saturated (sum_by f ms)) (unflushed_are t found)
