-- What isn't flushed of a table, as one map: where it holds something, and what it can be stored as.
use Rattle.std.proofs.Common.{◌≡◌, ◌||◌, ◌+◌, ◌≤◌, not, Bool, true, false, nat_le, is_some, ℕ, List, [], ◌∷◌, length, Option, None, Some, refl, sym, ap, ◌∙◌, arith}
use Rattle.std.proofs.lemmas.Bool.Decides.{nat_tests}
use Rattle.std.specs.Prelude.{◌==◌, ◌^◌, fold}
use Rattle.std.specs.List.{AllByRecursion, sum_by}
use Rattle.std.specs.FinMap as map_
use Rattle.sasi_body.specs.Body.{HasBody}
use Rattle.sasi_cells.proofs.Laws.Decorated.{entries_have}
use Rattle.sasi_cells.proofs.Laws.Maps.{get_merge_maps}
use Rattle.sasi_cells.specs.Maps.{joined, merge_maps, merged, merged_onto}
use Rattle.sasi_layout.proofs.Storable.{entries_storable, merged_storable}
use Rattle.sasi_layout.specs.Serving.{AreStorable, IsStorable, IsTableReady, TableInMemory}
use Rattle.sasi_layout.specs.Statements.{any_partition, are_full}
use Rattle.sasi_memtable.specs.MemtableView.{AreDecorated}
use Rattle.sasi_memtable.specs.Sizes.{byte_count, bytes_in, cell_count, cells_in}
use Rattle.sasi_model.specs.Abbreviations.{Partitions, types_of}
use Rattle.sasi_model.specs.Cells.{Partition}
use Rattle.sasi_model.specs.State.{Definition, decorated}
use Rattle.sasi_tables.specs.Flushing.{HaveBodies}
use Rattle.sasi_tables.specs.Held.{unflushed_maps}
use Rattle.sasi_tables.proofs.TablesInMemory.{all_push}
use Rattle.sasi_types.specs.DecoratedKey.{decorated_cmp}
use Rattle.sasi_types.specs.declared.column.ColumnType.{ColumnType}
use Rattle.sasi_types.specs.declared.decorated_key.DecoratedKey.{DecoratedKey}
use Rattle.sasi_types.specs.declared.partitioner.Partitioner.{Partitioner}

-- ---- a partition in one of the maps

never : true ≡ false → ⊥
never e = cc

-- what a map has, it has with later ones
joined_some : (a b : Option Partition) → is_some a ≡ true → is_some (joined a b) ≡ true
joined_some a None some = some
joined_some a (Some q) some = refl

onto_keeps : (base : Partitions) (ms : List Partitions) (key : DecoratedKey) → is_some (map_.get base key) ≡ true → is_some (map_.get (merged_onto base ms) key) ≡ true
onto_keeps base [] key some = some
onto_keeps base (m ∷ ms) key some =
    onto_keeps (merge_maps base m) ms key (ap is_some (get_merge_maps base m key) ∙ joined_some (map_.get base key) (map_.get m key) some)

later_some : (a b : Option Partition) → is_some b ≡ true → is_some (joined a b) ≡ true
later_some a None some = cc
later_some a (Some q) some = refl

-- the first key of a map that has one
first_key : (m : Partitions) → (length (map_.entries m) == 0) ≡ false → (key : DecoratedKey) × (is_some (map_.get m key) ≡ true)
first_key m holds = by (map_.entries m) holds (entries_have (λ e. is_some (map_.get m e.0) ≡ true) m (λ q part there. ap is_some there))
  where
    by : (es : List (DecoratedKey × Partition)) → (length es == 0) ≡ false → AllByRecursion (λ e. is_some (map_.get m e.0) ≡ true) es → (key : DecoratedKey) × (is_some (map_.get m key) ≡ true)
    by [] none all = absurd (never none)
    by (e ∷ es) some all = (e.0, all.0)

onto_some : (base : Partitions) (ms : List Partitions) → any_partition ms ≡ true → (key : DecoratedKey) × (is_some (map_.get (merged_onto base ms) key) ≡ true)
onto_some base [] any = absurd (never (sym any))
onto_some base (m ∷ ms) any = by (onto_some (merge_maps base m) ms) (length (map_.entries m) == 0) refl any
  where
    by : (any_partition ms ≡ true → (key : DecoratedKey) × (is_some (map_.get (merged_onto (merge_maps base m) ms) key) ≡ true)) → (b : Bool) → (length (map_.entries m) == 0) ≡ b → (not b || any_partition ms) ≡ true → (key : DecoratedKey) × (is_some (map_.get (merged_onto (merge_maps base m) ms) key) ≡ true)
    by later true none rest = later rest
    by later false some rest =
        let here = first_key m some in
        (here.0, onto_keeps (merge_maps base m) ms here.0 (ap is_some (get_merge_maps base m here.0) ∙ later_some (map_.get base here.0) (map_.get m here.0) here.1))

-- a map with a key has an entry
has_entry : (m : Partitions) (key : DecoratedKey) → is_some (map_.get m key) ≡ true → 1 ≤ length (map_.entries m)
has_entry m key some = by (map_.entries m) (map_.get-entries m key)
  where
    by : (es : List (DecoratedKey × Partition)) → map_.get m key ≡ map_.find decorated_cmp key es → 1 ≤ length es
    by [] is = absurd (never (sym some ∙ ap is_some is))
    by (e ∷ es) is = omega arith

-- **Where one of the maps holds something, so does their merge.**
pub any_merged : (ms : List Partitions) → any_partition ms ≡ true → 1 ≤ length (map_.entries (merged ms))
any_merged ms any = let found = onto_some map_.empty ms any in has_entry (merged ms) found.0 found.1

-- ---- the sizes of empty maps

no_sum : (f : Partitions → ℕ) (a : ℕ) (ms : List Partitions) → ((m : Partitions) → (length (map_.entries m) == 0) ≡ true → f m ≡ 0) → any_partition ms ≡ false → fold (λ a x. a + f x) a ms ≡ a
no_sum f a [] zeros none = refl
no_sum f a (m ∷ ms) zeros none = by (no_sum f (a + f m) ms zeros) (length (map_.entries m) == 0) refl none
  where
    by : (any_partition ms ≡ false → fold (λ a x. a + f x) (a + f m) ms ≡ a + f m) → (b : Bool) → (length (map_.entries m) == 0) ≡ b → (not b || any_partition ms) ≡ false → fold (λ a x. a + f x) (a + f m) ms ≡ a
    by later true empty rest = later rest ∙ omega (arith, zeros m empty)
    by later false some rest = absurd (never rest)

none_of : {A : Type 0} (f : A → ℕ) (es : List A) → (length es == 0) ≡ true → sum_by f es ≡ 0
none_of f [] none = refl
none_of f (e ∷ es) none = let no : length (e ∷ es) ≡ 0 = grind (arith, nat_tests) in absurd (omega (arith, no))

-- **Maps that are full hold something.**
pub full_any : (ms : List Partitions) → are_full ms ≡ true → any_partition ms ≡ true
full_any ms full = by (any_partition ms) refl
  where
    by : (b : Bool) → any_partition ms ≡ b → b ≡ true
    by true is = refl
    by false none =
        let cells : sum_by cell_count ms ≡ 0 = no_sum cell_count 0 ms (λ m empty. none_of (λ e. cells_in e.1) (map_.entries m) empty) none in
        let bytes : sum_by byte_count ms ≡ 0 = no_sum byte_count 0 ms (λ m empty. none_of bytes_in (map_.entries m) empty) none in
        let small : are_full ms ≡ false = λ i. nat_le 65536 (cells i) || nat_le (2 ^ 26) (bytes i) in
        absurd (never (sym full ∙ small))

-- ---- what can be stored

pub storable_decorated : (p : Partitioner) (types : List ColumnType) (m : Partitions) → AreStorable p types m → AreDecorated p m
storable_decorated p types m storable k some = by (map_.get m k) refl some
  where
    by : (o : Option Partition) → map_.get m k ≡ o → is_some o ≡ true → k ≡ decorated p k.key
    by None there is = cc
    by (Some part) there is = (storable k part there).key_is

pub storable_bodies : (p : Partitioner) (types : List ColumnType) (m : Partitions) → AreStorable p types m → HaveBodies m
storable_bodies p types m storable = each (map_.entries m) (entries_storable p types m storable)
  where
    each : (es : List (DecoratedKey × Partition)) → AllByRecursion (IsStorable p types) es → AllByRecursion (λ e. HasBody e.0.key e.1) es
    each [] all = tt
    each (e ∷ es) all = (all.0.body.has, each es all.1)

-- **What isn't flushed of a table that is ready can be stored, merged.**
pub unflushed_storable : (p : Partitioner) (floor last : ℕ) (d : Definition) (t : TableInMemory) → IsTableReady p floor last d t → AreStorable p (types_of d) (merged (unflushed_maps t))
unflushed_storable p floor last d t ready =
    merged_storable p (types_of d) ready.typed.few (unflushed_maps t) (all_push (AreStorable p (types_of d)) t.frozen t.memtable ready.frozen ready.memtable)
