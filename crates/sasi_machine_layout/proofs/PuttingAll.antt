-- Putting each entry of a map is a merge.
use Rattle.std.specs.Prelude.{◌≡◌, Bool, true, false, cond, T, List, [], ◌∷◌, Option, None, Some, is_some, unwrap_or, refl}
use Rattle.std.proofs.Common.{sym, ap, ◌∙◌}
use Rattle.std.specs.FinMap as map_
use Rattle.std.specs.FinMap.{find, is_sorted}
use Rattle.std.specs.List.{AllByRecursion}
use Rattle.std.specs.Ordering.{eq_by_cmp}
use Rattle.sasi_types.specs.declared.decorated_key.DecoratedKey.{DecoratedKey}
use Rattle.sasi_types.specs.declared.partitioner.Partitioner.{Partitioner}
use Rattle.sasi_types.specs.DecoratedKey.{decorated_cmp, decorated_total}
use Rattle.sasi_cells.proofs.Laws.Decorated.{entries_have, equal_keys, none_below, same_maps}
use Rattle.sasi_cells.proofs.Laws.Maps.{get_merge_maps}
use Rattle.sasi_cells.proofs.Laws.Sorted.{first, second}
use Rattle.sasi_cells.specs.Maps.{joined, merge_maps, put}
use Rattle.sasi_memtable.specs.MemtableView.{AreDecorated}
use Rattle.sasi_model.specs.Abbreviations.{Partitions}
use Rattle.sasi_model.specs.Cells.{Partition, empty_partition, merge}
use Rattle.sasi_model.specs.State.{decorated}

-- entries put one after another
abbrev pub puts : Partitions → List (DecoratedKey × Partition) → Partitions
puts m [] = m
puts m (e ∷ es) = puts (put m e.0 e.1) es

get_put : (m : Partitions) (key : DecoratedKey) (change : Partition) (q : DecoratedKey)
    → map_.get (put m key change) q ≡ cond (eq_by_cmp decorated_cmp q key) (Some (merge (unwrap_or (map_.get m key) empty_partition) change)) (map_.get m q)
get_put m key change q = map_.get-insert decorated_total m key (merge (unwrap_or (map_.get m key) empty_partition) change) q

get_puts : (a : Partitions) (es : List (DecoratedKey × Partition)) (q : DecoratedKey) → T (is_sorted decorated_cmp es) → map_.get (puts a es) q ≡ joined (map_.get a q) (find decorated_cmp q es)
get_puts a [] q sorted = refl
get_puts a (e ∷ es) q sorted = get_puts (put a e.0 e.1) es q (second _ _ sorted) ∙ by (eq_by_cmp decorated_cmp q e.0) refl
  where
    by : (b : Bool) → eq_by_cmp decorated_cmp q e.0 ≡ b
        → joined (map_.get (put a e.0 e.1) q) (find decorated_cmp q es) ≡ joined (map_.get a q) (cond (eq_by_cmp decorated_cmp q e.0) (Some e.1) (find decorated_cmp q es))
    by true same =
        let key : q ≡ e.0 = equal_keys q e.0 same in
        let here : map_.get (put a e.0 e.1) q ≡ joined (map_.get a q) (Some e.1) =
        get_put a e.0 e.1 q
        ∙ ap (λ b. cond b (Some (merge (unwrap_or (map_.get a e.0) empty_partition) e.1)) (map_.get a q)) same
        ∙ ap (λ (k : DecoratedKey). joined (map_.get a k) (Some e.1)) (sym key) in
        let none : find decorated_cmp q es ≡ None = ap (λ (k : DecoratedKey). find decorated_cmp k es) key ∙ none_below e.0 es (first _ _ sorted) in
        ap (joined (map_.get (put a e.0 e.1) q)) none ∙ here ∙ ap (λ b. joined (map_.get a q) (cond b (Some e.1) (find decorated_cmp q es))) (sym same)
    by false other =
        let there : map_.get (put a e.0 e.1) q ≡ map_.get a q =
        get_put a e.0 e.1 q ∙ ap (λ b. cond b (Some (merge (unwrap_or (map_.get a e.0) empty_partition) e.1)) (map_.get a q)) other in
        ap (λ (x : Option Partition). joined x (find decorated_cmp q es)) there ∙ ap (λ b. joined (map_.get a q) (cond b (Some e.1) (find decorated_cmp q es))) (sym other)

-- **Those of a map make its merge.**
pub puts_merged : (a b : Partitions) → puts a (map_.entries b) ≡ merge_maps a b
puts_merged a b =
    same_maps _ _ (λ q. get_puts a (map_.entries b) q (map_.entries_sorted b) ∙ ap (joined (map_.get a q)) (sym (map_.get-entries b q)) ∙ sym (get_merge_maps a b q))

-- the keys of a map under a partitioner are those that it makes
pub entries_under : (p : Partitioner) (m : Partitions) → AreDecorated p m → AllByRecursion (λ (e : DecoratedKey × Partition). e.0 ≡ decorated p e.0.key) (map_.entries m)
entries_under p m under = entries_have (λ e. e.0 ≡ decorated p e.0.key) m (λ q part found. under q (ap is_some found))
