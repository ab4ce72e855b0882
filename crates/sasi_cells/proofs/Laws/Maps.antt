-- Laws of merged maps, by what they have of each key.
use Rattle.std.specs.Prelude.{◌≡◌, Bool, true, false, cond, ◌||◌, max, List, [], ◌∷◌, ◌++◌, Option, None, Some, is_some, unwrap_or, refl}
use Rattle.std.proofs.Common.{sym, ap, ◌∙◌, arith}
use Rattle.std.specs.List.{list_any}
use Rattle.std.proofs.lemmas.List.Folds.{list_any-append}
use Rattle.std.specs.Ordering.{nat_cmp, eq_by_cmp}
use Rattle.std.specs.FinMap as map_
use Rattle.sasi_types.specs.declared.cell.Cell.{Cell}
use Rattle.sasi_types.specs.declared.decorated_key.DecoratedKey.{DecoratedKey}
use Rattle.sasi_types.specs.DecoratedKey.{decorated_cmp, decorated_total}
use Rattle.sasi_model.specs.Cells.{IsNormal, Partition, empty_partition, merge, newest_of, unshadowed}
use Rattle.sasi_model.specs.Abbreviations.{Partitions}
use Rattle.sasi_cells.proofs.Laws.Merged.{deleted_merge, get_merge, merge_associates, merge_is_normal, same_partition}
use Rattle.sasi_cells.proofs.Laws.Decorated.{equal_keys, same_maps}
use Rattle.sasi_cells.specs.Maps.{joined, joined_at, merge_maps, merged, merged_onto, put, with_value}

-- ---- what a merge has at a key

find_here : (q key : DecoratedKey) (v : Option Partition) (rest : List (DecoratedKey × Partition)) (m : Option Partition) → eq_by_cmp decorated_cmp q key ≡ true → v ≡ m → (v ≡ None → map_.find decorated_cmp q rest ≡ m) → map_.find decorated_cmp q (with_value key v rest) ≡ m
find_here q key None rest m same is behind = behind refl
find_here q key (Some p) rest m same is behind = ap (λ b. cond b (Some p) (map_.find decorated_cmp q rest)) same ∙ is

find_there : (q key : DecoratedKey) (v : Option Partition) (rest : List (DecoratedKey × Partition)) → eq_by_cmp decorated_cmp q key ≡ false → map_.find decorated_cmp q (with_value key v rest) ≡ map_.find decorated_cmp q rest
find_there q key None rest other = refl
find_there q key (Some p) rest other = ap (λ b. cond b (Some p) (map_.find decorated_cmp q rest)) other

find_joined : (a b : Partitions) (q : DecoratedKey) (keys : List DecoratedKey) → (list_any (eq_by_cmp decorated_cmp q) keys ≡ false → joined (map_.get a q) (map_.get b q) ≡ None) → map_.find decorated_cmp q (joined_at a b keys) ≡ joined (map_.get a q) (map_.get b q)
find_joined a b q [] absent = sym (absent refl)
find_joined a b q (key ∷ keys) absent =
    elim (eq_by_cmp decorated_cmp q key) as (λ t. eq_by_cmp decorated_cmp q key ≡ t → map_.find decorated_cmp q (joined_at a b (key ∷ keys)) ≡ joined (map_.get a q) (map_.get b q)) [
      | true ↦ λ same.
          let is : q ≡ key = equal_keys q key same in
          find_here q key (joined (map_.get a key) (map_.get b key)) (joined_at a b keys) (joined (map_.get a q) (map_.get b q)) same
          (ap (λ (p : DecoratedKey). joined (map_.get a p) (map_.get b p)) (sym is))
          (λ none. find_joined a b q keys (λ _. ap (λ (p : DecoratedKey). joined (map_.get a p) (map_.get b p)) is ∙ none))
      | false ↦ λ other.
          find_there q key (joined (map_.get a key) (map_.get b key)) (joined_at a b keys) other
          ∙ find_joined a b q keys (λ none. absent (ap (λ t. t || list_any (eq_by_cmp decorated_cmp q) keys) other ∙ none))
    ] refl

none_of : (x : Option Partition) → is_some x ≡ false → x ≡ None
none_of None e = refl
none_of (Some p) e = cc

get_absent : (m : Partitions) (q : DecoratedKey) → list_any (eq_by_cmp decorated_cmp q) (map_.keys m) ≡ false → map_.get m q ≡ None
get_absent m q none = none_of (map_.get m q) (map_.contains_key-keys m q ∙ none)

left_false : (a b : Bool) → (a || b) ≡ false → a ≡ false
left_false true b e = e
left_false false b e = refl

right_false : (a b : Bool) → (a || b) ≡ false → b ≡ false
right_false true b e = cc
right_false false b e = e

pub get_merge_maps : (a b : Partitions) (q : DecoratedKey) → map_.get (merge_maps a b) q ≡ joined (map_.get a q) (map_.get b q)
unfolding merge_maps
get_merge_maps a b q =
    map_.get-from_entries decorated_total _ q
    ∙ find_joined a b q (map_.keys a ++ map_.keys b) (λ none.
    let either = sym (list_any-append (eq_by_cmp decorated_cmp q) (map_.keys a) (map_.keys b)) ∙ none in
    ap (λ x. joined x (map_.get b q)) (get_absent a q (left_false _ _ either))
    ∙ ap (joined None) (get_absent b q (right_false _ _ either)))

-- ---- partitions

-- the empty partition may be merged first or last
pub nothing_first : (q : Partition) → merge empty_partition q ≡ merge q empty_partition
nothing_first q =
    let d : max empty_partition.deleted q.deleted ≡ max q.deleted empty_partition.deleted = omega arith in
    same_partition (merge empty_partition q) (merge q empty_partition) (deleted_merge empty_partition q ∙ d ∙ sym (deleted_merge q empty_partition))
    (λ c. get_merge empty_partition q c
    ∙ ap (λ x. unshadowed (max empty_partition.deleted q.deleted) (newest_of x (map_.get q.cells c))) (map_.get-empty nat_cmp c)
    ∙ ap (λ e. unshadowed e (map_.get q.cells c)) d
    ∙ ap (unshadowed (max q.deleted empty_partition.deleted)) (sym (alone (map_.get q.cells c)))
    ∙ ap (λ x. unshadowed (max q.deleted empty_partition.deleted) (newest_of (map_.get q.cells c) x)) (sym (map_.get-empty nat_cmp c))
    ∙ sym (get_merge q empty_partition c))
  where
    alone : (x : Option Cell) → newest_of x None ≡ x
    alone None = refl
    alone (Some cell) = refl

-- and changes nothing where no cell is shadowed
pub nothing_behind : (p : Partition) → IsNormal p → merge p empty_partition ≡ p
nothing_behind p normal =
    let d : max p.deleted empty_partition.deleted ≡ p.deleted = omega arith in
    same_partition (merge p empty_partition) p (deleted_merge p empty_partition ∙ d)
    (λ c. get_merge p empty_partition c
    ∙ ap (λ e. unshadowed e (newest_of (map_.get p.cells c) (map_.get empty_partition.cells c))) d
    ∙ ap (λ x. unshadowed p.deleted (newest_of (map_.get p.cells c) x)) (map_.get-empty nat_cmp c)
    ∙ ap (unshadowed p.deleted) (alone (map_.get p.cells c))
    ∙ normal c)
  where
    alone : (x : Option Cell) → newest_of x None ≡ x
    alone None = refl
    alone (Some cell) = refl

-- a change may be merged with nothing first
pub with_nothing : (p q : Partition) → merge p (merge empty_partition q) ≡ merge p q
with_nothing p q = ap (merge p) (nothing_first q) ∙ sym (merge_associates p q empty_partition) ∙ nothing_behind (merge p q) (merge_is_normal p q)

pub joined_associates : (a b c : Option Partition) → joined (joined a b) c ≡ joined a (joined b c)
joined_associates a b None = refl
joined_associates a None (Some r) = ap Some (sym (with_nothing (unwrap_or a empty_partition) r))
joined_associates a (Some q) (Some r) = ap Some (merge_associates (unwrap_or a empty_partition) q r)

-- ---- maps

-- three maps, whichever two are merged first
pub maps_associate : (a b c : Partitions) → merge_maps (merge_maps a b) c ≡ merge_maps a (merge_maps b c)
maps_associate a b c = same_maps _ _ (λ q.
    get_merge_maps (merge_maps a b) c q
    ∙ ap (λ x. joined x (map_.get c q)) (get_merge_maps a b q)
    ∙ joined_associates (map_.get a q) (map_.get b q) (map_.get c q)
    ∙ ap (joined (map_.get a q)) (sym (get_merge_maps b c q))
    ∙ sym (get_merge_maps a (merge_maps b c) q))

-- an empty map is later than any
pub then_empty : (a : Partitions) → merge_maps a map_.empty ≡ a
then_empty a = same_maps _ _ (λ q. get_merge_maps a map_.empty q ∙ ap (joined (map_.get a q)) (map_.get-empty decorated_cmp q))

joined_none : (a b : Option Partition) → joined a (joined None b) ≡ joined a b
joined_none a None = refl
joined_none a (Some q) = ap Some (with_nothing (unwrap_or a empty_partition) q)

-- a later map may be merged with nothing first
pub from_empty : (a b : Partitions) → merge_maps a (merge_maps map_.empty b) ≡ merge_maps a b
from_empty a b = same_maps _ _ (λ q.
    get_merge_maps a (merge_maps map_.empty b) q
    ∙ ap (joined (map_.get a q)) (get_merge_maps map_.empty b q ∙ ap (λ x. joined x (map_.get b q)) (map_.get-empty decorated_cmp q))
    ∙ joined_none (map_.get a q) (map_.get b q)
    ∙ sym (get_merge_maps a b q))

-- ---- a change of the later map

joined_changed : (a b : Option Partition) (change : Partition) → joined a (Some (merge (unwrap_or b empty_partition) change)) ≡ Some (merge (unwrap_or (joined a b) empty_partition) change)
joined_changed a None change = ap Some (with_nothing (unwrap_or a empty_partition) change)
joined_changed a (Some p) change = ap Some (sym (merge_associates (unwrap_or a empty_partition) p change))

-- a change of the later map is a change of the merge
pub put_last : (a m : Partitions) (key : DecoratedKey) (change : Partition) → merge_maps a (put m key change) ≡ put (merge_maps a m) key change
put_last a m key change = same_maps _ _ (λ q.
    get_merge_maps a (put m key change) q
    ∙ ap (joined (map_.get a q)) (map_.get-insert decorated_total m key (merge (unwrap_or (map_.get m key) empty_partition) change) q)
    ∙ at q (eq_by_cmp decorated_cmp q key) refl
    ∙ sym (map_.get-insert decorated_total (merge_maps a m) key (merge (unwrap_or (map_.get (merge_maps a m) key) empty_partition) change) q))
  where
    at : (q : DecoratedKey) (t : Bool) → eq_by_cmp decorated_cmp q key ≡ t → joined (map_.get a q) (cond t (Some (merge (unwrap_or (map_.get m key) empty_partition) change)) (map_.get m q)) ≡ cond t (Some (merge (unwrap_or (map_.get (merge_maps a m) key) empty_partition) change)) (map_.get (merge_maps a m) q)
    at q true same =
        ap (λ (p : DecoratedKey). joined (map_.get a p) (Some (merge (unwrap_or (map_.get m key) empty_partition) change))) (equal_keys q key same)
        ∙ joined_changed (map_.get a key) (map_.get m key) change
        ∙ ap (λ x. Some (merge (unwrap_or x empty_partition) change)) (sym (get_merge_maps a m key))
    at q false other = sym (get_merge_maps a m q)

-- ---- lists of maps

pub merged_onto_both : (base : Partitions) (xs ys : List Partitions) → merged_onto base (xs ++ ys) ≡ merged_onto (merged_onto base xs) ys
merged_onto_both base [] ys = refl
merged_onto_both base (x ∷ xs) ys = merged_onto_both (merge_maps base x) xs ys

onto_merged : (base start : Partitions) (xs : List Partitions) → merged_onto (merge_maps base start) xs ≡ merge_maps base (merged_onto start xs)
onto_merged base start [] = refl
onto_merged base start (x ∷ xs) = ap (λ (m : Partitions). merged_onto m xs) (maps_associate base start x) ∙ onto_merged base (merge_maps start x) xs

-- later maps may be merged first
pub merged_apart : (base : Partitions) (xs : List Partitions) → merged_onto base xs ≡ merge_maps base (merged xs)
merged_apart base xs = ap (λ (m : Partitions). merged_onto m xs) (sym (then_empty base)) ∙ onto_merged base map_.empty xs

-- a change of the last map is a change of all
pub put_merged : (base : Partitions) (xs : List Partitions) (m : Partitions) (key : DecoratedKey) (change : Partition) → merged_onto base (xs ++ put m key change ∷ []) ≡ put (merged_onto base (xs ++ m ∷ [])) key change
put_merged base xs m key change =
    merged_onto_both base xs (put m key change ∷ [])
    ∙ put_last (merged_onto base xs) m key change
    ∙ ap (λ (k : Partitions). put k key change) (sym (merged_onto_both base xs (m ∷ [])))

-- the last maps may be replaced by their merge
pub replaced_last : (base : Partitions) (xs ys : List Partitions) → merged_onto base (xs ++ ys) ≡ merged_onto base ((xs ++ merged ys ∷ []) ++ map_.empty ∷ [])
replaced_last base xs ys =
    merged_onto_both base xs ys
    ∙ merged_apart (merged_onto base xs) ys
    ∙ sym (merged_onto_both base xs (merged ys ∷ []))
    ∙ sym (then_empty (merged_onto base (xs ++ merged ys ∷ [])))
    ∙ sym (merged_onto_both base (xs ++ merged ys ∷ []) (map_.empty ∷ []))

-- and so may any neighbours
pub replaced_some : (base : Partitions) (xs zs ys : List Partitions) → merged_onto base (xs ++ (zs ++ ys)) ≡ merged_onto base (xs ++ (merged zs ∷ ys))
replaced_some base xs zs ys =
    merged_onto_both base xs (zs ++ ys)
    ∙ merged_onto_both (merged_onto base xs) zs ys
    ∙ ap (λ (m : Partitions). merged_onto m ys) (merged_apart (merged_onto base xs) zs)
    ∙ sym (merged_onto_both base xs (merged zs ∷ ys))
