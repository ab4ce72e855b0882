-- Which maps can be stored in a table: the empty one, those after a put, and those that are merged.
use Rattle.std.specs.Prelude.{Bool, true, false, cond, List, Option, None, Some, refl, length, unwrap_or, ◌≡◌, ◌≤◌, ◌∷◌, []}
use Rattle.std.proofs.Common.{◌∙◌, sym, ap, subst}
use Rattle.std.specs.FinMap.{get}
use Rattle.std.specs.List.{AllByRecursion}
use Rattle.std.specs.Ordering.{eq_by_cmp}
use Rattle.std.specs.FinMap as map_
use Rattle.sasi_types.specs.DecoratedKey.{decorated_cmp, decorated_total}
use Rattle.sasi_types.specs.declared.column.ColumnType.{ColumnType}
use Rattle.sasi_types.specs.declared.decorated_key.DecoratedKey.{DecoratedKey}
use Rattle.sasi_types.specs.declared.partitioner.Partitioner.{Partitioner}
use Rattle.sasi_types.specs.Token.{AreBytes}
use Rattle.sasi_model.specs.Abbreviations.{Partitions}
use Rattle.sasi_model.specs.Cells.{Partition, empty_partition, merge}
use Rattle.sasi_model.specs.State.{decorated}
use Rattle.sasi_model.specs.Stored.{IsBodyOf}
use Rattle.sasi_cells.proofs.Laws.Decorated.{equal_keys, entries_have}
use Rattle.sasi_cells.proofs.Laws.Maps.{get_merge_maps}
use Rattle.sasi_cells.proofs.Laws.Sorted.{first}
use Rattle.sasi_cells.specs.Maps.{put, merged, merged_onto, merge_maps, joined}
use Rattle.sasi_host.specs.Names.{Bytes}
use Rattle.sasi_layout.proofs.Bodies.{merged_body, first_body}
use Rattle.sasi_layout.specs.Serving.{IsStorable, AreStorable}

module _ (p : Partitioner) (types : List ColumnType) where
  pub none_storable : AreStorable p types map_.empty
  none_storable q part is = (let none : get (map_.empty {R = decorated_cmp}) q ≡ None = map_.get-empty decorated_cmp q in let no : None ≡ Some part = sym none ∙ is in cc)

  module _ (few : length types ≤ 64) where
    -- a body merged into what is there under its key
    body_onto : (key : Bytes) (change : Partition) (o : Option Partition) → ((part : Partition) → o ≡ Some part → IsBodyOf types key part) → IsBodyOf types key change → IsBodyOf types key (merge (unwrap_or o empty_partition) change)
    body_onto key change None each body = subst (IsBodyOf types key) (sym (first_body types key change body)) body
    body_onto key change (Some part) each body = merged_body types key part change few (each part refl) body

    pub put_storable : (m : Partitions) (key : Bytes) (change : Partition) → AreStorable p types m → AreBytes key → IsBodyOf types key change → AreStorable p types (put m (decorated p key) change)
    put_storable m key change storable bytes body q part is = by (eq_by_cmp decorated_cmp q (decorated p key)) refl (sym (map_.get-insert decorated_total m (decorated p key) new q) ∙ is)
      where
        new : Partition
        new = merge (unwrap_or (get m (decorated p key)) empty_partition) change

        whole : IsBodyOf types key new
        whole = body_onto key change (get m (decorated p key)) (λ old there. (storable (decorated p key) old there).body) body

        by : (b : Bool) → eq_by_cmp decorated_cmp q (decorated p key) ≡ b → cond b (Some new) (get m q) ≡ Some part → IsStorable p types (q, part)
        by true same there =
            let at : q ≡ decorated p key = equal_keys q (decorated p key) same in
            let parts : new ≡ part = cc in
            record {
              key_is = at ∙ ap (λ (k : DecoratedKey). decorated p k.key) (sym at);
              bytes = subst (λ (k : DecoratedKey). AreBytes k.key) (sym at) bytes;
              body = subst (λ (k : DecoratedKey). IsBodyOf types k.key part) (sym at) (subst (IsBodyOf types key) parts whole);
            }
        by false other there = storable q part there

    joined_storable : (q : DecoratedKey) (a b : Option Partition) → ((part : Partition) → a ≡ Some part → IsStorable p types (q, part)) → ((part : Partition) → b ≡ Some part → IsStorable p types (q, part))
        → (part : Partition) → joined a b ≡ Some part → IsStorable p types (q, part)
    joined_storable q a None older later part is = older part is
    joined_storable q a (Some y) older later part is =
        let whole : IsBodyOf types q.key (merge (unwrap_or a empty_partition) y) = body_onto q.key y a (λ old there. (older old there).body) (later y refl).body in
        let parts : merge (unwrap_or a empty_partition) y ≡ part = cc in
        record { key_is = (later y refl).key_is; bytes = (later y refl).bytes; body = subst (IsBodyOf types q.key) parts whole }

    pub merge_storable : (a b : Partitions) → AreStorable p types a → AreStorable p types b → AreStorable p types (merge_maps a b)
    merge_storable a b older later q part is = joined_storable q (get a q) (get b q) (older q) (later q) part (sym (get_merge_maps a b q) ∙ is)

    onto_storable : (base : Partitions) (ms : List Partitions) → AreStorable p types base → AllByRecursion (AreStorable p types) ms → AreStorable p types (merged_onto base ms)
    onto_storable base [] first all = first
    onto_storable base (m ∷ ms) first all = onto_storable (merge_maps base m) ms (merge_storable base m first all.0) all.1

    pub merged_storable : (ms : List Partitions) → AllByRecursion (AreStorable p types) ms → AreStorable p types (merged ms)
    merged_storable ms all = onto_storable map_.empty ms none_storable all

pub entries_storable : (p : Partitioner) (types : List ColumnType) (m : Partitions) → AreStorable p types m → AllByRecursion (IsStorable p types) (map_.entries m)
entries_storable p types m storable = entries_have (IsStorable p types) m storable
