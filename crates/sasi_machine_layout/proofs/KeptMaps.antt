-- Maps whose texts are UTF-8 and in which no cell is shadowed.
use Rattle.std.specs.Prelude.{◌≡◌, Bool, true, false, cond, List, [], ◌∷◌, ◌++◌, map, Option, None, Some, unwrap_or, refl}
use Rattle.std.proofs.Common.{sym, ap, subst, ◌∙◌}
use Rattle.std.specs.FinMap as map_
use Rattle.std.specs.List.{AllByRecursion}
use Rattle.std.specs.Ordering.{eq_by_cmp}
use Rattle.sasi_types.specs.declared.decorated_key.DecoratedKey.{DecoratedKey}
use Rattle.sasi_types.specs.DecoratedKey.{decorated_cmp, decorated_total}
use Rattle.sasi_cells.proofs.Laws.Decorated.{same_maps}
use Rattle.sasi_cells.proofs.Laws.Maps.{get_merge_maps, nothing_behind, nothing_first}
use Rattle.sasi_cells.proofs.Laws.Merged.{merge_is_normal}
use Rattle.sasi_cells.specs.Maps.{joined, merge_maps, merged, merged_onto, put}
use Rattle.sasi_machine.specs.TableRows.{TextsStored}
use Rattle.sasi_machine.specs.Where.{HasTexts}
use Rattle.sasi_machine.proofs.Texts.{empty_texts, merged_texts, no_texts, put_texts}
use Rattle.sasi_model.specs.Abbreviations.{Partitions}
use Rattle.sasi_model.specs.Cells.{IsNormal, Partition, empty_partition, merge}
use Rattle.sasi_machine_layout.specs.Contents.{AreKept, IsKept, maps_in}
use Rattle.sasi_machine_layout.specs.declared.contents.FileContents.{FileContents}
use Rattle.sasi_machine_layout.specs.declared.contents.TableContents.{TableContents}

-- **One such map is what it alone is merged into.**
pub one_map : (m : Partitions) → IsKept m → merged (m ∷ []) ≡ m
one_map m kept = same_maps _ _ (λ q. get_merge_maps map_.empty m q ∙ ap (λ (x : Option Partition). joined x (map_.get m q)) (map_.get-empty decorated_cmp q) ∙ by q (map_.get m q) refl)
  where
    by : (q : DecoratedKey) (o : Option Partition) → map_.get m q ≡ o → joined None o ≡ o
    by q None is = refl
    by q (Some part) is = ap Some (nothing_first part ∙ nothing_behind part (kept.normal q part is))

pub empty_kept : IsKept map_.empty
empty_kept = record {
  texts = no_texts;
  normal = λ q part there. (let none : None ≡ Some part = sym (map_.get-empty decorated_cmp q) ∙ there in cc);
}

pub put_kept : (m : Partitions) (key : DecoratedKey) (change : Partition) → IsKept m → HasTexts change → IsKept (put m key change)
put_kept m key change kept texts = record { texts = put_texts m key change kept.texts texts; normal = λ q part there. by q part (eq_by_cmp decorated_cmp q key) refl there }
  where
    new : Partition
    new = merge (unwrap_or (map_.get m key) empty_partition) change

    by : (q : DecoratedKey) (part : Partition) (b : Bool) → eq_by_cmp decorated_cmp q key ≡ b → map_.get (put m key change) q ≡ Some part → IsNormal part
    by q part true same there =
        let is : Some new ≡ Some part = sym (map_.get-insert decorated_total m key new q ∙ ap (λ b. cond b (Some new) (map_.get m q)) same) ∙ there in
        let one : new ≡ part = cc in
        subst IsNormal one (merge_is_normal (unwrap_or (map_.get m key) empty_partition) change)
    by q part false other there = kept.normal q part (sym (map_.get-insert decorated_total m key new q ∙ ap (λ b. cond b (Some new) (map_.get m q)) other) ∙ there)

-- ---- the merge of several

merge_texts : (a b : Partitions) → TextsStored a → TextsStored b → TextsStored (merge_maps a b)
merge_texts a b ta tb q part there = by (map_.get a q) (map_.get b q) refl refl (sym (get_merge_maps a b q) ∙ there)
  where
    by : (x y : Option Partition) → map_.get a q ≡ x → map_.get b q ≡ y → joined x y ≡ Some part → HasTexts part
    by x None ax bx is = ta q part (ax ∙ is)
    by None (Some p) ax bx is = (let one : merge empty_partition p ≡ part = cc in subst HasTexts one (merged_texts empty_partition p empty_texts (tb q p bx)))
    by (Some r) (Some p) ax bx is = (let one : merge r p ≡ part = cc in subst HasTexts one (merged_texts r p (ta q r ax) (tb q p bx)))

onto_texts : (base : Partitions) (ms : List Partitions) → TextsStored base → AllByRecursion IsKept ms → TextsStored (merged_onto base ms)
onto_texts base [] texts all = texts
onto_texts base (m ∷ ms) texts all = onto_texts (merge_maps base m) ms (merge_texts base m texts all.0.texts) all.1

all_maps : (fs : List FileContents) (m : Partitions) → AllByRecursion (λ (f : FileContents). IsKept f.holds.partitions) fs → IsKept m → AllByRecursion IsKept (map (λ (f : FileContents). f.holds.partitions) fs ++ m ∷ [])
all_maps [] m all is = (is, tt)
all_maps (f ∷ fs) m all is = (all.0, all_maps fs m all.1 is)

pub texts_in : (t : TableContents) → AreKept t → TextsStored (merged (maps_in t))
texts_in t kept = onto_texts map_.empty (maps_in t) no_texts (all_maps t.files.items t.memtable.partitions kept.files kept.memtable)
