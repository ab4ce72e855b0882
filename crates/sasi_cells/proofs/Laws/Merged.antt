-- What a merge holds: of each column the newest cell of the two partitions, unless the later deletion shadows it. Merges
-- of the same partitions are equal, whatever their order and grouping.
use Rattle.std.specs.Prelude.{◌≡◌, ℕ, ◌≤◌, Bool, true, false, cond, ◌||◌, nat_le, max, if◌then◌else◌, ◌⊎◌, List, [], ◌∷◌, ◌++◌, Option, None, Some, is_some}
use Rattle.std.specs.List.{list_any}
use Rattle.std.specs.Ordering.{nat_cmp, eq_by_cmp, is_eq, is_lt}
use Rattle.std.specs.Cmp.{nat_cmp_total}
use Rattle.std.specs.FinMap as map_
use Rattle.std.proofs.Common.{refl, sym, ap, ◌∙◌, subst, inl, inr, arith}
use Rattle.std.proofs.lemmas.Cmp.{tied_itself}
use Rattle.std.proofs.lemmas.List.Folds.{list_any-append}
use Rattle.std.proofs.lemmas.Bool.Decides.{nat_tests}
use Rattle.sasi_types.specs.declared.cell.Cell.{Cell}
use Rattle.sasi_model.specs.Cells.{Cells, Partition, newest, newest_of, unshadowed, IsNormal, merged_cell, merged_cells, merge}
use Rattle.sasi_model.specs.Abbreviations.{cell_cmp, with_entry}
use Rattle.sasi_cells.proofs.Laws.Sorted.{equal_columns}
use Rattle.sasi_cells.proofs.Laws.Newest.{newest_of_itself, newest_of_associates, newest_of_commutes, TieOnlyWhereEqual, newest_time}

-- ---- look-ups

-- a cell in front, looked up at its own column and at another
find_here : (c : ℕ) (x : Option Cell) (rest : List (ℕ × Cell)) (m : Option Cell) → x ≡ m → (m ≡ None → map_.find nat_cmp c rest ≡ m)
    → map_.find nat_cmp c (with_entry c x rest) ≡ m
find_here c None rest m e left = left (sym e)
find_here c (Some cell) rest m e left = ap (λ r. cond (is_eq r) (Some cell) (map_.find nat_cmp c rest)) (tied_itself nat_cmp_total c) ∙ e

find_there : (c column : ℕ) (x : Option Cell) (rest : List (ℕ × Cell)) → eq_by_cmp nat_cmp c column ≡ false
    → map_.find nat_cmp c (with_entry column x rest) ≡ map_.find nat_cmp c rest
find_there c column None rest e = refl
find_there c column (Some cell) rest e = ap (λ b. cond b (Some cell) (map_.find nat_cmp c rest)) e

-- the merged cells of some columns, looked up at one of them, or at one where there is none
find_merged : (d : ℕ) (p q : Partition) (c : ℕ) (columns : List ℕ) (m : Option Cell) → merged_cell d p q c ≡ m
    → (list_any (eq_by_cmp nat_cmp c) columns ≡ false → m ≡ None)
    → map_.find nat_cmp c (merged_cells d p q columns) ≡ m
find_merged d p q c [] m e absent = sym (absent refl)
find_merged d p q c (column ∷ columns) m e absent =
    elim (eq_by_cmp nat_cmp c column) as (λ b. eq_by_cmp nat_cmp c column ≡ b → map_.find nat_cmp c (with_entry column (merged_cell d p q column) (merged_cells d p q columns)) ≡ m) [
      | true ↦ λ same.
          subst (λ k. map_.find nat_cmp c (with_entry k (merged_cell d p q k) (merged_cells d p q columns)) ≡ m) (equal_columns c column same)
          (find_here c (merged_cell d p q c) (merged_cells d p q columns) m e (λ none. find_merged d p q c columns m e (λ _. none)))
      | false ↦ λ other.
          find_there c column (merged_cell d p q column) (merged_cells d p q columns) other
          ∙ find_merged d p q c columns m e (λ none. absent (ap (λ b. b || list_any (eq_by_cmp nat_cmp c) columns) other ∙ none))
    ] refl

none_of : (x : Option Cell) → is_some x ≡ false → x ≡ None
none_of None e = refl
none_of (Some cell) e = cc

get_absent : (m : Cells) (c : ℕ) → list_any (eq_by_cmp nat_cmp c) (map_.keys m) ≡ false → map_.get m c ≡ None
get_absent m c none = none_of (map_.get m c) (map_.contains_key-keys m c ∙ none)

left_false : (a b : Bool) → (a || b) ≡ false → a ≡ false
left_false true b e = e
left_false false b e = refl

right_false : (a b : Bool) → (a || b) ≡ false → b ≡ false
right_false true b e = cc
right_false false b e = e

-- at a column that neither has, a merge has none
merged_none : (d : ℕ) (p q : Partition) (c : ℕ) → list_any (eq_by_cmp nat_cmp c) (map_.keys p.cells ++ map_.keys q.cells) ≡ false
    → merged_cell d p q c ≡ None
merged_none d p q c none =
    let either = sym (list_any-append (eq_by_cmp nat_cmp c) (map_.keys p.cells) (map_.keys q.cells)) ∙ none in
    ap (λ x. unshadowed d (newest_of x (map_.get q.cells c))) (get_absent p.cells c (left_false _ _ either))
    ∙ ap (unshadowed d) (get_absent q.cells c (right_false _ _ either))

-- what a merge has of a column
pub get_merge : (p q : Partition) (c : ℕ) → map_.get (merge p q).cells c ≡ merged_cell (max p.deleted q.deleted) p q c
unfolding merge
get_merge p q c =
    map_.get-from_entries nat_cmp_total _ c ∙ find_merged _ p q c (map_.keys p.cells ++ map_.keys q.cells) _ refl (merged_none _ p q c)

pub deleted_merge : (p q : Partition) → (merge p q).deleted ≡ max p.deleted q.deleted
unfolding merge
deleted_merge p q = refl

-- two partitions that answer alike are equal
pub same_partition : (p q : Partition) → p.deleted ≡ q.deleted → ((c : ℕ) → map_.get p.cells c ≡ map_.get q.cells c) → p ≡ q
same_partition p q same alike =
    let cells = map_.same_map nat_cmp_total map_.nat_cmp-IsAntisymmetric p.cells q.cells alike in
    λ i. record { deleted = same i; cells = cells i }

-- ---- laws

shadowed_once : (t : Bool) (cell : Cell) (d : ℕ) → nat_le cell.time d ≡ t
    → unshadowed d (if t then None else Some cell) ≡ (if t then None else Some cell)
shadowed_once true cell d e = refl
shadowed_once false cell d e = ap (λ b. if b then None else Some cell) e

unshadowed_again : (d : ℕ) (x : Option Cell) → unshadowed d (unshadowed d x) ≡ unshadowed d x
unshadowed_again d None = refl
unshadowed_again d (Some cell) = shadowed_once _ cell d refl

-- no merge has a shadowed cell
pub merge_is_normal : (p q : Partition) → IsNormal (merge p q)
merge_is_normal p q c =
    let d = max p.deleted q.deleted in
    ap (λ e. unshadowed e (map_.get (merge p q).cells c)) (deleted_merge p q) ∙ ap (unshadowed d) (get_merge p q c)
    ∙ unshadowed_again d (newest_of (map_.get p.cells c) (map_.get q.cells c)) ∙ sym (get_merge p q c)

-- a partition merged with itself
pub merge_with_itself : (p : Partition) → IsNormal p → merge p p ≡ p
merge_with_itself p normal =
    let d : max p.deleted p.deleted ≡ p.deleted = omega arith in
    same_partition (merge p p) p (deleted_merge p p ∙ d)
    (λ c. get_merge p p c ∙ ap (λ e. merged_cell e p p c) d ∙ ap (unshadowed p.deleted) (newest_of_itself (map_.get p.cells c)) ∙ normal c)

-- wherever both have a cell of a column, the two tie only where they are equal
abbrev pub TiesAreEqual : Partition → Partition → Type 0
TiesAreEqual p q = (c : ℕ) → TieOnlyWhereEqual (map_.get p.cells c) (map_.get q.cells c)

-- two partitions in either order
pub merge_commutes : (p q : Partition) → TiesAreEqual p q → merge p q ≡ merge q p
merge_commutes p q same =
    let d : max p.deleted q.deleted ≡ max q.deleted p.deleted = omega arith in
    same_partition (merge p q) (merge q p) (deleted_merge p q ∙ d ∙ sym (deleted_merge q p))
    (λ c. get_merge p q c ∙ ap (λ e. merged_cell e p q c) d ∙ ap (unshadowed (max q.deleted p.deleted)) (newest_of_commutes _ _ (same c)) ∙ sym (get_merge q p c))

gone : (d : ℕ) (cell : Cell) → cell.time ≤ d → unshadowed d (Some cell) ≡ None
gone d cell h = let e : nat_le cell.time d ≡ true = grind (arith, nat_tests) in ap (λ b. if b then None else Some cell) e

newest_is : (a b : Cell) → (newest a b ≡ a) ⊎ (newest a b ≡ b)
newest_is a b = elim (is_lt (cell_cmp a b)) as (λ t. ((if t then b else a) ≡ a) ⊎ ((if t then b else a) ≡ b)) [ true ↦ inr refl | false ↦ inl refl ]

-- a cell that a later deletion shadows anyway may be left out before
left_out : (e : ℕ) (a : Cell) (z : Option Cell) → a.time ≤ e → unshadowed e z ≡ unshadowed e (newest_of (Some a) z)
left_out e a None h = sym (gone e a h)
left_out e a (Some c) h =
    elim (newest_is a c) [
      | inl first ↦ let older : c.time ≤ a.time = omega (arith, newest_time a c, ap (λ (x : Cell). x.time) first) in
          gone e c (omega arith) ∙ sym (ap (λ x. unshadowed e (Some x)) first ∙ gone e a h)
      | inr second ↦ ap (λ x. unshadowed e (Some x)) (sym second)
    ]

left_out_behind : (e : ℕ) (x : Option Cell) (c : Cell) → c.time ≤ e → unshadowed e (newest_of x None) ≡ unshadowed e (newest_of x (Some c))
left_out_behind e None c h = sym (gone e c h)
left_out_behind e (Some a) c h =
    elim (newest_is a c) [
      | inl first ↦ ap (λ x. unshadowed e (Some x)) (sym first)
      | inr second ↦ let older : a.time ≤ c.time = omega (arith, newest_time a c, ap (λ (x : Cell). x.time) second) in
          gone e a (omega arith) ∙ sym (ap (λ x. unshadowed e (Some x)) second ∙ gone e c h)
    ]

shadowed_before : (d e : ℕ) (x z : Option Cell) → d ≤ e → unshadowed e (newest_of (unshadowed d x) z) ≡ unshadowed e (newest_of x z)
shadowed_before d e None z h = refl
shadowed_before d e (Some a) z h =
    elim (nat_le a.time d) as (λ t. nat_le a.time d ≡ t → unshadowed e (newest_of (if t then None else Some a) z) ≡ unshadowed e (newest_of (Some a) z)) [
      | true ↦ λ t. left_out e a z (grind (arith, nat_tests))
      | false ↦ λ t. refl
    ] refl

shadowed_behind : (d e : ℕ) (x z : Option Cell) → d ≤ e → unshadowed e (newest_of x (unshadowed d z)) ≡ unshadowed e (newest_of x z)
shadowed_behind d e x None h = refl
shadowed_behind d e x (Some c) h =
    elim (nat_le c.time d) as (λ t. nat_le c.time d ≡ t → unshadowed e (newest_of x (if t then None else Some c)) ≡ unshadowed e (newest_of x (Some c))) [
      | true ↦ λ t. left_out_behind e x c (grind (arith, nat_tests))
      | false ↦ λ t. refl
    ] refl

-- a column of two merges, the first two first
merged_left : (p q r : Partition) (c : ℕ)
    → map_.get (merge (merge p q) r).cells c ≡ unshadowed (max (max p.deleted q.deleted) r.deleted) (newest_of (newest_of (map_.get p.cells c) (map_.get q.cells c)) (map_.get r.cells c))
merged_left p q r c =
    let d = max p.deleted q.deleted in
    get_merge (merge p q) r c
    ∙ ap (λ e. unshadowed (max e r.deleted) (newest_of (map_.get (merge p q).cells c) (map_.get r.cells c))) (deleted_merge p q)
    ∙ ap (λ x. unshadowed (max d r.deleted) (newest_of x (map_.get r.cells c))) (get_merge p q c)
    ∙ shadowed_before d (max d r.deleted) (newest_of (map_.get p.cells c) (map_.get q.cells c)) (map_.get r.cells c) (omega arith)

-- and the last two first
merged_right : (p q r : Partition) (c : ℕ)
    → map_.get (merge p (merge q r)).cells c ≡ unshadowed (max p.deleted (max q.deleted r.deleted)) (newest_of (map_.get p.cells c) (newest_of (map_.get q.cells c) (map_.get r.cells c)))
merged_right p q r c =
    let d = max q.deleted r.deleted in
    get_merge p (merge q r) c
    ∙ ap (λ e. unshadowed (max p.deleted e) (newest_of (map_.get p.cells c) (map_.get (merge q r).cells c))) (deleted_merge q r)
    ∙ ap (λ x. unshadowed (max p.deleted d) (newest_of (map_.get p.cells c) x)) (get_merge q r c)
    ∙ shadowed_behind d (max p.deleted d) (map_.get p.cells c) (newest_of (map_.get q.cells c) (map_.get r.cells c)) (omega arith)

-- three partitions, whichever two are merged first
pub merge_associates : (p q r : Partition) → merge (merge p q) r ≡ merge p (merge q r)
merge_associates p q r =
    let deletions : max (max p.deleted q.deleted) r.deleted ≡ max p.deleted (max q.deleted r.deleted) = omega arith in
    same_partition (merge (merge p q) r) (merge p (merge q r))
    (deleted_merge (merge p q) r ∙ ap (λ d. max d r.deleted) (deleted_merge p q) ∙ deletions ∙ sym (deleted_merge p (merge q r) ∙ ap (max p.deleted) (deleted_merge q r)))
    (λ c. merged_left p q r c ∙ ap (λ d. unshadowed d (newest_of (newest_of (map_.get p.cells c) (map_.get q.cells c)) (map_.get r.cells c))) deletions
    ∙ ap (unshadowed (max p.deleted (max q.deleted r.deleted))) (newest_of_associates (map_.get p.cells c) (map_.get q.cells c) (map_.get r.cells c)) ∙ sym (merged_right p q r c))
