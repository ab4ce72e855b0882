-- Indexes stay those of their map.
use Rattle.std.proofs.Common.{◌≡◌, ℕ, Bool, true, false, max, nat_le, if◌then◌else◌, List, [], Option, None, Some, IfSome, unwrap_or, refl, sym, ap, subst, ◌∙◌}
use Rattle.std.specs.FinMap as map_
use Rattle.std.specs.List.{list_any}
use Rattle.std.specs.Option.{option_and_then, option_map}
use Rattle.std.specs.Ordering.{eq_by_cmp, is_lt, nat_cmp, ordering_then}
use Rattle.sasi_types.specs.declared.cell.Cell.{Cell}
use Rattle.sasi_types.specs.declared.class.Class.{Class}
use Rattle.sasi_types.specs.declared.column.ColumnType.{ColumnType}
use Rattle.sasi_types.specs.declared.decorated_key.DecoratedKey.{DecoratedKey}
use Rattle.sasi_types.specs.declared.rule.Rule.{Rule}
use Rattle.sasi_types.specs.declared.value.Value.{Value}
use Rattle.sasi_types.specs.declared.value.Value.TheVariants.{Text, Int, BigInt, Uuid}
use Rattle.sasi_types.specs.DecoratedKey.{decorated_cmp, decorated_total}
use Rattle.sasi_types.specs.Rule.{class_of}
use Rattle.sasi_cells.proofs.Laws.Decorated.{equal_keys}
use Rattle.sasi_cells.proofs.Laws.Merged.{get_merge}
use Rattle.sasi_cells.specs.Maps.{put}
use Rattle.sasi_model.specs.Abbreviations.{Partitions}
use Rattle.sasi_model.specs.Cells.{Partition, empty_partition, merge, merged_cell, newest, newest_of, unshadowed, value_at, value_cmp}
use Rattle.sasi_model.specs.IndexTerms.{cell_at, terms_at, terms_of_cell, terms_of_value}
use Rattle.sasi_model.specs.Tokens.{same}
use Rattle.sasi_memindex.specs.Book.{AreValuesOf, CanMerge, IsKept, IsMissing}
use Rattle.sasi_memindex.specs.IndexedValues.{IsCellOf, IsValueOf, Lacks, class_for, live_value}
use Rattle.sasi_memindex.specs.IndexedValues.Lacks.{for_new, for_old}
use Rattle.sasi_memindex.specs.IndexOf.{HasPut, HasTermsAt, IsIndexOf}
use Rattle.sasi_memindex.specs.MemIndexView.{MemIndexView, has, subject}
use Rattle.sasi_memindex.proofs.MergedValues.{old_cell}
use Rattle.sasi_memindex.proofs.PutLaws.{of_cell}

-- ---- values

-- the value of a column of a partition that may not be there
live_at : (column : ℕ) (p : Option Partition) → live_value (option_and_then (λ (q : Partition). map_.get q.cells column) p) ≡ option_and_then (λ (q : Partition). value_at q column) p
live_at column None = refl
live_at column (Some p) = refl

newest_is : (type : ColumnType) (b : Bool) (one two : Cell) → IsCellOf type (Some one) → IsCellOf type (Some two) → IsCellOf type (Some (if b then two else one))
newest_is type true one two first second = second
newest_is type false one two first second = first

newest_of_is : (type : ColumnType) (one two : Option Cell) → IsCellOf type one → IsCellOf type two → IsCellOf type (newest_of one two)
newest_of_is type None two first second = second
newest_of_is type (Some one) None first second = first
newest_of_is type (Some one) (Some two) first second = newest_is type (is_lt (ordering_then (nat_cmp one.time two.time) (value_cmp one.value two.value))) one two first second

unshadowed_is : (type : ColumnType) (deleted : ℕ) (cell : Option Cell) → IsCellOf type cell → IsCellOf type (unshadowed deleted cell)
unshadowed_is type deleted None is = tt
unshadowed_is type deleted (Some cell) is = by (nat_le cell.time deleted)
  where
    by : (b : Bool) → IsCellOf type (if b then None else Some cell)
    by true = tt
    by false = is

-- a merge has values of the type where both have
pub merged_is : (type : ColumnType) (column : ℕ) (p q : Partition) → IsCellOf type (map_.get p.cells column) → IsCellOf type (map_.get q.cells column) → IsCellOf type (map_.get (merge p q).cells column)
merged_is type column p q first second =
    subst (IsCellOf type) (sym (get_merge p q column)) (unshadowed_is type (max p.deleted q.deleted) (newest_of (map_.get p.cells column) (map_.get q.cells column)) (newest_of_is type (map_.get p.cells column) (map_.get q.cells column) first second))

-- ---- one index

pub can_merge : (m : Partitions) (index : MemIndexView) (key : DecoratedKey) (change : Partition) → IsKept m index → IsCellOf index.kind (map_.get change.cells index.column) → CanMerge index key (map_.get m key) change
can_merge m index key change kept written = record {
  current = λ term. kept.is key term ∙ ap (list_any (same term)) (of_cell index.rule (cell_at m key index.column) ∙ ap (terms_of_value index.rule) (live_at index.column (map_.get m key)));
  before = subst (λ (v : Option Value). IfSome v (IsValueOf index.kind)) (live_at index.column (map_.get m key)) (kept.values key);
  written = written;
}

-- the cell of the old partition, or of none
old_is : (type : ColumnType) (column : ℕ) (old : Option Partition) → IfSome (option_and_then (λ (p : Partition). value_at p column) old) (IsValueOf type) → IsCellOf type (map_.get (unwrap_or old empty_partition).cells column)
old_is type column None is = subst (IsCellOf type) (sym (map_.get-empty nat_cmp column)) tt
old_is type column (Some p) is = is

pub after_is_of : (index : MemIndexView) (key : DecoratedKey) (old : Option Partition) (change : Partition) → CanMerge index key old change → IfSome (value_at (merge (unwrap_or old empty_partition) change) index.column) (IsValueOf index.kind)
after_is_of index key old change can = merged_is index.kind index.column (unwrap_or old empty_partition) change (old_is index.kind index.column old can.before) can.written

-- what a map has at a key after a change
got : (m : Partitions) (key : DecoratedKey) (change : Partition) (k : DecoratedKey) → map_.get (put m key change) k ≡ (if eq_by_cmp decorated_cmp k key then Some (merge (unwrap_or (map_.get m key) empty_partition) change) else map_.get m k)
got m key change k = map_.get-insert decorated_total m key (merge (unwrap_or (map_.get m key) empty_partition) change) k

-- the values of a column stay of its type
pub values_after : (m : Partitions) (key : DecoratedKey) (change : Partition) (column : ℕ) (type : ColumnType) → AreValuesOf column type m → IsCellOf type (map_.get change.cells column) → AreValuesOf column type (put m key change)
values_after m key change column type are written k = subst (λ (p : Option Partition). IsCellOf type (cell p)) (sym (got m key change k)) (by (eq_by_cmp decorated_cmp k key))
  where
    cell : Option Partition → Option Cell
    cell p = option_and_then (λ (q : Partition). map_.get q.cells column) p

    merged : Partition
    merged = merge (unwrap_or (map_.get m key) empty_partition) change

    by : (b : Bool) → IsCellOf type (cell (if b then Some merged else map_.get m k))
    by true = merged_is type column (unwrap_or (map_.get m key) empty_partition) change (subst (IsCellOf type) (old_cell (map_.get m key) column) (are key)) written
    by false = are k

pub kept_after : (m : Partitions) (index new : MemIndexView) (key : DecoratedKey) (change : Partition) → IsKept m index → IsCellOf index.kind (map_.get change.cells index.column)
    → HasPut index key (terms_of_value index.rule (value_at (merge (unwrap_or (map_.get m key) empty_partition) change) index.column)) new → subject new ≡ subject index → IsKept (put m key change) new
kept_after m index new key change kept written has_put alike = record {
  is = λ k term.
      has_put term k ∙ at k term (eq_by_cmp decorated_cmp k key) refl
      ∙ ap (λ (r : Option Rule). list_any (same term) (terms_at r index.column after k)) (sym rule) ∙ ap (λ c. list_any (same term) (terms_at new.rule c after k)) (sym column);
  values = λ k. subst (λ (t : ColumnType). IsCellOf t (cell_at after k new.column)) (sym kind) (subst (λ c. IsCellOf index.kind (cell_at after k c)) (sym column) (values_after m key change index.column index.kind kept.values written k));
}
  where
    after : Partitions
    after = put m key change

    merged : Partition
    merged = merge (unwrap_or (map_.get m key) empty_partition) change

    column : new.column ≡ index.column
    column = ap (λ (s : ℕ × (ColumnType × Option Rule)). s.0) alike

    kind : new.kind ≡ index.kind
    kind = ap (λ (s : ℕ × (ColumnType × Option Rule)). s.1.0) alike

    rule : new.rule ≡ index.rule
    rule = ap (λ (s : ℕ × (ColumnType × Option Rule)). s.1.1) alike

    terms : Option Partition → List (List ℕ)
    terms p = terms_of_cell index.rule (option_and_then (λ (q : Partition). map_.get q.cells index.column) p)

    at : (k : DecoratedKey) (term : List ℕ) (b : Bool) → eq_by_cmp decorated_cmp k key ≡ b
        → (if b then list_any (same term) (terms_of_value index.rule (value_at merged index.column)) else has index term k) ≡ list_any (same term) (terms_at index.rule index.column after k)
    at k term true e =
        ap (list_any (same term)) (sym (of_cell index.rule (map_.get merged.cells index.column)))
        ∙ sym (ap (λ (p : Option Partition). list_any (same term) (terms p)) (got m key change k ∙ ap (λ b. if b then Some merged else map_.get m k) e))
    at k term false e = kept.is k term ∙ sym (ap (λ (p : Option Partition). list_any (same term) (terms p)) (got m key change k ∙ ap (λ b. if b then Some merged else map_.get m k) e))

-- ---- classes

pub class_needed_by : (rule : Option Rule) (value : Option Value) (class : Class) → class_for rule value ≡ Some class → option_map class_of rule ≡ Some class
class_needed_by None None class e = cc
class_needed_by None (Some (Text text)) class e = cc
class_needed_by None (Some (Int number)) class e = cc
class_needed_by None (Some (BigInt number)) class e = cc
class_needed_by None (Some (Uuid bytes)) class e = cc
class_needed_by (Some rule) None class e = cc
class_needed_by (Some rule) (Some (Text text)) class e = e
class_needed_by (Some rule) (Some (Int number)) class e = cc
class_needed_by (Some rule) (Some (BigInt number)) class e = cc
class_needed_by (Some rule) (Some (Uuid bytes)) class e = cc

pub lacks_missing : (classes : List Class) (rule : Option Rule) (old new : Option Value) (class : Class) → Lacks classes rule old new class → IsMissing classes rule class
lacks_missing classes rule old new class (for_old needed lacking) = record { needed = class_needed_by rule old class needed; lacking = lacking }
lacks_missing classes rule old new class (for_new needed lacking) = record { needed = class_needed_by rule new class needed; lacking = lacking }
