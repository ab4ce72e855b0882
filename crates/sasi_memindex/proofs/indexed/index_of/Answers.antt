use Rattle.std.proofs.Common.{ℕ, List, Option, None, IfSome, map, refl, subst, sym, ap, ◌∙◌}
use Rattle.std.specs.FinMap as fin
use Rattle.std.specs.Option.{option_copied}
use Rattle.sasi_types.specs.declared.class.Class.{Class}
use Rattle.sasi_types.specs.declared.column.ColumnType.{ColumnType}
use Rattle.sasi_types.specs.declared.decorated_key.DecoratedKey.{DecoratedKey}
use Rattle.sasi_types.specs.declared.rule.Rule.{Rule}
use Rattle.sasi_types.specs.declared.value.Value.{Value}
use Rattle.sasi_model.specs.Cells.{Partition, value_at}
use Rattle.sasi_model.specs.IndexTerms.{terms_of_value}
use Rattle.sasi_memindex.specs.Book.{IsMissing}
use Rattle.sasi_memindex.specs.IndexedValues.{IsValueOf}
use Rattle.sasi_memindex.specs.IndexOf.{HasPut}
use Rattle.sasi_memindex.specs.MemIndexView.{MemIndexView, subject}
use Rattle.sasi_memindex.proofs.BookLaws.{lacks_missing}
use Rattle.sasi_memindex.proofs.BuiltIndexes.{IsIndexBefore, IsRestOf, all_of, none_yet, nothing_at, one_less, rest_of, value_is, whole}
use Rattle.sasi_memindex.proofs.ChangedIndexes.{handed_on}
use Rattle.sasi_memindex.proofs.indexed.index_of.Goals as goal

pub put_value-requires-clause-current : goal.put_value-requires-clause-current
put_value-requires-clause-current g c =
    let m = c.args.memtable.now.partitions in
    let on = c.partitions in
    nothing_at m c.in-Some.key.now c.in-Some.partition.now c.next.new.self (subst (IsRestOf m) c.in-Some.ensures.steps on.invariant.rest) on.index
    (subst (λ (l : List (DecoratedKey × Partition)). IsIndexBefore m l on.index) c.in-Some.ensures.steps on.invariant.index)

pub put_value-requires-clause-new_value : goal.put_value-requires-clause-new_value
put_value-requires-clause-new_value g c =
    let m = c.args.memtable.now.partitions in
    let def = c.args.def.now in
    let on = c.partitions in
    let p = c.in-Some.partition.now in
    subst (λ (v : Option Value). IfSome v (IsValueOf on.index.kind)) (sym c.value_in-value.ensures)
    (subst (λ (t : ColumnType). IfSome (value_at p def.column) (IsValueOf t)) (sym (ap (λ (s : ℕ × (ColumnType × Option Rule)). s.1.0) on.invariant.of))
    (value_is m c.in-Some.key.now p c.next.new.self (subst (IsRestOf m) c.in-Some.ensures.steps on.invariant.rest) def.column def.kind c.requires))

pub partitions-init : goal.partitions-init
partitions-init g c =
    let m = c.args.memtable.now.partitions in
    let def = c.args.def.now in
    let iter = c.into_iter-key-iterator.ensures.into_iter_gives ∙ c.iter-key-items.ensures.rest in
    record {
      index = subst (λ (l : List (DecoratedKey × Partition)). IsIndexBefore m l c.new-index.result) (sym iter)
          (subst (λ (i : MemIndexView). IsIndexBefore m (fin.entries m) i) (sym c.new-index.ensures) (none_yet m def.column def.kind def.rule));
      rest = subst (IsRestOf m) (sym iter) (all_of m);
      of = ap subject c.new-index.ensures;
      classes = refl;
    }

pub partitions-preserved : goal.partitions-preserved
partitions-preserved g c =
    let m = c.args.memtable.now.partitions in
    let on = c.partitions in
    let key = c.in-Some.key.now in
    let p = c.in-Some.partition.now in
    let rest = c.next.new.self in
    let is = subst (IsRestOf m) c.in-Some.ensures.steps on.invariant.rest in
    let value = c.value_in-value.ensures ∙ ap (λ n. value_at p n) (sym (ap (λ (s : ℕ × (ColumnType × Option Rule)). s.0) on.invariant.of)) in
    record {
      index = one_less m key p rest is on.index c.put_value.new.self
          (subst (λ (l : List (DecoratedKey × Partition)). IsIndexBefore m l on.index) c.in-Some.ensures.steps on.invariant.index)
          (subst (λ (v : Option Value). HasPut on.index key (terms_of_value on.index.rule v) c.put_value.new.self) value c.in_ok-put_value.ensures.ok) c.put_value.ensures.subject;
      rest = rest_of m key p rest is;
      of = c.put_value.ensures.subject ∙ on.invariant.of;
      classes = c.put_value.ensures.classes ∙ on.invariant.classes;
    }

pub returns-clause-ok : goal.returns-clause-ok
returns-clause-ok g c =
    let def = c.args.def.now in
    let on = c.partitions in
    whole c.args.memtable.now.partitions on.key-iterator on.index c.in-None.ensures.steps.0 on.invariant.index def.column def.kind def.rule on.invariant.of c.requires

pub returns-in_err-put_value-clause-missing : goal.returns-in_err-put_value-clause-missing
returns-in_err-put_value-clause-missing g c = λ class e.
    let on = c.partitions in
    let classes = map (λ b. (goal.Analyzer-dyn g (b.vtable, b.value)).kind b.value) on.kit.objects.items in
    let lacks = (c.put_value.ensures.missing class).0 (handed_on c.put_value.result c.from_residual.result c.in_err-put_value.field-0.0 class c.in_err-put_value.was c.from_residual.ensures.1 e) in
    subst (λ (k : List Class). IsMissing k c.args.def.now.rule class) on.invariant.classes
    (subst (λ (r : Option Rule). IsMissing classes r class) (ap (λ (s : ℕ × (ColumnType × Option Rule)). s.1.1) on.invariant.of)
    (lacks_missing classes on.index.rule None (option_copied c.value_in-value.result) class lacks))
