use Rattle.std.proofs.Common.{OnOk, IfSome, Option, map, unwrap_or, subst, sym, ap, ◌∙◌}
use Rattle.std.specs.Option.{option_and_then, option_copied}
use Rattle.sasi_types.specs.declared.value.Value.{Value}
use Rattle.sasi_model.specs.Cells.{Partition, empty_partition, merge, value_at}
use Rattle.sasi_model.specs.IndexTerms.{terms_of_value}
use Rattle.sasi_memindex.specs.IndexedValues.{IsValueOf}
use Rattle.sasi_memindex.specs.IndexOf.{HasPut, HasTermsAt}
use Rattle.sasi_memindex.proofs.BookLaws.{after_is_of, lacks_missing}
use Rattle.sasi_memindex.proofs.PutLaws.{nothing_put}
use Rattle.sasi_memindex.proofs.indexed.change_one.Goals as goal

pub put_value-requires-clause-new_value : goal.put_value-requires-clause-new_value
put_value-requires-clause-new_value g c =
    let index = c.args.numbered.now.1 in
    let old = option_copied c.args.old in
    let merged = merge (unwrap_or old empty_partition) c.args.change.now in
    subst (λ (v : Option Value). IfSome v (IsValueOf index.kind)) (sym (c.value_after-after.ensures ∙ ap (value_at merged) c.column-column.ensures))
    (after_is_of index c.args.key.now old c.args.change.now c.requires)

pub returns-then-is_unchanged-clause-ok : goal.returns-then-is_unchanged-clause-ok
returns-then-is_unchanged-clause-ok g c =
    let index = c.args.numbered.now.1 in
    let old = option_copied c.args.old in
    let merged = merge (unwrap_or old empty_partition) c.args.change.now in
    let value =
    ap (λ n. option_and_then (λ (p : Partition). value_at p n) old) (sym c.column-column.ensures) ∙ sym c.value_in-before.ensures
    ∙ c.is_unchanged.ensures.0 c.if-is_unchanged.true ∙ c.value_after-after.ensures ∙ ap (value_at merged) c.column-column.ensures in
    nothing_put index c.args.key.now (terms_of_value index.rule (value_at merged index.column))
    (subst (λ (v : Option Value). HasTermsAt index c.args.key.now (terms_of_value index.rule v)) value c.requires.current)

pub returns-clause-ok : goal.returns-clause-ok
returns-clause-ok g c =
    let index = c.args.numbered.now.1 in
    let merged = merge (unwrap_or (option_copied c.args.old) empty_partition) c.args.change.now in
    subst (λ (v : Option Value). OnOk c.put_value.result (HasPut index c.args.key.now (terms_of_value index.rule v) c.put_value.new.self))
    (c.value_after-after.ensures ∙ ap (value_at merged) c.column-column.ensures) c.put_value.ensures.ok

pub returns-clause-missing : goal.returns-clause-missing
returns-clause-missing g c = λ class e.
    lacks_missing (map (λ b. (goal.Analyzer-dyn g (b.vtable, b.value)).kind b.value) c.args.kit.now.objects.items) c.args.numbered.now.1.rule
    (option_copied c.value_in-before.result) (option_copied c.value_after-after.result) class ((c.put_value.ensures.missing class).0 e)
