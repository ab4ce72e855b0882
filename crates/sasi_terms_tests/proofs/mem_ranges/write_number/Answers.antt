use Rattle.std.proofs.Common.{IfSome, Option, Some, subst, sym}
use Rattle.std.specs.FinMap as fin
use Rattle.sasi_types.specs.declared.value.Value.{Value}
use Rattle.sasi_model.specs.Cells.{value_at}
use Rattle.sasi_memindex.specs.IndexedValues.{IsValueOf}
use Rattle.sasi_terms_tests.proofs.IndexedMapLaws.{can_change, changed}
use Rattle.sasi_terms_tests.proofs.mem_ranges.write_number.Goals as goal

pub put_from-requires : goal.put_from-requires
put_from-requires g c =
    can_change c.args.kind (fin.get c.args.book.now 1) c.change_of-change.result c.requires.indexes
    (subst (λ (v : Option Value). IfSome v (IsValueOf c.args.kind)) (sym c.change_of-change.ensures) c.requires.value)

pub returns : goal.returns
returns g c =
    changed c.args.kind c.expect-key.result c.change_of-change.result (fin.get c.args.book.now 1) (fin.get c.put_from.new.self 1) c.requires.indexes
    (subst (λ (v : Option Value). IfSome v (IsValueOf c.args.kind)) (sym c.change_of-change.ensures) c.requires.value) (rw c.expect.ensures at c.put_from.ensures.ok)
