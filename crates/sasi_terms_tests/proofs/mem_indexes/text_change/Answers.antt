use Rattle.std.proofs.Common.{◌∙◌, IfSome, Option, sym, ap, subst}
use Rattle.sasi_types.specs.declared.column.ColumnType.TheVariants.{Text as OfTexts}
use Rattle.sasi_types.specs.declared.value.Value.{Value}
use Rattle.sasi_model.specs.Cells.{Partition, value_at}
use Rattle.sasi_memindex.specs.IndexedValues.{IsValueOf}
use Rattle.sasi_terms_tests.proofs.IndexedMapLaws.{none_written}
use Rattle.sasi_terms_tests.proofs.mem_indexes.text_change.Goals as goal

pub returns-in_default : goal.returns-in_default
returns-in_default g c =
    subst (λ (v : Option Value). IfSome v (IsValueOf OfTexts)) (sym (ap (λ (p : Partition). value_at p 1) c.deletion.ensures ∙ none_written c.args.time)) tt
