use Rattle.std.proofs.Common.{List, ℕ, subst, sym}
use Rattle.sasi_types.specs.declared.column.ColumnType.TheVariants as kinds
use Rattle.sasi_sources_tests.specs.Sources.{AreTextMaps}
use Rattle.sasi_sources_tests.proofs.key_look_ups.source_of.Goals as goal

pub returns : goal.returns
returns g c = record {
  opens = λ name is. c.files_of.ensures name (c.new.ensures.opens name is);
  ready = c.new.ensures.ready;
  prints = λ seen book has. c.new.ensures.prints seen book kinds.Text (record { first = c.types_of.ensures; stored = subst (λ (ns : List ℕ). AreTextMaps book ns) (sym c.numbers_of-numbers.ensures) has });
}
