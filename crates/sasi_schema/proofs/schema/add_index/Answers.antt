use Rattle.std.proofs.Common.{ℕ, List, ◌++◌, ◌∷◌, [], ◌-◌, subst, sym}
use Rattle.std.proofs.Math.Seq.{map-set_same}
use Rattle.sasi_model.specs.Indexes.{index_of}
use Rattle.sasi_model.specs.State.{with_index}
use Rattle.sasi_schema.specs.declared.table.Table.{Table}
use Rattle.sasi_schema.specs.Defined.{definition, numbers_of}
use Rattle.sasi_schema.specs.IndexFacts.{IsIndexOf}
use Rattle.sasi_schema.specs.Numbers.{RisesFrom}
use Rattle.sasi_schema.proofs.IndexFacts.{table_of_index, table_within}
use Rattle.sasi_schema.proofs.Numbered.{seen_on_ok}
use Rattle.sasi_schema.proofs.schema.add_index.Goals as goal

pub add_index-requires : goal.add_index-requires
add_index-requires c =
    subst (λ (t : Table). IsIndexOf t.number t.columns t.key c.args.def) c.index-tables-at.is
    (table_of_index c.args.tables.now c.args.def c.index-tables-at.result c.requires.rises c.requires.index c.index-tables-at.is)

pub returns-clause-rises : goal.returns-clause-rises
returns-clause-rises c =
    subst (RisesFrom 1) (sym (map-set_same (λ (t : Table). t.number) c.args.tables.now (c.args.def.table - 1) c.add_index.new.self c.index-tables-at.result c.add_index.ensures.number)) c.requires.rises

pub returns-clause-definitions : goal.returns-clause-definitions
returns-clause-definitions c =
    seen_on_ok c.add_index.result definition (with_index (index_of c.args.def)) c.args.def.table c.args.tables.now c.index-tables-at.result c.add_index.new.self c.requires.index.above
    (table_within c.args.tables.now c.args.def c.requires.index) c.index-tables-at.is c.add_index.ensures.definition

pub returns-clause-numbers : goal.returns-clause-numbers
returns-clause-numbers c =
    seen_on_ok c.add_index.result numbers_of (λ (numbers : List ℕ). numbers ++ c.args.def.number ∷ []) c.args.def.table c.args.tables.now c.index-tables-at.result c.add_index.new.self
    c.requires.index.above (table_within c.args.tables.now c.args.def c.requires.index) c.index-tables-at.is c.add_index.ensures.numbers
