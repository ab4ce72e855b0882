use Rattle.std.proofs.Common.{subst, sym}
use Rattle.sasi_schema.specs.IndexFacts.{IsIndexIn}
use Rattle.sasi_schema.proofs.NewIndexes.{new_index_fits}
use Rattle.sasi_schema.proofs.schema.Schema.create_index.Goals as goal

pub restore_index-requires : goal.restore_index-requires
restore_index-requires c =
    subst (IsIndexIn c.args.self.now.definitions) (sym c.numbered.ensures)
    (new_index_fits c.args.self.now.definitions _ c.args.table.now c.args.column.now c.args.options.now _ _ c.in_ok-new.ensures.made)
