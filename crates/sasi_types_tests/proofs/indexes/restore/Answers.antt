use Rattle.std.proofs.Common.{subst, sym}
use Rattle.sasi_schema.specs.IndexFacts.{IsIndexIn}
use Rattle.sasi_schema.proofs.NewIndexes.{new_index_fits}
use Rattle.sasi_types_tests.proofs.indexes.restore.Goals as goal

pub restore_index-requires : goal.restore_index-requires
restore_index-requires g c =
    subst (IsIndexIn c.args.schema.now.definitions) (sym c.numbered.ensures)
    (new_index_fits c.args.schema.now.definitions _ _ _ _ _ _ (rw c.expect-new.ensures at c.prepare_index.ensures.made))
