use Rattle.std.proofs.Common.{◌≡◌, subst, sym}
use Rattle.sasi_model.specs.Changes.{state_with_index}
use Rattle.sasi_model.specs.State.{State}
use Rattle.sasi_schema.specs.IndexFacts.{IsIndexIn}
use Rattle.sasi_schema.specs.SchemaViews.{index_of_new}
use Rattle.sasi_machine.specs.Tables.{state_of}
use Rattle.sasi_machine.proofs.DefinedIndexes.{addable, define_kept, defined_schema, defined_state}
use Rattle.sasi_machine.proofs.database.Database.define_index.Goals as goal

pub restore_index-requires : goal.restore_index-requires
restore_index-requires c =
    let s = c.self.inside in
    subst (IsIndexIn s.schema.definitions) (sym c.numbered.ensures)
    (addable c.args.self.now s.partitioner s.schema.definitions s.memtables.items s.max_timestamp c.in_ok-number.number c.args.new c.self.view_is c.self.invariant c.requires)

pub invariant_of-self-2 : goal.invariant_of-self-2
invariant_of-self-2 c =
    let s = c.self.inside in
    rw (defined_schema c.in_ok-number.number c.args.new c.numbered.result s.schema c.restore_index.new.self c.numbered.ensures c.in_ok-restore_index.ensures.ok)
    (define_kept s.partitioner s.schema.definitions s.memtables.items s.max_timestamp c.args.new.table (index_of_new c.args.new) c.self.invariant)

pub returns-clause-ok : goal.returns-clause-ok
returns-clause-ok c =
    let s = c.self.inside in
    subst (λ (old : State). state_of s.partitioner c.restore_index.new.self.definitions s.memtables.items ≡ state_with_index old c.args.new.table (index_of_new c.args.new)) c.self.view_is
    (rw (defined_schema c.in_ok-number.number c.args.new c.numbered.result s.schema c.restore_index.new.self c.numbered.ensures c.in_ok-restore_index.ensures.ok)
    (defined_state s.partitioner s.schema.definitions s.memtables.items c.args.new.table (index_of_new c.args.new)))
