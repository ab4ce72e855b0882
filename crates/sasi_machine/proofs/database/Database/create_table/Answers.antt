use Rattle.std.proofs.Common.{◌≡◌, subst}
use Rattle.sasi_model.specs.State.{State}
use Rattle.sasi_model.specs.Changes.{with_new_table}
use Rattle.sasi_schema.specs.Defined.{definition}
use Rattle.sasi_machine.specs.Tables.{state_of}
use Rattle.sasi_machine.proofs.StatementPreparing.{next_number, next_free, created_state}
use Rattle.sasi_machine.proofs.StatementStepping.{create_kept, pushed}
use Rattle.sasi_machine.proofs.database.Database.create_table.Goals as goal

pub restore_table-requires-clause-number : goal.restore_table-requires-clause-number
restore_table-requires-clause-number c =
    let s = c.self.inside in
    next_number c.args.self.now s.partitioner s.schema.definitions s.memtables.items s.max_timestamp c.args.table c.self.view_is c.self.invariant c.requires

pub restore_table-requires-clause-free : goal.restore_table-requires-clause-free
restore_table-requires-clause-free c =
    let s = c.self.inside in
    next_free c.args.self.now s.partitioner s.schema.definitions s.memtables.items s.max_timestamp c.args.table c.self.view_is c.self.invariant c.requires

pub invariant_of-self-2 : goal.invariant_of-self-2
invariant_of-self-2 c =
    let s = c.self.inside in
    let d = definition c.args.table in
    let memtables = pushed s.partitioner s.memtables.items c.reserve_one.new.memtables.items c.add_within.new.memtables.items c.new-memtable.result
    c.in_ok-reserve_one.ensures.items c.add_within.ensures c.new-memtable.ensures in
    rw (c.in_ok-restore_table.ensures.ok, memtables) (create_kept s.partitioner s.schema.definitions s.memtables.items s.max_timestamp d c.self.invariant)

pub returns-clause-ok : goal.returns-clause-ok
returns-clause-ok c =
    let s = c.self.inside in
    let d = definition c.args.table in
    let memtables = pushed s.partitioner s.memtables.items c.reserve_one.new.memtables.items c.add_within.new.memtables.items c.new-memtable.result
    c.in_ok-reserve_one.ensures.items c.add_within.ensures c.new-memtable.ensures in
    subst (λ (old : State). state_of s.partitioner c.restore_table.new.self.definitions c.add_within.new.memtables.items ≡ with_new_table old d) c.self.view_is
    (rw (c.in_ok-restore_table.ensures.ok, memtables) (created_state s.partitioner s.schema.definitions s.memtables.items s.max_timestamp d c.self.invariant))
