use Rattle.std.proofs.Common.{ℕ, ap, subst, sym, ◌≡◌, ◌∙◌}
use Rattle.std.specs.Prelude.{max}
use Rattle.sasi_model.specs.State.{State}
use Rattle.sasi_cells.specs.Mutations.{state_with_mutation}
use Rattle.sasi_machine.specs.Prepares.{IsApplicable}
use Rattle.sasi_machine.specs.Tables.{IsMachineState, state_of}
use Rattle.sasi_machine.proofs.StatementPreparing.{fit_kept, fit_room, fit_state}
use Rattle.sasi_machine.proofs.TablesOfMemtables.{changed_written}
use Rattle.sasi_machine.proofs.database.Database.apply.Goals as goal

pub merge_into-requires : goal.merge_into-requires
merge_into-requires c =
    let s = c.self.inside in
    fit_room s.partitioner s.schema.definitions s.memtables.items s.max_timestamp c.args.mutation c.self.invariant (subst (λ (old : State). IsApplicable old c.args.mutation) (sym c.self.view_is) c.requires)

pub invariant_of-self-2 : goal.invariant_of-self-2
invariant_of-self-2 c =
    let s = c.self.inside in
    let new = c.merge_into.new.memtables.items in
    subst (λ (g : ℕ). IsMachineState s.partitioner s.schema.definitions new g) (sym (c.max-self-inside.ensures ∙ ap (λ (t : ℕ). max s.max_timestamp t) c.in_ok-time.ensures.time))
    (fit_kept s.partitioner s.schema.definitions s.memtables.items new s.max_timestamp c.args.mutation c.self.invariant
    (subst (λ (old : State). IsApplicable old c.args.mutation) (sym c.self.view_is) c.requires) (changed_written s.partitioner s.memtables.items new c.args.mutation c.self.invariant.under c.in_ok-time.ensures.ok))

pub returns-clause-ok : goal.returns-clause-ok
returns-clause-ok c =
    let s = c.self.inside in
    let new = c.merge_into.new.memtables.items in
    subst (λ (old : State). state_of s.partitioner s.schema.definitions new ≡ state_with_mutation old c.args.mutation) c.self.view_is
    (fit_state s.partitioner s.schema.definitions s.memtables.items new s.max_timestamp c.args.mutation c.self.invariant
    (subst (λ (old : State). IsApplicable old c.args.mutation) (sym c.self.view_is) c.requires) (changed_written s.partitioner s.memtables.items new c.args.mutation c.self.invariant.under c.in_ok-time.ensures.ok))
