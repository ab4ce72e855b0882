use Rattle.sasi_schema.specs.Defined.{definition}
use Rattle.sasi_machine.proofs.Accepted.{delete_accepted}
use Rattle.sasi_machine.proofs.builder.MutationBuilder.delete.Goals as goal

pub mutation_of_delete-requires-clause-key : goal.mutation_of_delete-requires-clause-key
mutation_of_delete-requires-clause-key c =
    let t = c.args.table.now in
    (delete_accepted (definition t) c.args.self.now.max_timestamp t.name c.args.columns.items c.args.relation c.args.time t.key_is_there (rw c.as_slice.ensures.value at c.in_ok-time.ensures.answers)).key

pub returns-clause-answers : goal.returns-clause-answers
returns-clause-answers c = rw c.as_slice.ensures.value at c.in_ok-time.ensures.answers
