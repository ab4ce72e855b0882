-- What mutations do.
use Rattle.sasi_model.specs.State.{State, decorated}
use Rattle.sasi_model.specs.Changes.{after_change}
use Rattle.sasi_cells.specs.declared.mutation.Mutation.{Mutation}

-- the state after the mutation
abbrev pub state_with_mutation : State → Mutation → State
state_with_mutation s m = after_change s m.table (decorated s.partitioner m.key) m.change
