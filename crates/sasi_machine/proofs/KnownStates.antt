-- What is known of a state.
use Rattle.std.proofs.Common.{◌≡◌, ℕ, List, sym, ap, ◌∙◌}
use Rattle.sasi_types.specs.declared.partitioner.Partitioner.{Partitioner}
use Rattle.sasi_model.specs.Abbreviations.{definitions}
use Rattle.sasi_model.specs.Refusals.{Known}
use Rattle.sasi_model.specs.State.{Definition, State, max_timestamp}
use Rattle.sasi_memtable.specs.MemtableView.{MemtableView}
use Rattle.sasi_machine.specs.Prepares.{IsStateOf}
use Rattle.sasi_machine.specs.Tables.{IsMachineState, state_of}
use Rattle.sasi_machine.proofs.TablesOfMemtables.{definitions_of}

pub definitions_are : (known : Known) (s : State) → IsStateOf known s → definitions s.tables ≡ known.tables
definitions_are known s is = ap (λ (k : Known). k.tables) is

pub max_time_is : (known : Known) (s : State) → IsStateOf known s → max_timestamp s ≡ known.max_timestamp
max_time_is known s is = ap (λ (k : Known). k.max_timestamp) is

pub knows : (known : Known) (s : State) → definitions s.tables ≡ known.tables → max_timestamp s ≡ known.max_timestamp → IsStateOf known s
knows known s tables time =
    ap (λ (ds : List Definition). record { tables = ds; max_timestamp = max_timestamp s }) tables ∙ ap (λ (n : ℕ). record { tables = known.tables; max_timestamp = n }) time

-- the machine's state is one of its definitions and its largest timestamp
pub is_state_of : (p : Partitioner) (ds : List Definition) (cs : List MemtableView) (g : ℕ) → IsMachineState p ds cs g → IsStateOf (record { tables = ds; max_timestamp = g }) (state_of p ds cs)
unfolding max_timestamp
is_state_of p ds cs g kept = knows (record { tables = ds; max_timestamp = g }) (state_of p ds cs) (definitions_of ds cs kept.held) (sym kept.max_timestamp_is)
