-- What reading a segment gives, where the host knows its files.
use Rattle.std.specs.Prelude.{◌≡◌, ℕ, true, false, List, [], ◌∷◌, ◌++◌, Option, None, Some}
use Rattle.sasi_host.specs.declared.name.FileName.{FileName}
use Rattle.sasi_host.specs.declared.fault.ReadFault.{ReadFault}
use Rattle.sasi_host.specs.Names.{Bytes}
use Rattle.sasi_host.specs.View.{View, IsTold, contents}
use Rattle.sasi_gated.specs.Gates.{IsAtGate, ReadsAt}
use Rattle.sasi_host.specs.Damages.{OnDamage}
use Rattle.sasi_cells.specs.declared.mutation.Mutation.{Mutation}
use Rattle.sasi_commitlog.specs.Format.{payload_of, Tables, IsMutationOf}
use Rattle.sasi_commitlog.specs.LogPosition.{IsAtLogEnd, IsReadingLog}
use Rattle.sasi_commitlog.specs.Damages.{ShowsLog}

-- a mutation that was read is of one of these tables, whatever the host knows
abbrev pub IsReadOf : Tables → Option Mutation → Type 0
IsReadOf tables (Some mutation) = IsMutationOf tables mutation
IsReadOf tables None = Unit {0}

-- A read at an open gate gives the mutation of its payload and moves to the next gate. At a closed gate it gives none and
-- stays there.
abbrev pub ReadsMutation : Option Mutation → Tables → FileName → Bytes → ℕ → List Bytes → Bytes → Type 0
ReadsMutation (Some mutation) tables file bytes after done rest = IsMutationOf tables mutation × ReadsAt true file bytes after done rest (payload_of mutation)
ReadsMutation None tables file bytes after done rest = ReadsAt false file bytes after done rest []

-- at a gate of the file as it reads, this is read, and the reader is then at the second offset
abbrev pub ReadsLogGate : View → FileName → Tables → ℕ → ℕ → Option Mutation → Type 0
ReadsLogGate v file tables at after found = (bytes : Bytes) (done : List Bytes) (rest : Bytes) → contents v file ≡ Some bytes → IsAtGate file bytes at done rest
    → ReadsMutation found tables file bytes after done rest

-- what a read gives of the mutations that are left: the first of them, or none where there is none
abbrev pub ReadsNext : Option Mutation → View → FileName → ℕ → Tables → List Mutation → List Mutation → Type 0
ReadsNext (Some mutation) v file at tables done [] = ⊥
ReadsNext (Some mutation) v file at tables done (first ∷ others) = (mutation ≡ first) × IsReadingLog v file at tables (done ++ first ∷ []) others
ReadsNext None v file at tables done [] = IsAtLogEnd v file at done
ReadsNext None v file at tables done (first ∷ others) = ⊥

-- of the mutations that are left this is read, and the reader is then at the second offset
abbrev pub ReadsMutations : View → View → FileName → Tables → ℕ → ℕ → Option Mutation → Type 0
ReadsMutations old new file tables at after found = (done left : List Mutation) → IsTold old → IsReadingLog old file at tables done left → ReadsNext found new file after tables done left

-- the segment has this mutation more: its closed gate was at the first offset, and is at the second
abbrev pub GainsMutation : View → View → FileName → ℕ → ℕ → Mutation → Type 0
GainsMutation old new file at after mutation = (mutations : List Mutation) → IsAtLogEnd old file at mutations → IsAtLogEnd new file after (mutations ++ mutation ∷ [])

-- ---- damage

-- reported damage is in the segment as it reads, where the reader was at a gate
abbrev pub IsLogDamageAt : View → FileName → Tables → ℕ → ReadFault → Type 0
IsLogDamageAt v file tables at = OnDamage (λ damage. (bytes : Bytes) (done : List Bytes) (rest : Bytes) → contents v file ≡ Some bytes → IsAtGate file bytes at done rest
    → ShowsLog tables file bytes damage)

-- a segment of mutations of these tables is never reported as damaged
abbrev pub NoFalseLogDamage : View → FileName → Tables → ℕ → ReadFault → Type 0
NoFalseLogDamage v file tables at = OnDamage (λ _. (done left : List Mutation) → IsTold v → IsReadingLog v file at tables done left → ⊥)
