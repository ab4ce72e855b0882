-- Why a reader gives no row, and what such a call has read.
use Rattle.std.specs.Prelude.{◌≡◌, ◌≢◌, ◌⊎◌, ℕ, ◌+◌, ◌≤◌, List, [], ◌∷◌, map, Option, None, Some, IfErr, OnOk, Result, Ok, Err}
use Rattle.sasi_types.specs.declared.class.Class.{Class}
use Rattle.sasi_types.specs.declared.value.Value.{Value}
use Rattle.sasi_host.specs.declared.damage.Damage.{Damage}
use Rattle.sasi_host.specs.declared.fault.ReadFault.{ReadFault}
use Rattle.sasi_host.specs.declared.fault.ReadFault.TheVariants as read_fault
use Rattle.sasi_host.specs.View.{FailedAtLast, View}
use Rattle.sasi_cells.specs.declared.picked.Picked.{Picked}
use Rattle.sasi_cells.specs.Rows.{picked_value, row_of}
use Rattle.sasi_model.specs.Cells.{Partition}
use Rattle.sasi_plan.specs.declared.plan_fault.PlanFault.{PlanFault}
use Rattle.sasi_plan.specs.declared.plan_fault.PlanFault.TheVariants as fault

-- the fault of a call in which a read failed
abbrev pub fault_of_read : ReadFault → PlanFault
fault_of_read read_fault.Failed = fault.Failed
fault_of_read read_fault.OutOfMemory = fault.OutOfMemory
fault_of_read (read_fault.Damaged damage) = fault.Damaged damage

-- if it is corruption, it has P
abbrev pub OnPlanDamage : (Damage → Type 0) → PlanFault → Type 0
OnPlanDamage P (fault.Damaged damage) = P damage
OnPlanDamage P _ = Unit {0}

-- if an analyzer is missing, its class has P
abbrev pub OnPlanMissing : (Class → Type 0) → PlanFault → Type 0
OnPlanMissing P (fault.Missing class) = P class
OnPlanMissing P _ = Unit {0}

-- an analyzer is missing
abbrev pub IsMissing : {T : Type 0} → Result T PlanFault → Type 0
IsMissing (Ok value) = ⊥
IsMissing (Err f) = (class : Class) × (f ≡ fault.Missing class)

-- the reads of a call, and those that what is left may take, are together at most so many
abbrev pub SpendsRow : {T : Type 0} → (ℕ → Type 0) → ℕ → ℕ → ℕ → Result T PlanFault → Type 0
SpendsRow Pays most before now (Ok value) = (rest : ℕ) × Pays rest × (now + rest ≤ before + most)
SpendsRow Pays most before now (Err f) = now ≤ before + most

-- A fault has its cause. Damage is reported only if the files show it, and never where they have what is left.
pub record RowFaults {T L : Type 0} (Shown Shows : Damage → Type 0) (Leaves : L → Type 0) (old new : View) (result : Result T PlanFault) : Type 0 where
  pub disk : old.disk_faults ≤ new.disk_faults
  pub out : new.out_faults ≡ old.out_faults
  pub ok : OnOk result (new.disk_faults ≡ old.disk_faults)
  pub failed : IfErr result (λ f. f ≡ fault.Failed → FailedAtLast old.disk_faults new.disk_faults new.failed_last)
  pub others : IfErr result (λ f. f ≢ fault.Failed → new.disk_faults ≡ old.disk_faults)
  pub damaged : IfErr result (OnPlanDamage Shown)
  pub undamaged : IfErr result (OnPlanDamage (λ _. (left : L) → Leaves left → ⊥))
  pub shows : (damage : Damage) → Shows damage → Shown damage

-- ---- the row that is given

-- the values that are picked of a row
abbrev pub picked_values : Picked → List ℕ × Partition → List (Option Value)
picked_values picked row = map (picked_value picked.key row.0 row.1) picked.columns

-- the picked values of the first of the rows are given, and the others are left; none is given exactly where there is none
abbrev pub GivesPicked : Picked → (List (List ℕ × Partition) → Type 0) → List (List ℕ × Partition) → Option (List (Option Value)) → Type 0
GivesPicked picked Left rows None = (rows ≡ []) × Left []
GivesPicked picked Left rows (Some values) = (row : List ℕ × Partition) × (others : List (List ℕ × Partition)) × (rows ≡ row ∷ others) × (values ≡ picked_values picked row) × Left others

-- what becomes of the row that a reader found: its picked values, if there is memory for them
abbrev pub IsPickedOf : Picked → Result (Option (List ℕ × Partition)) ReadFault → Result (Option (List (Option Value))) PlanFault → Type 0
IsPickedOf picked (Err f) result = result ≡ Err (fault_of_read f)
IsPickedOf picked (Ok None) result = result ≡ Ok None
IsPickedOf picked (Ok (Some row)) result = (result ≡ Err fault.OutOfMemory) ⊎ (result ≡ Ok (row_of picked.key row.0 picked.columns row.1))
