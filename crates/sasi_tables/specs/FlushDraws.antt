-- What a flush of a listed table draws: the parts of the index files that it writes, and the numbers of its files.
use Rattle.std.specs.Prelude.{◌≡◌, ℕ, ◌+◌, ◌<◌, ◌^◌, List, length, map, ⊤}
use Rattle.sasi_types.specs.declared.index_def.IndexDef.{IndexDef}
use Rattle.sasi_layout.specs.Layout.{drawn}
use Rattle.sasi_manifest.specs.declared.files.PartNumber.{PartNumber}
use Rattle.sasi_manifest.specs.declared.listed.ListedTable.{ListedTable}
use Rattle.sasi_manifest.specs.Listings.{by_number}
use Rattle.sasi_recover.specs.declared.opened.Numbers.{Numbers}
use Rattle.sasi_tables.specs.Numbers.{AreNext, AreSpent}
use Rattle.sasi_tables.specs.declared.fault.StepFault.{StepFault}
use Rattle.sasi_tables.specs.declared.fault.StepFault.TheVariants as fault

-- a part of each of them, after the last used one
abbrev pub parts_for : ℕ → List IndexDef → List PartNumber
parts_for used defs = drawn used (map (λ (def : IndexDef). def.number) defs)

-- these are what a flush of the table draws after these numbers
pub record IsDrawnFor (row : ListedTable) (old : Numbers) (defs : List IndexDef) (parts : List PartNumber) (next : Numbers) : Type 0 where
  pub defs_are : defs ≡ by_number row.table.indexes
  pub parts_are : parts ≡ parts_for old.part (by_number row.table.indexes)
  pub next_is : AreNext parts old next
  pub room : old.part + length (by_number row.table.indexes) < 2 ^ 32

-- memory ran out, or no number of a kind is left that the flush needs
abbrev pub StopsDraw : ListedTable → Numbers → StepFault → Type 0
StopsDraw row old fault.Failed = ⊥
StopsDraw row old fault.OutOfMemory = ⊤
StopsDraw row old (fault.Damaged damage) = ⊥
StopsDraw row old (fault.NumbersSpent kind) = AreSpent (parts_for old.part (by_number row.table.indexes)) old kind
StopsDraw row old (fault.AnalyzerMissing class) = ⊥
