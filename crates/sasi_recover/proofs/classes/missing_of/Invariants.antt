use Rattle.std.proofs.Common.{map, take}
use Rattle.sasi_layout.specs.Classes.{classes_listed}
use Rattle.sasi_manifest.specs.ListedTables.{listed}
use Rattle.sasi_recover.specs.Missing.{IsMissingOf}
use Rattle.sasi_recover.proofs.classes.missing_of.Given as goal

abbrev pub invariant-loop-table : goal.invariant-loop-table
invariant-loop-table g l = IsMissingOf (map (λ b. (goal.Analyzer-dyn g (b.vtable, b.value)).kind b.value) l.kit.objects.items) (classes_listed (map listed (take l.table-index l.tables))) l.found
