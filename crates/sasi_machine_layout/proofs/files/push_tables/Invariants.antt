use Rattle.std.proofs.Common.{◌≡◌, ◌++◌, drop, map}
use Rattle.sasi_layout.specs.FileNames.{names_listed}
use Rattle.sasi_machine_layout.proofs.files.push_tables.Given as goal

-- with those that are left
abbrev pub invariant-loop-table : goal.invariant-loop-table
invariant-loop-table l =
    l.names.items ++ names_listed (map (λ t. map (λ f. f.listed) t.files.items) (drop l.table-index l.tables)) ≡ l.fn.names.items ++ names_listed (map (λ t. map (λ f. f.listed) t.files.items) l.tables)
