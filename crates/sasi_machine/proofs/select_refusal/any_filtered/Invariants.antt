use Rattle.std.proofs.Common.{◌≡◌, drop}
use Rattle.std.specs.List.{list_any}
use Rattle.sasi_model.specs.Refusals.{is_filtered}
use Rattle.sasi_schema.specs.Defined.{definition}
use Rattle.sasi_machine.proofs.select_refusal.any_filtered.Given as goal

-- the relations so far are on the key or on indexed columns
abbrev pub invariant-loop-relation : goal.invariant-loop-relation
invariant-loop-relation l = list_any (is_filtered (definition l.table)) l.relations ≡ list_any (is_filtered (definition l.table)) (drop l.relation-index l.relations)
