use Rattle.std.proofs.Common.{◌≡◌, ◌<◌, ◌^◌, ◌+◌, ◌++◌, drop}
use Rattle.sasi_layout.specs.Layout.{drawn}
use Rattle.sasi_tasks.proofs.last_unit.parts_after.Given as goal

-- the last number, and the parts with those that are left
abbrev pub invariant-loop-index : goal.invariant-loop-index
invariant-loop-index l = (l.last ≡ l.used + l.index-index) × (l.used + l.index-index < 2 ^ 32) × (l.parts ++ drawn l.last (drop l.index-index l.indexes) ≡ drawn l.used l.indexes)
