use Rattle.std.proofs.Common.{◌≡◌, ◌+◌, ◌++◌, ◌∙◌, ℕ, List, ap, drop, subst}
use Rattle.std.specs.List.{filter}
use Rattle.sasi_manifest.specs.ListedFiles.{is_among}
use Rattle.sasi_types.specs.declared.index_def.IndexDef.{IndexDef}
use Rattle.sasi_tasks.specs.Running.{numbers_of}
use Rattle.sasi_tasks.proofs.Deleting.{dropped}
use Rattle.sasi_tasks.proofs.DrawnNumbers.{next_left}
use Rattle.sasi_tasks.proofs.last_unit.numbers_left.Goals as goal

pub loop-def-preserved : goal.loop-def-preserved
loop-def-preserved c =
    let out = c.loop-def.left in
    let behind = numbers_of (drop (c.loop-def.def-index + 1) c.args.indexes.now) in
    ap (λ (l : List ℕ). l ++ filter (is_among (numbers_of c.args.defined.now)) behind) c.in_ok-push_defined.ensures
    ∙ next_left (is_among (numbers_of c.args.defined.now)) out c.def-item.result.number behind (filter (is_among (numbers_of c.args.defined.now)) (numbers_of c.args.indexes.now))
    (subst (λ (l : List IndexDef). out ++ filter (is_among (numbers_of c.args.defined.now)) (numbers_of l) ≡ filter (is_among (numbers_of c.args.defined.now)) (numbers_of c.args.indexes.now)) (dropped c.args.indexes.now c.loop-def.def-index c.def-item.result c.loop-def-test.true c.def-item.is) c.loop-def.invariant)
