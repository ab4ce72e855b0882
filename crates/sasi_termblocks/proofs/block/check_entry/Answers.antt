use Rattle.std.proofs.Common.{◌≡◌, ◌≢◌, ◌+◌, ◌-◌, ◌<◌, arith, inl, inr}
use Rattle.std.proofs.lemmas.Result.{err_from_is_err_and}
use Rattle.sasi_termblocks.specs.BlockFaults.{BreaksEnd}
use Rattle.sasi_termblocks.specs.Entries.{term_entry}
use Rattle.sasi_termblocks.specs.Windows.{BreaksEntry, BreaksNext, count_in, offset_in}
use Rattle.sasi_termblocks.proofs.Faults.{next_fault}
use Rattle.sasi_termblocks.proofs.Shown.{fault_as}
use Rattle.sasi_termblocks.proofs.block.check_entry.Goals as goal

pub returns-in_err-size-clause-seen : goal.returns-in_err-size-clause-seen
returns-in_err-size-clause-seen c =
    let p = err_from_is_err_and c.from_residual.result c.from_residual.ensures.1 in
    rw (p.1, p.2) (fault_as (BreaksEntry term_entry c.args.block.now c.args.index) (BreaksEnd c.args.block.now c.args.index) c.in_err-size.field-0.0 (λ r at seen broken. inl broken) c.in_err-size.ensures.seen)

pub returns-then-bytes-size-clause-seen : goal.returns-then-bytes-size-clause-seen
returns-then-bytes-size-clause-seen c =
    let block = c.args.block.now in
    let index = c.args.index in
    let more : index + 1 < count_in block = omega (arith, c.requires.count) in
    let wrong : offset_in block (index + 1) - offset_in block index ≢ c.in_ok-size.size =
    λ is. c.if-bytes-size.true (omega (arith, is, c.saturating_sub-bytes.ensures, c.number_at-here.ensures.is, c.number_at-next.ensures.is)) in
    fault_as (BreaksNext block index) (BreaksEnd block index) c.wrong_offset.result (λ r at seen broken. inr (more, broken))
    (next_fault block index c.in_ok-size.size c.wrong_offset.result c.in_ok-size.ensures.ok wrong c.wrong_offset.ensures.is c.wrong_offset.ensures.near)

pub returns-clause-ok : goal.returns-clause-ok
returns-clause-ok c more =
    let block = c.args.block.now in
    let index = c.args.index in
    let same : offset_in block (index + 1) - offset_in block index ≡ c.in_ok-size.size =
    omega (arith, c.saturating_sub-bytes.ensures, c.number_at-here.ensures.is, c.number_at-next.ensures.is) in
    (c.in_ok-size.size, c.in_ok-size.ensures.ok, same)
