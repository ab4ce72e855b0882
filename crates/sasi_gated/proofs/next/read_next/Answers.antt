use Rattle.std.proofs.Common.{◌+◌, length, arith, true, false}
use Rattle.std.proofs.lemmas.Result.{err_from_is_err_and}
use Rattle.sasi_gated.proofs.Costs.{once_to}
use Rattle.sasi_gated.proofs.Opens.{on_damage_weaker}
use Rattle.sasi_gated.proofs.Nexts.{read_closed, read_opened, not_too_long, undamaged, reads_next}
use Rattle.sasi_gated.proofs.next.read_next.Goals as goal

pub returns-in_err-read_record-clause-undamaged : goal.returns-in_err-read_record-clause-undamaged
returns-in_err-read_record-clause-undamaged g c =
    let p = err_from_is_err_and c.from_residual.result c.from_residual.ensures.1 in
    let a = g.H.Host.view c.args.host.now in
    rw (p.1, p.2) (on_damage_weaker _ _ c.in_err-read_record.field-0.0
    (λ damage shows done left told reading. undamaged a a c.args.buffered.now.file c.args.at done left
    (g.met.H.Host.sound c.args.host.now) told reading damage shows) c.in_err-read_record.ensures.damaged)

pub returns-then-not-branch-clause-gate : goal.returns-then-not-branch-clause-gate
returns-then-not-branch-clause-gate g c bytes done rest is gate =
    read_closed c.in_ok-read_record.field-0 c.args.buffered.now.file bytes c.args.at done rest c.read_record.new.out.items c.if-not-branch.true (c.in_ok-read_record.ensures.ok bytes done rest is gate) gate

pub returns-then-not-branch-clause-records : goal.returns-then-not-branch-clause-records
returns-then-not-branch-clause-records g c done left told reading =
    reads_next _ (g.H.Host.view c.read_record.new.host) c.args.buffered.now.file c.args.at done left
    (g.met.H.Host.sound c.args.host.now) told reading c.read_record.ensures.changes false c.args.at c.read_record.new.out.items
    (λ bytes before rest is gate. returns-then-not-branch-clause-gate g c bytes before rest is gate)

pub returns-clause-gate : goal.returns-clause-gate
returns-clause-gate g c bytes done rest is gate =
    read_opened c.in_ok-read_record.field-0 c.args.buffered.now.file bytes c.args.at c.len.result done rest c.read_record.new.out.items c.if-not-branch.false
    (c.in_ok-read_record.ensures.ok bytes done rest is gate) gate (omega arith)

pub returns-clause-records : goal.returns-clause-records
returns-clause-records g c done left told reading =
    reads_next _ (g.H.Host.view c.read_record.new.host) c.args.buffered.now.file c.args.at done left
    (g.met.H.Host.sound c.args.host.now) told reading c.read_record.ensures.changes true (c.args.at + 5 + c.len.result) c.read_record.new.out.items
    (λ bytes before rest is gate. returns-clause-gate g c bytes before rest is gate)

pub returns-then-next-gt-MAX_FILE_SIZE-clause-damaged : goal.returns-then-next-gt-MAX_FILE_SIZE-clause-damaged
returns-then-next-gt-MAX_FILE_SIZE-clause-damaged g c bytes done rest is gate =
    absurd (not_too_long (g.H.Host.view c.args.host.now) c.args.buffered.now.file bytes (c.args.at + 5 + c.len.result) done rest c.read_record.new.out.items (g.met.H.Host.sound c.args.host.now) is
    (read_opened c.in_ok-read_record.field-0 c.args.buffered.now.file bytes c.args.at c.len.result done rest c.read_record.new.out.items c.if-not-branch.false
    (c.in_ok-read_record.ensures.ok bytes done rest is gate) gate (omega arith)) (omega arith))

pub returns-then-next-gt-MAX_FILE_SIZE-clause-undamaged : goal.returns-then-next-gt-MAX_FILE_SIZE-clause-undamaged
returns-then-next-gt-MAX_FILE_SIZE-clause-undamaged g c done left told reading =
    undamaged _ (g.H.Host.view c.args.host.now) c.args.buffered.now.file c.args.at done left (g.met.H.Host.sound c.args.host.now) told reading c.truncated.result
    (λ bytes before rest is gate. returns-then-next-gt-MAX_FILE_SIZE-clause-damaged g c bytes before rest is gate)

pub returns-then-not-branch-clause-once : goal.returns-then-not-branch-clause-once
returns-then-not-branch-clause-once g c begins = c.in_ok-read_record.ensures.closed c.if-not-branch.true begins

pub returns-clause-once : goal.returns-clause-once
returns-clause-once g c begins =
    once_to _ _ c.args.buffered.now.file c.args.buffered.now.page c.read_record.new.buffered.page (c.args.at + 5 + length c.read_record.new.out.items)
    (c.args.at + 5 + c.len.result) (omega arith) (c.in_ok-read_record.ensures.opened c.if-not-branch.false begins)
