use Rattle.std.proofs.Common.{Ok, Err, ◌≡◌, ◌∙◌, ◌+◌, length, subst, refl, arith}
use Rattle.std.proofs.lemmas.Result.{err_from_is_err_and}
use Rattle.sasi_host.specs.declared.name.FileName.{FileName}
use Rattle.sasi_host.specs.Disk.{Same}
use Rattle.sasi_host.proofs.ContentLaws.{contents_same}
use Rattle.sasi_host.proofs.ChangeLaws.{then_same}
use Rattle.sasi_host.proofs.SequentialLaws.{no_further, no_further_on, once_on, reaches_still}
use Rattle.sasi_host.proofs.Pages.{reads_on}
use Rattle.sasi_gated.specs.AtGate.{ShowsLength}
use Rattle.sasi_gated.specs.Damages.{TellsSize}
use Rattle.sasi_gated.proofs.CauseLaws.{reading_behind, reading_handed, reading_gives}
use Rattle.sasi_gated.proofs.AtGates.{no_gate, closes, gate_within, no_length, payload_within, opens, ends_within}
use Rattle.sasi_gated.proofs.Costs.{head_once, once_to, stays_once}
use Rattle.sasi_gated.proofs.Opens.{on_damage_weaker}
use Rattle.sasi_gated.proofs.read.read_record.Goals as goal

pub returns-in_err-read_gate-clause-damaged : goal.returns-in_err-read_gate-clause-damaged
returns-in_err-read_gate-clause-damaged g c =
    let p = err_from_is_err_and c.from_residual.result c.from_residual.ensures.1 in
    rw (p.1, p.2) (on_damage_weaker _ _ c.in_err-read_gate.field-0.0
    (λ damage shows bytes done rest is gate. no_gate c.args.buffered.now.file bytes c.args.at done rest gate damage (shows bytes is))
    c.in_err-read_gate.ensures.damaged)

-- ---- a closed gate

pub returns-then-not-branch-clause-ok : goal.returns-then-not-branch-clause-ok
returns-then-not-branch-clause-ok g c bytes done rest is gate =
    (c.requires.empty, closes c.args.buffered.now.file bytes c.args.at done rest gate c.in_ok-read_gate.field-0 c.if-not-branch.true (c.in_ok-read_gate.ensures.ok bytes is))

pub returns-then-not-branch-clause-within : goal.returns-then-not-branch-clause-within
returns-then-not-branch-clause-within g c bytes is = gate_within c.in_ok-read_gate.field-0 bytes c.args.at (c.in_ok-read_gate.ensures.ok bytes is)

pub returns-then-not-branch-clause-closed : goal.returns-then-not-branch-clause-closed
returns-then-not-branch-clause-closed g c is begins =
    stays_once _ _ c.args.buffered.now.file c.args.buffered.now.page c.read_gate.new.buffered.page c.args.at (c.args.at + 1) (omega arith)
    c.in_ok-read_gate.ensures.begins (c.in_ok-read_gate.ensures.once begins)

-- ---- the length

pub returns-in_err-length-clause-damaged : goal.returns-in_err-length-clause-damaged
returns-in_err-length-clause-damaged g c =
    let file = c.args.buffered.now.file in
    let p = err_from_is_err_and c.from_residual-in_err-length.result c.from_residual-in_err-length.ensures.1 in
    rw (p.1, p.2) (on_damage_weaker _ _ c.in_err-length.field-0.0 (λ damage shows bytes done rest is gate.
    let now = reads_on _ _ file c.read_gate.new.buffered.file bytes c.read_gate.ensures.changes c.read_gate.ensures.file is in
    no_length file bytes c.args.at done rest gate c.in_ok-read_gate.field-0 c.if-not-branch.false (c.in_ok-read_gate.ensures.ok bytes is) damage
    (subst (λ (f : FileName). ShowsLength (c.args.at + 1) f bytes damage) c.read_gate.ensures.file (shows bytes now)))
    c.in_err-length.ensures.damaged)

pub returns-in_err-length-clause-changes : goal.returns-in_err-length-clause-changes
returns-in_err-length-clause-changes g c = then_same _ _ _ Same c.read_gate.ensures.changes c.read_length.ensures.changes

pub returns-in_err-length-clause-no_further : goal.returns-in_err-length-clause-no_further
returns-in_err-length-clause-no_further g c begins bytes is le =
    let file = c.args.buffered.now.file in
    let one = c.in_ok-read_gate.ensures.once begins in
    no_further_on (g.H.Host.view c.args.host.now) (g.H.Host.view c.read_gate.new.host) (g.H.Host.view c.read_length.new.host) file c.read_gate.new.buffered.file
    c.args.buffered.now.page c.read_gate.new.buffered.page c.args.at (c.args.at + 1) c.read_gate.ensures.file
    (contents_same _ _ file c.read_gate.ensures.changes) one (c.read_length.ensures.no_further one.sequential) bytes is le

pub returns-in_err-length-clause-causes : goal.returns-in_err-length-clause-causes
returns-in_err-length-clause-causes g c =
    let p = err_from_is_err_and c.from_residual-in_err-length.result c.from_residual-in_err-length.ensures.1 in
    let first = c.in_ok-read_gate.ensures.causes in
    let causes = c.in_err-length.ensures.causes in
    rw (p.1, p.2) (reading_handed _ _ c.in_err-length.field-0.0 (reading_behind _ _ _ (Err c.in_err-length.field-0.0) first.ok first.out causes))

-- ---- the payload

pub returns-in_err-read_payload-clause-damaged : goal.returns-in_err-read_payload-clause-damaged
returns-in_err-read_payload-clause-damaged g c =
    let file = c.args.buffered.now.file in
    let named : c.read_length.new.buffered.file ≡ file = c.read_length.ensures.file ∙ c.read_gate.ensures.file in
    let same = then_same _ _ _ Same c.read_gate.ensures.changes c.read_length.ensures.changes in
    let p = err_from_is_err_and c.from_residual-in_err-read_payload.result c.from_residual-in_err-read_payload.ensures.1 in
    rw (p.1, p.2) (on_damage_weaker _ _ c.in_err-read_payload.field-0.0 (λ damage shows bytes done rest is gate.
    let now = reads_on _ _ file c.read_length.new.buffered.file bytes same named is in
    let states = c.in_ok-length.ensures.ok bytes (reads_on _ _ file c.read_gate.new.buffered.file bytes c.read_gate.ensures.changes c.read_gate.ensures.file is) in
    let has = c.in_ok-read_gate.ensures.ok bytes is in
    let within = payload_within file bytes c.args.at done rest gate c.in_ok-read_gate.field-0 c.if-not-branch.false has c.in_ok-length.length c.in_ok-length.ensures.length states in
    let s = shows bytes now within in
    ends_within file bytes c.args.at done rest gate c.in_ok-read_gate.field-0 c.if-not-branch.false has c.in_ok-length.length c.in_ok-length.ensures.length states
    damage (subst (λ (f : FileName). TellsSize f bytes damage) named s.0) s.1)
    c.in_err-read_payload.ensures.damaged)

pub returns-in_err-read_payload-clause-changes : goal.returns-in_err-read_payload-clause-changes
returns-in_err-read_payload-clause-changes g c =
    then_same _ _ _ Same (then_same _ _ _ Same c.read_gate.ensures.changes c.read_length.ensures.changes) c.read_payload.ensures.changes

pub returns-in_err-read_payload-clause-no_further : goal.returns-in_err-read_payload-clause-no_further
returns-in_err-read_payload-clause-no_further g c begins bytes is le =
    let file = c.args.buffered.now.file in
    let named : c.read_length.new.buffered.file ≡ file = c.read_length.ensures.file ∙ c.read_gate.ensures.file in
    let same = then_same _ _ _ Same c.read_gate.ensures.changes c.read_length.ensures.changes in
    let one = c.in_ok-read_gate.ensures.once begins in
    let two = head_once (g.H.Host.view c.args.host.now) (g.H.Host.view c.read_gate.new.host) (g.H.Host.view c.read_length.new.host) file
    c.read_gate.new.buffered.file c.args.buffered.now.page c.read_gate.new.buffered.page c.read_length.new.buffered.page c.args.at
    c.read_gate.ensures.file c.read_gate.ensures.changes one (c.in_ok-length.ensures.once one.sequential) in
    no_further_on (g.H.Host.view c.args.host.now) (g.H.Host.view c.read_length.new.host) (g.H.Host.view c.read_payload.new.host) file c.read_length.new.buffered.file
    c.args.buffered.now.page c.read_length.new.buffered.page c.args.at (c.args.at + 5) named (contents_same _ _ file same) two
    (c.read_payload.ensures.no_further two.sequential) bytes is le

pub returns-in_err-read_payload-clause-causes : goal.returns-in_err-read_payload-clause-causes
returns-in_err-read_payload-clause-causes g c =
    let p = err_from_is_err_and c.from_residual-in_err-read_payload.result c.from_residual-in_err-read_payload.ensures.1 in
    let first = c.in_ok-read_gate.ensures.causes in
    let second = c.in_ok-length.ensures.causes in
    let causes = c.in_err-read_payload.ensures.causes in
    rw (p.1, p.2) (reading_handed _ _ c.in_err-read_payload.field-0.0
    (reading_behind _ _ _ (Err c.in_err-read_payload.field-0.0) (second.ok ∙ first.ok) (second.out ∙ first.out) causes))

pub returns-clause-ok : goal.returns-clause-ok
returns-clause-ok g c bytes done rest is gate =
    let file = c.args.buffered.now.file in
    let named : c.read_length.new.buffered.file ≡ file = c.read_length.ensures.file ∙ c.read_gate.ensures.file in
    let same = then_same _ _ _ Same c.read_gate.ensures.changes c.read_length.ensures.changes in
    let states = c.in_ok-length.ensures.ok bytes (reads_on _ _ file c.read_gate.new.buffered.file bytes c.read_gate.ensures.changes c.read_gate.ensures.file is) in
    opens file bytes c.args.at done rest gate c.in_ok-read_gate.field-0 c.if-not-branch.false (c.in_ok-read_gate.ensures.ok bytes is) c.in_ok-length.length
    c.in_ok-length.ensures.length states c.read_payload.new.out.items
    (c.in_ok-read_payload.ensures.ok bytes (reads_on _ _ file c.read_length.new.buffered.file bytes same named is)) c.in_ok-read_payload.ensures.len

pub returns-clause-within : goal.returns-clause-within
returns-clause-within g c bytes is = gate_within c.in_ok-read_gate.field-0 bytes c.args.at (c.in_ok-read_gate.ensures.ok bytes is)

pub returns-clause-changes : goal.returns-clause-changes
returns-clause-changes g c =
    then_same _ _ _ Same (then_same _ _ _ Same c.read_gate.ensures.changes c.read_length.ensures.changes) c.read_payload.ensures.changes

pub returns-clause-opened : goal.returns-clause-opened
returns-clause-opened g c more begins =
    let file = c.args.buffered.now.file in
    let named : c.read_length.new.buffered.file ≡ file = c.read_length.ensures.file ∙ c.read_gate.ensures.file in
    let same = then_same _ _ _ Same c.read_gate.ensures.changes c.read_length.ensures.changes in
    let one = c.in_ok-read_gate.ensures.once begins in
    let two = head_once (g.H.Host.view c.args.host.now) (g.H.Host.view c.read_gate.new.host) (g.H.Host.view c.read_length.new.host) file
    c.read_gate.new.buffered.file c.args.buffered.now.page c.read_gate.new.buffered.page c.read_length.new.buffered.page c.args.at
    c.read_gate.ensures.file c.read_gate.ensures.changes one (c.in_ok-length.ensures.once one.sequential) in
    let reaches = reaches_still (g.H.Host.view c.args.host.now) (g.H.Host.view c.read_length.new.host) file c.read_length.new.buffered.file (c.args.at + 5) named (contents_same _ _ file same) two.within in
    let a = g.H.Host.view c.args.host.now in
    let d = g.H.Host.view c.read_payload.new.host in
    once_to a d file c.args.buffered.now.page c.read_payload.new.buffered.page (c.args.at + 5 + c.in_ok-length.length)
    (c.args.at + 5 + length c.read_payload.new.out.items) (omega (arith, c.in_ok-read_payload.ensures.len))
    (once_on a (g.H.Host.view c.read_length.new.host) d file c.read_length.new.buffered.file c.args.buffered.now.page c.read_length.new.buffered.page c.read_payload.new.buffered.page
    (c.args.at + 5) (c.args.at + 5 + c.in_ok-length.length) named (contents_same _ _ file same) two
    (c.in_ok-read_payload.ensures.once two.sequential reaches))

pub returns-clause-no_further : goal.returns-clause-no_further
returns-clause-no_further g c begins bytes is le =
    no_further (g.H.Host.view c.args.host.now) (g.H.Host.view c.read_payload.new.host) c.args.buffered.now.file c.args.buffered.now.page
    c.read_payload.new.buffered.page c.args.at (c.args.at + 5 + length c.read_payload.new.out.items) (returns-clause-opened g c refl begins) bytes is le

pub returns-clause-causes : goal.returns-clause-causes
returns-clause-causes g c =
    let first = c.in_ok-read_gate.ensures.causes in
    let second = c.in_ok-length.ensures.causes in
    reading_gives _ _ _ _ (reading_behind _ _ _ (Ok c.in_ok-read_payload.field-0) (second.ok ∙ first.ok) (second.out ∙ first.out) c.in_ok-read_payload.ensures.causes)
