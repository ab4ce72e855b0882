use Rattle.std.proofs.Common.{arith, ◌≡◌, ◌+◌, ◌-◌, ◌^◌, ◌≤◌, ◌≢◌, Bool, Ok, Err, Some, Option, List, length, sym, ◌∙◌, subst, if◌then◌else◌}
use Rattle.std.proofs.lemmas.Result.{err_from_is_err_and}
use Rattle.sasi_host.specs.Names.{Bytes}
use Rattle.sasi_host.specs.Disk.{Same}
use Rattle.sasi_host.specs.View.{IsThere, View}
use Rattle.sasi_host.specs.declared.fault.ReadFault.{ReadFault}
use Rattle.sasi_host.specs.declared.fault.ReadFault.TheVariants as fault
use Rattle.sasi_host.specs.declared.name.FileName.{FileName}
use Rattle.sasi_host.specs.View.{Reaches}
use Rattle.sasi_gated.specs.Causes.{ReadingCauses}
use Rattle.sasi_gated.proofs.CauseLaws.{reading_behind, reading_handed}
use Rattle.sasi_host.proofs.ChangeLaws.{then_same}
use Rattle.sasi_gated.specs.Reads.{ReadsGate}
use Rattle.sasi_host.specs.Damages.{OnDamage}
use Rattle.sasi_manifest.specs.declared.edit.Edit.{Edit}
use Rattle.sasi_manifest.specs.declared.listing.Listing.{Listing}
use Rattle.sasi_formats.specs.Formats.{Encodes}
use Rattle.sasi_manifest.specs.Edits.{edits}
use Rattle.sasi_manifest.specs.Listings.{after_all, with_record_counted, length_of}
use Rattle.sasi_manifest.specs.Reading.{IsReadingManifest, IsDamageOfRecord}
use Rattle.sasi_manifest.proofs.Opening.{shown_outside, shown_at_gate, shown_inside, shown_empty, reading_next_record, read_whole, reads_no_further, reads_up_to, reads_within}
use Rattle.sasi_manifest.proofs.open.open_manifest.Goals as goal

-- an error that no call on the host causes
other_causes : {T : Type 0} (a b : View) (f : ReadFault) → b.disk_faults ≡ a.disk_faults → b.out_faults ≡ a.out_faults → f ≢ fault.Failed → ReadingCauses {T = T} a b (Err f)
other_causes a b f disk out not_failed = record { disk = omega (arith, disk); out = out; ok = tt; failed = λ is. absurd (not_failed is); memory = λ is. disk; damaged = λ damage is. disk }

ok_causes : {T : Type 0} (a b : View) (x : T) → b.disk_faults ≡ a.disk_faults → b.out_faults ≡ a.out_faults → ReadingCauses a b (Ok x)
ok_causes a b x disk out = record { disk = omega (arith, disk); out = out; ok = disk; failed = tt; memory = tt; damaged = tt }

pub open-requires : goal.open-requires
open-requires g c = subst (λ (n : FileName). IsThere (g.H.Host.view c.args.host.now) n) (sym c.manifest.ensures) c.requires

pub next-requires : goal.next-requires
next-requires g c =
    let on = c.loop-listed.invariant in
    record { there = subst (λ (n : FileName). IsThere (g.H.Host.view c.loop-listed.host) n) (sym on.file) on.there; usable = on.usable; buffered = on.buffered }

pub take_record-requires : goal.take_record-requires
take_record-requires g c =
    let on = c.loop-listed.invariant in
    record {
      records = omega (arith, on.few_records, on.fits);
      length = omega (arith, on.reaches, on.fits);
      some = omega (arith, on.reaches);
      short = subst (λ (l : Bytes). length l ≤ 2 ^ 30) (sym c.deref.ensures.value) c.in_ok-next.ensures.short;
    }

pub returns-in_err-gated-clause-changes : goal.returns-in_err-gated-clause-changes
returns-in_err-gated-clause-changes g c = c.open.ensures.changes

pub returns-in_err-gated-clause-causes : goal.returns-in_err-gated-clause-causes
returns-in_err-gated-clause-causes g c =
    let p = err_from_is_err_and c.from_residual.result c.from_residual.ensures.1 in
    rw (p.1, p.2) (reading_handed _ _ c.in_err-gated.field-0.0 c.in_err-gated.ensures.causes)

pub returns-in_err-next-clause-causes : goal.returns-in_err-next-clause-causes
returns-in_err-next-clause-causes g c =
    let on = c.loop-listed.invariant in
    let p = err_from_is_err_and c.from_residual-in_err-next.result c.from_residual-in_err-next.ensures.1 in
    rw (p.1, p.2) (reading_handed _ _ c.in_err-next.field-0.0 (reading_behind _ (g.H.Host.view c.loop-listed.host) _ (Err c.in_err-next.field-0.0) on.disk on.out c.in_err-next.ensures.causes))

pub returns-in_err-take_record-clause-causes : goal.returns-in_err-take_record-clause-causes
returns-in_err-take_record-clause-causes g c =
    let on = c.loop-listed.invariant in
    let causes = c.in_ok-next.ensures.causes in
    let p = err_from_is_err_and c.from_residual-in_err-take_record.result c.from_residual-in_err-take_record.ensures.1 in
    rw (p.1, p.2) (other_causes _ _ c.in_err-take_record.field-0.0 (causes.ok ∙ on.disk) (causes.out ∙ on.out) c.in_err-take_record.ensures.not_failed)

pub returns-in-None-clause-causes : goal.returns-in-None-clause-causes
returns-in-None-clause-causes g c =
    let on = c.loop-listed.invariant in
    let causes = c.in_ok-next.ensures.causes in
    other_causes _ _ (fault.Damaged c.empty.result) (causes.ok ∙ on.disk) (causes.out ∙ on.out) (λ is. let never : fault.Damaged c.empty.result ≡ fault.Failed = is in cc)

pub returns-clause-causes : goal.returns-clause-causes
returns-clause-causes g c =
    let on = c.loop-listed.invariant in
    let causes = c.in_ok-next.ensures.causes in
    ok_causes _ _ _ (causes.ok ∙ on.disk) (causes.out ∙ on.out)

pub returns-clause-room : goal.returns-clause-room
returns-clause-room g c =
    subst (λ (n : FileName). Reaches (g.H.Host.view c.next.new.host) n (c.next.new.self.at + 1)) (c.next.ensures.file ∙ c.loop-listed.invariant.file) (c.in_ok-next.ensures.room c.if-branch.false)

pub returns-in_err-gated-clause-damaged : goal.returns-in_err-gated-clause-damaged
returns-in_err-gated-clause-damaged g c =
    let p = err_from_is_err_and c.from_residual.result c.from_residual.ensures.1 in
    rw (p.1, p.2) (shown_outside (g.H.Host.view c.args.host.now) c.args.number c.manifest.result c.in_err-gated.field-0.0 c.manifest.ensures c.in_err-gated.ensures.damaged)

pub returns-in_err-next-clause-damaged : goal.returns-in_err-next-clause-damaged
returns-in_err-next-clause-damaged g c =
    let p = err_from_is_err_and c.from_residual-in_err-next.result c.from_residual-in_err-next.ensures.1 in
    rw (p.1, p.2) (shown_at_gate (g.H.Host.view c.args.host.now)
    (g.H.Host.view c.loop-listed.host) c.args.number c.loop-listed.gated c.loop-listed.listed c.in_err-next.field-0.0
    c.loop-listed.invariant c.in_err-next.ensures.damaged)

pub returns-in_err-next-clause-changes : goal.returns-in_err-next-clause-changes
returns-in_err-next-clause-changes g c = then_same _ _ _ Same c.loop-listed.invariant.same c.next.ensures.changes

pub returns-in_err-take_record-clause-damaged : goal.returns-in_err-take_record-clause-damaged
returns-in_err-take_record-clause-damaged g c =
    let p = err_from_is_err_and c.from_residual-in_err-take_record.result c.from_residual-in_err-take_record.ensures.1 in
    let gate = subst (λ (more : Bool). ReadsGate
    (g.H.Host.view c.loop-listed.host) c.loop-listed.gated.file c.loop-listed.gated.at c.next.new.self.at more c.next.new.out.items)
    c.if-branch.true c.in_ok-next.ensures.gate in
    rw (p.1, p.2) (shown_inside (g.H.Host.view c.args.host.now)
    (g.H.Host.view c.loop-listed.host) c.args.number c.next.new.self.at c.loop-listed.gated c.loop-listed.listed c.next.new.out.items
    c.in_err-take_record.field-0.0 c.loop-listed.invariant gate
    (subst (λ (l : Bytes). OnDamage (IsDamageOfRecord c.args.number (length_of c.loop-listed.listed - 1) c.loop-listed.listed l)
    c.in_err-take_record.field-0.0) c.deref.ensures.value c.in_err-take_record.ensures.damaged))

pub returns-in_err-take_record-clause-changes : goal.returns-in_err-take_record-clause-changes
returns-in_err-take_record-clause-changes g c = then_same _ _ _ Same c.loop-listed.invariant.same c.next.ensures.changes

pub loop-listed-preserved : goal.loop-listed-preserved
loop-listed-preserved g c =
    let next = c.in_ok-next.ensures in
    let gate = subst (λ (more : Bool). ReadsGate
    (g.H.Host.view c.loop-listed.host) c.loop-listed.gated.file c.loop-listed.gated.at c.next.new.self.at more c.next.new.out.items)
    c.if-branch.true next.gate in
    let offset = subst (λ (more : Bool). c.next.new.self.at ≡ (if more then c.loop-listed.gated.at + (5 + length c.next.new.out.items) else c.loop-listed.gated.at)) c.if-branch.true next.offset in
    let took = subst (λ (l : Bytes). (es : List Edit) × Encodes (edits c.loop-listed.listed) es l
    × (Some c.in_ok-take_record.field-0 ≡ with_record_counted l (after_all c.loop-listed.listed es))) c.deref.ensures.value
    c.in_ok-take_record.ensures.ok in
    reading_next_record (g.H.Host.view c.args.host.now) (g.H.Host.view c.loop-listed.host)
    (g.H.Host.view c.next.new.host) c.args.number c.loop-listed.gated c.next.new.self c.loop-listed.listed c.in_ok-take_record.field-0
    c.next.new.out.items took.0 c.loop-listed.invariant gate c.next.ensures.changes offset next.fits next.file
    next.usable next.causes.ok next.causes.out c.next.ensures.buffered (next.once c.loop-listed.invariant.once.sequential).ok took.1 took.2

pub returns-in-None-clause-damaged : goal.returns-in-None-clause-damaged
returns-in-None-clause-damaged g c =
    let gate = subst (λ (more : Bool). ReadsGate
    (g.H.Host.view c.loop-listed.host) c.loop-listed.gated.file c.loop-listed.gated.at c.next.new.self.at more c.next.new.out.items)
    c.if-branch.false c.in_ok-next.ensures.gate in
    shown_empty (g.H.Host.view c.args.host.now) (g.H.Host.view c.loop-listed.host) c.args.number c.next.new.self.at c.loop-listed.gated c.next.new.out.items c.empty.result
    (subst (λ (l : Option Listing). IsReadingManifest (g.H.Host.view c.args.host.now)
    (g.H.Host.view c.loop-listed.host) c.args.number c.loop-listed.gated l) c.in-None.is c.loop-listed.invariant) gate c.empty.ensures.file
    c.empty.ensures.at c.empty.ensures.rule c.empty.ensures.seen

pub returns-in-None-clause-changes : goal.returns-in-None-clause-changes
returns-in-None-clause-changes g c = then_same _ _ _ Same c.loop-listed.invariant.same c.next.ensures.changes

pub returns-clause-ok : goal.returns-clause-ok
returns-clause-ok g c =
    let gate = subst (λ (more : Bool). ReadsGate
    (g.H.Host.view c.loop-listed.host) c.loop-listed.gated.file c.loop-listed.gated.at c.next.new.self.at more c.next.new.out.items)
    c.if-branch.false c.in_ok-next.ensures.gate in
    read_whole (g.H.Host.view c.args.host.now) (g.H.Host.view c.loop-listed.host) c.args.number c.next.new.self.at c.loop-listed.gated c.in-Some.listing c.next.new.out.items
    (subst (λ (l : Option Listing). IsReadingManifest (g.H.Host.view c.args.host.now) (g.H.Host.view c.loop-listed.host) c.args.number c.loop-listed.gated l) c.in-Some.is c.loop-listed.invariant) gate

pub returns-clause-changes : goal.returns-clause-changes
returns-clause-changes g c = then_same _ _ _ Same c.loop-listed.invariant.same c.next.ensures.changes

-- ---- how often it reads

pub returns-in_err-gated-clause-reads : goal.returns-in_err-gated-clause-reads
returns-in_err-gated-clause-reads g c bytes is = omega (arith, c.open.ensures.reads)

pub returns-in_err-next-clause-reads : goal.returns-in_err-next-clause-reads
returns-in_err-next-clause-reads g c =
    let on = c.loop-listed.invariant in
    reads_no_further (g.H.Host.view c.args.host.now) (g.H.Host.view c.loop-listed.host) (g.H.Host.view c.next.new.host) c.args.number c.loop-listed.gated
    c.loop-listed.listed on (c.next.ensures.once on.once.sequential).no_further

pub returns-in_err-take_record-clause-reads : goal.returns-in_err-take_record-clause-reads
returns-in_err-take_record-clause-reads g c =
    let on = c.loop-listed.invariant in
    reads_within (g.H.Host.view c.args.host.now) (g.H.Host.view c.loop-listed.host) (g.H.Host.view c.next.new.host) c.args.number c.loop-listed.gated
    c.next.new.self c.loop-listed.listed on c.next.ensures.file (c.in_ok-next.ensures.once on.once.sequential).ok

pub returns-in-None-clause-reads : goal.returns-in-None-clause-reads
returns-in-None-clause-reads g c =
    let on = c.loop-listed.invariant in
    reads_within (g.H.Host.view c.args.host.now) (g.H.Host.view c.loop-listed.host) (g.H.Host.view c.next.new.host) c.args.number c.loop-listed.gated
    c.next.new.self c.loop-listed.listed on c.next.ensures.file (c.in_ok-next.ensures.once on.once.sequential).ok

pub returns-clause-reads : goal.returns-clause-reads
returns-clause-reads g c =
    let on = c.loop-listed.invariant in
    reads_within (g.H.Host.view c.args.host.now) (g.H.Host.view c.loop-listed.host) (g.H.Host.view c.next.new.host) c.args.number c.loop-listed.gated
    c.next.new.self c.loop-listed.listed on c.next.ensures.file (c.in_ok-next.ensures.once on.once.sequential).ok

pub returns-clause-pages : goal.returns-clause-pages
returns-clause-pages g c =
    let on = c.loop-listed.invariant in
    reads_up_to (g.H.Host.view c.args.host.now) (g.H.Host.view c.loop-listed.host) (g.H.Host.view c.next.new.host) c.args.number c.loop-listed.gated
    c.next.new.self c.loop-listed.listed on c.next.ensures.file (c.in_ok-next.ensures.once on.once.sequential).ok
