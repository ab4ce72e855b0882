use Rattle.std.proofs.Common.{◌≡◌, length, sym, ap, ◌∙◌, subst}
use Rattle.std.proofs.lemmas.Result.{err_from_is_err_and}
use Rattle.sasi_host.specs.declared.name.FileName.{FileName}
use Rattle.sasi_host.specs.Names.{Bytes}
use Rattle.sasi_body.specs.Body.{body_of}
use Rattle.sasi_formats.specs.Whole.{IsShownBy}
use Rattle.sasi_host.specs.Damages.{HasAt, OnDamage}
use Rattle.sasi_dataread.specs.Damages.{ShowsPartition}
use Rattle.sasi_dataread.specs.Bodies.{length_prefixed}
use Rattle.sasi_dataread.proofs.Bodies.{no_false_body, no_false_fault, fault_shown, placed}
use Rattle.sasi_dataread.proofs.partition.partition_at.Goals as goal

pub returns-in_err-bytes-clause-damaged : goal.returns-in_err-bytes-clause-damaged
returns-in_err-bytes-clause-damaged g c =
    let p = err_from_is_err_and c.from_residual.result c.from_residual.ensures.1 in
    rw (p.1, p.2) (c.in_err-bytes.ensures.damaged c.args.types.now)

pub returns-in_err-bytes-clause-undamaged : goal.returns-in_err-bytes-clause-undamaged
returns-in_err-bytes-clause-undamaged g c =
    let p = err_from_is_err_and c.from_residual.result c.from_residual.ensures.1 in
    rw (p.1, p.2) (no_false_body (g.H.Host.view c.args.host.now) c.args.buffered.now.file c.args.types.now c.args.end c.args.place c.in_err-bytes.field-0.0 c.in_err-bytes.ensures.undamaged)

pub fault_in_file-requires-clause-within : goal.fault_in_file-requires-clause-within
fault_in_file-requires-clause-within g c =
    placed c.args.types.now c.deref.result.now c.in-Err.fault (length c.deref-in-Err.result.now) (ap (λ (l : Bytes). length l) (c.deref-in-Err.ensures.value ∙ sym c.deref.ensures.value)) c.in-Err.ensures.shown

pub returns-clause-damaged : goal.returns-clause-damaged
returns-clause-damaged g c =
    let same : c.deref-in-Err.result.now ≡ c.in_ok-bytes.bytes.items = c.deref-in-Err.ensures.value in
    fault_shown (g.H.Host.view c.args.host.now) c.args.buffered.now.file c.args.types.now c.args.end c.args.place c.deref-in-Err.result.now
    c.fault_in_file.result (λ bytes is. subst (λ (l : Bytes). HasAt bytes c.args.place (length_prefixed l)) (sym same) (c.in_ok-bytes.ensures.ok bytes is))
    (λ whole has.
    subst (λ (n : FileName). OnDamage (ShowsPartition c.args.types.now c.args.end c.args.place n whole) c.fault_in_file.result) c.file-file.ensures
    (c.fault_in_file.ensures.shown c.args.types.now c.args.end whole
    (subst (λ (l : Bytes). IsShownBy (body_of c.args.types.now) l c.in-Err.fault) (c.deref.ensures.value ∙ sym same) c.in-Err.ensures.shown) has))

pub returns-clause-undamaged : goal.returns-clause-undamaged
returns-clause-undamaged g c =
    no_false_fault (g.H.Host.view c.args.host.now) c.args.buffered.now.file c.args.types.now c.args.end c.args.place c.in_ok-bytes.bytes.items
    c.in-Err.fault c.fault_in_file.result c.in_ok-bytes.ensures.length.short c.in_ok-bytes.ensures.ok
    (λ key part of is. c.in-Err.ensures.no_false_damage key part of (c.deref.ensures.value ∙ is)) c.fault_in_file.ensures.memory
