use Rattle.std.proofs.Common.{◌∙◌, ap, subst}
use Rattle.std.proofs.lemmas.Result.{err_from_is_err_and}
use Rattle.sasi_host.specs.Buffered.{Buffered}
use Rattle.sasi_host.specs.Damages.{DamageShown, ShowsEnd}
use Rattle.sasi_host.specs.View.{contents}
use Rattle.sasi_host.specs.declared.name.FileName.{FileName}
use Rattle.sasi_dataread.proofs.Laws.{footer_of}
use Rattle.sasi_dataread.proofs.Ends.{numbers_encoded}
use Rattle.sasi_dataread.proofs.Footers.{data_undamaged, end_shown, no_false_shown}
use Rattle.sasi_dataread.proofs.end.read_max_timestamp.Goals as goal

pub returns-in_err-size-clause-damaged : goal.returns-in_err-size-clause-damaged
returns-in_err-size-clause-damaged g c =
    let p = err_from_is_err_and c.from_residual.result c.from_residual.ensures.1 in
    let v = g.H.Host.view c.args.host.now in
    rw (p.1, p.2) (end_shown v c.args.file c.in_err-size.field-0.0
    (subst (λ (n : FileName). DamageShown v n (ShowsEnd 97 n) c.in_err-size.field-0.0) (ap (λ (h : Buffered). h.file) c.new-buffered.ensures) c.in_err-size.ensures.damaged))

pub returns-in_err-size-clause-undamaged : goal.returns-in_err-size-clause-undamaged
returns-in_err-size-clause-undamaged g c =
    let p = err_from_is_err_and c.from_residual.result c.from_residual.ensures.1 in
    let v = g.H.Host.view c.args.host.now in
    rw (p.1, p.2) (no_false_shown v c.args.file c.in_err-size.field-0.0 (λ bytes is. (g.met.H.Host.sound c.args.host.now).fits c.args.file bytes is) (end_shown v c.args.file c.in_err-size.field-0.0
    (subst (λ (n : FileName). DamageShown v n (ShowsEnd 97 n) c.in_err-size.field-0.0) (ap (λ (h : Buffered). h.file) c.new-buffered.ensures) c.in_err-size.ensures.damaged)))

pub returns-in_err-time-clause-damaged : goal.returns-in_err-time-clause-damaged
returns-in_err-time-clause-damaged g c =
    let p = err_from_is_err_and c.from_residual-in_err-time.result c.from_residual-in_err-time.ensures.1 in
    let named = ap (λ (h : Buffered). contents (g.H.Host.view c.args.host.now) h.file) c.new-buffered.ensures in
    rw (p.1, p.2) (λ bytes is. c.in_err-time.ensures.damaged bytes (c.in_ok-size.ensures.ok bytes (named ∙ is)))

pub returns-in_err-time-clause-undamaged : goal.returns-in_err-time-clause-undamaged
returns-in_err-time-clause-undamaged g c =
    let p = err_from_is_err_and c.from_residual-in_err-time.result c.from_residual-in_err-time.ensures.1 in
    let named = ap (λ (h : Buffered). contents (g.H.Host.view c.args.host.now) h.file) c.new-buffered.ensures in
    rw (p.1, p.2) (λ bytes partitioner types content is of.
    data_undamaged partitioner types bytes content of ((g.met.H.Host.sound c.args.host.now).fits c.args.file bytes is) c.args.file c.in_err-time.field-0.0
    (c.in_err-time.ensures.damaged bytes (c.in_ok-size.ensures.ok bytes (named ∙ is))))

pub returns-clause-ends : goal.returns-clause-ends
returns-clause-ends g c bytes is =
    let named = ap (λ (h : Buffered). contents (g.H.Host.view c.args.host.now) h.file) c.new-buffered.ensures in
    c.in_ok-time.ensures.ends bytes (c.in_ok-size.ensures.ok bytes (named ∙ is))

pub returns-clause-time : goal.returns-clause-time
returns-clause-time g c bytes partitioner types content is of =
    let named = ap (λ (h : Buffered). contents (g.H.Host.view c.args.host.now) h.file) c.new-buffered.ensures in
    let read = c.in_ok-size.ensures.ok bytes (named ∙ is) in
    c.in_ok-time.ensures.time (footer_of partitioner content)
    (numbers_encoded partitioner types bytes c.read_footer.new.footer content c.in_ok-size.size of ((g.met.H.Host.sound c.args.host.now).fits c.args.file bytes is) read c.read_footer.auto.footer)
