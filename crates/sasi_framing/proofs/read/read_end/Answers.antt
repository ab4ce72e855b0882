use Rattle.std.proofs.Common.{◌≡◌, ◌+◌, ◌-◌, ℕ, length, drop, length-drop, sym, ◌∙◌, ap, subst, arith}
use Rattle.std.proofs.lemmas.List.{length-take-le}
use Rattle.std.proofs.lemmas.Result.{err_from_is_err_and}
use Rattle.sasi_host.specs.Damages.{HasAt}
use Rattle.sasi_host.proofs.DamageLaws.{end_later}
use Rattle.sasi_host.proofs.Offsets.{window_at}
use Rattle.sasi_framing.proofs.read.read_end.Goals as goal

pub returns-in_err-read_into-clause-damaged : goal.returns-in_err-read_into-clause-damaged
returns-in_err-read_into-clause-damaged g c =
    let p = err_from_is_err_and c.from_residual.result c.from_residual.ensures.1 in
    let near = c.args.size - length c.args.end.now + length c.args.end.now in
    rw (p.1, p.2) (end_later (g.H.Host.view c.args.host.now) c.args.buffered.now.file near c.args.size c.in_err-read_into.field-0.0 (omega (arith, c.requires.within)) c.in_err-read_into.ensures.damaged)

pub returns-clause-ok : goal.returns-clause-ok
returns-clause-ok g c bytes is size =
    let many = length c.args.end.now in
    let at = c.args.size - many in
    let read = c.in_ok-read_into.ensures.ok bytes is in
    let long : length c.read_into.new.out ≡ many = ap length read ∙ length-take-le many (drop at bytes) (omega (arith, length-drop at bytes, size, c.requires.within)) in
    record {
      size_is = size;
      ends = subst (λ (n : ℕ). HasAt bytes (c.args.size - n) c.read_into.new.out) (sym long) (window_at bytes c.read_into.new.out at many read (omega (arith, size, c.requires.within)));
    }
