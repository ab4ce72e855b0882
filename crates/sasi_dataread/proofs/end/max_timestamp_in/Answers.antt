use Rattle.std.proofs.Common.{◌-◌, take, ap, subst, sym, arith}
use Rattle.std.proofs.lemmas.Result.{err_from_is_err_and}
use Rattle.sasi_host.specs.Names.{Bytes}
use Rattle.sasi_formats.specs.Formats.{Encodes}
use Rattle.sasi_framing.proofs.Reading.{mark_shows, mark_stands}
use Rattle.sasi_datawrite.specs.Format.{footer}
use Rattle.sasi_datawrite.specs.declared.footer.Footer.{Footer}
use Rattle.sasi_dataread.specs.HeaderAndFooter.{data_framing}
use Rattle.sasi_dataread.proofs.Ends.{ends_as, no_numbers, one_value}
use Rattle.sasi_dataread.proofs.end.max_timestamp_in.Goals as goal

pub returns-in_err-check_mark-clause-damaged : goal.returns-in_err-check_mark-clause-damaged
returns-in_err-check_mark-clause-damaged c =
    let p = err_from_is_err_and c.from_residual.result c.from_residual.ensures.1 in
    rw (p.1, p.2) (λ whole read.
    mark_shows data_framing c.args.file c.args.size c.args.bytes.now _ _ whole c.requires.bytes (omega (arith, c.requires.size)) c.split_at.ensures.front c.split_at.ensures.back read c.in_err-check_mark.field-0.0
    c.in_err-check_mark.ensures.shown)

pub returns-in-Ok-clause-ends : goal.returns-in-Ok-clause-ends
returns-in-Ok-clause-ends c whole read =
    ends_as whole c.args.size read.size_is c.requires.size
    (mark_stands data_framing c.args.file c.args.size c.args.bytes.now _ _ whole c.requires.bytes (omega (arith, c.requires.size)) c.split_at.ensures.front c.split_at.ensures.back read c.in_ok-check_mark.ensures.is)

pub returns-in-Ok-clause-time : goal.returns-in-Ok-clause-time
returns-in-Ok-clause-time c numbers encodes =
    ap (λ (f : Footer). f.max_timestamp)
    (one_value (c.args.size - 40) (take 32 c.args.bytes.now) c.in-Ok.numbers numbers (subst (λ (part : Bytes). Encodes (footer (c.args.size - 40)) c.in-Ok.numbers part) c.split_at.ensures.front c.in-Ok.ensures.is) encodes)

pub returns-in-Err-clause-ends : goal.returns-in-Err-clause-ends
returns-in-Err-clause-ends c whole read =
    ends_as whole c.args.size read.size_is c.requires.size
    (mark_stands data_framing c.args.file c.args.size c.args.bytes.now _ _ whole c.requires.bytes (omega (arith, c.requires.size)) c.split_at.ensures.front c.split_at.ensures.back read c.in_ok-check_mark.ensures.is)

pub returns-in-Err-clause-time : goal.returns-in-Err-clause-time
returns-in-Err-clause-time c numbers encodes =
    absurd (no_numbers (c.args.size - 40) c.args.file _ _ numbers c.in-Err.ensures.shown (subst (λ (part : Bytes). Encodes (footer (c.args.size - 40)) numbers part) (sym c.split_at.ensures.front) encodes))
