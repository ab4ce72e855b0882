use Rattle.std.proofs.Common.{◌≡◌, subst}
use Rattle.std.proofs.lemmas.Result.{err_from_is_err_and}
use Rattle.std.specs.Int.{to_be_bytes, w32}
use Rattle.sasi_host.specs.Names.{Bytes}
use Rattle.sasi_host.specs.declared.damage.FormatRule.TheVariants as rule
use Rattle.sasi_formats.specs.Reader.{Got, read}
use Rattle.sasi_formats.specs.Fields.{fixed}
use Rattle.sasi_formats.specs.Headers.{file_front}
use Rattle.sasi_formats.specs.Gives.{FailsWith}
use Rattle.sasi_formats.proofs.Prefixes.{prefixed_got, prefixed_fails, prefixed_fails_behind}
use Rattle.sasi_formats.proofs.header.read_header.Goals as goal

pub returns-in_err-read_front-clause-header : goal.returns-in_err-read_front-clause-header
returns-in_err-read_front-clause-header c =
    let p = err_from_is_err_and c.from_residual.result c.from_residual.ensures.1 in
    rw (p.1, p.2) (prefixed_fails (file_front c.args.magic.now) (fixed rule.Number (to_be_bytes w32 c.args.number)) c.args.reader.now c.in_err-read_front.field-0.0 c.in_err-read_front.ensures.front)

pub returns-in_err-expect-clause-header : goal.returns-in_err-expect-clause-header
returns-in_err-expect-clause-header c =
    let p = err_from_is_err_and c.from_residual-in_err-expect.result c.from_residual-in_err-expect.ensures.1 in
    rw (p.1, p.2) (prefixed_fails_behind (file_front c.args.magic.now) (fixed rule.Number (to_be_bytes w32 c.args.number)) c.args.reader.now c.read_front.new.reader c.in_err-expect.field-0.0 c.in_ok-read_front.ensures.front
    (subst (λ (l : Bytes). FailsWith (read (fixed rule.Number l) c.read_front.new.reader) c.in_err-expect.field-0.0) c.to_be_bytes.ensures c.in_err-expect.ensures.bytes))

pub returns-clause-header : goal.returns-clause-header
returns-clause-header c =
    prefixed_got (file_front c.args.magic.now) (fixed rule.Number (to_be_bytes w32 c.args.number)) c.args.reader.now c.read_front.new.reader c.expect.new.reader tt c.in_ok-read_front.ensures.front
    (subst (λ (l : Bytes). read (fixed rule.Number l) c.read_front.new.reader ≡ Got tt c.expect.new.reader) c.to_be_bytes.ensures c.in_ok-expect.ensures.bytes)
