use Rattle.std.proofs.Common.{◌≡◌, subst}
use Rattle.std.proofs.lemmas.Result.{err_from_is_err_and}
use Rattle.std.specs.Int.{to_be_bytes, w32}
use Rattle.sasi_host.specs.Names.{Bytes}
use Rattle.sasi_host.specs.declared.damage.FormatRule.TheVariants as rule
use Rattle.sasi_formats.specs.Reader.{Got, read}
use Rattle.sasi_formats.specs.Fields.{fixed}
use Rattle.sasi_formats.specs.Gives.{FailsWith}
use Rattle.sasi_formats.proofs.Prefixes.{prefixed_got, prefixed_fails, prefixed_fails_behind}
use Rattle.sasi_formats.proofs.header.read_front.Goals as goal

pub returns-in_err-expect-clause-front : goal.returns-in_err-expect-clause-front
returns-in_err-expect-clause-front c =
    let p = err_from_is_err_and c.from_residual.result c.from_residual.ensures.1 in
    rw (p.1, p.2) (prefixed_fails (fixed rule.Magic c.args.magic.now) (fixed rule.Version (to_be_bytes w32 1)) c.args.reader.now c.in_err-expect.field-0.0 c.in_err-expect.ensures.bytes)

pub returns-in_err-expect-2-clause-front : goal.returns-in_err-expect-2-clause-front
returns-in_err-expect-2-clause-front c =
    let p = err_from_is_err_and c.from_residual-in_err-expect-2.result c.from_residual-in_err-expect-2.ensures.1 in
    rw (p.1, p.2) (prefixed_fails_behind (fixed rule.Magic c.args.magic.now) (fixed rule.Version (to_be_bytes w32 1)) c.args.reader.now c.expect.new.reader c.in_err-expect-2.field-0.0 c.in_ok-expect.ensures.bytes
    (subst (λ (l : Bytes). FailsWith (read (fixed rule.Version l) c.expect.new.reader) c.in_err-expect-2.field-0.0) c.to_be_bytes.ensures c.in_err-expect-2.ensures.bytes))

pub returns-clause-front : goal.returns-clause-front
returns-clause-front c =
    prefixed_got (fixed rule.Magic c.args.magic.now) (fixed rule.Version (to_be_bytes w32 1)) c.args.reader.now c.expect.new.reader c.expect-2.new.reader tt c.in_ok-expect.ensures.bytes
    (subst (λ (l : Bytes). read (fixed rule.Version l) c.expect.new.reader ≡ Got tt c.expect-2.new.reader) c.to_be_bytes.ensures c.in_ok-expect-2.ensures.bytes)
