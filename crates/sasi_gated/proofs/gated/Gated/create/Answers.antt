use Rattle.std.proofs.Common.{◌∙◌, sym}
use Rattle.std.specs.Option.{option_copied}
use Rattle.sasi_host.proofs.ChangeLaws.{untouched}
use Rattle.sasi_gated.proofs.Creates.{new_file_end}
use Rattle.sasi_gated.proofs.gated.Gated.create.Goals as goal

pub returns-in_err-bytes-clause-changes : goal.returns-in_err-bytes-clause-changes
returns-in_err-bytes-clause-changes g c = untouched (g.H.Host.view c.args.host.now) c.args.file

pub returns-clause-ok : goal.returns-clause-ok
returns-clause-ok g c =
    new_file_end (g.H.Host.view c.make_file.new.host) c.args.file (option_copied c.args.first) c.deref.result.now c.len.result
    (c.deref.ensures.value ∙ c.in_ok-bytes.ensures.bytes) c.in_ok-bytes.ensures.fits
    (c.len.ensures ∙ sym c.deref.ensures.len) c.in_ok-make_file.ensures.ok
