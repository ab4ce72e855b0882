use Rattle.std.proofs.Common.{length, subst}
use Rattle.std.proofs.lemmas.Result.{err_from_is_err_and}
use Rattle.sasi_host.specs.Names.{Bytes}
use Rattle.sasi_host.specs.Damages.{HasAt}
use Rattle.sasi_formats.specs.Formats.{Encodes}
use Rattle.sasi_formats.specs.Headers.{file_header}
use Rattle.sasi_formats.specs.Parts.{ShowsBrokenPart}
use Rattle.sasi_framing.proofs.Reading.{framed, has_mark, header_shows, mark_shows, numbers_show}
use Rattle.sasi_dataread.specs.HeaderAndFooter.{data_framing}
use Rattle.sasi_dataread.proofs.Footers.{counts_one}
use Rattle.sasi_dataread.proofs.footer.decode.Goals as goal

pub returns-in_err-check_mark-clause-damaged : goal.returns-in_err-check_mark-clause-damaged
returns-in_err-check_mark-clause-damaged c =
    let p = err_from_is_err_and c.from_residual.result c.from_residual.ensures.1 in
    rw (p.1, p.2) (λ bytes read.
    mark_shows data_framing c.args.file c.args.size c.args.footer.now _ _ bytes c.requires.footer c.requires.size c.split_at.ensures.front c.split_at.ensures.back read.end c.in_err-check_mark.field-0.0
    c.in_err-check_mark.ensures.shown)

pub returns-in_err-check_header-clause-damaged : goal.returns-in_err-check_header-clause-damaged
returns-in_err-check_header-clause-damaged c =
    let p = err_from_is_err_and c.from_residual-in_err-check_header.result c.from_residual-in_err-check_header.ensures.1 in
    rw (p.1, p.2) (λ bytes read.
    header_shows data_framing c.args.file bytes c.args.header.now c.in_err-check_header.field-0.0
    (has_mark data_framing c.args.file c.args.size c.args.footer.now _ _ bytes c.requires.footer c.requires.size c.split_at.ensures.front c.split_at.ensures.back read.end c.in_ok-check_mark.ensures.is) c.requires.header read.begins
    (subst
    (λ (first : Bytes). (whole : Bytes) → HasAt whole 0 c.args.header.now → ShowsBrokenPart (file_header first 0) 0 (length c.args.header.now) c.args.file whole c.in_err-check_header.field-0.0)
    c.magic.ensures c.in_err-check_header.ensures.shown))

pub returns-in_err-numbers-clause-damaged : goal.returns-in_err-numbers-clause-damaged
returns-in_err-numbers-clause-damaged c =
    let p = err_from_is_err_and c.from_residual-in_err-numbers.result c.from_residual-in_err-numbers.ensures.1 in
    rw (p.1, p.2) (λ bytes read.
    numbers_show data_framing c.args.file c.args.size c.args.footer.now _ _ bytes c.requires.footer c.requires.size c.split_at.ensures.front c.split_at.ensures.back read.end c.in_err-numbers.field-0.0
    c.args.header.now tt c.in_ok-check_mark.ensures.is read.begins
    (subst (λ (first : Bytes). Encodes (file_header first 0) tt c.args.header.now) c.magic.ensures c.in_ok-check_header.ensures.is) c.in_err-numbers.ensures.shown)

pub returns-clause-ok : goal.returns-clause-ok
returns-clause-ok c bytes read =
    framed data_framing c.args.file c.args.size c.args.footer.now _ _ bytes c.requires.footer c.requires.size c.split_at.ensures.front c.split_at.ensures.back read.end c.args.header.now tt c.in_ok-numbers.numbers read.begins
    (subst (λ (first : Bytes). Encodes (file_header first 0) tt c.args.header.now) c.magic.ensures c.in_ok-check_header.ensures.is) c.in_ok-numbers.ensures.is c.in_ok-check_mark.ensures.is

pub returns-clause-some : goal.returns-clause-some
returns-clause-some c = counts_one _ c.in_ok-numbers.numbers _ c.in_ok-numbers.ensures.is
