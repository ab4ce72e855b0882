use Rattle.std.proofs.lemmas.Result.{err_from_is_err_and}
use Rattle.sasi_framing.proofs.Reading.{framed, has_mark, header_shows, mark_shows, numbers_show}
use Rattle.sasi_indexread.specs.HeaderAndFooter.{index_framing}
use Rattle.sasi_indexread.proofs.Fields.{footer_spill}
use Rattle.sasi_indexread.proofs.footer.decode.Goals as goal

pub returns-in_err-check_mark-clause-damaged : goal.returns-in_err-check_mark-clause-damaged
returns-in_err-check_mark-clause-damaged c =
    let p = err_from_is_err_and c.from_residual.result c.from_residual.ensures.1 in
    rw (p.1, p.2) (λ bytes read.
    mark_shows index_framing c.args.file c.args.size c.args.footer.now _ _ bytes c.requires.footer c.requires.size c.split_at.ensures.front c.split_at.ensures.back read.end c.in_err-check_mark.field-0.0
    c.in_err-check_mark.ensures.shown)

pub returns-in_err-fields-clause-damaged : goal.returns-in_err-fields-clause-damaged
returns-in_err-fields-clause-damaged c =
    let p = err_from_is_err_and c.from_residual-in_err-fields.result c.from_residual-in_err-fields.ensures.1 in
    rw (p.1, p.2) (λ bytes read. header_shows index_framing c.args.file bytes c.args.header.now c.in_err-fields.field-0.0
    (has_mark index_framing c.args.file c.args.size c.args.footer.now _ _ bytes c.requires.footer c.requires.size c.split_at.ensures.front c.split_at.ensures.back read.end c.in_ok-check_mark.ensures.is) c.requires.header read.begins c.in_err-fields.ensures.shown)

pub returns-in_err-numbers-clause-damaged : goal.returns-in_err-numbers-clause-damaged
returns-in_err-numbers-clause-damaged c =
    let p = err_from_is_err_and c.from_residual-in_err-numbers.result c.from_residual-in_err-numbers.ensures.1 in
    rw (p.1, p.2) (λ bytes read.
    numbers_show index_framing c.args.file c.args.size c.args.footer.now _ _ bytes c.requires.footer c.requires.size c.split_at.ensures.front c.split_at.ensures.back read.end c.in_err-numbers.field-0.0
    c.args.header.now c.in_ok-fields.fields c.in_ok-check_mark.ensures.is read.begins
    c.in_ok-fields.ensures.is c.in_err-numbers.ensures.shown)

pub returns-clause-ok : goal.returns-clause-ok
returns-clause-ok c bytes read =
    framed index_framing c.args.file c.args.size c.args.footer.now _ _ bytes c.requires.footer c.requires.size c.split_at.ensures.front c.split_at.ensures.back read.end c.args.header.now c.in_ok-fields.fields c.in_ok-numbers.numbers read.begins
    c.in_ok-fields.ensures.is c.in_ok-numbers.ensures.is c.in_ok-check_mark.ensures.is

pub returns-clause-spill : goal.returns-clause-spill
returns-clause-spill c = footer_spill c.in_ok-fields.fields.0 _ c.in_ok-numbers.numbers _ c.in_ok-numbers.ensures.is
