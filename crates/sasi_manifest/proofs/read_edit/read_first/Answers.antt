use Rattle.std.proofs.lemmas.Result.{err_from_is_err_and}
use Rattle.sasi_manifest.proofs.Tagged.{first_tag_fails, start_gives}
use Rattle.sasi_manifest.proofs.read_edit.read_first.Goals as goal

pub returns-in_err-_tag : goal.returns-in_err-_tag
returns-in_err-_tag c =
    let p = err_from_is_err_and c.from_residual.result c.from_residual.ensures.1 in
    rw (p.1, p.2) (first_tag_fails c.args.reader.now c.in_err-_tag.field-0.0 c.in_err-_tag.ensures)

pub returns : goal.returns
returns c = start_gives _ c.args.reader.now c.read_u8_in_range.new.reader c.read_start.new.reader c.read_start.result c.in_ok-_tag.ensures c.read_start.ensures
