use Rattle.std.proofs.Common.{◌≡◌, ◌==◌, false, arith}
use Rattle.std.proofs.lemmas.Bool.Decides.{nat_tests}
use Rattle.std.proofs.lemmas.Result.{err_from_is_err_and}
use Rattle.sasi_manifest.proofs.Tagged.{create_gives, index_gives, later_tag_fails, replace_gives}
use Rattle.sasi_manifest.proofs.read_edit.read_later.Goals as goal

pub returns-in_err-tag : goal.returns-in_err-tag
returns-in_err-tag c =
    let p = err_from_is_err_and c.from_residual.result c.from_residual.ensures.1 in
    rw (p.1, p.2) (later_tag_fails c.args.listing.now c.args.reader.now c.in_err-tag.field-0.0 c.in_err-tag.ensures)

pub returns-then-tag-eq2 : goal.returns-then-tag-eq2
returns-then-tag-eq2 c =
    create_gives c.args.listing.now c.in_ok-tag.tag c.args.reader.now c.read_later_tag.new.reader c.read_create.new.reader c.read_create.result c.if-tag-eq2.true c.in_ok-tag.ensures c.read_create.ensures

pub returns-then-tag-eq3 : goal.returns-then-tag-eq3
returns-then-tag-eq3 c =
    index_gives c.args.listing.now c.in_ok-tag.tag c.args.reader.now c.read_later_tag.new.reader c.read_create_index.new.reader c.read_create_index.result c.if-tag-eq3.true c.in_ok-tag.ensures c.read_create_index.ensures

pub returns : goal.returns
returns c =
    let other : (c.in_ok-tag.tag == 2) ≡ false = grind (arith, nat_tests, c.if-tag-eq2.false) in
    let more : (c.in_ok-tag.tag == 3) ≡ false = grind (arith, nat_tests, c.if-tag-eq3.false) in
    replace_gives c.args.listing.now c.in_ok-tag.tag c.args.reader.now c.read_later_tag.new.reader c.read_replace.new.reader c.read_replace.result other more c.in_ok-tag.ensures c.read_replace.ensures
