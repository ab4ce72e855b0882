use Rattle.std.proofs.Common.{◌++◌, [], length, take, refl, arith}
use Rattle.std.specs.Int.{to_be_bytes, w16}
use Rattle.std.proofs.lemmas.List.{take_all}
use Rattle.sasi_formats.specs.Formats.{encoded}
use Rattle.sasi_formats.proofs.Putting.{encoded_more}
use Rattle.sasi_body.specs.Body.{cell}
use Rattle.sasi_body.proofs.BodyBytes.{all_put}
use Rattle.sasi_body.proofs.put.put_cells.Goals as goal

pub loop-entry-preserved : goal.loop-entry-preserved
loop-entry-preserved c =
    encoded_more (encoded (cell [] 0 [])) c.args.cells.now c.loop-entry.entry-index c.entry-item.result (c.args.out.now.items ++ to_be_bytes w16 (length c.args.cells.now)) c.loop-entry.out.items c.put_cell.new.out.items
    (omega (arith, c.loop-entry-test.true)) c.entry-item.is c.loop-entry.invariant c.in_ok-put_cell.ensures

pub returns : goal.returns
returns c =
    all_put c.args.cells.now (take c.loop-entry.entry-index c.args.cells.now) c.args.out.now.items (c.args.out.now.items ++ to_be_bytes w16 (length c.args.cells.now)) c.loop-entry.out.items refl
    (take_all c.loop-entry.entry-index c.args.cells.now c.loop-entry-test.false) c.loop-entry.invariant
