use Rattle.std.proofs.Common.{List, [], ◌∷◌, map, ap, sym, ◌∙◌}
use Rattle.sasi_manifest.specs.declared.edit.Edit.TheVariants.{Replace}
use Rattle.sasi_manifest.specs.declared.files.PartNumber.{PartNumber}
use Rattle.sasi_machine_layout.specs.Draws.{floor_of}
use Rattle.sasi_machine_layout.specs.declared.contents.TableContents.{TableContents}
use Rattle.sasi_machine_layout.proofs.DrawnNumbers.{drawn_here}
use Rattle.sasi_machine_layout.proofs.flush.draw_with.Goals as goal

pub returns : goal.returns
returns c =
    let number = c.in_ok-number.number in
    let last = c.in_ok-last.last in
    let floor = c.floor_without-floor.result in
    let edits = c.in_ok-edits.ensures ∙ ap (λ (ps : List PartNumber). Replace c.args.table [] (record { number = number; parts = ps } ∷ []) last floor last ∷ []) (c.in_ok-parts.ensures ∙ sym c.in_ok-parts-2.ensures) in
    drawn_here c.args.contents.now c.args.table c.args.rising.now c.in_ok-edits.edits _ c.requires.contents c.requires.drawn c.in_ok-number.ensures c.in_ok-parts-2.ensures c.in_ok-part.ensures.0
    (c.floor_without-floor.ensures ∙ ap (λ (ts : List TableContents). floor_of 1 c.args.table last (map (λ (t : TableContents). t.first) ts)) c.deref.ensures.value)
    c.in_ok-last.ensures c.in_ok-records.ensures edits c.in_ok-length.ensures
