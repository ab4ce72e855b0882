use Rattle.std.proofs.Common.{◌≡◌, [], ◌++◌, length, take}
use Rattle.std.specs.Int.{w16, to_be_bytes}
use Rattle.sasi_formats.specs.Formats.{encoded, encoded_items}
use Rattle.sasi_body.specs.Body.{cell}
use Rattle.sasi_body.proofs.put.put_cells.Given as goal

abbrev pub invariant-loop-entry : goal.invariant-loop-entry
invariant-loop-entry l = l.out.items ≡ (l.fn.out.items ++ to_be_bytes w16 (length l.cells)) ++ encoded_items (λ _. encoded (cell [] 0 [])) [] (take l.entry-index l.cells)
