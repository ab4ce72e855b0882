use Rattle.std.proofs.Common.{◌++◌, length, arith, ◌∙◌, ap, append_assoc}
use Rattle.std.specs.List.{flat_map}
use Rattle.std.specs.Int.{to_be_bytes, w32}
use Rattle.sasi_host.specs.Names.{Bytes}
use Rattle.sasi_manifest.specs.Listings.{FitsWidths}
use Rattle.sasi_manifest.proofs.EditBytes.{each_at, edit_bytes, edits_put, put_step}
use Rattle.sasi_manifest.proofs.encode.put_edits.Goals as goal

pub loop-edit-init : goal.loop-edit-init
loop-edit-init c = record {
  writable = c.requires.writable;
  bytes = ap (λ (l : Bytes). l ++ flat_map edit_bytes c.args.edits.now) c.in_ok-put_u32.ensures.ok ∙ append_assoc c.args.out.now.items (to_be_bytes w32 (length c.args.edits.now)) (flat_map edit_bytes c.args.edits.now);
}

pub put_edit-requires : goal.put_edit-requires
put_edit-requires c = (each_at FitsWidths c.args.edits.now c.loop-edit.edit-index c.edit-item.result (omega (arith, c.loop-edit-test.true)) c.edit-item.is c.loop-edit.invariant.writable).0

pub loop-edit-preserved : goal.loop-edit-preserved
loop-edit-preserved c = record {
  writable = (each_at FitsWidths c.args.edits.now c.loop-edit.edit-index c.edit-item.result (omega (arith, c.loop-edit-test.true)) c.edit-item.is c.loop-edit.invariant.writable).1;
  bytes = put_step edit_bytes c.args.edits.now c.loop-edit.edit-index c.edit-item.result c.loop-edit.out.items c.put_edit.new.out.items _ (omega (arith, c.loop-edit-test.true)) c.edit-item.is c.in_ok-put_edit.ensures c.loop-edit.invariant.bytes;
}

pub returns : goal.returns
returns c = edits_put c.args.edits.now c.loop-edit.edit-index c.args.out.now.items c.loop-edit.out.items c.loop-edit-test.false c.loop-edit.invariant.bytes
