use Rattle.std.proofs.Common.{◌≡◌, drop}
use Rattle.sasi_manifest.specs.Listings.{after_all}
use Rattle.sasi_manifest.proofs.Records.{ApplyInTurn}
use Rattle.sasi_manifest.proofs.apply.apply_all.Given as goal

abbrev pub invariant-loop-edit : goal.invariant-loop-edit
invariant-loop-edit l = record {
  apply : ApplyInTurn l.listed (drop l.edit-index l.edits);
  after : after_all l.listed (drop l.edit-index l.edits) ≡ after_all l.fn.from l.edits;
}
