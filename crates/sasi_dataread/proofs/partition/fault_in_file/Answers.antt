use Rattle.std.proofs.Common.{length, refl, subst, arith, inl, inr}
use Rattle.std.specs.Int.{to_be_bytes, w32}
use Rattle.sasi_host.proofs.Offsets.{first_at, second_at}
use Rattle.sasi_body.specs.Body.{body_of}
use Rattle.sasi_formats.specs.Whole.{IsShownBy}
use Rattle.sasi_dataread.specs.Damages.ShowsPartition.{broken_body}
use Rattle.sasi_dataread.proofs.partition.fault_in_file.Goals as goal

pub returns-in-Short-clause-shown : goal.returns-in-Short-clause-shown
returns-in-Short-clause-shown c types end whole shown has = c.other_length.ensures.shown types end whole (inl (subst (IsShownBy (body_of types) c.args.bytes.now) c.in-Short.is shown)) has

pub returns-in-Long-clause-shown : goal.returns-in-Long-clause-shown
returns-in-Long-clause-shown c types end whole shown has = c.other_length-in-Long.ensures.shown types end whole (inr (subst (IsShownBy (body_of types) c.args.bytes.now) c.in-Long.is shown)) has

pub returns-in-Broken-clause-shown : goal.returns-in-Broken-clause-shown
returns-in-Broken-clause-shown c types end whole shown has =
    let count = to_be_bytes w32 (length c.args.bytes.now) in
    broken_body (length c.args.bytes.now) (omega arith) (first_at whole c.args.place count c.args.bytes.now has) (record {
      named = refl;
      part = c.args.bytes.now;
      stands = second_at whole c.args.place count c.args.bytes.now has;
      sized = refl;
      within = c.in-Broken.broken.at;
      at = refl;
      breaks = subst (IsShownBy (body_of types) c.args.bytes.now) c.in-Broken.is shown;
    })
