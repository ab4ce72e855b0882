use Rattle.std.proofs.Common.{◌+◌, [], drop, Option, arith, refl, sym, ◌∙◌, ap, subst}
use Rattle.sasi_manifest.specs.declared.listing.Listing.{Listing}
use Rattle.sasi_manifest.specs.Listings.{after_all}
use Rattle.sasi_manifest.proofs.Records.{ApplyInTurn, in_turn, steps_to}
use Rattle.sasi_manifest.proofs.apply.apply_all.Goals as goal

pub loop-edit-init : goal.loop-edit-init
loop-edit-init c = record { apply = in_turn c.args.from [] c.args.edits.now c.requires; after = refl }

pub apply-requires : goal.apply-requires
apply-requires c = (steps_to c.loop-edit.listed c.args.edits.now c.loop-edit.edit-index c.edit-item.result (omega (arith, c.loop-edit-test.true)) c.edit-item.is c.loop-edit.invariant.apply).applies

pub loop-edit-preserved : goal.loop-edit-preserved
loop-edit-preserved c =
    let step = steps_to c.loop-edit.listed c.args.edits.now c.loop-edit.edit-index c.edit-item.result (omega (arith, c.loop-edit-test.true)) c.edit-item.is c.loop-edit.invariant.apply in
    record {
      apply = subst (λ (l : Option Listing). ApplyInTurn l (drop (c.loop-edit.edit-index + 1) c.args.edits.now)) (sym c.in_ok-apply.ensures) step.rest_apply;
      after = ap (λ (l : Option Listing). after_all l (drop (c.loop-edit.edit-index + 1) c.args.edits.now)) c.in_ok-apply.ensures ∙ sym step.same ∙ c.loop-edit.invariant.after;
    }
