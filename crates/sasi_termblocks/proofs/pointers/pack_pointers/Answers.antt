use Rattle.std.proofs.Common.{◌∙◌, [], List, arith, refl, subst}
use Rattle.std.proofs.lemmas.List.{get_or_read, take_all}
use Rattle.sasi_termblocks.specs.Blocks.{Item, cut_of, pointers_to}
use Rattle.sasi_termblocks.specs.Writing.{Packs}
use Rattle.sasi_termblocks.proofs.LevelLaws.{pointer_pushed, pointers_length}
use Rattle.sasi_termblocks.proofs.pointers.pack_pointers.Goals as goal

pub loop-index-preserved : goal.loop-index-preserved
loop-index-preserved c = record {
  packs = pointer_pushed c.push_pointer.new.packer c.args.at c.args.first_terms.now c.loop-index.index c.bytes.result.now _ (omega arith)
      (c.bytes.ensures ∙ get_or_read c.args.first_terms.now c.loop-index.index _ (omega arith) c.index-first_terms-index.is []) refl
      (c.in_ok-push_pointer.ensures.ok _ c.loop-index.invariant.packs);
  small = c.push_pointer.ensures.small;
}

pub returns-clause-level : goal.returns-clause-level
returns-clause-level c =
    let all = pointers_to c.args.at c.args.first_terms.now in
    c.in_ok-end_level.ensures.ok all
    (subst (λ (l : List Item). Packs c.loop-index.packer (cut_of l)) (take_all c.loop-index.index all (omega (arith, pointers_length c.args.at c.args.first_terms.now))) c.loop-index.invariant.packs)
