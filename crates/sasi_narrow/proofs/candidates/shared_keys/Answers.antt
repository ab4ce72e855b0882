use Rattle.std.proofs.Common.{◌∙◌, ap, List, map, subst, sym}
use Rattle.std.specs.List.Sorted.{IsStrictlySortedBy}
use Rattle.sasi_dataread.specs.declared.token_keys.PlacedKey.{PlacedKey}
use Rattle.sasi_narrow.specs.Narrowing.{has_entry}
use Rattle.sasi_narrow.specs.inside.KeyRefs.{has_key, ref_cmp}
use Rattle.sasi_narrow.proofs.Joining.{one_relation}
use Rattle.sasi_narrow.proofs.Refs.{Ref, shared_rise}
use Rattle.sasi_narrow.proofs.candidates.shared_keys.Goals as goal

pub loop-leaf-preserved : goal.loop-leaf-preserved
loop-leaf-preserved c =
    let left = c.loop-leaf.left.items in
    let others = c.deref.result.now in
    let keys : List (List PlacedKey) = map (λ v. v.now) c.args.keys.now in
    record {
      rise = subst (λ (l : List Ref). IsStrictlySortedBy ref_cmp l) (sym c.keep_shared.ensures) (shared_rise others left c.loop-leaf.invariant.rise);
      are = λ order bytes.
          one_relation c.args.token (has_entry c.args.entries.now) keys c.args.parts.now c.loop-leaf.leaf others left c.keep_shared.new.left.items bytes c.keep_shared.ensures
          (ap (has_key bytes) c.deref.ensures.value ∙ c.in_ok-others.ensures.are order bytes) (c.loop-leaf.invariant.are order bytes);
    }
