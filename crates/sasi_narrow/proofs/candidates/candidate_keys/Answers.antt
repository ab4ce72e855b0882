use Rattle.std.proofs.Common.{◌∙◌, ap, List, map, subst, sym}
use Rattle.std.specs.List.Sorted.{IsStrictlySortedBy}
use Rattle.sasi_dataread.specs.declared.token_keys.PlacedKey.{PlacedKey}
use Rattle.sasi_narrow.specs.Narrowing.{has_entry, is_left}
use Rattle.sasi_narrow.specs.inside.KeyRefs.{has_key, ref_cmp}
use Rattle.sasi_narrow.proofs.Refs.{Ref, copies_have, copies_rise}
use Rattle.sasi_narrow.proofs.candidates.candidate_keys.Goals as goal

pub returns-clause-sorted : goal.returns-clause-sorted
returns-clause-sorted c =
    copies_rise c.copy_keys.result (λ v. v.items) c.deref.result.now c.copy_keys.ensures (subst (λ (l : List Ref). IsStrictlySortedBy ref_cmp l) (sym c.deref.ensures.value) c.in_ok-left.ensures.rise)

pub returns-clause-are : goal.returns-clause-are
returns-clause-are c = λ order.
    let keys : List (List PlacedKey) = map (λ v. v.now) c.args.keys.now in
    copies_have c.copy_keys.result (λ v. v.items) c.deref.result.now (is_left c.args.token (has_entry c.args.entries.now) keys c.args.parts.now c.args.relations) c.copy_keys.ensures
    (λ bytes. ap (has_key bytes) c.deref.ensures.value ∙ c.in_ok-left.ensures.are order bytes)
