use Rattle.std.proofs.Common.{rules}
use Rattle.std.proofs.lemmas.Fn.{filter_same}
use Rattle.sasi_narrow.specs.inside.KeyRefs.{has_key}
use Rattle.sasi_narrow.proofs.Refs.{Ref}
use Rattle.sasi_narrow.proofs.candidates.keep_shared.Goals as goal

pub returns : goal.returns
returns c =
    let rise = c.requires in
    filter_same _ (λ (key : Ref). has_key key.now c.args.others.now) _ (λ x b f' k. search (rules, rise)) _ _ c.retain.ensures.filtered
