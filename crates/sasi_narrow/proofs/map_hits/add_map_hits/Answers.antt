use Rattle.std.proofs.Common.{◌||◌, ◌∙◌, ap}
use Rattle.sasi_types.specs.declared.decorated_key.DecoratedKey.{DecoratedKey}
use Rattle.sasi_narrow.specs.inside.KeyRefs.{has_key}
use Rattle.sasi_narrow.proofs.Joining.{all_added, map_hits_are}
use Rattle.sasi_narrow.proofs.map_hits.add_map_hits.Goals as goal

pub returns : goal.returns
returns c = λ rise bytes.
    let keys = c.keys_of-keys.result.now in
    all_added (λ (k : DecoratedKey). k.key) c.loop-key.hits.items keys c.loop-key.key-index c.loop-key-test.false bytes
    ∙ c.loop-key.invariant bytes
    ∙ ap (λ b. has_key bytes c.args.hits.now.items || b) (map_hits_are c.args.token c.args.found.now keys (c.keys_of-keys.ensures rise) bytes)
