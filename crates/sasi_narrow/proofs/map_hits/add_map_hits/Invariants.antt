use Rattle.std.proofs.Common.{◌≡◌, ◌||◌, ℕ, List, drop}
use Rattle.std.specs.List.{list_any}
use Rattle.sasi_types.specs.declared.decorated_key.DecoratedKey.{DecoratedKey}
use Rattle.sasi_model.specs.Tokens.{same}
use Rattle.sasi_narrow.specs.inside.KeyRefs.{has_key}
use Rattle.sasi_narrow.proofs.map_hits.add_map_hits.Given as goal

abbrev pub invariant-loop-key : goal.invariant-loop-key
invariant-loop-key l = (bytes : List ℕ)
    → (has_key bytes l.hits.items || list_any (λ (key : DecoratedKey). same bytes key.key) (drop l.key-index l.keys))
    ≡ (has_key bytes l.fn.hits.items || list_any (λ (key : DecoratedKey). same bytes key.key) l.keys)
