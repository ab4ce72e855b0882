use Rattle.std.proofs.Common.{rules, ◌≡◌}
use Rattle.std.proofs.lemmas.Fn.{always_returns_same}
use Rattle.sasi_types.specs.Key.{key_cmp}
use Rattle.sasi_dataread.specs.declared.token_keys.PlacedKey.{PlacedKey}
use Rattle.sasi_lookup.proofs.SearchLaws.{found_nowhere, found_there}
use Rattle.sasi_lookup.proofs.key_search.offset_of.Goals as goal

pub returns-in-Ok : goal.returns-in-Ok
returns-in-Ok c =
    let by_key = c.in-Ok.ensures.position (λ (placed : PlacedKey). key_cmp placed.key c.args.key.now) (always_returns_same _ (λ a r. r ≡ key_cmp a.0.now.key c.args.key.now) _ (λ a r f k. search rules)) in
    found_there c.args.keys.now c.args.key.now c.in-Ok.at c.index-keys-at.result c.in-Ok.ensures.bound by_key

pub returns-in-Err : goal.returns-in-Err
returns-in-Err c =
    let by_key = c.in-Err.ensures.position (λ (placed : PlacedKey). key_cmp placed.key c.args.key.now) (always_returns_same _ (λ a r. r ≡ key_cmp a.0.now.key c.args.key.now) _ (λ a r f k. search rules)) in
    found_nowhere c.args.keys.now c.args.key.now c.in-Err.field-0 by_key
