use Rattle.std.proofs.Common.{◌∙◌, List, ℕ, ap, map, sym}
use Rattle.std.specs.List.{filter}
use Rattle.sasi_types.specs.declared.decorated_key.DecoratedKey.{DecoratedKey}
use Rattle.sasi_memindex.specs.Hits.{keys_in}
use Rattle.sasi_engine.specs.inside.Found.{is_in_all, keys_with}
use Rattle.sasi_engine.proofs.WordLaws.{words_met}
use Rattle.sasi_engine.proofs.find_keys.find_words.Goals as goal

pub returns : goal.returns
returns c m is =
    let op = c.args.op.now in
    let index = c.args.index.now in
    let first = c.in-Some.first.now in
    let others = c.in-Some.others.now in
    c.new.ensures ∙ c.in_ok-common.ensures
    ∙ ap (λ (lists : List (List DecoratedKey)). filter (is_in_all lists) c.as_slice.result.now) (c.deref.ensures.value ∙ c.in_ok-lists.ensures.lists m is)
    ∙ ap (filter (is_in_all (map (λ word. keys_in op word index m) others))) (c.as_slice.ensures ∙ c.in_ok-keys.ensures.of_map m is ∙ ap (λ (b : List ℕ). keys_in op b index m) c.bytes.ensures)
    ∙ words_met op index m first others
    ∙ ap (λ (words : List (List ℕ)). keys_with op words index m) (sym c.in-Some.ensures.cases.0)
