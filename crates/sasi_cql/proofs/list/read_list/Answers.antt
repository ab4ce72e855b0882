use Rattle.std.proofs.Common.{◌∙◌, ap, ◌||◌}
use Rattle.std.proofs.lemmas.Result.{err_from_is_err_and}
use Rattle.sasi_model.specs.Tokens.{tokens}
use Rattle.sasi_cql.specs.ModelTokens.{model_token}
use Rattle.sasi_cql.proofs.Listing.{list_more, list_last, list_halts, list_shorter}
use Rattle.sasi_cql.proofs.list.read_list.Goals as goal

pub returns-in_err-item : goal.returns-in_err-item
returns-in_err-item g c =
    let p = err_from_is_err_and c.from_residual.result c.from_residual.ensures.1 in
    rw (p.1, p.2) (list_halts (model_token c.args.between.now) g.T.Item.marks g.T.Item.form (tokens c.args.text.now) (g.T.Item.items c.items.list) c.items.marked (tokens c.items.left.now) c.in_err-item.field-0.0 c.in_err-item.ensures c.items.invariant)

pub returns-in_default : goal.returns-in_default
returns-in_default g c =
    list_last (model_token c.args.between.now) g.T.Item.marks g.T.Item.form (tokens c.args.text.now) (g.T.Item.items c.items.list) (g.T.Item.items c.in_ok-list.list) c.items.marked (tokens c.items.left.now) c.in_ok-item.item (tokens c.in_ok-item.behind.now) c.in_ok-item.ensures
    c.in_default.ensures c.in_ok-list.ensures c.items.invariant

pub items-smaller : goal.items-smaller
items-smaller g c =
    list_shorter (model_token c.args.between.now) (g.T.Item.form c.items.marked) (tokens c.items.left.now) c.in_ok-item.item (tokens c.in_ok-item.behind.now) (tokens c.in-Some.rest.now) c.in_ok-item.ensures c.in-Some.ensures

pub items-preserved : goal.items-preserved
items-preserved g c =
    list_more (model_token c.args.between.now) g.T.Item.marks g.T.Item.form (tokens c.args.text.now) (g.T.Item.items c.items.list) (g.T.Item.items c.in_ok-list.list) c.items.marked c.either-next.result (tokens c.items.left.now) c.in_ok-item.item (tokens c.in_ok-item.behind.now) (tokens c.in-Some.rest.now) c.in_ok-item.ensures c.in-Some.ensures c.in_ok-list.ensures (c.either-next.ensures ∙ ap (λ b. c.items.marked || b) c.marks.ensures) c.items.invariant
