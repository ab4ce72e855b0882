use Rattle.std.proofs.Common.{length}
use Rattle.sasi_model.specs.Tokens.{tokens}
use Rattle.sasi_cql.specs.ModelTokens.{model_token}
use Rattle.sasi_cql.proofs.Listing.{SoFar}
use Rattle.sasi_cql.proofs.list.read_list.Given as goal

abbrev pub invariant-items : goal.invariant-items
invariant-items g l = SoFar (model_token l.between) g.T.Item.marks g.T.Item.form (tokens l.text) (g.T.Item.items l.list) l.marked (tokens l.left)

abbrev pub decreases-items : goal.decreases-items
decreases-items g l = length (tokens l.left)
