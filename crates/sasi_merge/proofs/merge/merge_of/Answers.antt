use Rattle.std.proofs.Common.{subst, List, ℕ, None, Some, sym, ◌∙◌}
use Rattle.sasi_merge.specs.Merging.{GivesLeast, with_token}
use Rattle.sasi_merge.proofs.LeastKeys.{has_some, least_is}
use Rattle.sasi_merge.proofs.merge.merge_of.Goals as goal

pub unreachable-requires : goal.unreachable-requires
unreachable-requires c = has_some (with_token c.args.token c.args.key.now) c.args.heads.now c.requires (sym c.in_ok-merged.ensures ∙ c.in-None.is)

pub returns : goal.returns
returns c =
    subst (λ (k : List ℕ). GivesLeast c.args.heads.now c.args.token (Some (k, c.in-Some.part))) (sym c.in_ok-copy_key-in-Some.ensures)
    (sym c.in_ok-merged.ensures ∙ c.in-Some.is, (least_is (with_token c.args.token c.args.key.now) None c.args.heads.now c.requires).heads)
