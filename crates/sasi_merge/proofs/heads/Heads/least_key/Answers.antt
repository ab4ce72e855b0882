use Rattle.std.proofs.Common.{◌≡◌, List, ℕ, None, Some, ap, subst, sym, ◌∙◌}
use Rattle.sasi_merge.specs.Least.{least_from}
use Rattle.sasi_merge.specs.Merging.{IsLeastKey, with_token}
use Rattle.sasi_merge.proofs.LeastKeys.{is_least_key, none_left, none_mapped, some_mapped}
use Rattle.sasi_merge.proofs.heads.Heads.least_key.Goals as goal

pub returns-in-None : goal.returns-in-None
returns-in-None c =
    let heads_is : c.deref.result.now ≡ c.args.self.now = c.deref.ensures.value ∙ c.self.view_is in
    none_left c.args.self.now (ap (least_from None) (sym heads_is) ∙ none_mapped _ _ _ c.in-None.is c.least.ensures)

pub returns-in_ok-key-in-Some : goal.returns-in_ok-key-in-Some
returns-in_ok-key-in-Some c =
    let heads_is : c.deref.result.now ≡ c.args.self.now = c.deref.ensures.value ∙ c.self.view_is in
    subst (λ (k : List ℕ). IsLeastKey c.args.self.now (Some (with_token c.in-Some.token k))) (sym c.in_ok-key-in-Some.ensures)
    (is_least_key c.args.self.now (with_token c.in-Some.token c.in-Some.key.now) (ap (least_from None) (sym heads_is) ∙ some_mapped _ _ _ _ c.in-Some.is c.least.ensures))
