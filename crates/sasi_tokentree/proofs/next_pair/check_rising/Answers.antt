use Rattle.std.proofs.Common.{◌≡◌, ◌∙◌, true, false, refl, subst, sym, IsSome, Option, None, Some}
use Rattle.sasi_types.specs.declared.tree.Pair.{Pair}
use Rattle.sasi_tokentree.specs.Scans.{RisesFrom}
use Rattle.sasi_tokentree.proofs.next_pair.check_rising.Goals as goal

pub last_offset-at-requires : goal.last_offset-at-requires
last_offset-at-requires c = c.requires (subst (λ (o : Option Pair). IsSome o) (sym c.in-Some.is) refl)

pub returns-in_default-clause-rises : goal.returns-in_default-clause-rises
returns-in_default-clause-rises c = subst (λ (o : Option Pair). RisesFrom c.args.last o) (sym c.in_default.is) tt

pub returns-in_default-last-clause-rises : goal.returns-in_default-last-clause-rises
returns-in_default-last-clause-rises c =
    subst (λ (l : Option Pair). RisesFrom l c.args.read.pair) (sym c.in_default-last.is) (subst (λ (o : Option Pair). RisesFrom None o) (sym c.in-Some.is) tt)

pub returns-then-is_before-clause-rises : goal.returns-then-is_before-clause-rises
returns-then-is_before-clause-rises c =
    subst (λ (l : Option Pair). RisesFrom l c.args.read.pair) (sym c.in-Some-last.is)
    (subst (λ (o : Option Pair). RisesFrom (Some c.in-Some-last.before) o) (sym c.in-Some.is) (c.is_before.ensures.0 c.if-is_before.true))

pub returns-clause-damaged : goal.returns-clause-damaged
returns-clause-damaged c = record {
  last = c.in-Some-last.before;
  pair = c.in-Some.pair;
  was = c.in-Some-last.is;
  is = c.in-Some.is;
  named = c.found.ensures.file;
  rule_is = c.found.ensures.rule;
  disorder = λ before. (let never : true ≡ false = sym (c.is_before.ensures.1 before) ∙ c.if-is_before.false in cc);
  at_is = c.found.ensures.at ∙ c.last_offset-at.ensures.is;
  seen_is = c.found.ensures.seen ∙ c.to_be_bytes-token.ensures;
}
