use Rattle.std.proofs.Common.{subst}
use Rattle.sasi_recover.specs.Opening.{IsHighestSeal}
use Rattle.sasi_recover.proofs.HighestSeal.{first_seal, higher_seal, lower_seal, other_name}
use Rattle.sasi_recover.proofs.seals.higher.Goals as goal

pub returns-in_default : goal.returns-in_default
returns-in_default c before highest = other_name before c.args.name c.args.highest c.in_default.ensures highest

pub returns-in-None : goal.returns-in-None
returns-in-None c before highest = first_seal before c.args.name c.in-Some.number c.in-Some.ensures
    (subst (IsHighestSeal before) c.in-None.is highest)

pub returns-then-other-number : goal.returns-then-other-number
returns-then-other-number c before highest = higher_seal before c.args.name c.in-Some.number c.in-Some-highest.other c.in-Some.ensures
    c.if-other-number.true (subst (IsHighestSeal before) c.in-Some-highest.is highest)

pub returns-else-other-number : goal.returns-else-other-number
returns-else-other-number c before highest = lower_seal before c.args.name c.in-Some.number c.in-Some-highest.other c.in-Some.ensures
    c.if-other-number.false (subst (IsHighestSeal before) c.in-Some-highest.is highest)
