use Rattle.std.proofs.Common.{Option, arith, subst}
use Rattle.sasi_recover.specs.Missing.{IsMissingOf}
use Rattle.sasi_recover.specs.declared.classes.Missing.{Missing}
use Rattle.sasi_recover.proofs.MissingLaws.{first_before, kept_first}
use Rattle.sasi_recover.proofs.classes.lesser.Goals as goal

pub returns-then-found-index : goal.returns-then-found-index
returns-then-found-index c = λ kinds needed lacks missing.
    kept_first kinds needed c.args.index c.args.class c.in-Some.found (omega (arith, c.if-found-index.true)) (subst (λ (b : Option Missing). IsMissingOf kinds needed b) c.in-Some.is missing)

pub returns-else-found-index : goal.returns-else-found-index
returns-else-found-index c = λ kinds needed lacks missing.
    first_before kinds needed c.args.index c.args.class c.in-Some.found lacks (omega (arith, c.if-found-index.false)) (subst (λ (b : Option Missing). IsMissingOf kinds needed b) c.in-Some.is missing)
