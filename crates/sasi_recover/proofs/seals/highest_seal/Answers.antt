use Rattle.std.proofs.Common.{sym, subst, take, List}
use Rattle.std.proofs.lemmas.List.{take_all, take_more}
use Rattle.sasi_host.specs.declared.name.FileName.{FileName}
use Rattle.sasi_recover.specs.Opening.{IsHighestSeal}
use Rattle.sasi_recover.proofs.seals.highest_seal.Goals as goal

pub loop-name-preserved : goal.loop-name-preserved
loop-name-preserved c =
    subst (λ (l : List FileName). IsHighestSeal l c.higher-highest.result)
    (sym (take_more c.args.names.now c.loop-name.name-index _ c.loop-name-test.true))
    (c.higher-highest.ensures (take c.loop-name.name-index c.args.names.now) c.loop-name.invariant)

pub returns : goal.returns
returns c = subst (λ (l : List FileName). IsHighestSeal l c.loop-name.highest)
    (take_all c.loop-name.name-index c.args.names.now c.loop-name-test.false) c.loop-name.invariant
