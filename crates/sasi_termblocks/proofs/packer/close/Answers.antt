use Rattle.std.proofs.Common.{◌∙◌, refl}
use Rattle.sasi_termblocks.proofs.PackerLaws.{packs_closed}
use Rattle.sasi_termblocks.proofs.packer.close.Goals as goal

pub returns-clause-ok : goal.returns-clause-ok
returns-clause-ok c cut first others is packs =
    packs_closed c.args.packer.now _ cut first others is packs
    (λ items starts_are entries_are. c.in_ok-put_block.ensures.ok items (c.deref.ensures.value ∙ starts_are) (c.deref-2.ensures.value ∙ entries_are))
    c.in_ok-put_block.ensures.long c.clear.ensures.items c.clear-2.ensures.items refl
