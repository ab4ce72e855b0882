use Rattle.std.proofs.Common.{◌*◌, ◌∙◌, subst, sym}
use Rattle.sasi_host.specs.Names.{Bytes}
use Rattle.sasi_host.specs.Damages.{HasAt}
use Rattle.sasi_termblocks.specs.BlockFaults.{BreaksFirstPointer}
use Rattle.sasi_termblocks.proofs.Shown.{lifted_shown}
use Rattle.sasi_termblocks.proofs.scan.check_pointer_block.Goals as goal

pub returns-in-Ok-clause-ok : goal.returns-in-Ok-clause-ok
returns-in-Ok-clause-ok g c bytes is = (
  c.loaded_block.result.now,
  subst (λ (w : Bytes). HasAt bytes (4096 * c.args.page) w) (sym c.loaded_block.ensures.is) (c.in_ok-load_block.ensures.is bytes is),
  (_, c.in-Ok.ensures.ok),
)

pub returns-in-Err-clause-damaged : goal.returns-in-Err-clause-damaged
returns-in-Err-clause-damaged g c =
    lifted_shown (BreaksFirstPointer c.args.first) (g.H.Host.view c.args.host.now) c.args.buffered.now.file c.file.result c.args.page c.loaded_block.result.now c.in-Err.fault c.fault_of.result
    (c.file.ensures ∙ c.load_block.ensures.read.file) c.in-Err.ensures.seen c.fault_of.ensures c.loaded_block.ensures.whole
    (λ bytes is. subst (λ (w : Bytes). HasAt bytes (4096 * c.args.page) w) (sym c.loaded_block.ensures.is) (c.in_ok-load_block.ensures.is bytes is))
