use Rattle.std.proofs.Common.{ℕ, ◌+◌, ◌*◌, ◌∙◌, ap, subst, sym}
use Rattle.std.specs.Prelude.{nat_lt, if◌then◌else◌}
use Rattle.sasi_host.specs.Names.{Bytes}
use Rattle.sasi_host.specs.Damages.{HasAt}
use Rattle.sasi_termblocks.specs.Damages.{BreaksSplit}
use Rattle.sasi_termblocks.specs.Windows.{IsBound}
use Rattle.sasi_termblocks.proofs.Shown.{lifted_shown}
use Rattle.sasi_termblocks.proofs.Steps.{position_is}
use Rattle.sasi_termblocks.proofs.seek.position_for.Goals as goal

pub returns-in-Ok-clause-ok : goal.returns-in-Ok-clause-ok
returns-in-Ok-clause-ok g c bytes blocks entries is has page_for =
    let stands = subst (λ (w : Bytes). HasAt bytes (4096 * c.args.page) w) (sym c.loaded_block.ensures.is) (c.in_ok-load_block.ensures.is bytes is) in
    position_is bytes c.loaded_block.result.now blocks entries c.args.page c.in-Ok.split.below c.in-Ok.split.count c.position_in.result.page c.position_in.result.index c.args.sought.now has page_for
    stands c.loaded_block.ensures.whole c.in-Ok.ensures.ok c.in-Ok.ensures.count c.position_in.ensures.page c.position_in.ensures.index

pub returns-in-Err-clause-damaged : goal.returns-in-Err-clause-damaged
returns-in-Err-clause-damaged g c =
    lifted_shown (BreaksSplit c.args.first c.args.page c.args.sought.now) (g.H.Host.view c.args.host.now) c.args.buffered.now.file c.file.result c.args.page c.loaded_block.result.now c.in-Err.fault c.fault_of.result
    (c.file.ensures ∙ c.load_block.ensures.read.file) c.in-Err.ensures.seen c.fault_of.ensures c.loaded_block.ensures.whole
    (λ bytes is. subst (λ (w : Bytes). HasAt bytes (4096 * c.args.page) w) (sym c.loaded_block.ensures.is) (c.in_ok-load_block.ensures.is bytes is))

pub returns-in-Ok-clause-led : goal.returns-in-Ok-clause-led
returns-in-Ok-clause-led g c bytes blocks is leads =
    let window = c.loaded_block.result.now in
    let page = c.args.page in
    let below = c.in-Ok.split.below in
    let counted = c.in-Ok.ensures.count in
    record {
      from = page;
      leads = leads;
      block = window;
      stands = subst (λ (w : Bytes). HasAt bytes (4096 * page) w) (sym c.loaded_block.ensures.is) (c.in_ok-load_block.ensures.is bytes is);
      long = c.loaded_block.ensures.whole;
      below = below;
      bound = subst (λ (n : ℕ). IsBound window n c.args.sought.now below) counted c.in-Ok.ensures.ok;
      page_is = c.position_in.ensures.page ∙ ap (λ (n : ℕ). if nat_lt below n then page else page + 1) counted;
      index_is = c.position_in.ensures.index ∙ ap (λ (n : ℕ). if nat_lt below n then below else 0) counted;
    }
