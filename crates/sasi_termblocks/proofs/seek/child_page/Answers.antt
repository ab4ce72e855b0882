use Rattle.std.proofs.Common.{◌≡◌, ◌+◌, ◌-◌, ◌*◌, ℕ, ◌∙◌, arith, subst, sym}
use Rattle.sasi_host.specs.Names.{Bytes}
use Rattle.sasi_host.specs.Damages.{HasAt}
use Rattle.sasi_termblocks.specs.Windows.{IsFault}
use Rattle.sasi_termblocks.specs.BlockFaults.{PointsTo}
use Rattle.sasi_termblocks.specs.Damages.{BreaksPointers}
use Rattle.sasi_termblocks.specs.Descents.{IsPageFor, high_page, low_page}
use Rattle.sasi_termblocks.proofs.Children.{child_for, page_is_in, pointer_kept}
use Rattle.sasi_termblocks.proofs.Shown.{lifted_shown}
use Rattle.sasi_termblocks.proofs.Led.{led_on}
use Rattle.sasi_termblocks.proofs.Steps.{leads_on}
use Rattle.sasi_termblocks.proofs.seek.child_page.Goals as goal

pub returns-in-Ok-clause-ok : goal.returns-in-Ok-clause-ok
returns-in-Ok-clause-ok g c bytes entries is has le page_for =
    let window = c.loaded_block.result.now in
    let up : c.args.level ≡ c.args.level - 1 + 1 = omega (arith, c.requires.level) in
    let stands = subst (λ (w : Bytes). HasAt bytes (4096 * c.args.page) w) (sym c.loaded_block.ensures.is) (c.in_ok-load_block.ensures.is bytes is) in
    child_for bytes window c.args.blocks entries (c.args.level - 1) c.args.page c.in-Ok.ensures.ok.0 c.in-Ok.place _ _ c.args.sought.now has (omega (arith, le, up))
    (subst (λ (n : ℕ). IsPageFor c.args.blocks.first entries n c.args.sought.now c.args.page) up page_for) stands c.loaded_block.ensures.whole c.in-Ok.ensures.ok.1 c.in-Ok.ensures.ok.2

pub returns-in-Ok-clause-leads : goal.returns-in-Ok-clause-leads
returns-in-Ok-clause-leads g c bytes is leads =
    let stands = subst (λ (w : Bytes). HasAt bytes (4096 * c.args.page) w) (sym c.loaded_block.ensures.is) (c.in_ok-load_block.ensures.is bytes is) in
    leads_on bytes c.loaded_block.result.now c.args.blocks c.args.level c.args.page _ _ (c.in-Ok.ensures.ok.0 - 1) c.in-Ok.place c.requires.level leads stands c.loaded_block.ensures.whole
    (omega (arith, c.in-Ok.ensures.ok.1.within, c.in-Ok.ensures.some)) c.in-Ok.ensures.ok.2

pub returns-in-Ok-clause-led : goal.returns-in-Ok-clause-led
returns-in-Ok-clause-led g c bytes is leads =
    let r = c.args.blocks in
    let level = c.args.level in
    let page = c.args.page in
    let window = c.loaded_block.result.now in
    let stands = subst (λ (w : Bytes). HasAt bytes (4096 * page) w) (sym c.loaded_block.ensures.is) (c.in_ok-load_block.ensures.is bytes is) in
    let below = c.in-Ok.ensures.ok.0 in
    let place = c.in-Ok.place in
    let has = subst (λ (n : ℕ). PointsTo (low_page r level) n window (below - 1) place) c.range_of-range.ensures.high
    (subst (λ (n : ℕ). PointsTo n c.range_of-range.result.high window (below - 1) place) c.range_of-range.ensures.low c.in-Ok.ensures.ok.2) in
    led_on bytes window r c.args.sought.now level page below place c.requires.level leads stands c.loaded_block.ensures.whole c.in-Ok.ensures.ok.1 has

pub returns-in-Ok-clause-below : goal.returns-in-Ok-clause-below
returns-in-Ok-clause-below g c =
    let entry = c.in-Ok.ensures.ok.2 in
    omega (arith, (page_is_in _ _ c.in-Ok.place (pointer_kept _ _ c.loaded_block.result.now _ entry.0 c.in-Ok.place entry.1).1).above, c.range_of-range.ensures.low)

pub returns-in-Ok-clause-within : goal.returns-in-Ok-clause-within
returns-in-Ok-clause-within g c =
    let entry = c.in-Ok.ensures.ok.2 in
    omega (arith, (page_is_in _ _ c.in-Ok.place (pointer_kept _ _ c.loaded_block.result.now _ entry.0 c.in-Ok.place entry.1).1).below, c.range_of-range.ensures.high)

pub returns-in-Err-clause-damaged : goal.returns-in-Err-clause-damaged
returns-in-Err-clause-damaged g c =
    let r = c.args.blocks in
    let window = c.loaded_block.result.now in
    let low = low_page r c.args.level in
    let high = high_page r c.args.level c.args.page in
    let seen = subst (λ (n : ℕ). IsFault (BreaksPointers low n window) c.in-Err.fault) c.range_of-range.ensures.high
    (subst (λ (n : ℕ). IsFault (BreaksPointers n c.range_of-range.result.high window) c.in-Err.fault) c.range_of-range.ensures.low c.in-Err.ensures.seen) in
    lifted_shown (BreaksPointers low high) (g.H.Host.view c.args.host.now) c.args.buffered.now.file c.file.result c.args.page window c.in-Err.fault c.fault_of.result
    (c.file.ensures ∙ c.load_block.ensures.read.file) seen c.fault_of.ensures c.loaded_block.ensures.whole
    (λ bytes is. subst (λ (w : Bytes). HasAt bytes (4096 * c.args.page) w) (sym c.loaded_block.ensures.is) (c.in_ok-load_block.ensures.is bytes is))
