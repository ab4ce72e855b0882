use Rattle.std.proofs.Common.{◌≡◌, refl, ◌∙◌, arith}
use Rattle.lru.specs.LruCache.{lru_cache}
use Rattle.sasi_cache.specs.Pages.{without}
use Rattle.sasi_cache.proofs.Forgotten.{forgets_all, forgets_none, forgets_one}
use Rattle.sasi_cache.proofs.pages.forget.Goals as goal

pub loop-turn-init : goal.loop-turn-init
loop-turn-init c = record { room = refl; so = forgets_none c.args.file c.args.pages.now.entries }

pub loop-turn-preserved : goal.loop-turn-preserved
loop-turn-preserved c = record {
  room = c.pass_last.ensures.room ∙ c.loop-turn.invariant.room;
  so = forgets_one c.args.file c.args.pages.now.entries _ _ c.loop-turn._turn c.loop-turn.invariant.so (omega (arith, c.len-turn-end.ensures.len, c.loop-turn-test.true)) c.pass_last.ensures.entries;
}

pub returns : goal.returns
returns c =
    let entries : c.loop-turn.pages.entries ≡ without c.args.file c.args.pages.now.entries = forgets_all c.args.file c.args.pages.now.entries c.loop-turn.pages.entries c.loop-turn._turn c.loop-turn.invariant.so (omega (arith, c.len-turn-end.ensures.len, c.loop-turn-test.false)) in
    λ i. lru_cache (entries i) (c.loop-turn.invariant.room i)
