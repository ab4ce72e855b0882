use Rattle.std.proofs.Common.{◌∙◌, ap}
use Rattle.lru.specs.LruCache.{lru_cache}
use Rattle.sasi_cache.specs.Pages.{Pages, without}
use Rattle.sasi_cache.proofs.Forgotten.{left_covers, left_pages}
use Rattle.sasi_cache.proofs.cached.Cached.forget.Goals as goal

pub returns-clause-others : goal.returns-clause-others
returns-clause-others c = c.forget.ensures ∙ ap (λ (p : Pages). lru_cache (without c.args.file p.entries) p.cap) c.self.view_is

pub returns-clause-agrees : goal.returns-clause-agrees
returns-clause-agrees c files are = left_pages c.args.file files _ _ (returns-clause-others c) are

pub returns-clause-covers : goal.returns-clause-covers
returns-clause-covers c name covers = left_covers c.args.file name _ _ (returns-clause-others c) covers
