use Rattle.std.proofs.Common.{sym}
use Rattle.sasi_cache.proofs.pages.recall.Goals as goal

pub returns-clause-some : goal.returns-clause-some
returns-clause-some c = record {
  bytes = c.in_ok-page.page.now;
  was = sym c.in_ok-page.ensures;
  count = c.copy_to-count.ensures.count;
  front = c.copy_to-count.ensures.front;
  rest = c.copy_to-count.ensures.rest;
  used = c.promote.ensures.entries;
}
