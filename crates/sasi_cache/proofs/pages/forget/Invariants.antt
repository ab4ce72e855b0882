use Rattle.std.proofs.Common.{◌≡◌}
use Rattle.sasi_cache.proofs.Forgotten.{Forgets}
use Rattle.sasi_cache.proofs.pages.forget.Given as goal

abbrev pub invariant-loop-turn : goal.invariant-loop-turn
invariant-loop-turn l = record {
  room : l.pages.cap ≡ l.fn.pages.cap;
  so : Forgets l.file l.fn.pages.entries l.pages.entries l._turn;
}
