use Rattle.std.proofs.Common.{◌≡◌, drop}
use Rattle.sasi_host.specs.Picks.{picked}
use Rattle.sasi_host.proofs.crash.crash_image.Given as goal

abbrev pub invariant-loop-i : goal.invariant-loop-i
invariant-loop-i l = picked l.pick (drop l.i l.calls) l.left ≡ picked l.pick l.calls l.fn.start
