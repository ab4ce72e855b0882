use Rattle.std.proofs.Common.{List, ◌++◌, take}
use Rattle.std.specs.Prelude.{map}
use Rattle.sasi_types.specs.declared.class.Class.{Class}
use Rattle.sasi_datawrite.specs.Calls.{Call, cell_call}
use Rattle.sasi_datawrite.proofs.notify.notify_cells.Given as goal

abbrev pub invariant-loop-entry : goal.invariant-loop-entry
invariant-loop-entry g l = record {
  agrees : (calls : List Call) → g.O.FlushObserver.agrees l.fn.watch calls → g.O.FlushObserver.agrees l.watch (calls ++ map cell_call (take l.entry-index l.cells));
  lacks : (class : Class) → g.O.FlushObserver.lacks l.watch class → g.O.FlushObserver.lacks l.fn.watch class;
}
