use Rattle.std.proofs.Common.{◌≡◌, ◌+◌, ◌*◌, ◌^◌, ◌<◌, ◌≤◌, length}
use Rattle.sasi_tokentree.specs.Format.{first_nodes, first_above}
use Rattle.sasi_tokentree.specs.Writes.{Writes}
use Rattle.sasi_tokentree.proofs.Fitting.{FirstFit}
use Rattle.sasi_tokentree.proofs.writing.write_level.Given as goal

abbrev pub invariant-loop-index : goal.invariant-loop-index
invariant-loop-index g l =
    let view = g.H.Host.view in
    record {
      written : Writes (view l.fn.host) (view l.host) l.file l.at (first_nodes l.level l.entries l.index);
      entries_above : l.above.items ≡ first_above l.at l.entries l.index;
      fit : FirstFit l.entries (255 * l.index);
      fits : 0 < l.index → l.at + length (first_nodes l.level l.entries l.index) ≤ 2 ^ 62;
    }
