use Rattle.std.proofs.Common.{◌≡◌, ◌+◌, ◌≤◌, drop, length}
use Rattle.sasi_scan.specs.Numbered.{views_numbered}
use Rattle.sasi_scan.proofs.maps.count.Given as goal

-- the maps so far, and those that are left
abbrev pub invariant-loop-number : goal.invariant-loop-number
invariant-loop-number l = record {
  all : l.total + length (views_numbered l.book (drop l.number-index l.numbers)) ≡ length (views_numbered l.book l.numbers);
  most : l.total ≤ l.number-index;
}
