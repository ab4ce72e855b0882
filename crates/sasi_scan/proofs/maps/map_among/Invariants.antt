use Rattle.std.proofs.Common.{◌≡◌, drop, slice_get}
use Rattle.sasi_scan.specs.Numbered.{views_numbered}
use Rattle.sasi_scan.proofs.maps.map_among.Given as goal

-- so many maps of the numbers that are left stand before it
abbrev pub invariant-loop-number : goal.invariant-loop-number
invariant-loop-number l = slice_get (views_numbered l.book (drop l.number-index l.numbers)) l.before ≡ slice_get (views_numbered l.book l.numbers) l.position
