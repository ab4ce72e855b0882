use Rattle.std.proofs.Common.{None, Some}
use Rattle.sasi_scan.proofs.NumberedMaps.{number_at}
use Rattle.sasi_scan.proofs.maps.map_at.Goals as goal

pub returns-in-Some-get : goal.returns-in-Some-get
returns-in-Some-get c =
    let found = c.in-Some.ensures.lookup in
    number_at c.args.book.now c.args.numbers.now c.args.position c.in-Some.number.now (Some c.in-Some-get.part.now) c.requires found.3.0 found.1 c.in-Some-get.ensures

pub returns-in-None : goal.returns-in-None
returns-in-None c =
    let found = c.in-Some.ensures.lookup in
    number_at c.args.book.now c.args.numbers.now c.args.position c.in-Some.number.now None c.requires found.3.0 found.1 c.in-None.ensures
