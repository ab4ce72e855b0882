use Rattle.sasi_tables.proofs.EachMap.{found_number}
use Rattle.sasi_tables.proofs.table_maps.is_among.Goals as goal

pub returns : goal.returns
returns c = found_number c.args.numbers.now c.args.number c.binary_search.result c.requires c.binary_search.ensures.position c.is_ok.result c.is_ok.ensures.value
