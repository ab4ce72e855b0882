use Rattle.sasi_terms_tests.proofs.IndexedMapLaws.{nothing_there}
use Rattle.sasi_terms_tests.proofs.mem_indexes.put_replaces_the_terms_of_a_key.Goals as goal

pub replace-requires-clause-current : goal.replace-requires-clause-current
replace-requires-clause-current g c =
    let def = c.def_of.result in
    nothing_there c.new-index.result def.column def.kind def.rule (record { token = 5; key = c.expect-key.result }) c.new-index.ensures
