use Rattle.sasi_types.specs.declared.partitioner.Partitioner.TheVariants.{Lead8}
use Rattle.sasi_terms_tests.proofs.IndexedMapLaws.{first_added}
use Rattle.sasi_terms_tests.proofs.mem_indexes.book_of.Goals as goal

pub add_index-requires-clause-indexes : goal.add_index-requires-clause-indexes
add_index-requires-clause-indexes g c = first_added c.def_of.result.kind c.new-book.result c.add.new.self c.new.result Lead8 c.new.ensures (rw c.expect.ensures at c.add.ensures.ok)
