use Rattle.std.proofs.Common.{subst}
use Rattle.std.specs.FinMap as fin
use Rattle.sasi_memindex.specs.Book.{IsAdded}
use Rattle.sasi_terms_tests.proofs.IndexedMapLaws.{added}
use Rattle.sasi_terms_tests.proofs.mem_indexes.add_index.Goals as goal

pub returns : goal.returns
returns g c =
    let def = c.args.def.now in
    let old = fin.get c.args.book.now 1 in
    let new = fin.get c.index.new.self 1 in
    added def.kind def.number def.rule old new c.requires.indexes
    (subst (λ column. IsAdded def.number column def.kind def.rule old new) c.requires.column (rw c.expect.ensures at c.index.ensures.ok))
