use Rattle.sasi_memindex.proofs.PostingLaws.{insert_is}
use Rattle.sasi_memindex.proofs.replaced.add.Goals as goal

pub returns-clause-ok : goal.returns-clause-ok
returns-clause-ok c = insert_is c.args.postings.now c.insert.new.self c.args.posting c.in_ok-insert.ensures.updates.0
