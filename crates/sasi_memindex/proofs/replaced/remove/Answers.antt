use Rattle.sasi_memindex.proofs.PostingLaws.{remove_is}
use Rattle.sasi_memindex.proofs.replaced.remove.Goals as goal

pub returns : goal.returns
returns c = remove_is c.args.postings.now c.remove.new.self c.args.posting.now c.remove.ensures.updates.0
