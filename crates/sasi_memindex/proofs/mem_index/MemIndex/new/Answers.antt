use Rattle.sasi_memindex.proofs.PostingLaws.{empty_is_of}
use Rattle.sasi_memindex.proofs.mem_index.MemIndex.new.Goals as goal

pub invariant_of-result : goal.invariant_of-result
invariant_of-result c = empty_is_of c.args.def.now.kind c.new.result c.new.ensures.empty
