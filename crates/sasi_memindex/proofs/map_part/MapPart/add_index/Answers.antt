use Rattle.std.proofs.Common.{ap}
use Rattle.sasi_memindex.proofs.ChangedIndexes.{handed_on}
use Rattle.sasi_memindex.proofs.Parts.{part_of}
use Rattle.sasi_memindex.proofs.map_part.MapPart.add_index.Goals as goal

pub returns-in_err-index-clause-missing : goal.returns-in_err-index-clause-missing
returns-in_err-index-clause-missing g c = λ class e.
    c.index_of.ensures.missing class (handed_on c.index_of.result c.from_residual.result c.in_err-index.field-0.0 class c.in_err-index.was c.from_residual.ensures.1 e)

pub returns-clause-ok : goal.returns-clause-ok
returns-clause-ok g c = record {
  added = c.in_ok-index.index;
  of = c.in_ok-index.ensures.subject;
  kept = c.in_ok-index.ensures.ok;
  is = ap (part_of c.args.self.now.map) c.in_ok-push.ensures.ok;
}
