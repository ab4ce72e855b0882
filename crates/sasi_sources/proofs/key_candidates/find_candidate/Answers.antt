use Rattle.std.proofs.Common.{Option, IfSome, subst}
use Rattle.sasi_model.specs.Cells.{Partition}
use Rattle.sasi_scan.specs.Parts.{IsMergeOfParts}
use Rattle.sasi_sources.proofs.Printables.{parts_printable}
use Rattle.sasi_sources.proofs.key_candidates.find_candidate.Goals as goal

pub returns-in-Some-clause-prints : goal.returns-in-Some-clause-prints
returns-in-Some-clause-prints g c kind has =
    parts_printable c.args.types.now c.args.maps.now kind has.first has.stored c.args.key.key c.in-Some.part
    (subst (λ (found : Option Partition). IfSome found (IsMergeOfParts c.args.types.now c.args.maps.now c.args.key.key)) c.in-Some.is c.in_ok-find_key.ensures.of_parts)
