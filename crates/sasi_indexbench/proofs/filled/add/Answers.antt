use Rattle.std.proofs.Common.{List, sym, subst}
use Rattle.sasi_segments.specs.declared.posting.Posting.{Posting}
use Rattle.sasi_types.specs.declared.list_kind.ListKind.TheVariants.{Stored}
use Rattle.sasi_indexwrite.specs.TermsSoFar.{AreUpTo}
use Rattle.sasi_indexwrite.proofs.Fillings.{added_up_to}
use Rattle.sasi_indexbench.proofs.filled.add.Goals as goal

pub returns : goal.returns
returns c =
    let next : Posting = record { list = Stored; term = c.new-term.result; pair = c.args.pair } in
    subst (λ (l : List Posting). AreUpTo l next) (sym c.in_ok-put.ensures) (added_up_to c.args.last.now next c.in_ok-check.ensures.above c.args.gather.now.postings c.requires c.in_ok-check.ensures.one)
