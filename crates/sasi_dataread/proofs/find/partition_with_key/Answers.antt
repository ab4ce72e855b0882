use Rattle.std.proofs.Common.{sym, subst}
use Rattle.std.specs.Cmp.Lexicographic.{same_text}
use Rattle.std.proofs.lemmas.Bool.{not-true, not-false}
use Rattle.sasi_host.specs.Names.{Bytes}
use Rattle.sasi_dataread.specs.Reads.{IsStoredAt}
use Rattle.sasi_dataread.proofs.Finding.{read_other, read_same}
use Rattle.sasi_dataread.proofs.find.partition_with_key.Goals as goal

pub returns-then-ne-clause-ok : goal.returns-then-ne-clause-ok
returns-then-ne-clause-ok g c partitioner content k p is at =
    let read = c.in_ok-other.ensures.ok partitioner content k p is at in
    read_other c.args.key.now c.in_ok-other.other k p (not-true _ (sym c.if-ne.ensures)) read.0

pub returns-clause-ok : goal.returns-clause-ok
returns-clause-ok g c partitioner content k p is at =
    let read = c.in_ok-other.ensures.ok partitioner content k p is at in
    read_same c.args.key.now c.in_ok-other.other k c.in_ok-other.part p (not-false _ (sym c.if-ne.ensures)) read.0 read.1

pub returns-then-ne-clause-stands : goal.returns-then-ne-clause-stands
returns-then-ne-clause-stands g c = (c.in_ok-other.other, c.in_ok-other.part, not-true _ (sym c.if-ne.ensures), c.in_ok-other.ensures.stands)

pub returns-clause-stands : goal.returns-clause-stands
returns-clause-stands g c =
    subst (λ (k : Bytes). IsStoredAt (g.H.Host.view c.args.host.now) c.args.opened.now c.args.place k c.in_ok-other.part)
    (sym (same_text c.args.key.now c.in_ok-other.other (sym (not-false _ (sym c.if-ne.ensures))))) c.in_ok-other.ensures.stands
