use Rattle.std.proofs.Common.{◌≡◌, None, Ok, subst, sym}
use Rattle.sasi_tokentree.specs.Scans.{IsAtLast, PairScan}
use Rattle.std.proofs.lemmas.Result.{err_from_is_err_and}
use Rattle.std.specs.Box.{with_value}
use Rattle.sasi_host.proofs.CauseLaws.{fault_reads, ok_reads, reads_within}
use Rattle.sasi_tokentree.proofs.Rising.{pairs_shown_more}
use Rattle.sasi_tokentree.proofs.EntryPages.{entry_pages}
use Rattle.sasi_treemerge.proofs.Disorder.{at_head_of}
use Rattle.sasi_treemerge.proofs.Merging.{advances_to_none, advances_to_some}
use Rattle.sasi_treemerge.proofs.tree_source.source_of.Goals as goal

pub next-requires-clause-last : goal.next-requires-clause-last
next-requires-clause-last g c = subst (λ (s : PairScan). IsAtLast s (g.H.Host.view c.args.host.now).files) (sym c.deref_mut.ensures.value) c.requires.last

pub returns-in_err-next-clause-damaged : goal.returns-in_err-next-clause-damaged
returns-in_err-next-clause-damaged g c =
    let p = err_from_is_err_and c.from_residual.result c.from_residual.ensures.1 in
    let tree = c.args.tree.value in
    rw (p.1, p.2) (pairs_shown_more (λ index. index ≡ tree.passed) (g.H.Host.view c.args.host.now) tree.buffered.file tree.tree c.in_err-next.field-0.0
    (rw c.deref_mut.ensures.value at c.in_err-next.ensures.damaged))

pub returns-in-None-clause-ok : goal.returns-in-None-clause-ok
returns-in-None-clause-ok g c = advances_to_none (g.H.Host.view c.args.host.now) c.args.tree.value c.next.new.self c.in_ok-next.field-0 c.in-None.is (rw c.deref_mut.ensures.value at c.in_ok-next.ensures.ok)
    (rw c.deref_mut.ensures.value at c.in_ok-next.ensures.ends)

pub returns-in-Some-clause-ok : goal.returns-in-Some-clause-ok
returns-in-Some-clause-ok g c =
    advances_to_some (g.H.Host.view c.args.host.now) c.args.tree.value (record { head = c.in-Some.head; tree = with_value c.args.tree c.next.new.self }) c.in_ok-next.field-0 c.in-Some.is
    (rw c.deref_mut.ensures.value at c.in_ok-next.ensures.ok) (rw c.deref_mut.ensures.value at c.next.ensures.tree) (rw c.deref_mut.ensures.value at c.in_ok-next.ensures.ends) c.in_ok-next.ensures.passed

pub returns-in-Some-clause-at_head : goal.returns-in-Some-clause-at_head
returns-in-Some-clause-at_head g c =
    at_head_of (g.H.Host.view c.args.host.now) c.args.tree.value.buffered.file c.args.tree.value.tree (record { head = c.in-Some.head; tree = with_value c.args.tree c.next.new.self }) c.in_ok-next.field-0 c.in-Some.is
    (rw c.deref_mut.ensures.value at c.in_ok-next.ensures.stands) (rw c.deref_mut.ensures.value at c.next.ensures.tree) c.in_ok-next.ensures.passed
    c.deref_mut.result.now.last c.in_ok-next.ensures.last

pub returns-in_err-next-clause-causes : goal.returns-in_err-next-clause-causes
returns-in_err-next-clause-causes g c =
    let p = err_from_is_err_and c.from_residual.result c.from_residual.ensures.1 in
    let tree = c.deref_mut.result.now in
    rw (p.1, p.2) (fault_reads _ _ _ 2 c.in_err-next.field-0.0 (entry_pages tree.buffered.page tree.tree tree.passed) c.in_err-next.ensures.causes)

pub returns-in-None-clause-causes : goal.returns-in-None-clause-causes
returns-in-None-clause-causes g c =
    let tree = c.deref_mut.result.now in
    reads_within _ _ _ 2 (Ok None) (entry_pages tree.buffered.page tree.tree tree.passed) (ok_reads _ _ _ _ None c.in_ok-next.ensures.causes)

pub returns-in-Some-clause-causes : goal.returns-in-Some-clause-causes
returns-in-Some-clause-causes g c =
    let tree = c.deref_mut.result.now in
    reads_within _ _ _ 2 (Ok _) (entry_pages tree.buffered.page tree.tree tree.passed) (ok_reads _ _ _ _ _ c.in_ok-next.ensures.causes)
