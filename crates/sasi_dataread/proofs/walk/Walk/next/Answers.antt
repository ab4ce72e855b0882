use Rattle.std.proofs.Common.{◌∙◌, subst, sym}
use Rattle.sasi_types.specs.declared.tree.TreeRef.{TreeRef}
use Rattle.sasi_tokentree.specs.Scans.{IsAtLast, IsLastEntry}
use Rattle.sasi_dataread.specs.KeyOrder.{IsLastKey}
use Rattle.sasi_dataread.specs.ReadCosts.{ScansPagesOnce, scan_of}
use Rattle.sasi_dataread.specs.Scans.{DataScan, pairs_of}
use Rattle.sasi_dataread.proofs.KeyOrder.{scans_with}
use Rattle.sasi_dataread.proofs.walk.Walk.next.Goals as goal

pub next_behind-requires-clause-at_last : goal.next_behind-requires-clause-at_last
next_behind-requires-clause-at_last g c =
    let files = (g.H.Host.view c.args.host.now).files in
    let tree = c.self.inside.tree in
    subst (λ (t : TreeRef). IsLastEntry files tree.buffered.file t tree.passed tree.last) (sym c.self.invariant.1)
    (subst (λ (w : DataScan). IsAtLast (pairs_of w) files) (sym c.self.view_is) c.requires.at_last)

pub next_behind-requires-clause-last : goal.next_behind-requires-clause-last
next_behind-requires-clause-last g c = subst (λ (w : DataScan). IsLastKey (g.H.Host.view c.args.host.now).files w.opened w.tokens w.passed w.last) (sym c.self.view_is) c.requires.last

pub returns-clause-at_last : goal.returns-clause-at_last
returns-clause-at_last g c =
    let tree = c.next_behind.new.tree in
    subst (λ (t : TreeRef). IsLastEntry (g.H.Host.view c.next_behind.new.host).files tree.buffered.file t tree.passed tree.last) (c.next_behind.ensures.tree ∙ c.self.invariant.1)
    c.next_behind.ensures.at_last

pub returns-clause-reads : goal.returns-clause-reads
returns-clause-reads g c =
    let v = g.H.Host.view c.args.host.now in
    let w = g.H.Host.view c.next_behind.new.host in
    let inside = c.self.inside in
    let after = scan_of inside.opened c.next_behind.new.tree c.next_behind.new.buffered in
    subst (λ (s : DataScan). ScansPagesOnce v w s (record { opened = after.opened; tokens = inside.tokens; passed = after.passed; pairs_buffered = after.pairs_buffered; buffered = after.buffered; last_pair = after.last_pair; last = c.next_behind.new.last }) c.next_behind.result)
    c.self.view_is (scans_with v w (scan_of inside.opened inside.tree inside.buffered) after inside.tokens inside.last c.next_behind.new.last c.next_behind.result c.next_behind.ensures.reads)
