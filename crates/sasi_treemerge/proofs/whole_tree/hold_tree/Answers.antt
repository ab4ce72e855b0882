use Rattle.std.proofs.Common.{◌≡◌, ap, inl, refl, subst, sym, Option, None, Some, []}
use Rattle.std.proofs.lemmas.Result.{err_from_is_err_and}
use Rattle.std.specs.BinaryHeap.{heap_items}
use Rattle.std.specs.Prelude.{IfSome}
use Rattle.sasi_host.specs.Damages.{DamageShown}
use Rattle.sasi_host.specs.PageReading.{HasRead}
use Rattle.sasi_host.specs.declared.name.FileName.{FileName}
use Rattle.sasi_host.proofs.ChangeLaws.{stays}
use Rattle.sasi_tokentree.specs.Damages.{ShowsPairs}
use Rattle.sasi_tokentree.specs.Scans.{IsAtLast, PairScan}
use Rattle.sasi_treemerge.specs.declared.tree_source.TreeSource.{TreeSource}
use Rattle.sasi_treemerge.specs.Merges.{AdvancesTo, IsAtHead}
use Rattle.sasi_treemerge.proofs.Disorder.{at_last_of, no_false_pairs, pairs_shown}
use Rattle.sasi_treemerge.proofs.Holding.{advances_before, at_head_before, begins, first_pays, next_pays, no_false_reading, read_all, reading_shown, reads_none, reads_on}
use Rattle.sasi_treemerge.proofs.Merging.{source_readable}
use Rattle.sasi_treemerge.proofs.Stepping.{read_next, there_same}
use Rattle.sasi_treemerge.proofs.whole_tree.hold_tree.Goals as goal

pub returns-in_err-tree-clause-read : goal.returns-in_err-tree-clause-read
returns-in_err-tree-clause-read g c = record { agrees = c.requires.read.agrees; covers = λ name at. inl at; changes = stays (g.H.Host.view c.args.host.now) }

pub returns-in_err-source-clause-damaged : goal.returns-in_err-source-clause-damaged
returns-in_err-source-clause-damaged g c =
    let p = err_from_is_err_and c.from_residual-in_err-source.result c.from_residual-in_err-source.ensures.1 in
    let v = g.H.Host.view c.args.host.now in
    rw (p.1, p.2) (pairs_shown v c.args.file (record { buffered = record { file = c.args.file; page = None; bytes = [] }; tree = c.args.list; passed = 0; last = None }) c.in_err-source.field-0.0 refl
    (subst (λ (s : PairScan). DamageShown v s.buffered.file (ShowsPairs s.buffered.file s.tree) c.in_err-source.field-0.0) c.in_ok-tree.ensures c.in_err-source.ensures.damaged))

pub returns-in_default-clause-ok : goal.returns-in_default-clause-ok
returns-in_default-clause-ok g c =
    let v = g.H.Host.view c.args.host.now in
    reads_none v c.args.file c.args.list c.in_ok-tree.tree.value (heap_items c.args.held.now) c.in_ok-tree.ensures (subst (λ (o : Option TreeSource). AdvancesTo v c.in_ok-tree.tree.value o) c.in_default.is c.in_ok-source.ensures.ok)

pub loop-source-init : goal.loop-source-init
loop-source-init g c =
    let v = g.H.Host.view c.args.host.now in
    let w = g.H.Host.view c.source_of.new.host in
    let scan = c.in_ok-tree.tree.value in
    let here : scan.buffered.file ≡ c.args.file = ap (λ (s : PairScan). s.buffered.file) c.in_ok-tree.ensures in
    let advances : AdvancesTo v scan (Some c.in-Some.source) = subst (λ (o : Option TreeSource). AdvancesTo v scan o) c.in-Some.is c.in_ok-source.ensures.ok in
    let at : IsAtHead v scan.buffered.file c.in-Some.source = subst (λ (o : Option TreeSource). IfSome o (IsAtHead v scan.buffered.file)) c.in-Some.is c.in_ok-source.ensures.at_head in
    let readable = source_readable v w c.args.file scan c.in_ok-source.field-0 c.in-Some.source c.source_of.ensures.read.changes c.in-Some.is here c.in_ok-source.ensures.named c.in_ok-source.ensures.buffered c.in_ok-source.ensures.at_head in
    record {
      there = there_same v w c.args.file c.source_of.ensures.read.changes c.requires.read.there;
      read = subst (λ (n : FileName). HasRead (g.P.PageReader.agrees c.source_of.new.pages) (g.P.PageReader.covers c.args.pages.now) (g.P.PageReader.covers c.source_of.new.pages) v w n) here c.source_of.ensures.read;
      named = readable.named;
      buffered = readable.buffered;
      at_head = readable.at_head;
      reading = begins v c.args.file c.args.list scan c.in-Some.source (heap_items c.args.held.now) c.in_ok-tree.ensures advances (subst (λ (n : FileName). IsAtHead v n c.in-Some.source) here at);
      heap = λ was. was;
      pays = first_pays v w scan c.args.list c.in-Some.source _ c.in_ok-tree.ensures advances c.in_ok-source.ensures.causes;
    }

pub returns-in_err-next-clause-damaged : goal.returns-in_err-next-clause-damaged
returns-in_err-next-clause-damaged g c =
    let p = err_from_is_err_and c.from_residual-in_err-next.result c.from_residual-in_err-next.ensures.1 in
    let here = c.loop-source.invariant in
    rw (p.1, p.2) (reading_shown (g.H.Host.view c.args.host.now) (g.H.Host.view c.loop-source.host) c.args.file c.args.list c.loop-source.source (heap_items c.args.held.now) (heap_items c.loop-source.held) c.in_err-next.field-0.0 here.reading here.read.changes
    (pairs_shown (g.H.Host.view c.loop-source.host) c.args.file c.loop-source.source.tree.value c.in_err-next.field-0.0 here.named c.in_err-next.ensures.damaged))

pub returns-in_err-next-clause-undamaged : goal.returns-in_err-next-clause-undamaged
returns-in_err-next-clause-undamaged g c =
    let p = err_from_is_err_and c.from_residual-in_err-next.result c.from_residual-in_err-next.ensures.1 in
    let here = c.loop-source.invariant in
    rw (p.1, p.2) (no_false_reading (g.H.Host.view c.args.host.now) (g.H.Host.view c.loop-source.host) c.args.file c.args.list c.loop-source.source (heap_items c.args.held.now) (heap_items c.loop-source.held) c.in_err-next.field-0.0 here.reading
    here.read.changes (no_false_pairs (g.H.Host.view c.loop-source.host) c.args.file c.loop-source.source c.in_err-next.field-0.0 here.named c.in_err-next.ensures.undamaged))

pub returns-in_err-next-clause-read : goal.returns-in_err-next-clause-read
returns-in_err-next-clause-read g c = let here = c.loop-source.invariant in read_next _ _ _ _ _ _ _ _ c.args.file c.loop-source.source.tree.value.buffered.file here.named here.read c.source_of-in-loop-source.ensures.read

pub returns-in_default-2-clause-ok : goal.returns-in_default-2-clause-ok
returns-in_default-2-clause-ok g c =
    let v = g.H.Host.view c.args.host.now in
    let u = g.H.Host.view c.loop-source.host in
    let here = c.loop-source.invariant in
    let source = c.loop-source.source in
    read_all v c.args.file c.args.list source (heap_items c.args.held.now) (heap_items c.loop-source.held) (heap_items c.hold.new.pairs) here.reading c.in_ok-hold.ensures.put here.named here.at_head.passed.within
    (advances_before v u source.tree.value None here.read.changes (subst (λ (o : Option TreeSource). AdvancesTo u source.tree.value o) c.in_default-2.is c.in_ok-next.ensures.ok))

pub returns-in_default-2-clause-read : goal.returns-in_default-2-clause-read
returns-in_default-2-clause-read g c = let here = c.loop-source.invariant in read_next _ _ _ _ _ _ _ _ c.args.file c.loop-source.source.tree.value.buffered.file here.named here.read c.source_of-in-loop-source.ensures.read

pub loop-source-preserved : goal.loop-source-preserved
loop-source-preserved g c =
    let v = g.H.Host.view c.args.host.now in
    let u = g.H.Host.view c.loop-source.host in
    let w = g.H.Host.view c.source_of-in-loop-source.new.host in
    let here = c.loop-source.invariant in
    let source = c.loop-source.source in
    let next = c.in-Some-2.next in
    let advances : AdvancesTo u source.tree.value (Some next) = subst (λ (o : Option TreeSource). AdvancesTo u source.tree.value o) c.in-Some-2.is c.in_ok-next.ensures.ok in
    let at : IsAtHead u source.tree.value.buffered.file next = subst (λ (o : Option TreeSource). IfSome o (IsAtHead u source.tree.value.buffered.file)) c.in-Some-2.is c.in_ok-next.ensures.at_head in
    let readable = source_readable u w c.args.file source.tree.value c.in_ok-next.field-0 next c.source_of-in-loop-source.ensures.read.changes c.in-Some-2.is here.named c.in_ok-next.ensures.named c.in_ok-next.ensures.buffered c.in_ok-next.ensures.at_head in
    record {
      there = there_same u w c.args.file c.source_of-in-loop-source.ensures.read.changes here.there;
      read = read_next _ _ _ _ _ _ _ _ c.args.file source.tree.value.buffered.file here.named here.read c.source_of-in-loop-source.ensures.read;
      named = readable.named;
      buffered = readable.buffered;
      at_head = readable.at_head;
      reading = reads_on v c.args.file c.args.list source (heap_items c.args.held.now) (heap_items c.loop-source.held) (heap_items c.hold.new.pairs) here.reading c.in_ok-hold.ensures.put next here.named
          (advances_before v u source.tree.value (Some next) here.read.changes advances) (at_head_before v u c.args.file next here.read.changes (subst (λ (n : FileName). IsAtHead u n next) here.named at));
      heap = λ was. c.in_ok-hold.ensures.heap (here.heap was);
      pays = next_pays v u w c.args.list.pairs source next _ here.pays advances c.in_ok-next.ensures.causes;
    }

pub source_of-requires-in-loop-source-clause-last : goal.source_of-requires-in-loop-source-clause-last
source_of-requires-in-loop-source-clause-last g c = let here = c.loop-source.invariant in at_last_of (g.H.Host.view c.loop-source.host) c.args.file c.loop-source.source here.named here.at_head

pub source_of-requires-clause-last : goal.source_of-requires-clause-last
source_of-requires-clause-last g c = subst (λ (s : PairScan). IsAtLast s (g.H.Host.view c.args.host.now).files) (sym c.in_ok-tree.ensures) (λ bytes told. tt)
