use Rattle.std.proofs.Common.{inl, refl, subst, Option}
use Rattle.std.proofs.lemmas.Result.{err_from_is_err_and}
use Rattle.sasi_host.proofs.ChangeLaws.{stays}
use Rattle.sasi_treemerge.specs.declared.tree_source.TreeSource.{TreeSource}
use Rattle.sasi_treemerge.specs.declared.merge.TreeMerge.{TreeMerge}
use Rattle.sasi_treemerge.specs.Merges.{AdvancesTo, sources_of}
use Rattle.sasi_treemerge.proofs.Disorder.{at_last_of, no_false_pairs, pairs_shown}
use Rattle.sasi_treemerge.proofs.Merging.{can_add, ended_reads, first_readable, head_shown, no_false_head, rest_can, source_readable, step_reads}
use Rattle.sasi_treemerge.proofs.Stepping.{head_fails, head_gives}
use Rattle.sasi_treemerge.proofs.merge.TreeMerge.take_head.Goals as goal

pub returns-in_default-clause-read : goal.returns-in_default-clause-read
returns-in_default-clause-read g c = record { agrees = c.requires.read.agrees; covers = λ name at. inl at; changes = stays (g.H.Host.view c.args.host.now) }

pub returns-in_err-source_of-clause-damaged : goal.returns-in_err-source_of-clause-damaged
returns-in_err-source_of-clause-damaged g c =
    let p = err_from_is_err_and c.from_residual.result c.from_residual.ensures.1 in
    let v = g.H.Host.view c.args.host.now in
    rw (p.1, p.2) (head_shown v c.args.self.now.file c.in-Some.source (sources_of c.args.self.now) _ c.in_err-source_of.field-0.0 c.in-Some.ensures.permutation
    (pairs_shown v c.args.self.now.file c.in-Some.source.tree.value c.in_err-source_of.field-0.0 (first_readable v c.args.self.now c.in-Some.source _ c.requires.merge c.in-Some.ensures.permutation).named c.in_err-source_of.ensures.damaged))

pub returns-in_err-source_of-clause-undamaged : goal.returns-in_err-source_of-clause-undamaged
returns-in_err-source_of-clause-undamaged g c =
    let p = err_from_is_err_and c.from_residual.result c.from_residual.ensures.1 in
    let v = g.H.Host.view c.args.host.now in
    rw (p.1, p.2) (no_false_head v c.args.self.now.file c.in-Some.source (sources_of c.args.self.now) _ c.in_err-source_of.field-0.0 c.in-Some.ensures.permutation
    (no_false_pairs v c.args.self.now.file c.in-Some.source c.in_err-source_of.field-0.0 (first_readable v c.args.self.now c.in-Some.source _ c.requires.merge c.in-Some.ensures.permutation).named c.in_err-source_of.ensures.undamaged))

pub returns-in-None-clause-merge : goal.returns-in-None-clause-merge
returns-in-None-clause-merge g c =
    rest_can (g.H.Host.view c.args.host.now) (g.H.Host.view c.source_of.new.host) c.args.self.now _ c.in-Some.source c.requires.merge c.source_of.ensures.read.changes c.in-Some.ensures.permutation (c.in-Some.ensures.heap_order c.requires.merge.heap).0 refl refl

pub returns-in-None-clause-reads : goal.returns-in-None-clause-reads
returns-in-None-clause-reads g c =
    ended_reads (g.H.Host.view c.args.host.now).reads (g.H.Host.view c.source_of.new.host).reads c.in-Some.source (sources_of c.args.self.now) _ c.in-Some.ensures.permutation c.source_of.ensures.causes.reads c.source_of.ensures.ended

pub returns-in_ok-put-in-Some-2-clause-merge : goal.returns-in_ok-put-in-Some-2-clause-merge
returns-in_ok-put-in-Some-2-clause-merge g c =
    let v = g.H.Host.view c.args.host.now in
    let w = g.H.Host.view c.source_of.new.host in
    let popped : TreeMerge = record { alloc = c.args.self.now.alloc; file = c.args.self.now.file; sources = c.pop.new.self; pairs = c.args.self.now.pairs; last = c.args.self.now.last; floor = c.args.self.now.floor } in
    let first = first_readable v c.args.self.now c.in-Some.source _ c.requires.merge c.in-Some.ensures.permutation in
    let rest = rest_can v w c.args.self.now popped c.in-Some.source c.requires.merge c.source_of.ensures.read.changes c.in-Some.ensures.permutation (c.in-Some.ensures.heap_order c.requires.merge.heap).0 refl refl in
    can_add w w popped _ c.in-Some-2.next rest (stays w) c.in_ok-put-in-Some-2.ensures.heap c.in_ok-put-in-Some-2.ensures.put refl refl
    (source_readable v w c.args.self.now.file c.in-Some.source.tree.value c.in_ok-source_of.field-0 c.in-Some-2.next c.source_of.ensures.read.changes c.in-Some-2.is first.named c.in_ok-source_of.ensures.named c.in_ok-source_of.ensures.buffered c.in_ok-source_of.ensures.at_head)

pub returns-in_ok-put-in-Some-2-clause-reads : goal.returns-in_ok-put-in-Some-2-clause-reads
returns-in_ok-put-in-Some-2-clause-reads g c =
    let v = g.H.Host.view c.args.host.now in
    step_reads v.reads (g.H.Host.view c.source_of.new.host).reads v c.in-Some.source c.in-Some-2.next (sources_of c.args.self.now) _ _ c.in-Some.ensures.permutation c.in_ok-put-in-Some-2.ensures.put
    (subst (λ (o : Option TreeSource). AdvancesTo v c.in-Some.source.tree.value o) c.in-Some-2.is c.in_ok-source_of.ensures.ok) c.source_of.ensures.causes.reads

pub returns-in_err-source_of-clause-causes : goal.returns-in_err-source_of-clause-causes
returns-in_err-source_of-clause-causes g c =
    let p = err_from_is_err_and c.from_residual.result c.from_residual.ensures.1 in
    rw (p.1, p.2) (head_fails (g.H.Host.view c.args.host.now) (g.H.Host.view c.source_of.new.host) c.in-Some.source (sources_of c.args.self.now) _ c.in_err-source_of.field-0.0 c.in-Some.ensures.permutation c.in_err-source_of.ensures.causes c.source_of.ensures.ended)

pub returns-in-None-clause-causes : goal.returns-in-None-clause-causes
returns-in-None-clause-causes g c =
    head_gives (g.H.Host.view c.args.host.now) (g.H.Host.view c.source_of.new.host) c.in-Some.source (sources_of c.args.self.now) _ c.in_ok-source_of.field-0 _ c.in-Some.ensures.permutation c.in_ok-source_of.ensures.causes c.source_of.ensures.ended

pub returns-in_ok-put-in-Some-2-clause-causes : goal.returns-in_ok-put-in-Some-2-clause-causes
returns-in_ok-put-in-Some-2-clause-causes g c =
    head_gives (g.H.Host.view c.args.host.now) (g.H.Host.view c.source_of.new.host) c.in-Some.source (sources_of c.args.self.now) _ c.in_ok-source_of.field-0 _ c.in-Some.ensures.permutation c.in_ok-source_of.ensures.causes c.source_of.ensures.ended

pub source_of-requires-clause-last : goal.source_of-requires-clause-last
source_of-requires-clause-last g c =
    let v = g.H.Host.view c.args.host.now in
    let first = first_readable v c.args.self.now c.in-Some.source _ c.requires.merge c.in-Some.ensures.permutation in
    at_last_of v c.args.self.now.file c.in-Some.source first.named first.at_head
