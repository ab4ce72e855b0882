use Rattle.std.proofs.Common.{ap, arith, inl, refl, subst, Option, Some, sym}
use Rattle.sasi_host.proofs.ChangeLaws.{stays}
use Rattle.sasi_tokentree.specs.Scans.{IsAtLast, PairScan}
use Rattle.sasi_treemerge.specs.declared.tree_source.TreeSource.{TreeSource}
use Rattle.sasi_treemerge.specs.Merges.{AdvancesTo}
use Rattle.sasi_treemerge.proofs.Merging.{can_add, merge_still, source_readable, tree_pairs}
use Rattle.sasi_treemerge.proofs.merge.TreeMerge.add_source.Goals as goal

pub returns-in_err-tree-clause-read : goal.returns-in_err-tree-clause-read
returns-in_err-tree-clause-read g c = record { agrees = c.requires.read.agrees; covers = λ name at. inl at; changes = stays (g.H.Host.view c.args.host.now) }

pub returns-in_ok-put-in-Some-clause-merge : goal.returns-in_ok-put-in-Some-clause-merge
returns-in_ok-put-in-Some-clause-merge g c =
    let v = g.H.Host.view c.args.host.now in
    let w = g.H.Host.view c.source_of.new.host in
    can_add v w c.args.self.now _ c.in-Some.source c.requires.merge c.source_of.ensures.read.changes c.in_ok-put-in-Some.ensures.heap c.in_ok-put-in-Some.ensures.put refl refl
    (source_readable v w c.args.self.now.file c.in_ok-tree.tree.value c.in_ok-source_of.field-0 c.in-Some.source c.source_of.ensures.read.changes c.in-Some.is (ap (λ (s : PairScan). s.buffered.file) c.in_ok-tree.ensures)
    c.in_ok-source_of.ensures.named c.in_ok-source_of.ensures.buffered c.in_ok-source_of.ensures.at_head)

pub returns-in_ok-put-in-Some-clause-reads : goal.returns-in_ok-put-in-Some-clause-reads
returns-in_ok-put-in-Some-clause-reads g c =
    let v = g.H.Host.view c.args.host.now in
    omega (
      arith,
      tree_pairs v.reads (g.H.Host.view c.source_of.new.host).reads v c.in_ok-tree.tree.value c.args.list c.in-Some.source _ _ c.in_ok-tree.ensures (subst (λ (o : Option TreeSource). AdvancesTo v c.in_ok-tree.tree.value o) c.in-Some.is c.in_ok-source_of.ensures.ok) c.in_ok-put-in-Some.ensures.put
          c.source_of.ensures.causes.reads,
    )

pub returns-in-None-clause-merge : goal.returns-in-None-clause-merge
returns-in-None-clause-merge g c = merge_still (g.H.Host.view c.args.host.now) (g.H.Host.view c.source_of.new.host) c.args.self.now c.source_of.ensures.read.changes c.requires.merge

pub returns-in_ok-put-in-Some-clause-ok : goal.returns-in_ok-put-in-Some-clause-ok
returns-in_ok-put-in-Some-clause-ok g c =
    let v = g.H.Host.view c.args.host.now in
    record {
      next = Some c.in-Some.source;
      advances = subst (λ (s : PairScan). AdvancesTo v s (Some c.in-Some.source)) c.in_ok-tree.ensures (subst (λ (o : Option TreeSource). AdvancesTo v c.in_ok-tree.tree.value o) c.in-Some.is c.in_ok-source_of.ensures.ok);
      put = c.in_ok-put-in-Some.ensures.put;
    }

pub source_of-requires-clause-last : goal.source_of-requires-clause-last
source_of-requires-clause-last g c = subst (λ (s : PairScan). IsAtLast s (g.H.Host.view c.args.host.now).files) (sym c.in_ok-tree.ensures) (λ bytes told. tt)
