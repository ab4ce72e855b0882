use Rattle.std.proofs.Common.{◌≡◌, ◌∙◌, ap, refl, subst, arith, Option}
use Rattle.std.proofs.lemmas.Result.{err_from_is_err_and}
use Rattle.sasi_types.specs.declared.tree.Pair.{Pair}
use Rattle.sasi_host.proofs.PageReadingLaws.{reads_nothing, reads_then}
use Rattle.sasi_tokentree.specs.Scans.{IsEntryBuffered, PassesOne, ReadsEntry}
use Rattle.sasi_ranges.proofs.Calling.{fails_nothing, faults_handed, faults_ok, faults_then}
use Rattle.sasi_hits.specs.KeyTrees.{ScanLeaves}
use Rattle.sasi_hits.specs.Pairs.{GivesPair}
use Rattle.sasi_hits.proofs.CallLaws.{can_still_on}
use Rattle.sasi_hits.proofs.KeyLaws.{call_faults, gives_end, gives_one, next_leaves, passed_none, passed_one, pays_err, pays_none, pays_some}
use Rattle.sasi_hits.proofs.PairLaws.{from_no, from_yes}
use Rattle.sasi_hits.proofs.next_key.next_key.Goals as goal

pub keys-init : goal.keys-init
keys-init g c =
    let v = g.H.Host.view c.args.host.now in
    record {
      can = c.requires.read;
      read = reads_nothing _ _ v c.args.tree.now.buffered c.requires.read.agrees c.requires.read.buffered;
      at_last = c.requires.last;
      tree_is = refl;
      gives = λ left is. (left, passed_none c.args.floor left, is);
      pays = λ most is. (most, is, omega arith);
      faults = fails_nothing _ _ v 0;
    }

pub returns-in_err-pair-clause-reads : goal.returns-in_err-pair-clause-reads
returns-in_err-pair-clause-reads g c most is =
    let p = err_from_is_err_and c.from_residual.result c.from_residual.ensures.1 in
    let left = c.keys.invariant.pays most is in
    let one = pays_err c.keys.tree (g.H.Host.view c.keys.host) (g.H.Host.view c.next.new.host) left.0 (λ bytes reads. (g.met.H.Host.sound c.keys.host).fits c.keys.tree.buffered.file bytes reads) c.next.ensures.causes.reads c.next.ensures.ended left.1 in
    rw p.1 (omega (arith, one, left.2))

pub returns-in_err-pair-clause-read : goal.returns-in_err-pair-clause-read
returns-in_err-pair-clause-read g c = reads_then _ _ _ _ _ _ _ _ _ _ _ c.keys.invariant.read c.next.ensures.read

pub returns-in_err-pair-clause-faults : goal.returns-in_err-pair-clause-faults
returns-in_err-pair-clause-faults g c =
    let p = err_from_is_err_and c.from_residual.result c.from_residual.ensures.1 in
    let u = g.H.Host.view c.args.host.now in
    let v = g.H.Host.view c.keys.host in
    let w = g.H.Host.view c.next.new.host in
    let inv = c.keys.invariant in
    let one = call_faults (λ index. index ≡ c.keys.tree.passed) c.args.tree.now c.keys.tree v w _ c.next.result inv.read.file inv.tree_is c.next.ensures.read.changes c.next.ensures.causes c.next.ensures.damaged c.next.ensures.undamaged in
    rw (p.1, p.2) (faults_then _ _ _ _ _ u v w 0 _ (λ left is. (let here = inv.gives left is in (here.0, here.2))) inv.faults
    (faults_handed _ _ _ _ v w c.next.result c.in_err-pair.field-0.0 c.in_err-pair.was (λ left is. (left, is)) one))

pub returns-in_default-clause-gives : goal.returns-in_default-clause-gives
returns-in_default-clause-gives g c left is =
    let v = g.H.Host.view c.keys.host in
    let w = g.H.Host.view c.next.new.host in
    let here = c.keys.invariant.gives left is in
    let next = subst (λ (o : Option Pair). GivesPair (ScanLeaves c.next.new.self w.files) here.0 o) c.in_default.is
    (next_leaves c.keys.tree c.next.new.self v w _ here.0 c.next.ensures.read.file c.next.ensures.tree c.next.ensures.read.changes c.in_ok-pair.ensures.ok here.2) in
    gives_end c.args.floor (ScanLeaves c.next.new.self w.files) left here.0 next.0 next.1 here.1

pub returns-in_default-clause-reads : goal.returns-in_default-clause-reads
returns-in_default-clause-reads g c most is =
    let left = c.keys.invariant.pays most is in
    let one = pays_none c.keys.tree c.next.new.self (g.H.Host.view c.keys.host) (g.H.Host.view c.next.new.host) left.0 c.next.ensures.read.changes
    (subst (λ (o : Option Pair). PassesOne c.keys.tree c.next.new.self o) c.in_default.is c.in_ok-pair.ensures.ends) c.next.ensures.ended left.1 in
    (one.0, one.1, omega (arith, one.2, left.2))

pub returns-in_default-clause-read : goal.returns-in_default-clause-read
returns-in_default-clause-read g c = reads_then _ _ _ _ _ _ _ _ _ _ _ c.keys.invariant.read c.next.ensures.read

pub returns-in_default-clause-faults : goal.returns-in_default-clause-faults
returns-in_default-clause-faults g c =
    let u = g.H.Host.view c.args.host.now in
    let v = g.H.Host.view c.keys.host in
    let w = g.H.Host.view c.next.new.host in
    let inv = c.keys.invariant in
    let one = call_faults (λ index. index ≡ c.keys.tree.passed) c.args.tree.now c.keys.tree v w _ _ inv.read.file inv.tree_is c.next.ensures.read.changes c.in_ok-pair.ensures.causes c.in_ok-pair.ensures.damaged c.in_ok-pair.ensures.undamaged in
    faults_ok _ _ _ _ u w _ _ (faults_then _ _ _ _ _ u v w 0 _ (λ left is. (let here = inv.gives left is in (here.0, here.2))) inv.faults one)

pub returns-then-floor-pair-clause-gives : goal.returns-then-floor-pair-clause-gives
returns-then-floor-pair-clause-gives g c left is =
    let v = g.H.Host.view c.keys.host in
    let w = g.H.Host.view c.next.new.host in
    let pair = c.in-Some.pair in
    let here = c.keys.invariant.gives left is in
    let next = subst (λ (o : Option Pair). GivesPair (ScanLeaves c.next.new.self w.files) here.0 o) c.in-Some.is
    (next_leaves c.keys.tree c.next.new.self v w _ here.0 c.next.ensures.read.file c.next.ensures.tree c.next.ensures.read.changes c.in_ok-pair.ensures.ok here.2) in
    gives_one c.args.floor (ScanLeaves c.next.new.self w.files) left here.0 next.0 pair next.1 (from_yes c.args.floor pair c.if-floor-pair.true) next.2 here.1

pub returns-then-floor-pair-clause-reads : goal.returns-then-floor-pair-clause-reads
returns-then-floor-pair-clause-reads g c most is =
    let v = g.H.Host.view c.keys.host in
    let scan = c.keys.tree in
    let after = c.next.new.self in
    let left = c.keys.invariant.pays most is in
    let one = pays_some scan after v (g.H.Host.view c.next.new.host) left.0 c.in-Some.pair c.next.ensures.read.file c.next.ensures.tree c.next.ensures.read.changes
    (subst (λ (o : Option Pair). PassesOne scan after o) c.in-Some.is c.in_ok-pair.ensures.ends)
    (subst (λ (o : Option Pair). ReadsEntry v scan.buffered.file scan.tree after.passed o) c.in-Some.is c.in_ok-pair.ensures.stands)
    (subst (λ (o : Option Pair). IsEntryBuffered after o) c.in-Some.is c.in_ok-pair.ensures.entry_buffered) c.next.ensures.causes.reads left.1 in
    (one.0, one.1, omega (arith, one.2, left.2))

pub returns-then-floor-pair-clause-read : goal.returns-then-floor-pair-clause-read
returns-then-floor-pair-clause-read g c = reads_then _ _ _ _ _ _ _ _ _ _ _ c.keys.invariant.read c.next.ensures.read

pub returns-then-floor-pair-clause-faults : goal.returns-then-floor-pair-clause-faults
returns-then-floor-pair-clause-faults g c =
    let u = g.H.Host.view c.args.host.now in
    let v = g.H.Host.view c.keys.host in
    let w = g.H.Host.view c.next.new.host in
    let inv = c.keys.invariant in
    let one = call_faults (λ index. index ≡ c.keys.tree.passed) c.args.tree.now c.keys.tree v w _ _ inv.read.file inv.tree_is c.next.ensures.read.changes c.in_ok-pair.ensures.causes c.in_ok-pair.ensures.damaged c.in_ok-pair.ensures.undamaged in
    faults_ok _ _ _ _ u w _ _ (faults_then _ _ _ _ _ u v w 0 _ (λ left is. (let here = inv.gives left is in (here.0, here.2))) inv.faults one)

pub keys-smaller : goal.keys-smaller
keys-smaller g c =
    let one = subst (λ (o : Option Pair). PassesOne c.keys.tree c.next.new.self o) c.in-Some.is c.in_ok-pair.ensures.ends in
    omega (arith, one.0, one.1, ap (λ t. t.pairs) c.next.ensures.tree)

pub keys-preserved : goal.keys-preserved
keys-preserved g c =
    let u = g.H.Host.view c.args.host.now in
    let v = g.H.Host.view c.keys.host in
    let w = g.H.Host.view c.next.new.host in
    let scan = c.keys.tree in
    let after = c.next.new.self in
    let pair = c.in-Some.pair in
    let inv = c.keys.invariant in
    let one = call_faults (λ index. index ≡ scan.passed) c.args.tree.now scan v w _ _ inv.read.file inv.tree_is c.next.ensures.read.changes c.in_ok-pair.ensures.causes c.in_ok-pair.ensures.damaged c.in_ok-pair.ensures.undamaged in
    record {
      can = can_still_on _ _ _ _ v w scan.buffered after.buffered inv.can c.next.ensures.read;
      read = reads_then _ _ _ _ _ _ _ _ _ _ _ inv.read c.next.ensures.read;
      at_last = c.next.ensures.at_last;
      tree_is = c.next.ensures.tree ∙ inv.tree_is;
      gives = λ left is.
          let here = inv.gives left is in
          let next = subst (λ (o : Option Pair). GivesPair (ScanLeaves after w.files) here.0 o) c.in-Some.is
          (next_leaves scan after v w _ here.0 c.next.ensures.read.file c.next.ensures.tree c.next.ensures.read.changes c.in_ok-pair.ensures.ok here.2) in
          (next.0, passed_one c.args.floor left here.0 next.0 pair next.1 (from_no c.args.floor pair c.if-floor-pair.false) here.1, next.2);
      pays = λ most is.
          let left = inv.pays most is in
          let paid = pays_some scan after v w left.0 pair c.next.ensures.read.file c.next.ensures.tree c.next.ensures.read.changes
          (subst (λ (o : Option Pair). PassesOne scan after o) c.in-Some.is c.in_ok-pair.ensures.ends)
          (subst (λ (o : Option Pair). ReadsEntry v scan.buffered.file scan.tree after.passed o) c.in-Some.is c.in_ok-pair.ensures.stands)
          (subst (λ (o : Option Pair). IsEntryBuffered after o) c.in-Some.is c.in_ok-pair.ensures.entry_buffered) c.next.ensures.causes.reads left.1 in
          (paid.0, paid.1, omega (arith, paid.2, left.2));
      faults = faults_ok _ _ _ _ u w _ 0 (faults_then _ _ _ _ _ u v w 0 _ (λ left is. (let here = inv.gives left is in (here.0, here.2))) inv.faults one);
    }
