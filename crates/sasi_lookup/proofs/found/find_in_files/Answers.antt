use Rattle.std.proofs.Common.{refl, arith, Ok}
use Rattle.std.proofs.lemmas.Result.{err_from_is_err_and}
use Rattle.sasi_ranges.proofs.Calling.{can_still, fails_nothing, faults_handed, faults_ok, faults_then, files_same, streamed_then, streams_nothing}
use Rattle.sasi_scan.proofs.KeyLookups.{body_of_part}
use Rattle.sasi_lookup.proofs.FileLaws.{memory_fault}
use Rattle.sasi_lookup.proofs.FindLaws.{file_here, finding_begins, finding_ends, finding_fails, finding_faults, finding_next, merge_joined, named_at, turned_here, turned_there}
use Rattle.sasi_lookup.proofs.TurnLaws.{can_here, streamed_at}
use Rattle.sasi_lookup.proofs.found.find_in_files.Goals as goal

pub loop-file-init : goal.loop-file-init
loop-file-init g c =
    let v = g.H.Host.view c.args.host.now in
    record {
      can = c.requires.read;
      finding = λ p token types contents ready are. finding_begins v.files types p token c.args.key.now contents _ c.args.files.now v.reads are refl;
      of_parts = λ types maps ready. tt;
      read = streams_nothing _ _ _ v c.requires.read.agrees;
      faults = λ types ready. fails_nothing _ _ v 0;
    }

pub find-requires : goal.find-requires
find-requires g c = record {
  read = can_here c.file-item.result _ (g.H.Host.view c.loop-file.host) c.args.files.now c.loop-file.file-index c.loop-file-test.true c.file-item.is c.loop-file.invariant.can;
  named = named_at c.args.files.now c.loop-file.file-index c.file-item.result c.loop-file-test.true c.file-item.is c.requires.named;
}

pub returns-in_err-part-clause-reads : goal.returns-in_err-part-clause-reads
returns-in_err-part-clause-reads g c p token types contents ready are =
    let u = g.H.Host.view c.args.host.now in
    let v = g.H.Host.view c.loop-file.host in
    let w = g.H.Host.view c.find.new.host in
    let file = c.file-item.result in
    let same = files_same u v c.loop-file.invariant.read.changes in
    finding_fails u.files types p token c.args.key.now contents _ c.args.files.now c.loop-file.file-index file c.loop-file-test.true c.file-item.is c.loop-file.found v.reads w.reads
    (c.loop-file.invariant.finding p token types contents ready are)
    (λ content turned. c.find.ensures.reads p token types content (file_here types u.files v.files c.args.files.now c.loop-file.file-index file c.loop-file-test.true c.file-item.is same ready) (turned_there u.files v.files types file _ same turned))

pub returns-in_err-part-clause-read : goal.returns-in_err-part-clause-read
returns-in_err-part-clause-read g c =
    let u = g.H.Host.view c.args.host.now in
    let v = g.H.Host.view c.loop-file.host in
    let w = g.H.Host.view c.find.new.host in
    streamed_then _ _ _ _ _ _ _ _ u v w c.loop-file.invariant.read (streamed_at c.file-item.result _ _ _ v w c.args.files.now c.loop-file.file-index c.loop-file-test.true c.file-item.is c.find.ensures.read)

pub returns-in_err-part-clause-faults : goal.returns-in_err-part-clause-faults
returns-in_err-part-clause-faults g c types ready =
    let p = err_from_is_err_and c.from_residual.result c.from_residual.ensures.1 in
    let u = g.H.Host.view c.args.host.now in
    let v = g.H.Host.view c.loop-file.host in
    let w = g.H.Host.view c.find.new.host in
    let file = c.file-item.result in
    let same = files_same u v c.loop-file.invariant.read.changes in
    let one = c.find.ensures.faults types (file_here types u.files v.files c.args.files.now c.loop-file.file-index file c.loop-file-test.true c.file-item.is same ready) in
    rw (p.1, p.2)
    (faults_then _ _ _ _ _ u v w 0 _ (λ has are. (has, turned_here u.files v.files types c.args.files.now has same are)) (c.loop-file.invariant.faults types ready)
    (faults_handed _ _ _ _ v w c.find.result c.in_err-part.field-0.0 c.in_err-part.was (λ has are. (has, are))
    (finding_faults types v w c.args.files.now c.loop-file.file-index file c.find.result c.loop-file-test.true c.file-item.is (files_same v w c.find.ensures.read.changes) one)))

pub returns-in_err-join-clause-reads : goal.returns-in_err-join-clause-reads
returns-in_err-join-clause-reads g c p token types contents ready are =
    let u = g.H.Host.view c.args.host.now in
    let v = g.H.Host.view c.loop-file.host in
    let w = g.H.Host.view c.find.new.host in
    let file = c.file-item.result in
    let same = files_same u v c.loop-file.invariant.read.changes in
    finding_fails u.files types p token c.args.key.now contents _ c.args.files.now c.loop-file.file-index file c.loop-file-test.true c.file-item.is c.loop-file.found v.reads w.reads
    (c.loop-file.invariant.finding p token types contents ready are)
    (λ content turned. c.find.ensures.reads p token types content (file_here types u.files v.files c.args.files.now c.loop-file.file-index file c.loop-file-test.true c.file-item.is same ready) (turned_there u.files v.files types file _ same turned))

pub returns-in_err-join-clause-read : goal.returns-in_err-join-clause-read
returns-in_err-join-clause-read g c =
    let u = g.H.Host.view c.args.host.now in
    let v = g.H.Host.view c.loop-file.host in
    let w = g.H.Host.view c.find.new.host in
    streamed_then _ _ _ _ _ _ _ _ u v w c.loop-file.invariant.read (streamed_at c.file-item.result _ _ _ v w c.args.files.now c.loop-file.file-index c.loop-file-test.true c.file-item.is c.find.ensures.read)

pub returns-in_err-join-clause-faults : goal.returns-in_err-join-clause-faults
returns-in_err-join-clause-faults g c types ready =
    let p = err_from_is_err_and c.from_residual-in_err-join.result c.from_residual-in_err-join.ensures.1 in
    let u = g.H.Host.view c.args.host.now in
    let v = g.H.Host.view c.loop-file.host in
    let w = g.H.Host.view c.find.new.host in
    let file = c.file-item.result in
    let same = files_same u v c.loop-file.invariant.read.changes in
    let one = c.in_ok-part.ensures.faults types (file_here types u.files v.files c.args.files.now c.loop-file.file-index file c.loop-file-test.true c.file-item.is same ready) in
    rw (p.1, p.2)
    (memory_fault _ _ _ u w c.in_ok-part.part (faults_then _ _ _ _ _ u v w 0 _ (λ has are. (has, turned_here u.files v.files types c.args.files.now has same are)) (c.loop-file.invariant.faults types ready)
    (finding_faults types v w c.args.files.now c.loop-file.file-index file (Ok c.in_ok-part.part) c.loop-file-test.true c.file-item.is (files_same v w c.find.ensures.read.changes) one)))

pub loop-file-preserved : goal.loop-file-preserved
loop-file-preserved g c =
    let u = g.H.Host.view c.args.host.now in
    let v = g.H.Host.view c.loop-file.host in
    let w = g.H.Host.view c.find.new.host in
    let file = c.file-item.result in
    let files = c.args.files.now in
    let i = c.loop-file.file-index in
    let at = c.loop-file-test.true in
    let inv = c.loop-file.invariant in
    let same = files_same u v inv.read.changes in
    let read = streamed_at file _ _ _ v w files i at c.file-item.is c.find.ensures.read in
    record {
      can = can_still _ _ _ _ _ _ v w inv.can read;
      finding = λ p token types contents ready are. (
          let here = file_here types u.files v.files files i file at c.file-item.is same ready in
          finding_next u.files types p token c.args.key.now contents _ files i file at c.file-item.is c.loop-file.found v.reads w.reads (inv.finding p token types contents ready are) c.in_ok-part.part c.join.new.found
          (λ content turned is. c.in_ok-part.ensures.found p token types content here (turned_there u.files v.files types file _ same turned) is)
          (λ content turned. c.find.ensures.reads p token types content here (turned_there u.files v.files types file _ same turned)) c.in_ok-join.ensures);
      of_parts = λ types maps ready. (
          let here = file_here types u.files v.files files i file at c.file-item.is same ready in
          merge_joined types maps c.args.key.now c.loop-file.found c.in_ok-part.part c.join.new.found c.in_ok-join.ensures (inv.of_parts types maps ready)
          (body_of_part types maps c.args.key.now c.in_ok-part.part (c.in_ok-part.ensures.stored types here)));
      read = streamed_then _ _ _ _ _ _ _ _ u v w inv.read read;
      faults = λ types ready. (
          let here = file_here types u.files v.files files i file at c.file-item.is same ready in
          faults_ok _ _ _ _ u w _ 0 (faults_then _ _ _ _ _ u v w 0 _ (λ has are. (has, turned_here u.files v.files types files has same are)) (inv.faults types ready)
          (finding_faults types v w files i file (Ok c.in_ok-part.part) at c.file-item.is (files_same v w c.find.ensures.read.changes) (c.in_ok-part.ensures.faults types here))));
    }

pub returns-clause-found : goal.returns-clause-found
returns-clause-found g c p token types contents ready are same =
    let u = g.H.Host.view c.args.host.now in
    finding_ends u.files types p token c.args.key.now contents _ c.args.files.now c.loop-file.file-index c.loop-file.found (g.H.Host.view c.loop-file.host).reads (omega (arith, c.loop-file-test.false)) (c.loop-file.invariant.finding p token types contents ready are) same

pub returns-clause-of_parts : goal.returns-clause-of_parts
returns-clause-of_parts g c = c.loop-file.invariant.of_parts

pub returns-clause-reads : goal.returns-clause-reads
returns-clause-reads g c p token types contents ready are = omega (arith, (c.loop-file.invariant.finding p token types contents ready are).reads)

pub returns-clause-read : goal.returns-clause-read
returns-clause-read g c = c.loop-file.invariant.read

pub returns-clause-faults : goal.returns-clause-faults
returns-clause-faults g c types ready = faults_ok _ _ _ _ (g.H.Host.view c.args.host.now) (g.H.Host.view c.loop-file.host) 0 _ (c.loop-file.invariant.faults types ready)
