use Rattle.std.proofs.Common.{◌<◌, ◌∙◌, length, refl, arith}
use Rattle.std.proofs.lemmas.Result.{err_from_is_err_and}
use Rattle.sasi_ranges.proofs.Calling.{can_still, fails_nothing, faults_handed, faults_ok, faults_then, files_same, streamed_then, streams_nothing}
use Rattle.sasi_lookup.proofs.TurnLaws.{can_at, data_set, faults_set, names_set, ready_at, ready_set, streamed_set, turning_begins, turning_ends, turning_fails, turning_next}
use Rattle.sasi_lookup.proofs.lookup.turn_files.Goals as goal

pub loop-file-init : goal.loop-file-init
loop-file-init g c =
    let v = g.H.Host.view c.args.host.now in
    record {
      can = c.requires.read;
      still_ready = c.requires.ready;
      names = refl;
      turning = λ p contents are. turning_begins v.files p c.args.token c.args.types.now c.args.files.now contents v.reads are;
      read = streams_nothing _ _ _ v c.requires.read.agrees;
      faults = fails_nothing _ _ v 0;
    }

pub turn_to-requires-clause-read : goal.turn_to-requires-clause-read
turn_to-requires-clause-read g c =
    let at : c.loop-file.file-index < length c.loop-file.files = omega (arith, c.loop-file-test.true, c.loop-file.auto.files) in
    can_at c.file-item.result _ (g.H.Host.view c.loop-file.host) c.loop-file.files c.loop-file.file-index at c.loop-file.invariant.can

pub turn_to-requires-clause-ready : goal.turn_to-requires-clause-ready
turn_to-requires-clause-ready g c =
    let at : c.loop-file.file-index < length c.loop-file.files = omega (arith, c.loop-file-test.true, c.loop-file.auto.files) in
    ready_at c.file-item.result c.args.types.now (g.H.Host.view c.loop-file.host).files c.loop-file.files c.loop-file.file-index at c.loop-file.invariant.still_ready

pub returns-in_err-turn_to-clause-names : goal.returns-in_err-turn_to-clause-names
returns-in_err-turn_to-clause-names g c =
    let at : c.loop-file.file-index < length c.loop-file.files = omega (arith, c.loop-file-test.true, c.loop-file.auto.files) in
    names_set c.file-item.result c.loop-file.files c.loop-file.file-index c.turn_to.new.self at c.turn_to.ensures.named ∙ c.loop-file.invariant.names

pub returns-in_err-turn_to-clause-data : goal.returns-in_err-turn_to-clause-data
returns-in_err-turn_to-clause-data g c p contents are =
    let v = g.H.Host.view c.loop-file.host in
    let w = g.H.Host.view c.turn_to.new.host in
    let at : c.loop-file.file-index < length c.loop-file.files = omega (arith, c.loop-file-test.true, c.loop-file.auto.files) in
    data_set c.file-item.result v.files w.files p c.args.types.now c.loop-file.files c.loop-file.file-index c.turn_to.new.self contents at (files_same v w c.turn_to.ensures.read.changes)
    (λ content is. c.turn_to.ensures.data p content is) (c.loop-file.invariant.turning p contents are).are_data

pub returns-in_err-turn_to-clause-reads : goal.returns-in_err-turn_to-clause-reads
returns-in_err-turn_to-clause-reads g c p contents are =
    let v = g.H.Host.view c.loop-file.host in
    let w = g.H.Host.view c.turn_to.new.host in
    let at : c.loop-file.file-index < length c.loop-file.files = omega (arith, c.loop-file-test.true, c.loop-file.auto.files) in
    turning_fails c.file-item.result v.files p c.args.token c.args.types.now c.loop-file.files c.loop-file.file-index contents v.reads w.reads _ at (λ content is. c.turn_to.ensures.reads p content is) (c.loop-file.invariant.turning p contents are)

pub returns-in_err-turn_to-clause-ready : goal.returns-in_err-turn_to-clause-ready
returns-in_err-turn_to-clause-ready g c =
    let v = g.H.Host.view c.loop-file.host in
    let w = g.H.Host.view c.turn_to.new.host in
    let at : c.loop-file.file-index < length c.loop-file.files = omega (arith, c.loop-file-test.true, c.loop-file.auto.files) in
    ready_set c.file-item.result c.args.types.now v.files w.files c.loop-file.files c.loop-file.file-index c.turn_to.new.self at (files_same v w c.turn_to.ensures.read.changes) c.turn_to.ensures.ready c.loop-file.invariant.still_ready

pub returns-in_err-turn_to-clause-read : goal.returns-in_err-turn_to-clause-read
returns-in_err-turn_to-clause-read g c =
    let v = g.H.Host.view c.loop-file.host in
    let w = g.H.Host.view c.turn_to.new.host in
    let at : c.loop-file.file-index < length c.loop-file.files = omega (arith, c.loop-file-test.true, c.loop-file.auto.files) in
    streamed_then _ _ _ _ _ _ _ _ (g.H.Host.view c.args.host.now) v w c.loop-file.invariant.read
    (streamed_set c.file-item.result _ _ _ v w c.loop-file.files c.loop-file.file-index c.turn_to.new.self at c.turn_to.ensures.named c.turn_to.ensures.read)

pub returns-in_err-turn_to-clause-faults : goal.returns-in_err-turn_to-clause-faults
returns-in_err-turn_to-clause-faults g c =
    let p = err_from_is_err_and c.from_residual.result c.from_residual.ensures.1 in
    let v = g.H.Host.view c.loop-file.host in
    let w = g.H.Host.view c.turn_to.new.host in
    let inv = c.loop-file.invariant in
    let at : c.loop-file.file-index < length c.loop-file.files = omega (arith, c.loop-file-test.true, c.loop-file.auto.files) in
    let one = faults_set c.file-item.result c.args.types.now v w c.loop-file.files c.loop-file.file-index c.turn_to.new.self c.turn_to.result at (files_same v w c.turn_to.ensures.read.changes) c.turn_to.ensures.named c.turn_to.ensures.faults in
    rw (p.1, p.2)
    (faults_then _ _ _ _ _ (g.H.Host.view c.args.host.now) v w 0 _ (λ has are. (has, (inv.turning has.0 has.1 are).are_data)) inv.faults
    (faults_handed _ _ _ _ v w c.turn_to.result c.in_err-turn_to.field-0.0 c.in_err-turn_to.was (λ has are. (has, are)) one))

pub loop-file-preserved : goal.loop-file-preserved
loop-file-preserved g c =
    let v = g.H.Host.view c.loop-file.host in
    let w = g.H.Host.view c.turn_to.new.host in
    let d = c.file-item.result in
    let files = c.loop-file.files in
    let i = c.loop-file.file-index in
    let new = c.turn_to.new.self in
    let inv = c.loop-file.invariant in
    let same = files_same v w c.turn_to.ensures.read.changes in
    let at : i < length files = omega (arith, c.loop-file-test.true, c.loop-file.auto.files) in
    let read = streamed_set d _ _ _ v w files i new at c.turn_to.ensures.named c.turn_to.ensures.read in
    record {
      can = can_still _ _ _ _ _ _ v w inv.can read;
      still_ready = ready_set d c.args.types.now v.files w.files files i new at same c.turn_to.ensures.ready inv.still_ready;
      names = names_set d files i new at c.turn_to.ensures.named ∙ inv.names;
      turning = λ p contents are.
          turning_next d v.files w.files p c.args.token c.args.types.now files i _ new contents v.reads w.reads _ at (omega arith) same
          (λ content is. (c.turn_to.ensures.data p content is, c.in_ok-turn_to.ensures.keys p content is, c.turn_to.ensures.reads p content is)) (inv.turning p contents are);
      read = streamed_then _ _ _ _ _ _ _ _ (g.H.Host.view c.args.host.now) v w inv.read read;
      faults = faults_ok _ _ _ _ (g.H.Host.view c.args.host.now) w _ 0 (faults_then _ _ _ _ _ (g.H.Host.view c.args.host.now) v w 0 _ (λ has are. (has, (inv.turning has.0 has.1 are).are_data)) inv.faults
          (faults_set d c.args.types.now v w files i new _ at same c.turn_to.ensures.named c.in_ok-turn_to.ensures.faults));
    }

pub returns-clause-names : goal.returns-clause-names
returns-clause-names g c = c.loop-file.invariant.names

pub returns-clause-data : goal.returns-clause-data
returns-clause-data g c p contents are = (c.loop-file.invariant.turning p contents are).are_data

pub returns-clause-keys : goal.returns-clause-keys
returns-clause-keys g c p contents are =
    turning_ends (g.H.Host.view c.loop-file.host).files p c.args.token c.args.types.now c.loop-file.file-index c.loop-file.files contents (g.H.Host.view c.loop-file.host).reads _ (omega (arith, c.loop-file-test.false, c.loop-file.auto.files)) (c.loop-file.invariant.turning p contents are)

pub returns-clause-reads : goal.returns-clause-reads
returns-clause-reads g c p contents are = omega (arith, (c.loop-file.invariant.turning p contents are).reads)

pub returns-clause-ready : goal.returns-clause-ready
returns-clause-ready g c = c.loop-file.invariant.still_ready

pub returns-clause-read : goal.returns-clause-read
returns-clause-read g c = c.loop-file.invariant.read

pub returns-clause-faults : goal.returns-clause-faults
returns-clause-faults g c = faults_ok _ _ _ _ (g.H.Host.view c.args.host.now) (g.H.Host.view c.loop-file.host) 0 _ c.loop-file.invariant.faults
