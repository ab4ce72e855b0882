use Rattle.std.proofs.Common.{◌<◌, ◌+◌, ◌≤◌, List, length, refl, subst, arith}
use Rattle.std.proofs.lemmas.Result.{err_from_is_err_and}
use Rattle.sasi_ranges.specs.declared.entry.Entry.{Entry}
use Rattle.sasi_ranges.specs.Entries.{from_token}
use Rattle.sasi_ranges.specs.inside.Heads.{AllLeave}
use Rattle.sasi_ranges.proofs.Least.{leave_length, leave_mapped, mapped_all}
use Rattle.sasi_ranges.proofs.Calling.{can_still, fails_nothing, faults_handed, faults_ok, faults_then, files_same, spent_err, streamed_then, streams_nothing}
use Rattle.sasi_ranges.proofs.Filling.{can_at, faults_set, pay_fails, pay_set, ready_at, ready_set, show_set, streamed_set}
use Rattle.sasi_ranges.proofs.heads.skip_all.Goals as goal

pub loop-head-init : goal.loop-head-init
loop-head-init g c = record {
  can = c.requires.read;
  still_ready = c.requires.ready;
  leaves = λ lists all. all;
  pays = λ most all. (most, all, omega arith);
  read = streams_nothing _ _ _ (g.H.Host.view c.args.host.now) c.requires.read.agrees;
  faults = fails_nothing _ _ (g.H.Host.view c.args.host.now) 0;
  shows_less = λ files damage is. is;
}

pub skip_head-requires-clause-read : goal.skip_head-requires-clause-read
skip_head-requires-clause-read g c =
    let at : c.loop-head.head-index < length c.loop-head.streams = omega (arith, c.loop-head-test.true, c.loop-head.auto.streams) in
    can_at c.head-item.result g.S.TokenStream.opens _ (g.H.Host.view c.loop-head.host) c.loop-head.streams c.loop-head.head-index at c.loop-head.invariant.can

pub skip_head-requires-clause-ready : goal.skip_head-requires-clause-ready
skip_head-requires-clause-ready g c =
    let at : c.loop-head.head-index < length c.loop-head.streams = omega (arith, c.loop-head-test.true, c.loop-head.auto.streams) in
    ready_at c.head-item.result g.S.TokenStream.ready (g.H.Host.view c.loop-head.host).files c.loop-head.streams c.loop-head.head-index at c.loop-head.invariant.still_ready

pub returns-in_err-skip_head-clause-read : goal.returns-in_err-skip_head-clause-read
returns-in_err-skip_head-clause-read g c =
    let v = g.H.Host.view c.loop-head.host in
    let w = g.H.Host.view c.skip_head.new.host in
    let at : c.loop-head.head-index < length c.loop-head.streams = omega (arith, c.loop-head-test.true, c.loop-head.auto.streams) in
    streamed_then _ _ _ _ _ _ _ _ (g.H.Host.view c.args.host.now) v w c.loop-head.invariant.read
    (streamed_set c.head-item.result g.S.TokenStream.opens _ _ _ v w c.loop-head.streams c.loop-head.head-index c.skip_head.new.head at c.skip_head.ensures.read)

pub returns-in_err-skip_head-clause-reads : goal.returns-in_err-skip_head-clause-reads
returns-in_err-skip_head-clause-reads g c most all =
    let p = err_from_is_err_and c.from_residual.result c.from_residual.ensures.1 in
    let v = g.H.Host.view c.loop-head.host in
    let w = g.H.Host.view c.skip_head.new.host in
    let left = c.loop-head.invariant.pays most all in
    let at : c.loop-head.head-index < length c.loop-head.streams = omega (arith, c.loop-head-test.true, c.loop-head.auto.streams) in
    let one : w.reads ≤ v.reads + left.0 =
    pay_fails c.head-item.result g.S.TokenStream.pays v.files c.loop-head.streams c.loop-head.head-index v.reads w.reads left.0 at
    (λ m pays. spent_err (g.S.TokenStream.pays c.skip_head.new.head.stream w.files) m v.reads w.reads c.skip_head.result c.in_err-skip_head.field-0.0 c.in_err-skip_head.was (c.skip_head.ensures.reads m pays)) left.1 in
    rw p.1 (omega (arith, one, left.2))

pub returns-in_err-skip_head-clause-faults : goal.returns-in_err-skip_head-clause-faults
returns-in_err-skip_head-clause-faults g c =
    let p = err_from_is_err_and c.from_residual.result c.from_residual.ensures.1 in
    let v = g.H.Host.view c.loop-head.host in
    let w = g.H.Host.view c.skip_head.new.host in
    let inv = c.loop-head.invariant in
    let at : c.loop-head.head-index < length c.loop-head.streams = omega (arith, c.loop-head-test.true, c.loop-head.auto.streams) in
    let one = faults_set c.head-item.result g.S.TokenStream.shows g.S.TokenStream.leaves v w c.loop-head.streams c.loop-head.head-index c.skip_head.new.head c.skip_head.result at (files_same v w c.skip_head.ensures.read.changes) c.skip_head.ensures.faults in
    rw (p.1, p.2)
    (faults_then _ _ _ _ _ (g.H.Host.view c.args.host.now) v w 0 _ (λ lists all. (_, inv.leaves lists all)) inv.faults
    (faults_handed _ _ _ _ v w c.skip_head.result c.in_err-skip_head.field-0.0 c.in_err-skip_head.was (λ lists all. (lists, all)) one))

pub loop-head-preserved : goal.loop-head-preserved
loop-head-preserved g c =
    let v = g.H.Host.view c.loop-head.host in
    let w = g.H.Host.view c.skip_head.new.host in
    let h = c.head-item.result in
    let hs = c.loop-head.streams in
    let i = c.loop-head.head-index in
    let new = c.skip_head.new.head in
    let same = files_same v w c.skip_head.ensures.read.changes in
    let inv = c.loop-head.invariant in
    let at : i < length hs = omega (arith, c.loop-head-test.true, c.loop-head.auto.streams) in
    let read = streamed_set h g.S.TokenStream.opens _ _ _ v w hs i new at c.skip_head.ensures.read in
    record {
      can = can_still _ _ _ _ _ _ v w inv.can read;
      still_ready = ready_set h g.S.TokenStream.ready v.files w.files hs i new at same c.in_ok-skip_head.ensures.ready inv.still_ready;
      leaves = λ lists all. leave_mapped h g.S.TokenStream.leaves (from_token c.args.token) v.files w.files hs i _ new lists at (omega arith) same (λ es is. c.in_ok-skip_head.ensures.skips es is) (inv.leaves lists all);
      pays = λ most all.
          let left = inv.pays most all in
          let one = pay_set h g.S.TokenStream.pays v.files w.files hs i new v.reads w.reads left.0 at same (λ m pays. c.in_ok-skip_head.ensures.reads m pays) left.1 in
          (one.0, one.1, omega (arith, one.2, left.2));
      read = streamed_then _ _ _ _ _ _ _ _ (g.H.Host.view c.args.host.now) v w inv.read read;
      faults = faults_ok _ _ _ _ (g.H.Host.view c.args.host.now) w _ 0 (faults_then _ _ _ _ _ (g.H.Host.view c.args.host.now) v w 0 _ (λ lists all. (_, inv.leaves lists all)) inv.faults
          (faults_set h g.S.TokenStream.shows g.S.TokenStream.leaves v w hs i new _ at same c.in_ok-skip_head.ensures.faults));
      shows_less = λ files damage is. inv.shows_less files damage (show_set h g.S.TokenStream.shows files files hs i new damage refl (λ mine. c.skip_head.ensures.shows_less files damage mine) is);
    }

pub returns-clause-faults : goal.returns-clause-faults
returns-clause-faults g c = faults_ok _ _ _ _ (g.H.Host.view c.args.host.now) (g.H.Host.view c.loop-head.host) 0 _ c.loop-head.invariant.faults

pub returns-clause-skips : goal.returns-clause-skips
returns-clause-skips g c lists all =
    let leaves = g.S.TokenStream.leaves in
    let files = (g.H.Host.view c.loop-head.host).files in
    let f = from_token c.args.token in
    let size = leave_length leaves (g.H.Host.view c.args.host.now).files c.args.streams.now lists all in
    let done = mapped_all c.loop-head.head-index f lists (omega (arith, size, c.loop-head-test.false, c.loop-head.auto.head-index-end)) in
    subst (λ (k : List (List Entry)). AllLeave leaves files c.loop-head.streams k) done (c.loop-head.invariant.leaves lists all)

pub returns-in_err-skip_head-clause-shows_less : goal.returns-in_err-skip_head-clause-shows_less
returns-in_err-skip_head-clause-shows_less g c files damage is =
    c.loop-head.invariant.shows_less files damage
    (show_set c.head-item.result g.S.TokenStream.shows files files c.loop-head.streams c.loop-head.head-index c.skip_head.new.head damage refl (λ mine. c.skip_head.ensures.shows_less files damage mine) is)
