use Rattle.std.proofs.Common.{arith, ℕ, List, map, take, inr, ap, ◌∙◌, subst}
use Rattle.std.proofs.lemmas.List.{length-take, take_min}
use Rattle.sasi_run.specs.Crashing.{FeedsCrashSafe, StopsWith}
use Rattle.sasi_run.proofs.RunsAtEnd.{stops_after_read}
use Rattle.sasi_run.proofs.FailedCalls.{calls_behind, ended_calls, ended_reports, none_failed, nothing_read, script_calls}
use Rattle.sasi_host.proofs.FailingLaws.{told_none}
use Rattle.sasi_run.proofs.reading.read_once.Goals as goal

pub returns-in-Ok-feed_bytes-clause-ok : goal.returns-in-Ok-feed_bytes-clause-ok
returns-in-Ok-feed_bytes-clause-ok g c = record {
  read = take c.in-Ok.count c.read.new.buf;
  consumed = c.in-Ok.ensures.bytes.0;
  length_is = omega (arith, c.in-Ok.ensures.bound, length-take {A = ℕ});
  short = omega (arith, c.in-Ok.ensures.bound);
  at_end = λ is. c.in-Ok.ensures.bytes.1 is (omega arith);
  feeds = subst (λ (l : List ℕ). FeedsCrashSafe (map (λ b. (goal.Analyzer-dyn g (b.vtable, b.value)).kind b.value) c.args.kit.now.objects.items) c.args.session.now c.feed_bytes.new.session (g.H.Host.view c.args.host.now) (g.H.Host.view c.feed_bytes.new.host) l)
      (ap (λ n. take n (take c.in-Ok.count c.read.new.buf)) c.min.ensures ∙ take_min c.args.room (take c.in-Ok.count c.read.new.buf)) c.in-Ok-feed_bytes.ensures.ok;
}

pub returns-in-Err-feed_bytes-clause-err : goal.returns-in-Err-feed_bytes-clause-err
returns-in-Err-feed_bytes-clause-err g c = inr
    (record {
      read = take c.in-Ok.count c.read.new.buf;
      consumed = c.in-Ok.ensures.bytes.0;
      short = omega (arith, c.in-Ok.ensures.bound, length-take {A = ℕ});
      stops = subst (λ (l : List ℕ). StopsWith (map (λ b. (goal.Analyzer-dyn g (b.vtable, b.value)).kind b.value) c.args.kit.now.objects.items) c.in-Err-feed_bytes.status c.args.session.now (g.H.Host.view c.args.host.now) (g.H.Host.view c.feed_bytes.new.host) l)
          (ap (λ n. take n (take c.in-Ok.count c.read.new.buf)) c.min.ensures ∙ take_min c.args.room (take c.in-Ok.count c.read.new.buf)) c.in-Err-feed_bytes.ensures.err;
    })

pub returns-in-Err-feed_bytes-clause-unread : goal.returns-in-Err-feed_bytes-clause-unread
returns-in-Err-feed_bytes-clause-unread g c =
    λ is. absurd (stops_after_read c.in-Err-feed_bytes.status c.args.session.now _ _ _ c.in-Err-feed_bytes.ensures.err is)

pub returns-in-Err-clause-calls : goal.returns-in-Err-clause-calls
returns-in-Err-clause-calls g c = script_calls _ (g.S.Source.view c.args.script.now) (g.S.Source.view c.read.new.self) (g.H.Host.view c.args.host.now) c.in-Err.ensures.causes

pub returns-in-Ok-feed_bytes-clause-unfailed : goal.returns-in-Ok-feed_bytes-clause-unfailed
returns-in-Ok-feed_bytes-clause-unfailed g c =
    nothing_read (g.S.Source.view c.args.script.now) (g.S.Source.view c.read.new.self) (g.H.Host.view c.args.host.now)
    (g.H.Host.view c.feed_bytes.new.host) c.in-Ok.count c.in-Ok.ensures.causes c.in-Ok-feed_bytes.ensures.causes.ok c.feed_bytes.ensures.told

pub returns-in-Err-feed_bytes-clause-calls : goal.returns-in-Err-feed_bytes-clause-calls
returns-in-Err-feed_bytes-clause-calls g c =
    let start = g.H.Host.view c.args.host.now in
    let script = g.S.Source.view c.args.script.now in
    let later = g.S.Source.view c.read.new.self in
    let stopped = g.H.Host.view c.feed_bytes.new.host in
    calls_behind c.in-Err-feed_bytes.status script later later start start stopped
    (nothing_read script later start start c.in-Ok.count c.in-Ok.ensures.causes (none_failed start) (told_none start))
    (ended_calls c.in-Err-feed_bytes.status later start stopped c.in-Err-feed_bytes.ensures.causes.ended c.feed_bytes.ensures.told)

pub returns-in-Err-clause-damage : goal.returns-in-Err-clause-damage
returns-in-Err-clause-damage g c = λ damage is. cc

pub returns-in-Err-feed_bytes-clause-damage : goal.returns-in-Err-feed_bytes-clause-damage
returns-in-Err-feed_bytes-clause-damage g c = ended_reports c.in-Err-feed_bytes.status _ _ c.in-Err-feed_bytes.ensures.causes.ended
