-- What a run promises at each of its ends. `from` is the session at the script's start, and `mid` where it stands before the last
-- read; `on` tells what was read and run until then.
use Rattle.std.proofs.Common.{◌≡◌, ◌≢◌, ℕ, ◌+◌, ◌≤◌, ◌<◌, ◌^◌, Bool, true, false, cond, nat_eq, List, [], ◌++◌, length, take, drop, Option, Err, IsErrOf, refl, sym, ap, ◌∙◌, subst, inl, inr, arith, append_assoc, length-append, length-drop}
use Rattle.std.specs.List.{concat}
use Rattle.std.proofs.lemmas.List.{append-nil, length-take-le, take-append-drop, take_all}
use Rattle.std.proofs.Math.Seq.{take-append_seam}
use Rattle.std.specs.Io.KnownBytes.{Appends, Consumes, IsAtEnd, Keeps}
use Rattle.sasi_types.specs.declared.class.Class.{Class}
use Rattle.sasi_host.specs.View.{View, counted_by}
use Rattle.sasi_host.proofs.ContentLaws.{told_after}
use Rattle.sasi_host.specs.Disk.{Changes}
use Rattle.sasi_analyzers.specs.Kits.{has_class}
use Rattle.sasi_layout.specs.Between.{Between}
use Rattle.sasi_layout.specs.Layout.{Layout, state_of}
use Rattle.sasi_layout.specs.Running.{after_pieces, replies_of}
use Rattle.sasi_layout.specs.Serving.{Ended, closed}
use Rattle.sasi_store.specs.Worlds.{ServesWorld, World, new_world, steps}
use Rattle.sasi_model.specs.Pieces.{Piece, pieces, all_pieces}
use Rattle.sasi_model.specs.Parsers.{grammar_parser}
use Rattle.sasi_model.specs.Sessions.{new_session, refusals_by, sessions_by}
use Rattle.sasi_model.specs.State.{State}
use Rattle.sasi_model.specs.Step.{state_after}
use Rattle.sasi_cql.specs.SplitterState.{resume, behind}
use Rattle.sasi_store.specs.StoreView.{IsReady}
use Rattle.sasi_run.specs.Causes.{IsOfStore}
use Rattle.sasi_run.specs.Crashing.{CrashLeavesPieces, EndsAtRead, FailsCrashSafe, FeedsCrashSafe, FeedsRead, FinishesCrashSafe, IsOfState, LacksAtStop, RanButStored, RanPieces, RanScript, ReadsCrashSafe, RunsCrashSafe, StoppedButStored, StoppedPieces, StopsCrashSafe, StopsWith}
use Rattle.sasi_run.specs.EmitCounts.{MakesEmits, emits_for, emits_in}
use Rattle.sasi_run.specs.Headline.{AreRepliesButStored, EmitsAllReplies, EmitsByStatus, IsFirstPart, READ_MOST, ReadsToEnd, Runs, SCRIPT_MOST, but_stored, first_of, script_of, status_of_count, status_of_stop}
use Rattle.sasi_run.specs.Session.{IsAtScriptStart, refusals_of}
use Rattle.sasi_run.specs.Needs.{AreSupplied}
use Rattle.sasi_run.specs.Shapes.{answers_of}
use Rattle.sasi_run.specs.declared.session.Session.{Session}
use Rattle.sasi_run.specs.declared.session.Stop.{Stop}
use Rattle.sasi_run.specs.declared.session.Stop.TheVariants.{Disk, Output, Memory, Corrupt, Spent, Missing}
use Rattle.sasi_run.specs.declared.status.Status.{Status}
use Rattle.sasi_run.specs.declared.status.Status.TheVariants.{AnalyzerMissing, Done, FolderFault, Refused, ScriptFault, ScriptTooLong}
use Rattle.sasi_run.proofs.ValidWorlds.{new_valid}
use Rattle.sasi_run.proofs.Answering.{feeds_both, feeds_nothing}
use Rattle.sasi_run.proofs.ButStored.{ran_both_but, stop_runs, stopped_behind_but}
use Rattle.sasi_run.proofs.ConsumedBytes.{consumes_both, consumes_kept, consumes_none, consumes_nothing}
use Rattle.sasi_run.proofs.EmitLaws.{makes_alone}
use Rattle.sasi_run.proofs.Joining.{first_shown}
use Rattle.sasi_run.proofs.RepliesAtEnd.{all_behind, all_now, answered_first, behind_twice, pieces_on, script_parts, script_whole, stops_world, whole_now, widened}
use Rattle.sasi_run.proofs.Running.{leaves_closed}
use Rattle.sasi_run.proofs.RunParts.{ran_both, stopped_behind}
use Rattle.sasi_run.proofs.Worlds.{first_emits, refusals_are}

-- no analyzer is of the class that stopped the run
stop_lacks : (kinds : List Class) (stop : Stop) → LacksAtStop kinds stop → (class : Class) → status_of_stop stop ≡ AnalyzerMissing class → has_class class kinds ≡ false
stop_lacks kinds Disk lacks class is = cc
stop_lacks kinds Output lacks class is = cc
stop_lacks kinds Memory lacks class is = cc
stop_lacks kinds (Corrupt damage) lacks class is = cc
stop_lacks kinds (Spent kind) lacks class is = cc
stop_lacks kinds (Missing told) lacks class is = let same : told ≡ class = cc in subst (λ (c : Class). has_class c kinds ≡ false) same lacks

-- ---- a read failed

pub ends_fault : {kinds : List Class} (from mid : Session) (l l1 l2 : Option (List ℕ)) (a b : View) (n : ℕ) → IsAtScriptStart from → ReadsCrashSafe kinds from mid l l1 a b n
    → n ≤ 2 ^ 40 → Keeps l1 l2 → RunsCrashSafe kinds ScriptFault from.store l l2 a b
ends_fault from mid l l1 l2 a b n fresh on few kept =
    let consumed = consumes_kept l l1 l2 on.read on.consumed kept in
    let t = on.feeds.feeds in
    let size : length on.read ≤ SCRIPT_MOST = omega (arith, on.length_is, few) in
    let first = answered_first from mid l l2 on.read fresh t consumed in
    record {
      anywhere = λ s of.
          let ran = on.feeds.anywhere new_session s of in
          record {
            read = on.read;
            shown = ran.shown;
            consumed = consumed;
            emitted = ran.emitted;
            at_end = tt;
            shows = record { whole = subst (λ (ps : List Piece). AreRepliesButStored grammar_parser new_session s ps ran.shown) (sym (whole_now from mid on.read fresh t)) ran.replies; short = size };
            bounded = omega (arith, size);
          };
      from = λ start serves.
          (let w : World = new_world start in
          let ran = on.feeds.ran w serves in
          let all = all_pieces (script_of l on.read) in
          record {
            answers = answers_of steps w all;
            runs = record {
              read = on.read;
              shown = replies_of steps w t.done;
              consumed = consumed;
              emitted = ran.shown;
              at_end = tt;
              shows = record {
                whole = first_shown steps w t.done first.0 all first.1
                    ∙ ap (λ (ps : List Piece). concat (take (length ps) (answers_of steps w all))) (sym (whole_now from mid on.read fresh t));
                short = size;
              };
              bounded = omega (arith, size);
            };
            replied = refl;
            crashes = widened a b w t.done first.0 (all_pieces (script_of l on.read)) first.1 ran.crashes;
            told = λ is. absurd is;
            ends = λ is. absurd is;
            emits = record {
              answered = t.done;
              by_status = sym (whole_now from mid on.read fresh t);
              emits = makes_alone _ a.emits b.emits (subst (λ (k : ℕ). MakesEmits k a.emits b.emits) (first_emits w t.done first.0 all first.1) ran.emits);
            };
            needs = tt;
            undamaged = λ damage is. cc;
          });
      lacks = λ class is. cc;
    }

-- ---- the script ended

pub ends_script : {kinds : List Class} (from mid to : Session) (l l1 l2 : Option (List ℕ)) (a b c : View) (n : ℕ) (none : List ℕ) → IsAtScriptStart from
    → ReadsCrashSafe kinds from mid l l1 a b n → n ≤ 2 ^ 40 → Consumes l1 l2 none → length none ≡ 0 → IsAtEnd l2 → FinishesCrashSafe kinds mid to b c
    → RanScript kinds from to l l2 a c
ends_script {kinds} from mid to l l1 l2 a b c n none fresh on few ate empty end fin = record {
  read = on.read;
  consumed = consumes_none l l1 l2 on.read none on.consumed ate empty;
  short = omega (arith, on.length_is, few);
  at_end = end;
  anywhere = λ x s of.
      let first = on.feeds.anywhere x s of in
      subst (λ (ps : List Piece). RanButStored x s ps from to a c) (sym (all_now from mid on.read fresh on.feeds.feeds))
      (ran_both_but x s on.feeds.feeds.done (resume mid.splitter []).last from mid to a b c first (fin.anywhere (sessions_by grammar_parser x s on.feeds.feeds.done) (state_after s on.feeds.feeds.done) first.state));
  ready = fin.ready;
  ran = λ w serves.
      (let first = on.feeds.ran w serves in
      subst (λ (ps : List Piece). RanPieces kinds w ps from to a c) (sym (all_now from mid on.read fresh on.feeds.feeds))
      (ran_both w on.feeds.feeds.done (resume mid.splitter []).last from mid to a b c first (fin.ran (after_pieces steps w on.feeds.feeds.done) first.serves)));
}

module _ {kinds : List Class} (from to : Session) (l l2 : Option (List ℕ)) (a b c : View) (fresh : IsAtScriptStart from) (on : RanScript kinds from to l l2 a b)
    (silent : c.emitted ≡ b.emitted) (none_out : c.emits ≡ b.emits)
    (moments : (w : World) → ServesWorld b to.store w → Changes (λ x y. Between w.layout [] y) b c) where
  -- nothing was emitted since
  appends_on : (shown : List ℕ) → Appends a.emitted b.emitted shown → Appends a.emitted c.emitted shown
  appends_on shown p = subst (λ (o : Option (List ℕ)). Appends a.emitted o shown) (sym silent) p

  -- the script that was told is what was read
  of_script : (P : List Piece → Type 0) → P (all_pieces on.read) → P (all_pieces (script_of l on.read))
  of_script P p = subst (λ (bytes : List ℕ). P (all_pieces bytes)) (sym (script_whole l l2 on.read on.consumed on.at_end)) p

  module _ (start : Layout) (serves : ServesWorld a from.store (new_world start)) where
    abbrev w : World
    w = new_world start

    crashes : CrashLeavesPieces a c w (all_pieces on.read)
    crashes =
        let ran = on.ran w serves in
        leaves_closed a b c w (all_pieces on.read) ran.shown ran.crashes (moments (after_pieces steps w (all_pieces on.read)) ran.serves)

    emits_in_all : MakesEmits (emits_in w (all_pieces on.read)) a.emits c.emits
    emits_in_all = subst (λ (k : ℕ). MakesEmits (emits_in w (all_pieces on.read)) a.emits k) (sym none_out) (on.ran w serves).emits

    -- the replies to all pieces of the script
    abbrev all_answers : List (List ℕ)
    all_answers = answers_of steps w (all_pieces (script_of l on.read))

    all_read_are : all_pieces (script_of l on.read) ≡ all_pieces on.read ++ []
    all_read_are = ap all_pieces (script_whole l l2 on.read on.consumed on.at_end) ∙ sym (append-nil (all_pieces on.read))

    emits_all : MakesEmits (emits_for (take (length (all_pieces on.read)) all_answers) + 0) a.emits c.emits
    emits_all = makes_alone _ a.emits c.emits
        (subst (λ (k : ℕ). MakesEmits k a.emits c.emits) (first_emits w (all_pieces on.read) [] (all_pieces (script_of l on.read)) all_read_are) emits_in_all)

    all_shown : (n : ℕ) → to.refused ≡ n → EmitsAllReplies grammar_parser (first_of all_answers) (state_of w.layout) on.read (replies_of steps w (all_pieces on.read)) n
    all_shown n is =
        let count : to.refused ≡ counted_by from.refused (refusals_of w (all_pieces on.read)) = (on.ran w serves).count in
        let by_model : refusals_of w (all_pieces on.read) ≡ refusals_by grammar_parser new_session (state_of w.layout) (all_pieces on.read) = refusals_are (all_pieces on.read) w (new_valid start serves.serves.in_order) in
        record {
          all = first_shown steps w (all_pieces on.read) [] (all_pieces (script_of l on.read)) all_read_are;
          count = omega (arith, is, count, by_model, fresh.count);
          short = on.short;
        }

  module _ (s : State) (of : IsOfState from.store new_session s) where
    abbrev all_read : (status : Status) → ReadsToEnd status l2 → EmitsByStatus grammar_parser (but_stored grammar_parser) status s (script_of l on.read) on.read (on.anywhere new_session s of).shown
        → Runs grammar_parser (but_stored grammar_parser) status s l l2 a.emitted c.emitted
    all_read status end shows = record {
      read = on.read;
      shown = (on.anywhere new_session s of).shown;
      consumed = on.consumed;
      emitted = appends_on (on.anywhere new_session s of).shown (on.anywhere new_session s of).emitted;
      at_end = end;
      shows = shows;
      bounded = omega (arith, on.short);
    }

    all_but_stored : (n : ℕ) → to.refused ≡ n → EmitsAllReplies grammar_parser (but_stored grammar_parser) s on.read (on.anywhere new_session s of).shown n
    all_but_stored n is =
        let count : to.refused ≡ counted_by from.refused (refusals_by grammar_parser new_session s (all_pieces on.read)) = (on.anywhere new_session s of).count in
        record { all = (on.anywhere new_session s of).replies; count = omega (arith, is, count, fresh.count); short = on.short }

  -- ---- the use of the store was ended

  module _ (ends : (w : World) → ServesWorld b to.store w → Ended c (closed w.layout)) where
    ended_by : (none : Bool) → nat_eq to.refused 0 ≡ none → RunsCrashSafe kinds (cond none Done (Refused to.refused)) from.store l l2 a c
    ended_by true is =
        let zero_is : to.refused ≡ 0 = grind arith in
        record {
          anywhere = λ s of. all_read s of Done on.at_end (all_but_stored s of 0 zero_is);
          from = λ start serves.
              (let w : World = new_world start in
              let ran = on.ran w serves in
              record {
                answers = all_answers start serves;
                runs = record {
                  read = on.read;
                  shown = replies_of steps w (all_pieces on.read);
                  consumed = on.consumed;
                  emitted = appends_on _ ran.shown;
                  at_end = on.at_end;
                  shows = all_shown start serves 0 zero_is;
                  bounded = omega (arith, on.short);
                };
                replied = refl;
                crashes = of_script (λ ps. CrashLeavesPieces a c w ps) (crashes start serves);
                told = λ _. told_after _ b c (moments (after_pieces steps w (all_pieces on.read)) ran.serves) ran.serves.serves.told;
                ends = λ _. of_script (λ ps. Ended c (closed (after_pieces steps w ps).layout)) (ends (after_pieces steps w (all_pieces on.read)) ran.serves);
                emits = record { answered = all_pieces on.read; by_status = refl; emits = emits_all start serves };
                needs = of_script (λ ps. AreSupplied kinds w ps) ran.supplied;
                undamaged = λ damage is. cc;
              });
          lacks = λ class is. cc;
        }
    ended_by false is =
        let some : 0 < to.refused = grind arith in
        record {
          anywhere = λ s of. all_read s of (Refused to.refused) on.at_end (some, all_but_stored s of to.refused refl);
          from = λ start serves.
              (let w : World = new_world start in
              let ran = on.ran w serves in
              record {
                answers = all_answers start serves;
                runs = record {
                  read = on.read;
                  shown = replies_of steps w (all_pieces on.read);
                  consumed = on.consumed;
                  emitted = appends_on _ ran.shown;
                  at_end = on.at_end;
                  shows = (some, all_shown start serves to.refused refl);
                  bounded = omega (arith, on.short);
                };
                replied = refl;
                crashes = of_script (λ ps. CrashLeavesPieces a c w ps) (crashes start serves);
                told = λ _. told_after _ b c (moments (after_pieces steps w (all_pieces on.read)) ran.serves) ran.serves.serves.told;
                ends = λ _. of_script (λ ps. Ended c (closed (after_pieces steps w ps).layout)) (ends (after_pieces steps w (all_pieces on.read)) ran.serves);
                emits = record { answered = all_pieces on.read; by_status = refl; emits = emits_all start serves };
                needs = of_script (λ ps. AreSupplied kinds w ps) ran.supplied;
                undamaged = λ damage is. cc;
              });
          lacks = λ class is. cc;
        }

    pub ends_closed : RunsCrashSafe kinds (status_of_count to.refused) from.store l l2 a c
    ends_closed = ended_by (nat_eq to.refused 0) refl

  -- and wasn't, since a call failed
  pub ends_unclosed : RunsCrashSafe kinds FolderFault from.store l l2 a c
  ends_unclosed = record {
    anywhere = λ s of.
        let ran = on.anywhere new_session s of in
        stop_runs Disk s on.read l l2 a c (all_pieces on.read) [] on.consumed (omega (arith, on.short)) first (record { shown = ran.shown; emitted = appends_on ran.shown ran.emitted; replies = ran.replies });
    from = λ start serves.
        (let w : World = new_world start in
        let ran = on.ran w serves in
        stops_world w on.read (all_pieces on.read) [] l l2 a c on.consumed (omega (arith, on.short)) first Disk
        (record {
          shown = appends_on _ ran.shown;
          crashes = subst (λ (ps : List Piece). CrashLeavesPieces a c w ps) (sym (append-nil (all_pieces on.read))) (crashes start serves);
          emits = makes_alone _ a.emits c.emits (emits_in_all start serves);
          supplied = ran.supplied;
        }));
    lacks = λ class is. cc;
  }
    where
      nothing_behind : all_pieces on.read ≡ all_pieces on.read ++ [] ++ []
      nothing_behind = sym (append-nil (all_pieces on.read ++ []) ∙ append-nil (all_pieces on.read))

      first : IsFirstPart (script_of l on.read) on.read (all_pieces on.read) []
      first = record {
        rest = [];
        parts = ap all_pieces (script_whole l l2 on.read on.consumed on.at_end) ∙ nothing_behind;
        left_over = [];
        of_read = nothing_behind;
        before = on.read;
        last = [];
        reads = sym (append-nil on.read);
        short = omega arith;
        more = (pieces on.read).last;
        has = refl;
      }

-- ---- the last piece wasn't answered

pub ends_last : {kinds : List Class} (stop : Stop) (from mid : Session) (l l1 l2 : Option (List ℕ)) (a b c : View) (n : ℕ) (none : List ℕ) → IsAtScriptStart from
    → ReadsCrashSafe kinds from mid l l1 a b n → n ≤ 2 ^ 40 → Consumes l1 l2 none → length none ≡ 0 → IsAtEnd l2
    → FailsCrashSafe kinds stop mid b c (resume mid.splitter []).last → RunsCrashSafe kinds (status_of_stop stop) from.store l l2 a c
ends_last stop from mid l l1 l2 a b c n none fresh on few ate empty end fails =
    let t = on.feeds.feeds in
    let last = (resume mid.splitter []).last in
    let consumed = consumes_none l l1 l2 on.read none on.consumed ate empty in
    let bounded : length on.read ≤ SCRIPT_MOST + READ_MOST = omega (arith, on.length_is, few) in
    let all : all_pieces on.read ≡ t.done ++ last ++ [] = all_now from mid on.read fresh t ∙ sym (append-nil (t.done ++ last)) in
    let first : IsFirstPart (script_of l on.read) on.read t.done last = record {
      rest = [];
      parts = ap all_pieces (script_whole l l2 on.read consumed end) ∙ all;
      left_over = [];
      of_read = all;
      before = on.read;
      last = [];
      reads = sym (append-nil on.read);
      short = omega arith;
      more = [];
      has = sym (whole_now from mid on.read fresh t) ∙ sym (append-nil (pieces on.read).whole);
    } in
    record {
      anywhere = λ s of.
          let ran = on.feeds.anywhere new_session s of in
          stop_runs stop s on.read l l2 a c t.done last consumed bounded first
          (subst (λ (ps : List Piece). StoppedButStored stop new_session s ps last a c) (append-nil t.done)
          (stopped_behind_but stop new_session s t.done [] last from mid a b c ran (fails.anywhere (sessions_by grammar_parser new_session s t.done) (state_after s t.done) ran.state)));
      from = λ start serves.
          (let w : World = new_world start in
          let ran = on.feeds.ran w serves in
          stops_world w on.read t.done last l l2 a c consumed bounded first stop
          (subst (λ (ps : List Piece). StoppedPieces _ stop w ps last a c) (append-nil t.done)
          (stopped_behind stop w t.done [] last from mid a b c ran (fails.stopped (after_pieces steps w t.done) ran.serves))));
      lacks = stop_lacks _ stop fails.lacks;
    }

-- ---- the script was too long

pub ends_long : {kinds : List Class} (from mid to : Session) (l l1 l2 : Option (List ℕ)) (a b c : View) (n : ℕ) (chunk part rest : List ℕ) → IsAtScriptStart from
    → ReadsCrashSafe kinds from mid l l1 a b n → n ≤ 2 ^ 40 → Consumes l1 l2 chunk → length chunk ≤ READ_MOST → chunk ≡ part ++ rest
    → n + length part ≡ SCRIPT_MOST → 0 < length rest → FeedsCrashSafe kinds mid to b c part → RunsCrashSafe kinds ScriptTooLong from.store l l2 a c
ends_long from mid to l l1 l2 a b c n chunk part rest fresh on few ate small parts full over more =
    let t = feeds_both from mid to a b c on.read part on.feeds more in
    let read = on.read ++ chunk in
    let consumed = consumes_both l l1 l2 on.read chunk on.consumed ate in
    let size : length (on.read ++ part) ≡ SCRIPT_MOST = omega (arith, length-append on.read part, on.length_is, full) in
    let all : read ≡ (on.read ++ part) ++ rest = rw parts (sym (append_assoc on.read part rest)) in
    let long : SCRIPT_MOST < length read = rw all (omega (arith, length-append (on.read ++ part) rest, size, over)) in
    let bounded : length read ≤ SCRIPT_MOST + READ_MOST = omega (arith, length-append on.read chunk, on.length_is, few, small) in
    let first : take SCRIPT_MOST read ≡ on.read ++ part = rw (all, ← size) (take-append_seam (on.read ++ part) rest) in
    let whole : (pieces (take SCRIPT_MOST read)).whole ≡ t.feeds.done = ap (λ (bytes : List ℕ). (pieces bytes).whole) first ∙ whole_now from to (on.read ++ part) fresh t.feeds in
    let script = script_parts l l2 read consumed in
    let bytes : script_of l read ≡ (on.read ++ part) ++ (rest ++ script.0) = script.1 ∙ ap (λ (r : List ℕ). r ++ script.0) all ∙ append_assoc (on.read ++ part) rest script.0 in
    let cut = ap all_pieces bytes ∙ all_behind _ t.feeds.done (resume to.splitter (rest ++ script.0)) (pieces_on from to (on.read ++ part) fresh t.feeds (rest ++ script.0)) in
    record {
      anywhere = λ s of.
          let ran = t.anywhere new_session s of in
          record {
            read = read;
            shown = ran.shown;
            consumed = consumed;
            emitted = ran.emitted;
            at_end = tt;
            shows = record { whole = subst (λ (ps : List Piece). AreRepliesButStored grammar_parser new_session s ps ran.shown) (sym whole) ran.replies; long = long };
            bounded = bounded;
          };
      from = λ start serves.
          (let w : World = new_world start in
          let ran = t.ran w serves in
          let all = all_pieces (script_of l read) in
          record {
            answers = answers_of steps w all;
            runs = record {
              read = read;
              shown = replies_of steps w t.feeds.done;
              consumed = consumed;
              emitted = ran.shown;
              at_end = tt;
              shows = record {
                whole = first_shown steps w t.feeds.done _ all cut ∙ ap (λ (ps : List Piece). concat (take (length ps) (answers_of steps w all))) (sym whole);
                long = long;
              };
              bounded = bounded;
            };
            replied = refl;
            crashes = widened a c w t.feeds.done _ _ cut ran.crashes;
            told = λ is. absurd is;
            ends = λ is. absurd is;
            emits = record {
              answered = t.feeds.done;
              by_status = sym whole;
              emits = makes_alone _ a.emits c.emits (subst (λ (k : ℕ). MakesEmits k a.emits c.emits) (first_emits w t.feeds.done _ all cut) ran.emits);
            };
            needs = tt;
            undamaged = λ damage is. cc;
          });
      lacks = λ class is. cc;
    }

-- ---- it stopped within what a read gave

pub ends_within : {kinds : List Class} (stop : Stop) (from mid : Session) (l l1 l2 : Option (List ℕ)) (a b c : View) (n : ℕ) (chunk part rest : List ℕ)
    → IsAtScriptStart from → ReadsCrashSafe kinds from mid l l1 a b n → n ≤ 2 ^ 40 → Consumes l1 l2 chunk → length chunk ≤ READ_MOST → chunk ≡ part ++ rest
    → StopsCrashSafe kinds stop mid b c part → RunsCrashSafe kinds (status_of_stop stop) from.store l l2 a c
ends_within stop from mid l l1 l2 a b c n chunk part rest fresh on few ate small parts u =
    let t = on.feeds.feeds in
    let read = on.read ++ chunk in
    let consumed = consumes_both l l1 l2 on.read chunk on.consumed ate in
    let bounded : length read ≤ SCRIPT_MOST + READ_MOST = omega (arith, length-append on.read chunk, on.length_is, few, small) in
    let script = script_parts l l2 read consumed in
    let onward = resume u.stops.stand (u.stops.rest ++ (rest ++ script.0)) in
    let ended = resume u.stops.stand (u.stops.rest ++ (rest ++ [])) in
    let first : IsFirstPart (script_of l read) read (t.done ++ u.stops.done) u.stops.next = record {
      rest = onward.whole ++ onward.last;
      parts = ap all_pieces script.1 ∙ behind_twice (pieces (read ++ script.0)) t.done u.stops.done u.stops.next onward (cut script.0);
      left_over = ended.whole ++ ended.last;
      of_read = ap all_pieces (sym (append-nil read)) ∙ behind_twice (pieces (read ++ [])) t.done u.stops.done u.stops.next ended (cut []);
      before = on.read;
      last = chunk;
      reads = refl;
      short = small;
      more = u.stops.done;
      has = ap (λ (ps : List Piece). ps ++ u.stops.done) (sym (whole_now from mid on.read fresh t));
    } in
    record {
      anywhere = λ s of.
          let ran = on.feeds.anywhere new_session s of in
          stop_runs stop s read l l2 a c (t.done ++ u.stops.done) u.stops.next consumed bounded first
          (stopped_behind_but stop new_session s t.done u.stops.done u.stops.next from mid a b c ran (u.anywhere (sessions_by grammar_parser new_session s t.done) (state_after s t.done) ran.state));
      from = λ start serves.
          (let w : World = new_world start in
          let ran = on.feeds.ran w serves in
          stops_world w read (t.done ++ u.stops.done) u.stops.next l l2 a c consumed bounded first stop
          (stopped_behind stop w t.done u.stops.done u.stops.next from mid a b c ran (u.stopped (after_pieces steps w t.done) ran.serves)));
      lacks = stop_lacks _ stop u.lacks;
    }
  where
    -- the pieces of what was read, and of more behind it
    cut : (more : List ℕ) → pieces ((on.read ++ chunk) ++ more)
        ≡ behind on.feeds.feeds.done (behind (u.stops.done ++ u.stops.next) (resume u.stops.stand (u.stops.rest ++ (rest ++ more))))
    cut more =
        let bytes : (on.read ++ chunk) ++ more ≡ on.read ++ (u.stops.taken ++ (u.stops.rest ++ (rest ++ more))) = rw (parts, u.stops.parts) (simp append_assoc) in
        ap pieces bytes ∙ pieces_on from mid on.read fresh on.feeds.feeds (u.stops.taken ++ (u.stops.rest ++ (rest ++ more)))
        ∙ ap (behind on.feeds.feeds.done) (u.stops.reading (u.stops.rest ++ (rest ++ more)))

-- ---- it goes on

-- nothing was read yet
pub starts_on : {kinds : List Class} (session : Session) (l : Option (List ℕ)) (a : View) → IsReady a session.store → session.refused < 2 ^ 64
    → ReadsCrashSafe kinds session session l l a a 0
starts_on session l a ready small = record { read = []; consumed = consumes_nothing l; length_is = refl; feeds = feeds_nothing session a ready small }

pub safe_behind_chunk : {kinds : List Class} (from mid to : Session) (l l1 l2 : Option (List ℕ)) (a b c : View) (n m : ℕ) (chunk : List ℕ) → ReadsCrashSafe kinds from mid l l1 a b n
    → Consumes l1 l2 chunk → FeedsCrashSafe kinds mid to b c chunk → m ≡ length chunk → ReadsCrashSafe kinds from to l l2 a c (n + m)
safe_behind_chunk from mid to l l1 l2 a b c n m chunk on ate more is = record {
  read = on.read ++ chunk;
  consumed = consumes_both l l1 l2 on.read chunk on.consumed ate;
  length_is = omega (arith, length-append on.read chunk, on.length_is, is);
  feeds = feeds_both from mid to a b c on.read chunk on.feeds more;
}

-- ---- one read

-- a read ended the run
pub ends_at_read : {kinds : List Class} (status : Status) (from mid : Session) (l l1 l2 : Option (List ℕ)) (a b c : View) (n room : ℕ) → IsAtScriptStart from
    → ReadsCrashSafe kinds from mid l l1 a b n → n ≤ 2 ^ 40 → EndsAtRead kinds status mid l1 l2 b c room → (status ≡ ScriptFault → c ≡ b)
    → RunsCrashSafe kinds status from.store l l2 a c
ends_at_read {kinds} status from mid l l1 l2 a b c n room fresh on few (inl (is, kept)) unread =
    subst (λ (v : View). RunsCrashSafe kinds status from.store l l2 a v) (sym (unread is))
    (subst (λ (s : Status). RunsCrashSafe kinds s from.store l l2 a b) (sym is) (ends_fault from mid l l1 l2 a b n fresh on few kept))
ends_at_read {kinds} status from mid l l1 l2 a b c n room fresh on few (inr at) unread =
    subst (λ (s : Status). RunsCrashSafe kinds s from.store l l2 a c) (sym at.stops.gives)
    (ends_within at.stops.stop from mid l l1 l2 a b c n at.read (take room at.read) (drop room at.read) fresh on few at.consumed at.short
    (sym (take-append-drop room at.read)) at.stops.stops)

pub stop_of_store : (stop : Stop) → IsOfStore (status_of_stop stop)
stop_of_store Disk = tt
stop_of_store Output = tt
stop_of_store Memory = tt
stop_of_store (Corrupt damage) = tt
stop_of_store (Spent kind) = tt
stop_of_store (Missing class) = tt

stop_is_of_host : (stop : Stop) → status_of_stop stop ≢ ScriptFault
stop_is_of_host Disk is = cc
stop_is_of_host Output is = cc
stop_is_of_host Memory is = cc
stop_is_of_host (Corrupt damage) is = cc
stop_is_of_host (Spent kind) is = cc
stop_is_of_host (Missing class) is = cc

-- what stopped the session didn't fail to read
pub stops_after_read : {kinds : List Class} {T : Type 0} (status : Status) (old : Session) (a b : View) (bytes : List ℕ) → StopsWith kinds status old a b bytes
    → ¬ (IsErrOf {T = T} (Err status) ScriptFault)
stops_after_read status old a b bytes s is = stop_is_of_host s.stop (let same : status ≡ ScriptFault = cc in sym s.gives ∙ same)

-- that status is of a store that was opened
pub end_of_store : {kinds : List Class} (status : Status) (mid : Session) (l1 l2 : Option (List ℕ)) (b c : View) (room : ℕ) → EndsAtRead kinds status mid l1 l2 b c room → IsOfStore status
end_of_store status mid l1 l2 b c room (inl (is, kept)) = subst (λ (s : Status). IsOfStore s) (sym is) tt
end_of_store status mid l1 l2 b c room (inr at) = subst (λ (s : Status). IsOfStore s) (sym at.stops.gives) (stop_of_store at.stops.stop)

pub count_of_store : (n : ℕ) → IsOfStore (status_of_count n)
count_of_store n = by (nat_eq n 0)
  where
    by : (none : Bool) → IsOfStore (cond none Done (Refused n))
    by true = tt
    by false = tt

-- it gave more than there is room for
pub ends_beyond : {kinds : List Class} (from mid to : Session) (l l1 l2 : Option (List ℕ)) (a b c : View) (n room count : ℕ) → IsAtScriptStart from
    → ReadsCrashSafe kinds from mid l l1 a b n → n + room ≡ SCRIPT_MOST → FeedsRead kinds mid to l1 l2 b c room count → room < count
    → RunsCrashSafe kinds ScriptTooLong from.store l l2 a c
ends_beyond from mid to l l1 l2 a b c n room count fresh on all read more =
    let size : length (take room read.read) ≡ room = length-take-le room read.read (omega (arith, read.length_is, more)) in
    ends_long from mid to l l1 l2 a b c n read.read (take room read.read) (drop room read.read) fresh on (omega (arith, all)) read.consumed
    (omega (arith, read.length_is, read.short)) (sym (take-append-drop room read.read)) (omega (arith, size, all))
    (rw length-drop (omega (arith, read.length_is, more))) read.feeds

-- the run goes on behind a read
pub safe_behind_read : {kinds : List Class} (from mid to : Session) (l l1 l2 : Option (List ℕ)) (a b c : View) (n room count : ℕ) → ReadsCrashSafe kinds from mid l l1 a b n
    → FeedsRead kinds mid to l1 l2 b c room count → count ≤ room → ReadsCrashSafe kinds from to l l2 a c (n + count)
safe_behind_read from mid to l l1 l2 a b c n room count on read fits =
    safe_behind_chunk from mid to l l1 l2 a b c n count read.read on read.consumed
    (subst (λ (bytes : List ℕ). FeedsCrashSafe _ mid to b c bytes) (take_all room read.read (omega (arith, read.length_is, fits))) read.feeds)
    (sym read.length_is)

-- ---- the same analyzers

-- a part of a run over analyzers of the classes that they were of at the start
module _ {k kinds : List Class} (same : k ≡ kinds) where
  pub feeds_same : {old new : Session} {a b : View} {bytes : List ℕ} → FeedsCrashSafe k old new a b bytes → FeedsCrashSafe kinds old new a b bytes
  feeds_same {old} {new} {a} {b} {bytes} = subst (λ (x : List Class). FeedsCrashSafe x old new a b bytes) same

  pub stops_same : {stop : Stop} {old : Session} {a b : View} {bytes : List ℕ} → StopsCrashSafe k stop old a b bytes → StopsCrashSafe kinds stop old a b bytes
  stops_same {stop} {old} {a} {b} {bytes} = subst (λ (x : List Class). StopsCrashSafe x stop old a b bytes) same

  pub reads_same : {old new : Session} {l l2 : Option (List ℕ)} {a b : View} {room count : ℕ} → FeedsRead k old new l l2 a b room count
      → FeedsRead kinds old new l l2 a b room count
  reads_same {old} {new} {l} {l2} {a} {b} {room} {count} = subst (λ (x : List Class). FeedsRead x old new l l2 a b room count) same

  pub ended_same : {status : Status} {old : Session} {l l2 : Option (List ℕ)} {a b : View} {room : ℕ} → EndsAtRead k status old l l2 a b room
      → EndsAtRead kinds status old l l2 a b room
  ended_same {status} {old} {l} {l2} {a} {b} {room} = subst (λ (x : List Class). EndsAtRead x status old l l2 a b room) same

  pub finishes_same : {old new : Session} {a b : View} → FinishesCrashSafe k old new a b → FinishesCrashSafe kinds old new a b
  finishes_same {old} {new} {a} {b} = subst (λ (x : List Class). FinishesCrashSafe x old new a b) same

  pub fails_same : {stop : Stop} {old : Session} {a b : View} {next : List Piece} → FailsCrashSafe k stop old a b next → FailsCrashSafe kinds stop old a b next
  fails_same {stop} {old} {a} {b} {next} = subst (λ (x : List Class). FailsCrashSafe x stop old a b next) same
