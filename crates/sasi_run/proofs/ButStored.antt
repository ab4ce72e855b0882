-- Pieces run on every host, one after another: their replies but those that come from the files or tell of them, from a session and a state that the store is of.
use Rattle.std.proofs.Common.{◌≡◌, ℕ, ◌+◌, ◌≤◌, ◌<◌, ◌^◌, List, [], ◌∷◌, ◌++◌, length, Option, refl, sym, ap, ◌∙◌, subst, arith, append_assoc}
use Rattle.std.specs.Io.KnownBytes.{Consumes}
use Rattle.sasi_host.specs.View.{View, counted_by}
use Rattle.sasi_model.specs.Parsers.{grammar_parser}
use Rattle.sasi_model.specs.Pieces.{Piece}
use Rattle.sasi_model.specs.Sessions.{SessionState, new_session, refusals_by, session_by, sessions_by}
use Rattle.sasi_model.specs.State.{State}
use Rattle.sasi_model.specs.Step.{state_after, step}
use Rattle.sasi_store.specs.declared.store.Store.{Store}
use Rattle.sasi_run.specs.Crashing.{EmittedButStored, IsOfState, RanButStored, StoppedButStored}
use Rattle.sasi_run.specs.Headline.{AreRepliesButStored, EmitsByStatus, IsFirstPart, IsReplyButStored, READ_MOST, ReadsToEnd, Runs, SCRIPT_MOST, but_stored, script_of, status_of_stop}
use Rattle.sasi_run.specs.declared.session.Session.{Session}
use Rattle.sasi_run.specs.declared.session.Stop.{Stop}
use Rattle.sasi_run.specs.declared.session.Stop.TheVariants.{Disk, Output, Memory, Corrupt, Spent, Missing}
use Rattle.sasi_run.proofs.RepliesAtEnd.{without_next}
use Rattle.sasi_run.proofs.RunParts.{appends_both, appends_none, counted_twice}

-- ---- one after another

state_both : (xs ys : List Piece) (s : State) → state_after s (xs ++ ys) ≡ state_after (state_after s xs) ys
state_both [] ys s = refl
state_both (x ∷ xs) ys s = state_both xs ys (step s x).state

session_both : (xs ys : List Piece) (x : SessionState) (s : State) → sessions_by grammar_parser x s (xs ++ ys) ≡ sessions_by grammar_parser (sessions_by grammar_parser x s xs) (state_after s xs) ys
session_both [] ys x s = refl
session_both (p ∷ xs) ys x s = session_both xs ys (session_by grammar_parser x s p) (step s p).state

refused_both : (xs ys : List Piece) (x : SessionState) (s : State)
    → refusals_by grammar_parser x s (xs ++ ys) ≡ refusals_by grammar_parser x s xs + refusals_by grammar_parser (sessions_by grammar_parser x s xs) (state_after s xs) ys
refused_both [] ys x s = omega arith
refused_both (p ∷ xs) ys x s = let e = refused_both xs ys (session_by grammar_parser x s p) (step s p).state in omega (arith, e)

replied_both : (xs ys : List Piece) (x : SessionState) (s : State) (a b : List ℕ) → AreRepliesButStored grammar_parser x s xs a
    → AreRepliesButStored grammar_parser (sessions_by grammar_parser x s xs) (state_after s xs) ys b → AreRepliesButStored grammar_parser x s (xs ++ ys) (a ++ b)
replied_both [] ys x s a b first second = subst (AreRepliesButStored grammar_parser x s ys) (ap (λ (l : List ℕ). l ++ b) (sym first)) second
replied_both (p ∷ xs) ys x s a b (reply, others, parts, is, rest) second =
    (reply, others ++ b, ap (λ (l : List ℕ). l ++ b) parts ∙ append_assoc reply others b, is, replied_both xs ys (session_by grammar_parser x s p) (step s p).state others b rest second)

-- nothing was run
pub ran_nothing_but : (x : SessionState) (s : State) (old new : Session) (a : View) → old.refused < 2 ^ 64 → new.store ≡ old.store → new.refused ≡ old.refused
    → IsOfState old.store x s → RanButStored x s [] old new a a
ran_nothing_but x s old new a small store count of = record {
  state = subst (λ (k : Store). IsOfState k x s) (sym store) of;
  shown = [];
  emitted = appends_none a.emitted;
  replies = refl;
  count = omega (arith, count, small);
}

-- some pieces, and then others
pub ran_both_but : (x : SessionState) (s : State) (xs ys : List Piece) (old mid new : Session) (a b c : View) → RanButStored x s xs old mid a b
    → RanButStored (sessions_by grammar_parser x s xs) (state_after s xs) ys mid new b c → RanButStored x s (xs ++ ys) old new a c
ran_both_but x s xs ys old mid new a b c t u =
    let onward : SessionState = sessions_by grammar_parser x s xs in
    let later : State = state_after s xs in
    record {
      state = subst (IsOfState new.store (sessions_by grammar_parser x s (xs ++ ys))) (sym (state_both xs ys s))
          (subst (λ (y : SessionState). IsOfState new.store y (state_after later ys)) (sym (session_both xs ys x s)) u.state);
      shown = t.shown ++ u.shown;
      emitted = appends_both a.emitted b.emitted c.emitted t.shown u.shown t.emitted u.emitted;
      replies = replied_both xs ys x s t.shown u.shown t.replies u.replies;
      count = u.count ∙ ap (λ n. counted_by n (refusals_by grammar_parser onward later ys)) t.count
          ∙ counted_twice old.refused (refusals_by grammar_parser x s xs) (refusals_by grammar_parser onward later ys) ∙ ap (counted_by old.refused) (sym (refused_both xs ys x s));
    }

replied_later : (stop : Stop) (x : SessionState) (s : State) (xs done next : List Piece) (first shown : List ℕ) → AreRepliesButStored grammar_parser x s xs first
    → EmittedButStored stop (sessions_by grammar_parser x s xs) (state_after s xs) done next shown → EmittedButStored stop x s (xs ++ done) next (first ++ shown)
replied_later Memory x s xs done next first shown before at = replied_both xs done x s first shown before at
replied_later Disk x s xs done next first shown before at = replied_both xs done x s first shown before at
replied_later (Corrupt damage) x s xs done next first shown before at = replied_both xs done x s first shown before at
replied_later (Missing class) x s xs done next first shown before at = replied_both xs done x s first shown before at
replied_later (Spent kind) x s xs done next first shown before (piece, one, at) = (piece, one, replied_both xs done x s first shown before at)
replied_later Output x s xs done next first shown before (piece, whole, front, back, one, at, reply, parts) = (
  piece,
  first ++ whole,
  front,
  back,
  one,
  replied_both xs done x s first whole before at,
  subst (λ (t : State). IsReplyButStored grammar_parser (sessions_by grammar_parser x s (xs ++ done)) t piece (front ++ back)) (sym (state_both xs done s))
      (subst (λ (y : SessionState). IsReplyButStored grammar_parser y (state_after (state_after s xs) done) piece (front ++ back)) (sym (session_both xs done x s)) reply),
  ap (λ (l : List ℕ). first ++ l) parts ∙ sym (append_assoc first whole front),
)

-- some pieces, and then a stop
pub stopped_behind_but : (stop : Stop) (x : SessionState) (s : State) (xs done next : List Piece) (old mid : Session) (a b c : View) → RanButStored x s xs old mid a b
    → StoppedButStored stop (sessions_by grammar_parser x s xs) (state_after s xs) done next b c → StoppedButStored stop x s (xs ++ done) next a c
stopped_behind_but stop x s xs done next old mid a b c t u = record {
  shown = t.shown ++ u.shown;
  emitted = appends_both a.emitted b.emitted c.emitted t.shown u.shown t.emitted u.emitted;
  replies = replied_later stop x s xs done next t.shown u.shown t.replies u.replies;
}

-- `stand` is the session with what the splitter has read since
pub ran_from_but : (x : SessionState) (s : State) (pieces : List Piece) (old stand new : Session) (a b : View) → stand.refused ≡ old.refused → RanButStored x s pieces stand new a b
    → RanButStored x s pieces old new a b
ran_from_but x s pieces old stand new a b count ran = record {
  state = ran.state;
  shown = ran.shown;
  emitted = ran.emitted;
  replies = ran.replies;
  count = ran.count ∙ ap (λ n. counted_by n (refusals_by grammar_parser x s pieces)) count;
}

-- ---- a run that stopped

stop_anywhere : (stop : Stop) (left : Option (List ℕ)) → ReadsToEnd (status_of_stop stop) left
stop_anywhere Memory left = tt
stop_anywhere Disk left = tt
stop_anywhere Output left = tt
stop_anywhere (Corrupt damage) left = tt
stop_anywhere (Spent kind) left = tt
stop_anywhere (Missing class) left = tt

stop_shows : (stop : Stop) (s : State) (script read : List ℕ) (done next : List Piece) (shown : List ℕ) → IsFirstPart script read done next → EmittedButStored stop new_session s done next shown
    → EmitsByStatus grammar_parser (but_stored grammar_parser) (status_of_stop stop) s script read shown
stop_shows Memory s script read done next shown first at = record { done = done; first = without_next script read done next first; replied = at }
stop_shows Disk s script read done next shown first at = record { done = done; first = without_next script read done next first; replied = at }
stop_shows (Corrupt damage) s script read done next shown first at = record { done = done; first = without_next script read done next first; replied = at }
stop_shows (Missing class) s script read done next shown first at = record { done = done; first = without_next script read done next first; replied = at }
stop_shows (Spent kind) s script read done next shown first (piece, one, at) =
    record { done = done; piece = piece; first = subst (λ (ps : List Piece). IsFirstPart script read done ps) one first; replied = at }
stop_shows Output s script read done next shown first (piece, whole, front, back, one, at, reply, parts) = record {
  done = done;
  piece = piece;
  first = subst (λ (ps : List Piece). IsFirstPart script read done ps) one first;
  whole = whole;
  front = front;
  back = back;
  replied = at;
  reply = reply;
  parts = parts;
}

pub stop_runs : (stop : Stop) (s : State) (read : List ℕ) (l l2 : Option (List ℕ)) (a c : View) (done next : List Piece) → Consumes l l2 read → length read ≤ SCRIPT_MOST + READ_MOST
    → IsFirstPart (script_of l read) read done next → StoppedButStored stop new_session s done next a c → Runs grammar_parser (but_stored grammar_parser) (status_of_stop stop) s l l2 a.emitted c.emitted
stop_runs stop s read l l2 a c done next consumed bounded first stopped = record {
  read = read;
  shown = stopped.shown;
  consumed = consumed;
  emitted = stopped.emitted;
  at_end = stop_anywhere stop l2;
  shows = stop_shows stop s (script_of l read) read done next stopped.shown first stopped.replies;
  bounded = bounded;
}
