-- What a run has shown where it stops, and which pieces were read until then. `from` is the session at the script's start, and `mid`
-- where it stands before the last read.
use Rattle.std.proofs.Common.{◌≡◌, ℕ, ◌+◌, ◌≤◌, List, [], ◌∷◌, ◌++◌, length, take, Option, None, Some, refl, sym, ap, ◌∙◌, subst, append_assoc}
use Rattle.std.specs.List.{concat}
use Rattle.std.proofs.lemmas.List.{append-nil}
use Rattle.std.specs.Io.KnownBytes.{Consumes, IsAtEnd}
use Rattle.sasi_types.specs.declared.class.Class.{Class}
use Rattle.sasi_host.specs.View.{View}
use Rattle.sasi_layout.specs.Layout.{state_of}
use Rattle.sasi_layout.specs.Running.{replies_of}
use Rattle.sasi_store.specs.Worlds.{World, steps}
use Rattle.sasi_model.specs.Pieces.{Piece, Pieces, pieces, all_pieces}
use Rattle.sasi_cql.specs.SplitterState.{resume, behind}
use Rattle.sasi_cql.proofs.Resumed.{resume_nothing}
use Rattle.sasi_run.specs.Crashing.{CrashLeavesPieces, RunsWorld, StoppedPieces}
use Rattle.sasi_run.specs.EmitCounts.{MakesEmits, emits_for, emits_in}
use Rattle.sasi_run.specs.Headline.{EmitsCutReply, EmitsFirstReplies, IsFirstPart, SCRIPT_MOST, READ_MOST, first_of, script_of, status_of_stop}
use Rattle.sasi_run.specs.Session.{Feeds, IsAtScriptStart}
use Rattle.sasi_run.specs.Shapes.{answers_of}
use Rattle.sasi_run.specs.declared.session.Session.{Session}
use Rattle.sasi_run.specs.declared.session.Stop.{Stop}
use Rattle.sasi_run.specs.declared.session.Stop.TheVariants.{Disk, Output, Memory, Corrupt, Spent, Missing}
use Rattle.sasi_run.proofs.Joining.{first_shown, next_answer}
use Rattle.sasi_run.proofs.Running.{leaves_more}
use Rattle.sasi_run.proofs.Worlds.{first_emits}

-- ---- the pieces of what was read

-- and of more behind it
pub pieces_on : (from to : Session) (read : List ℕ) → IsAtScriptStart from → (t : Feeds from to read) → (more : List ℕ)
    → pieces (read ++ more) ≡ behind t.done (resume to.splitter more)
pieces_on from to read fresh t more = sym (fresh.reading (read ++ more)) ∙ t.reading more

pieces_now : (from to : Session) (read : List ℕ) → IsAtScriptStart from → (t : Feeds from to read) → pieces read ≡ behind t.done (resume to.splitter [])
pieces_now from to read fresh t = ap pieces (sym (append-nil read)) ∙ pieces_on from to read fresh t []

pub whole_now : (from to : Session) (read : List ℕ) → IsAtScriptStart from → (t : Feeds from to read) → (pieces read).whole ≡ t.done
whole_now from to read fresh t = ap (λ (p : Pieces). p.whole) (pieces_now from to read fresh t)
    ∙ ap (λ w. t.done ++ w) (resume_nothing to.splitter) ∙ append-nil t.done

pub all_now : (from to : Session) (read : List ℕ) → IsAtScriptStart from → (t : Feeds from to read) → all_pieces read ≡ t.done ++ (resume to.splitter []).last
all_now from to read fresh t = rw (whole_now from to read fresh t)
    (ap (λ (p : Pieces). t.done ++ p.last) (pieces_now from to read fresh t))

pub all_behind : (p : Pieces) (done : List Piece) (q : Pieces) → p ≡ behind done q → p.whole ++ p.last ≡ done ++ (q.whole ++ q.last)
all_behind p done q is = ap (λ (x : Pieces). x.whole ++ x.last) is ∙ append_assoc done q.whole q.last

pub behind_twice : (p : Pieces) (first done next : List Piece) (q : Pieces) → p ≡ behind first (behind (done ++ next) q)
    → p.whole ++ p.last ≡ (first ++ done) ++ next ++ (q.whole ++ q.last)
behind_twice p first done next q is = ap (λ (x : Pieces). x.whole ++ x.last) is ∙ simp append_assoc

-- ---- the script

-- what was read is a first part of the script
pub script_parts : (l l2 : Option (List ℕ)) (read : List ℕ) → Consumes l l2 read → (more : List ℕ) × (script_of l read ≡ read ++ more)
script_parts None l2 read consumed = ([], sym (append-nil read))
script_parts (Some script) None read consumed = absurd consumed
script_parts (Some script) (Some left) read consumed = (left, consumed)

-- and the whole of it at its end
pub script_whole : (l l2 : Option (List ℕ)) (read : List ℕ) → Consumes l l2 read → IsAtEnd l2 → script_of l read ≡ read
script_whole None l2 read consumed end = refl
script_whole (Some script) None read consumed end = absurd consumed
script_whole (Some script) (Some left) read consumed end = consumed ∙ ap (λ (l : List ℕ). read ++ l) end ∙ append-nil read

-- the pieces that were answered are a first part of those of the script
pub answered_first : (from to : Session) (l l2 : Option (List ℕ)) (read : List ℕ) → IsAtScriptStart from → (t : Feeds from to read) → Consumes l l2 read
    → (rest : List Piece) × (all_pieces (script_of l read) ≡ t.done ++ rest)
answered_first from to l l2 read fresh t consumed =
    let parts = script_parts l l2 read consumed in
    (_, ap all_pieces parts.1 ∙ all_behind _ t.done (resume to.splitter parts.0) (pieces_on from to read fresh t parts.0))

pub widened : (a b : View) (w : World) (done rest all : List Piece) → all ≡ done ++ rest → CrashLeavesPieces a b w done → CrashLeavesPieces a b w all
widened a b w done rest all is leaves = subst (λ (l : List Piece). CrashLeavesPieces a b w l) (sym is) (leaves_more a b w done rest leaves)

-- ---- a run that stopped

-- where nothing of the next reply was emitted
pub without_next : (script read : List ℕ) (done next : List Piece) → IsFirstPart script read done next → IsFirstPart script read done []
without_next script read done next first = record {
  rest = next ++ first.rest;
  parts = first.parts ∙ rw (append_assoc, append-nil) refl;
  left_over = next ++ first.left_over;
  of_read = first.of_read ∙ rw (append_assoc, append-nil) refl;
  before = first.before;
  last = first.last;
  reads = first.reads;
  short = first.short;
  more = first.more;
  has = first.has;
}

module _ (w : World) (read : List ℕ) (done next : List Piece) (l l2 : Option (List ℕ)) (a c : View) (consumed : Consumes l l2 read)
    (bounded : length read ≤ SCRIPT_MOST + READ_MOST) (first : IsFirstPart (script_of l read) read done next) where
  -- the replies to all pieces of the script
  abbrev all_answers : List (List ℕ)
  all_answers = answers_of steps w (all_pieces (script_of l read))

  parts_are : all_pieces (script_of l read) ≡ done ++ (next ++ first.rest)
  parts_are = first.parts ∙ append_assoc done next first.rest

  shown_is : replies_of steps w done ≡ concat (take (length done) all_answers)
  shown_is = first_shown steps w done (next ++ first.rest) (all_pieces (script_of l read)) parts_are

  abbrev first_replies : EmitsFirstReplies (first_of all_answers) (state_of w.layout) (script_of l read) read (replies_of steps w done)
  first_replies = record { done = done; first = without_next (script_of l read) read done next first; replied = shown_is }

  crashes : CrashLeavesPieces a c w (done ++ next) → CrashLeavesPieces a c w (all_pieces (script_of l read))
  crashes leaves = widened a c w (done ++ next) first.rest (all_pieces (script_of l read)) first.parts leaves

  makes : (others : ℕ) → MakesEmits (emits_in w done + others) a.emits c.emits → MakesEmits (emits_for (take (length done) all_answers) + others) a.emits c.emits
  makes others counted = subst (λ (n : ℕ). MakesEmits (n + others) a.emits c.emits)
      (first_emits w done (next ++ first.rest) (all_pieces (script_of l read)) parts_are) counted

  -- from a world
  pub stops_world : {kinds : List Class} (stop : Stop) → StoppedPieces kinds stop w done next a c → RunsWorld kinds (status_of_stop stop) w l l2 a c
  stops_world Memory stopped = record {
    answers = all_answers;
    runs = record { read = read; shown = replies_of steps w done; consumed = consumed; emitted = stopped.shown; at_end = tt; shows = first_replies; bounded = bounded };
    replied = refl;
    crashes = crashes stopped.crashes;
    told = λ is. absurd is;
    ends = λ is. absurd is;
    emits = record { answered = done; by_status = (first_replies, refl); emits = makes 0 stopped.emits };
    needs = tt;
    undamaged = λ damage is. cc;
  }
  stops_world Disk stopped = record {
    answers = all_answers;
    runs = record { read = read; shown = replies_of steps w done; consumed = consumed; emitted = stopped.shown; at_end = tt; shows = first_replies; bounded = bounded };
    replied = refl;
    crashes = crashes stopped.crashes;
    told = λ is. absurd is;
    ends = λ is. absurd is;
    emits = record { answered = done; by_status = (first_replies, refl); emits = makes 0 stopped.emits };
    needs = tt;
    undamaged = λ damage is. cc;
  }
  stops_world (Corrupt damage) stopped = absurd stopped.shown
  stops_world (Spent kind) stopped =
      let at = stopped.shown in
      let here : IsFirstPart (script_of l read) read done (at.0 ∷ []) = subst (λ (ps : List Piece). IsFirstPart (script_of l read) read done ps) at.1 first in
      record {
        answers = all_answers;
        runs = record {
          read = read;
          shown = replies_of steps w done;
          consumed = consumed;
          emitted = at.2;
          at_end = tt;
          shows = record { done = done; piece = at.0; first = here; replied = shown_is };
          bounded = bounded;
        };
        replied = refl;
        crashes = crashes stopped.crashes;
        told = λ is. absurd is;
        ends = λ is. absurd is;
        emits = record {
          answered = done;
          by_status = (record { done = done; piece = at.0; first = here; replied = shown_is }, refl);
          emits = makes 0 stopped.emits;
        };
        needs = record { done = done; piece = at.0; first = here; replied = refl; analyzer = at.3; spends = at.4; earlier = stopped.supplied };
        undamaged = λ damage is. cc;
      }
  stops_world (Missing class) stopped =
      let at = stopped.shown in
      let here : IsFirstPart (script_of l read) read done (at.0 ∷ []) = subst (λ (ps : List Piece). IsFirstPart (script_of l read) read done ps) at.1 first in
      record {
        answers = all_answers;
        runs = record { read = read; shown = replies_of steps w done; consumed = consumed; emitted = at.2; at_end = tt; shows = first_replies; bounded = bounded };
        replied = refl;
        crashes = crashes stopped.crashes;
        told = λ is. absurd is;
        ends = λ is. absurd is;
        emits = record { answered = done; by_status = (first_replies, refl); emits = makes 0 stopped.emits };
        needs = record { done = done; piece = at.0; first = here; replied = refl; lacks = at.3; earlier = stopped.supplied };
        undamaged = λ damage is. cc;
      }
  stops_world Output stopped =
      let at = stopped.shown in
      let here : IsFirstPart (script_of l read) read done (at.0 ∷ []) = subst (λ (ps : List Piece). IsFirstPart (script_of l read) read done ps) at.3 first in
      let cut : EmitsCutReply (first_of all_answers) (state_of w.layout) (script_of l read) read (replies_of steps w done ++ at.1) = record {
        done = done;
        piece = at.0;
        first = here;
        whole = replies_of steps w done;
        front = at.1;
        back = at.2;
        replied = shown_is;
        reply = next_answer steps w done (next ++ first.rest) (all_pieces (script_of l read)) parts_are at.0 first.rest (ap (λ (ps : List Piece). ps ++ first.rest) at.3) ∙ at.4;
        parts = refl;
      } in
      record {
        answers = all_answers;
        runs = record {
          read = read;
          shown = replies_of steps w done ++ at.1;
          consumed = consumed;
          emitted = at.5;
          at_end = tt;
          shows = cut;
          bounded = bounded;
        };
        replied = refl;
        crashes = crashes stopped.crashes;
        told = λ is. absurd is;
        ends = λ is. absurd is;
        emits = record { answered = done; by_status = (cut, refl); emits = makes 1 stopped.emits };
        needs = tt;
        undamaged = λ damage is. cc;
      }
