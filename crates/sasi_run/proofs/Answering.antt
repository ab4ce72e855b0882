-- The answer to one piece, and what is fed byte by byte.
use Rattle.std.proofs.Common.{◌≡◌, ℕ, ◌+◌, ◌^◌, ◌<◌, List, [], ◌∷◌, ◌++◌, Option, Some, None, is_some, if◌then◌else◌, refl, sym, ap, ◌∙◌, subst, arith, append_assoc}
use Rattle.std.proofs.lemmas.List.{append-nil}
use Rattle.std.specs.Io.KnownBytes.{Appends}
use Rattle.sasi_types.specs.declared.class.Class.{Class}
use Rattle.sasi_host.specs.View.{AllOut, Emits, View, counted, counted_by}
use Rattle.sasi_host.specs.Disk.{Changes}
use Rattle.sasi_layout.specs.Between.{Between}
use Rattle.sasi_layout.specs.Layout.{state_of}
use Rattle.sasi_layout.specs.Running.{after_pieces}
use Rattle.sasi_layout.specs.Classes.{HasNeeded, LacksNeeded}
use Rattle.sasi_layout.specs.Serving.{known_in_memory}
use Rattle.sasi_layout.specs.Statements.{known_in}
use Rattle.sasi_layout.specs.Spent.{spent}
use Rattle.sasi_store.specs.Cursors.{GivesRows, HasNamesOf}
use Rattle.sasi_store.specs.Worlds.{ServesWorld, World, steps}
use Rattle.sasi_layout.proofs.StatementLaws.{known_is}
use Rattle.sasi_cursors.proofs.Agreement.{agree_names}
use Rattle.sasi_model.specs.Pieces.{Piece}
use Rattle.sasi_model.specs.Asked.{Asked, asks, class_needed}
use Rattle.sasi_model.specs.Refusals.{Known, Refusal}
use Rattle.sasi_model.specs.Parsers.{grammar_parser}
use Rattle.sasi_model.specs.Sessions.{Cursor, SessionState, refused_by, session_by, sessions_by}
use Rattle.sasi_model.specs.State.{State}
use Rattle.sasi_model.specs.Step.{state_after}
use Rattle.sasi_cql.specs.SplitterState.{resume, behind}
use Rattle.sasi_machine.specs.declared.outcome.Outcome.{Outcome}
use Rattle.sasi_machine.specs.Outcome.{outcome_of}
use Rattle.sasi_machine.specs.Prepares.{IsStateOf}
use Rattle.sasi_recover.specs.OpenedFolder.{AnyFolderChange}
use Rattle.sasi_store.specs.Answers.{Answered, AnsweredButRows}
use Rattle.sasi_tables.specs.Faults.{OnMissing, OnSpent, OnStepDamage}
use Rattle.sasi_store.specs.StoreView.{IsReady, store_memory}
use Rattle.sasi_store.specs.declared.store.Store.{Store}
use Rattle.sasi_tables.specs.declared.fault.StepFault.{StepFault}
use Rattle.sasi_tables.specs.declared.fault.StepFault.TheVariants as fault
use Rattle.sasi_run.specs.EmitCounts.{emits_of}
use Rattle.sasi_run.specs.Crashing.{AnswersCrashSafe, CrashLeavesPieces, EmittedButStored, FailsCrashSafe, FeedsCrashSafe, FinishesCrashSafe, IsOfState, LacksAtStop, RanPieces, StoppedPieces, StopsCrashSafe}
use Rattle.sasi_run.specs.FileCalls.{emits_after}
use Rattle.sasi_run.specs.Session.{counted_outcome, refusals_of, stop_of}
use Rattle.sasi_run.specs.declared.session.Session.{Session}
use Rattle.sasi_run.specs.declared.session.Stop.{Stop}
use Rattle.sasi_run.specs.declared.session.Stop.TheVariants.{Memory, Output}
use Rattle.sasi_run.proofs.ButStored.{ran_both_but, ran_from_but, ran_nothing_but, stopped_behind_but}
use Rattle.sasi_run.proofs.Running.{each_of_shape, leaves_answered, leaves_moved, leaves_nothing, ready_still, serves_still}
use Rattle.sasi_run.proofs.EmitLaws.{emits_reply, makes_alone, makes_behind_none, makes_none, makes_one, makes_reply}
use Rattle.sasi_run.proofs.RunParts.{appends_none, ran_both, ran_nothing, reads_on, stopped_behind, unmoved}

-- ---- the answer

-- what a store promises of a piece that it didn't do
pub record StepFailed (kinds : List Class) (fault : StepFault) (session : Session) (a b : View) (piece : Piece) : Type 0 where
  pub change : Changes AnyFolderChange a b
  pub moments : (w : World) → ServesWorld a session.store w → Changes (λ x y. Between w.layout (steps.moves w piece) y) a b
  pub spends : OnSpent (λ kind. (w : World) → ServesWorld a session.store w → spent w.layout (steps.moves w piece) ≡ Some kind) fault
  pub undamaged : (w : World) → ServesWorld a session.store w → OnStepDamage (λ _. ⊥) fault
  pub analyzer : OnSpent (λ kind. HasNeeded kinds (class_needed (asks (known_in_memory (store_memory session.store)) piece))) fault
  pub lacks : OnMissing (LacksNeeded kinds (asks (known_in_memory (store_memory session.store)) piece)) fault

-- what the store judges a piece by is what is known of the layout that it serves
known_served : (v : View) (store : Store) (w : World) → ServesWorld v store w → known_in_memory (store_memory store) ≡ known_in w.layout
known_served v store w serves = λ i. record { tables = serves.serves.definitions i; max_timestamp = serves.serves.timestamp i }

stopped_moving : {kinds : List Class} (f : StepFault) (session : Session) (a b : View) (piece : Piece) → StepFailed kinds f session a b piece → (w : World)
    → ServesWorld a session.store w → StoppedPieces kinds (stop_of f) w [] (piece ∷ []) a b
stopped_moving fault.Failed session a b piece failed w serves = record {
  shown = unmoved a b failed.change.emitted;
  crashes = leaves_moved a b w piece (failed.moments w serves);
  emits = makes_behind_none 0 a.emits b.emits (makes_none a.emits b.emits failed.change.emits);
  supplied = tt;
}
stopped_moving fault.OutOfMemory session a b piece failed w serves = record {
  shown = unmoved a b failed.change.emitted;
  crashes = leaves_moved a b w piece (failed.moments w serves);
  emits = makes_behind_none 0 a.emits b.emits (makes_none a.emits b.emits failed.change.emits);
  supplied = tt;
}
stopped_moving (fault.Damaged damage) session a b piece failed w serves = absurd (failed.undamaged w serves)
stopped_moving {kinds} (fault.AnalyzerMissing class) session a b piece failed w serves = record {
  shown = (
    piece,
    refl,
    unmoved a b failed.change.emitted,
    subst (λ (known : Known). LacksNeeded kinds (asks known piece) class) (known_served a session.store w serves) failed.lacks,
  );
  crashes = leaves_moved a b w piece (failed.moments w serves);
  emits = makes_behind_none 0 a.emits b.emits (makes_none a.emits b.emits failed.change.emits);
  supplied = tt;
}
stopped_moving {kinds} (fault.NumbersSpent kind) session a b piece failed w serves = record {
  shown = (
    piece,
    refl,
    unmoved a b failed.change.emitted,
    subst (λ (known : Known). HasNeeded kinds (class_needed (asks known piece))) (known_served a session.store w serves) failed.analyzer,
    failed.spends w serves,
  );
  crashes = leaves_moved a b w piece (failed.moments w serves);
  emits = makes_behind_none 0 a.emits b.emits (makes_none a.emits b.emits failed.change.emits);
  supplied = tt;
}

-- nothing of the piece was emitted
stopped_silent : (f : StepFault) (x : SessionState) (s : State) (piece : Piece) → EmittedButStored (stop_of f) x s [] (piece ∷ []) []
stopped_silent fault.Failed x s piece = refl
stopped_silent fault.OutOfMemory x s piece = refl
stopped_silent (fault.Damaged damage) x s piece = refl
stopped_silent (fault.AnalyzerMissing class) x s piece = refl
stopped_silent (fault.NumbersSpent kind) x s piece = (piece, refl, refl)

-- no analyzer is of the class that is missing
missing_lacks : (kinds : List Class) (f : StepFault) (asked : Asked) → OnMissing (LacksNeeded kinds asked) f → LacksAtStop kinds (stop_of f)
missing_lacks kinds fault.Failed asked lacks = tt
missing_lacks kinds fault.OutOfMemory asked lacks = tt
missing_lacks kinds (fault.Damaged damage) asked lacks = tt
missing_lacks kinds (fault.NumbersSpent kind) asked lacks = tt
missing_lacks kinds (fault.AnalyzerMissing class) asked lacks = lacks.lacks

-- the store failed before anything was emitted
pub fails_moving : {kinds : List Class} (f : StepFault) (session : Session) (a b : View) (piece : Piece) → StepFailed kinds f session a b piece
    → FailsCrashSafe kinds (stop_of f) session a b (piece ∷ [])
fails_moving f session a b piece failed = record {
  anywhere = λ x s of. record { shown = []; emitted = unmoved a b failed.change.emitted; replies = stopped_silent f x s piece };
  stopped = λ w serves. stopped_moving f session a b piece failed w serves;
  lacks = missing_lacks _ f (asks (known_in_memory (store_memory session.store)) piece) failed.lacks;
}

-- what a store promises of a piece that it did
pub record StepDone (kinds : List Class) (session : Session) (later : Store) (a b : View) (piece : Piece) (reply : List ℕ) (outcome : Outcome) : Type 0 where
  pub change : Changes AnyFolderChange a b
  pub moments : (w : World) → ServesWorld a session.store w → Changes (λ x y. Between w.layout (steps.moves w piece) y) a b
  pub answers : (w : World) → ServesWorld a session.store w → Answered b later.parts later.session w piece reply outcome
  pub anywhere : (x : SessionState) (s : State) → HasNamesOf session.store.session.cursors x → IsStateOf (known_in_memory (store_memory session.store)) s → AnsweredButRows later.parts later.session x s piece reply outcome
  pub analyzer : HasNeeded kinds (class_needed (asks (known_in_memory (store_memory session.store)) piece))

module _ {kinds : List Class} (session : Session) (later : Store) (a b d : View) (piece : Piece) (reply bytes : List ℕ) (outcome : Outcome)
    (done : StepDone kinds session later a b piece reply outcome) (same : bytes ≡ reply) (emits : Emits bytes b d) where
  crashes : (w : World) → ServesWorld a session.store w → CrashLeavesPieces a d w (piece ∷ [])
  crashes w serves =
      let is = done.answers w serves in
      leaves_answered a b w piece (done.moments w serves) d bytes (same ∙ is.reply_is) (each_of_shape b (store_memory later) _ is.serves.serves) emits

  -- the reply was not emitted whole
  pub fails_shown : d.emits ≡ counted b.emits → FailsCrashSafe kinds Output session a d (piece ∷ [])
  fails_shown once = record {
    anywhere = λ x s of.
        let is = done.anywhere x s of.cursors of.known in
        record {
          shown = emits.front;
          emitted = subst (λ (l : Option (List ℕ)). Appends l d.emitted emits.front) done.change.emitted emits.out;
          replies = (piece, [], emits.front, emits.back, refl, refl, (λ none. sym emits.parts ∙ same ∙ is.reply_is none), refl);
        };
    stopped = λ w serves.
        (let is = done.answers w serves in
        record {
          shown = (
            piece,
            emits.front,
            emits.back,
            refl,
            sym (same ∙ is.reply_is) ∙ emits.parts,
            subst (λ (l : Option (List ℕ)). Appends l d.emitted emits.front) done.change.emitted emits.out,
          );
          crashes = crashes w serves;
          emits = makes_behind_none 1 a.emits d.emits (makes_one a.emits d.emits (once ∙ ap counted done.change.emits));
          supplied = tt;
        });
    lacks = tt;
  }

  counts : (refused : ℕ) (o : Option Refusal) → refused < 2 ^ 64
      → counted_outcome refused (outcome_of o) ≡ counted_by refused ((if is_some o then 1 else 0) + 0)
  counts refused None small = omega arith
  counts refused (Some r) small = omega arith

  pub answers_on : (new : Session) → new.store ≡ later → session.refused < 2 ^ 64 → new.refused ≡ counted_outcome session.refused outcome
      → new.splitter ≡ session.splitter → IsReady b later → AllOut bytes b d → d.emits ≡ emits_after b.emits bytes → AnswersCrashSafe kinds session new a d piece
  answers_on new store_is small count reading ready all call = record {
    reading = reading;
    anywhere = λ x s of.
        let is = done.anywhere x s of.cursors of.known in
        record {
          state = subst (λ (k : Store). IsOfState k (session_by grammar_parser x s piece) (state_after s (piece ∷ []))) (sym store_is) (record { known = is.state_is; cursors = is.cursors_are });
          shown = bytes;
          emitted = subst (λ (l : Option (List ℕ)). Appends l d.emitted bytes) done.change.emitted all;
          replies = (bytes, [], sym (append-nil bytes), (λ none. same ∙ is.reply_is none), refl);
          count = count ∙ ap (counted_outcome session.refused) is.outcome_is ∙ counts session.refused (refused_by grammar_parser x s piece) small;
        };
    ready = rw store_is (ready_still b d later emits.files emits.image ready);
    ran = λ w serves.
        (let is = done.answers w serves in
        record {
          serves = rw store_is (serves_still b d later _ emits.files emits.image ready is.serves);
          shown = subst (λ (r : List ℕ). Appends a.emitted d.emitted r) (same ∙ is.reply_is ∙ sym (append-nil (steps.reply w piece)))
              (subst (λ (l : Option (List ℕ)). Appends l d.emitted bytes) done.change.emitted all);
          count = count ∙ ap (counted_outcome session.refused) is.outcome_is ∙ counts session.refused (refused_by grammar_parser w.session (state_of w.layout) piece) small;
          crashes = crashes w serves;
          emits = makes_alone (emits_of (steps.reply w piece)) a.emits d.emits
              (makes_reply a.emits d.emits (steps.reply w piece) (emits_reply a.emits b.emits d.emits bytes (steps.reply w piece) done.change.emits (same ∙ is.reply_is) call));
          supplied = (
            record {
              analyzer = subst (λ (known : Known). HasNeeded kinds (class_needed (asks known piece))) (known_served a session.store w serves) done.analyzer;
              numbers = is.unspent;
            },
            tt,
          );
        });
  }

-- ---- one byte

-- no piece ended
pub feeds_no_end : {kinds : List Class} (old new : Session) (a : View) (byte : ℕ) → IsReady a old.store → old.refused < 2 ^ 64
    → ((left : List ℕ) → resume old.splitter (byte ∷ left) ≡ behind [] (resume new.splitter left)) → new.store ≡ old.store → new.refused ≡ old.refused
    → FeedsCrashSafe kinds old new a a (byte ∷ [])
feeds_no_end old new a byte ready small next store count = record {
  feeds = record { done = []; reading = next };
  anywhere = λ x s of. ran_nothing_but x s old new a small store count of;
  ready = rw store ready;
  ran = λ w serves. ran_nothing w old new a small store count serves;
}

-- nothing was taken yet
pub feeds_nothing : {kinds : List Class} (session : Session) (a : View) → IsReady a session.store → session.refused < 2 ^ 64 → FeedsCrashSafe kinds session session a a []
feeds_nothing session a ready small = record {
  feeds = record { done = []; reading = λ left. refl };
  anywhere = λ x s of. ran_nothing_but x s session session a small refl refl of;
  ready = ready;
  ran = λ w serves. ran_nothing w session session a small refl refl serves;
}

-- `stand` is the session with what the splitter has read since
module _ (old stand : Session) (store : stand.store ≡ old.store) (count : stand.refused ≡ old.refused) where
  stands_of : (x : SessionState) (s : State) → IsOfState old.store x s → IsOfState stand.store x s
  stands_of x s of = subst (λ (k : Store). IsOfState k x s) (sym store) of

  ran_from : {kinds : List Class} (w : World) (pieces : List Piece) (new : Session) (a b : View) → RanPieces kinds w pieces stand new a b → RanPieces kinds w pieces old new a b
  ran_from w pieces new a b ran = record {
    serves = ran.serves;
    shown = ran.shown;
    count = ran.count ∙ ap (λ n. counted_by n (refusals_of w pieces)) count;
    crashes = ran.crashes;
    emits = ran.emits;
    supplied = ran.supplied;
  }

  -- a piece ended, and was answered
  pub feeds_answer : {kinds : List Class} (new : Session) (a b : View) (byte : ℕ) (piece : Piece)
      → ((left : List ℕ) → resume old.splitter (byte ∷ left) ≡ behind (piece ∷ []) (resume stand.splitter left)) → AnswersCrashSafe kinds stand new a b piece
      → FeedsCrashSafe kinds old new a b (byte ∷ [])
  feeds_answer new a b byte piece next answered = record {
    feeds = record { done = piece ∷ []; reading = λ left. rw answered.reading (next left) };
    anywhere = λ x s of. ran_from_but x s (piece ∷ []) old stand new a b count (answered.anywhere x s (stands_of x s of));
    ready = answered.ready;
    ran = λ w serves. ran_from w (piece ∷ []) new a b (answered.ran w (rw store serves));
  }

  -- it stopped at the answer
  pub stops_at : {kinds : List Class} (stop : Stop) (a b : View) (byte : ℕ) (piece : Piece)
      → ((left : List ℕ) → resume old.splitter (byte ∷ left) ≡ behind (piece ∷ []) (resume stand.splitter left)) → FailsCrashSafe kinds stop stand a b (piece ∷ [])
      → StopsCrashSafe kinds stop old a b (byte ∷ [])
  stops_at stop a b byte piece next fails = record {
    stops = record { taken = byte ∷ []; rest = []; parts = refl; done = []; next = piece ∷ []; stand = stand.splitter; reading = next };
    anywhere = λ x s of. fails.anywhere x s (stands_of x s of);
    stopped = λ w serves. fails.stopped w (rw store serves);
    lacks = fails.lacks;
  }

  -- ---- the last piece

  pub finishes_answer : {kinds : List Class} (new : Session) (a b : View) (piece : Piece) → (resume old.splitter []).last ≡ piece ∷ [] → AnswersCrashSafe kinds stand new a b piece
      → FinishesCrashSafe kinds old new a b
  finishes_answer new a b piece last answered = record {
    anywhere = λ x s of. rw last (ran_from_but x s (piece ∷ []) old stand new a b count (answered.anywhere x s (stands_of x s of)));
    ready = answered.ready;
    ran = λ w serves. rw last (ran_from w (piece ∷ []) new a b (answered.ran w (rw store serves)));
  }

  pub fails_last : {kinds : List Class} (stop : Stop) (a b : View) (piece : Piece) → (resume old.splitter []).last ≡ piece ∷ [] → FailsCrashSafe kinds stop stand a b (piece ∷ [])
      → FailsCrashSafe kinds stop old a b (resume old.splitter []).last
  fails_last stop a b piece last fails = record {
    anywhere = λ x s of. rw last (fails.anywhere x s (stands_of x s of));
    stopped = λ w serves. rw last (fails.stopped w (rw store serves));
    lacks = fails.lacks;
  }

pub finishes_nothing : {kinds : List Class} (old new : Session) (a : View) → (resume old.splitter []).last ≡ [] → new.store ≡ old.store → new.refused ≡ old.refused
    → old.refused < 2 ^ 64 → IsReady a old.store → FinishesCrashSafe kinds old new a a
finishes_nothing old new a last store count small ready = record {
  anywhere = λ x s of. rw last (ran_nothing_but x s old new a small store count of);
  ready = rw store ready;
  ran = λ w serves. rw last (ran_nothing w old new a small store count serves);
}

-- it stopped before the byte was taken
pub stops_before : {kinds : List Class} (old : Session) (a : View) (bytes : List ℕ) → StopsCrashSafe kinds Memory old a a bytes
stops_before old a bytes = record {
  stops = record { taken = []; rest = bytes; parts = refl; done = []; next = []; stand = old.splitter; reading = λ left. refl };
  anywhere = λ x s of. record { shown = []; emitted = appends_none a.emitted; replies = refl };
  stopped = λ w serves. record { shown = appends_none a.emitted; crashes = leaves_nothing a w []; emits = makes_behind_none 0 a.emits a.emits (makes_none a.emits a.emits refl); supplied = tt };
  lacks = tt;
}

-- ---- bytes, one part after another

pub feeds_both : {kinds : List Class} (old mid new : Session) (a b c : View) (xs ys : List ℕ) → FeedsCrashSafe kinds old mid a b xs → FeedsCrashSafe kinds mid new b c ys
    → FeedsCrashSafe kinds old new a c (xs ++ ys)
feeds_both old mid new a b c xs ys t u = record {
  feeds = record {
    done = t.feeds.done ++ u.feeds.done;
    reading = reads_on old.splitter mid.splitter xs ys t.feeds.done t.feeds.reading new.splitter u.feeds.done u.feeds.reading;
  };
  anywhere = λ x s of.
      let first = t.anywhere x s of in
      ran_both_but x s t.feeds.done u.feeds.done old mid new a b c first (u.anywhere (sessions_by grammar_parser x s t.feeds.done) (state_after s t.feeds.done) first.state);
  ready = u.ready;
  ran = λ w serves.
      (let first = t.ran w serves in
      ran_both w t.feeds.done u.feeds.done old mid new a b c first (u.ran (after_pieces steps w t.feeds.done) first.serves));
}

-- a part, and then a stop
pub stops_later : {kinds : List Class} (stop : Stop) (old mid : Session) (a b c : View) (bytes xs ys rest : List ℕ) → FeedsCrashSafe kinds old mid a b xs
    → StopsCrashSafe kinds stop mid b c ys → bytes ≡ xs ++ ys ++ rest → StopsCrashSafe kinds stop old a c bytes
stops_later stop old mid a b c bytes xs ys rest t u parts = record {
  stops = record {
    taken = xs ++ u.stops.taken;
    rest = u.stops.rest ++ rest;
    parts = parts ∙ ap (λ zs. (xs ++ zs) ++ rest) u.stops.parts ∙ simp append_assoc;
    done = t.feeds.done ++ u.stops.done;
    next = u.stops.next;
    stand = u.stops.stand;
    reading = λ left. reads_on old.splitter mid.splitter xs u.stops.taken t.feeds.done t.feeds.reading u.stops.stand (u.stops.done ++ u.stops.next) u.stops.reading left
        ∙ ap (λ ps. behind ps (resume u.stops.stand left)) (sym (append_assoc t.feeds.done u.stops.done u.stops.next));
  };
  anywhere = λ x s of.
      let first = t.anywhere x s of in
      stopped_behind_but stop x s t.feeds.done u.stops.done u.stops.next old mid a b c first (u.anywhere (sessions_by grammar_parser x s t.feeds.done) (state_after s t.feeds.done) first.state);
  stopped = λ w serves.
      (let first = t.ran w serves in
      stopped_behind stop w t.feeds.done u.stops.done u.stops.next old mid a b c first (u.stopped (after_pieces steps w t.feeds.done) first.serves));
  lacks = u.lacks;
}

-- ---- the state of a store

-- the state of the world that a store serves has its definitions and its largest timestamp
pub state_served : (v : View) (store : Store) (w : World) → ServesWorld v store w → IsStateOf (known_in_memory (store_memory store)) (state_of w.layout)
state_served v store w serves = sym (known_is w.layout) ∙ sym (known_served v store w serves)

-- and its session has the names of the store's cursors
pub names_served : (v : View) (store : Store) (w : World) → ServesWorld v store w → HasNamesOf store.session.cursors w.session
names_served v store w serves = agree_names (λ (x : Cursor). x.name) (GivesRows v.files store.parts.maps) store.session.cursors w.session.cursors serves.cursors_are
