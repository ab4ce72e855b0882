-- What the parts of a step make of its promises: what every statement shares, and pieces that make no move.
use Rattle.std.proofs.Common.{◌≡◌, ◌≢◌, ◌+◌, ◌≤◌, ◌++◌, ◌∷◌, Bool, ℕ, List, [], length, map, IsSome, Option, None, Some, Ok, Err, refl, sym, ap, subst, ◌∙◌, inl, inr, arith}
use Rattle.std.proofs.lemmas.List.{append-nil}
use Rattle.std.specs.List.{AllByRecursion}
use Rattle.sasi_host.proofs.ChangeLaws.{at_each_moment, stays}
use Rattle.sasi_host.specs.declared.damage.Damage.{Damage}
use Rattle.sasi_host.specs.Disk.{Changes, Same}
use Rattle.sasi_host.specs.Names.{Folder}
use Rattle.sasi_host.specs.View.{IsSound, View}
use Rattle.sasi_layout.proofs.StatementLaws.{definitions_are}
use Rattle.sasi_layout.proofs.Trails.{moves_none, none_done}
use Rattle.sasi_layout.specs.Between.{Between}
use Rattle.sasi_layout.specs.Classes.{HasNeeded, KnowsClasses, LacksNeeded}
use Rattle.sasi_layout.specs.Layout.{Layout, bare, state_of}
use Rattle.sasi_layout.specs.Moves.{Move, after_moves}
use Rattle.sasi_layout.specs.Serving.{Serves, StoreInMemory, known_in_memory}
use Rattle.sasi_layout.specs.Shape.{HasShape}
use Rattle.sasi_layout.specs.Spent.{spent}
use Rattle.sasi_layout.specs.Statements.{moves_asked, moves_of}
use Rattle.sasi_layout.specs.declared.number_kind.NumberKind.{NumberKind}
use Rattle.sasi_machine.proofs.KnownStates.{knows}
use Rattle.sasi_machine.specs.Classes as kits
use Rattle.sasi_machine.specs.Outcome.{outcome_of}
use Rattle.sasi_machine.proofs.SessionTurns.{LeavesSession, TurnsSession, refused_leaves, traced_turns}
use Rattle.sasi_machine.specs.Prepares.{IsRefusedOrEmpty, IsStateOf, SaysOne, StepsTo, TurnsTrace}
use Rattle.sasi_machine.specs.declared.outcome.Outcome.{Outcome}
use Rattle.sasi_machine.specs.declared.outcome.Outcome.TheVariants.{Done}
use Rattle.sasi_types.specs.declared.class.Class.{Class}
use Rattle.sasi_types.specs.declared.kit_fault.KitFault.{KitFault}
use Rattle.sasi_types.specs.declared.kit_fault.KitFault.TheVariants as kit_fault
use Rattle.sasi_types.specs.declared.statement.Statement.{Statement}
use Rattle.sasi_types.specs.declared.statement.Statement.TheVariants.{Trace}
use Rattle.sasi_model.specs.Asked as ask
use Rattle.sasi_model.specs.Asked.{Asked, asks, class_needed}
use Rattle.sasi_model.specs.Pieces.{Piece}
use Rattle.sasi_model.specs.Lines.{refusal_line}
use Rattle.sasi_model.specs.Refusals.{Refusal, Says, read}
use Rattle.sasi_model.specs.Parsers.{grammar_parser}
use Rattle.sasi_model.specs.Sessions.{NoTail, SessionState, Tail, Turn, refused_by, refused_turn, tail_bytes, turn_by}
use Rattle.sasi_model.specs.State.{Definition, State, max_timestamp}
use Rattle.sasi_model.specs.Step.{step}
use Rattle.sasi_store.specs.Answers.{AnsweredButRows, Answered, ReadsFiles}
use Rattle.sasi_tables.specs.Faults.{OnMissing, OnSpent, OnStepDamage, fault_of_kit, StepCauses}
use Rattle.sasi_tables.proofs.KnownClasses.{no_table_lacks}
use Rattle.sasi_store.specs.Steps.{StepPromises}
use Rattle.sasi_tables.specs.TablesView.{memory_of}
use Rattle.sasi_store.specs.Worlds.{PartsServe, World, steps, told_in}
use Rattle.sasi_tables.specs.declared.fault.StepFault.{StepFault}
use Rattle.sasi_tables.specs.declared.fault.StepFault.TheVariants as fault
use Rattle.sasi_tables.specs.declared.parts.Parts.{Parts}
use Rattle.sasi_store.specs.declared.session_state.SessionState.{SessionState as StoreSession}
use Rattle.sasi_cursors.proofs.Agreement.{agree_names}
use Rattle.sasi_cursors.specs.Agreement.{Agrees}
use Rattle.sasi_model.specs.Sessions as model
use Rattle.sasi_recheck.specs.Rows.{KnowsWhere}
use Rattle.sasi_views.specs.Books.{Book}
use Rattle.sasi_tasks.specs.MakesTaskMoves.{CanGoOn}
use Rattle.sasi_tasks.specs.Running.{AreTasksOf, KnowsTasks}
use Rattle.sasi_tasks.specs.declared.running.RunningTask.{RunningTask}
use Rattle.sasi_views.specs.Kept.{IsCounted}
use Rattle.sasi_store.specs.Cursors.{AreCursors, AreCursorsOf, GivesRows, HasNamesOf, IsKept, Opened, views_out, views_told}
use Rattle.sasi_store.specs.HeldDamage.{StepShows}
use Rattle.sasi_store.specs.StoreView.{KnowsAll}
use Rattle.sasi_store.specs.declared.session_state.OpenCursor.{OpenCursor}
use Rattle.sasi_store.proofs.PlainPieces.{IsPlain, plain_moves, plain_tasks, plain_views, refused_moves, refused_tasks, refused_views, says_plain}
use Rattle.sasi_tables.proofs.MoveCauses.{any_change, none_made}
use Rattle.sasi_store.specs.Selects.{HasShortRows, select_reads}
use Rattle.sasi_store.proofs.SameFiles.{same_held}

-- ---- a world and its state

pub state_is : (v : View) (store : StoreInMemory) (l : Layout) → Serves v store l → IsStateOf (known_in_memory store) (state_of l)
state_is v store l serves = knows (known_in_memory store) (state_of l) (sym (serves.definitions ∙ definitions_are l)) (sym serves.timestamp)

module _ (v : View) (store : StoreInMemory) (piece : Piece) (asked : Asked) (is : asks (known_in_memory store) piece ≡ asked) where
  pub moves_are : (l : Layout) → Serves v store l → moves_of l piece ≡ moves_asked l asked
  moves_are l serves =
      ap (λ (ds : List Definition). moves_asked l (asks (record { tables = ds; max_timestamp = max_timestamp (state_of l) }) piece)) (sym serves.definitions)
      ∙ ap (λ (time : ℕ). moves_asked l (asks (record { tables = store.definitions; max_timestamp = time }) piece)) (sym serves.timestamp)
      ∙ ap (moves_asked l) is

-- ---- moves

pub by_spent : (P Q : NumberKind → Type 0) → ((kind : NumberKind) → P kind → Q kind) → (e : StepFault) → OnSpent P e → OnSpent Q e
by_spent P Q f fault.Failed is = tt
by_spent P Q f fault.OutOfMemory is = tt
by_spent P Q f (fault.Damaged damage) is = tt
by_spent P Q f (fault.NumbersSpent kind) is = f kind is
by_spent P Q f (fault.AnalyzerMissing class) is = tt

pub by_damage : (P Q : Damage → Type 0) → ((damage : Damage) → P damage → Q damage) → (e : StepFault) → OnStepDamage P e → OnStepDamage Q e
by_damage P Q f fault.Failed is = tt
by_damage P Q f fault.OutOfMemory is = tt
by_damage P Q f (fault.Damaged damage) is = f damage is
by_damage P Q f (fault.NumbersSpent kind) is = tt
by_damage P Q f (fault.AnalyzerMissing class) is = tt

-- what holds anyhow
pub where_spent : (P : Type 0) (e : StepFault) → P → OnSpent (λ _. P) e
where_spent P fault.Failed holds = tt
where_spent P fault.OutOfMemory holds = tt
where_spent P (fault.Damaged damage) holds = tt
where_spent P (fault.NumbersSpent kind) holds = holds
where_spent P (fault.AnalyzerMissing class) holds = tt

pub never_missing : (P : Class → Type 0) (e : StepFault) → OnMissing (λ _. ⊥) e → OnMissing P e
never_missing P fault.Failed never = tt
never_missing P fault.OutOfMemory never = tt
never_missing P (fault.Damaged damage) never = tt
never_missing P (fault.NumbersSpent kind) never = tt
never_missing P (fault.AnalyzerMissing class) never = absurd never

pub needed_asked : (kinds : List Class) (asked other : Asked) → asked ≡ other → HasNeeded kinds (class_needed other) → HasNeeded kinds (class_needed asked)
needed_asked kinds asked other is has = subst (λ (a : Asked). HasNeeded kinds (class_needed a)) (sym is) has

-- ---- turns

-- the piece makes this of the session, and this is its whole reply
pub record Turns (x : SessionState) (s : State) (piece : Piece) (after : SessionState) (reply : List ℕ) (outcome : Outcome) : Type 0 where
  pub refused : Option Refusal
  pub turn_is : turn_by grammar_parser x s piece ≡ record { session = after; reply = reply; tail = NoTail; refused = refused }
  pub outcome_is : outcome ≡ outcome_of refused

-- as the state's step does
pub turns_plainly : (x : SessionState) (s after : State) (piece : Piece) (reply : List ℕ) (outcome : Outcome) (f : SessionState → SessionState) → TurnsSession s piece f (λ _. NoTail) → StepsTo s piece after reply outcome
    → Turns x s piece (f x) reply outcome
turns_plainly x s after piece reply outcome f turned to = record {
  refused = (step s piece).refused;
  turn_is = turned.turn_is x ∙ ap (λ (front : List ℕ). record { session = f x; reply = front; tail = NoTail; refused = (step s piece).refused }) to.reply_is;
  outcome_is = to.outcome_is;
}

-- the whole reply was known from the state
pub answered_as : (p : Parts) (session : StoreSession) (x after : SessionState) (s : State) (piece : Piece) (reply : List ℕ) (outcome : Outcome) → Turns x s piece after reply outcome → HasNamesOf session.cursors after
    → IsStateOf (known_in_memory (memory_of p)) (step s piece).state → AnsweredButRows p session x s piece reply outcome
answered_as p session x after s piece reply outcome turned named of = record {
  state_is = of;
  cursors_are = subst (λ (t : Turn). HasNamesOf session.cursors t.session) (sym turned.turn_is) named;
  outcome_is = turned.outcome_is ∙ ap (λ (t : Turn). outcome_of t.refused) (sym turned.turn_is);
  reply_is = λ _. ap (λ (t : Turn). t.reply) (sym turned.turn_is);
}

-- it is that of the world's step
pub reply_turned : (w : World) (piece : Piece) (after : SessionState) (reply : List ℕ) (outcome : Outcome) → Turns w.session (state_of w.layout) piece after reply outcome → steps.reply w piece ≡ reply
reply_turned w piece after reply outcome turned = ap (λ (t : Turn). t.reply ++ tail_bytes t.tail (told_in w (read piece))) turned.turn_is ∙ append-nil reply

-- ---- a change that leaves the files

-- each moment is one before the moves
pub moments_same : {was : StoreSession} (a b : View) (sound : IsSound a) (old : Parts) (piece : Piece) → Changes Same a b → (w : World) → PartsServe a old was w → Changes (λ x y. Between w.layout (steps.moves w piece) y) a b
moments_same a b sound old piece change w serves =
    at_each_moment a b Same (λ x. HasShape x (bare w.layout) (serves.serves.older ++ serves.serves.current ∷ [])) (λ y. Between w.layout (steps.moves w piece) y) sound change serves.serves.shape
    (λ x y has same. none_done w.layout (steps.moves w piece) y (_, subst (λ (z : Folder). HasShape z (bare w.layout) (serves.serves.older ++ serves.serves.current ∷ [])) (sym same) has))

-- ---- no move

-- nothing was done: memory ran out, or the analyzer of a new index is missing
step_not_made : {new : Parts} {was now : StoreSession} (kinds : List Class) (v : View) (sound : IsSound v) (old : Parts) (piece : Piece) (reply : List ℕ) (e : StepFault) → e ≢ fault.Failed
    → OnSpent (λ _. ⊥) e → OnStepDamage (λ _. ⊥) e → OnMissing (LacksNeeded kinds (asks (known_in_memory (memory_of old)) piece)) e → StepPromises kinds piece v v old new was now reply (Err e)
step_not_made {was = was} {now = now} kinds v sound old piece reply e other unspent undamaged missing = record {
  answers = tt;
  everywhere = tt;
  ready = tt;
  cursors = tt;
  any_moment = λ w serves. moves_none w.layout v (steps.moves w piece) sound (λ x now. (_, serves.serves.shape x now));
  spent_is = by_spent (λ _. ⊥) _ (λ kind none. absurd none) e unspent;
  classes = tt;
  needed = tt;
  needed_first = by_spent (λ _. ⊥) _ (λ kind none. absurd none) e unspent;
  missing = missing;
  damaged = λ folder files. by_damage (λ _. ⊥) (StepShows was.views folder) (λ damage none. absurd none) e undamaged;
  undamaged = λ w serves. undamaged;
  reads_only = λ none other. stays v;
  unread = λ other. refl;
  reads = λ w serves short. omega arith;
  changes = any_change Same v v (stays v);
  held_stay = same_held v v (stays v) now.views;
  causes = none_made v (Err e) (λ f is same. (let one : e ≡ f = cc in other (one_then one same)));
}
  where
    one_then : {f : StepFault} → e ≡ f → f ≡ fault.Failed → e ≡ fault.Failed
    one_then one same = cc

pub step_full : {new : Parts} {was now : StoreSession} (kinds : List Class) (v : View) (sound : IsSound v) (old : Parts) (piece : Piece) (reply : List ℕ) → StepPromises kinds piece v v old new was now reply (Err fault.OutOfMemory)
step_full kinds v sound old piece reply = step_not_made kinds v sound old piece reply fault.OutOfMemory both tt tt tt
  where
    both : fault.OutOfMemory ≡ fault.Failed → ⊥
    both e = cc

-- a piece isn't prepared for want of memory alone
pub step_unprepared : {was : StoreSession} (kinds : List Class) (v : View) (sound : IsSound v) (old : Parts) (piece : Piece) (reply : List ℕ) (f : KitFault) → KnowsClasses kinds (memory_of old) → kits.OnMissing (kits.TablesLack kinds old.schema.definitions) f
    → StepPromises kinds piece v v old old was was reply (Err (fault_of_kit f))
step_unprepared kinds v sound old piece reply kit_fault.OutOfMemory known lacks = step_full kinds v sound old piece reply
step_unprepared kinds v sound old piece reply (kit_fault.Missing class) known lacks = absurd (no_table_lacks kinds old.schema.definitions known class lacks)

pub step_missing : {was : StoreSession} (kinds : List Class) (v : View) (sound : IsSound v) (old : Parts) (piece : Piece) (reply : List ℕ) (asked : Asked) (class : Class) → asks (known_in_memory (memory_of old)) piece ≡ asked → LacksNeeded kinds asked class
    → StepPromises kinds piece v v old old was was reply (Err (fault.AnalyzerMissing class))
step_missing kinds v sound old piece reply asked class is lacks =
    step_not_made kinds v sound old piece reply (fault.AnalyzerMissing class) both tt tt (subst (λ (a : Asked). LacksNeeded kinds a class) (sym is) lacks)
  where
    both : fault.AnalyzerMissing class ≡ fault.Failed → ⊥
    both e = cc

-- the world after the piece, to which no move was made, has these cursors, and this is its reply
pub record IsQuiet (v : View) (old : Parts) (now : StoreSession) (w : World) (piece : Piece) (reply : List ℕ) : Type 0 where
  pub moves_are : steps.moves w piece ≡ moves_of w.layout piece
  pub trace_is : now.trace ≡ (steps.after w piece).session.trace
  pub cursors_are : AreCursorsOf v.files old.maps now.cursors (steps.after w piece).session
  pub views_are : (steps.after w piece).views ≡ views_told now.cursors
  pub tasks_are : AreTasksOf v w.layout now.tasks.items (steps.after w piece).tasks
  pub reply_is : steps.reply w piece ≡ reply

-- the names of the cursors are those of the session
pub names_of_world : (v : View) (old : Parts) (was : StoreSession) (w : World) → PartsServe v old was w → HasNamesOf was.cursors w.session
names_of_world v old was w serves = agree_names (λ (x : model.Cursor). x.name) (GivesRows v.files old.maps) was.cursors w.session.cursors serves.cursors_are

-- it is answered without a move
pub step_quiet : {was now : StoreSession} (kinds : List Class) (v : View) (sound : IsSound v) (old : Parts) (piece : Piece) (reply : List ℕ) (outcome : Outcome) → CanGoOn v now.views old now.tasks.items → asks (known_in_memory (memory_of old)) piece ≡ ask.NoChange
    → AreCursors v.files old now → (KnowsAll kinds old was → KnowsAll kinds old now)
    → ((x : SessionState) (s : State) → HasNamesOf was.cursors x → IsStateOf (known_in_memory (memory_of old)) s → AnsweredButRows old now x s piece reply outcome)
    → ((w : World) → PartsServe v old was w → IsQuiet v old now w piece reply)
    → StepPromises kinds piece v v old old was now reply (Ok outcome)
step_quiet {was} {now} kinds v sound old piece reply outcome ready is are classes everywhere turns = record {
  answers = λ w serves.
      let turned = turns w serves in
      let none = turned.moves_are ∙ moves_are v (memory_of old) piece ask.NoChange is w.layout serves.serves in
      let here = everywhere w.session (state_of w.layout) (names_of_world v old was w serves) (state_is v (memory_of old) w.layout serves.serves) in
      record {
        serves = record {
          serves = subst (λ (ms : List Move). Serves v (memory_of old) (after_moves ms w.layout)) (sym none) serves.serves;
          trace_is = turned.trace_is;
          cursors_are = turned.cursors_are;
          views_are = turned.views_are;
          tasks_are = subst (λ (ms : List Move). AreTasksOf v (after_moves ms w.layout) now.tasks.items (steps.after w piece).tasks) (sym none) turned.tasks_are;
        };
        reply_is = sym turned.reply_is;
        outcome_is = here.outcome_is;
        unspent = ap (spent w.layout) none;
      };
  everywhere = everywhere;
  ready = ready;
  cursors = are;
  any_moment = λ w serves. moves_none w.layout v (steps.moves w piece) sound (λ x now. (_, serves.serves.shape x now));
  spent_is = tt;
  classes = classes;
  needed = needed_asked kinds (asks (known_in_memory (memory_of old)) piece) ask.NoChange is tt;
  needed_first = tt;
  missing = tt;
  damaged = λ folder files. tt;
  undamaged = λ w serves. tt;
  reads_only = λ none other. stays v;
  unread = λ other. refl;
  reads = λ w serves short. omega arith;
  changes = any_change Same v v (stays v);
  held_stay = same_held v v (stays v) now.views;
  causes = none_made v (Ok outcome) (λ e same. cc);
}

-- it leaves the moves of the layout, the files that are held, and the tasks
abbrev IsUnmoved : World → Piece → Type 0
IsUnmoved w piece = (steps.moves w piece ≡ moves_of w.layout piece) × ((steps.after w piece).views ≡ w.views) × ((steps.after w piece).tasks ≡ w.tasks)

unmoved_plain : (w : World) (piece : Piece) → IsPlain (read piece) → IsUnmoved w piece
unmoved_plain w piece plain = (plain_moves w piece plain, plain_views w piece plain, plain_tasks w piece plain)

unmoved_refused : (w : World) (piece : Piece) (r : Refusal) → refused_by grammar_parser w.session (state_of w.layout) piece ≡ Some r → IsUnmoved w piece
unmoved_refused w piece r is = (refused_moves w piece r is, refused_views w piece r is, refused_tasks w piece r is)

-- and its whole reply was known; `f` is what it makes of each session, and it leaves the cursors
step_still : {was now : StoreSession} (kinds : List Class) (v : View) (sound : IsSound v) (old : Parts) (piece : Piece) (reply : List ℕ) (outcome : Outcome) (f : SessionState → SessionState) → CanGoOn v was.views old was.tasks.items → asks (known_in_memory (memory_of old)) piece ≡ ask.NoChange
    → AreCursors v.files old was → now.views ≡ was.views → now.cursors ≡ was.cursors → now.tasks.items ≡ was.tasks.items
    → ((s : State) → IsStateOf (known_in_memory (memory_of old)) s → (step s piece).state ≡ s) → ((x : SessionState) → (f x).cursors ≡ x.cursors) → ((x : SessionState) → was.trace ≡ x.trace → now.trace ≡ (f x).trace)
    → ((w : World) → PartsServe v old was w → IsUnmoved w piece)
    → ((x : SessionState) (s : State) → HasNamesOf was.cursors x → IsStateOf (known_in_memory (memory_of old)) s → Turns x s piece (f x) reply outcome)
    → StepPromises kinds piece v v old old was now reply (Ok outcome)
step_still {was} {now} kinds v sound old piece reply outcome f ready is are views_stay cursors_stay tasks_stay stays_in leaves on unmoved turns =
    step_quiet {was = was} {now = now} kinds v sound old piece reply outcome
    (subst (λ (tasks : List RunningTask). CanGoOn v now.views old tasks) (sym tasks_stay) (subst (λ (book : Book). CanGoOn v book old was.tasks.items) (sym views_stay) ready)) is
    (record {
      counted = subst (λ (book : Book). IsCounted book (views_out now.cursors)) (sym views_stay) (subst (λ (es : Opened). IsCounted was.views (views_out es)) (sym cursors_stay) are.counted);
      kept = subst (AllByRecursion (λ (e : List ℕ × OpenCursor). IsKept v.files old e.1)) (sym cursors_stay) are.kept;
      few = subst (λ (es : Opened). length es ≤ 64) (sym cursors_stay) are.few;
    })
    (λ known. record {
      tables = known.tables;
      cursors = subst (AllByRecursion (λ (e : List ℕ × OpenCursor). KnowsWhere kinds e.1.rows.reader.rows.filter)) (sym cursors_stay) known.cursors;
      tasks = subst (KnowsTasks kinds) (sym tasks_stay) known.tasks;
    })
    (λ x s named of.
    answered_as old now x (f x) s piece reply outcome (turns x s named of)
    (ap (λ (es : Opened). map (λ (e : List ℕ × OpenCursor). e.0) es) cursors_stay ∙ named ∙ ap (λ (xs : List model.Cursor). map (λ (c : model.Cursor). c.name) xs) (sym (leaves x)))
    (subst (IsStateOf (known_in_memory (memory_of old))) (sym (stays_in s of)) of))
    (λ w serves.
    let turned = turns w.session (state_of w.layout) (names_of_world v old was w serves) (state_is v (memory_of old) w.layout serves.serves) in
    let still = unmoved w serves in
    record {
      moves_are = still.0;
      trace_is = on w.session serves.trace_is ∙ ap (λ (t : Turn). t.session.trace) (sym turned.turn_is);
      cursors_are = subst (λ (t : Turn). AreCursorsOf v.files old.maps now.cursors t.session) (sym turned.turn_is)
          (subst (λ (es : Opened). Agrees (λ (x : model.Cursor). x.name) (GivesRows v.files old.maps) es (f w.session).cursors) (sym cursors_stay)
          (subst (Agrees (λ (x : model.Cursor). x.name) (GivesRows v.files old.maps) was.cursors) (sym (leaves w.session)) serves.cursors_are));
      views_are = still.1 ∙ serves.views_are ∙ ap views_told (sym cursors_stay);
      tasks_are = subst (λ (tasks : List RunningTask). AreTasksOf v w.layout tasks (steps.after w piece).tasks) (sym tasks_stay) (subst (AreTasksOf v w.layout was.tasks.items) (sym still.2) serves.tasks_are);
      reply_is = reply_turned w piece (f w.session) reply outcome turned;
    })

-- a piece that is refused, or has no reply, leaves the moves
unmoved_answered : (w : World) (piece : Piece) → LeavesSession (state_of w.layout) piece → IsRefusedOrEmpty (state_of w.layout) piece → IsUnmoved w piece
unmoved_answered w piece leaves (inl some) = by (step (state_of w.layout) piece).refused some (ap (λ (t : Turn). t.refused) (leaves.turn_is w.session))
  where
    by : (o : Option Refusal) → IsSome o → refused_by grammar_parser w.session (state_of w.layout) piece ≡ o → IsUnmoved w piece
    by None some is = cc
    by (Some r) some is = unmoved_refused w piece r is
unmoved_answered w piece leaves (inr empty) = unmoved_plain w piece (subst IsPlain (sym empty) tt)

-- a piece that is refused, or has no reply, leaves the session,
pub step_answered : {was : StoreSession} (kinds : List Class) (v : View) (sound : IsSound v) (old : Parts) (piece : Piece) (reply : List ℕ) (outcome : Outcome) → CanGoOn v was.views old was.tasks.items → asks (known_in_memory (memory_of old)) piece ≡ ask.NoChange → AreCursors v.files old was
    → ((s : State) → IsStateOf (known_in_memory (memory_of old)) s → StepsTo s piece s reply outcome × IsRefusedOrEmpty s piece) → StepPromises kinds piece v v old old was was reply (Ok outcome)
step_answered kinds v sound old piece reply outcome ready is are prepares =
    step_still kinds v sound old piece reply outcome (λ x. x) ready is are refl refl refl (λ s of. (prepares s of).0.state_is) (λ x. refl) (λ x on. on)
    (λ w serves. let prepared = prepares (state_of w.layout) (state_is v (memory_of old) w.layout serves.serves) in unmoved_answered w piece (refused_leaves (state_of w.layout) piece prepared.1) prepared.1)
    (λ x s named of. let prepared = prepares s of in turns_plainly x s s piece reply outcome (λ y. y) (refused_leaves s piece prepared.1) prepared.0)

-- TRACE turns it on or off,
pub step_traced : {was now : StoreSession} (kinds : List Class) (v : View) (sound : IsSound v) (old : Parts) (piece : Piece) (reply : List ℕ) (on : Bool) → now.trace ≡ on → now.views ≡ was.views → now.cursors ≡ was.cursors → now.tasks.items ≡ was.tasks.items → CanGoOn v was.views old was.tasks.items
    → asks (known_in_memory (memory_of old)) piece ≡ ask.NoChange → AreCursors v.files old was
    → ((s : State) → IsStateOf (known_in_memory (memory_of old)) s → StepsTo s piece s reply Done × SaysOne piece (λ statement. TurnsTrace s statement on)) → StepPromises kinds piece v v old old was now reply (Ok Done)
step_traced kinds v sound old piece reply on turned views_stay cursors_stay tasks_stay ready is are prepares =
    step_still kinds v sound old piece reply Done (λ x. record x { trace = on }) ready is are views_stay cursors_stay tasks_stay (λ s of. (prepares s of).0.state_is) (λ x. refl) (λ x before. turned)
    (λ w serves. unmoved_plain w piece (says_plain piece (λ statement. TurnsTrace (state_of w.layout) statement on) (plain (state_of w.layout)) (prepares (state_of w.layout) (state_is v (memory_of old) w.layout serves.serves)).1))
    (λ x s named of. let prepared = prepares s of in turns_plainly x s s piece reply Done (λ y. record y { trace = on }) (traced_turns s piece on prepared.1) prepared.0)
  where
    plain : (s : State) (statement : Statement) → TurnsTrace s statement on → IsPlain (Says statement)
    plain s (Trace off) is = tt
    plain s statement is = absurd is

-- and one that a rule of cursors refuses leaves it.
pub step_ruled : {was : StoreSession} (kinds : List Class) (v : View) (sound : IsSound v) (old : Parts) (piece : Piece) (reply : List ℕ) (outcome : Outcome) (r : Refusal) → CanGoOn v was.views old was.tasks.items → asks (known_in_memory (memory_of old)) piece ≡ ask.NoChange → AreCursors v.files old was
    → reply ≡ refusal_line r → outcome ≡ outcome_of (Some r) → ((s : State) → IsStateOf (known_in_memory (memory_of old)) s → (step s piece).state ≡ s)
    → ((x : SessionState) (s : State) → HasNamesOf was.cursors x → IsStateOf (known_in_memory (memory_of old)) s → turn_by grammar_parser x s piece ≡ refused_turn x r)
    → StepPromises kinds piece v v old old was was reply (Ok outcome)
step_ruled {was} kinds v sound old piece reply outcome r ready is are reply_is outcome_is stays_in turned =
    step_still kinds v sound old piece reply outcome (λ x. x) ready is are refl refl refl stays_in (λ x. refl) (λ x on. on)
    (λ w serves. unmoved_refused w piece r (ap (λ (t : Turn). t.refused) (turned w.session (state_of w.layout) (names_of_world v old was w serves) (state_is v (memory_of old) w.layout serves.serves))))
    (λ x s named of. record {
      refused = Some r;
      turn_is = turned x s named of ∙ ap (λ (line : List ℕ). record { session = x; reply = line; tail = NoTail; refused = Some r }) (sym reply_is);
      outcome_is = outcome_is;
    })

-- ---- what is taken

none_refused : (o : Option Refusal) → Done ≡ outcome_of o → o ≡ None
none_refused None done = refl
none_refused (Some r) done = cc

-- a piece of which the state's step isn't refused, nor is it by a rule of cursors
pub turn_taken : (x : SessionState) (s : State) (piece : Piece) (f : SessionState → SessionState) (tail : SessionState → Tail) → TurnsSession s piece f tail → Done ≡ outcome_of (step s piece).refused → refused_by grammar_parser x s piece ≡ None
turn_taken x s piece f tail turned done = ap (λ (t : Turn). t.refused) (turned.turn_is x) ∙ none_refused (step s piece).refused done

-- **A statement on cursors that no rule refuses**: no file is changed, and what is served and answered is said of it alone.
pub step_taken : {was now : StoreSession} (kinds : List Class) (a b : View) (sound : IsSound a) (old new : Parts) (piece : Piece) (reply : List ℕ) (outcome : Outcome) → Changes Same a b → asks (known_in_memory (memory_of old)) piece ≡ ask.NoChange
    → ((w : World) → PartsServe a old was w → Answered b new now w piece reply outcome)
    → ((x : SessionState) (s : State) → HasNamesOf was.cursors x → IsStateOf (known_in_memory (memory_of old)) s → AnsweredButRows new now x s piece reply outcome)
    → CanGoOn b now.views new now.tasks.items → AreCursors b.files new now → (KnowsAll kinds old was → KnowsAll kinds new now)
    → ((ReadsFiles (read piece) → ⊥) → b.reads ≡ a.reads) → ((w : World) → PartsServe a old was w → HasShortRows a.files w.layout (read piece) → b.reads ≤ a.reads + select_reads a.files w.layout (read piece))
    → StepCauses a b (Ok outcome) → StepPromises kinds piece a b old new was now reply (Ok outcome)
step_taken {now = now} kinds a b sound old new piece reply outcome change is answers everywhere ready are classes unread costs causes = record {
  answers = answers;
  everywhere = everywhere;
  ready = ready;
  cursors = are;
  any_moment = moments_same a b sound old piece change;
  spent_is = tt;
  classes = classes;
  needed = needed_asked kinds (asks (known_in_memory (memory_of old)) piece) ask.NoChange is tt;
  needed_first = tt;
  missing = tt;
  damaged = λ folder files. tt;
  undamaged = λ w serves. tt;
  reads_only = λ none other. change;
  unread = unread;
  reads = costs;
  changes = any_change Same a b change;
  held_stay = same_held a b change now.views;
  causes = causes;
}

-- a SELECT or a FETCH that fails
pub read_failed : {T : Type 0} {was now : StoreSession} (kinds : List Class) (a b : View) (sound : IsSound a) (old : Parts) (piece : Piece) (reply : List ℕ) (e : StepFault) → Changes Same a b → ReadsFiles (read piece)
    → ((folder : Folder) → b.files ≡ Some folder → OnStepDamage (StepShows was.views folder) e) → ((w : World) → PartsServe a old was w → OnStepDamage (λ _. ⊥) e) → OnSpent (λ _. ⊥) e → OnMissing (λ _. ⊥) e
    → ((w : World) → PartsServe a old was w → HasShortRows a.files w.layout (read piece) → b.reads ≤ a.reads + select_reads a.files w.layout (read piece))
    → StepCauses {T = T} a b (Err e) → StepPromises kinds piece a b old old was now reply (Err e)
read_failed {now = now} kinds a b sound old piece reply e change reading damaged undamaged unspent present costs causes = record {
  answers = tt;
  everywhere = tt;
  ready = tt;
  cursors = tt;
  any_moment = moments_same a b sound old piece change;
  spent_is = by_spent (λ _. ⊥) _ (λ kind none. absurd none) e unspent;
  classes = tt;
  needed = tt;
  needed_first = by_spent (λ _. ⊥) _ (λ kind none. absurd none) e unspent;
  missing = never_missing _ e present;
  damaged = damaged;
  undamaged = undamaged;
  reads_only = λ none other. change;
  unread = λ other. absurd (other reading);
  reads = costs;
  changes = any_change Same a b change;
  held_stay = same_held a b change now.views;
  causes = record { disk = causes.disk; out = causes.out; ok = tt; failed = causes.failed; others = causes.others };
}
