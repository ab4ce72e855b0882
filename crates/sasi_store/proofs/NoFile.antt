-- Pieces that need no file: what makes a call on the host is none of them.
use Rattle.std.proofs.Common.{◌≡◌, List, ℕ, Bool, true, false, ◌⊎◌, Option, None, Some, IsSome, inl, inr, refl, sym, ap, subst, ◌∙◌}
use Rattle.std.specs.List.{list_any}
use Rattle.std.specs.Option.{option_and_then}
use Rattle.sasi_cursors.specs.Cursors.{cursor_of, is_open}
use Rattle.sasi_machine.proofs.SessionTurns.{TurnsSession, closed_turns, compacted_leaves, created_leaves, defined_leaves, fetched_turns, flushed_leaves, selected_turns, written_leaves}
use Rattle.sasi_machine.specs.Outcome.{outcome_of}
use Rattle.sasi_machine.specs.Prepares.{ClosesCursor, CompactsTable, CreatesTable, DefinesIndex, FetchesRows, FlushesTable, Prepares, SaysOne, SelectsRows, WritesTo, compact_asked}
use Rattle.sasi_machine.specs.Writes.{IsWriting}
use Rattle.sasi_machine.specs.declared.outcome.Outcome.TheVariants.{Done}
use Rattle.sasi_machine.specs.declared.prepared.CompactAsked.{CompactAsked}
use Rattle.sasi_machine.specs.declared.prepared.CompactSteps.{CompactSteps}
use Rattle.sasi_machine.specs.declared.prepared.CompactSteps.TheVariants.{Begin}
use Rattle.sasi_machine.specs.declared.prepared.FetchAsked.{FetchAsked}
use Rattle.sasi_machine.specs.declared.prepared.Prepared.{Prepared}
use Rattle.sasi_machine.specs.declared.prepared.Prepared.TheVariants.{Answered, Create, Define, Write as Writes, Flush as Flushes, Compact as Compacts, Select as Selects, Trace as Traces, Files as ListsFiles, Open as Opens, Fetch as Fetches, Close as Closes}
use Rattle.sasi_model.specs.Parsers.{grammar_parser}
use Rattle.sasi_model.specs.Pieces.{Piece}
use Rattle.sasi_model.specs.Refusals.{Nothing, Refusal, Says}
use Rattle.sasi_model.specs.Sessions.{SessionState, Tail, Turn, refused_by}
use Rattle.sasi_model.specs.State.{State}
use Rattle.sasi_model.specs.Step.{step}
use Rattle.sasi_model.specs.Tokens.{same}
use Rattle.sasi_types.specs.declared.statement.Statement.{Statement}
use Rattle.sasi_types.specs.declared.statement.Statement.TheVariants.{BeginCompact, CloseCursor, Compact, StepCompact, CreateTable, CreateIndex, Fetch, Insert, Update, Delete, Query, Flush}
use Rattle.sasi_store.specs.Answers.{AsksNoFile, ClosesListed, MakesNoCall}
use Rattle.sasi_store.specs.CursorCalls.{HasAllListed}
use Rattle.sasi_store.specs.declared.session_state.OpenCursor.{OpenCursor}
use Rattle.sasi_store.specs.declared.session_state.SessionState.{SessionState as StoreSession}
use Rattle.sasi_tables.specs.declared.parts.Parts.{Parts}
use Rattle.sasi_store.specs.Cursors.{HasNamesOf, Opened}

-- what is prepared makes calls on the host
abbrev pub UsesHost : Prepared → Type 0
UsesHost (Answered outcome) = ⊥
UsesHost (Traces on) = ⊥
UsesHost ListsFiles = ⊥
UsesHost (Opens asked) = ⊥
UsesHost (Fetches asked) = ⊥
UsesHost (Closes cursor) = ⊥
UsesHost (Compacts asked) = ⊥
UsesHost prepared = Unit {0}

refused_not : (o : Option Refusal) → Done ≡ outcome_of o → IsSome o → ⊥
refused_not None done some = cc
refused_not (Some r) done some = cc

abbrev pub steps_in : Option (List ℕ × Option CompactSteps) → Option CompactSteps
steps_in asked = option_and_then (λ (a : List ℕ × Option CompactSteps). a.1) asked

pub steps_are : (a b : CompactSteps) → Some a ≡ Some b → b ≡ a
steps_are a b is = cc

nothing_said : {statement : Statement} → Nothing ≡ Says statement → ⊥
nothing_said e = cc

module _ (p : Parts) (session : StoreSession) (x : SessionState) (s : State) (piece : Piece) where
  -- it is none that makes no call
  abbrev pub IsFree : Statement → Type 0
  IsFree statement = AsksNoFile (Says statement) ⊎ ClosesListed p session (Says statement)

  -- a statement that isn't refused needs more, unless it is SHOW FILES or TRACE
  needs_more : {f : SessionState → SessionState} {tail : SessionState → Tail} (P : Statement → Type 0) → ((statement : Statement) → P statement → IsFree statement → ⊥)
      → Done ≡ outcome_of (step s piece).refused → TurnsSession s piece f tail → SaysOne piece P → MakesNoCall p session x s piece → ⊥
  needs_more P other done turned says (inl (inl refused)) = refused_not (step s piece).refused done (subst (λ (t : Turn). IsSome t.refused) (turned.turn_is x) refused)
  needs_more P other done turned says (inl (inr (inl nothing))) = nothing_said (sym nothing ∙ says.1)
  needs_more P other done turned says (inl (inr (inr asks))) = other says.0 says.3 (inl (subst AsksNoFile says.1 asks))
  needs_more P other done turned says (inr closes) = other says.0 says.3 (inr (subst (ClosesListed p session) says.1 closes))

  pub needs_host : (reply : List ℕ) (prepared : Prepared) → Prepares s piece reply prepared → UsesHost prepared → MakesNoCall p session x s piece → ⊥
  needs_host reply (Answered outcome) prepares uses needs = absurd uses
  needs_host reply (Traces on) prepares uses needs = absurd uses
  needs_host reply ListsFiles prepares uses needs = absurd uses
  needs_host reply (Opens asked) prepares uses needs = absurd uses
  needs_host reply (Fetches asked) prepares uses needs = absurd uses
  needs_host reply (Closes cursor) prepares uses needs = absurd uses
  needs_host reply (Compacts asked) prepares uses needs = absurd uses
  needs_host reply (Create t) prepares uses needs = needs_more (λ statement. CreatesTable s statement t) other prepares.0.outcome_is (created_leaves s piece t prepares.1) prepares.1 needs
    where
      other : (statement : Statement) → CreatesTable s statement t → IsFree statement → ⊥
      other (CreateTable table columns keys) is (inl asks) = asks
      other (CreateTable table columns keys) is (inr closes) = closes
      other statement is asks = absurd is
  needs_host reply (Define new) prepares uses needs = needs_more (λ statement. DefinesIndex s statement new) other prepares.0.outcome_is (defined_leaves s piece new prepares.1) prepares.1 needs
    where
      other : (statement : Statement) → DefinesIndex s statement new → IsFree statement → ⊥
      other (CreateIndex name table column class options stepped) is (inl asks) = asks
      other (CreateIndex name table column class options stepped) is (inr closes) = closes
      other statement is asks = absurd is
  needs_host reply (Writes w) prepares uses needs = needs_more (λ statement. WritesTo s statement w) (λ statement is. other statement is.writing) prepares.0.outcome_is (written_leaves s piece w prepares.1) prepares.1 needs
    where
      other : (statement : Statement) → IsWriting statement → IsFree statement → ⊥
      other (Insert table columns values time) is (inl asks) = asks
      other (Insert table columns values time) is (inr closes) = closes
      other (Update table time sets key value) is (inl asks) = asks
      other (Update table time sets key value) is (inr closes) = closes
      other (Delete table columns time key value) is (inl asks) = asks
      other (Delete table columns time key value) is (inr closes) = closes
      other statement is asks = absurd is
  needs_host reply (Flushes table) prepares uses needs = needs_more (λ statement. FlushesTable s statement table) other prepares.0.outcome_is (flushed_leaves s piece table prepares.1) prepares.1 needs
    where
      other : (statement : Statement) → FlushesTable s statement table → IsFree statement → ⊥
      other (Flush name) is (inl asks) = asks
      other (Flush name) is (inr closes) = closes
      other statement is asks = absurd is
  needs_host reply (Selects rows) prepares uses needs = needs_more (λ statement. SelectsRows s statement rows) other prepares.0.outcome_is (selected_turns s piece rows prepares.3) prepares.3 needs
    where
      other : (statement : Statement) → SelectsRows s statement rows → IsFree statement → ⊥
      other (Query select) is (inl asks) = asks
      other (Query select) is (inr closes) = closes
      other statement is asks = absurd is

  none_some : (o : Option Refusal) → o ≡ None → IsSome o → ⊥
  none_some None is some = cc
  none_some (Some r) is some = cc

  -- a FETCH that needs no file is of a name that isn't open,
  pub fetch_free : (cursors : Opened) (reply : List ℕ) (asked : FetchAsked) → HasNamesOf cursors x → Prepares s piece reply (Fetches asked) → MakesNoCall p session x s piece → is_open asked.cursor cursors ≡ false
  fetch_free cursors reply asked named prepares needs = by (is_open asked.cursor cursors) refl
    where
      fetches : SaysOne piece (λ statement. FetchesRows s statement asked)
      fetches = prepares.2

      says_fetch : (statement : Statement) → FetchesRows s statement asked → IsFree statement → ⊥
      says_fetch (Fetch cursor count) is (inl asks) = asks
      says_fetch (Fetch cursor count) is (inr closes) = closes
      says_fetch statement is asks = absurd is

      taken : is_open asked.cursor cursors ≡ true → MakesNoCall p session x s piece → ⊥
      taken there (inl (inl refused)) =
          none_some (refused_by grammar_parser x s piece) (ap (λ (t : Turn). t.refused) (fetched_turns s piece asked fetches x (ap (list_any (same asked.cursor)) (sym named) ∙ there))) refused
      taken there (inl (inr (inl nothing))) = nothing_said (sym nothing ∙ fetches.1)
      taken there (inl (inr (inr asks))) = says_fetch fetches.0 fetches.3 (inl (subst AsksNoFile fetches.1 asks))
      taken there (inr closes) = says_fetch fetches.0 fetches.3 (inr (subst (ClosesListed p session) fetches.1 closes))

      by : (b : Bool) → is_open asked.cursor cursors ≡ b → b ≡ false
      by false is = refl
      by true there = absurd (taken there needs)

  -- a CLOSE is so, or of a cursor whose files are all listed,
  pub close_free : (reply : List ℕ) (name : List ℕ) → HasNamesOf session.cursors x → Prepares s piece reply (Closes name) → MakesNoCall p session x s piece
      → (is_open name session.cursors ≡ false) ⊎ ((c : OpenCursor) × (Some c ≡ cursor_of name session.cursors) × HasAllListed p c)
  close_free reply name named prepares needs = by (is_open name session.cursors) refl
    where
      closes : SaysOne piece (λ statement. ClosesCursor s statement name)
      closes = prepares.2

      says_close : (statement : Statement) → ClosesCursor s statement name → AsksNoFile (Says statement) → ⊥
      says_close (CloseCursor cursor) is asks = asks
      says_close statement is asks = absurd is

      listed : (statement : Statement) → ClosesCursor s statement name → ClosesListed p session (Says statement) → (c : OpenCursor) × (Some c ≡ cursor_of name session.cursors) × HasAllListed p c
      listed (CloseCursor cursor) is all = (all.0, all.1 ∙ ap (λ (n : List ℕ). cursor_of n session.cursors) (sym is.1), all.2)
      listed statement is all = absurd is

      taken : is_open name session.cursors ≡ true → MakesNoCall p session x s piece → (c : OpenCursor) × (Some c ≡ cursor_of name session.cursors) × HasAllListed p c
      taken there (inl (inl refused)) =
          absurd (none_some (refused_by grammar_parser x s piece) (ap (λ (t : Turn). t.refused) (closed_turns s piece name closes x (ap (list_any (same name)) (sym named) ∙ there))) refused)
      taken there (inl (inr (inl nothing))) = absurd (nothing_said (sym nothing ∙ closes.1))
      taken there (inl (inr (inr asks))) = absurd (says_close closes.0 closes.3 (subst AsksNoFile closes.1 asks))
      taken there (inr all) = listed closes.0 closes.3 (subst (ClosesListed p session) closes.1 all)

      by : (b : Bool) → is_open name session.cursors ≡ b → (is_open name session.cursors ≡ false) ⊎ ((c : OpenCursor) × (Some c ≡ cursor_of name session.cursors) × HasAllListed p c)
      by false is = inl is
      by true there = inr (taken there needs)

  -- and of the statements on compactions it is BEGIN COMPACT.
  pub compact_free : (reply : List ℕ) (asked : CompactAsked) → Prepares s piece reply (Compacts asked) → MakesNoCall p session x s piece → asked.steps ≡ Begin
  compact_free reply asked prepares needs = taken needs
    where
      says : SaysOne piece (λ statement. CompactsTable s statement asked)
      says = prepares.1

      begins : (statement : Statement) (table : List ℕ) → compact_asked statement ≡ Some (table, Some asked.steps) → IsFree statement → asked.steps ≡ Begin
      begins (Compact name) table is (inl asks) = absurd asks
      begins (Compact name) table is (inr closes) = absurd closes
      begins (BeginCompact name) table is free = steps_are Begin asked.steps (ap steps_in is)
      begins (StepCompact name units) table is (inl asks) = absurd asks
      begins (StepCompact name units) table is (inr closes) = absurd closes
      begins statement table is free = cc

      taken : MakesNoCall p session x s piece → asked.steps ≡ Begin
      taken (inl (inl refused)) = absurd (refused_not (step s piece).refused prepares.0.outcome_is (subst (λ (t : Turn). IsSome t.refused) ((compacted_leaves s piece asked says).turn_is x) refused))
      taken (inl (inr (inl nothing))) = absurd (nothing_said (sym nothing ∙ says.1))
      taken (inl (inr (inr asks))) = begins says.0 says.3.table says.3.asked_is (inl (subst AsksNoFile says.1 asks))
      taken (inr closes) = begins says.0 says.3.table says.3.asked_is (inr (subst (ClosesListed p session) says.1 closes))
