-- Pieces that open and close no cursor and ask for no compaction, and pieces that are refused: their moves are those of the layout, and the files that cursors hold and the tasks stay.
use Rattle.std.proofs.Common.{◌≡◌, ◌++◌, List, [], Option, None, Some, refl, sym, ap, subst, ◌∙◌}
use Rattle.std.specs.Prelude.{ℕ, ⊤}
use Rattle.std.specs.Map.{lookup}
use Rattle.std.specs.Option.{option_map_or}
use Rattle.sasi_host.specs.declared.name.FileName.{FileName}
use Rattle.sasi_layout.specs.Layout.{Layout, state_of}
use Rattle.sasi_layout.specs.Moves.{Move}
use Rattle.sasi_layout.specs.Statements.{moves_of}
use Rattle.sasi_machine.specs.Prepares.{IsQuery, SaysOne}
use Rattle.sasi_model.specs.Asked.{NoChange, asks, parsed_asks}
use Rattle.sasi_model.specs.Parsers.{grammar_parser}
use Rattle.sasi_model.specs.Pieces.{Piece}
use Rattle.sasi_model.specs.Refusals.{Known, ParsedPiece, Refusal, Says, read, rules}
use Rattle.sasi_model.specs.Sessions.{refused_by}
use Rattle.sasi_tasks.specs.Tasks.{Task}
use Rattle.sasi_types.specs.declared.statement.Statement.{Statement}
use Rattle.sasi_types.specs.declared.statement.Statement.TheVariants.{BeginCompact, CloseCursor, Compact, OpenCursor, Query, StepCompact}
use Rattle.sasi_store.specs.Worlds.{World, moves_in, session_moves, tasks_after, tasks_by, unless_refused, views_after, views_by}

-- neither an OPEN nor a CLOSE, and no compaction
abbrev pub IsPlain : ParsedPiece → Type 0
IsPlain (Says (OpenCursor cursor select)) = ⊥
IsPlain (Says (CloseCursor cursor)) = ⊥
IsPlain (Says (Compact table)) = ⊥
IsPlain (Says (BeginCompact table)) = ⊥
IsPlain (Says (StepCompact table units)) = ⊥
IsPlain parsed = ⊤

pub unless_same : {A : Type 0} (o : Option Refusal) (x : A) → unless_refused o x x ≡ x
unless_same None x = refl
unless_same (Some r) x = refl

plain_session : (w : World) (parsed : ParsedPiece) → IsPlain parsed → session_moves w parsed ≡ []
plain_session w (Says (OpenCursor cursor select)) plain = absurd plain
plain_session w (Says (CloseCursor cursor)) plain = absurd plain
plain_session w (Says (Compact table)) plain = absurd plain
plain_session w (Says (BeginCompact table)) plain = absurd plain
plain_session w (Says (StepCompact table units)) plain = absurd plain
plain_session w parsed plain = refl

plain_running : (l : Layout) (parsed : ParsedPiece) (tasks : List Task) → IsPlain parsed → tasks_after l parsed tasks ≡ tasks
plain_running l (Says (Compact table)) tasks plain = absurd plain
plain_running l (Says (BeginCompact table)) tasks plain = absurd plain
plain_running l (Says (StepCompact table units)) tasks plain = absurd plain
plain_running l parsed tasks plain = refl

plain_held : (l : Layout) (parsed : ParsedPiece) (views : List (List ℕ × List FileName)) → IsPlain parsed → views_after l parsed views ≡ views
plain_held l (Says (OpenCursor cursor select)) views plain = absurd plain
plain_held l (Says (CloseCursor cursor)) views plain = absurd plain
plain_held l parsed views plain = refl

module _ (w : World) (piece : Piece) where
  abbrev refused : Option Refusal
  refused = refused_by grammar_parser w.session (state_of w.layout) piece

  -- **The moves are those of the layout,**
  pub plain_moves : IsPlain (read piece) → moves_in grammar_parser w piece ≡ moves_of w.layout piece
  plain_moves plain =
      ap (λ (ms : List Move). unless_refused refused ms [] ++ moves_of w.layout piece) (plain_session w (read piece) plain) ∙ ap (λ (ms : List Move). ms ++ moves_of w.layout piece) (unless_same refused [])

  -- **and the files that are held stay.**
  pub plain_views : IsPlain (read piece) → views_by grammar_parser w piece ≡ w.views
  plain_views plain =
      ap (λ (vs : List (List ℕ × List FileName)). unless_refused refused vs w.views) (plain_held w.layout (read piece) w.views plain) ∙ unless_same refused w.views

  -- **So do the tasks.**
  pub plain_tasks : IsPlain (read piece) → tasks_by grammar_parser w piece ≡ w.tasks
  plain_tasks plain = ap (λ (ks : List Task). unless_refused refused ks w.tasks) (plain_running w.layout (read piece) w.tasks plain) ∙ unless_same refused w.tasks

  -- so it is where the piece is refused
  pub refused_moves : (r : Refusal) → refused ≡ Some r → moves_in grammar_parser w piece ≡ moves_of w.layout piece
  refused_moves r is = ap (λ (o : Option Refusal). unless_refused o (session_moves w (read piece)) [] ++ moves_of w.layout piece) is

  pub refused_views : (r : Refusal) → refused ≡ Some r → views_by grammar_parser w piece ≡ w.views
  refused_views r is = ap (λ (o : Option Refusal). unless_refused o (views_after w.layout (read piece) w.views) w.views) is

  pub refused_tasks : (r : Refusal) → refused ≡ Some r → tasks_by grammar_parser w piece ≡ w.tasks
  refused_tasks r is = ap (λ (o : Option Refusal). unless_refused o (tasks_after w.layout (read piece) w.tasks) w.tasks) is

no_change : (o : Option Refusal) → option_map_or (λ (r : Refusal). NoChange) o NoChange ≡ NoChange
no_change None = refl
no_change (Some r) = refl

-- **A piece that asks for a change of tables is one of those,**
pub changing_plain : (known : Known) (piece : Piece) → (asks known piece ≡ NoChange → ⊥) → IsPlain (read piece)
changing_plain known piece changing = by (read piece) changing
  where
    by : (parsed : ParsedPiece) → (parsed_asks known parsed ≡ NoChange → ⊥) → IsPlain parsed
    by (Says (OpenCursor cursor select)) changes = changes (no_change (lookup (λ applies. applies) (rules known (OpenCursor cursor select))))
    by (Says (CloseCursor cursor)) changes = changes (no_change (lookup (λ applies. applies) (rules known (CloseCursor cursor))))
    by (Says (Compact table)) changes = changes (no_change (lookup (λ applies. applies) (rules known (Compact table))))
    by (Says (BeginCompact table)) changes = changes (no_change (lookup (λ applies. applies) (rules known (BeginCompact table))))
    by (Says (StepCompact table units)) changes = changes (no_change (lookup (λ applies. applies) (rules known (StepCompact table units))))
    by parsed changes = tt

-- **and so is a SELECT.**
pub query_plain : (parsed : ParsedPiece) → IsQuery parsed → IsPlain parsed
query_plain (Says (Query select)) query = tt
query_plain parsed query = absurd query

-- one statement that is neither
pub says_plain : (piece : Piece) (P : Statement → Type 0) → ((statement : Statement) → P statement → IsPlain (Says statement)) → SaysOne piece P → IsPlain (read piece)
says_plain piece P plain (statement, says, well, is) = subst IsPlain (sym says) (plain statement is)
