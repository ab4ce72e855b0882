-- What a statement asks, and what is prepared of it.
use Rattle.std.proofs.Common.{◌≡◌, ℕ, true, false, List, [], Option, None, Some, refl, sym, ap, ◌∙◌}
use Rattle.std.specs.Prelude.{codes, if◌then◌else◌}
use Rattle.std.specs.Map.{lookup}
use Rattle.std.specs.Option.{option_map_or}
use Rattle.sasi_types.specs.declared.statement.Statement.{Statement}
use Rattle.sasi_types.specs.declared.statement.Statement.TheVariants.{BeginCompact, Compact, CreateTable, CreateIndex, Fetch, Insert, OpenCursor, StepCompact, Update, Delete, Flush, Query, ShowFiles, Trace}
use Rattle.sasi_layout.specs.Layout.{Layout, state_of}
use Rattle.sasi_layout.specs.Statements.{known_in, moves_asked}
use Rattle.sasi_layout.proofs.StatementLaws.{known_is}
use Rattle.sasi_machine.specs.Prepares.{IsChanging, IsPreparedFor, IsStateOf}
use Rattle.sasi_machine.specs.declared.prepared.Prepared.{Prepared}
use Rattle.sasi_model.specs.Asked.{NoChange, parsed_asks}
use Rattle.sasi_model.specs.Parsers.{Parses}
use Rattle.sasi_model.specs.Refusals.{Bad, Known, Refusal, Says, is_built, piece_parsed, rules}
use Rattle.sasi_machine_layout.specs.Steps.{asks_change, prepared_moves, statement_moves}

-- ---- without a move

asked_none : (refused : Option Refusal) → option_map_or (λ r. NoChange) refused NoChange ≡ NoChange
asked_none None = refl
asked_none (Some r) = refl

no_change : (known : Known) (s : Statement) → asks_change s ≡ false → parsed_asks known (piece_parsed (Parses s)) ≡ NoChange
no_change known (CreateTable table columns keys) is = cc
no_change known (CreateIndex name table column class options true) is = refl
no_change known (CreateIndex name table column class options false) is = cc
no_change known (Insert table columns values time) is = cc
no_change known (Update table time sets key value) is = cc
no_change known (Delete table columns time key value) is = cc
no_change known (Flush table) is = cc
no_change known (Compact table) is = asked_none (lookup (λ applies. applies) (rules known (Compact table)))
no_change known (BeginCompact table) is = asked_none (lookup (λ applies. applies) (rules known (BeginCompact table)))
no_change known (StepCompact table units) is = asked_none (lookup (λ applies. applies) (rules known (StepCompact table units)))
no_change known (Query select) is = asked_none (lookup (λ applies. applies) (rules known (Query select)))
no_change known (Trace on) is = asked_none (lookup (λ applies. applies) (rules known (Trace on)))
no_change known ShowFiles is = asked_none (lookup (λ applies. applies) (rules known ShowFiles))
no_change known (OpenCursor cursor select) is = asked_none (lookup (λ applies. applies) (rules known (OpenCursor cursor select)))
no_change known (Fetch cursor count) is = asked_none (lookup (λ applies. applies) (rules known (Fetch cursor count)))
no_change known s is = refl

pub no_moves : (l : Layout) (s : Statement) → asks_change s ≡ false → statement_moves l s ≡ []
no_moves l s is = ap (moves_asked l) (no_change (known_in l) s is)

-- ---- with some

pub changing : (s : Statement) → asks_change s ≡ true → IsChanging s
changing (CreateTable table columns keys) is = refl
changing (CreateIndex name table column class options stepped) is = is
changing (Insert table columns values time) is = refl
changing (Update table time sets key value) is = refl
changing (Delete table columns time key value) is = refl
changing (Flush table) is = refl
changing s is = cc

built : (s : Statement) → asks_change s ≡ true → is_built s ≡ true
built (CreateTable table columns keys) is = refl
built (CreateIndex name table column class options stepped) is = is
built (Insert table columns values time) is = refl
built (Update table time sets key value) is = refl
built (Delete table columns time key value) is = refl
built (Flush table) is = refl
built s is = cc

-- the moves are those of what was prepared
pub moves_are : (l : Layout) (known : Known) (s : Statement) (reply_old reply : List ℕ) (prepared : Prepared) → known ≡ known_in l → asks_change s ≡ true → IsPreparedFor known s reply_old reply prepared → statement_moves l s ≡ prepared_moves l prepared
moves_are l known s reply_old reply prepared knows is asks =
    ap (λ b. moves_asked l (parsed_asks (known_in l) (if b then Says s else Bad (90, codes "NotBuilt")))) (built s is)
    ∙ ap (λ (k : Known). moves_asked l (parsed_asks k (Says s))) (sym knows)
    ∙ ap (moves_asked l) asks.now.asked_is

-- ---- what was prepared can be done

-- what is known here is what is known of the state of the layout
pub state_here : (l : Layout) (known : Known) → known ≡ known_in l → IsStateOf known (state_of l)
state_here l known knows = sym (known_is l) ∙ sym knows
