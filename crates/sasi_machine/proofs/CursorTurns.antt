-- What statements on cursors make of a session, told by open cursors that agree with it: the names are the same, and each meets a relation to the
-- session's cursor of its name. For a machine, and for a store, whose cursors read files.
use Rattle.std.proofs.Common.{◌≡◌, ℕ, nat_le, Bool, true, false, cond, ◌++◌, List, [], ◌∷◌, length, drop, find, not, take, Option, None, Some, is_some, refl, sym, ap, subst, ◌∙◌}
use Rattle.std.proofs.lemmas.Map.Made.{is_some-lookup}
use Rattle.std.specs.List.{list_any}
use Rattle.std.specs.Map.{keys_of}
use Rattle.std.specs.Option.{option_map_or}
use Rattle.sasi_cursors.proofs.Agreement.{agree_changed, agree_closed, agree_names, agree_opened, agree_some}
use Rattle.sasi_cursors.specs.Agreement.{Agrees, dropped, has_name}
use Rattle.sasi_cursors.specs.Cursors.{cursor_of, is_open, with_cursor, without, IsOnce}
use Rattle.sasi_types.specs.Key.{key_eq}
use Rattle.sasi_types.specs.declared.statement.Statement.{Statement}
use Rattle.sasi_types.specs.declared.statement.Statement.TheVariants.{OpenCursor}
use Rattle.sasi_model.specs.Abbreviations.{CursorExists, NoCursor, TooManyCursors, first_refusal}
use Rattle.sasi_model.specs.Lines.{rows_lines}
use Rattle.sasi_model.specs.Parsers.{grammar_parser}
use Rattle.sasi_model.specs.Pieces.{Piece}
use Rattle.sasi_model.specs.Refusals.{Refusal, answer_rules, cursor_rules, too_many_relations}
use Rattle.sasi_model.specs.Sessions.{Cursor, NoTail, Rows, SessionState, cursor_names, ok_turn, refused_turn, rows_given, turn_by, without_cursor}
use Rattle.sasi_model.specs.State.{State}
use Rattle.sasi_model.specs.Step.{rows_selected}
use Rattle.sasi_model.specs.Tokens.{same}
use Rattle.sasi_schema.proofs.RuleLaws.{first_behind, none_first}
use Rattle.sasi_machine.specs.Prepares.{ClosesCursor, FetchesRows, HasRows, OpensCursor, OpensFrom, SaysOne}
use Rattle.sasi_machine.specs.declared.prepared.FetchAsked.{FetchAsked}
use Rattle.sasi_machine.specs.declared.prepared.OpenAsked.{OpenAsked}
use Rattle.sasi_machine.proofs.SessionTurns.{closed_refused, closed_turns, fetched_refused, fetched_turns, opened_refused, opened_turns}

-- ---- what an OPEN says

-- it is the one that was prepared
pub opens_from : (s : State) (piece : Piece) (asked : OpenAsked) → SaysOne piece (λ statement. OpensCursor s statement asked) → OpensFrom s asked.cursor asked.rows.select asked
opens_from s piece asked (statement, says, well, is) = by statement is
  where
    by : (statement : Statement) → OpensCursor s statement asked → OpensFrom s asked.cursor asked.rows.select asked
    by (OpenCursor cursor select) is =
        subst (λ name. OpensFrom s name asked.rows.select asked) (sym is.cursor_is) (subst (λ rows. OpensFrom s cursor rows asked) (sym is.select_is) is)
    by statement is = absurd is

-- where no rule of cursors refuses it, no rule refuses its SELECT
pub has_rows : (s : State) (asked : OpenAsked) (names : List (List ℕ)) → OpensFrom s asked.cursor asked.rows.select asked
    → first_refusal (cursor_rules names (OpenCursor asked.cursor asked.rows.select)) ≡ None → HasRows s asked.rows
has_rows s asked names opens none =
    let select = asked.rows.select in
    let others = none_first (list_any (same asked.cursor) names, CursorExists asked.cursor) ((nat_le 64 (length names), TooManyCursors) ∷ too_many_relations select ∷ []) none in
    let last = none_first (nat_le 64 (length names), TooManyCursors) (too_many_relations select ∷ []) others.1 in
    record {
      some = opens.some;
      table = opens.table;
      there = opens.there;
      named = opens.named;
      can = record {
        written = opens.can.written;
        taken = first_behind (answer_rules select (Some opens.table.definition)) (too_many_relations select ∷ []) opens.can.taken ∙ last.1;
      };
    }

-- and none has its name
pub name_free : (asked : OpenAsked) (names : List (List ℕ)) → first_refusal (cursor_rules names (OpenCursor asked.cursor asked.rows.select)) ≡ None → list_any (same asked.cursor) names ≡ false
name_free asked names none =
    (none_first (list_any (same asked.cursor) names, CursorExists asked.cursor) ((nat_le 64 (length names), TooManyCursors) ∷ too_many_relations asked.rows.select ∷ []) none).0

-- ---- cursors without that of a name

without_is : (name : List ℕ) (cursors : List Cursor) → without_cursor name cursors ≡ dropped (λ (c : Cursor). c.name) name cursors
without_is name [] = refl
without_is name (c ∷ cs) = by (same name c.name) (without_is name cs)
  where
    by : (b : Bool) → without_cursor name cs ≡ dropped (λ (d : Cursor). d.name) name cs
        → cond b (without_cursor name cs) (c ∷ without_cursor name cs) ≡ cond (not b) (c ∷ dropped (λ (d : Cursor). d.name) name cs) (dropped (λ (d : Cursor). d.name) name cs)
    by true rest = rest
    by false rest = ap (λ l. c ∷ l) rest

one_cursor : (c d : Cursor) → Some c ≡ Some d → c ≡ d
one_cursor c d same = cc

-- ---- a session with which open cursors agree

module _ {C : Type 0} (R : C → Cursor → Type 0) (entries : List (List ℕ × C)) (x : SessionState) (agrees : Agrees (λ (c : Cursor). c.name) R entries x.cursors) where
  names_are : keys_of entries ≡ cursor_names x
  names_are = agree_names (λ (c : Cursor). c.name) R entries x.cursors agrees

  -- a name that is open there is open in the session, and so is one that isn't
  named : (name : List ℕ) (b : Bool) → is_open name entries ≡ b → list_any (same name) (cursor_names x) ≡ b
  named name b is = ap (list_any (same name)) (sym names_are) ∙ is

  -- a name under which a cursor was found
  found_named : (name : List ℕ) (found : Option C) → found ≡ cursor_of name entries → is_open name entries ≡ is_some found
  found_named name found is = sym (is_some-lookup (key_eq name) entries) ∙ ap is_some (sym is)

  module _ (s : State) (piece : Piece) where
    pub open_refused : (asked : OpenAsked) → SaysOne piece (λ statement. OpensCursor s statement asked) → (r : Refusal)
        → first_refusal (cursor_rules (keys_of entries) (OpenCursor asked.cursor asked.rows.select)) ≡ Some r → turn_by grammar_parser x s piece ≡ refused_turn x r
    open_refused asked says r first =
        opened_refused s piece asked says x r (ap (λ names. first_refusal (cursor_rules names (OpenCursor asked.cursor asked.rows.select))) (sym names_are) ∙ first)

    pub open_taken : (asked : OpenAsked) → SaysOne piece (λ statement. OpensCursor s statement asked)
        → first_refusal (cursor_rules (keys_of entries) (OpenCursor asked.cursor asked.rows.select)) ≡ None
        → turn_by grammar_parser x s piece ≡ ok_turn (record x { cursors = x.cursors ++ record { name = asked.cursor; rows = rows_selected s asked.rows.select } ∷ [] })
    open_taken asked says first =
        opened_turns s piece asked says x (ap (λ names. first_refusal (cursor_rules names (OpenCursor asked.cursor asked.rows.select))) (sym names_are) ∙ first)

    pub fetch_refused : (asked : FetchAsked) → SaysOne piece (λ statement. FetchesRows s statement asked) → None ≡ cursor_of asked.cursor entries
        → turn_by grammar_parser x s piece ≡ refused_turn x (NoCursor asked.cursor)
    fetch_refused asked says none = fetched_refused s piece asked says x (named asked.cursor false (found_named asked.cursor None none))

    -- the cursor that was found gives its next rows
    pub fetch_taken : (asked : FetchAsked) → SaysOne piece (λ statement. FetchesRows s statement asked) → (c : C) → Some c ≡ cursor_of asked.cursor entries
        → (d : Cursor) × R c d × (turn_by grammar_parser x s piece ≡ record {
          session = record x { cursors = rows_given asked.cursor asked.count x.cursors };
          reply = rows_lines (take asked.count d.rows);
          tail = NoTail;
          refused = None;
        })
    fetch_taken asked says c is =
        let d = agree_some (λ (c : Cursor). c.name) R asked.cursor entries x.cursors c is agrees in (
          d.0,
          d.2,
          fetched_turns s piece asked says x (named asked.cursor true (found_named asked.cursor (Some c) is))
              ∙ ap (λ (found : Option Cursor). record {
                session = record x { cursors = rows_given asked.cursor asked.count x.cursors };
                reply = rows_lines (take asked.count (option_map_or (λ (c : Cursor). c.rows) found []));
                tail = NoTail;
                refused = None;
              }) d.1,
        )

    pub close_refused : (name : List ℕ) → SaysOne piece (λ statement. ClosesCursor s statement name) → is_open name entries ≡ false
        → turn_by grammar_parser x s piece ≡ refused_turn x (NoCursor name)
    close_refused name says free = closed_refused s piece name says x (named name false free)

    pub close_taken : (name : List ℕ) → SaysOne piece (λ statement. ClosesCursor s statement name) → is_open name entries ≡ true
        → turn_by grammar_parser x s piece ≡ ok_turn (record x { cursors = without_cursor name x.cursors })
    close_taken name says there = closed_turns s piece name says x (named name true there)

  -- ---- they agree after it

  pub opened_agrees : (name : List ℕ) (rows : Rows) (c : C) → R c (record { name = name; rows = rows })
      → Agrees (λ (c : Cursor). c.name) R (entries ++ (name, c) ∷ []) (x.cursors ++ record { name = name; rows = rows } ∷ [])
  opened_agrees name rows c met = agree_opened (λ (c : Cursor). c.name) R name c (record { name = name; rows = rows }) refl met entries x.cursors agrees

  pub fetched_agrees : (name : List ℕ) (count : ℕ) (c new : C) → IsOnce entries → Some c ≡ cursor_of name entries
      → ((d : Cursor) → R c d → R new (record d { rows = drop count d.rows }))
      → Agrees (λ (c : Cursor). c.name) R (with_cursor name entries new) (rows_given name count x.cursors)
  fetched_agrees name count c new once is moved =
      agree_changed (λ (c : Cursor). c.name) R name new (λ (d : Cursor). record d { rows = drop count d.rows }) (λ d. refl) entries x.cursors once agrees by
    where
      by : (d : Cursor) → find (has_name (λ (c : Cursor). c.name) name) x.cursors ≡ Some d → R new (record d { rows = drop count d.rows })
      by d there =
          let met = agree_some (λ (c : Cursor). c.name) R name entries x.cursors c is agrees in
          moved d (subst (R c) (one_cursor met.0 d (sym met.1 ∙ there)) met.2)

  pub closed_agrees : (name : List ℕ) → IsOnce entries → Agrees (λ (c : Cursor). c.name) R (without name entries) (without_cursor name x.cursors)
  closed_agrees name once =
      subst (Agrees (λ (c : Cursor). c.name) R (without name entries)) (sym (without_is name x.cursors)) (agree_closed (λ (c : Cursor). c.name) R name entries x.cursors once agrees)
