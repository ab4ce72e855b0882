-- What is known of an OPEN that no rule of cursors refuses, and of one that a rule refuses.
use Rattle.std.proofs.Common.{◌≡◌, ◌<◌, ℕ, false, nat_le, length, List, [], ◌∷◌, Option, None, Some, ◌∙◌, sym, arith}
use Rattle.std.proofs.lemmas.Bool.Decides.{nat_tests}
use Rattle.std.proofs.lemmas.List.{length-map}
use Rattle.std.specs.List.{list_any}
use Rattle.std.specs.Map.{keys_of}
use Rattle.sasi_cursors.specs.Cursors.{is_open}
use Rattle.sasi_layout.specs.Serving.{StoreInMemory}
use Rattle.sasi_machine.proofs.CursorTurns.{name_free}
use Rattle.sasi_machine.specs.declared.prepared.OpenAsked.{OpenAsked}
use Rattle.sasi_model.specs.Abbreviations.{CursorExists, TooManyCursors, first_refusal}
use Rattle.sasi_model.specs.Refusals.{Refusal, answer_rules, too_many_relations}
use Rattle.sasi_model.specs.Tokens.{same}
use Rattle.sasi_schema.proofs.RuleLaws.{first_behind, none_first}
use Rattle.sasi_store.specs.CursorCalls.{CanOpenOn, open_refusal}
use Rattle.sasi_store.specs.Cursors.{Opened}
use Rattle.sasi_store.specs.Selects.{IsSelectable}
use Rattle.sasi_store.specs.declared.session_state.OpenCursor.{OpenCursor}

-- one refusal
pub one_refusal : (o : Option Refusal) (r s : Refusal) → o ≡ Some r → o ≡ Some s → s ≡ r
one_refusal None r s is other = cc
one_refusal (Some x) r s is other = cc

pub none_refused : {P : Type 0} (o : Option Refusal) (r : Refusal) → o ≡ None → o ≡ Some r → P
none_refused o r none is = (let no : None ≡ Some r = sym none ∙ is in cc)

module _ (asked : OpenAsked) (cursors : Opened) (none : open_refusal cursors asked ≡ None) where
  abbrev names : List (List ℕ)
  names = keys_of cursors

  -- there are fewer cursors than the limit, and there aren't too many relations
  others : (nat_le 64 (length names) ≡ false) × (first_refusal (too_many_relations asked.rows.select ∷ []) ≡ None)
  others =
      none_first (nat_le 64 (length names), TooManyCursors) (too_many_relations asked.rows.select ∷ [])
      (none_first (list_any (same asked.cursor) names, CursorExists asked.cursor) ((nat_le 64 (length names), TooManyCursors) ∷ too_many_relations asked.rows.select ∷ []) none).1

  -- **The rows can be selected,**
  pub can_select : (store : StoreInMemory) → CanOpenOn store asked.rows → IsSelectable store asked.rows
  can_select store can = record {
    some = can.some;
    definition = can.definition;
    there = can.there;
    can = record { written = can.can.written; taken = first_behind (answer_rules asked.rows.select (Some can.definition)) (too_many_relations asked.rows.select ∷ []) can.can.taken ∙ others.1 };
  }

  -- **the name is free,**
  pub has_free_name : is_open asked.cursor cursors ≡ false
  has_free_name = name_free asked names none

  -- **and there is room for one more.**
  pub has_few : length cursors < 64
  has_few =
      let below : length names < 64 = grind (arith, nat_tests, others.0) in
      omega (arith, below, length-map cursors (λ (e : List ℕ × OpenCursor). e.0))
