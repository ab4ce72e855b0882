-- The open cursors of a session, as a list of names and cursors in the order of opening.
use Rattle.std.specs.Prelude.{ℕ, Bool, List, Option}
use Rattle.std.specs.List.{IsDistinct, list_any}
use Rattle.std.specs.Map.{keys_of, lookup, remove_entry, set_value}
use Rattle.std.specs.Global.{Vec}
use Rattle.sasi_types.specs.Key.{key_eq}

module _ {C : Type 0} where
  -- an entry of the map as its callers see it: the bytes of the name, and the cursor
  abbrev pub entry_of : Vec ℕ × C → List ℕ × C
  entry_of entry = (entry.0.items, entry.1)

  -- a cursor of the name is open
  abbrev pub is_open : List ℕ → List (List ℕ × C) → Bool
  is_open name entries = list_any (key_eq name) (keys_of entries)

  -- the cursor of the name
  abbrev pub cursor_of : List ℕ → List (List ℕ × C) → Option C
  cursor_of name entries = lookup (key_eq name) entries

  -- the same list, with this cursor under the name in place of the one that it had
  abbrev pub with_cursor : List ℕ → List (List ℕ × C) → C → List (List ℕ × C)
  with_cursor name entries cursor = set_value (key_eq name) entries cursor

  -- the list without the entry of the name, the others in their order
  abbrev pub without : List ℕ → List (List ℕ × C) → List (List ℕ × C)
  without name entries = remove_entry (key_eq name) entries

  -- no name stands twice
  abbrev pub IsOnce : List (List ℕ × C) → Type 0
  IsOnce entries = IsDistinct key_eq (keys_of entries)
