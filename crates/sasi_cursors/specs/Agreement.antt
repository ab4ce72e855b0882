-- The open cursors beside another list of cursors, as that of a model's session: of any type that tells its names.
use Rattle.std.specs.Prelude.{◌≡◌, ℕ, Bool, List, filter, if◌then◌else◌, map, not}
use Rattle.std.specs.List.{AllZip}
use Rattle.sasi_types.specs.Key.{key_eq}

module _ {C D : Type 0} (name_of : D → List ℕ) where
  -- one by one, in their order, the names are the same and the cursors meet the relation
  abbrev pub Agrees : (C → D → Type 0) → List (List ℕ × C) → List D → Type 0
  Agrees R entries cursors = AllZip (λ entry cursor. (entry.0 ≡ name_of cursor) × R entry.1 cursor) entries cursors

module _ {D : Type 0} (name_of : D → List ℕ) (name : List ℕ) where
  -- a cursor has the name
  abbrev pub has_name : D → Bool
  has_name cursor = key_eq name (name_of cursor)

  -- each cursor of the name is changed
  abbrev pub changed : (D → D) → List D → List D
  changed change cursors = map (λ cursor. if has_name cursor then change cursor else cursor) cursors

  -- each cursor of the name is left out
  abbrev pub dropped : List D → List D
  dropped cursors = filter (λ cursor. not (has_name cursor)) cursors
