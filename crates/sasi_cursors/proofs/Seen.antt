-- What the words of the map say of the list that its callers see.
use Rattle.std.proofs.Common.{◌≡◌, ℕ, Bool, true, false, cond, ◌||◌, ◌++◌, List, [], ◌∷◌, map, Some, is_some, refl, ap, if◌then◌else◌, true≢false}
use Rattle.std.specs.Global.{Vec}
use Rattle.std.specs.List.{AllByRecursion, IsDistinct}
use Rattle.std.specs.Map.{keys_of, lookup, remove_entry, set_value, values_of}
use Rattle.indexmap.specs.IndexMap.{insert_entry}
use Rattle.sasi_types.specs.Key.{key_eq}
use Rattle.sasi_cursors.specs.Cursors.{cursor_of, entry_of, is_open, with_cursor, without, IsOnce}

module _ {C : Type 0} where
  -- the values stay
  pub values_seen : (es : List (Vec ℕ × C)) → values_of (map entry_of es) ≡ values_of es
  values_seen [] = refl
  values_seen (e ∷ es) = ap (λ l. e.1 ∷ l) (values_seen es)

  module _ (name : List ℕ) where
    -- the cursor that the map finds
    pub lookup_seen : (es : List (Vec ℕ × C)) → cursor_of name (map entry_of es) ≡ lookup (λ key. key_eq name key.items) es
    lookup_seen [] = refl
    lookup_seen (e ∷ es) = ap (cond (key_eq name e.0.items) (Some e.1)) (lookup_seen es)

    -- a name is there where the map finds a cursor
    pub open_seen : (es : List (Vec ℕ × C)) → is_some (lookup (λ key. key_eq name key.items) es) ≡ is_open name (map entry_of es)
    open_seen [] = refl
    open_seen (e ∷ es) = by (key_eq name e.0.items) (open_seen es)
      where
        by : (b : Bool) → is_some (lookup (λ key. key_eq name key.items) es) ≡ is_open name (map entry_of es)
            → is_some (cond b (Some e.1) (lookup (λ key. key_eq name key.items) es)) ≡ (b || is_open name (map entry_of es))
        by true _ = refl
        by false rest = rest

    -- a cursor that is written in its place
    pub set_seen : (es : List (Vec ℕ × C)) (c : C) → map entry_of (set_value (λ key. key_eq name key.items) es c) ≡ with_cursor name (map entry_of es) c
    set_seen [] c = refl
    set_seen (e ∷ es) c = by (key_eq name e.0.items) (set_seen es c)
      where
        by : (b : Bool) → map entry_of (set_value (λ key. key_eq name key.items) es c) ≡ with_cursor name (map entry_of es) c
            → map entry_of (cond b ((e.0, c) ∷ es) (e ∷ set_value (λ key. key_eq name key.items) es c))
            ≡ cond b ((e.0.items, c) ∷ map entry_of es) (entry_of e ∷ with_cursor name (map entry_of es) c)
        by true _ = refl
        by false rest = ap (λ l. entry_of e ∷ l) rest

    -- an entry that is taken out
    pub removed_seen : (es : List (Vec ℕ × C)) → map entry_of (remove_entry (λ key. key_eq name key.items) es) ≡ without name (map entry_of es)
    removed_seen [] = refl
    removed_seen (e ∷ es) = by (key_eq name e.0.items) (removed_seen es)
      where
        by : (b : Bool) → map entry_of (remove_entry (λ key. key_eq name key.items) es) ≡ without name (map entry_of es)
            → map entry_of (cond b es (e ∷ remove_entry (λ key. key_eq name key.items) es)) ≡ cond b (map entry_of es) (entry_of e ∷ without name (map entry_of es))
        by true _ = refl
        by false rest = ap (λ l. entry_of e ∷ l) rest

  -- an entry of a name that isn't there
  pub inserted_seen : (es : List (Vec ℕ × C)) (key : Vec ℕ) (c : C) → is_open key.items (map entry_of es) ≡ false
      → map entry_of (insert_entry (λ x y. key_eq x.items y.items) es key c) ≡ map entry_of es ++ (key.items, c) ∷ []
  inserted_seen [] key c absent = refl
  inserted_seen (e ∷ es) key c absent = by (key_eq key.items e.0.items) absent (inserted_seen es key c)
    where
      by : (b : Bool) → (b || is_open key.items (map entry_of es)) ≡ false
          → (is_open key.items (map entry_of es) ≡ false
          → map entry_of (insert_entry (λ x y. key_eq x.items y.items) es key c) ≡ map entry_of es ++ (key.items, c) ∷ [])
          → map entry_of (if b then (e.0, c) ∷ es else e ∷ insert_entry (λ x y. key_eq x.items y.items) es key c)
          ≡ entry_of e ∷ map entry_of es ++ (key.items, c) ∷ []
      by true there _ = absurd (true≢false there)
      by false rest next = ap (λ l. entry_of e ∷ l) (next rest)

  -- no name differs from itself by the vector that holds it
  pub once_seen : (es : List (Vec ℕ × C)) → IsDistinct (λ x y. key_eq x.items y.items) (keys_of es) → IsOnce (map entry_of es)
  unfolding IsDistinct
  once_seen [] d = tt
  once_seen (e ∷ es) d = (apart es d.0, once_seen es d.1)
    where
      apart : (rest : List (Vec ℕ × C)) → AllByRecursion (λ y. key_eq e.0.items y.items ≡ false) (keys_of rest)
          → AllByRecursion (λ y. key_eq e.0.items y ≡ false) (keys_of (map entry_of rest))
      apart [] a = tt
      apart (f ∷ rest) a = (a.0, apart rest a.1)
