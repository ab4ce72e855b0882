-- References to keys.
use Rattle.std.specs.Prelude.{◌≡◌, ℕ, Bool, ◌||◌, List}
use Rattle.std.specs.Borrow.{Bor}
use Rattle.std.specs.List.{list_any}
use Rattle.std.specs.declared.cmp.Ordering.{Ordering}
use Rattle.sasi_types.specs.Key.{key_cmp}
use Rattle.sasi_model.specs.Tokens.{same}

-- they are in the order of the keys
abbrev pub ref_cmp : Bor (List ℕ) → Bor (List ℕ) → Ordering
ref_cmp a b = key_cmp a.now b.now

-- one of the keys has these bytes
abbrev pub has_key : List ℕ → List (Bor (List ℕ)) → Bool
has_key bytes keys = list_any (λ (key : Bor (List ℕ)). same bytes key.now) keys

-- they are the keys that pass a test
abbrev pub AreKeys : (List ℕ → Bool) → List (Bor (List ℕ)) → Type 0
AreKeys passes keys = (bytes : List ℕ) → has_key bytes keys ≡ passes bytes

-- those that pass a test were added
abbrev pub AddsKeys : (List ℕ → Bool) → List (Bor (List ℕ)) → List (Bor (List ℕ)) → Type 0
AddsKeys passes old new = (bytes : List ℕ) → has_key bytes new ≡ (has_key bytes old || passes bytes)
