-- The key that a WHERE asks for.
use Rattle.std.proofs.Common.{◌≡◌, ℕ, Bool, true, false, ◌&&◌, List, [], ◌∷◌, Some, refl, sym, ◌∙◌}
use Rattle.std.specs.Cmp.Lexicographic.{same_text}
use Rattle.sasi_model.specs.Cells.{Partition}
use Rattle.sasi_model.specs.Conditions.{Condition, Indexed, OfKey, Plain, meets}
use Rattle.sasi_model.specs.Filters.{accepts, key_asked, where_of}
use Rattle.sasi_model.specs.Tokens.{same}

both : (a b : Bool) → (a && b) ≡ true → (a ≡ true) × (b ≡ true)
both true b e = (refl, e)
both false b e = cc

-- **No other key is accepted than the one that is asked for.**
pub asked_alone : (conditions : List Condition) (asked key : List ℕ) (p : Partition) → key_asked conditions ≡ Some asked → accepts (where_of conditions) key p ≡ true → key ≡ asked
asked_alone [] asked key p is accepted = cc
asked_alone (OfKey bytes ∷ cs) asked key p is accepted =
    let first = both (same key bytes) (accepts (where_of cs) key p) accepted in
    let one : bytes ≡ asked = cc in
    same_text key bytes (sym first.0) ∙ one
asked_alone (Indexed index search ∷ cs) asked key p is accepted = asked_alone cs asked key p is (both (meets key p (Indexed index search)) (accepts (where_of cs) key p) accepted).1
asked_alone (Plain column comparison ∷ cs) asked key p is accepted = asked_alone cs asked key p is (both (meets key p (Plain column comparison)) (accepts (where_of cs) key p) accepted).1
