-- Laws of plans: relations by the numbers of their indexes.
use Rattle.std.proofs.Common.{◌≡◌, ℕ, ◌==◌, ◌≤◌, Bool, true, false, cond, nat_eq, List, [], ◌∷◌, length, map, Option, Some, unwrap_or, refl, sym, ap, subst, ◌∙◌, arith}
use Rattle.std.proofs.lemmas.Bool.{or_parts}
use Rattle.std.proofs.lemmas.Bool.Decides.{nat_tests}
use Rattle.std.specs.List.{AllByRecursion, zip}
use Rattle.std.specs.Map.{lookup}
use Rattle.sasi_types.specs.declared.index_def.IndexDef.{IndexDef}
use Rattle.sasi_manifest.specs.ListedFiles.{is_among}
use Rattle.sasi_model.specs.Indexes.{index_of, index_on}
use Rattle.sasi_model.specs.State.{Definition, Index}
use Rattle.sasi_layout.proofs.Parts.{AreApart}
use Rattle.sasi_layout.specs.Layout.{TableParts}
use Rattle.sasi_engine.specs.Asked.{Asked}
use Rattle.sasi_engine.specs.Views.{AreAsked}
use Rattle.sasi_engine.specs.declared.relation.IndexedRelation.{IndexedRelation}
use Rattle.sasi_plan.specs.Plans.{IsAskedOf, IsNumbered, number_on, relation_of}

-- ---- an index on a column has a number

equal_columns : (m n : ℕ) (b : Bool) → nat_eq m n ≡ b → (m == n) ≡ b
equal_columns m n b is = grind (arith, nat_tests)

numbered : (column : ℕ) (defs : List IndexDef) (i : Index) → index_on column (map index_of defs) ≡ Some i → (number : ℕ) × (number_on column defs ≡ Some number)
numbered column [] i found = cc
numbered column (def ∷ defs) i found = by (nat_eq def.column column) refl (numbered column defs i)
  where
    by : (b : Bool) → nat_eq def.column column ≡ b → (index_on column (map index_of defs) ≡ Some i → (number : ℕ) × (number_on column defs ≡ Some number))
        → (number : ℕ) × (cond b (Some def.number) (number_on column defs) ≡ Some number)
    by true is later = (def.number, refl)
    by false is later = later (ap (λ b. cond b (Some (index_of def)) (index_on column (map index_of defs))) (sym (equal_columns def.column column false is)) ∙ found)

pub all_numbered : (d : Definition) (defs : List IndexDef) (asked : List Asked) → d.indexes ≡ map index_of defs → AllByRecursion (IsAskedOf d) asked → AllByRecursion (IsNumbered defs) asked
all_numbered d defs [] are all = tt
all_numbered d defs (a ∷ asked) are all =
    (numbered a.index.column defs a.index (subst (λ (is : List Index). index_on a.index.column is ≡ Some a.index) are all.0.defined), all_numbered d defs asked are all.1)

-- ---- and is found by it

turned : (n m : ℕ) → nat_eq n m ≡ false → nat_eq m n ≡ false
turned n m is = grind (arith, nat_tests)

apart_from : (n column m : ℕ) (defs : List IndexDef) → is_among (map (λ (def : IndexDef). def.number) defs) n ≡ false → number_on column defs ≡ Some m → nat_eq m n ≡ false
apart_from n column m [] none found = cc
apart_from n column m (def ∷ defs) none found =
    let parts = or_parts (nat_eq n def.number) (is_among (map (λ (d : IndexDef). d.number) defs) n) none in
    by (nat_eq def.column column) found parts.0 (apart_from n column m defs parts.1)
  where
    by : (b : Bool) → cond b (Some def.number) (number_on column defs) ≡ Some m → nat_eq n def.number ≡ false → (number_on column defs ≡ Some m → nat_eq m n ≡ false) → nat_eq m n ≡ false
    by true found other later = let it : def.number ≡ m = cc in turned n m (ap (nat_eq n) (sym it) ∙ other)
    by false found other later = later found

looked : (column n : ℕ) (defs : List IndexDef) (i : Index) → AreApart (map (λ (def : IndexDef). def.number) defs) → index_on column (map index_of defs) ≡ Some i → number_on column defs ≡ Some n
    → lookup (nat_eq n) (zip (map (λ (def : IndexDef). def.number) defs) (map index_of defs)) ≡ Some i
looked column n [] i apart found numbered = cc
looked column n (def ∷ defs) i apart found numbered =
    by (nat_eq def.column column) refl numbered (looked column n defs i apart.1)
  where
    rest : Option Index
    rest = lookup (nat_eq n) (zip (map (λ (d : IndexDef). d.number) defs) (map index_of defs))

    by : (b : Bool) → nat_eq def.column column ≡ b → cond b (Some def.number) (number_on column defs) ≡ Some n
        → (index_on column (map index_of defs) ≡ Some i → number_on column defs ≡ Some n → rest ≡ Some i) → cond (nat_eq n def.number) (Some (index_of def)) rest ≡ Some i
    by true is numbered later =
        let it : def.number ≡ n = cc in
        let own : nat_eq n def.number ≡ true = grind (arith, nat_tests, it) in
        ap (λ b. cond b (Some (index_of def)) rest) own
        ∙ (sym (ap (λ b. cond b (Some (index_of def)) (index_on column (map index_of defs))) (equal_columns def.column column true is)) ∙ found)
    by false is numbered later =
        let other : nat_eq n def.number ≡ false = apart_from def.number column n defs apart.0 numbered in
        ap (λ b. cond b (Some (index_of def)) rest) other
        ∙ later (sym (ap (λ b. cond b (Some (index_of def)) (index_on column (map index_of defs))) (equal_columns def.column column false is)) ∙ found) numbered

-- **The relations of a plan ask so of the indexes of its table.**
pub relations_asked : (t : TableParts) (defs : List IndexDef) (asked : List Asked) → t.definition.indexes ≡ map index_of defs → t.numbers ≡ map (λ (def : IndexDef). def.number) defs → AreApart t.numbers
    → AllByRecursion (IsAskedOf t.definition) asked → AreAsked t (map (relation_of defs) asked) asked
relations_asked t defs [] are numbers apart all = tt
relations_asked t defs (a ∷ asked) are numbers apart all = (
  record {
    numbered =
        let found = subst (λ (is : List Index). index_on a.index.column is ≡ Some a.index) are all.0.defined in
        let number = numbered a.index.column defs a.index found in
        subst (λ (ns : List ℕ). lookup (nat_eq (relation_of defs a).index) (zip ns t.definition.indexes) ≡ Some a.index) (sym numbers)
        (subst (λ (is : List Index). lookup (nat_eq (relation_of defs a).index) (zip (map (λ (def : IndexDef). def.number) defs) is) ≡ Some a.index) (sym are)
        (subst (λ (n : ℕ). lookup (nat_eq n) (zip (map (λ (def : IndexDef). def.number) defs) (map index_of defs)) ≡ Some a.index) (sym (ap (λ (o : Option ℕ). unwrap_or o 0) number.1))
        (looked a.index.column number.0 defs a.index (subst AreApart numbers apart) found number.1)));
    defined = all.0.defined;
    can = all.0.askable.can;
    some = all.0.askable.some;
    search_is = refl;
  },
  relations_asked t defs asked are numbers apart all.1,
)

-- and each asks for a word
pub relations_words : (defs : List IndexDef) (d : Definition) (asked : List Asked) → AllByRecursion (IsAskedOf d) asked → AllByRecursion (λ (r : IndexedRelation). 1 ≤ length r.words) (map (relation_of defs) asked)
relations_words defs d [] all = tt
relations_words defs d (a ∷ asked) all = (all.0.askable.some, relations_words defs d asked all.1)
