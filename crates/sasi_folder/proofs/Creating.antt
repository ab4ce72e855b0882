-- A table that a statement makes can be listed.
use Rattle.std.specs.Prelude.{◌≡◌, ℕ, suc, ◌≤◌, ◌<◌, Bool, true, false, not, ◌||◌, nat_eq, nat_le, nat_lt, ◌==◌, if◌then◌else◌, is_some, unwrap_or, List, [], ◌∷◌, ◌++◌, length, map, Option, Some, None, refl}
use Rattle.std.proofs.Common.{sym, ap, subst, ◌∙◌, arith}
use Rattle.std.proofs.lemmas.Bool.Decides.{nat_tests}
use Rattle.std.proofs.lemmas.List.{length-map}
use Rattle.std.specs.List.{AllByRecursion, find, list_any}
use Rattle.sasi_types.specs.declared.statement.Statement.TheVariants.{CreateTable}
use Rattle.sasi_model.specs.Statements.{same}
use Rattle.sasi_model.specs.State.{Column, Definition, State, position_in}
use Rattle.sasi_model.specs.Abbreviations.{definitions, key_position, one_more, NoColumn, first_refusal}
use Rattle.sasi_model.specs.Refusals.{RefusalRule, create_rules, names_in, refusal, repeat_rules}
use Rattle.sasi_model.specs.WellFormed.{IsWellFormed, IsWellFormedColumn}
use Rattle.sasi_manifest.specs.declared.listing.Listing.{Listing}
use Rattle.sasi_manifest.specs.Consistent.{IsConsistent}
use Rattle.sasi_manifest.specs.ListedDefinition.{ListedDefinition}
use Rattle.sasi_manifest.specs.declared.edit.Edit.TheVariants as edits
use Rattle.sasi_manifest.specs.Edits.{Applies}
use Rattle.sasi_manifest.specs.Listings.{listed_definitions}
use Rattle.sasi_manifest.specs.Abbreviations.{listed_names}
use Rattle.sasi_manifest.proofs.Applying.{create_applies}
use Rattle.sasi_manifest.specs.Naming.{AreApart, AreNames}

-- ---- rules that don't apply

abbrev pub IsOut : RefusalRule → Type 0
IsOut rule = rule.0 ≡ false

pub none_applies : (rules : List RefusalRule) → first_refusal rules ≡ None → AllByRecursion IsOut rules
none_applies [] is = tt
none_applies (rule ∷ rules) is =
    elim rule.0 as (λ b. rule.0 ≡ b → (if b then Some rule.1 else first_refusal rules) ≡ None → IsOut rule × AllByRecursion IsOut rules) [
      | true ↦ λ e none. cc
      | false ↦ λ e none. (e, none_applies rules none)
    ] refl is

pub apart_at : {A : Type 0} (P : A → Type 0) (xs ys : List A) → AllByRecursion P (xs ++ ys) → AllByRecursion P xs × AllByRecursion P ys
apart_at P [] ys all = (tt, all)
apart_at P (x ∷ xs) ys all = let rest = apart_at P xs ys all.1 in ((all.0, rest.0), rest.1)

-- ---- names

eq_sym : (a b : ℕ) → nat_eq a b ≡ nat_eq b a
eq_sym a b =
    elim (nat_eq a b) as (λ t. nat_eq a b ≡ t → t ≡ nat_eq b a) [
      | true ↦ λ is. (let back : nat_eq b a ≡ true = grind (arith, nat_tests) in sym back)
      | false ↦ λ is. (let back : nat_eq b a ≡ false = grind (arith, nat_tests) in sym back)
    ] refl

-- the names are the same, whichever comes first
pub same_sym : (a b : List ℕ) → same a b ≡ same b a
same_sym [] [] = refl
same_sym [] (y ∷ ys) = refl
same_sym (x ∷ xs) [] = refl
same_sym (x ∷ xs) (y ∷ ys) = rw (eq_sym x y, same_sym xs ys) refl

-- a name under which nothing is found is none of the names
pub free_of : {A : Type 0} (name_of : A → List ℕ) (name : List ℕ) (xs : List A) → is_some (find (λ (x : A). same (name_of x) name) xs) ≡ false → list_any (same name) (map name_of xs) ≡ false
free_of name_of name [] none = refl
free_of {A} name_of name (x ∷ xs) none =
    elim (same (name_of x) name) as (λ b. same (name_of x) name ≡ b → is_some (if b then Some x else find (λ (x : A). same (name_of x) name) xs) ≡ false → (same name (name_of x) || list_any (same name) (map name_of xs)) ≡ false) [
      | true ↦ λ e is. cc
      | false ↦ λ e is. (let other : same name (name_of x) ≡ false = same_sym name (name_of x) ∙ e in let rest = free_of name_of name xs is in rw (other, rest) refl)
    ] refl none

names_listed : (tables : List ListedDefinition) → map (λ (d : Definition). d.name) (listed_definitions tables) ≡ listed_names tables
names_listed [] = refl
names_listed (t ∷ tables) = ap (λ (l : List (List ℕ)). t.definition.name ∷ l) (names_listed tables)

apart_of : (before names : List (List ℕ)) → AllByRecursion IsOut (repeat_rules before names) → AreApart before names
apart_of before [] all = tt
apart_of before (name ∷ names) all = (all.0, apart_of (before ++ name ∷ []) names all.1)

names_of : (columns : List Column) → AllByRecursion IsWellFormedColumn columns → AreNames (names_in columns)
names_of [] all = tt
names_of (c ∷ columns) all = (all.0, names_of columns all.1)

-- ---- the key

one_more_below : (found : Option ℕ) (bound : ℕ) → unwrap_or found 0 < bound → unwrap_or (one_more found) 0 < suc bound
one_more_below None bound below = omega arith
one_more_below (Some position) bound below = omega (arith, below)

-- a name that stands in the list has a position in it
placed : (name : List ℕ) (columns : List Column) → list_any (same name) (names_in columns) ≡ true → unwrap_or (position_in name columns) 0 < length columns
placed name [] there = cc
placed name (c ∷ columns) there =
    elim (same name c.0) as (λ b. (b || list_any (same name) (names_in columns)) ≡ true → unwrap_or (if b then Some 0 else one_more (position_in name columns)) 0 < suc (length columns)) [
      | true ↦ λ is. omega arith
      | false ↦ λ is. one_more_below (position_in name columns) (length columns) (placed name columns is)
    ] there

pub not_false : (b : Bool) → not b ≡ false → b ≡ true
not_false true is = refl
not_false false is = cc

key_inside : (columns : List Column) (keys : List (List ℕ)) → (length keys == 0) ≡ false → AllByRecursion IsOut (map (λ key. (not (list_any (same key) (names_in columns)), NoColumn key)) keys) → key_position columns keys < length columns
key_inside columns [] some all = cc
key_inside columns (key ∷ keys) some all = placed key columns (not_false (list_any (same key) (names_in columns)) all.0)

below_limit : (n limit : ℕ) → nat_le limit n ≡ false → n < limit
below_limit n limit is = grind (arith, nat_tests)

within_limit : (n limit : ℕ) → nat_lt limit n ≡ false → n ≤ limit
within_limit n limit is = grind (arith, nat_tests)

-- ---- the table

-- **A table that a statement makes can be listed**, where what is listed are the tables of the state.
pub can_create : (listing : Listing) (s : State) (table : List ℕ) (columns : List Column) (keys : List (List ℕ)) → IsConsistent listing → definitions s.tables ≡ listed_definitions listing.tables → IsWellFormed (CreateTable table columns keys)
    → refusal s (CreateTable table columns keys) ≡ None → Applies (Some listing) (edits.CreateTable (suc (length listing.tables)) table columns (key_position columns keys) listing.last)
unfolding refusal
can_create listing s table columns keys known same_tables written taken =
    let all = none_applies (create_rules (definitions s.tables) table columns keys) taken in
    let missing = apart_at IsOut (map (λ key. (not (list_any (same key) (names_in columns)), NoColumn key)) keys) _ all.1 in
    let repeated = apart_at IsOut (repeat_rules [] (names_in columns)) _ missing.1 in
    let key = key_inside columns keys repeated.1.0 missing.0 in
    let count : length (definitions s.tables) ≡ length listing.tables = ap length same_tables ∙ length-map listing.tables (λ (t : ListedDefinition). t.definition) in
    let few = below_limit (length (definitions s.tables)) 256 repeated.1.1.0 in
    let free = free_of (λ (d : Definition). d.name) table (definitions s.tables) all.0 in
    create_applies listing (suc (length listing.tables)) table columns (key_position columns keys) listing.last (record {
      next = refl;
      few = omega (arith, few, count);
      name_fits = written.0;
      free = subst (λ (l : List (List ℕ)). list_any (same table) l ≡ false) (ap (map (λ (d : Definition). d.name)) same_tables ∙ names_listed listing.tables) free;
      some_columns = omega (arith, key);
      few_columns = within_limit (length columns) 64 repeated.1.1.1.0;
      column_names = names_of columns written.1;
      apart = apart_of [] (names_in columns) repeated.0;
      key_within = key;
      since_some = omega (arith, known.start.floor_some, known.start.ordered);
      since_within = omega arith;
      since_fits = known.start.last_fits;
    })
