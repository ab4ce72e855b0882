-- The first index whose analyzer is missing, as indexes are looked at one by one.
use Rattle.std.proofs.Common.{◌≡◌, ◌+◌, ◌<◌, ◌≤◌, ℕ, true, false, List, [], ◌∷◌, ◌++◌, length, map, take, Option, None, Some, refl, sym, ap, subst, ◌∙◌, inl, inr, arith}
use Rattle.std.proofs.Math.ListN.{get_or}
use Rattle.std.specs.Prelude.{Contains}
use Rattle.std.specs.List.{cons_option}
use Rattle.std.specs.Option.{option_map, option_to_list}
use Rattle.std.proofs.lemmas.Grind.{flat_map-append}
use Rattle.std.proofs.lemmas.List.{append-nil, append_assoc, map-append, take_all, take_more}
use Rattle.std.proofs.lemmas.List.Elements.{All-contains, All-push, Contains-append_left, Contains-push, Contains-push_cases}
use Rattle.sasi_types.specs.Rule.{class_of}
use Rattle.sasi_types.specs.declared.class.Class.{Class}
use Rattle.sasi_types.specs.declared.index_def.IndexDef.{IndexDef}
use Rattle.sasi_types.specs.declared.rule.Rule.{Rule}
use Rattle.sasi_analyzers.specs.Kits.{has_class}
use Rattle.sasi_layout.specs.Classes.{IsFirstMissing, classes_listed, classes_of}
use Rattle.sasi_manifest.specs.ListedDefinition.{ListedDefinition}
use Rattle.sasi_manifest.specs.ListedTables.{listed}
use Rattle.sasi_manifest.specs.declared.listed.ListedTable.{ListedTable}
use Rattle.sasi_model.specs.Indexes.{index_of}
use Rattle.sasi_recover.specs.Missing.{IsFirst, IsMissingOf, needed_by, needed_by_all}
use Rattle.sasi_recover.specs.declared.classes.Missing.{Missing}

-- ---- one index more

abbrev has : List Class → ℕ × Class → Type 0
has kinds c = has_class c.1 kinds ≡ true

-- an index of numbers needs nothing
pub unruled : (kinds : List Class) (needed : List (ℕ × Class)) (def : IndexDef) (before : Option Missing) → def.rule ≡ None → IsMissingOf kinds needed before → IsMissingOf kinds (needed ++ needed_by def) before
unruled kinds needed def before none missing =
    subst (λ (l : List (ℕ × Class)). IsMissingOf kinds l before) (sym (ap (λ (r : Option Rule). needed ++ option_to_list (option_map (λ rule. (def.number, class_of rule)) r)) none ∙ append-nil needed)) missing

-- one whose analyzer is there changes nothing
first_kept : (kinds : List Class) (needed : List (ℕ × Class)) (number : ℕ) (class : Class) (m : Missing) → (number < m.index → has_class class kinds ≡ true) → IsFirst kinds needed m → IsFirst kinds (needed ++ (number, class) ∷ []) m
first_kept kinds needed number class m there first = record {
  needs = Contains-append_left needed ((number, class) ∷ []) (m.index, m.class) first.needs;
  lacks = first.lacks;
  earlier = λ n other at below. elim (Contains-push_cases needed (number, class) (n, other) at) [
    | inl before ↦ first.earlier n other before below
    | inr same ↦ (
        let number_is : number ≡ n = ap (λ (c : ℕ × Class). c.0) same in
        let class_is : class ≡ other = ap (λ (c : ℕ × Class). c.1) same in
        subst (λ (c : Class). has_class c kinds ≡ true) class_is (there (omega (arith, below, number_is))))
  ];
}

needed_one : (needed : List (ℕ × Class)) (def : IndexDef) (rule : Rule) → def.rule ≡ Some rule → needed ++ needed_by def ≡ needed ++ (def.number, class_of rule) ∷ []
needed_one needed def rule is = ap (λ (r : Option Rule). needed ++ option_to_list (option_map (λ rule. (def.number, class_of rule)) r)) is

pub analyzed : (kinds : List Class) (needed : List (ℕ × Class)) (def : IndexDef) (rule : Rule) (before : Option Missing) → def.rule ≡ Some rule → has_class (class_of rule) kinds ≡ true
    → IsMissingOf kinds needed before → IsMissingOf kinds (needed ++ needed_by def) before
analyzed kinds needed def rule before is there missing =
    subst (λ (l : List (ℕ × Class)). IsMissingOf kinds l before) (sym (needed_one needed def rule is)) (kept before missing)
  where
    kept : (before : Option Missing) → IsMissingOf kinds needed before → IsMissingOf kinds (needed ++ (def.number, class_of rule) ∷ []) before
    kept None all = All-push (has kinds) needed (def.number, class_of rule) all there
    kept (Some m) first = first_kept kinds needed def.number (class_of rule) m (λ _. there) first

-- one without an analyzer, behind one with a lower number
pub kept_first : (kinds : List Class) (needed : List (ℕ × Class)) (number : ℕ) (class : Class) (m : Missing) → m.index ≤ number → IsFirst kinds needed m → IsFirst kinds (needed ++ (number, class) ∷ []) m
kept_first kinds needed number class m low first = first_kept kinds needed number class m (λ below. absurd (omega (arith, low, below))) first

-- and where it is the first
pub new_first : (kinds : List Class) (needed : List (ℕ × Class)) (number : ℕ) (class : Class) → has_class class kinds ≡ false
    → ((n : ℕ) (other : Class) → Contains needed (n, other) → n < number → has_class other kinds ≡ true) → IsFirst kinds (needed ++ (number, class) ∷ []) (record { index = number; class = class })
new_first kinds needed number class lacks earlier = record {
  needs = Contains-push needed (number, class);
  lacks = lacks;
  earlier = λ n other at below. elim (Contains-push_cases needed (number, class) (n, other) at) [
    | inl before ↦ earlier n other before below
    | inr same ↦ (let number_is : number ≡ n = ap (λ (c : ℕ × Class). c.0) same in absurd (omega (arith, below, number_is)))
  ];
}

pub first_of_all : (kinds : List Class) (needed : List (ℕ × Class)) (number : ℕ) (class : Class) → has_class class kinds ≡ false → IsMissingOf kinds needed None → IsFirst kinds (needed ++ (number, class) ∷ []) (record { index = number; class = class })
first_of_all kinds needed number class lacks all = new_first kinds needed number class lacks (λ n other at below. All-contains (has kinds) needed (n, other) all at)

pub first_before : (kinds : List Class) (needed : List (ℕ × Class)) (number : ℕ) (class : Class) (m : Missing) → has_class class kinds ≡ false → number ≤ m.index → IsFirst kinds needed m
    → IsFirst kinds (needed ++ (number, class) ∷ []) (record { index = number; class = class })
first_before kinds needed number class m lacks low first = new_first kinds needed number class lacks (λ n other at below. first.earlier n other at (omega (arith, low, below)))

-- the same, of an index with this rule
pub lacking : (kinds : List Class) (needed : List (ℕ × Class)) (def : IndexDef) (rule : Rule) (missing : Option Missing) → def.rule ≡ Some rule → IsMissingOf kinds (needed ++ (def.number, class_of rule) ∷ []) missing
    → IsMissingOf kinds (needed ++ needed_by def) missing
lacking kinds needed def rule missing is of = subst (λ (l : List (ℕ × Class)). IsMissingOf kinds l missing) (sym (needed_one needed def rule is)) of

-- ---- the indexes of a table

more_needed : (defs : List IndexDef) (def : IndexDef) → needed_by_all (defs ++ def ∷ []) ≡ needed_by_all defs ++ needed_by def
more_needed defs def = flat_map-append needed_by defs (def ∷ []) ∙ ap (λ (l : List (ℕ × Class)). needed_by_all defs ++ l) (append-nil (needed_by def))

pub none_yet : (kinds : List Class) (needed : List (ℕ × Class)) (before : Option Missing) → IsMissingOf kinds needed before → IsMissingOf kinds (needed ++ needed_by_all []) before
none_yet kinds needed before missing = subst (λ (l : List (ℕ × Class)). IsMissingOf kinds l before) (sym (append-nil needed)) missing

pub one_more : (kinds : List Class) (needed : List (ℕ × Class)) (defs : List IndexDef) (def : IndexDef) (missing : Option Missing) → IsMissingOf kinds ((needed ++ needed_by_all defs) ++ needed_by def) missing
    → IsMissingOf kinds (needed ++ needed_by_all (defs ++ def ∷ [])) missing
one_more kinds needed defs def missing of =
    subst (λ (l : List (ℕ × Class)). IsMissingOf kinds l missing)
    (append_assoc needed (needed_by_all defs) (needed_by def) ∙ ap (λ (l : List (ℕ × Class)). needed ++ l) (sym (more_needed defs def))) of

-- a turn of the loop over them
pub def_passed : (kinds : List Class) (needed : List (ℕ × Class)) (defs : List IndexDef) (i : ℕ) (def : IndexDef) (missing : Option Missing) → i < length defs → def ≡ get_or defs i def
    → IsMissingOf kinds ((needed ++ needed_by_all (take i defs)) ++ needed_by def) missing → IsMissingOf kinds (needed ++ needed_by_all (take (i + 1) defs)) missing
def_passed kinds needed defs i def missing within is of =
    subst (λ (l : List IndexDef). IsMissingOf kinds (needed ++ needed_by_all l) missing) (sym (take_more defs i def within ∙ ap (λ (d : IndexDef). take i defs ++ d ∷ []) (sym is)))
    (one_more kinds needed (take i defs) def missing of)

pub defs_passed : (kinds : List Class) (needed : List (ℕ × Class)) (defs : List IndexDef) (i : ℕ) (missing : Option Missing) → length defs ≤ i → IsMissingOf kinds (needed ++ needed_by_all (take i defs)) missing
    → IsMissingOf kinds (needed ++ needed_by_all defs) missing
defs_passed kinds needed defs i missing end of = subst (λ (l : List IndexDef). IsMissingOf kinds (needed ++ needed_by_all l) missing) (take_all i defs end) of

-- ---- the tables

classes_are : (defs : List IndexDef) → classes_of (map (λ def. def.number) defs) (map index_of defs) ≡ needed_by_all defs
classes_are [] = refl
classes_are (def ∷ defs) =
    elim def.rule as (λ (r : Option Rule). cons_option (option_map (λ rule. (def.number, class_of rule)) r) (classes_of (map (λ def. def.number) defs) (map index_of defs))
    ≡ option_to_list (option_map (λ rule. (def.number, class_of rule)) r) ++ needed_by_all defs) [
      | None ↦ classes_are defs
      | Some rule ↦ ap (λ (l : List (ℕ × Class)). (def.number, class_of rule) ∷ l) (classes_are defs)
    ]

more_listed : (tables : List ListedTable) (t : ListedTable) → classes_listed (map listed (tables ++ t ∷ [])) ≡ classes_listed (map listed tables) ++ needed_by_all t.table.indexes
more_listed tables t =
    ap classes_listed (map-append listed tables (t ∷ []))
    ∙ flat_map-append (λ (t : ListedDefinition). classes_of t.numbers t.definition.indexes) (map listed tables) (listed t ∷ [])
    ∙ ap (λ (l : List (ℕ × Class)). classes_listed (map listed tables) ++ l) (append-nil _ ∙ classes_are t.table.indexes)

pub table_more : (kinds : List Class) (tables : List ListedTable) (t : ListedTable) (missing : Option Missing) → IsMissingOf kinds (classes_listed (map listed tables) ++ needed_by_all t.table.indexes) missing
    → IsMissingOf kinds (classes_listed (map listed (tables ++ t ∷ []))) missing
table_more kinds tables t missing of = subst (λ (l : List (ℕ × Class)). IsMissingOf kinds l missing) (sym (more_listed tables t)) of

-- a turn of the loop over them
pub table_passed : (kinds : List Class) (tables : List ListedTable) (i : ℕ) (t : ListedTable) (defs : List IndexDef) (missing : Option Missing) → i < length tables → t ≡ get_or tables i t → defs ≡ t.table.indexes
    → IsMissingOf kinds (classes_listed (map listed (take i tables)) ++ needed_by_all defs) missing → IsMissingOf kinds (classes_listed (map listed (take (i + 1) tables))) missing
table_passed kinds tables i t defs missing within is own of =
    subst (λ (l : List ListedTable). IsMissingOf kinds (classes_listed (map listed l)) missing) (sym (take_more tables i t within ∙ ap (λ (x : ListedTable). take i tables ++ x ∷ []) (sym is)))
    (table_more kinds (take i tables) t missing (subst (λ (l : List IndexDef). IsMissingOf kinds (classes_listed (map listed (take i tables)) ++ needed_by_all l) missing) own of))

pub tables_passed : (kinds : List Class) (tables : List ListedTable) (i : ℕ) (missing : Option Missing) → length tables ≤ i → IsMissingOf kinds (classes_listed (map listed (take i tables))) missing
    → IsMissingOf kinds (classes_listed (map listed tables)) missing
tables_passed kinds tables i missing end of = subst (λ (l : List ListedTable). IsMissingOf kinds (classes_listed (map listed l)) missing) (take_all i tables end) of

pub told : (kinds : List Class) (needed : List (ℕ × Class)) (m : Missing) → IsFirst kinds needed m → IsFirstMissing kinds needed m.class
told kinds needed m first = record { number = m.index; needs = first.needs; lacks = first.lacks; earlier = first.earlier }
