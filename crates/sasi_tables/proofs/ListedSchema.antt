-- The definitions of listed tables, one after another.
use Rattle.std.proofs.Common.{◌≡◌, ℕ, suc, ◌+◌, ◌<◌, ◌≤◌, true, false, ◌||◌, if◌then◌else◌, List, [], ◌∷◌, ◌++◌, length, map, drop, get_or, Some, None, refl, sym, ap, subst, ◌∙◌, arith, append_assoc, length-append}
use Rattle.std.proofs.lemmas.List.{append-nil, drop_all, drop_more, map-append}
use Rattle.std.specs.List.{list_any}
use Rattle.sasi_model.specs.Statements.{same}
use Rattle.sasi_model.specs.State.{Definition, definition_of}
use Rattle.sasi_schema.specs.declared.table.Table.{Table}
use Rattle.sasi_schema.specs.Defined.{definition}
use Rattle.sasi_schema.specs.Numbers.{RisesFrom}
use Rattle.sasi_manifest.specs.declared.listed.ListedTable.{ListedTable}
use Rattle.sasi_manifest.specs.ListedDefinition.{ListedDefinition}
use Rattle.sasi_manifest.specs.ListedTables.{listed}
use Rattle.sasi_manifest.specs.Naming.{AreApart, IsFree}
use Rattle.sasi_folder.proofs.Creating.{same_sym}

abbrev pub defined : ListedTable → Definition
defined t = definition t.table

abbrev pub numbers_in : List ListedTable → List ℕ
numbers_in tables = map (λ t. t.table.number) tables

abbrev pub names_in : List ListedTable → List (List ℕ)
names_in tables = map (λ t. t.table.name) tables

abbrev pub names_of : List Definition → List (List ℕ)
names_of ds = map (λ d. d.name) ds

-- so many of the tables are defined
pub record IsDefining (now : List Definition) (tables : List ListedTable) (index : ℕ) : Type 0 where
  pub made : now ++ map defined (drop index tables) ≡ map defined tables
  pub numbers : RisesFrom (suc (length now)) (numbers_in (drop index tables))
  pub apart : AreApart (names_of now) (names_in (drop index tables))

-- a free name is one that no table has
free_name : (name : List ℕ) (ds : List Definition) → IsFree (names_of ds) name → definition_of name ds ≡ None
free_name name [] free = refl
free_name name (d ∷ ds) free =
    elim (same name d.name) as (λ b. same name d.name ≡ b → (b || list_any (same name) (names_of ds)) ≡ false → (if same d.name name then Some d else definition_of name ds) ≡ None) [
      | true ↦ λ e is. cc
      | false ↦ λ e is. (let other : same d.name name ≡ false = same_sym d.name name ∙ e in rw other (free_name name ds is))
    ] refl free

pub defining_first : (tables : List ListedTable) → RisesFrom 1 (numbers_in tables) → AreApart [] (names_in tables) → IsDefining [] tables 0
defining_first tables numbers apart = record { made = refl; numbers = numbers; apart = apart }

module _ (now : List Definition) (tables : List ListedTable) (index : ℕ) (t : ListedTable) (copy : Table) (on : IsDefining now tables index) (inside : index < length tables) (is : t ≡ get_or tables index t) (said : definition copy ≡ definition t.table) where
  split : drop index tables ≡ t ∷ drop (index + 1) tables
  split = drop_more tables index t inside ∙ ap (λ (x : ListedTable). x ∷ drop (index + 1) tables) (sym is)

  numbers_split : RisesFrom (suc (length now)) (numbers_in (t ∷ drop (index + 1) tables))
  numbers_split = subst (λ l. RisesFrom (suc (length now)) (numbers_in l)) split on.numbers

  apart_split : AreApart (names_of now) (names_in (t ∷ drop (index + 1) tables))
  apart_split = subst (λ l. AreApart (names_of now) (names_in l)) split on.apart

  pub defining_number : copy.number ≡ t.table.number → copy.number ≡ length now + 1
  defining_number number = number ∙ numbers_split.0 ∙ omega arith

  pub defining_free : definition_of copy.name now ≡ None
  defining_free = subst (λ (d : Definition). definition_of d.name now ≡ None) (sym said) (free_name t.table.name now apart_split.0)

  pub defining_more : (later : List Definition) → later ≡ now ++ definition copy ∷ [] → IsDefining later tables (index + 1)
  defining_more later became =
      let size : length (now ++ defined t ∷ []) ≡ suc (length now) = omega (arith, length-append now (defined t ∷ [])) in
      rw (became, said) (record {
        made = append_assoc now (defined t ∷ []) (map defined (drop (index + 1) tables)) ∙ subst (λ l. now ++ map defined l ≡ map defined tables) split on.made;
        numbers = subst (λ n. RisesFrom (suc n) (numbers_in (drop (index + 1) tables))) (sym size) numbers_split.1;
        apart = subst (λ l. AreApart l (names_in (drop (index + 1) tables))) (sym (map-append (λ (d : Definition). d.name) now (defined t ∷ []))) apart_split.1;
      })

pub defined_all : (now : List Definition) (tables : List ListedTable) (index : ℕ) → IsDefining now tables index → length tables ≤ index → now ≡ map defined tables
defined_all now tables index on past =
    let end : drop index tables ≡ [] = drop_all index tables (omega (arith, past)) in
    sym (append-nil now) ∙ subst (λ l. now ++ map defined l ≡ map defined tables) end on.made

-- the definitions of what is listed
pub seen_definitions : (tables : List ListedTable) → map defined tables ≡ map (λ (t : ListedDefinition). t.definition) (map listed tables)
seen_definitions [] = refl
seen_definitions (t ∷ tables) = ap (λ (ds : List Definition). defined t ∷ ds) (seen_definitions tables)
