-- What contracts see of a schema, and the index that a statement asks it for.
use Rattle.std.specs.Prelude.{◌≡◌, ◌<◌, ◌≤◌, ℕ, max, List, [], ◌∷◌, ◌++◌, length, Option, Some, is_some, refl}
use Rattle.std.specs.Coded.{Coded, code_by, coded×, coded_list, coded_ℕ}
use Rattle.sasi_types.specs.declared.index_def.IndexDef.{IndexDef}
use Rattle.sasi_model.specs.Changes.{at_number}
use Rattle.sasi_model.specs.Codes.{coded_definition}
use Rattle.sasi_model.specs.Indexes.{IndexOption, index_of, is_text}
use Rattle.sasi_model.specs.State.{Definition, Index, definition_of, with_index}
use Rattle.sasi_model.specs.Abbreviations.{kind_of}
use Rattle.sasi_model.specs.Step.{index_given}
use Rattle.sasi_schema.specs.Numbers.{number_of_table}
use Rattle.sasi_schema.specs.declared.index.NewIndex.{NewIndex}

pub record SchemaView : Type 0 where
  pub definitions : List Definition
  -- of each table the numbers of its indexes, in order
  pub numbers : List (List ℕ)
  -- the last used number of an index, 0 at first
  pub last : ℕ

abbrev pub coded_schema : Coded SchemaView
coded_schema =
    code_by (List Definition × (List (List ℕ) × ℕ)) (coded× (coded_list coded_definition) (coded× (coded_list (coded_list coded_ℕ)) coded_ℕ))
    (λ s. (s.definitions, (s.numbers, s.last))) (λ c. record { definitions = c.0; numbers = c.1.0; last = c.1.1 }) (λ _. refl)

-- no tables
abbrev pub no_tables : SchemaView
no_tables = record { definitions = []; numbers = []; last = 0 }

-- with one table more, without indexes
abbrev pub with_definition : Definition → List ℕ → SchemaView → SchemaView
with_definition d numbers s = record s { definitions = s.definitions ++ d ∷ []; numbers = s.numbers ++ numbers ∷ [] }

-- with one index more; its number is the last used one, unless a greater one is
abbrev pub with_index_def : IndexDef → SchemaView → SchemaView
with_index_def def s = record {
  definitions = at_number 1 def.table (with_index (index_of def)) s.definitions;
  numbers = at_number 1 def.table (λ (numbers : List ℕ). numbers ++ def.number ∷ []) s.numbers;
  last = max s.last def.number;
}

-- the index that is still without a number
abbrev pub index_of_new : NewIndex → Index
index_of_new new = record { name = new.name; column = new.column; mode = new.mode; rule = new.rule }

-- the index, with its number
abbrev pub numbered_def : ℕ → NewIndex → IndexDef
numbered_def number new = record { number = number; table = new.table; name = new.name; column = new.column; kind = new.kind; mode = new.mode; rule = new.rule }

-- It is the index that these words define, on the table of that name.
pub record IsNewIndex (tables : List Definition) (name : Option (List ℕ)) (table column : List ℕ) (options : List IndexOption) (new : NewIndex) : Type 0 where
  pub definition : Definition
  pub found : definition_of table tables ≡ Some definition
  pub number : number_of_table table tables ≡ Some new.table
  pub index : index_given definition name table column options ≡ Some (index_of_new new)
  pub kind : new.kind ≡ kind_of definition new.column
  -- the column isn't the key, and an index of texts has a rule, and no other has one
  pub above : 1 ≤ new.column
  pub within : new.column < length definition.columns
  pub ruled : is_some new.rule ≡ is_text new.kind
