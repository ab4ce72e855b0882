-- Tables, in the model's words.
use Rattle.std.specs.Prelude.{ℕ, List, map}
use Rattle.sasi_types.specs.declared.index_def.IndexDef.{IndexDef}
use Rattle.sasi_model.specs.Indexes.{index_of}
use Rattle.sasi_model.specs.State.{Definition}
use Rattle.sasi_schema.specs.declared.table.Table.{Table}

-- the definition of a table
abbrev pub definition : Table → Definition
definition t = record { name = t.name; columns = t.columns; key = t.key; indexes = map index_of t.indexes }

abbrev pub definitions : List Table → List Definition
definitions tables = map definition tables

-- the numbers of its indexes, in order
abbrev pub numbers_of : Table → List ℕ
numbers_of t = map (λ (def : IndexDef). def.number) t.indexes
