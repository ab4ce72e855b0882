-- What can be written to a store, and created in it.
use Rattle.std.specs.Prelude.{◌≡◌, ℕ, ◌+◌, ◌-◌, ◌<◌, ◌^◌, [], length, slice_get, None, Some}
use Rattle.sasi_cells.specs.declared.mutation.Mutation.{Mutation}
use Rattle.sasi_layout.specs.Serving.{StoreInMemory}
use Rattle.sasi_manifest.specs.Edits.{Applies}
use Rattle.sasi_manifest.specs.declared.edit.Edit.TheVariants.{CreateTable}
use Rattle.sasi_manifest.specs.Listings.{index_edit}
use Rattle.sasi_model.specs.Abbreviations.{kind_of, types_of}
use Rattle.sasi_model.specs.State.{Definition, definition_of}
use Rattle.sasi_model.specs.Stored.{IsBodyOf}
use Rattle.sasi_schema.specs.Defined.{definition}
use Rattle.sasi_schema.specs.IndexFacts.{IsIndexIn}
use Rattle.sasi_schema.specs.SchemaViews.{numbered_def}
use Rattle.sasi_schema.specs.declared.index.NewIndex.{NewIndex}
use Rattle.sasi_schema.specs.declared.table.Table.{Table}

-- the table of the mutation is there, and its key and change can be stored in it
pub record IsWritableMutation (store : StoreInMemory) (m : Mutation) : Type 0 where
  pub some : 0 < m.table
  pub small : m.table < 2 ^ 32
  pub definition : Definition
  pub there : slice_get store.definitions (m.table - 1) ≡ Some definition
  pub body : IsBodyOf (types_of definition) m.key m.change

-- the table is the next one, it has no index yet, and the manifest can list it
pub record IsCreatable (store : StoreInMemory) (t : Table) : Type 0 where
  pub number : t.number ≡ length store.definitions + 1
  pub free : definition_of t.name store.definitions ≡ None
  pub unindexed : (definition t).indexes ≡ []
  pub applies : Applies (Some store.manifest.listing) (CreateTable t.number t.name t.columns t.key store.manifest.listing.last)

-- the table of the index is there, its column has the type that the index is for, and schema and manifest can take it under any new number
pub record IsDefinable (store : StoreInMemory) (new : NewIndex) : Type 0 where
  pub some : 0 < new.table
  pub definition : Definition
  pub there : slice_get store.definitions (new.table - 1) ≡ Some definition
  pub kind : new.kind ≡ kind_of definition new.column
  pub fits : (number : ℕ) → IsIndexIn store.definitions (numbered_def number new)
  pub applies : (number : ℕ) → store.used.index < number → number < 2 ^ 32 → Applies (Some store.manifest.listing) (index_edit (numbered_def number new))
