-- Faults of the schema, as refusals.
use Rattle.std.specs.Prelude.{Option, None, Some}
use Rattle.sasi_model.specs.Refusals.{Refusal}
use Rattle.sasi_model.specs.Abbreviations as model
use Rattle.sasi_schema.specs.declared.fault.Limit.{Limit}
use Rattle.sasi_schema.specs.declared.fault.Limit.TheVariants.{Tables, Columns}
use Rattle.sasi_schema.specs.declared.fault.SchemaFault.{SchemaFault}
use Rattle.sasi_schema.specs.declared.fault.SchemaFault.TheVariants.{OutOfMemory, NoTable, TableExists, NoColumn, ColumnRepeated, KeyMissing, IndexExists, BadOption, BadUsing, ModeType, TooMany}

abbrev pub limit_refusal : Limit → Refusal
limit_refusal Tables = model.TooManyTables
limit_refusal Columns = model.TooManyColumns

-- the refusal that a fault is; out of memory is none
abbrev pub refusal_of_fault : SchemaFault → Option Refusal
refusal_of_fault OutOfMemory = None
refusal_of_fault (NoTable name) = Some (model.NoTable name)
refusal_of_fault (TableExists name) = Some (model.TableExists name)
refusal_of_fault (NoColumn name) = Some (model.NoColumn name)
refusal_of_fault (ColumnRepeated name) = Some (model.ColumnRepeated name)
refusal_of_fault (KeyMissing name) = Some (model.KeyMissing name)
refusal_of_fault (IndexExists name) = Some (model.IndexExists name)
refusal_of_fault (BadOption option) = Some (model.BadOption option)
refusal_of_fault BadUsing = Some model.BadUsing
refusal_of_fault (ModeType column) = Some (model.ModeType column)
refusal_of_fault (TooMany limit) = Some (limit_refusal limit)
