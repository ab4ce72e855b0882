-- An opened folder as a store in memory.
use Rattle.std.specs.Prelude.{◌≡◌, [], map}
use Rattle.sasi_host.specs.Names.{Folder}
use Rattle.sasi_layout.specs.Layout.{Used}
use Rattle.sasi_layout.specs.Serving.{StoreInMemory, TableInMemory}
use Rattle.sasi_manifest.specs.ListedDefinition.{ListedDefinition}
use Rattle.sasi_recover.specs.declared.opened.Numbers.{Numbers}
use Rattle.sasi_recover.specs.declared.opened.Opened.{Opened}
use Rattle.sasi_recover.specs.declared.opened.TableMap.{TableMap}

abbrev pub used_numbers : Numbers → Used
used_numbers n = record { manifest = n.manifest; log = n.log; «data» = n.«data»; index = n.index; part = n.part }

abbrev pub opened_table : TableMap → TableInMemory
opened_table t = record { first = t.first; frozen = []; memtable = t.memtable.partitions }

-- any change of the folder
abbrev pub AnyFolderChange : Folder → Folder → Type 0
AnyFolderChange old new = Unit {0}

-- the store in memory that an opening leaves
abbrev pub opened_store : Opened → StoreInMemory
opened_store opened = record {
  definitions = map (λ (t : ListedDefinition). t.definition) opened.manifest.listing.tables;
  manifest = opened.manifest;
  log = opened.log;
  tables = map opened_table opened.tables.items;
  used = used_numbers opened.numbers;
  max_timestamp = opened.greatest;
}

-- without a table there is no timestamp
abbrev pub IsTimed : StoreInMemory → Type 0
IsTimed store = store.definitions ≡ [] → store.max_timestamp ≡ 0
