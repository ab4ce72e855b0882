-- How layouts are told apart in proofs.
use Rattle.std.specs.Prelude.{ℕ, List, Option, refl}
use Rattle.std.specs.Coded.{Coded, code_by, coded×, coded_ℕ, coded_list, coded_option}
use Rattle.sasi_layout.specs.Layout.{File, Layout, TableParts, Used}
use Rattle.sasi_manifest.specs.ListedFiles.{coded_file}
use Rattle.sasi_manifest.specs.declared.files.ListedFile.{ListedFile}
use Rattle.sasi_model.specs.Abbreviations.{Partitions}
use Rattle.sasi_model.specs.Codes.{coded_definition, coded_partitioner, coded_partitions}
use Rattle.sasi_model.specs.State.{Definition}
use Rattle.sasi_types.specs.declared.partitioner.Partitioner.{Partitioner}

abbrev coded_held : Coded File
coded_held = code_by (ListedFile × Partitions) (coded× coded_file coded_partitions) (λ f. (f.listed, f.holds)) (λ c. record { listed = c.0; holds = c.1 }) (λ _. refl)

abbrev coded_parts : Coded TableParts
coded_parts =
    code_by (Definition × (List ℕ × (ℕ × (Option ℕ × (List File × (List Partitions × Partitions))))))
    (coded× coded_definition (coded× (coded_list coded_ℕ) (coded× coded_ℕ (coded× (coded_option coded_ℕ) (coded× (coded_list coded_held) (coded× (coded_list coded_partitions) coded_partitions))))))
    (λ t. (t.definition, (t.numbers, (t.since, (t.first, (t.files, (t.frozen, t.memtable)))))))
    (λ c. record { definition = c.0; numbers = c.1.0; since = c.1.1.0; first = c.1.1.1.0; files = c.1.1.1.1.0; frozen = c.1.1.1.1.1.0; memtable = c.1.1.1.1.1.1 }) (λ _. refl)

abbrev coded_used : Coded Used
coded_used =
    code_by (ℕ × (ℕ × (ℕ × (ℕ × ℕ)))) (coded× coded_ℕ (coded× coded_ℕ (coded× coded_ℕ (coded× coded_ℕ coded_ℕ))))
    (λ u. (u.manifest, (u.log, (u.«data», (u.index, u.part))))) (λ c. record { manifest = c.0; log = c.1.0; «data» = c.1.1.0; index = c.1.1.1.0; part = c.1.1.1.1 }) (λ _. refl)

abbrev pub coded_layout : Coded Layout
coded_layout =
    code_by (Partitioner × (ℕ × (ℕ × (ℕ × (ℕ × (List TableParts × Used))))))
    (coded× coded_partitioner (coded× coded_ℕ (coded× coded_ℕ (coded× coded_ℕ (coded× coded_ℕ (coded× (coded_list coded_parts) coded_used))))))
    (λ l. (l.partitioner, (l.floor, (l.last, (l.records, (l.length, (l.tables, l.used)))))))
    (λ c. record { partitioner = c.0; floor = c.1.0; last = c.1.1.0; records = c.1.1.1.0; length = c.1.1.1.1.0; tables = c.1.1.1.1.1.0; used = c.1.1.1.1.1.1 }) (λ _. refl)
