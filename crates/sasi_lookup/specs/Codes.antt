-- How what contracts see of a look-up is told apart from others.
use Rattle.std.specs.Prelude.{ℕ, List, Option, refl}
use Rattle.std.specs.Coded.{Coded, code_by, coded×, coded_ℕ, coded_list, coded_option}
use Rattle.sasi_types.specs.declared.column.ColumnType.{ColumnType}
use Rattle.sasi_types.specs.declared.tree.TreeRef.{TreeRef}
use Rattle.sasi_host.specs.declared.name.FileName.{FileName}
use Rattle.sasi_host.specs.Files.{name_code}
use Rattle.sasi_host.specs.Names.{Bytes}
use Rattle.sasi_model.specs.Codes.{coded_column_type}
use Rattle.sasi_dataread.specs.declared.token_keys.PlacedKey.{PlacedKey}
use Rattle.sasi_dataread.specs.Opened.{OpenDataFile}
use Rattle.sasi_lookup.specs.Files.{LookedFile}
use Rattle.sasi_lookup.specs.Lookups.{LookupView}

abbrev coded_tree : Coded TreeRef
coded_tree = code_by (ℕ × ℕ) (coded× coded_ℕ coded_ℕ) (λ t. (t.root, t.pairs)) (λ c. record { root = c.0; pairs = c.1 }) (λ _. refl)

abbrev coded_opened : Coded OpenDataFile
coded_opened =
    code_by (FileName × (List ColumnType × (TreeRef × (ℕ × ℕ)))) (coded× name_code (coded× (coded_list coded_column_type) (coded× coded_tree (coded× coded_ℕ coded_ℕ))))
    (λ o. (o.file, (o.types, (o.tree, (o.max_timestamp, o.end))))) (λ c. record { file = c.0; types = c.1.0; tree = c.1.1.0; max_timestamp = c.1.1.1.0; end = c.1.1.1.1 }) (λ _. refl)

abbrev coded_placed : Coded PlacedKey
coded_placed = code_by (ℕ × Bytes) (coded× coded_ℕ (coded_list coded_ℕ)) (λ k. (k.place, k.key)) (λ c. record { place = c.0; key = c.1 }) (λ _. refl)

abbrev pub coded_file : Coded LookedFile
coded_file =
    code_by (FileName × (Option OpenDataFile × List PlacedKey)) (coded× name_code (coded× (coded_option coded_opened) (coded_list coded_placed)))
    (λ f. (f.name, (f.opened, f.keys))) (λ c. record { name = c.0; opened = c.1.0; keys = c.1.1 }) (λ _. refl)

abbrev pub coded_lookup : Coded LookupView
coded_lookup = code_by (List ColumnType × List LookedFile) (coded× (coded_list coded_column_type) (coded_list coded_file)) (λ l. (l.types, l.files)) (λ c. record { types = c.0; files = c.1 }) (λ _. refl)
