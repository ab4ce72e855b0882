-- How what contracts see of a scan is told apart from others.
use Rattle.std.specs.Prelude.{◌≡◌, ◌⊎◌, ℕ, List, Option, refl}
use Rattle.std.proofs.Common.{inl, inr}
use Rattle.std.specs.Coded.{Coded, code_by, coded×, coded⊎, coded_ℕ, coded_list, coded_option}
use Rattle.sasi_types.specs.declared.column.ColumnType.{ColumnType}
use Rattle.sasi_types.specs.declared.decorated_key.DecoratedKey.{DecoratedKey}
use Rattle.sasi_types.specs.declared.partitioner.Partitioner.{Partitioner}
use Rattle.sasi_types.specs.declared.tree.Pair.{Pair}
use Rattle.sasi_types.specs.declared.tree.TreeRef.{TreeRef}
use Rattle.sasi_host.specs.declared.name.FileName.{FileName}
use Rattle.sasi_host.specs.Buffered.{Buffered}
use Rattle.sasi_host.specs.Files.{name_code}
use Rattle.sasi_host.specs.Names.{Bytes}
use Rattle.sasi_model.specs.Codes.{coded_column_type, coded_partitioner}
use Rattle.sasi_dataread.specs.Opened.{OpenDataFile}
use Rattle.sasi_dataread.specs.Scans.{DataScan}
use Rattle.sasi_merge.specs.Merging.{Head, coded_head}
use Rattle.sasi_scan.specs.Scanning.{ScanView}
use Rattle.sasi_scan.specs.declared.source.Source.{Source}
use Rattle.sasi_scan.specs.declared.source.Source.TheVariants.{File, Map}

abbrev coded_buffered : Coded Buffered
coded_buffered =
    code_by (FileName × (Option ℕ × Bytes)) (coded× name_code (coded× (coded_option coded_ℕ) (coded_list coded_ℕ)))
    (λ b. (b.file, (b.page, b.bytes))) (λ c. record { file = c.0; page = c.1.0; bytes = c.1.1 }) (λ _. refl)

abbrev coded_tree : Coded TreeRef
coded_tree = code_by (ℕ × ℕ) (coded× coded_ℕ coded_ℕ) (λ t. (t.root, t.pairs)) (λ c. record { root = c.0; pairs = c.1 }) (λ _. refl)

abbrev coded_opened : Coded OpenDataFile
coded_opened =
    code_by (FileName × (List ColumnType × (TreeRef × (ℕ × ℕ)))) (coded× name_code (coded× (coded_list coded_column_type) (coded× coded_tree (coded× coded_ℕ coded_ℕ))))
    (λ o. (o.file, (o.types, (o.tree, (o.max_timestamp, o.end))))) (λ c. record { file = c.0; types = c.1.0; tree = c.1.1.0; max_timestamp = c.1.1.1.0; end = c.1.1.1.1 }) (λ _. refl)

abbrev coded_pair : Coded Pair
coded_pair = code_by (ℕ × ℕ) (coded× coded_ℕ coded_ℕ) (λ p. (p.token, p.place)) (λ c. record { token = c.0; place = c.1 }) (λ _. refl)

abbrev coded_key : Coded DecoratedKey
coded_key = code_by (ℕ × List ℕ) (coded× coded_ℕ (coded_list coded_ℕ)) (λ k. (k.token, k.key)) (λ c. record { token = c.0; key = c.1 }) (λ _. refl)

abbrev coded_data_scan : Coded DataScan
coded_data_scan =
    code_by (OpenDataFile × (Option Partitioner × (ℕ × (Buffered × (Buffered × (Option Pair × Option DecoratedKey))))))
    (coded× coded_opened (coded× (coded_option coded_partitioner) (coded× coded_ℕ (coded× coded_buffered (coded× coded_buffered (coded× (coded_option coded_pair) (coded_option coded_key)))))))
    (λ s. (s.opened, (s.tokens, (s.passed, (s.pairs_buffered, (s.buffered, (s.last_pair, s.last)))))))
    (λ c. record { opened = c.0; tokens = c.1.0; passed = c.1.1.0; pairs_buffered = c.1.1.1.0; buffered = c.1.1.1.1.0; last_pair = c.1.1.1.1.1.0; last = c.1.1.1.1.1.1 }) (λ _. refl)

abbrev split : Source → DataScan ⊎ ℕ
split (File scan) = inl scan
split (Map position) = inr position

abbrev joined : DataScan ⊎ ℕ → Source
joined (inl scan) = File scan
joined (inr position) = Map position

abbrev split_again : (source : Source) → joined (split source) ≡ source
split_again (File scan) = refl
split_again (Map position) = refl

abbrev coded_source : Coded Source
coded_source = code_by (DataScan ⊎ ℕ) (coded⊎ coded_data_scan coded_ℕ) split joined split_again

abbrev pub coded_scan : Coded ScanView
coded_scan = code_by (List Head × List Source) (coded× (coded_list coded_head) (coded_list coded_source)) (λ s. (s.heads, s.sources)) (λ c. record { heads = c.0; sources = c.1 }) (λ _. refl)
