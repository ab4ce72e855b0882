-- The largest timestamp of a folder's shape is that of its memtables and of the ends of its data files.
use Rattle.std.proofs.Common.{◌≡◌, ℕ, zero, suc, ◌≤◌, true, List, [], ◌∷◌, ◌++◌, map, All, Contains, Some, refl, ap, ⊎_elim, arith}
use Rattle.std.specs.Prelude.{max, min}
use Rattle.std.specs.List.{AllByRecursion, flat_map}
use Rattle.std.proofs.lemmas.List.Elements.{All-append, All-contains, All-from_recursion, All-weaker, Contains-append_left, Contains-append_right}
use Rattle.sasi_types.specs.declared.partitioner.Partitioner.{Partitioner}
use Rattle.sasi_host.specs.declared.name.FileName.{FileName}
use Rattle.sasi_host.specs.Names.{Folder, data_name}
use Rattle.sasi_host.specs.View.{View}
use Rattle.sasi_cells.specs.declared.mutation.Mutation.{Mutation}
use Rattle.sasi_datawrite.specs.Format.{content_max_timestamp}
use Rattle.sasi_manifest.specs.declared.files.PartNumber.{PartNumber}
use Rattle.sasi_manifest.specs.FileNames.{file_names, has_name}
use Rattle.sasi_manifest.specs.ListedFiles.{index_name, names_of}
use Rattle.sasi_model.specs.Abbreviations.{Partitions, types_of}
use Rattle.sasi_model.specs.Cells.{largest}
use Rattle.sasi_model.specs.State.{Definition, max_timestamp}
use Rattle.sasi_layout.specs.Layout.{File, Layout, TableParts, listed_of, listing_of, state_of, unflushed}
use Rattle.sasi_layout.specs.Shape.{AreShaped, HasFile, HasShape}
use Rattle.sasi_recover.specs.FileEnds.{IsLargestOf, TellsTime}
use Rattle.sasi_recover.specs.ReplayState.{tables_time}
use Rattle.sasi_recover.proofs.NameLists.{any_of, of_any}
use Rattle.sasi_recover.proofs.PerTable.{maps_of}
use Rattle.sasi_recover.proofs.SealedStore.{reads_of}
use Rattle.sasi_layout.proofs.TimeLaws.{layout_timestamp, map_timestamp, maps_timestamp, parts_timestamp}
use Rattle.sasi_recover.proofs.Timestamps.{data_limit, file_time}

-- the largest timestamp of the tables of a layout
abbrev layout_time : List TableParts → ℕ
layout_time ts = largest (map parts_timestamp ts)

abbrev files_time : List File → ℕ
files_time fs = maps_timestamp (map (λ (f : File). f.holds) fs)

both_times : (xs ys : List Partitions) → maps_timestamp (xs ++ ys) ≡ max (maps_timestamp xs) (maps_timestamp ys)
both_times [] ys = omega arith
both_times (x ∷ xs) ys = omega (arith, both_times xs ys)

one_table : (t : TableParts) → t.frozen ≡ [] → parts_timestamp t ≡ max (files_time t.files) (map_timestamp t.memtable)
one_table t idle =
    let last : maps_timestamp (unflushed t) ≡ maps_timestamp (t.memtable ∷ []) = ap (λ (frozen : List Partitions). maps_timestamp (frozen ++ t.memtable ∷ [])) idle in
    omega (arith, both_times (map (λ (f : File). f.holds) t.files) (unflushed t), last)

module _ (v : View) (x : Folder) (files : v.files ≡ Some x) (p : Partitioner) where
  -- what the end of a data file tells is the largest timestamp of its map
  told_time : (d : Definition) (numbers : List ℕ) (f : File) (time : ℕ) → HasFile x p d numbers f → TellsTime v (data_name f.listed.number) time → time ≡ map_timestamp f.holds
  told_time d numbers f time has told =
      let is : time ≡ min (content_max_timestamp has.content) _ = told.tells has.bytes p (types_of d) has.content (reads_of v x (data_name f.listed.number) has.bytes files has.there) has.data_file in
      omega (arith, is, data_limit p (types_of d) has.bytes has.content has.data_file, ap map_timestamp has.holds, file_time p has.content has.data_file.content_is.rising)

  -- ---- no later than these

  files_within : (d : Definition) (numbers : List ℕ) (time : ℕ) (fs : List File) → AllByRecursion (HasFile x p d numbers) fs → ((name : FileName) → Contains (flat_map names_of (map (λ (f : File). f.listed) fs)) name → (own : ℕ) × TellsTime v name own × (own ≤ time)) → files_time fs ≤ time
  files_within d numbers time [] has each = omega arith
  files_within d numbers time (f ∷ fs) has each =
      let own = each (data_name f.listed.number) (zero, omega arith, refl) in
      omega (arith, told_time d numbers f own.0 has.0 own.1, own.2, files_within d numbers time fs has.1 (λ name listed. each name (Contains-append_right (names_of f.listed) (flat_map names_of (map (λ (f : File). f.listed) fs)) name listed)))

  tables_within : (floor n time : ℕ) (logs : List (List Mutation)) (ts : List TableParts) → AreShaped x p floor n logs ts → ((name : FileName) → Contains (file_names (map listed_of ts)) name → (own : ℕ) × TellsTime v name own × (own ≤ time))
      → layout_time ts ≤ max time (tables_time (maps_of p floor logs n (map listed_of ts)))
  tables_within floor n time logs [] are each = omega arith
  tables_within floor n time logs (t ∷ ts) are each =
      omega (
        arith,
        one_table t are.0.idle,
        ap map_timestamp are.0.memtable,
        files_within t.definition t.numbers time t.files are.0.files (λ name listed. each name (Contains-append_left (flat_map names_of (listed_of t).files) (file_names (map listed_of ts)) name listed)),
        tables_within floor (suc n) time logs ts are.1 (λ name listed. each name (Contains-append_right (flat_map names_of (listed_of t).files) (file_names (map listed_of ts)) name listed)),
      )

  -- ---- no earlier

  maps_below : (floor n : ℕ) (logs : List (List Mutation)) (ts : List TableParts) → AreShaped x p floor n logs ts → tables_time (maps_of p floor logs n (map listed_of ts)) ≤ layout_time ts
  maps_below floor n logs [] are = omega arith
  maps_below floor n logs (t ∷ ts) are = omega (arith, one_table t are.0.idle, ap map_timestamp are.0.memtable, maps_below floor (suc n) logs ts are.1)

  -- the timestamp that the file tells is no later than this one
  abbrev IsBelow : ℕ → FileName → Type 0
  IsBelow most name = (own : ℕ) → TellsTime v name own → own ≤ most

  weaker : (most more : ℕ) → most ≤ more → (names : List FileName) → All (IsBelow most) names → All (IsBelow more) names
  weaker most more within names all = All-weaker (IsBelow most) (IsBelow more) (λ name below own told. omega (arith, within, below own told)) names all

  parts_below : (most number : ℕ) (parts : List PartNumber) → AllByRecursion (IsBelow most) (map (index_name number) parts)
  parts_below most number [] = tt
  parts_below most number (part ∷ parts) = (λ own told. omega (arith, told.tells), parts_below most number parts)

  files_below : (d : Definition) (numbers : List ℕ) (fs : List File) → AllByRecursion (HasFile x p d numbers) fs → All (IsBelow (files_time fs)) (flat_map names_of (map (λ (f : File). f.listed) fs))
  files_below d numbers [] has = All-from_recursion (IsBelow 0) [] tt
  files_below d numbers (f ∷ fs) has = All-append (IsBelow (files_time (f ∷ fs))) (names_of f.listed) (flat_map names_of (map (λ (f : File). f.listed) fs))
      (All-from_recursion (IsBelow (files_time (f ∷ fs))) (names_of f.listed) ((λ own told. omega (arith, told_time d numbers f own has.0 told)), parts_below (files_time (f ∷ fs)) f.listed.number f.listed.parts))
      (weaker (files_time fs) (files_time (f ∷ fs)) (omega arith) (flat_map names_of (map (λ (f : File). f.listed) fs)) (files_below d numbers fs has.1))

  tables_below : (floor n : ℕ) (logs : List (List Mutation)) (ts : List TableParts) → AreShaped x p floor n logs ts → All (IsBelow (layout_time ts)) (file_names (map listed_of ts))
  tables_below floor n logs [] are = All-from_recursion (IsBelow 0) [] tt
  tables_below floor n logs (t ∷ ts) are = All-append (IsBelow (layout_time (t ∷ ts))) (flat_map names_of (listed_of t).files) (file_names (map listed_of ts))
      (weaker (files_time t.files) (layout_time (t ∷ ts)) (omega (arith, one_table t are.0.idle)) (flat_map names_of (listed_of t).files) (files_below t.definition t.numbers t.files are.0.files))
      (weaker (layout_time ts) (layout_time (t ∷ ts)) (omega arith) (file_names (map listed_of ts)) (tables_below floor (suc n) logs ts are.1))

-- **The larger of what the data files tell and of what the memtables hold is the largest timestamp of the state.**
pub shape_time : (v : View) (x : Folder) (l : Layout) (logs : List (List Mutation)) (wanted : List FileName) (time : ℕ) → v.files ≡ Some x → HasShape x l logs
    → ((name : FileName) → has_name (listing_of l).tables name ≡ true → Contains wanted name) → ((name : FileName) → Contains wanted name → has_name (listing_of l).tables name ≡ true) → IsLargestOf v wanted time
    → max time (tables_time (maps_of l.partitioner l.floor logs 1 (map listed_of l.tables))) ≡ max_timestamp (state_of l)
shape_time v x l logs wanted time files has among listed largest =
    let names = file_names (listing_of l).tables in
    let own = ⊎_elim {C = time ≤ layout_time l.tables}
    (λ none. omega (arith, none))
    (λ (one : (file : FileName) × Contains wanted file × TellsTime v file time).
    All-contains (IsBelow v x files l.partitioner (layout_time l.tables)) names one.0 (tables_below v x files l.partitioner l.floor 1 logs l.tables has.tables) (of_any names one.0 (listed one.0 one.1)) time one.2)
    largest.attained in
    omega (
      arith,
      layout_timestamp l,
      tables_within v x files l.partitioner l.floor 1 time logs l.tables has.tables (λ name is. largest.bound name (among name (any_of names name is))),
      maps_below v x files l.partitioner l.floor 1 logs l.tables has.tables,
      own,
    )
