-- The task that a BEGIN COMPACT adds: it can go on, and it is the compaction that begins in the layout.
use Rattle.std.proofs.Common.{◌≡◌, ◌&&◌, ◌||◌, ℕ, zero, suc, ◌+◌, ◌-◌, ◌<◌, ◌≤◌, ◌++◌, Bool, true, false, List, [], ◌∷◌, length, map, slice_get, take, Option, Some, refl, sym, ap, subst, ◌∙◌, arith}
use Rattle.std.specs.Prelude.{is_some, nat_eq}
use Rattle.std.proofs.lemmas.Bool.Decides.{nat_tests}
use Rattle.std.proofs.Math.Seq.{take-length}
use Rattle.std.proofs.lemmas.List.{length-map}
use Rattle.std.proofs.lemmas.List.Folds.{list_any-append}
use Rattle.std.specs.List.{AllByRecursion, list_any}
use Rattle.std.specs.Option.{option_map_or}
use Rattle.sasi_types.specs.declared.column.ColumnType.{ColumnType}
use Rattle.sasi_host.specs.View.{IsAbsent, IsThere, View}
use Rattle.sasi_host.specs.declared.name.FileName.{FileName}
use Rattle.sasi_host.specs.Names.{data_name, name_eq}
use Rattle.sasi_model.specs.Abbreviations.{types_of}
use Rattle.sasi_model.specs.State.{Definition}
use Rattle.sasi_schema.specs.Defined.{definition}
use Rattle.sasi_manifest.specs.ListedDefinition.{ListedDefinition}
use Rattle.sasi_manifest.specs.ListedFiles.{has_file, is_among}
use Rattle.sasi_manifest.specs.ListedTables.{listed}
use Rattle.sasi_manifest.specs.Listings.{by_number}
use Rattle.sasi_manifest.specs.declared.files.ListedFile.{ListedFile}
use Rattle.sasi_manifest.specs.declared.listed.ListedTable.{ListedTable}
use Rattle.sasi_manifest.specs.declared.listing.Listing.{Listing}
use Rattle.sasi_compact.specs.Tasks.{CanBegin, CanCompact, CanGoOnTo, IsOnColumn, files_numbered}
use Rattle.sasi_compact.specs.declared.task.CompactTask.{CompactTask}
use Rattle.sasi_layout.proofs.FileNameLaws.{unlisted_above}
use Rattle.sasi_layout.proofs.KeptLaws.{aside_number, free_name, kept_there, keeps_data, number_above}
use Rattle.sasi_tasks.proofs.TakesAll.{takes_all, takes_higher}
use Rattle.sasi_layout.specs.Compacting.{Compaction, TakesFirst}
use Rattle.sasi_layout.specs.Kept.{Kept}
use Rattle.sasi_layout.specs.NumbersInOrder.{HasFilesInOrder, Rising}
use Rattle.sasi_layout.specs.Serving.{IsTyped, kept_by}
use Rattle.sasi_tables.proofs.TablesInMemory.{all_at, all_push, map_there, ready_there}
use Rattle.sasi_tables.specs.Held.{held_by, subjects_of}
use Rattle.sasi_tables.specs.Puts.{HasTableFor}
use Rattle.sasi_tables.specs.TablesView.{held_in, memory_of}
use Rattle.sasi_tables.specs.declared.parts.Parts.{Parts}
use Rattle.sasi_views.specs.Books.{Book}
use Rattle.sasi_tasks.proofs.BegunIndexes.{indexed, indexes_listed}
use Rattle.sasi_tasks.proofs.TaskPositions.{is_in}
use Rattle.sasi_tasks.specs.MakesTaskMoves.{CanGoOn}
use Rattle.sasi_tasks.specs.Running.{AreApart, AreListedIndexes, IsOverAll, IsTaskReady, compaction_of, is_begun, numbers_of}
use Rattle.sasi_tasks.specs.declared.running.RunningTask.{RunningTask}

clash : true ≡ false → ⊥
clash e = cc

or_right : (x y : Bool) → y ≡ true → (x || y) ≡ true
or_right true y is = refl
or_right false y is = is

-- ---- files

below_apart : (n : ℕ) (ns : List ℕ) → AllByRecursion (λ m. m < n) ns → is_among ns n ≡ false
below_apart n [] below = refl
below_apart n (m ∷ ns) below =
    let less : m < n = below.0 in
    let other : nat_eq n m ≡ false = grind (arith, nat_tests, less) in
    ap (λ b. b || is_among ns n) other ∙ below_apart n ns below.1

any_there : {A : Type 0} (p : A → Bool) (xs : List A) (at : ℕ) (x : A) → slice_get xs at ≡ Some x → p x ≡ true → list_any p xs ≡ true
any_there p [] at x there is = cc
any_there p (y ∷ xs) zero x there is = (let same : y ≡ x = cc in ap (λ b. b || list_any p xs) (ap p same ∙ is))
any_there p (y ∷ xs) (suc at) x there is = or_right (p y) (list_any p xs) (any_there p xs at x there is)

each_numbered : (P : ℕ → Type 0) (fs : List ListedFile) → ((n : ℕ) → has_file fs n ≡ true → P n) → AllByRecursion (λ (f : ListedFile). P f.number) (files_numbered (map (λ (f : ListedFile). f.number) fs))
each_numbered P [] each = tt
each_numbered P (f ∷ fs) each =
    let here : nat_eq f.number f.number ≡ true = grind (arith, nat_tests) in (
      each f.number (ap (λ b. b || has_file fs f.number) here),
      each_numbered P fs (λ n is. each n (or_right (nat_eq n f.number) (has_file fs n) is)),
    )

-- ---- the task

module _ (v : View) (views : Book) (p : Parts) (was : List RunningTask) (can : CanGoOn v views p was) (table : ℕ) where
  -- the table is listed
  pub inside_listed : HasTableFor table (held_in p) → table ≤ length p.manifest.listing.tables
  inside_listed has = omega (arith, has.inside, length-map p.tables.items (held_by p.maps), can.parts.mapped.counted, length-map p.manifest.listing.tables subjects_of)

  abbrev used : ℕ
  used = p.numbers.«data»

  abbrev listing : Listing
  listing = p.manifest.listing

  abbrev kept : Kept
  kept = kept_by (memory_of p)

  -- the parts with one more data number used
  abbrev pub drawn : Parts
  drawn = record p { numbers = record p.numbers { «data» = suc used } }

  -- a task that was ready is so still
  still_ready : (r : RunningTask) → IsTaskReady v p r → IsTaskReady v drawn r
  still_ready r is = record {
    can = is.can;
    some = is.some;
    row = is.row;
    there = is.there;
    types_are = is.types_are;
    partitioner_is = is.partitioner_is;
    takes = takes_higher used (suc used) (compaction_of r) is.row.files (omega arith) is.takes;
    firsts = is.firsts;
    indexes_are = is.indexes_are;
    used = omega (arith, is.used);
    unlisted = is.unlisted;
  }

  all_still : (rs : List RunningTask) → AllByRecursion (IsTaskReady v p) rs → AllByRecursion (IsTaskReady v drawn) rs
  all_still [] all = tt
  all_still (r ∷ rs) all = (still_ready r all.0, all_still rs all.1)

  module _ (some : 0 < table) (task : CompactTask) (over : IsOverAll p table (suc used) task) (many : 2 ≤ length over.row.files) where
    abbrev row : ListedTable
    row = over.row

    abbrev pub one : RunningTask
    one = record { table = table; task = task }

    sources_are : task.compaction.sources ≡ map (λ (f : ListedFile). f.number) row.files
    sources_are = over.sources_are ∙ ap (λ (o : Option ListedDefinition). map (λ (f : ListedFile). f.number) (option_map_or (λ (t : ListedDefinition). t.files) o [])) over.there

    rise : Rising 0 used row.files
    rise = (all_at (HasFilesInOrder used listing.last) (table - 1) listing.tables (listed row) can.can.numbered.files over.there).rise

    pub compaction_is : compaction_of one ≡ record { table = table; output = suc used; sources = map (λ (f : ListedFile). f.number) row.files; indexes = numbers_of (by_number row.table.indexes) }
    compaction_is = (let sources = sources_are in let number = over.number_is in let indexes = over.indexes_are in λ i. record { table = table; output = number i; sources = sources i; indexes = numbers_of (indexes i) })

    takes : TakesFirst (suc used) (compaction_of one) row.files
    takes = subst (λ (c : Compaction). TakesFirst (suc used) c row.files) (sym compaction_is) (takes_all used table row.files (numbers_of (by_number row.table.indexes)) rise)

    pub defined : slice_get p.schema.definitions (table - 1) ≡ Some (definition row.table)
    defined = ap (λ (ds : List Definition). slice_get ds (table - 1)) can.can.definitions ∙ map_there (λ (x : ListedDefinition). x.definition) listing.tables (table - 1) (listed row) over.there

    typed : IsTyped (definition row.table)
    typed =
        (ready_there listing.partitioner listing.floor listing.last (table - 1) p.schema.definitions (memory_of p).tables (definition row.table) can.can.tables defined).1.typed

    can_compact : CanCompact task.compaction
    can_compact = record {
      some = omega (arith, many, ap length sources_are, length-map row.files (λ (f : ListedFile). f.number));
      apart = below_apart task.compaction.number task.compaction.sources takes.below;
      narrow = subst (λ (ts : List ColumnType). length ts ≤ 64) (sym over.types_are) typed.few;
      indexes_on = subst (λ (ts : List ColumnType). AllByRecursion (IsOnColumn ts) task.compaction.indexes) (sym over.types_are) (subst (AllByRecursion (IsOnColumn (types_of (definition row.table)))) (sym over.indexes_are) (indexed row listing can.can.consistent table over.there));
    }

    source_there : (n : ℕ) → has_file row.files n ≡ true → IsThere v (data_name n)
    source_there n has = kept_there v can.can.aside kept (data_name n) can.can.exactly (keeps_data kept n ∙ any_there (λ (t : ListedDefinition). has_file t.files n) listing.tables (table - 1) (listed row) over.there has)

    can_begin : CanBegin v task.compaction
    can_begin = record {
      there = subst (λ (ns : List ℕ). AllByRecursion (λ (f : ListedFile). IsThere v (data_name f.number)) (files_numbered ns)) (sym sources_are) (each_numbered (λ n. IsThere v (data_name n)) row.files source_there);
      absent = subst (λ (n : ℕ). IsAbsent v (data_name n)) (sym over.number_is)
          (free_name v can.can.aside kept (data_name (suc used)) can.can.exactly (aside_number used can.can.aside (data_name (suc used)) can.can.aside_are (omega arith))
          (keeps_data kept (suc used) ∙ number_above used listing.last (suc used) listing.tables can.can.numbered.files (omega arith)));
    }

    -- **It can go on,**
    one_ready : IsTaskReady v drawn one
    one_ready = record {
      can = record { can = can_compact; usable = over.usable; files = subst (CanGoOnTo v task.compaction) (sym over.before) can_begin };
      some = some;
      row = listed row;
      there = over.there;
      types_are = over.types_are;
      partitioner_is = over.partitioner_is;
      takes = takes;
      firsts = subst (λ (ns : List ℕ). map (λ (f : ListedFile). f.number) (take (length ns) row.files) ≡ ns) (sym sources_are) (ap (λ n. map (λ (f : ListedFile). f.number) (take n row.files)) (length-map row.files (λ (f : ListedFile). f.number)) ∙ ap (map (λ (f : ListedFile). f.number)) (take-length row.files));
      indexes_are = subst (AreListedIndexes (listed row)) (sym over.indexes_are) (indexes_listed row listing can.can.consistent table over.there);
      used = omega (arith, over.number_is);
      unlisted = λ name has is. clash (sym has ∙ unlisted_above used listing.last name listing.tables can.can.numbered.files (omega (arith, is, over.number_is)));
    }

    apart_behind : (rs : List RunningTask) → AreApart rs → AllByRecursion (λ (r : RunningTask). is_in table r ≡ false) rs → AllByRecursion (IsTaskReady v p) rs → AreApart (rs ++ one ∷ [])
    apart_behind [] apart others ready = (tt, tt)
    apart_behind (r ∷ rs) apart others ready = (
      all_push (λ (o : RunningTask). (o.table ≡ r.table → ⊥) × (o.task.compaction.number ≡ r.task.compaction.number → ⊥)) rs one apart.0 (
        (λ same. (let tables : table ≡ r.table = same in let own : is_in table r ≡ true = grind (arith, nat_tests, tables) in clash (sym own ∙ others.0))),
        (λ same. (let numbers : task.compaction.number ≡ r.task.compaction.number = same in absurd (omega (arith, numbers, over.number_is, ready.0.used)))),
      ),
      apart_behind rs apart.1 others.1 ready.1,
    )

    -- **with the others,**
    pub all_ready : AllByRecursion (IsTaskReady v drawn) (was ++ one ∷ [])
    all_ready = all_push (IsTaskReady v drawn) was one (all_still was can.ready.each) one_ready

    pub all_apart : AllByRecursion (λ (r : RunningTask). is_in table r ≡ false) was → AreApart (was ++ one ∷ [])
    all_apart others = apart_behind was can.ready.apart others can.ready.each

    -- **and it has no file yet.**
    pub none_begun : (name : FileName) → is_begun (was ++ one ∷ []) name ≡ is_begun was name
    none_begun name = list_any-append (λ (r : RunningTask). name_eq name (data_name r.task.compaction.number) && is_some r.task.output) was (one ∷ []) ∙ by (is_begun was name) (name_eq name (data_name task.compaction.number)) (is_some task.output) (ap is_some over.before)
      where
        by : (x y z : Bool) → z ≡ false → (x || ((y && z) || false)) ≡ x
        by true y z none = refl
        by false true z none = ap (λ b. b || false) none
        by false false z none = refl
