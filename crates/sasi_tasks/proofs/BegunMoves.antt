-- Which moves a BEGIN COMPACT makes: none where a compaction runs in the table, or where it has fewer than two files, and else a number is drawn.
use Rattle.std.proofs.Common.{◌≡◌, ℕ, suc, ◌-◌, ◌<◌, ◌≤◌, ◌^◌, ◌++◌, true, false, if◌then◌else◌, List, [], ◌∷◌, length, map, slice_get, Option, None, Some, refl, sym, ap, ◌∙◌, arith}
use Rattle.std.specs.Prelude.{is_some, nat_eq, nat_le}
use Rattle.std.proofs.lemmas.Bool.Decides.{nat_tests}
use Rattle.std.proofs.lemmas.List.{append-nil, length-map}
use Rattle.std.specs.List.{position}
use Rattle.std.specs.Option.{option_map_or}
use Rattle.sasi_host.specs.View.{View}
use Rattle.sasi_layout.specs.Compacting.{begun}
use Rattle.sasi_layout.specs.Layout.{File, Layout, TableParts, Used, listed_of, numbered, rising_numbers}
use Rattle.sasi_layout.specs.Moves.{Draw}
use Rattle.sasi_layout.specs.Serving.{Serves}
use Rattle.sasi_layout.specs.Spent.{spent}
use Rattle.sasi_layout.specs.declared.number_kind.NumberKind.TheVariants as kinds
use Rattle.sasi_manifest.specs.Edits.{files_of}
use Rattle.sasi_manifest.specs.ListedDefinition.{ListedDefinition}
use Rattle.sasi_manifest.specs.declared.listing.Listing.{Listing}
use Rattle.sasi_tables.proofs.Composition.{numbered_at}
use Rattle.sasi_tables.proofs.TablesInMemory.{seen_as}
use Rattle.sasi_tables.specs.TablesView.{memory_of}
use Rattle.sasi_tables.specs.declared.parts.Parts.{Parts}
use Rattle.sasi_tasks.proofs.TaskPositions.{is_in, none_passes, none_running, one_running, some_passes}
use Rattle.sasi_tasks.specs.MakesTaskMoves.{ServesTasks}
use Rattle.sasi_tasks.specs.Tasks.{Task, begin_moves, begins, begun_in, running, task_begun, tasks_begun}
use Rattle.sasi_tasks.specs.declared.running.RunningTask.{RunningTask}

-- the table of the layout that is listed at a number
pub record HasRow (l : Layout) (table : ℕ) (row : ListedDefinition) : Type 0 where
  pub t : TableParts
  pub there : numbered 1 table l.tables ≡ Some t
  pub at : slice_get l.tables (table - 1) ≡ Some t
  pub listed_is : listed_of t ≡ row

row_of : (v : View) (p : Parts) (l : Layout) (table : ℕ) (row : ListedDefinition) → Serves v (memory_of p) l → 0 < table → slice_get p.manifest.listing.tables (table - 1) ≡ Some row → HasRow l table row
row_of v p l table row serves some there =
    let t = seen_as listed_of l.tables (table - 1) row (ap (λ (e : Listing). slice_get e.tables (table - 1)) (sym serves.listing) ∙ there) in
    record { t = t.0; there = numbered_at table l.tables t.0 some t.1; at = t.1; listed_is = t.2 }

module _ (v : View) (p : Parts) (was : List RunningTask) (table : ℕ) (l : Layout) (ks : List Task) (serves : ServesTasks v p was l ks) where
  abbrev found : Option ℕ
  found = position (λ (r : RunningTask). nat_eq r.table table) was

  abbrev DoesNothing : Type 0
  DoesNothing = (begin_moves table l ks ≡ []) × (tasks_begun table l ks ≡ ks)

  nothing_begun : begins table l ks ≡ [] → DoesNothing
  nothing_begun none = (ap (map (λ (k : Task). Draw)) none, ap (λ (xs : List Task). ks ++ xs) none ∙ append-nil ks)

  -- one runs there
  pub runs_already : is_some found ≡ true → DoesNothing
  runs_already is = by found refl is
    where
      by : (o : Option ℕ) → found ≡ o → is_some o ≡ true → DoesNothing
      by None at is = cc
      by (Some i) at is = (
          let r = some_passes (is_in table) was i at in
          let k = one_running v l table was ks i r.0 serves.tasks_are r.1 r.2 in
          nothing_begun (ap (λ (o : Option Task). option_map_or (λ (k : Task). []) o (task_begun table l)) k.1))

  none_runs : is_some found ≡ false → running table ks ≡ None
  none_runs is = by found refl is
    where
      by : (o : Option ℕ) → found ≡ o → is_some o ≡ false → running table ks ≡ None
      by None at is = none_running v l table was ks serves.tasks_are (none_passes (is_in table) was at)
      by (Some i) at is = cc

  -- where none runs, it is what is begun in the table
  begins_there : is_some found ≡ false → begins table l ks ≡ task_begun table l
  begins_there none = ap (λ (o : Option Task). option_map_or (λ (k : Task). []) o (task_begun table l)) (none_runs none)

  module _ (some : 0 < table) (row : ListedDefinition) (there : slice_get p.manifest.listing.tables (table - 1) ≡ Some row) where
    pub own : HasRow l table row
    own = row_of v p l table row serves.serves some there

    as_many : length own.t.files ≡ length (files_of p.manifest.listing.tables table)
    as_many = sym (length-map own.t.files (λ (f : File). f.listed)) ∙ ap (λ (t : ListedDefinition). length t.files) own.listed_is ∙ sym (ap (λ (o : Option ListedDefinition). length (option_map_or (λ (t : ListedDefinition). t.files) o [])) there)

    begun_is : task_begun table l ≡ begun_in l.used.«data» table own.t
    begun_is = ap (λ (o : Option TableParts). option_map_or (begun_in l.used.«data» table) o []) own.there

    -- the table has fewer than two files
    pub has_few : is_some found ≡ false → length (files_of p.manifest.listing.tables table) < 2 → DoesNothing
    has_few none few =
        let short : nat_le 2 (length own.t.files) ≡ false = grind (arith, nat_tests, few, as_many) in
        nothing_begun (begins_there none ∙ begun_is ∙ ap (λ b. if b then record { compaction = begun l.used.«data» table own.t (rising_numbers own.t); passed = 0 } ∷ [] else []) short)

    -- the compaction that is begun
    abbrev pub task : Task
    task = record { compaction = begun l.used.«data» table own.t (rising_numbers own.t); passed = 0 }

    -- it has two at least
    pub has_files : is_some found ≡ false → 2 ≤ length (files_of p.manifest.listing.tables table) → begins table l ks ≡ task ∷ []
    has_files none many =
        let two : nat_le 2 (length own.t.files) ≡ true = grind (arith, nat_tests, many, as_many) in
        begins_there none ∙ begun_is ∙ ap (λ b. if b then task ∷ [] else []) two

    -- a number is drawn then
    pub moves_drawn : is_some found ≡ false → 2 ≤ length (files_of p.manifest.listing.tables table) → begin_moves table l ks ≡ Draw ∷ []
    moves_drawn none many = ap (map (λ (k : Task). Draw)) (has_files none many)

    draw_spends : spent l (Draw ∷ []) ≡ (if nat_eq p.numbers.«data» (2 ^ 32 - 1) then Some kinds.Data else None)
    draw_spends = ap (λ (u : Used). if nat_eq u.«data» (2 ^ 32 - 1) then Some kinds.Data else None) (sym serves.serves.used)

    -- and it is the last one, or one is left
    pub spends_data : is_some found ≡ false → 2 ≤ length (files_of p.manifest.listing.tables table) → p.numbers.«data» ≡ 2 ^ 32 - 1 → spent l (begin_moves table l ks) ≡ Some kinds.Data
    spends_data none many is =
        let last : nat_eq p.numbers.«data» (2 ^ 32 - 1) ≡ true = grind (arith, nat_tests, is) in
        ap (spent l) (moves_drawn none many) ∙ draw_spends ∙ ap (λ b. if b then Some kinds.Data else None) last

    pub spends_none : is_some found ≡ false → 2 ≤ length (files_of p.manifest.listing.tables table) → suc p.numbers.«data» < 2 ^ 32 → spent l (begin_moves table l ks) ≡ None
    spends_none none many fits =
        let left : nat_eq p.numbers.«data» (2 ^ 32 - 1) ≡ false = grind (arith, nat_tests, fits) in
        ap (spent l) (moves_drawn none many) ∙ draw_spends ∙ ap (λ b. if b then Some kinds.Data else None) left
