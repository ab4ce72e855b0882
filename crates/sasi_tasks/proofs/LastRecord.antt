-- The last unit of a task can be made: its record applies to what is listed, and the names of its index files are free.
use Rattle.std.proofs.Common.{◌≡◌, ◌∙◌, ◌||◌, ◌&&◌, ◌+◌, ◌-◌, ◌++◌, ◌<◌, ◌≤◌, ◌^◌, ℕ, zero, suc, Bool, true, false, max, not, nat_eq, nat_le, List, [], ◌∷◌, length, slice_get, take, Option, Some, refl, sym, ap, subst, arith}
use Rattle.std.proofs.lemmas.Bool.Decides.{nat_tests}
use Rattle.std.proofs.lemmas.List.{length-map}
use Rattle.std.specs.List.{AllByRecursion}
use Rattle.std.specs.Option.{option_map_or}
use Rattle.sasi_types.specs.declared.index_def.IndexDef.{IndexDef}
use Rattle.sasi_host.specs.declared.name.FileName.{FileName}
use Rattle.sasi_host.specs.Names.{data_name}
use Rattle.sasi_host.specs.View.{IsAbsent, View}
use Rattle.sasi_compact.specs.Listing.{CanHaveParts, CanList, edits_of, output_file, since_of}
use Rattle.sasi_compact.specs.Tasks.{IsReady}
use Rattle.sasi_compact.specs.declared.compaction.Compaction.{Compaction}
use Rattle.sasi_layout.proofs.FileNameLaws.{data_named}
use Rattle.sasi_layout.proofs.KeptLaws.{free_name, keeps_listed}
use Rattle.sasi_layout.proofs.ListingLaws.{rising_bound}
use Rattle.sasi_layout.specs.NumbersInOrder.{HasFilesInOrder, Rising}
use Rattle.sasi_layout.specs.Serving.{kept_by}
use Rattle.sasi_manifest.proofs.Applying.{AreCurrent, replace_applies}
use Rattle.sasi_manifest.specs.Consistent.{HasIndexes, IsConsistent}
use Rattle.sasi_manifest.specs.Edits.{Applies, are_within, encoded, files_of, is_new, numbers_at}
use Rattle.sasi_manifest.specs.FileNames.{has_name}
use Rattle.sasi_manifest.specs.ListedDefinition.{ListedDefinition}
use Rattle.sasi_manifest.specs.ListedFiles.{FitParts, has_file, index_name, is_among}
use Rattle.sasi_manifest.specs.declared.edit.Edit.TheVariants.{Replace}
use Rattle.sasi_manifest.specs.declared.files.ListedFile.{ListedFile}
use Rattle.sasi_manifest.specs.declared.files.PartNumber.{PartNumber}
use Rattle.sasi_manifest.specs.declared.listing.Listing.{Listing}
use Rattle.sasi_pairs.specs.SealedFiles.{AreAbsent, AreDefined}
use Rattle.sasi_tables.proofs.TablesInMemory.{all_at, there_inside}
use Rattle.sasi_tables.specs.TablesView.{memory_of}
use Rattle.sasi_tables.specs.declared.parts.Parts.{Parts}
use Rattle.sasi_tasks.proofs.LastParts.{left_defined, left_fit}
use Rattle.sasi_tasks.proofs.TakenFiles.{numbers_in}
use Rattle.sasi_tasks.specs.MakesTaskMoves.{CanGoOn}
use Rattle.sasi_tasks.specs.Running.{DrawsParts, IsTaskReady, IsUnheld, compaction_of, is_aside, is_begun, is_held}
use Rattle.sasi_tasks.specs.declared.running.RunningTask.{RunningTask}
use Rattle.sasi_views.specs.Books.{Book}

never : true ≡ false → ⊥
never e = cc

-- **A task that has its last unit left**, and the parts that this draws.
pub record CanEnd (v : View) (views : Book) (p : Parts) (tasks : List RunningTask) (at : ℕ) (r : RunningTask) (parts : List PartNumber) : Type 0 where
  pub ready : CanGoOn v views p tasks
  pub there : slice_get tasks at ≡ Some r
  pub passed : IsReady r.task
  pub drawn : (row : ListedDefinition) → slice_get p.manifest.listing.tables (r.table - 1) ≡ Some row → DrawsParts p.numbers.part (compaction_of r) row.numbers parts

-- ---- numbers of the sources

current_from : (whole : List ListedFile) (before : List ℕ) (low high : ℕ) (fs : List ListedFile) → Rising low high fs → high < 2 ^ 32 → ((n : ℕ) → is_among before n ≡ true → n ≤ low)
    → ((n : ℕ) → has_file fs n ≡ true → has_file whole n ≡ true) → AreCurrent whole before (numbers_in fs)
current_from whole before low high [] rise fits below inside = tt
current_from whole before low high (f ∷ fs) rise fits below inside = (
  omega (arith, rising_bound f.number high fs rise.1, fits),
  both (has_file whole f.number) (is_among before f.number) (inside f.number (own (has_file fs f.number))) (not_before (is_among before f.number) refl),
  current_from whole (before ++ f.number ∷ []) f.number high fs rise.1 fits (λ n is. among_push before n is below) (λ n is. inside n (later (nat_eq n f.number) (has_file fs n) is)),
)
  where
    own : (b : Bool) → (nat_eq f.number f.number || b) ≡ true
    own b = (let same : nat_eq f.number f.number ≡ true = grind (arith, nat_tests) in ap (λ x. x || b) same)

    later : (a b : Bool) → b ≡ true → (a || b) ≡ true
    later true b is = refl
    later false b is = is

    both : (a b : Bool) → a ≡ true → b ≡ false → (a && not b) ≡ true
    both a b one two = (λ i. one i && not (two i))

    not_before : (b : Bool) → is_among before f.number ≡ b → is_among before f.number ≡ false
    not_before false is = is
    not_before true is = absurd (omega (arith, below f.number is, rise.0))

    among_push : (ns : List ℕ) (n : ℕ) → is_among (ns ++ f.number ∷ []) n ≡ true → ((n : ℕ) → is_among ns n ≡ true → n ≤ low) → n ≤ f.number
    among_push [] n is under = by (nat_eq n f.number) refl is
      where
        by : (b : Bool) → nat_eq n f.number ≡ b → (b || false) ≡ true → n ≤ f.number
        by true same there = (let equal : n ≡ f.number = grind (arith, nat_tests, same) in omega (arith, equal))
        by false other there = absurd (never (sym there))
    among_push (m ∷ ns) n is under = by (nat_eq n m) refl is (λ there. among_push ns n there (λ k has. under k (later (nat_eq k m) (is_among ns k) has)))
      where
        by : (b : Bool) → nat_eq n m ≡ b → (b || is_among (ns ++ f.number ∷ []) n) ≡ true → (is_among (ns ++ f.number ∷ []) n ≡ true → n ≤ f.number) → n ≤ f.number
        by true same there rest = omega (arith, under n (ap (λ b. b || is_among ns n) same), rise.0)
        by false other there rest = rest there

pub rising_first : (k low high : ℕ) (fs : List ListedFile) → Rising low high fs → Rising low high (take k fs)
rising_first zero low high fs rise = rising_bound low high fs rise
rising_first (suc k) low high [] rise = rise
rising_first (suc k) low high (f ∷ fs) rise = (rise.0, rising_first k f.number high fs rise.1)

-- there are no more of them than numbers
rising_count : (low high : ℕ) (fs : List ListedFile) → Rising low high fs → low + length fs ≤ high
rising_count low high [] rise = omega (arith, rise)
rising_count low high (f ∷ fs) rise = omega (arith, rise.0, rising_count f.number high fs rise.1)

pub first_inside : (k : ℕ) (fs : List ListedFile) (n : ℕ) → has_file (take k fs) n ≡ true → has_file fs n ≡ true
first_inside zero fs n is = absurd (never (sym is))
first_inside (suc k) [] n is = is
first_inside (suc k) (f ∷ fs) n is = by (nat_eq n f.number) is (first_inside k fs n)
  where
    by : (b : Bool) → (b || has_file (take k fs) n) ≡ true → (has_file (take k fs) n ≡ true → has_file fs n ≡ true) → (b || has_file fs n) ≡ true
    by true there rest = refl
    by false there rest = rest there

within_last : (last table n : ℕ) (ts : List ListedDefinition) → AllByRecursion (λ t. t.since ≤ last) ts → are_within last table n ts ≡ true
within_last last table n [] all = refl
within_last last table n (t ∷ ts) all =
    let le : nat_le t.since last ≡ true = grind (arith, nat_tests, all.0) in
    ap (λ b. (nat_eq n table || b) && are_within last table (suc n) ts) le ∙ both (nat_eq n table) (within_last last table (suc n) ts all.1)
  where
    both : (a : Bool) {b : Bool} → b ≡ true → ((a || true) && b) ≡ true
    both true is = is
    both false is = is

-- ---- names

index_not_begun : (tasks : List RunningTask) (n : ℕ) (q : PartNumber) → is_begun tasks (index_name n q) ≡ false
index_not_begun [] n q = refl
index_not_begun (r ∷ tasks) n q = index_not_begun tasks n q

module _ (v : View) (views : Book) (p : Parts) (tasks : List RunningTask) (at : ℕ) (r : RunningTask) (parts : List PartNumber) (e : CanEnd v views p tasks at r parts) where
  abbrev pub task : IsTaskReady v p r
  task = all_at (IsTaskReady v p) at tasks r e.ready.ready.each e.there

  abbrev listing : Listing
  listing = p.manifest.listing

  abbrev row : ListedDefinition
  row = task.row

  abbrev comp : Compaction
  comp = r.task.compaction

  abbrev out : ListedFile
  out = output_file comp parts

  pub parts_are : DrawsParts p.numbers.part (compaction_of r) row.numbers parts
  parts_are = e.drawn row task.there

  unheld : IsUnheld views comp.number
  unheld = all_at (λ (o : RunningTask). IsUnheld views o.task.compaction.number) at tasks r e.ready.unheld e.there

  pub row_rise : Rising 0 p.numbers.«data» row.files
  row_rise = (all_at (HasFilesInOrder p.numbers.«data» listing.last) (r.table - 1) listing.tables row e.ready.can.numbered.files task.there).rise

  has_indexes : HasIndexes row
  has_indexes = all_at HasIndexes (r.table - 1) listing.tables row e.ready.can.consistent.indexes task.there

  -- no name of its number is listed
  pub unlisted : (name : FileName) → name.number ≡ comp.number → has_name listing.tables name ≡ false
  unlisted name own = by (has_name listing.tables name) refl
    where
      by : (b : Bool) → has_name listing.tables name ≡ b → has_name listing.tables name ≡ false
      by false is = is
      by true is = absurd (task.unlisted name is own)

  not_held : (name : FileName) → name.number ≡ comp.number → is_held views name ≡ false
  not_held name own = by (is_held views name) refl
    where
      by : (b : Bool) → is_held views name ≡ b → is_held views name ≡ false
      by false is = is
      by true is = absurd (unheld name own is)

  fit_row : FitParts row.numbers parts
  fit_row = subst (FitParts row.numbers) (sym parts_are.are)
      (left_fit p.numbers.part row.numbers (compaction_of r).indexes has_indexes.numbered task.indexes_are.rise (few task.indexes_are.few) (subst (λ (ps : List PartNumber). p.numbers.part + length ps < 2 ^ 32) parts_are.are parts_are.room))
    where
      few : length comp.indexes < 2 ^ 16 → length (compaction_of r).indexes < 2 ^ 16
      few less = omega (arith, less, length-map comp.indexes (λ (def : IndexDef). def.number))

  -- **The index files can be made,**
  pub can_parts : CanHaveParts v comp parts
  can_parts = record {
    defined = subst (AreDefined comp.indexes) (sym parts_are.are) (left_defined comp.indexes p.numbers.part (is_among row.numbers));
    rising = fit_row.rise;
    absent = absent_each parts;
  }
    where
      free : (q : PartNumber) → IsAbsent v (index_name comp.number q)
      free q =
          let name = index_name comp.number q in
          let none = unlisted name refl in
          free_name v (is_aside views tasks listing) (kept_by (memory_of p)) name e.ready.exactly
          (ap (λ b. not (has_name listing.tables name) && (b || is_begun tasks name)) (not_held name refl) ∙ ap (λ b. not (has_name listing.tables name) && b) (index_not_begun tasks comp.number q) ∙ and_none (not (has_name listing.tables name)))
          (keeps_listed (kept_by (memory_of p)) name (omega arith) ∙ none)
        where
          and_none : (b : Bool) → (b && false) ≡ false
          and_none true = refl
          and_none false = refl

      absent_each : (qs : List PartNumber) → AreAbsent v comp.number qs
      absent_each [] = tt
      absent_each (q ∷ qs) = (free q, absent_each qs)

  pub since_is : since_of listing.tables r.table ≡ max 1 row.since
  since_is = ap (λ (o : Option ListedDefinition). max 1 (option_map_or (λ (t : ListedDefinition). t.since) o 0)) task.there

  -- **its record applies,**
  pub applies : r.table < 2 ^ 32 → Applies (Some listing) (Replace r.table comp.sources (out ∷ []) (since_of listing.tables r.table) listing.floor listing.last)
  applies small = replace_applies listing r.table comp.sources (out ∷ []) (since_of listing.tables r.table) listing.floor listing.last (record {
    some = omega (arith, task.some);
    within = omega (arith, task.some, there_inside listing.tables (r.table - 1) row task.there);
    table_fits = small;
    few_removed = omega (arith, sources_few, e.ready.can.numbered.fits);
    current = current;
    few_added = omega arith;
    new = (record { some = omega (arith, task.takes.some); number_fits = omega (arith, task.used, e.ready.can.numbered.fits); free = new_is; parts = subst (λ (ns : List ℕ). FitParts ns parts) (sym numbers_are) fit_row }, tt);
    since_some = subst (λ (k : ℕ). 1 ≤ k) (sym since_is) (omega arith);
    since_within = subst (λ (k : ℕ). k ≤ listing.last) (sym since_is) (omega (arith, row_since, known.start.floor_some, known.start.ordered));
    floor_some = known.start.floor_some;
    floor_within = known.start.ordered;
    last_fits = known.start.last_fits;
    others = within_last listing.last r.table 1 listing.tables known.since;
  })
    where
      known : IsConsistent listing
      known = e.ready.can.consistent

      sources_few : length comp.sources ≤ p.numbers.«data»
      sources_few = omega (
        arith,
        rising_count 0 p.numbers.«data» (take (length comp.sources) row.files) (rising_first (length comp.sources) 0 p.numbers.«data» row.files row_rise),
        ap (λ (ns : List ℕ). length ns) task.firsts,
        length-map (take (length comp.sources) row.files) (λ (f : ListedFile). f.number),
      )

      row_since : row.since ≤ listing.last
      row_since = all_at (λ (t : ListedDefinition). t.since ≤ listing.last) (r.table - 1) listing.tables row known.since task.there

      numbers_are : numbers_at listing.tables r.table ≡ row.numbers
      numbers_are = ap (λ (o : Option ListedDefinition). option_map_or (λ (t : ListedDefinition). t.numbers) o []) task.there

      files_are : files_of listing.tables r.table ≡ row.files
      files_are = ap (λ (o : Option ListedDefinition). option_map_or (λ (t : ListedDefinition). t.files) o []) task.there

      current : AreCurrent (files_of listing.tables r.table) [] comp.sources
      current = subst (λ (fs : List ListedFile). AreCurrent fs [] comp.sources) (sym files_are) (subst (AreCurrent row.files []) task.firsts
          (current_from row.files [] 0 p.numbers.«data» (take (length comp.sources) row.files) (rising_first (length comp.sources) 0 p.numbers.«data» row.files row_rise) e.ready.can.numbered.fits (λ n is. absurd (never (sym is))) (first_inside (length comp.sources) row.files)))

      new_is : is_new listing.tables comp.sources [] comp.number ≡ true
      new_is = ap (λ b. not (b && not (is_among comp.sources comp.number)) && true) (sym (data_named comp.number listing.tables) ∙ unlisted (data_name comp.number) refl)

  -- **and so it can be listed.**
  pub can_list : r.table < 2 ^ 32 → length (encoded (edits_of listing r.table comp parts)) ≤ 2 ^ 30 → CanList v p.manifest (edits_of listing r.table comp parts)
  can_list small short = record { room = e.ready.can.manifest_room; usable = e.ready.can.manifest_usable; applies = (applies small, tt); short = short }
