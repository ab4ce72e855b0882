-- The folder after the last unit of a task: its output is there, and of its sources the files that a view lists which is out.
use Rattle.std.proofs.Common.{◌≡◌, ◌≢◌, ◌∙◌, ◌||◌, ◌&&◌, ◌+◌, ◌-◌, ◌++◌, ◌<◌, ◌≤◌, ℕ, zero, suc, Bool, true, false, not, nat_le, is_some, List, [], ◌∷◌, length, map, slice_get, take, Option, None, Some, refl, sym, ap, subst, arith}
use Rattle.std.proofs.lemmas.Bool.Decides.{nat_tests}
use Rattle.std.proofs.lemmas.List.Folds.{list_any-append}
use Rattle.std.specs.FinMap.{get}
use Rattle.std.specs.List.{AllByRecursion, flat_map, list_any, remove}
use Rattle.sasi_host.proofs.ContentLaws.{contents_kept, there_where, told_before, told_files}
use Rattle.sasi_host.specs.Disk.{Changes, Within}
use Rattle.sasi_host.specs.Names.{Bytes, Folder, data_name, manifest_name, name_eq, rank, seal_name}
use Rattle.sasi_host.specs.View.{IsAbsent, IsThere, Reaches, View, contents, contents_in}
use Rattle.sasi_host.specs.declared.name.FileName.{FileName}
use Rattle.sasi_compact.specs.Listing.{ChangesOutput, edits_of, output_file, since_of}
use Rattle.sasi_layout.proofs.FileNameLaws.{any_flat, have_name, name_itself, name_same, name_there, other_kind}
use Rattle.sasi_layout.proofs.KeptLaws.{kept_there, keeps_listed}
use Rattle.sasi_layout.specs.Kept.{HasKeptBeside, Kept, has_segment, is_kept, is_kept_beside}
use Rattle.sasi_layout.specs.NumbersInOrder.{Rising}
use Rattle.sasi_layout.specs.Serving.{kept_by}
use Rattle.sasi_manifest.specs.Consistent.{HasParts}
use Rattle.sasi_manifest.specs.FileNames.{has_name}
use Rattle.sasi_manifest.specs.ListedDefinition.{ListedDefinition}
use Rattle.sasi_manifest.specs.Format.{IsNext}
use Rattle.sasi_manifest.specs.ListedFiles.{FitParts, IndexesRise, NumbersRise, index_name, is_name_of, names_of}
use Rattle.sasi_manifest.specs.Listings.{at_number, replaced}
use Rattle.sasi_manifest.specs.OpenManifest.{ManifestState}
use Rattle.sasi_manifest.specs.declared.files.ListedFile.{ListedFile}
use Rattle.sasi_manifest.specs.declared.files.PartNumber.{PartNumber}
use Rattle.sasi_manifest.specs.declared.listing.Listing.{Listing}
use Rattle.sasi_tables.proofs.TablesInMemory.{all_at}
use Rattle.sasi_tables.specs.TablesView.{memory_of}
use Rattle.sasi_tables.specs.declared.parts.Parts.{Parts}
use Rattle.sasi_tasks.proofs.LastRecord.{CanEnd, rising_first, row_rise, task, unlisted}
use Rattle.sasi_tasks.proofs.TakenFiles.{names_compacted, own_number, taken_listed}
use Rattle.sasi_tasks.specs.Running.{IsTaskReady, compaction_of, is_aside, is_begun}
use Rattle.sasi_tasks.specs.Unheld.{AreGone, AreOnce, AreThere, is_counted, is_one_of}
use Rattle.sasi_tasks.specs.declared.running.RunningTask.{RunningTask}
use Rattle.sasi_views.specs.Books.{Book}

never : true ≡ false → ⊥
never e = cc

or_true : (a : Bool) → (a || true) ≡ true
or_true true = refl
or_true false = refl

left_false : (a b : Bool) → (a || b) ≡ false → a ≡ false
left_false true b is = is
left_false false b is = refl

right_false : (a b : Bool) → (a || b) ≡ false → b ≡ false
right_false true b is = absurd (never is)
right_false false b is = is

-- ---- one of several taken away

any_removed : {A : Type 0} (q : A → Bool) (xs : List A) (at : ℕ) (x : A) → slice_get xs at ≡ Some x → list_any q xs ≡ (q x || list_any q (remove xs at))
any_removed q [] at x there = cc
any_removed q (y ∷ xs) zero x there = (let one : y ≡ x = cc in ap (λ k. q k || list_any q xs) one)
any_removed q (y ∷ xs) (suc at) x there = ap (λ b. q y || b) (any_removed q xs at x there) ∙ swap (q y) (q x) (list_any q (remove xs at))
  where
    swap : (a b c : Bool) → (a || (b || c)) ≡ (b || (a || c))
    swap true true c = refl
    swap true false c = refl
    swap false b c = refl

pub all_removed : {A : Type 0} (P : A → Type 0) (xs : List A) (at : ℕ) → AllByRecursion P xs → AllByRecursion P (remove xs at)
all_removed P [] zero all = tt
all_removed P [] (suc at) all = tt
all_removed P (x ∷ xs) zero all = all.1
all_removed P (x ∷ xs) (suc at) all = (all.0, all_removed P xs at all.1)

-- ---- names once

among : List FileName → FileName → Bool
among names name = list_any (name_eq name) names

once_both : (xs ys : List FileName) → AreOnce xs → AreOnce ys → AllByRecursion (λ (n : FileName). list_any (name_eq n) ys ≡ false) xs → AreOnce (xs ++ ys)
once_both [] ys first second apart = second
once_both (x ∷ xs) ys first second apart = (list_any-append (name_eq x) xs ys ∙ (λ i. first.0 i || apart.0 i), once_both xs ys first.1 second apart.1)

no_index : (n : ℕ) (qs : List PartNumber) → list_any (name_eq (data_name n)) (map (index_name n) qs) ≡ false
no_index n [] = refl
no_index n (q ∷ qs) = no_index n qs

index_apart : (n above : ℕ) (q : PartNumber) (qs : List PartNumber) → q.index ≤ above → NumbersRise above (map (λ p. p.index) qs) → list_any (name_eq (index_name n q)) (map (index_name n) qs) ≡ false
index_apart n above q [] le rise = refl
index_apart n above q (k ∷ qs) le rise =
    let other : name_eq (index_name n q) (index_name n k) ≡ false = (let less : above < k.index = rise.0 in grind (arith, nat_tests, le)) in
    ap (λ b. b || list_any (name_eq (index_name n q)) (map (index_name n) qs)) other ∙ index_apart n k.index q qs (omega (arith, le, rise.0)) rise.1

indexes_once : (n above : ℕ) (qs : List PartNumber) → NumbersRise above (map (λ p. p.index) qs) → AreOnce (map (index_name n) qs)
indexes_once n above [] rise = tt
indexes_once n above (q ∷ qs) rise = (index_apart n q.index q qs (omega arith) rise.1, indexes_once n q.index qs rise.1)

parts_once : (n : ℕ) (qs : List PartNumber) → IndexesRise qs → AreOnce (map (index_name n) qs)
parts_once n [] rise = tt
parts_once n (q ∷ qs) rise = (index_apart n q.index q qs (omega arith) rise, indexes_once n q.index qs rise)

file_once : (numbers : List ℕ) (f : ListedFile) → FitParts numbers f.parts → AreOnce (names_of f)
file_once numbers f fit = (no_index f.number f.parts, parts_once f.number f.parts fit.rise)

none_named : (name : FileName) (low high : ℕ) (fs : List ListedFile) → name.number ≤ low → Rising low high fs → list_any (name_eq name) (flat_map names_of fs) ≡ false
none_named name low high fs le rise = any_flat (name_eq name) names_of fs ∙ by low fs le rise
  where
    by : (low : ℕ) (fs : List ListedFile) → name.number ≤ low → Rising low high fs → have_name fs name ≡ false
    by low [] le rise = refl
    by low (f ∷ fs) le rise = (let rest = by f.number fs (omega (arith, le, rise.0)) rise.1 in at (is_name_of f name) refl rest)
      where
        at : (b : Bool) → is_name_of f name ≡ b → have_name fs name ≡ false → (is_name_of f name || have_name fs name) ≡ false
        at true is rest = absurd (omega (arith, own_number f name is, le, rise.0))
        at false is rest = (λ i. is i || rest i)

file_names_each : (P : FileName → Type 0) (f : ListedFile) → ((name : FileName) → name.number ≡ f.number → P name) → AllByRecursion P (names_of f)
file_names_each P f each = (each (data_name f.number) refl, by f.parts)
  where
    by : (qs : List PartNumber) → AllByRecursion P (map (index_name f.number) qs)
    by [] = tt
    by (q ∷ qs) = (each (index_name f.number q) refl, by qs)

-- **No name stands twice among those of files that rise.**
files_once : (numbers : List ℕ) (low high : ℕ) (fs : List ListedFile) → Rising low high fs → AllByRecursion (λ (f : ListedFile). FitParts numbers f.parts) fs → AreOnce (flat_map names_of fs)
files_once numbers low high [] rise fit = tt
files_once numbers low high (f ∷ fs) rise fit =
    once_both (names_of f) (flat_map names_of fs) (file_once numbers f fit.0) (files_once numbers f.number high fs rise.1 fit.1)
    (file_names_each (λ (n : FileName). list_any (name_eq n) (flat_map names_of fs) ≡ false) f (λ name own. none_named name f.number high fs (omega (arith, own)) rise.1))

-- ---- kinds

pub listed_kind : (ts : List ListedDefinition) (name : FileName) → has_name ts name ≡ true → 3 ≤ rank name.kind
listed_kind ts name is = by (nat_le 3 (rank name.kind)) refl
  where
    by : (b : Bool) → nat_le 3 (rank name.kind) ≡ b → 3 ≤ rank name.kind
    by true le = grind (arith, nat_tests, le)
    by false low = absurd (never (sym is ∙ other_kind name ts (grind (arith, nat_tests, low))))

-- ---- the names that are kept but for those of files

base : ℕ → ℕ → ℕ → FileName → Bool
base number floor last name = name_eq name (manifest_name number) || (name_eq name (seal_name number) || has_segment floor last name)

kept_split : (k : Kept) (name : FileName) → is_kept k name ≡ (base k.manifest k.listing.floor k.listing.last name || has_name k.listing.tables name)
unfolding base
kept_split k name = by (name_eq name (manifest_name k.manifest)) (name_eq name (seal_name k.manifest)) (has_segment k.listing.floor k.listing.last name) (has_name k.listing.tables name)
  where
    by : (a b c d : Bool) → (a || (b || (c || d))) ≡ ((a || (b || c)) || d)
    by true b c d = refl
    by false true c d = refl
    by false false c d = refl

-- no file of a table is one of them
base_listed : (number floor last : ℕ) (name : FileName) → 3 ≤ rank name.kind → base number floor last name ≡ false
unfolding base
base_listed number floor last name kind = grind (arith, nat_tests, kind)

base_manifest : (number floor last : ℕ) (name : FileName) → name_eq name (manifest_name number) ≡ true → base number floor last name ≡ true
unfolding base
base_manifest number floor last name same = ap (λ b. b || (name_eq name (seal_name number) || has_segment floor last name)) same

take_all : {A : Type 0} (P : A → Type 0) (k : ℕ) (xs : List A) → AllByRecursion P xs → AllByRecursion P (take k xs)
take_all P zero xs all = tt
take_all P (suc k) [] all = tt
take_all P (suc k) (x ∷ xs) all = (all.0, take_all P k xs all.1)

names_all : (P : FileName → Type 0) (xs : List FileName) → ((n : FileName) → list_any (name_eq n) xs ≡ true → P n) → AllByRecursion P xs
names_all P [] each = tt
names_all P (x ∷ xs) each = (each x (here x), names_all P xs (λ n is. each n (later (name_eq n x) (list_any (name_eq n) xs) is)))
  where
    here : (x : FileName) → (name_eq x x || list_any (name_eq x) xs) ≡ true
    here x = (let same : name_eq x x ≡ true = grind (arith, nat_tests) in ap (λ b. b || list_any (name_eq x) xs) same)

    later : (a b : Bool) → b ≡ true → (a || b) ≡ true
    later true b is = refl
    later false b is = is

module _ (a : View) (views : Book) (p : Parts) (tasks : List RunningTask) (at : ℕ) (r : RunningTask) (parts : List PartNumber) (e : CanEnd a views p tasks at r parts) where
  abbrev rows : List ListedDefinition
  rows = p.manifest.listing.tables

  abbrev sources : List ListedFile
  sources = take (length r.task.compaction.sources) (task a views p tasks at r parts e).row.files

  abbrev output : ListedFile
  output = output_file r.task.compaction parts

  abbrev aside : FileName → Bool
  aside = is_aside views tasks p.manifest.listing

  -- a name of the sources is listed, and none of the output is
  pub source_listed : (name : FileName) → have_name sources name ≡ true → has_name rows name ≡ true
  source_listed name is =
      let t = task a views p tasks at r parts e in
      taken_listed rows r.table t.some t.row t.there e.ready.can.consistent.apart 0 p.numbers.«data» (row_rise a views p tasks at r parts e) (compaction_of r) t.takes t.firsts name is

  pub output_unlisted : (name : FileName) → is_name_of output name ≡ true → has_name rows name ≡ false
  output_unlisted name is = unlisted a views p tasks at r parts e name (own_number output name is)

  pub listed_no_output : (name : FileName) → has_name rows name ≡ true → is_name_of output name ≡ false
  listed_no_output name is = by (is_name_of output name) refl
    where
      by : (b : Bool) → is_name_of output name ≡ b → is_name_of output name ≡ false
      by false isnt = isnt
      by true own = absurd (never (sym is ∙ output_unlisted name own))

  pub unlisted_no_source : (name : FileName) → has_name rows name ≡ false → have_name sources name ≡ false
  unlisted_no_source name isnt = by (have_name sources name) refl
    where
      by : (b : Bool) → have_name sources name ≡ b → have_name sources name ≡ false
      by false none = none
      by true is = absurd (never (sym (source_listed name is) ∙ isnt))

  listed_apart : (name : FileName) → has_name rows name ≡ true → name ≢ manifest_name p.manifest.number
  listed_apart name is same = never (sym is ∙ ap (has_name rows) same ∙ other_kind (manifest_name p.manifest.number) rows (omega arith))

  pub sources_once : AreOnce (flat_map names_of sources)
  sources_once =
      let t = task a views p tasks at r parts e in
      files_once t.row.numbers 0 p.numbers.«data» sources (rising_first (length r.task.compaction.sources) 0 p.numbers.«data» t.row.files (row_rise a views p tasks at r parts e))
      (take_all (λ (f : ListedFile). FitParts t.row.numbers f.parts) (length r.task.compaction.sources) t.row.files (all_at HasParts (r.table - 1) rows t.row e.ready.can.consistent.parts t.there))

  -- no task's file is listed
  none_begun : (os : List RunningTask) → AllByRecursion (IsTaskReady a p) os → (name : FileName) → has_name rows name ≡ true → is_begun os name ≡ false
  none_begun [] all name is = refl
  none_begun (o ∷ os) all name is = by (name_eq name (data_name o.task.compaction.number)) refl (none_begun os all.1 name is)
    where
      by : (b : Bool) → name_eq name (data_name o.task.compaction.number) ≡ b → is_begun os name ≡ false → is_begun (o ∷ os) name ≡ false
      by true same rest = absurd (all.0.unlisted name is (ap (λ (f : FileName). f.number) (name_same name (data_name o.task.compaction.number) same)))
      by false other rest = ap (λ b. (b && is_some o.task.output) || is_begun os name) other ∙ rest

  -- ---- names that are deleted

  abbrev mine : FileName → Bool
  mine = is_one_of (is_counted views 0) (flat_map names_of sources)

  mine_by : (name : FileName) → mine name ≡ (have_name sources name && is_counted views 0 name)
  mine_by name = ap (λ b. b && is_counted views 0 name) (any_flat (name_eq name) names_of sources)

  pub not_mine : (name : FileName) → have_name sources name ≡ false → mine name ≡ false
  not_mine name none = mine_by name ∙ ap (λ b. b && is_counted views 0 name) none

  -- what is deleted is one of a source
  pub mine_source : (name : FileName) → mine name ≡ true → have_name sources name ≡ true
  mine_source name is = by (have_name sources name) (is_counted views 0 name) (sym (mine_by name) ∙ is)
    where
      by : (x y : Bool) → (x && y) ≡ true → x ≡ true
      by true y both = refl
      by false y both = both

  -- a name of another kind than files of tables have isn't
  pub low_undropped : (name : FileName) → rank name.kind < 3 → mine name ≡ false
  low_undropped name low = not_mine name (unlisted_no_source name (other_kind name rows low))

  module _ (next : Listing) (listed : IsNext p.manifest.listing (edits_of p.manifest.listing r.table r.task.compaction parts) next) where
    pub next_is : (next.partitioner ≡ p.manifest.listing.partitioner) × (next.floor ≡ p.manifest.listing.floor) × (next.last ≡ p.manifest.listing.last) × (next.tables ≡ at_number 1 r.table (replaced r.task.compaction.sources (output ∷ []) (since_of rows r.table)) rows)
    next_is = (cc, cc, cc, cc)

    -- **The names that are listed then.**
    pub next_names : (name : FileName) → has_name next.tables name ≡ (is_name_of output name || (has_name rows name && not (have_name sources name)))
    next_names name =
        let t = task a views p tasks at r parts e in
        ap (λ (ts : List ListedDefinition). has_name ts name) next_is.3
        ∙ names_compacted rows r.table t.some t.row t.there e.ready.can.consistent.apart 0 p.numbers.«data» (row_rise a views p tasks at r parts e) (compaction_of r) t.takes t.firsts output (since_of rows r.table) refl name

    -- a source is listed no more
    pub source_gone : (name : FileName) → have_name sources name ≡ true → has_name next.tables name ≡ false
    source_gone name is = next_names name ∙ (λ i. listed_no_output name (source_listed name is) i || (has_name rows name && not (is i))) ∙ and_none (has_name rows name)
      where
        and_none : (b : Bool) → (b && false) ≡ false
        and_none true = refl
        and_none false = refl

    module _ (b : View) (change : Changes (ChangesOutput p.manifest.number output) a b) where
      -- a listed file stays while the output is listed
      listed_stays : (name : FileName) → has_name rows name ≡ true → contents b name ≡ contents a name
      listed_stays name is = contents_kept a b (ChangesOutput p.manifest.number output) name (λ x y s. s name (listed_apart name is) (listed_no_output name is)) change

      pub sources_there : AreThere (is_counted views 0) b (flat_map names_of sources)
      sources_there = names_all (λ (n : FileName). is_counted views 0 n ≡ true → IsThere b n) (flat_map names_of sources) (λ name is counted.
          let listed = source_listed name (sym (any_flat (name_eq name) names_of sources) ∙ is) in
          there_where a b (ChangesOutput p.manifest.number output) name change (listed_stays name listed)
          (kept_there a aside (kept_by (memory_of p)) name e.ready.exactly (keeps_listed (kept_by (memory_of p)) name (listed_kind rows name listed) ∙ listed)))

      module _ (m : ManifestState) (is_next : m.listing ≡ next) (number : m.number ≡ p.manifest.number) (room : Reaches b (manifest_name m.number) (m.at + 1)) (there : AllByRecursion (IsThere b) (names_of output))
          (d : View) (deleted : Changes (Within (is_one_of (is_counted views 0) (flat_map names_of sources))) b d) (gone : AreGone (is_counted views 0) d (flat_map names_of sources)) where
        abbrev now : List RunningTask
        now = remove tasks at

        abbrev old_base : FileName → Bool
        old_base = base p.manifest.number p.manifest.listing.floor p.manifest.listing.last

        abbrev after : FileName → Bool
        after = is_kept_beside (is_aside views now m.listing) (record { manifest = m.number; listing = m.listing })

        base_now : (name : FileName) → base m.number m.listing.floor m.listing.last name ≡ old_base name
        base_now name =
            let floor : m.listing.floor ≡ p.manifest.listing.floor = ap (λ (l : Listing). l.floor) is_next ∙ next_is.1 in
            let last : m.listing.last ≡ p.manifest.listing.last = ap (λ (l : Listing). l.last) is_next ∙ next_is.2 in
            λ i. base (number i) (floor i) (last i) name

        names_now : (name : FileName) → has_name m.listing.tables name ≡ (is_name_of output name || (has_name rows name && not (have_name sources name)))
        names_now name = ap (λ (l : Listing). has_name l.tables name) is_next ∙ next_names name

        -- what is expected, by tests
        expected : (name : FileName) (n begun : Bool) → has_name m.listing.tables name ≡ n → is_begun now name ≡ begun → after name ≡ ((not n && (not (is_counted views 0 name) || begun)) || (old_base name || n))
        expected name n begun n_is begun_is =
            ap (λ x. is_aside views now m.listing name || x) (kept_split (record { manifest = m.number; listing = m.listing }) name ∙ ap (λ x. x || has_name m.listing.tables name) (base_now name))
            ∙ (λ i. (not (n_is i) && (not (is_counted views 0 name) || begun_is i)) || (old_base name || n_is i))

        begun_by : (name : FileName) → is_begun tasks name ≡ ((name_eq name (data_name r.task.compaction.number) && is_some r.task.output) || is_begun now name)
        begun_by name = any_removed (λ (o : RunningTask). name_eq name (data_name o.task.compaction.number) && is_some o.task.output) tasks at r e.there

        here : (v : View) (f : Folder) (name : FileName) → v.files ≡ Some f → IsThere v name → is_some (get f name) ≡ true
        here v f name is there = subst (λ (o : Option Folder). is_some (contents_in o name) ≡ true) is (there (ap (λ (o : Option Folder). is_some o) is))

        module _ (name : FileName) (x y z : Folder) (y_is : b.files ≡ Some y) (z_is : d.files ≡ Some z) (made : ChangesOutput p.manifest.number output x y) (left : Within mine y z) (has : is_some (get x name) ≡ is_kept_beside aside (kept_by (memory_of p)) name) where
          -- a name of the output
          output_named : is_name_of output name ≡ true → is_some (get z name) ≡ after name
          output_named own =
              let none = unlisted_no_source name (output_unlisted name own) in
              let listed_now : has_name m.listing.tables name ≡ true = names_now name ∙ ap (λ x. x || (has_name rows name && not (have_name sources name))) own in
              ap (λ (o : Option Bytes). is_some o) (left name (not_mine name none)) ∙ here b y name y_is (name_there (IsThere b) name (names_of output) there own)
              ∙ sym (expected name true (is_begun now name) listed_now refl ∙ or_true (old_base name))

          -- a name of a source that was deleted
          deleted_named : have_name sources name ≡ true → is_counted views 0 name ≡ true → is_some (get z name) ≡ after name
          deleted_named of counted =
              let listed_was = source_listed name of in
              let absent = name_there (λ (n : FileName). is_counted views 0 n ≡ true → IsAbsent d n) name (flat_map names_of sources) gone (any_flat (name_eq name) names_of sources ∙ of) counted in
              let none : get z name ≡ None = ap (λ (o : Option Folder). contents_in o name) (sym z_is) ∙ absent in
              let unlisted_now : has_name m.listing.tables name ≡ false = ap (λ (l : Listing). has_name l.tables name) is_next ∙ source_gone name of in
              let idle : is_begun now name ≡ false = right_false (name_eq name (data_name r.task.compaction.number) && is_some r.task.output) (is_begun now name) (sym (begun_by name) ∙ none_begun tasks e.ready.ready.each name listed_was) in
              let low = base_listed p.manifest.number p.manifest.listing.floor p.manifest.listing.last name (listed_kind rows name listed_was) in
              ap (λ (o : Option Bytes). is_some o) none
              ∙ sym (expected name false false unlisted_now idle ∙ (λ i. (true && (not (counted i) || false)) || (low i || false)))

          -- a name of one that a view lists
          held_named : is_name_of output name ≡ false → have_name sources name ≡ true → is_counted views 0 name ≡ false → is_some (get z name) ≡ after name
          held_named other of counted =
              let listed_was = source_listed name of in
              let stays : mine name ≡ false = mine_by name ∙ (λ i. of i && counted i) in
              let unlisted_now : has_name m.listing.tables name ≡ false = ap (λ (l : Listing). has_name l.tables name) is_next ∙ source_gone name of in
              let was : is_kept (kept_by (memory_of p)) name ≡ true = keeps_listed (kept_by (memory_of p)) name (listed_kind rows name listed_was) ∙ listed_was in
              ap (λ (o : Option Bytes). is_some o) (left name stays ∙ made name (listed_apart name listed_was) other) ∙ has ∙ ap (λ x. aside name || x) was ∙ or_true (aside name)
              ∙ sym (expected name false (is_begun now name) unlisted_now refl ∙ (λ i. (true && (not (counted i) || is_begun now name)) || (old_base name || false)))

          -- the manifest
          manifest_named : have_name sources name ≡ false → name_eq name (manifest_name p.manifest.number) ≡ true → is_some (get z name) ≡ after name
          manifest_named none same =
              let name_is : manifest_name m.number ≡ name = ap manifest_name number ∙ sym (name_same name (manifest_name p.manifest.number) same) in
              let stands : IsThere b name = subst (IsThere b) name_is (λ told. (let reached = room told in ap (λ (o : Option Bytes). is_some o) reached.1)) in
              ap (λ (o : Option Bytes). is_some o) (left name (not_mine name none)) ∙ here b y name y_is stands
              ∙ sym (expected name (has_name m.listing.tables name) (is_begun now name) refl refl
              ∙ ap (λ x. (not (has_name m.listing.tables name) && (not (is_counted views 0 name) || is_begun now name)) || (x || has_name m.listing.tables name)) (base_manifest p.manifest.number p.manifest.listing.floor p.manifest.listing.last name same)
              ∙ or_true (not (has_name m.listing.tables name) && (not (is_counted views 0 name) || is_begun now name)))

          -- any other name
          other_named : is_name_of output name ≡ false → have_name sources name ≡ false → name ≢ manifest_name p.manifest.number → is_some (get z name) ≡ after name
          other_named other none apart =
              let same_names : has_name m.listing.tables name ≡ has_name rows name = names_now name ∙ (λ i. other i || (has_name rows name && not (none i))) ∙ and_true (has_name rows name) in
              let no_data : name_eq name (data_name r.task.compaction.number) ≡ false = left_false (name_eq name (data_name r.task.compaction.number)) (list_any (name_eq name) (map (index_name r.task.compaction.number) parts)) other in
              let same_begun : is_begun tasks name ≡ is_begun now name = begun_by name ∙ ap (λ x. (x && is_some r.task.output) || is_begun now name) no_data in
              ap (λ (o : Option Bytes). is_some o) (left name (not_mine name none) ∙ made name apart other) ∙ has ∙ ap (λ x. aside name || x) (kept_split (kept_by (memory_of p)) name)
              ∙ sym (expected name (has_name rows name) (is_begun tasks name) same_names (sym same_begun))
            where
              and_true : (b : Bool) → (b && true) ≡ b
              and_true true = refl
              and_true false = refl

          any_named : is_some (get z name) ≡ after name
          any_named = by (is_name_of output name) (have_name sources name) (is_counted views 0 name) (name_eq name (manifest_name p.manifest.number)) refl refl refl refl
            where
              by : (o t k s : Bool) → is_name_of output name ≡ o → have_name sources name ≡ t → is_counted views 0 name ≡ k → name_eq name (manifest_name p.manifest.number) ≡ s → is_some (get z name) ≡ after name
              by true t k s own t_is k_is s_is = output_named own
              by false true true s other of counted s_is = deleted_named of counted
              by false true false s other of counted s_is = held_named other of counted
              by false false k true other none k_is same = manifest_named none same
              by false false k false other none k_is apart = other_named other none (λ same. never (sym (ap (λ (n : FileName). name_eq n (manifest_name p.manifest.number)) same ∙ name_itself (manifest_name p.manifest.number)) ∙ apart))

        -- **The folder has what is listed then, and what is aside.**
        pub folder_after : (z : Folder) → d.files ≡ Some z → HasKeptBeside (is_aside views now m.listing) (record { manifest = m.number; listing = m.listing }) z
        folder_after z files name =
            let told_b = told_files b (told_before (Within mine) b d deleted (ap (λ (o : Option Folder). is_some o) files)) in
            let told_a = told_files a (told_before (ChangesOutput p.manifest.number output) a b change (ap (λ (o : Option Folder). is_some o) told_b.1)) in
            let made = change.seen told_a.0 told_a.1 in
            let left = deleted.seen made.0 made.1 in
            let z_is : left.0 ≡ z = one_folder left.0 z (sym left.1 ∙ files) in
            any_named name told_a.0 made.0 z made.1 files made.2 (subst (Within mine made.0) z_is left.2) (e.ready.exactly told_a.0 told_a.1 name)
          where
            one_folder : (x y : Folder) → Some x ≡ Some y → x ≡ y
            one_folder x y s = cc
