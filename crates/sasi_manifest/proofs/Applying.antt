-- When an edit applies.
use Rattle.std.proofs.Common.{◌≡◌, ◌<◌, ◌≤◌, ◌+◌, ◌^◌, ◌-◌, ℕ, suc, Bool, true, false, not, List, [], ◌∷◌, ◌++◌, length, min, Option, None, Some, refl, sym, subst, arith, rules}
use Rattle.std.specs.Int.{w8, w16, w32}
use Rattle.std.specs.Prelude.{◌||◌, nat_lt, nat_le}
use Rattle.std.proofs.lemmas.Bool.Decides.{nat_tests}
use Rattle.std.proofs.lemmas.List.{map-append}
use Rattle.std.specs.List.{AllByRecursion}
use Rattle.sasi_types.specs.declared.partitioner.Partitioner.{Partitioner}
use Rattle.sasi_types.specs.declared.partitioner.Partitioner.TheVariants.{Lead8, Murmur3}
use Rattle.sasi_host.specs.Names.{Bytes}
use Rattle.sasi_host.specs.declared.damage.FormatRule.TheVariants as rule
use Rattle.sasi_model.specs.State.{Column}
use Rattle.sasi_model.specs.Refusals.{names_in}
use Rattle.sasi_formats.specs.Formats.{Format, Fits, Then, fit_items}
use Rattle.sasi_formats.specs.Fields.{◌&◌, number, in_range}
use Rattle.sasi_formats.proofs.Fitting.{number_fits, fits_number, checked_fits, fits_checked, range_fits, fits_range}
use Rattle.sasi_manifest.specs.declared.edit.Edit.{Edit}
use Rattle.sasi_manifest.specs.declared.edit.Edit.TheVariants.{Start, CreateTable, CreateIndex, Replace}
use Rattle.sasi_manifest.specs.declared.files.ListedFile.{ListedFile}
use Rattle.sasi_manifest.specs.declared.listing.Listing.{Listing}
use Rattle.sasi_manifest.specs.Edits.{is_later_tag, partitioner, shape, edit, replace, Applies, are_within, files_of, is_current, is_last, is_new, last_segment, later_tag, live_segments, new_file_format, new_files, numbers_at, removed_number, removed_numbers}
use Rattle.sasi_manifest.specs.ListedDefinition.{ListedDefinition}
use Rattle.sasi_manifest.specs.Abbreviations.{column, listed_names}
use Rattle.sasi_manifest.specs.Listings.{CanStart, FitsWidths}
use Rattle.sasi_manifest.specs.Naming.{IsName, IsFree, AreNames, AreApart}
use Rattle.sasi_manifest.proofs.Defining.{applies_index, no_index}
use Rattle.sasi_manifest.specs.ListedFiles.{FitParts}
use Rattle.sasi_manifest.proofs.PartLaws.{fits_parts, parts_fit}
use Rattle.sasi_manifest.proofs.NameFits.{fits_name, open_name_fits, type_fits}

partitioner_fits : (p : Partitioner) → Fits partitioner p
partitioner_fits Lead8 = (number_fits w8 0 (omega arith), refl)
partitioner_fits Murmur3 = (number_fits w8 1 (omega arith), refl)

names_with : (before : List Column) (c : Column) → names_in before ++ c.0 ∷ [] ≡ names_in (before ++ c ∷ [])
names_with before c = sym (map-append (λ (c : Column). c.0) before (c ∷ []))

columns_fit : (before columns : List Column) → AreNames (names_in columns) → AreApart (names_in before) (names_in columns) → fit_items (λ before. Fits (column before)) before columns
columns_fit before [] names apart = tt
columns_fit before (c ∷ columns) names apart =
    ((open_name_fits (names_in before) c.0 names.0 apart.0, type_fits c.1), columns_fit (before ++ c ∷ []) columns names.1 (subst (λ (l : List Bytes). AreApart l (names_in columns)) (names_with before c) apart.1))

record FitColumns (before columns : List Column) : Type 0 where
  pub names : AreNames (names_in columns)
  pub apart : AreApart (names_in before) (names_in columns)

fit_columns : (before columns : List Column) → fit_items (λ before. Fits (column before)) before columns → FitColumns before columns
fit_columns before [] h = record { names = tt; apart = tt }
fit_columns before (c ∷ columns) h =
    let first = fits_name (names_in before) c.0 h.0.0 in
    let rest = fit_columns (before ++ c ∷ []) columns h.1 in
    record { names = (first.is, rest.names); apart = (first.free, subst (λ (l : List Bytes). AreApart l (names_in columns)) (sym (names_with before c)) rest.apart) }

-- ---- the start

-- a manifest begins with a start that has live segments
pub start_applies : (p : Partitioner) (floor last : ℕ) → CanStart floor last → Applies None (Start p floor last)
unfolding edit
start_applies p floor last can =
    let both = in_range w32 1 (2 ^ 32 - 1) & in_range w32 1 (2 ^ 32 - 1) in
    let first = range_fits w32 1 (2 ^ 32 - 1) floor (omega (arith, can.ordered, can.last_fits)) can.floor_some (omega (arith, can.ordered, can.last_fits)) in
    let second = range_fits w32 1 (2 ^ 32 - 1) last can.last_fits (omega (arith, can.ordered, can.floor_some)) (omega (arith, can.last_fits)) in
    let ordered : nat_le floor last ≡ true = search (rules, can.ordered) in
    ((range_fits w8 1 1 1 (omega arith) (omega arith) (omega arith), ((partitioner_fits p, checked_fits rule.Number 4 (λ s. nat_le s.0 s.1) both (floor, last) (first, second) ordered), refl)), refl)

pub applies_start : (p : Partitioner) (floor last : ℕ) → Applies None (Start p floor last) → CanStart floor last
unfolding edit
applies_start p floor last h =
    let both = in_range w32 1 (2 ^ 32 - 1) & in_range w32 1 (2 ^ 32 - 1) in
    let checked_is = fits_checked rule.Number 4 (λ s. nat_le s.0 s.1) both (floor, last) h.0.1.0.1 in
    let first = fits_range w32 1 (2 ^ 32 - 1) floor checked_is.0.0 in
    let second = fits_range w32 1 (2 ^ 32 - 1) last checked_is.0.1 in
    record { floor_some = first.above; ordered = search (rules, checked_is.1); last_fits = second.fits }

-- a tag after the start
later_fits : (n : ℕ) → n < 2 ^ 8 → is_later_tag n ≡ true → Fits later_tag n
later_fits n small is = checked_fits rule.Number 1 is_later_tag (number w8) n (number_fits w8 n small) is

pub no_start : (listing : Listing) (p : Partitioner) (floor last : ℕ) → Applies (Some listing) (Start p floor last) → ⊥
unfolding edit
no_start listing p floor last h = let tag = fits_checked rule.Number 1 is_later_tag (number w8) 1 h.0.0 in let no : false ≡ true = tag.1 in cc

pub no_create : (number : ℕ) (name : Bytes) (columns : List Column) (key since : ℕ) → Applies None (CreateTable number name columns key since) → ⊥
unfolding edit
no_create number title columns position since h = let range = fits_range w8 1 1 2 h.0.0 in omega (arith, range.below)

pub no_replace : (table : ℕ) (removed : List ℕ) (added : List ListedFile) (since floor last : ℕ) → Applies None (Replace table removed added since floor last) → ⊥
unfolding edit
no_replace table removed added since floor last h = let range = fits_range w8 1 1 5 h.0.0 in omega (arith, range.below)

-- the first edit of a manifest is a start
pub first_is_start : (e : Edit) → Applies None e → ((p : Partitioner) (floor last : ℕ) → e ≡ Start p floor last → ⊥) → ⊥
first_is_start (Start p floor last) h not = not p floor last refl
first_is_start (CreateTable number title columns position since) h not = no_create number title columns position since h
first_is_start (CreateIndex def fold) h not = no_index def fold h
first_is_start (Replace table removed added since floor last) h not = no_replace table removed added since floor last h

-- ---- a new table

-- what a new table needs
pub record CanCreate (listing : Listing) (number : ℕ) (name : Bytes) (columns : List Column) (key since : ℕ) : Type 0 where
  pub next : number ≡ suc (length listing.tables)
  pub few : number ≤ 256
  pub name_fits : IsName name
  pub free : IsFree (listed_names listing.tables) name
  pub some_columns : 1 ≤ length columns
  pub few_columns : length columns ≤ 64
  pub column_names : AreNames (names_in columns)
  pub apart : AreApart [] (names_in columns)
  pub key_within : key < length columns
  pub since_some : 1 ≤ since
  pub since_within : since ≤ listing.last
  pub since_fits : since < 2 ^ 32

pub create_applies : (listing : Listing) (number : ℕ) (name : Bytes) (columns : List Column) (key since : ℕ) → CanCreate listing number name columns key since → Applies (Some listing) (CreateTable number name columns key since)
unfolding edit
create_applies listing table title columns position since can =
    let count = length listing.tables + 1 in
    let numbered = range_fits w32 count (min count 256) table (omega (arith, can.few)) (omega (arith, can.next)) (omega (arith, can.next, can.few)) in
    let keyed : nat_lt position (length columns) ≡ true = search (rules, can.key_within) in
    let key_is = checked_fits rule.Number 2 (λ key. nat_lt key (length columns)) (number w16) position (number_fits w16 position (omega (arith, can.key_within, can.few_columns))) keyed in
    let many = range_fits w16 1 64 (length columns) (omega (arith, can.few_columns)) can.some_columns can.few_columns in
    let shaped : Fits (shape listing.last) (columns, (position, since)) = ((many, columns_fit [] columns can.column_names can.apart), (key_is, range_fits w32 1 listing.last since can.since_fits can.since_some can.since_within)) in
    ((later_fits 2 (omega arith) refl, ((numbered, (open_name_fits (listed_names listing.tables) title can.name_fits can.free, shaped)), refl)), refl)

pub applies_create : (listing : Listing) (number : ℕ) (name : Bytes) (columns : List Column) (key since : ℕ) → Applies (Some listing) (CreateTable number name columns key since) → CanCreate listing number name columns key since
unfolding edit
applies_create listing table title columns position since h =
    let fields = h.0.1.0 in
    let count = length listing.tables + 1 in
    let numbered = fits_range w32 count (min count 256) table fields.0 in
    let named = fits_name (listed_names listing.tables) title fields.1.0 in
    let many = fits_range w16 1 64 (length columns) fields.1.1.0.0 in
    let are = fit_columns [] columns fields.1.1.0.1 in
    let keyed = fits_checked rule.Number 2 (λ key. nat_lt key (length columns)) (number w16) position fields.1.1.1.0 in
    let first = fits_range w32 1 listing.last since fields.1.1.1.1 in
    record {
      next = omega (arith, numbered.above, numbered.below);
      few = omega (arith, numbered.below);
      name_fits = named.is;
      free = named.free;
      some_columns = many.above;
      few_columns = many.below;
      column_names = are.names;
      apart = are.apart;
      key_within = search (rules, keyed.1);
      since_some = first.above;
      since_within = first.below;
      since_fits = first.fits;
    }

-- ---- files in the place of others

-- files of a table whose numbers are new, one after another
pub record IsNewFile (tables : List ListedDefinition) (table : ℕ) (removed : List ℕ) (before : List ListedFile) (f : ListedFile) : Type 0 where
  pub some : 1 ≤ f.number
  pub number_fits : f.number < 2 ^ 32
  pub free : is_new tables removed before f.number ≡ true
  pub parts : FitParts (numbers_at tables table) f.parts

abbrev pub AreNewFiles : List ListedDefinition → ℕ → List ℕ → List ListedFile → List ListedFile → Type 0
AreNewFiles tables table removed before [] = Unit {0}
AreNewFiles tables table removed before (f ∷ fs) = IsNewFile tables table removed before f × AreNewFiles tables table removed (before ++ f ∷ []) fs

file_fits : (tables : List ListedDefinition) (table : ℕ) (removed : List ℕ) (before : List ListedFile) (f : ListedFile) → IsNewFile tables table removed before f → Fits (new_file_format tables table removed before) f
file_fits tables table removed before f is =
    let segment = range_fits w32 1 (2 ^ 32 - 1) f.number is.number_fits is.some (omega (arith, is.number_fits)) in
    ((checked_fits rule.Number 4 (is_new tables removed before) (in_range w32 1 (2 ^ 32 - 1)) f.number segment is.free, parts_fit (numbers_at tables table) f.parts is.parts), refl)

fits_file : (tables : List ListedDefinition) (table : ℕ) (removed : List ℕ) (before : List ListedFile) (f : ListedFile) → Fits (new_file_format tables table removed before) f → IsNewFile tables table removed before f
fits_file tables table removed before f h =
    let named = fits_checked rule.Number 4 (is_new tables removed before) (in_range w32 1 (2 ^ 32 - 1)) f.number h.0.0 in
    let range = fits_range w32 1 (2 ^ 32 - 1) f.number named.0 in
    record { some = range.above; number_fits = range.fits; free = named.1; parts = fits_parts (numbers_at tables table) f.parts h.0.1 }

files_fit : (tables : List ListedDefinition) (table : ℕ) (removed : List ℕ) (before fs : List ListedFile) → AreNewFiles tables table removed before fs → fit_items (λ before. Fits (new_file_format tables table removed before)) before fs
files_fit tables table removed before [] all = tt
files_fit tables table removed before (f ∷ fs) all = (file_fits tables table removed before f all.0, files_fit tables table removed (before ++ f ∷ []) fs all.1)

fit_files : (tables : List ListedDefinition) (table : ℕ) (removed : List ℕ) (before fs : List ListedFile) → fit_items (λ before. Fits (new_file_format tables table removed before)) before fs → AreNewFiles tables table removed before fs
fit_files tables table removed before [] h = tt
fit_files tables table removed before (f ∷ fs) h = (fits_file tables table removed before f h.0, fit_files tables table removed (before ++ f ∷ []) fs h.1)

-- numbers of files of the table, each once
abbrev pub AreCurrent : List ListedFile → List ℕ → List ℕ → Type 0
AreCurrent files before [] = Unit {0}
AreCurrent files before (n ∷ ns) = (n < 2 ^ 32) × (is_current files before n ≡ true) × AreCurrent files (before ++ n ∷ []) ns

numbers_fit : (files : List ListedFile) (before ns : List ℕ) → AreCurrent files before ns → fit_items (λ before. Fits (removed_number files before)) before ns
numbers_fit files before [] all = tt
numbers_fit files before (n ∷ ns) all = (checked_fits rule.Number 4 (is_current files before) (number w32) n (number_fits w32 n all.0) all.1, numbers_fit files (before ++ n ∷ []) ns all.2)

fit_numbers : (files : List ListedFile) (before ns : List ℕ) → fit_items (λ before. Fits (removed_number files before)) before ns → AreCurrent files before ns
fit_numbers files before [] h = tt
fit_numbers files before (n ∷ ns) h =
    let is = fits_checked rule.Number 4 (is_current files before) (number w32) n h.0 in
    (fits_number w32 n is.0, is.1, fit_numbers files (before ++ n ∷ []) ns h.1)

-- what files in the place of others need
pub record CanReplace (listing : Listing) (table : ℕ) (removed : List ℕ) (added : List ListedFile) (since floor last : ℕ) : Type 0 where
  pub some : 1 ≤ table
  pub within : table ≤ length listing.tables
  pub table_fits : table < 2 ^ 32
  pub few_removed : length removed < 2 ^ 32
  pub current : AreCurrent (files_of listing.tables table) [] removed
  pub few_added : length added < 2 ^ 32
  pub new : AreNewFiles listing.tables table removed [] added
  pub since_some : 1 ≤ since
  pub since_within : since ≤ last
  pub floor_some : 1 ≤ floor
  pub floor_within : floor ≤ last
  pub last_fits : last < 2 ^ 32
  pub others : are_within last table 1 listing.tables ≡ true

or_last : (a b c : Bool) → c ≡ true → (a || (b || c)) ≡ true
or_last true b c is = refl
or_last false true c is = refl
or_last false false c is = is

or_second : (a b : Bool) → b ≡ true → (a || b) ≡ true
or_second true b is = refl
or_second false b is = is

not_first : (a b : Bool) → (a || b) ≡ true → a ≡ false → b ≡ true
not_first true b is off = cc
not_first false b is off = is

pub replace_applies : (listing : Listing) (table : ℕ) (removed : List ℕ) (added : List ListedFile) (since floor last : ℕ) → CanReplace listing table removed added since floor last → Applies (Some listing) (Replace table removed added since floor last)
unfolding edit replace
replace_applies listing table removed added since floor last can =
    let tables = listing.tables in
    let segment : (n : ℕ) → 1 ≤ n → n < 2 ^ 32 → Fits (in_range w32 1 (2 ^ 32 - 1)) n = λ n some fits. range_fits w32 1 (2 ^ 32 - 1) n fits some (omega (arith, fits)) in
    let live : Format (ℕ × ℕ) = Then (in_range w32 1 (2 ^ 32 - 1)) (last_segment tables table since) in
    let all : Format (ℕ × (ℕ × ℕ)) = Then (in_range w32 1 (2 ^ 32 - 1)) (live_segments tables table) in
    let last_is = checked_fits rule.Number 4 (is_last tables table since floor) (in_range w32 1 (2 ^ 32 - 1)) last (segment last (omega (arith, can.since_some, can.since_within)) can.last_fits)
    (or_last (nat_lt last since) (nat_lt last floor) (are_within last table 1 tables) can.others) in
    let floor_within : nat_le floor last ≡ true = search (rules, can.floor_within) in
    let live_is = checked_fits rule.Number 4 (λ s. nat_lt s.1 since || nat_le s.0 s.1) live (floor, last)
    (segment floor can.floor_some (omega (arith, can.floor_within, can.last_fits)), last_is) (or_second (nat_lt last since) (nat_le floor last) floor_within) in
    let since_within : nat_le since last ≡ true = search (rules, can.since_within) in
    let segments_are = checked_fits rule.Number 4 (λ s. nat_le s.0 s.1.1) all (since, (floor, last))
    (segment since can.since_some (omega (arith, can.since_within, can.last_fits)), live_is) since_within in
    let numbers : Fits (removed_numbers (files_of tables table)) removed = (number_fits w32 (length removed) can.few_removed, numbers_fit (files_of tables table) [] removed can.current) in
    let files_are : Fits (new_files tables table removed) added = (number_fits w32 (length added) can.few_added, files_fit tables table removed [] added can.new) in
    ((later_fits 5 (omega arith) refl, ((range_fits w32 1 (length tables) table can.table_fits can.some can.within, ((numbers, files_are), segments_are)), refl)), refl)

pub applies_replace : (listing : Listing) (table : ℕ) (removed : List ℕ) (added : List ListedFile) (since floor last : ℕ) → Applies (Some listing) (Replace table removed added since floor last) → CanReplace listing table removed added since floor last
unfolding edit replace
applies_replace listing table removed added since floor last h =
    let tables = listing.tables in
    let fields = h.0.1.0 in
    let live : Format (ℕ × ℕ) = Then (in_range w32 1 (2 ^ 32 - 1)) (last_segment tables table since) in
    let all : Format (ℕ × (ℕ × ℕ)) = Then (in_range w32 1 (2 ^ 32 - 1)) (live_segments tables table) in
    let numbered = fits_range w32 1 (length tables) table fields.0 in
    let segments_are = fits_checked rule.Number 4 (λ s. nat_le s.0 s.1.1) all (since, (floor, last)) fields.1.1 in
    let since_is = fits_range w32 1 (2 ^ 32 - 1) since segments_are.0.0 in
    let since_within : since ≤ last = search (rules, segments_are.1) in
    let not_before : nat_lt last since ≡ false = grind (arith, nat_tests, since_within) in
    let live_is = fits_checked rule.Number 4 (λ s. nat_lt s.1 since || nat_le s.0 s.1) live (floor, last) segments_are.0.1 in
    let floor_is = fits_range w32 1 (2 ^ 32 - 1) floor live_is.0.0 in
    let floor_test : nat_le floor last ≡ true = not_first (nat_lt last since) (nat_le floor last) live_is.1 not_before in
    let floor_within : floor ≤ last = search (rules, floor_test) in
    let not_below : nat_lt last floor ≡ false = grind (arith, nat_tests, floor_within) in
    let last_is = fits_checked rule.Number 4 (is_last tables table since floor) (in_range w32 1 (2 ^ 32 - 1)) last live_is.0.1 in
    let range = fits_range w32 1 (2 ^ 32 - 1) last last_is.0 in
    record {
      some = numbered.above;
      within = numbered.below;
      table_fits = numbered.fits;
      few_removed = fits_number w32 (length removed) fields.1.0.0.0;
      current = fit_numbers (files_of tables table) [] removed fields.1.0.0.1;
      few_added = fits_number w32 (length added) fields.1.0.1.0;
      new = fit_files tables table removed [] added fields.1.0.1.1;
      since_some = since_is.above;
      since_within = since_within;
      floor_some = floor_is.above;
      floor_within = floor_within;
      last_fits = range.fits;
      others = not_first (nat_lt last floor) (are_within last table 1 tables) (not_first (nat_lt last since) (nat_lt last floor || are_within last table 1 tables) last_is.1 not_before) not_below;
    }

few_parts : (tables : List ListedDefinition) (table : ℕ) (removed : List ℕ) (before fs : List ListedFile) → AreNewFiles tables table removed before fs → AllByRecursion (λ f. length f.parts < 2 ^ 16) fs
few_parts tables table removed before [] all = tt
few_parts tables table removed before (f ∷ fs) all = (all.0.parts.few, few_parts tables table removed (before ++ f ∷ []) fs all.1)

-- an edit that applies can be written
pub writable : (from : Option Listing) (e : Edit) → Applies from e → FitsWidths e
writable from (Start p floor last) h = tt
writable None (CreateTable number title columns position since) h = absurd (no_create number title columns position since h)
writable (Some listing) (CreateTable number title columns position since) h =
    let can = applies_create listing number title columns position since h in
    (can.name_fits.short, can.few_columns, can.column_names)
writable None (CreateIndex def fold) h = absurd (no_index def fold h)
writable (Some listing) (CreateIndex def fold) h = (let can = applies_index listing def fold h in can.name_is.short)
writable None (Replace table removed added since floor last) h = absurd (no_replace table removed added since floor last h)
writable (Some listing) (Replace table removed added since floor last) h =
    let can = applies_replace listing table removed added since floor last h in
    (can.few_removed, can.few_added, few_parts listing.tables table removed [] added can.new)
