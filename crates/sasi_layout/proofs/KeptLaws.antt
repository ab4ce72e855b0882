-- The files of a store by their names: the next ones are free, and the listed ones are there.
use Rattle.std.specs.Prelude.{◌≡◌, ◌⊎◌, ◌&&◌, ◌||◌, ◌<◌, ◌≤◌, ℕ, Bool, true, false, nat_eq, nat_le, List, [], ◌∷◌, Option, None, Some, is_some, IsSome, refl}
use Rattle.std.proofs.Common.{sym, ap, subst, ◌∙◌, inl, inr, arith}
use Rattle.std.proofs.lemmas.Bool.Decides.{nat_tests}
use Rattle.std.specs.FinMap.{get}
use Rattle.std.specs.List.{AllByRecursion, list_any}
use Rattle.sasi_host.specs.declared.name.FileName.{FileName}
use Rattle.sasi_host.proofs.ContentLaws.{told_files}
use Rattle.sasi_host.specs.Names.{Bytes, Folder, data_name, log_name, manifest_name, rank, seal_name}
use Rattle.sasi_host.specs.View.{IsAbsent, IsThere, View, contents, contents_in}
use Rattle.sasi_manifest.specs.declared.files.ListedFile.{ListedFile}
use Rattle.sasi_manifest.specs.FileNames.{has_name}
use Rattle.sasi_manifest.specs.ListedDefinition.{ListedDefinition}
use Rattle.sasi_manifest.specs.ListedFiles.{has_file}
use Rattle.sasi_layout.specs.Kept.{AreAside, HasKeptBeside, Kept, is_kept, nothing}
pub use Rattle.sasi_layout.proofs.FileNameLaws.{name_itself, name_same}
use Rattle.sasi_layout.proofs.FileNameLaws.{data_named, other_kind}
use Rattle.sasi_layout.specs.NumbersInOrder.{HasFilesInOrder, Rising}
use Rattle.sasi_layout.proofs.ListingLaws.{rising_bound}

never : true ≡ false → ⊥
never e = cc

same_test : (m n : ℕ) → m ≡ n → nat_eq m n ≡ true
same_test m n same = grind (arith, nat_tests, same)

-- ---- which names are kept

pub keeps_manifest : (k : Kept) → is_kept k (manifest_name k.manifest) ≡ true
keeps_manifest k = grind (arith, nat_tests)

pub keeps_seal : (k : Kept) → is_kept k (seal_name k.manifest) ≡ true
keeps_seal k = grind (arith, nat_tests)

pub keeps_segment : (k : Kept) (segment : ℕ) → k.listing.floor ≤ segment → segment ≤ k.listing.last → is_kept k (log_name segment) ≡ true
keeps_segment k segment above below = grind (arith, nat_tests, above, below)

-- a file of a kind that tables have is kept where it is listed
pub keeps_listed : (k : Kept) (name : FileName) → 3 ≤ rank name.kind → is_kept k name ≡ has_name k.listing.tables name
keeps_listed k name kind = by (has_name k.listing.tables name) refl
  where
    by : (b : Bool) → has_name k.listing.tables name ≡ b → is_kept k name ≡ b
    by true is = grind (arith, nat_tests, is, kind)
    by false is = grind (arith, nat_tests, is, kind)

-- and so a data file, by its number
pub keeps_data : (k : Kept) (number : ℕ) → is_kept k (data_name number) ≡ list_any (λ t. has_file t.files number) k.listing.tables
keeps_data k number = keeps_listed k (data_name number) (omega arith) ∙ data_named number k.listing.tables

-- a segment is kept where it is live
segment_kept : (k : Kept) (segment : ℕ) → is_kept k (log_name segment) ≡ (nat_le k.listing.floor segment && nat_le segment k.listing.last)
segment_kept k segment =
    let unlisted = other_kind (log_name segment) k.listing.tables (omega arith) in
    by (nat_eq segment segment) (nat_le k.listing.floor segment && nat_le segment k.listing.last) (has_name k.listing.tables (log_name segment)) (grind (arith, nat_tests)) unlisted
  where
    by : (a b c : Bool) → a ≡ true → c ≡ false → ((((a && true) && true) && b) || c) ≡ b
    by true true c own unlisted = refl
    by true false c own unlisted = unlisted
    by false b c own unlisted = cc

-- a segment that isn't live isn't kept
pub dead_segment : (k : Kept) (segment : ℕ) → (segment < k.listing.floor) ⊎ (k.listing.last < segment) → is_kept k (log_name segment) ≡ false
dead_segment k segment dead = segment_kept k segment ∙ by dead
  where
    by : (segment < k.listing.floor) ⊎ (k.listing.last < segment) → (nat_le k.listing.floor segment && nat_le segment k.listing.last) ≡ false
    by (inl below) = grind (arith, nat_tests, below)
    by (inr above) = grind (arith, nat_tests, above)

-- ---- numbers

none_above : (low high number : ℕ) (fs : List ListedFile) → Rising low high fs → high < number → has_file fs number ≡ false
none_above low high number [] rise above = refl
none_above low high number (f ∷ fs) rise above =
    let bound = rising_bound f.number high fs rise.1 in
    let other : nat_eq number f.number ≡ false = grind (arith, nat_tests, bound, above) in
    ap (λ b. b || has_file fs number) other ∙ none_above f.number high number fs rise.1 above

-- no data file has a number above the last used one
pub number_above : (high last number : ℕ) (ts : List ListedDefinition) → AllByRecursion (HasFilesInOrder high last) ts → high < number → list_any (λ t. has_file t.files number) ts ≡ false
number_above high last number [] in_order above = refl
number_above high last number (t ∷ ts) in_order above =
    ap (λ b. b || list_any (λ t. has_file t.files number) ts) (none_above 0 high number t.files in_order.0.rise above) ∙ number_above high last number ts in_order.1 above

-- ---- the folder as it reads

or_true : (a : Bool) → (a || true) ≡ true
or_true true = refl
or_true false = refl

-- a folder has what is kept,
pub kept_in : (aside : FileName → Bool) (k : Kept) (folder : Folder) (name : FileName) → HasKeptBeside aside k folder → is_kept k name ≡ true → is_some (get folder name) ≡ true
kept_in aside k folder name has kept = has name ∙ ap (λ b. aside name || b) kept ∙ or_true (aside name)

-- and nothing that is neither kept nor aside
pub free_in : (aside : FileName → Bool) (k : Kept) (folder : Folder) (name : FileName) → HasKeptBeside aside k folder → aside name ≡ false → is_kept k name ≡ false → is_some (get folder name) ≡ false
free_in aside k folder name has apart unkept = has name ∙ (λ i. apart i || unkept i)

-- so such a name is free
pub free_name : (v : View) (aside : FileName → Bool) (k : Kept) (name : FileName) → ((folder : Folder) → v.files ≡ Some folder → HasKeptBeside aside k folder) → aside name ≡ false → is_kept k name ≡ false → IsAbsent v name
free_name v aside k name has apart unkept = by v.files refl
  where
    none : (o : Option Bytes) → is_some o ≡ false → o ≡ None
    none None e = refl
    none (Some bytes) e = absurd (never e)

    by : (o : Option Folder) → v.files ≡ o → contents v name ≡ None
    by None is = ap (λ (o : Option Folder). contents_in o name) is
    by (Some folder) is = ap (λ (o : Option Folder). contents_in o name) is ∙ none (get folder name) (free_in aside k folder name (has folder is) apart unkept)

-- a name that is kept is there
pub kept_there : (v : View) (aside : FileName → Bool) (k : Kept) (name : FileName) → ((folder : Folder) → v.files ≡ Some folder → HasKeptBeside aside k folder) → is_kept k name ≡ true → IsThere v name
kept_there v aside k name has kept told =
    let files = told_files v told in
    subst (λ (o : Option Folder). IsSome (contents_in o name)) (sym files.1) (kept_in aside k files.0 name (has files.0 files.1) kept)

-- ---- names aside

-- a name of another kind than tables have isn't aside
pub aside_kind : (used : ℕ) (aside : FileName → Bool) (name : FileName) → AreAside used aside → rank name.kind < 3 → aside name ≡ false
aside_kind used aside name are low = by (aside name) refl
  where
    by : (b : Bool) → aside name ≡ b → aside name ≡ false
    by false is = is
    by true is = absurd (omega (arith, are.kind name is, low))

-- nor is one of a number that isn't used
pub aside_number : (used : ℕ) (aside : FileName → Bool) (name : FileName) → AreAside used aside → used < name.number → aside name ≡ false
aside_number used aside name are above = by (aside name) refl
  where
    by : (b : Bool) → aside name ≡ b → aside name ≡ false
    by false is = is
    by true is = absurd (omega (arith, are.number name is, above))

-- where more numbers are used they are aside still
pub aside_higher : (used more : ℕ) (aside : FileName → Bool) → used ≤ more → AreAside used aside → AreAside more aside
aside_higher used more aside le are = record { kind = are.kind; number = λ name is. omega (arith, le, are.number name is) }

-- none are
pub none_aside : (used : ℕ) → AreAside used nothing
none_aside used = record { kind = λ name is. cc; number = λ name is. cc }
