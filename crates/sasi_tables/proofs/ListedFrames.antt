-- The files of used numbers stay while a store changes others, and those that it lists stay listed.
use Rattle.std.proofs.Common.{◌≡◌, ◌≢◌, ◌||◌, ◌<◌, ◌≤◌, ◌++◌, ◌+◌, ℕ, zero, suc, Bool, true, false, cond, nat_eq, nat_le, List, [], ◌∷◌, length, Some, refl, sym, ap, subst, ◌∙◌, arith, append_assoc}
use Rattle.std.specs.Prelude.{Contains, slice_get, ⊤}
use Rattle.std.proofs.Math.Nat.{lt_of_not-le}
use Rattle.std.proofs.lemmas.Bool.Decides.{nat_tests}
use Rattle.std.proofs.lemmas.List.{append-nil}
use Rattle.std.specs.List.{AllByRecursion, flat_map, list_any, zip}
use Rattle.std.specs.FinMap.{get}
use Rattle.sasi_folder.proofs.FolderLaws.{kinds_apart}
use Rattle.sasi_folder.specs.Damages.{IsListedName}
use Rattle.sasi_host.proofs.ChangeLaws.{changes_as, changes_on}
use Rattle.sasi_host.specs.declared.name.FileName.{FileName}
use Rattle.sasi_host.specs.Disk.{AnyChange, Changes, FileChange, Same}
use Rattle.sasi_host.specs.Names.{Folder, log_name, manifest_name, name_eq, rank}
use Rattle.sasi_host.specs.View.{View}
use Rattle.sasi_layout.proofs.FileNameLaws.{have_name, names_flushed, number_unnamed, other_kind, unlisted_above}
use Rattle.sasi_layout.proofs.ListingLaws.{rising_bound}
use Rattle.sasi_layout.specs.Layout.{Used}
use Rattle.sasi_layout.specs.NumbersInOrder.{HasFilesInOrder, Rising}
use Rattle.sasi_layout.specs.Serving.{AreNumbered}
use Rattle.sasi_manifest.proofs.IndexLaws.{parts_push, parts_same}
use Rattle.sasi_manifest.specs.FileNames.{has_name}
use Rattle.sasi_manifest.specs.declared.files.ListedFile.{ListedFile}
use Rattle.sasi_manifest.specs.declared.files.PartNumber.{PartNumber}
use Rattle.sasi_manifest.specs.declared.listing.Listing.{Listing}
use Rattle.sasi_manifest.specs.ListedDefinition.{ListedDefinition}
use Rattle.sasi_manifest.specs.ListedFiles.{is_name_of, names_of, with_file}
use Rattle.sasi_manifest.specs.Listings.{at_number, listed_with_index, replaced}
use Rattle.sasi_manifest.specs.OpenManifest.{ManifestState}
use Rattle.sasi_model.specs.Indexes.{index_of}
use Rattle.sasi_model.specs.State.{Index}
use Rattle.sasi_types.specs.declared.index_def.IndexDef.{IndexDef}
use Rattle.sasi_tables.specs.Flushing.{ChangesInFlush, file_of}
use Rattle.sasi_tables.specs.Frames.{HasGrown, KeepsListed, KeepsTables, KeepsUsed}
use Rattle.sasi_tables.specs.declared.flush.FlushNumbers.{FlushNumbers}
use Rattle.sasi_tables.proofs.FlushFrames.{unmade}
use Rattle.sasi_tables.proofs.FlushingTables.{none_without}

never : true ≡ false → ⊥
never e = cc

or_true : (a : Bool) {b : Bool} → b ≡ true → (a || b) ≡ true
or_true true is = refl
or_true false is = is

none_in : {A : Type 0} {x : A} → Contains [] x → ⊥
none_in has = omega (arith, has.1)

-- ---- the files of tables

-- more files behind those that came first
pub rising_join : (a b c : ℕ) (fs gs : List ListedFile) → Rising a b fs → Rising b c gs → Rising a c (fs ++ gs)
rising_join a b c [] [] first second = omega (arith, first, second)
rising_join a b c [] (g ∷ gs) first second = (omega (arith, first, second.0), second.1)
rising_join a b c (f ∷ fs) gs first second = (first.0, rising_join f.number b c fs gs first.1 second)

-- an index more
indexes_longer : (n : ℕ) (index : Index) (ns : List ℕ) (indexes : List Index) (one : ℕ × Index) → Contains (zip ns indexes) one → Contains (zip (ns ++ n ∷ []) (indexes ++ index ∷ [])) one
indexes_longer n index [] indexes one has = absurd (none_in has)
indexes_longer n index (m ∷ ns) [] one has = absurd (none_in has)
indexes_longer n index (m ∷ ns) (i ∷ indexes) one (zero, lt, same) = (zero, omega arith, same)
indexes_longer n index (m ∷ ns) (i ∷ indexes) one (suc k, lt, same) =
    let rest = indexes_longer n index ns indexes one (k, omega (arith, lt), same) in
    (suc rest.0, omega (arith, rest.1), rest.2)

-- no more files
grown_same : (was now : ℕ) (t : ListedDefinition) → was ≤ now → HasGrown was now t t
grown_same was now t le = record { types_are = refl; indexes = λ one has. has; more = []; files_are = sym (append-nil t.files); rise = le }

grown_defined : (used : ℕ) (def : IndexDef) (t : ListedDefinition) → HasGrown used used t (listed_with_index def t)
grown_defined used def t = record {
  types_are = refl;
  indexes = indexes_longer def.number (index_of def) t.numbers t.definition.indexes;
  more = [];
  files_are = sym (append-nil t.files);
  rise = omega arith;
}

grown_on : (a b c : ℕ) (t u v : ListedDefinition) → HasGrown a b t u → HasGrown b c u v → HasGrown a c t v
grown_on a b c t u v first second = record {
  types_are = second.types_are ∙ first.types_are;
  indexes = λ one has. second.indexes one (first.indexes one has);
  more = first.more ++ second.more;
  files_are = second.files_are ∙ ap (λ (fs : List ListedFile). fs ++ second.more) first.files_are ∙ append_assoc t.files first.more second.more;
  rise = rising_join a b c first.more second.more first.rise second.rise;
}

-- a file above all others is put behind them
put_behind : (f : ListedFile) (low high : ℕ) (fs : List ListedFile) → Rising low high fs → high < f.number → with_file f fs ≡ fs ++ f ∷ []
put_behind f low high [] rise above = refl
put_behind f low high (g ∷ gs) rise above =
    let bound = rising_bound g.number high gs rise.1 in
    let less : g.number < f.number = omega (arith, bound, above) in
    let other : nat_le f.number g.number ≡ false = grind (arith, nat_tests, less) in
    ap (λ b. cond b (f ∷ g ∷ gs) (g ∷ with_file f gs)) other ∙ ap (λ (l : List ListedFile). g ∷ l) (put_behind f g.number high gs rise.1 above)

-- a table with the file of a flush
grown_flushed : (used last since : ℕ) (f : ListedFile) (t : ListedDefinition) → f.number ≡ suc used → HasFilesInOrder used last t → HasGrown used (suc used) t (replaced [] (f ∷ []) since t)
grown_flushed used last since f t number is = record {
  types_are = refl;
  indexes = λ one has. has;
  more = f ∷ [];
  files_are = ap (with_file f) (none_without t.files) ∙ put_behind f 0 used t.files is.rise (omega (arith, number));
  rise = (omega (arith, number), omega (arith, number));
}

-- the table at a position, with perhaps more files
abbrev HasRow : ℕ → ℕ → List ListedDefinition → ℕ → ListedDefinition → Type 0
HasRow was now ts at t = (u : ListedDefinition) × (slice_get ts at ≡ Some u) × HasGrown was now t u

-- where there is a table more
pushed_row : (was now : ℕ) → was ≤ now → (ts : List ListedDefinition) (s : ListedDefinition) (at : ℕ) (t : ListedDefinition) → slice_get ts at ≡ Some t → HasRow was now (ts ++ s ∷ []) at t
pushed_row was now le [] s at t there = cc
pushed_row was now le (x ∷ ts) s zero t there = (t, there, grown_same was now t le)
pushed_row was now le (x ∷ ts) s (suc at) t there = pushed_row was now le ts s at t there

-- and where one is changed
changed_row : (was now : ℕ) → was ≤ now → (change : ListedDefinition → ListedDefinition) (P : ListedDefinition → Type 0) → ((t : ListedDefinition) → P t → HasGrown was now t (change t)) → (n number : ℕ) (ts : List ListedDefinition) → AllByRecursion P ts
    → (at : ℕ) (t : ListedDefinition) → slice_get ts at ≡ Some t → HasRow was now (at_number n number change ts) at t
changed_row was now le change P keeps n number [] all at t there = cc
changed_row was now le change P keeps n number (x ∷ ts) all zero t there =
    let same : x ≡ t = cc in
    elim (nat_eq n number) as (λ b. (u : ListedDefinition) × (Some (cond b (change x) x) ≡ Some u) × HasGrown was now t u) [
      | true ↦ (change x, refl, subst (λ (y : ListedDefinition). HasGrown was now y (change x)) same (keeps x all.0))
      | false ↦ (x, refl, subst (λ (y : ListedDefinition). HasGrown was now y x) same (grown_same was now x le))
    ]
changed_row was now le change P keeps n number (x ∷ ts) all (suc at) t there = changed_row was now le change P keeps (suc n) number ts all.1 at t there

-- ---- what is listed after an edit

-- **Where nothing is edited, all stays.**
pub keeps_same : (was now : ℕ) (listing : Listing) → was ≤ now → KeepsTables was now listing listing
keeps_same was now listing le = record { partitioner_is = refl; rows = λ at t there. (t, there, grown_same was now t le); stay = λ name has. has; others = λ name below has. has }

-- **A new table has no file.**
pub keeps_created : (used : ℕ) (t : ListedDefinition) (old new : Listing) → t.files ≡ [] → new.partitioner ≡ old.partitioner → new.tables ≡ old.tables ++ t ∷ [] → KeepsTables used used old new
keeps_created used t old new none partitioner is =
    let names : (name : FileName) → has_name new.tables name ≡ has_name old.tables name =
    λ name. ap (λ (ts : List ListedDefinition). has_name ts name) is ∙ ap (list_any (name_eq name)) (parts_push (λ (t : ListedDefinition). flat_map names_of t.files) old.tables t (ap (flat_map names_of) none)) in
    record {
      partitioner_is = partitioner;
      rows = λ at s there. subst (λ (ts : List ListedDefinition). HasRow used used ts at s) (sym is) (pushed_row used used (omega arith) old.tables t at s there);
      stay = λ name has. names name ∙ has;
      others = λ name below has. sym (names name) ∙ has;
    }

-- **A new index leaves the files of its table**, each with the parts that it has,
pub keeps_defined : (used : ℕ) (def : IndexDef) (number : ℕ) (old new : Listing) → new.partitioner ≡ old.partitioner → new.tables ≡ at_number 1 number (listed_with_index def) old.tables → KeepsTables used used old new
keeps_defined used def number old new partitioner is =
    let names : (name : FileName) → has_name new.tables name ≡ has_name old.tables name =
    λ name. ap (λ (ts : List ListedDefinition). has_name ts name) is ∙ ap (list_any (name_eq name)) (parts_same (λ (t : ListedDefinition). flat_map names_of t.files) (listed_with_index def) (λ t. refl) 1 number old.tables) in
    record {
      partitioner_is = partitioner;
      rows = λ at s there. subst (λ (ts : List ListedDefinition). HasRow used used ts at s) (sym is) (changed_row used used (omega arith) (listed_with_index def) (λ t. ⊤) (λ t any. grown_defined used def t) 1 number old.tables (any_all old.tables) at s there);
      stay = λ name has. names name ∙ has;
      others = λ name below has. sym (names name) ∙ has;
    }
  where
    any_all : (ts : List ListedDefinition) → AllByRecursion (λ (t : ListedDefinition). ⊤) ts
    any_all [] = tt
    any_all (t ∷ ts) = (tt, any_all ts)

-- **and a flush puts its file behind those of its table.**
pub keeps_flushed : (used last : ℕ) (file : ListedFile) (since number : ℕ) (old new : Listing) → file.number ≡ suc used → AllByRecursion (HasFilesInOrder used last) old.tables → 1 ≤ number → number < 1 + length old.tables → new.partitioner ≡ old.partitioner
    → new.tables ≡ at_number 1 number (replaced [] (file ∷ []) since) old.tables → KeepsTables used (suc used) old new
keeps_flushed used last file since number old new next in_order some within partitioner is =
    let names : (name : FileName) → has_name new.tables name ≡ (is_name_of file name || has_name old.tables name) =
    λ name. ap (λ (ts : List ListedDefinition). has_name ts name) is ∙ names_flushed name file number since old.tables some within in
    record {
      partitioner_is = partitioner;
      rows = λ at s there. subst (λ (ts : List ListedDefinition). HasRow used (suc used) ts at s) (sym is) (changed_row used (suc used) (omega arith) (replaced [] (file ∷ []) since) (HasFilesInOrder used last) (λ t ordered. grown_flushed used last since file t next ordered) 1 number old.tables in_order at s there);
      stay = λ name has. names name ∙ or_true (is_name_of file name) has;
      others = λ name below has. sym (ap (λ b. b || has_name old.tables name) (number_unnamed name file (λ own. omega (arith, own, next, below)))) ∙ sym (names name) ∙ has;
    }

-- **So it is over two changes.**
pub keeps_on : (a b c : ℕ) (old mid new : Listing) → a ≤ b → KeepsTables a b old mid → KeepsTables b c mid new → KeepsTables a c old new
keeps_on a b c old mid new le first second = record {
  partitioner_is = second.partitioner_is ∙ first.partitioner_is;
  rows = λ at t there. (let u = first.rows at t there in let v = second.rows at u.0 u.1 in (v.0, v.1, grown_on a b c t u.0 v.0 u.2 v.2));
  stay = λ name has. second.stay name (first.stay name has);
  others = λ name below has. first.others name below (second.others name (omega (arith, below, le)) has);
}

-- ---- their names

pub file_named : (name : FileName) (fs : List ListedFile) (f : ListedFile) → Contains fs f → is_name_of f name ≡ true → have_name fs name ≡ true
file_named name [] f has own = absurd (none_in has)
file_named name (g ∷ gs) f (zero, lt, same) own = ap (λ (h : ListedFile). is_name_of h name || have_name gs name) same ∙ ap (λ b. b || have_name gs name) own
file_named name (g ∷ gs) f (suc k, lt, same) own = or_true (is_name_of g name) (file_named name gs f (k, omega (arith, lt), same) own)

-- a listed file is a data file or one of an index
listed_kind : (listing : Listing) (name : FileName) → IsListedName listing.tables name → 3 ≤ rank name.kind
listed_kind listing name listed =
    let above : 2 < rank name.kind = lt_of_not-le (λ low. never (sym listed ∙ other_kind name listing.tables (omega (arith, low)))) in
    omega (arith, above)

-- its number is used
listed_number : (m : ManifestState) (used : Used) → AreNumbered m used → (name : FileName) → IsListedName m.listing.tables name → name.number ≤ used.«data»
listed_number m used numbered name listed =
    let below : name.number < suc used.«data» = lt_of_not-le (λ above. never (sym listed ∙ unlisted_above used.«data» m.listing.last name m.listing.tables numbered.files (omega (arith, above)))) in
    omega (arith, below)

-- ---- changes of the folder

-- the folder stays as it is
pub same_stays : (listing : Listing) (a b : View) → Changes Same a b → Changes (KeepsListed listing) a b
same_stays listing a b same = changes_as a b Same (KeepsListed listing) same (λ x y is name listed. ap (λ (f : Folder). get f name) is)

pub same_used : (used : ℕ) (a b : View) → Changes Same a b → Changes (KeepsUsed used) a b
same_used used a b same = changes_as a b Same (KeepsUsed used) same (λ x y is name kind below. ap (λ (f : Folder). get f name) is)

-- **Where the files of used numbers stay, those stay that are listed.**
pub used_listed : (m : ManifestState) (used : Used) → AreNumbered m used → (a b : View) → Changes (KeepsUsed used.«data») a b → Changes (KeepsListed m.listing) a b
used_listed m used numbered a b stay =
    changes_as a b (KeepsUsed used.«data») (KeepsListed m.listing) stay (λ x y step name listed. step name (listed_kind m.listing name listed) (listed_number m used numbered name listed))

-- **A change of the manifest, or of a segment of the log, leaves the used files.**
pub other_stays : (used : ℕ) (file : FileName) → rank file.kind < 3 → (a b : View) → Changes (FileChange file AnyChange) a b → Changes (KeepsUsed used) a b
other_stays used file low a b change =
    changes_as a b (FileChange file AnyChange) (KeepsUsed used) change (λ x y step name kind below. step.others name (kinds_apart name file (omega (arith, kind, low))))

-- **So do the changes of a flush**, whose file has the next number.
pub flush_stays : (manifest used first : ℕ) (n : FlushNumbers) (parts : List PartNumber) → n.file ≡ suc used → (a b : View) → Changes (ChangesInFlush manifest first n parts) a b → Changes (KeepsUsed used) a b
flush_stays manifest used first n parts file a b change = changes_as a b (ChangesInFlush manifest first n parts) (KeepsUsed used) change
    (λ x y step name kind below.
    let new : name.number ≢ n.file = λ own. omega (arith, file, own, below) in
    step name (unmade (file_of n parts) n.last name (grind (arith, nat_tests, kind)) (number_unnamed name (file_of n parts) new))
    (kinds_apart name (manifest_name manifest) (omega (arith, kind))) (λ segment above under. kinds_apart name (log_name segment) (omega (arith, kind))))

-- ---- one call after another

-- a call after which the used numbers are still used, and another that leaves the files of those that are used then
pub used_on : (a b c : View) (old mid : ℕ) → old ≤ mid → Changes (KeepsUsed old) a b → Changes (KeepsUsed mid) b c → Changes (KeepsUsed old) a c
used_on a b c old mid higher first second =
    changes_on a b c (KeepsUsed old) (KeepsUsed mid) (KeepsUsed old) first second (λ x y step. step) (λ x y z one two name kind below. two name kind (omega (arith, below, higher)) ∙ one name kind below)
