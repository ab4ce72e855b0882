-- The files are turned to a token, one after another.
use Rattle.std.proofs.Common.{◌≡◌, ℕ, zero, suc, ◌+◌, ◌≤◌, ◌<◌, List, [], ◌∷◌, length, map, drop, Option, Result, refl, sym, ap, subst, ◌∙◌, inl, inr, ⊎_elim, arith}
use Rattle.std.specs.Prelude.{⊤}
use Rattle.std.specs.List.{slice_index_or, slice_set}
use Rattle.sasi_types.specs.declared.column.ColumnType.{ColumnType}
use Rattle.sasi_types.specs.declared.partitioner.Partitioner.{Partitioner}
use Rattle.sasi_host.specs.declared.damage.Damage.{Damage}
use Rattle.sasi_host.specs.declared.fault.ReadFault.{ReadFault}
use Rattle.sasi_host.specs.declared.name.FileName.{FileName}
use Rattle.sasi_host.specs.Names.{Folder}
use Rattle.sasi_host.specs.PageReading.{CanRead, HasRead}
use Rattle.sasi_host.specs.View.{View}
use Rattle.sasi_datawrite.specs.Format.{Content}
use Rattle.sasi_ranges.specs.StreamCalls.{CanStream, HasStreamed, StreamFaults}
use Rattle.sasi_ranges.proofs.Calling.{on_err}
use Rattle.sasi_lookup.specs.Files.{FileShows, HasTokenKeys, IsDataOf, IsFileReady, LookedFile}
use Rattle.sasi_lookup.specs.Lookups.{AreDataOf, AreRight, EachHasKeys, FilesOpen, FilesReady, FilesShow}
use Rattle.sasi_lookup.specs.Reads.{keys_reads, opening_reads, turn_reads}

abbrev pub names_of : List LookedFile → List FileName
names_of = map (λ (file : LookedFile). file.name)

-- the first so many have in hand the keys of the token
abbrev pub FirstHave : Partitioner → ℕ → ℕ → List LookedFile → List Content → Type 0
FirstHave p token zero files contents = ⊤
FirstHave p token (suc n) [] contents = ⊤
FirstHave p token (suc n) (file ∷ files) [] = ⊤
FirstHave p token (suc n) (file ∷ files) (content ∷ contents) = HasTokenKeys p token file content × FirstHave p token n files contents

-- the first so many were turned, in a folder with these files; the reads so far and those that are left are no more than those of all
pub record IsTurning (seen : Option Folder) (p : Partitioner) (token : ℕ) (types : List ColumnType) (n : ℕ) (files : List LookedFile) (contents : List Content) (now most : ℕ) : Type 0 where
  pub are_data : AreDataOf seen p types files contents
  pub first : FirstHave p token n files contents
  pub reads : now + turn_reads p token (drop n files) (drop n contents) ≤ most

pub turning_begins : (seen : Option Folder) (p : Partitioner) (token : ℕ) (types : List ColumnType) (files : List LookedFile) (contents : List Content) (before : ℕ) → AreDataOf seen p types files contents
    → IsTurning seen p token types 0 files contents before (before + turn_reads p token files contents)
turning_begins seen p token types files contents before are = record { are_data = are; first = tt; reads = omega arith }

all_have : (seen : Option Folder) (p : Partitioner) (token : ℕ) (types : List ColumnType) (n : ℕ) (files : List LookedFile) (contents : List Content) → length files ≤ n → AreDataOf seen p types files contents → FirstHave p token n files contents
    → EachHasKeys p token files contents
all_have seen p token types n [] [] all are first = tt
all_have seen p token types n [] (c ∷ cs) all are first = absurd are
all_have seen p token types n (f ∷ fs) [] all are first = absurd are
all_have seen p token types zero (f ∷ fs) (c ∷ cs) all are first = absurd (omega (arith, all))
all_have seen p token types (suc n) (f ∷ fs) (c ∷ cs) all are first = (first.0, all_have seen p token types n fs cs (omega (arith, all)) are.1 first.1)

pub turning_ends : (seen : Option Folder) (p : Partitioner) (token : ℕ) (types : List ColumnType) (n : ℕ) (files : List LookedFile) (contents : List Content) (now most : ℕ) → length files ≤ n
    → IsTurning seen p token types n files contents now most → EachHasKeys p token files contents
turning_ends seen p token types n files contents now most all on = all_have seen p token types n files contents all on.are_data on.first

module _ (d : LookedFile) where
  -- ---- the file at an index

  pub names_set : (files : List LookedFile) (i : ℕ) (new : LookedFile) → i < length files → new.name ≡ (slice_index_or files i d).name → names_of (slice_set files i new) ≡ names_of files
  names_set [] i new at named = absurd (omega arith)
  names_set (f ∷ files) zero new at named = ap (λ (n : FileName). n ∷ names_of files) named
  names_set (f ∷ files) (suc i) new at named = ap (λ (ns : List FileName). f.name ∷ ns) (names_set files i new (omega arith) named)

  open_at : (files : List LookedFile) (i : ℕ) (name : FileName) → i < length files → name ≡ (slice_index_or files i d).name → FilesOpen files name
  open_at [] i name at is = absurd (omega arith)
  open_at (f ∷ files) zero name at is = inl is
  open_at (f ∷ files) (suc i) name at is = inr (open_at files i name (omega arith) is)

  open_set : (files : List LookedFile) (i : ℕ) (new : LookedFile) (name : FileName) → new.name ≡ (slice_index_or files i d).name → FilesOpen (slice_set files i new) name → FilesOpen files name
  open_set [] i new name named is = absurd is
  open_set (f ∷ files) zero new name named is = ⊎_elim (λ here. inl (here ∙ named)) (λ later. inr later) is
  open_set (f ∷ files) (suc i) new name named is = ⊎_elim (λ here. inl here) (λ later. inr (open_set files i new name named later)) is

  pub ready_at : (types : List ColumnType) (x : Option Folder) (files : List LookedFile) (i : ℕ) → i < length files → FilesReady types x files → IsFileReady types (slice_index_or files i d) x
  ready_at types x [] i at all = absurd (omega arith)
  ready_at types x (f ∷ files) zero at all = all.0
  ready_at types x (f ∷ files) (suc i) at all = ready_at types x files i (omega arith) all.1

  pub ready_set : (types : List ColumnType) (x y : Option Folder) (files : List LookedFile) (i : ℕ) (new : LookedFile) → i < length files → y ≡ x → IsFileReady types new y → FilesReady types x files → FilesReady types y (slice_set files i new)
  ready_set types x y [] i new at same is all = absurd (omega arith)
  ready_set types x y (f ∷ files) zero new at same is all = (is, subst (λ (o : Option Folder). FilesReady types o files) (sym same) all.1)
  ready_set types x y (f ∷ files) (suc i) new at same is all = (subst (λ (o : Option Folder). IsFileReady types f o) (sym same) all.0, ready_set types x y files i new (omega arith) same is all.1)

  pub show_at : (types : List ColumnType) (x : Option Folder) (files : List LookedFile) (i : ℕ) (damage : Damage) → i < length files → FileShows types (slice_index_or files i d).name x damage → FilesShow types x files damage
  show_at types x [] i damage at is = absurd (omega arith)
  show_at types x (f ∷ files) zero damage at is = inl is
  show_at types x (f ∷ files) (suc i) damage at is = inr (show_at types x files i damage (omega arith) is)

  show_set : (types : List ColumnType) (x y : Option Folder) (files : List LookedFile) (i : ℕ) (new : LookedFile) (damage : Damage) → y ≡ x → new.name ≡ (slice_index_or files i d).name → FilesShow types y (slice_set files i new) damage
      → FilesShow types x files damage
  show_set types x y [] i new damage same named is = absurd is
  show_set types x y (f ∷ files) zero new damage same named is = ⊎_elim
      (λ here. inl (subst (λ (n : FileName). FileShows types n x damage) named (subst (λ (o : Option Folder). FileShows types new.name o damage) same here)))
      (λ later. inr (subst (λ (o : Option Folder). FilesShow types o files damage) same later))
      is
  show_set types x y (f ∷ files) (suc i) new damage same named is = ⊎_elim (λ here. inl (subst (λ (o : Option Folder). FileShows types f.name o damage) same here)) (λ later. inr (show_set types x y files i new damage same named later)) is

  -- ---- its content

  pub data_at : (x : Option Folder) (p : Partitioner) (types : List ColumnType) (files : List LookedFile) (i : ℕ) (contents : List Content) → i < length files → AreDataOf x p types files contents
      → (content : Content) × IsDataOf x p types (slice_index_or files i d).name (slice_index_or files i d).opened content
  data_at x p types [] i contents at are = absurd (omega arith)
  data_at x p types (f ∷ files) i [] at are = absurd are
  data_at x p types (f ∷ files) zero (c ∷ cs) at are = (c, are.0)
  data_at x p types (f ∷ files) (suc i) (c ∷ cs) at are = data_at x p types files i cs (omega arith) are.1

  -- it is turned
  turned_set : (x y : Option Folder) (p : Partitioner) (token : ℕ) (types : List ColumnType) (files : List LookedFile) (i : ℕ) (new : LookedFile) (contents : List Content) (now after most : ℕ) → i < length files → y ≡ x
      → ((content : Content) → IsDataOf x p types (slice_index_or files i d).name (slice_index_or files i d).opened content
      → IsDataOf y p types new.name new.opened content × HasTokenKeys p token new content × (after ≤ now + (opening_reads (slice_index_or files i d).opened + keys_reads p token content)))
      → IsTurning x p token types i files contents now most → IsTurning y p token types (suc i) (slice_set files i new) contents after most
  turned_set x y p token types [] i new contents now after most at same one on = absurd (omega arith)
  turned_set x y p token types (f ∷ files) i new [] now after most at same one on = absurd on.are_data
  turned_set x y p token types (f ∷ files) zero new (c ∷ cs) now after most at same one on =
      let this = one c on.are_data.0 in
      record { are_data = (this.0, subst (λ (o : Option Folder). AreDataOf o p types files cs) (sym same) on.are_data.1); first = (this.1, tt); reads = omega (arith, this.2, on.reads) }
  turned_set x y p token types (f ∷ files) (suc i) new (c ∷ cs) now after most at same one on =
      let rest = turned_set x y p token types files i new cs now after most (omega arith) same one (record { are_data = on.are_data.1; first = on.first.1; reads = on.reads }) in
      record { are_data = (subst (λ (o : Option Folder). IsDataOf o p types f.name f.opened c) (sym same) on.are_data.0, rest.are_data); first = (on.first.0, rest.first); reads = rest.reads }

  pub turning_next : (x y : Option Folder) (p : Partitioner) (token : ℕ) (types : List ColumnType) (files : List LookedFile) (i n : ℕ) (new : LookedFile) (contents : List Content) (now after most : ℕ) → i < length files → n ≡ suc i → y ≡ x
      → ((content : Content) → IsDataOf x p types (slice_index_or files i d).name (slice_index_or files i d).opened content
      → IsDataOf y p types new.name new.opened content × HasTokenKeys p token new content × (after ≤ now + (opening_reads (slice_index_or files i d).opened + keys_reads p token content)))
      → IsTurning x p token types i files contents now most → IsTurning y p token types n (slice_set files i new) contents after most
  turning_next x y p token types files i n new contents now after most at next same one on =
      subst (λ (k : ℕ). IsTurning y p token types k (slice_set files i new) contents after most) (sym next) (turned_set x y p token types files i new contents now after most at same one on)

  -- it fails
  pub data_set : (x y : Option Folder) (p : Partitioner) (types : List ColumnType) (files : List LookedFile) (i : ℕ) (new : LookedFile) (contents : List Content) → i < length files → y ≡ x
      → ((content : Content) → IsDataOf x p types (slice_index_or files i d).name (slice_index_or files i d).opened content → IsDataOf y p types new.name new.opened content) → AreDataOf x p types files contents
      → AreDataOf y p types (slice_set files i new) contents
  data_set x y p types [] i new contents at same one are = absurd (omega arith)
  data_set x y p types (f ∷ files) i new [] at same one are = absurd are
  data_set x y p types (f ∷ files) zero new (c ∷ cs) at same one are = (one c are.0, subst (λ (o : Option Folder). AreDataOf o p types files cs) (sym same) are.1)
  data_set x y p types (f ∷ files) (suc i) new (c ∷ cs) at same one are = (subst (λ (o : Option Folder). IsDataOf o p types f.name f.opened c) (sym same) are.0, data_set x y p types files i new cs (omega arith) same one are.1)

  pub turning_fails : (x : Option Folder) (p : Partitioner) (token : ℕ) (types : List ColumnType) (files : List LookedFile) (i : ℕ) (contents : List Content) (now after most : ℕ) → i < length files
      → ((content : Content) → IsDataOf x p types (slice_index_or files i d).name (slice_index_or files i d).opened content → after ≤ now + (opening_reads (slice_index_or files i d).opened + keys_reads p token content))
      → IsTurning x p token types i files contents now most → after ≤ most
  turning_fails x p token types [] i contents now after most at one on = absurd (omega arith)
  turning_fails x p token types (f ∷ files) i [] now after most at one on = absurd on.are_data
  turning_fails x p token types (f ∷ files) zero (c ∷ cs) now after most at one on = omega (arith, one c on.are_data.0, on.reads)
  turning_fails x p token types (f ∷ files) (suc i) (c ∷ cs) now after most at one on =
      turning_fails x p token types files i cs now after most (omega arith) one (record { are_data = on.are_data.1; first = on.first.1; reads = on.reads })

  -- ---- a call on one file is a call on all of them

  pub can_at : (K : Option Folder → Type 0) (v : View) (files : List LookedFile) (i : ℕ) → i < length files → CanStream K (FilesOpen files) v → CanRead K v (slice_index_or files i d).name
  can_at K v files i at can = record { there = can.there (slice_index_or files i d).name (open_at files i (slice_index_or files i d).name at refl); agrees = can.agrees }

  pub can_here : (K : Option Folder → Type 0) (v : View) (files : List LookedFile) (i : ℕ) → i < length files → d ≡ slice_index_or files i d → CanStream K (FilesOpen files) v → CanRead K v d.name
  can_here K v files i at this can = subst (λ (f : LookedFile). CanRead K v f.name) (sym this) (can_at K v files i at can)

  pub streamed_set : (K : Option Folder → Type 0) (A B : FileName → Type 0) (u v : View) (files : List LookedFile) (i : ℕ) (new : LookedFile) → i < length files → new.name ≡ (slice_index_or files i d).name
      → HasRead K A B u v (slice_index_or files i d).name → HasStreamed K A B (FilesOpen files) (FilesOpen (slice_set files i new)) u v
  streamed_set K A B u v files i new at named one = record {
    agrees = one.agrees;
    covers = λ name is. ⊎_elim (λ before. inl before) (λ mine. inr (open_at files i name at mine)) (one.covers name is);
    opens = λ name is. open_set files i new name named is;
    changes = one.changes;
  }

  pub streamed_at : (K : Option Folder → Type 0) (A B : FileName → Type 0) (u v : View) (files : List LookedFile) (i : ℕ) → i < length files → d ≡ slice_index_or files i d → HasRead K A B u v d.name → HasStreamed K A B (FilesOpen files) (FilesOpen files) u v
  streamed_at K A B u v files i at this one = record {
    agrees = one.agrees;
    covers = λ name is. ⊎_elim (λ before. inl before) (λ mine. inr (open_at files i name at (mine ∙ ap (λ (f : LookedFile). f.name) this))) (one.covers name is);
    opens = λ name is. is;
    changes = one.changes;
  }

  pub faults_set : {T : Type 0} (types : List ColumnType) (u v : View) (files : List LookedFile) (i : ℕ) (new : LookedFile) (r : Result T ReadFault) → i < length files → v.files ≡ u.files → new.name ≡ (slice_index_or files i d).name
      → StreamFaults (FileShows types (slice_index_or files i d).name u.files) (FileShows types (slice_index_or files i d).name v.files)
      (λ (has : Partitioner × Content). IsDataOf u.files has.0 types (slice_index_or files i d).name (slice_index_or files i d).opened has.1) u v r
      → StreamFaults (FilesShow types u.files files) (FilesShow types v.files (slice_set files i new)) (AreRight u.files types files) u v r
  faults_set types u v files i new r at same named one = record {
    causes = one.causes;
    damaged = on_err (FileShows types (slice_index_or files i d).name u.files) (FilesShow types u.files files) r (λ damage is. show_at types u.files files i damage at is) one.damaged;
    undamaged = on_err (λ _. (has : Partitioner × Content) → IsDataOf u.files has.0 types (slice_index_or files i d).name (slice_index_or files i d).opened has.1 → ⊥) (λ _. (has : Partitioner × List Content) → AreRight u.files types files has → ⊥) r
        (λ damage no has are. (let mine = data_at u.files has.0 types files i has.1 at are in no (has.0, mine.0) mine.1)) one.undamaged;
    shows = λ damage is. show_set types u.files v.files files i new damage same named is;
  }
