-- A key is looked up in the files, one after another.
use Rattle.std.proofs.Common.{◌≡◌, ℕ, zero, suc, ◌+◌, ◌≤◌, ◌<◌, List, [], ◌∷◌, ◌++◌, length, drop, get_or, Option, None, Some, IfSome, Result, refl, sym, ap, subst, ◌∙◌, arith}
use Rattle.std.specs.FinMap as map_
use Rattle.std.specs.List.{AllByRecursion}
use Rattle.sasi_types.specs.declared.column.ColumnType.{ColumnType}
use Rattle.sasi_types.specs.declared.partitioner.Partitioner.{Partitioner}
use Rattle.sasi_types.specs.DecoratedKey.{decorated_cmp}
use Rattle.sasi_types.specs.Token.{token_of}
use Rattle.sasi_model.specs.Cells.{Partition, empty_partition, merge}
use Rattle.sasi_model.specs.State.{decorated}
use Rattle.sasi_cells.specs.Maps.{joined}
use Rattle.sasi_host.specs.declared.fault.ReadFault.{ReadFault}
use Rattle.sasi_host.specs.Names.{Bytes, Folder}
use Rattle.sasi_host.specs.View.{View}
use Rattle.sasi_datawrite.specs.Format.{Content, header}
use Rattle.sasi_dataread.specs.Opened.{OpenDataFile}
use Rattle.sasi_memtable.specs.MemtableView.{MemtableView}
use Rattle.sasi_ranges.specs.StreamCalls.{StreamFaults}
use Rattle.sasi_ranges.proofs.Calling.{on_err}
use Rattle.sasi_scan.specs.Finding.{file_maps, found_in}
use Rattle.sasi_scan.specs.Parts.{IsMergeOfParts, IsOfPart, entries_of, merged_all}
use Rattle.sasi_scan.proofs.KeyLookups.{next_left, none_left}
use Rattle.sasi_lookup.specs.Files.{FileShows, IsFileReady, IsNamed, IsOpenWith, IsTurnedFile, LookedFile}
use Rattle.sasi_lookup.specs.Lookups.{AreTurned, FilesReady, FilesShow}
use Rattle.sasi_lookup.specs.Reads.{found_pages, key_pages}
use Rattle.sasi_lookup.proofs.TurnLaws.{ready_at, show_at}

-- ---- in any file

all_push : (base : Partition) (parts : List Partition) (part : Partition) → merged_all base (parts ++ part ∷ []) ≡ merge (merged_all base parts) part
all_push base [] part = refl
all_push base (p ∷ parts) part = all_push (merge base p) parts part

others_push : (types : List ColumnType) (maps : List MemtableView) (key : Bytes) (parts : List Partition) (part : Partition) → AllByRecursion (IsOfPart types maps key) parts → IsOfPart types maps key part → AllByRecursion (IsOfPart types maps key) (parts ++ part ∷ [])
others_push types maps key [] part all one = (one, tt)
others_push types maps key (p ∷ parts) part all one = (all.0, others_push types maps key parts part all.1 one)

-- what a later file has is merged onto what older ones have
pub merge_joined : (types : List ColumnType) (maps : List MemtableView) (key : Bytes) (found part both : Option Partition) → both ≡ joined found part → IfSome found (IsMergeOfParts types maps key) → IfSome part (IsOfPart types maps key) → IfSome both (IsMergeOfParts types maps key)
merge_joined types maps key found part both is one two = subst (λ (o : Option Partition). IfSome o (IsMergeOfParts types maps key)) (sym is) (by found part one two)
  where
    by : (a b : Option Partition) → IfSome a (IsMergeOfParts types maps key) → IfSome b (IsOfPart types maps key) → IfSome (joined a b) (IsMergeOfParts types maps key)
    by a None one two = one
    by None (Some q) one two = record { oldest = q; others = []; oldest_of = two; others_of = tt; is = refl }
    by (Some p) (Some q) one two = record {
      oldest = one.oldest;
      others = one.others ++ q ∷ [];
      oldest_of = one.oldest_of;
      others_of = others_push types maps key one.others q one.others_of two;
      is = ap (λ (w : Partition). merge w q) one.is ∙ sym (all_push (merge empty_partition one.oldest) one.others q);
    }

-- ---- at an index

pub named_at : (files : List LookedFile) (i : ℕ) (file : LookedFile) → i < length files → file ≡ get_or files i file → AllByRecursion IsNamed files → IsNamed file
named_at files i file at is all = subst IsNamed (sym is) (by files i at all)
  where
    by : (fs : List LookedFile) (n : ℕ) → n < length fs → AllByRecursion IsNamed fs → IsNamed (get_or fs n file)
    by [] n at all = absurd (omega arith)
    by (f ∷ fs) zero at all = all.0
    by (f ∷ fs) (suc n) at all = by fs n (omega arith) all.1

-- an open file that reads as it was opened has its name
pub ready_named : (types : List ColumnType) (x : Option Folder) (files : List LookedFile) → FilesReady types x files → AllByRecursion IsNamed files
ready_named types x [] ready = tt
ready_named types x (file ∷ files) ready = (by file.opened ready.0, ready_named types x files ready.1)
  where
    by : (opened : Option OpenDataFile) → IfSome opened (IsOpenWith x types file.name file.keys) → IfSome opened (λ o. o.file ≡ file.name)
    by None is = tt
    by (Some o) is = is.is_open.named

file_at : (types : List ColumnType) (x : Option Folder) (files : List LookedFile) (i : ℕ) (file : LookedFile) → i < length files → file ≡ get_or files i file → FilesReady types x files → IsFileReady types file x
file_at types x files i file at is all = subst (λ (f : LookedFile). IsFileReady types f x) (sym is) (ready_at file types x files i at all)

turned_at : (x : Option Folder) (types : List ColumnType) (p : Partitioner) (token : ℕ) (d : LookedFile) (files : List LookedFile) (i : ℕ) (contents : List Content) → i < length files → AreTurned x types files (p, (token, contents))
    → (content : Content) × IsTurnedFile x types (get_or files i d) (p, (token, content))
turned_at x types p token d [] i contents at are = absurd (omega arith)
turned_at x types p token d (f ∷ files) i [] at are = absurd are.0
turned_at x types p token d (f ∷ files) zero (c ∷ cs) at are = (c, (are.0.0, are.1.0))
turned_at x types p token d (f ∷ files) (suc i) (c ∷ cs) at are = turned_at x types p token d files i cs (omega arith) (are.0.1, are.1.1)

-- after reads that changed nothing
pub file_here : (types : List ColumnType) (x y : Option Folder) (files : List LookedFile) (i : ℕ) (file : LookedFile) → i < length files → file ≡ get_or files i file → y ≡ x → FilesReady types x files → IsFileReady types file y
file_here types x y files i file at is same all = subst (λ (o : Option Folder). IsFileReady types file o) (sym same) (file_at types x files i file at is all)

pub turned_there : (x y : Option Folder) (types : List ColumnType) (file : LookedFile) (has : Partitioner × (ℕ × Content)) → y ≡ x → IsTurnedFile x types file has → IsTurnedFile y types file has
turned_there x y types file has same is = subst (λ (o : Option Folder). IsTurnedFile o types file has) (sym same) is

pub turned_here : (x y : Option Folder) (types : List ColumnType) (files : List LookedFile) (has : Partitioner × (ℕ × List Content)) → y ≡ x → AreTurned x types files has → AreTurned y types files has
turned_here x y types files has same are = subst (λ (o : Option Folder). AreTurned o types files has) (sym same) are

-- ---- the look-up

-- what was found so far, with what the files have that are left, is what all have; and so are the reads
pub record IsFinding (x : Option Folder) (types : List ColumnType) (p : Partitioner) (token : ℕ) (key : Bytes) (left : List LookedFile) (contents : List Content) (found : Option Partition) (now most : ℕ) : Type 0 where
  pub rest : List Content
  pub turned : AreTurned x types left (p, (token, rest))
  pub found_is : token_of p key ≡ token → found_in (decorated p key) found (file_maps p rest) ≡ found_in (decorated p key) None (file_maps p contents)
  pub reads : now + found_pages key rest ≤ most

module _ (x : Option Folder) (types : List ColumnType) (p : Partitioner) (token : ℕ) (key : Bytes) (contents : List Content) (most : ℕ) where
  pub finding_begins : (files : List LookedFile) (before : ℕ) → AreTurned x types files (p, (token, contents)) → before + found_pages key contents ≡ most → IsFinding x types p token key files contents None before most
  finding_begins files before are is = record { rest = contents; turned = are; found_is = λ same. refl; reads = omega (arith, is) }

  module _ (files : List LookedFile) (i : ℕ) (file : LookedFile) (at : i < length files) (is : file ≡ get_or files i file) (found : Option Partition) (now after : ℕ) (on : IsFinding x types p token key (drop i files) contents found now most) where
    turned_next : AreTurned x types (file ∷ drop (i + 1) files) (p, (token, on.rest))
    turned_next = subst (λ (fs : List LookedFile). AreTurned x types fs (p, (token, on.rest))) (next_left files i file at is) on.turned

    pub finding_next : (part both : Option Partition)
        → ((content : Content) → IsTurnedFile x types file (p, (token, content)) → token_of p key ≡ token → part ≡ map_.get (map_.from_entries {R = decorated_cmp} (entries_of p content)) (decorated p key))
        → ((content : Content) → IsTurnedFile x types file (p, (token, content)) → after ≤ now + key_pages key (length header) content) → both ≡ joined found part
        → IsFinding x types p token key (drop (i + 1) files) contents both after most
    finding_next part both gives takes joins = by on.rest turned_next on.found_is on.reads
      where
        by : (rest : List Content) → AreTurned x types (file ∷ drop (i + 1) files) (p, (token, rest)) → (token_of p key ≡ token → found_in (decorated p key) found (file_maps p rest) ≡ found_in (decorated p key) None (file_maps p contents))
            → now + found_pages key rest ≤ most → IsFinding x types p token key (drop (i + 1) files) contents both after most
        by [] turned found_is reads = absurd turned.0
        by (content ∷ rest) turned found_is reads = record {
          rest = rest;
          turned = (turned.0.1, turned.1.1);
          found_is = λ same. ap (λ (o : Option Partition). found_in (decorated p key) o (file_maps p rest)) (joins ∙ ap (joined found) (gives content (turned.0.0, turned.1.0) same)) ∙ found_is same;
          reads = omega (arith, takes content (turned.0.0, turned.1.0), reads);
        }

    -- it fails in the file, or behind it
    pub finding_fails : ((content : Content) → IsTurnedFile x types file (p, (token, content)) → after ≤ now + key_pages key (length header) content) → after ≤ most
    finding_fails takes = by on.rest turned_next on.reads
      where
        by : (rest : List Content) → AreTurned x types (file ∷ drop (i + 1) files) (p, (token, rest)) → now + found_pages key rest ≤ most → after ≤ most
        by [] turned reads = absurd turned.0
        by (content ∷ rest) turned reads = omega (arith, takes content (turned.0.0, turned.1.0), reads)

  pub finding_ends : (files : List LookedFile) (i : ℕ) (found : Option Partition) (now : ℕ) → length files ≤ i → IsFinding x types p token key (drop i files) contents found now most → token_of p key ≡ token
      → found ≡ found_in (decorated p key) None (file_maps p contents)
  finding_ends files i found now all on same = by on.rest (subst (λ (fs : List LookedFile). AreTurned x types fs (p, (token, on.rest))) (none_left files i all) on.turned) (on.found_is same)
    where
      by : (rest : List Content) → AreTurned x types [] (p, (token, rest)) → found_in (decorated p key) found (file_maps p rest) ≡ found_in (decorated p key) None (file_maps p contents) → found ≡ found_in (decorated p key) None (file_maps p contents)
      by [] turned is = is
      by (content ∷ rest) turned is = absurd turned.0

-- ---- faults

pub finding_faults : {T : Type 0} (types : List ColumnType) (u v : View) (files : List LookedFile) (i : ℕ) (file : LookedFile) (r : Result T ReadFault) → i < length files → file ≡ get_or files i file → v.files ≡ u.files
    → StreamFaults (FileShows types file.name u.files) (FileShows types file.name v.files) (IsTurnedFile u.files types file) u v r
    → StreamFaults (FilesShow types u.files files) (FilesShow types v.files files) (AreTurned u.files types files) u v r
finding_faults types u v files i file r at is same one = record {
  causes = one.causes;
  damaged = on_err (FileShows types file.name u.files) (FilesShow types u.files files) r
      (λ damage shows. show_at file types u.files files i damage at (subst (λ (f : LookedFile). FileShows types f.name u.files damage) is shows)) one.damaged;
  undamaged = on_err (λ _. (has : Partitioner × (ℕ × Content)) → IsTurnedFile u.files types file has → ⊥) (λ _. (has : Partitioner × (ℕ × List Content)) → AreTurned u.files types files has → ⊥) r
      (λ damage no has are. (
      let mine = turned_at u.files types has.0 has.1.0 file files i has.1.1 at are in
      no (has.0, (has.1.0, mine.0)) (subst (λ (f : LookedFile). IsTurnedFile u.files types f (has.0, (has.1.0, mine.0))) (sym is) mine.1))) one.undamaged;
  shows = λ damage shown. subst (λ (x : Option Folder). FilesShow types x files damage) same shown;
}
