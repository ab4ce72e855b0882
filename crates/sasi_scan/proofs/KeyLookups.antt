-- Look-ups of a key in the data files and the maps of a table: what they find is what the table has.
use Rattle.std.proofs.Common.{◌≡◌, ◌+◌, ◌<◌, ◌≤◌, ℕ, suc, zero, Bool, true, false, cond, List, [], ◌∷◌, ◌++◌, drop, length, map, get_or, Option, None, Some, IfSome, is_some, refl, sym, ap, subst, ◌∙◌, arith, add-one}
use Rattle.std.proofs.Math.Seq.{drop-cons}
use Rattle.std.proofs.lemmas.Bool.{false_from_ne_true}
use Rattle.std.proofs.lemmas.Cmp.{tied_itself}
use Rattle.std.proofs.lemmas.List.{map-append}
use Rattle.std.specs.Cmp.Lexicographic.{nat_list_cmp_total, same_text, texts_ties}
use Rattle.std.specs.FinMap as map_
use Rattle.std.specs.FinMap.{find}
use Rattle.std.specs.List.{AllByRecursion, Contains}
use Rattle.std.specs.Ordering.{eq_by_cmp, is_eq}
use Rattle.sasi_types.specs.declared.column.ColumnType.{ColumnType}
use Rattle.sasi_types.specs.declared.decorated_key.DecoratedKey.{DecoratedKey}
use Rattle.sasi_types.specs.declared.partitioner.Partitioner.{Partitioner}
use Rattle.sasi_types.specs.DecoratedKey.{decorated_cmp, decorated_total}
use Rattle.sasi_types.specs.Key.{key_eq}
use Rattle.sasi_model.specs.Abbreviations.{Partitions}
use Rattle.sasi_model.specs.Cells.{Partition}
use Rattle.sasi_model.specs.State.{decorated}
use Rattle.sasi_model.specs.Stored.{IsBodyOf}
use Rattle.sasi_cells.specs.Maps.{joined, merge_maps, merged, merged_onto}
use Rattle.sasi_cells.proofs.Laws.Decorated.{equal_keys, same_maps}
use Rattle.sasi_cells.proofs.Laws.Maps.{get_merge_maps}
use Rattle.sasi_host.specs.Disk.{Changes, Same}
use Rattle.sasi_host.specs.Names.{Folder}
use Rattle.sasi_host.specs.View.{View}
use Rattle.sasi_memtable.specs.MemtableView.{AreDecorated, MemtableView}
use Rattle.sasi_datawrite.specs.Format.{Content}
use Rattle.sasi_dataread.specs.Finds.{partition_of}
use Rattle.sasi_manifest.specs.declared.files.ListedFile.{ListedFile}
use Rattle.sasi_merge.specs.Streams.{Entries, maps_of}
use Rattle.sasi_scan.specs.Finding.{file_maps, find_reads, found_at, found_in, key_reads}
use Rattle.sasi_scan.specs.Parts.{AreContents, HasContent, IsMergeOfParts, IsOfPart, entries_of, of_file, of_map, merged_parts, part_entries}
use Rattle.sasi_scan.proofs.Costs.{reads_same}
use Rattle.sasi_scan.proofs.Moves.{joined_of}

-- the maps in memory
abbrev maps_in : List MemtableView → List Partitions
maps_in = map (λ (m : MemtableView). m.partitions)

-- the map of a data file
abbrev map_of : Partitioner → Content → Partitions
map_of p content = map_.from_entries {R = decorated_cmp} (entries_of p content)

-- ---- lists

-- behind the first so many the next one stands, or none
pub next_left : {X : Type 0} (xs : List X) (at : ℕ) (x : X) → at < length xs → x ≡ get_or xs at x → drop at xs ≡ x ∷ drop (at + 1) xs
next_left xs at x inside is = rw (add-one, drop-cons xs at x inside, ← is) refl

pub none_left : {X : Type 0} (xs : List X) (at : ℕ) → length xs ≤ at → drop at xs ≡ []
none_left [] zero few = refl
none_left [] (suc at) few = refl
none_left (x ∷ xs) zero few = absurd (omega (arith, few))
none_left (x ∷ xs) (suc at) few = none_left xs at (omega (arith, few))

-- ---- maps

found_onto : (q : DecoratedKey) (base : Partitions) (ms : List Partitions) → map_.get (merged_onto base ms) q ≡ found_in q (map_.get base q) ms
found_onto q base [] = refl
found_onto q base (m ∷ ms) = found_onto q (merge_maps base m) ms ∙ ap (λ (o : Option Partition). found_in q o ms) (get_merge_maps base m q)

-- **What the maps have of a key is what their merge has.**
pub found_merged : (q : DecoratedKey) (ms : List Partitions) → map_.get (merged ms) q ≡ found_in q None ms
found_merged q ms = found_onto q map_.empty ms ∙ ap (λ (o : Option Partition). found_in q o ms) (map_.get-empty decorated_cmp q)

found_both : (q : DecoratedKey) (base : Option Partition) (xs ys : List Partitions) → found_in q base (xs ++ ys) ≡ found_in q (found_in q base xs) ys
found_both q base [] ys = refl
found_both q base (x ∷ xs) ys = found_both q (joined base (map_.get x q)) xs ys

-- what has an entry in one of the maps has one of their keys
joined_some : (a b : Option Partition) → is_some (joined a b) ≡ true → (is_some a ≡ true → ⊥) → is_some b ≡ true
joined_some a None some none = absurd (none some)
joined_some a (Some part) some none = refl

found_decorated : (p : Partitioner) (q : DecoratedKey) (base : Option Partition) (ms : List Partitions) → AllByRecursion (AreDecorated p) ms → (is_some base ≡ true → q ≡ decorated p q.key) → is_some (found_in q base ms) ≡ true → q ≡ decorated p q.key
found_decorated p q base [] all before some = before some
found_decorated p q base (m ∷ ms) all before some = found_decorated p q (joined base (map_.get m q)) ms all.1 (by (map_.get m q) refl) some
  where
    by : (o : Option Partition) → map_.get m q ≡ o → is_some (joined base o) ≡ true → q ≡ decorated p q.key
    by None is there = before there
    by (Some part) is there = all.0 q (ap is_some is)

pub merged_decorated : (p : Partitioner) (ms : List Partitions) → AllByRecursion (AreDecorated p) ms → AreDecorated p (merged ms)
merged_decorated p ms all q some = found_decorated p q None ms all (λ is. absurd (let no : false ≡ true = is in cc)) (ap is_some (sym (found_merged q ms)) ∙ some)

-- ---- the map of a content

same_test : (p : Partitioner) (key other : List ℕ) → key_eq key other ≡ eq_by_cmp decorated_cmp (decorated p key) (decorated p other)
same_test p key other = by (eq_by_cmp decorated_cmp (decorated p key) (decorated p other)) refl
  where
    itself : eq_by_cmp decorated_cmp (decorated p key) (decorated p key) ≡ true
    itself = ap is_eq (tied_itself decorated_total (decorated p key))

    by : (b : Bool) → eq_by_cmp decorated_cmp (decorated p key) (decorated p other) ≡ b → key_eq key other ≡ eq_by_cmp decorated_cmp (decorated p key) (decorated p other)
    by true is =
        let same : key ≡ other = ap (λ (k : DecoratedKey). k.key) (equal_keys (decorated p key) (decorated p other) is) in
        ap (key_eq key) (sym same) ∙ texts_ties key key ∙ ap is_eq (tied_itself nat_list_cmp_total key) ∙ sym is
    by false is = false_from_ne_true (key_eq key other) (λ same. (
        let equal : key ≡ other = same_text key other (sym same) in
        let no : true ≡ false = sym itself ∙ ap (λ (k : List ℕ). eq_by_cmp decorated_cmp (decorated p key) (decorated p k)) equal ∙ is in
        cc)) ∙ sym is

looked_entries : (p : Partitioner) (key : List ℕ) (content : Content) → partition_of content key ≡ find decorated_cmp (decorated p key) (entries_of p content)
looked_entries p key [] = refl
looked_entries p key (one ∷ content) = λ i. cond (same_test p key one.0 i) (Some one.1) (looked_entries p key content i)

-- **What a data file has of a key is what its map has.**
pub looked_up : (p : Partitioner) (key : DecoratedKey) (content : Content) → key ≡ decorated p key.key → partition_of content key.key ≡ map_.get (map_of p content) key
looked_up p key content is =
    looked_entries p key.key content ∙ sym (map_.get-from_entries decorated_total (entries_of p content) (decorated p key.key)) ∙ ap (map_.get (map_of p content)) (sym is)

entries_decorated : (p : Partitioner) (q : DecoratedKey) (content : Content) → is_some (find decorated_cmp q (entries_of p content)) ≡ true → q ≡ decorated p q.key
entries_decorated p q [] some = absurd (let no : false ≡ true = some in cc)
entries_decorated p q (one ∷ content) some = by (eq_by_cmp decorated_cmp q (decorated p one.0)) refl some (entries_decorated p q content)
  where
    by : (b : Bool) → eq_by_cmp decorated_cmp q (decorated p one.0) ≡ b → is_some (cond b (Some one.1) (find decorated_cmp q (entries_of p content))) ≡ true
        → (is_some (find decorated_cmp q (entries_of p content)) ≡ true → q ≡ decorated p q.key) → q ≡ decorated p q.key
    by true same there behind = let is : q ≡ decorated p one.0 = equal_keys q (decorated p one.0) same in subst (λ (k : DecoratedKey). k ≡ decorated p k.key) (sym is) refl
    by false other there behind = behind there

content_decorated : (p : Partitioner) (content : Content) → AreDecorated p (map_of p content)
content_decorated p content q some = entries_decorated p q content (ap is_some (sym (map_.get-from_entries decorated_total (entries_of p content) q)) ∙ some)

-- ---- the parts

-- the entries of a map make it
map_back : (m : Partitions) → map_.from_entries {R = decorated_cmp} (map_.entries m) ≡ m
map_back m = same_maps _ _ (λ q. map_.get-from_entries decorated_total (map_.entries m) q ∙ sym (map_.get-entries m q))

maps_back : (ms : List MemtableView) → maps_of (map (λ (m : MemtableView). map_.entries m.partitions) ms) ≡ maps_in ms
maps_back [] = refl
maps_back (m ∷ ms) = let here = map_back m.partitions in let others = maps_back ms in λ i. here i ∷ others i

-- **The maps that are merged** are those of the contents and then those in memory.
pub parts_are : (p : Partitioner) (contents : List Content) (ms : List MemtableView) → maps_of (part_entries p contents ms) ≡ file_maps p contents ++ maps_in ms
parts_are p contents ms =
    map-append (λ (es : Entries). map_.from_entries {R = decorated_cmp} es) (map (entries_of p) contents) (map (λ (m : MemtableView). map_.entries m.partitions) ms)
    ∙ ap (λ (xs : List Partitions). file_maps p contents ++ xs) (maps_back ms)

-- **What the files have of a key, and then the maps, is what the merge has.**
pub parts_found : (p : Partitioner) (contents : List Content) (ms : List MemtableView) (key : DecoratedKey) (in_files found : Option Partition) → in_files ≡ found_in key None (file_maps p contents) → found ≡ found_in key in_files (maps_in ms) → found ≡ map_.get (merged_parts p contents ms) key
parts_found p contents ms key in_files found first second =
    second
    ∙ ap (λ (o : Option Partition). found_in key o (maps_in ms)) first
    ∙ sym (found_both key None (file_maps p contents) (maps_in ms))
    ∙ ap (found_in key None) (sym (parts_are p contents ms))
    ∙ sym (found_merged key (maps_of (part_entries p contents ms)))

-- each key of the merge stands under its own token
pub parts_decorated : (p : Partitioner) (contents : List Content) (ms : List MemtableView) → AllByRecursion (λ (m : MemtableView). AreDecorated p m.partitions) ms → AreDecorated p (merged_parts p contents ms)
parts_decorated p contents ms maps = subst (λ (xs : List Partitions). AreDecorated p (merged xs)) (sym (parts_are p contents ms)) (merged_decorated p (file_maps p contents ++ maps_in ms) (both contents (seen_maps ms maps)))
  where
    seen_maps : (xs : List MemtableView) → AllByRecursion (λ (m : MemtableView). AreDecorated p m.partitions) xs → AllByRecursion (AreDecorated p) (maps_in xs)
    seen_maps [] have = tt
    seen_maps (x ∷ xs) have = (have.0, seen_maps xs have.1)

    both : (cs : List Content) → AllByRecursion (AreDecorated p) (maps_in ms) → AllByRecursion (AreDecorated p) (file_maps p cs ++ maps_in ms)
    both [] maps = maps
    both (c ∷ cs) maps = (content_decorated p c, both cs maps)

-- ---- in any file

-- the partition of a body is of a part
pub body_of_part : (types : List ColumnType) (ms : List MemtableView) (key : List ℕ) (found : Option Partition) → IfSome found (IsBodyOf types key) → IfSome found (IsOfPart types ms key)
body_of_part types ms key None is = tt
body_of_part types ms key (Some part) is = of_file is

-- and so is that which a map has
pub maps_of_parts : (types : List ColumnType) (all : List MemtableView) (key : DecoratedKey) (base : Option Partition) (ms : List MemtableView) → AllByRecursion (λ m. Contains all m) ms → IfSome base (IsMergeOfParts types all key.key) → IfSome (found_in key base (maps_in ms)) (IsMergeOfParts types all key.key)
maps_of_parts types all key base [] among one = one
maps_of_parts types all key base (m ∷ ms) among one = maps_of_parts types all key (joined base (map_.get m.partitions key)) ms among.1 (joined_of types all key.key base (map_.get m.partitions key) one (by (map_.get m.partitions key) refl))
  where
    by : (o : Option Partition) → map_.get m.partitions key ≡ o → IfSome o (IsOfPart types all key.key)
    by None is = tt
    by (Some part) is = of_map m key among.0 is refl

-- ---- file by file

-- what was found so far, with what the files have that are left, is what all have; and so are the reads
pub record IsLookingUp (seen : Option Folder) (p : Partitioner) (types : List ColumnType) (key : DecoratedKey) (left : List ListedFile) (contents : List Content) (found : Option Partition) (before now : ℕ) : Type 0 where
  pub rest : List Content
  pub have : AreContents seen p types left rest
  pub found_is : found_in key found (file_maps p rest) ≡ found_in key None (file_maps p contents)
  pub reads : now + key_reads p key.key rest ≤ before + key_reads p key.key contents

-- what a file gives, and how much is read for it
pub record HasLookedUp (p : Partitioner) (key : DecoratedKey) (content : Content) (part : Option Partition) (before now : ℕ) : Type 0 where
  pub found_is : part ≡ map_.get (map_of p content) key
  pub reads : now ≤ before + find_reads p key.key content

module _ (seen : Option Folder) (p : Partitioner) (types : List ColumnType) (key : DecoratedKey) (contents : List Content) (before : ℕ) where
  pub looking_begins : (files : List ListedFile) → AreContents seen p types files contents → IsLookingUp seen p types key files contents None before before
  looking_begins files have = record { rest = contents; have = have; found_is = refl; reads = omega arith }

  module _ (files : List ListedFile) (at : ℕ) (file : ListedFile) (inside : at < length files) (is : file ≡ get_or files at file) (found : Option Partition) (now after : ℕ) (on : IsLookingUp seen p types key (drop at files) contents found before now) where
    have_next : AreContents seen p types (file ∷ drop (at + 1) files) on.rest
    have_next = subst (λ (fs : List ListedFile). AreContents seen p types fs on.rest) (next_left files at file inside is) on.have

    pub looking_next : (part joined_part : Option Partition) → ((content : Content) → HasContent seen p types file content → HasLookedUp p key content part now after) → joined_part ≡ joined found part
        → IsLookingUp seen p types key (drop (at + 1) files) contents joined_part before after
    looking_next part joined_part one joins = by on.rest have_next on.found_is on.reads
      where
        by : (rest : List Content) → AreContents seen p types (file ∷ drop (at + 1) files) rest → found_in key found (file_maps p rest) ≡ found_in key None (file_maps p contents) → now + key_reads p key.key rest ≤ before + key_reads p key.key contents
            → IsLookingUp seen p types key (drop (at + 1) files) contents joined_part before after
        by [] have found_is reads = absurd have
        by (content ∷ rest) have found_is reads =
            let this = one content have.0 in
            record {
              rest = rest;
              have = have.1;
              found_is = ap (λ (o : Option Partition). found_in key o (file_maps p rest)) (joins ∙ ap (joined found) this.found_is) ∙ found_is;
              reads = omega (arith, this.reads, reads);
            }

    -- the look-up failed in the file, or what follows it
    pub looking_fails : ((content : Content) → HasContent seen p types file content → after ≤ now + find_reads p key.key content) → after ≤ before + key_reads p key.key contents
    looking_fails one = by on.rest have_next on.reads
      where
        by : (rest : List Content) → AreContents seen p types (file ∷ drop (at + 1) files) rest → now + key_reads p key.key rest ≤ before + key_reads p key.key contents → after ≤ before + key_reads p key.key contents
        by [] have reads = absurd have
        by (content ∷ rest) have reads = omega (arith, one content have.0, reads)

  module _ (files : List ListedFile) (at : ℕ) (most : length files ≤ at) (found : Option Partition) (now : ℕ) (on : IsLookingUp seen p types key (drop at files) contents found before now) where
    pub looking_ends : found ≡ found_in key None (file_maps p contents)
    looking_ends = by on.rest (subst (λ (fs : List ListedFile). AreContents seen p types fs on.rest) (none_left files at most) on.have) on.found_is
      where
        by : (rest : List Content) → AreContents seen p types [] rest → found_in key found (file_maps p rest) ≡ found_in key None (file_maps p contents) → found ≡ found_in key None (file_maps p contents)
        by [] have found_is = found_is
        by (content ∷ rest) have found_is = absurd have

    pub looking_reads : now ≤ before + key_reads p key.key contents
    looking_reads = omega (arith, on.reads)

-- ---- with reads between

module _ (v w u : View) (p : Partitioner) (types : List ColumnType) (key : DecoratedKey) (contents : List Content) (files : List ListedFile) (at : ℕ) (file : ListedFile) (found : Option Partition) (change : Changes Same v w) (inside : at < length files) (is : file ≡ get_or files at file) (is_key : key ≡ decorated p key.key) (on : IsLookingUp v.files p types key (drop at files) contents found v.reads w.reads) where
  here : (content : Content) → HasContent v.files p types file content → HasContent w.files p types file content
  here content = subst (λ (o : Option Folder). HasContent o p types file content) (sym (reads_same v w change))

  pub file_next : (part joined_part : Option Partition) → ((q : Partitioner) (content : Content) → HasContent w.files q types file content → key ≡ decorated q key.key → part ≡ map_.get (map_of q content) key)
      → ((q : Partitioner) (content : Content) → HasContent w.files q types file content → key ≡ decorated q key.key → u.reads ≤ w.reads + find_reads q key.key content) → joined_part ≡ joined found part
      → IsLookingUp v.files p types key (drop (at + 1) files) contents joined_part v.reads u.reads
  file_next part joined_part gives takes joins =
      looking_next v.files p types key contents v.reads files at file inside is found w.reads u.reads on part joined_part
      (λ content has. record { found_is = gives p content (here content has) is_key; reads = takes p content (here content has) is_key }) joins

  pub file_fails : ((q : Partitioner) (content : Content) → HasContent w.files q types file content → key ≡ decorated q key.key → u.reads ≤ w.reads + find_reads q key.key content) → u.reads ≤ v.reads + key_reads p key.key contents
  file_fails takes = looking_fails v.files p types key contents v.reads files at file inside is found w.reads u.reads on (λ content has. takes p content (here content has) is_key)

-- ---- map by map

step_maps : (key : DecoratedKey) (ms : List MemtableView) (at : ℕ) (found joined_part whole : Option Partition) → at < length ms → joined_part ≡ joined found (found_at ms at key) → found_in key found (maps_in (drop at ms)) ≡ whole
    → found_in key joined_part (maps_in (drop (suc at) ms)) ≡ whole
step_maps key [] at found joined_part whole inside joins so_far = absurd (omega (arith, inside))
step_maps key (m ∷ ms) zero found joined_part whole inside joins so_far = ap (λ (o : Option Partition). found_in key o (maps_in ms)) joins ∙ so_far
step_maps key (m ∷ ms) (suc at) found joined_part whole inside joins so_far = step_maps key ms at found joined_part whole (omega (arith, inside)) joins so_far

pub maps_next : (key : DecoratedKey) (ms : List MemtableView) (at : ℕ) (found joined_part whole : Option Partition) → at < length ms → joined_part ≡ joined found (found_at ms at key) → found_in key found (maps_in (drop at ms)) ≡ whole
    → found_in key joined_part (maps_in (drop (at + 1) ms)) ≡ whole
maps_next key ms at found joined_part whole inside joins so_far = rw add-one (step_maps key ms at found joined_part whole inside joins so_far)

pub maps_end : (key : DecoratedKey) (ms : List MemtableView) (at : ℕ) (found whole : Option Partition) → length ms ≤ at → found_in key found (maps_in (drop at ms)) ≡ whole → found ≡ whole
maps_end key ms at found whole most so_far = ap (λ (xs : List MemtableView). found_in key found (maps_in xs)) (sym (none_left ms at most)) ∙ so_far
