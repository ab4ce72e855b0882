-- The world of a plan over the current parts of a table.
use Rattle.std.proofs.Common.{◌≡◌, ℕ, suc, ◌-◌, Bool, true, false, cond, ◌||◌, nat_eq, is_some, List, [], ◌∷◌, ◌++◌, length, map, slice_get, Option, None, Some, refl, sym, ap, ap₂, subst, ◌∙◌, arith, append-nil}
use Rattle.std.proofs.lemmas.Bool.Decides.{nat_tests}
use Rattle.std.specs.FinMap.{get}
use Rattle.std.specs.List.{AllByRecursion, zip}
use Rattle.std.specs.Map.{lookup}
use Rattle.std.specs.Option.{option_map_or}
use Rattle.sasi_types.specs.declared.partitioner.Partitioner.{Partitioner}
use Rattle.sasi_types.specs.declared.partitioner.Partitioner.TheVariants.{Lead8}
use Rattle.sasi_host.specs.Names.{Folder}
use Rattle.sasi_host.specs.View.{IsSound, View}
use Rattle.sasi_cells.specs.Maps.{merged}
use Rattle.sasi_memtable.specs.MemtableView.{AreDecorated, MemtableView, empty_memtable}
use Rattle.sasi_model.specs.Abbreviations.{Partitions, types_of}
use Rattle.sasi_model.specs.Conditions.{Condition}
use Rattle.sasi_model.specs.State.{Definition, Index}
use Rattle.sasi_memindex.specs.Book.{Book, subjects}
use Rattle.sasi_memindex.specs.declared.map_part.MapPart.{MapPart}
use Rattle.sasi_memindex.specs.MemIndexView.{MemIndexView, Numbered, subject}
use Rattle.sasi_datawrite.specs.Format.{Content}
use Rattle.sasi_manifest.specs.declared.files.ListedFile.{ListedFile}
use Rattle.sasi_manifest.specs.declared.listing.Listing.{Listing}
use Rattle.sasi_manifest.specs.Consistent.{IsConsistent}
use Rattle.sasi_manifest.specs.Edits as edits
use Rattle.sasi_manifest.specs.ListedDefinition.{ListedDefinition}
use Rattle.sasi_manifest.specs.ListedFiles.{is_among}
use Rattle.sasi_scan.specs.Finding.{file_maps}
use Rattle.sasi_scan.proofs.KeyLookups.{parts_are, parts_decorated}
use Rattle.sasi_layout.specs.Layout.{File, Layout, TableParts, listed_of, table_of, unflushed}
use Rattle.sasi_layout.specs.Serving.{CanChange, Serves, TableInMemory, table_in_memory}
use Rattle.sasi_layout.specs.Shape.{HasFile}
use Rattle.sasi_tables.specs.Held.{HeldTable, in_memory as held_memory, map_in, maps_with, numbers_of, unflushed_maps}
use Rattle.sasi_views.specs.declared.part.Part as view
use Rattle.sasi_views.specs.declared.part.Part.TheVariants as view_part
use Rattle.sasi_candidates.specs.Costs.{files_of}
use Rattle.sasi_candidates.specs.LayoutParts.{part_of_file, part_of_map, parts_of}
use Rattle.sasi_candidates.specs.Parts.{Part, maps_of}
use Rattle.sasi_candidates.proofs.Answers.{maps_of_parts}
use Rattle.sasi_candidates.proofs.FileIndexes.{HasOwnIndexes, all_own}
use Rattle.sasi_engine.specs.declared.relation.IndexedRelation.{IndexedRelation}
use Rattle.sasi_engine.specs.Asked.{Asked}
use Rattle.sasi_engine.specs.HitCandidates.{PlanWorld, in_memory}
use Rattle.sasi_engine.specs.Plans.{map_numbers}
use Rattle.sasi_engine.specs.Views.{AreAsked, ArePartsOf, IsMapIn, IsMapOf, IsPlannedFor}
use Rattle.sasi_engine.specs.Findable as found
use Rattle.sasi_engine.specs.Findable.{HasIndexFor}
use Rattle.sasi_engine.specs.Findable.{CanFind}
use Rattle.sasi_scan.specs.Numbered.{views_numbered}
use Rattle.sasi_tables.specs.Held.{HasIndexes, IsIndexed, Subject, held_by, subject_in, subjects_of}
use Rattle.sasi_tables.specs.TablesView.{IsOfParts, held_in, memory_of, wanted_of}
use Rattle.sasi_tables.specs.ViewParts.{current_parts, file_part, listed_parts, table_numbers}
use Rattle.sasi_tables.specs.declared.parts.Parts.{Parts}
use Rattle.sasi_tables.specs.declared.table_maps.TableMaps.{TableMaps}
use Rattle.sasi_tables.proofs.HeldMaps.{first_in, in_all, later_in, mapped_there, one_there, unflushed_numbers}
use Rattle.sasi_tables.proofs.Unflushed.{storable_decorated}
use Rattle.sasi_layout.specs.Serving.{AreStorable}
use Rattle.sasi_types.specs.declared.column.ColumnType.{ColumnType}
use Rattle.std.specs.Prelude.{Contains}
use Rattle.std.proofs.lemmas.List.{map-append}
use Rattle.sasi_tables.proofs.TablesInMemory.{all_at, all_push, inside_there, map_there, ready_in_memory, seen_as, shaped_at, there_inside}

-- ---- the parts of a table

-- **The merge of the parts is the table.**
pub merged_table : (t : TableParts) → (table_of t).partitions ≡ merged (maps_of (parts_of t))
merged_table t = sym (ap merged (maps_of_parts t))

module _ (t : TableParts) where
  on_disk : (fs : List File) (ms : List Partitions) → files_of (map (part_of_file t) fs ++ map part_of_map ms) ≡ map (part_of_file t) fs
  on_disk [] [] = refl
  on_disk [] (m ∷ ms) = on_disk [] ms
  on_disk (f ∷ fs) ms = ap (λ (ps : List Part). part_of_file t f ∷ ps) (on_disk fs ms)

  maps_alone : (fs : List File) (ms : List Partitions) → in_memory (map (part_of_file t) fs ++ map part_of_map ms) ≡ map part_of_map ms
  maps_alone [] [] = refl
  maps_alone [] (m ∷ ms) = ap (λ (ps : List Part). part_of_map m ∷ ps) (maps_alone [] ms)
  maps_alone (f ∷ fs) ms = maps_alone fs ms

  -- its data files come before its maps
  pub files_first : parts_of t ≡ files_of (parts_of t) ++ in_memory (parts_of t)
  files_first = ap₂ (λ (xs ys : List Part). xs ++ ys) (sym (on_disk t.files (unflushed t))) (sym (maps_alone t.files (unflushed t)))

-- its maps
view_numbers : (fs : List ListedFile) (ns : List ℕ) → map_numbers (listed_parts fs ns) ≡ ns
view_numbers [] [] = refl
view_numbers [] (n ∷ ns) = ap (λ (l : List ℕ). n ∷ l) (view_numbers [] ns)
view_numbers (f ∷ fs) ns = view_numbers fs ns

-- ---- tokens

-- the maps of data files, by their contents
file_contents : (folder : Folder) (p : Partitioner) (d : Definition) (numbers : List ℕ) (fs : List File) → AllByRecursion (HasFile folder p d numbers) fs → (contents : List Content) × (map (λ (f : File). f.holds) fs ≡ file_maps p contents)
file_contents folder p d numbers [] all = ([], refl)
file_contents folder p d numbers (f ∷ fs) all = (let rest = file_contents folder p d numbers fs all.1 in (all.0.content ∷ rest.0, ap₂ (λ (m : Partitions) ms. m ∷ ms) all.0.holds rest.1))

-- where the maps' keys have their tokens, those of all parts have them
merge_decorated : (p : Partitioner) (contents : List Content) (t : TableParts) (ms : List MemtableView) → map (λ (f : File). f.holds) t.files ≡ file_maps p contents → unflushed t ≡ map (λ (m : MemtableView). m.partitions) ms
    → AllByRecursion (λ (m : MemtableView). AreDecorated p m.partitions) ms → AreDecorated p (merged (maps_of (parts_of t)))
merge_decorated p contents t ms files maps own =
    subst (λ (xs : List Partitions). AreDecorated p (merged xs)) (sym (maps_of_parts t ∙ ap₂ (λ (xs ys : List Partitions). xs ++ ys) files maps ∙ sym (parts_are p contents ms))) (parts_decorated p contents ms own)

-- ---- a map with its indexes

-- the relation's index is one of the table's, by its number
abbrev pub IsIndexedBy : ListedDefinition → IndexedRelation → Type 0
IsIndexedBy t relation = is_some (lookup (nat_eq relation.index) (zip t.numbers t.definition.indexes)) ≡ true

other_way : (a b : ℕ) → nat_eq a b ≡ nat_eq b a
other_way a b = grind (arith, nat_tests)

-- where there are as many numbers as indexes, each number is that of an index
pub among_numbered : (number : ℕ) (ns : List ℕ) (indexes : List Index) → length ns ≡ length indexes → is_among ns number ≡ true → is_some (lookup (nat_eq number) (zip ns indexes)) ≡ true
among_numbered number [] indexes counted among = cc
among_numbered number (n ∷ ns) [] counted among = absurd (omega (arith, counted))
among_numbered number (n ∷ ns) (i ∷ indexes) counted among = by (nat_eq number n) among (among_numbered number ns indexes (omega (arith, counted)))
  where
    by : (b : Bool) → (b || is_among ns number) ≡ true → (is_among ns number ≡ true → is_some (lookup (nat_eq number) (zip ns indexes)) ≡ true) → is_some (cond b (Some i) (lookup (nat_eq number) (zip ns indexes))) ≡ true
    by true is rest = refl
    by false is rest = rest is

-- an index by its number, and where it stands
record HasNumbered (number : ℕ) (kept : Numbered) : Type 0 where
  pub position : ℕ
  pub index : ℕ × MemIndexView
  pub listed : slice_get kept position ≡ Some index
  pub there : lookup (λ n. nat_eq n number) kept ≡ Some index.1

module _ (d : Definition) (number : ℕ) where
  numbered_there : (ns : List ℕ) (indexes : List Index) (kept : Numbered) → subjects kept ≡ zip ns (map (subject_in d) indexes) → is_some (lookup (nat_eq number) (zip ns indexes)) ≡ true → HasNumbered number kept
  numbered_there [] indexes kept same some = cc
  numbered_there (n ∷ ns) [] kept same some = cc
  numbered_there (n ∷ ns) (i ∷ indexes) [] same some = cc
  numbered_there (n ∷ ns) (i ∷ indexes) (x ∷ kept) same some = by (nat_eq number n) refl some (numbered_there ns indexes kept others)
    where
      heads : ◌≡◌ {A = Subject} (x.0, subject x.1) (n, subject_in d i)
      heads = cc

      others : subjects kept ≡ zip ns (map (subject_in d) indexes)
      others = cc

      tested : (b : Bool) → nat_eq number n ≡ b → nat_eq x.0 number ≡ b
      tested b is = other_way x.0 number ∙ ap (λ (s : Subject). nat_eq number s.0) heads ∙ is

      by : (b : Bool) → nat_eq number n ≡ b → is_some (cond b (Some i) (lookup (nat_eq number) (zip ns indexes))) ≡ true → (is_some (lookup (nat_eq number) (zip ns indexes)) ≡ true → HasNumbered number kept) → HasNumbered number (x ∷ kept)
      by true is here later = record { position = 0; index = x; listed = refl; there = ap (λ b. cond b (Some x.1) (lookup (λ n. nat_eq n number) kept)) (tested true is) }
      by false isnt there later =
          (let rest = later there in
          record { position = suc rest.position; index = rest.index; listed = rest.listed; there = ap (λ b. cond b (Some x.1) (lookup (λ n. nat_eq n number) kept)) (tested false isnt) ∙ rest.there })

-- a map with the indexes of a table has those of the relations
indexes_found : (t : ListedDefinition) (part : MapPart) → IsIndexed (subjects_of t) part → (relations : List IndexedRelation) → AllByRecursion (IsIndexedBy t) relations → AllByRecursion (HasIndexFor part) relations
indexes_found t part is [] all = tt
indexes_found t part is (r ∷ relations) all =
    let has = numbered_there t.definition r.index t.numbers t.definition.indexes part.indexes is.subjects_are all.0 in
    (record { index = has.index.1; there = has.there; is = (is.kept has.position has.index has.listed).is }, indexes_found t part is relations all.1)

map_found : (t : ListedDefinition) (o : Option MapPart) → HasIndexes (subjects_of t) o → (relations : List IndexedRelation) → AllByRecursion (IsIndexedBy t) relations → found.HasIndexes relations o
map_found t None has relations all = absurd has
map_found t (Some part) has relations all = indexes_found t part has relations all

parts_found : (book : Book) (relations : List IndexedRelation) (fs : List ListedFile) (ns : List ℕ) → AllByRecursion (λ n. found.HasIndexes relations (get book n)) ns → AllByRecursion (CanFind book relations) (listed_parts fs ns)
parts_found book relations [] [] has = tt
parts_found book relations [] (n ∷ ns) has = (has.0, parts_found book relations [] ns has.1)
parts_found book relations (f ∷ fs) ns has = (tt, parts_found book relations fs ns has)

-- **The relations can be found in the current parts of a table**, where each has one of the table's indexes.
pub view_finds : (p : Parts) → IsOfParts p → (number : ℕ) (t : ListedDefinition) → slice_get p.manifest.listing.tables (number - 1) ≡ Some t → (relations : List IndexedRelation) → AllByRecursion (IsIndexedBy t) relations
    → AllByRecursion (CanFind p.maps relations) (current_parts p number)
view_finds p of number t there relations all =
    let wanted : slice_get (wanted_of p) (number - 1) ≡ Some (subjects_of t) = map_there subjects_of p.manifest.listing.tables (number - 1) t there in
    let own = inside_there p.tables.items (number - 1) (omega (arith, of.mapped.counted, there_inside (wanted_of p) (number - 1) (subjects_of t) wanted)) in
    subst (λ (ns : List ℕ). AllByRecursion (CanFind p.maps relations) (listed_parts (edits.files_of p.manifest.listing.tables number) ns))
    (sym (ap (λ (o : Option TableMaps). option_map_or numbers_of o []) own.1))
    (parts_found p.maps relations (edits.files_of p.manifest.listing.tables number) (numbers_of own.0)
    (in_all (λ n. found.HasIndexes relations (get p.maps n)) (numbers_of own.0)
    (λ n has. map_found t (get p.maps n) (of.mapped.indexed (number - 1) own.0 (subjects_of t) n own.1 wanted has) relations all)))

-- ---- the maps of a view

-- maps that are there
views_are : (book : Book) (ns : List ℕ) → ((n : ℕ) → Contains ns n → (part : MapPart) × (get book n ≡ Some part)) → views_numbered book ns ≡ map (map_in book) ns
views_are book [] there = refl
views_are book (n ∷ ns) there =
    let part = there n (first_in n ns) in
    let rest = views_are book ns (λ k has. there k (later_in n ns k has)) in
    ap₂ (λ (o : Option MapPart) (l : List MemtableView). option_map_or (λ (part : MapPart). part.map ∷ []) o [] ++ l) part.1 rest
    ∙ ap (λ (o : Option MapPart). option_map_or (λ (part : MapPart). part.map) o (empty_memtable Lead8) ∷ map (map_in book) ns) (sym part.1)

-- **The maps of a view are those of its table**, the frozen ones and the memtable.
pub view_memtables : (p : Parts) → IsOfParts p → (number : ℕ) (h : HeldTable) → slice_get (held_in p) (number - 1) ≡ Some h → views_numbered p.maps (map_numbers (current_parts p number)) ≡ h.frozen ++ h.memtable ∷ []
view_memtables p of number h there =
    let own = seen_as (held_by p.maps) p.tables.items (number - 1) h there in
    ap (views_numbered p.maps) (view_numbers (edits.files_of p.manifest.listing.tables number) (table_numbers p.tables.items number) ∙ ap (λ (o : Option TableMaps). option_map_or numbers_of o []) own.1)
    ∙ views_are p.maps (numbers_of own.0) (λ n has. let is = mapped_there p.maps p.last_map (wanted_of p) p.tables.items of.mapped (number - 1) own.0 own.1 n has in (is.0, is.3))
    ∙ map-append (map_in p.maps) own.0.frozen (own.0.memtable ∷ [])
    ∙ ap (λ (x : HeldTable). x.frozen ++ x.memtable ∷ []) own.2

-- ---- the parts of a view

module _ (folder : Folder) (p : Partitioner) (t : TableParts) (book : Book) where
  -- data files in front of other parts
  files_are : (fs : List File) → AllByRecursion (HasFile folder p t.definition t.numbers) fs → (vs : List view.Part) (ps : List Part) → ArePartsOf folder p t book vs ps
      → ArePartsOf folder p t book (map file_part (map (λ (f : File). f.listed) fs) ++ vs) (map (part_of_file t) fs ++ ps)
  files_are [] have vs ps are = are
  files_are (f ∷ fs) have vs ps are = (record { file = f; has = have.0; number_is = refl; indexes_are = refl; part_is = refl }, files_are fs have.1 vs ps are)

-- ---- the world

-- a WHERE with these conditions and relations, over the current parts of the table with this number
abbrev pub view_world : Folder → Parts → ℕ → TableParts → List IndexedRelation → List Condition → PlanWorld
view_world folder p number t relations conditions = record {
  folder = folder;
  partitioner = p.manifest.listing.partitioner;
  table = t;
  types = types_of t.definition;
  relations = relations;
  listed = current_parts p number;
  conditions = conditions;
  parts = parts_of t;
}

module _ (v : View) (sound : IsSound v) (p : Parts) (of : IsOfParts p) (ready : CanChange v (memory_of p)) (number : ℕ) (l : Layout) (serves : Serves v (memory_of p) l) (t : TableParts) (there : slice_get l.tables (number - 1) ≡ Some t) where
  abbrev at : ℕ
  at = number - 1

  abbrev q : Partitioner
  q = p.manifest.listing.partitioner

  under : l.partitioner ≡ q
  under = sym (ap (λ (k : Listing). k.partitioner) serves.listing)

  listed : slice_get p.manifest.listing.tables at ≡ Some (listed_of t)
  listed = ap (λ (k : Listing). slice_get k.tables at) serves.listing ∙ map_there listed_of l.tables at t there

  -- ---- its map

  pub held : (h : HeldTable) × (slice_get (held_in p) at ≡ Some h) × (held_memory h ≡ table_in_memory t)
  held = seen_as held_memory (held_in p) at (table_in_memory t) (ap (λ (ts : List TableInMemory). slice_get ts at) serves.tables ∙ map_there table_in_memory l.tables at t there)

  own : (x : TableMaps) × (slice_get p.tables.items at ≡ Some x) × (held_by p.maps x ≡ held.0)
  own = seen_as (held_by p.maps) p.tables.items at held.0 held.1

  abbrev views : List MemtableView
  views = held.0.frozen ++ held.0.memtable ∷ []

  partitions_are : unflushed_maps (held_memory held.0) ≡ map (λ (m : MemtableView). m.partitions) views
  partitions_are = sym (map-append (λ (m : MemtableView). m.partitions) held.0.frozen (held.0.memtable ∷ []))

  unflushed_is : unflushed t ≡ map (λ (m : MemtableView). m.partitions) views
  unflushed_is = ap unflushed_maps (sym held.2) ∙ partitions_are

  numbered_is : unflushed t ≡ maps_with p.maps (numbers_of own.0)
  numbered_is = ap unflushed_maps (sym held.2) ∙ ap (λ (h : HeldTable). unflushed_maps (held_memory h)) (sym own.2) ∙ sym (unflushed_numbers p.maps own.0)

  -- each map has the indexes of the table
  map_is : (n : ℕ) → Contains (numbers_of own.0) n → IsMapIn t (get p.maps n) (part_of_map (map_in p.maps n).partitions)
  map_is n has =
      let mapped = mapped_there p.maps p.last_map (wanted_of p) p.tables.items of.mapped at own.0 own.1 n has in
      let is : IsMapOf t mapped.0 (part_of_map (map_in p.maps n).partitions) = record {
        part_is = ap (λ (o : Option MapPart). part_of_map (option_map_or (λ (part : MapPart). part.map) o (empty_memtable Lead8)).partitions) mapped.3;
        own = mapped.0.indexes;
        later = [];
        indexes_are = sym (append-nil mapped.0.indexes);
        subjects_are = mapped.4.subjects_are ∙ one_there mapped.1 (subjects_of (listed_of t)) (slice_get (wanted_of p) at) mapped.2 (map_there subjects_of p.manifest.listing.tables at (listed_of t) listed);
        kept = mapped.4.kept;
      } in
      subst (λ (o : Option MapPart). IsMapIn t o (part_of_map (map_in p.maps n).partitions)) (sym mapped.3) is

  decorated_maps : AllByRecursion (λ (m : MemtableView). AreDecorated q m.partitions) views
  decorated_maps =
      let is = ready_in_memory q p.manifest.listing.floor p.manifest.listing.last at (memory_of p).definitions (memory_of p).tables (held_memory held.0) ready.tables (map_there held_memory (held_in p) at held.0 held.1) in
      all_push (λ (m : MemtableView). AreDecorated q m.partitions) held.0.frozen held.0.memtable (each (types_of is.0) held.0.frozen is.1.frozen) (storable_decorated q (types_of is.0) held.0.memtable.partitions is.1.memtable)
    where
      each : (types : List ColumnType) (ms : List MemtableView) → AllByRecursion (AreStorable q types) (map (λ (m : MemtableView). m.partitions) ms) → AllByRecursion (λ (m : MemtableView). AreDecorated q m.partitions) ms
      each types [] all = tt
      each types (m ∷ ms) all = (storable_decorated q types m.partitions all.0, each types ms all.1)

  -- ---- its parts

  view_is : current_parts p number ≡ listed_parts (map (λ (f : File). f.listed) t.files) (numbers_of own.0)
  view_is =
      ap₂ listed_parts (ap (λ (o : Option ListedDefinition). option_map_or (λ (d : ListedDefinition). d.files) o []) listed)
      (ap (λ (o : Option TableMaps). option_map_or numbers_of o []) own.1)

  parts_is : parts_of t ≡ map (part_of_file t) t.files ++ map part_of_map (maps_with p.maps (numbers_of own.0))
  parts_is = ap (λ (ms : List Partitions). map (part_of_file t) t.files ++ map part_of_map ms) numbered_is

  pub own_indexes : HasOwnIndexes t
  own_indexes = all_at HasOwnIndexes at l.tables t (all_own l (subst IsConsistent serves.listing ready.consistent)) there

  module _ (folder : Folder) (now : v.files ≡ Some folder) where
    have : AllByRecursion (HasFile folder l.partitioner t.definition t.numbers) t.files
    have = shaped_at folder l.partitioner l.floor 1 (serves.older ++ serves.current ∷ []) l.tables at t (serves.shape folder (sound.reads folder now)).tables there

    maps_are : (ns : List ℕ) → ((n : ℕ) → Contains ns n → IsMapIn t (get p.maps n) (part_of_map (map_in p.maps n).partitions)) → ArePartsOf folder l.partitioner t p.maps (map (λ n. view_part.Map n) ns) (map part_of_map (maps_with p.maps ns))
    maps_are [] each = tt
    maps_are (n ∷ ns) each = (each n (first_in n ns), maps_are ns (λ k has. each k (later_in n ns k has)))

    listed_are : ArePartsOf folder l.partitioner t p.maps (listed_parts (map (λ (f : File). f.listed) t.files) (numbers_of own.0)) (map (part_of_file t) t.files ++ map part_of_map (maps_with p.maps (numbers_of own.0)))
    listed_are =
        files_are folder l.partitioner t p.maps t.files have (map (λ n. view_part.Map n) (numbers_of own.0)) (map part_of_map (maps_with p.maps (numbers_of own.0))) (maps_are (numbers_of own.0) map_is)

    -- **The current parts are those of the layout's table.**
    view_parts_are : ArePartsOf folder q t p.maps (current_parts p number) (parts_of t)
    view_parts_are =
        subst (λ (r : Partitioner). ArePartsOf folder r t p.maps (current_parts p number) (parts_of t)) under
        (subst (λ (vs : List view.Part). ArePartsOf folder l.partitioner t p.maps vs (parts_of t)) (sym view_is)
        (subst (λ (ps : List Part). ArePartsOf folder l.partitioner t p.maps (listed_parts (map (λ (f : File). f.listed) t.files) (numbers_of own.0)) ps) (sym parts_is) listed_are))

    -- each key stands under its own token
    pub view_tokens : AreDecorated q (merged (maps_of (parts_of t)))
    view_tokens =
        let contents = file_contents folder q t.definition t.numbers t.files (subst (λ (r : Partitioner). AllByRecursion (HasFile folder r t.definition t.numbers) t.files) under have) in
        merge_decorated q contents.0 t views contents.1 unflushed_is decorated_maps

    -- **A plan for these relations is one for the current parts.**
    pub view_planned : (relations : List IndexedRelation) (asked : List Asked) → AreAsked t relations asked → IsPlannedFor folder q t p.maps (types_of t.definition) relations (current_parts p number) asked (parts_of t)
    view_planned relations asked are = record { own = own_indexes; types_are = refl; relations_are = are; parts_are = view_parts_are }
