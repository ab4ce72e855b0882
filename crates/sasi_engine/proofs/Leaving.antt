-- What the streams of a plan leave are the lists of hits.
use Rattle.std.proofs.Common.{◌≡◌, ℕ, suc, ◌≤◌, Bool, true, false, cond, nat_eq, is_some, List, [], ◌∷◌, ◌++◌, map, Option, None, Some, refl, sym, ap, ap₂, subst, ◌∙◌}
use Rattle.std.specs.FinMap.{get}
use Rattle.std.specs.List.{AllByRecursion, filter}
use Rattle.std.specs.List.Sorted.{IsStrictlySortedBy}
use Rattle.sasi_types.specs.declared.column.ColumnType.{ColumnType}
use Rattle.sasi_types.specs.declared.decorated_key.DecoratedKey.{DecoratedKey}
use Rattle.sasi_types.specs.declared.partitioner.Partitioner.{Partitioner}
use Rattle.sasi_types.specs.declared.tree.Pair.{Pair}
use Rattle.sasi_types.specs.DecoratedKey.{decorated_cmp}
use Rattle.sasi_host.specs.Names.{Folder}
use Rattle.sasi_model.specs.Abbreviations.{Partitions, types_of}
use Rattle.sasi_model.specs.Conditions.{Search}
use Rattle.sasi_model.specs.Indexes.{index_on}
use Rattle.sasi_model.specs.State.{Index}
use Rattle.sasi_manifest.specs.declared.files.PartNumber.{PartNumber}
use Rattle.sasi_memindex.specs.Book.{Book}
use Rattle.sasi_memindex.specs.declared.map_part.MapPart.{MapPart}
use Rattle.sasi_manifest.specs.ListedFiles.{index_name}
use Rattle.sasi_datawrite.specs.Files.{IsDataFile}
use Rattle.sasi_datawrite.specs.Format.{Content, key_pairs}
use Rattle.sasi_layout.specs.Layout.{File, TableParts}
use Rattle.sasi_layout.specs.Shape.{HasFile, map_of}
use Rattle.sasi_views.specs.declared.part.Part as view
use Rattle.sasi_views.specs.declared.part.Part.TheVariants as view_part
use Rattle.sasi_ranges.specs.declared.entry.Entry.{Entry}
use Rattle.sasi_ranges.specs.EachStream.{EachLeaves}
use Rattle.sasi_candidates.specs.Costs.{has_index}
use Rattle.sasi_candidates.specs.LayoutParts.{part_of_file, part_of_map}
use Rattle.sasi_candidates.specs.Parts.{Part, hit_in_index, hit_on_disk}
use Rattle.sasi_candidates.specs.Searches.{keyed}
use Rattle.sasi_candidates.proofs.FileIndexes.{HasOwnIndexes}
use Rattle.sasi_hits.specs.declared.hits.Hits.{Hits}
use Rattle.sasi_hits.specs.Hits.{Leaves}
use Rattle.sasi_hits.specs.HitPairs.{AreHits}
use Rattle.sasi_hits.specs.MapHits.{key_hits}
use Rattle.sasi_hits.specs.Pairs.{entries_of}
use Rattle.sasi_hits.proofs.PartHits.{index_hits, pairs_of}
use Rattle.sasi_engine.specs.declared.relation.IndexedRelation.{IndexedRelation}
use Rattle.sasi_engine.specs.Asked.{Asked, first_lacking, hit_pairs, indexed_in, is_hit, keys_of}
use Rattle.sasi_engine.specs.HitLists.{hit_lists, key_list, own_lists, part_lists}
use Rattle.sasi_engine.specs.Views.{AreAsked, ArePartsOf, IsAsked, IsMapIn, IsMapOf, IsPartOf, IsPlannedFor}
use Rattle.sasi_engine.specs.inside.Found.{found_in}
use Rattle.sasi_engine.specs.inside.Sources.{AreStreams, IsStream, OfIndex, Planned, all_sources, file_sources, found_sources, has_part, key_source, map_sources, own_source, own_sources, part_bits, part_for, part_sources}
use Rattle.sasi_engine.proofs.FileLaws.{content_is, own_file, part_column}
use Rattle.sasi_engine.proofs.FoundLaws.{found_hits, hits_rise}

-- an index of the table isn't on the key
pub regular_column : (index : Index) (column : ℕ) (indexes : List Index) → AllByRecursion (λ (i : Index). 1 ≤ i.column) indexes → index_on column indexes ≡ Some index → 1 ≤ index.column
regular_column index column [] all found = cc
regular_column index column (i ∷ indexes) all found = by (nat_eq i.column column) found (regular_column index column indexes all.1)
  where
    by : (b : Bool) → cond b (Some i) (index_on column indexes) ≡ Some index → (index_on column indexes ≡ Some index → 1 ≤ index.column) → 1 ≤ index.column
    by true is later = (let same : i ≡ index = cc in subst (λ (x : Index). 1 ≤ x.column) same all.0)
    by false is later = later is

-- ---- planned streams

module _ (folder : Folder) where
  -- each stream that is planned so leaves the list
  abbrev pub WouldLeave : Planned → List Entry → Type 0
  WouldLeave one l = (s : Hits) → IsStream one.source one.leaf one.part s → Leaves s (Some folder) l

  abbrev pub AllLeave : List Planned → List (List Entry) → Type 0
  AllLeave [] [] = Unit {0}
  AllLeave [] (l ∷ ls) = ⊥
  AllLeave (q ∷ qs) [] = ⊥
  AllLeave (q ∷ qs) (l ∷ ls) = WouldLeave q l × AllLeave qs ls

  leave_append : (qs : List Planned) (ls : List (List Entry)) (rs : List Planned) (ms : List (List Entry)) → AllLeave qs ls → AllLeave rs ms → AllLeave (qs ++ rs) (ls ++ ms)
  leave_append [] [] rs ms all others = others
  leave_append [] (l ∷ ls) rs ms all others = absurd all
  leave_append (q ∷ qs) [] rs ms all others = absurd all
  leave_append (q ∷ qs) (l ∷ ls) rs ms all others = (all.0, leave_append qs ls rs ms all.1 others)

  each_leaves : (qs : List Planned) (ls : List (List Entry)) (ss : List Hits) → AllLeave qs ls → AreStreams qs ss → EachLeaves Leaves (Some folder) ss ls
  each_leaves [] [] [] all are = tt
  each_leaves [] [] (s ∷ ss) all are = absurd are
  each_leaves [] (l ∷ ls) ss all are = absurd all
  each_leaves (q ∷ qs) [] ss all are = absurd all
  each_leaves (q ∷ qs) (l ∷ ls) [] all are = absurd are
  each_leaves (q ∷ qs) (l ∷ ls) (s ∷ ss) all are = (all.0 s are.0, each_leaves qs ls ss all.1 are.1)

  -- ---- a data file

  module _ (p : Partitioner) (t : TableParts) (own : HasOwnIndexes t) (f : File) (has : HasFile folder p t.definition t.numbers f) where
    abbrev parts : List PartNumber
    parts = f.listed.parts

    -- all keys
    keys_leave : (types : List ColumnType) → types ≡ types_of t.definition → (at : ℕ) (o : Option ℕ) → AllLeave (key_source f.listed.number types at o) (key_list p at (part_of_file t f) o)
    keys_leave types types_are at None = tt
    keys_leave types types_are at (Some leaf) = (
      (λ s is.
          subst (λ (c : Content). Leaves s (Some folder) (entries_of leaf at (key_pairs p c))) (sym (content_is folder p t f has))
          (is.leaves (Some folder) has.bytes p has.content
          (record { reads = has.there; data_file = subst (λ (ts : List ColumnType). IsDataFile p ts has.bytes has.content) (sym types_are) has.data_file; keys = has.keys }))),
      tt,
    )

    module _ (r : IndexedRelation) (a : Asked) (is_asked : IsAsked t r a) where
      column_there : has_part parts r ≡ has_index a.index (part_of_file t f).origin
      column_there = part_column folder p t own f.listed.number has.content r a is_asked parts has.indexes

      -- the hits of the index file are those of the part
      same_hits : has_part parts r ≡ true → pairs_of (λ q. hit_in_index a.index a.search (map_of p has.content) q) (keyed p has.content) ≡ hit_pairs p a (part_of_file t f)
      same_hits there =
          let indexed : has_index a.index (part_of_file t f).origin ≡ true = sym column_there ∙ there in
          ap (λ (m : Partitions). pairs_of (λ q. hit_in_index a.index a.search m q) (keyed p has.content)) (sym has.holds)
          ∙ ap (λ b. pairs_of (λ q. hit_on_disk b a.index a.search f.holds q) (keyed p has.content)) (sym indexed)
          ∙ ap (λ (c : Content). pairs_of (is_hit a (part_of_file t f)) (keyed p c)) (sym (content_is folder p t f has))

      index_leaves : (part : PartNumber) → part_for r.index parts ≡ Some part → (leaf at : ℕ)
          → WouldLeave (record { source = OfIndex (index_name f.listed.number part) r.op r.words; leaf = leaf; part = at }) (entries_of leaf at (hit_pairs p a (part_of_file t f)))
      index_leaves part found leaf at s is =
          let file = own_file folder p t own f.listed.number has.content r a is_asked parts has.indexes part found in
          let op_is : r.op ≡ a.search.op = ap (λ (x : Search). x.op) (sym is_asked.search_is) in
          let words_are : r.words ≡ a.search.words = ap (λ (x : Search). x.words) (sym is_asked.search_is) in
          is.leaves (Some folder) file.bytes file.stands.content (hit_pairs p a (part_of_file t f))
          (record { reads = file.there; index_file = file.stands.file_is })
          (subst (λ (l : List Pair). AreHits file.stands.content r.op r.words None 0 l) (same_hits (ap is_some found))
          (subst (λ (x : Search). AreHits file.stands.content x.op x.words None 0 (pairs_of (λ q. hit_in_index a.index a.search (map_of p has.content) q) (keyed p has.content))) is_asked.search_is
          (index_hits p t.definition a.index has.bytes file.bytes has.content has.data_file file.stands (regular_column a.index a.index.column t.definition.indexes own.regular is_asked.defined) a.search is_asked.can is_asked.some)))

    -- the relations' own hits
    own_leave : (at leaf : ℕ) (relations : List IndexedRelation) (asked : List Asked) → AreAsked t relations asked → AllLeave (own_sources f.listed.number parts at leaf relations) (own_lists p at (part_of_file t f) leaf asked)
    own_leave at leaf [] [] are = tt
    own_leave at leaf [] (a ∷ asked) are = absurd are
    own_leave at leaf (r ∷ relations) [] are = absurd are
    own_leave at leaf (r ∷ relations) (a ∷ asked) are =
        by (part_for r.index parts) refl (has_index a.index (part_of_file t f).origin) (sym (column_there r a are.0)) (own_leave at (suc leaf) relations asked are.1)
      where
        mine : List Entry
        mine = entries_of leaf at (hit_pairs p a (part_of_file t f))

        by : (o : Option PartNumber) → part_for r.index parts ≡ o → (b : Bool) → b ≡ has_part parts r
            → AllLeave (own_sources f.listed.number parts at (suc leaf) relations) (own_lists p at (part_of_file t f) (suc leaf) asked)
            → AllLeave (own_source f.listed.number at leaf r o ++ own_sources f.listed.number parts at (suc leaf) relations) (cond b (mine ∷ own_lists p at (part_of_file t f) (suc leaf) asked) (own_lists p at (part_of_file t f) (suc leaf) asked))
        by None none true has_it rest = (let no : true ≡ false = has_it ∙ ap is_some none in cc)
        by None none false has_it rest = rest
        by (Some part) found true has_it rest = (index_leaves r a are.0 part found leaf at, rest)
        by (Some part) found false has_it rest = (let no : false ≡ true = has_it ∙ ap is_some found in cc)

    pub bits_are : (relations : List IndexedRelation) (asked : List Asked) → AreAsked t relations asked → map (has_part parts) relations ≡ indexed_in asked (part_of_file t f)
    bits_are [] [] are = refl
    bits_are [] (a ∷ asked) are = absurd are
    bits_are (r ∷ relations) [] are = absurd are
    bits_are (r ∷ relations) (a ∷ asked) are = ap₂ (λ b l. b ∷ l) (column_there r a are.0) (bits_are relations asked are.1)

    file_leaves : (types : List ColumnType) → types ≡ types_of t.definition → (relations : List IndexedRelation) (asked : List Asked) → AreAsked t relations asked → (at : ℕ)
        → AllLeave (file_sources types relations at f.listed.number parts) (part_lists p asked at (part_of_file t f))
    file_leaves types types_are relations asked are at =
        leave_append (key_source f.listed.number types at (first_lacking 0 (map (has_part parts) relations))) (key_list p at (part_of_file t f) (first_lacking 0 (indexed_in asked (part_of_file t f))))
        (own_sources f.listed.number parts at 0 relations) (own_lists p at (part_of_file t f) 0 asked)
        (subst (λ (bits : List Bool). AllLeave (key_source f.listed.number types at (first_lacking 0 (map (has_part parts) relations))) (key_list p at (part_of_file t f) (first_lacking 0 bits))) (bits_are relations asked are)
        (keys_leave types types_are at (first_lacking 0 (map (has_part parts) relations))))
        (own_leave at 0 relations asked are)

  -- ---- a map

  module _ (p : Partitioner) (t : TableParts) (m : MapPart) (part : Part) (is_map : IsMapOf t m part) where
    abbrev own_part : Part
    own_part = part_of_map m.map.partitions

    found_leave : (at leaf : ℕ) (relations : List IndexedRelation) (asked : List Asked) → AreAsked t relations asked → AllLeave (found_sources m at leaf relations) (own_lists p at own_part leaf asked)
    found_leave at leaf [] [] are = tt
    found_leave at leaf [] (a ∷ asked) are = absurd are
    found_leave at leaf (r ∷ relations) [] are = absurd are
    found_leave at leaf (r ∷ relations) (a ∷ asked) are = (
      (λ s is.
          (let keys : found_in m r ≡ filter (is_hit a own_part) (keys_of m.map.partitions) = found_hits t m part is_map r a are.0 ∙ ap (λ (x : Part). filter (is_hit a x) (keys_of x.holds)) is_map.part_is in
          subst (λ (ks : List DecoratedKey). Leaves s (Some folder) (key_hits leaf at ks)) keys
          (is.leaves (Some folder) (subst (IsStrictlySortedBy decorated_cmp) (sym keys) (hits_rise m.map.partitions (is_hit a own_part)))))),
      found_leave at (suc leaf) relations asked are.1,
    )

    none_lacks : (n : ℕ) (asked : List Asked) → first_lacking n (indexed_in asked own_part) ≡ None
    none_lacks n [] = refl
    none_lacks n (a ∷ asked) = none_lacks (suc n) asked

    map_leaves : (relations : List IndexedRelation) (asked : List Asked) → AreAsked t relations asked → (at : ℕ) → AllLeave (found_sources m at 0 relations) (part_lists p asked at part)
    map_leaves relations asked are at =
        subst (λ (x : Part). AllLeave (found_sources m at 0 relations) (part_lists p asked at x)) (sym is_map.part_is)
        (subst (λ (o : Option ℕ). AllLeave (found_sources m at 0 relations) (key_list p at own_part o ++ own_lists p at own_part 0 asked)) (sym (none_lacks 0 asked)) (found_leave at 0 relations asked are))

    pub map_bits : (relations : List IndexedRelation) (asked : List Asked) → AreAsked t relations asked → map (λ (r : IndexedRelation). true) relations ≡ indexed_in asked own_part
    map_bits [] [] are = refl
    map_bits [] (a ∷ asked) are = absurd are
    map_bits (r ∷ relations) [] are = absurd are
    map_bits (r ∷ relations) (a ∷ asked) are = ap (λ (l : List Bool). true ∷ l) (map_bits relations asked are.1)

  -- ---- all parts

  module _ (p : Partitioner) (t : TableParts) (own : HasOwnIndexes t) (book : Book) (types : List ColumnType) (types_are : types ≡ types_of t.definition) (relations : List IndexedRelation) (asked : List Asked) (are : AreAsked t relations asked) where
    map_part_leaves : (at : ℕ) (o : Option MapPart) (part : Part) → IsMapIn t o part → AllLeave (map_sources relations at o) (part_lists p asked at part)
    map_part_leaves at None part is = absurd is
    map_part_leaves at (Some m) part is = map_leaves p t m part is relations asked are at

    part_leaves : (at : ℕ) (v : view.Part) (part : Part) → IsPartOf folder p t book v part → AllLeave (part_sources book types relations at v) (part_lists p asked at part)
    part_leaves at (view_part.File number indexes) part is =
        subst (λ (x : Part). AllLeave (file_sources types relations at number indexes) (part_lists p asked at x)) (sym is.part_is)
        (subst (λ (n : ℕ). AllLeave (file_sources types relations at n indexes) (part_lists p asked at (part_of_file t is.file))) (sym is.number_is)
        (subst (λ (ps : List PartNumber). AllLeave (file_sources types relations at is.file.listed.number ps) (part_lists p asked at (part_of_file t is.file))) (sym is.indexes_are)
        (file_leaves p t own is.file is.has types types_are relations asked are at)))
    part_leaves at (view_part.Map number) part is = map_part_leaves at (get book number) part is

    parts_leave : (at : ℕ) (vs : List view.Part) (ps : List Part) → ArePartsOf folder p t book vs ps → AllLeave (all_sources book types relations at vs) (hit_lists p asked at ps)
    parts_leave at [] [] is = tt
    parts_leave at [] (q ∷ ps) is = absurd is
    parts_leave at (v ∷ vs) [] is = absurd is
    parts_leave at (v ∷ vs) (q ∷ ps) is =
        leave_append (part_sources book types relations at v) (part_lists p asked at q) (all_sources book types relations (suc at) vs) (hit_lists p asked (suc at) ps) (part_leaves at v q is.0) (parts_leave (suc at) vs ps is.1)

    -- ---- of each relation, whether a part has its index

    map_part_bits : (o : Option MapPart) (part : Part) → IsMapIn t o part → map (λ (r : IndexedRelation). true) relations ≡ indexed_in asked part
    map_part_bits None part is = absurd is
    map_part_bits (Some m) part is = map_bits p t m part is relations asked are ∙ ap (indexed_in asked) (sym is.part_is)

    pub part_bits_are : (v : view.Part) (part : Part) → IsPartOf folder p t book v part → part_bits relations v ≡ indexed_in asked part
    part_bits_are (view_part.File number indexes) part is =
        ap (λ (ps : List PartNumber). map (has_part ps) relations) is.indexes_are ∙ bits_are p t own is.file is.has relations asked are ∙ ap (indexed_in asked) (sym is.part_is)
    part_bits_are (view_part.Map number) part is = map_part_bits (get book number) part is

    pub all_bits : (vs : List view.Part) (ps : List Part) → ArePartsOf folder p t book vs ps → map (part_bits relations) vs ≡ map (indexed_in asked) ps
    all_bits [] [] is = refl
    all_bits [] (q ∷ ps) is = absurd is
    all_bits (v ∷ vs) [] is = absurd is
    all_bits (v ∷ vs) (q ∷ ps) is = ap₂ (λ b l. b ∷ l) (part_bits_are v q is.0) (all_bits vs ps is.1)

-- **The streams leave the lists of hits.**
pub streams_leave : (folder : Folder) (p : Partitioner) (t : TableParts) (book : Book) (types : List ColumnType) (relations : List IndexedRelation) (vs : List view.Part) (asked : List Asked) (ps : List Part) (ss : List Hits)
    → IsPlannedFor folder p t book types relations vs asked ps → AreStreams (all_sources book types relations 0 vs) ss → EachLeaves Leaves (Some folder) ss (hit_lists p asked 0 ps)
streams_leave folder p t book types relations vs asked ps ss is are =
    each_leaves folder (all_sources book types relations 0 vs) (hit_lists p asked 0 ps) ss (parts_leave folder p t is.own book types is.types_are relations asked is.relations_are 0 vs ps is.parts_are) are
