-- What the streams of a plan take is what its conditions may cost.
use Rattle.std.proofs.Common.{◌≡◌, ℕ, suc, ◌+◌, ◌*◌, ◌^◌, ◌≤◌, Bool, true, false, ◌||◌, not, if◌then◌else◌, is_some, List, [], ◌∷◌, ◌++◌, length, map, Option, None, Some, refl, sym, ap, ap₂, subst, ◌∙◌, arith}
use Rattle.std.proofs.lemmas.Bool.{or_left, or_right}
use Rattle.std.proofs.lemmas.List.Sums.{sum_by-cons}
use Rattle.std.specs.FinMap.{get}
use Rattle.std.specs.List.{list_any, sum_by}
use Rattle.sasi_types.specs.declared.column.ColumnType.{ColumnType}
use Rattle.sasi_types.specs.declared.partitioner.Partitioner.{Partitioner}
use Rattle.sasi_host.specs.declared.name.FileName.{FileName}
use Rattle.sasi_host.specs.Names.{Bytes, Folder, data_name, name_eq}
use Rattle.sasi_model.specs.Abbreviations.{Partitions, types_of}
use Rattle.sasi_model.specs.Conditions.{Condition, OfKey, Indexed, Plain, Search}
use Rattle.sasi_manifest.specs.declared.files.PartNumber.{PartNumber}
use Rattle.sasi_manifest.specs.ListedFiles.{index_name}
use Rattle.sasi_memindex.specs.Book.{Book}
use Rattle.sasi_memindex.specs.declared.map_part.MapPart.{MapPart}
use Rattle.sasi_datawrite.specs.Files.{IsDataFile}
use Rattle.sasi_datawrite.specs.Format.{Content, data_bytes}
use Rattle.sasi_dataread.specs.ReadCosts.{file_pages}
use Rattle.sasi_layout.specs.Layout.{File, TableParts}
use Rattle.sasi_layout.specs.Shape.{HasFile}
use Rattle.sasi_views.specs.declared.part.Part as view
use Rattle.sasi_views.specs.declared.part.Part.TheVariants as view_part
use Rattle.sasi_ranges.specs.EachStream.{EachPays}
use Rattle.sasi_candidates.specs.Costs.{file_cost, files_of, has_index, is_on_disk, lacks_index, narrows, pages_of_file, reads_all, searches_cost}
use Rattle.sasi_candidates.specs.Costs as costs
use Rattle.sasi_candidates.specs.LayoutParts.{part_of_file}
use Rattle.sasi_candidates.specs.Parts.{Part}
use Rattle.sasi_candidates.proofs.FileIndexes.{HasOwnIndexes}
use Rattle.sasi_candidates.proofs.PairCounts.{word_cost}
use Rattle.sasi_hits.specs.declared.hits.Hits.{Hits}
use Rattle.sasi_hits.specs.Hits.{Pays}
use Rattle.sasi_hits.specs.IndexHits.{all_cost}
use Rattle.sasi_hits.proofs.PartHits.{hits_cost, search_cost}
use Rattle.sasi_engine.specs.declared.relation.IndexedRelation.{IndexedRelation}
use Rattle.sasi_engine.specs.Asked.{Asked, asked_of, first_lacking, indexed_in}
use Rattle.sasi_engine.specs.Plans.{AreShort, is_file_of, names_of}
use Rattle.sasi_engine.specs.Views.{AreAsked, ArePartsOf, IsAsked, IsMapIn, IsPlannedFor}
use Rattle.sasi_engine.specs.inside.Sources.{AreStreams, IsStream, OfIndex, Planned, all_sources, file_sources, found_sources, has_part, key_source, map_sources, own_source, own_sources, part_for}
use Rattle.sasi_engine.proofs.FileLaws.{HasOwnFile, content_is, own_file, part_column}
use Rattle.sasi_engine.proofs.IndexLevels.{few_levels}
use Rattle.sasi_engine.proofs.Leaving.{bits_are, regular_column}
use Rattle.sasi_engine.proofs.Opening.{listed_name}

-- ---- planned streams

module _ (folder : Folder) where
  abbrev WouldPay : Planned → ℕ → Type 0
  WouldPay one most = (s : Hits) → IsStream one.source one.leaf one.part s → Pays s (Some folder) most

  abbrev AllPay : List Planned → ℕ → Type 0
  AllPay [] most = Unit {0}
  AllPay (q ∷ qs) most = (here later : ℕ) × WouldPay q here × AllPay qs later × (here + later ≤ most)

  pay_more : (qs : List Planned) (a b : ℕ) → a ≤ b → AllPay qs a → AllPay qs b
  pay_more [] a b le all = tt
  pay_more (q ∷ qs) a b le all = (all.0, all.1, all.2, all.3, omega (arith, le, all.4))

  pay_append : (qs rs : List Planned) (a b : ℕ) → AllPay qs a → AllPay rs b → AllPay (qs ++ rs) (a + b)
  pay_append [] rs a b all others = pay_more rs b (a + b) (omega arith) others
  pay_append (q ∷ qs) rs a b all others = (all.0, all.1 + b, all.2, pay_append qs rs all.1 b all.3 others, omega (arith, all.4))

  each_pays : (qs : List Planned) (most : ℕ) (ss : List Hits) → AllPay qs most → AreStreams qs ss → EachPays Pays (Some folder) ss most
  each_pays [] most [] all are = tt
  each_pays [] most (s ∷ ss) all are = absurd are
  each_pays (q ∷ qs) most [] all are = absurd are
  each_pays (q ∷ qs) most (s ∷ ss) all are = (all.0, all.1, all.2 s are.0, each_pays qs all.1 ss all.3 are.1, all.4)

  -- ---- a data file

  module _ (p : Partitioner) (t : TableParts) (own : HasOwnIndexes t) (f : File) (has : HasFile folder p t.definition t.numbers f) (view_parts : List view.Part) (short : AreShort folder view_parts) where
    abbrev parts : List PartNumber
    parts = f.listed.parts

    abbrev own_part : Part
    own_part = part_of_file t f

    keys_pay : (types : List ColumnType) → types ≡ types_of t.definition → (at : ℕ) (o : Option ℕ) → AllPay (key_source f.listed.number types at o) (if is_some o then 2 * pages_of_file p f.holds else 0)
    keys_pay types types_are at None = tt
    keys_pay types types_are at (Some leaf) = (
      2 * pages_of_file p f.holds,
      0,
      (λ s is.
          subst (λ n. Pays s (Some folder) (2 * n)) (ap file_pages has.data_file.is ∙ ap (λ (c : Content). file_pages (data_bytes p c)) (sym (content_is folder p t f has)))
          (is.pays (Some folder) has.bytes p has.content
          (record { reads = has.there; data_file = subst (λ (ts : List ColumnType). IsDataFile p ts has.bytes has.content) (sym types_are) has.data_file; keys = has.keys }))),
      tt,
      omega arith,
    )

    -- the files are those of the view
    abbrev IsSeen : Type 0
    IsSeen = (name : FileName) → list_any (name_eq name) (names_of (view_part.File f.listed.number parts)) ≡ true → is_file_of view_parts name ≡ true

    module _ (seen : IsSeen) (r : IndexedRelation) (a : Asked) (is_asked : IsAsked t r a) (part : PartNumber) (found : part_for r.index parts ≡ Some part) where
      abbrev file : HasOwnFile folder p t own f.listed.number has.content r a is_asked part
      file = own_file folder p t own f.listed.number has.content r a is_asked parts has.indexes part found

      abbrev index_reads : ℕ
      index_reads = 3 + all_cost file.stands.file_is.blocks.levels file.stands.content r.op r.words

      index_pays : (leaf at : ℕ) → WouldPay (record { source = OfIndex (index_name f.listed.number part) r.op r.words; leaf = leaf; part = at }) index_reads
      index_pays leaf at s is = is.pays (Some folder) file.bytes file.stands.content (record { reads = file.there; index_file = file.stands.file_is })

      index_short : length file.bytes ≤ 2 ^ 40
      index_short = short (index_name f.listed.number part) file.bytes (seen (index_name f.listed.number part) (or_right (name_eq (index_name f.listed.number part) (data_name f.listed.number)) (list_any (name_eq (index_name f.listed.number part)) (map (index_name f.listed.number) parts)) (listed_name f.listed.number parts r.index part found))) file.there

      index_within : index_reads ≤ sum_by (costs.search_cost a.index a.search.op f.holds) a.search.words
      index_within =
          let op_is : r.op ≡ a.search.op = ap (λ (x : Search). x.op) (sym is_asked.search_is) in
          let words_are : r.words ≡ a.search.words = ap (λ (x : Search). x.words) (sym is_asked.search_is) in
          let levels = file.stands.file_is.blocks.levels in
          let same : all_cost levels file.stands.content r.op r.words ≡ all_cost levels file.stands.content a.search.op a.search.words = ap₂ (λ op words. all_cost levels file.stands.content op words) op_is words_are in
          let bound = hits_cost levels file.stands.content a.search.op a.search.words file.stands.file_is.content_is (few_levels file.bytes file.stands.content file.stands.file_is index_short) is_asked.some in
          let by_map : sum_by (search_cost file.stands.content a.search.op) a.search.words ≡ sum_by (costs.search_cost a.index a.search.op f.holds) a.search.words =
          ap (λ (g : Bytes → ℕ). sum_by g a.search.words)
          (λ i word. sym (word_cost p t.definition a.index has.bytes file.bytes has.content has.data_file file.stands (regular_column a.index a.index.column t.definition.indexes own.regular is_asked.defined) a.search.op is_asked.can word) i)
          ∙ ap (λ (m : Partitions). sum_by (costs.search_cost a.index a.search.op m) a.search.words) (sym has.holds) in
          omega (arith, same, bound, by_map)

    -- the relations' own searches
    abbrev searches : List Asked → ℕ
    searches asked = sum_by (λ (a : Asked). searches_cost own_part (Indexed a.index a.search)) asked

    own_pay : IsSeen → (at leaf : ℕ) (relations : List IndexedRelation) (asked : List Asked) → AreAsked t relations asked → AllPay (own_sources f.listed.number parts at leaf relations) (searches asked)
    own_pay seen at leaf [] [] are = tt
    own_pay seen at leaf [] (a ∷ asked) are = absurd are
    own_pay seen at leaf (r ∷ relations) [] are = absurd are
    own_pay seen at leaf (r ∷ relations) (a ∷ asked) are =
        subst (AllPay (own_sources f.listed.number parts at leaf (r ∷ relations))) (sym (sum_by-cons (λ (x : Asked). searches_cost own_part (Indexed x.index x.search)) a asked))
        (pay_append (own_source f.listed.number at leaf r (part_for r.index parts)) (own_sources f.listed.number parts at (suc leaf) relations) (searches_cost own_part (Indexed a.index a.search)) (searches asked)
        (by (part_for r.index parts) refl (has_index a.index own_part.origin) (sym (part_column folder p t own f.listed.number has.content r a are.0 parts has.indexes)))
        (own_pay seen at (suc leaf) relations asked are.1))
      where
        by : (o : Option PartNumber) → part_for r.index parts ≡ o → (b : Bool) → b ≡ has_part parts r
            → AllPay (own_source f.listed.number at leaf r o) (if b then sum_by (costs.search_cost a.index a.search.op f.holds) a.search.words else 0)
        by None none b has_it = tt
        by (Some part) found true has_it = (index_reads seen r a are.0 part found, 0, index_pays seen r a are.0 part found leaf at, tt, omega (arith, index_within seen r a are.0 part found))
        by (Some part) found false has_it = (let no : false ≡ true = has_it ∙ ap is_some found in cc)

    -- ---- by the conditions

    asked_searches : (conditions : List Condition) → searches (asked_of conditions) ≡ sum_by (searches_cost own_part) conditions
    asked_searches [] = refl
    asked_searches (OfKey bytes ∷ conditions) = omega (arith, asked_searches conditions, sum_by-cons (searches_cost own_part) (OfKey bytes) conditions)
    asked_searches (Indexed index search ∷ conditions) =
        sum_by-cons (λ (x : Asked). searches_cost own_part (Indexed x.index x.search)) (record { index = index; search = search }) (asked_of conditions)
        ∙ ap (λ n. searches_cost own_part (Indexed index search) + n) (asked_searches conditions)
        ∙ sym (sum_by-cons (searches_cost own_part) (Indexed index search) conditions)
    asked_searches (Plain column comparison ∷ conditions) = omega (arith, asked_searches conditions, sum_by-cons (searches_cost own_part) (Plain column comparison) conditions)

    lacks_one : (n leaf : ℕ) (conditions : List Condition) → first_lacking n (indexed_in (asked_of conditions) own_part) ≡ Some leaf → list_any (lacks_index own_part.origin) conditions ≡ true
    lacks_one n leaf [] is = cc
    lacks_one n leaf (OfKey bytes ∷ conditions) is = lacks_one n leaf conditions is
    lacks_one n leaf (Indexed index search ∷ conditions) is = by (has_index index own_part.origin) is (lacks_one (suc n) leaf conditions)
      where
        by : (b : Bool) → first_lacking n (b ∷ indexed_in (asked_of conditions) own_part) ≡ Some leaf → (first_lacking (suc n) (indexed_in (asked_of conditions) own_part) ≡ Some leaf → list_any (lacks_index own_part.origin) conditions ≡ true)
            → (not b || list_any (lacks_index own_part.origin) conditions) ≡ true
        by true is later = later is
        by false is later = refl
    lacks_one n leaf (Plain column comparison ∷ conditions) is = lacks_one n leaf conditions is

    keys_within : (conditions : List Condition) → (if is_some (first_lacking 0 (indexed_in (asked_of conditions) own_part)) then 2 * pages_of_file p f.holds else 0) ≤ (if reads_all conditions own_part.origin then 2 * pages_of_file p f.holds else 0)
    keys_within conditions = by (first_lacking 0 (indexed_in (asked_of conditions) own_part)) refl
      where
        by : (o : Option ℕ) → first_lacking 0 (indexed_in (asked_of conditions) own_part) ≡ o → (if is_some o then 2 * pages_of_file p f.holds else 0) ≤ (if reads_all conditions own_part.origin then 2 * pages_of_file p f.holds else 0)
        by None none = omega arith
        by (Some leaf) some =
            (let all : reads_all conditions own_part.origin ≡ true = or_left (list_any (lacks_index own_part.origin) conditions) (not (list_any narrows conditions)) (lacks_one 0 leaf conditions some) in
            subst (λ (b : Bool). 2 * pages_of_file p f.holds ≤ (if b then 2 * pages_of_file p f.holds else 0)) (sym all) (omega arith))

    file_pays : IsSeen → (types : List ColumnType) → types ≡ types_of t.definition → (relations : List IndexedRelation) (conditions : List Condition) → AreAsked t relations (asked_of conditions) → (at : ℕ)
        → AllPay (file_sources types relations at f.listed.number parts) (file_cost p conditions own_part)
    file_pays seen types types_are relations conditions are at =
        let lacking = first_lacking 0 (map (has_part parts) relations) in
        let bits : lacking ≡ first_lacking 0 (indexed_in (asked_of conditions) own_part) = ap (first_lacking 0) (bits_are folder p t own f has relations (asked_of conditions) are) in
        pay_more (file_sources types relations at f.listed.number parts) ((if is_some lacking then 2 * pages_of_file p f.holds else 0) + searches (asked_of conditions)) (file_cost p conditions own_part)
        (omega (arith, asked_searches conditions, keys_within conditions, ap (λ (o : Option ℕ). if is_some o then 2 * pages_of_file p f.holds else 0) bits))
        (pay_append (key_source f.listed.number types at lacking) (own_sources f.listed.number parts at 0 relations) (if is_some lacking then 2 * pages_of_file p f.holds else 0) (searches (asked_of conditions))
        (keys_pay types types_are at lacking) (own_pay seen at 0 relations (asked_of conditions) are))

  -- ---- a map

  found_pay : (m : MapPart) (at leaf : ℕ) (relations : List IndexedRelation) → AllPay (found_sources m at leaf relations) 0
  found_pay m at leaf [] = tt
  found_pay m at leaf (r ∷ relations) = (0, 0, (λ s is. is.pays (Some folder)), found_pay m at (suc leaf) relations, omega arith)

  map_pays : (relations : List IndexedRelation) (at : ℕ) (o : Option MapPart) → AllPay (map_sources relations at o) 0
  map_pays relations at None = tt
  map_pays relations at (Some m) = found_pay m at 0 relations

  map_kept : (t : TableParts) (o : Option MapPart) (part : Part) (others : List Part) → IsMapIn t o part → files_of (part ∷ others) ≡ files_of others
  map_kept t None part others is = absurd is
  map_kept t (Some m) part others is = ap (λ (x : Part). files_of (x ∷ others)) is.part_is

  -- ---- all parts

  module _ (p : Partitioner) (t : TableParts) (own : HasOwnIndexes t) (book : Book) (types : List ColumnType) (types_are : types ≡ types_of t.definition) (relations : List IndexedRelation) (conditions : List Condition) (are : AreAsked t relations (asked_of conditions))
      (whole : List view.Part) (short : AreShort folder whole) where
    -- each of these parts is one of the view
    abbrev AreSeen : List view.Part → Type 0
    AreSeen vs = (name : FileName) → is_file_of vs name ≡ true → is_file_of whole name ≡ true

    parts_pay : (at : ℕ) (vs : List view.Part) (ps : List Part) → ArePartsOf folder p t book vs ps → AreSeen vs → AllPay (all_sources book types relations at vs) (sum_by (file_cost p conditions) (files_of ps))
    parts_pay at [] [] is seen = tt
    parts_pay at [] (q ∷ ps) is seen = absurd is
    parts_pay at (v ∷ vs) [] is seen = absurd is
    parts_pay at (view_part.File number indexes ∷ vs) (q ∷ ps) is seen =
        let f = is.0.file in
        let here : AllPay (file_sources types relations at number indexes) (file_cost p conditions (part_of_file t f)) =
        subst (λ (n : ℕ). AllPay (file_sources types relations at n indexes) (file_cost p conditions (part_of_file t f))) (sym is.0.number_is)
        (subst (λ (l : List PartNumber). AllPay (file_sources types relations at f.listed.number l) (file_cost p conditions (part_of_file t f))) (sym is.0.indexes_are)
        (file_pays p t own f is.0.has whole short
        (λ name among. seen name (or_left (list_any (name_eq name) (names_of (view_part.File number indexes))) (is_file_of vs name)
        (ap₂ (λ n (l : List PartNumber). list_any (name_eq name) (names_of (view_part.File n l))) is.0.number_is is.0.indexes_are ∙ among)))
        types types_are relations conditions are at)) in
        let rest = parts_pay (suc at) vs ps is.1 (λ name among. seen name (or_right (list_any (name_eq name) (names_of (view_part.File number indexes))) (is_file_of vs name) among)) in
        subst (λ (x : Part). AllPay (file_sources types relations at number indexes ++ all_sources book types relations (suc at) vs) (sum_by (file_cost p conditions) (files_of (x ∷ ps)))) (sym is.0.part_is)
        (subst (AllPay (file_sources types relations at number indexes ++ all_sources book types relations (suc at) vs)) (sym (sum_by-cons (file_cost p conditions) (part_of_file t f) (files_of ps)))
        (pay_append (file_sources types relations at number indexes) (all_sources book types relations (suc at) vs) (file_cost p conditions (part_of_file t f)) (sum_by (file_cost p conditions) (files_of ps)) here rest))
    parts_pay at (view_part.Map number ∷ vs) (q ∷ ps) is seen =
        subst (λ (l : List Part). AllPay (map_sources relations at (get book number) ++ all_sources book types relations (suc at) vs) (sum_by (file_cost p conditions) l)) (sym (map_kept t (get book number) q ps is.0))
        (pay_more (map_sources relations at (get book number) ++ all_sources book types relations (suc at) vs) (0 + sum_by (file_cost p conditions) (files_of ps)) (sum_by (file_cost p conditions) (files_of ps)) (omega arith)
        (pay_append (map_sources relations at (get book number)) (all_sources book types relations (suc at) vs) 0 (sum_by (file_cost p conditions) (files_of ps)) (map_pays relations at (get book number)) (parts_pay (suc at) vs ps is.1 seen)))

-- **The streams take at most what the conditions may cost in the files.**
pub streams_pay : (folder : Folder) (p : Partitioner) (t : TableParts) (book : Book) (types : List ColumnType) (relations : List IndexedRelation) (vs : List view.Part) (conditions : List Condition) (ps : List Part) (ss : List Hits)
    → IsPlannedFor folder p t book types relations vs (asked_of conditions) ps → AreShort folder vs → AreStreams (all_sources book types relations 0 vs) ss → EachPays Pays (Some folder) ss (sum_by (file_cost p conditions) (files_of ps))
streams_pay folder p t book types relations vs conditions ps ss is short are =
    each_pays folder (all_sources book types relations 0 vs) (sum_by (file_cost p conditions) (files_of ps)) ss
    (parts_pay folder p t is.own book types is.types_are relations conditions is.relations_are vs short 0 vs ps is.parts_are (λ name among. among)) are
