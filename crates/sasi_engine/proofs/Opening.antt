-- Which files the streams of a plan may read, and that they can be asked in every folder.
use Rattle.std.proofs.Common.{◌≡◌, ℕ, suc, Bool, true, false, cond, ◌&&◌, ◌||◌, nat_eq, List, [], ◌∷◌, ◌++◌, map, Option, None, Some, refl, ap, ◌∙◌, arith, ⊎_elim}
use Rattle.std.proofs.lemmas.Bool.{or_left, or_right}
use Rattle.std.proofs.lemmas.Bool.Decides.{nat_tests}
use Rattle.std.specs.FinMap.{get}
use Rattle.std.specs.List.{AllByRecursion, list_any}
use Rattle.sasi_types.specs.declared.column.ColumnType.{ColumnType}
use Rattle.sasi_host.specs.declared.damage.Damage.{Damage}
use Rattle.sasi_host.specs.declared.name.FileName.{FileName}
use Rattle.sasi_host.specs.declared.name.Kind.TheVariants.{Data, Index}
use Rattle.sasi_host.specs.Names.{Folder, data_name, name_eq, rank}
use Rattle.sasi_manifest.specs.declared.files.PartNumber.{PartNumber}
use Rattle.sasi_manifest.specs.ListedFiles.{index_name}
use Rattle.sasi_memindex.specs.Book.{Book}
use Rattle.sasi_memindex.specs.declared.map_part.MapPart.{MapPart}
use Rattle.sasi_views.specs.declared.part.Part.{Part}
use Rattle.sasi_views.specs.declared.part.Part.TheVariants.{File, Map}
use Rattle.sasi_ranges.specs.EachStream.{EachIsReady, SomeOpens, SomeShows}
use Rattle.sasi_hits.specs.declared.hits.Hits.{Hits}
use Rattle.sasi_hits.specs.Hits.{Opens, Ready, Shows}
use Rattle.sasi_engine.specs.declared.relation.IndexedRelation.{IndexedRelation}
use Rattle.sasi_engine.specs.Asked.{first_lacking}
use Rattle.sasi_engine.specs.Plans.{IsShownIn, is_file_of, names_of, of_data, of_index}
use Rattle.sasi_engine.specs.inside.Sources.{AreStreams, IsStream, OfIndex, OfKeys, OfMap, Planned, Source, all_sources, found_sources, has_part, key_source, map_sources, own_source, own_sources, part_for, part_sources}

-- ---- names

own_number : (n : ℕ) → nat_eq n n ≡ true
own_number n = grind (arith, nat_tests)

and_true : (b c : Bool) → b ≡ true → c ≡ true → (b && c) ≡ true
and_true true c first second = second
and_true false c first second = first

pub own_name : (name : FileName) → name_eq name name ≡ true
own_name name =
    and_true _ _ (and_true _ _ (and_true _ _ (own_number (rank name.kind)) (own_number name.number)) (own_number name.index)) (own_number name.part)

-- a part that is found is among those of the file
pub listed_name : (number : ℕ) (parts : List PartNumber) (index : ℕ) (part : PartNumber) → part_for index parts ≡ Some part → list_any (name_eq (index_name number part)) (map (index_name number) parts) ≡ true
listed_name number [] index part is = cc
listed_name number (q ∷ parts) index part is = by (nat_eq q.index index) is (listed_name number parts index part)
  where
    by : (b : Bool) → cond b (Some q) (part_for index parts) ≡ Some part → (part_for index parts ≡ Some part → list_any (name_eq (index_name number part)) (map (index_name number) parts) ≡ true)
        → (name_eq (index_name number part) (index_name number q) || list_any (name_eq (index_name number part)) (map (index_name number) parts)) ≡ true
    by true here later =
        (let same : q ≡ part = cc in
        or_left (name_eq (index_name number part) (index_name number q)) (list_any (name_eq (index_name number part)) (map (index_name number) parts))
        (ap (λ (x : PartNumber). name_eq (index_name number part) (index_name number x)) same ∙ own_name (index_name number part)))
    by false rest later = or_right (name_eq (index_name number part) (index_name number q)) (list_any (name_eq (index_name number part)) (map (index_name number) parts)) (later rest)

-- ---- sources

-- the file that is read is one of these, of its kind
abbrev IsSourceIn : (FileName → Bool) → Source → Type 0
IsSourceIn test (OfIndex file op words) = (file.kind ≡ Index) × (test file ≡ true)
IsSourceIn test (OfKeys file types) = (file.kind ≡ Data) × (test file ≡ true)
IsSourceIn test (OfMap keys) = Unit {0}

abbrev AreIn : (FileName → Bool) → List Planned → Type 0
AreIn test qs = AllByRecursion (λ (q : Planned). IsSourceIn test q.source) qs

in_append : (test : FileName → Bool) (qs rs : List Planned) → AreIn test qs → AreIn test rs → AreIn test (qs ++ rs)
in_append test [] rs all others = others
in_append test (q ∷ qs) rs all others = (all.0, in_append test qs rs all.1 others)

module _ (test : FileName → Bool) where
  key_in : (number at : ℕ) (types : List ColumnType) (o : Option ℕ) → test (data_name number) ≡ true → AreIn test (key_source number types at o)
  key_in number at types None is = tt
  key_in number at types (Some leaf) is = ((refl, is), tt)

  own_in : (number at leaf : ℕ) (parts : List PartNumber) (relations : List IndexedRelation) → ((index : ℕ) (part : PartNumber) → part_for index parts ≡ Some part → test (index_name number part) ≡ true) → AreIn test (own_sources number parts at leaf relations)
  own_in number at leaf parts [] is = tt
  own_in number at leaf parts (r ∷ relations) is =
      in_append test (own_source number at leaf r (part_for r.index parts)) (own_sources number parts at (suc leaf) relations) (by (part_for r.index parts) refl) (own_in number at (suc leaf) parts relations is)
    where
      by : (o : Option PartNumber) → part_for r.index parts ≡ o → AreIn test (own_source number at leaf r o)
      by None none = tt
      by (Some part) found = ((refl, is r.index part found), tt)

  found_in_memory : (m : MapPart) (at leaf : ℕ) (relations : List IndexedRelation) → AreIn test (found_sources m at leaf relations)
  found_in_memory m at leaf [] = tt
  found_in_memory m at leaf (r ∷ relations) = (tt, found_in_memory m at (suc leaf) relations)

  map_in : (relations : List IndexedRelation) (at : ℕ) (o : Option MapPart) → AreIn test (map_sources relations at o)
  map_in relations at None = tt
  map_in relations at (Some m) = found_in_memory m at 0 relations

  part_in : (book : Book) (types : List ColumnType) (relations : List IndexedRelation) (at : ℕ) (part : Part) → ((name : FileName) → list_any (name_eq name) (names_of part) ≡ true → test name ≡ true) → AreIn test (part_sources book types relations at part)
  part_in book types relations at (File number parts) is =
      in_append test (key_source number types at (first_lacking 0 (map (has_part parts) relations))) (own_sources number parts at 0 relations)
      (key_in number at types (first_lacking 0 (map (has_part parts) relations))
      (is (data_name number) (or_left (name_eq (data_name number) (data_name number)) (list_any (name_eq (data_name number)) (map (index_name number) parts)) (own_name (data_name number)))))
      (own_in number at 0 parts relations
      (λ index part found. is (index_name number part)
      (or_right (name_eq (index_name number part) (data_name number)) (list_any (name_eq (index_name number part)) (map (index_name number) parts)) (listed_name number parts index part found))))
  part_in book types relations at (Map number) is = map_in relations at (get book number)

  all_in : (book : Book) (types : List ColumnType) (relations : List IndexedRelation) (at : ℕ) (parts : List Part) → ((name : FileName) → is_file_of parts name ≡ true → test name ≡ true) → AreIn test (all_sources book types relations at parts)
  all_in book types relations at [] is = tt
  all_in book types relations at (part ∷ parts) is =
      in_append test (part_sources book types relations at part) (all_sources book types relations (suc at) parts)
      (part_in book types relations at part (λ name has. is name (or_left (list_any (name_eq name) (names_of part)) (is_file_of parts name) has)))
      (all_in book types relations (suc at) parts (λ name has. is name (or_right (list_any (name_eq name) (names_of part)) (is_file_of parts name) has)))

  -- ---- streams

  one_opens : (source : Source) (leaf at : ℕ) (s : Hits) (name : FileName) → IsSourceIn test source → IsStream source leaf at s → Opens s name → test name ≡ true
  one_opens (OfIndex file op words) leaf at s name has is opens = ap test (is.opens name opens) ∙ has.1
  one_opens (OfKeys file types) leaf at s name has is opens = ap test (is.opens name opens) ∙ has.1
  one_opens (OfMap keys) leaf at s name has is opens = absurd (is.opens name opens)

  some_opens : (qs : List Planned) (ss : List Hits) (name : FileName) → AreIn test qs → AreStreams qs ss → SomeOpens Opens ss name → test name ≡ true
  some_opens [] [] name all are opens = absurd opens
  some_opens [] (s ∷ ss) name all are opens = absurd are
  some_opens (q ∷ qs) [] name all are opens = absurd are
  some_opens (q ∷ qs) (s ∷ ss) name all are opens = ⊎_elim (λ here. one_opens q.source q.leaf q.part s name all.0 are.0 here) (λ later. some_opens qs ss name all.1 are.1 later) opens

module _ (parts : List Part) (files : Option Folder) (damage : Damage) where
  one_shows : (source : Source) (leaf at : ℕ) (s : Hits) → IsSourceIn (is_file_of parts) source → IsStream source leaf at s → Shows s files damage → IsShownIn parts files damage
  one_shows (OfIndex file op words) leaf at s has is shows = of_index file has.0 has.1 (is.shows files damage shows)
  one_shows (OfKeys file types) leaf at s has is shows = of_data file has.0 has.1 (is.shows files damage shows)
  one_shows (OfMap keys) leaf at s has is shows = absurd (is.shows files damage shows)

  some_shows : (qs : List Planned) (ss : List Hits) → AreIn (is_file_of parts) qs → AreStreams qs ss → SomeShows Shows files ss damage → IsShownIn parts files damage
  some_shows [] [] all are shows = absurd shows
  some_shows [] (s ∷ ss) all are shows = absurd are
  some_shows (q ∷ qs) [] all are shows = absurd are
  some_shows (q ∷ qs) (s ∷ ss) all are shows = ⊎_elim (λ here. one_shows q.source q.leaf q.part s all.0 are.0 here) (λ later. some_shows qs ss all.1 are.1 later) shows

one_ready : (files : Option Folder) (source : Source) (leaf at : ℕ) (s : Hits) → IsStream source leaf at s → Ready s files
one_ready files (OfIndex file op words) leaf at s is = is.ready files
one_ready files (OfKeys file types) leaf at s is = is.ready files
one_ready files (OfMap keys) leaf at s is = is.ready files

-- **The streams can be asked in every folder,**
pub streams_ready : (files : Option Folder) (qs : List Planned) (ss : List Hits) → AreStreams qs ss → EachIsReady Ready files ss
streams_ready files [] [] are = tt
streams_ready files [] (s ∷ ss) are = absurd are
streams_ready files (q ∷ qs) [] are = absurd are
streams_ready files (q ∷ qs) (s ∷ ss) are = (one_ready files q.source q.leaf q.part s are.0, streams_ready files qs ss are.1)

-- **they read no files but those of the parts,**
pub streams_open : (book : Book) (types : List ColumnType) (relations : List IndexedRelation) (parts : List Part) (ss : List Hits) (name : FileName) → AreStreams (all_sources book types relations 0 parts) ss → SomeOpens Opens ss name → is_file_of parts name ≡ true
streams_open book types relations parts ss name are opens =
    some_opens (is_file_of parts) (all_sources book types relations 0 parts) ss name (all_in (is_file_of parts) book types relations 0 parts (λ other has. has)) are opens

-- **and the damage that they show is that of such a file.**
pub streams_show : (book : Book) (types : List ColumnType) (relations : List IndexedRelation) (parts : List Part) (ss : List Hits) (files : Option Folder) (damage : Damage) → AreStreams (all_sources book types relations 0 parts) ss → SomeShows Shows files ss damage
    → IsShownIn parts files damage
streams_show book types relations parts ss files damage are shows =
    some_shows parts files damage (all_sources book types relations 0 parts) ss (all_in (is_file_of parts) book types relations 0 parts (λ other has. has)) are shows
