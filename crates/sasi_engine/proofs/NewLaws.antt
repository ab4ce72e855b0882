-- A new source of candidates: what is told of its parts, the data files and the maps of its view, and what it leaves.
use Rattle.std.proofs.Common.{◌≡◌, ℕ, ◌+◌, ◌*◌, ◌^◌, ◌<◌, ◌≤◌, true, ◌||◌, List, [], ◌∷◌, ◌++◌, length, map, reverse, Option, None, Some, refl, sym, ap, ap₂, subst, ◌∙◌, arith, inl, inr, length-append}
use Rattle.std.proofs.lemmas.Bool.{or_left, or_right}
use Rattle.std.proofs.lemmas.List.{length-map}
use Rattle.std.specs.FinMap as map_
use Rattle.std.specs.List.{AllByRecursion, list_any}
use Rattle.std.specs.Option.{option_map_or}
use Rattle.sasi_types.specs.declared.column.ColumnType.{ColumnType}
use Rattle.sasi_types.specs.declared.partitioner.Partitioner.{Partitioner}
use Rattle.sasi_host.specs.declared.damage.Damage.{Damage}
use Rattle.sasi_host.specs.declared.name.FileName.{FileName}
use Rattle.sasi_host.specs.Names.{Bytes, Folder, data_name, name_eq}
use Rattle.sasi_model.specs.Abbreviations.{Partitions, types_of}
use Rattle.sasi_manifest.specs.declared.files.ListedFile.{ListedFile}
use Rattle.sasi_manifest.specs.ListedFiles.{index_name}
use Rattle.sasi_memindex.specs.Book.{Book}
use Rattle.sasi_memindex.specs.declared.map_part.MapPart.{MapPart}
use Rattle.sasi_tokentree.proofs.HeightLaws.{levels_least, tree_length}
use Rattle.sasi_datawrite.specs.Files.{IsDataFile}
use Rattle.sasi_datawrite.specs.Format.{Content, content_max_timestamp, data_bytes, footer_bytes, front, header, key_pairs}
use Rattle.sasi_datawrite.proofs.Laws.{pairs_length}
use Rattle.sasi_tokentree.specs.Format.{tree_bytes, tree_ref}
use Rattle.sasi_layout.specs.Flushed.{contents_of}
use Rattle.sasi_layout.specs.Layout.{File, TableParts}
use Rattle.sasi_layout.specs.Shape.{HasFile}
use Rattle.sasi_ranges.specs.declared.entry.Entry.{Entry}
use Rattle.sasi_ranges.specs.Lists.{intersection_by}
use Rattle.sasi_sources.specs.KeyCandidates.{HasKeyType}
use Rattle.sasi_views.specs.declared.part.Part as view
use Rattle.sasi_views.specs.declared.part.Part.TheVariants as view_part
use Rattle.sasi_candidates.specs.Candidates.{candidates}
use Rattle.sasi_candidates.specs.Costs.{files_of}
use Rattle.sasi_model.specs.Filters.{where_of}
use Rattle.sasi_candidates.specs.Groups.{groups_with, rows_in}
use Rattle.sasi_candidates.specs.Parts.{Part, maps_of}
use Rattle.sasi_candidates.proofs.GroupLaws.{groups_have}
use Rattle.sasi_narrow.specs.declared.part_hits.PartHits.{PartHits}
use Rattle.sasi_narrow.specs.declared.part_hits.PartHits.TheVariants as part_hits_
use Rattle.sasi_narrow.specs.Narrowing.{TellsOf}
use Rattle.sasi_scan.specs.Parts.{AreContents, HasContent}
use Rattle.sasi_lookup.specs.Files.{unopened}
use Rattle.sasi_lookup.specs.Lookups.{FilesOpen, FilesShow, IsLookingIn, LookupView, unopened_files}
use Rattle.sasi_engine.specs.declared.hand.Hand.{Hand}
use Rattle.sasi_engine.specs.declared.relation.IndexedRelation.{IndexedRelation}
use Rattle.sasi_engine.specs.Asked.{asked_of}
use Rattle.sasi_engine.specs.HitCandidates.{IsLeft, IsMadeOf, IsWorld, PlanWorld, candidates_at, hit_entries, in_memory, looked_groups}
use Rattle.sasi_engine.specs.HitLists.{hit_lists, serving}
use Rattle.sasi_engine.specs.Parts.{HitsIn, OfFile, OfMap, hits_in, hits_of}
use Rattle.sasi_engine.specs.Plans.{AreShort, IsCandidateDamage, file_numbers, is_file_of, map_numbers, names_of, of_lookup}
use Rattle.sasi_sources.specs.Maps.{IsOneOf}
use Rattle.sasi_engine.specs.TokenHits.{AreSmall, contents_in_files, maps_numbered}
use Rattle.sasi_engine.specs.Views.{ArePartsOf, IsMapIn, IsPlannedFor}
use Rattle.sasi_engine.specs.Findable.{CanFind, HasIndexes}
use Rattle.sasi_engine.specs.inside.Found.{found_in}
use Rattle.sasi_engine.specs.inside.Sources.{all_hits, found_by, has_part}
use Rattle.sasi_scan.specs.Numbered.{views_numbered}
use Rattle.sasi_engine.proofs.FileLaws.{content_is}
use Rattle.sasi_engine.proofs.Looked.{entries_run}
use Rattle.sasi_engine.proofs.Opening.{own_name}
use Rattle.sasi_engine.proofs.Places.{asked_long}
use Rattle.sasi_engine.proofs.WorldLaws.{world_decorated, world_words}

-- ---- what is told of the parts

abbrev TellsIn : ℕ → ℕ → HitsIn → Type 0
TellsIn relations files (OfFile file indexed) = (file < files) × (relations ≤ length indexed)
TellsIn relations files (OfMap found) = relations ≤ length found

tells : (relations files : ℕ) (h : PartHits) → TellsIn relations files (hits_in h) → TellsOf relations files h
tells relations files (part_hits_.File file indexed) is = is
tells relations files (part_hits_.Map found) is = is

found_tells : (relations : List IndexedRelation) (files : ℕ) (o : Option MapPart) → HasIndexes relations o → TellsIn (length relations) files (OfMap (found_by relations o))
found_tells relations files None has = absurd has
found_tells relations files (Some part) has = omega (arith, length-map relations (found_in part))

pub parts_told : (book : Book) (relations : List IndexedRelation) (from whole : ℕ) (parts : List view.Part) (hits : List PartHits) → AllByRecursion (CanFind book relations) parts → map hits_in hits ≡ all_hits book relations from parts → from + length (file_numbers parts) ≤ whole
    → AllByRecursion (TellsOf (length relations) whole) hits
parts_told book relations from whole parts [] can same fit = tt
parts_told book relations from whole [] (h ∷ hits) can same fit = cc
parts_told book relations from whole (view_part.File number indexes ∷ parts) (h ∷ hits) can same fit =
    let here : hits_in h ≡ OfFile from (map (has_part indexes) relations) = cc in
    let later : map hits_in hits ≡ all_hits book relations (from + 1) parts = cc in (
      tells (length relations) whole h (subst (TellsIn (length relations) whole) (sym here) (omega (arith, fit), omega (arith, length-map relations (has_part indexes)))),
      parts_told book relations (from + 1) whole parts hits can.1 later (omega (arith, fit)),
    )
parts_told book relations from whole (view_part.Map number ∷ parts) (h ∷ hits) can same fit =
    let here : hits_in h ≡ OfMap (found_by relations (map_.get book number)) = cc in
    let later : map hits_in hits ≡ all_hits book relations from parts = cc in (
      tells (length relations) whole h (subst (TellsIn (length relations) whole) (sym here) (found_tells relations whole (map_.get book number) can.0)),
      parts_told book relations from whole parts hits can.1 later fit,
    )

-- ---- data files

-- the pairs of a data file's partitions fit into it
content_small : (p : Partitioner) (types : List ColumnType) (bytes : Bytes) (content : Content) → IsDataFile p types bytes content → 16 * length content ≤ length bytes
unfolding data_bytes
content_small p types bytes content is =
    let pairs = key_pairs p content in
    let end = length (front content) in
    let footer = footer_bytes (record { tree = tree_ref end pairs; max_timestamp = content_max_timestamp content; end = end }) in
    omega (
      arith,
      ap (λ (bs : Bytes). length bs) is.is,
      length-append (front content) (tree_bytes end pairs ++ footer),
      length-append (tree_bytes end pairs) footer,
      tree_length end pairs,
      levels_least (length pairs) (length pairs) (omega arith),
      pairs_length p (length header) content,
    )

module _ (folder : Folder) (p : Partitioner) (t : TableParts) (book : Book) (types : List ColumnType) (types_are : types ≡ types_of t.definition) where
  -- the listed files of a view, which read as data files of the contents of its parts
  pub record HasListed (listed : List view.Part) (parts : List Part) : Type 0 where
    pub files : List ListedFile
    pub numbers_are : file_numbers listed ≡ map (λ (file : ListedFile). file.number) files
    pub contents_are : AreContents (Some folder) p types files (contents_in_files parts)

  file_content : (f : File) → (has : HasFile folder p t.definition t.numbers f) → HasContent (Some folder) p types f.listed (contents_of f.holds)
  file_content f has =
      subst (HasContent (Some folder) p types f.listed) (sym (content_is folder p t f has))
      (record { bytes = has.bytes; reads = has.there; data_file = subst (λ (ts : List ColumnType). IsDataFile p ts has.bytes has.content) (sym types_are) has.data_file; keys = has.keys })

  map_left_out : (o : Option MapPart) (q : Part) (parts : List Part) → IsMapIn t o q → files_of (q ∷ parts) ≡ files_of parts
  map_left_out None q parts is = absurd is
  map_left_out (Some m) q parts is = ap (λ (x : Part). files_of (x ∷ parts)) is.part_is

  pub all_listed : (listed : List view.Part) (parts : List Part) → ArePartsOf folder p t book listed parts → HasListed listed parts
  all_listed [] [] is = record { files = []; numbers_are = refl; contents_are = tt }
  all_listed [] (q ∷ parts) is = absurd is
  all_listed (v ∷ listed) [] is = absurd is
  all_listed (view_part.File number indexes ∷ listed) (q ∷ parts) is =
      let rest = all_listed listed parts is.1 in
      record {
        files = is.0.file.listed ∷ rest.files;
        numbers_are = ap₂ (λ (n : ℕ) (ns : List ℕ). n ∷ ns) is.0.number_is rest.numbers_are;
        contents_are = subst (λ (x : Part). AreContents (Some folder) p types (is.0.file.listed ∷ rest.files) (contents_in_files (x ∷ parts))) (sym is.0.part_is) (file_content is.0.file is.0.has, rest.contents_are);
      }
  all_listed (view_part.Map number ∷ listed) (q ∷ parts) is =
      let rest = all_listed listed parts is.1 in
      record {
        files = rest.files;
        numbers_are = rest.numbers_are;
        contents_are = subst (λ (qs : List Part). AreContents (Some folder) p types rest.files (map (λ (part : Part). contents_of part.holds) qs)) (sym (map_left_out (map_.get book number) q parts is.0)) rest.contents_are;
      }

  -- ---- maps

  pub all_maps : (listed : List view.Part) (parts : List Part) → ArePartsOf folder p t book listed parts → maps_numbered book (map_numbers listed) ≡ maps_of (in_memory parts)
  all_maps [] [] is = refl
  all_maps [] (q ∷ parts) is = absurd is
  all_maps (v ∷ listed) [] is = absurd is
  all_maps (view_part.File number indexes ∷ listed) (q ∷ parts) is = all_maps listed parts is.1 ∙ ap (λ (x : Part). maps_of (in_memory (x ∷ parts))) (sym is.0.part_is)
  all_maps (view_part.Map number ∷ listed) (q ∷ parts) is = by (map_.get book number) is.0 (all_maps listed parts is.1)
    where
      by : (o : Option MapPart) → IsMapIn t o q → maps_numbered book (map_numbers listed) ≡ maps_of (in_memory parts)
          → option_map_or (λ (m : MapPart). m.map.partitions) o map_.empty ∷ maps_numbered book (map_numbers listed) ≡ maps_of (in_memory (q ∷ parts))
      by None found rest = absurd found
      by (Some m) found rest = ap (λ (ms : List Partitions). m.map.partitions ∷ ms) rest ∙ ap (λ (x : Part). maps_of (in_memory (x ∷ parts))) (sym found.part_is)

  -- ---- sizes

  module _ (whole : List view.Part) (short : AreShort folder whole) where
    file_small : (number : ℕ) (f : File) → (has : HasFile folder p t.definition t.numbers f) → number ≡ f.listed.number → is_file_of whole (data_name number) ≡ true → 16 * length (contents_of f.holds) ≤ 2 ^ 40
    file_small number f has same among =
        let few = short (data_name number) has.bytes among (ap (λ n. map_.get folder (data_name n)) same ∙ has.there) in
        omega (arith, few, content_small p (types_of t.definition) has.bytes has.content has.data_file, ap (λ (c : Content). length c) (content_is folder p t f has))

    pub all_small : (listed : List view.Part) (parts : List Part) → ((name : FileName) → is_file_of listed name ≡ true → is_file_of whole name ≡ true) → ArePartsOf folder p t book listed parts → AreSmall parts
    all_small [] [] seen is = tt
    all_small [] (q ∷ parts) seen is = absurd is
    all_small (v ∷ listed) [] seen is = absurd is
    all_small (view_part.File number indexes ∷ listed) (q ∷ parts) seen is =
        subst (λ (x : Part). AreSmall (x ∷ parts)) (sym is.0.part_is) (
          file_small number is.0.file is.0.has is.0.number_is (seen (data_name number) (or_left (list_any (name_eq (data_name number)) (names_of (view_part.File number indexes))) (is_file_of listed (data_name number))
              (ap (λ b. b || list_any (name_eq (data_name number)) (map (index_name number) indexes)) (own_name (data_name number))))),
          all_small listed parts (λ name among. seen name (or_right (list_any (name_eq name) (names_of (view_part.File number indexes))) (is_file_of listed name) among)) is.1,
        )
    all_small (view_part.Map number ∷ listed) (q ∷ parts) seen is =
        subst (AllByRecursion (λ (part : Part). 16 * length (contents_of part.holds) ≤ 2 ^ 40)) (sym (map_left_out (map_.get book number) q parts is.0)) (all_small listed parts (λ name among. seen name among) is.1)

-- ---- what it opens

-- the name of a data file is that of a file of the view
pub numbered_file : (listed : List view.Part) (number : ℕ) → IsOneOf (file_numbers listed) number → is_file_of listed (data_name number) ≡ true
numbered_file [] number is = absurd is
numbered_file (view_part.File n indexes ∷ listed) number (inl same) =
    or_left (list_any (name_eq (data_name number)) (names_of (view_part.File n indexes))) (is_file_of listed (data_name number))
    (or_left (name_eq (data_name number) (data_name n)) (list_any (name_eq (data_name number)) (map (index_name n) indexes)) (ap (λ k. name_eq (data_name number) (data_name k)) (sym same) ∙ own_name (data_name number)))
numbered_file (view_part.File n indexes ∷ listed) number (inr later) = or_right (list_any (name_eq (data_name number)) (names_of (view_part.File n indexes))) (is_file_of listed (data_name number)) (numbered_file listed number later)
numbered_file (view_part.Map n ∷ listed) number is = numbered_file listed number is

numbers_open : (numbers : List ℕ) (name : FileName) → FilesOpen (unopened_files numbers) name → (number : ℕ) × IsOneOf numbers number × (name ≡ data_name number)
numbers_open [] name opens = absurd opens
numbers_open (n ∷ numbers) name (inl same) = (n, inl refl, same)
numbers_open (n ∷ numbers) name (inr later) = let rest = numbers_open numbers name later in (rest.0, inr rest.1, rest.2)

pub unopened_open : (listed : List view.Part) (numbers : List ℕ) (name : FileName) → numbers ≡ file_numbers listed → FilesOpen (unopened_files numbers) name → is_file_of listed name ≡ true
unopened_open listed numbers name same opens =
    let one = numbers_open numbers name opens in
    ap (is_file_of listed) one.2 ∙ numbered_file listed one.0 (subst (λ (ns : List ℕ). IsOneOf ns one.0) same one.1)

numbers_show : (listed : List view.Part) (types : List ColumnType) (seen : Option Folder) (numbers : List ℕ) (damage : Damage) → ((number : ℕ) → IsOneOf numbers number → is_file_of listed (data_name number) ≡ true) → FilesShow types seen (unopened_files numbers) damage → IsCandidateDamage listed types seen damage
numbers_show listed types seen [] damage among shows = absurd shows
numbers_show listed types seen (n ∷ numbers) damage among (inl here) = of_lookup (data_name n) refl (among n (inl refl)) here
numbers_show listed types seen (n ∷ numbers) damage among (inr later) = numbers_show listed types seen numbers damage (λ number is. among number (inr is)) later

pub unopened_show : (listed : List view.Part) (types : List ColumnType) (seen : Option Folder) (numbers : List ℕ) (damage : Damage) → numbers ≡ file_numbers listed → FilesShow types seen (unopened_files numbers) damage → IsCandidateDamage listed types seen damage
unopened_show listed types seen numbers damage same shows =
    numbers_show listed types seen numbers damage (λ number is. numbered_file listed number (subst (λ (ns : List ℕ). IsOneOf ns number) same is)) shows

-- ---- what it leaves

module _ (w : PlanWorld) (book : Book) (world : IsWorld w book) (types : List ColumnType) (relations : List IndexedRelation) (listed : List view.Part) (made : IsMadeOf w types relations listed) where
  pub own_small : AreShort w.folder listed → AreSmall w.parts
  own_small short =
      all_small w.folder w.partitioner w.table book w.types world.planned.types_are w.listed (subst (AreShort w.folder) (sym made.listed_are) short) w.listed w.parts (λ name among. among) world.planned.parts_are

  pub new_listed : HasListed w.folder w.partitioner w.table book w.types world.planned.types_are w.listed w.parts
  new_listed = all_listed w.folder w.partitioner w.table book w.types world.planned.types_are w.listed w.parts world.planned.parts_are

  pub all_candidates : candidates w.parts (where_of w.conditions) ≡ rows_in (map (candidates_at w) (looked_groups w))
  all_candidates = sym (groups_have w.partitioner w.parts w.conditions) ∙ ap (λ (key : Option (List ℕ)). rows_in (groups_with w.partitioner w.parts (where_of w.conditions) key)) world.free

  abbrev pub new_left : (Left : List Entry → Type 0) (hand : Hand) → hand.relations ≡ length relations → map hits_in hand.parts.items ≡ hits_of (asked_of w.conditions) 0 w.parts → hand.maps.items ≡ map_numbers listed → hand.keys.items ≡ []
      → IsLookingIn (Some w.folder) w.partitioner (contents_in_files w.parts) hand.lookup
      → (served : List (List ℕ)) → served ≡ serving (asked_of w.conditions) w.parts → Left (intersection_by served (hit_lists w.partitioner (asked_of w.conditions) 0 w.parts)) → IsLeft w (Some w.folder) book Left None hand (candidates w.parts (where_of w.conditions))
  new_left Left hand count hits_are maps_are keys_are looks served served_is given = record {
    origin = book;
    world = world;
    count = count ∙ ap (λ (rs : List IndexedRelation). length rs) (sym made.relations_are)
        ∙ asked_long w.folder w.partitioner w.table world.planned.own book w.relations (asked_of w.conditions) world.planned.relations_are w.relations (asked_of w.conditions) world.planned.relations_are;
    hits_are = hits_are;
    looks = looks;
    maps_are = ap (maps_numbered book) (maps_are ∙ ap map_numbers (sym made.listed_are)) ∙ all_maps w.folder w.partitioner w.table book w.types world.planned.types_are w.listed w.parts world.planned.parts_are;
    passed = [];
    groups = looked_groups w;
    groups_are = refl;
    entries = hit_entries w;
    given = subst (λ (rs : List (List ℕ)). Left (intersection_by rs (hit_lists w.partitioner (asked_of w.conditions) 0 w.parts))) served_is given;
    entries_are = entries_run w.partitioner w.parts (world_decorated w book world) w.conditions (world_words w book world) world.free world.some;
    rows = [];
    in_hand = record { keys_are = sym (ap reverse keys_are); rows_are = tt; turned = tt };
    left_is = all_candidates;
  }

  pub planned_as : IsPlannedFor w.folder w.partitioner w.table book types relations listed (asked_of w.conditions) w.parts
  planned_as =
      subst (λ (ts : List ColumnType). IsPlannedFor w.folder w.partitioner w.table book ts relations listed (asked_of w.conditions) w.parts) made.types_are
      (subst (λ (rs : List IndexedRelation). IsPlannedFor w.folder w.partitioner w.table book w.types rs listed (asked_of w.conditions) w.parts) made.relations_are
      (subst (λ (vs : List view.Part). IsPlannedFor w.folder w.partitioner w.table book w.types w.relations vs (asked_of w.conditions) w.parts) made.listed_are world.planned))

  -- what the look-up was made for reads as the contents of the parts
  pub new_looks : (numbers : List ℕ) (lookup : LookupView) → numbers ≡ file_numbers listed
      → ((seen : Option Folder) (p : Partitioner) (files : List ListedFile) (contents : List Content) → numbers ≡ map (λ (file : ListedFile). file.number) files → AreContents seen p types files contents → IsLookingIn seen p contents lookup)
      → IsLookingIn (Some w.folder) w.partitioner (contents_in_files w.parts) lookup
  new_looks numbers lookup numbers_are looks =
      looks (Some w.folder) w.partitioner new_listed.files (contents_in_files w.parts) (numbers_are ∙ ap file_numbers (sym made.listed_are) ∙ new_listed.numbers_are)
      (subst (λ (ts : List ColumnType). AreContents (Some w.folder) w.partitioner ts new_listed.files (contents_in_files w.parts)) made.types_are new_listed.contents_are)

-- what is told of the parts fits the look-up
pub new_told : (listed : List view.Part) (numbers : List ℕ) (types : List ColumnType) (relations : ℕ) (hits : List PartHits) (lookup : LookupView) → lookup ≡ record { types = types; files = unopened_files numbers } → numbers ≡ file_numbers listed
    → AllByRecursion (TellsOf relations (length (file_numbers listed))) hits → AllByRecursion (TellsOf relations (length lookup.files)) hits
new_told listed numbers types relations hits lookup made numbers_are told =
    subst (λ n. AllByRecursion (TellsOf relations n) hits) (sym (ap (λ (l : LookupView). length l.files) made ∙ length-map numbers (λ (number : ℕ). unopened (data_name number)) ∙ ap (λ (ns : List ℕ). length ns) numbers_are)) told

pub new_prints : (listed : List view.Part) (types : List ColumnType) (book : Book) (kind : ColumnType) (lookup : LookupView) (maps numbers : List ℕ) → lookup ≡ record { types = types; files = unopened_files numbers } → maps ≡ map_numbers listed
    → HasKeyType types (views_numbered book (map_numbers listed)) kind → HasKeyType lookup.types (views_numbered book maps) kind
new_prints listed types book kind lookup maps numbers made maps_are has =
    subst (λ (ns : List ℕ). HasKeyType lookup.types (views_numbered book ns) kind) (sym maps_are) (subst (λ (ts : List ColumnType). HasKeyType ts (views_numbered book (map_numbers listed)) kind) (sym (ap (λ (l : LookupView). l.types) made)) has)
