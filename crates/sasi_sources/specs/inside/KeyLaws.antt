-- What is known of a look-up of a key stays while its files are unchanged, and its maps but for indexes that were added.
use Rattle.std.proofs.Common.{◌≡◌, ℕ, List, [], ◌∷◌, Option, None, Some, ◌++◌, refl, sym, ap₂, subst, ◌∙◌, inl, inr}
use Rattle.std.specs.FinMap.{get}
use Rattle.std.specs.List.{AllByRecursion}
use Rattle.sasi_types.specs.declared.column.ColumnType.{ColumnType}
use Rattle.sasi_types.specs.declared.decorated_key.DecoratedKey.{DecoratedKey}
use Rattle.sasi_types.specs.declared.partitioner.Partitioner.{Partitioner}
use Rattle.sasi_host.specs.declared.name.FileName.{FileName}
use Rattle.sasi_host.specs.Names.{Folder, data_name}
use Rattle.sasi_host.specs.View.{IsThere, View, contents_in}
use Rattle.sasi_datawrite.specs.Format.{Content}
use Rattle.sasi_manifest.specs.declared.files.ListedFile.{ListedFile}
use Rattle.sasi_memindex.specs.Book.{Book}
use Rattle.sasi_memtable.specs.MemtableView.{MemtableView}
use Rattle.sasi_scan.specs.Numbered.{views_numbered}
use Rattle.sasi_scan.specs.Parts.{AreContents, HasContent}
use Rattle.sasi_memindex.specs.Growth.{IsGrown}
use Rattle.sasi_memindex.proofs.GrowthLaws.{grown_seen}
use Rattle.sasi_recheck.specs.Sources.{Candidate}
use Rattle.sasi_sources.specs.KeyCandidates.{HasKeyType, IsKeyOf, IsListed, KeyLeaves, KeyPays}
use Rattle.sasi_sources.specs.Maps.{IsOneOf}

-- ---- maps

pub views_stay : (was now : Book) (numbers : List ℕ) → ((number : ℕ) → IsOneOf numbers number → IsGrown (get was number) (get now number)) → views_numbered now numbers ≡ views_numbered was numbers
views_stay was now [] same = refl
views_stay was now (n ∷ ns) same =
    ap₂ (λ (here ms : List MemtableView). here ++ ms) (grown_seen (λ (m : MemtableView). m ∷ []) [] (get was n) (get now n) (same n (inl refl))) (views_stay was now ns (λ number is. same number (inr is)))

-- ---- files

content_stays : (old new : Option Folder) (p : Partitioner) (types : List ColumnType) (file : ListedFile) (content : Content) → contents_in new (data_name file.number) ≡ contents_in old (data_name file.number)
    → HasContent old p types file content → HasContent new p types file content
content_stays old new p types file content same is = record { bytes = is.bytes; reads = same ∙ is.reads; data_file = is.data_file; keys = is.keys }

pub contents_stay : (old new : Option Folder) (p : Partitioner) (types : List ColumnType) (files : List ListedFile) (contents : List Content) → ((name : FileName) → IsListed files name → contents_in new name ≡ contents_in old name)
    → AreContents old p types files contents → AreContents new p types files contents
contents_stay old new p types [] [] same are = are
contents_stay old new p types [] (content ∷ contents) same are = are
contents_stay old new p types (file ∷ files) [] same are = are
contents_stay old new p types (file ∷ files) (content ∷ contents) same are =
    (content_stays old new p types file content (same (data_name file.number) (inl refl)) are.0, contents_stay old new p types files contents (λ name later. same name (inr later)) are.1)

-- the listed files are there
pub all_there : (v : View) (files : List ListedFile) → ((name : FileName) → IsListed files name → IsThere v name) → AllByRecursion (λ (file : ListedFile). IsThere v (data_name file.number)) files
all_there v [] there = tt
all_there v (file ∷ files) there = (there (data_name file.number) (inl refl), all_there v files (λ name later. there name (inr later)))

-- ---- a look-up

key_stays : (old new : Option Folder) (types : List ColumnType) (files : List ListedFile) (key : DecoratedKey) (p : Partitioner) (contents : List Content) → ((name : FileName) → IsListed files name → contents_in new name ≡ contents_in old name)
    → IsKeyOf old types files key p contents → IsKeyOf new types files key p contents
key_stays old new types files key p contents same is = record { contents_are = contents_stay old new p types files contents same is.contents_are; decorated_is = is.decorated_is }

leaves_stay : (types : List ColumnType) (files : List ListedFile) (key : Option DecoratedKey) (old new : Option Folder) (maps : List MemtableView) (left : List Candidate) → ((name : FileName) → IsListed files name → contents_in new name ≡ contents_in old name)
    → KeyLeaves types files key old maps left → KeyLeaves types files key new maps left
leaves_stay types files None old new maps left same is = is
leaves_stay types files (Some key) old new maps left same is = (is.0, is.1, key_stays old new types files key is.0 is.1 same is.2, is.3)

pays_stay : (types : List ColumnType) (files : List ListedFile) (key : Option DecoratedKey) (old new : Option Folder) (most : ℕ) (prices : List ℕ) → ((name : FileName) → IsListed files name → contents_in new name ≡ contents_in old name)
    → KeyPays types files key old most prices → KeyPays types files key new most prices
pays_stay types files None old new most prices same is = is
pays_stay types files (Some key) old new most prices same is = (is.0, is.1, key_stays old new types files key is.0 is.1 same is.2, is.3)

pub key_keeps : (types : List ColumnType) (files : List ListedFile) (key : Option DecoratedKey) (numbers : List ℕ) (old new : Option Folder) (was now : Book) → ((name : FileName) → IsListed files name → contents_in new name ≡ contents_in old name)
    → ((number : ℕ) → IsOneOf numbers number → IsGrown (get was number) (get now number))
    → (Unit {0} → Unit {0}) × ((left : List Candidate) → KeyLeaves types files key old (views_numbered was numbers) left → KeyLeaves types files key new (views_numbered now numbers) left)
    × ((most : ℕ) (prices : List ℕ) → KeyPays types files key old most prices → KeyPays types files key new most prices) × ((kind : ColumnType) → HasKeyType types (views_numbered was numbers) kind → HasKeyType types (views_numbered now numbers) kind)
key_keeps types files key numbers old new was now same maps =
    let stay = sym (views_stay was now numbers maps) in (
      (λ ready. ready),
      (λ left is. subst (λ (ms : List MemtableView). KeyLeaves types files key new ms left) stay (leaves_stay types files key old new (views_numbered was numbers) left same is)),
      (λ most prices is. pays_stay types files key old new most prices same is),
      (λ kind is. subst (λ (ms : List MemtableView). HasKeyType types ms kind) stay is),
    )
