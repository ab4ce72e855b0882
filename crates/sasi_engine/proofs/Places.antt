-- Where the hits of a plan are, in the parts of the table.
use Rattle.std.proofs.Common.{◌≡◌, ℕ, suc, ◌+◌, ◌≤◌, length, List, [], ◌∷◌, map, Option, None, Some, refl, sym, ap, ap₂, subst, ◌∙◌, arith}
use Rattle.std.specs.FinMap.{get}
use Rattle.std.specs.List.{AllByRecursion, filter}
use Rattle.sasi_types.specs.declared.column.ColumnType.{ColumnType}
use Rattle.sasi_types.specs.declared.decorated_key.DecoratedKey.{DecoratedKey}
use Rattle.sasi_types.specs.declared.partitioner.Partitioner.{Partitioner}
use Rattle.sasi_host.specs.Names.{Folder}
use Rattle.sasi_model.specs.Conditions.{Search}
use Rattle.sasi_manifest.specs.declared.files.PartNumber.{PartNumber}
use Rattle.sasi_memindex.specs.Book.{Book}
use Rattle.sasi_memindex.specs.declared.map_part.MapPart.{MapPart}
use Rattle.sasi_layout.specs.Layout.{TableParts}
use Rattle.sasi_views.specs.declared.part.Part as view
use Rattle.sasi_views.specs.declared.part.Part.TheVariants as view_part
use Rattle.sasi_candidates.specs.Parts.{Part}
use Rattle.sasi_candidates.proofs.FileIndexes.{HasOwnIndexes}
use Rattle.sasi_engine.specs.declared.relation.IndexedRelation.{IndexedRelation}
use Rattle.sasi_engine.specs.Asked.{Asked, indexed_in, is_hit, keys_of}
use Rattle.sasi_engine.specs.HitLists.{columns_of, position_rows, serving}
use Rattle.sasi_engine.specs.Parts.{HitsIn, OfFile, files_after, hits_at, hits_of}
use Rattle.sasi_engine.specs.Parts as parts
use Rattle.sasi_engine.specs.Views.{AreAsked, ArePartsOf, IsDecorated, IsMapIn, IsMapOf, IsPartOf, IsPlannedFor}
use Rattle.sasi_engine.specs.Findable.{CanFind, HasIndexFor, HasIndexes, HasWords}
use Rattle.sasi_engine.specs.inside.Found.{found_in}
use Rattle.sasi_engine.specs.inside.Sources.{all_hits, files_with, found_by, has_part, part_bits, part_hits}
use Rattle.sasi_engine.proofs.FileLaws.{file_keys}
use Rattle.sasi_engine.proofs.FoundLaws.{found_hits, index_there}
use Rattle.sasi_engine.proofs.Leaving.{all_bits, bits_are}
use Rattle.sasi_engine.proofs.Served.{AreDecorated}

module _ (folder : Folder) (p : Partitioner) (t : TableParts) (own : HasOwnIndexes t) (book : Book) where
  -- ---- keys

  map_decorated : (o : Option MapPart) (part : Part) → IsMapIn t o part → IsDecorated p part.origin part.holds
  map_decorated None part is = absurd is
  map_decorated (Some m) part is = subst (λ (x : Part). IsDecorated p x.origin x.holds) (sym is.part_is) tt

  part_decorated : (v : view.Part) (part : Part) → IsPartOf folder p t book v part → IsDecorated p part.origin part.holds
  part_decorated (view_part.File number indexes) part is = subst (λ (x : Part). IsDecorated p x.origin x.holds) (sym is.part_is) (file_keys folder p t is.file is.has)
  part_decorated (view_part.Map number) part is = map_decorated (get book number) part is

  parts_decorated : (vs : List view.Part) (ps : List Part) → ArePartsOf folder p t book vs ps → AreDecorated p ps
  parts_decorated [] [] is = tt
  parts_decorated [] (q ∷ ps) is = absurd is
  parts_decorated (v ∷ vs) [] is = absurd is
  parts_decorated (v ∷ vs) (q ∷ ps) is = (part_decorated v q is.0, parts_decorated vs ps is.1)

  -- ---- hits

  module _ (relations : List IndexedRelation) (asked : List Asked) (are : AreAsked t relations asked) where
    found_all : (m : MapPart) (part : Part) → IsMapOf t m part → (rs : List IndexedRelation) (more : List Asked) → AreAsked t rs more → map (found_in m) rs ≡ map (λ (a : Asked). filter (is_hit a part) (keys_of part.holds)) more
    found_all m part is [] [] each = refl
    found_all m part is [] (a ∷ more) each = absurd each
    found_all m part is (r ∷ rs) [] each = absurd each
    found_all m part is (r ∷ rs) (a ∷ more) each = ap₂ (λ (l : List DecoratedKey) ls. l ∷ ls) (found_hits t m part is r a each.0) (found_all m part is rs more each.1)

    map_place : (files : ℕ) (o : Option MapPart) (part : Part) → IsMapIn t o part → parts.OfMap (found_by relations o) ≡ hits_at asked files part part.origin
    map_place files None part is = absurd is
    map_place files (Some m) part is = ap parts.OfMap (found_all m part is relations asked are) ∙ ap (λ (x : Part). hits_at asked files part x.origin) (sym is.part_is)

    part_place : (files : ℕ) (v : view.Part) (part : Part) → IsPartOf folder p t book v part → part_hits book relations files v ≡ hits_at asked files part part.origin
    part_place files (view_part.File number indexes) part is =
        ap (λ (ps : List PartNumber). OfFile files (map (has_part ps) relations)) is.indexes_are
        ∙ ap (OfFile files) (bits_are folder p t own is.file is.has relations asked are ∙ ap (indexed_in asked) (sym is.part_is))
        ∙ ap (λ (x : Part). hits_at asked files part x.origin) (sym is.part_is)
    part_place files (view_part.Map number) part is = map_place files (get book number) part is

    map_files : (files : ℕ) (o : Option MapPart) (part : Part) → IsMapIn t o part → files ≡ files_after files part.origin
    map_files files None part is = absurd is
    map_files files (Some m) part is = ap (λ (x : Part). files_after files x.origin) (sym is.part_is)

    part_files : (files : ℕ) (v : view.Part) (part : Part) → IsPartOf folder p t book v part → files_with files v ≡ files_after files part.origin
    part_files files (view_part.File number indexes) part is = (let same : files + 1 ≡ suc files = omega arith in same ∙ ap (λ (x : Part). files_after files x.origin) (sym is.part_is))
    part_files files (view_part.Map number) part is = map_files files (get book number) part is

    parts_placed : (files : ℕ) (vs : List view.Part) (ps : List Part) → ArePartsOf folder p t book vs ps → all_hits book relations files vs ≡ hits_of asked files ps
    parts_placed files [] [] is = refl
    parts_placed files [] (q ∷ ps) is = absurd is
    parts_placed files (v ∷ vs) [] is = absurd is
    parts_placed files (v ∷ vs) (q ∷ ps) is =
        ap₂ (λ (h : HitsIn) hs. h ∷ hs) (part_place files v q is.0) (ap (λ n. all_hits book relations n vs) (part_files files v q is.0) ∙ parts_placed (files_after files q.origin) vs ps is.1)

    pub asked_long : (rs : List IndexedRelation) (more : List Asked) → AreAsked t rs more → length rs ≡ length more
    asked_long [] [] each = refl
    asked_long [] (a ∷ more) each = absurd each
    asked_long (r ∷ rs) [] each = absurd each
    asked_long (r ∷ rs) (a ∷ more) each = ap suc (asked_long rs more each.1)

-- ---- what the call asks for

module _ (folder : Folder) (p : Partitioner) (t : TableParts) (book : Book) (relations : List IndexedRelation) where
  map_can : (m : MapPart) (part : Part) → IsMapOf t m part → (rs : List IndexedRelation) (more : List Asked) → AreAsked t rs more → AllByRecursion (HasIndexFor m) rs
  map_can m part is [] more each = tt
  map_can m part is (r ∷ rs) [] each = absurd each
  map_can m part is (r ∷ rs) (a ∷ more) each = (index_there t m part is r a each.0, map_can m part is rs more each.1)

  map_found : (o : Option MapPart) (part : Part) (asked : List Asked) → AreAsked t relations asked → IsMapIn t o part → HasIndexes relations o
  map_found None part asked are is = is
  map_found (Some m) part asked are is = map_can m part is relations asked are

  parts_can : (asked : List Asked) → AreAsked t relations asked → (vs : List view.Part) (ps : List Part) → ArePartsOf folder p t book vs ps → AllByRecursion (CanFind book relations) vs
  parts_can asked are [] ps is = tt
  parts_can asked are (v ∷ vs) [] is = absurd is
  parts_can asked are (view_part.File number indexes ∷ vs) (q ∷ ps) is = (tt, parts_can asked are vs ps is.1)
  parts_can asked are (view_part.Map number ∷ vs) (q ∷ ps) is = (map_found (get book number) q asked are is.0, parts_can asked are vs ps is.1)

-- **Each map of a view is in the book, with the relations' indexes,**
pub view_can_find : (folder : Folder) (p : Partitioner) (t : TableParts) (book : Book) (types : List ColumnType) (relations : List IndexedRelation) (vs : List view.Part) (asked : List Asked) (ps : List Part)
    → IsPlannedFor folder p t book types relations vs asked ps → AllByRecursion (CanFind book relations) vs
view_can_find folder p t book types relations vs asked ps is = parts_can folder p t book relations asked is.relations_are vs ps is.parts_are

-- **and each relation has a word.**
pub asked_words : (t : TableParts) (relations : List IndexedRelation) (asked : List Asked) → AreAsked t relations asked → AllByRecursion HasWords relations
asked_words t [] asked are = tt
asked_words t (r ∷ relations) [] are = absurd are
asked_words t (r ∷ relations) (a ∷ asked) are = (subst (λ (s : Search). 1 ≤ length s.words) are.0.search_is are.0.some, asked_words t relations asked are.1)

-- **The keys of a view's files have the tokens that the partitioner gives them.**
pub view_decorated : (folder : Folder) (p : Partitioner) (t : TableParts) (book : Book) (types : List ColumnType) (relations : List IndexedRelation) (vs : List view.Part) (asked : List Asked) (ps : List Part)
    → IsPlannedFor folder p t book types relations vs asked ps → AreDecorated p ps
view_decorated folder p t book types relations vs asked ps is = parts_decorated folder p t is.own book vs ps is.parts_are

-- the hits are where the plan tells,
pub view_placed : (folder : Folder) (p : Partitioner) (t : TableParts) (book : Book) (types : List ColumnType) (relations : List IndexedRelation) (vs : List view.Part) (asked : List Asked) (ps : List Part)
    → IsPlannedFor folder p t book types relations vs asked ps → all_hits book relations 0 vs ≡ hits_of asked 0 ps
view_placed folder p t book types relations vs asked ps is = parts_placed folder p t is.own book relations asked is.relations_are 0 vs ps is.parts_are

-- and these streams serve the relations
pub view_served : (folder : Folder) (p : Partitioner) (t : TableParts) (book : Book) (types : List ColumnType) (relations : List IndexedRelation) (vs : List view.Part) (asked : List Asked) (ps : List Part)
    → IsPlannedFor folder p t book types relations vs asked ps → columns_of (position_rows 0 (map (part_bits relations) vs)) (length relations) ≡ serving asked ps
view_served folder p t book types relations vs asked ps is =
    ap₂ (λ rows n. columns_of (position_rows 0 rows) n) (all_bits folder p t is.own book types is.types_are relations asked is.relations_are vs ps is.parts_are)
    (asked_long folder p t is.own book relations asked is.relations_are relations asked is.relations_are)
