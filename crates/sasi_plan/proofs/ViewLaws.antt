-- The parts of a view: what its data files and its maps have, and what is looked at for them.
use Rattle.std.proofs.Common.{◌≡◌, ℕ, ◌≤◌, ◌==◌, true, false, List, [], ◌∷◌, ◌++◌, length, map, Option, None, Some, refl, sym, ap, ap₂, subst, ◌∙◌, arith, append_assoc, inl, inr, rules}
use Rattle.std.proofs.lemmas.List.{map-append}
use Rattle.std.specs.FinMap as map_
use Rattle.std.specs.Option.{option_map_or}
use Rattle.sasi_types.specs.declared.column.ColumnType.{ColumnType}
use Rattle.sasi_types.specs.declared.partitioner.Partitioner.{Partitioner}
use Rattle.sasi_host.specs.declared.name.FileName.{FileName}
use Rattle.sasi_host.specs.Names.{Folder, data_name}
use Rattle.sasi_host.specs.View.{contents_in}
use Rattle.sasi_cells.specs.Maps.{merged}
use Rattle.sasi_model.specs.Abbreviations.{Partitions}
use Rattle.sasi_memindex.specs.Book.{AreKept, Book}
use Rattle.sasi_memindex.specs.MemIndexView.{Numbered}
use Rattle.sasi_memindex.specs.declared.map_part.MapPart.{MapPart}
use Rattle.sasi_memtable.specs.MemtableView.{MemtableView}
use Rattle.sasi_manifest.specs.declared.files.ListedFile.{ListedFile}
use Rattle.sasi_datawrite.specs.Format.{Content}
use Rattle.sasi_layout.specs.Layout.{TableParts}
use Rattle.sasi_scan.specs.Parts.{AreContents, merged_parts}
use Rattle.sasi_scan.proofs.KeyLookups.{parts_are}
use Rattle.sasi_memindex.specs.Growth.{IsGrown}
use Rattle.sasi_sources.specs.KeyCandidates.{IsListed}
use Rattle.sasi_views.specs.declared.part.Part as view
use Rattle.sasi_views.specs.declared.part.Part.TheVariants as view_part
use Rattle.sasi_candidates.specs.Costs.{files_of}
use Rattle.sasi_candidates.specs.LayoutParts.{part_of_map}
use Rattle.sasi_candidates.specs.Parts.{Part, maps_of}
use Rattle.sasi_engine.specs.declared.relation.IndexedRelation.{IndexedRelation}
use Rattle.sasi_engine.specs.Asked.{Asked, asked_of}
use Rattle.sasi_engine.specs.HitCandidates.{PlanWorld, in_memory}
use Rattle.sasi_engine.specs.Plans.{file_numbers, is_file_of, map_numbers}
use Rattle.sasi_sources.specs.Maps.{IsOneOf}
use Rattle.sasi_engine.specs.TokenHits.{contents_in_files, maps_numbered}
use Rattle.sasi_scan.specs.Numbered.{views_numbered}
use Rattle.sasi_engine.specs.Views.{AreAsked, ArePartsOf, IsMapIn}
use Rattle.sasi_engine.proofs.NewLaws.{all_listed, all_maps, numbered_file}
use Rattle.sasi_engine.proofs.Places.{view_decorated}
use Rattle.sasi_engine.proofs.WorldLaws.{files_made}
use Rattle.sasi_plan.specs.Reading.{IsViewOf, listed_files}

-- ---- relations

pub none_asked : (t : TableParts) (relations : List IndexedRelation) (asked : List Asked) → AreAsked t relations asked → relations ≡ [] → asked ≡ []
none_asked t [] [] are none = refl
none_asked t [] (a ∷ asked) are none = absurd are
none_asked t (r ∷ relations) asked are none = cc

pub some_asked : (t : TableParts) (relations : List IndexedRelation) (asked : List Asked) → AreAsked t relations asked → 1 ≤ length relations → 1 ≤ length asked
some_asked t [] asked are some = absurd (omega (arith, some))
some_asked t (r ∷ relations) [] are some = absurd are
some_asked t (r ∷ relations) (a ∷ asked) are some = omega arith

pub no_relations : (relations : List IndexedRelation) → (length relations == 0) ≡ true → relations ≡ []
no_relations [] is = refl
no_relations (r ∷ relations) is = let none : length (r ∷ relations) ≡ 0 = search (rules, is) in absurd (omega (arith, none))

pub some_relations : (relations : List IndexedRelation) → (length relations == 0) ≡ false → 1 ≤ length relations
some_relations [] is = cc
some_relations (r ∷ relations) is = omega arith

-- ---- what is looked at

numbers_listed : (listed : List view.Part) → file_numbers listed ≡ map (λ (file : ListedFile). file.number) (listed_files listed)
numbers_listed [] = refl
numbers_listed (view_part.File number indexes ∷ listed) = ap (λ (ns : List ℕ). number ∷ ns) (numbers_listed listed)
numbers_listed (view_part.Map number ∷ listed) = numbers_listed listed

file_listed : (files : List ListedFile) (name : FileName) → IsListed files name → (number : ℕ) × IsOneOf (map (λ (file : ListedFile). file.number) files) number × (name ≡ data_name number)
file_listed [] name is = absurd is
file_listed (file ∷ files) name (inl same) = (file.number, inl refl, same)
file_listed (file ∷ files) name (inr later) = let rest = file_listed files name later in (rest.0, inr rest.1, rest.2)

-- **A listed data file is a file of the view.**
pub listed_file : (listed : List view.Part) (name : FileName) → IsListed (listed_files listed) name → is_file_of listed name ≡ true
listed_file listed name is =
    let one = file_listed (listed_files listed) name is in
    ap (is_file_of listed) one.2 ∙ numbered_file listed one.0 (subst (λ (ns : List ℕ). IsOneOf ns one.0) (sym (numbers_listed listed)) one.1)

-- ---- another book

map_stays : (t : TableParts) (was now : Option MapPart) (part : Part) → IsGrown was now → IsMapIn t was part → IsMapIn t now part
map_stays t None None part grown is = is
map_stays t None (Some now) part grown is = absurd grown
map_stays t (Some was) None part grown is = absurd grown
map_stays t (Some was) (Some now) part grown is = record {
  part_is = is.part_is ∙ ap (λ (m : MemtableView). part_of_map m.partitions) (sym grown.same);
  own = is.own;
  later = is.later ++ grown.added;
  indexes_are = grown.indexes_are ∙ ap (λ (indexes : Numbered). indexes ++ grown.added) is.indexes_are ∙ append_assoc is.own is.later grown.added;
  subjects_are = is.subjects_are;
  kept = subst (λ (m : MemtableView). AreKept m.partitions is.own) (sym grown.same) is.kept;
}

module _ (was now : Book) where
  parts_stay : (folder : Folder) (p : Partitioner) (t : TableParts) (listed : List view.Part) (parts : List Part) → ((number : ℕ) → IsOneOf (map_numbers listed) number → IsGrown (map_.get was number) (map_.get now number))
      → ArePartsOf folder p t was listed parts → ArePartsOf folder p t now listed parts
  parts_stay folder p t [] [] same are = are
  parts_stay folder p t [] (q ∷ parts) same are = are
  parts_stay folder p t (v ∷ listed) [] same are = absurd are
  parts_stay folder p t (view_part.File number indexes ∷ listed) (q ∷ parts) same are = (are.0, parts_stay folder p t listed parts same are.1)
  parts_stay folder p t (view_part.Map number ∷ listed) (q ∷ parts) same are =
      (map_stays t (map_.get was number) (map_.get now number) q (same number (inl refl)) are.0, parts_stay folder p t listed parts (λ n is. same n (inr is)) are.1)

  -- **A view stays one in a book that has its maps, perhaps with further indexes.**
  pub view_stays : (w : PlanWorld) → ((number : ℕ) → IsOneOf (map_numbers w.listed) number → IsGrown (map_.get was number) (map_.get now number)) → IsViewOf w was → IsViewOf w now
  view_stays w same is = record {
    planned = record {
      own = is.planned.own;
      types_are = is.planned.types_are;
      relations_are = is.planned.relations_are;
      parts_are = parts_stay w.folder w.partitioner w.table w.listed w.parts same is.planned.parts_are;
    };
    ordered = is.ordered;
    own_tokens = is.own_tokens;
  }

-- ---- the merge of its parts

contents_numbered : (seen : Option Folder) (p : Partitioner) (types : List ColumnType) (files others : List ListedFile) (contents : List Content) → map (λ (file : ListedFile). file.number) others ≡ map (λ (file : ListedFile). file.number) files
    → AreContents seen p types files contents → AreContents seen p types others contents
contents_numbered seen p types [] [] contents same are = are
contents_numbered seen p types [] (o ∷ others) contents same are = cc
contents_numbered seen p types (f ∷ files) [] contents same are = cc
contents_numbered seen p types (f ∷ files) (o ∷ others) [] same are = absurd are
contents_numbered seen p types (f ∷ files) (o ∷ others) (c ∷ contents) same are =
    let number : o.number ≡ f.number = cc in
    let rest : map (λ (file : ListedFile). file.number) others ≡ map (λ (file : ListedFile). file.number) files = cc in (
      record { bytes = are.0.bytes; reads = ap (λ n. contents_in seen (data_name n)) number ∙ are.0.reads; data_file = are.0.data_file; keys = are.0.keys },
      contents_numbered seen p types files others contents rest are.1,
    )

-- the book has each map of a view
views_are : (folder : Folder) (p : Partitioner) (t : TableParts) (book : Book) (listed : List view.Part) (parts : List Part) → ArePartsOf folder p t book listed parts
    → map (λ (m : MemtableView). m.partitions) (views_numbered book (map_numbers listed)) ≡ maps_numbered book (map_numbers listed)
views_are folder p t book [] parts are = refl
views_are folder p t book (v ∷ listed) [] are = absurd are
views_are folder p t book (view_part.File number indexes ∷ listed) (q ∷ parts) are = views_are folder p t book listed parts are.1
views_are folder p t book (view_part.Map number ∷ listed) (q ∷ parts) are = by (map_.get book number) are.0 (views_are folder p t book listed parts are.1)
  where
    by : (o : Option MapPart) → IsMapIn t o q → map (λ (m : MemtableView). m.partitions) (views_numbered book (map_numbers listed)) ≡ maps_numbered book (map_numbers listed)
        → map (λ (m : MemtableView). m.partitions) (option_map_or (λ (part : MapPart). part.map ∷ []) o [] ++ views_numbered book (map_numbers listed)) ≡ option_map_or (λ (m : MapPart). m.map.partitions) o map_.empty ∷ maps_numbered book (map_numbers listed)
    by None is rest = absurd is
    by (Some m) is rest = ap (λ (ms : List Partitions). m.map.partitions ∷ ms) rest

module _ (w : PlanWorld) (book : Book) (is : IsViewOf w book) where
  -- **The listed files have the contents of its parts,**
  pub view_contents : AreContents (Some w.folder) w.partitioner w.types (listed_files w.listed) (contents_in_files w.parts)
  view_contents =
      let have = all_listed w.folder w.partitioner w.table book w.types is.planned.types_are w.listed w.parts is.planned.parts_are in
      contents_numbered (Some w.folder) w.partitioner w.types have.files (listed_files w.listed) (contents_in_files w.parts) (sym (numbers_listed w.listed) ∙ have.numbers_are) have.contents_are

  -- **and the merge of them and of its maps is that of its parts.**
  pub view_merged : merged_parts w.partitioner (contents_in_files w.parts) (views_numbered book (map_numbers w.listed)) ≡ merged (maps_of w.parts)
  view_merged =
      ap merged (
      parts_are w.partitioner (contents_in_files w.parts) (views_numbered book (map_numbers w.listed))
      ∙ ap₂ (λ (a b : List Partitions). a ++ b)
      (files_made w.partitioner w.parts (view_decorated w.folder w.partitioner w.table book w.types w.relations w.listed (asked_of w.conditions) w.parts is.planned))
      (views_are w.folder w.partitioner w.table book w.listed w.parts is.planned.parts_are ∙ all_maps w.folder w.partitioner w.table book w.types is.planned.types_are w.listed w.parts is.planned.parts_are)
      ∙ sym (map-append (λ (part : Part). part.holds) (files_of w.parts) (in_memory w.parts))
      ∙ ap maps_of (sym is.ordered)
      )
