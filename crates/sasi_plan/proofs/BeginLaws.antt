-- What a source of candidates that was begun leaves, and what it takes: that of the conditions of its world.
use Rattle.std.proofs.Common.{◌≡◌, ℕ, ◌+◌, ◌≤◌, List, [], ◌∷◌, length, None, Some, sym, ap, subst, ◌∙◌, arith}
use Rattle.std.specs.FinMap as map_
use Rattle.sasi_types.specs.declared.column.ColumnType.{ColumnType}
use Rattle.sasi_types.specs.declared.decorated_key.DecoratedKey.{DecoratedKey}
use Rattle.sasi_model.specs.Abbreviations.{Partitions}
use Rattle.sasi_model.specs.State.{decorated}
use Rattle.sasi_manifest.specs.declared.files.ListedFile.{ListedFile}
use Rattle.sasi_memindex.specs.Book.{Book}
use Rattle.sasi_datawrite.specs.Format.{Content}
use Rattle.sasi_scan.specs.Finding.{key_reads}
use Rattle.sasi_scan.specs.Numbered.{views_numbered}
use Rattle.sasi_scan.specs.Paging.{table_reads}
use Rattle.sasi_scan.specs.Parts.{AreContents, merged_parts}
use Rattle.sasi_sources.specs.KeyCandidates.{IsKeyOf, found_of}
use Rattle.sasi_views.specs.declared.part.Part as view
use Rattle.sasi_candidates.specs.Candidates.{candidates}
use Rattle.sasi_candidates.specs.Costs.{token_cost}
use Rattle.sasi_model.specs.Filters.{key_asked, where_of}
use Rattle.sasi_recheck.specs.Sources.{Candidate, first_price}
use Rattle.sasi_engine.specs.declared.relation.IndexedRelation.{IndexedRelation}
use Rattle.sasi_engine.specs.Asked.{asked_of}
use Rattle.sasi_engine.specs.HitCandidates.{IsMadeOf, IsWorld, PlanWorld, looked_groups, prices_from}
use Rattle.sasi_engine.specs.KeyedHits.{IsKeyedWorld}
use Rattle.sasi_engine.specs.Plans.{map_numbers}
use Rattle.sasi_engine.specs.TokenHits.{contents_in_files}
use Rattle.sasi_plan.specs.Reading.{HitPrices, IsMadeForKey, IsViewOf, KeyPrices, TablePrices, listed_files}
use Rattle.sasi_plan.proofs.CandidateLaws.{all_candidates, key_candidates}
use Rattle.sasi_plan.proofs.ViewLaws.{none_asked, some_asked, view_contents, view_merged}

module _ (w : PlanWorld) (book : Book) (is : IsViewOf w book) (types : List ColumnType) (listed : List view.Part) where
  -- ---- without indexed columns

  module _ (made : IsMadeOf w types [] listed) (files : List ListedFile) (files_are : files ≡ listed_files listed) where
    nothing_asked : asked_of w.conditions ≡ []
    nothing_asked = none_asked w.table w.relations (asked_of w.conditions) is.planned.relations_are made.relations_are

    are_listed : listed_files w.listed ≡ files
    are_listed = ap listed_files made.listed_are ∙ sym files_are

    files_have : AreContents (Some w.folder) w.partitioner types files (contents_in_files w.parts)
    files_have =
        subst (λ (ts : List ColumnType). AreContents (Some w.folder) w.partitioner ts files (contents_in_files w.parts)) made.types_are
        (subst (λ (fs : List ListedFile). AreContents (Some w.folder) w.partitioner w.types fs (contents_in_files w.parts)) are_listed (view_contents w book is))

    merge_is : (numbers : List ℕ) → numbers ≡ map_numbers listed → merged_parts w.partitioner (contents_in_files w.parts) (views_numbered book numbers) ≡ merged_parts w.partitioner (contents_in_files w.parts) (views_numbered book (map_numbers w.listed))
    merge_is numbers numbers_are = ap (λ (ns : List ℕ). merged_parts w.partitioner (contents_in_files w.parts) (views_numbered book ns)) (numbers_are ∙ ap map_numbers (sym made.listed_are))

    -- **A scan of the listed files and the maps leaves the candidates of the conditions,**
    pub scan_leaves : key_asked w.conditions ≡ None → (Leaves : List Candidate → Type 0) (left : List Candidate) → left ≡ candidates w.parts (where_of w.conditions) → (numbers : List ℕ) → numbers ≡ map_numbers listed
        → ((contents : List Content) → AreContents (Some w.folder) w.partitioner types files contents → Leaves (map_.entries (merged_parts w.partitioner contents (views_numbered book numbers)))) → Leaves left
    scan_leaves free Leaves left left_is numbers numbers_are leaves =
        subst Leaves
        (ap map_.entries (merge_is numbers numbers_are ∙ view_merged w book is) ∙ sym (left_is ∙ all_candidates w.parts w.conditions free nothing_asked))
        (leaves (contents_in_files w.parts) files_have)

    -- **and takes what it says of itself.**
    pub scan_pays : (Pays : Type 0) (most : ℕ) (prices : List ℕ) → TablePrices w [] most prices
        → ((contents : List Content) → AreContents (Some w.folder) w.partitioner types files contents → table_reads (Some w.folder) files ≤ most + first_price prices → Pays) → Pays
    scan_pays Pays most prices few pays = pays (contents_in_files w.parts) files_have (subst (λ (fs : List ListedFile). table_reads (Some w.folder) fs ≤ most + first_price prices) are_listed few)

    is_key : (key : DecoratedKey) → key ≡ decorated w.partitioner key.key → IsKeyOf (Some w.folder) types files key w.partitioner (contents_in_files w.parts)
    is_key key own = record { contents_are = files_have; decorated_is = own }

    -- **A look-up of the key leaves the candidates of the conditions, too,**
    pub look_up_leaves : (key : DecoratedKey) → IsMadeForKey w key [] types listed → (Leaves : List Candidate → Type 0) (left : List Candidate) → left ≡ candidates w.parts (where_of w.conditions) → (numbers : List ℕ) → numbers ≡ map_numbers listed
        → ((contents : List Content) → IsKeyOf (Some w.folder) types files key w.partitioner contents → Leaves (found_of key (map_.get (merged_parts w.partitioner contents (views_numbered book numbers)) key))) → Leaves left
    look_up_leaves key of Leaves left left_is numbers numbers_are leaves =
        subst Leaves
        (ap (λ (m : Partitions). found_of key (map_.get m key)) (merge_is numbers numbers_are ∙ view_merged w book is)
        ∙ sym (left_is ∙ key_candidates w.parts w.conditions w.partitioner key of.1 of.2 nothing_asked of.3 is.own_tokens))
        (leaves (contents_in_files w.parts) (is_key key of.3))

    pub look_up_pays : (key : DecoratedKey) → key ≡ decorated w.partitioner key.key → (Pays : Type 0) (most : ℕ) (prices : List ℕ) → KeyPrices w key [] most prices
        → ((contents : List Content) → IsKeyOf (Some w.folder) types files key w.partitioner contents → key_reads w.partitioner key.key contents ≤ most + first_price prices → Pays) → Pays
    look_up_pays key own Pays most prices few pays = pays (contents_in_files w.parts) (is_key key own) few

  -- ---- with them

  module _ (relations : List IndexedRelation) (some : 1 ≤ length relations) (made : IsMadeOf w types relations listed) where
    something_asked : 1 ≤ length (asked_of w.conditions)
    something_asked = some_asked w.table w.relations (asked_of w.conditions) is.planned.relations_are (subst (λ (rs : List IndexedRelation). 1 ≤ length rs) (sym made.relations_are) some)

    pub hits_world : key_asked w.conditions ≡ None → IsWorld w book
    hits_world free = record { planned = is.planned; free = free; some = something_asked; ordered = is.ordered; own_tokens = is.own_tokens }

    pub keyed_world : (key : DecoratedKey) → IsMadeForKey w key relations types listed → IsKeyedWorld w key book
    keyed_world key of = record { planned = is.planned; asked = of.1; agreed = of.2; own = of.3; some = something_asked; ordered = is.ordered; own_tokens = is.own_tokens }

-- ---- what hits may cost, and the prices

pub table_hits : (w : PlanWorld) (rs : List IndexedRelation) (most : ℕ) (prices : List ℕ) → 1 ≤ length rs → TablePrices w rs most prices → HitPrices w most prices (prices_from w 0 (looked_groups w))
table_hits w [] most prices some are = absurd (omega (arith, some))
table_hits w (r ∷ rs) most prices some are = are

pub key_hits : (w : PlanWorld) (key : DecoratedKey) (rs : List IndexedRelation) (most : ℕ) (prices : List ℕ) → 1 ≤ length rs → KeyPrices w key rs most prices → HitPrices w most prices (token_cost w.partitioner w.parts key.token ∷ [])
key_hits w key [] most prices some are = absurd (omega (arith, some))
key_hits w key (r ∷ rs) most prices some are = are
