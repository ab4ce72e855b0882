-- What is known of the candidates of a plan stays while their files are unchanged, and their maps but for indexes that were added.
use Rattle.std.proofs.Common.{◌≡◌, ℕ, true, nat_eq, List, [], ◌∷◌, Option, None, Some, IsSome, refl, sym, ap, subst, ◌∙◌, inl, inr}
use Rattle.std.specs.FinMap.{get}
use Rattle.std.specs.Map.{lookup}
use Rattle.sasi_types.specs.declared.column.ColumnType.{ColumnType}
use Rattle.sasi_host.specs.declared.name.FileName.{FileName}
use Rattle.sasi_host.specs.Names.{Folder}
use Rattle.sasi_host.specs.View.{contents_in}
use Rattle.std.specs.List.{AllByRecursion}
use Rattle.sasi_memindex.specs.declared.map_part.MapPart.{MapPart}
use Rattle.sasi_memindex.specs.Book.{Book}
use Rattle.sasi_memindex.specs.IndexOf.{IsIndexOf}
use Rattle.sasi_memtable.specs.MemtableView.{MemtableView}
use Rattle.sasi_views.specs.declared.part.Part as view
use Rattle.sasi_views.specs.declared.part.Part.TheVariants as view_part
use Rattle.sasi_engine.specs.declared.relation.IndexedRelation.{IndexedRelation}
use Rattle.sasi_engine.specs.Findable.{CanFind, HasIndexFor, HasIndexes}
use Rattle.sasi_memindex.specs.Growth.{HasGrown, IsGrown}
use Rattle.sasi_memindex.proofs.GrowthLaws.{found_before, grown_again}
use Rattle.sasi_recheck.specs.Optional.{SourceOr}
use Rattle.sasi_recheck.specs.Sources.{Candidate}
use Rattle.sasi_sources.specs.KeyCandidates.{HasKeyType}
use Rattle.sasi_engine.specs.HitCandidates.{PlanWorld}
use Rattle.sasi_engine.specs.Plans.{is_file_of, map_numbers}
use Rattle.sasi_sources.specs.Maps.{IsOneOf}
use Rattle.sasi_scan.specs.Numbered.{views_numbered}
use Rattle.sasi_sources.specs.inside.KeyLaws.{views_stay}
use Rattle.sasi_plan.specs.declared.plan.PlanSource.{PlanSource}
use Rattle.sasi_plan.specs.declared.plan.PlanSource.TheVariants.{Nothing, OfKey, OfTable}
use Rattle.sasi_plan.specs.declared.plan_candidates.Pending.{Pending}
use Rattle.sasi_plan.specs.Begun.{Since}
use Rattle.sasi_plan.specs.Reading.{IsPending, PendingLeaves, PendingPays, PendingReady}

-- ---- a source that was begun

since_later : (Opens : FileName → Type 0) (Uses : ℕ → Type 0) (P : Option Folder → Book → Type 0) (old new : Option Folder) (was now : Book) → (IsSome new → IsSome old) → ((name : FileName) → Opens name → contents_in new name ≡ contents_in old name)
    → ((number : ℕ) → Uses number → IsGrown (get was number) (get now number)) → Since Opens Uses P old was → Since Opens Uses P new now
since_later Opens Uses P old new was now told same maps is =
    let still = is.2 in (
      is.0,
      is.1,
      record {
        there = λ some. still.there (told some);
        files_are = λ name opens. same name opens ∙ still.files_are name opens;
        maps_are = λ number uses. grown_again (get is.1 number) (get was number) (get now number) (still.maps_are number uses) (maps number uses);
      },
      is.3,
    )

-- ---- a plan that is pending

index_stays : (was now : MapPart) → HasGrown was now → (relation : IndexedRelation) → HasIndexFor was relation → HasIndexFor now relation
index_stays was now grown relation has = record {
  index = has.index;
  there = ap (lookup (λ n. nat_eq n relation.index)) grown.indexes_are ∙ found_before (λ n. nat_eq n relation.index) was.indexes grown.added has.index has.there;
  is = subst (λ (m : MemtableView). IsIndexOf m.partitions has.index) (sym grown.same) has.is;
}

each_stays : (was now : MapPart) → HasGrown was now → (relations : List IndexedRelation) → AllByRecursion (HasIndexFor was) relations → AllByRecursion (HasIndexFor now) relations
each_stays was now grown [] has = tt
each_stays was now grown (r ∷ relations) has = (index_stays was now grown r has.0, each_stays was now grown relations has.1)

indexes_stay : (relations : List IndexedRelation) (was now : Option MapPart) → IsGrown was now → HasIndexes relations was → HasIndexes relations now
indexes_stay relations None None grown has = has
indexes_stay relations None (Some now) grown has = absurd grown
indexes_stay relations (Some was) None grown has = absurd grown
indexes_stay relations (Some was) (Some now) grown has = each_stays was now grown relations has

finds_stay : (was now : Book) (relations : List IndexedRelation) (listed : List view.Part) → ((number : ℕ) → IsOneOf (map_numbers listed) number → IsGrown (get was number) (get now number)) → AllByRecursion (CanFind was relations) listed → AllByRecursion (CanFind now relations) listed
finds_stay was now relations [] same can = tt
finds_stay was now relations (view_part.File number indexes ∷ listed) same can = (tt, finds_stay was now relations listed same can.1)
finds_stay was now relations (view_part.Map number ∷ listed) same can =
    (indexes_stay relations (get was number) (get now number) (same number (inl refl)) can.0, finds_stay was now relations listed (λ n is. same n (inr is)) can.1)

module _ (listed : List view.Part) (old new : Option Folder) (was now : Book) (same : (name : FileName) → is_file_of listed name ≡ true → contents_in new name ≡ contents_in old name)
    (maps : (number : ℕ) → IsOneOf (map_numbers listed) number → IsGrown (get was number) (get now number)) where
  pending_later : (w : PlanWorld) (origin : Book) (source : PlanSource) (types : List ColumnType) → IsPending w origin source types listed old was → IsPending w origin source types listed new now
  pending_later w origin source types is = record {
    view_is = is.view_is;
    listed_are = is.listed_are;
    types_are = is.types_are;
    made = is.made;
    seen = record {
      files_are = λ name among. same name (subst (λ (vs : List view.Part). is_file_of vs name ≡ true) is.listed_are among) ∙ is.seen.files_are name among;
      maps_are = λ number among.
          grown_again (get origin number) (get was number) (get now number) (is.seen.maps_are number among) (maps number (subst (λ (vs : List view.Part). IsOneOf (map_numbers vs) number) is.listed_are among));
    };
  }

  ready_later : (source : PlanSource) → PendingReady source listed was → PendingReady source listed now
  ready_later Nothing ready = ready
  ready_later (OfKey key relations) ready = (ready.0, finds_stay was now relations.items listed maps ready.1)
  ready_later (OfTable relations) ready = (ready.0, finds_stay was now relations.items listed maps ready.1)

-- ---- both

pub plan_keeps : (pending : Option Pending) (listed : List view.Part) (Opens : FileName → Type 0) (Uses : ℕ → Type 0) (Ready : Option Folder → Book → Type 0) (Leaves : Option Folder → Book → List Candidate → Type 0)
    (Pays : Option Folder → Book → ℕ → List ℕ → Type 0) (Prints : Option Folder → Book → ColumnType → Type 0) (old new : Option Folder) (was now : Book) → (IsSome new → IsSome old)
    → ((name : FileName) → SourceOr pending (λ (p : Pending). is_file_of listed name ≡ true) (Opens name) → contents_in new name ≡ contents_in old name)
    → ((number : ℕ) → SourceOr pending (λ (p : Pending). IsOneOf (map_numbers listed) number) (Uses number) → IsGrown (get was number) (get now number))
    → (SourceOr pending (λ (p : Pending). PendingReady p.source listed was) (Since Opens Uses Ready old was) → SourceOr pending (λ (p : Pending). PendingReady p.source listed now) (Since Opens Uses Ready new now))
    × ((left : List Candidate) → SourceOr pending (λ (p : Pending). PendingLeaves p.source p.types listed old was left) (Since Opens Uses (λ f b. Leaves f b left) old was)
    → SourceOr pending (λ (p : Pending). PendingLeaves p.source p.types listed new now left) (Since Opens Uses (λ f b. Leaves f b left) new now))
    × ((most : ℕ) (prices : List ℕ) → SourceOr pending (λ (p : Pending). PendingPays p.source p.types listed old was most prices) (Since Opens Uses (λ f b. Pays f b most prices) old was)
    → SourceOr pending (λ (p : Pending). PendingPays p.source p.types listed new now most prices) (Since Opens Uses (λ f b. Pays f b most prices) new now))
    × ((kind : ColumnType) → SourceOr pending (λ (p : Pending). HasKeyType p.types (views_numbered was (map_numbers listed)) kind) (Since Opens Uses (λ f b. Prints f b kind) old was)
    → SourceOr pending (λ (p : Pending). HasKeyType p.types (views_numbered now (map_numbers listed)) kind) (Since Opens Uses (λ f b. Prints f b kind) new now))
plan_keeps None listed Opens Uses Ready Leaves Pays Prints old new was now told same maps = (
  since_later Opens Uses Ready old new was now told same maps,
  (λ left. since_later Opens Uses (λ f b. Leaves f b left) old new was now told same maps),
  (λ most prices. since_later Opens Uses (λ f b. Pays f b most prices) old new was now told same maps),
  (λ kind. since_later Opens Uses (λ f b. Prints f b kind) old new was now told same maps),
)
plan_keeps (Some p) listed Opens Uses Ready Leaves Pays Prints old new was now told same maps = (
  ready_later listed old new was now same maps p.source,
  (λ left is. (is.0, is.1, pending_later listed old new was now same maps is.0 is.1 p.source p.types is.2, is.3)),
  (λ most prices is. (is.0, is.1, pending_later listed old new was now same maps is.0 is.1 p.source p.types is.2, is.3)),
  (λ kind has. subst (λ (ms : List MemtableView). HasKeyType p.types ms kind) (sym (views_stay was now (map_numbers listed) maps)) has),
)
