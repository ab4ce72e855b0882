-- What is known of a source of candidates stays while its files are unchanged, and its maps but for indexes that were added.
use Rattle.std.proofs.Common.{◌≡◌, ℕ, List, [], ◌∷◌, Option, None, Some, IfSome, refl, ap₂, subst, sym, ◌∙◌, inl, inr}
use Rattle.std.specs.FinMap.{empty, get}
use Rattle.std.specs.Option.{IsSomeAnd}
use Rattle.sasi_types.specs.declared.column.ColumnType.{ColumnType}
use Rattle.sasi_types.specs.declared.decorated_key.DecoratedKey.{DecoratedKey}
use Rattle.sasi_host.specs.declared.name.FileName.{FileName}
use Rattle.sasi_host.specs.Names.{Folder}
use Rattle.sasi_host.specs.View.{contents_in}
use Rattle.sasi_model.specs.Abbreviations.{Partitions}
use Rattle.sasi_memindex.specs.Book.{Book}
use Rattle.sasi_memtable.specs.MemtableView.{MemtableView}
use Rattle.sasi_ranges.specs.declared.entry.Entry.{Entry}
use Rattle.sasi_lookup.specs.Lookups.{Opens}
use Rattle.sasi_lookup.proofs.Keeping.{lookup_keeps}
use Rattle.sasi_memindex.specs.Growth.{IsGrown}
use Rattle.sasi_recheck.specs.Sources.{Candidate}
use Rattle.sasi_memindex.proofs.GrowthLaws.{grown_seen}
use Rattle.sasi_sources.specs.KeyCandidates.{HasKeyType}
use Rattle.sasi_sources.specs.inside.KeyLaws.{views_stay}
use Rattle.sasi_engine.specs.declared.hand.Hand.{Hand}
use Rattle.sasi_engine.specs.HitCandidates.{IsLeft, PlanWorld}
use Rattle.sasi_sources.specs.Maps.{IsOneOf}
use Rattle.sasi_engine.specs.TokenHits.{contents_in_files, maps_numbered}
use Rattle.sasi_engine.specs.inside.KeyedSteps.{IsKeyLeft, KeyLeaves, KeyOwes}
use Rattle.sasi_engine.specs.inside.Steps.{IsHandReady, SourceLeaves, SourceOpens, SourceOwes}
use Rattle.sasi_scan.specs.Numbered.{views_numbered}

-- ---- maps

pub maps_stay : (was now : Book) (numbers : List ℕ) → ((number : ℕ) → IsOneOf numbers number → IsGrown (get was number) (get now number)) → maps_numbered now numbers ≡ maps_numbered was numbers
maps_stay was now [] same = refl
maps_stay was now (n ∷ ns) same =
    ap₂ (λ (m : Partitions) (ms : List Partitions). m ∷ ms) (grown_seen (λ (m : MemtableView). m.partitions) empty (get was n) (get now n) (same n (inl refl))) (maps_stay was now ns (λ number is. same number (inr is)))

-- ---- a source

module _ (Left : Option Folder → List Entry → Type 0) (Pays : Option Folder → ℕ → Type 0) (ahead : Option Entry) (hand : Hand) (old new : Option Folder) (was now : Book) (same : (name : FileName) → Opens hand.lookup name → contents_in new name ≡ contents_in old name)
    (maps : (number : ℕ) → IsOneOf hand.maps.items number → IsGrown (get was number) (get now number)) (stays : (es : List Entry) → Left old es → Left new es) (still : (most : ℕ) → Pays old most → Pays new most) where
  abbrev pub is_left_still : (w : PlanWorld) (left : List Candidate) → IsLeft w old was (Left old) ahead hand left → IsLeft w new now (Left new) ahead hand left
  is_left_still w left is = record {
    origin = is.origin;
    world = is.world;
    count = is.count;
    hits_are = is.hits_are;
    looks = (lookup_keeps old new hand.lookup same).1 w.partitioner (contents_in_files w.parts) is.looks;
    maps_are = maps_stay was now hand.maps.items maps ∙ is.maps_are;
    passed = is.passed;
    groups = is.groups;
    groups_are = is.groups_are;
    entries = is.entries;
    given = stays is.entries is.given;
    entries_are = is.entries_are;
    rows = is.rows;
    in_hand = is.in_hand;
    left_is = is.left_is;
  }

  pub source_keeps : (Ready : Option Folder → Type 0) → (Ready old → Ready new)
      → (Ready old × IsHandReady hand old → Ready new × IsHandReady hand new) × ((left : List Candidate) → SourceLeaves (Left old) ahead hand old was left → SourceLeaves (Left new) ahead hand new now left)
      × ((most : ℕ) (prices : List ℕ) → SourceOwes (Left old) (Pays old) ahead hand old was most 0 prices → SourceOwes (Left new) (Pays new) ahead hand new now most 0 prices)
      × ((kind : ColumnType) → HasKeyType hand.lookup.types (views_numbered was hand.maps.items) kind → HasKeyType hand.lookup.types (views_numbered now hand.maps.items) kind)
  source_keeps Ready ready = (
    (λ are. (ready are.0, record { looks = (lookup_keeps old new hand.lookup same).0 are.1.looks; some = are.1.some; few = are.1.few; told = are.1.told })),
    (λ left is. (is.0, is_left_still is.0 left is.1)),
    (λ most prices is. (is.0, record { left = is.1.left; is_left = is_left_still is.0 is.1.left is.1.is_left; small = is.1.small; hits_pay = still most is.1.hits_pay; owes = is.1.owes })),
    (λ kind has. subst (λ (ms : List MemtableView). HasKeyType hand.lookup.types ms kind) (sym (views_stay was now hand.maps.items maps)) has),
  )

-- ---- a source of one key

module _ (Left : Option Folder → List Entry → Type 0) (Pays : Option Folder → ℕ → Type 0) (hand : Hand) (key : DecoratedKey) (old new : Option Folder) (was now : Book) (same : (name : FileName) → Opens hand.lookup name → contents_in new name ≡ contents_in old name)
    (maps : (number : ℕ) → IsOneOf hand.maps.items number → IsGrown (get was number) (get now number)) (stays : (es : List Entry) → Left old es → Left new es) (still : (most : ℕ) → Pays old most → Pays new most) where
  abbrev key_left_still : (w : PlanWorld) (left : List Candidate) → IsKeyLeft w old was (Left old) hand key left → IsKeyLeft w new now (Left new) hand key left
  key_left_still w left is = record {
    by_hits = is.by_hits;
    are_left = is_left_still Left Pays None hand old new was now same maps stays still w is.by_hits is.are_left;
    none = is.none;
    own = is.own;
    left_is = is.left_is;
  }

  key_owing_still : (most : ℕ) (prices : List ℕ) → KeyOwes (Left old) (Pays old) hand (Some key) old was most prices → KeyOwes (Left new) (Pays new) hand (Some key) new now most prices
  key_owing_still most prices is =
      (is.0, record { left = is.1.left; is_left = key_left_still is.0 is.1.left is.1.is_left; small = is.1.small; hits_pay = still most is.1.hits_pay; look_pays = is.1.look_pays })

pub keyed_keeps : (Left : Option Folder → List Entry → Type 0) (Pays : Option Folder → ℕ → Type 0) (Opened : FileName → Type 0) (Ready : Option Folder → Type 0) (hand : Hand) (key : Option DecoratedKey) (old new : Option Folder) (was now : Book)
    → ((name : FileName) → IsSomeAnd key (λ k. SourceOpens Opened hand name) → contents_in new name ≡ contents_in old name)
    → ((number : ℕ) → IsSomeAnd key (λ k. IsOneOf hand.maps.items number) → IsGrown (get was number) (get now number))
    → (((name : FileName) → Opened name → contents_in new name ≡ contents_in old name) → (Ready old → Ready new) × ((es : List Entry) → Left old es → Left new es) × ((most : ℕ) → Pays old most → Pays new most))
    → (IfSome key (λ k. Ready old × IsHandReady hand old) → IfSome key (λ k. Ready new × IsHandReady hand new))
    × ((left : List Candidate) → KeyLeaves (Left old) hand key old was left → KeyLeaves (Left new) hand key new now left)
    × ((most : ℕ) (prices : List ℕ) → KeyOwes (Left old) (Pays old) hand key old was most prices → KeyOwes (Left new) (Pays new) hand key new now most prices)
    × ((kind : ColumnType) → IfSome key (λ k. HasKeyType hand.lookup.types (views_numbered was hand.maps.items) kind) → IfSome key (λ k. HasKeyType hand.lookup.types (views_numbered now hand.maps.items) kind))
keyed_keeps Left Pays Opened Ready hand None old new was now same maps kept = ((λ are. tt), (λ left is. is), (λ most prices is. tt), (λ kind has. tt))
keyed_keeps Left Pays Opened Ready hand (Some key) old new was now same maps kept =
    let hits = kept (λ name opens. same name (inl opens)) in
    let files = λ (name : FileName) (opens : Opens hand.lookup name). same name (inr opens) in
    let source = source_keeps Left Pays None hand old new was now files maps hits.1 hits.2 Ready hits.0 in (
      source.0,
      (λ left is. (is.0, key_left_still Left Pays hand key old new was now files maps hits.1 hits.2 is.0 left is.1)),
      (λ most prices is. key_owing_still Left Pays hand key old new was now files maps hits.1 hits.2 most prices is),
      source.3,
    )
