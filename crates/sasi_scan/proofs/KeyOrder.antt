-- The keys that a scan gives rise, in any file.
use Rattle.std.proofs.Common.{◌≡◌, ◌≢◌, ◌<◌, ◌&&◌, ℕ, suc, zero, Bool, true, false, cond, List, [], ◌∷◌, ◌++◌, get_or, length, slice_get, Option, None, Some, IfSome, IsSome, is_some, refl, sym, ap, subst, ◌∙◌, arith}
use Rattle.std.proofs.lemmas.List.{append-nil}
use Rattle.std.specs.FinMap as map_
use Rattle.std.specs.List.{AllByRecursion}
use Rattle.std.specs.Option.{option_map, option_or}
use Rattle.std.specs.Ordering.{eq_by_cmp, is_eq, is_lt}
use Rattle.std.specs.declared.cmp.Ordering.{Ordering}
use Rattle.std.specs.declared.cmp.Ordering.TheVariants.{Less, Equal, Greater}
use Rattle.sasi_types.specs.declared.column.ColumnType.{ColumnType}
use Rattle.sasi_types.specs.declared.decorated_key.DecoratedKey.{DecoratedKey}
use Rattle.sasi_types.specs.declared.partitioner.Partitioner.{Partitioner}
use Rattle.sasi_types.specs.DecoratedKey.{decorated_cmp}
use Rattle.sasi_model.specs.Cells.{Partition}
use Rattle.sasi_cells.specs.Maps.{joined}
use Rattle.sasi_cells.proofs.Laws.Decorated.{equal_keys}
use Rattle.sasi_host.specs.Names.{Folder}
use Rattle.sasi_dataread.specs.KeyOrder.{KeyRises, key_of}
use Rattle.sasi_dataread.specs.Scans.{DataScan}
use Rattle.sasi_manifest.specs.declared.files.ListedFile.{ListedFile}
use Rattle.sasi_memtable.specs.MemtableView.{MemtableView, entries_after}
use Rattle.sasi_merge.specs.Merging.{Head, IsFrom, has_key, merged_heads, part_at, with_token}
use Rattle.sasi_merge.specs.Streams.{Entries, head_of}
use Rattle.sasi_scan.specs.KeyOrder.{AreAbove, HasHead, IsAbove, IsUnder, TakesTokens}
use Rattle.sasi_scan.specs.Opening.{AreOpened, map_heads, map_sources}
use Rattle.sasi_scan.specs.Scanning.{scan_of}
use Rattle.sasi_scan.specs.Sources.{AreGiven, AreMoved, CanStep, HasTokenOf, IsGiven, IsMoved, StepsTo, advances, stays}
use Rattle.sasi_scan.specs.declared.source.Source.{Source}
use Rattle.sasi_scan.specs.declared.source.Source.TheVariants.{File, Map}

-- ---- one head

-- a key that isn't above another one, and isn't it, comes before it
less_from : (a b : DecoratedKey) → decorated_cmp a b ≢ Greater → eq_by_cmp decorated_cmp a b ≡ false → decorated_cmp a b ≡ Less
less_from a b low other = by (decorated_cmp a b) refl
  where
    by : (r : Ordering) → decorated_cmp a b ≡ r → decorated_cmp a b ≡ Less
    by Less is = is
    by Equal is = absurd (let no : true ≡ false = sym (ap is_eq is) ∙ other in cc)
    by Greater is = absurd (low is)

-- the first of the entries behind a key comes behind it
after_above : (key : DecoratedKey) (es : Entries) → IsAbove key (head_of (entries_after (Some key) es))
after_above key [] = tt
after_above key (e ∷ es) = pick (decorated_cmp key e.0) refl (after_above key es)
  where
    pick : (r : Ordering) → decorated_cmp key e.0 ≡ r → IsAbove key (head_of (entries_after (Some key) es))
        → IsAbove key (head_of (cond (is_lt r && true) (e ∷ entries_after (Some key) es) (entries_after (Some key) es)))
    pick Less is rest = is
    pick Equal is rest = rest
    pick Greater is rest = rest

there : {X : Type 0} (xs : List X) (at : ℕ) → at < length xs → (x : X) × (slice_get xs at ≡ Some x)
there [] at lt = absurd (omega (arith, lt))
there (x ∷ xs) zero lt = (x, refl)
there (x ∷ xs) (suc at) lt = there xs at (omega (arith, lt))

-- what a scan gave is its last key
given_next : (old new : DataScan) (next : Head) → new.last ≡ option_or (option_map key_of next) old.last → IsGiven next (File new)
given_next old new None is = tt
given_next old new (Some one) is = is

module _ (seen : Option Folder) (ms : List MemtableView) (key : DecoratedKey) where
  -- a source whose head has the key goes on to a head above it
  step_above : (head : Head) (source : Source) (next : Head) (after : Source) → has_key key head ≡ true → StepsTo seen ms key source next after → CanStep seen ms source → IsGiven head source → IsAbove key next
  step_above None source next after has steps can given = absurd (let no : false ≡ true = has in cc)
  step_above (Some h) (File old) next (File new) has steps can given =
      let rises : IsAbove (with_token h.0 h.1) next = subst (λ (o : Option DecoratedKey). KeyRises o next) given steps.rises in
      subst (λ (k : DecoratedKey). IsAbove k next) (sym (equal_keys key (with_token h.0 h.1) has)) rises
  step_above (Some h) (Map old) next (Map new) has steps can given =
      let m = there ms old can in
      subst (IsAbove key) (sym (steps.1 m.0 m.1)) (after_above key (map_.entries m.0.partitions))
  step_above (Some h) (File old) next (Map new) has steps can given = absurd steps
  step_above (Some h) (Map old) next (File new) has steps can given = absurd steps

  -- and one whose head hasn't has a head above it, where the key is the least
  stay_above : (head : Head) → has_key key head ≡ false → IsFrom key head → IsAbove key head
  stay_above None other low = tt
  stay_above (Some h) other low = less_from key (with_token h.0 h.1) low other

  one_above : (head : Head) (source : Source) (next : Head) (after : Source) → IsMoved seen ms key head source next after → CanStep seen ms source → IsGiven head source → IsFrom key head → IsAbove key next
  one_above head source next after (advances has steps) can given low = step_above head source next after has steps can given
  one_above head source next after (stays has next_is after_is) can given low = subst (IsAbove key) (sym next_is) (stay_above head has low)

  -- so all are behind the least key, once the sources that had it went on
  pub all_above : (heads : List Head) (sources : List Source) (nexts : List Head) (afters : List Source) → AreMoved seen ms key (length sources) heads sources nexts afters → AllByRecursion (CanStep seen ms) sources → AreGiven heads sources
      → AllByRecursion (IsFrom key) heads → AreAbove key nexts
  all_above [] [] nexts afters moved can given low = subst (AreAbove key) (sym moved.0) tt
  all_above (h ∷ heads) (s ∷ sources) (i ∷ nexts) (t ∷ afters) moved can given low =
      (one_above h s i t moved.0 can.0 given.0 low.0, all_above heads sources nexts afters moved.1 can.1 given.1 low.1)
  all_above (h ∷ heads) (s ∷ sources) [] afters moved can given low = absurd moved
  all_above (h ∷ heads) (s ∷ sources) (i ∷ nexts) [] moved can given low = absurd moved
  all_above (h ∷ heads) [] nexts afters moved can given low = absurd given
  all_above [] (s ∷ sources) nexts afters moved can given low = absurd given

  -- ---- what was given stays

  step_given : (source : Source) (next : Head) (after : Source) → StepsTo seen ms key source next after → IsGiven next after
  step_given (File old) next (File new) steps = given_next old new next steps.last_is
  step_given (Map old) next (Map new) steps = tt
  step_given (File old) next (Map new) steps = absurd steps
  step_given (Map old) next (File new) steps = absurd steps

  one_given : (head : Head) (source : Source) (next : Head) (after : Source) → IsMoved seen ms key head source next after → IsGiven head source → IsGiven next after
  one_given head source next after (advances has steps) given = step_given source next after steps
  one_given head source next after (stays has next_is after_is) given = subst (λ (s : Source). IsGiven next s) (sym after_is) (subst (λ (h : Head). IsGiven h source) (sym next_is) given)

  pub moved_given : (n : ℕ) (heads : List Head) (sources : List Source) (nexts : List Head) (afters : List Source) → AreMoved seen ms key n heads sources nexts afters → AreGiven heads sources → AreGiven nexts afters
  moved_given zero heads sources nexts afters moved given =
      subst (λ (hs : List Head). AreGiven hs afters) (sym moved.0) (subst (AreGiven heads) (sym moved.1) given)
  moved_given (suc n) (h ∷ heads) (s ∷ sources) (i ∷ nexts) (t ∷ afters) moved given = (one_given h s i t moved.0 given.0, moved_given n heads sources nexts afters moved.1 given.1)
  moved_given (suc n) heads sources nexts afters moved given = absurd moved

  -- ---- the tokens of a partitioner

  one_under : (p : Partitioner) (head : Head) (source : Source) (next : Head) (after : Source) → IsMoved seen ms key head source next after → TakesTokens p source → HasTokenOf p head → TakesTokens p after × HasTokenOf p next
  one_under p head (File old) next (File new) (advances has steps) takes token = (steps.tokens ∙ takes, steps.token_is p takes)
  one_under p head (File old) next (Map new) (advances has steps) takes token = absurd steps
  one_under p head (Map old) next after (advances has steps) takes token = absurd takes
  one_under p head source next after (stays has next_is after_is) takes token = (subst (TakesTokens p) (sym after_is) takes, subst (HasTokenOf p) (sym next_is) token)

  pub moved_under : (p : Partitioner) (n : ℕ) (heads : List Head) (sources : List Source) (nexts : List Head) (afters : List Source) → AreMoved seen ms key n heads sources nexts afters → IsUnder p (scan_of heads sources) → IsUnder p (scan_of nexts afters)
  moved_under p zero heads sources nexts afters moved under = record { sources = subst (AllByRecursion (TakesTokens p)) (sym moved.1) under.sources; heads = subst (AllByRecursion (HasTokenOf p)) (sym moved.0) under.heads }
  moved_under p (suc n) (h ∷ heads) (s ∷ sources) (i ∷ nexts) (t ∷ afters) moved under =
      let one = one_under p h s i t moved.0 under.sources.0 under.heads.0 in
      let rest = moved_under p n heads sources nexts afters moved.1 (record { sources = under.sources.1; heads = under.heads.1 }) in
      record { sources = (one.0, rest.sources); heads = (one.1, rest.heads) }
  moved_under p (suc n) heads sources nexts afters moved under = absurd moved

-- ---- the least key

module _ (key : DecoratedKey) (P : DecoratedKey → Type 0) where
  has_it : (base : Option Partition) (h : Head) → IfSome h (λ one. P (with_token one.0 one.1)) → (is_some base ≡ true → P key) → is_some (joined base (part_at key h)) ≡ true → P key
  has_it base None all had some = had some
  has_it base (Some h) all had some = by (eq_by_cmp decorated_cmp key (with_token h.0 h.1)) refl
    where
      by : (b : Bool) → eq_by_cmp decorated_cmp key (with_token h.0 h.1) ≡ b → P key
      by true is = subst P (sym (equal_keys key (with_token h.0 h.1) is)) all
      by false is = had (sym (ap (λ (b : Bool). is_some (joined base (cond b (Some h.2) None))) is) ∙ some)

  some_has : (base : Option Partition) (heads : List Head) → (is_some base ≡ true → P key) → AllByRecursion (λ h. IfSome h (λ one. P (with_token one.0 one.1))) heads → is_some (merged_heads key base heads) ≡ true → P key
  some_has base [] had all some = had some
  some_has base (h ∷ heads) had all some = some_has (joined base (part_at key h)) heads (has_it base h all.0 had) all.1 some

  -- it is that of a head, so what is true of all of these is true of it
  pub least_has : (heads : List Head) → AllByRecursion (λ h. IfSome h (λ one. P (with_token one.0 one.1))) heads → is_some (merged_heads key None heads) ≡ true → P key
  least_has heads all some = some_has None heads (λ none. absurd (let no : false ≡ true = none in cc)) all some

-- where a part has a next partition, there is one
pub has_least : (heads : List Head) (sources : List Source) → HasHead (scan_of heads sources) → AllByRecursion (λ h. h ≡ None) heads → ⊥
has_least heads sources some none =
    let at = some.1.0 in
    let gone : some.0 ≡ None = all_none heads at some.0 none some.1.1 (sym some.1.2) in
    absurd (let no : false ≡ true = subst (λ (h : Head). IsSome h) gone some.2 in cc)
  where
    all_none : (hs : List Head) (n : ℕ) (h : Head) → AllByRecursion (λ x. x ≡ None) hs → n < length hs → h ≡ get_or hs n h → h ≡ None
    all_none [] n h all inside is = absurd (omega (arith, inside))
    all_none (x ∷ hs) zero h all inside is = is ∙ all.0
    all_none (x ∷ hs) (suc n) h all inside is = all_none hs n h all.1 (omega (arith, inside)) is

-- ---- the sources of a scan, once all are opened

pub opened_given : (seen : Option Folder) (types : List ColumnType) (tokens : Option Partitioner) (files : List ListedFile) (heads : List Head) (sources : List Source) → AreOpened seen types tokens files heads sources → AreGiven heads sources
opened_given seen types tokens [] heads sources are = subst (λ (hs : List Head). AreGiven hs sources) (sym are.0) (subst (AreGiven []) (sym are.1) tt)
opened_given seen types tokens (f ∷ files) (h ∷ heads) (s ∷ sources) are =
    (subst (IsGiven h) (sym are.0.source_is) (given_next are.0.scan are.0.next h are.0.steps.last_is), opened_given seen types tokens files heads sources are.1)
opened_given seen types tokens (f ∷ files) [] sources are = absurd are
opened_given seen types tokens (f ∷ files) (h ∷ heads) [] are = absurd are

pub maps_given : (n : ℕ) (ms : List MemtableView) → AreGiven (map_heads ms) (map_sources n ms)
maps_given n [] = tt
maps_given n (m ∷ ms) = (tt, maps_given (suc n) ms)

pub both_given : (heads : List Head) (sources : List Source) (heads_more : List Head) (sources_more : List Source) → AreGiven heads sources → AreGiven heads_more sources_more → AreGiven (heads ++ heads_more) (sources ++ sources_more)
both_given [] [] heads_more sources_more first second = second
both_given (h ∷ heads) (s ∷ sources) heads_more sources_more first second = (first.0, both_given heads sources heads_more sources_more first.1 second)
both_given [] (s ∷ sources) heads_more sources_more first second = absurd first
both_given (h ∷ heads) [] heads_more sources_more first second = absurd first

-- they are under the partitioner that they were opened with
opened_under : (seen : Option Folder) (types : List ColumnType) (tokens : Option Partitioner) (p : Partitioner) (files : List ListedFile) (heads : List Head) (sources : List Source) → tokens ≡ Some p → AreOpened seen types tokens files heads sources → IsUnder p (scan_of heads sources)
opened_under seen types tokens p [] heads sources is are = record { sources = subst (AllByRecursion (TakesTokens p)) (sym are.1) tt; heads = subst (AllByRecursion (HasTokenOf p)) (sym are.0) tt }
opened_under seen types tokens p (f ∷ files) (h ∷ heads) (s ∷ sources) is are =
    let one = are.0 in
    let takes : one.scan.tokens ≡ Some p = one.is.tokens_are ∙ is in
    let rest = opened_under seen types tokens p files heads sources is are.1 in
    record { sources = (subst (TakesTokens p) (sym one.source_is) (one.steps.tokens ∙ takes), rest.sources); heads = (one.steps.token_is p takes, rest.heads) }
opened_under seen types tokens p (f ∷ files) [] sources is are = absurd are
opened_under seen types tokens p (f ∷ files) (h ∷ heads) [] is are = absurd are

-- and the first of them has a partition
opened_some : (seen : Option Folder) (types : List ColumnType) (tokens : Option Partitioner) (files : List ListedFile) (heads : List Head) (sources : List Source) (more : List Head) (all : List Source) → files ≢ [] → AreOpened seen types tokens files heads sources → HasHead (scan_of (heads ++ more) all)
opened_some seen types tokens [] heads sources more all none are = absurd (none refl)
opened_some seen types tokens (f ∷ files) (None ∷ heads) (s ∷ sources) more all none are =
    let one = are.0 in
    absurd (omega (arith, one.steps.ends refl, one.is.some, one.is.begins))
opened_some seen types tokens (f ∷ files) (Some h ∷ heads) (s ∷ sources) more all none are = (Some h, (zero, omega arith, refl), refl)
opened_some seen types tokens (f ∷ files) [] sources more all none are = absurd are
opened_some seen types tokens (f ∷ files) (h ∷ heads) [] more all none are = absurd are

module _ (seen : Option Folder) (types : List ColumnType) (tokens : Option Partitioner) (files : List ListedFile) (ms : List MemtableView) (heads : List Head) (sources : List Source) (heads_all : List Head) (sources_all : List Source) (opened : AreOpened seen types tokens files heads sources) (heads_are : heads_all ≡ heads ++ map_heads ms) (sources_are : sources_all ≡ sources ++ map_sources 0 ms) where
  pub scan_under : (p : Partitioner) → tokens ≡ Some p → ms ≡ [] → IsUnder p (scan_of heads_all sources_all)
  scan_under p is no_maps =
      let alone_heads : heads_all ≡ heads = heads_are ∙ ap (λ (m : List MemtableView). heads ++ map_heads m) no_maps ∙ append-nil heads in
      let alone : sources_all ≡ sources = sources_are ∙ ap (λ (m : List MemtableView). sources ++ map_sources 0 m) no_maps ∙ append-nil sources in
      let under = opened_under seen types tokens p files heads sources is opened in
      record { sources = subst (AllByRecursion (TakesTokens p)) (sym alone) under.sources; heads = subst (AllByRecursion (HasTokenOf p)) (sym alone_heads) under.heads }

  pub scan_some : files ≢ [] → HasHead (scan_of heads_all sources_all)
  scan_some some = subst (λ (hs : List Head). HasHead (scan_of hs sources_all)) (sym heads_are) (opened_some seen types tokens files heads sources (map_heads ms) sources_all some opened)
