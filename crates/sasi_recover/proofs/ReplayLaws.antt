-- Laws of replaying: one more mutation, one more segment, and the memtables stay those of the listed tables.
use Rattle.std.specs.Prelude.{◌≡◌, ℕ, zero, suc, ◌+◌, ◌-◌, ◌<◌, ◌≤◌, Bool, true, false, cond, List, [], ◌∷◌, ◌++◌, length, max, nat_eq, slice_get, slice_set, Option, None, Some, refl}
use Rattle.std.proofs.Common.{Err, Ok, OnOk, sym, ap, subst, ◌∙◌, arith}
use Rattle.std.specs.declared.result.Result.{Result}
use Rattle.std.proofs.lemmas.Bool.Decides.{nat_tests}
use Rattle.std.specs.List.{AllByRecursion}
use Rattle.sasi_types.specs.declared.column.ColumnType.{ColumnType}
use Rattle.sasi_types.specs.declared.partitioner.Partitioner.{Partitioner}
use Rattle.sasi_types.specs.Token.{AreBytes}
use Rattle.sasi_model.specs.Abbreviations.{types_of}
use Rattle.sasi_model.specs.State.{decorated}
use Rattle.sasi_model.specs.Stored.{IsBodyOf, column_types}
use Rattle.sasi_cells.specs.declared.mutation.Mutation.{Mutation}
use Rattle.sasi_commitlog.specs.Format.{IsMutationOf}
use Rattle.sasi_commitlog.proofs.Payloads.{opened_mutation}
use Rattle.sasi_manifest.specs.declared.listing.Listing.{Listing}
use Rattle.sasi_manifest.specs.ListedDefinition.{ListedDefinition}
use Rattle.sasi_manifest.specs.Listings.{at_number}
use Rattle.sasi_manifest.proofs.Replacing.{unchanged}
use Rattle.sasi_folder.proofs.FolderChanges.{mutation_listed}
use Rattle.sasi_folder.specs.Replay.{is_replayed}
use Rattle.sasi_folder.specs.FolderContents.{types_listed}
use Rattle.sasi_layout.proofs.Storable.{none_storable, put_storable}
use Rattle.sasi_cells.specs.Maps.{put}
use Rattle.sasi_model.specs.Cells.{max_timestamp_of}
use Rattle.sasi_layout.specs.Moves.{or_else}
use Rattle.sasi_layout.specs.Serving.{AreStorable, IsLive, IsTyped}
use Rattle.sasi_layout.proofs.TimeLaws.{empty_timestamp, map_timestamp, put_timestamp}
use Rattle.sasi_cells.proofs.Laws.Times.{body_limit}
use Rattle.sasi_recover.specs.declared.opened.TableMap.{TableMap}
use Rattle.sasi_recover.specs.ReplayState.{AreMaps, AreMapsFrom, HasTableFor, IsLiveSegment, IsMapOf, IsPutAt, IsReplayOf, ReplayState, after_mutation, after_replayed, after_segment, after_segments, empty_maps, empty_state, tables_time, with_mutation}

pub segment_more : (tables : List ListedDefinition) (n : ℕ) (s : ReplayState) (ms : List Mutation) (m : Mutation) → after_segment tables n s (ms ++ m ∷ []) ≡ after_mutation tables n (after_segment tables n s ms) m
segment_more tables n s [] m = refl
segment_more tables n s (x ∷ ms) m = segment_more tables n (after_mutation tables n s x) ms m

-- the last segment comes last
pub segments_last : (tables : List ListedDefinition) (n : ℕ) (s : ReplayState) (older : List (List Mutation)) (ms : List Mutation) → after_segments tables n s (older ++ ms ∷ []) ≡ after_segment tables (n + length older) (after_segments tables n s older) ms
segments_last tables n s [] ms = let e : n + 0 ≡ n = omega arith in ap (λ k. after_segment tables k s ms) (sym e)
segments_last tables n s (x ∷ older) ms =
    let e : suc n + length older ≡ n + length (x ∷ older) = omega arith in
    segments_last tables (suc n) (after_segment tables n s x) older ms ∙ ap (λ k. after_segment tables k (after_segments tables n s (x ∷ older)) ms) e

-- ---- the memtables of the listed tables

module _ (p : Partitioner) (floor last : ℕ) where
  pub maps_long : (n : ℕ) (ts : List ListedDefinition) (xs : List TableMap) → AreMapsFrom p floor last n ts xs → length xs ≡ length ts
  maps_long n [] [] maps = refl
  maps_long n [] (x ∷ xs) maps = absurd maps
  maps_long n (t ∷ ts) [] maps = absurd maps
  maps_long n (t ∷ ts) (x ∷ xs) maps = ap (λ k. suc k) (maps_long (suc n) ts xs maps.1)

  -- a mutation that can be stored in the table of its number
  IsFitAt : Mutation → ℕ → List ListedDefinition → Type 0
  IsFitAt m n ts = (index : ℕ) (t : ListedDefinition) → m.table ≡ n + index → slice_get ts index ≡ Some t → IsTyped t.definition → IsBodyOf (types_of t.definition) m.key m.change

  live_first : (segment : ℕ) (o : Option ℕ) → floor ≤ segment → segment ≤ last → IsLive floor last o → IsLive floor last (or_else o (Some segment))
  live_first segment None above below live = (above, below)
  live_first segment (Some k) above below live = live

  map_put : (segment n : ℕ) (m : Mutation) (t : ListedDefinition) (x : TableMap) → floor ≤ segment → segment ≤ last → AreBytes m.key → (IsTyped t.definition → IsBodyOf (types_of t.definition) m.key m.change) → IsMapOf p floor last n t.definition x
      → IsMapOf p floor last n t.definition (with_mutation segment m x)
  map_put segment n m t x above below bytes fits is = record {
    number_is = is.number_is;
    typed = is.typed;
    under = is.under;
    storable = subst (λ (q : Partitioner). AreStorable p (types_of t.definition) (put x.memtable.partitions (decorated q m.key) m.change)) (sym is.under)
        (put_storable p (types_of t.definition) is.typed.few x.memtable.partitions m.key m.change is.storable bytes (fits is.typed));
    first = live_first segment x.first above below is.first;
  }

  maps_put : (segment : ℕ) (m : Mutation) → floor ≤ segment → segment ≤ last → AreBytes m.key → (n : ℕ) (ts : List ListedDefinition) (xs : List TableMap) → IsFitAt m n ts → AreMapsFrom p floor last n ts xs → AreMapsFrom p floor last n ts (at_number n m.table (with_mutation segment m) xs)
  unfolding IsFitAt
  maps_put segment m above below bytes n [] [] fits maps = tt
  maps_put segment m above below bytes n [] (x ∷ xs) fits maps = absurd maps
  maps_put segment m above below bytes n (t ∷ ts) [] fits maps = absurd maps
  maps_put segment m above below bytes n (t ∷ ts) (x ∷ xs) fits maps =
      (one (nat_eq n m.table) refl, maps_put segment m above below bytes (suc n) ts xs (λ index s is there. fits (suc index) s (omega (arith, is)) there) maps.1)
    where
      one : (b : Bool) → nat_eq n m.table ≡ b → IsMapOf p floor last n t.definition (cond b (with_mutation segment m x) x)
      one true is = map_put segment n m t x above below bytes (λ typed. (let same : m.table ≡ n + 0 = grind (arith, nat_tests) in fits 0 t same refl typed)) maps.0
      one false other = maps.0

-- the table of a mutation is there
pub table_there : (listing : Listing) (m : Mutation) (xs : List TableMap) → IsMutationOf (types_listed listing) m → AreMaps listing xs → HasTableFor xs m
table_there listing m xs of maps =
    let found = mutation_listed listing m of in
    record { some = omega (arith, found.some); inside = omega (arith, found.inside, maps_long listing.partitioner listing.floor listing.last 1 listing.tables xs maps) }

-- the largest timestamp after a mutation of one of them
at_time : (segment : ℕ) (m : Mutation) (n index : ℕ) (xs : List TableMap) → m.table ≡ n + index → index < length xs → tables_time (at_number n m.table (with_mutation segment m) xs) ≡ max (tables_time xs) (max_timestamp_of m.change)
at_time segment m n index [] is inside = absurd (omega (arith, inside))
at_time segment m n zero (x ∷ xs) is inside =
    let here : nat_eq n m.table ≡ true = grind (arith, nat_tests) in
    let put : tables_time (at_number n m.table (with_mutation segment m) (x ∷ xs)) ≡ max (map_timestamp (with_mutation segment m x).memtable.partitions) (tables_time xs) =
    ap (λ b. tables_time (cond b (with_mutation segment m x) x ∷ at_number (suc n) m.table (with_mutation segment m) xs)) here
    ∙ ap (λ (l : List TableMap). tables_time (with_mutation segment m x ∷ l)) (unchanged (suc n) m.table (with_mutation segment m) xs (omega (arith, is))) in
    omega (arith, put, put_timestamp x.memtable.partitions (decorated x.memtable.partitioner m.key) m.change)
at_time segment m n (suc index) (x ∷ xs) is inside =
    let other : nat_eq n m.table ≡ false = grind (arith, nat_tests) in
    let rest : tables_time (at_number n m.table (with_mutation segment m) (x ∷ xs)) ≡ tables_time (x ∷ at_number (suc n) m.table (with_mutation segment m) xs) =
    ap (λ b. tables_time (cond b (with_mutation segment m x) x ∷ at_number (suc n) m.table (with_mutation segment m) xs)) other in
    omega (arith, rest, at_time segment m (suc n) index xs (omega (arith, is)) (omega (arith, inside)))

-- **A mutation leaves memtables of the listed tables.**
pub replay_kept : (listing : Listing) (segment : ℕ) (s : ReplayState) (m : Mutation) → IsLiveSegment listing segment → AreBytes m.key → IsMutationOf (types_listed listing) m → IsReplayOf listing s → IsReplayOf listing (after_mutation listing.tables segment s m)
unfolding IsFitAt
replay_kept listing segment s m live bytes of is = by (is_replayed listing.tables segment m.table)
  where
    fits : IsFitAt listing.partitioner listing.floor listing.last m 1 listing.tables
    fits index t at there typed =
        let opened = opened_mutation (types_listed listing) m of in
        let found = mutation_listed listing m of in
        let position : m.table - 1 ≡ index = omega (arith, at) in
        let same : Some found.table ≡ Some t = sym found.there ∙ ap (slice_get listing.tables) position ∙ there in
        let one : found.table ≡ t = cc in
        let types : Some opened.types ≡ Some (types_of t.definition) = sym found.types_are ∙ ap (λ (l : ListedDefinition). column_types l.definition) one ∙ typed.types in
        let own : opened.types ≡ types_of t.definition = cc in
        subst (λ (l : List ColumnType). IsBodyOf l m.key m.change) own opened.body_is

    by : (b : Bool) → IsReplayOf listing (cond {A = ReplayState} b (after_replayed segment s m) s)
    by true =
        let has = table_there listing m s.tables of is.maps in
        let number : m.table ≡ 1 + (m.table - 1) = omega (arith, has.some) in
        let opened = opened_mutation (types_listed listing) m of in
        record {
          maps = maps_put listing.partitioner listing.floor listing.last segment m live.0 live.1 bytes 1 listing.tables s.tables fits is.maps;
          time = omega (arith, is.time, at_time segment m 1 (m.table - 1) s.tables number (omega (arith, has.some, has.inside)));
          limit = omega (arith, is.limit, body_limit opened.types m.key m.change opened.body_is);
        }
    by false = is

-- ---- the memtable at a position

set_at : {A : Type 0} (n i : ℕ) (f : A → A) (xs : List A) (x : A) → slice_get xs i ≡ Some x → at_number n (n + i) f xs ≡ slice_set xs i (f x)
set_at n i f [] x is = cc
set_at n zero f (y ∷ xs) x is =
    let same : y ≡ x = (let e : Some y ≡ Some x = is in cc) in
    let here : nat_eq n (n + 0) ≡ true = grind (arith, nat_tests) in
    ap (λ b. cond b (f y) y ∷ at_number (suc n) (n + 0) f xs) here ∙ ap (λ l. f y ∷ l) (unchanged (suc n) (n + 0) f xs (omega arith)) ∙ ap (λ z. f z ∷ xs) same
set_at n (suc i) f (y ∷ xs) x is =
    let other : nat_eq n (n + suc i) ≡ false = grind (arith, nat_tests) in
    let moved : n + suc i ≡ suc n + i = omega arith in
    ap (λ b. cond b (f y) y ∷ at_number (suc n) (n + suc i) f xs) other ∙ ap (λ k. y ∷ at_number (suc n) k f xs) moved ∙ ap (λ l. y ∷ l) (set_at (suc n) i f xs x is)

item_at : {A : Type 0} (xs : List A) (i : ℕ) → i < length xs → (x : A) × (slice_get xs i ≡ Some x)
item_at [] i inside = absurd (omega arith)
item_at (x ∷ xs) zero inside = (x, refl)
item_at (x ∷ xs) (suc i) inside = item_at xs i (omega arith)

pub put_is : (segment : ℕ) (m : Mutation) (old new : List TableMap) → HasTableFor old m → IsPutAt segment m old new → new ≡ at_number 1 m.table (with_mutation segment m) old
put_is segment m old new has put =
    let item = item_at old (m.table - 1) (omega (arith, has.some, has.inside)) in
    let number : 1 + (m.table - 1) ≡ m.table = omega (arith, has.some) in
    put item.0 item.1 ∙ sym (set_at 1 (m.table - 1) (with_mutation segment m) old item.0 item.1) ∙ ap (λ k. at_number 1 k (with_mutation segment m) old) number

abbrev state_with : List TableMap → ℕ → ReplayState
state_with tables time = record { tables = tables; max_timestamp = time }

-- ---- at the start

pub empty_are_maps : (p : Partitioner) (floor last n : ℕ) (ts : List ListedDefinition) → AllByRecursion (λ t. IsTyped t.definition) ts → AreMapsFrom p floor last n ts (empty_maps p n ts)
empty_are_maps p floor last n [] typed = tt
empty_are_maps p floor last n (t ∷ ts) typed = (
  record { number_is = refl; typed = typed.0; under = refl; storable = none_storable p (types_of t.definition); first = tt },
  empty_are_maps p floor last (suc n) ts typed.1,
)

empty_times : (p : Partitioner) (n : ℕ) (ts : List ListedDefinition) → tables_time (empty_maps p n ts) ≡ 0
empty_times p n [] = refl
empty_times p n (t ∷ ts) = omega (arith, empty_timestamp, empty_times p (suc n) ts)

-- empty memtables are those of the listed tables
pub empty_is_replay : (listing : Listing) (s : ReplayState) → AllByRecursion (λ t. IsTyped t.definition) listing.tables → s ≡ empty_state listing → IsReplayOf listing s
empty_is_replay listing s typed is = subst (IsReplayOf listing) (sym is) (record {
  maps = empty_are_maps listing.partitioner listing.floor listing.last 1 listing.tables typed;
  time = sym (empty_times listing.partitioner 1 listing.tables);
  limit = omega arith;
})

-- what is started with
pub started : (listing : Listing) (maps : List TableMap) (ts : List ListedDefinition) → ts ≡ listing.tables → maps ≡ empty_maps listing.partitioner 1 ts → state_with maps 0 ≡ empty_state listing
started listing maps ts are is = ap (λ (l : List TableMap). state_with l 0) (is ∙ ap (empty_maps listing.partitioner 1) are)

-- after a mutation was put
pub put_state : (segment : ℕ) (m : Mutation) (s : ReplayState) (new : List TableMap) (time most : ℕ) → HasTableFor s.tables m → IsPutAt segment m s.tables new → time ≡ max_timestamp_of m.change → most ≡ max s.max_timestamp time
    → state_with new most ≡ after_replayed segment s m
put_state segment m s new time most has put time_is most_is =
    ap (λ (l : List TableMap). state_with l most) (put_is segment m s.tables new has put)
    ∙ ap (λ t. state_with (at_number 1 m.table (with_mutation segment m) s.tables) t) (most_is ∙ ap (max s.max_timestamp) time_is)

pub on_ok : {T E : Type 0} (r : Result T E) {P Q : Type 0} → (P → Q) → OnOk r P → OnOk r Q
on_ok (Ok x) f p = f p
on_ok (Err e) f p = tt
