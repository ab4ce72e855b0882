-- A replay, table by table: the memtables that all mutations make one after another are those that each table's own mutations make.
use Rattle.std.proofs.Common.{◌≡◌, ℕ, zero, suc, ◌+◌, ◌<◌, Bool, true, false, cond, List, [], ◌∷◌, Option, None, Some, refl, sym, ap, ◌∙◌, arith}
use Rattle.std.specs.Prelude.{◌&&◌, ◌||◌, nat_eq, nat_le, slice_get, if◌then◌else◌}
use Rattle.std.specs.FinMap as map_
use Rattle.std.specs.List.{fold}
use Rattle.std.proofs.lemmas.Bool.Decides.{nat_tests}
use Rattle.sasi_types.specs.declared.partitioner.Partitioner.{Partitioner}
use Rattle.sasi_cells.specs.declared.mutation.Mutation.{Mutation}
use Rattle.sasi_manifest.specs.ListedDefinition.{ListedDefinition}
use Rattle.sasi_manifest.specs.Listings.{at_number}
use Rattle.sasi_manifest.proofs.Replacing.{unchanged}
use Rattle.sasi_folder.specs.Replay.{is_replayed}
use Rattle.sasi_folder.proofs.Reached.{reaches}
use Rattle.sasi_layout.specs.Moves.{or_else}
use Rattle.sasi_layout.specs.Shape.{first_in, has_mutation, replay, replay_segment}
use Rattle.sasi_recover.specs.declared.opened.TableMap.{TableMap}
use Rattle.sasi_recover.specs.ReplayState.{ReplayState, after_mutation, after_replayed, after_segment, after_segments, empty_maps, with_mutation}

-- ---- each item by itself

-- what becomes of each item, by its number and its table
abbrev Step : Type 0
Step = ℕ → ListedDefinition → TableMap → TableMap

abbrev each : Step → ℕ → List ListedDefinition → List TableMap → List TableMap
each f n [] xs = xs
each f n (t ∷ ts) [] = []
each f n (t ∷ ts) (x ∷ xs) = f n t x ∷ each f (suc n) ts xs

each_twice : (f g : Step) (n : ℕ) (ts : List ListedDefinition) (xs : List TableMap) → each f n ts (each g n ts xs) ≡ each (λ n t x. f n t (g n t x)) n ts xs
each_twice f g n [] xs = refl
each_twice f g n (t ∷ ts) [] = refl
each_twice f g n (t ∷ ts) (x ∷ xs) = ap (λ (l : List TableMap). f n t (g n t x) ∷ l) (each_twice f g (suc n) ts xs)

each_none : (n : ℕ) (ts : List ListedDefinition) (xs : List TableMap) → each (λ n t x. x) n ts xs ≡ xs
each_none n [] xs = refl
each_none n (t ∷ ts) [] = refl
each_none n (t ∷ ts) (x ∷ xs) = ap (λ (l : List TableMap). x ∷ l) (each_none (suc n) ts xs)

-- ---- a mutation

-- an item takes a mutation of its table, unless the table begins later
abbrev taken : ℕ → Mutation → Step
taken segment m n t x = if nat_eq m.table n && nat_le t.since segment then with_mutation segment m x else x

untouched : (segment : ℕ) (m : Mutation) (n : ℕ) (ts : List ListedDefinition) (xs : List TableMap) → m.table < n → each (taken segment m) n ts xs ≡ xs
untouched segment m n [] xs below = refl
untouched segment m n (t ∷ ts) [] below = refl
untouched segment m n (t ∷ ts) (x ∷ xs) below =
    let other : nat_eq m.table n ≡ false = grind (arith, nat_tests, below) in
    ap (λ b. (if b && nat_le t.since segment then with_mutation segment m x else x) ∷ each (taken segment m) (suc n) ts xs) other
    ∙ ap (λ (l : List TableMap). x ∷ l) (untouched segment m (suc n) ts xs (omega (arith, below)))

hit : (segment : ℕ) (m : Mutation) (b n : ℕ) (ts : List ListedDefinition) (xs : List TableMap) → m.table ≡ n + b
    → cond (reaches segment (slice_get ts b)) (at_number n m.table (with_mutation segment m) xs) xs ≡ each (taken segment m) n ts xs
hit segment m b n [] xs is = refl
hit segment m b n (t ∷ ts) [] is = elim (reaches segment (slice_get (t ∷ ts) b)) as (λ k. cond {A = List TableMap} k [] [] ≡ []) [ true ↦ refl | false ↦ refl ]
hit segment m zero n (t ∷ ts) (x ∷ xs) is =
    let here : nat_eq n m.table ≡ true = grind (arith, nat_tests) in
    let back : nat_eq m.table n ≡ true = grind (arith, nat_tests) in
    let rest : at_number (suc n) m.table (with_mutation segment m) xs ≡ xs = unchanged (suc n) m.table (with_mutation segment m) xs (omega (arith, is)) in
    let none : each (taken segment m) (suc n) ts xs ≡ xs = untouched segment m (suc n) ts xs (omega (arith, is)) in
    ap (λ b. cond (nat_le t.since segment) (cond b (with_mutation segment m x) x ∷ at_number (suc n) m.table (with_mutation segment m) xs) (x ∷ xs)) here
    ∙ ap (λ (l : List TableMap). cond (nat_le t.since segment) (with_mutation segment m x ∷ l) (x ∷ xs)) rest
    ∙ by (nat_le t.since segment)
    ∙ ap (λ (l : List TableMap). cond (nat_le t.since segment) (with_mutation segment m x) x ∷ l) (sym none)
    ∙ ap (λ b. cond (b && nat_le t.since segment) (with_mutation segment m x) x ∷ each (taken segment m) (suc n) ts xs) (sym back)
  where
    by : (k : Bool) → cond k (with_mutation segment m x ∷ xs) (x ∷ xs) ≡ cond k (with_mutation segment m x) x ∷ xs
    by true = refl
    by false = refl
hit segment m (suc b) n (t ∷ ts) (x ∷ xs) is =
    let here : nat_eq n m.table ≡ false = grind (arith, nat_tests) in
    let back : nat_eq m.table n ≡ false = grind (arith, nat_tests) in
    let rest = hit segment m b (suc n) ts xs (omega (arith, is)) in
    ap (λ k. cond (reaches segment (slice_get ts b)) (cond k (with_mutation segment m x) x ∷ at_number (suc n) m.table (with_mutation segment m) xs) (x ∷ xs)) here
    ∙ by (reaches segment (slice_get ts b))
    ∙ ap (λ (l : List TableMap). x ∷ l) rest
    ∙ ap (λ k. cond (k && nat_le t.since segment) (with_mutation segment m x) x ∷ each (taken segment m) (suc n) ts xs) (sym back)
  where
    by : (k : Bool) → cond k (x ∷ at_number (suc n) m.table (with_mutation segment m) xs) (x ∷ xs) ≡ x ∷ cond k (at_number (suc n) m.table (with_mutation segment m) xs) xs
    by true = refl
    by false = refl

mutation_each : (ts : List ListedDefinition) (segment : ℕ) (s : ReplayState) (m : Mutation) → (after_mutation ts segment s m).tables ≡ each (taken segment m) 1 ts s.tables
mutation_each ts segment s m = out (is_replayed ts segment m.table) ∙ by m.table refl
  where
    out : (k : Bool) → (cond {A = ReplayState} k (after_replayed segment s m) s).tables ≡ cond k (at_number 1 m.table (with_mutation segment m) s.tables) s.tables
    out true = refl
    out false = refl

    by : (number : ℕ) → m.table ≡ number → cond (is_replayed ts segment m.table) (at_number 1 m.table (with_mutation segment m) s.tables) s.tables ≡ each (taken segment m) 1 ts s.tables
    by zero is = ap (λ k. cond (is_replayed ts segment k) (at_number 1 m.table (with_mutation segment m) s.tables) s.tables) is ∙ sym (untouched segment m 1 ts s.tables (omega (arith, is)))
    by (suc b) is = ap (λ k. cond (is_replayed ts segment k) (at_number 1 m.table (with_mutation segment m) s.tables) s.tables) is ∙ hit segment m b 1 ts s.tables (omega (arith, is))

-- ---- a segment

abbrev segment_taken : ℕ → List Mutation → Step
segment_taken segment ms n t x = fold (λ x m. taken segment m n t x) x ms

segment_each : (ts : List ListedDefinition) (segment : ℕ) (s : ReplayState) (ms : List Mutation) → (after_segment ts segment s ms).tables ≡ each (segment_taken segment ms) 1 ts s.tables
segment_each ts segment s [] = sym (each_none 1 ts s.tables)
segment_each ts segment s (m ∷ ms) =
    segment_each ts segment (after_mutation ts segment s m) ms
    ∙ ap (λ (l : List TableMap). each (segment_taken segment ms) 1 ts l) (mutation_each ts segment s m)
    ∙ each_twice (segment_taken segment ms) (taken segment m) 1 ts s.tables

-- what an item has after it
abbrev with_first : ℕ → Bool → Option ℕ
with_first segment has = if has then Some segment else None

abbrev with_segment : ℕ → List Mutation → ℕ → TableMap → TableMap
with_segment segment ms n x = record {
  number = x.number;
  memtable = record { partitioner = x.memtable.partitioner; partitions = replay_segment x.memtable.partitioner n x.memtable.partitions ms };
  first = or_else x.first (with_first segment (has_mutation n ms));
}

none_more : (o : Option ℕ) → o ≡ or_else o None
none_more None = refl
none_more (Some a) = refl

first_stays : (o other : Option ℕ) (segment : ℕ) → or_else (or_else o (Some segment)) other ≡ or_else o (Some segment)
first_stays None other segment = refl
first_stays (Some a) other segment = refl

-- the mutations of a segment that its table takes
taken_all : (segment : ℕ) (ms : List Mutation) (n : ℕ) (x : TableMap) → fold (λ x m. if nat_eq m.table n then with_mutation segment m x else x) x ms ≡ with_segment segment ms n x
taken_all segment [] n x = ap (λ (o : Option ℕ). record { number = x.number; memtable = x.memtable; first = o }) (none_more x.first)
taken_all segment (m ∷ ms) n x = taken_all segment ms n (cond (nat_eq m.table n) (with_mutation segment m x) x) ∙ by (nat_eq m.table n)
  where
    by : (k : Bool) → with_segment segment ms n (cond k (with_mutation segment m x) x)
        ≡ record {
          number = x.number;
          memtable = record { partitioner = x.memtable.partitioner; partitions = replay_segment x.memtable.partitioner n (cond k (with_mutation segment m x).memtable.partitions x.memtable.partitions) ms };
          first = or_else x.first (with_first segment (k || has_mutation n ms));
        }
    by true = ap (λ (o : Option ℕ). record { number = x.number; memtable = record { partitioner = x.memtable.partitioner; partitions = replay_segment x.memtable.partitioner n (with_mutation segment m x).memtable.partitions ms }; first = o }) (first_stays x.first (with_first segment (has_mutation n ms)) segment)
    by false = refl

fold_same : {A B : Type 0} (f g : A → B → A) → ((a : A) (b : B) → f a b ≡ g a b) → (a : A) (bs : List B) → fold f a bs ≡ fold g a bs
fold_same f g same a [] = refl
fold_same f g same a (b ∷ bs) = ap (λ k. fold f k bs) (same a b) ∙ fold_same f g same (g a b) bs

and_true : (k : Bool) → (k && true) ≡ k
and_true true = refl
and_true false = refl

and_false : (k : Bool) → (k && false) ≡ false
and_false true = refl
and_false false = refl

fold_none : (x : TableMap) (ms : List Mutation) → fold (λ x m. x) x ms ≡ x
fold_none x [] = refl
fold_none x (m ∷ ms) = fold_none x ms

segment_is : (segment : ℕ) (ms : List Mutation) (n : ℕ) (t : ListedDefinition) (x : TableMap) → segment_taken segment ms n t x ≡ cond (nat_le t.since segment) (with_segment segment ms n x) x
segment_is segment ms n t x = by (nat_le t.since segment)
  where
    by : (k : Bool) → fold (λ x m. if nat_eq m.table n && k then with_mutation segment m x else x) x ms ≡ cond k (with_segment segment ms n x) x
    by true = fold_same (λ x m. if nat_eq m.table n && true then with_mutation segment m x else x) (λ x m. if nat_eq m.table n then with_mutation segment m x else x) (λ a m. ap (λ k. cond k (with_mutation segment m a) a) (and_true (nat_eq m.table n))) x ms
        ∙ taken_all segment ms n x
    by false = fold_same (λ x m. if nat_eq m.table n && false then with_mutation segment m x else x) (λ x m. x) (λ a m. ap (λ k. cond k (with_mutation segment m a) a) (and_false (nat_eq m.table n))) x ms ∙ fold_none x ms

-- ---- all segments

logs_taken : ℕ → List (List Mutation) → Step
logs_taken segment [] n t x = x
logs_taken segment (ms ∷ logs) n t x = logs_taken (suc segment) logs n t (segment_taken segment ms n t x)

segments_each : (ts : List ListedDefinition) (segment : ℕ) (s : ReplayState) (logs : List (List Mutation)) → (after_segments ts segment s logs).tables ≡ each (logs_taken segment logs) 1 ts s.tables
unfolding logs_taken
segments_each ts segment s [] = sym (each_none 1 ts s.tables)
segments_each ts segment s (ms ∷ logs) =
    segments_each ts (suc segment) (after_segment ts segment s ms) logs
    ∙ ap (λ (l : List TableMap). each (logs_taken (suc segment) logs) 1 ts l) (segment_each ts segment s ms)
    ∙ each_twice (logs_taken (suc segment) logs) (segment_taken segment ms) 1 ts s.tables

-- what an item has after all of them
abbrev with_logs : ℕ → List (List Mutation) → ℕ → ℕ → TableMap → TableMap
with_logs segment logs n since x = record {
  number = x.number;
  memtable = record { partitioner = x.memtable.partitioner; partitions = replay x.memtable.partitioner n since segment x.memtable.partitions logs };
  first = or_else x.first (first_in n since segment logs);
}

first_of : (o later : Option ℕ) (segment : ℕ) (has : Bool) → or_else (or_else o (with_first segment has)) later ≡ or_else o (cond has (Some segment) later)
first_of None later segment true = refl
first_of None later segment false = refl
first_of (Some a) later segment true = refl
first_of (Some a) later segment false = refl

logs_are : (segment : ℕ) (logs : List (List Mutation)) (n : ℕ) (t : ListedDefinition) (x : TableMap) → logs_taken segment logs n t x ≡ with_logs segment logs n t.since x
unfolding logs_taken
logs_are segment [] n t x = ap (λ (o : Option ℕ). record { number = x.number; memtable = x.memtable; first = o }) (none_more x.first)
logs_are segment (ms ∷ logs) n t x =
    logs_are (suc segment) logs n t (segment_taken segment ms n t x)
    ∙ ap (λ (y : TableMap). with_logs (suc segment) logs n t.since y) (segment_is segment ms n t x)
    ∙ by (nat_le t.since segment)
  where
    by : (k : Bool) → with_logs (suc segment) logs n t.since (cond k (with_segment segment ms n x) x)
        ≡ record {
          number = x.number;
          memtable = record { partitioner = x.memtable.partitioner; partitions = replay x.memtable.partitioner n t.since (suc segment) (cond k (replay_segment x.memtable.partitioner n x.memtable.partitions ms) x.memtable.partitions) logs };
          first = or_else x.first (cond (k && has_mutation n ms) (Some segment) (first_in n t.since (suc segment) logs));
        }
    by true = ap (λ (o : Option ℕ). record { number = x.number; memtable = record { partitioner = x.memtable.partitioner; partitions = replay x.memtable.partitioner n t.since (suc segment) (replay_segment x.memtable.partitioner n x.memtable.partitions ms) logs }; first = o }) (first_of x.first (first_in n t.since (suc segment) logs) segment (has_mutation n ms))
    by false = refl

-- ---- from empty memtables

-- the memtable of each table, as its own mutations make it
abbrev pub maps_of : Partitioner → ℕ → List (List Mutation) → ℕ → List ListedDefinition → List TableMap
maps_of p floor logs n [] = []
maps_of p floor logs n (t ∷ ts) =
    record { number = n; memtable = record { partitioner = p; partitions = replay p n t.since floor map_.empty logs }; first = first_in n t.since floor logs } ∷ maps_of p floor logs (suc n) ts

each_empty : (p : Partitioner) (floor : ℕ) (logs : List (List Mutation)) (n : ℕ) (ts : List ListedDefinition) → each (logs_taken floor logs) n ts (empty_maps p n ts) ≡ maps_of p floor logs n ts
each_empty p floor logs n [] = refl
each_empty p floor logs n (t ∷ ts) =
    let one = logs_are floor logs n t (record { number = n; memtable = record { partitioner = p; partitions = map_.empty }; first = None }) in
    let rest = each_empty p floor logs (suc n) ts in
    λ i. one i ∷ rest i

-- **The memtables of a replay are those of the tables' own mutations.**
pub replayed_maps : (p : Partitioner) (ts : List ListedDefinition) (floor time : ℕ) (logs : List (List Mutation))
    → (after_segments ts floor (record { tables = empty_maps p 1 ts; max_timestamp = time }) logs).tables ≡ maps_of p floor logs 1 ts
replayed_maps p ts floor time logs = segments_each ts floor (record { tables = empty_maps p 1 ts; max_timestamp = time }) logs ∙ each_empty p floor logs 1 ts
