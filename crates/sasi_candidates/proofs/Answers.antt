-- For callers: to check the candidates alone, one after another, gives the answer.
use Rattle.std.proofs.Common.{◌≡◌, ℕ, zero, suc, Bool, true, false, cond, if◌then◌else◌, List, [], ◌∷◌, ◌++◌, length, map, take, Option, None, Some, refl, sym, ap, ◌∙◌}
use Rattle.std.proofs.lemmas.Bool.{and_parts}
use Rattle.std.specs.FinMap as map_
use Rattle.std.specs.List.{filter, AllByRecursion}
use Rattle.sasi_types.specs.declared.decorated_key.DecoratedKey.{DecoratedKey}
use Rattle.sasi_cells.specs.Maps.{merged}
use Rattle.sasi_cells.proofs.Laws.Decorated.{entries_have}
use Rattle.sasi_model.specs.Abbreviations.{Partitions}
use Rattle.sasi_model.specs.Cells.{Partition, is_live}
use Rattle.sasi_model.specs.Filters.{Filter, accepts, answers, limited}
use Rattle.sasi_layout.specs.Layout.{File, TableParts, parts, table_of, unflushed}
use Rattle.sasi_candidates.specs.Candidates.{candidates, is_candidate}
use Rattle.sasi_candidates.specs.Checks.{given, given_of, looked, looked_of, rows}
use Rattle.sasi_candidates.specs.LayoutParts.{part_of_file, part_of_map, parts_of}
use Rattle.sasi_candidates.specs.Parts.{Part, maps_of}
use Rattle.sasi_candidates.proofs.Hits.{row_is_candidate}

-- ---- what is given

given_front : {A : Type 0} (n : ℕ) (test : A → Bool) (xs : List A) → given_of n test xs ≡ take n (filter test xs)
given_front zero test xs = refl
given_front (suc n) test [] = refl
given_front (suc n) test (x ∷ xs) = by (test x) (given_front n test xs) (given_front (suc n) test xs)
  where
    by : (t : Bool) → given_of n test xs ≡ take n (filter test xs) → given_of (suc n) test xs ≡ take (suc n) (filter test xs)
        → (if t then x ∷ given_of n test xs else given_of (suc n) test xs) ≡ take (suc n) (cond t (x ∷ filter test xs) (filter test xs))
    by true one other = ap (λ l. x ∷ l) one
    by false one other = other

-- what is given is the front of what passes
pub given_is : {A : Type 0} (limit : Option ℕ) (test : A → Bool) (xs : List A) → given limit test xs ≡ limited limit (filter test xs)
given_is None test xs = refl
given_is (Some n) test xs = given_front n test xs

-- what passes both tests, where the one implies the other
pub filter_twice : {A : Type 0} (test wide : A → Bool) (xs : List A) → AllByRecursion (λ x. test x ≡ true → wide x ≡ true) xs → filter test (filter wide xs) ≡ filter test xs
filter_twice test wide [] implies = refl
filter_twice {A} test wide (x ∷ xs) implies = by (test x) refl (wide x) implies.0 (filter_twice test wide xs implies.1)
  where
    by : (t : Bool) → test x ≡ t → (w : Bool) → (test x ≡ true → w ≡ true) → filter test (filter wide xs) ≡ filter test xs → filter test (cond w (x ∷ filter wide xs) (filter wide xs)) ≡ cond (test x) (x ∷ filter test xs) (filter test xs)
    by t is true grows same = ap (λ (l : List A). cond (test x) (x ∷ l) l) same
    by true is false grows same = let no : false ≡ true = grows is in cc
    by false is false grows same = same ∙ sym (ap (λ b. cond b (x ∷ filter test xs) (filter test xs)) is)

-- **The rows of the answer are those that checking the candidates gives**, whichever parts the table has.
pub answer_is_checked : (limit : Option ℕ) (f : Filter) (parts : List Part) → given limit (answers f) (candidates parts f) ≡ rows limit f (merged (maps_of parts))
answer_is_checked limit f parts =
    let m = merged (maps_of parts) in
    given_is limit (answers f) (candidates parts f)
    ∙ ap (limited limit) (filter_twice (answers f) (λ (e : DecoratedKey × Partition). is_candidate parts f e.0) (map_.entries m)
    (entries_have (λ (e : DecoratedKey × Partition). answers f e ≡ true → is_candidate parts f e.0 ≡ true) m
    (λ q p there is. row_is_candidate parts f q p there (and_parts (is_live p) (accepts f q.key p) is).1)))

-- ---- a table of a layout

maps_in_memory : (ms : List Partitions) → maps_of (map part_of_map ms) ≡ ms
maps_in_memory [] = refl
maps_in_memory (m ∷ ms) = ap (λ (l : List Partitions). m ∷ l) (maps_in_memory ms)

maps_of_files : (t : TableParts) (fs : List File) (ms : List Partitions) → maps_of (map (part_of_file t) fs ++ map part_of_map ms) ≡ map (λ (f : File). f.holds) fs ++ ms
maps_of_files t [] ms = maps_in_memory ms
maps_of_files t (f ∷ fs) ms = ap (λ (l : List Partitions). f.holds ∷ l) (maps_of_files t fs ms)

-- the maps of the parts are the parts of the layout
pub maps_of_parts : (t : TableParts) → maps_of (parts_of t) ≡ parts t
maps_of_parts t = maps_of_files t t.files (unflushed t)

-- **In every layout, checking the candidates of a table's parts gives the rows of the answer over its state.**
pub layout_answers : (limit : Option ℕ) (f : Filter) (t : TableParts) → given limit (answers f) (candidates (parts_of t) f) ≡ rows limit f (table_of t).partitions
layout_answers limit f t = answer_is_checked limit f (parts_of t) ∙ ap (λ (ms : List Partitions). rows limit f (merged ms)) (maps_of_parts t)

-- ---- what is looked at

looked_front : {A : Type 0} (n : ℕ) (test : A → Bool) (xs : List A) → filter test (take (looked_of n test xs) xs) ≡ given_of n test xs
looked_front zero test xs = refl
looked_front (suc n) test [] = refl
looked_front (suc n) test (x ∷ xs) = by (test x) refl (looked_front n test xs) (looked_front (suc n) test xs)
  where
    by : (t : Bool) → test x ≡ t → filter test (take (looked_of n test xs) xs) ≡ given_of n test xs → filter test (take (looked_of (suc n) test xs) xs) ≡ given_of (suc n) test xs
        → filter test (take (suc (if t then looked_of n test xs else looked_of (suc n) test xs)) (x ∷ xs)) ≡ (if t then x ∷ given_of n test xs else given_of (suc n) test xs)
    by true is one other = ap (λ b. cond b (x ∷ filter test (take (looked_of n test xs) xs)) (filter test (take (looked_of n test xs) xs))) is ∙ ap (λ l. x ∷ l) one
    by false is one other = ap (λ b. cond b (x ∷ filter test (take (looked_of (suc n) test xs) xs)) (filter test (take (looked_of (suc n) test xs) xs))) is ∙ other

all_taken : {A : Type 0} (xs : List A) → take (length xs) xs ≡ xs
all_taken [] = refl
all_taken (x ∷ xs) = ap (λ l. x ∷ l) (all_taken xs)

-- **What is looked at has exactly the rows that are given.**
pub looked_gives : {A : Type 0} (limit : Option ℕ) (test : A → Bool) (xs : List A) → filter test (take (looked limit test xs) xs) ≡ given limit test xs
looked_gives None test xs = ap (filter test) (all_taken xs)
looked_gives (Some n) test xs = looked_front n test xs
