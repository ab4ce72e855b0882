-- The merge of two sorted lists is the merge of their partitions.
use Rattle.std.proofs.Common.{◌≡◌, ℕ, max, not, nat_le, Bool, true, false, cond, if◌then◌else◌, T, List, [], ◌∷◌, Option, None, Some, refl, sym, ap, ◌∙◌, subst}
use Rattle.std.specs.declared.cmp.Ordering.{Ordering}
use Rattle.std.specs.declared.cmp.Ordering.TheVariants.{Less, Equal, Greater}
use Rattle.std.specs.Ordering.{nat_cmp, is_lt, is_eq, eq_by_cmp, match_ordering, ordering_reverse}
use Rattle.std.specs.Cmp.{nat_cmp_total}
use Rattle.std.specs.List.{list_all}
use Rattle.std.specs.FinMap.{find, is_sorted}
use Rattle.std.specs.FinMap.Entries.{below_all}
use Rattle.std.specs.FinMap as map
use Rattle.sasi_types.specs.declared.cell.Cell.{Cell}
use Rattle.sasi_model.specs.Cells.{newest, newest_of, unshadowed, merge}
use Rattle.sasi_cells.specs.Entries.{Entry, merged_sorted, is_above, unshadowed_entries, partition_of}
use Rattle.sasi_cells.proofs.Laws.Sorted.{both, first, second, equal_columns, find_below}
use Rattle.sasi_cells.proofs.Laws.Merged.{get_merge, deleted_merge, same_partition}

-- ---- the columns rise

is_less : (r : Ordering) → T (is_lt r) → r ≡ Less
is_less Less p = refl
is_less Equal p = absurd p
is_less Greater p = absurd p

less : (r : Ordering) → r ≡ Less → T (is_lt r)
less r e = subst (λ o. T (is_lt o)) (sym e) tt

-- a lower column is below all too
lower_still : (k m : ℕ) (es : List Entry) → nat_cmp k m ≡ Less → T (below_all nat_cmp m es) → T (below_all nat_cmp k es)
lower_still k m [] low h = tt
lower_still k m (e ∷ es) low h = both _ _ (less _ (nat_cmp_total.trans k m e.0 low (is_less _ (first _ _ h)))) (lower_still k m es low (second _ _ h))

below_joined : (k : ℕ) (xs ys : List Entry) → T (below_all nat_cmp k xs) → T (below_all nat_cmp k ys) → T (below_all nat_cmp k (merged_sorted xs ys))
below_joined k [] ys g h = h
below_joined k (x ∷ xs) [] g h = g
below_joined k (x ∷ xs) (y ∷ ys) g h =
    elim (nat_cmp x.0 y.0) as (λ r. T (below_all nat_cmp k (match_ordering r (x ∷ merged_sorted xs (y ∷ ys)) ((x.0, newest x.1 y.1) ∷ merged_sorted xs ys) (y ∷ merged_sorted (x ∷ xs) ys)))) [
      | Less ↦ both _ _ (first _ _ g) (below_joined k xs (y ∷ ys) (second _ _ g) h)
      | Equal ↦ both _ _ (first _ _ g) (below_joined k xs ys (second _ _ g) (second _ _ h))
      | Greater ↦ both _ _ (first _ _ h) (below_joined k (x ∷ xs) ys g (second _ _ h))
    ]

sorted_joined : (xs ys : List Entry) → T (is_sorted nat_cmp xs) → T (is_sorted nat_cmp ys) → T (is_sorted nat_cmp (merged_sorted xs ys))
sorted_joined [] ys g h = h
sorted_joined (x ∷ xs) [] g h = g
sorted_joined (x ∷ xs) (y ∷ ys) g h =
    elim (nat_cmp x.0 y.0) as (λ r. nat_cmp x.0 y.0 ≡ r → T (is_sorted nat_cmp (match_ordering r (x ∷ merged_sorted xs (y ∷ ys)) ((x.0, newest x.1 y.1) ∷ merged_sorted xs ys) (y ∷ merged_sorted (x ∷ xs) ys)))) [
      | Less ↦ λ low. both _ _ (below_joined x.0 xs (y ∷ ys) (first _ _ g) (both _ _ (less _ low) (lower_still x.0 y.0 ys low (first _ _ h)))) (sorted_joined xs (y ∷ ys) (second _ _ g) h)
      | Equal ↦ λ same. both _ _ (below_joined x.0 xs ys (first _ _ g)
          (subst (λ k. T (below_all nat_cmp k ys)) (sym (tied x.0 y.0 same)) (first _ _ h))) (sorted_joined xs ys (second _ _ g) (second _ _ h))
      | Greater ↦ λ high. let low : nat_cmp y.0 x.0 ≡ Less = nat_cmp_total.antisymm y.0 x.0 ∙ ap ordering_reverse high in
          both _ _ (below_joined y.0 (x ∷ xs) ys (both _ _ (less _ low) (lower_still y.0 x.0 xs low (first _ _ g))) (first _ _ h)) (sorted_joined (x ∷ xs) ys g (second _ _ h))
    ] refl
  where
    tied : (k m : ℕ) → nat_cmp k m ≡ Equal → k ≡ m
    tied k m e = equal_columns k m (ap is_eq e)

-- ---- look-ups

-- a cell of the first alone
front_first : (c : ℕ) (x : Entry) (m n : Option Cell) (rest : Option Cell) → (eq_by_cmp nat_cmp c x.0 ≡ true → n ≡ None) → rest ≡ newest_of m n
    → cond (eq_by_cmp nat_cmp c x.0) (Some x.1) rest ≡ newest_of (cond (eq_by_cmp nat_cmp c x.0) (Some x.1) m) n
front_first c x m n rest absent is =
    elim (eq_by_cmp nat_cmp c x.0) as (λ b. eq_by_cmp nat_cmp c x.0 ≡ b → cond b (Some x.1) rest ≡ newest_of (cond b (Some x.1) m) n) [
      | true ↦ λ same. sym (ap (newest_of (Some x.1)) (absent same))
      | false ↦ λ _. is
    ] refl

front_second : (c : ℕ) (y : Entry) (m n : Option Cell) (rest : Option Cell) → (eq_by_cmp nat_cmp c y.0 ≡ true → m ≡ None) → rest ≡ newest_of m n
    → cond (eq_by_cmp nat_cmp c y.0) (Some y.1) rest ≡ newest_of m (cond (eq_by_cmp nat_cmp c y.0) (Some y.1) n)
front_second c y m n rest absent is =
    elim (eq_by_cmp nat_cmp c y.0) as (λ b. eq_by_cmp nat_cmp c y.0 ≡ b → cond b (Some y.1) rest ≡ newest_of m (cond b (Some y.1) n)) [
      | true ↦ λ same. sym (ap (λ o. newest_of o (Some y.1)) (absent same))
      | false ↦ λ _. is
    ] refl

front_both : (b : Bool) (x y : Cell) (m n rest : Option Cell) → rest ≡ newest_of m n
    → cond b (Some (newest x y)) rest ≡ newest_of (cond b (Some x) m) (cond b (Some y) n)
front_both true x y m n rest is = refl
front_both false x y m n rest is = is

newest_of_none : (m : Option Cell) → newest_of m None ≡ m
newest_of_none None = refl
newest_of_none (Some cell) = refl

absent_at : (c k : ℕ) (es : List Entry) → eq_by_cmp nat_cmp c k ≡ true → T (below_all nat_cmp k es) → find nat_cmp c es ≡ None
absent_at c k es same h = ap (λ n. find nat_cmp n es) (equal_columns c k same) ∙ find_below k es h

find_joined : (c : ℕ) (xs ys : List Entry) → T (is_sorted nat_cmp xs) → T (is_sorted nat_cmp ys)
    → find nat_cmp c (merged_sorted xs ys) ≡ newest_of (find nat_cmp c xs) (find nat_cmp c ys)
find_joined c [] ys g h = refl
find_joined c (x ∷ xs) [] g h = sym (newest_of_none (find nat_cmp c (x ∷ xs)))
find_joined c (x ∷ xs) (y ∷ ys) g h =
    elim (nat_cmp x.0 y.0) as (λ r. nat_cmp x.0 y.0 ≡ r → find nat_cmp c
    (match_ordering r (x ∷ merged_sorted xs (y ∷ ys)) ((x.0, newest x.1 y.1) ∷ merged_sorted xs ys) (y ∷ merged_sorted (x ∷ xs) ys))
    ≡ newest_of (find nat_cmp c (x ∷ xs)) (find nat_cmp c (y ∷ ys))) [
      | Less ↦ λ low. front_first c x (find nat_cmp c xs) (find nat_cmp c (y ∷ ys)) _
          (λ same. absent_at c x.0 (y ∷ ys) same (both _ _ (less _ low) (lower_still x.0 y.0 ys low (first _ _ h))))
          (find_joined c xs (y ∷ ys) (second _ _ g) h)
      | Equal ↦ λ same. let k : x.0 ≡ y.0 = equal_columns x.0 y.0 (ap is_eq same) in
          subst (λ n. cond (eq_by_cmp nat_cmp c x.0) (Some (newest x.1 y.1)) (find nat_cmp c (merged_sorted xs ys)) ≡ newest_of (find nat_cmp c (x ∷ xs))
          (cond (eq_by_cmp nat_cmp c n) (Some y.1) (find nat_cmp c ys))) k
          (front_both (eq_by_cmp nat_cmp c x.0) x.1 y.1 _ _ _ (find_joined c xs ys (second _ _ g) (second _ _ h)))
      | Greater ↦ λ high. let low : nat_cmp y.0 x.0 ≡ Less = nat_cmp_total.antisymm y.0 x.0 ∙ ap ordering_reverse high in
          front_second c y (find nat_cmp c (x ∷ xs)) (find nat_cmp c ys) _
          (λ same. absent_at c y.0 (x ∷ xs) same (both _ _ (less _ low) (lower_still y.0 x.0 xs low (first _ _ g))))
          (find_joined c (x ∷ xs) ys g (second _ _ h))
    ] refl

-- ---- a deletion

below_unshadowed : (k d : ℕ) (es : List Entry) → T (below_all nat_cmp k es) → T (below_all nat_cmp k (unshadowed_entries d es))
below_unshadowed k d [] h = tt
below_unshadowed k d (e ∷ es) h =
    elim (is_above d e) as (λ b. T (below_all nat_cmp k (cond b (e ∷ unshadowed_entries d es) (unshadowed_entries d es)))) [
      | true ↦ both _ _ (first _ _ h) (below_unshadowed k d es (second _ _ h))
      | false ↦ below_unshadowed k d es (second _ _ h)
    ]

sorted_unshadowed : (d : ℕ) (es : List Entry) → T (is_sorted nat_cmp es) → T (is_sorted nat_cmp (unshadowed_entries d es))
sorted_unshadowed d [] h = tt
sorted_unshadowed d (e ∷ es) h =
    elim (is_above d e) as (λ b. T (is_sorted nat_cmp (cond b (e ∷ unshadowed_entries d es) (unshadowed_entries d es)))) [
      | true ↦ both _ _ (below_unshadowed e.0 d es (first _ _ h)) (sorted_unshadowed d es (second _ _ h))
      | false ↦ sorted_unshadowed d es (second _ _ h)
    ]

pub all_above : (d : ℕ) (es : List Entry) → list_all (is_above d) (unshadowed_entries d es) ≡ true
all_above d [] = refl
all_above d (e ∷ es) =
    elim (is_above d e) as (λ b. is_above d e ≡ b → list_all (is_above d) (cond b (e ∷ unshadowed_entries d es) (unshadowed_entries d es)) ≡ true) [
      | true ↦ λ h. rw (h, all_above d es) refl
      | false ↦ λ h. all_above d es
    ] refl

-- the first entry kept or left out, looked up at its column and at another
front_kept : (shadowed at : Bool) (cell : Cell) (d c : ℕ) (e : Entry) (kept : List Entry) (rest : Option Cell)
    → nat_le e.1.time d ≡ shadowed → eq_by_cmp nat_cmp c e.0 ≡ at → find nat_cmp c kept ≡ unshadowed d rest → (at ≡ true → rest ≡ None)
    → find nat_cmp c (cond (not shadowed) (e ∷ kept) kept) ≡ unshadowed d (cond at (Some e.1) rest)
front_kept true true cell d c e kept rest s a is none = is ∙ ap (unshadowed d) (none refl) ∙ sym (ap (λ b. if b then None else Some e.1) s)
front_kept true false cell d c e kept rest s a is none = is
front_kept false true cell d c e kept rest s a is none =
    ap (λ b. cond b (Some e.1) (find nat_cmp c kept)) a ∙ sym (ap (λ b. if b then None else Some e.1) s)
front_kept false false cell d c e kept rest s a is none = ap (λ b. cond b (Some e.1) (find nat_cmp c kept)) a ∙ is

find_unshadowed : (c d : ℕ) (es : List Entry) → T (is_sorted nat_cmp es) → find nat_cmp c (unshadowed_entries d es) ≡ unshadowed d (find nat_cmp c es)
find_unshadowed c d [] h = refl
find_unshadowed c d (e ∷ es) h =
    front_kept _ _ e.1 d c e (unshadowed_entries d es) (find nat_cmp c es) refl refl (find_unshadowed c d es (second _ _ h)) (λ same. absent_at c e.0 es same (first _ _ h))

-- ---- the merge

-- the merged list is sorted, and no deletion shadows an entry of it
pub sorted_merged : (d : ℕ) (xs ys : List Entry) → T (is_sorted nat_cmp xs) → T (is_sorted nat_cmp ys)
    → T (is_sorted nat_cmp (unshadowed_entries d (merged_sorted xs ys)))
sorted_merged d xs ys g h = sorted_unshadowed d (merged_sorted xs ys) (sorted_joined xs ys g h)

-- and is the merge
pub merged_sorted_is_merge : (d e : ℕ) (xs ys : List Entry) → T (is_sorted nat_cmp xs) → T (is_sorted nat_cmp ys)
    → partition_of (max d e) (unshadowed_entries (max d e) (merged_sorted xs ys)) ≡ merge (partition_of d xs) (partition_of e ys)
merged_sorted_is_merge d e xs ys g h =
    same_partition _ _ (sym (deleted_merge (partition_of d xs) (partition_of e ys)))
    (λ c. map.get-from_sorted nat_cmp _ c (sorted_merged (max d e) xs ys g h) ∙ find_unshadowed c (max d e) (merged_sorted xs ys) (sorted_joined xs ys g h)
    ∙ ap (unshadowed (max d e)) (find_joined c xs ys g h ∙ ap (λ x. newest_of x (find nat_cmp c ys)) (sym (map.get-from_sorted nat_cmp xs c g))
    ∙ ap (newest_of (map.get (map.from_sorted xs) c)) (sym (map.get-from_sorted nat_cmp ys c h)))
    ∙ sym (get_merge (partition_of d xs) (partition_of e ys) c))
