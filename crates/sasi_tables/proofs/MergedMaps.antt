-- The merge of maps goes on from key to key: its next entry is the least of their first ones, merged, and what is left then are the entries behind it.
use Rattle.std.proofs.Common.{◌≡◌, ◌&&◌, ℕ, ◌+◌, Bool, true, false, cond, T, is_some, List, [], ◌∷◌, ◌++◌, map, take, slice_get, Option, None, Some, refl, sym, ap, subst, ◌∙◌}
use Rattle.std.specs.Prelude.{unwrap_or}
use Rattle.std.proofs.lemmas.List.{map-append}
use Rattle.std.specs.FinMap as map_
use Rattle.std.specs.FinMap.{is_sorted}
use Rattle.std.specs.FinMap.Entries.{below_all}
use Rattle.std.specs.List.{AllByRecursion}
use Rattle.std.specs.Ordering.{eq_by_cmp, is_eq, is_lt}
use Rattle.std.specs.declared.cmp.Ordering.{Ordering}
use Rattle.std.specs.declared.cmp.Ordering.TheVariants.{Less, Equal, Greater}
use Rattle.sasi_cells.proofs.Laws.Decorated.{decorated_same, equal_keys, same_maps}
use Rattle.sasi_cells.specs.Maps.{joined}
use Rattle.sasi_memtable.specs.MemtableView.{MemtableView, entries_after}
use Rattle.sasi_memindex.specs.Book.{Book}
use Rattle.sasi_merge.proofs.LeastKeys.{is_least_key, none_left, part_push}
use Rattle.sasi_merge.proofs.Streams.{next_entry, no_entry}
use Rattle.sasi_merge.specs.Least.{least_from}
use Rattle.sasi_merge.specs.Merging.{Head, IsFrom, head_with, merged_heads, merged_part, merged_with, part_at, with_token}
use Rattle.sasi_merge.specs.Streams.{Entries, IsRising, head_of, maps_of, merged_entries, moved}
use Rattle.sasi_cells.specs.Maps.{merged}
use Rattle.sasi_model.specs.Abbreviations.{Partitions}
use Rattle.sasi_model.specs.Cells.{Partition, empty_partition, merge}
use Rattle.sasi_tables.specs.Held.{map_in, maps_with}
use Rattle.sasi_tables.specs.MergedMaps.{GivesNext, found_head, heads_after, merged_after, rests_after}
use Rattle.sasi_tables.proofs.EachMap.{take_next}
use Rattle.sasi_types.specs.DecoratedKey.{decorated_cmp, decorated_total}
use Rattle.sasi_types.specs.declared.decorated_key.DecoratedKey.{DecoratedKey}

both_true : (a b : Bool) → T (a && b) → T a × T b
both_true true b h = (tt, h)
both_true false b h = absurd h

both_make : (a b : Bool) → T a → T b → T (a && b)
both_make true b h k = k
both_make false b h k = absurd h

is_less : (r : Ordering) → T (is_lt r) → r ≡ Less
is_less Less h = refl
is_less Equal h = absurd h
is_less Greater h = absurd h

-- ---- the entries behind a key

-- the first entry, as a head
first_head : (es : Entries) → found_head (slice_get es 0) ≡ head_of es
first_head [] = refl
first_head (e ∷ es) = refl

module _ (k : DecoratedKey) where
  abbrev behind_it : Entries → Entries
  behind_it es = entries_after (Some k) es

  filtered_below : (q : DecoratedKey) (es : Entries) → T (below_all decorated_cmp q es) → T (below_all decorated_cmp q (behind_it es))
  filtered_below q [] below = tt
  filtered_below q (e ∷ es) below = by (is_lt (decorated_cmp k e.0) && true) (both_true (is_lt (decorated_cmp q e.0)) (below_all decorated_cmp q es) below).0 (filtered_below q es (both_true (is_lt (decorated_cmp q e.0)) (below_all decorated_cmp q es) below).1)
    where
      by : (b : Bool) → T (is_lt (decorated_cmp q e.0)) → T (below_all decorated_cmp q (behind_it es)) → T (below_all decorated_cmp q (cond b (e ∷ behind_it es) (behind_it es)))
      by true here rest = both_make (is_lt (decorated_cmp q e.0)) (below_all decorated_cmp q (behind_it es)) here rest
      by false here rest = rest

  after_rising : (es : Entries) → IsRising es → IsRising (behind_it es)
  after_rising [] rising = tt
  after_rising (e ∷ es) rising =
      by (is_lt (decorated_cmp k e.0) && true) (filtered_below e.0 es (both_true (below_all decorated_cmp e.0 es) (is_sorted decorated_cmp es) rising).0) (after_rising es (both_true (below_all decorated_cmp e.0 es) (is_sorted decorated_cmp es) rising).1)
    where
      by : (b : Bool) → T (below_all decorated_cmp e.0 (behind_it es)) → IsRising (behind_it es) → IsRising (cond b (e ∷ behind_it es) (behind_it es))
      by true below rest = both_make (below_all decorated_cmp e.0 (behind_it es)) (is_sorted decorated_cmp (behind_it es)) below rest
      by false below rest = rest

  -- those behind a later key are among them
  later_after : (key : DecoratedKey) → decorated_cmp k key ≡ Less → (es : Entries) → entries_after (Some key) (behind_it es) ≡ entries_after (Some key) es
  later_after key less [] = refl
  later_after key less (e ∷ es) = by (decorated_cmp k e.0) (decorated_cmp key e.0) refl refl (later_after key less es)
    where
      kept_out : (r s : Ordering) → decorated_cmp k e.0 ≡ r → decorated_cmp key e.0 ≡ s → is_lt r ≡ false → is_lt s ≡ false → entries_after (Some key) (behind_it es) ≡ entries_after (Some key) es
          → entries_after (Some key) (cond (is_lt (decorated_cmp k e.0) && true) (e ∷ behind_it es) (behind_it es)) ≡ cond (is_lt (decorated_cmp key e.0) && true) (e ∷ entries_after (Some key) es) (entries_after (Some key) es)
      kept_out r s own is out also rest =
          ap (λ (b : Bool). entries_after (Some key) (cond (b && true) (e ∷ behind_it es) (behind_it es))) (ap is_lt own ∙ out)
          ∙ rest
          ∙ sym (ap (λ (b : Bool). cond (b && true) (e ∷ entries_after (Some key) es) (entries_after (Some key) es)) (ap is_lt is ∙ also))

      by : (r s : Ordering) → decorated_cmp k e.0 ≡ r → decorated_cmp key e.0 ≡ s → entries_after (Some key) (behind_it es) ≡ entries_after (Some key) es
          → entries_after (Some key) (cond (is_lt (decorated_cmp k e.0) && true) (e ∷ behind_it es) (behind_it es)) ≡ cond (is_lt (decorated_cmp key e.0) && true) (e ∷ entries_after (Some key) es) (entries_after (Some key) es)
      by Less s own is rest =
          ap (λ (r : Ordering). entries_after (Some key) (cond (is_lt r && true) (e ∷ behind_it es) (behind_it es))) own
          ∙ ap (λ (l : Entries). cond (is_lt (decorated_cmp key e.0) && true) (e ∷ l) l) rest
      by Equal Less own is rest = let on : decorated_cmp k e.0 ≡ Less = decorated_total.trans k key e.0 less is in let no : Less ≡ Equal = sym on ∙ own in cc
      by Greater Less own is rest = let on : decorated_cmp k e.0 ≡ Less = decorated_total.trans k key e.0 less is in let no : Less ≡ Greater = sym on ∙ own in cc
      by Equal Equal own is rest = kept_out Equal Equal own is refl refl rest
      by Equal Greater own is rest = kept_out Equal Greater own is refl refl rest
      by Greater Equal own is rest = kept_out Greater Equal own is refl refl rest
      by Greater Greater own is rest = kept_out Greater Greater own is refl refl rest

  -- the key of a first entry behind it is behind it
  head_behind : (key : DecoratedKey) (es : Entries) → is_some (part_at key (head_of (behind_it es))) ≡ true → decorated_cmp k key ≡ Less
  head_behind key [] some = cc
  head_behind key (e ∷ es) some = by (is_lt (decorated_cmp k e.0) && true) refl some (head_behind key es)
    where
      tied : T (is_lt (decorated_cmp k e.0) && true) → (t : Bool) → eq_by_cmp decorated_cmp key (with_token e.0.token e.0.key) ≡ t → is_some (cond t (Some e.1) None) ≡ true → decorated_cmp k key ≡ Less
      tied less true same found = ap (decorated_cmp k) (equal_keys key e.0 same) ∙ is_less (decorated_cmp k e.0) (both_true (is_lt (decorated_cmp k e.0)) true less).0
      tied less false other found = cc

      by : (b : Bool) → (is_lt (decorated_cmp k e.0) && true) ≡ b → is_some (part_at key (head_of (cond b (e ∷ behind_it es) (behind_it es)))) ≡ true → (is_some (part_at key (head_of (behind_it es))) ≡ true → decorated_cmp k key ≡ Less) → decorated_cmp k key ≡ Less
      by true is here rest = tied (subst T (sym is) tt) (eq_by_cmp decorated_cmp key (with_token e.0.token e.0.key)) refl here
      by false is here rest = rest here

  either_some : {P : Type 0} (a b : Option Partition) → is_some (joined a b) ≡ true → (is_some a ≡ true → P) → (is_some b ≡ true → P) → P
  either_some a None some first second = first some
  either_some a (Some q) some first second = second refl

  key_behind : (key : DecoratedKey) (base : Option Partition) (ms : List Partitions) → (is_some base ≡ true → decorated_cmp k key ≡ Less) → is_some (merged_heads key base (heads_after (Some k) ms)) ≡ true → decorated_cmp k key ≡ Less
  key_behind key base [] before some = before some
  key_behind key base (m ∷ ms) before some =
      key_behind key (joined base (part_at key (head_of (behind_it (map_.entries m))))) ms
      (λ now. either_some base (part_at key (head_of (behind_it (map_.entries m)))) now before (head_behind key (map_.entries m))) some

-- ---- a source that moves

below_on : (key q : DecoratedKey) (es : Entries) → decorated_cmp key q ≡ Less → T (below_all decorated_cmp q es) → T (below_all decorated_cmp key es)
below_on key q [] less below = tt
below_on key q (e ∷ es) less below =
    let parts = both_true (is_lt (decorated_cmp q e.0)) (below_all decorated_cmp q es) below in
    both_make (is_lt (decorated_cmp key e.0)) (below_all decorated_cmp key es) (subst (λ (r : Ordering). T (is_lt r)) (sym (decorated_total.trans key q e.0 less (is_less (decorated_cmp q e.0) parts.0))) tt) (below_on key q es less parts.1)

above_after : (key : DecoratedKey) (es : Entries) → T (below_all decorated_cmp key es) → entries_after (Some key) es ≡ es
above_after key [] below = refl
above_after key (e ∷ es) below =
    let parts = both_true (is_lt (decorated_cmp key e.0)) (below_all decorated_cmp key es) below in
    let less : decorated_cmp key e.0 ≡ Less = is_less (decorated_cmp key e.0) parts.0 in
    ap (λ (r : Ordering). cond (is_lt r && true) (e ∷ entries_after (Some key) es) (entries_after (Some key) es)) less ∙ ap (λ (x : Entries). e ∷ x) (above_after key es parts.1)

-- once it has moved past a key, what it has left is what was behind the key
moved_rising : (key : DecoratedKey) (es : Entries) → IsRising es → IsFrom key (head_of es) → moved key es ≡ entries_after (Some key) es
moved_rising key [] rising from = refl
moved_rising key (e ∷ es) rising from = by (decorated_cmp key e.0) refl (both_true (below_all decorated_cmp e.0 es) (is_sorted decorated_cmp es) rising).0
  where
    by : (r : Ordering) → decorated_cmp key e.0 ≡ r → T (below_all decorated_cmp e.0 es) → moved key (e ∷ es) ≡ entries_after (Some key) (e ∷ es)
    by Less is below =
        ap (λ (r : Ordering). cond (is_eq r) es (e ∷ es)) is
        ∙ sym (above_after key (e ∷ es) (both_make (is_lt (decorated_cmp key e.0)) (below_all decorated_cmp key es) (subst (λ (r : Ordering). T (is_lt r)) (sym is) tt) (below_on key e.0 es is below)))
    by Equal is below =
        let same : key ≡ e.0 = decorated_same key e.0 is in
        ap (λ (r : Ordering). cond (is_eq r) es (e ∷ es)) is
        ∙ sym (above_after key es (subst (λ (q : DecoratedKey). T (below_all decorated_cmp q es)) (sym same) below))
        ∙ sym (ap (λ (r : Ordering). cond (is_lt r && true) (e ∷ entries_after (Some key) es) (entries_after (Some key) es)) is)
    by Greater is below = absurd (from is)

-- a key that is behind another, where one is given
abbrev IsBehind : Option DecoratedKey → DecoratedKey → Type 0
IsBehind None key = Unit {0}
IsBehind (Some k) key = decorated_cmp k key ≡ Less

moved_after : (last : Option DecoratedKey) (key : DecoratedKey) (es : Entries) → IsRising es → IsBehind last key → IsFrom key (head_of (entries_after last es)) → moved key (entries_after last es) ≡ entries_after (Some key) es
moved_after None key es rising less from = moved_rising key es rising from
moved_after (Some k) key es rising less from = moved_rising key (entries_after (Some k) es) (after_rising k es rising) from ∙ later_after k key less es

-- ---- the merge

rests_rise : (last : Option DecoratedKey) (ms : List Partitions) → AllByRecursion IsRising (rests_after last ms)
rests_rise last [] = tt
rests_rise None (m ∷ ms) = (map_.entries_sorted m, rests_rise None ms)
rests_rise (Some k) (m ∷ ms) = (after_rising k (map_.entries m) (map_.entries_sorted m), rests_rise (Some k) ms)

rests_moved : (last : Option DecoratedKey) (key : DecoratedKey) (ms : List Partitions) → IsBehind last key → AllByRecursion (IsFrom key) (heads_after last ms) → map (moved key) (rests_after last ms) ≡ rests_after (Some key) ms
rests_moved last key [] less from = refl
rests_moved last key (m ∷ ms) less from =
    let here = moved_after last key (map_.entries m) (map_.entries_sorted m) less from.0 in
    let rest = rests_moved last key ms less from.1 in
    λ i. here i ∷ rest i

behind_last : (last : Option DecoratedKey) (key : DecoratedKey) (ms : List Partitions) → is_some (merged_heads key None (heads_after last ms)) ≡ true → IsBehind last key
behind_last None key ms some = tt
behind_last (Some k) key ms some = key_behind k key None ms (λ no. cc) some

-- **Where no map has an entry left, nor has the merge.**
pub gives_none : (last : Option DecoratedKey) (ms : List Partitions) → least_from None (heads_after last ms) ≡ None → merged_after last ms ≡ []
gives_none last ms is = no_entry (rests_after last ms) (none_left (heads_after last ms) is)

-- **The least key, merged, is the next entry of the merge.**
pub gives_some : (last : Option DecoratedKey) (ms : List Partitions) (key : DecoratedKey) (part : Partition) → least_from None (heads_after last ms) ≡ Some key → part ≡ merged_part key (heads_after last ms)
    → merged_after last ms ≡ (key, part) ∷ merged_after (Some key) ms
gives_some last ms key part least part_is =
    let is = is_least_key (heads_after last ms) key least in
    next_entry key part (rests_after last ms) (rests_rise last ms) is.1 (whole (merged_heads key None (heads_after last ms)) is.0 part_is)
    ∙ ap (λ (rests : List Entries). (key, part) ∷ merged_entries rests) (rests_moved last key ms (behind_last last key ms is.0) is.1)
  where
    whole : (o : Option Partition) → is_some o ≡ true → part ≡ unwrap_or o empty_partition → o ≡ Some part
    whole None some same = cc
    whole (Some p) some same = ap Some (sym same)

-- behind nothing is all of it
pub merged_all : (ms : List Partitions) → merged_after None ms ≡ map_.entries (merged ms)
merged_all ms = ap (λ (xs : List Partitions). map_.entries (merged xs)) (same ms)
  where
    same : (ms : List Partitions) → maps_of (rests_after None ms) ≡ ms
    same [] = refl
    same (m ∷ ms) = let here = same_maps (map_.from_entries (map_.entries m)) m (λ q. map_.get-from_entries decorated_total (map_.entries m) q ∙ sym (map_.get-entries m q)) in let rest = same ms in λ i. here i ∷ rest i

-- ---- one key of the maps, map by map

-- a partition, merged with an entry's where that has the key
pub at_key : (part : Partition) (key other : DecoratedKey) (later : Partition) (b : Bool) → eq_by_cmp decorated_cmp key other ≡ b → merged_with part (head_with key (found_head (Some (other, later)))) ≡ cond b (merge part later) part
at_key part key other later true is = ap (λ (b : Bool). merged_with part (cond b (Some (other.token, other.key, later)) None)) is
at_key part key other later false is = ap (λ (b : Bool). merged_with part (cond b (Some (other.token, other.key, later)) None)) is

heads_push : (last : Option DecoratedKey) (ms : List Partitions) (m : Partitions) → heads_after last (ms ++ m ∷ []) ≡ heads_after last ms ++ head_of (entries_after last (map_.entries m)) ∷ []
heads_push last [] m = refl
heads_push last (x ∷ ms) m = ap (λ (hs : List Head). head_of (entries_after last (map_.entries x)) ∷ hs) (heads_push last ms m)

-- the merge of a key in one map more
pub merged_more : (book : Book) (ns : List ℕ) (i n : ℕ) (last : Option DecoratedKey) (key : DecoratedKey) → slice_get ns i ≡ Some n → (m : MemtableView) → m ≡ map_in book n
    → (found : Option (DecoratedKey × Partition)) → found ≡ slice_get (entries_after last (map_.entries m.partitions)) 0 → (part new : Partition) → part ≡ merged_part key (heads_after last (maps_with book (take i ns)))
    → new ≡ merged_with part (head_with key (found_head found)) → new ≡ merged_part key (heads_after last (maps_with book (take (i + 1) ns)))
merged_more book ns i n last key there m m_is found found_is part new so_far new_is =
    let own = map_.entries (map_in book n).partitions in
    let before = heads_after last (maps_with book (take i ns)) in
    new_is
    ∙ ap (λ (p : Partition). merged_with p (head_with key (found_head found))) so_far
    ∙ ap (λ (o : Option (DecoratedKey × Partition)). merged_with (merged_part key before) (head_with key (found_head o))) (found_is ∙ ap (λ (k : MemtableView). slice_get (entries_after last (map_.entries k.partitions)) 0) m_is)
    ∙ ap (λ (h : Head). merged_with (merged_part key before) (head_with key h)) (first_head (entries_after last own))
    ∙ sym (part_push key before (head_of (entries_after last own)))
    ∙ ap (merged_part key) (sym (heads_push last (maps_with book (take i ns)) (map_in book n).partitions)
    ∙ ap (heads_after last) (sym (map-append (λ k. (map_in book k).partitions) (take i ns) (n ∷ [])) ∙ ap (maps_with book) (sym (take_next ns i n there))))

-- ---- the merge, entry by entry

-- the entry that comes next
pub next_is : (last : Option DecoratedKey) (ms : List Partitions) (found : Option (DecoratedKey × Partition)) (e : DecoratedKey × Partition) → found ≡ Some e → GivesNext last ms found → merged_after last ms ≡ e ∷ merged_after (Some e.0) ms
next_is last ms found e is gives = subst (GivesNext last ms) is gives

-- none does
pub next_none : (last : Option DecoratedKey) (ms : List Partitions) (found : Option (DecoratedKey × Partition)) → found ≡ None → GivesNext last ms found → merged_after last ms ≡ []
next_none last ms found is gives = subst (GivesNext last ms) is gives
