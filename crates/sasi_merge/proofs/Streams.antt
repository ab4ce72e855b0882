-- **A merge of sorted streams gives the entries of their merged maps, in order.**
use Rattle.std.proofs.Common.{◌≡◌, ◌≢◌, Bool, true, false, cond, ◌&&◌, T, List, [], ◌∷◌, length, map, Option, None, Some, refl, sym, ap, subst, ◌∙◌, arith}
use Rattle.std.specs.List.{AllByRecursion}
use Rattle.std.specs.declared.cmp.Ordering.{Ordering}
use Rattle.std.specs.declared.cmp.Ordering.TheVariants.{Less, Equal, Greater}
use Rattle.std.specs.Ordering.{eq_by_cmp, is_eq, is_lt}
use Rattle.std.specs.FinMap as map_
use Rattle.std.specs.FinMap.{find, get, is_sorted}
use Rattle.std.specs.FinMap.Entries.{below_all}
use Rattle.std.proofs.lemmas.Cmp.{tied_itself}
use Rattle.sasi_types.specs.declared.decorated_key.DecoratedKey.{DecoratedKey}
use Rattle.sasi_types.specs.DecoratedKey.{decorated_cmp, decorated_total}
use Rattle.sasi_model.specs.Cells.{Partition}
use Rattle.sasi_model.specs.Abbreviations.{Partitions}
use Rattle.sasi_cells.specs.Maps.{joined, merge_maps, merged, merged_onto}
use Rattle.sasi_cells.proofs.Laws.Decorated.{entries_have, equal_keys, same_maps}
use Rattle.sasi_cells.proofs.Laws.Maps.{get_merge_maps}
use Rattle.sasi_merge.specs.Merging.{IsFrom, merged_heads, part_at}
use Rattle.sasi_merge.specs.Streams.{Entries, IsRising, head_of, maps_of, merged_entries, moved}

-- ---- look-ups

-- what the sources have of a key, merged onto what there is
abbrev found : DecoratedKey → Option Partition → List Entries → Option Partition
found q base [] = base
found q base (es ∷ rests) = found q (joined base (find decorated_cmp q es)) rests

get_onto : (base : Partitions) (q : DecoratedKey) (rests : List Entries) → get (merged_onto base (maps_of rests)) q ≡ found q (get base q) rests
get_onto base q [] = refl
get_onto base q (es ∷ rests) =
    let m : Partitions = map_.from_entries {R = decorated_cmp} es in
    get_onto (merge_maps base m) q rests
    ∙ ap (λ o. found q o rests) (get_merge_maps base m q ∙ ap (joined (get base q)) (map_.get-from_entries decorated_total es q))

get_merged : (q : DecoratedKey) (rests : List Entries) → get (merged (maps_of rests)) q ≡ found q None rests
get_merged q rests = get_onto map_.empty q rests ∙ ap (λ o. found q o rests) (map_.get-empty decorated_cmp q)

-- ---- a source whose head isn't below the key

both_true : (a b : Bool) → T (a && b) → T a × T b
both_true true b h = (tt, h)
both_true false b h = absurd h

pair_true : (a b : Bool) → T a → T b → T (a && b)
pair_true true b p q = q
pair_true false b p q = p

is_less : (r : Ordering) → T (is_lt r) → r ≡ Less
is_less Less h = refl
is_less Equal h = absurd h
is_less Greater h = absurd h

-- a key below another is below all that the other is below
below_more : (k q : DecoratedKey) (es : Entries) → decorated_cmp k q ≡ Less → T (below_all decorated_cmp q es) → T (below_all decorated_cmp k es)
below_more k q [] low below = tt
below_more k q (e ∷ es) low below =
    let parts = both_true _ _ below in
    pair_true _ _ (subst (λ r. T (is_lt r)) (sym (decorated_total.trans k q e.0 low (is_less _ parts.0))) tt) (below_more k q es low parts.1)

-- what is not above a key is none of those that are
none_above : (k q : DecoratedKey) (es : Entries) → decorated_cmp k q ≢ Less → T (below_all decorated_cmp k es) → find decorated_cmp q es ≡ None
none_above k q [] low below = refl
none_above k q (e ∷ es) low below =
    let parts = both_true _ _ below in
    by (eq_by_cmp decorated_cmp q e.0) refl (is_less _ parts.0) (none_above k q es low parts.1)
  where
    by : (b : Bool) → eq_by_cmp decorated_cmp q e.0 ≡ b → decorated_cmp k e.0 ≡ Less → find decorated_cmp q es ≡ None → cond (eq_by_cmp decorated_cmp q e.0) (Some e.1) (find decorated_cmp q es) ≡ None
    by true same less rest = absurd (low (ap (decorated_cmp k) (equal_keys q e.0 same) ∙ less))
    by false other less rest = ap (λ b. cond b (Some e.1) (find decorated_cmp q es)) other ∙ rest

-- behind the key all are above it
moved_above : (key : DecoratedKey) (es : Entries) → IsRising es → IsFrom key (head_of es) → T (below_all decorated_cmp key (moved key es))
moved_above key [] rising from = tt
moved_above key (e ∷ es) rising from = by (decorated_cmp key e.0) refl
  where
    parts : T (below_all decorated_cmp e.0 es) × T (is_sorted decorated_cmp es)
    parts = both_true _ _ rising

    by : (r : Ordering) → decorated_cmp key e.0 ≡ r → T (below_all decorated_cmp key (cond (eq_by_cmp decorated_cmp key e.0) es (e ∷ es)))
    by Greater is = absurd (from is)
    by Equal is =
        let same : key ≡ e.0 = equal_keys key e.0 (ap is_eq is) in
        subst (λ b. T (below_all decorated_cmp key (cond b es (e ∷ es)))) (sym (ap is_eq is))
        (subst (λ (k : DecoratedKey). T (below_all decorated_cmp k es)) (sym same) parts.0)
    by Less is =
        subst (λ b. T (below_all decorated_cmp key (cond b es (e ∷ es)))) (sym (ap is_eq is))
        (pair_true _ _ (subst (λ r. T (is_lt r)) (sym is) tt) (below_more key e.0 es is parts.0))

-- it has of the key what its head has
find_head : (key : DecoratedKey) (es : Entries) → IsRising es → IsFrom key (head_of es) → find decorated_cmp key es ≡ part_at key (head_of es)
find_head key [] rising from = refl
find_head key (e ∷ es) rising from = by (decorated_cmp key e.0) refl
  where
    parts : T (below_all decorated_cmp e.0 es) × T (is_sorted decorated_cmp es)
    parts = both_true _ _ rising

    by : (r : Ordering) → decorated_cmp key e.0 ≡ r → cond (eq_by_cmp decorated_cmp key e.0) (Some e.1) (find decorated_cmp key es) ≡ cond (eq_by_cmp decorated_cmp key e.0) (Some e.1) None
    by Greater is = absurd (from is)
    by Equal is = ap (λ b. cond b (Some e.1) (find decorated_cmp key es)) (ap is_eq is) ∙ sym (ap (λ b. cond b (Some e.1) None) (ap is_eq is))
    by Less is =
        ap (λ b. cond b (Some e.1) (find decorated_cmp key es)) (ap is_eq is)
        ∙ none_above e.0 key es not_less parts.0
        ∙ sym (ap (λ b. cond b (Some e.1) None) (ap is_eq is))
      where
        not_less : decorated_cmp e.0 key ≢ Less
        not_less back = let no : Less ≡ Equal = sym (decorated_total.trans key e.0 key is back) ∙ tied_itself decorated_total key in cc

-- and of another key what it has once it has moved
find_other : (key q : DecoratedKey) (es : Entries) → eq_by_cmp decorated_cmp q key ≡ false → find decorated_cmp q es ≡ find decorated_cmp q (moved key es)
find_other key q [] other = refl
find_other key q (e ∷ es) other = by (eq_by_cmp decorated_cmp key e.0) refl
  where
    by : (b : Bool) → eq_by_cmp decorated_cmp key e.0 ≡ b → find decorated_cmp q (e ∷ es) ≡ find decorated_cmp q (cond (eq_by_cmp decorated_cmp key e.0) es (e ∷ es))
    by true same =
        ap (λ b. cond b (Some e.1) (find decorated_cmp q es)) (ap (eq_by_cmp decorated_cmp q) (sym (equal_keys key e.0 same)) ∙ other)
        ∙ sym (ap (λ b. find decorated_cmp q (cond b es (e ∷ es))) same)
    by false apart = sym (ap (λ b. find decorated_cmp q (cond b es (e ∷ es))) apart)

-- ---- all sources

-- a source whose head has no key below this one rises
pub record IsSource (key : DecoratedKey) (es : Entries) : Type 0 where
  pub rising : IsRising es
  pub from : IsFrom key (head_of es)

found_key : (key : DecoratedKey) (base : Option Partition) (rests : List Entries) → AllByRecursion (IsSource key) rests → found key base rests ≡ merged_heads key base (map head_of rests)
found_key key base [] all = refl
found_key key base (es ∷ rests) all =
    ap (λ o. found key (joined base o) rests) (find_head key es all.0.rising all.0.from)
    ∙ found_key key (joined base (part_at key (head_of es))) rests all.1

found_other : (key q : DecoratedKey) (base : Option Partition) (rests : List Entries) → eq_by_cmp decorated_cmp q key ≡ false → found q base rests ≡ found q base (map (moved key) rests)
found_other key q base [] other = refl
found_other key q base (es ∷ rests) other =
    ap (λ o. found q (joined base o) rests) (find_other key q es other)
    ∙ found_other key q (joined base (find decorated_cmp q (moved key es))) rests other

found_above : (key q : DecoratedKey) (rests : List Entries) → AllByRecursion (IsSource key) rests → decorated_cmp key q ≢ Less → found q None (map (moved key) rests) ≡ None
found_above key q [] all low = refl
found_above key q (es ∷ rests) all low =
    ap (λ o. found q (joined None o) (map (moved key) rests)) (none_above key q (moved key es) low (moved_above key es all.0.rising all.0.from))
    ∙ found_above key q rests all.1 low

-- ---- the merge

-- an entry below all others is put before them
put_first : (key : DecoratedKey) (part : Partition) (es : Entries) → AllByRecursion (λ e. decorated_cmp key e.0 ≡ Less) es → map_.put decorated_cmp key part es ≡ (key, part) ∷ es
put_first key part [] below = refl
put_first key part (e ∷ es) below = rw below.0 refl

left_above : (key : DecoratedKey) (rests : List Entries) → AllByRecursion (IsSource key) rests → AllByRecursion (λ e. decorated_cmp key e.0 ≡ Less) (merged_entries (map (moved key) rests))
left_above key rests all = entries_have (λ e. decorated_cmp key e.0 ≡ Less) (merged (maps_of (map (moved key) rests))) (λ q part is. by q part (decorated_cmp key q) refl (sym (get_merged q (map (moved key) rests)) ∙ is))
  where
    by : (q : DecoratedKey) (part : Partition) (r : Ordering) → decorated_cmp key q ≡ r → found q None (map (moved key) rests) ≡ Some part → decorated_cmp key q ≡ Less
    by q part Less r is = r
    by q part Equal r is = absurd (let no : None ≡ Some part = sym (found_above key q rests all (λ less. (let bad : Less ≡ Equal = sym less ∙ r in cc))) ∙ is in cc)
    by q part Greater r is = absurd (let no : None ≡ Some part = sym (found_above key q rests all (λ less. (let bad : Less ≡ Greater = sym less ∙ r in cc))) ∙ is in cc)

merge_is : (key : DecoratedKey) (part : Partition) (rests : List Entries) → AllByRecursion (IsSource key) rests → merged_heads key None (map head_of rests) ≡ Some part → merged (maps_of rests) ≡ map_.insert (merged (maps_of (map (moved key) rests))) key part
merge_is key part rests all is = same_maps _ _ (λ q.
    get_merged q rests ∙ by q (eq_by_cmp decorated_cmp q key) refl
    ∙ sym (map_.get-insert decorated_total (merged (maps_of (map (moved key) rests))) key part q))
  where
    by : (q : DecoratedKey) (b : Bool) → eq_by_cmp decorated_cmp q key ≡ b → found q None rests ≡ cond (eq_by_cmp decorated_cmp q key) (Some part) (get (merged (maps_of (map (moved key) rests))) q)
    by q true same =
        ap (λ (k : DecoratedKey). found k None rests) (equal_keys q key same) ∙ found_key key None rests all ∙ is
        ∙ sym (ap (λ b. cond b (Some part) (get (merged (maps_of (map (moved key) rests))) q)) same)
    by q false other =
        found_other key q None rests other ∙ sym (get_merged q (map (moved key) rests))
        ∙ sym (ap (λ b. cond b (Some part) (get (merged (maps_of (map (moved key) rests))) q)) other)

-- **The least key with the merge of its partitions is the next entry**, and what the sources have left once they have moved are those behind it.
pub next_entry : (key : DecoratedKey) (part : Partition) (rests : List Entries) → AllByRecursion IsRising rests → AllByRecursion (IsFrom key) (map head_of rests) → merged_heads key None (map head_of rests) ≡ Some part
    → merged_entries rests ≡ (key, part) ∷ merged_entries (map (moved key) rests)
next_entry key part rests rising from is =
    let all = sources rests rising from in
    ap map_.entries (merge_is key part rests all is)
    ∙ map_.entries-insert decorated_total (merged (maps_of (map (moved key) rests))) key part
    ∙ put_first key part (merged_entries (map (moved key) rests)) (left_above key rests all)
  where
    sources : (xs : List Entries) → AllByRecursion IsRising xs → AllByRecursion (IsFrom key) (map head_of xs) → AllByRecursion (IsSource key) xs
    sources [] rising from = tt
    sources (x ∷ xs) rising from = (record { rising = rising.0; from = from.0 }, sources xs rising.1 from.1)

-- **Where each source is at its end, nothing is left.**
pub no_entry : (rests : List Entries) → AllByRecursion (λ h. h ≡ None) (map head_of rests) → merged_entries rests ≡ []
no_entry rests ended = ap map_.entries (same_maps _ _ (λ q. get_merged q rests ∙ by q rests ended ∙ sym (map_.get-empty decorated_cmp q))) ∙ none_there
  where
    none_of : (es : Entries) → head_of es ≡ None → es ≡ []
    none_of [] is = refl
    none_of (e ∷ es) is = cc

    by : (q : DecoratedKey) (xs : List Entries) → AllByRecursion (λ h. h ≡ None) (map head_of xs) → found q None xs ≡ None
    by q [] all = refl
    by q (x ∷ xs) all = ap (λ (es : Entries). found q (joined None (find decorated_cmp q es)) xs) (none_of x all.0) ∙ by q xs all.1

    empty_list : (es : Entries) → length es ≡ 0 → es ≡ []
    empty_list [] none = refl
    empty_list (e ∷ es) none = absurd (omega arith)

    none_there : map_.entries (map_.empty {X = Partition} {R = decorated_cmp}) ≡ []
    none_there = empty_list _ (sym (map_.len-entries (map_.empty {R = decorated_cmp})) ∙ map_.len-empty decorated_cmp Partition)

-- what has moved still rises
pub still_rising : (key : DecoratedKey) (es : Entries) → IsRising es → IsRising (moved key es)
still_rising key [] rising = tt
still_rising key (e ∷ es) rising = by (eq_by_cmp decorated_cmp key e.0)
  where
    by : (b : Bool) → IsRising (cond b es (e ∷ es))
    by true = (both_true _ _ rising).1
    by false = rising

pub all_rising : (key : DecoratedKey) (rests : List Entries) → AllByRecursion IsRising rests → AllByRecursion IsRising (map (moved key) rests)
all_rising key [] rising = tt
all_rising key (es ∷ rests) rising = (still_rising key es rising.0, all_rising key rests rising.1)
