-- Maps under decorated keys.
use Rattle.std.specs.Prelude.{◌≡◌, ◌&&◌, Bool, true, false, cond, T, List, [], ◌∷◌, None, Some, refl}
use Rattle.std.proofs.Common.{sym, ap, ◌∙◌}
use Rattle.std.proofs.lemmas.Cmp.{tied_itself}
use Rattle.std.specs.declared.cmp.Ordering.{Ordering}
use Rattle.std.specs.declared.cmp.Ordering.TheVariants.{Less, Equal, Greater}
use Rattle.std.specs.Ordering.{nat_cmp, eq_by_cmp, is_eq, is_lt, ordering_then}
use Rattle.std.specs.FinMap as map_
use Rattle.std.specs.FinMap.{find, is_sorted}
use Rattle.std.specs.FinMap.Entries.{below_all}
use Rattle.std.specs.List.{AllByRecursion}
use Rattle.sasi_types.specs.declared.decorated_key.DecoratedKey.{DecoratedKey}
use Rattle.sasi_types.specs.DecoratedKey.{decorated_cmp, decorated_total}
use Rattle.sasi_types.specs.Key.{key_cmp}
use Rattle.sasi_model.specs.Cells.{Partition}
use Rattle.sasi_model.specs.Abbreviations.{Partitions}

-- ---- keys

both_equal : (r s : Ordering) → ordering_then r s ≡ Equal → (r ≡ Equal) × (s ≡ Equal)
both_equal Less s e = cc
both_equal Equal s e = (refl, e)
both_equal Greater s e = cc

-- only equal ones tie
pub decorated_same : map_.IsAntisymmetric decorated_cmp
decorated_same a b tie =
    let parts = both_equal (nat_cmp a.token b.token) (key_cmp a.key b.key) tie in
    let token : a.token ≡ b.token = map_.nat_cmp-IsAntisymmetric a.token b.token parts.0 in
    let key : a.key ≡ b.key = map_.slice_cmp-IsAntisymmetric map_.nat_cmp-IsAntisymmetric a.key b.key parts.1 in
    λ i. record { token = token i; key = key i }

tied : (r : Ordering) → is_eq r ≡ true → r ≡ Equal
tied Less e = cc
tied Equal e = refl
tied Greater e = cc

pub equal_keys : (a b : DecoratedKey) → eq_by_cmp decorated_cmp a b ≡ true → a ≡ b
equal_keys a b e = decorated_same a b (tied (decorated_cmp a b) e)

-- two maps that answer alike are equal
pub same_maps : (a b : Partitions) → ((q : DecoratedKey) → map_.get a q ≡ map_.get b q) → a ≡ b
same_maps a b alike = map_.same_map decorated_total decorated_same a b alike

-- ---- entries

less_not_equal : (r : Ordering) → T (is_lt r) → is_eq r ≡ false
less_not_equal Less h = refl
less_not_equal Equal h = absurd h
less_not_equal Greater h = absurd h

both_true : (a b : Bool) → T (a && b) → T a × T b
both_true true b h = (tt, h)
both_true false b h = absurd h

-- a key below all is none of them
pub none_below : (k : DecoratedKey) (es : List (DecoratedKey × Partition)) → T (below_all decorated_cmp k es) → find decorated_cmp k es ≡ None
none_below k [] below = refl
none_below k (e ∷ es) below =
    let parts = both_true _ _ below in
    ap (λ b. cond b (Some e.1) (find decorated_cmp k es)) (less_not_equal _ parts.0) ∙ none_below k es parts.1

sorted_have : (P : DecoratedKey × Partition → Type 0) (es : List (DecoratedKey × Partition)) → T (is_sorted decorated_cmp es)
    → ((q : DecoratedKey) (part : Partition) → find decorated_cmp q es ≡ Some part → P (q, part)) → AllByRecursion P es
sorted_have P [] sorted each = tt
sorted_have P (e ∷ es) sorted each =
    let parts = both_true _ _ sorted in (
      each e.0 e.1 (ap (λ r. cond (is_eq r) (Some e.1) (find decorated_cmp e.0 es)) (tied_itself decorated_total e.0)),
      sorted_have P es parts.1 (λ q part found. each q part (by q part (eq_by_cmp decorated_cmp q e.0) refl parts.0 found)),
    )
  where
    by : (q : DecoratedKey) (part : Partition) (b : Bool) → eq_by_cmp decorated_cmp q e.0 ≡ b → T (below_all decorated_cmp e.0 es)
        → find decorated_cmp q es ≡ Some part → cond (eq_by_cmp decorated_cmp q e.0) (Some e.1) (find decorated_cmp q es) ≡ Some part
    by q part true same below found =
        let key : q ≡ e.0 = equal_keys q e.0 same in
        let no : None ≡ Some part = sym (none_below e.0 es below) ∙ ap (λ (k : DecoratedKey). find decorated_cmp k es) (sym key) ∙ found in
        cc
    by q part false other below found = ap (λ b. cond b (Some e.1) (find decorated_cmp q es)) other ∙ found

-- what look-ups tell of a map holds of its entries
pub entries_have : (P : DecoratedKey × Partition → Type 0) (m : Partitions) → ((q : DecoratedKey) (part : Partition) → map_.get m q ≡ Some part → P (q, part)) → AllByRecursion P (map_.entries m)
entries_have P m each = sorted_have P (map_.entries m) (map_.entries_sorted m) (λ q part found. each q part (map_.get-entries m q ∙ found))
