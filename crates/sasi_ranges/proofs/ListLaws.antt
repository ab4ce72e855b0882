-- Laws of the union and the intersection of lists, as sets.
use Rattle.std.proofs.Common.{◌≡◌, ◌⊎◌, ◌&&◌, ◌<◌, ℕ, zero, suc, Bool, true, false, cond, List, [], ◌∷◌, length, refl, sym, ap, subst, ◌∙◌, inl, inr, ⊎_elim, arith, ◌≤◌, nat_le, nat_lt}
use Rattle.std.specs.List.{Contains, filter, slice_index_or}
use Rattle.std.specs.Ordering.{is_eq, is_lt}
use Rattle.sasi_ranges.specs.declared.entry.Entry.{Entry}
use Rattle.sasi_ranges.specs.Entries.{Above, Rises, entry_cmp, from_token, has_token}
use Rattle.sasi_ranges.specs.Lists.{each_has, each_relation_has, intersection_by, intersection_of, union_of, with_entries, with_entry}
use Rattle.sasi_ranges.proofs.Least.{less_is, same_entry}
use Rattle.std.proofs.lemmas.Bool.Decides.{nat_tests}
use Rattle.sasi_ranges.proofs.Meeting.{above_token}
use Rattle.sasi_ranges.proofs.Sets.{Has, SomeHas, above_first, all_above, each, of_all, tie_is}
use Rattle.sasi_ranges.proofs.Rising.{filter_rises}

-- ---- one entry more

put_has : (e x : Entry) (es : List Entry) → (e ≡ x) ⊎ Has x es → Has x (with_entry e es)
put_has e x [] is = is
put_has e x (y ∷ ys) is = by (put_has e x ys) (is_lt (entry_cmp e y)) (is_eq (entry_cmp e y)) refl
  where
    by : ((e ≡ x) ⊎ Has x ys → Has x (with_entry e ys)) → (below same : Bool) → is_eq (entry_cmp e y) ≡ same
        → Has x (cond below (e ∷ y ∷ ys) (cond same (y ∷ ys) (y ∷ with_entry e ys)))
    by later_has true same tie = is
    by later_has false true tie = ⊎_elim (λ this. inl (sym (same_entry e y (tie_is _ tie)) ∙ this)) (λ has. has) is
    by later_has false false tie = ⊎_elim
        (λ this. inr (later_has (inl this)))
        (λ has. ⊎_elim (λ first. inl first) (λ later. inr (later_has (inr later))) has)
        is

has_put : (e x : Entry) (es : List Entry) → Has x (with_entry e es) → (e ≡ x) ⊎ Has x es
has_put e x [] has = has
has_put e x (y ∷ ys) has = by (has_put e x ys) (is_lt (entry_cmp e y)) (is_eq (entry_cmp e y)) has
  where
    by : (Has x (with_entry e ys) → (e ≡ x) ⊎ Has x ys) → (below same : Bool) → Has x (cond below (e ∷ y ∷ ys) (cond same (y ∷ ys) (y ∷ with_entry e ys)))
        → (e ≡ x) ⊎ ((y ≡ x) ⊎ Has x ys)
    by has_later true same has = has
    by has_later false true has = inr has
    by has_later false false has = ⊎_elim
        (λ first. inr (inl first))
        (λ later. ⊎_elim (λ this. inl this) (λ in_rest. inr (inr in_rest)) (has_later later))
        has

put_rises : (e : Entry) (es : List Entry) → Rises es → Rises (with_entry e es)
put_rises e [] rises = (tt, tt)
put_rises e (y ∷ ys) rises = by (put_rises e ys rises.1) (is_lt (entry_cmp e y)) refl (is_eq (entry_cmp e y)) refl
  where
    above : is_lt (entry_cmp e y) ≡ false → is_eq (entry_cmp e y) ≡ false → (z : Entry) → Has z (with_entry e ys) → Above y z
    above below tie z has = ⊎_elim
        (λ this. subst (λ (k : Entry). Above y k) this (above_first y e below tie))
        (λ later. of_all y z ys rises.0 later)
        (has_put e z ys has)

    by : Rises (with_entry e ys) → (below : Bool) → is_lt (entry_cmp e y) ≡ below → (same : Bool) → is_eq (entry_cmp e y) ≡ same
        → Rises (cond below (e ∷ y ∷ ys) (cond same (y ∷ ys) (y ∷ with_entry e ys)))
    by later true below same tie = (let less = less_is _ below in ((less, all_above e y ys less rises.0), rises))
    by later false below true tie = rises
    by later false below false tie = (each (Above y) (with_entry e ys) (above below tie), later)

-- ---- all entries of a list more

all_has : (x : Entry) (l es : List Entry) → Has x l ⊎ Has x es → Has x (with_entries l es)
all_has x [] es is = ⊎_elim (λ none. absurd none) (λ has. has) is
all_has x (y ∷ l) es is = put_has y x (with_entries l es) (⊎_elim
    (λ mine. ⊎_elim (λ this. inl this) (λ later. inr (all_has x l es (inl later))) mine)
    (λ has. inr (all_has x l es (inr has)))
    is)

has_all : (x : Entry) (l es : List Entry) → Has x (with_entries l es) → Has x l ⊎ Has x es
has_all x [] es has = inr has
has_all x (y ∷ l) es has = ⊎_elim
    (λ this. inl (inl this))
    (λ later. ⊎_elim (λ mine. inl (inr mine)) (λ other. inr other) (has_all x l es later))
    (has_put y x (with_entries l es) has)

all_rises : (l es : List Entry) → Rises es → Rises (with_entries l es)
all_rises [] es rises = rises
all_rises (x ∷ l) es rises = put_rises x (with_entries l es) (all_rises l es rises)

-- ---- the union

pub has_union : (x : Entry) (ls : List (List Entry)) → SomeHas x ls → Has x (union_of ls)
has_union x [] has = has
has_union x (l ∷ ls) has = all_has x l (union_of ls) (⊎_elim (λ mine. inl mine) (λ later. inr (has_union x ls later)) has)

pub union_from : (x : Entry) (ls : List (List Entry)) → Has x (union_of ls) → SomeHas x ls
union_from x [] has = has
union_from x (l ∷ ls) has = ⊎_elim (λ mine. inl mine) (λ later. inr (union_from x ls later)) (has_all x l (union_of ls) has)

-- **The union rises.**
pub union_rises : (lists : List (List Entry)) → Rises (union_of lists)
union_rises [] = tt
union_rises (l ∷ ls) = all_rises l (union_of ls) (union_rises ls)

-- ---- from a token on

keeps_all : (token : ℕ) (es : List Entry) → ((x : Entry) → Has x es → token ≤ x.token) → filter (λ (e : Entry). nat_le token e.token) es ≡ es
keeps_all token [] all = refl
keeps_all token (x ∷ xs) all =
    let most = all x (inl refl) in
    let is : nat_le token x.token ≡ true = grind (arith, nat_tests) in
    let rest = filter (λ (e : Entry). nat_le token e.token) xs in
    ap (λ b. cond b (x ∷ rest) rest) is ∙ ap (λ l. x ∷ l) (keeps_all token xs (λ y has. all y (inr has)))

-- **Of a list that rises exactly the entries below the token are dropped.**
pub from_token_is : (token : ℕ) (es : List Entry) → Rises es → from_token token es ≡ filter (λ (e : Entry). nat_le token e.token) es
from_token_is token [] rises = refl
from_token_is token (x ∷ xs) rises = by (nat_lt x.token token) refl (from_token_is token xs rises.1)
  where
    rest : List Entry
    rest = filter (λ (e : Entry). nat_le token e.token) xs

    by : (b : Bool) → nat_lt x.token token ≡ b → from_token token xs ≡ rest
        → cond b (from_token token xs) (x ∷ xs) ≡ cond (nat_le token x.token) (x ∷ rest) rest
    by true below later = (let is : nat_le token x.token ≡ false = grind (arith, nat_tests) in later ∙ sym (ap (λ b. cond b (x ∷ rest) rest) is))
    by false above later = (
        let is : nat_le token x.token ≡ true = grind (arith, nat_tests) in
        let least : token ≤ x.token = grind (arith, nat_tests) in
        sym (ap (λ b. cond b (x ∷ rest) rest) is ∙ ap (λ l. x ∷ l) (keeps_all token xs (λ y has. (let over = above_token x y (of_all x y xs rises.0 has) in omega (arith, least, over)))))
        )

-- ---- lists as sets

has_contains : (x : Entry) (l : List Entry) → Has x l → Contains l x
has_contains x [] has = absurd has
has_contains x (y ∷ l) has = ⊎_elim
    (λ this. (0, omega arith, this))
    (λ later. (let at = has_contains x l later in (suc at.0, omega (arith, at.1), at.2)))
    has

contains_has : (x : Entry) (l : List Entry) → Contains l x → Has x l
contains_has x l at = go l at.0 at.1 at.2
  where
    go : (l : List Entry) (k : ℕ) → k < length l → slice_index_or l k x ≡ x → Has x l
    go [] k at is = absurd (omega arith)
    go (y ∷ l) zero at is = inl is
    go (y ∷ l) (suc k) at is = inr (go l k (omega arith) is)

some_contain : (x : Entry) (ls : List (List Entry)) → SomeHas x ls → (l : List Entry) × Contains ls l × Contains l x
some_contain x [] has = absurd has
some_contain x (l ∷ ls) has = ⊎_elim
    (λ mine. (l, (0, omega arith, refl), has_contains x l mine))
    (λ later. (let at = some_contain x ls later in (at.0, (suc at.1.0, omega (arith, at.1.1), at.1.2), at.2)))
    has

contain_some : (x : Entry) (ls : List (List Entry)) (l : List Entry) → Contains ls l → Contains l x → SomeHas x ls
contain_some x ls l at has = go ls at.0 at.1 at.2
  where
    go : (ls : List (List Entry)) (k : ℕ) → k < length ls → slice_index_or ls k l ≡ l → SomeHas x ls
    go [] k at is = absurd (omega arith)
    go (y ∷ ls) zero at is = inl (subst (λ (m : List Entry). Has x m) (sym is) (contains_has x l has))
    go (y ∷ ls) (suc k) at is = inr (go ls k (omega arith) is)

-- **The union has each entry of each list.**
pub union_has : (lists : List (List Entry)) (l : List Entry) (e : Entry) → Contains lists l → Contains l e → Contains (union_of lists) e
union_has lists l e listed has = has_contains e (union_of lists) (has_union e lists (contain_some e lists l listed has))

-- **Some list has each entry of the union.**
pub lists_have : (lists : List (List Entry)) (e : Entry) → Contains (union_of lists) e → (l : List Entry) × Contains lists l × Contains l e
lists_have lists e has = some_contain e lists (union_from e lists (contains_has e (union_of lists) has))

-- ---- the intersection

kept_has : (test : Entry → Bool) (x : Entry) (es : List Entry) → Has x es → test x ≡ true → Has x (filter test es)
kept_has test x [] has is = has
kept_has test x (y ∷ es) has is = by (λ later. kept_has test x es later is) (test y) refl
  where
    by : (Has x es → Has x (filter test es)) → (b : Bool) → test y ≡ b → Has x (cond b (y ∷ filter test es) (filter test es))
    by kept true tested = ⊎_elim (λ this. inl this) (λ later. inr (kept later)) has
    by kept false tested = ⊎_elim (λ this. (let no : true ≡ false = sym is ∙ ap test (sym this) ∙ tested in cc)) (λ later. kept later) has

has_kept : (test : Entry → Bool) (x : Entry) (es : List Entry) → Has x (filter test es) → Has x es × (test x ≡ true)
has_kept test x [] has = absurd has
has_kept test x (y ∷ es) has = by (has_kept test x es) (test y) refl has
  where
    by : (Has x (filter test es) → Has x es × (test x ≡ true)) → (b : Bool) → test y ≡ b → Has x (cond b (y ∷ filter test es) (filter test es))
        → ((y ≡ x) ⊎ Has x es) × (test x ≡ true)
    by kept true tested has = ⊎_elim (λ this. (inl this, ap test (sym this) ∙ tested)) (λ later. (let in_rest = kept later in (inr in_rest.0, in_rest.1))) has
    by kept false tested has = (let in_rest = kept has in (inr in_rest.0, in_rest.1))

both : (a b : Bool) → (a && b) ≡ true → (a ≡ true) × (b ≡ true)
both true b e = (refl, e)
both false b e = cc

each_by : (ls : List (List Entry)) (token : ℕ) → ((l : List Entry) → Contains ls l → has_token token l ≡ true) → each_has ls token ≡ true
each_by [] token all = refl
each_by (l ∷ ls) token all =
    ap (λ b. b && each_has ls token) (all l (0, omega arith, refl))
    ∙ each_by ls token (λ m at. all m (suc at.0, omega (arith, at.1), at.2))

each_at : (ls : List (List Entry)) (token : ℕ) (l : List Entry) → each_has ls token ≡ true → Contains ls l → has_token token l ≡ true
each_at ls token l all at = go ls all at.0 at.1 at.2
  where
    go : (ls : List (List Entry)) → each_has ls token ≡ true → (k : ℕ) → k < length ls → slice_index_or ls k l ≡ l → has_token token l ≡ true
    go [] all k at is = absurd (omega arith)
    go (y ∷ ls) all zero at is = ap (has_token token) (sym is) ∙ (both (has_token token y) (each_has ls token) all).0
    go (y ∷ ls) all (suc k) at is = go ls (both (has_token token y) (each_has ls token) all).1 k (omega arith) is

-- **The intersection has each entry of each list whose token every list has.**
pub intersection_has : (lists : List (List Entry)) (l : List Entry) (e : Entry) → Contains lists l → Contains l e
    → ((other : List Entry) → Contains lists other → has_token e.token other ≡ true) → Contains (intersection_of lists) e
intersection_has lists l e listed has all =
    has_contains e (intersection_of lists)
    (kept_has (λ (x : Entry). each_has lists x.token) e (union_of lists) (has_union e lists (contain_some e lists l listed has)) (each_by lists e.token all))

-- **Some list has each entry of the intersection,**
pub intersection_from : (lists : List (List Entry)) (e : Entry) → Contains (intersection_of lists) e → (l : List Entry) × Contains lists l × Contains l e
intersection_from lists e has =
    some_contain e lists (union_from e lists (has_kept (λ (x : Entry). each_has lists x.token) e (union_of lists) (contains_has e (intersection_of lists) has)).0)

-- **and every list its token.**
pub intersection_tokens : (lists : List (List Entry)) (e : Entry) (l : List Entry) → Contains (intersection_of lists) e → Contains lists l
    → has_token e.token l ≡ true
intersection_tokens lists e l has listed =
    each_at lists e.token l (has_kept (λ (x : Entry). each_has lists x.token) e (union_of lists) (contains_has e (intersection_of lists) has)).1 listed

-- **The intersection rises.**
pub intersection_rises : (lists : List (List Entry)) → Rises (intersection_of lists)
intersection_rises lists = filter_rises (λ (x : Entry). each_has lists x.token) (union_of lists) (union_rises lists)

-- ---- the intersection of relations

-- **The intersection of relations has each entry of each list whose token every relation has.**
pub intersection_by_has : (relations : List (List ℕ)) (lists : List (List Entry)) (l : List Entry) (e : Entry) → Contains lists l → Contains l e
    → each_relation_has relations lists e.token ≡ true → Contains (intersection_by relations lists) e
intersection_by_has relations lists l e listed has all =
    has_contains e (intersection_by relations lists)
    (kept_has (λ (x : Entry). each_relation_has relations lists x.token) e (union_of lists) (has_union e lists (contain_some e lists l listed has)) all)

-- **Some list has each entry of it,**
pub intersection_by_from : (relations : List (List ℕ)) (lists : List (List Entry)) (e : Entry) → Contains (intersection_by relations lists) e
    → (l : List Entry) × Contains lists l × Contains l e
intersection_by_from relations lists e has =
    some_contain e lists (union_from e lists (has_kept (λ (x : Entry). each_relation_has relations lists x.token) e (union_of lists) (contains_has e (intersection_by relations lists) has)).0)

-- **and every relation its token.**
pub intersection_by_tokens : (relations : List (List ℕ)) (lists : List (List Entry)) (e : Entry) → Contains (intersection_by relations lists) e
    → each_relation_has relations lists e.token ≡ true
intersection_by_tokens relations lists e has =
    (has_kept (λ (x : Entry). each_relation_has relations lists x.token) e (union_of lists) (contains_has e (intersection_by relations lists) has)).1

-- **It rises.**
pub intersection_by_rises : (relations : List (List ℕ)) (lists : List (List Entry)) → Rises (intersection_by relations lists)
intersection_by_rises relations lists = filter_rises (λ (x : Entry). each_relation_has relations lists x.token) (union_of lists) (union_rises lists)
