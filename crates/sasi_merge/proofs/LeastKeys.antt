-- The least key of heads: no head has a lower one, and some head has it.
use Rattle.std.proofs.Common.{◌≡◌, ◌≢◌, ◌⊎◌, ℕ, Bool, true, false, cond, List, [], ◌∷◌, ◌++◌, Option, None, Some, IfSome, is_some, unwrap_or, refl, sym, ap, subst, ◌∙◌, inl, inr, ⊎_elim}
use Rattle.std.specs.List.{AllByRecursion}
use Rattle.std.specs.declared.cmp.Ordering.{Ordering}
use Rattle.std.specs.declared.cmp.Ordering.TheVariants.{Less, Equal, Greater}
use Rattle.std.specs.Ordering.{eq_by_cmp, is_eq, is_gt, ordering_reverse}
use Rattle.std.specs.Option.{option_map}
use Rattle.std.proofs.lemmas.Cmp.{tied_itself}
use Rattle.sasi_types.specs.declared.decorated_key.DecoratedKey.{DecoratedKey}
use Rattle.sasi_types.specs.DecoratedKey.{decorated_cmp, decorated_total}
use Rattle.sasi_model.specs.Cells.{IsNormal, Partition, empty_partition, merge}
use Rattle.sasi_cells.specs.Maps.{joined}
use Rattle.sasi_cells.proofs.Laws.Decorated.{decorated_same, equal_keys}
use Rattle.sasi_cells.proofs.Laws.Maps.{nothing_behind, nothing_first}
use Rattle.sasi_merge.specs.Merging.{GivesLeast, Head, IsFrom, IsLeastKey, head_with, merged_heads, merged_part, merged_with, part_at, with_token}
use Rattle.sasi_merge.specs.Least.{least_from, lesser}

-- ---- the order

-- the first is at most the second
abbrev IsUpTo : DecoratedKey → DecoratedKey → Type 0
IsUpTo a b = decorated_cmp a b ≢ Greater

up_to_itself : (a : DecoratedKey) → IsUpTo a a
up_to_itself a above = let no : Equal ≡ Greater = sym (tied_itself decorated_total a) ∙ above in cc

-- a is at most b, and b at most c
pub up_to_on : (a b c : DecoratedKey) → IsUpTo a b → IsUpTo b c → IsUpTo a c
up_to_on a b c first second = by (decorated_cmp a b) (decorated_cmp b c) refl refl
  where
    by : (r s : Ordering) → decorated_cmp a b ≡ r → decorated_cmp b c ≡ s → IsUpTo a c
    by Greater s e f = absurd (first e)
    by Less Greater e f = absurd (second f)
    by Equal Greater e f = absurd (second f)
    by Less Less e f = λ above. let no : Less ≡ Greater = sym (decorated_total.trans a b c e f) ∙ above in cc
    by Equal s e f = subst (λ (k : DecoratedKey). IsUpTo k c) (sym (decorated_same a b e)) second
    by Less Equal e f = subst (λ (k : DecoratedKey). IsUpTo a k) (decorated_same b c f) first

-- what isn't above is below or the same, the other way round
reversed : (a b : DecoratedKey) → is_gt (decorated_cmp a b) ≡ true → IsUpTo b a
reversed a b above = by (decorated_cmp a b) refl above
  where
    by : (r : Ordering) → decorated_cmp a b ≡ r → is_gt r ≡ true → IsUpTo b a
    by Less e h = cc
    by Equal e h = cc
    by Greater e h = λ back. let no : Less ≡ Greater = ap ordering_reverse (sym e) ∙ sym (decorated_total.antisymm b a) ∙ back in cc

not_above : (a b : DecoratedKey) → is_gt (decorated_cmp a b) ≡ false → IsUpTo a b
not_above a b low above = let no : true ≡ false = ap is_gt (sym above) ∙ low in cc

-- ---- the lesser of a key and a head's

-- a key is at most each of two
record IsUpToBoth (key : DecoratedKey) (least : Option DecoratedKey) (h : Head) : Type 0 where
  pub first : (k : DecoratedKey) → least ≡ Some k → IsUpTo key k
  pub head : IsFrom key h

lesser_up_to : (key : DecoratedKey) (least : Option DecoratedKey) (h : Head) → ((k : DecoratedKey) → lesser least h ≡ Some k → IsUpTo key k) → IsUpToBoth key least h
lesser_up_to key least None up = record { first = up; head = tt }
lesser_up_to key None (Some h) up = record { first = λ k is. cc; head = up (with_token h.0 h.1) refl }
lesser_up_to key (Some k) (Some h) up = by (is_gt (decorated_cmp k (with_token h.0 h.1))) refl
  where
    one : DecoratedKey
    one = with_token h.0 h.1

    by : (b : Bool) → is_gt (decorated_cmp k (with_token h.0 h.1)) ≡ b → IsUpToBoth key (Some k) (Some h)
    by true e =
        let low : IsUpTo key (with_token h.0 h.1) = up (with_token h.0 h.1) (ap (λ t. cond t (Some (with_token h.0 h.1)) (Some k)) e) in
        record {
          first = λ j is. let same : k ≡ j = cc in subst (λ (x : DecoratedKey). IsUpTo key x) same (up_to_on key (with_token h.0 h.1) k low (reversed k (with_token h.0 h.1) e));
          head = low;
        }
    by false e =
        let low : IsUpTo key k = up k (ap (λ t. cond t (Some (with_token h.0 h.1)) (Some k)) e) in
        record {
          first = λ j is. let same : k ≡ j = cc in subst (λ (x : DecoratedKey). IsUpTo key x) same low;
          head = up_to_on key k (with_token h.0 h.1) low (not_above k (with_token h.0 h.1) e);
        }

-- ---- the least

-- The least is at most the first one, and each head's.
pub record IsLeast (key : DecoratedKey) (least : Option DecoratedKey) (hs : List Head) : Type 0 where
  pub first : (k : DecoratedKey) → least ≡ Some k → IsUpTo key k
  pub heads : AllByRecursion (IsFrom key) hs

pub least_is : (key : DecoratedKey) (least : Option DecoratedKey) (hs : List Head) → least_from least hs ≡ Some key → IsLeast key least hs
least_is key least [] is = record { first = λ k first. (let same : key ≡ k = (let both : Some key ≡ Some k = sym is ∙ first in cc) in subst (λ (x : DecoratedKey). IsUpTo key x) same (up_to_itself key)); heads = tt }
least_is key least (h ∷ hs) is =
    let rest = least_is key (lesser least h) hs is in
    let both = lesser_up_to key least h rest.first in
    record { first = both.first; heads = (both.head, rest.heads) }

-- without a least one there is no head
lesser_none : (least : Option DecoratedKey) (h : Head) → lesser least h ≡ None → (least ≡ None) × (h ≡ None)
lesser_none least None is = (is, refl)
lesser_none None (Some h) is = cc
lesser_none (Some k) (Some h) is = by (is_gt (decorated_cmp k (with_token h.0 h.1))) is
  where
    by : (b : Bool) → cond b (Some (with_token h.0 h.1)) (Some k) ≡ None → (Some k ≡ None) × (Some h ≡ None)
    by true e = cc
    by false e = cc

none_before : (least : Option DecoratedKey) (hs : List Head) → least_from least hs ≡ None → (least ≡ None) × AllByRecursion (λ h. h ≡ None) hs
none_before least [] is = (is, tt)
none_before least (h ∷ hs) is =
    let rest = none_before (lesser least h) hs is in
    let both = lesser_none least h rest.0 in
    (both.0, (both.1, rest.1))

pub none_left : (hs : List Head) → least_from None hs ≡ None → AllByRecursion (λ h. h ≡ None) hs
none_left hs is = (none_before None hs is).1

-- ---- some head has it

has_itself : (key : DecoratedKey) (h : ℕ × List ℕ × Partition) → with_token h.0 h.1 ≡ key → part_at key (Some h) ≡ Some h.2
has_itself key h same = ap (λ (k : DecoratedKey). cond (eq_by_cmp decorated_cmp key k) (Some h.2) None) same ∙ ap (λ r. cond (is_eq r) (Some h.2) None) (tied_itself decorated_total key)

-- what is merged stays
kept : (key : DecoratedKey) (p : Partition) (hs : List Head) → is_some (merged_heads key (Some p) hs) ≡ true
kept key p [] = refl
kept key p (h ∷ hs) = elim (part_at key h) as (λ o. is_some (merged_heads key (joined (Some p) o) hs) ≡ true) [ None ↦ kept key p hs | Some q ↦ kept key (merge p q) hs ]

some_joined : (key : DecoratedKey) (base : Option Partition) (h : ℕ × List ℕ × Partition) (hs : List Head) → with_token h.0 h.1 ≡ key → is_some (merged_heads key (joined base (part_at key (Some h))) hs) ≡ true
some_joined key base h hs same = ap (λ o. is_some (merged_heads key (joined base o) hs)) (has_itself key h same) ∙ kept key (merge (unwrap_or base empty_partition) h.2) hs

-- the least is that of some head, or the first one
pub some_has : (key : DecoratedKey) (least : Option DecoratedKey) (base : Option Partition) (hs : List Head) → least_from least hs ≡ Some key → (least ≡ Some key) ⊎ (is_some (merged_heads key base hs) ≡ true)
some_has key least base [] is = inl is
some_has key least base (h ∷ hs) is = ⊎_elim (λ first. by h first) (λ behind. inr behind) (some_has key (lesser least h) (joined base (part_at key h)) hs is)
  where
    by : (x : Head) → lesser least x ≡ Some key → (least ≡ Some key) ⊎ (is_some (merged_heads key (joined base (part_at key x)) hs) ≡ true)
    by None first = inl first
    by (Some x) first = of least first
      where
        of : (o : Option DecoratedKey) → lesser o (Some x) ≡ Some key → (o ≡ Some key) ⊎ (is_some (merged_heads key (joined base (part_at key (Some x))) hs) ≡ true)
        of None e = let same : with_token x.0 x.1 ≡ key = cc in inr (some_joined key base x hs same)
        of (Some k) e = split (is_gt (decorated_cmp k (with_token x.0 x.1))) e
          where
            split : (b : Bool) → cond b (Some (with_token x.0 x.1)) (Some k) ≡ Some key → (Some k ≡ Some key) ⊎ (is_some (merged_heads key (joined base (part_at key (Some x))) hs) ≡ true)
            split true f = let same : with_token x.0 x.1 ≡ key = cc in inr (some_joined key base x hs same)
            split false f = inl f

-- so there is a merge of its partitions
pub has_some : (key : DecoratedKey) (hs : List Head) → least_from None hs ≡ Some key → merged_heads key None hs ≡ None → ⊥
has_some key hs is none = ⊎_elim (λ (first : None ≡ Some key). absurd (let no = first in cc)) (λ some. absurd (let no : false ≡ true = ap is_some (sym none) ∙ some in cc)) (some_has key None None hs is)

-- ---- the merge of one key's partitions

-- what the search finds is the least key
pub is_least_key : (hs : List Head) (key : DecoratedKey) → least_from None hs ≡ Some key → IsLeastKey hs (Some key)
is_least_key hs key is = (⊎_elim (λ (first : None ≡ Some key). absurd (let no = first in cc)) (λ some. some) (some_has key None None hs is), (least_is key None hs is).heads)

merged_push : (key : DecoratedKey) (base : Option Partition) (hs : List Head) (h : Head) → merged_heads key base (hs ++ h ∷ []) ≡ joined (merged_heads key base hs) (part_at key h)
merged_push key base [] h = refl
merged_push key base (x ∷ hs) h = merged_push key (joined base (part_at key x)) hs h

-- **One more head** is merged where it has the key.
pub part_push : (key : DecoratedKey) (hs : List Head) (h : Head) → merged_part key (hs ++ h ∷ []) ≡ merged_with (merged_part key hs) (head_with key h)
part_push key hs h = ap (λ o. unwrap_or o empty_partition) (merged_push key None hs h) ∙ by h
  where
    by : (x : Head) → unwrap_or (joined (merged_heads key None hs) (part_at key x)) empty_partition ≡ merged_with (merged_part key hs) (head_with key x)
    by None = refl
    by (Some x) = elim (eq_by_cmp decorated_cmp key (with_token x.0 x.1)) as (λ b. unwrap_or (joined (merged_heads key None hs) (cond b (Some x.2) None)) empty_partition ≡ merged_with (merged_part key hs) (cond b (Some x) None)) [ true ↦ refl | false ↦ refl ]

-- **The least key is given with what is merged of all heads.**
pub gives_least : (hs : List Head) (key : DecoratedKey) (part : Partition) → IsLeastKey hs (Some key) → part ≡ merged_part key hs → GivesLeast hs key.token (Some (key.key, part))
gives_least hs key part least is = (by (merged_heads key None hs) refl least.0, least.1)
  where
    by : (o : Option Partition) → merged_heads key None hs ≡ o → is_some (merged_heads key None hs) ≡ true → merged_heads key None hs ≡ Some part
    by None e some = absurd (let no : false ≡ true = sym (ap is_some e) ∙ some in cc)
    by (Some q) e some = e ∙ sym (ap Some (is ∙ ap (λ o. unwrap_or o empty_partition) e))

-- ---- steps of the code

-- a search that gives nothing, and one that gives something
pub none_mapped : {A B : Type 0} (f : A → B) (o : Option A) (x : Option B) → o ≡ None → option_map f o ≡ x → x ≡ None
none_mapped f o x none is = sym is ∙ ap (option_map f) none

pub some_mapped : {A B : Type 0} (f : A → B) (o : Option A) (x : Option B) (a : A) → o ≡ Some a → option_map f o ≡ x → x ≡ Some (f a)
some_mapped f o x a some is = sym is ∙ ap (option_map f) some

-- a copy is the merge of one partition
pub copied : (before : Option Partition) (part copy : Partition) → before ≡ None → copy ≡ part → IsNormal part → Some copy ≡ joined before (Some part)
copied before part copy none is normal =
    ap Some (is ∙ sym (nothing_first part ∙ nothing_behind part normal)) ∙ ap (λ o. joined o (Some part)) (sym none)

-- the key of a partition that is merged is that of a head
pub given_has : (P : List ℕ → Type 0) (key : DecoratedKey) (base : Option Partition) (hs : List Head) (part : Partition) → AllByRecursion (λ h. IfSome h (λ x. P x.1)) hs → merged_heads key base hs ≡ Some part → (base ≡ None) → P key.key
given_has P key base [] part all is none = absurd (let no : None ≡ Some part = sym none ∙ is in cc)
given_has P key base (None ∷ hs) part all is none = given_has P key base hs part all.1 is none
given_has P key base (Some h ∷ hs) part all is none =
    elim (eq_by_cmp decorated_cmp key (with_token h.0 h.1)) as (λ b. eq_by_cmp decorated_cmp key (with_token h.0 h.1) ≡ b → P key.key) [
      | true ↦ λ same. subst (λ (k : DecoratedKey). P k.key) (sym (equal_keys key (with_token h.0 h.1) same)) all.0
      | false ↦ λ other. given_has P key base hs part all.1 (sym (ap (λ b. merged_heads key (joined base (cond b (Some h.2) None)) hs) other) ∙ is) none
    ] refl
