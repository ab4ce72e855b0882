-- What the steps of a union and of an intersection come to.
use Rattle.std.proofs.Common.{◌≡◌, ◌&&◌, ◌<◌, ℕ, zero, suc, Bool, true, false, List, [], ◌∷◌, length, map, None, refl, sym, ap, subst, ◌∙◌, inl, inr, ⊎_elim, arith, ◌++◌, ◌≤◌, take, ◌||◌}
use Rattle.std.specs.List.{AllByRecursion, list_any}
use Rattle.std.specs.Ordering.{is_lt}
use Rattle.sasi_ranges.specs.declared.entry.Entry.{Entry}
use Rattle.sasi_ranges.specs.Entries.{Above, Rises, entry_cmp, entry_total, has_token}
use Rattle.sasi_ranges.specs.Lists.{each_has, each_relation_has, intersection_by, intersection_of, list_at, relation_has, union_of}
use Rattle.sasi_ranges.specs.inside.Meets.{Meets, all_of, bit_at, had, is_met, met_by, singles}
use Rattle.sasi_ranges.specs.inside.Unions.{BeginsWith, NotBelow, SomeBegins, Unites, drop_if}
use Rattle.sasi_ranges.proofs.Least.{less_is, not_itself}
use Rattle.sasi_ranges.proofs.Sets.{Has, SomeHas, of_all, some_above, some_back, some_dropped, still_rise}
use Rattle.sasi_ranges.proofs.Meeting.{filter_same}
use Rattle.sasi_ranges.proofs.ListLaws.{has_union, union_from, union_rises}

no_less : (a : Entry) → Above a a → ⊥
no_less a less = let no : true ≡ false = sym (ap is_lt less) ∙ not_itself (entry_cmp a a) (entry_total.antisymm a a) in cc

none_there : (ls : List (List Entry)) → ((x : Entry) → SomeHas x ls → ⊥) → AllByRecursion (λ l. l ≡ []) ls
none_there [] none = tt
none_there ([] ∷ ls) none = (refl, none_there ls (λ x has. none x (inr has)))
none_there ((y ∷ l) ∷ ls) none = absurd (none y (inl (inl refl)))

none_under : (e : Entry) (ls : List (List Entry)) → ((x : Entry) → SomeHas x ls → is_lt (entry_cmp x e) ≡ false) → AllByRecursion (NotBelow e) ls
none_under e [] none = tt
none_under e ([] ∷ ls) none = (tt, none_under e ls (λ x has. none x (inr has)))
none_under e ((y ∷ l) ∷ ls) none = (none y (inl (inl refl)), none_under e ls (λ x has. none x (inr has)))

first_is : (e : Entry) (l : List Entry) → NotBelow e l → Rises l → Has e l → BeginsWith e l
first_is e [] below rises has = has
first_is e (y ∷ l) below rises has = ⊎_elim
    (λ this. this)
    (λ later. absurd (let less = of_all y e l rises.0 later in let no : true ≡ false = sym (ap is_lt less) ∙ below in cc))
    has

some_first : (e : Entry) (ls : List (List Entry)) → AllByRecursion (NotBelow e) ls → AllByRecursion Rises ls → SomeHas e ls → SomeBegins e ls
some_first e [] below rise has = has
some_first e (l ∷ ls) below rise has = ⊎_elim (λ mine. inl (first_is e l below.0 rise.0 mine)) (λ later. inr (some_first e ls below.1 rise.1 later)) has

not_under : (e x : Entry) (es : List Entry) → AllByRecursion (Above e) es → Has x (e ∷ es) → is_lt (entry_cmp x e) ≡ false
not_under e x es above has = ⊎_elim
    (λ this. subst (λ (k : Entry). is_lt (entry_cmp k e) ≡ false) this (not_itself (entry_cmp e e) (entry_total.antisymm e e)))
    (λ later. by (is_lt (entry_cmp x e)) refl (of_all e x es above later))
    has
  where
    by : (b : Bool) → is_lt (entry_cmp x e) ≡ b → Above e x → is_lt (entry_cmp x e) ≡ false
    by false is less = is
    by true is less = absurd (no_less e (entry_total.trans e x e less (less_is _ is)))

-- a list that rises and has exactly the entries of some lists that rise is what the steps come to
to_unites : (es : List Entry) (ls : List (List Entry)) → AllByRecursion Rises ls → Rises es → ((x : Entry) → Has x es → SomeHas x ls)
    → ((x : Entry) → SomeHas x ls → Has x es) → Unites ls es
to_unites [] ls rise rises into from = none_there ls from
to_unites (e ∷ es) ls rise rises into from =
    let below = none_under e ls (λ x has. not_under e x es rises.0 (from x has)) in (
      record { none_below = below; some = some_first e ls below rise (into e (inl refl)) },
      to_unites es (map (drop_if e) ls) (still_rise e ls below rise) rises.1
          (λ x has. ⊎_elim
          (λ this. absurd (no_less e (subst (λ (k : Entry). Above e k) (sym this) (of_all e x es rises.0 has))))
          (λ left. left)
          (some_dropped e x ls (into x (inr has))))
          (λ x has. ⊎_elim
          (λ this. absurd (no_less e (subst (λ (k : Entry). Above e k) (sym this) (some_above e x ls below rise has))))
          (λ later. later)
          (from x (some_back e x ls has))),
    )

pub unites_union : (lists : List (List Entry)) → AllByRecursion Rises lists → Unites lists (union_of lists)
unites_union lists rise = to_unites (union_of lists) lists rise (union_rises lists) (λ x has. union_from x lists has) (λ x has. has_union x lists has)

-- ---- relations

bit_is : (ls : List (List Entry)) (token at : ℕ) → has_token token (list_at ls at) ≡ bit_at (had ls token) at
bit_is [] token at = refl
bit_is (l ∷ ls) token zero = refl
bit_is (l ∷ ls) token (suc at) = bit_is ls token at

any_is : (ls : List (List Entry)) (token : ℕ) (positions : List ℕ) → relation_has ls token positions ≡ list_any (bit_at (had ls token)) positions
any_is ls token [] = refl
any_is ls token (at ∷ positions) = ap (λ b. b || relation_has ls token positions) (bit_is ls token at) ∙ ap (λ b. bit_at (had ls token) at || b) (any_is ls token positions)

met_is : (relations : List (List ℕ)) (ls : List (List Entry)) (token : ℕ) → each_relation_has relations ls token ≡ met_by relations (had ls token)
met_is [] ls token = refl
met_is (positions ∷ relations) ls token =
    ap (λ b. b && each_relation_has relations ls token) (any_is ls token positions)
    ∙ ap (λ b. list_any (bit_at (had ls token)) positions && b) (met_is relations ls token)

pub meets_by : (relations : List (List ℕ)) (lists : List (List Entry)) → AllByRecursion Rises lists
    → Meets (met_by relations) None lists (intersection_by relations lists)
meets_by relations lists rise = (
  union_of lists,
  unites_union lists rise,
  filter_same (λ (x : Entry). each_relation_has relations lists x.token) (is_met (met_by relations) None lists) (union_of lists) (λ x has. met_is relations lists x.token),
)

-- ---- each list as a relation of its own

and_true : (b : Bool) → ((b || false) && true) ≡ b
and_true true = refl
and_true false = refl

and_three : (a b c : Bool) → (a && (b && c)) ≡ ((a && b) && c)
and_three true b c = refl
and_three false b c = refl

met_more : (relations : List (List ℕ)) (positions : List ℕ) (bs : List Bool)
    → met_by (relations ++ positions ∷ []) bs ≡ (met_by relations bs && (list_any (bit_at bs) positions && true))
met_more [] positions bs = refl
met_more (first ∷ relations) positions bs =
    ap (λ b. list_any (bit_at bs) first && b) (met_more relations positions bs)
    ∙ and_three (list_any (bit_at bs) first) (met_by relations bs) (list_any (bit_at bs) positions && true)

and_itself : (b : Bool) → (b && true) ≡ b
and_itself true = refl
and_itself false = refl

all_more : (n : ℕ) (bs : List Bool) → n < length bs → (all_of (take n bs) && bit_at bs n) ≡ all_of (take (suc n) bs)
all_more n [] less = absurd (omega (arith, less))
all_more zero (b ∷ bs) less = sym (and_itself b)
all_more (suc n) (b ∷ bs) less = sym (and_three b (all_of (take n bs)) (bit_at bs n)) ∙ ap (λ x. b && x) (all_more n bs (omega (arith, less)))

singles_are : (n : ℕ) (bs : List Bool) → n ≤ length bs → met_by (singles n) bs ≡ all_of (take n bs)
singles_are zero bs le = refl
singles_are (suc n) bs le =
    met_more (singles n) (n ∷ []) bs
    ∙ ap (λ b. met_by (singles n) bs && b) (and_true (bit_at bs n))
    ∙ ap (λ b. b && bit_at bs n) (singles_are n bs (omega (arith, le)))
    ∙ all_more n bs (omega (arith, le))

take_whole : (bs : List Bool) → take (length bs) bs ≡ bs
take_whole [] = refl
take_whole (b ∷ bs) = ap (λ (k : List Bool). b ∷ k) (take_whole bs)

had_length : (ls : List (List Entry)) (token : ℕ) → length (had ls token) ≡ length ls
had_length [] token = refl
had_length (l ∷ ls) token = ap suc (had_length ls token)

each_is : (ls : List (List Entry)) (token : ℕ) → each_has ls token ≡ all_of (had ls token)
each_is [] token = refl
each_is (l ∷ ls) token = ap (λ b. has_token token l && b) (each_is ls token)

alone_has : (n : ℕ) (ls : List (List Entry)) (token : ℕ) → n ≡ length ls → each_relation_has (singles n) ls token ≡ each_has ls token
alone_has n ls token long =
    let size : n ≡ length (had ls token) = long ∙ sym (had_length ls token) in
    met_is (singles n) ls token
    ∙ singles_are n (had ls token) (omega (arith, size))
    ∙ ap all_of (ap (λ (k : ℕ). take k (had ls token)) size ∙ take_whole (had ls token))
    ∙ sym (each_is ls token)

-- **Where each list is a relation of its own, it is the intersection of the lists.**
pub intersection_alone : (n : ℕ) (lists : List (List Entry)) → n ≡ length lists → intersection_by (singles n) lists ≡ intersection_of lists
intersection_alone n lists long =
    filter_same (λ (x : Entry). each_relation_has (singles n) lists x.token) (λ (x : Entry). each_has lists x.token) (union_of lists) (λ x has. alone_has n lists x.token long)
