-- What changes of a list of components make of what the book knows of one.
use Rattle.std.proofs.Common.{◌≡◌, ℕ, ◌+◌, ◌-◌, ◌≤◌, ◌<◌, ◌^◌, suc, Bool, true, false, cond, if◌then◌else◌, ◌||◌, List, [], ◌∷◌, ◌++◌, length, get_or, drop, Option, None, Some, option_map, is_some, Result, Ok, Err, OnOk, OnErr, refl, sym, ap, subst, ◌∙◌, arith, drop-cons, drop_of_length-le}
use Rattle.std.specs.Cmp.{eq_by_cmp_equiv}
use Rattle.std.specs.Ordering.{is_eq}
use Rattle.std.specs.declared.cmp.Ordering.{Ordering}
use Rattle.std.specs.declared.cmp.Ordering.TheVariants.{Less, Equal, Greater}
use Rattle.std.proofs.lemmas.List.Folds.{list_any-append}
use Rattle.sasi_views.specs.declared.component.Component.{Component}
use Rattle.sasi_views.specs.declared.counted.Counted.{Counted}
use Rattle.sasi_views.specs.Books.{count_in}
use Rattle.sasi_views.specs.Components.{among, component_cmp, lists, same}
use Rattle.sasi_views.specs.ComponentLaws.{components_exact, components_total}
use Rattle.sasi_views.specs.inside.Steps.{Step, each, forgotten, known_so, learnt, less_one, lowered, marked, more, raised, with_current}

-- ---- one component

from_is_eq : (r : Ordering) → is_eq r ≡ true → r ≡ Equal
from_is_eq Less e = cc
from_is_eq Equal e = refl
from_is_eq Greater e = cc

-- components that are the same are one
pub one : (x c : Component) → same x c ≡ true → x ≡ c
one x c e = components_exact x c (from_is_eq (component_cmp x c) e)

pub same_itself : (c : Component) → same c c ≡ true
same_itself c = (eq_by_cmp_equiv components_total).refl c

-- ---- a loop over a list

pub turn : (step : Step) (xs : List Component) (i : ℕ) (d c : Component) (old new all : Option Counted)
    → i < length xs → new ≡ step (get_or xs i d) c old → each step (drop i xs) c old ≡ all → each step (drop (i + 1) xs) c new ≡ all
turn step xs i d c old new all below is before =
    let next : i + 1 ≡ suc i = omega arith in
    ap (λ (k : ℕ). each step (drop k xs) c new) next ∙ ap (λ (o : Option Counted). each step (drop (suc i) xs) c o) is
    ∙ sym (ap (λ (l : List Component). each step l c old) (drop-cons xs i d below)) ∙ before

pub ended : (step : Step) (xs : List Component) (i : ℕ) (c : Component) (now all : Option Counted) → length xs ≤ i → each step (drop i xs) c now ≡ all → now ≡ all
ended step xs i c now all past is = sym (ap (λ (l : List Component). each step l c now) (drop_of_length-le xs past)) ∙ is

-- ---- what all of them do

count_more : (m n : ℕ) (b : Bool) → m ≡ n → ◌≡◌ {A = Option Counted} (Some (record { count = m; current = b })) (Some (record { count = n; current = b }))
count_more m n b is = ap (λ (k : ℕ). Some (record { count = k; current = b })) is

more_by : (m n : ℕ) (o : Option Counted) → m ≡ n → option_map (more m) o ≡ option_map (more n) o
more_by m n o is = ap (λ (k : ℕ). option_map (more k) o) is

add_none : (o : Option Counted) → o ≡ option_map (more 0) o
add_none None = refl
add_none (Some s) = count_more s.count (s.count + 0) s.current (omega arith)

add_both : (m n : ℕ) (o : Option Counted) → option_map (more n) (option_map (more m) o) ≡ option_map (more (m + n)) o
add_both m n None = refl
add_both m n (Some s) = count_more (s.count + m + n) (s.count + (m + n)) s.current (omega arith)

pub raised_all : (xs : List Component) (c : Component) (o : Option Counted) → each raised xs c o ≡ option_map (more (lists c xs)) o
raised_all [] c o = add_none o
raised_all (x ∷ xs) c o = raised_all xs c (raised x c o) ∙ by (same x c)
  where
    by : (b : Bool) → option_map (more (lists c xs)) (cond b (option_map (more 1) o) o) ≡ option_map (more ((if b then 1 else 0) + lists c xs)) o
    by true = add_both 1 (lists c xs) o
    by false = more_by (lists c xs) (0 + lists c xs) o (omega arith)

pub learnt_all : (xs : List Component) (c : Component) (o : Option Counted) → each learnt xs c o ≡ cond (among c xs) (known_so o) o
learnt_all [] c o = refl
learnt_all (x ∷ xs) c o = learnt_all xs c (learnt x c o) ∙ by (same x c) (among c xs) o
  where
    by : (b m : Bool) (o : Option Counted) → cond m (known_so (cond b (known_so o) o)) (cond b (known_so o) o) ≡ cond (b || m) (known_so o) o
    by true true None = refl
    by true true (Some s) = refl
    by true false o = refl
    by false true o = refl
    by false false o = refl

pub forgotten_all : (xs : List Component) (c : Component) (o : Option Counted) → each forgotten xs c o ≡ cond (among c xs) None o
forgotten_all [] c o = refl
forgotten_all (x ∷ xs) c o = forgotten_all xs c (forgotten x c o) ∙ by (same x c) (among c xs)
  where
    by : (b m : Bool) → cond m None (cond b None o) ≡ cond (b || m) None o
    by true true = refl
    by true false = refl
    by false m = refl

pub marked_all : (b : Bool) (xs : List Component) (c : Component) (o : Option Counted) → each (marked b) xs c o ≡ cond (among c xs) (option_map (with_current b) o) o
marked_all b [] c o = refl
marked_all b (x ∷ xs) c o = marked_all b xs c (marked b x c o) ∙ by (same x c) (among c xs) o
  where
    by : (s m : Bool) (o : Option Counted) → cond m (option_map (with_current b) (cond s (option_map (with_current b) o) o)) (cond s (option_map (with_current b) o) o) ≡ cond (s || m) (option_map (with_current b) o) o
    by true true None = refl
    by true true (Some k) = refl
    by true false o = refl
    by false m o = refl

-- a count that is one less still has room for the others
pub fewer : (b : Bool) (n : ℕ) (o : Option Counted) → (if b then 1 else 0) + n ≤ count_in o → n ≤ count_in (cond b (option_map less_one o) o)
fewer true n None le = omega (arith, le)
fewer true n (Some s) le = omega (arith, le)
fewer false n o le = omega (arith, le)

restored : (b : Bool) (n : ℕ) (o z : Option Counted) → (if b then 1 else 0) + n ≤ count_in o → cond b (option_map less_one o) o ≡ option_map (more n) z → o ≡ option_map (more ((if b then 1 else 0) + n)) z
restored true n None z le is = absurd (omega (arith, le))
restored true n (Some s) z le is =
    count_more s.count (s.count - 1 + 1) s.current (omega (arith, le)) ∙ ap (option_map (more 1)) is ∙ add_both n 1 z ∙ more_by (n + 1) (1 + n) z (omega arith)
restored false n o z le is = is ∙ more_by n (0 + n) z (omega arith)

pub lowered_all : (xs : List Component) (c : Component) (o : Option Counted) → lists c xs ≤ count_in o → o ≡ option_map (more (lists c xs)) (each lowered xs c o)
lowered_all [] c o le = add_none o
lowered_all (x ∷ xs) c o le =
    restored (same x c) (lists c xs) o (each lowered xs c (lowered x c o)) le (lowered_all xs c (lowered x c o) (fewer (same x c) (lists c xs) o le))

-- ---- room for counts

pub listed_one : (xs : List Component) (c : Component) → among c xs ≡ true → 1 ≤ lists c xs
listed_one [] c e = cc
listed_one (x ∷ xs) c e = by (same x c) (listed_one xs c) e
  where
    by : (b : Bool) → (among c xs ≡ true → 1 ≤ lists c xs) → (b || among c xs) ≡ true → 1 ≤ (if b then 1 else 0) + lists c xs
    by true rest e = omega arith
    by false rest e = omega (arith, rest e)

abbrev one_if : Bool → ℕ
one_if b = if b then 1 else 0

pub listed_some : (xs : List Component) (c : Component) → among c xs ≡ false → lists c xs ≡ 0
listed_some [] c e = refl
listed_some (x ∷ xs) c e = by (same x c) (listed_some xs c) e
  where
    by : (b : Bool) → (among c xs ≡ false → lists c xs ≡ 0) → (b || among c xs) ≡ false → (if b then 1 else 0) + lists c xs ≡ 0
    by true rest e = cc
    by false rest e = omega (arith, rest e)

pub room_left : (b : Bool) (n : ℕ) (o : Option Counted) → count_in (cond b (option_map (more 1) o) o) + n ≤ count_in o + ((if b then 1 else 0) + n)
room_left true n None = omega arith
room_left true n (Some s) = omega arith
room_left false n o = omega arith

pub same_count : (b : Bool) (o : Option Counted) → count_in (cond b (known_so o) o) ≡ count_in o
same_count true None = refl
same_count true (Some s) = refl
same_count false o = refl

or_true : (a b : Bool) → b ≡ true → (a || b) ≡ true
or_true true b e = refl
or_true false b e = e

module _ (xs : List Component) (i : ℕ) (d : Component) (below : i < length xs) where
  -- the one in hand, and the ones behind it
  abbrev x : Component
  x = get_or xs i d

  abbrev rest : List Component
  rest = drop (suc i) xs

  listed_next : (c : Component) → lists c (drop i xs) ≡ (if same x c then 1 else 0) + lists c rest
  listed_next c = ap (λ (l : List Component). lists c l) (drop-cons xs i d below)

  among_next : (c : Component) → among c (drop i xs) ≡ (same x c || among c rest)
  among_next c = ap (λ (l : List Component). among c l) (drop-cons xs i d below)

  pub listed_head : 1 ≤ lists x (drop i xs)
  listed_head = omega (arith, listed_next x, ap one_if (same_itself x))

  pub counted_next : (c : Component) (old new : Option Counted) → new ≡ lowered x c old → lists c (drop i xs) ≤ count_in old → lists c (drop (i + 1) xs) ≤ count_in new
  counted_next c old new is le =
      let next : i + 1 ≡ suc i = omega arith in
      subst (λ (k : ℕ). lists c (drop k xs) ≤ count_in new) (sym next)
      (subst (λ (o : Option Counted). lists c rest ≤ count_in o) (sym is) (fewer (same x c) (lists c rest) old (subst (λ n. n ≤ count_in old) (listed_next c) le)))

  pub room_head : (n : ℕ) → (among x (drop i xs) ≡ true → n + lists x (drop i xs) < 2 ^ 32) → n + 1 < 2 ^ 32
  room_head n room = omega (arith, listed_head, room (among_next x ∙ ap (λ (b : Bool). b || among x rest) (same_itself x)))

  pub room_next : (c : Component) (old new : Option Counted) → new ≡ raised x c old → (among c (drop i xs) ≡ true → count_in old + lists c (drop i xs) < 2 ^ 32)
      → among c (drop (i + 1) xs) ≡ true → count_in new + lists c (drop (i + 1) xs) < 2 ^ 32
  room_next c old new is room =
      let next : i + 1 ≡ suc i = omega arith in
      subst (λ (k : ℕ). among c (drop k xs) ≡ true → count_in new + lists c (drop k xs) < 2 ^ 32) (sym next)
      (λ more_of. omega (arith, listed_next c, ap count_in is, room_left (same x c) (lists c rest) old, room (among_next c ∙ or_true (same x c) (among c rest) more_of)))

  pub looked_next : (P : Component → Type 0) (c : Component) → P x → (among c (drop i xs) ≡ false → P c) → among c (drop (i + 1) xs) ≡ false → P c
  looked_next P c head before =
      let next : i + 1 ≡ suc i = omega arith in
      subst (λ (k : ℕ). among c (drop k xs) ≡ false → P c) (sym next) (λ none. by (same x c) refl none)
    where
      by : (b : Bool) → same x c ≡ b → among c rest ≡ false → P c
      by true is none = subst P (one x c is) head
      by false is none = before (among_next c ∙ ap (λ (b : Bool). b || among c rest) is ∙ none)

pub none_left : (xs : List Component) (i : ℕ) (c : Component) → length xs ≤ i → among c (drop i xs) ≡ false
none_left xs i c past = ap (λ (l : List Component). among c l) (drop_of_length-le xs past)

pub room_for : (cs : List Component) (c : Component) (old new : Option Counted) → new ≡ each learnt cs c old → suc (count_in old) < 2 ^ 32 → lists c cs ≤ 1 → count_in new + lists c cs < 2 ^ 32
room_for cs c old new is room once = omega (arith, ap count_in is, ap count_in (learnt_all cs c old), same_count (among c cs) old, room, once)

-- ---- undoing

absent : (o : Option Counted) → is_some o ≡ false → o ≡ None
absent None e = refl
absent (Some s) e = cc

-- where a component was added or not, another one is what it was
rest_kept : {T E : Type 0} (r : Result T E) (x k : Component) (old new : Component → Option Counted) → OnOk r ((c : Component) → new c ≡ learnt x c (old c)) → OnErr r ((c : Component) → new c ≡ old c)
    → same x k ≡ false → new k ≡ old k
rest_kept (Ok v) x k old new ok err e = ok k ∙ ap (λ (b : Bool). cond b (known_so (old k)) (old k)) e
rest_kept (Err v) x k old new ok err e = err k

-- one more to be forgotten, of which nothing was known
pub undone_more : (xs : List Component) (x c : Component) (old new : Option Counted) → (same x c ≡ true → old ≡ None) → (same x c ≡ false → new ≡ old)
    → each forgotten (xs ++ x ∷ []) c new ≡ each forgotten xs c old
undone_more xs x c old new none rest =
    forgotten_all (xs ++ x ∷ []) c new ∙ ap (λ (b : Bool). cond b None new) (list_any-append (λ y. same y c) xs (x ∷ [])) ∙ by (among c xs) (same x c) none rest ∙ sym (forgotten_all xs c old)
  where
    by : (a b : Bool) → (b ≡ true → old ≡ None) → (b ≡ false → new ≡ old) → cond (a || (b || false)) None new ≡ cond a None old
    by true b none rest = refl
    by false true none rest = sym (none refl)
    by false false none rest = rest refl

pub added_undone : {T E : Type 0} (r : Result T E) (xs more : List Component) (x k : Component) (old new : Component → Option Counted) → is_some (old x) ≡ false → more ≡ xs ++ x ∷ []
    → OnOk r ((c : Component) → new c ≡ learnt x c (old c)) → OnErr r ((c : Component) → new c ≡ old c) → each forgotten more k (new k) ≡ each forgotten xs k (old k)
added_undone r xs more x k old new none is ok err =
    ap (λ (l : List Component). each forgotten l k (new k)) is
    ∙ undone_more xs x k (old k) (new k) (λ e. absent (old k) (sym (ap (λ (c : Component). is_some (old c)) (one x k e)) ∙ none)) (rest_kept r x k old new ok err)

-- ---- exits

pub always_err : {T E : Type 0} (r : Result T E) (P : Type 0) → P → OnErr r P
always_err (Ok v) P p = tt
always_err (Err e) P p = p
