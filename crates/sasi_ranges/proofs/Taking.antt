-- An entry of the current token is taken.
use Rattle.std.proofs.Common.{◌≡◌, ◌≢◌, ◌≤◌, ℕ, Bool, true, false, cond, nat_eq, nat_lt, List, [], ◌∷◌, map, Option, None, Some, refl, sym, ap, subst, ◌∙◌, ⊎_elim, arith, ◌<◌, length}
use Rattle.std.proofs.lemmas.Bool.Decides.{nat_tests}
use Rattle.std.specs.List.{AllByRecursion}
use Rattle.std.specs.Ordering.{is_eq}
use Rattle.sasi_host.specs.Names.{Folder}
use Rattle.sasi_ranges.specs.declared.entry.Entry.{Entry}
use Rattle.sasi_ranges.specs.declared.head.Headed.{Headed}
use Rattle.sasi_ranges.specs.Entries.{Rises, entry_cmp, from_token}
use Rattle.sasi_ranges.specs.StreamCalls.{Gives}
use Rattle.sasi_ranges.specs.inside.Heads.{AllLeave, AreRead, least_from, streams_of}
use Rattle.sasi_ranges.specs.inside.Meets.{Agrees, FirstAt, FirstFrom, FromCurrent, Meets, MetLeaves, SomeFirstAt, TakesAt, TakesCurrent, met_by}
use Rattle.sasi_ranges.specs.inside.Unions.{IsLeast, NotBelow, SomeBegins, drop_if}
use Rattle.sasi_ranges.proofs.Least.{all_dropped, all_ended, least_is, streams_dropped, token_above}
use Rattle.sasi_ranges.proofs.Sets.{Has, SomeHas, none_has, of_all}
use Rattle.sasi_ranges.proofs.Agreeing.{above_token}
use Rattle.sasi_ranges.proofs.Meeting.{meets_done, meets_given}

-- ---- without an entry

drop_rises : (e : Entry) (l : List Entry) → Rises l → Rises (drop_if e l)
drop_rises e [] rises = tt
drop_rises e (x ∷ xs) rises = by (is_eq (entry_cmp x e))
  where
    by : (b : Bool) → Rises (cond b xs (x ∷ xs))
    by true = rises.1
    by false = rises

pub all_drop_rise : (e : Entry) (ls : List (List Entry)) → AllByRecursion Rises ls → AllByRecursion Rises (map (drop_if e) ls)
all_drop_rise e [] rise = tt
all_drop_rise e (l ∷ ls) rise = (drop_rises e l rise.0, all_drop_rise e ls rise.1)

tail_from : (t : ℕ) (x : Entry) (xs : List Entry) → Rises (x ∷ xs) → t ≤ x.token → FirstFrom t xs
tail_from t x [] rises le = tt
tail_from t x (y ∷ ys) rises le = omega (arith, le, above_token x y rises.0.0)

drop_from : (t : ℕ) (e : Entry) (l : List Entry) → Rises l → FirstFrom t l → FirstFrom t (drop_if e l)
drop_from t e [] rises from = tt
drop_from t e (x ∷ xs) rises from = by (is_eq (entry_cmp x e))
  where
    by : (b : Bool) → FirstFrom t (cond b xs (x ∷ xs))
    by true = tail_from t x xs rises from
    by false = from

all_drop_from : (t : ℕ) (e : Entry) (ls : List (List Entry)) → AllByRecursion Rises ls → AllByRecursion (FirstFrom t) ls
    → AllByRecursion (FirstFrom t) (map (drop_if e) ls)
all_drop_from t e [] rise from = tt
all_drop_from t e (l ∷ ls) rise from = (drop_from t e l rise.0 from.0, all_drop_from t e ls rise.1 from.1)

-- ---- first entries

begins_from : (t : ℕ) (e : Entry) (ls : List (List Entry)) → AllByRecursion (FirstFrom t) ls → SomeBegins e ls → t ≤ e.token
begins_from t e [] from some = absurd some
begins_from t e ([] ∷ ls) from some = ⊎_elim (λ here. absurd here) (λ later. begins_from t e ls from.1 later) some
begins_from t e ((x ∷ xs) ∷ ls) from some = ⊎_elim (λ here. subst (λ (y : Entry). t ≤ y.token) here from.0) (λ later. begins_from t e ls from.1 later) some

-- no entry of a rising list is below one that its first isn't below
first_above : (e x : Entry) (l : List Entry) → NotBelow e l → Rises l → Has x l → e.token ≤ x.token
first_above e x [] below rises has = absurd has
first_above e x (y ∷ ys) below rises has =
    let first = token_above y e below in
    ⊎_elim
    (λ here. subst (λ (z : Entry). e.token ≤ z.token) here first)
    (λ later. (let above = above_token y x (of_all y x ys rises.0 later) in omega (arith, first, above)))
    has

all_above : (e x : Entry) (ls : List (List Entry)) → AllByRecursion (NotBelow e) ls → AllByRecursion Rises ls → SomeHas x ls → e.token ≤ x.token
all_above e x [] below rise has = absurd has
all_above e x (l ∷ ls) below rise has = ⊎_elim (λ here. first_above e x l below.0 rise.0 here) (λ later. all_above e x ls below.1 rise.1 later) has

not_both : (a b : ℕ) → a ≡ b → nat_eq a b ≡ false → ⊥
not_both a b same other = let apart : a ≢ b = grind (arith, nat_tests) in apart same

-- ---- the current token

none_current : (t : ℕ) (e : Entry) (ls : List (List Entry)) → IsLeast e ls → AllByRecursion Rises ls → AllByRecursion (FirstFrom t) ls
    → nat_eq e.token t ≡ false → (x : Entry) → SomeHas x ls → nat_eq t x.token ≡ false
none_current t e ls least rise from other x has =
    let low = begins_from t e ls from least.some in
    let up = all_above e x ls least.none_below rise has in
    grind (arith, nat_tests)

least_first : (t : ℕ) (e : Entry) (ls : List (List Entry)) → AllByRecursion (NotBelow e) ls → SomeFirstAt t ls → e.token ≤ t
least_first t e [] below some = absurd some
least_first t e ([] ∷ ls) below some = ⊎_elim (λ here. absurd here) (λ later. least_first t e ls below.1 later) some
least_first t e ((x ∷ xs) ∷ ls) below some = ⊎_elim (λ here. (let over = token_above x e below.0 in omega (arith, over, here))) (λ later. least_first t e ls below.1 later) some

none_first : (t : ℕ) (ls : List (List Entry)) → AllByRecursion (λ l. l ≡ []) ls → SomeFirstAt t ls → ⊥
none_first t [] empty some = some
none_first t (l ∷ ls) empty some = ⊎_elim (λ here. subst (FirstAt t) empty.0 here) (λ later. none_first t ls empty.1 later) some

module _ {S : Type 0} (leaves : S → Option Folder → List Entry → Type 0) (files : Option Folder) (relations : List (List ℕ)) where
  -- the entry that is taken is the first that is left
  given : (t : ℕ) (hs new : List (Headed S)) (ls : List (List Entry)) (es : List Entry) (e : Entry) → AreRead hs → AllLeave leaves files hs ls
      → AllByRecursion Rises ls → AllByRecursion (FirstFrom t) ls → Meets (met_by relations) (Some t) ls es → 0 < length relations
      → TakesAt t hs new (Some e) → (rest : List Entry) × (es ≡ e ∷ rest) × MetLeaves leaves files new relations (Some t) rest
  given t hs new ls es e read all rise from meets some takes =
      let least = least_is leaves files hs ls e read all takes.0 in
      let rest = meets_given (met_by relations) t e ls es least takes.1 meets in (
        rest.0,
        rest.1,
        (
          map (drop_if e) ls,
          subst (λ (k : List (Headed S)). AllLeave leaves files k (map (drop_if e) ls)) (sym takes.2) (all_dropped leaves files e hs ls read all),
          all_drop_rise e ls rise,
          all_drop_from t e ls rise from,
          rest.2,
          some,
        ),
      )

  pub takes_current : (t : ℕ) (hs new : List (Headed S)) (es : List Entry) (result : Option Entry) → AreRead hs
      → MetLeaves leaves files hs relations (Some t) es → TakesAt t hs new result → TakesCurrent leaves files new relations (Some t) es result
  takes_current t hs new es (Some e) read met takes = given t hs new met.0 es e read met.1 met.2 met.3 met.4 met.5 takes
  takes_current t hs new es None read met takes =
      (met.0, subst (λ (k : List (Headed S)). AllLeave leaves files k met.0) (sym takes.0) met.1, met.2, tt, meets_done (met_by relations) t met.0 es (by (least_from None hs) refl) met.4, met.5)
    where
      by : (o : Option Entry) → least_from None hs ≡ o → (x : Entry) → SomeHas x met.0 → nat_eq t x.token ≡ false
      by None is x has = absurd (none_has x met.0 (all_ended leaves files hs met.0 read met.1 is) has)
      by (Some e) is x has = none_current t e met.0 (least_is leaves files hs met.0 e read met.1 is) met.2 met.3 (takes.1 e is) x has

  -- the first entry of a token that each relation has
  pub takes_agreed : (t : ℕ) (hs new : List (Headed S)) (es : List Entry) (result : Option Entry) → Agrees leaves files hs relations es (Some t)
      → TakesAt t hs new result → Gives (MetLeaves leaves files new relations (Some t)) es result
  takes_agreed t hs new es (Some e) agrees takes = given t hs new agrees.0 es e agrees.6 agrees.1 agrees.2 agrees.3 agrees.5 agrees.7 takes
  takes_agreed t hs new es None agrees takes = absurd (by (least_from None hs) refl)
    where
      by : (o : Option Entry) → least_from None hs ≡ o → ⊥
      by None is = none_first t agrees.0 (all_ended leaves files hs agrees.0 agrees.6 agrees.1 is) agrees.4
      by (Some e) is =
          let least = least_is leaves files hs agrees.0 e agrees.6 agrees.1 is in
          let low = begins_from t e agrees.0 agrees.3 least.some in
          let up = least_first t e agrees.0 least.none_below agrees.4 in
          let other = takes.1 e is in
          not_both e.token t (omega (arith, low, up)) other

-- ---- what that costs, and which files it may read: nothing more

-- the streams stay
pub takes_streams : {S : Type 0} (t : ℕ) (hs new : List (Headed S)) (result : Option Entry) → TakesAt t hs new result → streams_of new ≡ streams_of hs
takes_streams t hs new (Some e) takes = ap streams_of takes.2 ∙ streams_dropped e hs
takes_streams t hs new None takes = ap streams_of takes.0

-- ---- without what is below a token

from_from : (t token : ℕ) (l : List Entry) → Rises l → FirstFrom t l → FirstFrom t (from_token token l)
from_from t token [] rises from = tt
from_from t token (x ∷ xs) rises from = by (nat_lt x.token token) (from_from t token xs rises.1 (tail_from t x xs rises from))
  where
    by : (b : Bool) → FirstFrom t (from_token token xs) → FirstFrom t (cond b (from_token token xs) (x ∷ xs))
    by true later = later
    by false later = from

all_from_from : (t token : ℕ) (ls : List (List Entry)) → AllByRecursion Rises ls → AllByRecursion (FirstFrom t) ls
    → AllByRecursion (FirstFrom t) (map (from_token token) ls)
all_from_from t token [] rise from = tt
all_from_from t token (l ∷ ls) rise from = (from_from t token l rise.0 from.0, all_from_from t token ls rise.1 from.1)

pub current_from : (current : Option ℕ) (token : ℕ) (ls : List (List Entry)) → AllByRecursion Rises ls → FromCurrent current ls
    → FromCurrent current (map (from_token token) ls)
current_from None token ls rise from = tt
current_from (Some t) token ls rise from = all_from_from t token ls rise from
