-- No component below a bound is dead: what becomes of that where the book changes.
use Rattle.std.proofs.Common.{◌≡◌, ℕ, ◌+◌, ◌≤◌, Bool, true, false, true≢false, cond, ◌||◌, List, [], ◌∷◌, Option, None, Some, option_map, is_lt, refl, sym, ap, ◌∙◌, arith}
use Rattle.std.specs.BTreeMap.{BTreeMap, get}
use Rattle.std.specs.declared.cmp.Ordering.{Ordering}
use Rattle.std.specs.declared.cmp.Ordering.TheVariants.{Less, Equal, Greater}
use Rattle.sasi_views.specs.declared.component.Component.{Component}
use Rattle.sasi_views.specs.declared.counted.Counted.{Counted}
use Rattle.sasi_views.specs.Books.{dead_in}
use Rattle.sasi_views.specs.Components.{among, component_cmp, lists, same}
use Rattle.sasi_views.specs.ComponentLaws.{components_total}
use Rattle.sasi_views.specs.inside.DeadFrom.{AreDeadFrom}
use Rattle.sasi_views.specs.inside.Steps.{at, each, forgotten, known_so, learnt, lowered, marked, more, raised, with_current}
use Rattle.sasi_views.proofs.BookChanges.{swapped}
use Rattle.sasi_views.proofs.BookLaws.{dead_count}
use Rattle.sasi_views.proofs.StepLaws.{learnt_all, listed_one, listed_some, marked_all, raised_all}

abbrev Tree : Type 0
Tree = BTreeMap Component Counted

abbrev at_key : Tree → Component → Option Counted
at_key known c = get component_cmp known c

-- ---- bounds

-- a lower bound serves
pub kept_below : (c x from : Component) → is_lt (component_cmp x from) ≡ true → is_lt (component_cmp c from) ≡ false → is_lt (component_cmp c x) ≡ false
kept_below c x from lower above = by (component_cmp c x) refl (component_cmp x from) refl lower
  where
    by : (r : Ordering) → component_cmp c x ≡ r → (s : Ordering) → component_cmp x from ≡ s → is_lt s ≡ true → is_lt r ≡ false
    by Less p Less q e = absurd (true≢false (sym (ap is_lt (components_total.trans c x from p q)) ∙ above))
    by Less p Equal q e = absurd (true≢false (sym e))
    by Less p Greater q e = absurd (true≢false (sym e))
    by Equal p s q e = refl
    by Greater p s q e = refl

-- ---- what isn't listed is left as it is

neither : (a b : Bool) → (a || b) ≡ false → (a ≡ false) × (b ≡ false)
neither true b e = absurd (true≢false e)
neither false b e = (refl, e)

untouched : (f : Option Counted → Option Counted) (xs : List Component) (c : Component) (o : Option Counted) → among c xs ≡ false → each (at f) xs c o ≡ o
untouched f [] c o none = refl
untouched f (x ∷ xs) c o none =
    let parts = neither (same x c) (among c xs) none in
    untouched f xs c (at f x c o) parts.1 ∙ ap (λ (b : Bool). cond b (f o) o) parts.0

-- ---- the changes

taken_dead : (a : Bool) (n : ℕ) (o : Option Counted) → (a ≡ true → 1 ≤ n) → (a ≡ false → n ≡ 0) → dead_in (option_map (more n) (cond a (known_so o) o)) ≡ true → dead_in o ≡ true
taken_dead true n None some none dead = absurd (omega (arith, some refl, dead_count (option_map (more n) (known_so None)) dead))
taken_dead true n (Some s) some none dead = absurd (omega (arith, some refl, dead_count (option_map (more n) (known_so (Some s))) dead))
taken_dead false n None some none dead = dead
taken_dead false n (Some s) some none dead =
    let is : s.count ≡ s.count + n = omega (arith, none refl) in
    ap (λ (k : ℕ). dead_in (Some (record { count = k; current = s.current }))) is ∙ dead

pub from_taken : (from : Component) (old new : Tree) (cs : List Component) → ((c : Component) → at_key new c ≡ each raised cs c (each learnt cs c (at_key old c))) → AreDeadFrom from old → AreDeadFrom from new
from_taken from old new cs is before c dead =
    let now : at_key new c ≡ option_map (more (lists c cs)) (cond (among c cs) (known_so (at_key old c)) (at_key old c)) =
    is c ∙ raised_all cs c (each learnt cs c (at_key old c)) ∙ ap (λ (o : Option Counted). option_map (more (lists c cs)) o) (learnt_all cs c (at_key old c)) in
    before c (taken_dead (among c cs) (lists c cs) (at_key old c) (listed_one cs c) (listed_some cs c) (sym (ap dead_in now) ∙ dead))

-- a component that died is noted, and the others are as they were
module _ (from lower : Component) (old new : Tree) (cs : List Component)
    (kept : (c : Component) → is_lt (component_cmp c from) ≡ false → is_lt (component_cmp c lower) ≡ false)
    (noted : (c : Component) → among c cs ≡ true → dead_in (at_key new c) ≡ true → is_lt (component_cmp c lower) ≡ false)
    (before : AreDeadFrom from old) where
  pub from_noted : ((c : Component) → among c cs ≡ false → dead_in (at_key new c) ≡ true → dead_in (at_key old c) ≡ true) → AreDeadFrom lower new
  from_noted rest c dead = by (among c cs) refl
    where
      by : (b : Bool) → among c cs ≡ b → is_lt (component_cmp c lower) ≡ false
      by true e = noted c e dead
      by false e = kept c (before c (rest c e dead))

pub given_rest : (old new : Tree) (cs : List Component) → ((c : Component) → at_key new c ≡ each lowered cs c (at_key old c))
    → (c : Component) → among c cs ≡ false → dead_in (at_key new c) ≡ true → dead_in (at_key old c) ≡ true
given_rest old new cs is c none dead = sym (ap dead_in (is c ∙ untouched _ cs c (at_key old c) none)) ∙ dead

swapped_alive : (a : Bool) (o : Option Counted) → dead_in (swapped a true o) ≡ false
swapped_alive true None = refl
swapped_alive true (Some s) = refl
swapped_alive false None = refl
swapped_alive false (Some s) = refl

pub replaced_rest : (old new : Tree) (removed added : List Component) → ((c : Component) → at_key new c ≡ each (marked true) added c (each (marked false) removed c (each learnt added c (at_key old c))))
    → (c : Component) → among c removed ≡ false → dead_in (at_key new c) ≡ true → dead_in (at_key old c) ≡ true
replaced_rest old new removed added is c none dead = by (among c added) refl
  where
    now : at_key new c ≡ swapped (among c removed) (among c added) (at_key old c)
    now =
        is c ∙ marked_all true added c (each (marked false) removed c (each learnt added c (at_key old c)))
        ∙ ap (λ (o : Option Counted). cond (among c added) (option_map (with_current true) o) o)
        (marked_all false removed c (each learnt added c (at_key old c)) ∙ ap (λ (o : Option Counted). cond (among c removed) (option_map (with_current false) o) o) (learnt_all added c (at_key old c)))

    by : (b : Bool) → among c added ≡ b → dead_in (at_key old c) ≡ true
    by true e = absurd (true≢false (sym dead ∙ ap dead_in (now ∙ ap (λ (x : Bool). swapped (among c removed) x (at_key old c)) e) ∙ swapped_alive (among c removed) (at_key old c)))
    by false e = sym (ap dead_in (now ∙ ap (λ (x : Bool). swapped (among c removed) x (at_key old c)) e ∙ ap (λ (x : Bool). swapped x false (at_key old c)) none)) ∙ dead

pub from_forgot : (gone : Component) (old new : Tree) → ((c : Component) → at_key new c ≡ forgotten gone c (at_key old c)) → AreDeadFrom gone old → AreDeadFrom gone new
from_forgot gone old new is before c dead = before c (by (same gone c) (sym (ap dead_in (is c)) ∙ dead))
  where
    by : (b : Bool) → dead_in (cond b None (at_key old c)) ≡ true → dead_in (at_key old c) ≡ true
    by true e = absurd (true≢false (sym e))
    by false e = e
