-- Books from the entries of their maps, before a change and after it.
use Rattle.std.proofs.Common.{◌≡◌, ℕ, ◌+◌, ◌≤◌, ◌==◌, suc, Bool, true, false, cond, not, ◌&&◌, ◌||◌, List, [], ◌∷◌, Option, None, Some, option_map, is_some, is_lt, refl, sym, ap, subst, ◌∙◌, arith}
use Rattle.std.specs.BTreeMap.{is_at}
use Rattle.std.specs.FinMap as fin
use Rattle.std.specs.Map.{lookup}
use Rattle.sasi_views.specs.declared.component.Component.{Component}
use Rattle.sasi_views.specs.declared.counted.Counted.{Counted}
use Rattle.sasi_views.specs.Books.{Book, Known, count_in, count_of, current_in, dead_in}
use Rattle.sasi_views.specs.Changes.{AreCounted, Forgot, Given, HasNoneDead, Replaced, Taken}
use Rattle.sasi_views.specs.Components.{among, component_cmp, lists, same}
use Rattle.sasi_views.specs.ComponentLaws.{components_exact, components_total}
use Rattle.sasi_views.specs.inside.Steps.{each, forgotten, known_so, learnt, lowered, marked, more, raised, with_current}
use Rattle.sasi_views.proofs.BookLaws.{dead_count}
use Rattle.sasi_views.proofs.StepLaws.{learnt_all, listed_some, lowered_all, marked_all, one, raised_all}

abbrev pub Entries : Type 0
Entries = List (Component × Counted)

-- what is known of a component
abbrev pub at_entry : Entries → Component → Option Counted
at_entry entries c = lookup (is_at (component_cmp c)) entries

abbrev pub book : Entries → ℕ → Book
book entries out = record { known = fin.from_entries entries; out = out }

find-at_entry : (entries : Entries) (c : Component) → fin.find component_cmp c entries ≡ at_entry entries c
find-at_entry [] c = refl
find-at_entry (e ∷ es) c = ap (cond (is_at (component_cmp c) e.0) (Some e.1)) (find-at_entry es c)

pub get-known : (entries : Entries) (c : Component) → fin.get (fin.from_entries {R = component_cmp} entries) c ≡ at_entry entries c
get-known entries c = fin.get-from_entries components_total entries c ∙ find-at_entry entries c

pub same_book : (old new : Entries) (out : ℕ) → ((c : Component) → at_entry new c ≡ at_entry old c) → book new out ≡ book old out
same_book old new out is =
    ap (λ (k : Known). record { known = k; out = out })
    (fin.same_map components_total components_exact (fin.from_entries new) (fin.from_entries old) (λ c. get-known new c ∙ is c ∙ sym (get-known old c)))

-- ---- take

taken_count : (a : Bool) (n : ℕ) (o : Option Counted) → (a ≡ false → n ≡ 0) → count_in (option_map (more n) (cond a (known_so o) o)) ≡ count_in o + n
taken_count true n None none = refl
taken_count true n (Some s) none = refl
taken_count false n None none = omega (arith, none refl)
taken_count false n (Some s) none = refl

taken_current : (a : Bool) (n : ℕ) (o : Option Counted) → current_in (option_map (more n) (cond a (known_so o) o)) ≡ current_in o
taken_current true n None = refl
taken_current true n (Some s) = refl
taken_current false n None = refl
taken_current false n (Some s) = refl

taken_known : (a : Bool) (n : ℕ) (o : Option Counted) → is_some (option_map (more n) (cond a (known_so o) o)) ≡ (is_some o || a)
taken_known true n None = refl
taken_known true n (Some s) = refl
taken_known false n None = refl
taken_known false n (Some s) = refl

pub taken_is : (old new : Entries) (m n : ℕ) (cs : List Component) → ((c : Component) → at_entry new c ≡ each raised cs c (each learnt cs c (at_entry old c))) → n ≡ suc m
    → Taken (book old m) (book new n) cs
taken_is old new m n cs is out =
    let now : (c : Component) → fin.get (fin.from_entries new) c ≡ option_map (more (lists c cs)) (cond (among c cs) (known_so (at_entry old c)) (at_entry old c)) =
    λ c. get-known new c ∙ is c ∙ raised_all cs c (each learnt cs c (at_entry old c)) ∙ ap (λ (o : Option Counted). option_map (more (lists c cs)) o) (learnt_all cs c (at_entry old c)) in
    record {
      counts = λ c. ap count_in (now c) ∙ taken_count (among c cs) (lists c cs) (at_entry old c) (listed_some cs c) ∙ ap (λ (o : Option Counted). count_in o + lists c cs) (sym (get-known old c));
      current = λ c. ap current_in (now c) ∙ taken_current (among c cs) (lists c cs) (at_entry old c) ∙ ap current_in (sym (get-known old c));
      known = λ c. ap (λ (o : Option Counted). is_some o) (now c) ∙ taken_known (among c cs) (lists c cs) (at_entry old c) ∙ ap (λ (o : Option Counted). is_some o || among c cs) (sym (get-known old c));
      out = out;
    }

-- ---- give

given_count : (n : ℕ) (o z : Option Counted) → n ≤ count_in o → o ≡ option_map (more n) z → count_in o ≡ count_in z + n
given_count n o None le is = omega (arith, le, ap count_in is)
given_count n o (Some s) le is = ap count_in is

given_current : (n : ℕ) (o z : Option Counted) → o ≡ option_map (more n) z → current_in z ≡ current_in o
given_current n o None is = ap current_in (sym is)
given_current n o (Some s) is = ap current_in (sym is)

given_known : (n : ℕ) (o z : Option Counted) → o ≡ option_map (more n) z → is_some z ≡ is_some o
given_known n o None is = ap (λ (x : Option Counted). is_some x) (sym is)
given_known n o (Some s) is = ap (λ (x : Option Counted). is_some x) (sym is)

pub given_is : (old new : Entries) (m n : ℕ) (cs : List Component) → ((c : Component) → lists c cs ≤ count_in (at_entry old c))
    → ((c : Component) → at_entry new c ≡ each lowered cs c (at_entry old c)) → m ≡ suc n → Given (book old m) (book new n) cs
given_is old new m n cs le is out =
    let back : (c : Component) → at_entry old c ≡ option_map (more (lists c cs)) (at_entry new c) =
    λ c. lowered_all cs c (at_entry old c) (le c) ∙ ap (λ (o : Option Counted). option_map (more (lists c cs)) o) (sym (is c)) in
    record {
      counts = λ c. ap count_in (get-known old c) ∙ given_count (lists c cs) (at_entry old c) (at_entry new c) (le c) (back c) ∙ ap (λ (o : Option Counted). count_in o + lists c cs) (sym (get-known new c));
      current = λ c. ap current_in (get-known new c) ∙ given_current (lists c cs) (at_entry old c) (at_entry new c) (back c) ∙ ap current_in (sym (get-known old c));
      known = λ c. ap (λ (o : Option Counted). is_some o) (get-known new c) ∙ given_known (lists c cs) (at_entry old c) (at_entry new c) (back c) ∙ ap (λ (o : Option Counted). is_some o) (sym (get-known old c));
      out = out;
    }

-- ---- replace: a for the removed, b for the added

abbrev pub swapped : Bool → Bool → Option Counted → Option Counted
swapped a b o =
    let learnt = cond b (known_so o) o in
    let removed = cond a (option_map (with_current false) learnt) learnt in
    cond b (option_map (with_current true) removed) removed

swapped_count : (a b : Bool) (o : Option Counted) → count_in (swapped a b o) ≡ count_in o
swapped_count true true None = refl
swapped_count true true (Some s) = refl
swapped_count true false None = refl
swapped_count true false (Some s) = refl
swapped_count false true None = refl
swapped_count false true (Some s) = refl
swapped_count false false o = refl

swapped_current : (a b : Bool) (o : Option Counted) → current_in (swapped a b o) ≡ (b || (current_in o && not a))
swapped_current true true None = refl
swapped_current true true (Some s) = refl
swapped_current true false None = refl
swapped_current true false (Some s) = by s.current
  where
    by : (x : Bool) → false ≡ (x && false)
    by true = refl
    by false = refl
swapped_current false true None = refl
swapped_current false true (Some s) = refl
swapped_current false false o = by (current_in o)
  where
    by : (x : Bool) → x ≡ (x && true)
    by true = refl
    by false = refl

swapped_known : (a b : Bool) (o : Option Counted) → is_some (swapped a b o) ≡ (is_some o || b)
swapped_known true true None = refl
swapped_known true true (Some s) = refl
swapped_known true false None = refl
swapped_known true false (Some s) = refl
swapped_known false true None = refl
swapped_known false true (Some s) = refl
swapped_known false false None = refl
swapped_known false false (Some s) = refl

pub replaced_is : (old new : Entries) (out : ℕ) (removed added : List Component)
    → ((c : Component) → at_entry new c ≡ each (marked true) added c (each (marked false) removed c (each learnt added c (at_entry old c)))) → Replaced (book old out) (book new out) removed added
replaced_is old new out removed added is =
    let now : (c : Component) → fin.get (fin.from_entries new) c ≡ swapped (among c removed) (among c added) (at_entry old c) =
    λ c. get-known new c ∙ is c ∙ marked_all true added c (each (marked false) removed c (each learnt added c (at_entry old c)))
    ∙ ap (λ (o : Option Counted). cond (among c added) (option_map (with_current true) o) o)
    (marked_all false removed c (each learnt added c (at_entry old c)) ∙ ap (λ (o : Option Counted). cond (among c removed) (option_map (with_current false) o) o) (learnt_all added c (at_entry old c))) in
    record {
      counts = λ c. ap count_in (now c) ∙ swapped_count (among c removed) (among c added) (at_entry old c) ∙ ap count_in (sym (get-known old c));
      current = λ c. ap current_in (now c) ∙ swapped_current (among c removed) (among c added) (at_entry old c) ∙ ap (λ (o : Option Counted). among c added || (current_in o && not (among c removed))) (sym (get-known old c));
      known = λ c. ap (λ (o : Option Counted). is_some o) (now c) ∙ swapped_known (among c removed) (among c added) (at_entry old c) ∙ ap (λ (o : Option Counted). is_some o || among c added) (sym (get-known old c));
      out = refl;
    }

-- ---- next_dead

dead_current : (o : Option Counted) → dead_in o ≡ true → current_in o ≡ false
dead_current None e = refl
dead_current (Some s) e = by s.current (s.count == 0) e
  where
    by : (b z : Bool) → (not b && z) ≡ true → b ≡ false
    by true z e = cc
    by false z e = refl

gone_count : (b : Bool) (o : Option Counted) → (b ≡ true → dead_in o ≡ true) → count_in (cond b None o) ≡ count_in o
gone_count true o dead = sym (dead_count o (dead refl))
gone_count false o dead = refl

gone_current : (b : Bool) (o : Option Counted) → (b ≡ true → dead_in o ≡ true) → current_in (cond b None o) ≡ current_in o
gone_current true o dead = sym (dead_current o (dead refl))
gone_current false o dead = refl

gone_known : (b : Bool) (o : Option Counted) → is_some (cond b None o) ≡ (is_some o && not b)
gone_known true None = refl
gone_known true (Some s) = refl
gone_known false None = refl
gone_known false (Some s) = refl

pub forgot_is : (old new : Entries) (out : ℕ) (gone : Component) → dead_in (at_entry old gone) ≡ true
    → ((c : Component) → dead_in (at_entry old c) ≡ true → is_lt (component_cmp c gone) ≡ false)
    → ((c : Component) → at_entry new c ≡ forgotten gone c (at_entry old c)) → Forgot (book old out) (book new out) gone
forgot_is old new out gone dead least is =
    let now : (c : Component) → fin.get (fin.from_entries new) c ≡ cond (same gone c) None (at_entry old c) = λ c. get-known new c ∙ is c in
    let so : (c : Component) → same gone c ≡ true → dead_in (at_entry old c) ≡ true = λ c e. subst (λ (k : Component). dead_in (at_entry old k) ≡ true) (one gone c e) dead in
    record {
      dead = ap dead_in (get-known old gone) ∙ dead;
      least = λ c e. least c (sym (ap dead_in (get-known old c)) ∙ e);
      known = λ c. ap (λ (o : Option Counted). is_some o) (now c) ∙ gone_known (same gone c) (at_entry old c) ∙ ap (λ (o : Option Counted). is_some o && not (same gone c)) (sym (get-known old c));
      counts = λ c. ap count_in (now c) ∙ gone_count (same gone c) (at_entry old c) (so c) ∙ ap count_in (sym (get-known old c));
      current = λ c. ap current_in (now c) ∙ gone_current (same gone c) (at_entry old c) (so c) ∙ ap current_in (sym (get-known old c));
      out = refl;
    }

pub none_dead_is : (entries : Entries) (out : ℕ) → ((c : Component) → dead_in (at_entry entries c) ≡ false) → HasNoneDead (book entries out)
none_dead_is entries out none c = ap dead_in (get-known entries c) ∙ none c

-- what a view's components need to be given back, of the entries
pub counted_in : (entries : Entries) (out : ℕ) (b : Book) (cs : List Component) → book entries out ≡ b → AreCounted b cs → (c : Component) → lists c cs ≤ count_in (at_entry entries c)
counted_in entries out b cs is counted c = subst (λ n. lists c cs ≤ n) (ap (λ (b : Book). count_of b c) (sym is) ∙ ap count_in (get-known entries c)) (counted c)
