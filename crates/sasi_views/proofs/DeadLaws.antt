-- Dead components among entries that rise.
use Rattle.std.proofs.Common.{◌≡◌, Option, [], Bool, true, false, true≢false, cond, ◌&&◌, ◌∷◌, None, Some, is_lt, refl, sym, ap, subst, ◌∙◌}
use Rattle.std.specs.BTreeMap.{is_at}
use Rattle.std.specs.BTreeMap.Range.{range_contains}
use Rattle.std.specs.Cmp.{eq_by_cmp_equiv}
use Rattle.std.specs.declared.cmp.Ordering.{Ordering}
use Rattle.std.specs.declared.cmp.Ordering.TheVariants.{Less, Equal, Greater}
use Rattle.std.specs.declared.ops.Bound.TheVariants.{Included, Unbounded}
use Rattle.std.specs.List.{AllByRecursion, filter}
use Rattle.std.specs.Ordering.{is_le, ordering_reverse}
use Rattle.std.specs.List.Sorted.{IsStrictlySortedBy}
use Rattle.std.specs.Map.{keys_of}
use Rattle.std.proofs.lemmas.Map.{lookup-none}
use Rattle.std.proofs.lemmas.Map.Entries.{lookup-filter-keys, lookup_head, none_below_head, none_past_head}
use Rattle.std.proofs.lemmas.Map.Keys.{IsDistinct-from_sorted, sorted_head, sorted_tail}
use Rattle.sasi_views.specs.declared.component.Component.{Component}
use Rattle.sasi_views.specs.declared.counted.Counted.{Counted}
use Rattle.sasi_views.specs.Books.{dead_in}
use Rattle.sasi_views.specs.Components.{component_cmp}
use Rattle.sasi_views.specs.ComponentLaws.{components_total}
use Rattle.sasi_views.proofs.BookChanges.{Entries, at_entry}
use Rattle.sasi_views.proofs.StepLaws.{one, same_itself}

abbrev pub AreRising : Entries → Type 0
AreRising entries = IsStrictlySortedBy component_cmp (keys_of entries)

-- none of the later entries is of a component that the first one is of
pub none_later : (e : Component × Counted) (es : Entries) (c : Component) → AreRising (e ∷ es) → is_at (component_cmp c) e.0 ≡ true → at_entry es c ≡ None
none_later e es c rise is = lookup-none (is_at (component_cmp c)) es (none_past_head (eq_by_cmp_equiv components_total) c e es (IsDistinct-from_sorted component_cmp (keys_of (e ∷ es)) rise) is)

pub rise_next : (e : Component × Counted) (s t : Entries) → s ≡ e ∷ t → AreRising s → AreRising t
rise_next e s t is rise = sorted_tail component_cmp e.0 (keys_of t) (subst AreRising is rise)

-- an entry that isn't dead may be passed
pub passed : (e : Component × Counted) (es : Entries) (c : Component) → AreRising (e ∷ es) → dead_in (Some e.1) ≡ false → dead_in (at_entry (e ∷ es) c) ≡ dead_in (at_entry es c)
passed e es c rise alive = by (is_at (component_cmp c) e.0) refl
  where
    by : (b : Bool) → is_at (component_cmp c) e.0 ≡ b → dead_in (cond b (Some e.1) (at_entry es c)) ≡ dead_in (at_entry es c)
    by true is = alive ∙ sym (ap dead_in (none_later e es c rise is))
    by false is = refl

pub head_dead : (e : Component × Counted) (es : Entries) → dead_in (Some e.1) ≡ true → dead_in (at_entry (e ∷ es) e.0) ≡ true
head_dead e es dead = ap dead_in (lookup_head (is_at (component_cmp e.0)) e es (same_itself e.0)) ∙ dead

-- nothing dead is below the first entry
pub none_below : (e : Component × Counted) (es : Entries) (c : Component) → AreRising (e ∷ es) → dead_in (at_entry (e ∷ es) c) ≡ true → is_lt (component_cmp c e.0) ≡ false
none_below e es c rise dead = by (component_cmp c e.0) refl
  where
    by : (r : Ordering) → component_cmp c e.0 ≡ r → is_lt r ≡ false
    by Less is = absurd (true≢false (sym dead ∙ ap dead_in (lookup-none (is_at (component_cmp c)) (e ∷ es) (none_below_head components_total c e es rise is))))
    by Equal is = refl
    by Greater is = refl

-- ---- a loop over the entries: s is left of them before the turn, and t behind it

pub pass_next : (e : Component × Counted) (s t whole : Entries) (c : Component) → s ≡ e ∷ t → AreRising s → dead_in (Some e.1) ≡ false
    → dead_in (at_entry whole c) ≡ dead_in (at_entry s c) → dead_in (at_entry whole c) ≡ dead_in (at_entry t c)
pass_next e s t whole c is rise alive before = before ∙ ap (λ (es : Entries). dead_in (at_entry es c)) is ∙ passed e t c (subst AreRising is rise) alive

pub found_dead : (e : Component × Counted) (s t whole : Entries) → s ≡ e ∷ t → dead_in (Some e.1) ≡ true → ((c : Component) → dead_in (at_entry whole c) ≡ dead_in (at_entry s c))
    → dead_in (at_entry whole e.0) ≡ true
found_dead e s t whole is dead before = before e.0 ∙ ap (λ (es : Entries). dead_in (at_entry es e.0)) is ∙ head_dead e t dead

pub found_least : (e : Component × Counted) (s t whole : Entries) (c : Component) → s ≡ e ∷ t → AreRising s → dead_in (at_entry whole c) ≡ dead_in (at_entry s c)
    → dead_in (at_entry whole c) ≡ true → is_lt (component_cmp c e.0) ≡ false
found_least e s t whole c is rise before dead =
    none_below e t c (subst AreRising is rise) (sym (ap (λ (es : Entries). dead_in (at_entry es c)) is) ∙ sym before ∙ dead)

-- ---- the entries from a component on

abbrev pub is_from : Component → Component → Bool
is_from from c = range_contains component_cmp (Included from) Unbounded c

abbrev pub entries_from : Component → Entries → Entries
entries_from from entries = filter (λ e. is_from from e.0) entries

all_more : (P : Component → Type 0) (e : Component × Counted) (es : Entries) → P e.0 → AllByRecursion P (keys_of es) → (b : Bool) → AllByRecursion P (keys_of (cond b (e ∷ es) es))
all_more P e es first rest true = (first, rest)
all_more P e es first rest false = rest

all_from : (P : Component → Type 0) (from : Component) (es : Entries) → AllByRecursion P (keys_of es) → AllByRecursion P (keys_of (entries_from from es))
all_from P from [] all = tt
all_from P from (e ∷ es) all = all_more P e (entries_from from es) all.0 (all_from P from es all.1) (is_from from e.0)

rise_first : (e : Component × Counted) (es : Entries) → AllByRecursion (λ k. component_cmp e.0 k ≡ Less) (keys_of es) → AreRising es → AreRising (e ∷ es)
unfolding IsStrictlySortedBy
rise_first e es above rise = (above, rise)

rise_more : (e : Component × Counted) (es : Entries) → AllByRecursion (λ k. component_cmp e.0 k ≡ Less) (keys_of es) → AreRising es → (b : Bool) → AreRising (cond b (e ∷ es) es)
rise_more e es above rise true = rise_first e es above rise
rise_more e es above rise false = rise

pub rise_from : (from : Component) (es : Entries) → AreRising es → AreRising (entries_from from es)
rise_from from [] rise = rise
rise_from from (e ∷ es) rise =
    rise_more e (entries_from from es) (all_from (λ k. component_cmp e.0 k ≡ Less) from es (sorted_head component_cmp e.0 (keys_of es) rise))
    (rise_from from es (sorted_tail component_cmp e.0 (keys_of es) rise)) (is_from from e.0)

below_from : (r : Ordering) → (is_le r && true) ≡ false → is_lt (ordering_reverse r) ≡ true
below_from Less e = cc
below_from Equal e = cc
below_from Greater e = refl

alive : (o : Option Counted) → (dead_in o ≡ true → ⊥) → dead_in o ≡ false
alive o not_dead = by (dead_in o) refl
  where
    by : (b : Bool) → dead_in o ≡ b → b ≡ false
    by true e = absurd (not_dead e)
    by false e = refl

-- where no component below it is dead, what is dead is among them
pub dead_from : (from : Component) (es : Entries) (c : Component) → (dead_in (at_entry es c) ≡ true → is_lt (component_cmp c from) ≡ false)
    → dead_in (at_entry es c) ≡ dead_in (at_entry (entries_from from es) c)
dead_from from es c below =
    by (is_from from c) refl
    ∙ sym (ap dead_in (lookup-filter-keys (is_at (component_cmp c)) (is_from from) (is_from from c) (λ k e. ap (is_from from) (sym (one c k e))) es))
  where
    by : (b : Bool) → is_from from c ≡ b → dead_in (at_entry es c) ≡ dead_in (cond b (at_entry es c) None)
    by true is = refl
    by false is = alive (at_entry es c) (λ e. true≢false (sym (ap is_lt (components_total.antisymm c from) ∙ below_from (component_cmp from c) is) ∙ below e))
