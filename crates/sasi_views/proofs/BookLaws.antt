-- Laws for who keeps a book and the views that are out: each count is the number of views kept that list the component.
use Rattle.std.proofs.Common.{◌≡◌, ℕ, ◌+◌, ◌==◌, ◌≤◌, Bool, true, false, not, ◌&&◌, List, [], ◌∷◌, ◌++◌, Option, None, Some, refl, sym, ap, ◌∙◌, if◌then◌else◌, arith, length-append, eqb-true}
use Rattle.std.specs.Cmp.{eq_by_cmp_equiv}
use Rattle.std.specs.FinMap as map_
use Rattle.std.specs.List.{AllByRecursion, IsDistinct}
use Rattle.std.specs.Ordering.{is_eq}
use Rattle.std.specs.declared.cmp.Ordering.{Ordering}
use Rattle.std.specs.declared.cmp.Ordering.TheVariants.{Less, Equal, Greater}
use Rattle.std.proofs.lemmas.Map.Keys.{IsDistinct-head, IsDistinct-tail}
use Rattle.sasi_views.specs.declared.component.Component.{Component}
use Rattle.sasi_views.specs.declared.counted.Counted.{Counted}
use Rattle.sasi_views.specs.declared.part.Part.{Part}
use Rattle.sasi_views.specs.Books.{Book, count_in, count_of, dead_in, is_dead}
use Rattle.sasi_views.specs.Changes.{AreCounted, Forgot, Given, Replaced, Taken}
use Rattle.sasi_views.specs.Components.{component_cmp, lists, same}
use Rattle.sasi_views.specs.ComponentLaws.{components_total}
use Rattle.sasi_views.specs.Kept.{IsCounted, listed_by}
use Rattle.sasi_views.specs.Parts.{components_of}

listed_both : (c : Component) (xs ys : List (List Part)) → listed_by c (xs ++ ys) ≡ listed_by c xs + listed_by c ys
listed_both c [] ys = omega arith
listed_both c (x ∷ xs) ys = omega (arith, listed_both c xs ys)

-- the new book has no views
pub new_counted : (book : Book) → book ≡ record { known = map_.empty; out = 0 } → IsCounted book []
new_counted book is = record {
  counts = λ c. ap (λ (b : Book). count_of b c) is ∙ ap count_in (map_.get-empty component_cmp c);
  out = ap (λ (b : Book). b.out) is;
}

pub take_counted : (old new : Book) (views : List (List Part)) (view : List Part) → Taken old new (components_of view) → IsCounted old views → IsCounted new (views ++ view ∷ [])
take_counted old new views view taken is = record {
  counts = λ c. omega (arith, taken.counts c, is.counts c, listed_both c views (view ∷ []));
  out = omega (arith, taken.out, is.out, length-append views (view ∷ []));
}

-- a view that is kept may be given back
pub kept_view : (book : Book) (before after : List (List Part)) (view : List Part) → IsCounted book (before ++ view ∷ after) → AreCounted book (components_of view)
kept_view book before after view is c = omega (arith, is.counts c, listed_both c before (view ∷ after))

pub kept_out : (book : Book) (before after : List (List Part)) (view : List Part) → IsCounted book (before ++ view ∷ after) → 1 ≤ book.out
kept_out book before after view is = omega (arith, is.out, length-append before (view ∷ after))

pub give_counted : (old new : Book) (before after : List (List Part)) (view : List Part) → Given old new (components_of view) → IsCounted old (before ++ view ∷ after) → IsCounted new (before ++ after)
give_counted old new before after view given is = record {
  counts = λ c. omega (arith, given.counts c, is.counts c, listed_both c before (view ∷ after), listed_both c before after);
  out = omega (arith, given.out, is.out, length-append before (view ∷ after), length-append before after);
}

pub replace_counted : (old new : Book) (removed added : List Component) (views : List (List Part)) → Replaced old new removed added → IsCounted old views → IsCounted new views
replace_counted old new removed added views replaced is = record { counts = λ c. replaced.counts c ∙ is.counts c; out = replaced.out ∙ is.out }

pub forget_counted : (old new : Book) (gone : Component) (views : List (List Part)) → Forgot old new gone → IsCounted old views → IsCounted new views
forget_counted old new gone views forgot is = record { counts = λ c. forgot.counts c ∙ is.counts c; out = forgot.out ∙ is.out }

pub dead_count : (o : Option Counted) → dead_in o ≡ true → count_in o ≡ 0
dead_count None e = refl
dead_count (Some s) e = by s.current e
  where
    by : (b : Bool) → (not b && (s.count == 0)) ≡ true → s.count ≡ 0
    by true e = cc
    by false e = eqb-true s.count 0 e

-- what is dead no view lists that is kept
pub dead_unlisted : (book : Book) (views : List (List Part)) (c : Component) → IsCounted book views → is_dead book c ≡ true → listed_by c views ≡ 0
dead_unlisted book views c is dead = sym (is.counts c) ∙ dead_count (map_.get book.known c) dead

-- ---- lists without a component that stands twice

abbrev one_if : Bool → ℕ
one_if b = if b then 1 else 0

none_listed : (c x : Component) (xs : List Component) → component_cmp x c ≡ Equal → AllByRecursion (λ y. same x y ≡ false) xs → lists c xs ≡ 0
none_listed c x [] is apart = refl
none_listed c x (y ∷ ys) is apart =
    omega (arith, none_listed c x ys is apart.1, ap one_if ((eq_by_cmp_equiv components_total).symm y c ∙ ap is_eq (sym (components_total.congr x c y is)) ∙ apart.0))

is_equal : (r : Ordering) → is_eq r ≡ true → r ≡ Equal
is_equal Less e = cc
is_equal Equal e = refl
is_equal Greater e = cc

-- components of which no two are one are listed once each
pub listed_once : (xs : List Component) → IsDistinct same xs → (c : Component) → lists c xs ≤ 1
listed_once [] apart c = omega arith
listed_once (x ∷ xs) apart c = by (same x c) refl (listed_once xs (IsDistinct-tail same x xs apart) c)
  where
    by : (b : Bool) → same x c ≡ b → lists c xs ≤ 1 → one_if b + lists c xs ≤ 1
    by true e rest = omega (arith, none_listed c x xs (is_equal (component_cmp x c) e) (IsDistinct-head same x xs apart))
    by false e rest = omega (arith, rest)
