-- Where the terms that are asked for begin and end, in the order of terms.
use Rattle.std.specs.Prelude.{◌≡◌, ℕ, ◌<◌, Bool, true, false, ◌&&◌, not, nat_eq, [], ◌∷◌, Some, refl}
use Rattle.std.proofs.Common.{◌∙◌, sym, ap, arith, rules}
use Rattle.std.specs.List.{starts_with}
use Rattle.std.specs.Ordering.{MatchOrdering, is_le, is_lt, is_some_and, nat_cmp, ordering_reverse, ordering_then}
use Rattle.std.specs.declared.cmp.Ordering.{Ordering}
use Rattle.std.specs.declared.cmp.Ordering.TheVariants.{Less, Equal, Greater}
use Rattle.std.specs.Cmp.Lexicographic.{lists_agrees, nat_list_cmp_total, pointwise, same_text, slice_cmp, slice_partial_cmp}
use Rattle.std.proofs.lemmas.Bool.{not-false}
use Rattle.std.proofs.lemmas.Cmp.{ranked, tied_itself}
use Rattle.sasi_types.specs.declared.column.ColumnType.{ColumnType}
use Rattle.sasi_host.specs.Names.{Bytes}
use Rattle.sasi_terms.specs.declared.op.Op.{Op}
use Rattle.sasi_terms.specs.declared.op.Op.TheVariants.{Eq, Prefix, Suffix, Contains, Range}
use Rattle.sasi_termblocks.specs.Entries.{is_below}
use Rattle.sasi_indexread.specs.Asked.{is_match, is_run, lower, nearest_term}

not_true : true ≡ false → ⊥
not_true e = cc

-- how two numbers compare
data Compares (x y : ℕ) : Type 0 where
  less : x < y → nat_cmp x y ≡ Less → Compares x y
  same : x ≡ y → nat_cmp x y ≡ Equal → Compares x y
  more : y < x → nat_cmp x y ≡ Greater → Compares x y

compare : (x y : ℕ) → Compares x y
compare x y = from (nat_cmp x y) refl (ranked x y (nat_cmp x y) refl)
  where
    from : (o : Ordering) → nat_cmp x y ≡ o → MatchOrdering o (x < y) (x ≡ y) (y < x) → Compares x y
    from Less is p = less p is
    from Equal is p = same p is
    from Greater is p = more p is

below_by : (x y : ℕ) (xs ys : Bytes) (o : Ordering) → nat_cmp x y ≡ o → is_below (x ∷ xs) (y ∷ ys) ≡ is_lt (ordering_then o (slice_cmp nat_cmp xs ys))
below_by x y xs ys o is = ap (λ (p : Ordering). is_lt (ordering_then p (slice_cmp nat_cmp xs ys))) is

not_same : (x y : ℕ) → x < y → nat_eq x y ≡ false
not_same x y lt = let differs : x ≡ y → ⊥ = λ e. omega (arith, e, lt) in search (rules, differs)

both_true : (a b : Bool) → a && b ≡ true → (a ≡ true) × (b ≡ true)
both_true true b h = (refl, h)
both_true false b h = absurd cc

and_false : (a b : Bool) → b ≡ false → a && b ≡ false
and_false true b h = h
and_false false b h = refl

second_false : (a b : Bool) → a ≡ true → a && b ≡ false → b ≡ false
second_false true b p h = h
second_false false b p h = absurd cc

-- what begins with the body isn't below it
starts_not_below : (term body : Bytes) → starts_with nat_eq term body ≡ true → is_below term body ≡ false
starts_not_below [] [] h = refl
starts_not_below (x ∷ xs) [] h = refl
starts_not_below [] (y ∷ ys) h = absurd cc
starts_not_below (x ∷ xs) (y ∷ ys) h = by (compare x y) (starts_not_below xs ys)
  where
    parts : (nat_eq y x ≡ true) × (starts_with nat_eq xs ys ≡ true)
    parts = both_true (nat_eq y x) (starts_with nat_eq xs ys) h

    by : Compares x y → (starts_with nat_eq xs ys ≡ true → is_below xs ys ≡ false) → is_below (x ∷ xs) (y ∷ ys) ≡ false
    by (less lt is) rest = let e : y ≡ x = search (rules, parts.0) in absurd (omega (arith, e, lt))
    by (same e is) rest = below_by x y xs ys Equal is ∙ rest parts.1
    by (more lt is) rest = below_by x y xs ys Greater is

-- behind a term that isn't below the body and doesn't begin with it, none does
starts_no_more : (first second body : Bytes) → is_below first body ≡ false → starts_with nat_eq first body ≡ false → is_below first second ≡ true → starts_with nat_eq second body ≡ false
starts_no_more first second [] low out rise = absurd cc
starts_no_more [] second (y ∷ ys) low out rise = absurd cc
starts_no_more (x ∷ xs) [] (y ∷ ys) low out rise = absurd cc
starts_no_more (x ∷ xs) (z ∷ zs) (y ∷ ys) low out rise = by (compare x y) (compare x z) (starts_no_more xs zs ys)
  where
    differ : nat_eq y z ≡ false → starts_with nat_eq (z ∷ zs) (y ∷ ys) ≡ false
    differ h = ap (λ (t : Bool). t && starts_with nat_eq zs ys) h

    by : Compares x y → Compares x z → (is_below xs ys ≡ false → starts_with nat_eq xs ys ≡ false → is_below xs zs ≡ true → starts_with nat_eq zs ys ≡ false) → starts_with nat_eq (z ∷ zs) (y ∷ ys) ≡ false
    by (less lt is) other rest = absurd (not_true (sym (below_by x y xs ys Less is) ∙ low))
    by one (more lt is) rest = absurd (not_true (sym rise ∙ below_by x z xs zs Greater is))
    by (same e is) (less lt other) rest = differ (not_same y z (omega (arith, e, lt)))
    by (same e is) (same f other) rest =
        let equal : nat_eq y x ≡ true = search (rules, e) in
        and_false (nat_eq y z) (starts_with nat_eq zs ys)
        (rest (sym (below_by x y xs ys Equal is) ∙ low) (second_false (nat_eq y x) (starts_with nat_eq xs ys) equal out) (sym (below_by x z xs zs Equal other) ∙ rise))
    by (more lt is) (less far other) rest = differ (not_same y z (omega (arith, lt, far)))
    by (more lt is) (same f other) rest = differ (not_same y z (omega (arith, lt, f)))

none_below : (term : Bytes) → is_below term [] ≡ true → ⊥
none_below [] h = cc
none_below (x ∷ xs) h = cc

not_itself : (body : Bytes) → is_below body body ≡ false
not_itself body = ap is_lt (tied_itself nat_list_cmp_total body)

by_truth : (test : Bool) → (test ≡ true → ⊥) → test ≡ false
by_truth true never = absurd (never refl)
by_truth false never = refl

is_less : (o : Ordering) → is_lt o ≡ true → o ≡ Less
is_less Less h = refl
is_less Equal h = absurd cc
is_less Greater h = absurd cc

below_then : (first second third : Bytes) → is_below first second ≡ true → is_below second third ≡ true → is_below first third ≡ true
below_then first second third one two =
    ap is_lt (nat_list_cmp_total.trans first second third (is_less (slice_cmp nat_cmp first second) one) (is_less (slice_cmp nat_cmp second third) two))

-- no term below is asked for
pub below_lower : (kind : ColumnType) (op : Op) (body term : Bytes) → is_below term (lower kind op body) ≡ true → is_match kind op body term ≡ false
below_lower kind Eq body term below =
    by_truth (pointwise nat_eq term body) (λ h. not_true (sym below ∙ ap (λ (t : Bytes). is_below t body) (same_text term body (sym h)) ∙ not_itself body))
below_lower kind Prefix body term below = by_truth (starts_with nat_eq term body) (λ h. not_true (sym below ∙ starts_not_below term body h))
below_lower kind Suffix body term below = absurd (none_below term below)
below_lower kind Contains body term below = absurd (none_below term below)
below_lower kind (Range least greatest) body term below = ap (λ (b : Bool). not b && not (is_below (nearest_term kind greatest) term)) below

-- and none behind the last one of a run
pub past_run : (kind : ColumnType) (op : Op) (body first second : Bytes) → is_run op ≡ true → is_below first (lower kind op body) ≡ false → is_match kind op body first ≡ false → is_below first second ≡ true → is_match kind op body second ≡ false
past_run kind Eq body first second run low out rise =
    by_truth (pointwise nat_eq second body) (λ h. not_true (sym rise ∙ ap (λ (t : Bytes). is_below first t) (same_text second body (sym h)) ∙ low))
past_run kind Prefix body first second run low out rise = starts_no_more first second body low out rise
past_run kind Suffix body first second run low out rise = absurd cc
past_run kind Contains body first second run low out rise = absurd cc
past_run kind (Range least greatest) body first second run low out rise =
    let last = nearest_term kind greatest in
    let above : is_below last first ≡ true = not-false (is_below last first) (second_false (not (is_below first (nearest_term kind least))) (not (is_below last first)) (ap not low) out) in
    and_false (not (is_below second (nearest_term kind least))) (not (is_below last second)) (ap not (below_then last first second above rise))

-- ---- what the code compares

turned : (o : Ordering) → is_le o ≡ not (is_lt (ordering_reverse o))
turned Less = refl
turned Equal = refl
turned Greater = refl

pub up_to : (first second : Bytes) → is_some_and is_le (slice_partial_cmp (λ x y. Some (nat_cmp x y)) first second) ≡ not (is_below second first)
up_to first second =
    ap (is_some_and is_le) (lists_agrees {R = nat_cmp} (λ x y. refl) first second) ∙ turned (slice_cmp nat_cmp first second)
    ∙ ap (λ (o : Ordering). not (is_lt o)) (sym (nat_list_cmp_total.antisymm second first))
