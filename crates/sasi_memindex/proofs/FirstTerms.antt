-- Where the terms that are asked for begin, and where they end.
use Rattle.std.proofs.Common.{◌≡◌, ℕ, ◌-◌, ◌^◌, ◌<◌, ℤ, pos, negsuc, ◌≤ℤ◌, int_le, int_lt, FitsSigned, Bool, true, false, ◌&&◌, ◌==◌, if◌then◌else◌, nat_eq, List, [], ◌∷◌, length, Option, None, Some, refl, sym, ap, subst, ◌∙◌, arith, rules, pow_pos}
use Rattle.std.specs.Int.{Width, w32, w64, saturate_signed}
use Rattle.std.specs.List.{starts_with}
use Rattle.std.specs.Ordering.{MatchOrdering, is_lt, nat_cmp, ordering_then}
use Rattle.std.specs.declared.cmp.Ordering.{Ordering}
use Rattle.std.specs.declared.cmp.Ordering.TheVariants.{Less, Equal, Greater}
use Rattle.std.specs.Cmp.Lexicographic.{nat_list_cmp_total, pointwise, same_text, slice_cmp}
use Rattle.std.proofs.lemmas.Cmp.{ranked, tied_itself}
use Rattle.std.proofs.lemmas.Int.{ints}
use mir.Val.{hbits}
use Rattle.sasi_types.specs.declared.column.ColumnType.{ColumnType}
use Rattle.sasi_types.specs.declared.column.ColumnType.TheVariants.{Text, Int, BigInt, Uuid}
use Rattle.sasi_types.specs.Term.{term_cmp}
use Rattle.sasi_types.specs.Token.{AreBytes}
use Rattle.sasi_terms.specs.declared.op.Op.{Op}
use Rattle.sasi_terms.specs.declared.op.Op.TheVariants.{Eq, Prefix, Suffix, Contains, Range}
use Rattle.sasi_terms.specs.Holds.{holds, is_between}
use Rattle.sasi_terms.specs.Numbers.{bigint_of, bigint_term, int_of, int_term, number_of}
use Rattle.sasi_terms.proofs.NumberOrder.{bigint_back, bigint_bytes, bigint_order, int_back, int_bytes, int_order}
use Rattle.sasi_memindex.specs.Kept.{IsTermOf}
use Rattle.sasi_memindex.specs.Runs.{IsFirstTerm, first_term}

abbrev is_below : List ℕ → List ℕ → Bool
is_below a b = is_lt (term_cmp a b)

not_true : true ≡ false → ⊥
not_true e = cc

by_truth : (test : Bool) → (test ≡ true → ⊥) → test ≡ false
by_truth true never = absurd (never refl)
by_truth false never = refl

-- ---- bytes

-- how two numbers compare
pub data Compares (x y : ℕ) : Type 0 where
  less : x < y → nat_cmp x y ≡ Less → Compares x y
  alike : x ≡ y → nat_cmp x y ≡ Equal → Compares x y
  more : y < x → nat_cmp x y ≡ Greater → Compares x y

pub compare : (x y : ℕ) → Compares x y
compare x y = from (nat_cmp x y) refl (ranked x y (nat_cmp x y) refl)
  where
    from : (o : Ordering) → nat_cmp x y ≡ o → MatchOrdering o (x < y) (x ≡ y) (y < x) → Compares x y
    from Less is p = less p is
    from Equal is p = alike p is
    from Greater is p = more p is

below_by : (x y : ℕ) (xs ys : List ℕ) (o : Ordering) → nat_cmp x y ≡ o → is_below (x ∷ xs) (y ∷ ys) ≡ is_lt (ordering_then o (slice_cmp nat_cmp xs ys))
below_by x y xs ys o is = ap (λ (p : Ordering). is_lt (ordering_then p (slice_cmp nat_cmp xs ys))) is

not_same : (x y : ℕ) → x < y → nat_eq x y ≡ false
not_same x y lt = let differs : x ≡ y → ⊥ = λ e. omega (arith, e, lt) in search (rules, differs)

both_true : (a b : Bool) → (a && b) ≡ true → (a ≡ true) × (b ≡ true)
both_true true b h = (refl, h)
both_true false b h = absurd cc

and_false : (a b : Bool) → b ≡ false → (a && b) ≡ false
and_false true b h = h
and_false false b h = refl

second_false : (a b : Bool) → a ≡ true → (a && b) ≡ false → b ≡ false
second_false true b p h = h
second_false false b p h = absurd cc

-- what begins with the body isn't below it
starts_not_below : (term body : List ℕ) → starts_with nat_eq term body ≡ true → is_below term body ≡ false
starts_not_below [] [] h = refl
starts_not_below (x ∷ xs) [] h = refl
starts_not_below [] (y ∷ ys) h = absurd cc
starts_not_below (x ∷ xs) (y ∷ ys) h = by (compare x y) (starts_not_below xs ys)
  where
    parts : (nat_eq y x ≡ true) × (starts_with nat_eq xs ys ≡ true)
    parts = both_true (nat_eq y x) (starts_with nat_eq xs ys) h

    by : Compares x y → (starts_with nat_eq xs ys ≡ true → is_below xs ys ≡ false) → is_below (x ∷ xs) (y ∷ ys) ≡ false
    by (less lt is) rest = let e : y ≡ x = search (rules, parts.0) in absurd (omega (arith, e, lt))
    by (alike e is) rest = below_by x y xs ys Equal is ∙ rest parts.1
    by (more lt is) rest = below_by x y xs ys Greater is

-- above a term that isn't below the body and doesn't begin with it, none does
starts_no_more : (first second body : List ℕ) → is_below first body ≡ false → starts_with nat_eq first body ≡ false → is_below first second ≡ true → starts_with nat_eq second body ≡ false
starts_no_more first second [] low out rise = absurd cc
starts_no_more [] second (y ∷ ys) low out rise = absurd cc
starts_no_more (x ∷ xs) [] (y ∷ ys) low out rise = absurd cc
starts_no_more (x ∷ xs) (z ∷ zs) (y ∷ ys) low out rise = by (compare x y) (compare x z) (starts_no_more xs zs ys)
  where
    differ : nat_eq y z ≡ false → starts_with nat_eq (z ∷ zs) (y ∷ ys) ≡ false
    differ h = ap (λ (t : Bool). t && starts_with nat_eq zs ys) h

    by : Compares x y → Compares x z → (is_below xs ys ≡ false → starts_with nat_eq xs ys ≡ false → is_below xs zs ≡ true → starts_with nat_eq zs ys ≡ false) → starts_with nat_eq (z ∷ zs) (y ∷ ys) ≡ false
    by (less lt is) other rest = absurd (not_true (sym (below_by x y xs ys Less is) ∙ low))
    by one (more lt is) rest = absurd (not_true (sym rise ∙ below_by x z xs zs Greater is))
    by (alike e is) (less lt other) rest = differ (not_same y z (omega (arith, e, lt)))
    by (alike e is) (alike f other) rest =
        let equal : nat_eq y x ≡ true = search (rules, e) in
        and_false (nat_eq y z) (starts_with nat_eq zs ys)
        (rest (sym (below_by x y xs ys Equal is) ∙ low) (second_false (nat_eq y x) (starts_with nat_eq xs ys) equal out) (sym (below_by x z xs zs Equal other) ∙ rise))
    by (more lt is) (less far other) rest = differ (not_same y z (omega (arith, lt, far)))
    by (more lt is) (alike f other) rest = differ (not_same y z (omega (arith, lt, f)))

not_itself : (body : List ℕ) → is_below body body ≡ false
not_itself body = ap is_lt (tied_itself nat_list_cmp_total body)

-- ---- numbers

nearest_fits : (w : Width) (z : ℤ) → FitsSigned w (saturate_signed w z)
nearest_fits w (pos n) = record { sfits = omega (arith, pow_pos (hbits w)) }
nearest_fits w (negsuc n) = record { sfits = omega (arith, pow_pos (hbits w)) }

-- no number of the type is between the two
nearest_below : (w : Width) (z x : ℤ) → FitsSigned w x → z ≤ℤ x → saturate_signed w z ≤ℤ x
nearest_below w (pos n) (pos m) fits le = omega (arith, ints, le, fits.sfits)
nearest_below w (pos n) (negsuc m) fits le = omega (arith, ints, le)
nearest_below w (negsuc n) (pos m) fits le = omega (arith, ints)
nearest_below w (negsuc n) (negsuc m) fits le = omega (arith, ints, le, fits.sfits)

not_short : (w : Width) (z x : ℤ) → FitsSigned w x → z ≤ℤ x → z ≤ℤ saturate_signed w z
not_short w (pos n) (pos m) fits le = omega (arith, ints, le, fits.sfits)
not_short w (pos n) (negsuc m) fits le = omega (arith, ints, le)
not_short w (negsuc n) x fits le = omega (arith, ints)

le_true : (x y : ℤ) → x ≤ℤ y → int_le x y ≡ true
le_true x y le = sym (omega (arith, ints, le))

-- below the nearest number to the least one there is none in the range
range_below : (w : Width) (least greatest x : ℤ) → FitsSigned w x → int_lt x (saturate_signed w least) ≡ true → is_between least greatest (Some x) ≡ false
range_below w least greatest x fits low = by_truth (is_between least greatest (Some x)) (λ h.
    let one = (both_true (int_le least x) (int_le x greatest) h).0 in
    let le : least ≤ℤ x = omega (arith, ints, one) in
    omega (arith, ints, low, nearest_below w least x fits le))

-- and none above one from there on that isn't in it
range_after : (w : Width) (least greatest x y : ℤ) → FitsSigned w x → FitsSigned w y → int_lt x (saturate_signed w least) ≡ false → is_between least greatest (Some x) ≡ false → int_lt x y ≡ true → is_between least greatest (Some y) ≡ false
range_after w least greatest x y fits fits_too from out rise = by_truth (is_between least greatest (Some y)) (λ h.
    let parts = both_true (int_le least y) (int_le y greatest) h in
    let le : least ≤ℤ y = omega (arith, ints, parts.0) in
    let short = not_short w least y fits_too le in
    let one = le_true least x (omega (arith, ints, short, from)) in
    let two = le_true x greatest (omega (arith, ints, parts.1, rise)) in
    not_true (sym (ap (λ b. b && int_le x greatest) one ∙ two) ∙ out))

number_of_size : (term : List ℕ) (size : ℕ) → length term ≡ size → number_of term ≡ (if size == 4 then Some (int_of term) else (if size == 8 then Some (bigint_of term) else None))
number_of_size term size is = ap (λ (n : ℕ). if n == 4 then Some (int_of term) else (if n == 8 then Some (bigint_of term) else None)) is

-- ---- a first term

first_itself : (type : ColumnType) (body : List ℕ) → IsFirstTerm type Eq body body
first_itself type body = record {
  below = λ term is low. by_truth (pointwise nat_eq term body) (λ h. not_true (sym low ∙ ap (λ (t : List ℕ). is_below t body) (same_text term body (sym h)) ∙ not_itself body));
  after = λ term above is are from out rise. by_truth (pointwise nat_eq above body) (λ h. not_true (sym rise ∙ ap (λ (t : List ℕ). is_below term t) (same_text above body (sym h)) ∙ from));
}

first_prefix : (type : ColumnType) (body : List ℕ) → IsFirstTerm type Prefix body body
first_prefix type body = record {
  below = λ term is low. by_truth (starts_with nat_eq term body) (λ h. not_true (sym low ∙ starts_not_below term body h));
  after = λ term above is are from out rise. starts_no_more term above body from out rise;
}

first_int : (least greatest : ℤ) (body : List ℕ) → IsFirstTerm Int (Range least greatest) body (int_term (saturate_signed w32 least))
first_int least greatest body = record {
  below = λ term is low.
      ap (is_between least greatest) (number_of_size term 4 is.0)
      ∙ range_below w32 least greatest (int_of term) (omega (arith, ints)) (sym (order term is.0 is.1) ∙ low);
  after = λ term above is are from out rise.
      ap (is_between least greatest) (number_of_size above 4 are.0)
      ∙ range_after w32 least greatest (int_of term) (int_of above) (omega (arith, ints)) (omega (arith, ints)) (sym (order term is.0 is.1) ∙ from)
      (sym (ap (is_between least greatest) (number_of_size term 4 is.0)) ∙ out) (sym (int_order term above is.0 are.0 is.1 are.1) ∙ rise);
}
  where
    order : (term : List ℕ) → length term ≡ 4 → AreBytes term → is_below term (int_term (saturate_signed w32 least)) ≡ int_lt (int_of term) (saturate_signed w32 least)
    order term size are =
        int_order term (int_term (saturate_signed w32 least)) size refl are (int_bytes (saturate_signed w32 least))
        ∙ ap (λ (z : ℤ). int_lt (int_of term) z) (int_back (saturate_signed w32 least) (nearest_fits w32 least))

first_bigint : (least greatest : ℤ) (body : List ℕ) → IsFirstTerm BigInt (Range least greatest) body (bigint_term (saturate_signed w64 least))
first_bigint least greatest body = record {
  below = λ term is low.
      ap (is_between least greatest) (number_of_size term 8 is.0)
      ∙ range_below w64 least greatest (bigint_of term) (omega (arith, ints)) (sym (order term is.0 is.1) ∙ low);
  after = λ term above is are from out rise.
      ap (is_between least greatest) (number_of_size above 8 are.0)
      ∙ range_after w64 least greatest (bigint_of term) (bigint_of above) (omega (arith, ints)) (omega (arith, ints)) (sym (order term is.0 is.1) ∙ from)
      (sym (ap (is_between least greatest) (number_of_size term 8 is.0)) ∙ out) (sym (bigint_order term above is.0 are.0 is.1 are.1) ∙ rise);
}
  where
    order : (term : List ℕ) → length term ≡ 8 → AreBytes term → is_below term (bigint_term (saturate_signed w64 least)) ≡ int_lt (bigint_of term) (saturate_signed w64 least)
    order term size are =
        bigint_order term (bigint_term (saturate_signed w64 least)) size refl are (bigint_bytes (saturate_signed w64 least))
        ∙ ap (λ (z : ℤ). int_lt (bigint_of term) z) (bigint_back (saturate_signed w64 least) (nearest_fits w64 least))

in_some : {A : Type 0} (x y : A) → Some x ≡ Some y → x ≡ y
in_some x y e = cc

pub first_is : (type : ColumnType) (op : Op) (body first : List ℕ) → first_term type op body ≡ Some first → IsFirstTerm type op body first
first_is type Eq body first e = subst (IsFirstTerm type Eq body) (in_some body first e) (first_itself type body)
first_is type Prefix body first e = subst (IsFirstTerm type Prefix body) (in_some body first e) (first_prefix type body)
first_is type Suffix body first e = absurd cc
first_is type Contains body first e = absurd cc
first_is Text (Range least greatest) body first e = absurd cc
first_is Int (Range least greatest) body first e = subst (IsFirstTerm Int (Range least greatest) body) (in_some _ first e) (first_int least greatest body)
first_is BigInt (Range least greatest) body first e = subst (IsFirstTerm BigInt (Range least greatest) body) (in_some _ first e) (first_bigint least greatest body)
first_is Uuid (Range least greatest) body first e = absurd cc
