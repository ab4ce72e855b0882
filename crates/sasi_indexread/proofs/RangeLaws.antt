-- For callers: in an index of numbers, a range asks for the terms whose numbers are in it.
use Rattle.std.specs.Prelude.{◌≡◌, ℕ, ◌==◌, ℤ, ◌≤ℤ◌, int_le, int_lt, FitsSigned, Bool, true, false, not, ◌&&◌, if◌then◌else◌, List, [], ◌∷◌, length, map, Option, Some, None, Result, Ok, Err, IfOk, refl}
use Rattle.std.proofs.Common.{◌∙◌, sym, ap, subst, arith, cond}
use Rattle.std.specs.Int.{Width, w32, w64, saturate_signed}
use Rattle.std.specs.List.{AllByRecursion, filter}
use Rattle.std.proofs.lemmas.Bool.{and_from, and_parts, not_from_false, not-true}
use Rattle.std.proofs.lemmas.Int.{ints}
use Rattle.sasi_types.specs.declared.column.ColumnType.{ColumnType}
use Rattle.sasi_types.specs.declared.column.ColumnType.TheVariants.{Text, Int, BigInt, Uuid}
use Rattle.sasi_types.specs.declared.tree.Pair.{Pair}
use Rattle.sasi_types.specs.Token.{AreBytes}
use Rattle.sasi_host.specs.declared.fault.ReadFault.{ReadFault}
use Rattle.sasi_host.specs.Names.{Bytes}
use Rattle.sasi_terms.specs.declared.op.Op.{Op}
use Rattle.sasi_terms.specs.declared.op.Op.TheVariants.{Eq, Prefix, Suffix, Contains, Range}
use Rattle.sasi_terms.specs.Holds.{holds, is_between}
use Rattle.sasi_terms.specs.Numbers.{bigint_of, bigint_term, int_of, int_term, number_of}
use Rattle.sasi_terms.proofs.NumberOrder.{bigint_back, bigint_bytes, bigint_order, int_back, int_bytes, int_order}
use Rattle.sasi_termblocks.specs.Entries.{is_below}
use Rattle.sasi_indexwrite.specs.Content.{IndexContent, TermPairs}
use Rattle.sasi_indexread.specs.Asked.{AreNumberTerms, IsNumberTerm, asked_lists, holding_lists, is_asked, is_from_to}
use Rattle.sasi_indexread.specs.Searches.{Searching}
use Rattle.sasi_indexread.proofs.Nearest.{nearest_above, nearest_below, nearest_fits, not_beyond, not_short}
use Rattle.sasi_treemerge.specs.Merges.{IsLeast}

-- ---- a range of numbers

truth : (p q : Bool) → (p ≡ true → q ≡ true) → (q ≡ true → p ≡ true) → p ≡ q
truth true q there back = sym (there refl)
truth false true there back = back refl
truth false false there back = refl

le_true : (x y : ℤ) → x ≤ℤ y → int_le x y ≡ true
le_true x y le = sym (omega (arith, ints, le))

lt_false : (x y : ℤ) → y ≤ℤ x → int_lt x y ≡ false
lt_false x y le = sym (omega (arith, ints, le))

-- bounds that are brought into the type, where it has a number in the range, take the same numbers
module _ (least greatest low high x : ℤ) (short : least ≤ℤ x → least ≤ℤ low) (below : least ≤ℤ x → low ≤ℤ x) (above : x ≤ℤ greatest → x ≤ℤ high) (beyond : low ≤ℤ greatest → high ≤ℤ greatest) where
  inside : is_between least greatest (Some low) && (not (int_lt x low) && not (int_lt high x)) ≡ true → is_between least greatest (Some x) ≡ true
  inside h =
      let parts = and_parts (is_between least greatest (Some low)) (not (int_lt x low) && not (int_lt high x)) h in
      let some = and_parts (int_le least low) (int_le low greatest) parts.0 in
      let both = and_parts (not (int_lt x low)) (not (int_lt high x)) parts.1 in
      let one : int_lt x low ≡ false = not-true (int_lt x low) both.0 in
      let two : int_lt high x ≡ false = not-true (int_lt high x) both.1 in
      let reach : low ≤ℤ greatest = omega (arith, ints, some.1) in
      and_from (int_le least x) (int_le x greatest) (le_true least x (omega (arith, ints, some.0, one))) (le_true x greatest (omega (arith, ints, beyond reach, two)))

  outside : is_between least greatest (Some x) ≡ true → is_between least greatest (Some low) && (not (int_lt x low) && not (int_lt high x)) ≡ true
  outside h =
      let both = and_parts (int_le least x) (int_le x greatest) h in
      let one : least ≤ℤ x = omega (arith, ints, both.0) in
      let two : x ≤ℤ greatest = omega (arith, ints, both.1) in
      let some = and_from (int_le least low) (int_le low greatest) (le_true least low (short one)) (le_true low greatest (omega (arith, ints, below one, two))) in
      let within = and_from (not (int_lt x low)) (not (int_lt high x)) (not_from_false (int_lt x low) (lt_false x low (below one))) (not_from_false (int_lt high x) (lt_false high x (above two))) in
      and_from (is_between least greatest (Some low)) (not (int_lt x low) && not (int_lt high x)) some within

  bounds_same : is_between least greatest (Some low) && (not (int_lt x low) && not (int_lt high x)) ≡ is_between least greatest (Some x)
  bounds_same = truth (is_between least greatest (Some low) && (not (int_lt x low) && not (int_lt high x))) (is_between least greatest (Some x)) inside outside

same_range : (w : Width) (least greatest x : ℤ) → FitsSigned w x
    → is_between least greatest (Some (saturate_signed w least)) && (not (int_lt x (saturate_signed w least)) && not (int_lt (saturate_signed w greatest) x)) ≡ is_between least greatest (Some x)
same_range w least greatest x fits =
    bounds_same least greatest (saturate_signed w least) (saturate_signed w greatest) x (not_short w least x fits) (nearest_below w least x fits) (nearest_above w greatest x fits)
    (not_beyond w greatest (saturate_signed w least) (nearest_fits w least))

not_not : (b : Bool) → not (not b) ≡ b
not_not true = refl
not_not false = refl

-- ---- its terms

-- the test of a term is that of its number
from_to : (least greatest term : Bytes) (low high x : ℤ) → is_below term least ≡ int_lt x low → is_below greatest term ≡ int_lt high x → is_from_to least greatest term ≡ not (int_lt x low) && not (int_lt high x)
from_to least greatest term low high x one two = ap (λ (b : Bool). not b && not (is_below greatest term)) one ∙ ap (λ (b : Bool). not (int_lt x low) && not b) two

asked_as : (some test has held : Bool) → test ≡ has → some && has ≡ held → not (not some) && test ≡ held
asked_as some test has held one two = ap (λ (b : Bool). b && test) (not_not some) ∙ ap (λ (b : Bool). some && b) one ∙ two

ints_in : (least greatest : ℤ) (body term : Bytes) → length term ≡ 4 → AreBytes term → is_asked Int (Range least greatest) body term ≡ is_between least greatest (Some (int_of term))
ints_in least greatest body term size are =
    let low = saturate_signed w32 least in
    let high = saturate_signed w32 greatest in
    let x = int_of term in
    let below : is_below term (int_term low) ≡ int_lt x low = int_order term (int_term low) size refl are (int_bytes low) ∙ ap (λ (z : ℤ). int_lt x z) (int_back low (nearest_fits w32 least)) in
    let above : is_below (int_term high) term ≡ int_lt high x = int_order (int_term high) term refl size (int_bytes high) are ∙ ap (λ (z : ℤ). int_lt z x) (int_back high (nearest_fits w32 greatest)) in
    let fits : FitsSigned w32 x = omega (arith, ints) in
    asked_as (is_between least greatest (Some low)) (is_from_to (int_term low) (int_term high) term) (not (int_lt x low) && not (int_lt high x)) (is_between least greatest (Some x))
    (from_to (int_term low) (int_term high) term low high x below above) (same_range w32 least greatest x fits)

bigints_in : (least greatest : ℤ) (body term : Bytes) → length term ≡ 8 → AreBytes term → is_asked BigInt (Range least greatest) body term ≡ is_between least greatest (Some (bigint_of term))
bigints_in least greatest body term size are =
    let low = saturate_signed w64 least in
    let high = saturate_signed w64 greatest in
    let x = bigint_of term in
    let below : is_below term (bigint_term low) ≡ int_lt x low = bigint_order term (bigint_term low) size refl are (bigint_bytes low) ∙ ap (λ (z : ℤ). int_lt x z) (bigint_back low (nearest_fits w64 least)) in
    let above : is_below (bigint_term high) term ≡ int_lt high x = bigint_order (bigint_term high) term refl size (bigint_bytes high) are ∙ ap (λ (z : ℤ). int_lt z x) (bigint_back high (nearest_fits w64 greatest)) in
    let fits : FitsSigned w64 x = omega (arith, ints) in
    asked_as (is_between least greatest (Some low)) (is_from_to (bigint_term low) (bigint_term high) term) (not (int_lt x low) && not (int_lt high x)) (is_between least greatest (Some x))
    (from_to (bigint_term low) (bigint_term high) term low high x below above) (same_range w64 least greatest x fits)

number_of_size : (term : Bytes) (size : ℕ) → length term ≡ size → number_of term ≡ (if size == 4 then Some (int_of term) else (if size == 8 then Some (bigint_of term) else None))
number_of_size term size is = ap (λ (n : ℕ). if n == 4 then Some (int_of term) else (if n == 8 then Some (bigint_of term) else None)) is

range_holds : (kind : ColumnType) (least greatest : ℤ) (body term : Bytes) → IsNumberTerm kind term → is_asked kind (Range least greatest) body term ≡ holds (Range least greatest) term body
range_holds Text least greatest body term is = absurd is
range_holds Int least greatest body term is = ints_in least greatest body term is.0 is.1 ∙ ap (λ (n : Option ℤ). is_between least greatest n) (sym (number_of_size term 4 is.0))
range_holds BigInt least greatest body term is = bigints_in least greatest body term is.0 is.1 ∙ ap (λ (n : Option ℤ). is_between least greatest n) (sym (number_of_size term 8 is.0))
range_holds Uuid least greatest body term is = absurd is

-- a term of a number is asked for where the operator holds for it
pub asked_holds : (kind : ColumnType) (op : Op) (body term : Bytes) → IsNumberTerm kind term → is_asked kind op body term ≡ holds op term body
asked_holds kind Eq body term is = refl
asked_holds kind Prefix body term is = refl
asked_holds kind Suffix body term is = refl
asked_holds kind Contains body term is = refl
asked_holds kind (Range least greatest) body term is = range_holds kind least greatest body term is

-- ---- the lists of an index of numbers

same_kept : (kind : ColumnType) (op : Op) (body : Bytes) (terms : List TermPairs) → AllByRecursion (λ (one : TermPairs). IsNumberTerm kind one.0) terms
    → filter (λ (one : TermPairs). is_asked kind op body one.0) terms ≡ filter (λ (one : TermPairs). holds op one.0 body) terms
same_kept kind op body [] are = refl
same_kept kind op body (one ∷ others) are =
    ap (λ (b : Bool). cond b (one ∷ filter (λ (each : TermPairs). is_asked kind op body each.0) others) (filter (λ (each : TermPairs). is_asked kind op body each.0) others)) (asked_holds kind op body one.0 are.0)
    ∙ ap (λ (l : List TermPairs). cond (holds op one.0 body) (one ∷ l) l) (same_kept kind op body others are.1)

pub lists_holding : (content : IndexContent) (op : Op) (body : Bytes) → AreNumberTerms content → asked_lists content op body ≡ holding_lists content op body
lists_holding content op body are = ap (λ (l : List TermPairs). content.spill ∷ map (λ (one : TermPairs). one.1) l) (same_kept content.kind op body content.terms are)

-- and so the least pair of what is asked for is that of these lists
pub least_holding : (old : Searching) (Was Stays : IndexContent → Type 0) (result : Result (Option Pair) ReadFault)
    → IfOk result (λ found. (content : IndexContent) → Was content → IsLeast (asked_lists content old.op old.body) old.merge.last old.merge.floor found × Stays content)
    → IfOk result (λ found. (content : IndexContent) → Was content → AreNumberTerms content → IsLeast (holding_lists content old.op old.body) old.merge.last old.merge.floor found)
least_holding old Was Stays (Ok found) gives = λ content was are.
    subst (λ (l : List (List Pair)). IsLeast l old.merge.last old.merge.floor found) (lists_holding content old.op old.body are) (gives content was).0
least_holding old Was Stays (Err f) gives = tt
