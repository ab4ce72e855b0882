-- The least posting of a term, from which on a search looks.
use Rattle.std.proofs.Common.{◌≡◌, ℕ, ◌≤◌, Bool, true, false, List, [], ◌∷◌, length, refl, sym, ap, ◌∙◌, arith}
use Rattle.std.specs.BTreeSet.{BTreeSet}
use Rattle.std.specs.BTreeSet as tree
use Rattle.std.specs.declared.cmp.Ordering.{Ordering}
use Rattle.std.specs.declared.cmp.Ordering.TheVariants.{Less, Equal, Greater}
use Rattle.std.specs.Cmp.Lexicographic.{nat_list_cmp_total, slice_cmp}
use Rattle.std.specs.FinSet as set
use Rattle.std.specs.Ordering.{is_le, is_lt, nat_cmp, ordering_reverse, ordering_then}
use Rattle.sasi_types.specs.declared.column.ColumnType.{ColumnType}
use Rattle.sasi_types.specs.declared.decorated_key.DecoratedKey.{DecoratedKey}
use Rattle.sasi_types.specs.DecoratedKey.{decorated_cmp}
use Rattle.sasi_types.specs.Term.{term_cmp}
use Rattle.sasi_terms.specs.declared.op.Op.{Op}
use Rattle.sasi_terms.specs.Holds.{holds}
use Rattle.sasi_memindex.specs.declared.posting.Posting.{Posting}
use Rattle.sasi_memindex.specs.Kept.{AreOf, IsPostingOf, set_of}
use Rattle.sasi_memindex.specs.Postings.{posting, posting_cmp}
use Rattle.sasi_memindex.specs.Runs.{IsFirst, IsFirstTerm}
use Rattle.sasi_memindex.proofs.FirstTerms.{Compares, compare}
use Rattle.sasi_memindex.proofs.FirstTerms.Compares.{less, alike, more}
use Rattle.sasi_memindex.proofs.PostingLaws.{contains-set_of}

abbrev least_key : DecoratedKey
least_key = record { token = 0; key = 0 ∷ [] }

then_le : (n : ℕ) (s : Ordering) → Compares 0 n → is_le s ≡ true → is_le (ordering_then (nat_cmp 0 n) s) ≡ true
then_le n s (less lt is) le = ap (λ r. is_le (ordering_then r s)) is
then_le n s (alike e is) le = ap (λ r. is_le (ordering_then r s)) is ∙ le
then_le n s (more lt is) le = absurd (omega (arith, lt))

nothing_le : (bs : List ℕ) → is_le (slice_cmp nat_cmp [] bs) ≡ true
nothing_le [] = refl
nothing_le (b ∷ bs) = refl

key_le : (key : List ℕ) → 1 ≤ length key → is_le (slice_cmp nat_cmp (0 ∷ []) key) ≡ true
key_le [] some = absurd (omega (arith, some))
key_le (b ∷ bs) some = then_le b (slice_cmp nat_cmp [] bs) (compare 0 b) (nothing_le bs)

least_le : (k : DecoratedKey) → 1 ≤ length k.key → is_le (decorated_cmp least_key k) ≡ true
least_le k some = then_le k.token (slice_cmp nat_cmp (0 ∷ []) k.key) (compare 0 k.token) (key_le k.key some)

not_both : {A : Type 0} (b : Bool) → b ≡ true → b ≡ false → A
not_both true e f = absurd cc
not_both false e f = absurd cc

same_term : (a b : List ℕ) → term_cmp a b ≡ Equal → a ≡ b
same_term a b e = set.slice_cmp-IsAntisymmetric set.nat_cmp-IsAntisymmetric a b e

pub first_posting : (type : ColumnType) (op : Op) (body first : List ℕ) → IsFirstTerm type op body first → (s : BTreeSet Posting) → AreOf type (set_of s) → IsFirst op body (posting first least_key) s
first_posting type op body first is s are = record {
  below = λ p has le. below p (of p has) (term_cmp first p.term) refl le;
  after = λ p q has has_too le isnt rise. after p q (of p has) (of q has_too) isnt (term_cmp first p.term) refl le (term_cmp p.term q.term) refl rise;
}
  where
    of : (p : Posting) → tree.contains posting_cmp s p ≡ true → IsPostingOf type p
    of p has = are p (contains-set_of s p ∙ has)

    below : (p : Posting) → IsPostingOf type p → (r : Ordering) → term_cmp first p.term ≡ r → is_le (ordering_then (term_cmp first p.term) (decorated_cmp least_key p.key)) ≡ false → holds op p.term body ≡ false
    below p is_of Less e le = not_both true refl (sym (ap (λ r. is_le (ordering_then r (decorated_cmp least_key p.key))) e) ∙ le)
    below p is_of Equal e le = not_both (is_le (decorated_cmp least_key p.key)) (least_le p.key is_of.key) (sym (ap (λ r. is_le (ordering_then r (decorated_cmp least_key p.key))) e) ∙ le)
    below p is_of Greater e le = is.below p.term is_of.term (ap is_lt (nat_list_cmp_total.antisymm p.term first ∙ ap ordering_reverse e))

    not_less : (p : Posting) (r : Ordering) → term_cmp first p.term ≡ r → is_le (ordering_then (term_cmp first p.term) (decorated_cmp least_key p.key)) ≡ true → is_lt (term_cmp p.term first) ≡ false
    not_less p Less e le = ap is_lt (nat_list_cmp_total.antisymm p.term first ∙ ap ordering_reverse e)
    not_less p Equal e le = ap is_lt (nat_list_cmp_total.antisymm p.term first ∙ ap ordering_reverse e)
    not_less p Greater e le = not_both true refl (sym (sym (ap (λ r. is_le (ordering_then r (decorated_cmp least_key p.key))) e) ∙ le))

    after : (p q : Posting) → IsPostingOf type p → IsPostingOf type q → holds op p.term body ≡ false
        → (r : Ordering) → term_cmp first p.term ≡ r → is_le (ordering_then (term_cmp first p.term) (decorated_cmp least_key p.key)) ≡ true
        → (t : Ordering) → term_cmp p.term q.term ≡ t → ordering_then (term_cmp p.term q.term) (decorated_cmp p.key q.key) ≡ Less → holds op q.term body ≡ false
    after p q p_of q_of isnt r e le Less f rise = is.after p.term q.term p_of.term q_of.term (not_less p r e le) isnt (ap is_lt f)
    after p q p_of q_of isnt r e le Equal f rise = ap (λ (t : List ℕ). holds op t body) (sym (same_term p.term q.term f)) ∙ isnt
    after p q p_of q_of isnt r e le Greater f rise =
        let no : Greater ≡ Less = sym (ap (λ o. ordering_then o (decorated_cmp p.key q.key)) f) ∙ rise in
        absurd cc
