-- For callers: a search makes at most four reads for each pair that it goes through.
use Rattle.std.specs.Prelude.{ℕ, ◌+◌, ◌*◌, ◌≤◌, Bool, true, false, List, [], ◌∷◌, length}
use Rattle.std.proofs.Common.{arith}
use Rattle.std.specs.List.{AllByRecursion, sum_by}
use Rattle.std.proofs.lemmas.List.Sums.{sum_by-cons}
use Rattle.sasi_host.specs.Names.{Bytes}
use Rattle.sasi_terms.specs.declared.op.Op.{Op}
use Rattle.sasi_indexwrite.specs.Content.{IndexContent, IsContent, IsTerm, TermPairs}
use Rattle.sasi_indexread.specs.Asked.{is_asked_term, is_run}
use Rattle.sasi_indexread.specs.Costs.{cost_if, pairs_if, pairs_in, pairs_read, term_cost, whole_cost}

one_bound : (asked run : Bool) (pairs : ℕ) → 1 ≤ pairs → cost_if asked run pairs ≤ 4 * pairs_if asked run pairs
one_bound true run pairs some = omega (arith, some)
one_bound false true pairs some = omega arith
one_bound false false pairs some = omega (arith, some)

terms_bound : (content : IndexContent) (op : Op) (body : Bytes) (terms : List TermPairs) → AllByRecursion IsTerm terms → sum_by (term_cost content op body) terms ≤ 4 * sum_by (pairs_in content op body) terms
terms_bound content op body [] each = omega arith
terms_bound content op body (one ∷ others) each =
    omega (
      arith,
      sum_by-cons (term_cost content op body) one others,
      sum_by-cons (pairs_in content op body) one others,
      terms_bound content op body others each.1,
      one_bound (is_asked_term content op body one) (is_run op) (length one.1) each.0.some,
    )

-- beside the way to its first term
pub cost_bound : (levels : ℕ) (content : IndexContent) (op : Op) (body : Bytes) → IsContent content → whole_cost levels content op body ≤ levels + 2 + 4 * (pairs_read content op body + length content.spill)
cost_bound levels content op body is = omega (arith, terms_bound content op body content.terms is.each)
