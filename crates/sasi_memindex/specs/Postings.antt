-- Postings: each is a term with a key that has it.
use Rattle.std.specs.Coded.{Coded, code_by, coded×}
use Rattle.std.specs.declared.cmp.Ordering.{Ordering}
use Rattle.std.specs.Cmp.{IsTotalOrder}
use Rattle.std.specs.Cmp.Lexicographic.{nat_list_cmp_total}
use Rattle.std.specs.Ordering.{ordering_then}
use Rattle.std.specs.FinSet as set
use Rattle.std.specs.Prelude.{ℕ, List, refl}
use Rattle.std.proofs.lemmas.Cmp.{on_total, then_total}
use Rattle.sasi_types.specs.declared.decorated_key.DecoratedKey.{DecoratedKey}
use Rattle.sasi_types.specs.DecoratedKey.{decorated_cmp, decorated_total}
use Rattle.sasi_types.specs.Term.{term_cmp}
use Rattle.sasi_model.specs.Codes.{coded_bytes, coded_decorated}
use Rattle.sasi_memindex.specs.declared.posting.Posting.{Posting}

-- by the bytes of the term, and then by the key
abbrev pub posting_cmp : Posting → Posting → Ordering
posting_cmp a b = ordering_then (term_cmp a.term b.term) (decorated_cmp a.key b.key)

-- this order is total
pub posting_total : IsTotalOrder posting_cmp
posting_total = then_total (on_total (λ (p : Posting). p.term) nat_list_cmp_total) (on_total (λ (p : Posting). p.key) decorated_total)

-- a set of postings
abbrev pub Postings : Type 0
Postings = set.FinSet posting_cmp

abbrev pub posting : List ℕ → DecoratedKey → Posting
posting term key = record { term = term; key = key }

abbrev pub coded_postings : Coded Postings
coded_postings = set.code (code_by (List ℕ × DecoratedKey) (coded× coded_bytes coded_decorated) (λ p. (p.term, p.key)) (λ c. record { term = c.0; key = c.1 }) (λ _. refl))
