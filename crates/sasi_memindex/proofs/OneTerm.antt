-- The keys of the postings of one term are in their order, and each stands once.
use Rattle.std.proofs.Common.{◌≡◌, ℕ, Bool, true, false, cond, List, [], ◌∷◌, map, refl, sym, ap, ◌∙◌}
use Rattle.std.proofs.lemmas.Cmp.{tied_itself}
use Rattle.std.specs.Cmp.Lexicographic.{bytes_decides, nat_list_cmp_total}
use Rattle.std.specs.declared.cmp.Ordering.TheVariants.{Less, Equal}
use Rattle.std.specs.List.{AllByRecursion, filter}
use Rattle.std.specs.List.Sorted.{IsStrictlySortedBy}
use Rattle.std.specs.Ordering.{ordering_then}
use Rattle.sasi_types.specs.declared.decorated_key.DecoratedKey.{DecoratedKey}
use Rattle.sasi_types.specs.DecoratedKey.{decorated_cmp}
use Rattle.sasi_types.specs.Term.{term_cmp}
use Rattle.sasi_terms.specs.declared.op.Op.{Op}
use Rattle.sasi_terms.specs.declared.op.Op.TheVariants.{Eq, Prefix, Suffix, Contains, Range}
use Rattle.sasi_terms.specs.Holds.{holds}
use Rattle.sasi_memindex.specs.declared.posting.Posting.{Posting}
use Rattle.sasi_memindex.specs.Hits.{keys_of_hits}
use Rattle.sasi_memindex.specs.Runs.{RiseForEq}
use Rattle.sasi_memindex.specs.Postings.{posting_cmp}

module _ (body : List ℕ) where
  abbrev is_hit : Posting → Bool
  is_hit p = holds Eq p.term body

  -- of two hits the later one has the later key
  later_key : (k q : Posting) → is_hit k ≡ true → is_hit q ≡ true → posting_cmp k q ≡ Less → decorated_cmp k.key q.key ≡ Less
  later_key k q one two less =
      let same : k.term ≡ q.term = (bytes_decides k.term body).0 one ∙ sym ((bytes_decides q.term body).0 two) in
      let tie : term_cmp k.term q.term ≡ Equal = ap (term_cmp k.term) (sym same) ∙ tied_itself nat_list_cmp_total k.term in
      sym (ap (λ r. ordering_then r (decorated_cmp k.key q.key)) tie) ∙ less

  all_later : (k : Posting) → is_hit k ≡ true → (ks : List Posting) → AllByRecursion (λ q. posting_cmp k q ≡ Less) ks → AllByRecursion (λ q. decorated_cmp k.key q ≡ Less) (keys_of_hits Eq body ks)
  all_later k one [] above = tt
  all_later k one (q ∷ ks) above = by (is_hit q) refl (all_later k one ks above.1)
    where
      by : (b : Bool) → is_hit q ≡ b → AllByRecursion (λ r. decorated_cmp k.key r ≡ Less) (keys_of_hits Eq body ks)
          → AllByRecursion (λ r. decorated_cmp k.key r ≡ Less) (map (λ (p : Posting). p.key) (cond b (q ∷ filter is_hit ks) (filter is_hit ks)))
      by true e rest = (later_key k q one e above.0, rest)
      by false e rest = rest

  keys_rise : (ks : List Posting) → IsStrictlySortedBy posting_cmp ks → IsStrictlySortedBy decorated_cmp (keys_of_hits Eq body ks)
  unfolding IsStrictlySortedBy
  keys_rise [] sorted = tt
  keys_rise (k ∷ ks) sorted = by (is_hit k) refl (keys_rise ks sorted.1)
    where
      by : (b : Bool) → is_hit k ≡ b → IsStrictlySortedBy decorated_cmp (keys_of_hits Eq body ks) → IsStrictlySortedBy decorated_cmp (map (λ (p : Posting). p.key) (cond b (k ∷ filter is_hit ks) (filter is_hit ks)))
      by true e rest = (all_later k e ks sorted.0, rest)
      by false e rest = rest

pub rise_for_eq : (op : Op) (body : List ℕ) (ks : List Posting) → IsStrictlySortedBy posting_cmp ks → RiseForEq op (keys_of_hits op body ks)
rise_for_eq Eq body ks sorted = keys_rise body ks sorted
rise_for_eq Prefix body ks sorted = tt
rise_for_eq Suffix body ks sorted = tt
rise_for_eq Contains body ks sorted = tt
rise_for_eq (Range least greatest) body ks sorted = tt
