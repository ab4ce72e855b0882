-- The part of an index in which a search finds all its hits: they follow one another from a first term on.
use Rattle.std.specs.Prelude.{◌≡◌, ℕ, ℤ, Bool, true, false, List, [], ◌∷◌, Option, None, Some, ⊤}
use Rattle.std.specs.BTreeSet.{BTreeSet}
use Rattle.std.specs.BTreeSet as tree
use Rattle.std.specs.Int.{w32, w64, saturate_signed}
use Rattle.std.specs.List.{filter}
use Rattle.std.specs.List.Sorted.{IsStrictlySortedBy}
use Rattle.std.specs.Ordering.{is_le, is_lt}
use Rattle.std.specs.declared.cmp.Ordering.TheVariants.{Less}
use Rattle.sasi_types.specs.declared.column.ColumnType.{ColumnType}
use Rattle.sasi_types.specs.declared.column.ColumnType.TheVariants.{Text, Int, BigInt, Uuid}
use Rattle.sasi_types.specs.declared.decorated_key.DecoratedKey.{DecoratedKey}
use Rattle.sasi_types.specs.DecoratedKey.{decorated_cmp}
use Rattle.sasi_types.specs.Term.{term_cmp}
use Rattle.sasi_terms.specs.declared.op.Op.{Op}
use Rattle.sasi_terms.specs.declared.op.Op.TheVariants.{Eq, Prefix, Suffix, Contains, Range}
use Rattle.sasi_terms.specs.Holds.{holds}
use Rattle.sasi_terms.specs.Numbers.{bigint_term, int_term}
use Rattle.sasi_memindex.specs.declared.posting.Posting.{Posting}
use Rattle.sasi_memindex.specs.Kept.{IsTermOf}
use Rattle.sasi_memindex.specs.Postings.{posting_cmp}

-- the term of the type's number that is nearest to this one
abbrev pub nearest_term : ColumnType → ℤ → Option (List ℕ)
nearest_term Text number = None
nearest_term Int number = Some (int_term (saturate_signed w32 number))
nearest_term BigInt number = Some (bigint_term (saturate_signed w64 number))
nearest_term Uuid number = None

-- where the terms that are asked for begin, if they follow one another
abbrev pub first_term : ColumnType → Op → List ℕ → Option (List ℕ)
first_term type Eq body = Some body
first_term type Prefix body = Some body
first_term type Suffix body = None
first_term type Contains body = None
first_term type (Range least greatest) body = nearest_term type least

-- no term below the first is asked for, and none above one from there on that isn't
pub record IsFirstTerm (type : ColumnType) (op : Op) (body first : List ℕ) : Type 0 where
  pub below : (term : List ℕ) → IsTermOf type term → is_lt (term_cmp term first) ≡ true → holds op term body ≡ false
  pub after : (term above : List ℕ) → IsTermOf type term → IsTermOf type above → is_lt (term_cmp term first) ≡ false → holds op term body ≡ false → is_lt (term_cmp term above) ≡ true → holds op above body ≡ false

-- the same of the postings in a tree
pub record IsFirst (op : Op) (body : List ℕ) (first : Posting) (s : BTreeSet Posting) : Type 0 where
  pub below : (p : Posting) → tree.contains posting_cmp s p ≡ true → is_le (posting_cmp first p) ≡ false → holds op p.term body ≡ false
  pub after : (p q : Posting) → tree.contains posting_cmp s p ≡ true → tree.contains posting_cmp s q ≡ true → is_le (posting_cmp first p) ≡ true → holds op p.term body ≡ false → posting_cmp p q ≡ Less → holds op q.term body ≡ false

-- behind a posting that isn't asked for there is none that is
abbrev pub EndsAtFirst : Op → List ℕ → List Posting → Type 0
EndsAtFirst op body [] = ⊤
EndsAtFirst op body (p ∷ ps) = (holds op p.term body ≡ false → filter (λ (q : Posting). holds op q.term body) ps ≡ []) × EndsAtFirst op body ps

-- the hits of equality have one term, so their keys are in order, and each stands once
abbrev pub RiseForEq : Op → List DecoratedKey → Type 0
RiseForEq Eq keys = IsStrictlySortedBy decorated_cmp keys
RiseForEq op keys = ⊤
