-- What a set of postings holds in the code.
use Rattle.std.specs.Prelude.{◌≡◌, ◌≤◌, ℕ, Bool, true, ◌&&◌, List, length, ⊤}
use Rattle.std.specs.BTreeSet.{BTreeSet}
use Rattle.std.specs.FinSet as set
use Rattle.std.specs.List.{list_any}
use Rattle.std.specs.Ordering.{eq_by_cmp}
use Rattle.sasi_types.specs.declared.column.ColumnType.{ColumnType}
use Rattle.sasi_types.specs.declared.column.ColumnType.TheVariants.{Text, Int, BigInt, Uuid}
use Rattle.sasi_types.specs.declared.decorated_key.DecoratedKey.{DecoratedKey}
use Rattle.sasi_types.specs.DecoratedKey.{decorated_cmp}
use Rattle.sasi_types.specs.Token.{AreBytes}
use Rattle.sasi_model.specs.Tokens.{same}
use Rattle.sasi_memindex.specs.declared.posting.Posting.{Posting}
use Rattle.sasi_memindex.specs.Postings.{Postings, posting_cmp}

-- the set of these keys of a tree
abbrev pub set_of : BTreeSet Posting → Postings
set_of tree = set.from_list {R = posting_cmp} tree.keys

-- so many bytes
abbrev pub IsNumberOf : ℕ → List ℕ → Type 0
IsNumberOf size term = (length term ≡ size) × AreBytes term

-- a term of a column of this type
abbrev pub IsTermOf : ColumnType → List ℕ → Type 0
IsTermOf Text term = ⊤
IsTermOf Int term = IsNumberOf 4 term
IsTermOf BigInt term = IsNumberOf 8 term
IsTermOf Uuid term = ⊤

-- a key has a byte
pub record IsPostingOf (type : ColumnType) (p : Posting) : Type 0 where
  pub key : 1 ≤ length p.key.key
  pub term : IsTermOf type p.term

-- postings of a column of this type
abbrev pub AreOf : ColumnType → Postings → Type 0
AreOf type postings = (p : Posting) → set.contains postings p ≡ true → IsPostingOf type p

-- terms of such a column
abbrev pub AreTermsOf : ColumnType → List (List ℕ) → Type 0
AreTermsOf type terms = (term : List ℕ) → list_any (same term) terms ≡ true → IsTermOf type term

-- the posting has this key, and one of these terms
abbrev pub is_among : DecoratedKey → List (List ℕ) → Posting → Bool
is_among key terms p = eq_by_cmp decorated_cmp p.key key && list_any (same p.term) terms
