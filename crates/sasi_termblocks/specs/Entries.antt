-- The bytes of a block's entries.
use Rattle.std.specs.Prelude.{ℕ, Bool, true, ◌||◌, ◌==◌, nat_lt, List, [], Option, Some, None, refl}
use Rattle.std.specs.Int.{w8, w16, w64}
use Rattle.std.specs.Ordering.{is_lt, nat_cmp}
use Rattle.std.specs.Cmp.Lexicographic.{slice_cmp}
use Rattle.sasi_types.specs.declared.tree.Pair.{Pair}
use Rattle.sasi_types.specs.declared.tree.TreeRef.{TreeRef}
use Rattle.sasi_host.specs.Names.{Bytes}
use Rattle.sasi_host.specs.declared.damage.FormatRule.TheVariants as rule
use Rattle.sasi_formats.specs.Formats.{Format, Sized}
use Rattle.sasi_formats.specs.Codings.{passing}
use Rattle.sasi_formats.specs.Fields.{◌&◌, checked, mapped, number, in_range, tagged, select}
pub use Rattle.sasi_sparse.specs.Inline.{is_before, is_behind, pair, few_pairs}
use Rattle.sasi_termblocks.specs.declared.term_entry.TermEntry.{TermEntry}

-- ---- terms

-- the order of terms: by their bytes, unsigned
abbrev pub is_below : Bytes → Bytes → Bool
is_below a b = is_lt (slice_cmp nat_cmp a b)

-- a length of 2 bytes, and the term
abbrev pub term : Format Bytes
term = Sized (in_range w16 0 1024) rule.Text (passing (λ _. true))

-- ---- the pairs of a term

-- the offset of a tree's root, and its number of pairs
abbrev pub tree : Format TreeRef
tree = mapped (λ t. record { root = t.0; pairs = t.1 }) (λ t. (t.root, t.pairs)) (λ _. refl) (number w64 & number w64)

-- the tree of a term, which has a pair at least
abbrev pub pair_count : Format ℕ
pair_count = checked rule.Number 8 (λ n. nat_lt 0 n) (number w64)

abbrev pub term_tree : Format TreeRef
term_tree = mapped (λ t. record { root = t.0; pairs = t.1 }) (λ t. (t.root, t.pairs)) (λ _. refl) (number w64 & pair_count)

-- a tree, or a few pairs
abbrev pub Postings : Type 0
Postings = Option TreeRef × Option (List Pair)

abbrev pub tree_of : Option TreeRef → TreeRef
tree_of None = record { root = 0; pairs = 0 }
tree_of (Some list) = list

abbrev pub pairs_of : Option (List Pair) → List Pair
pairs_of None = []
pairs_of (Some pairs) = pairs

abbrev pub in_tree : Format Postings
in_tree = mapped (λ t. (Some t, None)) (λ p. tree_of p.0) (λ _. refl) term_tree

abbrev pub inline : Format Postings
inline = mapped (λ pairs. (None, Some pairs)) (λ p. pairs_of p.1) (λ _. refl) few_pairs

-- the flags: 1 says that there is a list, and 4 that it stands in the entry itself
abbrev pub flags_of : Postings → ℕ
flags_of (Some _, few) = 1
flags_of (None, few) = 5

abbrev pub flags : Format ℕ
flags = checked rule.Number 1 (λ n. n == 1 || n == 5) (number w8)

abbrev pub postings : Format Postings
postings = tagged flags flags_of (λ n. select (n == 1) in_tree inline)

-- ---- entries

-- a term and its pairs
abbrev pub term_entry : Format TermEntry
term_entry = mapped (λ e. record { term = e.0; list = e.1.0; inline = e.1.1 }) (λ e. (e.term, (e.list, e.inline))) (λ _. refl) (term & postings)

-- the first term of a block, and the block's offset
abbrev pub pointer : Format (Bytes × ℕ)
pointer = term & number w64
