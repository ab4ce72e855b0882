-- The bytes of entries that fit.
use Rattle.std.proofs.Common.{◌≡◌, ℕ, ◌+◌, ◌*◌, ◌^◌, ◌<◌, ◌≤◌, List, [], ◌∷◌, ◌++◌, length, Option, Some, None, refl, sym, ap, subst, arith, rules, length-append}
use Rattle.std.specs.Prelude.{nat_lt}
use Rattle.std.specs.Int.{to_be_bytes, w8, w16, w64}
use Rattle.sasi_types.specs.declared.tree.Pair.{Pair}
use Rattle.sasi_types.specs.declared.tree.TreeRef.{TreeRef}
use Rattle.sasi_host.specs.Names.{Bytes}
use Rattle.sasi_formats.specs.Formats.{Fits, encoded, encoded_items}
use Rattle.sasi_host.specs.declared.damage.FormatRule.TheVariants as rule
use Rattle.sasi_formats.specs.Fields.{number}
use Rattle.sasi_formats.proofs.Fitting.{checked_fits, fits_range, number_fits, range_fits}
use Rattle.sasi_termblocks.specs.declared.term_entry.TermEntry.{TermEntry}
use Rattle.sasi_termblocks.specs.Entries.{Postings, in_tree, pair, pair_count, pairs_of, pointer, postings, term, term_entry}

-- a term that fits is short
pub term_short : (bytes : Bytes) → Fits term bytes → length bytes ≤ 1024
term_short bytes h = (fits_range w16 0 1024 (length bytes) h.0).below

-- so is that of an entry
pub entry_term : (entry : TermEntry) → Fits term_entry entry → length entry.term ≤ 1024
entry_term entry h = term_short entry.term h.0.0

second : Option Postings → Option (List Pair)
second None = None
second (Some both) = both.1

no_some : (pairs : List Pair) → None ≡ Some pairs → ⊥
no_some pairs is = cc

inline_none : (list : TreeRef) (few : Option (List Pair)) → Fits in_tree (Some list, few) → few ≡ None
unfolding second
inline_none list None h = refl
inline_none list (Some pairs) h = absurd (no_some pairs (ap second h.1))

-- and there are few pairs
pub few_inline : (list : Option TreeRef) (few : Option (List Pair)) → Fits postings (list, few) → length (pairs_of few) ≤ 5
few_inline (Some list) few h = let none = inline_none list few h.0.1 in subst (λ (l : Option (List Pair)). length (pairs_of l) ≤ 5) (sym none) (omega arith)
few_inline None few h = (fits_range w8 1 5 (length (pairs_of few)) h.0.1.0.0).below

pairs_length : (pairs : List Pair) → length (encoded_items (λ _. encoded pair) [] pairs) ≡ 16 * length pairs
pairs_length pairs = from [] pairs
  where
    from : (before pairs : List Pair) → length (encoded_items (λ _. encoded pair) before pairs) ≡ 16 * length pairs
    from before [] = refl
    from before (first ∷ others) =
        omega (arith, length-append (encoded pair first) (encoded_items (λ _. encoded pair) (before ++ first ∷ []) others), from (before ++ first ∷ []) others)

postings_length : (list : Option TreeRef) (few : Option (List Pair)) → length (pairs_of few) ≤ 5 → length (encoded postings (list, few)) ≤ 82
postings_length (Some list) few le = omega arith
postings_length None few le = omega (arith, le, pairs_length (pairs_of few))

term_length : (bytes : Bytes) → length (encoded term bytes) ≡ 2 + length bytes
term_length bytes = omega (arith, length-append (to_be_bytes w16 (length bytes)) bytes)

-- three entries fit a block
pub entry_small : (entry : TermEntry) → Fits term_entry entry → length (encoded term_entry entry) ≤ 1200
entry_small entry h =
    omega (
      arith,
      length-append (encoded term entry.term) (encoded postings (entry.list, entry.inline)),
      term_length entry.term,
      entry_term entry h,
      postings_length entry.list entry.inline (few_inline entry.list entry.inline h.0.1),
    )

-- so do three pointers
pub pointer_small : (least : Bytes) (place : ℕ) → length least ≤ 1024 → length (encoded pointer (least, place)) ≤ 1200
pointer_small least place le = omega (arith, le, length-append (encoded term least) (to_be_bytes w64 place), term_length least)

-- ---- entries that fit

pub short_term : (t : Bytes) → length t ≤ 1024 → Fits term t
short_term t le = (range_fits w16 0 1024 (length t) (omega (arith, le)) (omega arith) le, refl)

pub tree_fits : (list : TreeRef) → list.root < 2 ^ 64 → list.pairs < 2 ^ 64 → 0 < list.pairs → Fits postings (Some list, None)
tree_fits list root pairs some =
    let count : Fits pair_count list.pairs = checked_fits rule.Number 8 (λ n. nat_lt 0 n) (number w64) list.pairs (number_fits w64 list.pairs pairs) (search (rules, some)) in
    (((number_fits w8 1 (omega arith), refl), (((number_fits w64 list.root root, count), refl), refl)), refl)

-- a short term with a tree of some pairs has an entry
pub entry_fits : (t : Bytes) (list : TreeRef) → length t ≤ 1024 → list.root < 2 ^ 64 → list.pairs < 2 ^ 64 → 0 < list.pairs → Fits term_entry (record { term = t; list = Some list; inline = None })
entry_fits t list le root pairs some = ((short_term t le, tree_fits list root pairs some), refl)
