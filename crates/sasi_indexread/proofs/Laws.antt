-- The trees and the blocks of an index file.
use Rattle.std.specs.Prelude.{◌≡◌, ℕ, zero, suc, ◌+◌, ◌-◌, ◌/◌, ◌^◌, ◌<◌, ◌≤◌, List, [], ◌∷◌, ◌++◌, length, get_or, Some, None, refl}
use Rattle.std.proofs.Common.{sym, ◌∙◌, ap, subst, arith, length-append}
use Rattle.std.proofs.lemmas.List.{length-map}
use Rattle.std.specs.List.{AllByRecursion}
use Rattle.sasi_types.specs.declared.mode.Mode.{Mode}
use Rattle.sasi_types.specs.declared.mode.Mode.TheVariants.{Prefix, Contains, Sparse}
use Rattle.sasi_types.specs.declared.tree.Pair.{Pair}
use Rattle.sasi_types.specs.declared.tree.TreeRef.{TreeRef}
use Rattle.sasi_host.specs.Names.{Bytes}
use Rattle.sasi_host.specs.Damages.{HasAt}
use Rattle.sasi_host.proofs.Offsets.{first_at, second_at}
use Rattle.sasi_tokentree.specs.Format.{HasTree, tree_bytes, tree_ref}
use Rattle.sasi_tokentree.proofs.Laws.{is_ref_of}
use Rattle.sasi_termblocks.specs.declared.list_form.ListForm.TheVariants.{Inline, Tree}
use Rattle.sasi_termblocks.specs.declared.term_entry.TermEntry.{TermEntry}
use Rattle.sasi_termblocks.specs.Forms.{HasForm}
use Rattle.sasi_indexwrite.specs.Superblocks.{inline_entries}
use Rattle.sasi_termblocks.specs.Blocks.{IsRefOf, items_of, levels_bytes}
use Rattle.sasi_termblocks.specs.Scans.{HasBlocks, HaveTrees, terms_of, IsRising as AreRisingTerms}
use Rattle.sasi_indexwrite.specs.Content.{ArePairs, IndexContent, IsTerm, TermPairs, terms_in}
use Rattle.sasi_indexwrite.specs.Files.{IsIndexFile}
use Rattle.sasi_indexwrite.specs.Format.{trees_bytes, entries_from, entries_in, form_of, treed, trees, entries, spill_at, spill_ref, front}
use Rattle.sasi_indexread.proofs.Standing.{front_within, have_bytes, levels_stand, spill_stands, trees_stand, whole_length}

-- the trees of the entries can stand in front of what follows them
entries_refer : (first at : ℕ) (terms : List TermPairs) → AllByRecursion IsTerm terms → 16 ≤ at → at + length (trees_bytes at terms) ≤ first → first ≤ 2 ^ 62 → HaveTrees first (entries_from at terms)
entries_refer first at [] all behind within short = tt
entries_refer first at (one ∷ others) all behind within short =
    let next = at + length (tree_bytes at one.1) in
    let both = length-append (tree_bytes at one.1) (trees_bytes next others) in
    (is_ref_of 16 at first one.1 (omega (arith, all.0.some)) behind (omega (arith, both, within)) short, entries_refer first next others all.1 (omega (arith, behind)) (omega (arith, both, within)) short)

inline_refer : (first : ℕ) (terms : List TermPairs) → HaveTrees first (inline_entries terms)
inline_refer first [] = tt
inline_refer first (one ∷ others) = (tt, inline_refer first others)

-- in each mode
refer : (mode : Mode) (first : ℕ) (terms : List TermPairs) → AllByRecursion IsTerm terms → 16 + length (trees_bytes 16 (treed mode terms)) ≤ first → first ≤ 2 ^ 62 → HaveTrees first (entries_in mode terms)
refer Prefix first terms all within short = entries_refer first 16 terms all (omega arith) within short
refer Contains first terms all within short = entries_refer first 16 terms all (omega arith) within short
refer Sparse first terms all within short = inline_refer first terms

-- ---- what the entries are

tree_terms : (at : ℕ) (terms : List TermPairs) → terms_of (entries_from at terms) ≡ terms_in terms
tree_terms at [] = refl
tree_terms at (one ∷ others) = ap (λ (l : List Bytes). one.0 ∷ l) (tree_terms (at + length (tree_bytes at one.1)) others)

inline_terms : (terms : List TermPairs) → terms_of (inline_entries terms) ≡ terms_in terms
inline_terms [] = refl
inline_terms (one ∷ others) = ap (λ (l : List Bytes). one.0 ∷ l) (inline_terms others)

same_terms : (mode : Mode) (terms : List TermPairs) → terms_of (entries_in mode terms) ≡ terms_in terms
same_terms Prefix terms = tree_terms 16 terms
same_terms Contains terms = tree_terms 16 terms
same_terms Sparse terms = inline_terms terms

-- the terms of the entries are those of the content, in each mode
pub terms_same : (content : IndexContent) → terms_of (entries content) ≡ terms_in content.terms
terms_same content = same_terms content.mode content.terms

pub entries_length : (content : IndexContent) → length (entries content) ≡ length content.terms
entries_length content =
    sym (length-map (entries content) (λ (e : TermEntry). e.term)) ∙ ap (λ (l : List Bytes). length l) (terms_same content) ∙ length-map content.terms (λ (one : TermPairs). one.0)

tree_forms : (at : ℕ) (terms : List TermPairs) → AllByRecursion (HasForm Tree) (entries_from at terms)
tree_forms at [] = tt
tree_forms at (one ∷ others) = ((tree_ref at one.1, refl), tree_forms (at + length (tree_bytes at one.1)) others)

inline_forms : (terms : List TermPairs) → AllByRecursion (HasForm Inline) (inline_entries terms)
inline_forms [] = tt
inline_forms (one ∷ others) = ((one.1, refl, refl), inline_forms others)

forms : (mode : Mode) (terms : List TermPairs) → AllByRecursion (HasForm (form_of mode)) (entries_in mode terms)
forms Prefix terms = tree_forms 16 terms
forms Contains terms = tree_forms 16 terms
forms Sparse terms = inline_forms terms

-- each entry has its pairs where those of the mode do
pub have_forms : (content : IndexContent) → AllByRecursion (HasForm (form_of content.mode)) (entries content)
have_forms content = forms content.mode content.terms

-- a tree that stands in a file is there
has_tree : (bytes : Bytes) (at : ℕ) (pairs : List Pair) → HasAt bytes at (tree_bytes at pairs) → ArePairs pairs → HasTree bytes (tree_ref at pairs) pairs
has_tree bytes at pairs has are = record {
  front = has.front;
  rest = has.rest;
  is = has.is ∙ ap (λ (n : ℕ). has.front ++ tree_bytes n pairs ++ has.rest) (sym has.offset_is);
  referred = ap (λ (n : ℕ). tree_ref n pairs) (sym has.offset_is);
  rising = are.rising;
  fit = are.fit;
}

-- the entry has these pairs: in a tree, which the file has, or itself
pub data HasPairsOf (bytes : Bytes) (pairs : List Pair) (entry : TermEntry) : Type 0 where
  by_tree : (tree : TreeRef) → entry.list ≡ Some tree → HasTree bytes tree pairs → HasPairsOf bytes pairs entry
  by_entry : entry.list ≡ None → entry.inline ≡ Some pairs → HasPairsOf bytes pairs entry

-- an entry of a term and its pairs
pub record IsEntryOf (bytes : Bytes) (one : TermPairs) (entry : TermEntry) : Type 0 where
  pub term : entry.term ≡ one.0
  pub has : HasPairsOf bytes one.1 entry

abbrev pub none : TermEntry
none = record { term = []; list = None; inline = None }

entries_stand : (bytes : Bytes) (at : ℕ) (terms : List TermPairs) (k : ℕ) → HasAt bytes at (trees_bytes at terms) → AllByRecursion IsTerm terms → k < length terms
    → IsEntryOf bytes (get_or terms k ([], [])) (get_or (entries_from at terms) k none)
entries_stand bytes at [] k has all lt = absurd (omega (arith, lt))
entries_stand bytes at (one ∷ others) zero has all lt = record {
  term = refl;
  has = by_tree (tree_ref at one.1) refl (has_tree bytes at one.1 (first_at bytes at (tree_bytes at one.1) (trees_bytes (at + length (tree_bytes at one.1)) others) has) all.0.pairs);
}
entries_stand bytes at (one ∷ others) (suc k) has all lt =
    let next = at + length (tree_bytes at one.1) in
    entries_stand bytes next others k (second_at bytes at (tree_bytes at one.1) (trees_bytes next others) has) all.1 (omega (arith, lt))

inline_stand : (bytes : Bytes) (terms : List TermPairs) (k : ℕ) → k < length terms → IsEntryOf bytes (get_or terms k ([], [])) (get_or (inline_entries terms) k none)
inline_stand bytes [] k lt = absurd (omega (arith, lt))
inline_stand bytes (one ∷ others) zero lt = record { term = refl; has = by_entry refl refl }
inline_stand bytes (one ∷ others) (suc k) lt = inline_stand bytes others k (omega (arith, lt))

stand : (mode : Mode) (bytes : Bytes) (terms : List TermPairs) (k : ℕ) → HasAt bytes 16 (trees_bytes 16 (treed mode terms)) → AllByRecursion IsTerm terms → k < length terms → IsEntryOf bytes (get_or terms k ([], [])) (get_or (entries_in mode terms) k none)
stand Prefix bytes terms k has all lt = entries_stand bytes 16 terms k has all lt
stand Contains bytes terms k has all lt = entries_stand bytes 16 terms k has all lt
stand Sparse bytes terms k has all lt = inline_stand bytes terms k lt

-- ---- the file

module _ (bytes : Bytes) (content : IndexContent) (is : IsIndexFile bytes content) where
  module _ (short : length bytes ≤ 2 ^ 62) where
    -- the file has its blocks
    pub has_blocks : HasBlocks bytes is.blocks (entries content)
    has_blocks = record {
      page = (length (front content) + 4095) / 4096;
      aligned = is.referred.first;
      stands = subst (λ (n : ℕ). HasAt bytes n (levels_bytes is.blocks.levels n (items_of (entries content)))) (sym is.referred.first) (levels_stand bytes content is);
      referred = subst (λ (n : ℕ). IsRefOf n (entries content) is.blocks) (sym is.referred.first) is.referred;
      rising = subst (λ (l : List Bytes). AreRisingTerms l) (sym (terms_same content)) is.content_is.rising;
      fit = have_bytes bytes content is short;
      trees = refer content.mode is.blocks.first content.terms is.content_is.each (omega (arith, is.referred.first, front_within bytes content is)) (omega (arith, is.referred.first, whole_length bytes content is, short));
      short = short;
    }

    -- the trees that the file has
    pub spill_tree : HasTree bytes (spill_ref content) content.spill
    spill_tree = has_tree bytes (spill_at content) content.spill (spill_stands bytes content is) is.content_is.spill

    pub term_trees : (k : ℕ) → k < length content.terms → IsEntryOf bytes (get_or content.terms k ([], [])) (get_or (entries content) k none)
    term_trees k lt = stand content.mode bytes content.terms k (trees_stand bytes content is) is.content_is.each lt
