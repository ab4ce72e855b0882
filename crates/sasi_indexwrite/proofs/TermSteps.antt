-- One more term of an index file.
use Rattle.std.proofs.Common.{◌≡◌, ℕ, ◌+◌, ◌≤◌, ◌^◌, List, [], ◌∷◌, ◌++◌, length, Some, None, refl, sym, ◌∙◌, ap, subst, arith, append_assoc, append-nil, length-append}
use Rattle.sasi_types.specs.declared.tree.Pair.{Pair}
use Rattle.sasi_types.specs.declared.tree.TreeRef.{TreeRef}
use Rattle.sasi_host.specs.Names.{Bytes}
use Rattle.sasi_host.specs.View.{View}
use Rattle.sasi_tokentree.specs.Format.{tree_bytes, tree_ref}
use Rattle.sasi_tokentree.proofs.HeightLaws.{levels_least, tree_length}
use Rattle.sasi_termblocks.specs.declared.term_entry.TermEntry.{TermEntry}
use Rattle.sasi_termblocks.specs.Writing.{HasPushed}
use Rattle.sasi_indexwrite.specs.declared.superblocks.Superblocks.{Superblocks}
use Rattle.sasi_indexwrite.specs.declared.term_writer.TermWriter.{TermWriter}
use Rattle.sasi_indexwrite.specs.Appending.{IsAppending, next_tree}
use Rattle.sasi_indexwrite.specs.Content.{IsTerm, TermPairs}
use Rattle.sasi_indexwrite.specs.Format.{entries_from, trees_bytes}
use Rattle.sasi_indexwrite.specs.TermsSoFar.{with_pairs}
use Rattle.sasi_indexwrite.specs.Writing.{HasTrees}
use Rattle.sasi_indexwrite.proofs.Lists.{all_join}

-- its tree stands behind the others
pub trees_push : (at : ℕ) (closed : List TermPairs) (one : TermPairs) → trees_bytes at (closed ++ one ∷ []) ≡ trees_bytes at closed ++ tree_bytes (at + length (trees_bytes at closed)) one.1
trees_push at [] one = append-nil (tree_bytes at one.1) ∙ ap (λ (n : ℕ). tree_bytes n one.1) (omega arith)
trees_push at (first ∷ closed) one =
    let own = tree_bytes at first.1 in
    let next = at + length own in
    ap (λ (l : Bytes). own ++ l) (trees_push next closed one)
    ∙ ap (λ (n : ℕ). own ++ (trees_bytes next closed ++ tree_bytes n one.1)) (omega (arith, length-append own (trees_bytes next closed)))
    ∙ sym (append_assoc own (trees_bytes next closed) (tree_bytes (at + length (own ++ trees_bytes next closed)) one.1))

-- the entry of a term whose tree stands there
abbrev pub entry_at : ℕ → TermPairs → TermEntry
entry_at at one = record { term = one.0; list = Some (tree_ref at one.1); inline = None }

pub entries_push : (at : ℕ) (closed : List TermPairs) (one : TermPairs) → entries_from at (closed ++ one ∷ []) ≡ entries_from at closed ++ entry_at (at + length (trees_bytes at closed)) one ∷ []
entries_push at [] one = ap (λ (n : ℕ). entry_at n one ∷ []) (omega arith)
entries_push at (first ∷ closed) one =
    let own = tree_bytes at first.1 in
    let next = at + length own in
    ap (λ (l : List TermEntry). entry_at at first ∷ l)
    (entries_push next closed one ∙ ap (λ (n : ℕ). entries_from next closed ++ entry_at n one ∷ []) (omega (arith, length-append own (trees_bytes next closed))))

-- a term with pairs
pub with_some : (term : Bytes) (pairs : List Pair) → 1 ≤ length pairs → with_pairs term pairs ≡ (term, pairs) ∷ []
with_some term [] some = absurd (omega arith)
with_some term (pair ∷ pairs) some = refl

-- the tree was appended, and the entry added
pub term_written : (a b : View) (old new : TermWriter) (term : Bytes) (tree : TreeRef) (header : Bytes) (closed : List TermPairs)
    → ((bytes : Bytes) → IsAppending a old.trees bytes → IsAppending b new.trees (bytes ++ tree_bytes (next_tree old.trees) old.pairs)) → next_tree new.trees ≡ next_tree old.trees + length (tree_bytes (next_tree old.trees) old.pairs)
    → tree ≡ tree_ref (next_tree old.trees) old.pairs → IsTerm (term, old.pairs)
    → ((entries : List TermEntry) → HasPushed old.blocks entries → HasPushed new.blocks (entries ++ record { term = term; list = Some tree; inline = None } ∷ []))
    → new.groups ≡ old.groups → HasTrees a old header closed → HasTrees b new header (closed ++ (term, old.pairs) ∷ [])
term_written a b old new term tree header closed appended next tree_is one pushed groups was = record {
  begins = was.begins;
  appended = subst (λ (l : Bytes). IsAppending b new.trees l) whole (appended (header ++ trees_bytes 16 closed) was.appended);
  next_is = omega (arith, next, was.next_is, ap length trees, length-append (trees_bytes 16 closed) (tree_bytes at old.pairs));
  pushed = subst (λ (l : List TermEntry). HasPushed new.blocks l) entries (pushed (entries_from 16 closed) was.pushed);
  each = all_join IsTerm closed ((term, old.pairs) ∷ []) was.each (one, tt);
  no_pairs = ap (λ (g : Superblocks). g.pairs) groups ∙ was.no_pairs;
  no_table = ap (λ (g : Superblocks). g.trees.items) groups ∙ was.no_table;
}
  where
    at : ℕ
    at = next_tree old.trees

    trees : trees_bytes 16 (closed ++ (term, old.pairs) ∷ []) ≡ trees_bytes 16 closed ++ tree_bytes at old.pairs
    trees = trees_push 16 closed (term, old.pairs) ∙ ap (λ (n : ℕ). trees_bytes 16 closed ++ tree_bytes n old.pairs) (sym was.next_is)

    whole : (header ++ trees_bytes 16 closed) ++ tree_bytes at old.pairs ≡ header ++ trees_bytes 16 (closed ++ (term, old.pairs) ∷ [])
    whole = append_assoc header (trees_bytes 16 closed) (tree_bytes at old.pairs) ∙ ap (λ (l : Bytes). header ++ l) (sym trees)

    entries : entries_from 16 closed ++ record { term = term; list = Some tree; inline = None } ∷ [] ≡ entries_from 16 (closed ++ (term, old.pairs) ∷ [])
    entries =
        ap (λ (t : TreeRef). entries_from 16 closed ++ record { term = term; list = Some t; inline = None } ∷ []) (tree_is ∙ ap (λ (n : ℕ). tree_ref n old.pairs) was.next_is)
        ∙ sym (entries_push 16 closed (term, old.pairs))

-- a tree that ends within a file has so few pairs
pub few_pairs : (at : ℕ) (pairs entries : List Pair) → entries ≡ pairs → at + length (tree_bytes at pairs) ≤ 2 ^ 62 → length entries ≤ 2 ^ 58
few_pairs at pairs entries is fits = omega (arith, fits, ap length is, tree_length at pairs, levels_least (length pairs) (length pairs) (omega arith))
