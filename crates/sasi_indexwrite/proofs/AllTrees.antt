-- All trees of terms or superblocks are appended.
use Rattle.std.proofs.Common.{◌≡◌, ℕ, ◌+◌, ◌*◌, List, [], ◌++◌, length, refl, sym, ◌∙◌, ap, subst, append-nil}
use Rattle.std.specs.List.{flat_map}
use Rattle.sasi_types.specs.declared.mode.Mode.{Mode}
use Rattle.sasi_types.specs.declared.mode.Mode.TheVariants.{Prefix, Contains, Sparse}
use Rattle.sasi_types.specs.declared.tree.Pair.{Pair}
use Rattle.sasi_types.specs.declared.tree.TreeRef.{TreeRef}
use Rattle.sasi_host.specs.Names.{Bytes}
use Rattle.sasi_host.specs.View.{View}
use Rattle.sasi_formats.specs.Formats.{encoded}
use Rattle.sasi_termblocks.specs.Entries.{tree}
use Rattle.sasi_termblocks.specs.Writing.{HasPushed}
use Rattle.sasi_indexwrite.specs.declared.term_writer.TermWriter.{TermWriter}
use Rattle.sasi_indexwrite.specs.declared.tree_writer.TreeWriter.{TreeWriter}
use Rattle.sasi_indexwrite.specs.Appending.{IsAppending, next_tree}
use Rattle.sasi_indexwrite.specs.Content.{TermPairs}
use Rattle.sasi_indexwrite.specs.Format.{entries_from, refs_from, trees_bytes}
use Rattle.sasi_indexwrite.specs.Grouped.{HasListed, last_list}
use Rattle.sasi_indexwrite.specs.Kept.{rare_terms}
use Rattle.sasi_indexwrite.specs.Superblocks.{inline_entries, lists_of, numbered_terms, superblock_lists}
use Rattle.sasi_indexwrite.specs.Unions.{union_of}
use Rattle.sasi_indexwrite.specs.Writing.{HasAllTrees, HasSuperblocks, HasTrees, IsWritten}
use Rattle.sasi_indexwrite.proofs.Groups.{all_lists, more_listed, refs_length, superblocks_length}

module _ (a b c : View) (was now : TermWriter) (mid : TreeWriter) (header : Bytes) (closed : List TermPairs)
    (appended : (bytes : Bytes) → IsAppending a was.trees bytes → IsAppending b mid (bytes ++ trees_bytes (next_tree was.trees) (last_list was.groups.pairs)))
    (next : next_tree mid ≡ next_tree was.trees + length (trees_bytes (next_tree was.trees) (last_list was.groups.pairs)))
    (table : now.groups.trees.items ≡ was.groups.trees.items ++ refs_from (next_tree was.trees) (last_list was.groups.pairs))
    (out : (bytes : Bytes) → IsAppending b mid bytes → IsAppending c now.trees bytes) (out_next : next_tree now.trees ≡ next_tree mid) (blocks_same : now.blocks ≡ was.blocks) (common_same : now.common ≡ was.common) where
  abbrev more : List TermPairs
  more = last_list was.groups.pairs

  -- where each term has a tree there is no superblock
  no_more : HasTrees a was header closed → now.groups.trees.items ≡ []
  no_more has = table ∙ ap (λ (l : List Pair). was.groups.trees.items ++ refs_from (next_tree was.trees) (last_list l)) has.no_pairs ∙ append-nil was.groups.trees.items ∙ has.no_table

  all_listed : HasTrees a was header closed → HasListed b mid (refs_from 16 closed ++ refs_from (next_tree was.trees) more) header closed
  all_listed has =
      subst (λ (l : List TermPairs). HasListed b mid (refs_from 16 closed ++ refs_from (next_tree was.trees) more) header l)
      (ap (λ (l : List Pair). closed ++ last_list l) has.no_pairs ∙ append-nil closed)
      (more_listed a b was.trees mid (refs_from 16 closed) (refs_from 16 closed ++ refs_from (next_tree was.trees) more) header closed more appended next refl
      (record { appended = has.appended; next_is = has.next_is; table_is = refl }))

  has_entries : HasTrees a was header closed → HasPushed now.blocks (entries_from 16 closed)
  has_entries has = subst (λ w. HasPushed w (entries_from 16 closed)) (sym blocks_same) has.pushed

  superblocks_listed : HasSuperblocks a was header closed → HasListed b mid now.groups.trees.items header (superblock_lists (rare_terms closed))
  superblocks_listed has =
      subst (λ (l : List TermPairs). HasListed b mid now.groups.trees.items header l) (all_lists was.groups (rare_terms closed) has.grouped.grouped)
      (more_listed a b was.trees mid was.groups.trees.items now.groups.trees.items header (lists_of (numbered_terms (rare_terms closed)) (length was.groups.trees.items)) more appended next table has.grouped.listed)

  -- what was written of the terms is all of it, with the last superblock
  pub all_trees : (mode : Mode) → IsWritten mode a was.trees was.blocks was.groups was.common header closed → HasAllTrees c mode now header closed
  all_trees Prefix has = record {
    begins = has.begins;
    appended = out (header ++ trees_bytes 16 closed) (all_listed has).appended;
    next_is = out_next ∙ (all_listed has).next_is;
    pushed = has_entries has;
    each = has.each;
    few = λ other. absurd cc;
    table_of = ap (λ (l : List TreeRef). 16 * length l) (no_more has);
    table_is = ap (λ (l : List TreeRef). flat_map (encoded tree) l) (no_more has);
    spill_is = λ spill. refl;
  }
  all_trees Contains has = record {
    begins = has.begins;
    appended = out (header ++ trees_bytes 16 closed) (all_listed has).appended;
    next_is = out_next ∙ (all_listed has).next_is;
    pushed = has_entries has;
    each = has.each;
    few = λ other. absurd cc;
    table_of = ap (λ (l : List TreeRef). 16 * length l) (no_more has);
    table_is = ap (λ (l : List TreeRef). flat_map (encoded tree) l) (no_more has);
    spill_is = λ spill. refl;
  }
  all_trees Sparse has =
      let listed = superblocks_listed has in
      record {
        begins = has.begins;
        appended = out (header ++ trees_bytes 16 (superblock_lists (rare_terms closed))) listed.appended;
        next_is = out_next ∙ listed.next_is;
        pushed = subst (λ w. HasPushed w (inline_entries (rare_terms closed))) (sym blocks_same) has.pushed;
        each = has.each;
        few = λ same. has.few;
        table_of =
            ap (λ (n : ℕ). 16 * n) (ap length listed.table_is ∙ refs_length 16 (superblock_lists (rare_terms closed)) ∙ superblocks_length (rare_terms closed));
        table_is = ap (λ (l : List TreeRef). flat_map (encoded tree) l) listed.table_is;
        spill_is = λ spill. ap (λ (l : List Pair). union_of (l ++ spill)) (common_same ∙ has.common_is);
      }
