-- The trees of superblocks, as one more term comes, and at the end.
use Rattle.std.proofs.Common.{◌≡◌, ℕ, zero, suc, ◌+◌, ◌-◌, ◌/◌, ◌<◌, ◌≤◌, Bool, true, false, List, [], ◌∷◌, ◌++◌, length, refl, sym, ◌∙◌, ap, subst, arith, rules, append_assoc, append-nil, length-append}
use Rattle.std.specs.Prelude.{map, nat_eq, if◌then◌else◌}
use Rattle.std.specs.List.{AllByRecursion, filter, flat_map, zip}
use Rattle.std.proofs.lemmas.List.{length_push, map_push}
use Rattle.std.proofs.lemmas.List.Concat.{flat_map-append}
use Rattle.std.proofs.lemmas.List.Elements.{filter-append}
use Rattle.sasi_types.specs.declared.tree.Pair.{Pair}
use Rattle.sasi_types.specs.declared.tree.TreeRef.{TreeRef}
use Rattle.sasi_host.specs.Names.{Bytes}
use Rattle.sasi_host.specs.View.{View}
use Rattle.sasi_sparse.specs.Sparse.{superblocks}
use Rattle.sasi_tokentree.specs.Format.{tree_bytes, tree_ref}
use Rattle.sasi_termblocks.specs.Blocks.{Item}
use Rattle.sasi_indexwrite.specs.declared.superblocks.Superblocks.{Superblocks}
use Rattle.sasi_indexwrite.specs.declared.tree_writer.TreeWriter.{TreeWriter}
use Rattle.sasi_indexwrite.specs.Appending.{IsAppending, next_tree}
use Rattle.sasi_indexwrite.specs.Content.{TermPairs}
use Rattle.sasi_indexwrite.specs.Format.{refs_from, trees_bytes}
use Rattle.sasi_indexwrite.specs.Grouped.{HasGroups, HasListed, IsGrouped, last_list}
use Rattle.sasi_indexwrite.specs.Superblocks.{block_numbers, inline_blocks, lists_of, numbered_terms, numbers_from, pairs_within, superblock_list, superblock_lists, terms_within}
use Rattle.sasi_indexwrite.specs.Unions.{union_of}
use Rattle.sasi_indexwrite.proofs.Lists.{all_join}
use Rattle.sasi_indexwrite.proofs.Numbering.{numbered_push, term_pushed}

-- ---- trees one behind another

trees_join : (at : ℕ) (some more : List TermPairs) → trees_bytes at (some ++ more) ≡ trees_bytes at some ++ trees_bytes (at + length (trees_bytes at some)) more
trees_join at [] more = ap (λ (n : ℕ). trees_bytes n more) (omega arith)
trees_join at (first ∷ some) more =
    let own = tree_bytes at first.1 in
    let next = at + length own in
    ap (λ (l : Bytes). own ++ l) (trees_join next some more)
    ∙ ap (λ (n : ℕ). own ++ (trees_bytes next some ++ trees_bytes n more)) (omega (arith, length-append own (trees_bytes next some)))
    ∙ sym (append_assoc own (trees_bytes next some) (trees_bytes (at + length (own ++ trees_bytes next some)) more))

refs_join : (at : ℕ) (some more : List TermPairs) → refs_from at (some ++ more) ≡ refs_from at some ++ refs_from (at + length (trees_bytes at some)) more
refs_join at [] more = ap (λ (n : ℕ). refs_from n more) (omega arith)
refs_join at (first ∷ some) more =
    let own = tree_bytes at first.1 in
    let next = at + length own in
    ap (λ (l : List TreeRef). tree_ref at first.1 ∷ l) (refs_join next some more ∙ ap (λ (n : ℕ). refs_from next some ++ refs_from n more) (omega (arith, length-append own (trees_bytes next some))))

pub refs_length : (at : ℕ) (lists : List TermPairs) → length (refs_from at lists) ≡ length lists
refs_length at [] = refl
refs_length at (first ∷ lists) = ap (λ (n : ℕ). suc n) (refs_length (at + length (tree_bytes at first.1)) lists)

-- the trees of more lists were appended
pub more_listed : (a b : View) (old new : TreeWriter) (table table_now : List TreeRef) (header : Bytes) (lists more : List TermPairs) → ((bytes : Bytes) → IsAppending a old bytes → IsAppending b new (bytes ++ trees_bytes (next_tree old) more))
    → next_tree new ≡ next_tree old + length (trees_bytes (next_tree old) more) → table_now ≡ table ++ refs_from (next_tree old) more → HasListed a old table header lists → HasListed b new table_now header (lists ++ more)
more_listed a b old new table table_now header lists more appended next refs was = record {
  appended = subst (λ (l : Bytes). IsAppending b new l) whole (appended (header ++ trees_bytes 16 lists) was.appended);
  next_is = omega (arith, next, was.next_is, ap length trees, length-append (trees_bytes 16 lists) (trees_bytes (next_tree old) more));
  table_is =
      refs ∙ ap (λ (l : List TreeRef). l ++ refs_from (next_tree old) more) was.table_is ∙ ap (λ (n : ℕ). refs_from 16 lists ++ refs_from n more) was.next_is ∙ sym (refs_join 16 lists more);
}
  where
    trees : trees_bytes 16 (lists ++ more) ≡ trees_bytes 16 lists ++ trees_bytes (next_tree old) more
    trees = trees_join 16 lists more ∙ ap (λ (n : ℕ). trees_bytes 16 lists ++ trees_bytes n more) (sym was.next_is)

    whole : (header ++ trees_bytes 16 lists) ++ trees_bytes (next_tree old) more ≡ header ++ trees_bytes 16 (lists ++ more)
    whole = append_assoc header (trees_bytes 16 lists) (trees_bytes (next_tree old) more) ∙ ap (λ (l : Bytes). header ++ l) (sym trees)

-- ---- the pairs of superblocks

within_join : (some more : List (ℕ × TermPairs)) (number : ℕ) → pairs_within (some ++ more) number ≡ pairs_within some number ++ pairs_within more number
within_join some more number =
    ap (λ (l : List (ℕ × TermPairs)). flat_map (λ (one : ℕ × TermPairs). one.1.1) l) (filter-append (λ (one : ℕ × TermPairs). nat_eq (one.0 / 64) number) some more)
    ∙ flat_map-append (λ (one : ℕ × TermPairs). one.1.1) (terms_within number some) (terms_within number more)

in_one : (block : ℕ) (one : TermPairs) (number : ℕ) → nat_eq (block / 64) number ≡ true → pairs_within ((block, one) ∷ []) number ≡ one.1
in_one block one number is = by_test (nat_eq (block / 64) number) is
  where
    by_test : (b : Bool) → b ≡ true → flat_map (λ (one : ℕ × TermPairs). one.1.1) (if b then (block, one) ∷ [] else []) ≡ one.1
    by_test true is = append-nil one.1
    by_test false is = absurd cc

in_other : (block : ℕ) (one : TermPairs) (number : ℕ) → nat_eq (block / 64) number ≡ false → pairs_within ((block, one) ∷ []) number ≡ []
in_other block one number is = by_test (nat_eq (block / 64) number) is
  where
    by_test : (b : Bool) → b ≡ false → flat_map (λ (one : ℕ × TermPairs). one.1.1) (if b then (block, one) ∷ [] else []) ≡ []
    by_test true is = absurd cc
    by_test false is = refl

same_number : (a b : ℕ) → a ≡ b → nat_eq a b ≡ true
same_number a b is = search (rules, is)

apart_numbers : (a b : ℕ) → b < a → nat_eq a b ≡ false
apart_numbers a b below = search (rules, below)

-- no term is in a superblock behind all of them
none_behind : (terms : List (ℕ × TermPairs)) (last number : ℕ) → last < number → AllByRecursion (λ (one : ℕ × TermPairs). one.0 / 64 ≤ last) terms → pairs_within terms number ≡ []
none_behind [] last number behind all = refl
none_behind (one ∷ terms) last number behind all =
    within_join (one ∷ []) terms number
    ∙ ap (λ (l : List Pair). l ++ pairs_within terms number) (in_other one.0 one.1 number (other (one.0 / 64) all.0)) ∙ none_behind terms last number behind all.1
  where
    other : (n : ℕ) → n ≤ last → nat_eq n number ≡ false
    other n most =
        let below : n < number = omega (arith, most, behind) in
        search (rules, below)

-- the superblocks before that of a term more are as they were
lists_stay : (terms : List (ℕ × TermPairs)) (block : ℕ) (one : TermPairs) (from more : ℕ) → from + more ≤ block / 64
    → map (superblock_list (terms ++ (block, one) ∷ [])) (numbers_from from more) ≡ map (superblock_list terms) (numbers_from from more)
lists_stay terms block one from zero before = refl
lists_stay terms block one from (suc more) before =
    let same : pairs_within (terms ++ (block, one) ∷ []) from ≡ pairs_within terms from =
    within_join terms ((block, one) ∷ []) from ∙ ap (λ (l : List Pair). pairs_within terms from ++ l) (in_other block one from (apart_numbers (block / 64) from (omega (arith, before)))) ∙ append-nil (pairs_within terms from)
    in
    ap (λ (l : List Pair). ([], union_of l) ∷ map (superblock_list (terms ++ (block, one) ∷ [])) (numbers_from (suc from) more)) same
    ∙ ap (λ (l : List TermPairs). ([], union_of (pairs_within terms from)) ∷ l) (lists_stay terms block one (suc from) more (omega (arith, before)))

numbers_more : (from more : ℕ) → numbers_from from (suc more) ≡ numbers_from from more ++ (from + more) ∷ []
numbers_more from zero = ap (λ (n : ℕ). n ∷ []) (omega arith)
numbers_more from (suc more) = ap (λ (l : List ℕ). from ∷ l) (numbers_more (suc from) more ∙ ap (λ (n : ℕ). numbers_from (suc from) more ++ n ∷ []) (omega arith))

lists_more : (terms : List (ℕ × TermPairs)) (count : ℕ) → lists_of terms (suc count) ≡ lists_of terms count ++ ([], union_of (pairs_within terms count)) ∷ []
lists_more terms count =
    ap (λ (l : List ℕ). map (superblock_list terms) l) (numbers_more 0 count ∙ ap (λ (n : ℕ). numbers_from 0 count ++ n ∷ []) (omega arith))
    ∙ map_push (superblock_list terms) (numbers_from 0 count) count

lists_length : (terms : List (ℕ × TermPairs)) (from more : ℕ) → length {A = TermPairs} (map (superblock_list terms) (numbers_from from more)) ≡ more
lists_length terms from zero = refl
lists_length terms from (suc more) = ap (λ (n : ℕ). suc n) (lists_length terms (suc from) more)

pub superblocks_length : (terms : List TermPairs) → length (superblock_lists terms) ≡ superblocks (length (inline_blocks terms))
superblocks_length terms = lists_length (numbered_terms terms) 0 (superblocks (length (inline_blocks terms)))

last_some : (pairs : List Pair) → 1 ≤ length pairs → last_list pairs ≡ ([], union_of pairs) ∷ []
last_some [] some = absurd (omega arith)
last_some (pair ∷ pairs) some = refl

-- with the last superblock there is one more
with_last_list : (groups : Superblocks) (terms : List TermPairs) → IsGrouped groups terms → 1 ≤ length groups.pairs
    → lists_of (numbered_terms terms) (length groups.trees.items) ++ last_list groups.pairs ≡ lists_of (numbered_terms terms) (suc (length groups.trees.items))
with_last_list groups terms is some =
    let count = length groups.trees.items in
    ap (λ (l : List TermPairs). lists_of (numbered_terms terms) count ++ l) (last_some groups.pairs some ∙ ap (λ (l : List Pair). ([], union_of l) ∷ []) is.pairs_are)
    ∙ sym (lists_more (numbered_terms terms) count)

empty_blocks : (blocks : List (List Item)) (terms : List TermPairs) (count : ℕ) → superblocks (length blocks) ≡ 0 → pairs_within (zip (block_numbers 0 blocks) terms) count ≡ []
empty_blocks [] terms count none = refl
empty_blocks (block ∷ others) terms count none = absurd (omega (arith, none))

-- and they are all
pub all_lists : (groups : Superblocks) (terms : List TermPairs) → IsGrouped groups terms → lists_of (numbered_terms terms) (length groups.trees.items) ++ last_list groups.pairs ≡ superblock_lists terms
all_lists groups terms is = by_pairs groups.pairs refl
  where
    by_pairs : (pairs : List Pair) → groups.pairs ≡ pairs → lists_of (numbered_terms terms) (length groups.trees.items) ++ last_list groups.pairs ≡ superblock_lists terms
    by_pairs [] none = by_total (superblocks (length (inline_blocks terms))) refl
      where
        by_total : (n : ℕ) → superblocks (length (inline_blocks terms)) ≡ n → lists_of (numbered_terms terms) (length groups.trees.items) ++ last_list groups.pairs ≡ superblock_lists terms
        by_total zero no_blocks =
            let zero_count : length groups.trees.items ≡ 0 = omega (arith, is.count_is, no_blocks) in
            ap (λ (l : List Pair). lists_of (numbered_terms terms) (length groups.trees.items) ++ last_list l) none ∙ append-nil (lists_of (numbered_terms terms) (length groups.trees.items))
            ∙ ap (λ (n : ℕ). lists_of (numbered_terms terms) n) (zero_count ∙ sym no_blocks)
        by_total (suc n) some_blocks = absurd (omega (arith, is.some (omega (arith, some_blocks)), ap length none))
    by_pairs (pair ∷ pairs) some_pairs = by_total (superblocks (length (inline_blocks terms))) refl
      where
        by_total : (n : ℕ) → superblocks (length (inline_blocks terms)) ≡ n → lists_of (numbered_terms terms) (length groups.trees.items) ++ last_list groups.pairs ≡ superblock_lists terms
        by_total zero no_blocks =
            let none : pair ∷ pairs ≡ [] = sym some_pairs ∙ is.pairs_are ∙ empty_blocks (inline_blocks terms) terms (length groups.trees.items) no_blocks in
            absurd cc
        by_total (suc n) some_blocks =
            let counted : suc (length groups.trees.items) ≡ superblocks (length (inline_blocks terms)) = omega (arith, is.count_is, some_blocks) in
            with_last_list groups terms is (omega (arith, ap length some_pairs)) ∙ ap (λ (n : ℕ). lists_of (numbered_terms terms) n) counted

within_more : (terms : List (ℕ × TermPairs)) (count more : ℕ) → count ≤ more → AllByRecursion (λ (one : ℕ × TermPairs). one.0 / 64 ≤ count) terms → AllByRecursion (λ (one : ℕ × TermPairs). one.0 / 64 ≤ more) terms
within_more [] count more below all = tt
within_more (one ∷ terms) count more below all = (later (one.0 / 64) all.0, within_more terms count more below all.1)
  where
    later : (n : ℕ) → n ≤ count → n ≤ more
    later n most = omega (arith, most, below)

-- ---- one term more

module _ (terms : List TermPairs) (one : TermPairs) (some : 1 ≤ length one.1) where
  abbrev block : ℕ
  block = length (inline_blocks (terms ++ one ∷ [])) - 1

  abbrev all : ℕ
  all = superblocks (length (inline_blocks (terms ++ one ∷ [])))

  -- in the superblock of the last one, or in the first of another one
  grouped_with : (groups : Superblocks) (before : List Pair) → length (block_numbers 0 (inline_blocks terms)) ≡ length terms → before ≡ pairs_within (numbered_terms terms) (length groups.trees.items)
      → AllByRecursion (λ (one : ℕ × TermPairs). one.0 / 64 ≤ length groups.trees.items) (numbered_terms terms) → block / 64 ≡ length groups.trees.items → groups.pairs ≡ before ++ one.1 → IsGrouped groups (terms ++ one ∷ [])
  grouped_with groups before long before_is within here is =
      let push = numbered_push terms one long in
      let count = length groups.trees.items in
      let more = term_pushed terms one in
      record {
        pairs_are =
            is ∙ ap (λ (l : List Pair). l ++ one.1) before_is ∙ ap (λ (l : List Pair). pairs_within (numbered_terms terms) count ++ l) (sym (in_one block one count (same_number (block / 64) count here)))
            ∙ sym (within_join (numbered_terms terms) ((block, one) ∷ []) count) ∙ ap (λ (l : List (ℕ × TermPairs)). pairs_within l count) (sym push);
        count_is = omega (arith, here, more.some);
        some = λ _. omega (arith, some, ap length is, length-append before one.1);
        within =
            subst (λ (l : List (ℕ × TermPairs)). AllByRecursion (λ (one : ℕ × TermPairs). one.0 / 64 ≤ count) l) (sym push)
            (all_join (λ (one : ℕ × TermPairs). one.0 / 64 ≤ count) (numbered_terms terms) ((block, one) ∷ []) within (omega (arith, here), tt));
        long = ap length more.numbers ∙ omega (arith, long, length_push (block_numbers 0 (inline_blocks terms)) block, length_push terms one);
      }

  lists_kept : (count : ℕ) → length (block_numbers 0 (inline_blocks terms)) ≡ length terms → count ≤ block / 64 → lists_of (numbered_terms terms) count ≡ lists_of (numbered_terms (terms ++ one ∷ [])) count
  lists_kept count long before =
      sym (lists_stay (numbered_terms terms) block one 0 count (omega (arith, before))) ∙ ap (λ (l : List (ℕ × TermPairs)). lists_of l count) (sym (numbered_push terms one long))

  -- no other superblock began
  pub same_superblock : (v : View) (trees : TreeWriter) (old new : Superblocks) (header : Bytes) → all ≤ length old.trees.items + 1 → new.trees.items ≡ old.trees.items → new.pairs ≡ old.pairs ++ one.1
      → HasGroups v trees old header terms → HasGroups v trees new header (terms ++ one ∷ [])
  same_superblock v trees old new header test same pairs was =
      let more = term_pushed terms one in
      let count : length new.trees.items ≡ length old.trees.items = ap length same in
      let here : block / 64 ≡ length old.trees.items = omega (arith, test, was.grouped.count_is, more.some, more.above) in
      record {
        listed =
            subst (λ (l : List TermPairs). HasListed v trees new.trees.items header l)
            (lists_kept (length old.trees.items) was.grouped.long (omega (arith, here)) ∙ ap (λ (n : ℕ). lists_of (numbered_terms (terms ++ one ∷ [])) n) (sym count))
            (subst (λ (l : List TreeRef). HasListed v trees l header (lists_of (numbered_terms terms) (length old.trees.items))) (sym same) was.listed);
        grouped =
            grouped_with new old.pairs was.grouped.long (was.grouped.pairs_are ∙ ap (λ (n : ℕ). pairs_within (numbered_terms terms) n) (sym count))
            (subst (λ (n : ℕ). AllByRecursion (λ (one : ℕ × TermPairs). one.0 / 64 ≤ n) (numbered_terms terms)) (sym count) was.grouped.within) (here ∙ sym count) pairs;
      }

  -- another one began, and the tree of the one before was appended
  pub other_superblock : (a b : View) (old_trees new_trees : TreeWriter) (old new : Superblocks) (header : Bytes) (none : List Pair) → length old.trees.items + 1 < all
      → ((bytes : Bytes) → IsAppending a old_trees bytes → IsAppending b new_trees (bytes ++ trees_bytes (next_tree old_trees) (last_list old.pairs)))
      → next_tree new_trees ≡ next_tree old_trees + length (trees_bytes (next_tree old_trees) (last_list old.pairs)) → new.trees.items ≡ old.trees.items ++ refs_from (next_tree old_trees) (last_list old.pairs) → none ≡ []
      → new.pairs ≡ none ++ one.1 → HasGroups a old_trees old header terms → HasGroups b new_trees new header (terms ++ one ∷ [])
  other_superblock a b old_trees new_trees old new header none test appended next table empty pairs was =
      let more = term_pushed terms one in
      let ns = numbered_terms terms in
      let q = length old.trees.items in
      let begun : 1 ≤ superblocks (length (inline_blocks terms)) = omega (arith, test, was.grouped.count_is, more.near) in
      let some_pairs : 1 ≤ length old.pairs = was.grouped.some begun in
      let refs = refs_from (next_tree old_trees) (last_list old.pairs) in
      let count : length new.trees.items ≡ suc q =
      omega (arith, ap length table, length-append old.trees.items refs, refs_length (next_tree old_trees) (last_list old.pairs), ap length (last_some old.pairs some_pairs))
      in
      let here : block / 64 ≡ suc q = omega (arith, test, was.grouped.count_is, more.near, more.some, more.above, begun) in
      let lists : lists_of ns q ++ last_list old.pairs ≡ lists_of (numbered_terms (terms ++ one ∷ [])) (length new.trees.items) =
      with_last_list old terms was.grouped some_pairs ∙ lists_kept (suc q) was.grouped.long (omega (arith, here)) ∙ ap (λ (n : ℕ). lists_of (numbered_terms (terms ++ one ∷ [])) n) (sym count)
      in
      record {
        listed =
            subst (λ (l : List TermPairs). HasListed b new_trees new.trees.items header l) lists
            (more_listed a b old_trees new_trees old.trees.items new.trees.items header (lists_of ns q) (last_list old.pairs) appended next table was.listed);
        grouped =
            grouped_with new [] was.grouped.long (sym (none_behind ns q (length new.trees.items) (omega (arith, count)) was.grouped.within))
            (within_more ns q (length new.trees.items) (omega (arith, count)) was.grouped.within) (here ∙ sym count) (pairs ∙ ap (λ (l : List Pair). l ++ one.1) empty);
      }
