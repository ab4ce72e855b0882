-- The parts of an index file: where they stand, and that the numbers of its footer are in their ranges.
use Rattle.std.specs.Prelude.{◌≡◌, ℕ, zero, suc, ◌+◌, ◌-◌, ◌*◌, ◌/◌, ◌^◌, ◌<◌, ◌≤◌, ◌==◌, Bool, true, false, if◌then◌else◌, List, [], ◌∷◌, ◌++◌, length, map, refl}
use Rattle.std.proofs.Common.{sym, ◌∙◌, ap, subst, arith, append_assoc, length-append, ⊎_elim}
use Rattle.std.proofs.lemmas.List.{append-nil, length-map, length-replicate}
use Rattle.std.proofs.lemmas.Bool.Decides.{leb_tells}
use Rattle.std.specs.List.{AllByRecursion, flat_map}
use Rattle.sasi_types.specs.declared.mode.Mode.{Mode}
use Rattle.sasi_types.specs.declared.mode.Mode.TheVariants.{Prefix, Contains, Sparse}
use Rattle.sasi_types.specs.declared.column.ColumnType.{ColumnType}
use Rattle.sasi_types.specs.declared.tree.Pair.{Pair}
use Rattle.sasi_host.specs.Names.{Bytes}
use Rattle.sasi_host.specs.Damages.{HasAt}
use Rattle.sasi_formats.specs.Formats.{Fits, encoded}
use Rattle.sasi_tokentree.specs.Format.{above, level_bytes, levels, size, top, tree_bytes, tree_ref}
use Rattle.sasi_tokentree.proofs.Sizes.{level_length, more_levels, one_level}
use Rattle.sasi_tokentree.proofs.Laws.{root_offset}
use Rattle.sasi_sparse.specs.Sparse.{superblocks}
use Rattle.sasi_termblocks.specs.Blocks.{blocks, items_of, term_item}
use Rattle.sasi_termblocks.specs.Entries.{tree}
use Rattle.sasi_termblocks.specs.Scans.{HaveBytes}
use Rattle.sasi_termblocks.proofs.EntryLaws.{entry_fits}
use Rattle.sasi_termblocks.proofs.Groups.{AreItems, are_small, items_are}
use Rattle.sasi_termblocks.proofs.InlineLaws.{inline_fits}
use Rattle.sasi_indexwrite.specs.declared.footer.Footer.{Footer}
use Rattle.sasi_indexwrite.specs.Content.{HasFewPairs, IndexContent, IsTerm, TermPairs}
use Rattle.sasi_indexwrite.specs.Files.{IsIndexFile}
use Rattle.sasi_indexwrite.specs.Format.{blocks_at, blocks_bytes, blocks_end, entries, entries_from, entries_in, footer, footer_at, footer_bytes, footer_of, front, has_levels, has_room, header_bytes, index_bytes, is_first, is_spill, next_page, padding, refs_from, spill_at, spill_ref, table, table_at, table_in, table_size, treed, trees, trees_bytes}
use Rattle.sasi_indexwrite.specs.Superblocks.{inline_blocks, inline_entries, numbers_from, superblock_lists}
use Rattle.sasi_indexread.proofs.BlockCounts.{blocks_hold}
use Rattle.sasi_indexread.proofs.LevelSizes.{levels_are}
use Rattle.sasi_indexread.proofs.Ranges.{first_passes, levels_pass, room_passes, spill_passes, term_count_passes, top_passes, top_small}
use Rattle.sasi_indexread.proofs.Fields.{footer_fits}

footer_length : (numbers : Footer) → length (footer_bytes numbers) ≡ 72
unfolding footer_bytes
footer_length numbers = refl

header_length : (mode : Mode) (kind : ColumnType) → length (header_bytes mode kind) ≡ 16
unfolding header_bytes
header_length mode kind = refl

-- ---- trees

root_small : (at : ℕ) (pairs : List Pair) → (tree_ref at pairs).root ≤ at + length (tree_bytes at pairs)
unfolding top
root_small at [] = omega arith
root_small at (first ∷ others) = let place = root_offset at (first ∷ others) (omega arith) in omega (arith, place.within)

pairs_few : (at : ℕ) (pairs : List Pair) → length pairs ≤ length (tree_bytes at pairs)
pairs_few at [] = omega arith
pairs_few at (first ∷ others) =
    let pairs = first ∷ others in
    let next = at + size (length pairs) in
    ⊎_elim
    (λ one. omega (arith, ap length (one_level (length others) 0 at pairs one.1), level_length 0 pairs))
    (λ more. omega (arith, ap length (more_levels (length others) 0 at pairs more.1), level_length 0 pairs, length-append (level_bytes 0 pairs) (levels (length others) 1 next (above at pairs))))
    (leb_tells (length pairs) 255)

-- ---- entries

-- the entries have bytes where the trees end early enough
entries_fit : (at : ℕ) (terms : List TermPairs) → AllByRecursion IsTerm terms → at + length (trees_bytes at terms) < 2 ^ 62 → HaveBytes (entries_from at terms)
entries_fit at [] all lt = tt
entries_fit at (one ∷ others) all lt =
    let next = at + length (tree_bytes at one.1) in
    let both = length-append (tree_bytes at one.1) (trees_bytes next others) in
    (entry_fits one.0 (tree_ref at one.1) all.0.short (omega (arith, root_small at one.1, both, lt)) (omega (arith, pairs_few at one.1, both, lt)) (omega (arith, all.0.some)), entries_fit next others all.1 (omega (arith, both, lt)))

inline_fit : (terms : List TermPairs) → AllByRecursion IsTerm terms → AllByRecursion HasFewPairs terms → HaveBytes (inline_entries terms)
inline_fit [] all few = tt
inline_fit (one ∷ others) all few = (inline_fits one.0 one.1 all.0.short all.0.pairs.fit all.0.pairs.rising all.0.some few.0, inline_fit others all.1 few.1)

entries_have : (mode : Mode) (terms : List TermPairs) → AllByRecursion IsTerm terms → (mode ≡ Sparse → AllByRecursion HasFewPairs terms) → 16 + length (trees_bytes 16 (treed mode terms)) < 2 ^ 62 → HaveBytes (entries_in mode terms)
entries_have Prefix terms all few lt = entries_fit 16 terms all lt
entries_have Contains terms all few lt = entries_fit 16 terms all lt
entries_have Sparse terms all few lt = inline_fit terms all (few refl)

-- ---- the table of superblocks

numbers_many : {A : Type 0} (f : ℕ → A) (n many : ℕ) → length (map f (numbers_from n many)) ≡ many
numbers_many f n zero = refl
numbers_many f n (suc more) = ap suc (numbers_many f (suc n) more)

refs_long : (at : ℕ) (lists : List TermPairs) → length (flat_map (encoded tree) (refs_from at lists)) ≡ 16 * length lists
refs_long at [] = refl
refs_long at (one ∷ others) =
    let next = at + length (tree_bytes at one.1) in
    omega (arith, length-append (encoded tree (tree_ref at one.1)) (flat_map (encoded tree) (refs_from next others)), refs_long next others)

lists_many : (terms : List TermPairs) → length (superblock_lists terms) ≡ superblocks (length (inline_blocks terms))
lists_many terms = numbers_many _ 0 (superblocks (length (inline_blocks terms)))

table_long : (mode : Mode) (terms : List TermPairs) → length (table_in mode terms) ≡ table_size mode (length (blocks (items_of (entries_in mode terms))))
table_long Prefix terms = refl
table_long Contains terms = refl
table_long Sparse terms = refs_long 16 (superblock_lists terms) ∙ ap (λ (n : ℕ). 16 * n) (lists_many terms)

table_within : (mode : Mode) (at blocks : ℕ) → table_at mode at blocks ≤ at
table_within mode at blocks = by_test (table_size mode blocks == 0)
  where
    by_test : (none : Bool) → (if none then 0 else blocks_end mode at blocks) ≤ at
    by_test true = omega arith
    by_test false = omega arith

page_up : (n : ℕ) → n ≤ next_page n
page_up n = omega arith

-- ---- the file

module _ (bytes : Bytes) (content : IndexContent) (is : IsIndexFile bytes content) where
  abbrev pub numbers_of : Footer
  numbers_of = footer_of content is.blocks

  abbrev block_bytes : Bytes
  block_bytes = blocks_bytes content is.blocks

  -- what follows the blocks
  abbrev tail : Bytes
  tail = table content ++ footer_bytes numbers_of

  file_is : bytes ≡ front content ++ (padding (length (front content)) ++ (block_bytes ++ tail))
  unfolding index_bytes
  file_is = is.is

  padding_length : length (front content) + length (padding (length (front content))) ≡ blocks_at content
  padding_length = omega (arith, length-replicate {A = ℕ} (blocks_at content - length (front content)) 0, page_up (length (front content)))

  front_long : length (front content) ≡ 16 + length (trees content) + length (tree_bytes (spill_at content) content.spill)
  front_long = omega (
    arith,
    length-append (header_bytes content.mode content.kind) (trees content ++ tree_bytes (spill_at content) content.spill),
    length-append (trees content) (tree_bytes (spill_at content) content.spill),
    header_length content.mode content.kind,
  )

  -- the blocks begin behind the trees
  pub front_within : 16 + length (trees content) + length (tree_bytes (spill_at content) content.spill) ≤ blocks_at content
  front_within = omega (arith, front_long, page_up (length (front content)))

  pub whole_length : length bytes ≡ footer_at content is.blocks + 72
  whole_length = omega (
    arith,
    ap length file_is,
    length-append (front content) (padding (length (front content)) ++ (block_bytes ++ tail)),
    length-append (padding (length (front content))) (block_bytes ++ tail),
    length-append block_bytes tail,
    length-append (table content) (footer_bytes numbers_of),
    padding_length,
    footer_length numbers_of,
  )

  pub least_size : 4168 ≤ length bytes
  least_size = omega (arith, whole_length, front_within)

  pub header_stands : HasAt bytes 0 (header_bytes content.mode content.kind)
  header_stands = record {
    front = [];
    rest = (trees content ++ tree_bytes (spill_at content) content.spill) ++ (padding (length (front content)) ++ (block_bytes ++ tail));
    is = file_is ∙ append_assoc (header_bytes content.mode content.kind) (trees content ++ tree_bytes (spill_at content) content.spill) (padding (length (front content)) ++ (block_bytes ++ tail));
    offset_is = refl;
  }

  pub footer_stands : HasAt bytes (length bytes - 72) (footer_bytes numbers_of)
  footer_stands = record {
    front = front content ++ (padding (length (front content)) ++ (block_bytes ++ table content));
    rest = [];
    is = file_is ∙ regroup (front content) (padding (length (front content))) block_bytes (table content) (footer_bytes numbers_of);
    offset_is = omega (
      arith,
      whole_length,
      length-append (front content) (padding (length (front content)) ++ (block_bytes ++ table content)),
      length-append (padding (length (front content))) (block_bytes ++ table content),
      length-append block_bytes (table content),
      padding_length,
    );
  }
    where
      regroup : (a b c d e : Bytes) → a ++ (b ++ (c ++ (d ++ e))) ≡ (a ++ (b ++ (c ++ d))) ++ e ++ []
      regroup a b c d e = simp (append_assoc, append-nil)

  pub levels_stand : HasAt bytes (blocks_at content) block_bytes
  levels_stand = record {
    front = front content ++ padding (length (front content));
    rest = tail;
    is = file_is ∙ regroup (front content) (padding (length (front content))) block_bytes tail;
    offset_is = length-append (front content) (padding (length (front content))) ∙ padding_length;
  }
    where
      regroup : (a b c d : Bytes) → a ++ (b ++ (c ++ d)) ≡ (a ++ b) ++ c ++ d
      regroup a b c d = simp append_assoc

  pub trees_stand : HasAt bytes 16 (trees content)
  trees_stand = record {
    front = header_bytes content.mode content.kind;
    rest = tree_bytes (spill_at content) content.spill ++ (padding (length (front content)) ++ (block_bytes ++ tail));
    is = file_is ∙ regroup (header_bytes content.mode content.kind) (trees content) (tree_bytes (spill_at content) content.spill) (padding (length (front content)) ++ (block_bytes ++ tail));
    offset_is = header_length content.mode content.kind;
  }
    where
      regroup : (a b c d : Bytes) → (a ++ (b ++ c)) ++ d ≡ a ++ b ++ (c ++ d)
      regroup a b c d = simp append_assoc

  pub spill_stands : HasAt bytes (spill_at content) (tree_bytes (spill_at content) content.spill)
  spill_stands = record {
    front = header_bytes content.mode content.kind ++ trees content;
    rest = padding (length (front content)) ++ (block_bytes ++ tail);
    is = file_is ∙ regroup (header_bytes content.mode content.kind) (trees content) (tree_bytes (spill_at content) content.spill) (padding (length (front content)) ++ (block_bytes ++ tail));
    offset_is = length-append (header_bytes content.mode content.kind) (trees content) ∙ ap (λ (n : ℕ). n + length (trees content)) (header_length content.mode content.kind);
  }
    where
      regroup : (a b c d : Bytes) → (a ++ (b ++ c)) ++ d ≡ (a ++ b) ++ c ++ d
      regroup a b c d = simp append_assoc

  module _ (short : length bytes ≤ 2 ^ 62) where
    pub have_bytes : HaveBytes (entries content)
    have_bytes = entries_have content.mode content.terms is.content_is.each is.content_is.few (omega (arith, whole_length, front_within, short))

    are_items : AreItems (items_of (entries content))
    are_items = items_are (entries content) have_bytes

    -- it has fewer terms than bytes
    pub few_terms : length (entries content) ≤ 2 ^ 62
    few_terms =
        let are = levels_are is.blocks.levels (blocks_at content) (items_of (entries content)) are_items is.referred.levels_are in
        omega (arith, length-map (entries content) term_item, blocks_hold (items_of (entries content)) (are_small (items_of (entries content)) are_items), are.long, are.enough, whole_length, short)

    -- the numbers of its footer are in their ranges
    pub in_range : Fits (footer content.mode (length bytes - 72)) numbers_of
    in_range = footer_fits content.mode (length bytes - 72) numbers_of (
        let first = blocks_at content in
        let at = length bytes - 72 in
        let r = is.blocks in
        let end = blocks_end content.mode at r.blocks in
        let items = items_of (entries content) in
        let are = levels_are r.levels first items are_items is.referred.levels_are in
        let here : at ≡ footer_at content r = omega (arith, whole_length) in
        let table_is : length (table content) ≡ table_size content.mode r.blocks = table_long content.mode content.terms ∙ ap (table_size content.mode) (sym is.referred.blocks_are) in
        let room : end ≡ first + 4096 * are.total = omega (arith, here, table_is, are.long) in
        let below : first + 4096 * are.total < 2 ^ 62 = omega (arith, whole_length, are.long, short) in
        record {
          few_terms = omega (arith, is.referred.terms_are, few_terms);
          few_pairs = omega (arith, pairs_few (spill_at content) content.spill, front_within, below);
          root = omega (arith, root_small (spill_at content) content.spill, front_within, below);
          small = omega (arith, is.referred.first, below);
          few = omega (arith, is.referred.blocks_are, are.enough, below);
          low = omega (arith, are.enough, below);
          near = omega (arith, is.referred.top_is, top_small r.levels end first items are room is.referred.levels_are, room, below);
          within = omega (arith, table_within content.mode (footer_at content r) r.blocks, whole_length, short);
          first = subst (λ (n : ℕ). is_first at n ≡ true) (sym is.referred.first) (first_passes at first ((length (front content) + 4095) / 4096) refl (omega (arith, front_long)) (omega (arith, here)));
          blocks = subst (λ (n : ℕ). has_room end n r.blocks ≡ true) (sym is.referred.first)
              (room_passes r.levels end first items are room is.referred.levels_are ((length (front content) + 4095) / 4096) r.blocks refl is.referred.blocks_are);
          levels = subst (λ (n : ℕ). has_levels end n r.blocks r.levels ≡ true) (sym is.referred.first) (levels_pass r.levels end first items are room is.referred.levels_are r.blocks is.referred.blocks_are);
          top = top_passes r.levels end first r.top items are room is.referred.levels_are is.referred.top_is;
          table = ap (λ (n : ℕ). table_at content.mode n r.blocks) (sym here);
          spill = subst (λ (n : ℕ). is_spill n (spill_ref content) ≡ true) (sym is.referred.first) (spill_passes first (spill_at content) content.spill (omega arith) (omega (arith, front_within)) (omega (arith, below)));
          terms = term_count_passes r.blocks r.terms items (are_small items are_items) is.referred.blocks_are (is.referred.terms_are ∙ sym (length-map (entries content) term_item));
        })
