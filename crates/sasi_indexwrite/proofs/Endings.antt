-- The end of an index file.
use Rattle.std.proofs.Common.{◌≡◌, ◌≢◌, ℕ, zero, suc, ◌+◌, ◌-◌, ◌*◌, ◌<◌, ◌≤◌, Bool, false, List, [], ◌∷◌, ◌++◌, length, take, Some, refl, sym, ◌∙◌, ap, subst, arith, rules, append_assoc, length-append}
use Rattle.std.specs.Prelude.{◌==◌, replicate, if◌then◌else◌}
use Rattle.std.specs.List.{flat_map}
use Rattle.std.proofs.lemmas.List.{length-replicate}
use Rattle.sasi_types.specs.declared.column.ColumnType.{ColumnType}
use Rattle.sasi_types.specs.declared.column.ColumnType.TheVariants.{Uuid}
use Rattle.sasi_types.specs.declared.mode.Mode.{Mode}
use Rattle.sasi_types.specs.declared.tree.Pair.{Pair}
use Rattle.sasi_types.specs.declared.tree.TreeRef.{TreeRef}
use Rattle.sasi_host.specs.declared.name.FileName.{FileName}
use Rattle.sasi_host.specs.Names.{Bytes}
use Rattle.sasi_host.specs.View.{View, Holds, IsTold, contents}
use Rattle.sasi_segments.specs.declared.posting.Posting.{Posting}
use Rattle.sasi_formats.specs.Formats.{encoded}
use Rattle.sasi_tokentree.specs.Format.{AreFit, IsRising, tree_bytes, tree_ref}
use Rattle.sasi_tokentree.specs.Writes.{Writes}
use Rattle.sasi_termblocks.specs.declared.block_ref.BlockRef.{BlockRef}
use Rattle.sasi_termblocks.specs.declared.term_entry.TermEntry.{TermEntry}
use Rattle.sasi_termblocks.specs.Entries.{tree}
use Rattle.sasi_termblocks.specs.Writing.{HasPushed}
use Rattle.sasi_termblocks.specs.Blocks.{IsRefOf, items_of, levels_bytes}
use Rattle.sasi_termblocks.specs.Scans.{IsRising as AreRisingTerms}
use Rattle.sasi_indexwrite.specs.Content.{IndexContent, TermPairs, postings_of, terms_in}
use Rattle.sasi_indexwrite.specs.Files.{HoldsIndex}
use Rattle.sasi_indexwrite.specs.Format.{blocks_at, entries, entries_in, footer_bytes, front, header_bytes, index_bytes, next_page, padding, spill_ref, table_at, table_in, table_size, treed, trees, trees_bytes}
use Rattle.sasi_indexwrite.specs.Kept.{kept_spill, kept_terms}
use Rattle.sasi_indexwrite.specs.Writing.{EndsFile, EndsWithBlocks, HasAllTrees, IsTableOf, spill_of, with_padding}
use Rattle.sasi_indexwrite.specs.declared.term_writer.TermWriter.{TermWriter}
use Rattle.sasi_indexwrite.proofs.Appends.{all_written, written_behind}

pub header_length : (mode : Mode) (kind : ColumnType) → length (header_bytes mode kind) ≡ 16
unfolding header_bytes
header_length mode kind = refl

-- zeros up to the next page
pub padding_ends : (n : ℕ) → n + length (padding n) ≡ next_page n
padding_ends n = omega (arith, length-replicate {A = ℕ} (next_page n - n) 0)

-- so many zeros of a page
pub zeros_front : (at next : ℕ) → next ≡ next_page at → take (next - at) (replicate 4096 0) ≡ padding at
zeros_front at next is = take_zeros (next - at) 4096 (omega (arith, is)) ∙ ap (λ (n : ℕ). replicate (n - at) 0) is
  where
    take_zeros : (n m : ℕ) → n ≤ m → take n (replicate {A = ℕ} m 0) ≡ replicate n 0
    take_zeros zero m le = refl
    take_zeros (suc n) zero le = absurd (omega arith)
    take_zeros (suc n) (suc m) le = ap (λ (l : Bytes). 0 ∷ l) (take_zeros n m (omega arith))

-- ---- the table of superblocks

table_length : (table : List TreeRef) → length (flat_map (encoded tree) table) ≡ 16 * length table
table_length [] = refl
table_length (one ∷ table) = omega (arith, length-append (encoded tree one) (flat_map (encoded tree) table), ref_long one, table_length table)
  where
    ref_long : (t : TreeRef) → length (encoded tree t) ≡ 16
    ref_long t = refl

when_zero : (n x y : ℕ) → n ≡ 0 → (if n == 0 then x else y) ≡ x
when_zero n x y is = ap (λ (k : ℕ). if k == 0 then x else y) is

when_some : (n x y : ℕ) → 0 < n → (if n == 0 then x else y) ≡ y
when_some n x y some =
    let off : (n == 0) ≡ false = search (rules, some) in
    ap (λ (b : Bool). if b then x else y) off

place_is : (count size at end : ℕ) → size ≡ 16 * count → end ≡ at + 16 * count → (if size == 0 then 0 else (end - size)) ≡ (if count == 0 then 0 else at)
place_is zero size at end is ends = when_zero size 0 (end - size) (omega (arith, is))
place_is (suc count) size at end is ends =
    let same : end - size ≡ at = omega (arith, is, ends) in
    when_some size 0 (end - size) (omega (arith, is)) ∙ same ∙ sym (when_some (suc count) 0 at (omega arith))

-- the blocks, the table and the footer stand behind what the file had
pub blocks_end : (a b c d : View) (file : FileName) (first : ℕ) (blocks : BlockRef) (spill : TreeRef) (bytes : Bytes) (entries : List TermEntry) (mode : Mode) (table : List TreeRef) (at place : ℕ) (more : Bytes) → length bytes ≡ first
    → IsRefOf first entries blocks → Writes a b file first (levels_bytes blocks.levels first (items_of entries)) → ((l : Bytes) → Holds b file l → IsTold b → at ≡ length l) → ((l : Bytes) → Holds b file l → Holds c file l) → (IsTold d → IsTold b)
    → place ≡ (if length table == 0 then 0 else at) → more ≡ flat_map (encoded tree) table ++ footer_bytes (record { blocks = blocks; table = place; spill = spill }) → IsTableOf mode table entries
    → ((l : Bytes) → length l ≡ at → Holds c file l → Holds d file (l ++ more)) → Holds a file bytes → EndsWithBlocks d file mode bytes entries (flat_map (encoded tree) table) spill
blocks_end a b c d file first blocks spill bytes entries mode table at place more long referred written sized kept back place_is_it is table_of appended holds =
    record {
      blocks = blocks;
      referred = subst (λ (n : ℕ). IsRefOf n entries blocks) (sym long) referred;
      holds = λ told.
          let size : at ≡ length (bytes ++ levels) = sized (bytes ++ levels) there (back told) in
          subst (λ (l : Bytes). contents d file ≡ Some l) (whole size) (appended (bytes ++ levels) (sym size) (kept (bytes ++ levels) there) told);
    }
  where
    levels : Bytes
    levels = levels_bytes blocks.levels first (items_of entries)

    refs : Bytes
    refs = flat_map (encoded tree) table

    there : Holds b file (bytes ++ levels)
    there = written_behind a b file first bytes levels written long holds

    end : ℕ → ℕ
    end n = length bytes + (length (levels_bytes blocks.levels n (items_of entries)) + length refs)

    footer : ℕ → Bytes
    footer n = footer_bytes (record { blocks = blocks; table = n; spill = spill })

    placed : at ≡ length (bytes ++ levels) → place ≡ table_at mode (end first) blocks.blocks
    placed size =
        place_is_it
        ∙ sym (place_is (length table) (table_size mode blocks.blocks) at (end first)
        (ap (λ (n : ℕ). table_size mode n) referred.blocks_are ∙ sym table_of) (omega (arith, size, length-append bytes levels, table_length table)))

    whole : at ≡ length (bytes ++ levels) → (bytes ++ levels) ++ more ≡ bytes ++ (levels_bytes blocks.levels (length bytes) (items_of entries) ++ (refs ++ footer (table_at mode (end (length bytes)) blocks.blocks)))
    whole size =
        ap (λ (l : Bytes). (bytes ++ levels) ++ l) (is ∙ ap (λ (n : ℕ). refs ++ footer n) (placed size)) ∙ append_assoc bytes levels (refs ++ footer (table_at mode (end first) blocks.blocks))
        ∙ ap (λ (n : ℕ). bytes ++ (levels_bytes blocks.levels n (items_of entries) ++ (refs ++ footer (table_at mode (end n) blocks.blocks)))) (sym long)

-- the spill tree, the zeros, the blocks, the table and the footer stand behind the trees
pub file_ends : (a b c : View) (file : FileName) (mode : Mode) (writer : TermWriter) (blocks_at : ℕ) (root : TreeRef) (header : Bytes) (closed : List TermPairs) (spill whole : List Pair) → writer.trees.file ≡ file → writer.trees.unwritten.items ≡ []
    → HasAllTrees a mode writer header closed → whole ≡ spill_of mode writer.common spill
    → ((bytes : Bytes) → length bytes ≡ writer.trees.end → Holds a writer.trees.file bytes → Holds b writer.trees.file (with_padding bytes whole)) → blocks_at ≡ next_page (writer.trees.end + length (tree_bytes writer.trees.end whole))
    → root ≡ tree_ref writer.trees.end whole → AreFit whole
    → ((bytes : Bytes) (entries : List TermEntry) (mode : Mode) → length bytes ≡ blocks_at → Holds b writer.trees.file bytes → HasPushed writer.blocks entries → IsTableOf mode writer.groups.trees.items entries
    → EndsWithBlocks c writer.trees.file mode bytes entries (flat_map (encoded tree) writer.groups.trees.items) root) → EndsFile c file mode header (kept_terms mode closed) (kept_spill mode closed spill)
file_ends a b c file mode writer blocks_at root header closed spill whole same none was whole_is spilled at_is root_is fit ended =
    subst (λ (l : List Pair). EndsFile c file mode header terms l) (whole_is ∙ was.spill_is spill) (record {
      begins = was.begins;
      each = was.each;
      few = was.few;
      spill_fit = fit;
      ends =
          subst (λ (f : FileName). EndsWithBlocks c f mode (with_padding begun whole) (entries_in mode terms) (table_in mode terms) (tree_ref (16 + length (trees_bytes 16 (treed mode terms))) whole)) same
          (subst (λ (t : TreeRef). EndsWithBlocks c writer.trees.file mode (with_padding begun whole) (entries_in mode terms) (table_in mode terms) t) (root_is ∙ ap (λ (n : ℕ). tree_ref n whole) end_is)
          (subst (λ (l : Bytes). EndsWithBlocks c writer.trees.file mode (with_padding begun whole) (entries_in mode terms) l root) was.table_is
          (ended (with_padding begun whole) (entries_in mode terms) mode long (spilled begun begun_long (all_written a writer.trees begun none was.appended)) was.pushed was.table_of)));
    })
  where
    terms : List TermPairs
    terms = kept_terms mode closed

    begun : Bytes
    begun = header ++ trees_bytes 16 (treed mode terms)

    end_is : writer.trees.end ≡ 16 + length (trees_bytes 16 (treed mode terms))
    end_is = omega (arith, was.next_is, ap length none)

    begun_long : length begun ≡ writer.trees.end
    begun_long = omega (arith, length-append header (trees_bytes 16 (treed mode terms)), was.begins, end_is)

    before : ℕ
    before = length (begun ++ tree_bytes (length begun) whole)

    before_is : before ≡ writer.trees.end + length (tree_bytes writer.trees.end whole)
    before_is = length-append begun (tree_bytes (length begun) whole) ∙ ap (λ (n : ℕ). n + length (tree_bytes n whole)) begun_long

    long : length (with_padding begun whole) ≡ blocks_at
    long =
        length-append (begun ++ tree_bytes (length begun) whole) (padding before) ∙ padding_ends before ∙ ap (λ (n : ℕ). next_page n) before_is ∙ sym at_is

module _ (mode : Mode) (kind : ColumnType) (terms : List TermPairs) (spill : List Pair) where
  abbrev content : IndexContent
  content = record { mode = mode; kind = kind; terms = terms; spill = spill }

  abbrev begun : Bytes
  begun = header_bytes mode kind ++ trees content

  front_is : begun ++ tree_bytes (length begun) spill ≡ front content
  front_is =
      ap (λ (n : ℕ). begun ++ tree_bytes n spill) (omega (arith, length-append (header_bytes mode kind) (trees content), header_length mode kind))
      ∙ append_assoc (header_bytes mode kind) (trees content) (tree_bytes (16 + length (trees content)) spill)

  padded_is : with_padding begun spill ≡ front content ++ padding (length (front content))
  padded_is = ap (λ (l : Bytes). l ++ padding (length l)) front_is

  padded_length : length (with_padding begun spill) ≡ blocks_at content
  padded_length = ap length padded_is ∙ length-append (front content) (padding (length (front content))) ∙ padding_ends (length (front content))

  -- the blocks at this offset, the table and the footer
  abbrev rest : BlockRef → ℕ → Bytes
  rest blocks at =
      levels_bytes blocks.levels at (items_of (entries content))
      ++ (table_in mode terms ++ footer_bytes (record { blocks = blocks; table = table_at mode (at + (length (levels_bytes blocks.levels at (items_of (entries content))) + length (table_in mode terms))) blocks.blocks; spill = spill_ref content }))

  whole_is : (blocks : BlockRef) → with_padding begun spill ++ rest blocks (length (with_padding begun spill)) ≡ index_bytes content blocks
  unfolding index_bytes
  whole_is blocks =
      ap (λ (n : ℕ). with_padding begun spill ++ rest blocks n) padded_length
      ∙ ap (λ (l : Bytes). l ++ rest blocks (blocks_at content)) padded_is ∙ append_assoc (front content) (padding (length (front content))) (rest blocks (blocks_at content))

  -- the file is the index file of these terms and of the spill
  pub index_ends : (v : View) (file : FileName) (postings : List Posting) → kind ≢ Uuid → postings_of terms spill ≡ postings → AreRisingTerms (terms_in terms) → IsRising spill
      → EndsFile v file mode (header_bytes mode kind) terms spill → HoldsIndex v file mode kind postings
  index_ends v file postings has_terms same rising spill_rising ends = record {
    bytes = index_bytes content ends.ends.blocks;
    is_index = record {
      content = content;
      mode_is = refl;
      kind_is = refl;
      postings_are = same;
      file_is = record {
        content_is = record { few = ends.few; has_terms = has_terms; rising = rising; each = ends.each; spill = record { rising = spill_rising; fit = ends.spill_fit } };
        blocks = ends.ends.blocks;
        referred = subst (λ (n : ℕ). IsRefOf n (entries content) ends.ends.blocks) padded_length ends.ends.referred;
        is = refl;
      };
    };
    holds = subst (λ (l : Bytes). Holds v file l) (whole_is ends.ends.blocks) ends.ends.holds;
  }
