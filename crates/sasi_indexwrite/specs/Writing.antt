-- Index files as they are written.
use Rattle.std.specs.Prelude.{◌≡◌, ◌+◌, ◌*◌, ◌≤◌, List, [], ◌++◌, length}
use Rattle.std.specs.List.{AllByRecursion, flat_map}
use Rattle.sasi_types.specs.declared.mode.Mode.{Mode}
use Rattle.sasi_types.specs.declared.mode.Mode.TheVariants.{Prefix, Contains, Sparse}
use Rattle.sasi_types.specs.declared.tree.Pair.{Pair}
use Rattle.sasi_types.specs.declared.tree.TreeRef.{TreeRef}
use Rattle.sasi_host.specs.declared.name.FileName.{FileName}
use Rattle.sasi_host.specs.Names.{Bytes}
use Rattle.sasi_host.specs.View.{View, Holds}
use Rattle.sasi_formats.specs.Formats.{encoded}
use Rattle.sasi_tokentree.specs.Format.{AreFit, IsRising, tree_bytes, tree_ref}
use Rattle.sasi_termblocks.specs.declared.block_ref.BlockRef.{BlockRef}
use Rattle.sasi_termblocks.specs.declared.term_entry.TermEntry.{TermEntry}
use Rattle.sasi_termblocks.specs.Blocks.{IsRefOf, items_of, levels_bytes}
use Rattle.sasi_termblocks.specs.Blocks as format
use Rattle.sasi_termblocks.specs.Entries.{tree}
use Rattle.sasi_termblocks.specs.Writing.{HasPushed, Writer}
use Rattle.sasi_indexwrite.specs.declared.superblocks.Superblocks.{Superblocks}
use Rattle.sasi_indexwrite.specs.declared.tree_writer.TreeWriter.{TreeWriter}
use Rattle.sasi_indexwrite.specs.declared.term_writer.TermWriter.{TermWriter}
use Rattle.sasi_indexwrite.specs.Appending.{CanAppend, IsAppending, next_tree}
use Rattle.sasi_indexwrite.specs.Content.{HasFewPairs, IsTerm, TermPairs}
use Rattle.sasi_indexwrite.specs.Format.{entries_from, entries_in, footer_bytes, padding, table_at, table_in, table_size, treed, trees_bytes}
use Rattle.sasi_indexwrite.specs.Grouped.{HasGroups}
use Rattle.sasi_indexwrite.specs.Kept.{common_pairs, kept_spill, kept_terms, rare_terms}
use Rattle.sasi_indexwrite.specs.Superblocks.{inline_entries}
use Rattle.sasi_indexwrite.specs.TermsSoFar.{TermsSoFar}
use Rattle.sasi_indexwrite.specs.Unions.{union_of}

-- the term can be stored, its pairs rise, and a further tree can be appended
pub record CanStoreTerm (writer : TermWriter) : Type 0 where
  pub short : length writer.term ≤ 1024
  pub rising : IsRising writer.pairs
  pub trees : CanAppend writer.trees

-- the pairs of the spill, where the writer keeps these of the common terms
abbrev pub spill_of : Mode → List Pair → List Pair → List Pair
spill_of Prefix common spill = spill
spill_of Contains common spill = spill
spill_of Sparse common spill = union_of (common ++ spill)

-- the table has a reference for each superblock of the blocks of these entries, and none in the other modes
abbrev pub IsTableOf : Mode → List TreeRef → List TermEntry → Type 0
IsTableOf mode table entries = 16 * length table ≡ table_size mode (length (format.blocks (items_of entries)))

-- a writer has appended the trees of these terms to a header, and keeps their entries
pub record AreTrees (v : View) (trees : TreeWriter) (blocks : Writer) (groups : Superblocks) (header : Bytes) (closed : List TermPairs) : Type 0 where
  pub begins : length header ≡ 16
  pub appended : IsAppending v trees (header ++ trees_bytes 16 closed)
  pub next_is : next_tree trees ≡ 16 + length (trees_bytes 16 closed)
  pub pushed : HasPushed blocks (entries_from 16 closed)
  pub each : AllByRecursion IsTerm closed
  pub no_pairs : groups.pairs ≡ []
  pub no_table : groups.trees.items ≡ []

-- or in the mode SPARSE those of the superblocks of the rare terms but the last one, and keeps the pairs of the common terms
pub record AreSuperblocks (v : View) (trees : TreeWriter) (blocks : Writer) (groups : Superblocks) (common : List Pair) (header : Bytes) (closed : List TermPairs) : Type 0 where
  pub begins : length header ≡ 16
  pub grouped : HasGroups v trees groups header (rare_terms closed)
  pub pushed : HasPushed blocks (inline_entries (rare_terms closed))
  pub each : AllByRecursion IsTerm (rare_terms closed)
  pub few : AllByRecursion HasFewPairs (rare_terms closed)
  pub common_is : common ≡ common_pairs closed

abbrev pub HasTrees : View → TermWriter → Bytes → List TermPairs → Type 0
HasTrees v writer header closed = AreTrees v writer.trees writer.blocks writer.groups header closed

abbrev pub HasSuperblocks : View → TermWriter → Bytes → List TermPairs → Type 0
HasSuperblocks v writer header closed = AreSuperblocks v writer.trees writer.blocks writer.groups writer.common header closed

-- what a writer of this mode has
abbrev pub IsWritten : Mode → View → TreeWriter → Writer → Superblocks → List Pair → Bytes → List TermPairs → Type 0
IsWritten Prefix v trees blocks groups common header closed = AreTrees v trees blocks groups header closed
IsWritten Contains v trees blocks groups common header closed = AreTrees v trees blocks groups header closed
IsWritten Sparse v trees blocks groups common header closed = AreSuperblocks v trees blocks groups common header closed

abbrev pub HasWritten : View → TermWriter → Bytes → List TermPairs → Type 0
HasWritten v writer header closed = IsWritten writer.mode v writer.trees writer.blocks writer.groups writer.common header closed

-- when all trees are appended
pub record AreAllTrees (mode : Mode) (v : View) (trees : TreeWriter) (blocks : Writer) (groups : Superblocks) (common : List Pair) (header : Bytes) (closed : List TermPairs) : Type 0 where
  pub begins : length header ≡ 16
  pub appended : IsAppending v trees (header ++ trees_bytes 16 (treed mode (kept_terms mode closed)))
  pub next_is : next_tree trees ≡ 16 + length (trees_bytes 16 (treed mode (kept_terms mode closed)))
  pub pushed : HasPushed blocks (entries_in mode (kept_terms mode closed))
  pub each : AllByRecursion IsTerm (kept_terms mode closed)
  pub few : mode ≡ Sparse → AllByRecursion HasFewPairs (kept_terms mode closed)
  pub table_of : IsTableOf mode groups.trees.items (entries_in mode (kept_terms mode closed))
  pub table_is : flat_map (encoded tree) groups.trees.items ≡ table_in mode (kept_terms mode closed)
  pub spill_is : (spill : List Pair) → spill_of mode common spill ≡ kept_spill mode closed spill

abbrev pub HasAllTrees : View → Mode → TermWriter → Bytes → List TermPairs → Type 0
HasAllTrees v mode writer header closed = AreAllTrees mode v writer.trees writer.blocks writer.groups writer.common header closed

-- and what else was gathered
pub record KeepsGathered (writer : TermWriter) (spill : List Pair) (all : TermsSoFar) : Type 0 where
  pub term : writer.term ≡ all.term
  pub pairs : writer.pairs ≡ all.pairs
  pub spill_is : spill ≡ all.spill

-- the blocks of these entries, a table and the footer stand behind what a file had
pub record EndsWithBlocks (v : View) (file : FileName) (mode : Mode) (bytes : Bytes) (entries : List TermEntry) (table : Bytes) (spill : TreeRef) : Type 0 where
  pub blocks : BlockRef
  pub referred : IsRefOf (length bytes) entries blocks
  pub holds : Holds v file (bytes ++ (levels_bytes blocks.levels (length bytes) (items_of entries) ++ (table ++ footer_bytes (record {
    blocks = blocks;
    table = table_at mode (length bytes + (length (levels_bytes blocks.levels (length bytes) (items_of entries)) + length table)) blocks.blocks;
    spill = spill;
  }))))

-- the spill tree behind these bytes, and zeros up to the next page
abbrev pub with_padding : Bytes → List Pair → Bytes
with_padding bytes spill = (bytes ++ tree_bytes (length bytes) spill) ++ padding (length (bytes ++ tree_bytes (length bytes) spill))

-- the trees of these terms and of the spill, the zeros, the blocks, the table and the footer stand behind a header
pub record EndsFile (v : View) (file : FileName) (mode : Mode) (header : Bytes) (terms : List TermPairs) (spill : List Pair) : Type 0 where
  pub begins : length header ≡ 16
  pub each : AllByRecursion IsTerm terms
  pub few : mode ≡ Sparse → AllByRecursion HasFewPairs terms
  pub spill_fit : AreFit spill
  pub ends : EndsWithBlocks v file mode (with_padding (header ++ trees_bytes 16 (treed mode terms)) spill) (entries_in mode terms) (table_in mode terms) (tree_ref (16 + length (trees_bytes 16 (treed mode terms))) spill)
