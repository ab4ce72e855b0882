-- The bytes of an index file: a header, the trees of its pairs, term blocks with pointer blocks above them, and a footer.
use Rattle.std.specs.Prelude.{ℕ, ◌+◌, ◌-◌, ◌*◌, ◌/◌, ◌%◌, Bool, ◌&&◌, ◌==◌, nat_le, nat_lt, List, [], ◌∷◌, ◌++◌, length, replicate, Some, None, if◌then◌else◌, refl}
use Rattle.std.specs.Int.{w8, w64}
use Rattle.std.specs.List.{flat_map}
use Rattle.sasi_types.specs.Codes.{mode_code, type_code}
use Rattle.sasi_types.specs.declared.column.ColumnType.{ColumnType}
use Rattle.sasi_types.specs.declared.column.ColumnType.TheVariants.{Text, Int, BigInt}
use Rattle.sasi_types.specs.declared.mode.Mode.{Mode}
use Rattle.sasi_types.specs.declared.mode.Mode.TheVariants.{Prefix, Contains, Sparse}
use Rattle.sasi_types.specs.declared.tree.TreeRef.{TreeRef}
use Rattle.sasi_host.specs.Names.{Bytes}
use Rattle.sasi_host.specs.declared.damage.FormatRule.TheVariants as rule
use Rattle.sasi_formats.specs.Formats.{Format, Then, Decoded, encoded}
use Rattle.sasi_formats.specs.Codings.{one_of}
use Rattle.sasi_formats.specs.Fields.{◌&◌, checked, mapped, number, fixed, prefixed}
use Rattle.sasi_formats.specs.Headers.{file_front}
use Rattle.sasi_tokentree.specs.Damages.{is_tree_ref}
use Rattle.sasi_tokentree.specs.Format.{tree_bytes, tree_ref}
use Rattle.sasi_sparse.specs.Sparse.{superblocks}
use Rattle.sasi_termblocks.specs.declared.block_ref.BlockRef.{BlockRef}
use Rattle.sasi_termblocks.specs.declared.list_form.ListForm.{ListForm}
use Rattle.sasi_termblocks.specs.declared.list_form.ListForm.TheVariants.{Inline, Tree}
use Rattle.sasi_termblocks.specs.declared.term_entry.TermEntry.{TermEntry}
use Rattle.sasi_termblocks.specs.Blocks.{items_of, levels_bytes}
use Rattle.sasi_termblocks.specs.Entries.{tree}
use Rattle.sasi_indexwrite.specs.declared.footer.Footer.{Footer}
use Rattle.sasi_indexwrite.specs.Content.{IndexContent, TermPairs}
use Rattle.sasi_indexwrite.specs.Superblocks.{inline_entries, superblock_lists}

-- ---- the header, of 16 bytes

-- "SASIIDX1"
abbrev pub magic : Bytes
magic = 83 ∷ 65 ∷ 83 ∷ 73 ∷ 73 ∷ 68 ∷ 88 ∷ 49 ∷ []

-- the mode of the index
abbrev pub mode_field : Format Mode
mode_field = Decoded rule.Number 1 (one_of mode_code (Prefix ∷ Contains ∷ Sparse ∷ [])) (number w8)

-- the type of the indexed column
abbrev pub type_field : Format ColumnType
type_field = Decoded rule.Number 1 (one_of type_code (Text ∷ Int ∷ BigInt ∷ [])) (number w8)

-- both, and two zeros
abbrev pub header_fields : Format (Mode × ColumnType)
header_fields = mapped (λ h. (h.0, h.1.0)) (λ h. (h.0, (h.1, tt))) (λ _. refl) (mode_field & type_field & fixed rule.Number (0 ∷ 0 ∷ []))

-- the magic, the version 1, and these
abbrev pub header : Format (Mode × ColumnType)
header = prefixed (file_front magic) header_fields

unfoldable pub header_bytes : Mode → ColumnType → Bytes
header_bytes mode kind = encoded header (mode, kind)

-- ---- the footer, of 72 bytes

-- the bytes of the table of superblocks, which only an index of the mode SPARSE has: an offset and a number of pairs of each
abbrev pub table_size : Mode → ℕ → ℕ
table_size Prefix blocks = 0
table_size Contains blocks = 0
table_size Sparse blocks = 16 * superblocks blocks

-- where the pointer blocks of so many term blocks end, in front of that table and of a footer at this offset
abbrev pub blocks_end : Mode → ℕ → ℕ → ℕ
blocks_end mode at blocks = at - table_size mode blocks

-- and where the table stands; 0 where there is none
abbrev pub table_at : Mode → ℕ → ℕ → ℕ
table_at mode at blocks = if table_size mode blocks == 0 then 0 else blocks_end mode at blocks

-- the first term block stands behind the header, on a page in front of a footer at this offset
abbrev pub is_first : ℕ → ℕ → Bool
is_first at first = first % 4096 == 0 && (nat_le 4096 first && nat_le first at)

-- pointer blocks end on a page, and so many of the blocks between the first one and there are term blocks: two or more have pointer blocks behind them
abbrev pub has_room : ℕ → ℕ → ℕ → Bool
has_room end first blocks =
    end % 4096 == 0 && (if nat_le ((end - first) / 4096) 1 then blocks == (end - first) / 4096 else (nat_lt 1 blocks && nat_lt blocks ((end - first) / 4096)))

-- and the others are those of so many levels of pointers: one block is one level, and where there are more the lowest level has two at least
abbrev pub has_levels : ℕ → ℕ → ℕ → ℕ → Bool
has_levels end first blocks levels =
    if nat_le blocks 1 then levels == 0 else (if (end - first) / 4096 - blocks == 1 then levels == 1 else (nat_lt 1 levels && nat_lt levels ((end - first) / 4096 - blocks)))

-- the top pointer block is the last one; 0 where there is none
abbrev pub is_top : ℕ → ℕ → ℕ → Bool
is_top end levels top = if levels == 0 then top == 0 else top == end - 4096

-- the spill tree can stand between the header and the term blocks; the root of no pairs is 0
abbrev pub is_spill : ℕ → TreeRef → Bool
is_spill first spill = if spill.pairs == 0 then spill.root == 0 else is_tree_ref 16 first spill

-- each term block has a term at least
abbrev pub is_term_count : ℕ → ℕ → Bool
is_term_count blocks terms = if blocks == 0 then terms == 0 else nat_le blocks terms

-- the offset of the first term block, and how many there are; the levels of pointers, and the top pointer block
abbrev pub first_field : ℕ → Format ℕ
first_field at = checked rule.Place 8 (is_first at) (number w64)

abbrev pub blocks_field : Mode → ℕ → ℕ → Format ℕ
blocks_field mode at first = checked rule.Number 8 (λ blocks. has_room (blocks_end mode at blocks) first blocks) (number w64)

abbrev pub levels_field : ℕ → ℕ → ℕ → Format ℕ
levels_field end first blocks = checked rule.Number 8 (has_levels end first blocks) (number w64)

abbrev pub top_field : ℕ → ℕ → Format ℕ
top_field end levels = checked rule.Place 8 (is_top end levels) (number w64)

-- the offset of the table
abbrev pub table_field : Mode → ℕ → ℕ → Format ℕ
table_field mode at blocks = checked rule.Place 8 (λ table. table == table_at mode at blocks) (number w64)

-- the root of the spill tree, and its number of pairs
abbrev pub spill_field : ℕ → Format TreeRef
spill_field first = checked rule.Place 8 (is_spill first) tree

-- the number of terms
abbrev pub terms_field : ℕ → Format ℕ
terms_field blocks = checked rule.Number 8 (is_term_count blocks) (number w64)

-- all of them
abbrev pub footer_fields : Mode → ℕ → Format (ℕ × (ℕ × (ℕ × (ℕ × (ℕ × (TreeRef × ℕ))))))
footer_fields mode at =
    Then (first_field at) (λ first. Then (blocks_field mode at first) (λ blocks. Then (levels_field (blocks_end mode at blocks) first blocks) (λ levels.
    top_field (blocks_end mode at blocks) levels & table_field mode at blocks & spill_field first & terms_field blocks)))

-- the numbers of a footer at this offset, of an index of this mode
abbrev pub footer : Mode → ℕ → Format Footer
footer mode at =
    mapped
    (λ n. record { blocks = record { first = n.0; blocks = n.1.0; levels = n.1.1.0; top = n.1.1.1.0; terms = n.1.1.1.1.1.1 }; table = n.1.1.1.1.0; spill = n.1.1.1.1.1.0 })
    (λ f. (f.blocks.first, (f.blocks.blocks, (f.blocks.levels, (f.blocks.top, (f.table, (f.spill, f.blocks.terms)))))))
    (λ _. refl) (footer_fields mode at)

-- "SASIIEND", which follows them
abbrev pub end_mark : Format (Unit {0})
end_mark = fixed rule.Magic (83 ∷ 65 ∷ 83 ∷ 73 ∷ 73 ∷ 69 ∷ 78 ∷ 68 ∷ [])

-- the bytes of both, which are the same whatever the mode and the offset
unfoldable pub footer_bytes : Footer → Bytes
footer_bytes numbers = encoded (footer Prefix 0) numbers ++ encoded end_mark tt

-- ---- the trees

-- the tree of each term's pairs, one behind another from this offset on
abbrev pub trees_bytes : ℕ → List TermPairs → Bytes
trees_bytes at [] = []
trees_bytes at (one ∷ others) = tree_bytes at one.1 ++ trees_bytes (at + length (tree_bytes at one.1)) others

-- each term with the reference of its tree
abbrev pub entries_from : ℕ → List TermPairs → List TermEntry
entries_from at [] = []
entries_from at (one ∷ others) = record { term = one.0; list = Some (tree_ref at one.1); inline = None } ∷ entries_from (at + length (tree_bytes at one.1)) others

-- the references of these trees
abbrev pub refs_from : ℕ → List TermPairs → List TreeRef
refs_from at [] = []
refs_from at (one ∷ others) = tree_ref at one.1 ∷ refs_from (at + length (tree_bytes at one.1)) others

-- what has a tree: each term, or in the mode SPARSE each superblock
abbrev pub treed : Mode → List TermPairs → List TermPairs
treed Prefix terms = terms
treed Contains terms = terms
treed Sparse terms = superblock_lists terms

-- the entries of the terms, in the mode SPARSE with their pairs
abbrev pub entries_in : Mode → List TermPairs → List TermEntry
entries_in Prefix terms = entries_from 16 terms
entries_in Contains terms = entries_from 16 terms
entries_in Sparse terms = inline_entries terms

-- and where those have the pairs
abbrev pub form_of : Mode → ListForm
form_of Prefix = Tree
form_of Contains = Tree
form_of Sparse = Inline

-- the table of the superblocks
abbrev pub table_in : Mode → List TermPairs → Bytes
table_in Prefix terms = []
table_in Contains terms = []
table_in Sparse terms = flat_map (encoded tree) (refs_from 16 (superblock_lists terms))

-- the first tree follows the header
abbrev pub trees : IndexContent → Bytes
trees content = trees_bytes 16 (treed content.mode content.terms)

abbrev pub entries : IndexContent → List TermEntry
entries content = entries_in content.mode content.terms

-- the spill tree follows the others
abbrev pub spill_at : IndexContent → ℕ
spill_at content = 16 + length (trees content)

abbrev pub spill_ref : IndexContent → TreeRef
spill_ref content = tree_ref (spill_at content) content.spill

-- the bytes before the term blocks, without the zeros
abbrev pub front : IndexContent → Bytes
front content = header_bytes content.mode content.kind ++ (trees content ++ tree_bytes (spill_at content) content.spill)

-- ---- the file

-- the next multiple of 4,096, and the zeros up to there
abbrev pub next_page : ℕ → ℕ
next_page n = 4096 * ((n + 4095) / 4096)

abbrev pub padding : ℕ → Bytes
padding n = replicate (next_page n - n) 0

-- the offset of the first term block
abbrev pub blocks_at : IndexContent → ℕ
blocks_at content = next_page (length (front content))

-- the blocks, with so many levels of pointers above them
abbrev pub blocks_bytes : IndexContent → BlockRef → Bytes
blocks_bytes content blocks = levels_bytes blocks.levels (blocks_at content) (items_of (entries content))

abbrev pub table : IndexContent → Bytes
table content = table_in content.mode content.terms

-- the offset of the footer
abbrev pub footer_at : IndexContent → BlockRef → ℕ
footer_at content blocks = blocks_at content + (length (blocks_bytes content blocks) + length (table content))

abbrev pub footer_of : IndexContent → BlockRef → Footer
footer_of content blocks = record { blocks = blocks; table = table_at content.mode (footer_at content blocks) blocks.blocks; spill = spill_ref content }

-- the bytes of this content, whose blocks have this reference
unfoldable pub index_bytes : IndexContent → BlockRef → Bytes
index_bytes content blocks =
    front content ++ (padding (length (front content)) ++ (blocks_bytes content blocks ++ (table content ++ footer_bytes (footer_of content blocks))))
