-- Where a file breaks the format of an index file, and what is there.
use Rattle.std.specs.Prelude.{◌≡◌, ℕ, ◌*◌, Some, true}
use Rattle.sasi_types.specs.declared.column.ColumnType.{ColumnType}
use Rattle.sasi_types.specs.declared.mode.Mode.{Mode}
use Rattle.sasi_types.specs.declared.tree.TreeRef.{TreeRef}
use Rattle.sasi_host.specs.declared.damage.Damage.{Damage}
use Rattle.sasi_host.specs.declared.name.FileName.{FileName}
use Rattle.sasi_host.specs.Names.{Bytes}
use Rattle.sasi_host.specs.Damages.{HasAt}
use Rattle.sasi_tokentree.specs.Damages.{ShowsPairs}
use Rattle.sasi_termblocks.specs.declared.term_entry.TermEntry.{TermEntry}
use Rattle.sasi_termblocks.specs.Damages.{ShowsBlocks}
use Rattle.sasi_termblocks.specs.Entries.{term_entry}
use Rattle.sasi_termblocks.specs.Windows.{HasEntry, RefersWithin}
use Rattle.sasi_indexwrite.specs.declared.footer.Footer.{Footer}
use Rattle.sasi_indexwrite.specs.Format.{form_of, is_spill}
use Rattle.sasi_indexread.specs.HeaderAndFooter.{HasHeaderAndFooter, ShowsHeaderOrFooter}
use Rattle.sasi_indexread.specs.Opened.{OpenIndexFile}

-- an entry of a block leads to the tree with this reference, which can stand between the header and the first term block, at this offset
pub record LeadsToTree (first : ℕ) (bytes : Bytes) (tree : TreeRef) : Type 0 where
  pub page : ℕ
  pub block : Bytes
  pub stands : HasAt bytes (4096 * page) block
  pub index : ℕ
  pub entry : TermEntry
  pub has : HasEntry term_entry block index entry
  pub list : entry.list ≡ Some tree
  pub possible : RefersWithin first (Some tree)

-- the tree is that of the spill, which can stand there too, or one to which an entry leads
pub data IsListedTree (opened : OpenIndexFile) (bytes : Bytes) (tree : TreeRef) : Type 0 where
  of_spill : tree ≡ opened.spill → is_spill opened.blocks.first opened.spill ≡ true → IsListedTree opened bytes tree
  of_term : LeadsToTree opened.blocks.first bytes tree → IsListedTree opened bytes tree

-- the damage is that of the blocks, with the references in them, or of a tree to which the file leads
pub data ShowsIndex (opened : OpenIndexFile) (bytes : Bytes) (damage : Damage) : Type 0 where
  in_blocks : ShowsBlocks opened.file opened.blocks (form_of opened.mode) bytes damage → ShowsIndex opened bytes damage
  in_tree : (tree : TreeRef) → IsListedTree opened bytes tree → ShowsPairs opened.file tree bytes damage → ShowsIndex opened bytes damage

-- the view of a file that was opened by this header and these numbers of its footer
abbrev pub opened_by : FileName → Mode → ColumnType → Footer → OpenIndexFile
opened_by file mode kind numbers = record { file = file; mode = mode; kind = kind; blocks = numbers.blocks; spill = numbers.spill }

-- the damage is that of this index file: of its header or its footer, or of a part to which the footer leads
pub data ShowsIndexFile (file : FileName) (bytes : Bytes) (damage : Damage) : Type 0 where
  outside : ShowsHeaderOrFooter file bytes damage → ShowsIndexFile file bytes damage
  inside : (mode : Mode) (kind : ColumnType) (numbers : Footer) → HasHeaderAndFooter bytes mode kind numbers → ShowsIndex (opened_by file mode kind numbers) bytes damage → ShowsIndexFile file bytes damage
