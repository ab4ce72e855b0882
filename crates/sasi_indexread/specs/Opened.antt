-- An index file that was opened.
use Rattle.std.specs.Prelude.{◌≡◌, ℕ, Some}
use Rattle.sasi_types.specs.declared.column.ColumnType.{ColumnType}
use Rattle.sasi_types.specs.declared.mode.Mode.{Mode}
use Rattle.sasi_types.specs.declared.tree.TreeRef.{TreeRef}
use Rattle.sasi_host.specs.declared.name.FileName.{FileName}
use Rattle.sasi_host.specs.declared.fault.ReadFault.{ReadFault}
use Rattle.sasi_host.specs.Names.{Bytes}
use Rattle.sasi_host.specs.Damages.{OnDamage}
use Rattle.sasi_host.specs.View.{View, contents}
use Rattle.sasi_termblocks.specs.declared.block_ref.BlockRef.{BlockRef}
use Rattle.sasi_indexwrite.specs.Content.{IndexContent}
use Rattle.sasi_indexwrite.specs.Files.{IsIndexFile}
use Rattle.sasi_indexwrite.specs.Format.{spill_ref}
use Rattle.sasi_indexread.specs.HeaderAndFooter.{HasHeaderAndFooter}

-- the view of an open index file
pub record OpenIndexFile : Type 0 where
  pub file : FileName
  -- the mode of the index
  pub mode : Mode
  -- the type of the indexed column
  pub kind : ColumnType
  -- where the blocks of terms are
  pub blocks : BlockRef
  -- what refers to the spill tree
  pub spill : TreeRef

-- the file has the header and the footer that this view tells; of the footer it doesn't tell where the table of superblocks is
abbrev pub HasHeaderAndFooterOf : Bytes → OpenIndexFile → Type 0
HasHeaderAndFooterOf bytes opened =
    (table : ℕ) × HasHeaderAndFooter bytes opened.mode opened.kind (record { blocks = opened.blocks; table = table; spill = opened.spill })

-- the file reads as the index file of a content, and was opened as that
pub record IsOpenOn (v : View) (opened : OpenIndexFile) (content : IndexContent) : Type 0 where
  pub bytes : Bytes
  pub reads : contents v opened.file ≡ Some bytes
  pub index_file : IsIndexFile bytes content
  pub mode : opened.mode ≡ content.mode
  pub kind : opened.kind ≡ content.kind
  pub blocks : opened.blocks ≡ index_file.blocks
  pub spill : opened.spill ≡ spill_ref content

-- damage is reported only where the file isn't an index file
abbrev pub NoFalseIndexDamage : View → FileName → ReadFault → Type 0
NoFalseIndexDamage v file = OnDamage (λ _. (bytes : Bytes) (content : IndexContent) → contents v file ≡ Some bytes → IsIndexFile bytes content → ⊥)
