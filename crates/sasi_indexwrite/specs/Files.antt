-- Index files.
use Rattle.std.specs.Prelude.{◌≡◌, List}
use Rattle.sasi_types.specs.declared.column.ColumnType.{ColumnType}
use Rattle.sasi_types.specs.declared.mode.Mode.{Mode}
use Rattle.sasi_host.specs.declared.name.FileName.{FileName}
use Rattle.sasi_host.specs.Names.{Bytes}
use Rattle.sasi_host.specs.View.{View, Holds}
use Rattle.sasi_segments.specs.declared.posting.Posting.{Posting}
use Rattle.sasi_termblocks.specs.declared.block_ref.BlockRef.{BlockRef}
use Rattle.sasi_termblocks.specs.Blocks.{IsRefOf}
use Rattle.sasi_indexwrite.specs.Content.{IndexContent, IsContent, postings_of}
use Rattle.sasi_indexwrite.specs.Format.{blocks_at, entries, index_bytes}

-- the bytes are the index file of this content; it has only one
pub record IsIndexFile (bytes : Bytes) (content : IndexContent) : Type 0 where
  pub content_is : IsContent content
  pub blocks : BlockRef
  pub referred : IsRefOf (blocks_at content) (entries content) blocks
  pub is : bytes ≡ index_bytes content blocks

-- the file is that of an index of this mode and type, with exactly these postings
pub record IsIndexOf (mode : Mode) (kind : ColumnType) (postings : List Posting) (bytes : Bytes) : Type 0 where
  pub content : IndexContent
  pub mode_is : content.mode ≡ mode
  pub kind_is : content.kind ≡ kind
  pub postings_are : postings_of content.terms content.spill ≡ postings
  pub file_is : IsIndexFile bytes content

-- the file is there with the bytes of that index, where the folder is told
pub record HoldsIndex (v : View) (file : FileName) (mode : Mode) (kind : ColumnType) (postings : List Posting) : Type 0 where
  pub bytes : Bytes
  pub is_index : IsIndexOf mode kind postings bytes
  pub holds : Holds v file bytes
