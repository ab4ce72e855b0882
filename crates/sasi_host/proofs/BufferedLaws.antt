-- A buffer stays right while its file is unchanged.
use Rattle.std.specs.Prelude.{◌≡◌, Option, Some, None}
use Rattle.std.proofs.Common.{sym, ◌∙◌}
use Rattle.sasi_host.specs.Names.{Folder}
use Rattle.sasi_host.specs.View.{View, contents_in}
use Rattle.sasi_host.specs.Disk.{Changes, Same}
use Rattle.sasi_host.proofs.ContentLaws.{contents_same}
use Rattle.sasi_host.specs.Buffered.{Buffered, IsBuffered}

-- the buffer stays right while the file is unchanged
pub buffered_same : (buffered : Buffered) (old new : Option Folder) → IsBuffered buffered old → contents_in new buffered.file ≡ contents_in old buffered.file → IsBuffered buffered new
buffered_same buffered old new right same = λ page bytes this is. right page bytes this (sym same ∙ is)

-- an empty one is right
pub nothing_buffered : (buffered : Buffered) (files : Option Folder) → buffered.page ≡ None → IsBuffered buffered files
nothing_buffered buffered files none = λ page bytes this is. absurd (let no : None ≡ Some page = sym none ∙ this in cc)

-- and so where the folder is unchanged
pub buffered_after : (buffered : Buffered) (a b : View) → Changes Same a b → IsBuffered buffered a.files → IsBuffered buffered b.files
buffered_after buffered a b change right = buffered_same buffered a.files b.files right (contents_same a b buffered.file change)
