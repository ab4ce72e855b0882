-- What a writer has written stays written.
use Rattle.std.specs.Prelude.{◌≡◌}
use Rattle.sasi_host.specs.View.{View, contents}
use Rattle.sasi_host.specs.Disk.{Relation, Changes}
use Rattle.sasi_host.proofs.ContentLaws.{holds_where}
use Rattle.sasi_datawrite.specs.Format.{Content, front}
use Rattle.sasi_datawrite.specs.Writing.{Writer, IsWriting}

-- a writer has written what it had, where its file reads as before
pub writing_where : (a b : View) (S : Relation) (writer : Writer) (content : Content) → Changes S a b → contents b writer.file ≡ contents a
    writer.file → IsWriting a writer content → IsWriting b writer content
writing_where a b S writer content change same is = record {
  pairs = is.pairs;
  offset_is = is.offset_is;
  max_timestamp = is.max_timestamp;
  holds = holds_where a b S writer.file (front content) change same is.holds;
}
