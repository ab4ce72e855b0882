use Rattle.std.proofs.Common.{◌≡◌, List, ℕ, subst}
use Rattle.sasi_formats.specs.Headers.{file_front}
use Rattle.sasi_formats.specs.Reader.{Got, read}
use Rattle.sasi_indexwrite.specs.Format.{header_fields, magic}
use Rattle.sasi_indexread.proofs.Fields.{behind_gives}
use Rattle.sasi_indexread.proofs.parts.read_header.Goals as goal

pub returns-clause-header : goal.returns-clause-header
returns-clause-header c =
    behind_gives (file_front magic) header_fields c.args.reader.now c.read_front.new.reader c.read_fields.new.reader c.read_fields.result
    (subst (λ (l : List ℕ). read (file_front l) c.args.reader.now ≡ Got tt c.read_front.new.reader) c.magic.ensures c.in_ok-read_front.ensures.front) c.read_fields.ensures.fields
