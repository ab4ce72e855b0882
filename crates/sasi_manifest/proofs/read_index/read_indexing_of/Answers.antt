use Rattle.std.proofs.Common.{subst}
use Rattle.sasi_types.specs.declared.column.ColumnType.{ColumnType}
use Rattle.sasi_formats.specs.Gives.{Gives}
use Rattle.sasi_formats.specs.Reader.{read}
use Rattle.sasi_manifest.specs.Edits.{indexing}
use Rattle.sasi_manifest.proofs.read_index.read_indexing_of.Goals as goal

pub returns : goal.returns
returns c = subst (λ (k : ColumnType). Gives (read (indexing k) c.args.reader.now) c.read_indexing.result c.read_indexing.new.reader) c.type_at.ensures c.read_indexing.ensures
