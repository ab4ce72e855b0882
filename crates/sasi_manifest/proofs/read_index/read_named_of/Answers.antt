use Rattle.std.proofs.Common.{subst}
use Rattle.sasi_model.specs.State.{Definition}
use Rattle.sasi_formats.specs.Gives.{Gives}
use Rattle.sasi_formats.specs.Reader.{read}
use Rattle.sasi_manifest.specs.Edits.{index_names, named_index}
use Rattle.sasi_manifest.specs.Listings.{listed_definitions}
use Rattle.sasi_manifest.proofs.read_index.read_named_of.Goals as goal

pub returns : goal.returns
returns c =
    subst (λ (d : Definition). Gives (read (named_index (index_names (listed_definitions c.args.tables.now)) d) c.args.reader.now) c.read_named.result c.read_named.new.reader) c.table.ensures c.read_named.ensures
