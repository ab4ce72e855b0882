use Rattle.std.proofs.Common.{◌≡◌, arith, map, subst}
use Rattle.sasi_schema.specs.Defined.{definition}
use Rattle.sasi_manifest.specs.Edits.{definition_at}
use Rattle.sasi_manifest.specs.ListedTables.{listed}
use Rattle.sasi_manifest.specs.Listings.{listed_definitions}
use Rattle.sasi_manifest.specs.declared.listed.ListedTable.{ListedTable}
use Rattle.sasi_manifest.proofs.Additions.{table_got}
use Rattle.sasi_manifest.proofs.table_list.table_at.Goals as goal

pub returns : goal.returns
returns c =
    let tables = c.args.tables.now in
    subst (λ (t : ListedTable). definition t.table ≡ definition_at (listed_definitions (map listed tables)) c.args.table) c.index-tables-at.is
    (table_got tables c.args.table c.index-tables-at.result (omega (arith, c.requires.some, c.requires.within)) c.index-tables-at.is)
