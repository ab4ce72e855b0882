use Rattle.std.proofs.Common.{List, subst, sym}
use Rattle.sasi_manifest.specs.declared.files.ListedFile.{ListedFile}
use Rattle.sasi_manifest.specs.ListedFiles.{AreInOrder}
use Rattle.sasi_manifest.proofs.FileOrder.{order_at}
use Rattle.sasi_manifest.proofs.table_list.is_file_listed.Goals as goal

pub has_file-requires : goal.has_file-requires
has_file-requires c =
    subst (λ (l : List ListedFile). AreInOrder 0 l) (sym c.as_slice.ensures) (order_at c.args.tables.now c.loop-table.table-index c.table-item.result c.requires c.loop-table-test.true c.table-item.is)
