use Rattle.std.proofs.Common.{List, subst, sym}
use Rattle.sasi_manifest.specs.declared.files.ListedFile.{ListedFile}
use Rattle.sasi_manifest.specs.ListedFiles.{AreInOrder}
use Rattle.sasi_manifest.proofs.FileOrder.{order_of}
use Rattle.sasi_manifest.proofs.table_list.is_file_of.Goals as goal

pub has_file-requires : goal.has_file-requires
has_file-requires c = subst (λ (l : List ListedFile). AreInOrder 0 l) (sym c.files_at.ensures) (order_of c.args.tables.now c.args.table c.requires)
