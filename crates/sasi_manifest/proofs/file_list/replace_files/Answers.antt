use Rattle.std.proofs.Common.{List, subst, sym}
use Rattle.sasi_manifest.specs.declared.files.ListedFile.{ListedFile}
use Rattle.sasi_manifest.specs.ListedFiles.{AreInOrder}
use Rattle.sasi_manifest.proofs.FileOrder.{in_order_less}
use Rattle.sasi_manifest.proofs.file_list.replace_files.Goals as goal

pub put_files-requires-clause-order : goal.put_files-requires-clause-order
put_files-requires-clause-order c =
    subst (λ (fs : List ListedFile). AreInOrder 0 fs) (sym c.remove_files.ensures.items)
    (in_order_less c.args.removed.now c.reserve.new.self.items (subst (λ (fs : List ListedFile). AreInOrder 0 fs) (sym c.reserve.ensures.items) c.requires))
