use Rattle.std.proofs.Common.{sym, subst}
use Rattle.sasi_host.specs.Files.{Entries, FitsAll, folder_of}
use Rattle.sasi_host.proofs.Folders.{fits_empty}
use Rattle.sasi_host.proofs.mem_folder.MemFolder.new.Goals as goal

pub invariant_of-result : goal.invariant_of-result
invariant_of-result c = subst (λ (es : Entries). FitsAll (folder_of es)) (sym c.new.ensures.empty) fits_empty
