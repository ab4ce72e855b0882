use Rattle.std.proofs.Common.{◌∙◌, ap, sym, subst}
use Rattle.std.specs.FinMap as map
use Rattle.sasi_host.specs.Names.{Folder}
use Rattle.sasi_host.specs.Files.{FitsAll, folder_of}
use Rattle.sasi_host.proofs.Folders.{folder_remove, fits_remove}
use Rattle.sasi_host.proofs.mem_folder.MemFolder.remove.Goals as goal

pub invariant_of-self : goal.invariant_of-self
invariant_of-self c =
    let es = c.self.inside.files.entries in
    subst FitsAll (sym (folder_remove es c.remove.new.self.entries c.args.name c.remove.ensures.updates.0)) (fits_remove (folder_of es) c.args.name c.self.invariant)

pub returns-clause-removed : goal.returns-clause-removed
returns-clause-removed c =
    folder_remove c.self.inside.files.entries c.remove.new.self.entries c.args.name c.remove.ensures.updates.0
    ∙ ap (λ (m : Folder). map.remove m c.args.name) c.self.view_is

pub returns-clause-fits : goal.returns-clause-fits
returns-clause-fits c = invariant_of-self c
