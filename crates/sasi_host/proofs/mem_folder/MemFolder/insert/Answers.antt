use Rattle.std.proofs.Common.{◌∙◌, ap, sym, subst}
use Rattle.std.specs.FinMap as map
use Rattle.sasi_host.specs.Names.{Folder}
use Rattle.sasi_host.specs.Files.{FitsAll, folder_of}
use Rattle.sasi_host.proofs.Folders.{folder_insert, fits_insert}
use Rattle.sasi_host.proofs.mem_folder.MemFolder.insert.Goals as goal

pub invariant_of-self-2 : goal.invariant_of-self-2
invariant_of-self-2 c =
    let es = c.self.inside.files.entries in
    subst FitsAll (sym (folder_insert es c.insert.new.self.entries c.args.name c.args.bytes c.in_ok-insert.ensures.updates.0))
    (fits_insert (folder_of es) c.args.name c.args.bytes c.self.invariant c.requires)

pub returns-clause-ok : goal.returns-clause-ok
returns-clause-ok c =
    folder_insert c.self.inside.files.entries c.insert.new.self.entries c.args.name c.args.bytes c.in_ok-insert.ensures.updates.0
    ∙ ap (λ (m : Folder). map.insert m c.args.name c.args.bytes) c.self.view_is

pub returns-clause-fits : goal.returns-clause-fits
returns-clause-fits c = invariant_of-self-2 c
