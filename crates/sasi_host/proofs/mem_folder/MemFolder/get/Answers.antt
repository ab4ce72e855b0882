use Rattle.std.proofs.Common.{sym, ◌∙◌, ap, Some}
use Rattle.std.specs.FinMap as map
use Rattle.sasi_host.specs.Names.{Bytes, Folder}
use Rattle.sasi_host.proofs.Folders.{get_entry}
use Rattle.sasi_host.proofs.mem_folder.MemFolder.get.Goals as goal

pub returns-in-Some-clause-some : goal.returns-in-Some-clause-some
returns-in-Some-clause-some c =
    sym (ap (λ (m : Folder). map.get m c.args.name) c.self.view_is) ∙ get_entry c.self.inside.files.entries c.args.name
    ∙ sym c.in-Some.ensures.value ∙ ap (λ (b : Bytes). Some b) (sym c.as_slice.ensures)

pub returns-in-None-clause-none : goal.returns-in-None-clause-none
returns-in-None-clause-none c =
    sym (ap (λ (m : Folder). map.get m c.args.name) c.self.view_is) ∙ get_entry c.self.inside.files.entries c.args.name ∙ sym c.in-None.ensures.value
