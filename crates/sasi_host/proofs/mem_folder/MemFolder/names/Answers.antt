use Rattle.std.proofs.lemmas.Result.{IfOk-weaker}
use Rattle.sasi_host.proofs.Folders.{lists_names}
use Rattle.sasi_host.proofs.mem_folder.MemFolder.names.Goals as goal

pub returns-clause-has : goal.returns-clause-has
returns-clause-has c =
    IfOk-weaker c.keys_of.result _ _
    (λ names has. lists_names c.self.inside.files.entries c.args.self.now names.items c.self.view_is has) c.keys_of.ensures.has
