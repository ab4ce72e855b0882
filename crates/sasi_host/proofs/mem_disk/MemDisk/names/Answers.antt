use Rattle.std.proofs.Common.{subst, IfOk, Contains, ◌↔◌, IsSome}
use Rattle.std.specs.FinMap.{get}
use Rattle.sasi_host.specs.declared.name.FileName.{FileName}
use Rattle.sasi_host.specs.Names.{Folder}
use Rattle.sasi_host.proofs.mem_disk.MemDisk.names.Goals as goal

pub returns-clause-has : goal.returns-clause-has
returns-clause-has c =
    subst
    (λ (f : Folder). IfOk c.names.result (λ names. (name : FileName) → Contains names.items name ↔ IsSome (get f name))) c.args.self.now.folder_is c.names.ensures.has
