use Rattle.std.proofs.Common.{◌∙◌, ap}
use Rattle.std.proofs.lemmas.Result.{on_ok_weaker}
use Rattle.std.specs.FinMap.{get}
use Rattle.sasi_host.specs.declared.call.Call.TheVariants.{Put}
use Rattle.sasi_host.specs.Names.{Folder}
use Rattle.sasi_host.specs.NameLaws.{insert_here}
use Rattle.sasi_host.specs.Memory.{memory_host}
use Rattle.sasi_host.proofs.HostChanges.{folder_now, done_folder}
use Rattle.sasi_host.proofs.mem_host.MemHost.put.Goals as goal

pub returns-clause-reads : goal.returns-clause-reads
returns-clause-reads c =
    let old = memory_host c.args.self.now in
    on_ok_weaker c.put.result (λ done. ap (λ (f : Folder). get f c.args.file)
    (done_folder old (record old { start = c.put.new.self.start; calls = c.put.new.self.calls.items }) (Put c.args.file c.args.bytes.now)
    (record { start = c.put.ensures.start; calls = done })) ∙ insert_here (folder_now old) c.args.file c.args.bytes.now) c.put.ensures.ok
