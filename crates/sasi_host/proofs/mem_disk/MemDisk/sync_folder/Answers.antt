use Rattle.std.proofs.Common.{refl}
use Rattle.sasi_host.specs.declared.call.Call.TheVariants.{FolderSynced}
use Rattle.sasi_host.proofs.CallChanges.{folder_still, emitted_kept}
use Rattle.sasi_host.proofs.mem_disk.MemDisk.sync_folder.Goals as goal

pub invariant_of-self : goal.invariant_of-self
invariant_of-self c = record {
  folder_is =
      folder_still c.args.self.now.start _ _ _ FolderSynced c.log_call.result (λ g. refl) c.args.self.now.folder_is c.log_call.ensures.ok c.log_call.ensures.err;
  emitted_is =
      emitted_kept c.args.self.now.start _ _ _ FolderSynced c.log_call.result refl c.args.self.now.emitted_is c.log_call.ensures.ok c.log_call.ensures.err;
  fits = c.args.self.now.fits;
}
