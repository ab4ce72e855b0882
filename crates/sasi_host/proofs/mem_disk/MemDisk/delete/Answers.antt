use Rattle.std.proofs.Common.{refl}
use Rattle.std.proofs.lemmas.Result.{on_ok_weaker, on_err_weaker}
use Rattle.sasi_host.specs.declared.call.Call.TheVariants.{Deleted}
use Rattle.sasi_host.proofs.CallChanges.{folder_kept, emitted_kept}
use Rattle.sasi_host.proofs.mem_disk.MemDisk.delete.Goals as goal

pub invariant_of-self : goal.invariant_of-self
invariant_of-self c = record {
  folder_is =
      folder_kept c.args.self.now.start _ _ _ _
      (Deleted c.args.file) c.delete.result c.args.self.now.folder_is c.delete.ensures.ok c.delete.ensures.err;
  emitted_is =
      emitted_kept c.args.self.now.start _ _ _ (Deleted c.args.file) c.delete.result refl c.args.self.now.emitted_is
      (on_ok_weaker c.delete.result (λ p. p.0) c.delete.ensures.ok) (on_err_weaker c.delete.result (λ p. p.0) c.delete.ensures.err);
  fits = c.delete.ensures.fits c.args.self.now.fits;
}
