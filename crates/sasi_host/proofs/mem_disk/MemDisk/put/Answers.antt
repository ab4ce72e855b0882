use Rattle.std.proofs.Common.{refl}
use Rattle.std.proofs.lemmas.Result.{on_ok_weaker, on_err_weaker}
use Rattle.sasi_host.specs.declared.call.Call.TheVariants.{Put}
use Rattle.sasi_host.proofs.CallChanges.{folder_kept, emitted_kept}
use Rattle.sasi_host.proofs.mem_disk.MemDisk.put.Goals as goal

pub invariant_of-self : goal.invariant_of-self
invariant_of-self c = record {
  folder_is =
      folder_kept c.args.self.now.start _ _ _ _
      (Put c.args.file c.args.bytes.now) c.put.result c.args.self.now.folder_is c.put.ensures.ok c.put.ensures.err;
  emitted_is =
      emitted_kept c.args.self.now.start _ _ _ (Put c.args.file c.args.bytes.now) c.put.result refl c.args.self.now.emitted_is
      (on_ok_weaker c.put.result (λ p. p.0) c.put.ensures.ok) (on_err_weaker c.put.result (λ p. p.0) c.put.ensures.err);
  fits = c.put.ensures.fits c.args.self.now.fits;
}
