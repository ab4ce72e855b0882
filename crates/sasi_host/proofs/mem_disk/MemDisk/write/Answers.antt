use Rattle.std.proofs.Common.{refl}
use Rattle.std.proofs.lemmas.Result.{on_ok_weaker, on_err_weaker}
use Rattle.sasi_host.specs.declared.call.Call.TheVariants.{Wrote}
use Rattle.sasi_host.proofs.CallChanges.{folder_kept, emitted_kept}
use Rattle.sasi_host.proofs.mem_disk.MemDisk.write.Goals as goal

pub invariant_of-self : goal.invariant_of-self
invariant_of-self c = record {
  folder_is =
      folder_kept c.args.self.now.start _ _ _ _
      (Wrote c.args.file c.args.at c.args.bytes.now) c.write.result c.args.self.now.folder_is c.write.ensures.ok c.write.ensures.err;
  emitted_is =
      emitted_kept c.args.self.now.start _ _ _ (Wrote c.args.file c.args.at c.args.bytes.now) c.write.result refl c.args.self.now.emitted_is
      (on_ok_weaker c.write.result (λ p. p.0) c.write.ensures.ok) (on_err_weaker c.write.result (λ p. p.0) c.write.ensures.err);
  fits = c.write.ensures.fits c.args.self.now.fits;
}
