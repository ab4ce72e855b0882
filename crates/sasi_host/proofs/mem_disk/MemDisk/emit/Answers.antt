use Rattle.std.proofs.Common.{refl}
use Rattle.std.proofs.lemmas.Result.{on_ok_weaker, on_err_weaker}
use Rattle.sasi_host.specs.declared.call.Call.TheVariants.{Emitted}
use Rattle.sasi_host.proofs.CallChanges.{folder_still, emitted_more}
use Rattle.sasi_host.proofs.mem_disk.MemDisk.emit.Goals as goal

pub invariant_of-self : goal.invariant_of-self
invariant_of-self c = record {
  folder_is =
      folder_still c.args.self.now.start _ _ _ (Emitted c.args.bytes.now) c.emit.result (λ g. refl) c.args.self.now.folder_is
      (on_ok_weaker c.emit.result (λ p. p.0) c.emit.ensures.ok) (on_err_weaker c.emit.result (λ p. p.0) c.emit.ensures.err);
  emitted_is =
      emitted_more c.args.self.now.start _ _ _ _ c.args.bytes.now c.emit.result c.args.self.now.emitted_is c.emit.ensures.ok c.emit.ensures.err;
  fits = c.args.self.now.fits;
}
