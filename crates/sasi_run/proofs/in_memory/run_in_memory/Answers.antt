use Rattle.sasi_host.specs.Memory.{memory_host}
use Rattle.sasi_run.proofs.NothingFails.{no_call_fails, no_emit_fails, no_read_fails}
use Rattle.sasi_run.proofs.in_memory.run_in_memory.Goals as goal

pub returns : goal.returns
returns g c = record {
  headline = c.run.ensures.headline;
  shapes = c.run.ensures.shapes;
  causes = c.run.ensures.causes;
  untouched = c.run.ensures.untouched;
  through = λ words nowhere grew short.
      (let causes = c.run.ensures.causes in
      let script = c.args.script.now in
      let read = c.run.new.script in
      let h = memory_host c.args.host.now in
      let k = memory_host c.run.new.host in
      causes.complete words (no_read_fails script read h k nowhere causes.calls.script_told)
      (no_emit_fails script read h k nowhere causes.calls.host_told grew) (no_call_fails script read h k nowhere causes.calls.host_told grew)
      short);
}
