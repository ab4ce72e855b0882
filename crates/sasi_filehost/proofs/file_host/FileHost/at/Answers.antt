use Rattle.std.proofs.Common.{ap}
use Rattle.sasi_filehost.specs.declared.tally.Tally.{Tally}
use Rattle.sasi_filehost.proofs.file_host.FileHost.at.Goals as goal

pub returns : goal.returns
returns c =
    let is = c.new.ensures in
    record {
      calls = ap (λ (t : Tally). t.calls) is;
      emits = ap (λ (t : Tally). t.emits) is;
      reads = ap (λ (t : Tally). t.reads) is;
      disk = ap (λ (t : Tally). t.disk_faults) is;
      out = ap (λ (t : Tally). t.out_faults) is;
    }
