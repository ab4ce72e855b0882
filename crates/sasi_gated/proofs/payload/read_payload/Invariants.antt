use Rattle.std.proofs.Common.{◌-◌, ◌+◌, ◌≡◌, ◌≤◌, length, take, drop, ℕ, List, Some}
use Rattle.sasi_host.specs.View.{IsThere, contents}
use Rattle.sasi_host.specs.Disk.{Changes, Same}
use Rattle.sasi_host.specs.Buffered.{IsBuffered}
use Rattle.sasi_host.specs.Sequential.{BeginsBy, ReachesTo, ReadsEachOnce}
use Rattle.sasi_gated.proofs.payload.read_payload.Given as goal

abbrev pub invariant-loop-done : goal.invariant-loop-done
invariant-loop-done g l =
    let view = g.H.Host.view in
    record {
      below : l.done ≤ l.count;
      len : length l.out.items ≡ l.done;
      there : IsThere (view l.host) l.buffered.file;
      buffered : IsBuffered l.buffered (view l.host).files;
      file : l.buffered.file ≡ l.fn.buffered.file;
      same : Changes Same (view l.fn.host) (view l.host);
      disk : (view l.host).disk_faults ≡ (view l.fn.host).disk_faults;
      out : (view l.host).out_faults ≡ (view l.fn.host).out_faults;
      within : (bytes : List ℕ) → contents (view l.fn.host) l.fn.buffered.file ≡ Some bytes → l.at ≤ length bytes → l.at + l.done ≤ length bytes;
      taken : (bytes : List ℕ) → contents (view l.fn.host) l.fn.buffered.file ≡ Some bytes → l.out.items ≡ take l.done (drop l.at bytes);
      once : BeginsBy l.fn.buffered.page l.at → ReachesTo (view l.fn.host) l.fn.buffered.file l.at
          → ReadsEachOnce (view l.fn.host) (view l.host) l.fn.buffered.file l.fn.buffered.page l.buffered.page (l.at + l.done);
    }

abbrev pub decreases-loop-done : goal.decreases-loop-done
decreases-loop-done g l = l.count - l.done
