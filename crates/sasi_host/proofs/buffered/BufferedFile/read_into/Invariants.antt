use Rattle.std.proofs.Common.{◌≡◌, ◌⊎◌, ◌+◌, ◌-◌, ◌/◌, ◌<◌, ◌≤◌, List, ℕ, length, take, drop, Some}
use Rattle.sasi_host.specs.declared.name.FileName.{FileName}
use Rattle.sasi_host.specs.View.{IsThere, contents}
use Rattle.sasi_host.specs.Disk.{Changes, Same}
use Rattle.sasi_host.specs.Buffered.{IsBuffered, reached, unbuffered_pages}
use Rattle.sasi_host.specs.Sequential.{BeginsBy}
use Rattle.sasi_host.proofs.buffered.BufferedFile.read_into.Given as goal

abbrev pub invariant-loop-filled : goal.invariant-loop-filled
invariant-loop-filled g l =
    let view = g.H.Host.view in
    record {
      there : IsThere (view l.host) l.self.file;
      agrees : g.P.PageReader.agrees l.pages (view l.host).files;
      covers : (name : FileName) → g.P.PageReader.covers l.pages name → g.P.PageReader.covers l.fn.pages name ⊎ (name ≡ l.fn.self.file);
      buffered : IsBuffered l.self (view l.host).files;
      file : l.self.file ≡ l.fn.self.file;
      page : 0 < l.filled → l.self.page ≡ Some ((l.at + l.filled - 1) / 4096);
      changes : Changes Same (view l.fn.host) (view l.host);
      disk : (view l.host).disk_faults ≡ (view l.fn.host).disk_faults;
      out : (view l.host).out_faults ≡ (view l.fn.host).out_faults;
      reads : (view l.host).reads + unbuffered_pages l.self.page (l.at + l.filled) (length l.fn.out - l.filled) ≤ (view l.fn.host).reads + unbuffered_pages l.fn.self.page l.at (length l.fn.out);
      is : (bytes : List ℕ) → contents (view l.fn.host) l.fn.self.file ≡ Some bytes → take l.filled l.out ≡ take l.filled (drop l.at bytes);
      within : (bytes : List ℕ) → contents (view l.fn.host) l.fn.self.file ≡ Some bytes → 0 < l.filled → l.at + l.filled ≤ length bytes;
      filled : l.filled ≤ length l.fn.out;
      begins : BeginsBy l.fn.self.page l.at → BeginsBy l.self.page (l.at + l.filled);
      once : BeginsBy l.fn.self.page l.at → (view l.host).reads + reached l.fn.self.page ≤ (view l.fn.host).reads + reached l.self.page;
    }

abbrev pub decreases-loop-filled : goal.decreases-loop-filled
decreases-loop-filled g l = length l.initial.out - l.filled
