use Rattle.std.proofs.Common.{◌≡◌, ap}
use Rattle.sasi_host.specs.Disk.{Same}
use Rattle.sasi_filehost.specs.declared.file_host.FileHost.{FileHost}
use Rattle.sasi_filehost.proofs.HostCalls.{counted_on}
use Rattle.sasi_filehost.proofs.file_host.FileHostHost.size.Goals.{in-Some, in-None}
use Rattle.sasi_filehost.proofs.file_host.FileHostHost.size.Goals as goal

-- the call on the folder leaves the tally, which is then counted on
kept : (c : goal.After-call) → c.match-self.self.tally ≡ c.args.self.now.tally
kept c = elim c.match-self.branch [ in-Some w ↦ ap (λ (h : FileHost). h.tally) w.self-is | in-None w ↦ ap (λ (h : FileHost). h.tally) w.self-is ]

pub returns-clause-changes : goal.returns-clause-changes
returns-clause-changes c = (counted_on Same (kept c) c.call.ensures.counts c.call.ensures.few c.call.ensures.later).changes

pub returns-clause-call : goal.returns-clause-call
returns-clause-call c = (counted_on Same (kept c) c.call.ensures.counts c.call.ensures.few c.call.ensures.later).call

pub returns-clause-causes : goal.returns-clause-causes
returns-clause-causes c = (counted_on Same (kept c) c.call.ensures.counts c.call.ensures.few c.call.ensures.later).causes
