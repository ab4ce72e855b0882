use Rattle.std.proofs.Common.{◌≡◌, ◌≤◌, ◌-◌, ◌^◌, ◌∙◌, ap, is_err, rules, subst}
use Rattle.sasi_host.specs.Disk.{Same}
use Rattle.sasi_host.specs.View.{counted}
use Rattle.sasi_filehost.specs.HostCounts.{after_call}
use Rattle.sasi_filehost.specs.declared.file_host.FileHost.{FileHost}
use Rattle.sasi_filehost.specs.declared.tally.Tally.{Tally}
use Rattle.sasi_filehost.proofs.HostCalls.{call_changes, is_call, read_causes}
use Rattle.sasi_filehost.proofs.file_host.FileHostHost.read.Goals.{in-Some, in-None}
use Rattle.sasi_filehost.proofs.file_host.FileHostHost.read.Goals as goal

-- the read is counted, and nothing else
kept : (c : goal.After-call) → c.match-self.self.tally ≡ record c.args.self.now.tally { reads = c.saturating_add-self.result }
kept c = elim c.match-self.branch [
  | in-Some w ↦ ap (λ (h : FileHost). h.tally) w.self-is
  | in-None w ↦ ap (λ (h : FileHost). h.tally) w.self-is
]

-- so that the call counts on from it
counts : (c : goal.After-call) → c.call.new.self ≡ after_call (is_err c.call.result) (record c.args.self.now.tally { reads = c.saturating_add-self.result })
counts c = c.call.ensures.counts ∙ ap (λ (t : Tally). after_call (is_err c.call.result) t) (kept c)

pub returns-clause-changes : goal.returns-clause-changes
returns-clause-changes c = call_changes Same _ c.args.self.now.tally _ _ (counts c) (subst (λ (t : Tally). t.calls ≤ 2 ^ 64 - 1) (kept c) c.call.ensures.few)

pub returns-clause-call : goal.returns-clause-call
returns-clause-call c = is_call _ c.args.self.now.tally _ _ (counts c)

pub returns-clause-causes : goal.returns-clause-causes
returns-clause-causes c =
    let read : c.saturating_add-self.result ≡ counted c.args.self.now.tally.reads = search rules in
    read_causes c.args.self.now.tally _ _ c.call.result (counts c) read (subst (λ (t : Tally). t.disk_faults ≤ c.call.new.self.disk_faults) (kept c) c.call.ensures.later)
