use Rattle.std.proofs.Common.{◌≡◌, Bool, ap, subst}
use Rattle.sasi_host.specs.Disk.{Changes, Same}
use Rattle.sasi_host.specs.View.{IsCall, ListCauses}
use Rattle.sasi_filehost.specs.HostCounts.{view_of}
use Rattle.sasi_filehost.specs.declared.file_host.FileHost.{FileHost}
use Rattle.sasi_filehost.specs.declared.tally.Tally.{Tally}
use Rattle.sasi_filehost.proofs.HostCalls.{call_changes, is_call, list_causes}
use Rattle.sasi_filehost.proofs.file_host.FileHostHost.list.Goals.{in-Some, in-None}
use Rattle.sasi_filehost.proofs.file_host.FileHostHost.list.Goals as goal

-- the call on the folder leaves the tally, which is then counted on
kept : (c : goal.After-count_call) → c.match-self.self.tally ≡ c.args.self.now.tally
kept c = elim c.match-self.branch [
  | in-Some w ↦ ap (λ (h : FileHost). h.tally) w.self-is
  | in-None w ↦ ap (λ (h : FileHost). h.tally) w.self-is
]

pub returns-clause-changes : goal.returns-clause-changes
returns-clause-changes c =
    subst (λ (t : Tally). Changes Same (view_of t) (view_of c.count_call.new.self)) (kept c)
    (call_changes Same _ c.match-self.self.tally _ _ c.count_call.ensures.counts c.count_call.ensures.few)

pub returns-clause-call : goal.returns-clause-call
returns-clause-call c =
    subst (λ (b : Bool). IsCall (view_of c.args.self.now.tally) (view_of c.count_call.new.self) b) c.is_failed.ensures
    (subst (λ (t : Tally). IsCall (view_of t) (view_of c.count_call.new.self) c.is_failed.result) (kept c) (is_call _ c.match-self.self.tally _ _ c.count_call.ensures.counts))

pub returns-clause-causes : goal.returns-clause-causes
returns-clause-causes c =
    subst (λ (t : Tally). ListCauses (view_of t) (view_of c.count_call.new.self) c.match-self.answer) (kept c)
    (list_causes c.match-self.self.tally _ c.is_failed.result c.match-self.answer c.count_call.ensures.counts c.is_failed.ensures c.count_call.ensures.later)
