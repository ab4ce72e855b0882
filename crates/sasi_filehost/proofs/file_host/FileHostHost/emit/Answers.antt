use Rattle.std.proofs.Common.{◌≡◌, ap, is_err, subst}
use Rattle.sasi_host.specs.View.{Emits, IsEmit, OutCauses}
use Rattle.sasi_filehost.specs.HostCounts.{view_of}
use Rattle.sasi_filehost.specs.declared.file_host.FileHost.{FileHost}
use Rattle.sasi_filehost.specs.declared.tally.Tally.{Tally}
use Rattle.sasi_filehost.proofs.HostCalls.{emits_untold, is_emit, out_causes}
use Rattle.sasi_filehost.proofs.file_host.FileHostHost.emit.Goals.{in-Some, in-None}
use Rattle.sasi_filehost.proofs.file_host.FileHostHost.emit.Goals as goal

-- the call on the folder leaves the tally, which is then counted on
kept : (c : goal.After-emit) → c.match-self.self.tally ≡ c.args.self.now.tally
kept c = elim c.match-self.branch [
  | in-Some w ↦ ap (λ (h : FileHost). h.tally) w.self-is
  | in-None w ↦ ap (λ (h : FileHost). h.tally) w.self-is
]

pub returns-clause-emits : goal.returns-clause-emits
returns-clause-emits c =
    subst (λ (t : Tally). Emits c.args.bytes.now (view_of t) (view_of c.emit.new.self)) (kept c)
    (emits_untold _ c.match-self.self.tally _ c.args.bytes.now c.emit.ensures.counts c.emit.ensures.few)

pub returns-clause-call : goal.returns-clause-call
returns-clause-call c =
    subst (λ (t : Tally). IsEmit (view_of t) (view_of c.emit.new.self) (is_err c.emit.result)) (kept c) (is_emit _ c.match-self.self.tally _ c.emit.ensures.counts)

pub returns-clause-causes : goal.returns-clause-causes
returns-clause-causes c =
    subst (λ (t : Tally). OutCauses (view_of t) (view_of c.emit.new.self) c.emit.result) (kept c)
    (out_causes c.match-self.self.tally _ c.emit.result c.emit.ensures.counts c.emit.ensures.later)
