use Rattle.std.proofs.Common.{◌≡◌, []}
use Rattle.sasi_store.proofs.Finishing.{IsFinishing}
use Rattle.sasi_store.proofs.store.Store.finish.Given as goal

-- the cursors that are left are to be closed still
abbrev pub invariant-loop-cursor : goal.invariant-loop-cursor
invariant-loop-cursor g l =
    IsFinishing (g.H.Host.view l.fn.host) (g.H.Host.view l.host) l.fn.self.parts l.views l.cursor-iterator
    × (l.fn.self.session.cursors ≡ [] → l.fn.self.session.tasks.items ≡ [] → (l.cursor-iterator ≡ []) × (l.host ≡ l.fn.host))
