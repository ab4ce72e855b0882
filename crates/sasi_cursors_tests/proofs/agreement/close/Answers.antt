use Rattle.std.proofs.Common.{◌≡◌, length, subst, sym}
use Rattle.sasi_cursors.proofs.Agreement.{agree_closed}
use Rattle.sasi_cursors_tests.specs.Counts.{closed, Counts}
use Rattle.sasi_cursors_tests.proofs.agreement.close.Goals as goal

pub returns : goal.returns
returns c = λ session agrees.
    subst (λ counts. Counts counts (closed c.args.name.now session)) (sym c.remove.ensures.rest)
    (agree_closed (λ cursor. cursor.0) (λ left cursor. left ≡ length cursor.1) c.args.name.now c.args.cursors.now session c.remove.ensures.once agrees)
