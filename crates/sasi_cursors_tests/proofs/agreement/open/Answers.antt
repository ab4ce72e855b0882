use Rattle.std.proofs.Common.{◌≡◌, ◌++◌, [], ◌∷◌, length, refl, subst, sym}
use Rattle.std.specs.Prelude.{OnOk}
use Rattle.sasi_cursors.proofs.Agreement.{agree_opened}
use Rattle.sasi_cursors_tests.specs.Counts.{Counts}
use Rattle.sasi_cursors_tests.proofs.agreement.open.Goals as goal

pub returns : goal.returns
returns g c = λ session given rows agrees.
    subst (λ counts. Counts counts (session ++ (c.args.name.now, given) ∷ [])) (sym (subst (λ r. OnOk r (c.insert.new.self ≡ c.args.cursors.now ++ (c.args.name.now, c.args.rows) ∷ [])) c.expect.ensures c.insert.ensures.opened))
    (agree_opened (λ cursor. cursor.0) (λ left cursor. left ≡ length cursor.1) c.args.name.now c.args.rows (c.args.name.now, given) refl rows c.args.cursors.now session agrees)
