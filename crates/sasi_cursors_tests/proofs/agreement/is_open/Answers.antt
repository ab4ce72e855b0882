use Rattle.std.proofs.Common.{◌≡◌, ◌∙◌, ap, length}
use Rattle.std.specs.List.{list_any}
use Rattle.sasi_types.specs.Key.{key_eq}
use Rattle.sasi_cursors.proofs.Agreement.{agree_names}
use Rattle.sasi_cursors_tests.proofs.agreement.is_open.Goals as goal

pub returns : goal.returns
returns c = λ session agrees.
    c.has.ensures.found
    ∙ ap (list_any (key_eq c.args.name.now)) (agree_names (λ cursor. cursor.0) (λ left cursor. left ≡ length cursor.1) c.args.cursors.now session agrees)
