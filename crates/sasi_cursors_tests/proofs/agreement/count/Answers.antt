use Rattle.std.proofs.Common.{◌≡◌, ◌∙◌, length}
use Rattle.sasi_cursors.proofs.Agreement.{agree_length}
use Rattle.sasi_cursors_tests.proofs.agreement.count.Goals as goal

pub returns : goal.returns
returns c = λ session agrees. c.len.ensures.len ∙ agree_length (λ cursor. cursor.0) (λ left cursor. left ≡ length cursor.1) c.args.cursors.now session agrees
