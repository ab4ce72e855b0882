use Rattle.std.proofs.Common.{◌+◌, Option, ap, sym, ◌∙◌, ℕ}
use Rattle.sasi_candidates.specs.Checks.{looked}
use Rattle.sasi_model.specs.Filters.{answers, where_of}
use Rattle.sasi_machine_layout.proofs.Counting.{counted_other, counted_row}
use Rattle.sasi_machine_layout.proofs.count.Count.with.Goals as goal

pub returns-then-not-branch-clause-rest : goal.returns-then-not-branch-clause-rest
returns-then-not-branch-clause-rest g c left =
    counted_other (answers (where_of c.args.query.now.filter)) c.args.self.allowed (c.args.key.now, c.args.partition.now) left c.args.self.checked c.requires.more (sym c.in_ok-answers.ensures.answers ∙ c.if-not-branch.true)

pub returns-clause-rest : goal.returns-clause-rest
returns-clause-rest g c left =
    counted_row (answers (where_of c.args.query.now.filter)) c.args.self.allowed (c.args.key.now, c.args.partition.now) left c.args.self.checked c.requires.more (sym c.in_ok-answers.ensures.answers ∙ c.if-not-branch.false)
    ∙ ap (λ (o : Option ℕ). (c.args.self.checked + 1) + looked o (answers (where_of c.args.query.now.filter)) left) (sym c.one_less.ensures)
