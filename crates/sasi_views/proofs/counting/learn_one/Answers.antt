use Rattle.std.proofs.Common.{sym, ◌∙◌}
use Rattle.sasi_views.proofs.BookChanges.{at_entry}
use Rattle.sasi_views.proofs.StepLaws.{added_undone}
use Rattle.sasi_views.proofs.counting.learn_one.Goals as goal

pub returns-clause-undone : goal.returns-clause-undone
returns-clause-undone c = λ k.
    added_undone c.learn.result c.args.added.now.items c.push.new.self.items c.args.component k (at_entry c.args.known.now.entries) (at_entry c.learn.new.known.entries)
    (sym c.contains_key.ensures ∙ c.if-contains_key.false) c.in_ok-push.ensures.items c.learn.ensures.ok c.learn.ensures.err
