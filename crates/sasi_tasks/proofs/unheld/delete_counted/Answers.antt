use Rattle.std.proofs.Common.{◌≡◌, ◌∷◌, [], true, arith}
use Rattle.std.proofs.lemmas.Bool.Decides.{nat_tests}
use Rattle.sasi_tasks.specs.Unheld.{is_counted, is_one_of}
use Rattle.sasi_tasks.proofs.Deleting.{one_deleted, within_none}
use Rattle.sasi_tasks.proofs.unheld.delete_counted.Goals as goal

pub returns-then-count-clause-changes : goal.returns-then-count-clause-changes
returns-then-count-clause-changes g c = within_none (is_one_of (is_counted c.args.views.now c.args.count) (c.args.name ∷ [])) (g.H.Host.view c.args.host.now)

pub returns-in_err-delete-clause-changes : goal.returns-in_err-delete-clause-changes
returns-in_err-delete-clause-changes g c =
    let is : is_counted c.args.views.now c.args.count c.args.name ≡ true = grind (arith, nat_tests, c.count.ensures, c.if-count.false) in
    one_deleted (is_counted c.args.views.now c.args.count) c.args.name (g.H.Host.view c.args.host.now) (g.H.Host.view c.delete.new.self) is c.delete.ensures.changes

pub returns-clause-changes : goal.returns-clause-changes
returns-clause-changes g c =
    let is : is_counted c.args.views.now c.args.count c.args.name ≡ true = grind (arith, nat_tests, c.count.ensures, c.if-count.false) in
    one_deleted (is_counted c.args.views.now c.args.count) c.args.name (g.H.Host.view c.args.host.now) (g.H.Host.view c.delete.new.self) is c.delete.ensures.changes
