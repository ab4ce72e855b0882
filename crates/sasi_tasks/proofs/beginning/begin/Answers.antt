use Rattle.std.proofs.Common.{◌<◌, ◌≤◌, ◌^◌, ◌++◌, ◌∙◌, ◌∷◌, [], ℕ, List, Ok, ap, length, subst, sym}
use Rattle.std.specs.Prelude.{is_some, nat_eq}
use Rattle.std.specs.List.{position}
use Rattle.std.proofs.lemmas.Result.{err_from_is_err_and}
use Rattle.sasi_manifest.specs.Edits.{files_of}
use Rattle.sasi_manifest.specs.declared.files.ListedFile.{ListedFile}
use Rattle.sasi_manifest.specs.declared.listing.Listing.{Listing}
use Rattle.sasi_tasks.proofs.Begun.{begin_again, begin_few, begin_made, begin_spent}
use Rattle.sasi_tasks.proofs.BegunTask.{inside_listed}
use Rattle.sasi_tasks.proofs.NothingDone.{nothing_full}
use Rattle.sasi_tasks.specs.MakesTaskMoves.{MakesTaskMoves}
use Rattle.sasi_tasks.specs.Running.{IsOverAll}
use Rattle.sasi_tasks.specs.Tasks.{begin_moves, tasks_begun}
use Rattle.sasi_tasks.specs.declared.running.RunningTask.{RunningTask}
use Rattle.sasi_tasks.proofs.beginning.begin.Goals as goal

pub returns-then-is_some : goal.returns-then-is_some
returns-then-is_some g c = record {
  makes = λ views ready.
      begin_again (g.H.Host.view c.args.host.now) (g.met.H.Host.sound c.args.host.now) views c.args.parts.now c.args.tasks.now.items ready c.args.table
      (ap is_some (sym (c.position_of.ensures ∙ ap (position (λ (r : RunningTask). nat_eq r.table c.args.table)) c.deref.ensures.value)) ∙ sym c.is_some.ensures ∙ c.if-is_some.true);
}

pub returns-then-files_of-lt2 : goal.returns-then-files_of-lt2
returns-then-files_of-lt2 g c = record {
  makes = λ views ready.
      begin_few (g.H.Host.view c.args.host.now) (g.met.H.Host.sound c.args.host.now) views c.args.parts.now c.args.tasks.now.items ready c.args.table c.requires.there
      (ap is_some (sym (c.position_of.ensures ∙ ap (position (λ (r : RunningTask). nat_eq r.table c.args.table)) c.deref.ensures.value)) ∙ sym c.is_some.ensures ∙ c.if-is_some.false)
      (subst (λ (fs : List ListedFile). length fs < 2) (c.files_of.ensures ∙ ap (λ (l : Listing). files_of l.tables c.args.table) c.listing.ensures.listing) c.if-files_of-lt2.true);
}

pub returns-in_err-number : goal.returns-in_err-number
returns-in_err-number g c = record {
  makes = λ views ready.
      let p = err_from_is_err_and c.from_residual.result c.from_residual.ensures.1 in
      rw (p.1, p.2) (begin_spent (g.H.Host.view c.args.host.now) (g.met.H.Host.sound c.args.host.now) views c.args.parts.now c.args.tasks.now.items ready c.args.table c.requires.there
      (ap is_some (sym (c.position_of.ensures ∙ ap (position (λ (r : RunningTask). nat_eq r.table c.args.table)) c.deref.ensures.value)) ∙ sym c.is_some.ensures ∙ c.if-is_some.false)
      (subst (λ (fs : List ListedFile). 2 ≤ length fs) (c.files_of.ensures ∙ ap (λ (l : Listing). files_of l.tables c.args.table) c.listing.ensures.listing) c.if-files_of-lt2.false)
      c.in_err-number.field-0.0 c.in_err-number.ensures.spent);
}

pub returns-in_err-task : goal.returns-in_err-task
returns-in_err-task g c = record {
  makes = λ views ready.
      let p = err_from_is_err_and c.from_residual-in_err-task.result c.from_residual-in_err-task.ensures.1 in
      rw (p.1, p.2) (nothing_full (begin_moves c.args.table) (tasks_begun c.args.table) views (g.H.Host.view c.args.host.now) (g.met.H.Host.sound c.args.host.now) c.args.parts.now c.args.tasks.now.items c.args.parts.now c.args.tasks.now.items);
}

pub returns-in_err-add : goal.returns-in_err-add
returns-in_err-add g c = record {
  makes = λ views ready.
      let p = err_from_is_err_and c.from_residual-in_err-add.result c.from_residual-in_err-add.ensures.1 in
      rw (p.1, p.2) (nothing_full (begin_moves c.args.table) (tasks_begun c.args.table) views (g.H.Host.view c.args.host.now) (g.met.H.Host.sound c.args.host.now) c.args.parts.now c.args.tasks.now.items c.args.parts.now c.add.new.tasks.items);
}

pub task_over-requires-clause-within : goal.task_over-requires-clause-within
task_over-requires-clause-within g c = inside_listed (g.H.Host.view c.args.host.now) c.requires.ready.0 c.args.parts.now c.args.tasks.now.items c.requires.ready.1 c.args.table c.requires.there

pub returns : goal.returns
returns g c = record {
  makes = λ views ready.
      let v = g.H.Host.view c.args.host.now in
      let p = c.args.parts.now in
      let was = c.args.tasks.now.items in
      let next = c.in_ok-number.ensures.next in
      let over = subst (λ (n : ℕ). IsOverAll p c.args.table n c.in_ok-task.task) next c.in_ok-task.ensures in
      let made =
      begin_made v (g.met.H.Host.sound c.args.host.now) views p was ready c.args.table c.requires.there.some c.in_ok-task.task over
      (ap is_some (sym (c.position_of.ensures ∙ ap (position (λ (r : RunningTask). nat_eq r.table c.args.table)) c.deref.ensures.value)) ∙ sym c.is_some.ensures ∙ c.if-is_some.false)
      (subst (λ (fs : List ListedFile). 2 ≤ length fs) (c.files_of.ensures ∙ ap (λ (l : Listing). files_of l.tables c.args.table) c.listing.ensures.listing) c.if-files_of-lt2.false)
      (subst (λ (n : ℕ). n < 2 ^ 32) next c.in_ok-number.ensures.fits) in
      let numbered = subst (λ (n : ℕ). MakesTaskMoves (begin_moves c.args.table) (tasks_begun c.args.table) views v v p (record p { numbers = record p.numbers { «data» = n } }) was (was ++ record { table = c.args.table; task = c.in_ok-task.task } ∷ []) (Ok tt)) (sym next) made in
      subst (λ (tasks : List RunningTask). MakesTaskMoves (begin_moves c.args.table) (tasks_begun c.args.table) views v v p (record p { numbers = record p.numbers { «data» = c.in_ok-number.number } }) was tasks (Ok tt)) (sym c.in_ok-add.ensures) numbered;
}
