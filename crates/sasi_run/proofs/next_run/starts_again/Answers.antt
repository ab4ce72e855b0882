use Rattle.std.proofs.Common.{Option, inl, refl, sym, subst}
use Rattle.sasi_types.specs.declared.partitioner.Partitioner.{Partitioner}
use Rattle.sasi_host.specs.Names.{Folder}
use Rattle.sasi_host.specs.View.{View}
use Rattle.sasi_layout.specs.Layout.{Layout}
use Rattle.sasi_layout.specs.Shape.{ShapeOf, Stands}
use Rattle.sasi_model.specs.State.{State}
use Rattle.sasi_run.specs.Headline.{StartsFrom}
use Rattle.sasi_run.specs.Recovering.{IsAtRest}
use Rattle.sasi_run.specs.Shapes.{StartsFromLayout}
use Rattle.sasi_run.proofs.next_run.starts_again.Goals as goal

starts : (v : View) (asked : Option Partitioner) (folder : Folder) (s : State) → IsAtRest v folder → Stands asked folder s → StartsFrom Stands asked v s
starts v asked folder s rest stands = record {
  folder = folder;
  reads = rest.reads;
  stands = stands;
  images = λ image now. (s, subst (λ (f : Folder). Stands asked f s) (sym (rest.only image now)) stands);
}

layouts : (v : View) (asked : Option Partitioner) (folder : Folder) (l : Layout) → IsAtRest v folder → ShapeOf asked folder l → StartsFromLayout asked v l
layouts v asked folder l rest shape = record {
  folder = folder;
  reads = rest.reads;
  shape = shape;
  images = λ image now. (l, subst (λ (f : Folder). ShapeOf asked f l) (sym (rest.only image now)) shape);
}

pub returns-clause-at_rest : goal.returns-clause-at_rest
returns-clause-at_rest g c = λ crash. (crash.folder, crash.was, record { reads = crash.reads; only = crash.only })

pub returns-clause-starts : goal.returns-clause-starts
returns-clause-starts g c = λ asked folder s rest stands. starts (g.H.Host.view c.args.left.now) asked folder s rest stands

pub returns-clause-layouts : goal.returns-clause-layouts
returns-clause-layouts g c = λ asked folder l rest shape. layouts (g.H.Host.view c.args.left.now) asked folder l rest shape

pub returns-clause-empty : goal.returns-clause-empty
returns-clause-empty g c = λ asked folder none. record { shape = _; has = inl ((λ name other log. none name), refl); state_is = refl }
