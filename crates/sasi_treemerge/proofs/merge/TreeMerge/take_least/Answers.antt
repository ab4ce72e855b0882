use Rattle.std.proofs.Common.{inl, refl, ◌∙◌}
use Rattle.sasi_host.proofs.ChangeLaws.{stays}
use Rattle.sasi_treemerge.specs.Merges.{parts_of}
use Rattle.sasi_treemerge.proofs.Taking.{steps_take}
use Rattle.sasi_treemerge.proofs.merge.TreeMerge.take_least.Goals as goal

pub returns-in-Some-clause-read : goal.returns-in-Some-clause-read
returns-in-Some-clause-read g c = record { agrees = c.requires.read.agrees; covers = λ name at. inl at; changes = stays (g.H.Host.view c.args.host.now) }

pub returns-clause-ok : goal.returns-clause-ok
returns-clause-ok g c =
    let none = c.in_default.ensures.none refl in
    steps_take (g.H.Host.view c.args.host.now) (parts_of c.args.self.now) (parts_of c.take_held.new.self) (parts_of c.take_head.new.self) c.in_ok-head.head c.take_held.ensures.sources none.0 (c.take_head.ensures.held ∙ none.1) c.in_ok-head.ensures.ok
