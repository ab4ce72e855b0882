use Rattle.std.proofs.Common.{List, Some, ℕ, inr, subst, sym}
use Rattle.sasi_manifest.specs.declared.files.ListedFile.{ListedFile}
use Rattle.sasi_scan.specs.Numbered.{views_numbered}
use Rattle.sasi_scan.specs.Parts.{ShowsListed}
use Rattle.sasi_recheck.specs.Sources.{Candidate}
use Rattle.sasi_sources.specs.KeyCandidates.{HasKeyType, IsListed, KeyLeaves}
use Rattle.sasi_sources.specs.Maps.{IsOneOf}
use Rattle.sasi_plan.proofs.ViewLaws.{listed_file}
use Rattle.sasi_plan.proofs.BeginLaws.{look_up_leaves, look_up_pays}
use Rattle.sasi_plan.proofs.plan_candidates.begin_look_up.Goals as goal

pub returns-clause-leaves : goal.returns-clause-leaves
returns-clause-leaves c w left is made left_is =
    let r = c.new.result in
    look_up_leaves w c.args.maps.now is c.args.types c.args.parts.now made.0 c.in_ok-files.files.items c.in_ok-files.ensures c.args.key made
    (λ (left : List Candidate). KeyLeaves r.types r.files.items r.key (Some w.folder) (views_numbered c.args.maps.now r.maps.items) left) left left_is c.in_ok-numbers.numbers.items c.in_ok-numbers.ensures
    (λ contents have. c.new.ensures.leaves (Some w.folder) c.args.maps.now w.partitioner contents have)

pub returns-clause-pays : goal.returns-clause-pays
returns-clause-pays c w most prices is made few =
    look_up_pays w c.args.maps.now is c.args.types c.args.parts.now made.0 c.in_ok-files.files.items c.in_ok-files.ensures c.args.key made.3 _ most prices few
    (λ contents have few. c.new.ensures.pays (Some w.folder) c.args.maps.now w.partitioner contents most prices have few)

pub returns-clause-opens : goal.returns-clause-opens
returns-clause-opens c name opens =
    listed_file c.args.parts.now name (subst (λ (fs : List ListedFile). IsListed fs name) c.in_ok-files.ensures (c.new.ensures.opens name opens))

pub returns-clause-uses : goal.returns-clause-uses
returns-clause-uses c number uses =
    subst (λ (ns : List ℕ). IsOneOf ns number) c.in_ok-numbers.ensures (c.new.ensures.uses number uses)

pub returns-clause-shows : goal.returns-clause-shows
returns-clause-shows c files damage shows =
    inr (subst (λ (fs : List ListedFile). ShowsListed files fs c.args.types damage) c.in_ok-files.ensures (c.new.ensures.shows files damage shows))

pub returns-clause-prints : goal.returns-clause-prints
returns-clause-prints c files book kind has =
    c.new.ensures.prints files book kind (subst (λ (ns : List ℕ). HasKeyType c.args.types (views_numbered book ns) kind) (sym c.in_ok-numbers.ensures) has)
