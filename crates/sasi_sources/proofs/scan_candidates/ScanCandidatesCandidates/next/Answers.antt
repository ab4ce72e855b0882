use Rattle.std.proofs.Common.{IfOk, List, ap, subst, sym, ◌∙◌}
use Rattle.std.specs.List.{AllByRecursion}
use Rattle.sasi_host.specs.Names.{data_name}
use Rattle.sasi_host.specs.View.{IsThere}
use Rattle.sasi_manifest.specs.declared.files.ListedFile.{ListedFile}
use Rattle.sasi_memtable.specs.MemtableView.{MemtableView}
use Rattle.sasi_recheck.specs.Sources.{Candidate, GivesFirst}
use Rattle.sasi_sources.specs.KeyCandidates.{HasKeyType}
use Rattle.sasi_scan.specs.Numbered.{views_numbered}
use Rattle.sasi_sources.specs.ScanCandidates.{ScanLeaves}
use Rattle.sasi_sources.specs.inside.KeyLaws.{all_there}
use Rattle.sasi_sources.proofs.scan_candidates.ScanCandidatesCandidates.next.Goals as goal

pub next_of-requires-clause-there : goal.next_of-requires-clause-there
next_of-requires-clause-there g c =
    let v = g.H.Host.view c.args.host.now in
    subst (λ (files : List ListedFile). AllByRecursion (λ (f : ListedFile). IsThere v (data_name f.number)) files) (sym c.deref-2.ensures.value) (all_there v c.args.self.now.files.items c.requires.read.there)

pub returns-clause-gives : goal.returns-clause-gives
returns-clause-gives g c =
    let s = c.args.self.now in
    let seen = (g.H.Host.view c.args.host.now).files in
    let now = (g.H.Host.view c.next_of.new.host).files in
    let maps_are = c.new-maps.ensures ∙ ap (views_numbered c.args.maps.now) c.deref.ensures.value in
    subst (λ (files : List ListedFile). (left : List Candidate) → ScanLeaves s.types files s.scan seen (views_numbered c.args.maps.now s.maps.items) left
    → IfOk c.next_of.result (GivesFirst (ScanLeaves s.types files c.next_of.new.scan now (views_numbered c.args.maps.now s.maps.items)) left)) c.deref-2.ensures.value
    (subst (λ (maps : List MemtableView). (left : List Candidate) → ScanLeaves s.types c.deref-2.result.now s.scan seen maps left
    → IfOk c.next_of.result (GivesFirst (ScanLeaves s.types c.deref-2.result.now c.next_of.new.scan now maps) left)) maps_are c.next_of.ensures.gives)

pub returns-clause-prints : goal.returns-clause-prints
returns-clause-prints g c kind has =
    let maps_are = c.new-maps.ensures ∙ ap (views_numbered c.args.maps.now) c.deref.ensures.value in
    c.next_of.ensures.prints kind (subst (λ (maps : List MemtableView). HasKeyType c.args.self.now.types maps kind) (sym maps_are) has)
