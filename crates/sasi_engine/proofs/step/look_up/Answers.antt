use Rattle.std.proofs.Common.{◌∙◌, ◌++◌, ℕ, List, Option, IfSome, None, sym, ap, subst}
use Rattle.std.proofs.lemmas.Result.{err_from_is_err_and}
use Rattle.sasi_types.specs.declared.decorated_key.DecoratedKey.{DecoratedKey}
use Rattle.sasi_model.specs.Cells.{Partition}
use Rattle.sasi_ranges.proofs.Calling.{faults_handed, faults_ok}
use Rattle.sasi_scan.specs.Finding.{file_maps, found_in}
use Rattle.sasi_scan.specs.Parts.{IsMergeOfParts}
use Rattle.sasi_sources.proofs.Printables.{parts_printable}
use Rattle.sasi_engine.specs.TokenHits.{maps_numbered}
use Rattle.sasi_engine.specs.inside.Steps.{step_of}
use Rattle.sasi_scan.specs.Numbered.{views_numbered}
use Rattle.sasi_engine.proofs.step.look_up.Goals as goal

pub returns-in_err-found-clause-faults : goal.returns-in_err-found-clause-faults
returns-in_err-found-clause-faults g c =
    let q = err_from_is_err_and c.from_residual.result c.from_residual.ensures.1 in
    rw (q.1, q.2) (faults_handed _ _ _ _ (g.H.Host.view c.args.host.now) (g.H.Host.view c.find_in_parts.new.host) c.find_in_parts.result c.in_err-found.field-0.0 c.in_err-found.was (λ has is. (has, is)) c.find_in_parts.ensures.faults)

pub returns-in-Some-clause-found : goal.returns-in-Some-clause-found
returns-in-Some-clause-found g c p contents looks has is =
    let key : DecoratedKey = record { token = c.args.hand.now.token; key = c.args.key } in
    ap (step_of c.args.key) (sym c.in-Some.is ∙ c.in_ok-found.ensures.found p contents looks has (λ i. record { token = sym is i; key = c.args.key })
    ∙ ap (λ (numbers : List ℕ). found_in key None (file_maps p contents ++ maps_numbered c.args.maps.now numbers)) c.deref.ensures.value)

pub returns-in-Some-clause-prints : goal.returns-in-Some-clause-prints
returns-in-Some-clause-prints g c kind has =
    let views = views_numbered c.args.maps.now c.args.hand.now.maps.items in
    let types = c.args.hand.now.lookup.types in
    parts_printable types views kind has.first has.stored c.args.key c.in-Some.part
    (subst (λ (found : Option Partition). IfSome found (IsMergeOfParts types views c.args.key)) c.in-Some.is
    (subst (λ (numbers : List ℕ). IfSome c.in_ok-found.found (IsMergeOfParts types (views_numbered c.args.maps.now numbers) c.args.key)) c.deref.ensures.value c.in_ok-found.ensures.of_parts))

pub returns-in-Some-clause-faults : goal.returns-in-Some-clause-faults
returns-in-Some-clause-faults g c = faults_ok _ _ _ _ (g.H.Host.view c.args.host.now) (g.H.Host.view c.find_in_parts.new.host) c.in_ok-found.found _ c.in_ok-found.ensures.faults

pub returns-in-None-clause-found : goal.returns-in-None-clause-found
returns-in-None-clause-found g c p contents looks has is =
    let key : DecoratedKey = record { token = c.args.hand.now.token; key = c.args.key } in
    ap (step_of c.args.key) (sym c.in-None.is ∙ c.in_ok-found.ensures.found p contents looks has (λ i. record { token = sym is i; key = c.args.key })
    ∙ ap (λ (numbers : List ℕ). found_in key None (file_maps p contents ++ maps_numbered c.args.maps.now numbers)) c.deref.ensures.value)

pub returns-in-None-clause-faults : goal.returns-in-None-clause-faults
returns-in-None-clause-faults g c = faults_ok _ _ _ _ (g.H.Host.view c.args.host.now) (g.H.Host.view c.find_in_parts.new.host) c.in_ok-found.found _ c.in_ok-found.ensures.faults
