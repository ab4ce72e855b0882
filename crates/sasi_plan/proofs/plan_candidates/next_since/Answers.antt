use Rattle.std.proofs.Common.{◌+◌, ℕ, List, Option, drop}
use Rattle.sasi_host.specs.Names.{Folder}
use Rattle.sasi_memindex.specs.Book.{Book}
use Rattle.sasi_ranges.proofs.Calling.{faults_as, on_ok}
use Rattle.sasi_recheck.specs.Sources.{Candidate, first_price}
use Rattle.sasi_plan.specs.Begun.{Since}
use Rattle.sasi_plan.proofs.SinceLaws.{gives_as, since_now, spends_as}
use Rattle.sasi_plan.proofs.plan_candidates.next_since.Goals as goal

pub next-requires-clause-ready : goal.next-requires-clause-ready
next-requires-clause-ready g c =
    let is = c.requires.ready in
    let v = g.H.Host.view c.args.host.now in
    (g.met.C.Candidates.keeps c.args.source.now is.0 v.files is.1 c.args.maps.now is.2.there is.2.files_are is.2.maps_are).0 is.3

pub returns-clause-gives : goal.returns-clause-gives
returns-clause-gives g c left is =
    let C = g.C.Candidates in
    let v = g.H.Host.view c.args.host.now in
    let w = g.H.Host.view c.next.new.host in
    let new = c.next.new.self in
    let has = (g.met.C.Candidates.keeps c.args.source.now is.0 v.files is.1 c.args.maps.now is.2.there is.2.files_are is.2.maps_are).1 left is.3 in
    gives_as (C.leaves new w.files c.args.maps.now) (λ (rest : List Candidate). Since (C.opens new) (C.uses new) (λ (was : Option Folder) (origin : Book). C.leaves new was origin rest) w.files c.args.maps.now) left c.next.result
    (λ rest is. since_now (C.opens new) (C.uses new) (λ (was : Option Folder) (origin : Book). C.leaves new was origin rest) w.files c.args.maps.now is)
    (c.next.ensures.gives left has)

pub returns-clause-reads : goal.returns-clause-reads
returns-clause-reads g c most prices is =
    let C = g.C.Candidates in
    let v = g.H.Host.view c.args.host.now in
    let w = g.H.Host.view c.next.new.host in
    let new = c.next.new.self in
    let has = (g.met.C.Candidates.keeps c.args.source.now is.0 v.files is.1 c.args.maps.now is.2.there is.2.files_are is.2.maps_are).2 most prices is.3 in
    spends_as (λ (rest : ℕ). C.pays new w.files c.args.maps.now rest (drop 1 prices))
    (λ (rest : ℕ). Since (C.opens new) (C.uses new) (λ (was : Option Folder) (origin : Book). C.pays new was origin rest (drop 1 prices)) w.files c.args.maps.now) (most + first_price prices) v.reads w.reads c.next.result
    (λ rest is. since_now (C.opens new) (C.uses new) (λ (was : Option Folder) (origin : Book). C.pays new was origin rest (drop 1 prices)) w.files c.args.maps.now is)
    (c.next.ensures.reads most prices has)

pub returns-clause-ready : goal.returns-clause-ready
returns-clause-ready g c =
    let C = g.C.Candidates in
    let w = g.H.Host.view c.next.new.host in
    let new = c.next.new.self in
    on_ok (C.ready new w.files c.args.maps.now) (Since (C.opens new) (C.uses new) (C.ready new) w.files c.args.maps.now) c.next.result
    (λ is. since_now (C.opens new) (C.uses new) (C.ready new) w.files c.args.maps.now is) c.next.ensures.ready

pub returns-clause-prints : goal.returns-clause-prints
returns-clause-prints g c kind is =
    let v = g.H.Host.view c.args.host.now in
    c.next.ensures.prints kind ((g.met.C.Candidates.keeps c.args.source.now is.0 v.files is.1 c.args.maps.now is.2.there is.2.files_are is.2.maps_are).3 kind is.3)

pub returns-clause-still_prints : goal.returns-clause-still_prints
returns-clause-still_prints g c kind is =
    let C = g.C.Candidates in
    let v = g.H.Host.view c.args.host.now in
    let w = g.H.Host.view c.next.new.host in
    let new = c.next.new.self in
    let has = (g.met.C.Candidates.keeps c.args.source.now is.0 v.files is.1 c.args.maps.now is.2.there is.2.files_are is.2.maps_are).3 kind is.3 in
    on_ok (C.prints new w.files c.args.maps.now kind) (Since (C.opens new) (C.uses new) (λ (was : Option Folder) (origin : Book). C.prints new was origin kind) w.files c.args.maps.now) c.next.result
    (λ is. since_now (C.opens new) (C.uses new) (λ (was : Option Folder) (origin : Book). C.prints new was origin kind) w.files c.args.maps.now is)
    (c.next.ensures.still_prints kind has)

pub returns-clause-faults : goal.returns-clause-faults
returns-clause-faults g c =
    let C = g.C.Candidates in
    let s = c.args.source.now in
    let v = g.H.Host.view c.args.host.now in
    let w = g.H.Host.view c.next.new.host in
    let new = c.next.new.self in
    faults_as (C.shows s v.files) (C.shows new w.files) (C.shows new w.files) (C.leaves s v.files c.args.maps.now)
    (λ (left : List Candidate). Since (C.opens s) (C.uses s) (λ (was : Option Folder) (origin : Book). C.leaves s was origin left) v.files c.args.maps.now) v w c.next.result
    (λ damage is. is)
    (λ left is. (left, (g.met.C.Candidates.keeps s is.0 v.files is.1 c.args.maps.now is.2.there is.2.files_are is.2.maps_are).1 left is.3))
    c.next.ensures.faults
