use Rattle.std.proofs.Common.{◌∙◌, ◌++◌, ℕ, List, Option, IfSome, None, Some, refl, sym, ap, subst, arith}
use Rattle.std.proofs.lemmas.Result.{err_from_is_err_and}
use Rattle.sasi_types.specs.declared.partitioner.Partitioner.{Partitioner}
use Rattle.sasi_host.specs.Names.{Folder}
use Rattle.sasi_model.specs.Cells.{Partition}
use Rattle.sasi_datawrite.specs.Format.{Content}
use Rattle.sasi_ranges.proofs.Calling.{can_still, faults_handed, faults_ok, faults_then, files_same, streamed_then}
use Rattle.sasi_lookup.specs.Lookups.{IsLookingIn, IsTurned}
use Rattle.sasi_scan.specs.Finding.{file_maps, found_in}
use Rattle.sasi_scan.specs.Parts.{IsMergeOfParts}
use Rattle.sasi_recheck.specs.Sources.{Candidate}
use Rattle.sasi_sources.proofs.Printables.{parts_printable}
use Rattle.sasi_engine.specs.TokenHits.{contents_in_files, maps_numbered}
use Rattle.sasi_scan.specs.Numbered.{views_numbered}
use Rattle.sasi_engine.specs.inside.KeyedSteps.{IsKeyFound, IsKeyTurned, KeyLeaves}
use Rattle.sasi_engine.proofs.KeyedFinding.{gives_found, not_none}
use Rattle.sasi_engine.proofs.SourceCalls.{can_lookup, lookup_faults, read_lookup}
use Rattle.sasi_engine.proofs.StepLaws.{kind_still}
use Rattle.sasi_engine.proofs.keyed_hits.find_candidate.Goals as goal

-- ---- the look at the token

pub returns-in_err-turn_to_key-clause-reads : goal.returns-in_err-turn_to_key-clause-reads
returns-in_err-turn_to_key-clause-reads g c most prices owes =
    let one = owes.1 in
    omega (arith, c.turn_to_key.ensures.reads owes.0 c.args.maps.now one.left most one.is_left one.small one.hits_pay, one.look_pays)

pub returns-in_err-turn_to_key-clause-faults : goal.returns-in_err-turn_to_key-clause-faults
returns-in_err-turn_to_key-clause-faults g c =
    let q = err_from_is_err_and c.from_residual.result c.from_residual.ensures.1 in
    rw (q.1, q.2) (faults_handed _ _ _ _ (g.H.Host.view c.args.host.now) (g.H.Host.view c.turn_to_key.new.host) c.turn_to_key.result c.in_err-turn_to_key.field-0.0 c.in_err-turn_to_key.was (λ left is. (left, is)) (c.turn_to_key.ensures.faults c.args.maps.now))

-- ---- the hits don't leave the key

pub returns-then-not-branch-clause-gives : goal.returns-then-not-branch-clause-gives
returns-then-not-branch-clause-gives g c left is =
    let turned = c.in_ok-turn_to_key.ensures.turned is.0 c.args.maps.now left is.1 in
    (subst (IsKeyTurned is.0 (g.H.Host.view c.args.host.now).files c.args.maps.now c.turn_to_key.new.hand c.args.key left) c.if-not-branch.true turned, refl)

pub returns-then-not-branch-clause-reads : goal.returns-then-not-branch-clause-reads
returns-then-not-branch-clause-reads g c most prices owes =
    let one = owes.1 in
    omega (arith, c.turn_to_key.ensures.reads owes.0 c.args.maps.now one.left most one.is_left one.small one.hits_pay, one.look_pays)

pub returns-then-not-branch-clause-faults : goal.returns-then-not-branch-clause-faults
returns-then-not-branch-clause-faults g c = faults_ok _ _ _ _ (g.H.Host.view c.args.host.now) (g.H.Host.view c.turn_to_key.new.host) c.in_ok-turn_to_key.field-0 _ (c.in_ok-turn_to_key.ensures.faults c.args.maps.now)

-- ---- the look-up

pub find_in_parts-requires-clause-read : goal.find_in_parts-requires-clause-read
find_in_parts-requires-clause-read g c =
    let S = g.S.TokenStream in
    let u = g.H.Host.view c.args.host.now in
    let v = g.H.Host.view c.turn_to_key.new.host in
    can_lookup _ (S.opens c.turn_to_key.new.hits) c.turn_to_key.new.hand v (can_still _ _ _ _ _ _ u v c.requires.read c.turn_to_key.ensures.read)

pub find_in_parts-requires-clause-ready : goal.find_in_parts-requires-clause-ready
find_in_parts-requires-clause-ready g c = c.turn_to_key.ensures.ready.looks

pub returns-in_err-found-clause-reads : goal.returns-in_err-found-clause-reads
returns-in_err-found-clause-reads g c most prices owes =
    let w = owes.0 in
    let one = owes.1 in
    let u = g.H.Host.view c.args.host.now in
    let new = c.turn_to_key.new.hand in
    let contents = contents_in_files w.parts in
    let turned : IsKeyFound w u.files c.args.maps.now new c.args.key one.left = subst (IsKeyTurned w u.files c.args.maps.now new c.args.key one.left) c.if-not-branch.false (c.in_ok-turn_to_key.ensures.turned w c.args.maps.now one.left one.is_left) in
    let looks = subst (λ (f : Option Folder). IsLookingIn f w.partitioner contents new.lookup) (sym (files_same u (g.H.Host.view c.turn_to_key.new.host) c.turn_to_key.ensures.read.changes)) turned.looks in
    omega (arith, c.turn_to_key.ensures.reads w c.args.maps.now one.left most one.is_left one.small one.hits_pay, c.find_in_parts.ensures.reads w.partitioner contents looks turned.turned, one.look_pays)

pub returns-in_err-found-clause-read : goal.returns-in_err-found-clause-read
returns-in_err-found-clause-read g c =
    let u = g.H.Host.view c.args.host.now in
    let v = g.H.Host.view c.turn_to_key.new.host in
    let w = g.H.Host.view c.find_in_parts.new.host in
    let new = c.turn_to_key.new.hand in
    streamed_then _ _ _ _ _ _ _ _ u v w c.turn_to_key.ensures.read (read_lookup _ _ _ (g.S.TokenStream.opens c.turn_to_key.new.hits) new new v w c.find_in_parts.ensures.read)

pub returns-in_err-found-clause-faults : goal.returns-in_err-found-clause-faults
returns-in_err-found-clause-faults g c =
    let q = err_from_is_err_and c.from_residual-in_err-found.result c.from_residual-in_err-found.ensures.1 in
    let S = g.S.TokenStream in
    let u = g.H.Host.view c.args.host.now in
    let v = g.H.Host.view c.turn_to_key.new.host in
    let w = g.H.Host.view c.find_in_parts.new.host in
    let new = c.turn_to_key.new.hand in
    let first = files_same u v c.turn_to_key.ensures.read.changes in
    let goes : (left : List Candidate) → KeyLeaves (S.leaves c.args.hits.now u.files) c.args.hand.now (Some c.args.key) u.files c.args.maps.now left → (has : Partitioner × (ℕ × List Content)) × IsTurned v.files new.lookup has =
    λ left is.
    (let turned : IsKeyFound is.0 u.files c.args.maps.now new c.args.key left = subst (IsKeyTurned is.0 u.files c.args.maps.now new c.args.key left) c.if-not-branch.false (c.in_ok-turn_to_key.ensures.turned is.0 c.args.maps.now left is.1) in
    ((is.0.partitioner, (c.args.key.token, contents_in_files is.0.parts)), (subst (λ (f : Option Folder). IsLookingIn f is.0.partitioner (contents_in_files is.0.parts) new.lookup) (sym first) turned.looks, turned.turned))) in
    rw (q.1, q.2) (faults_then _ _ _ _ _ u v w c.in_ok-turn_to_key.field-0 _ goes (c.in_ok-turn_to_key.ensures.faults c.args.maps.now)
    (lookup_faults (S.shows c.turn_to_key.new.hits) new new _ _ v w _ (files_same v w c.find_in_parts.ensures.read.changes) (λ has is. (has, is)) (faults_handed _ _ _ _ v w c.find_in_parts.result c.in_err-found.field-0.0 c.in_err-found.was (λ has is. (has, is)) c.find_in_parts.ensures.faults)))

-- ---- the candidate

pub returns-in-Some-clause-gives : goal.returns-in-Some-clause-gives
returns-in-Some-clause-gives g c left is =
    let w = is.0 in
    let S = g.S.TokenStream in
    let u = g.H.Host.view c.args.host.now in
    let new = c.turn_to_key.new.hand in
    let contents = contents_in_files w.parts in
    let turned : IsKeyFound w u.files c.args.maps.now new c.args.key left = subst (IsKeyTurned w u.files c.args.maps.now new c.args.key left) c.if-not-branch.false (c.in_ok-turn_to_key.ensures.turned w c.args.maps.now left is.1) in
    let looks = subst (λ (f : Option Folder). IsLookingIn f w.partitioner contents new.lookup) (sym (files_same u (g.H.Host.view c.turn_to_key.new.host) c.turn_to_key.ensures.read.changes)) turned.looks in
    gives_found w u.files c.args.maps.now (S.leaves c.args.hits.now u.files) c.args.hand.now c.args.key left is.1 new turned c.in_ok-found.found c.in-Some.part c.in-Some.is
    (c.in_ok-found.ensures.found w.partitioner contents looks turned.turned is.1.own ∙ ap (λ (numbers : List ℕ). found_in c.args.key None (file_maps w.partitioner contents ++ maps_numbered c.args.maps.now numbers)) c.deref.ensures.value)

pub returns-in-Some-clause-reads : goal.returns-in-Some-clause-reads
returns-in-Some-clause-reads g c most prices owes =
    let w = owes.0 in
    let one = owes.1 in
    let u = g.H.Host.view c.args.host.now in
    let new = c.turn_to_key.new.hand in
    let contents = contents_in_files w.parts in
    let turned : IsKeyFound w u.files c.args.maps.now new c.args.key one.left = subst (IsKeyTurned w u.files c.args.maps.now new c.args.key one.left) c.if-not-branch.false (c.in_ok-turn_to_key.ensures.turned w c.args.maps.now one.left one.is_left) in
    let looks = subst (λ (f : Option Folder). IsLookingIn f w.partitioner contents new.lookup) (sym (files_same u (g.H.Host.view c.turn_to_key.new.host) c.turn_to_key.ensures.read.changes)) turned.looks in
    omega (arith, c.turn_to_key.ensures.reads w c.args.maps.now one.left most one.is_left one.small one.hits_pay, c.in_ok-found.ensures.reads w.partitioner contents looks turned.turned, one.look_pays)

pub returns-in-Some-clause-prints : goal.returns-in-Some-clause-prints
returns-in-Some-clause-prints g c kind before =
    let new = c.turn_to_key.new.hand in
    let has = kind_still c.args.hand.now new c.args.maps.now kind c.turn_to_key.ensures.same before in
    let views = views_numbered c.args.maps.now new.maps.items in
    parts_printable new.lookup.types views kind has.first has.stored c.args.key.key c.in-Some.part
    (subst (λ (found : Option Partition). IfSome found (IsMergeOfParts new.lookup.types views c.args.key.key)) c.in-Some.is
    (subst (λ (numbers : List ℕ). IfSome c.in_ok-found.found (IsMergeOfParts new.lookup.types (views_numbered c.args.maps.now numbers) c.args.key.key)) c.deref.ensures.value c.in_ok-found.ensures.of_parts))

pub returns-in-Some-clause-read : goal.returns-in-Some-clause-read
returns-in-Some-clause-read g c =
    let u = g.H.Host.view c.args.host.now in
    let v = g.H.Host.view c.turn_to_key.new.host in
    let w = g.H.Host.view c.find_in_parts.new.host in
    let new = c.turn_to_key.new.hand in
    streamed_then _ _ _ _ _ _ _ _ u v w c.turn_to_key.ensures.read (read_lookup _ _ _ (g.S.TokenStream.opens c.turn_to_key.new.hits) new new v w c.find_in_parts.ensures.read)

pub returns-in-Some-clause-faults : goal.returns-in-Some-clause-faults
returns-in-Some-clause-faults g c =
    let S = g.S.TokenStream in
    let u = g.H.Host.view c.args.host.now in
    let v = g.H.Host.view c.turn_to_key.new.host in
    let w = g.H.Host.view c.find_in_parts.new.host in
    let new = c.turn_to_key.new.hand in
    let first = files_same u v c.turn_to_key.ensures.read.changes in
    let goes : (left : List Candidate) → KeyLeaves (S.leaves c.args.hits.now u.files) c.args.hand.now (Some c.args.key) u.files c.args.maps.now left → (has : Partitioner × (ℕ × List Content)) × IsTurned v.files new.lookup has =
    λ left is.
    (let turned : IsKeyFound is.0 u.files c.args.maps.now new c.args.key left = subst (IsKeyTurned is.0 u.files c.args.maps.now new c.args.key left) c.if-not-branch.false (c.in_ok-turn_to_key.ensures.turned is.0 c.args.maps.now left is.1) in
    ((is.0.partitioner, (c.args.key.token, contents_in_files is.0.parts)), (subst (λ (f : Option Folder). IsLookingIn f is.0.partitioner (contents_in_files is.0.parts) new.lookup) (sym first) turned.looks, turned.turned))) in
    faults_then _ _ _ _ _ u v w c.in_ok-turn_to_key.field-0 _ goes (c.in_ok-turn_to_key.ensures.faults c.args.maps.now)
    (lookup_faults (S.shows c.turn_to_key.new.hits) new new _ _ v w _ (files_same v w c.find_in_parts.ensures.read.changes) (λ has is. (has, is)) (faults_ok _ _ _ _ v w c.in_ok-found.found _ c.in_ok-found.ensures.faults))

-- ---- no part has it

pub returns-in-None-clause-gives : goal.returns-in-None-clause-gives
returns-in-None-clause-gives g c left is =
    let w = is.0 in
    let S = g.S.TokenStream in
    let u = g.H.Host.view c.args.host.now in
    let new = c.turn_to_key.new.hand in
    let contents = contents_in_files w.parts in
    let turned : IsKeyFound w u.files c.args.maps.now new c.args.key left = subst (IsKeyTurned w u.files c.args.maps.now new c.args.key left) c.if-not-branch.false (c.in_ok-turn_to_key.ensures.turned w c.args.maps.now left is.1) in
    let looks = subst (λ (f : Option Folder). IsLookingIn f w.partitioner contents new.lookup) (sym (files_same u (g.H.Host.view c.turn_to_key.new.host) c.turn_to_key.ensures.read.changes)) turned.looks in
    absurd (not_none w u.files c.args.maps.now (S.leaves c.args.hits.now u.files) c.args.hand.now c.args.key left is.1 new turned c.in_ok-found.found c.in-None.is
    (c.in_ok-found.ensures.found w.partitioner contents looks turned.turned is.1.own ∙ ap (λ (numbers : List ℕ). found_in c.args.key None (file_maps w.partitioner contents ++ maps_numbered c.args.maps.now numbers)) c.deref.ensures.value))

pub returns-in-None-clause-reads : goal.returns-in-None-clause-reads
returns-in-None-clause-reads g c most prices owes =
    let w = owes.0 in
    let one = owes.1 in
    let u = g.H.Host.view c.args.host.now in
    let new = c.turn_to_key.new.hand in
    let contents = contents_in_files w.parts in
    let turned : IsKeyFound w u.files c.args.maps.now new c.args.key one.left = subst (IsKeyTurned w u.files c.args.maps.now new c.args.key one.left) c.if-not-branch.false (c.in_ok-turn_to_key.ensures.turned w c.args.maps.now one.left one.is_left) in
    let looks = subst (λ (f : Option Folder). IsLookingIn f w.partitioner contents new.lookup) (sym (files_same u (g.H.Host.view c.turn_to_key.new.host) c.turn_to_key.ensures.read.changes)) turned.looks in
    omega (arith, c.turn_to_key.ensures.reads w c.args.maps.now one.left most one.is_left one.small one.hits_pay, c.in_ok-found.ensures.reads w.partitioner contents looks turned.turned, one.look_pays)

pub returns-in-None-clause-read : goal.returns-in-None-clause-read
returns-in-None-clause-read g c =
    let u = g.H.Host.view c.args.host.now in
    let v = g.H.Host.view c.turn_to_key.new.host in
    let w = g.H.Host.view c.find_in_parts.new.host in
    let new = c.turn_to_key.new.hand in
    streamed_then _ _ _ _ _ _ _ _ u v w c.turn_to_key.ensures.read (read_lookup _ _ _ (g.S.TokenStream.opens c.turn_to_key.new.hits) new new v w c.find_in_parts.ensures.read)

pub returns-in-None-clause-faults : goal.returns-in-None-clause-faults
returns-in-None-clause-faults g c =
    let S = g.S.TokenStream in
    let u = g.H.Host.view c.args.host.now in
    let v = g.H.Host.view c.turn_to_key.new.host in
    let w = g.H.Host.view c.find_in_parts.new.host in
    let new = c.turn_to_key.new.hand in
    let first = files_same u v c.turn_to_key.ensures.read.changes in
    let goes : (left : List Candidate) → KeyLeaves (S.leaves c.args.hits.now u.files) c.args.hand.now (Some c.args.key) u.files c.args.maps.now left → (has : Partitioner × (ℕ × List Content)) × IsTurned v.files new.lookup has =
    λ left is.
    (let turned : IsKeyFound is.0 u.files c.args.maps.now new c.args.key left = subst (IsKeyTurned is.0 u.files c.args.maps.now new c.args.key left) c.if-not-branch.false (c.in_ok-turn_to_key.ensures.turned is.0 c.args.maps.now left is.1) in
    ((is.0.partitioner, (c.args.key.token, contents_in_files is.0.parts)), (subst (λ (f : Option Folder). IsLookingIn f is.0.partitioner (contents_in_files is.0.parts) new.lookup) (sym first) turned.looks, turned.turned))) in
    faults_then _ _ _ _ _ u v w c.in_ok-turn_to_key.field-0 _ goes (c.in_ok-turn_to_key.ensures.faults c.args.maps.now)
    (lookup_faults (S.shows c.turn_to_key.new.hits) new new _ _ v w _ (files_same v w c.find_in_parts.ensures.read.changes) (λ has is. (has, is)) (faults_ok _ _ _ _ v w c.in_ok-found.found _ c.in_ok-found.ensures.faults))
