use Rattle.std.proofs.Common.{◌≡◌, ◌<◌, List, length, get_or, rules, refl, subst, sym, ◌∙◌, arith}
use Rattle.std.proofs.lemmas.Result.{err_from_is_err_and}
use Rattle.sasi_host.proofs.ChangeLaws.{stays}
use Rattle.sasi_host.proofs.CauseLaws.{fault_reads, ok_reads}
use Rattle.sasi_merge.specs.Merging.{Head}
use Rattle.sasi_scan.specs.declared.source.Source.{Source}
use Rattle.sasi_scan.specs.Sources.{CanStep, NoFalseSourceDamage, ShowsSource}
use Rattle.sasi_scan.proofs.Moves.{all_at, at_one, got}
use Rattle.sasi_scan.proofs.Pages.{none_read, set_reads, set_stops}
use Rattle.sasi_scan.proofs.Advancing.{goes_at, had_key, had_other, stays_at}
use Rattle.sasi_scan.proofs.sources.advance_at.Goals as goal

pub returns-else-has_key-clause-moved : goal.returns-else-has_key-clause-moved
returns-else-has_key-clause-moved g c =
    let head = c.index-as_slice-at.result in
    stays_at (g.H.Host.view c.args.host.now).files c.args.maps.now c.args.key.now c.args.at c.args.heads.now c.args.sources.now.items head c.requires.in_heads c.requires.in_sources
    (subst (λ (hs : List Head). head ≡ get_or hs c.args.at head) c.as_slice.ensures c.index-as_slice-at.is) (sym c.has_key.ensures ∙ c.if-has_key.false)

pub returns-else-has_key-clause-changes : goal.returns-else-has_key-clause-changes
returns-else-has_key-clause-changes g c = stays _

pub returns-else-has_key-clause-reads : goal.returns-else-has_key-clause-reads
returns-else-has_key-clause-reads g c p = none_read (g.H.Host.view c.args.host.now).files p c.args.sources.now.items (g.H.Host.view c.args.host.now).reads

pub returns-in_ok-head-clause-reads : goal.returns-in_ok-head-clause-reads
returns-in_ok-head-clause-reads g c p =
    let view = g.H.Host.view in
    let source = c.index_mut.result.now in
    let is = c.index_mut.ensures.value in
    set_reads (view c.args.host.now).files p c.args.sources.now.items c.args.at source c.next.new.self (view c.args.host.now).reads (view c.next.new.host).reads (got c.args.sources.now.items c.args.at source c.requires.in_sources is) (c.in_ok-head.ensures.reads p)

pub returns-in_err-head-clause-reads : goal.returns-in_err-head-clause-reads
returns-in_err-head-clause-reads g c p paged =
    let view = g.H.Host.view in
    let source = c.index_mut.result.now in
    let is = c.index_mut.ensures.value in
    let q = err_from_is_err_and c.from_residual.result c.from_residual.ensures.1 in
    rw q.1 (set_stops (view c.args.host.now).files p c.args.sources.now.items c.args.at source (view c.args.host.now).reads (view c.next.new.host).reads (got c.args.sources.now.items c.args.at source c.requires.in_sources is) (c.in_err-head.ensures.reads p) paged)

pub next-requires : goal.next-requires
next-requires g c = all_at (CanStep (g.H.Host.view c.args.host.now).files c.args.maps.now) c.args.sources.now.items c.args.at c.index_mut.result.now c.requires.can (got c.args.sources.now.items c.args.at c.index_mut.result.now c.requires.in_sources c.index_mut.ensures.value)

pub exchange-requires : goal.exchange-requires
exchange-requires g c = omega (arith, c.requires.in_heads)

pub index_mut-requires : goal.index_mut-requires
index_mut-requires g c = omega (arith, c.args.sources.now.ok.0)

pub bounds-as_slice-at : goal.bounds-as_slice-at
bounds-as_slice-at g c = subst (λ (hs : List Head). c.args.at < length hs) (sym c.as_slice.ensures) c.requires.in_heads

pub returns-else-has_key-clause-causes : goal.returns-else-has_key-clause-causes
returns-else-has_key-clause-causes g c = search rules

pub returns-in_ok-head-clause-moved : goal.returns-in_ok-head-clause-moved
returns-in_ok-head-clause-moved g c =
    let head = c.index-as_slice-at.result in
    goes_at (g.H.Host.view c.args.host.now).files c.args.maps.now c.args.key.now c.args.at c.args.heads.now c.args.sources.now.items c.exchange.new.self _ head c.index_mut.result.now c.in_ok-head.head c.next.new.self c.requires.in_heads c.requires.in_sources
    (subst (λ (hs : List Head). head ≡ get_or hs c.args.at head) c.as_slice.ensures c.index-as_slice-at.is) c.index_mut.ensures.value (sym c.has_key.ensures ∙ c.if-has_key.true) c.in_ok-head.ensures.steps c.exchange.ensures.heads refl

pub returns-in_ok-head-clause-changes : goal.returns-in_ok-head-clause-changes
returns-in_ok-head-clause-changes g c = c.next.ensures.changes

pub returns-in_ok-head-clause-causes : goal.returns-in_ok-head-clause-causes
returns-in_ok-head-clause-causes g c = ok_reads _ _ 2052 _ _ c.in_ok-head.ensures.causes

pub returns-in_err-head-clause-damaged : goal.returns-in_err-head-clause-damaged
returns-in_err-head-clause-damaged g c =
    let seen = (g.H.Host.view c.args.host.now).files in
    let q = err_from_is_err_and c.from_residual.result c.from_residual.ensures.1 in
    rw (q.1, q.2) (at_one (λ (s : Source). ShowsSource seen s c.in_err-head.field-0.0) c.args.sources.now.items c.args.at c.index_mut.result.now (got c.args.sources.now.items c.args.at c.index_mut.result.now c.requires.in_sources c.index_mut.ensures.value) c.in_err-head.ensures.damaged)

pub returns-in_err-head-clause-undamaged : goal.returns-in_err-head-clause-undamaged
returns-in_err-head-clause-undamaged g c =
    let seen = (g.H.Host.view c.args.host.now).files in
    let q = err_from_is_err_and c.from_residual.result c.from_residual.ensures.1 in
    rw (q.1, q.2) (at_one (λ (s : Source). NoFalseSourceDamage seen s c.in_err-head.field-0.0) c.args.sources.now.items c.args.at c.index_mut.result.now (got c.args.sources.now.items c.args.at c.index_mut.result.now c.requires.in_sources c.index_mut.ensures.value) c.in_err-head.ensures.undamaged)

pub returns-in_err-head-clause-changes : goal.returns-in_err-head-clause-changes
returns-in_err-head-clause-changes g c = c.next.ensures.changes

pub returns-in_err-head-clause-causes : goal.returns-in_err-head-clause-causes
returns-in_err-head-clause-causes g c =
    let q = err_from_is_err_and c.from_residual.result c.from_residual.ensures.1 in
    rw (q.1, q.2) (fault_reads _ _ 2052 2052 c.in_err-head.field-0.0 (omega arith) c.in_err-head.ensures.causes)

pub returns-else-has_key-clause-head : goal.returns-else-has_key-clause-head
returns-else-has_key-clause-head g c head was =
    let seen = c.index-as_slice-at.result in
    had_other c.args.key.now c.args.heads.now c.args.at seen head
    (got c.args.heads.now c.args.at seen c.requires.in_heads (subst (λ (hs : List Head). seen ≡ get_or hs c.args.at seen) c.as_slice.ensures c.index-as_slice-at.is)) (sym c.has_key.ensures ∙ c.if-has_key.false) was

pub returns-in_ok-head-clause-head : goal.returns-in_ok-head-clause-head
returns-in_ok-head-clause-head g c head was =
    let seen = c.index-as_slice-at.result in
    had_key c.args.key.now c.args.heads.now c.args.at seen head c.exchange.result
    (got c.args.heads.now c.args.at seen c.requires.in_heads (subst (λ (hs : List Head). seen ≡ get_or hs c.args.at seen) c.as_slice.ensures c.index-as_slice-at.is)) (sym c.has_key.ensures ∙ c.if-has_key.true) c.exchange.ensures.given was
