use Rattle.std.proofs.Common.{◌≡◌, Option, length, subst, sym, arith}
use Rattle.std.specs.declared.cmp.Ordering.TheVariants.{Less}
use Rattle.std.proofs.lemmas.Result.{err_from_is_err_and}
use Rattle.sasi_types.specs.DecoratedKey.{decorated_cmp}
use Rattle.sasi_types.specs.Token.{token_of}
use Rattle.sasi_host.proofs.ChangeLaws.{stays}
use Rattle.sasi_host.specs.Names.{Folder}
use Rattle.sasi_merge.specs.Merging.{IsLeastKey}
use Rattle.sasi_merge.proofs.LeastKeys.{gives_least}
use Rattle.sasi_scan.specs.Scanning.{CanScan, scan_of}
use Rattle.sasi_scan.proofs.Costs.{causes_of_fault, causes_ok, reads_same}
use Rattle.sasi_scan.proofs.KeyOrder.{all_above, has_least, least_has, moved_under}
use Rattle.sasi_scan.proofs.Moves.{least_of, moved_scan, next_given, none_given, still_of}
use Rattle.sasi_scan.proofs.Pages.{moves_may, stays_may}
use Rattle.sasi_scan.proofs.table_scan.next_of.Goals as goal

pub returns-in_err-least_key-clause-changes : goal.returns-in_err-least_key-clause-changes
returns-in_err-least_key-clause-changes g c = stays _

pub returns-in_err-least_key-clause-reads : goal.returns-in_err-least_key-clause-reads
returns-in_err-least_key-clause-reads g c p most may =
    let q = err_from_is_err_and c.from_residual.result c.from_residual.ensures.1 in
    rw q.1 (omega arith)

-- ---- at the end

pub returns-in-None-clause-next : goal.returns-in-None-clause-next
returns-in-None-clause-next g c partitioner left on =
    none_given (g.H.Host.view c.args.host.now).files partitioner c.args.maps.now c.args.heads.now c.args.sources.now.items left on 0
    (subst (IsLeastKey c.args.heads.now) c.in-None.is c.in_ok-least_key.ensures)

pub returns-in-None-clause-changes : goal.returns-in-None-clause-changes
returns-in-None-clause-changes g c = stays _

pub returns-in-None-clause-reads : goal.returns-in-None-clause-reads
returns-in-None-clause-reads g c p most may = stays_may (g.H.Host.view c.args.host.now).files p (scan_of c.args.heads.now c.args.sources.now.items) most (g.H.Host.view c.args.host.now).reads may

-- ---- a key

pub returns-in_ok-advance-in-Some-clause-next : goal.returns-in_ok-advance-in-Some-clause-next
returns-in_ok-advance-in-Some-clause-next g c partitioner left on =
    next_given (g.H.Host.view c.args.host.now).files partitioner c.args.maps.now c.args.heads.now c.args.sources.now.items left on c.advance.new.heads c.advance.new.sources.items c.in-Some.key.token c.in-Some.key.key c.advance.new.part
    (gives_least c.args.heads.now c.in-Some.key c.advance.new.part (subst (IsLeastKey c.args.heads.now) c.in-Some.is c.in_ok-least_key.ensures) c.in_ok-advance-in-Some.ensures.merged) c.in_ok-advance-in-Some.ensures.moved

pub returns-in_ok-advance-in-Some-clause-of_parts : goal.returns-in_ok-advance-in-Some-clause-of_parts
returns-in_ok-advance-in-Some-clause-of_parts g c files types of =
    least_of types c.args.maps.now c.args.heads.now c.in-Some.key.token c.in-Some.key.key c.advance.new.part of.heads_of
    (gives_least c.args.heads.now c.in-Some.key c.advance.new.part (subst (IsLeastKey c.args.heads.now) c.in-Some.is c.in_ok-least_key.ensures) c.in_ok-advance-in-Some.ensures.merged)

pub returns-in_ok-advance-in-Some-clause-can : goal.returns-in_ok-advance-in-Some-clause-can
returns-in_ok-advance-in-Some-clause-can g c =
    let view = g.H.Host.view in
    subst (λ (o : Option Folder). CanScan o c.args.maps.now (scan_of c.advance.new.heads c.advance.new.sources.items)) (sym (reads_same (view c.args.host.now) (view c.advance.new.host) c.advance.ensures.changes))
    (moved_scan (view c.args.host.now).files c.args.maps.now c.in-Some.key (length c.args.sources.now.items) c.args.heads.now c.args.sources.now.items c.advance.new.heads c.advance.new.sources.items c.in_ok-advance-in-Some.ensures.moved c.requires)

pub returns-in_ok-advance-in-Some-clause-is_of : goal.returns-in_ok-advance-in-Some-clause-is_of
returns-in_ok-advance-in-Some-clause-is_of g c files types of =
    still_of (g.H.Host.view c.args.host.now).files c.args.maps.now c.in-Some.key files types (length c.args.sources.now.items) c.args.heads.now c.args.sources.now.items c.advance.new.heads c.advance.new.sources.items c.in_ok-advance-in-Some.ensures.moved c.requires of

pub returns-in_ok-advance-in-Some-clause-reads : goal.returns-in_ok-advance-in-Some-clause-reads
returns-in_ok-advance-in-Some-clause-reads g c p most may =
    let view = g.H.Host.view in
    moves_may (view c.args.host.now).files p c.args.heads.now c.advance.new.heads c.args.sources.now.items c.advance.new.sources.items most (view c.args.host.now).reads (view c.advance.new.host).reads (c.in_ok-advance-in-Some.ensures.reads p) may

pub returns-in_ok-advance-in-Some-clause-changes : goal.returns-in_ok-advance-in-Some-clause-changes
returns-in_ok-advance-in-Some-clause-changes g c = c.advance.ensures.changes

pub returns-in_ok-advance-in-Some-clause-causes : goal.returns-in_ok-advance-in-Some-clause-causes
returns-in_ok-advance-in-Some-clause-causes g c = causes_ok _ _ _ c.in_ok-advance-in-Some.ensures.causes.ok c.in_ok-advance-in-Some.ensures.causes.out

-- ---- a source that failed

pub returns-in_err-advance-in-Some-clause-damaged : goal.returns-in_err-advance-in-Some-clause-damaged
returns-in_err-advance-in-Some-clause-damaged g c files types of =
    let q = err_from_is_err_and c.from_residual-in_err-advance-in-Some.result c.from_residual-in_err-advance-in-Some.ensures.1 in
    rw (q.1, q.2) (c.in_err-advance-in-Some.ensures.damaged files types of.listed)

pub returns-in_err-advance-in-Some-clause-undamaged : goal.returns-in_err-advance-in-Some-clause-undamaged
returns-in_err-advance-in-Some-clause-undamaged g c partitioner left on =
    let q = err_from_is_err_and c.from_residual-in_err-advance-in-Some.result c.from_residual-in_err-advance-in-Some.ensures.1 in
    rw (q.1, q.2) (c.in_err-advance-in-Some.ensures.undamaged partitioner on.each on.each_is)

pub returns-in_err-advance-in-Some-clause-reads : goal.returns-in_err-advance-in-Some-clause-reads
returns-in_err-advance-in-Some-clause-reads g c p most may =
    let q = err_from_is_err_and c.from_residual-in_err-advance-in-Some.result c.from_residual-in_err-advance-in-Some.ensures.1 in
    rw q.1 (omega (arith, c.in_err-advance-in-Some.ensures.reads p may.paged, may.within))

pub returns-in_err-advance-in-Some-clause-changes : goal.returns-in_err-advance-in-Some-clause-changes
returns-in_err-advance-in-Some-clause-changes g c = c.advance.ensures.changes

pub returns-in_err-advance-in-Some-clause-causes : goal.returns-in_err-advance-in-Some-clause-causes
returns-in_err-advance-in-Some-clause-causes g c =
    let q = err_from_is_err_and c.from_residual-in_err-advance-in-Some.result c.from_residual-in_err-advance-in-Some.ensures.1 in
    rw (q.1, q.2) (causes_of_fault _ _ c.in_err-advance-in-Some.field-0.0 c.in_err-advance-in-Some.ensures.causes)

-- ---- the order of the keys

pub returns-in_ok-advance-in-Some-clause-rises : goal.returns-in_ok-advance-in-Some-clause-rises
returns-in_ok-advance-in-Some-clause-rises g c =
    let heads = c.args.heads.now in
    let key = c.in-Some.key in
    let least = subst (IsLeastKey heads) c.in-Some.is c.in_ok-least_key.ensures in
    record {
      token = key.token;
      above = λ last above. least_has key (λ k. decorated_cmp last k ≡ Less) heads above least.0;
      behind = all_above (g.H.Host.view c.args.host.now).files c.args.maps.now key heads c.args.sources.now.items c.advance.new.heads c.advance.new.sources.items c.in_ok-advance-in-Some.ensures.moved c.requires.can c.requires.given least.1;
      token_is = λ p under. least_has key (λ k. k.token ≡ token_of p k.key) heads under.heads least.0;
    }

pub returns-in_ok-advance-in-Some-clause-under : goal.returns-in_ok-advance-in-Some-clause-under
returns-in_ok-advance-in-Some-clause-under g c p under =
    moved_under (g.H.Host.view c.args.host.now).files c.args.maps.now c.in-Some.key p (length c.args.sources.now.items) c.args.heads.now c.args.sources.now.items c.advance.new.heads c.advance.new.sources.items c.in_ok-advance-in-Some.ensures.moved under

pub returns-in-None-clause-some : goal.returns-in-None-clause-some
returns-in-None-clause-some g c some = absurd (has_least c.args.heads.now c.args.sources.now.items some (subst (IsLeastKey c.args.heads.now) c.in-None.is c.in_ok-least_key.ensures))
