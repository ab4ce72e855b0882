use Rattle.std.proofs.Common.{◌≡◌, [], List, IfSome, sym, subst}
use Rattle.std.proofs.lemmas.Result.{err_from_is_err_and}
use Rattle.sasi_memtable.specs.MemtableView.{MemtableView}
use Rattle.sasi_scan.specs.Parts.{IsMergeOfParts}
use Rattle.sasi_scan.specs.Scanning.{CanScan, IsScanOf, IsScanning}
use Rattle.sasi_compact.proofs.Faults.{damage_read}
use Rattle.sasi_compact.proofs.KeysRise.{ahead_of, not_below}
use Rattle.sasi_compact.proofs.MergedBodies.{given_body}
use Rattle.sasi_compact.proofs.ahead.next_merged.Goals as goal

pub returns-in_err-found-clause-reads : goal.returns-in_err-found-clause-reads
returns-in_err-found-clause-reads g c p most may =
    let q = err_from_is_err_and c.from_residual.result c.from_residual.ensures.1 in
    rw q.1 (c.in_err-found.ensures.reads p most may)

pub returns-in_err-found-clause-damaged : goal.returns-in_err-found-clause-damaged
returns-in_err-found-clause-damaged g c files types of =
    let none : c.new-maps.result ≡ [] = c.new-maps.ensures in
    let q = err_from_is_err_and c.from_residual.result c.from_residual.ensures.1 in
    rw (q.1, q.2) (damage_read _ c.in_err-found.field-0.0 (c.in_err-found.ensures.damaged files types (subst (λ (ms : List MemtableView). IsScanOf (g.H.Host.view c.args.host.now).files files types ms c.args.scan.now) (sym none) of)))

pub returns-in_err-found-clause-undamaged : goal.returns-in_err-found-clause-undamaged
returns-in_err-found-clause-undamaged g c p left on =
    let none : c.new-maps.result ≡ [] = c.new-maps.ensures in
    let q = err_from_is_err_and c.from_residual.result c.from_residual.ensures.1 in
    rw (q.1, q.2) (damage_read _ c.in_err-found.field-0.0 (c.in_err-found.ensures.undamaged p left (subst (λ (ms : List MemtableView). IsScanning (g.H.Host.view c.args.host.now).files p ms c.args.scan.now left) (sym none) on)))

pub returns-clause-body : goal.returns-clause-body
returns-clause-body g c files types narrow of =
    let none : c.new-maps.result ≡ [] = c.new-maps.ensures in
    given_body types narrow c.in_ok-found.found
    (subst (λ (ms : List MemtableView). IfSome c.in_ok-found.found (λ one. IsMergeOfParts types ms one.0 one.1)) none
    (c.in_ok-found.ensures.of_parts files types (subst (λ (ms : List MemtableView). IsScanOf (g.H.Host.view c.args.host.now).files files types ms c.args.scan.now) (sym none) of)))

pub returns-clause-can : goal.returns-clause-can
returns-clause-can g c =
    let none : c.new-maps.result ≡ [] = c.new-maps.ensures in
    subst (λ (ms : List MemtableView). CanScan (g.H.Host.view c.next.new.host).files ms c.next.new.self) none c.in_ok-found.ensures.can

pub returns-clause-is_of : goal.returns-clause-is_of
returns-clause-is_of g c files types of =
    let none : c.new-maps.result ≡ [] = c.new-maps.ensures in
    subst (λ (ms : List MemtableView). IsScanOf (g.H.Host.view c.args.host.now).files files types ms c.next.new.self) none
    (c.in_ok-found.ensures.is_of files types (subst (λ (ms : List MemtableView). IsScanOf (g.H.Host.view c.args.host.now).files files types ms c.args.scan.now) (sym none) of))

pub returns-clause-in_order : goal.returns-clause-in_order
returns-clause-in_order g c p under = record {
  under = c.in_ok-found.ensures.under p under;
  ahead = ahead_of p c.args.scan.now c.next.new.self under c.in_ok-found.found c.in_ok-found.ensures.rises;
}

pub returns-clause-rising : goal.returns-clause-rising
returns-clause-rising g c p last under ahead = not_below p c.args.scan.now c.next.new.self under last c.in_ok-found.found ahead c.in_ok-found.ensures.rises

pub returns-clause-some : goal.returns-clause-some
returns-clause-some g c some = c.in_ok-found.ensures.some some
