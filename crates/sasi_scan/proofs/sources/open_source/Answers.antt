use Rattle.std.proofs.Common.{Err, Option, subst, sym, arith}
use Rattle.std.proofs.lemmas.Result.{err_from_is_err_and}
use Rattle.sasi_host.proofs.ChangeLaws.{then_same}
use Rattle.sasi_host.proofs.CauseLaws.{fault_reads, ok_reads, reads_on}
use Rattle.sasi_host.specs.Disk.{Same}
use Rattle.sasi_host.specs.Names.{Folder}
use Rattle.sasi_types.specs.declared.partitioner.Partitioner.{Partitioner}
use Rattle.sasi_dataread.specs.Tokens.{AgreesWith}
use Rattle.sasi_datawrite.specs.Format.{Content}
use Rattle.sasi_scan.specs.Parts.{HasContent}
use Rattle.sasi_scan.specs.Sources.{CanWalk, NoFalseSourceDamage, ShowsSource}
use Rattle.sasi_scan.specs.declared.source.Source.TheVariants.{File}
use Rattle.sasi_scan.proofs.Pages.{open_reads, open_stops}
use Rattle.sasi_scan.proofs.Costs.{damage_as, reads_same}
use Rattle.sasi_scan.proofs.Openings.{added_file}
use Rattle.sasi_scan.proofs.Steps.{first_shown, no_false_first}
use Rattle.sasi_scan.proofs.sources.open_source.Goals as goal

pub next_in_file-requires : goal.next_in_file-requires
next_in_file-requires g c =
    let view = g.H.Host.view in
    subst (λ (o : Option Folder). CanWalk o c.in_ok-scan.scan) (sym (reads_same (view c.args.host.now) (view c.open_file.new.host) c.open_file.ensures.changes)) c.in_ok-scan.ensures.opened.can

pub returns-in_err-scan-clause-undamaged : goal.returns-in_err-scan-clause-undamaged
returns-in_err-scan-clause-undamaged g c =
    let seen = (g.H.Host.view c.args.host.now).files in
    let p = err_from_is_err_and c.from_residual.result c.from_residual.ensures.1 in
    rw (p.1, p.2) (damage_as (λ _. (q : Partitioner) (content : Content) → HasContent seen q c.args.types.now c.args.file.now content → ⊥)
    (λ _. (q : Partitioner) (content : Content) → AgreesWith c.args.tokens q → HasContent seen q c.args.types.now c.args.file.now content → ⊥) c.in_err-scan.field-0.0
    (λ damage none q content agrees has. none q content has) c.in_err-scan.ensures.undamaged)

pub returns-in_err-head-clause-damaged : goal.returns-in_err-head-clause-damaged
returns-in_err-head-clause-damaged g c =
    let view = g.H.Host.view in
    let v = view c.args.host.now in
    let f = c.in_err-head.field-0.0 in
    let p = err_from_is_err_and c.from_residual-in_err-head.result c.from_residual-in_err-head.ensures.1 in
    rw (p.1, p.2) (first_shown v c.args.types.now c.args.tokens c.args.file.now c.in_ok-scan.scan f c.in_ok-scan.ensures.opened
    (subst (λ (o : Option Folder). ShowsSource o (File c.in_ok-scan.scan) f) (reads_same v (view c.open_file.new.host) c.open_file.ensures.changes) c.in_err-head.ensures.damaged))

pub returns-in_err-head-clause-undamaged : goal.returns-in_err-head-clause-undamaged
returns-in_err-head-clause-undamaged g c =
    let view = g.H.Host.view in
    let v = view c.args.host.now in
    let f = c.in_err-head.field-0.0 in
    let p = err_from_is_err_and c.from_residual-in_err-head.result c.from_residual-in_err-head.ensures.1 in
    rw (p.1, p.2) (no_false_first v c.args.types.now c.args.tokens c.args.file.now c.in_ok-scan.scan f c.in_ok-scan.ensures.opened
    (subst (λ (o : Option Folder). NoFalseSourceDamage o (File c.in_ok-scan.scan) f) (reads_same v (view c.open_file.new.host) c.open_file.ensures.changes) c.in_err-head.ensures.undamaged))

pub returns-in_err-head-clause-changes : goal.returns-in_err-head-clause-changes
returns-in_err-head-clause-changes g c = then_same _ _ _ Same c.open_file.ensures.changes c.next_in_file.ensures.changes

pub returns-in_err-head-clause-causes : goal.returns-in_err-head-clause-causes
returns-in_err-head-clause-causes g c =
    let p = err_from_is_err_and c.from_residual-in_err-head.result c.from_residual-in_err-head.ensures.1 in
    rw (p.1, p.2) (fault_reads _ _ 2055 2055 c.in_err-head.field-0.0 (omega arith) (reads_on _ _ _ 3 2052 2055 _ (Err c.in_err-head.field-0.0) (omega arith) c.in_ok-scan.ensures.causes c.in_err-head.ensures.causes))

pub returns-in_err-push-clause-changes : goal.returns-in_err-push-clause-changes
returns-in_err-push-clause-changes g c = then_same _ _ _ Same c.open_file.ensures.changes c.next_in_file.ensures.changes

pub returns-clause-opened : goal.returns-clause-opened
returns-clause-opened g c =
    let view = g.H.Host.view in
    added_file (view c.args.host.now) (view c.open_file.new.host) c.args.types.now c.args.tokens c.args.file.now c.in_ok-scan.scan c.in_ok-head.head c.next_in_file.new.scan c.args.heads.now c.args.sources.now.items _ _
    c.open_file.ensures.changes c.in_ok-scan.ensures.opened c.in_ok-head.ensures.steps c.in_ok-push.ensures.heads c.in_ok-push.ensures.sources

pub returns-clause-changes : goal.returns-clause-changes
returns-clause-changes g c = then_same _ _ _ Same c.open_file.ensures.changes c.next_in_file.ensures.changes

pub returns-clause-causes : goal.returns-clause-causes
returns-clause-causes g c = ok_reads _ _ 2055 _ _ (reads_on _ _ _ 3 2052 2055 _ _ (omega arith) c.in_ok-scan.ensures.causes c.in_ok-head.ensures.causes)

pub returns-clause-reads : goal.returns-clause-reads
returns-clause-reads g c p content has paged =
    let view = g.H.Host.view in
    open_reads (view c.args.host.now) (view c.open_file.new.host) (view c.next_in_file.new.host) p c.args.types.now c.args.tokens c.args.file.now content c.in_ok-scan.scan (File c.next_in_file.new.scan) c.args.sources.now.items _
    c.open_file.ensures.changes c.in_ok-scan.ensures.opened has c.in_ok-scan.ensures.causes.reads (c.in_ok-head.ensures.reads p) c.in_ok-push.ensures.sources paged

pub returns-in_err-scan-clause-reads : goal.returns-in_err-scan-clause-reads
returns-in_err-scan-clause-reads g c p content has paged =
    let q = err_from_is_err_and c.from_residual.result c.from_residual.ensures.1 in
    rw q.1 (omega (arith, c.in_err-scan.ensures.causes.reads))

pub returns-in_err-head-clause-reads : goal.returns-in_err-head-clause-reads
returns-in_err-head-clause-reads g c p content has paged =
    let view = g.H.Host.view in
    let q = err_from_is_err_and c.from_residual-in_err-head.result c.from_residual-in_err-head.ensures.1 in
    rw q.1 (open_stops (view c.args.host.now) (view c.open_file.new.host) (view c.next_in_file.new.host) p c.args.types.now c.args.tokens c.args.file.now content c.in_ok-scan.scan (File c.next_in_file.new.scan) c.next_in_file.result
    c.open_file.ensures.changes c.in_ok-scan.ensures.opened has c.in_ok-scan.ensures.causes.reads (c.next_in_file.ensures.reads p))

pub returns-in_err-push-clause-reads : goal.returns-in_err-push-clause-reads
returns-in_err-push-clause-reads g c p content has paged =
    let view = g.H.Host.view in
    let q = err_from_is_err_and c.from_residual-in_err-push.result c.from_residual-in_err-push.ensures.1 in
    rw q.1 (open_stops (view c.args.host.now) (view c.open_file.new.host) (view c.next_in_file.new.host) p c.args.types.now c.args.tokens c.args.file.now content c.in_ok-scan.scan (File c.next_in_file.new.scan) c.next_in_file.result
    c.open_file.ensures.changes c.in_ok-scan.ensures.opened has c.in_ok-scan.ensures.causes.reads (c.next_in_file.ensures.reads p))
