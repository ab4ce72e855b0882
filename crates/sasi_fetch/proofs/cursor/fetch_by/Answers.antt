use Rattle.std.proofs.Common.{◌≡◌, ◌+◌, List, Some, true, subst, sym}
use Rattle.std.proofs.lemmas.Result.{err_from_is_err_and}
use Rattle.sasi_cells.specs.declared.picked.Picked.{Picked}
use Rattle.sasi_scan.proofs.Costs.{causes_of_fault, damage_as}
use Rattle.sasi_views.specs.declared.part.Part.{Part}
use Rattle.sasi_sources.specs.Maps.{IsOneOf}
use Rattle.sasi_engine.specs.Plans.{is_file_of, map_numbers}
use Rattle.sasi_plan.specs.Answers.{ReadsUpTo, RowsLeft}
use Rattle.sasi_plan.specs.Reading.{PendingShows}
use Rattle.sasi_plan.specs.contracts.plan_candidates.PlanCandidatesCandidates.TheImpl as source
use Rattle.sasi_fetch.specs.Printing.{PrintsAtMost, PrintsFirst}
use Rattle.sasi_fetch.proofs.cursor.fetch_by.Goals as goal

-- ---- what the call needs

pub print_first-requires-clause-read : goal.print_first-requires-clause-read
print_first-requires-clause-read g c = record { there = λ name opens. c.requires.there name (c.requires.readable.1.opens name opens); agrees = c.requires.agrees }

pub print_first-requires-clause-ready : goal.print_first-requires-clause-ready
print_first-requires-clause-ready g c = c.requires.readable.1.ready

pub print_first-requires-clause-prints : goal.print_first-requires-clause-prints
print_first-requires-clause-prints g c = c.requires.readable.1.prints

pub print_first-requires-clause-known : goal.print_first-requires-clause-known
print_first-requires-clause-known g c = c.requires.known

-- ---- it failed

pub returns-in_err-print_first-clause-reads : goal.returns-in_err-print_first-clause-reads
returns-in_err-print_first-clause-reads g c reads left =
    let q = err_from_is_err_and c.from_residual.result c.from_residual.ensures.1 in
    rw q.1 (c.in_err-print_first.ensures.reads reads left)

pub returns-in_err-print_first-clause-reads_up_to : goal.returns-in_err-print_first-clause-reads_up_to
returns-in_err-print_first-clause-reads_up_to g c n reads left =
    let v = g.H.Host.view c.args.host.now in
    let r = c.args.cursor.now.reader in
    let q = err_from_is_err_and c.from_residual.result c.from_residual.ensures.1 in
    rw q.1 (c.in_err-print_first.ensures.reads_up_to n reads
    (subst (λ m. ReadsUpTo source.leaves-value.it source.pays-value.it r.rows v.files c.args.maps.now (Some (m + n)) reads) (sym c.from.ensures) left))

pub returns-in_err-print_first-clause-damaged : goal.returns-in_err-print_first-clause-damaged
returns-in_err-print_first-clause-damaged g c types is =
    let v = g.H.Host.view c.args.host.now in
    let r = c.args.cursor.now.reader.rows.candidates in
    let q = err_from_is_err_and c.from_residual.result c.from_residual.ensures.1 in
    rw (q.1, q.2) (damage_as (source.shows-value.it r v.files) (PendingShows types r.view v.files) c.in_err-print_first.field-0.0 (is.shows v.files) c.in_err-print_first.ensures.damaged)

pub returns-in_err-print_first-clause-undamaged : goal.returns-in_err-print_first-clause-undamaged
returns-in_err-print_first-clause-undamaged g c =
    let q = err_from_is_err_and c.from_residual.result c.from_residual.ensures.1 in
    rw (q.1, q.2) c.in_err-print_first.ensures.undamaged

pub returns-in_err-print_first-clause-changes : goal.returns-in_err-print_first-clause-changes
returns-in_err-print_first-clause-changes g c = c.print_first.ensures.read.changes

pub returns-in_err-print_first-clause-causes : goal.returns-in_err-print_first-clause-causes
returns-in_err-print_first-clause-causes g c =
    let q = err_from_is_err_and c.from_residual.result c.from_residual.ensures.1 in
    rw (q.1, q.2) (causes_of_fault _ _ c.in_err-print_first.field-0.0 c.in_err-print_first.ensures.causes)

-- ---- rows were printed

pub returns-clause-rows : goal.returns-clause-rows
returns-clause-rows g c =
    let old = g.H.Host.view c.args.host.now in
    let new = g.H.Host.view c.print_first.new.host in
    let r = c.args.cursor.now.reader in
    subst (λ n. PrintsFirst r.picked n (RowsLeft source.leaves-value.it r.rows old.files c.args.maps.now) (RowsLeft source.leaves-value.it c.print_first.new.reader.rows new.files c.args.maps.now) c.args.reply.now c.print_first.new.reply)
    c.from.ensures c.in_ok-print_first.ensures.rows

pub returns-clause-few : goal.returns-clause-few
returns-clause-few g c = subst (λ n. PrintsAtMost c.args.cursor.now.reader.picked n c.args.reply.now c.print_first.new.reply) c.from.ensures c.in_ok-print_first.ensures.few

pub returns-clause-reads : goal.returns-clause-reads
returns-clause-reads g c reads left = c.in_ok-print_first.ensures.reads reads left

pub returns-clause-reads_up_to : goal.returns-clause-reads_up_to
returns-clause-reads_up_to g c n reads left =
    let v = g.H.Host.view c.args.host.now in
    let r = c.args.cursor.now.reader in
    c.in_ok-print_first.ensures.reads_up_to n reads (subst (λ m. ReadsUpTo source.leaves-value.it source.pays-value.it r.rows v.files c.args.maps.now (Some (m + n)) reads) (sym c.from.ensures) left)

pub returns-clause-readable : goal.returns-clause-readable
returns-clause-readable g c types is =
    let v = g.H.Host.view c.print_first.new.host in
    let after = c.print_first.ensures in
    let now = c.print_first.new.reader in
    record {
      ready = c.in_ok-print_first.ensures.ready;
      prints = subst (λ (k : Picked). source.prints-value.it now.rows.candidates v.files c.args.maps.now k.key) (sym after.picked) c.in_ok-print_first.ensures.prints;
      opens = λ name at. subst (λ (ps : List Part). is_file_of ps name ≡ true) (sym after.view) (is.opens name (after.read.opens name at));
      uses = λ number at. subst (λ (ps : List Part). IsOneOf (map_numbers ps) number) (sym after.view) (is.uses number (after.uses number at));
      shows = λ seen damage at. subst (λ (ps : List Part). PendingShows types ps seen damage) (sym after.view) (is.shows seen damage (after.shows_less seen damage at));
    }

pub returns-clause-changes : goal.returns-clause-changes
returns-clause-changes g c = c.print_first.ensures.read.changes

pub returns-clause-causes : goal.returns-clause-causes
returns-clause-causes g c = let one = c.in_ok-print_first.ensures.causes in record { disk = one.disk; out = one.out; ok = one.ok; failed = tt; other = tt }
