use Rattle.std.proofs.Common.{◌+◌, suc, List, map, Bool, Err, true, false, refl, sym, subst, ◌∙◌, arith}
use Rattle.std.proofs.lemmas.Result.{err_from_is_err_and}
use Rattle.sasi_model.specs.Conditions.{Condition}
use Rattle.sasi_cells.specs.declared.picked.Picked.{Picked}
use Rattle.sasi_types.specs.declared.class.Class.{Class}
use Rattle.sasi_recheck.specs.Rows.{KnowsWhere}
use Rattle.sasi_ranges.proofs.Calling.{can_still, fails_nothing, faults_ok, faults_then, streamed_then, streams_nothing}
use Rattle.sasi_scan.proofs.Costs.{causes_memory, causes_of_fault, causes_ok, of_reads}
use Rattle.sasi_plan.specs.Answers.{RowsLeft}
use Rattle.sasi_plan.proofs.ReaderLaws.{fewer_reads}
use Rattle.sasi_plan.specs.contracts.plan_candidates.PlanCandidatesCandidates.TheImpl as source
use Rattle.sasi_fetch.specs.Printing.{PrintsNext}
use Rattle.sasi_fetch.proofs.ReadRows.{ending_few, ending_knows, ending_prints, printing_begins, printing_more, stopping_few, stopping_knows, stopping_prints}
use Rattle.sasi_fetch.proofs.rows.print_first.Goals as goal

pub loop-row-init : goal.loop-row-init
loop-row-init g c =
    let v = g.H.Host.view c.args.host.now in
    record {
      can = c.requires.read;
      ready = c.requires.ready;
      prints = c.requires.prints;
      picked = refl;
      conditions = refl;
      same_view = refl;
      printed = printing_begins c.args.reader.now.picked _ c.args.reply.now;
      counts = λ count is. is;
      reads = λ most left. (most, left, omega arith);
      up_to = λ n m most within left. (most, fewer_reads source.leaves-value.it source.pays-value.it c.args.reader.now.rows v.files c.args.maps.now n m most (omega (arith, within)) left, omega arith);
      uses = λ number used. used;
      shows = λ files damage shown. shown;
      kinds = refl;
      read = streams_nothing _ _ _ v c.requires.read.agrees;
      faults = λ n. fails_nothing _ _ v n;
    }

pub print_next-requires-clause-read : goal.print_next-requires-clause-read
print_next-requires-clause-read g c = c.loop-row.invariant.can

pub print_next-requires-clause-ready : goal.print_next-requires-clause-ready
print_next-requires-clause-ready g c = c.loop-row.invariant.ready

pub print_next-requires-clause-prints : goal.print_next-requires-clause-prints
print_next-requires-clause-prints g c =
    let v = g.H.Host.view c.loop-row.host in
    subst (λ (k : Picked). source.prints-value.it c.loop-row.reader.rows.candidates v.files c.args.maps.now k.key) (sym c.loop-row.invariant.picked) c.loop-row.invariant.prints

pub print_next-requires-clause-known : goal.print_next-requires-clause-known
print_next-requires-clause-known g c =
    subst (λ (kinds : List Class). KnowsWhere kinds c.loop-row.reader.rows.filter) (sym c.loop-row.invariant.kinds)
    (subst (λ (cs : List Condition). KnowsWhere (map (λ b. (goal.Analyzer-dyn g (b.vtable, b.value)).kind b.value) c.args.kit.now.objects.items) cs) (sym c.loop-row.invariant.conditions) c.requires.known)

-- ---- a row that can't be had

pub returns-in_err-printed-clause-reads : goal.returns-in_err-printed-clause-reads
returns-in_err-printed-clause-reads g c reads left =
    let so_far = c.loop-row.invariant.reads reads left in
    let one = c.in_err-printed.ensures.reads so_far.0 so_far.1 in
    let q = err_from_is_err_and c.from_residual.result c.from_residual.ensures.1 in
    rw q.1 (omega (arith, one, so_far.2))

pub returns-in_err-printed-clause-reads_up_to : goal.returns-in_err-printed-clause-reads_up_to
returns-in_err-printed-clause-reads_up_to g c n reads left =
    let so_far = c.loop-row.invariant.up_to (suc n) (c.args.most + n) reads (omega (arith, c.loop-row-test.true)) left in
    let one = c.in_err-printed.ensures.reads_up_to n so_far.0 so_far.1 in
    let q = err_from_is_err_and c.from_residual.result c.from_residual.ensures.1 in
    rw q.1 (omega (arith, one, so_far.2))

pub returns-in_err-printed-clause-damaged : goal.returns-in_err-printed-clause-damaged
returns-in_err-printed-clause-damaged g c =
    let on = c.loop-row.invariant in
    let q = err_from_is_err_and c.from_residual.result c.from_residual.ensures.1 in
    let all = faults_then _ _ _ _ _ (g.H.Host.view c.args.host.now) (g.H.Host.view c.loop-row.host) (g.H.Host.view c.print_next.new.host) 0 _ (λ rows is. (let rest = on.printed.left rows is in (rest.0, rest.2))) (on.faults 0) c.in_err-printed.ensures.faults in
    rw (q.1, q.2) all.damaged

pub returns-in_err-printed-clause-undamaged : goal.returns-in_err-printed-clause-undamaged
returns-in_err-printed-clause-undamaged g c =
    let on = c.loop-row.invariant in
    let q = err_from_is_err_and c.from_residual.result c.from_residual.ensures.1 in
    let all = faults_then _ _ _ _ _ (g.H.Host.view c.args.host.now) (g.H.Host.view c.loop-row.host) (g.H.Host.view c.print_next.new.host) 0 _ (λ rows is. (let rest = on.printed.left rows is in (rest.0, rest.2))) (on.faults 0) c.in_err-printed.ensures.faults in
    rw (q.1, q.2) all.undamaged

pub returns-in_err-printed-clause-causes : goal.returns-in_err-printed-clause-causes
returns-in_err-printed-clause-causes g c =
    let on = c.loop-row.invariant in
    let f = c.in_err-printed.field-0.0 in
    let q = err_from_is_err_and c.from_residual.result c.from_residual.ensures.1 in
    let all = faults_then _ _ _ _ _ (g.H.Host.view c.args.host.now) (g.H.Host.view c.loop-row.host) (g.H.Host.view c.print_next.new.host) 0 _ (λ rows is. (let rest = on.printed.left rows is in (rest.0, rest.2))) (on.faults 0) c.in_err-printed.ensures.faults in
    rw (q.1, q.2) (causes_of_fault _ _ f (of_reads _ _ _ (Err f) all.causes))

pub returns-in_err-printed-clause-uses : goal.returns-in_err-printed-clause-uses
returns-in_err-printed-clause-uses g c number used = c.loop-row.invariant.uses number (c.print_next.ensures.uses number used)

pub returns-in_err-printed-clause-shows_less : goal.returns-in_err-printed-clause-shows_less
returns-in_err-printed-clause-shows_less g c files damage shown = c.loop-row.invariant.shows files damage (c.print_next.ensures.shows_less files damage shown)

pub returns-in_err-printed-clause-picked : goal.returns-in_err-printed-clause-picked
returns-in_err-printed-clause-picked g c = c.print_next.ensures.picked ∙ c.loop-row.invariant.picked

pub returns-in_err-printed-clause-conditions : goal.returns-in_err-printed-clause-conditions
returns-in_err-printed-clause-conditions g c = c.print_next.ensures.conditions ∙ c.loop-row.invariant.conditions

pub returns-in_err-printed-clause-view : goal.returns-in_err-printed-clause-view
returns-in_err-printed-clause-view g c = c.print_next.ensures.view ∙ c.loop-row.invariant.same_view

pub returns-in_err-printed-clause-kinds : goal.returns-in_err-printed-clause-kinds
returns-in_err-printed-clause-kinds g c = c.print_next.ensures.kinds ∙ c.loop-row.invariant.kinds

pub returns-in_err-printed-clause-read : goal.returns-in_err-printed-clause-read
returns-in_err-printed-clause-read g c = streamed_then _ _ _ _ _ _ _ _ (g.H.Host.view c.args.host.now) (g.H.Host.view c.loop-row.host) (g.H.Host.view c.print_next.new.host) c.loop-row.invariant.read c.print_next.ensures.read

-- ---- the end

pub returns-in_err-count-clause-reads : goal.returns-in_err-count-clause-reads
returns-in_err-count-clause-reads g c reads left =
    let so_far = c.loop-row.invariant.reads reads left in
    let one = c.in_ok-printed.ensures.reads so_far.0 so_far.1 in
    let q = err_from_is_err_and c.from_residual-in_err-count.result c.from_residual-in_err-count.ensures.1 in
    rw q.1 (omega (arith, one.2, so_far.2))

pub returns-in_err-count-clause-reads_up_to : goal.returns-in_err-count-clause-reads_up_to
returns-in_err-count-clause-reads_up_to g c n reads left =
    let so_far = c.loop-row.invariant.up_to (suc n) (c.args.most + n) reads (omega (arith, c.loop-row-test.true)) left in
    let one = c.in_ok-printed.ensures.reads_up_to n so_far.0 so_far.1 in
    let q = err_from_is_err_and c.from_residual-in_err-count.result c.from_residual-in_err-count.ensures.1 in
    rw q.1 (omega (arith, one.2, so_far.2))

pub returns-in_err-count-clause-damaged : goal.returns-in_err-count-clause-damaged
returns-in_err-count-clause-damaged g c =
    let q = err_from_is_err_and c.from_residual-in_err-count.result c.from_residual-in_err-count.ensures.1 in
    rw (q.1, q.2) tt

pub returns-in_err-count-clause-undamaged : goal.returns-in_err-count-clause-undamaged
returns-in_err-count-clause-undamaged g c =
    let q = err_from_is_err_and c.from_residual-in_err-count.result c.from_residual-in_err-count.ensures.1 in
    rw (q.1, q.2) tt

pub returns-in_err-count-clause-causes : goal.returns-in_err-count-clause-causes
returns-in_err-count-clause-causes g c =
    let on = c.loop-row.invariant in
    let q = err_from_is_err_and c.from_residual-in_err-count.result c.from_residual-in_err-count.ensures.1 in
    let all = faults_then _ _ _ _ _ (g.H.Host.view c.args.host.now) (g.H.Host.view c.loop-row.host) (g.H.Host.view c.print_next.new.host) 0 _ (λ rows is. (let rest = on.printed.left rows is in (rest.0, rest.2))) (on.faults 0) c.in_ok-printed.ensures.faults in
    rw (q.1, q.2) (causes_memory _ _ all.causes.ok all.causes.out)

pub returns-in_err-count-clause-uses : goal.returns-in_err-count-clause-uses
returns-in_err-count-clause-uses g c number used = c.loop-row.invariant.uses number (c.print_next.ensures.uses number used)

pub returns-in_err-count-clause-shows_less : goal.returns-in_err-count-clause-shows_less
returns-in_err-count-clause-shows_less g c files damage shown = c.loop-row.invariant.shows files damage (c.print_next.ensures.shows_less files damage shown)

pub returns-in_err-count-clause-picked : goal.returns-in_err-count-clause-picked
returns-in_err-count-clause-picked g c = c.print_next.ensures.picked ∙ c.loop-row.invariant.picked

pub returns-in_err-count-clause-conditions : goal.returns-in_err-count-clause-conditions
returns-in_err-count-clause-conditions g c = c.print_next.ensures.conditions ∙ c.loop-row.invariant.conditions

pub returns-in_err-count-clause-view : goal.returns-in_err-count-clause-view
returns-in_err-count-clause-view g c = c.print_next.ensures.view ∙ c.loop-row.invariant.same_view

pub returns-in_err-count-clause-kinds : goal.returns-in_err-count-clause-kinds
returns-in_err-count-clause-kinds g c = c.print_next.ensures.kinds ∙ c.loop-row.invariant.kinds

pub returns-in_err-count-clause-read : goal.returns-in_err-count-clause-read
returns-in_err-count-clause-read g c = streamed_then _ _ _ _ _ _ _ _ (g.H.Host.view c.args.host.now) (g.H.Host.view c.loop-row.host) (g.H.Host.view c.print_next.new.host) c.loop-row.invariant.read c.print_next.ensures.read

pub returns-then-not-printed-clause-rows : goal.returns-then-not-printed-clause-rows
returns-then-not-printed-clause-rows g c =
    ending_prints c.args.reader.now.picked _ _ c.args.reply.now c.loop-row.reply c.loop-row.row c.loop-row.invariant.printed _ c.print_next.new.reply
    (subst (λ (k : Picked). PrintsNext k (RowsLeft source.leaves-value.it c.loop-row.reader.rows (g.H.Host.view c.loop-row.host).files c.args.maps.now) (RowsLeft source.leaves-value.it c.print_next.new.reader.rows (g.H.Host.view c.print_next.new.host).files c.args.maps.now) c.loop-row.reply c.print_next.new.reply false) c.loop-row.invariant.picked
    (subst (λ (b : Bool). PrintsNext c.loop-row.reader.picked (RowsLeft source.leaves-value.it c.loop-row.reader.rows (g.H.Host.view c.loop-row.host).files c.args.maps.now) (RowsLeft source.leaves-value.it c.print_next.new.reader.rows (g.H.Host.view c.print_next.new.host).files c.args.maps.now) c.loop-row.reply c.print_next.new.reply b) c.if-not-printed.true c.in_ok-printed.ensures.row))
    c.args.most (omega (arith, c.loop-row-test.true)) c.count.new.reply c.in_ok-count.ensures.ok

pub returns-then-not-printed-clause-few : goal.returns-then-not-printed-clause-few
returns-then-not-printed-clause-few g c =
    ending_few c.args.reader.now.picked _ _ c.args.reply.now c.loop-row.reply c.loop-row.row c.loop-row.invariant.printed _ c.print_next.new.reply
    (subst (λ (k : Picked). PrintsNext k (RowsLeft source.leaves-value.it c.loop-row.reader.rows (g.H.Host.view c.loop-row.host).files c.args.maps.now) (RowsLeft source.leaves-value.it c.print_next.new.reader.rows (g.H.Host.view c.print_next.new.host).files c.args.maps.now) c.loop-row.reply c.print_next.new.reply false) c.loop-row.invariant.picked
    (subst (λ (b : Bool). PrintsNext c.loop-row.reader.picked (RowsLeft source.leaves-value.it c.loop-row.reader.rows (g.H.Host.view c.loop-row.host).files c.args.maps.now) (RowsLeft source.leaves-value.it c.print_next.new.reader.rows (g.H.Host.view c.print_next.new.host).files c.args.maps.now) c.loop-row.reply c.print_next.new.reply b) c.if-not-printed.true c.in_ok-printed.ensures.row))
    c.args.most (omega (arith, c.loop-row-test.true)) c.count.new.reply c.in_ok-count.ensures.ok

pub returns-then-not-printed-clause-after : goal.returns-then-not-printed-clause-after
returns-then-not-printed-clause-after g c =
    ending_knows c.args.reader.now.picked _ _ c.args.reply.now c.loop-row.reply c.loop-row.row c.loop-row.invariant.printed _ c.print_next.new.reply
    (subst (λ (k : Picked). PrintsNext k (RowsLeft source.leaves-value.it c.loop-row.reader.rows (g.H.Host.view c.loop-row.host).files c.args.maps.now) (RowsLeft source.leaves-value.it c.print_next.new.reader.rows (g.H.Host.view c.print_next.new.host).files c.args.maps.now) c.loop-row.reply c.print_next.new.reply false) c.loop-row.invariant.picked
    (subst (λ (b : Bool). PrintsNext c.loop-row.reader.picked (RowsLeft source.leaves-value.it c.loop-row.reader.rows (g.H.Host.view c.loop-row.host).files c.args.maps.now) (RowsLeft source.leaves-value.it c.print_next.new.reader.rows (g.H.Host.view c.print_next.new.host).files c.args.maps.now) c.loop-row.reply c.print_next.new.reply b) c.if-not-printed.true c.in_ok-printed.ensures.row))
    c.args.most (omega (arith, c.loop-row-test.true))

pub returns-then-not-printed-clause-counted : goal.returns-then-not-printed-clause-counted
returns-then-not-printed-clause-counted g c is count counts = c.in_ok-printed.ensures.counted count (c.loop-row.invariant.counts count counts) c.if-not-printed.true

pub returns-then-not-printed-clause-reads : goal.returns-then-not-printed-clause-reads
returns-then-not-printed-clause-reads g c reads left =
    let so_far = c.loop-row.invariant.reads reads left in
    let one = c.in_ok-printed.ensures.reads so_far.0 so_far.1 in
    (one.0, one.1, omega (arith, one.2, so_far.2))

pub returns-then-not-printed-clause-reads_up_to : goal.returns-then-not-printed-clause-reads_up_to
returns-then-not-printed-clause-reads_up_to g c n reads left =
    let so_far = c.loop-row.invariant.up_to (suc n) (c.args.most + n) reads (omega (arith, c.loop-row-test.true)) left in
    let one = c.in_ok-printed.ensures.reads_up_to n so_far.0 so_far.1 in
    (one.0, one.1, omega (arith, one.2, so_far.2))

pub returns-then-not-printed-clause-ready : goal.returns-then-not-printed-clause-ready
returns-then-not-printed-clause-ready g c = c.in_ok-printed.ensures.ready

pub returns-then-not-printed-clause-prints : goal.returns-then-not-printed-clause-prints
returns-then-not-printed-clause-prints g c =
    subst (λ (k : Picked). source.prints-value.it c.print_next.new.reader.rows.candidates (g.H.Host.view c.print_next.new.host).files c.args.maps.now k.key) c.loop-row.invariant.picked c.in_ok-printed.ensures.prints

pub returns-then-not-printed-clause-causes : goal.returns-then-not-printed-clause-causes
returns-then-not-printed-clause-causes g c =
    let on = c.loop-row.invariant in
    let all = faults_then _ _ _ _ _ (g.H.Host.view c.args.host.now) (g.H.Host.view c.loop-row.host) (g.H.Host.view c.print_next.new.host) 0 _ (λ rows is. (let rest = on.printed.left rows is in (rest.0, rest.2))) (on.faults 0) c.in_ok-printed.ensures.faults in
    causes_ok _ _ _ all.causes.ok all.causes.out

pub returns-then-not-printed-clause-uses : goal.returns-then-not-printed-clause-uses
returns-then-not-printed-clause-uses g c number used = c.loop-row.invariant.uses number (c.print_next.ensures.uses number used)

pub returns-then-not-printed-clause-shows_less : goal.returns-then-not-printed-clause-shows_less
returns-then-not-printed-clause-shows_less g c files damage shown = c.loop-row.invariant.shows files damage (c.print_next.ensures.shows_less files damage shown)

pub returns-then-not-printed-clause-picked : goal.returns-then-not-printed-clause-picked
returns-then-not-printed-clause-picked g c = c.print_next.ensures.picked ∙ c.loop-row.invariant.picked

pub returns-then-not-printed-clause-conditions : goal.returns-then-not-printed-clause-conditions
returns-then-not-printed-clause-conditions g c = c.print_next.ensures.conditions ∙ c.loop-row.invariant.conditions

pub returns-then-not-printed-clause-view : goal.returns-then-not-printed-clause-view
returns-then-not-printed-clause-view g c = c.print_next.ensures.view ∙ c.loop-row.invariant.same_view

pub returns-then-not-printed-clause-kinds : goal.returns-then-not-printed-clause-kinds
returns-then-not-printed-clause-kinds g c = c.print_next.ensures.kinds ∙ c.loop-row.invariant.kinds

pub returns-then-not-printed-clause-read : goal.returns-then-not-printed-clause-read
returns-then-not-printed-clause-read g c = streamed_then _ _ _ _ _ _ _ _ (g.H.Host.view c.args.host.now) (g.H.Host.view c.loop-row.host) (g.H.Host.view c.print_next.new.host) c.loop-row.invariant.read c.print_next.ensures.read

-- ---- a row

pub loop-row-preserved : goal.loop-row-preserved
loop-row-preserved g c =
    let on = c.loop-row.invariant in
    let u = g.H.Host.view c.args.host.now in
    let v = g.H.Host.view c.loop-row.host in
    let w = g.H.Host.view c.print_next.new.host in
    record {
      can = can_still _ _ _ _ _ _ v w on.can c.print_next.ensures.read;
      ready = c.in_ok-printed.ensures.ready;
      prints = subst (λ (k : Picked). source.prints-value.it c.print_next.new.reader.rows.candidates w.files c.args.maps.now k.key) on.picked c.in_ok-printed.ensures.prints;
      picked = c.print_next.ensures.picked ∙ on.picked;
      conditions = c.print_next.ensures.conditions ∙ on.conditions;
      same_view = c.print_next.ensures.view ∙ on.same_view;
      printed = printing_more c.args.reader.now.picked _ _ c.args.reply.now c.loop-row.reply c.loop-row.row on.printed _ c.print_next.new.reply
          (subst (λ (k : Picked). PrintsNext k (RowsLeft source.leaves-value.it c.loop-row.reader.rows v.files c.args.maps.now) (RowsLeft source.leaves-value.it c.print_next.new.reader.rows w.files c.args.maps.now) c.loop-row.reply c.print_next.new.reply true) on.picked
          (subst (λ (b : Bool). PrintsNext c.loop-row.reader.picked (RowsLeft source.leaves-value.it c.loop-row.reader.rows v.files c.args.maps.now) (RowsLeft source.leaves-value.it c.print_next.new.reader.rows w.files c.args.maps.now) c.loop-row.reply c.print_next.new.reply b) c.if-not-printed.false c.in_ok-printed.ensures.row));
      counts = λ count is. c.in_ok-printed.ensures.counts count (on.counts count is);
      reads = λ most left.
          let so_far = on.reads most left in
          let one = c.in_ok-printed.ensures.reads so_far.0 so_far.1 in
          (one.0, one.1, omega (arith, one.2, so_far.2));
      up_to = λ n m most within left.
          let so_far = on.up_to (suc n) m most (omega (arith, within)) left in
          let one = c.in_ok-printed.ensures.reads_up_to n so_far.0 so_far.1 in
          (one.0, one.1, omega (arith, one.2, so_far.2));
      uses = λ number used. on.uses number (c.print_next.ensures.uses number used);
      shows = λ files damage shown. on.shows files damage (c.print_next.ensures.shows_less files damage shown);
      kinds = c.print_next.ensures.kinds ∙ on.kinds;
      read = streamed_then _ _ _ _ _ _ _ _ u v w on.read c.print_next.ensures.read;
      faults = λ n. faults_ok _ _ _ _ u w c.in_ok-printed.printed n (faults_then _ _ _ _ _ u v w 0 _ (λ rows is. (let rest = on.printed.left rows is in (rest.0, rest.2))) (on.faults 0) c.in_ok-printed.ensures.faults);
    }

-- ---- so many rows

pub returns-in_err-count-2-clause-reads : goal.returns-in_err-count-2-clause-reads
returns-in_err-count-2-clause-reads g c reads left =
    let so_far = c.loop-row.invariant.reads reads left in
    let q = err_from_is_err_and c.from_residual-in_err-count-2.result c.from_residual-in_err-count-2.ensures.1 in
    rw q.1 (omega (arith, so_far.2))

pub returns-in_err-count-2-clause-reads_up_to : goal.returns-in_err-count-2-clause-reads_up_to
returns-in_err-count-2-clause-reads_up_to g c n reads left =
    let so_far = c.loop-row.invariant.up_to n (c.args.most + n) reads (omega (arith, c.loop-row-test.false, c.loop-row.auto.row-end)) left in
    let q = err_from_is_err_and c.from_residual-in_err-count-2.result c.from_residual-in_err-count-2.ensures.1 in
    rw q.1 (omega (arith, so_far.2))

pub returns-in_err-count-2-clause-damaged : goal.returns-in_err-count-2-clause-damaged
returns-in_err-count-2-clause-damaged g c =
    let q = err_from_is_err_and c.from_residual-in_err-count-2.result c.from_residual-in_err-count-2.ensures.1 in
    rw (q.1, q.2) tt

pub returns-in_err-count-2-clause-undamaged : goal.returns-in_err-count-2-clause-undamaged
returns-in_err-count-2-clause-undamaged g c =
    let q = err_from_is_err_and c.from_residual-in_err-count-2.result c.from_residual-in_err-count-2.ensures.1 in
    rw (q.1, q.2) tt

pub returns-in_err-count-2-clause-causes : goal.returns-in_err-count-2-clause-causes
returns-in_err-count-2-clause-causes g c =
    let all = c.loop-row.invariant.faults 0 in
    let q = err_from_is_err_and c.from_residual-in_err-count-2.result c.from_residual-in_err-count-2.ensures.1 in
    rw (q.1, q.2) (causes_memory _ _ all.causes.ok all.causes.out)

pub returns-in_err-count-2-clause-uses : goal.returns-in_err-count-2-clause-uses
returns-in_err-count-2-clause-uses g c number used = c.loop-row.invariant.uses number used

pub returns-in_err-count-2-clause-shows_less : goal.returns-in_err-count-2-clause-shows_less
returns-in_err-count-2-clause-shows_less g c files damage shown = c.loop-row.invariant.shows files damage shown

pub returns-in_err-count-2-clause-picked : goal.returns-in_err-count-2-clause-picked
returns-in_err-count-2-clause-picked g c = c.loop-row.invariant.picked

pub returns-in_err-count-2-clause-conditions : goal.returns-in_err-count-2-clause-conditions
returns-in_err-count-2-clause-conditions g c = c.loop-row.invariant.conditions

pub returns-in_err-count-2-clause-view : goal.returns-in_err-count-2-clause-view
returns-in_err-count-2-clause-view g c = c.loop-row.invariant.same_view

pub returns-in_err-count-2-clause-kinds : goal.returns-in_err-count-2-clause-kinds
returns-in_err-count-2-clause-kinds g c = c.loop-row.invariant.kinds

pub returns-in_err-count-2-clause-read : goal.returns-in_err-count-2-clause-read
returns-in_err-count-2-clause-read g c = c.loop-row.invariant.read

pub returns-clause-rows : goal.returns-clause-rows
returns-clause-rows g c =
    stopping_prints c.args.reader.now.picked _ _ c.args.reply.now c.loop-row.reply c.loop-row.row c.loop-row.invariant.printed
    c.args.most (omega (arith, c.loop-row-test.false, c.loop-row.auto.row-end)) c.count-2.new.reply c.in_ok-count-2.ensures.ok

pub returns-clause-few : goal.returns-clause-few
returns-clause-few g c =
    stopping_few c.args.reader.now.picked _ _ c.args.reply.now c.loop-row.reply c.loop-row.row c.loop-row.invariant.printed
    c.args.most (omega (arith, c.loop-row-test.false, c.loop-row.auto.row-end)) c.count-2.new.reply c.in_ok-count-2.ensures.ok

pub returns-clause-after : goal.returns-clause-after
returns-clause-after g c =
    stopping_knows c.args.reader.now.picked _ _ c.args.reply.now c.loop-row.reply c.loop-row.row c.loop-row.invariant.printed
    c.args.most (omega (arith, c.loop-row-test.false, c.loop-row.auto.row-end))

pub returns-clause-counted : goal.returns-clause-counted
returns-clause-counted g c is count counts = cc

pub returns-clause-reads : goal.returns-clause-reads
returns-clause-reads g c reads left = c.loop-row.invariant.reads reads left

pub returns-clause-reads_up_to : goal.returns-clause-reads_up_to
returns-clause-reads_up_to g c n reads left = c.loop-row.invariant.up_to n (c.args.most + n) reads (omega (arith, c.loop-row-test.false, c.loop-row.auto.row-end)) left

pub returns-clause-ready : goal.returns-clause-ready
returns-clause-ready g c = c.loop-row.invariant.ready

pub returns-clause-prints : goal.returns-clause-prints
returns-clause-prints g c = c.loop-row.invariant.prints

pub returns-clause-causes : goal.returns-clause-causes
returns-clause-causes g c =
    let all = c.loop-row.invariant.faults 0 in
    causes_ok _ _ _ all.causes.ok all.causes.out

pub returns-clause-uses : goal.returns-clause-uses
returns-clause-uses g c number used = c.loop-row.invariant.uses number used

pub returns-clause-shows_less : goal.returns-clause-shows_less
returns-clause-shows_less g c files damage shown = c.loop-row.invariant.shows files damage shown

pub returns-clause-picked : goal.returns-clause-picked
returns-clause-picked g c = c.loop-row.invariant.picked

pub returns-clause-conditions : goal.returns-clause-conditions
returns-clause-conditions g c = c.loop-row.invariant.conditions

pub returns-clause-view : goal.returns-clause-view
returns-clause-view g c = c.loop-row.invariant.same_view

pub returns-clause-kinds : goal.returns-clause-kinds
returns-clause-kinds g c = c.loop-row.invariant.kinds

pub returns-clause-read : goal.returns-clause-read
returns-clause-read g c = c.loop-row.invariant.read
