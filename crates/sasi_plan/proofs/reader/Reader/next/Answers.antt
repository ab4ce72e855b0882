use Rattle.std.proofs.Common.{◌≡◌, ◌∙◌, List, None, Some, IfOk, map, refl, sym, subst, arith}
use Rattle.sasi_cells.specs.declared.picked.Picked.{Picked}
use Rattle.sasi_model.specs.Conditions.{Condition}
use Rattle.sasi_ranges.proofs.Calling.{streams_nothing}
use Rattle.sasi_recheck.specs.Sources.{GivesPrintable}
use Rattle.sasi_plan.specs.contracts.plan_candidates.PlanCandidatesCandidates.TheImpl as source
use Rattle.sasi_plan.specs.Answers.{ReadsLeft, ReadsUpTo, RowsLeft}
use Rattle.sasi_plan.specs.Faults.{IsPickedOf}
use Rattle.sasi_plan.specs.Lacking.{first_lacked}
use Rattle.sasi_plan.proofs.LackingLaws.{found_lacks, none_lacks}
use Rattle.sasi_plan.proofs.PickedLaws.{missing_faults, none_missing, ok_picked, picked_counted, picked_faults, picked_rows, spends_picked}
use Rattle.sasi_plan.proofs.reader.Reader.next.Goals as goal

pub next_partition-found-requires-clause-prints : goal.next_partition-found-requires-clause-prints
next_partition-found-requires-clause-prints g c = (c.args.self.now.picked.key, c.requires.prints)

pub next_partition-found-requires-clause-known : goal.next_partition-found-requires-clause-known
next_partition-found-requires-clause-known g c =
    let kinds = map (λ b. (goal.Analyzer-dyn g (b.vtable, b.value)).kind b.value) c.args.kit.now.objects.items in
    none_lacks kinds c.args.self.now.rows.filter (subst (λ (cs : List Condition). first_lacked kinds cs ≡ None) (c.conditions.ensures ∙ c.filter.ensures) (sym c.first_lacked.ensures ∙ c.in-None.is))

pub picked_row-requires : goal.picked_row-requires
picked_row-requires g c =
    let n = c.next_partition-found in
    subst (λ (p : Picked). IfOk n.result (GivesPrintable p.key)) (sym n.ensures.picked) (n.ensures.prints c.args.self.now.picked.key c.requires.prints)

-- ---- an analyzer is missing

pub returns-in-Some-clause-missing : goal.returns-in-Some-clause-missing
returns-in-Some-clause-missing g c =
    let kinds = map (λ b. (goal.Analyzer-dyn g (b.vtable, b.value)).kind b.value) c.args.kit.now.objects.items in
    found_lacks kinds c.args.self.now.rows.filter c.in-Some.class
    (subst (λ (cs : List Condition). first_lacked kinds cs ≡ Some c.in-Some.class) (c.conditions.ensures ∙ c.filter.ensures) (sym c.first_lacked.ensures ∙ c.in-Some.is))

pub returns-in-Some-clause-lacks : goal.returns-in-Some-clause-lacks
returns-in-Some-clause-lacks g c class lacks = (c.in-Some.class, refl)

pub returns-in-Some-clause-reads : goal.returns-in-Some-clause-reads
returns-in-Some-clause-reads g c most left = omega arith

pub returns-in-Some-clause-reads_up_to : goal.returns-in-Some-clause-reads_up_to
returns-in-Some-clause-reads_up_to g c n most left = omega arith

pub returns-in-Some-clause-read : goal.returns-in-Some-clause-read
returns-in-Some-clause-read g c = streams_nothing _ _ (source.ghosts.opens c.args.self.now.rows.candidates) (g.H.Host.view c.args.host.now) c.requires.read.agrees

pub returns-in-Some-clause-faults : goal.returns-in-Some-clause-faults
returns-in-Some-clause-faults g c =
    let v = g.H.Host.view c.args.host.now in
    missing_faults (source.ghosts.shows c.args.self.now.rows.candidates v.files) (RowsLeft source.ghosts.leaves c.args.self.now.rows v.files c.args.maps.now) v c.in-Some.class

-- ---- a row, or none

pub returns-in-None-clause-missing : goal.returns-in-None-clause-missing
returns-in-None-clause-missing g c =
    let n = c.next_partition-found in
    none_missing c.args.self.now.picked _ n.result c.picked_row.result (subst (λ (p : Picked). IsPickedOf p n.result c.picked_row.result) n.ensures.picked c.picked_row.ensures)

pub returns-in-None-clause-unread : goal.returns-in-None-clause-unread
returns-in-None-clause-unread g c =
    let n = c.next_partition-found in
    none_missing c.args.self.now.picked _ n.result c.picked_row.result (subst (λ (p : Picked). IsPickedOf p n.result c.picked_row.result) n.ensures.picked c.picked_row.ensures)

pub returns-in-None-clause-lacks : goal.returns-in-None-clause-lacks
returns-in-None-clause-lacks g c class lacks =
    let kinds = map (λ b. (goal.Analyzer-dyn g (b.vtable, b.value)).kind b.value) c.args.kit.now.objects.items in
    absurd
    (none_lacks kinds c.args.self.now.rows.filter (subst (λ (cs : List Condition). first_lacked kinds cs ≡ None) (c.conditions.ensures ∙ c.filter.ensures) (sym c.first_lacked.ensures ∙ c.in-None.is)) class lacks)

pub returns-in-None-clause-row : goal.returns-in-None-clause-row
returns-in-None-clause-row g c =
    let n = c.next_partition-found in
    let u = g.H.Host.view c.args.host.now in
    let v = g.H.Host.view n.new.host in
    picked_rows c.args.self.now.picked source.ghosts.leaves c.args.self.now.rows u.files c.args.maps.now (RowsLeft source.ghosts.leaves n.new.self.rows v.files c.args.maps.now) n.result c.picked_row.result
    (subst (λ (p : Picked). IsPickedOf p n.result c.picked_row.result) n.ensures.picked c.picked_row.ensures) n.ensures.row

pub returns-in-None-clause-counts : goal.returns-in-None-clause-counts
returns-in-None-clause-counts g c count is =
    let n = c.next_partition-found in
    ok_picked c.args.self.now.picked _ n.result c.picked_row.result (subst (λ (p : Picked). IsPickedOf p n.result c.picked_row.result) n.ensures.picked c.picked_row.ensures) (n.ensures.counts count is)

pub returns-in-None-clause-counted : goal.returns-in-None-clause-counted
returns-in-None-clause-counted g c =
    let n = c.next_partition-found in
    let u = g.H.Host.view c.args.host.now in
    let v = g.H.Host.view n.new.host in
    picked_counted c.args.self.now.picked source.ghosts.leaves c.args.self.now.rows u.files c.args.maps.now (RowsLeft source.ghosts.leaves n.new.self.rows v.files c.args.maps.now) n.new.self.rows.checked n.result
    c.picked_row.result (subst (λ (p : Picked). IsPickedOf p n.result c.picked_row.result) n.ensures.picked c.picked_row.ensures) n.ensures.row n.ensures.counted

pub returns-in-None-clause-reads : goal.returns-in-None-clause-reads
returns-in-None-clause-reads g c most left =
    let n = c.next_partition-found in
    let u = g.H.Host.view c.args.host.now in
    let v = g.H.Host.view n.new.host in
    spends_picked c.args.self.now.picked (ReadsLeft source.ghosts.leaves source.ghosts.pays n.new.self.rows v.files c.args.maps.now) most u.reads v.reads n.result c.picked_row.result
    (subst (λ (p : Picked). IsPickedOf p n.result c.picked_row.result) n.ensures.picked c.picked_row.ensures) (n.ensures.reads most left)

pub returns-in-None-clause-reads_up_to : goal.returns-in-None-clause-reads_up_to
returns-in-None-clause-reads_up_to g c n most left =
    let m = c.next_partition-found in
    let u = g.H.Host.view c.args.host.now in
    let v = g.H.Host.view m.new.host in
    spends_picked c.args.self.now.picked (ReadsUpTo source.ghosts.leaves source.ghosts.pays m.new.self.rows v.files c.args.maps.now (Some n)) most u.reads v.reads m.result c.picked_row.result
    (subst (λ (p : Picked). IsPickedOf p m.result c.picked_row.result) m.ensures.picked c.picked_row.ensures) (m.ensures.reads_up_to n most left)

pub returns-in-None-clause-ready : goal.returns-in-None-clause-ready
returns-in-None-clause-ready g c =
    let n = c.next_partition-found in
    ok_picked c.args.self.now.picked _ n.result c.picked_row.result (subst (λ (p : Picked). IsPickedOf p n.result c.picked_row.result) n.ensures.picked c.picked_row.ensures) n.ensures.ready

pub returns-in-None-clause-still_prints : goal.returns-in-None-clause-still_prints
returns-in-None-clause-still_prints g c =
    let n = c.next_partition-found in
    ok_picked c.args.self.now.picked _ n.result c.picked_row.result (subst (λ (p : Picked). IsPickedOf p n.result c.picked_row.result) n.ensures.picked c.picked_row.ensures)
    (n.ensures.still_prints c.args.self.now.picked.key c.requires.prints)

pub returns-in-None-clause-faults : goal.returns-in-None-clause-faults
returns-in-None-clause-faults g c =
    let n = c.next_partition-found in
    let u = g.H.Host.view c.args.host.now in
    let v = g.H.Host.view n.new.host in
    picked_faults _ _ _ u v c.args.self.now.picked n.result c.picked_row.result (subst (λ (p : Picked). IsPickedOf p n.result c.picked_row.result) n.ensures.picked c.picked_row.ensures) n.ensures.faults
