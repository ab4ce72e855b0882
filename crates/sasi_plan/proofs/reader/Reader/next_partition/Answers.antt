use Rattle.sasi_ranges.proofs.Calling.{faults_as}
use Rattle.sasi_plan.specs.contracts.plan_candidates.PlanCandidatesCandidates.TheImpl as source
use Rattle.sasi_plan.proofs.ReaderLaws.{next_counted, next_counts, next_reads, next_reads_up_to, next_row}
use Rattle.sasi_plan.proofs.reader.Reader.next_partition.Goals as goal

pub returns-clause-row : goal.returns-clause-row
returns-clause-row g c =
    let u = g.H.Host.view c.args.host.now in
    let v = g.H.Host.view c.next.new.host in
    next_row source.ghosts.leaves source.ghosts.pays c.args.maps.now c.args.self.now.rows c.next.new.self u.files v.files u.reads v.reads c.next.result
    (record { row = c.next.ensures.row; allowed = c.next.ensures.allowed; counts = c.next.ensures.checked; reads = c.next.ensures.reads; same_filter = c.next.ensures.filter })

pub returns-clause-counts : goal.returns-clause-counts
returns-clause-counts g c =
    let u = g.H.Host.view c.args.host.now in
    let v = g.H.Host.view c.next.new.host in
    next_counts source.ghosts.leaves source.ghosts.pays c.args.maps.now c.args.self.now.rows c.next.new.self u.files v.files u.reads v.reads c.next.result
    (record { row = c.next.ensures.row; allowed = c.next.ensures.allowed; counts = c.next.ensures.checked; reads = c.next.ensures.reads; same_filter = c.next.ensures.filter })

pub returns-clause-counted : goal.returns-clause-counted
returns-clause-counted g c =
    let u = g.H.Host.view c.args.host.now in
    let v = g.H.Host.view c.next.new.host in
    next_counted source.ghosts.leaves source.ghosts.pays c.args.maps.now c.args.self.now.rows c.next.new.self u.files v.files u.reads v.reads c.next.result
    (record { row = c.next.ensures.row; allowed = c.next.ensures.allowed; counts = c.next.ensures.checked; reads = c.next.ensures.reads; same_filter = c.next.ensures.filter })

pub returns-clause-reads : goal.returns-clause-reads
returns-clause-reads g c =
    let u = g.H.Host.view c.args.host.now in
    let v = g.H.Host.view c.next.new.host in
    next_reads source.ghosts.leaves source.ghosts.pays c.args.maps.now c.args.self.now.rows c.next.new.self u.files v.files u.reads v.reads c.next.result
    (record { row = c.next.ensures.row; allowed = c.next.ensures.allowed; counts = c.next.ensures.checked; reads = c.next.ensures.reads; same_filter = c.next.ensures.filter })

pub returns-clause-reads_up_to : goal.returns-clause-reads_up_to
returns-clause-reads_up_to g c =
    let u = g.H.Host.view c.args.host.now in
    let v = g.H.Host.view c.next.new.host in
    next_reads_up_to source.ghosts.leaves source.ghosts.pays c.args.maps.now c.args.self.now.rows c.next.new.self u.files v.files u.reads v.reads c.next.result
    (record { row = c.next.ensures.row; allowed = c.next.ensures.allowed; counts = c.next.ensures.checked; reads = c.next.ensures.reads; same_filter = c.next.ensures.filter })

pub returns-clause-faults : goal.returns-clause-faults
returns-clause-faults g c = faults_as _ _ _ _ _ (g.H.Host.view c.args.host.now) (g.H.Host.view c.next.new.host) c.next.result (λ damage is. is) (λ rows is. (is.0, is.1)) c.next.ensures.faults

pub returns-clause-view : goal.returns-clause-view
returns-clause-view g c = c.next.ensures.kept
