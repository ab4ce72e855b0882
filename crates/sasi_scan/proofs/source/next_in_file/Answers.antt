use Rattle.sasi_scan.proofs.Pages.{scan_reads}
use Rattle.sasi_scan.proofs.Steps.{no_false_scan, scan_steps}
use Rattle.sasi_scan.proofs.source.next_in_file.Goals as goal

pub next-requires-clause-read : goal.next-requires-clause-read
next-requires-clause-read g c = record { there = c.requires.there; agrees = tt }

pub next-requires-clause-last : goal.next-requires-clause-last
next-requires-clause-last g c = c.requires.last_key

pub next-requires-clause-at_last : goal.next-requires-clause-at_last
next-requires-clause-at_last g c = c.requires.at_last

pub returns-clause-steps : goal.returns-clause-steps
returns-clause-steps g c =
    let view = g.H.Host.view in
    scan_steps (view c.args.host.now) (view c.next.new.host) c.args.scan.now c.next.new.self c.next.result c.next.ensures.read.changes c.requires c.next.ensures.opened c.next.ensures.pairs_named c.next.ensures.named
    c.next.ensures.pairs_buffered c.next.ensures.buffered c.next.ensures.at_last c.next.ensures.last_key c.next.ensures.tokens c.next.ensures.rises c.next.ensures.last c.next.ensures.passes c.next.ensures.ok c.next.ensures.in_table

pub returns-clause-damaged : goal.returns-clause-damaged
returns-clause-damaged g c = c.next.ensures.damaged

pub returns-clause-undamaged : goal.returns-clause-undamaged
returns-clause-undamaged g c = no_false_scan (g.H.Host.view c.args.host.now) c.args.scan.now c.next.result c.next.ensures.undamaged

pub returns-clause-changes : goal.returns-clause-changes
returns-clause-changes g c = c.next.ensures.read.changes

pub returns-clause-reads : goal.returns-clause-reads
returns-clause-reads g c =
    let view = g.H.Host.view in
    scan_reads (view c.args.host.now) (view c.next.new.host) c.args.scan.now c.next.new.self c.next.result c.next.ensures.opened c.next.ensures.reads
