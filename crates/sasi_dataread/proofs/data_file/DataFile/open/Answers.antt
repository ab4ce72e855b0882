use Rattle.std.proofs.Common.{ap}
use Rattle.sasi_datawrite.specs.declared.footer.Footer.{Footer}
use Rattle.sasi_dataread.proofs.Footers.{footer_tells}
use Rattle.sasi_dataread.proofs.data_file.DataFile.open.Goals as goal

pub returns-clause-ok : goal.returns-clause-ok
returns-clause-ok g c bytes partitioner content is of =
    let short = (g.met.H.Host.sound c.args.host.now).fits c.args.file bytes is in
    let told = footer_tells partitioner c.args.types.now bytes content of short c.in_ok-footer.footer (c.in_ok-footer.ensures.ok bytes is) in
    record { tree = ap (λ (f : Footer). f.tree) told; max_timestamp = ap (λ (f : Footer). f.max_timestamp) told; end = ap (λ (f : Footer). f.end) told }
