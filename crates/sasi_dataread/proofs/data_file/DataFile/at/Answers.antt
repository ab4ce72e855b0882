use Rattle.std.proofs.Common.{ℕ, ◌+◌, ◌≤◌, Option, ap, subst, arith, length}
use Rattle.sasi_types.specs.declared.partitioner.Partitioner.{Partitioner}
use Rattle.sasi_model.specs.Cells.{Partition}
use Rattle.sasi_host.specs.Names.{Bytes}
use Rattle.sasi_host.specs.Buffered.{Buffered}
use Rattle.sasi_body.specs.Body.{body}
use Rattle.sasi_datawrite.specs.Format.{Content}
use Rattle.sasi_dataread.specs.Opened.{StandsAt}
use Rattle.sasi_dataread.specs.Reads.{IsOpenOn}
use Rattle.sasi_dataread.specs.Bodies.{partition_reads}
use Rattle.sasi_dataread.proofs.data_file.DataFile.at.Goals as goal

pub returns-clause-reads : goal.returns-clause-reads
returns-clause-reads g c =
    let view = g.H.Host.view in
    let bound =
    subst
    (λ (page : Option ℕ). (partitioner : Partitioner) (content : Content) (key : Bytes) (part : Partition) → IsOpenOn (view c.args.host.now)
    c.args.self.now partitioner content → StandsAt content c.args.place key part
    → (view c.at_buffered.new.host).reads ≤ (view c.args.host.now).reads + partition_reads page c.args.place (length (body key part))) (ap (λ (h : Buffered). h.page) c.buffered_file-buffered.ensures) c.at_buffered.ensures.reads
    in
    λ partitioner content key part is at. omega (arith, bound partitioner content key part is at)
