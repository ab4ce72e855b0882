use Rattle.std.proofs.Common.{subst}
use Rattle.sasi_host.specs.View.{Holds}
use Rattle.sasi_datawrite.specs.Format.{data_bytes}
use Rattle.sasi_datawrite.specs.Writing.{Writer, IsWriting}
use Rattle.sasi_datawrite.proofs.Pushes.{writing_ends}
use Rattle.sasi_datawrite.proofs.writer.DataWriter.finish.Goals as goal

pub returns-clause-ok : goal.returns-clause-ok
returns-clause-ok g c content =
    let writer : Writer = record {
      file = c.self.inside.file;
      partitioner = c.self.inside.partitioner;
      pairs = c.self.inside.pairs;
      offset = c.self.inside.offset;
      max_timestamp = c.self.inside.max_timestamp;
      usable = c.self.inside.usable;
    } in
    subst (λ (w : Writer). IsWriting (g.H.Host.view c.args.host.now) w content → Holds (g.H.Host.view c.write_trailer.new.host) w.file (data_bytes w.partitioner content)) c.self.view_is
    (writing_ends (g.H.Host.view c.args.host.now) (g.H.Host.view c.write_trailer.new.host) writer c.in_ok-write_trailer.ensures.ok content)
