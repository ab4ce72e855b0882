use Rattle.std.proofs.Common.{◌≡◌, ◌+◌, ◌≤◌, IfOk, IfErr, length, sym, ◌∙◌, ap, subst}
use Rattle.sasi_types.specs.declared.partitioner.Partitioner.{Partitioner}
use Rattle.sasi_model.specs.Cells.{Partition}
use Rattle.sasi_host.specs.Names.{Bytes}
use Rattle.sasi_body.specs.Body.{body}
use Rattle.sasi_host.specs.Damages.{DamageShown}
use Rattle.sasi_datawrite.specs.Format.{Content}
use Rattle.sasi_dataread.specs.Opened.{OpenDataFile, StandsAt}
use Rattle.sasi_dataread.specs.Reads.{ReadsPartition, IsOpenOn, IsStoredAt, NoFalsePartitionDamage}
use Rattle.sasi_dataread.specs.Bodies.{partition_reads}
use Rattle.sasi_dataread.specs.Damages.{ShowsPartition}
use Rattle.sasi_dataread.proofs.Opening.{at_damaged, at_ok, at_reads, at_stored, at_undamaged}
use Rattle.sasi_dataread.proofs.data_file.DataFile.at_buffered.Goals as goal

pub returns-clause-ok : goal.returns-clause-ok
returns-clause-ok g c =
    let view = g.H.Host.view c.args.host.now in
    let file = c.self.inside in
    let named : c.args.buffered.now.file ≡ file.file = c.requires.named ∙ sym (ap (λ (o : OpenDataFile). o.file) c.self.view_is) in
    subst (λ (o : OpenDataFile). IfOk c.partition_at.result (λ read. ReadsPartition view o c.args.place read.0 read.1)) c.self.view_is
    (at_ok view (record { file = file.file; types = file.types; tree = file.tree; max_timestamp = file.max_timestamp; end = file.end }) c.args.buffered.now.file
    c.args.place c.partition_at.result named c.partition_at.ensures.in_table c.partition_at.ensures.ok)

pub returns-clause-stands : goal.returns-clause-stands
returns-clause-stands g c =
    let view = g.H.Host.view c.args.host.now in
    let file = c.self.inside in
    let named : c.args.buffered.now.file ≡ file.file = c.requires.named ∙ sym (ap (λ (o : OpenDataFile). o.file) c.self.view_is) in
    subst (λ (o : OpenDataFile). IfOk c.partition_at.result (λ read. IsStoredAt view o c.args.place read.0 read.1)) c.self.view_is
    (at_stored view (record { file = file.file; types = file.types; tree = file.tree; max_timestamp = file.max_timestamp; end = file.end }) c.args.buffered.now.file
    c.args.place c.partition_at.result named c.partition_at.ensures.in_table c.partition_at.ensures.length c.partition_at.ensures.ok)

pub returns-clause-damaged : goal.returns-clause-damaged
returns-clause-damaged g c =
    let view = g.H.Host.view c.args.host.now in
    let file = c.self.inside in
    let named : c.args.buffered.now.file ≡ file.file = c.requires.named ∙ sym (ap (λ (o : OpenDataFile). o.file) c.self.view_is) in
    subst (λ (o : OpenDataFile). IfErr c.partition_at.result (DamageShown view o.file (ShowsPartition o.types o.end c.args.place o.file))) c.self.view_is
    (at_damaged view (record { file = file.file; types = file.types; tree = file.tree; max_timestamp = file.max_timestamp; end = file.end }) c.args.buffered.now.file
    c.args.place c.partition_at.result named c.partition_at.ensures.damaged)

pub returns-clause-undamaged : goal.returns-clause-undamaged
returns-clause-undamaged g c =
    let view = g.H.Host.view c.args.host.now in
    let file = c.self.inside in
    let named : c.args.buffered.now.file ≡ file.file = c.requires.named ∙ sym (ap (λ (o : OpenDataFile). o.file) c.self.view_is) in
    subst (λ (o : OpenDataFile). IfErr c.partition_at.result (NoFalsePartitionDamage view o c.args.place)) c.self.view_is
    (at_undamaged view (record { file = file.file; types = file.types; tree = file.tree; max_timestamp = file.max_timestamp; end = file.end }) c.args.buffered.now.file
    c.args.place c.partition_at.result named c.partition_at.ensures.undamaged)

pub returns-clause-reads : goal.returns-clause-reads
returns-clause-reads g c =
    let view = g.H.Host.view in
    let file = c.self.inside in
    let named : c.args.buffered.now.file ≡ file.file = c.requires.named ∙ sym (ap (λ (o : OpenDataFile). o.file) c.self.view_is) in
    subst
    (λ (o : OpenDataFile). (partitioner : Partitioner) (content : Content) (key : Bytes) (part : Partition) → IsOpenOn (view c.args.host.now) o partitioner content → StandsAt content c.args.place key part
    → (view c.partition_at.new.host).reads ≤ (view c.args.host.now).reads + partition_reads c.args.buffered.now.page c.args.place (length (body key part))) c.self.view_is
    (at_reads (view c.args.host.now) (record { file = file.file; types = file.types; tree = file.tree; max_timestamp = file.max_timestamp; end = file.end })
    c.args.buffered.now.file c.args.buffered.now.page c.args.place (view c.partition_at.new.host).reads named c.partition_at.ensures.reads)
