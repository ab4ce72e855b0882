use Rattle.std.proofs.Common.{ap, ◌∙◌}
use Rattle.sasi_types.specs.declared.column.ColumnType.{ColumnType}
use Rattle.sasi_types.specs.declared.mode.Mode.{Mode}
use Rattle.sasi_host.proofs.ContentLaws.{contents_same}
use Rattle.sasi_indexwrite.specs.declared.footer.Footer.{Footer}
use Rattle.sasi_indexread.proofs.Footers.{header_told, numbers_tell}
use Rattle.sasi_indexread.proofs.index_file.IndexFile.open.Goals as goal

pub returns-clause-ok : goal.returns-clause-ok
returns-clause-ok g c bytes content is of =
    let short = (g.met.H.Host.sound c.args.host.now).fits c.args.file bytes is in
    let r = c.in_ok-read.read in
    let has = c.in_ok-read.ensures.ok bytes is in
    let head = header_told bytes content of short r.mode r.kind r.numbers has in
    let told = numbers_tell bytes content of short r.mode r.kind r.numbers has in
    record {
      bytes = bytes;
      reads = contents_same _ _ c.args.file c.read_footer.ensures.read.changes ∙ is;
      index_file = of;
      mode = ap (λ (h : Mode × ColumnType). h.0) head;
      kind = ap (λ (h : Mode × ColumnType). h.1) head;
      blocks = ap (λ (f : Footer). f.blocks) told;
      spill = ap (λ (f : Footer). f.spill) told;
    }

pub returns-clause-header_and_footer : goal.returns-clause-header_and_footer
returns-clause-header_and_footer g c bytes is = (c.in_ok-read.read.numbers.table, c.in_ok-read.ensures.ok bytes is)
