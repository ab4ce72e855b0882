use Rattle.std.proofs.Common.{◌≡◌, ◌++◌, length, true, refl, ◌∙◌, ap, arith}
use Rattle.sasi_host.specs.Names.{Bytes, data_name}
use Rattle.sasi_host.proofs.ContentLaws.{reaches_held}
use Rattle.sasi_datawrite.specs.Format.{header}
use Rattle.sasi_formats.specs.Formats.{encoded}
use Rattle.sasi_formats.specs.Headers.{file_header}
use Rattle.sasi_datawrite.proofs.Laws.{header_length, header_put}
use Rattle.sasi_host.proofs.ChangeLaws.{untouched}
use Rattle.sasi_datawrite.proofs.Pushes.{writing_none}
use Rattle.sasi_datawrite.proofs.writer.DataWriter.begin.Goals as goal

pub returns-in_err-put_header-clause-changes : goal.returns-in_err-put_header-clause-changes
returns-in_err-put_header-clause-changes g c = untouched (g.H.Host.view c.args.host.now) (data_name c.args.number)

pub returns-clause-ok : goal.returns-clause-ok
returns-clause-ok g c =
    let is : c.deref.result.now ≡ header = c.deref.ensures.value ∙ c.in_ok-put_header.ensures ∙ ap (λ (l : Bytes). l ++ encoded (file_header c.magic.result.now 0) tt) c.new-buffer.ensures.items ∙ header_put c.magic.result.now c.magic.ensures in
    writing_none (g.H.Host.view c.create_with.new.host) (record {
      file = c.data-file.result;
      partitioner = c.args.partitioner;
      pairs =
          c.new.result;
      offset = 16;
      max_timestamp = 0;
      usable = true;
    }) c.deref.result.now c.new.ensures refl refl is c.in_ok-create_with.ensures.ok

pub returns-clause-room : goal.returns-clause-room
returns-clause-room g c =
    let is : c.deref.result.now ≡ header = c.deref.ensures.value ∙ c.in_ok-put_header.ensures ∙ ap (λ (l : Bytes). l ++ encoded (file_header c.magic.result.now 0) tt) c.new-buffer.ensures.items ∙ header_put c.magic.result.now c.magic.ensures in
    reaches_held (g.H.Host.view c.create_with.new.host) c.data-file.result 16 c.deref.result.now (omega (arith, ap (λ (l : Bytes). length l) is, header_length)) c.in_ok-create_with.ensures.ok
