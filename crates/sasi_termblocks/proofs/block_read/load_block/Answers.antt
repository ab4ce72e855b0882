use Rattle.std.proofs.Common.{◌+◌, ◌*◌, length, Option, ◌∙◌, ap, subst, sym, arith}
use Rattle.sasi_host.specs.declared.name.FileName.{FileName}
use Rattle.sasi_host.proofs.BufferedLaws.{buffered_after}
use Rattle.sasi_host.proofs.ChangeLaws.{then_same}
use Rattle.sasi_host.specs.Disk.{Same}
use Rattle.sasi_host.specs.Damages.{DamageShown, TellsSize}
use Rattle.sasi_host.proofs.DamageLaws.{end_shown, shown_before}
use Rattle.sasi_host.proofs.Pages.{reads_on}
use Rattle.sasi_host.specs.Names.{Folder}
use Rattle.sasi_termblocks.proofs.Descent.{files_same}
use Rattle.sasi_termblocks.proofs.Shown.{page_short, page_stands}
use Rattle.sasi_termblocks.proofs.block_read.load_block.Goals as goal

pub returns-then-page-ge-MAX_PAGES-clause-damaged : goal.returns-then-page-ge-MAX_PAGES-clause-damaged
returns-then-page-ge-MAX_PAGES-clause-damaged g c =
    let v = g.H.Host.view c.args.host.now in
    end_shown v c.args.buffered.now.file (4096 * c.args.page + 4096) c.unexpected_end.result
    (λ bytes is. let most = (g.met.H.Host.sound c.args.host.now).fits c.args.buffered.now.file bytes is in omega (arith, most))
    (subst (λ (n : FileName). DamageShown v n (TellsSize n) c.unexpected_end.result) c.file.ensures c.unexpected_end.ensures.damaged)

pub returns-then-bytes_from-lt-BLOCK_BYTES-clause-damaged : goal.returns-then-bytes_from-lt-BLOCK_BYTES-clause-damaged
returns-then-bytes_from-lt-BLOCK_BYTES-clause-damaged g c =
    let v = g.H.Host.view c.args.host.now in
    let name = c.file-then-bytes_from-lt-BLOCK_BYTES.ensures ∙ c.load_page.ensures.file in
    let result = c.unexpected_end-then-bytes_from-lt-BLOCK_BYTES.result in
    let told = shown_before (TellsSize c.file-then-bytes_from-lt-BLOCK_BYTES.result) v _ c.file-then-bytes_from-lt-BLOCK_BYTES.result result c.load_page.ensures.changes c.unexpected_end-then-bytes_from-lt-BLOCK_BYTES.ensures.damaged in
    end_shown v c.args.buffered.now.file (4096 * c.args.page + 4096) result
    (λ bytes is. page_short bytes c.load_page.new.self.bytes c.args.page
    (c.load_page.ensures.buffered c.args.page bytes c.in_ok-load_page.ensures.page (reads_on _ _ c.args.buffered.now.file _ bytes c.load_page.ensures.changes c.load_page.ensures.file is))
    (omega (arith, c.if-bytes_from-lt-BLOCK_BYTES.true, ap length c.bytes_from.ensures)))
    (subst (λ (n : FileName). DamageShown v n (TellsSize n) result) name told)

pub returns-then-bytes_from-lt-BLOCK_BYTES-clause-read : goal.returns-then-bytes_from-lt-BLOCK_BYTES-clause-read
returns-then-bytes_from-lt-BLOCK_BYTES-clause-read g c = record {
  agrees = subst (λ (f : Option Folder). g.P.PageReader.agrees c.load_page.new.pages f) (sym (files_same _ _ c.unexpected_end-then-bytes_from-lt-BLOCK_BYTES.ensures.changes)) c.load_page.ensures.agrees;
  covers = c.load_page.ensures.covers;
  changes = then_same _ _ _ Same c.load_page.ensures.changes c.unexpected_end-then-bytes_from-lt-BLOCK_BYTES.ensures.changes;
  buffered = buffered_after c.load_page.new.self _ _ c.unexpected_end-then-bytes_from-lt-BLOCK_BYTES.ensures.changes c.load_page.ensures.buffered;
  file = c.load_page.ensures.file;
}

pub returns-clause-is : goal.returns-clause-is
returns-clause-is g c bytes is =
    page_stands bytes c.load_page.new.self.bytes c.args.page
    (c.load_page.ensures.buffered c.args.page bytes c.in_ok-load_page.ensures.page (reads_on _ _ c.args.buffered.now.file _ bytes c.load_page.ensures.changes c.load_page.ensures.file is))
    (omega (arith, ap length c.bytes_from.ensures))
