use Rattle.std.proofs.Common.{◌≡◌, ◌+◌, ◌/◌, ◌++◌, ◌∙◌, ap, subst, length, arith}
use Rattle.sasi_host.specs.declared.name.FileName.{FileName}
use Rattle.sasi_host.specs.Names.{Bytes}
use Rattle.sasi_host.proofs.Pages.{reads_on}
use Rattle.sasi_gated.specs.Damages.{TellsSize}
use Rattle.sasi_gated.proofs.Costs.{load_pages, part_once}
use Rattle.sasi_gated.proofs.Pieces.{part_front, part_none, part_within}
use Rattle.sasi_gated.proofs.payload.read_part.Goals as goal

pub returns-then-count-eq0-clause-damaged : goal.returns-then-count-eq0-clause-damaged
returns-then-count-eq0-clause-damaged g c bytes is le =
    let page = c.load_page.ensures.buffered (c.args.at / 4096) bytes c.in_ok-load_page.ensures.page
    (reads_on _ _ c.args.buffered.now.file _ bytes c.load_page.ensures.changes c.load_page.ensures.file is) in
    let ends : length bytes ≡ c.args.at = part_none bytes c.load_page.new.self.bytes c.bytes_from-part.result.now c.args.at page c.bytes_from-part.ensures (omega arith) le in
    (subst (λ (f : FileName). TellsSize f bytes c.truncated.result) (c.file.ensures ∙ c.load_page.ensures.file) (c.truncated.ensures bytes ends), ends)

pub returns-clause-ok : goal.returns-clause-ok
returns-clause-ok g c bytes is =
    let page = c.load_page.ensures.buffered (c.args.at / 4096) bytes c.in_ok-load_page.ensures.page
    (reads_on _ _ c.args.buffered.now.file _ bytes c.load_page.ensures.changes c.load_page.ensures.file is) in
    let front = part_front bytes c.load_page.new.self.bytes c.bytes_from-part.result.now c.args.at page c.bytes_from-part.ensures c.min-count.result (omega arith) in
    c.in_ok-extend_from_slice.ensures.items ∙ ap (λ (l : Bytes). c.args.out.now.items ++ l) front

pub returns-clause-within : goal.returns-clause-within
returns-clause-within g c bytes is =
    let page = c.load_page.ensures.buffered (c.args.at / 4096) bytes c.in_ok-load_page.ensures.page
    (reads_on _ _ c.args.buffered.now.file _ bytes c.load_page.ensures.changes c.load_page.ensures.file is) in
    part_within bytes c.load_page.new.self.bytes c.bytes_from-part.result.now c.args.at page c.bytes_from-part.ensures c.min-count.result (omega arith) (omega arith)

pub returns-clause-once : goal.returns-clause-once
returns-clause-once g c begins =
    part_once _ _ c.args.buffered.now.file c.args.buffered.now.page c.load_page.new.self.page c.args.at (c.args.at + c.min-count.result)
    c.in_ok-load_page.ensures.page (omega arith) (returns-clause-within g c)
    (load_pages c.args.buffered.now.page c.args.at _ _ begins c.load_page.ensures.causes.reads c.load_page.ensures.same_page)
