use Rattle.std.proofs.Common.{◌≡◌, ◌++◌, List, ℕ, None, Some, length, ap, subst, sym, arith, length-append}
use Rattle.std.proofs.lemmas.Result.{err_from_is_err_and}
use Rattle.sasi_host.specs.declared.name.FileName.{FileName}
use Rattle.sasi_host.specs.View.{contents}
use Rattle.sasi_host.specs.Buffered.{Buffered}
use Rattle.sasi_host.specs.Sequential.{ReadsEachOnce}
use Rattle.sasi_gated.specs.Format.{header}
use Rattle.sasi_gated.specs.Reads.{GatedDamageShown}
use Rattle.sasi_gated.proofs.Costs.{header_once}
use Rattle.sasi_gated.proofs.Laws.{header_length}
use Rattle.sasi_gated.proofs.Undamaged.{gated_undamaged}
use Rattle.sasi_gated.proofs.Opens.{on_damage_weaker, opened_gate, opened_reading}
use Rattle.sasi_gated.proofs.gated.Gated.open.Goals as goal

pub returns-in_err-read_header-clause-undamaged : goal.returns-in_err-read_header-clause-undamaged
returns-in_err-read_header-clause-undamaged g c =
    let named : c.new-buffered.result.file ≡ c.args.file = ap (λ (b : Buffered). b.file) c.new-buffered.ensures in
    let p = err_from_is_err_and c.from_residual.result c.from_residual.ensures.1 in
    rw (p.1, p.2) (on_damage_weaker _ _ c.in_err-read_header.field-0.0
    (λ damage shows bytes records is gated. gated_undamaged c.args.file bytes damage records gated (shows bytes is))
    (subst (λ (f : FileName). GatedDamageShown (g.H.Host.view c.args.host.now) f c.in_err-read_header.field-0.0) named c.in_err-read_header.ensures.damaged))

pub returns-clause-header : goal.returns-clause-header
returns-clause-header g c bytes is =
    let named : c.new-buffered.result.file ≡ c.args.file = ap (λ (b : Buffered). b.file) c.new-buffered.ensures in
    let begins = subst (λ (f : FileName). contents (g.H.Host.view c.args.host.now) f ≡ Some bytes → (rest : List ℕ) × (bytes ≡ header f ++ rest)) named
    (c.in_ok-read_header.ensures.ok bytes) in
    opened_gate c.args.file bytes (begins is)

pub returns-clause-records : goal.returns-clause-records
returns-clause-records g c bytes records kept gated = opened_reading _ _ c.args.file bytes records c.read_header.ensures.changes kept gated

pub returns-clause-sequential : goal.returns-clause-sequential
returns-clause-sequential g c =
    subst (λ (f : FileName). ReadsEachOnce (g.H.Host.view c.args.host.now) (g.H.Host.view c.read_header.new.host) f None c.read_header.new.buffered.page 16)
    (sym c.read_header.ensures.file)
    (header_once (g.H.Host.view c.args.host.now) (g.H.Host.view c.read_header.new.host) c.new-buffered.result.file c.read_header.new.buffered.page
    c.in_ok-read_header.ensures.page (λ bytes is.
    let begins = c.in_ok-read_header.ensures.ok bytes is in
    omega (arith, ap length begins.1, length-append (header c.new-buffered.result.file) begins.0, header_length c.new-buffered.result.file))
    c.read_header.ensures.reads)
