use Rattle.std.proofs.Common.{ℕ, ◌+◌, ◌*◌, ◌/◌, ◌%◌, refl, subst, arith, ◌∙◌, ap, Some}
use Rattle.sasi_host.specs.Damages.{HasAt}
use Rattle.sasi_host.proofs.Offsets.{window_at, inner_at}
use Rattle.sasi_tokentree.specs.Format.{entry}
use Rattle.sasi_tokentree.proofs.NodeParts.{entry_at}
use Rattle.sasi_tokentree.proofs.pair_scan.read_entry.Goals as goal

pub returns-clause-stands : goal.returns-clause-stands
returns-clause-stands g c bytes is =
    let place = c.args.at + 4088 * (c.args.index / 255) + (8 + 16 * (c.args.index % 255)) in
    let out = c.read_into.new.out in
    let has : HasAt bytes place out = window_at bytes out place 16 (rw c.offset_of.ensures at (c.in_ok-read_into.ensures.ok bytes is))
    (rw c.offset_of.ensures at (c.in_ok-read_into.ensures.within bytes is (omega arith))) in
    subst (λ (n : ℕ). HasAt bytes n (entry (record { token = c.number_in.result; place = c.number_in-2.result }))) (omega arith)
    (inner_at bytes place out 0 (entry (record { token = c.number_in.result; place = c.number_in-2.result })) has
    (entry_at out 0 _ _ _ _ refl refl (omega arith) c.number_in.ensures c.number_in-2.ensures))

pub returns-clause-page : goal.returns-clause-page
returns-clause-page g c = c.in_ok-read_into.ensures.page (omega arith) ∙ ap (λ (n : ℕ). Some (n / 4096)) (omega arith)
