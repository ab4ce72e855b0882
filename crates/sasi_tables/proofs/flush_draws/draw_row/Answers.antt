use Rattle.std.proofs.Common.{◌+◌, ◌^◌, ◌<◌, ℕ, length, sym, ap, subst, ◌∙◌}
use Rattle.std.proofs.lemmas.Result.{err_from_is_err_and}
use Rattle.sasi_manifest.specs.Listings.{by_number}
use Rattle.sasi_tables.specs.FlushDraws.{parts_for}
use Rattle.sasi_tables.proofs.DrawnParts.{drawn_count}
use Rattle.sasi_tables.proofs.flush_draws.draw_row.Goals as goal

pub returns-in_err-next-clause-stops : goal.returns-in_err-next-clause-stops
returns-in_err-next-clause-stops c =
    let p = err_from_is_err_and c.from_residual-in_err-next.result c.from_residual-in_err-next.ensures.1 in
    let row = c.args.row.now in
    let same = c.as_slice-2.ensures ∙ c.in_ok-defs.ensures ∙ ap by_number c.as_slice.ensures in
    rw (p.1, p.2) (c.in_err-next.ensures.spent (parts_for c.args.numbers.part (by_number row.table.indexes)) (drawn_count row c.args.numbers.part ∙ sym (ap length same)))

pub returns-clause-drawn : goal.returns-clause-drawn
returns-clause-drawn c =
    let row = c.args.row.now in
    let defs = c.in_ok-defs.ensures ∙ ap by_number c.as_slice.ensures in
    let parts = c.in_ok-parts.ensures ∙ ap (parts_for c.args.numbers.part) (c.as_slice-3.ensures ∙ defs) in
    let count = ap length (c.as_slice-2.ensures ∙ defs) in
    record {
      defs_are = defs;
      parts_are = parts;
      next_is = c.in_ok-next.ensures.next c.in_ok-parts.parts (ap length parts ∙ drawn_count row c.args.numbers.part ∙ sym count);
      room = subst (λ (n : ℕ). c.args.numbers.part + n < 2 ^ 32) count c.in_ok-next.ensures.room;
    }
