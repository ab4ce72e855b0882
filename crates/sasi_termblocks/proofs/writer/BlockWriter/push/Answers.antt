use Rattle.std.proofs.Common.{arith, subst, sym}
use Rattle.sasi_termblocks.specs.Blocks.{cut_of, items_of}
use Rattle.sasi_termblocks.specs.Writing.{HasPushed, Writer}
use Rattle.sasi_termblocks.proofs.LevelLaws.{entry_pushed}
use Rattle.sasi_termblocks.proofs.writer.BlockWriter.push.Goals as goal

pub returns : goal.returns
returns c entries has =
    let was : Writer = record { packer = c.self.inside.packer; terms = c.self.inside.terms } in
    let full = c.self.inside.packer.full in
    let had = subst (λ (w : Writer). HasPushed w entries) (sym c.self.view_is) has in
    entry_pushed was c.push_entry.new.packer _ entries c.args.entry.now had (omega (arith, full.ok.0, full.ok.1, full.small)) c.self.invariant c.saturating_add-self-inside.ensures c.in_ok-push_entry.ensures.short
    (c.in_ok-push_entry.ensures.ok (cut_of (items_of entries)) had.packs)
