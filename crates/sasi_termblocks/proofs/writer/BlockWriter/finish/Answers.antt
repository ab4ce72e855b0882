use Rattle.std.proofs.Common.{rules, subst, sym}
use Rattle.sasi_tokentree.proofs.WriteLaws.{changes_past_stays}
use Rattle.sasi_termblocks.specs.Blocks.{items_of}
use Rattle.sasi_termblocks.specs.Writing.{HasPushed, Writer}
use Rattle.sasi_termblocks.proofs.LevelLaws.{level_as, refers}
use Rattle.sasi_termblocks.proofs.writer.BlockWriter.finish.Goals as goal

pub returns-in_err-end_level-clause-changes : goal.returns-in_err-end_level-clause-changes
returns-in_err-end_level-clause-changes g c = changes_past_stays (g.H.Host.view c.args.host.now) c.args.file c.args.at

pub returns-clause-written : goal.returns-clause-written
returns-clause-written g c entries has =
    let had = subst (λ (w : Writer). HasPushed w entries) (sym c.self.view_is) has in
    let level = c.in_ok-end_level.ensures.ok (items_of entries) had.packs in
    let same = level_as _ c.deref.result.now _ c.deref-2.result.now (items_of entries) c.deref.ensures.value c.deref-2.ensures.value level in
    refers c.args.at entries c.reference.result _ c.end_level.new.packer.first_terms.items c.len.result c.in_ok-above.above.levels c.in_ok-above.above.top c.self.inside.terms level
    (c.in_ok-above.ensures.ends (items_of entries) same) (c.in_ok-above.ensures.top (items_of entries) same) had.terms_are (search rules) c.reference.ensures
