use Rattle.std.proofs.Common.{ℕ, ◌+◌, ◌∙◌, arith, length, subst, sym}
use Rattle.sasi_host.specs.View.{Reaches}
use Rattle.sasi_tokentree.proofs.HeightLaws.{rises}
use Rattle.sasi_tokentree.proofs.WriteLaws.{changes_past_on}
use Rattle.sasi_tokentree.proofs.LevelSteps.{last_written, last_top, more_written, more_top, above_length, up_room}
use Rattle.sasi_tokentree.proofs.TreeSizes.{last_fits, more_fits}
use Rattle.sasi_tokentree.proofs.writing.+write_levels.Goals as goal

pub returns-then-entries-le-MAX_ENTRIES-clause-ok : goal.returns-then-entries-le-MAX_ENTRIES-clause-ok
returns-then-entries-le-MAX_ENTRIES-clause-ok g t c most enough =
    last_written _ _ c.args.file c.args.level c.args.at most c.args.entries.now c.requires.some (omega arith) enough c.in_ok-above.ensures.ok

pub returns-then-entries-le-MAX_ENTRIES-clause-top : goal.returns-then-entries-le-MAX_ENTRIES-clause-top
returns-then-entries-le-MAX_ENTRIES-clause-top g t c most enough = last_top c.args.at most _ c.requires.some (omega arith) enough

pub write_levels-requires : goal.write_levels-requires
write_levels-requires g t c κs within =
    let next = above_length c.args.at c.args.entries.now c.deref.result.now (c.deref.ensures.value ∙ c.in_ok-above.ensures.above) in
    let room : Reaches (g.H.Host.view c.write_level.new.host) c.args.file (c.args.at + c.level_size.result) =
    subst (λ (n : ℕ). Reaches (g.H.Host.view c.write_level.new.host) c.args.file (c.args.at + n)) (sym c.level_size.ensures)
    (up_room (g.H.Host.view c.write_level.new.host) c.args.file c.args.level c.args.at c.args.entries.now c.in_ok-above.ensures.ok.reaches)
    in
    (omega (arith, next), (within, (room, (omega (arith, next), rises c.args.level _ _ (omega arith) c.requires.most next))))

pub returns-clause-ok : goal.returns-clause-ok
returns-clause-ok g t c most enough =
    more_written _ _ _ c.args.file c.args.level c.args.at most c.args.entries.now c.deref.result.now (omega arith) enough
    (c.deref.ensures.value ∙ c.in_ok-above.ensures.above) c.requires.room c.in_ok-above.ensures.ok
    (rw c.level_size.ensures at c.in_ok-root.ensures.ok)

pub returns-clause-top : goal.returns-clause-top
returns-clause-top g t c most enough =
    more_top c.args.at most (length c.args.entries.now) (length c.deref.result.now) c.in_ok-root.root (omega arith) enough
    (above_length c.args.at c.args.entries.now c.deref.result.now (c.deref.ensures.value ∙ c.in_ok-above.ensures.above))
    (rw c.level_size.ensures at c.in_ok-root.ensures.top)

pub returns-clause-changes : goal.returns-clause-changes
returns-clause-changes g t c = changes_past_on _ _ _ c.args.file c.args.at (c.args.at + c.level_size.result) (omega arith) c.write_level.ensures.changes c.write_levels.ensures.changes

pub returns-in_err-root-clause-changes : goal.returns-in_err-root-clause-changes
returns-in_err-root-clause-changes g t c = changes_past_on _ _ _ c.args.file c.args.at (c.args.at + c.level_size.result) (omega arith) c.write_level.ensures.changes c.write_levels.ensures.changes

pub returns-then-entries-le-MAX_ENTRIES-clause-fits : goal.returns-then-entries-le-MAX_ENTRIES-clause-fits
returns-then-entries-le-MAX_ENTRIES-clause-fits g t c most enough = last_fits c.args.at most (length c.args.entries.now) c.requires.some (omega arith) enough c.in_ok-above.ensures.fits

pub returns-clause-fits : goal.returns-clause-fits
returns-clause-fits g t c most enough =
    more_fits c.args.at most (length c.args.entries.now) (length c.deref.result.now) (omega arith) enough
    (above_length c.args.at c.args.entries.now c.deref.result.now (c.deref.ensures.value ∙ c.in_ok-above.ensures.above))
    (rw c.level_size.ensures at c.in_ok-root.ensures.fits)
