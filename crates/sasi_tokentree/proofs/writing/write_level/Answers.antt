use Rattle.std.proofs.Common.{◌≡◌, ℕ, length, refl, sym, ◌∙◌, ap, arith}
use Rattle.sasi_tokentree.specs.Format.{nodes, first_nodes}
use Rattle.sasi_tokentree.proofs.Sizes.{first_above_none, level_length}
use Rattle.sasi_tokentree.proofs.LevelSteps.{first_written, next_room, next_changes, next_written, next_fits, next_entry}
use Rattle.sasi_tokentree.proofs.Fitting.{first_none, level_fits, node_more}
use Rattle.sasi_tokentree.proofs.writing.write_level.Goals as goal

pub loop-index-init : goal.loop-index-init
loop-index-init g c = record {
  written = first_written (g.H.Host.view c.args.host.now) c.args.file c.args.at c.args.level c.args.entries.now c.requires.room;
  entries_above = c.new-above.ensures.items ∙ sym (first_above_none c.args.at c.args.entries.now);
  fit = first_none c.args.entries.now;
  fits = λ some. absurd (omega arith);
}

pub write_node-requires-clause-room : goal.write_node-requires-clause-room
write_node-requires-clause-room g c =
    next_room _ _ c.args.file c.args.level c.args.at c.args.entries.now c.loop-index.index (omega arith) c.loop-index.invariant.written

pub returns-in_err-write_node-clause-changes : goal.returns-in_err-write_node-clause-changes
returns-in_err-write_node-clause-changes g c =
    next_changes _ _ _ c.args.file c.args.level c.args.at c.args.entries.now c.loop-index.index c.loop-index.invariant.written c.write_node.ensures.changes

pub returns-in_err-push_entry-clause-changes : goal.returns-in_err-push_entry-clause-changes
returns-in_err-push_entry-clause-changes g c =
    next_changes _ _ _ c.args.file c.args.level c.args.at c.args.entries.now c.loop-index.index c.loop-index.invariant.written c.write_node.ensures.changes

pub loop-index-preserved : goal.loop-index-preserved
loop-index-preserved g c = record {
  written = next_written _ _ _ c.args.file c.args.level c.args.at c.args.entries.now _ c.loop-index.index (omega arith) c.node_entries-here.ensures.is
      c.requires.room c.loop-index.invariant.written c.in_ok-write_node.ensures.ok;
  entries_above = c.in_ok-push_entry.ensures ∙ next_entry c.args.at c.args.entries.now c.node_entries-here.result.now c.loop-index.above.items
      c.loop-index.index _ c.node_entries-here.ensures.is refl c.loop-index.invariant.entries_above;
  fit = node_more c.args.entries.now c.node_entries-here.result.now c.loop-index.index c.node_entries-here.ensures.is c.loop-index.invariant.fit c.in_ok-write_node.ensures.fit;
  fits = λ some. next_fits c.args.level c.args.at c.args.entries.now _ c.loop-index.index (omega arith) c.node_entries-here.ensures.is c.in_ok-write_node.ensures.fits;
}

pub returns-clause-fit : goal.returns-clause-fit
returns-clause-fit g c = level_fits c.args.entries.now c.loop-index.index (omega arith) c.loop-index.invariant.fit

pub returns-clause-fits : goal.returns-clause-fits
returns-clause-fits g c =
    let last : c.loop-index.index ≡ nodes (length c.args.entries.now) = omega arith in
    omega (arith, c.loop-index.invariant.fits, ap (λ (n : ℕ). length (first_nodes c.args.level c.args.entries.now n)) last, level_length c.args.level c.args.entries.now)
