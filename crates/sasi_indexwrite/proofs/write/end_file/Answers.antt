use Rattle.std.proofs.Common.{◌≡◌, ◌++◌, List, length, ap, sym, ◌∙◌, subst}
use Rattle.std.specs.List.{flat_map}
use Rattle.sasi_types.specs.declared.mode.Mode.{Mode}
use Rattle.sasi_types.specs.declared.tree.Pair.{Pair}
use Rattle.sasi_types.specs.declared.tree.TreeRef.{TreeRef}
use Rattle.sasi_host.specs.Names.{Bytes}
use Rattle.sasi_host.specs.View.{Holds}
use Rattle.sasi_formats.specs.Formats.{encoded}
use Rattle.sasi_tokentree.specs.Format.{IsRising}
use Rattle.sasi_termblocks.specs.declared.term_entry.TermEntry.{TermEntry}
use Rattle.sasi_termblocks.specs.Entries.{tree}
use Rattle.sasi_termblocks.specs.Writing.{HasPushed}
use Rattle.sasi_indexwrite.specs.TermsSoFar.{with_pairs}
use Rattle.sasi_indexwrite.specs.Writing.{EndsWithBlocks, IsTableOf, spill_of}
use Rattle.sasi_indexwrite.proofs.Making.{spill_rising}
use Rattle.sasi_host.specs.Disk.{IsSynced}
use Rattle.sasi_host.proofs.ChangeLaws.{touches_on}
use Rattle.sasi_indexwrite.proofs.Appends.{of_file}
use Rattle.sasi_indexwrite.proofs.Endings.{file_ends}
use Rattle.sasi_indexwrite.proofs.write.end_file.Goals as goal

pub returns-in_err-spilled-clause-changes : goal.returns-in_err-spilled-clause-changes
returns-in_err-spilled-clause-changes g c =
    touches_on _ _ _ c.args.writer.trees.file c.end_terms.ensures.changes (of_file _ _ c.args.writer.trees.file c.end_terms.new.writer.trees.file c.end_terms.ensures.file c.write_spill.ensures.changes)

pub returns-in_err-write_blocks-clause-changes : goal.returns-in_err-write_blocks-clause-changes
returns-in_err-write_blocks-clause-changes g c =
    touches_on _ _ _ c.args.writer.trees.file (touches_on _ _ _ c.args.writer.trees.file c.end_terms.ensures.changes (of_file _ _ c.args.writer.trees.file c.end_terms.new.writer.trees.file c.end_terms.ensures.file c.write_spill.ensures.changes))
    (of_file _ _ c.args.writer.trees.file c.end_terms.new.writer.trees.file c.end_terms.ensures.file c.write_blocks.ensures.changes)

pub returns-clause-changes : goal.returns-clause-changes
returns-clause-changes g c =
    touches_on _ _ _ c.args.writer.trees.file (touches_on _ _ _ c.args.writer.trees.file c.end_terms.ensures.changes (of_file _ _ c.args.writer.trees.file c.end_terms.new.writer.trees.file c.end_terms.ensures.file c.write_spill.ensures.changes))
    (of_file _ _ c.args.writer.trees.file c.end_terms.new.writer.trees.file c.end_terms.ensures.file c.write_blocks.ensures.changes)

pub returns-clause-synced : goal.returns-clause-synced
returns-clause-synced g c = subst (λ f. IsSynced (g.H.Host.view c.write_blocks.new.host) f) c.end_terms.ensures.file c.in_ok-write_blocks.ensures.synced

pub returns-in_err-spill-clause-changes : goal.returns-in_err-spill-clause-changes
returns-in_err-spill-clause-changes g c = c.end_terms.ensures.changes

pub write_spill-requires-clause-rising : goal.write_spill-requires-clause-rising
write_spill-requires-clause-rising g c =
    subst (λ (l : List Pair). IsRising l) (sym c.in_ok-spill.ensures) (spill_rising c.end_terms.new.writer.mode c.end_terms.new.writer.common c.args.spill c.requires.rising)

pub returns-clause-ok : goal.returns-clause-ok
returns-clause-ok g c header closed was =
    let writer = c.end_terms.new.writer in
    file_ends (g.H.Host.view c.end_terms.new.host) (g.H.Host.view c.write_spill.new.host) (g.H.Host.view c.write_blocks.new.host) c.args.writer.trees.file c.args.writer.mode writer c.in_ok-spilled.spilled.blocks_at
    c.in_ok-spilled.spilled.tree header (closed ++ with_pairs c.args.writer.term c.args.writer.pairs) c.args.spill c.in_ok-spill.spill c.end_terms.ensures.file c.in_ok-end_terms.ensures.none (c.in_ok-end_terms.ensures.ok header closed was)
    (c.in_ok-spill.ensures ∙ ap (λ (m : Mode). spill_of m writer.common c.args.spill) c.end_terms.ensures.mode) c.in_ok-spilled.ensures.ok c.in_ok-spilled.ensures.blocks_at c.in_ok-spilled.ensures.tree c.in_ok-spilled.ensures.fit
    (subst (λ (l : List TreeRef). (bytes : Bytes) (entries : List TermEntry) (mode : Mode) → length bytes ≡ c.in_ok-spilled.spilled.blocks_at → Holds (g.H.Host.view c.write_spill.new.host) writer.trees.file bytes → HasPushed writer.blocks entries
    → IsTableOf mode l entries → EndsWithBlocks (g.H.Host.view c.write_blocks.new.host) writer.trees.file mode bytes entries (flat_map (encoded tree) l) c.in_ok-spilled.spilled.tree) c.deref.ensures.value c.in_ok-write_blocks.ensures.ok)
