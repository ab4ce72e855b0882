use Rattle.std.proofs.Common.{◌≡◌, ◌++◌, refl, ◌∙◌, rules, subst}
use Rattle.sasi_types.specs.declared.mode.Mode.{Mode}
use Rattle.sasi_host.proofs.ChangeLaws.{touches_on}
use Rattle.sasi_indexwrite.specs.TermsSoFar.{with_pairs}
use Rattle.sasi_indexwrite.specs.Writing.{IsWritten}
use Rattle.sasi_host.specs.Names.{Bytes}
use Rattle.sasi_indexwrite.proofs.AllTrees.{all_trees}
use Rattle.sasi_indexwrite.proofs.Appends.{of_file}
use Rattle.sasi_indexwrite.proofs.term_writer.end_terms.Goals as goal

pub returns-in_err-end_superblock-clause-changes : goal.returns-in_err-end_superblock-clause-changes
returns-in_err-end_superblock-clause-changes g c =
    touches_on _ _ _ c.args.writer.now.trees.file c.write_term.ensures.changes (of_file _ _ c.args.writer.now.trees.file c.write_term.new.writer.trees.file c.write_term.ensures.file c.end_superblock.ensures.changes)

pub returns-in_err-write_out-clause-changes : goal.returns-in_err-write_out-clause-changes
returns-in_err-write_out-clause-changes g c =
    touches_on _ _ _ c.args.writer.now.trees.file
    (touches_on _ _ _ c.args.writer.now.trees.file c.write_term.ensures.changes (of_file _ _ c.args.writer.now.trees.file c.write_term.new.writer.trees.file c.write_term.ensures.file c.end_superblock.ensures.changes))
    (of_file _ _ c.args.writer.now.trees.file c.end_superblock.new.trees.file (c.end_superblock.ensures.file ∙ c.write_term.ensures.file) c.write_out.ensures.changes)

pub returns-clause-changes : goal.returns-clause-changes
returns-clause-changes g c =
    touches_on _ _ _ c.args.writer.now.trees.file
    (touches_on _ _ _ c.args.writer.now.trees.file c.write_term.ensures.changes (of_file _ _ c.args.writer.now.trees.file c.write_term.new.writer.trees.file c.write_term.ensures.file c.end_superblock.ensures.changes))
    (of_file _ _ c.args.writer.now.trees.file c.end_superblock.new.trees.file (c.end_superblock.ensures.file ∙ c.write_term.ensures.file) c.write_out.ensures.changes)

pub returns-clause-ok : goal.returns-clause-ok
returns-clause-ok g c header closed was =
    let before = c.args.writer.now in
    let whole = closed ++ with_pairs before.term before.pairs in
    let writer = c.write_term.new.writer in
    let ended = c.in_ok-end_superblock.ensures in
    let term : c.replace-last.result ≡ before.term = search rules in
    let has =
    subst (λ (m : Mode). IsWritten m (g.H.Host.view c.write_term.new.host) writer.trees writer.blocks writer.groups writer.common header whole) c.write_term.ensures.mode
    (subst (λ (t : Bytes). IsWritten writer.mode (g.H.Host.view c.write_term.new.host) writer.trees writer.blocks writer.groups writer.common header (closed ++ with_pairs t before.pairs)) term (c.in_ok-write_term.ensures.ok header closed was))
    in
    all_trees (g.H.Host.view c.write_term.new.host) (g.H.Host.view c.end_superblock.new.host) (g.H.Host.view c.write_out.new.host) writer
    (record { mode = writer.mode; trees = c.write_out.new.trees; blocks = writer.blocks; term = writer.term; pairs = writer.pairs; groups = c.end_superblock.new.groups; common = writer.common }) c.end_superblock.new.trees header whole
    ended.ok ended.next ended.table c.in_ok-write_out.ensures.ok c.in_ok-write_out.ensures.next refl refl before.mode has
