use Rattle.std.proofs.Common.{ℕ, map, ◌∙◌, arith}
use Rattle.std.proofs.lemmas.Option.{slice_get_within}
use Rattle.std.specs.Option.{option_copied}
use Rattle.sasi_cells.specs.Maps.{put}
use Rattle.sasi_memindex.specs.Book.{IsKept}
use Rattle.sasi_memindex.specs.MemIndexView.{MemIndexView}
use Rattle.sasi_memindex.proofs.ChangedIndexes.{can_change, handed_on, kept_here, missing_of, same_subjects}
use Rattle.sasi_memindex.proofs.Places.{done_more, left_less}
use Rattle.sasi_memindex.proofs.indexed.change_all.Goals as goal

pub returns-in_err-change_one-clause-subjects : goal.returns-in_err-change_one-clause-subjects
returns-in_err-change_one-clause-subjects g c =
    let on = c.indexes in
    same_subjects on.indexes on.at c.change_one.new.numbered c.index-indexes-at.result c.change_one.ensures.number c.change_one.ensures.subject ∙ on.invariant.same

pub returns-in_err-change_one-clause-missing : goal.returns-in_err-change_one-clause-missing
returns-in_err-change_one-clause-missing g c = λ class e.
    let on = c.indexes in
    missing_of c.args.memtable.now.partitions c.args.indexes.now on.indexes on.at c.index-indexes-at.result (omega (arith, c.indexes-test.true, on.auto.indexes)) on.invariant.left
    (map (λ b. (goal.Analyzer-dyn g (b.vtable, b.value)).kind b.value) c.args.kit.now.objects.items) (map (λ b. (goal.Analyzer-dyn g (b.vtable, b.value)).kind b.value) on.kit.objects.items) class on.invariant.classes
    (c.change_one.ensures.missing class (handed_on c.change_one.result c.from_residual.result c.in_err-change_one.field-0.0 class c.in_err-change_one.was c.from_residual.ensures.1 e))

pub change_one-requires : goal.change_one-requires
change_one-requires g c =
    let on = c.indexes in
    can_change c.args.memtable.now.partitions c.args.indexes.now on.indexes on.at c.index-indexes-at.result (omega (arith, c.indexes-test.true, on.auto.indexes)) on.invariant.left
    c.args.key.now c.args.change.now c.requires.kept c.requires.change (option_copied c.get-old.result) c.get-old.ensures

pub indexes-preserved : goal.indexes-preserved
indexes-preserved g c =
    let on = c.indexes in
    let new = c.change_one.new.numbered in
    record {
      done = done_more (λ (i : ℕ × MemIndexView). IsKept (put c.args.memtable.now.partitions c.args.key.now c.args.change.now) i.1) on.indexes on.at new
          (kept_here c.args.memtable.now.partitions c.args.indexes.now on.indexes on.at c.index-indexes-at.result (omega (arith, c.indexes-test.true, on.auto.indexes)) on.invariant.left
          c.args.key.now c.args.change.now c.requires.kept c.requires.change (option_copied c.get-old.result) c.get-old.ensures new.1 c.in_ok-change_one.ensures.ok c.change_one.ensures.subject)
          on.invariant.done;
      left = left_less c.args.indexes.now on.indexes on.at new on.invariant.left;
      same = same_subjects on.indexes on.at new c.index-indexes-at.result c.change_one.ensures.number c.change_one.ensures.subject ∙ on.invariant.same;
      classes = c.change_one.ensures.classes ∙ on.invariant.classes;
    }

pub returns-clause-ok : goal.returns-clause-ok
returns-clause-ok g c = λ position i h. c.indexes.invariant.done position i (omega (arith, slice_get_within c.indexes.indexes position i h, c.indexes-test.false, c.indexes.auto.indexes)) h
