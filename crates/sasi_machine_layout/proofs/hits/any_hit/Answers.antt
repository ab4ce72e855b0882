use Rattle.std.proofs.Common.{subst, sym, ◌∙◌}
use Rattle.std.proofs.lemmas.List.{drop_more}
use Rattle.std.specs.List.{AllByRecursion}
use Rattle.sasi_candidates.specs.Parts.{hit}
use Rattle.sasi_machine.specs.Where.{model_search}
use Rattle.sasi_model.specs.Indexes.{index_of}
use Rattle.sasi_schema.specs.Defined.{definition, numbers_of}
use Rattle.sasi_machine_layout.specs.Contents.{IsKept, table_with}
use Rattle.sasi_machine_layout.specs.Hits.{parts_in}
use Rattle.sasi_machine_layout.specs.declared.contents.FileContents.{FileContents}
use Rattle.sasi_machine_layout.proofs.PartHits.{file_hit, file_passed}
use Rattle.sasi_machine_layout.proofs.hits.any_hit.Goals as goal

pub returns-then-branch-clause-found : goal.returns-then-branch-clause-found
returns-then-branch-clause-found g c =
    file_hit (hit (index_of c.args.index.now) (model_search c.args.search.now) c.args.key.now) (table_with (definition c.args.table.now) (numbers_of c.args.table.now) c.args.parts.now) c.args.parts.now.memtable.partitions
    c.as_slice-files.result.now c.loop-file.file-index c.file-item.result (parts_in c.args.table.now c.args.parts.now) c.loop-file-test.true c.file-item.is
    (sym c.in_ok-hit_in_file.ensures.found ∙ c.if-branch.true) c.loop-file.invariant.found

pub loop-file-preserved : goal.loop-file-preserved
loop-file-preserved g c = record {
  found = file_passed (hit (index_of c.args.index.now) (model_search c.args.search.now) c.args.key.now) (table_with (definition c.args.table.now) (numbers_of c.args.table.now) c.args.parts.now) c.args.parts.now.memtable.partitions
      c.as_slice-files.result.now c.loop-file.file-index c.file-item.result (parts_in c.args.table.now c.args.parts.now) c.loop-file-test.true c.file-item.is
      (sym c.in_ok-hit_in_file.ensures.found ∙ c.if-branch.false) c.loop-file.invariant.found;
  texts = (subst (AllByRecursion (λ (f : FileContents). IsKept f.holds.partitions)) (drop_more c.as_slice-files.result.now c.loop-file.file-index c.file-item.result c.loop-file-test.true) c.loop-file.invariant.texts).1;
  kinds = c.hit_in_file.ensures.kinds ∙ c.loop-file.invariant.kinds;
}
