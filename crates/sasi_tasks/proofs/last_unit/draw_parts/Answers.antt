use Rattle.std.proofs.Common.{◌≡◌, ◌-◌, ◌∙◌, List, ℕ, Some, ap, slice_get, subst, sym}
use Rattle.std.proofs.lemmas.Result.{IfErr-weaker, IfOk-weaker}
use Rattle.std.specs.List.{filter}
use Rattle.sasi_layout.specs.Compacting.{indexes_left}
use Rattle.sasi_manifest.specs.ListedDefinition.{ListedDefinition}
use Rattle.sasi_manifest.specs.ListedFiles.{is_among}
use Rattle.sasi_manifest.specs.declared.listed.ListedTable.{ListedTable}
use Rattle.sasi_manifest.specs.declared.listing.Listing.{Listing}
use Rattle.sasi_types.specs.declared.index_def.IndexDef.{IndexDef}
use Rattle.sasi_tasks.specs.Running.{StopsDrawn, compaction_of, numbers_of}
use Rattle.sasi_tasks.proofs.DrawnNumbers.{draws, left_there, row_inside}
use Rattle.sasi_tasks.proofs.last_unit.draw_parts.Goals as goal

pub bounds-rows-index : goal.bounds-rows-index
bounds-rows-index c =
    row_inside c.as_slice-rows.result.now c.args.parts.now.manifest.listing.tables (c.as_slice-rows.ensures.tables ∙ ap (λ (l : Listing). l.tables) c.listing.ensures.listing) c.args.running.now.table c.requires.some c.requires.within

-- the numbers that are handed on are those of the indexes that are left
same_left : (c : goal.After-drop-left-inside) (row : ListedDefinition) → slice_get c.args.parts.now.manifest.listing.tables (c.args.running.now.table - 1) ≡ Some row → c.as_slice.result.now ≡ indexes_left (compaction_of c.args.running.now) row.numbers
same_left c row there =
    let seen = c.as_slice-rows.ensures.tables ∙ ap (λ (l : Listing). l.tables) c.listing.ensures.listing in
    let tables = c.args.parts.now.manifest.listing.tables in
    let within = row_inside c.as_slice-rows.result.now tables seen c.args.running.now.table c.requires.some c.requires.within in
    let own : numbers_of c.as_slice-defined.result.now ≡ row.numbers = ap numbers_of c.as_slice-defined.ensures ∙ ap (λ (t : ListedTable). numbers_of t.table.indexes) (sym c.index-rows-index.is) ∙ left_there c.as_slice-rows.result.now tables seen (c.args.running.now.table - 1) c.index-rows-index.result row within c.index-rows-index.is there in
    c.as_slice.ensures ∙ c.in_ok-left.ensures ∙ ap (λ (ds : List IndexDef). filter (is_among (numbers_of c.as_slice-defined.result.now)) (numbers_of ds)) c.indexes.ensures
    ∙ ap (λ (ns : List ℕ). filter (is_among ns) (numbers_of c.args.running.now.task.compaction.indexes)) own

pub returns-clause-drawn : goal.returns-clause-drawn
returns-clause-drawn c = IfOk-weaker c.parts_after.result _ _ (λ parts is row there. draws c.args.parts.now.numbers.part (compaction_of c.args.running.now) row.numbers c.as_slice.result.now parts (same_left c row there) is.0 is.1) c.parts_after.ensures.drawn

pub returns-clause-stops : goal.returns-clause-stops
returns-clause-stops c = IfErr-weaker c.parts_after.result _ _ (λ f is row there. subst (λ (ns : List ℕ). StopsDrawn c.args.parts.now.numbers.part ns f) (same_left c row there) is) c.parts_after.ensures.stops
