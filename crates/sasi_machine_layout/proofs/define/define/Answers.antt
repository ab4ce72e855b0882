use Rattle.std.proofs.Common.{ℕ, ◌+◌, ap, refl, sym, subst, ◌∙◌}
use Rattle.sasi_schema.specs.IndexFacts.{IsIndexIn}
use Rattle.sasi_schema.specs.SchemaViews.{numbered_def, with_index_def}
use Rattle.sasi_types.specs.declared.index_def.IndexDef.{IndexDef}
use Rattle.sasi_machine_layout.proofs.DefinedContents.{define_made, same_layout}
use Rattle.sasi_machine_layout.proofs.KeptContents.{contents_same, define_contents, index_in}
use Rattle.sasi_machine_layout.proofs.MovesMade.{at_err}
use Rattle.sasi_machine_layout.proofs.define.define.Goals as goal

pub restore_index-requires : goal.restore_index-requires
restore_index-requires c = subst (IsIndexIn c.args.contents.now.schema.definitions) (sym c.numbered-def.ensures) (index_in c.args.contents.now c.args.new c.in_ok-number.number c.requires.contents c.requires.addable)

pub returns-in_err-restore_index-clause-err : goal.returns-in_err-restore_index-clause-err
returns-in_err-restore_index-clause-err c = at_err _ (same_layout c.args.contents.now c.restore_index.new.self c.args.contents.now.tables.items c.in_err-restore_index.ensures.err refl)

pub returns-in_err-restore_index-clause-kept : goal.returns-in_err-restore_index-clause-kept
returns-in_err-restore_index-clause-kept c =
    let old = c.args.contents.now in
    contents_same old _ c.requires.contents refl c.in_err-restore_index.ensures.err refl refl (same_layout old c.restore_index.new.self old.tables.items c.in_err-restore_index.ensures.err refl)

pub returns-clause-ok : goal.returns-clause-ok
returns-clause-ok c =
    let number = c.in_ok-number.ensures ∙ ap (λ (n : ℕ). n + 1) c.last_index-last.ensures in
    define_made c.args.contents.now c.args.new c.numbered-def.result c.in_ok-number.number c.restore_index.new.self c.in_ok-records.records c.in_ok-length.length c.in_ok-edits.edits c.requires.contents c.requires.addable number c.numbered-def.ensures
    c.in_ok-restore_index.ensures.ok c.in_ok-edits.ensures c.in_ok-records.ensures c.in_ok-length.ensures

pub returns-clause-kept : goal.returns-clause-kept
returns-clause-kept c =
    let old = c.args.contents.now in
    let number = c.in_ok-number.ensures ∙ ap (λ (n : ℕ). n + 1) c.last_index-last.ensures in
    define_contents old _ (numbered_def c.in_ok-number.number c.args.new) c.requires.contents refl
    (c.in_ok-restore_index.ensures.ok ∙ ap (λ (d : IndexDef). with_index_def d old.schema) c.numbered-def.ensures) refl refl
    (define_made old c.args.new c.numbered-def.result c.in_ok-number.number c.restore_index.new.self c.in_ok-records.records c.in_ok-length.length c.in_ok-edits.edits c.requires.contents c.requires.addable number c.numbered-def.ensures
    c.in_ok-restore_index.ensures.ok c.in_ok-edits.ensures c.in_ok-records.ensures c.in_ok-length.ensures)
