use Rattle.std.proofs.Common.{◌∙◌, ◌^◌, ◌-◌, ap, length, min, sym}
use Rattle.sasi_manifest.specs.declared.edit.Edit.{Edit}
use Rattle.sasi_manifest.proofs.EditBytes.{create_length, edit_bytes, index_length, replace_length}
use Rattle.sasi_manifest.proofs.size.edit_size.Goals as goal

pub returns-in-CreateTable : goal.returns-in-CreateTable
returns-in-CreateTable c =
    c.create_size.ensures ∙ ap (λ n. min n (2 ^ 64 - 1)) (sym (create_length _ _ _ _ _)) ∙ ap (λ (e : Edit). min (length (edit_bytes e)) (2 ^ 64 - 1)) (sym c.in-CreateTable.is)

pub returns-in-CreateIndex : goal.returns-in-CreateIndex
returns-in-CreateIndex c =
    c.index_size.ensures ∙ ap (λ n. min n (2 ^ 64 - 1)) (sym (index_length _ _)) ∙ ap (λ (e : Edit). min (length (edit_bytes e)) (2 ^ 64 - 1)) (sym c.in-CreateIndex.is)

pub returns-in-Replace : goal.returns-in-Replace
returns-in-Replace c =
    c.replace_size.ensures ∙ ap (λ n. min n (2 ^ 64 - 1)) (sym (replace_length _ _ _ _ _ _)) ∙ ap (λ (e : Edit). min (length (edit_bytes e)) (2 ^ 64 - 1)) (sym c.in-Replace.is)
