use Rattle.std.proofs.Common.{◌∙◌, ◌++◌, ℕ, List, ap, arith, map}
use Rattle.std.specs.List.{flat_map}
use Rattle.sasi_host.specs.declared.name.FileName.{FileName}
use Rattle.sasi_segments.specs.Sorting.{sort}
use Rattle.sasi_model.specs.Lines.{line}
use Rattle.sasi_print.specs.Files.{file_text}
use Rattle.sasi_print.specs.declared.file_lines.FileState.TheVariants.{Current}
use Rattle.sasi_layout.specs.FileNames.{file_names, names_listed, told_cmp}
use Rattle.sasi_machine_layout.specs.declared.contents.TableContents.{TableContents}
use Rattle.sasi_machine_layout.specs.Contents.{layout_of}
use Rattle.sasi_machine_layout.proofs.FileLines.{lines_told, listed_in, names_are}
use Rattle.sasi_machine_layout.proofs.files.files.Goals as goal

pub returns : goal.returns
returns c =
    let contents = c.args.contents.now in
    let names = c.sort_names.new.names in
    let text : FileName → List ℕ = λ name. file_text name Current 0 in
    lines_told text names.items (file_names (layout_of contents)) _ c.args.reply.now c.push_lines.new.reply c.file_count.new.reply c.file_count.result
    (c.sort_names.ensures
    ∙ ap (λ (l : List FileName). sort told_cmp l)
    (c.in_ok-push_tables.ensures ∙ ap (λ (l : List FileName). l ++ names_listed (map listed_in c.deref.result.now)) c.new-names.ensures.items
    ∙ ap (λ (ts : List TableContents). names_listed (map listed_in ts)) c.deref.ensures.value ∙ names_are contents c.requires))
    (omega (arith, c.len.ensures, names.ok.0))
    (c.in_ok-push_lines.ensures ∙ ap (λ (l : List FileName). c.args.reply.now ++ flat_map line (map text l)) c.deref-2.ensures.value)
    c.file_count.ensures.ok
