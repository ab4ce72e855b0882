use Rattle.std.proofs.Common.{◌++◌, List, ap, ◌∙◌}
use Rattle.std.proofs.lemmas.Result.{on_ok_weaker}
use Rattle.sasi_model.specs.Lines.{files_lines}
use Rattle.sasi_segments.specs.Sorting.{sort}
use Rattle.sasi_store.specs.ToldFiles.{counted_texts, file_cmp, once}
use Rattle.sasi_store.specs.declared.show_files.ToldFile.{ToldFile}
use Rattle.sasi_store.proofs.show_files.show_files.Goals as goal

pub returns : goal.returns
returns c =
    on_ok_weaker c.print_files.result
    (λ printed l is.
    let told = c.deref.ensures.value ∙ c.leave_once.ensures ∙ ap once (c.sort_told.ensures ∙ ap (λ (fs : List ToldFile). sort file_cmp fs) (c.in_ok-told.ensures l is)) in
    printed ∙ ap (λ (fs : List ToldFile). c.args.reply.now ++ files_lines (counted_texts c.args.session.now.views fs)) told)
    c.print_files.ensures
