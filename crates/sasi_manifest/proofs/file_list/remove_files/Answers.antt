use Rattle.std.proofs.Common.{not, rules, sym, ◌∙◌}
use Rattle.std.proofs.lemmas.Fn.{filter_same}
use Rattle.sasi_manifest.specs.ListedFiles.{is_among}
use Rattle.sasi_manifest.proofs.FileOrder.{all_stay}
use Rattle.sasi_manifest.proofs.file_list.remove_files.Goals as goal

pub returns-then-is_empty-clause-items : goal.returns-then-is_empty-clause-items
returns-then-is_empty-clause-items c = sym (all_stay c.args.removed.now c.args.files.now.items (sym c.is_empty.ensures ∙ c.if-is_empty.true))

pub returns-clause-items : goal.returns-clause-items
returns-clause-items c = filter_same _ (λ f. not (is_among c.args.removed.now f.number)) _ (λ x b f' k. search rules) _ _ c.retain.ensures.filtered
