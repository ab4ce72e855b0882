use Rattle.std.proofs.Common.{rules, ◌∙◌}
use Rattle.std.proofs.lemmas.List.Sorted.{answers_always}
use Rattle.sasi_manifest.specs.declared.files.ListedFile.{ListedFile}
use Rattle.sasi_tasks.proofs.ListedFiles.{search_tells}
use Rattle.sasi_tasks.proofs.unheld.is_listed.Goals as goal

pub returns : goal.returns
returns c =
    let facts = c.binary_search_by_key.ensures in
    let by_number = facts.position (λ (file : ListedFile). file.number) (answers_always _ _ _ (λ f a r g called. search rules)) in
    c.is_ok.ensures.value ∙ search_tells 0 c.requires.0 c.args.files.now c.args.number _ c.requires.1 facts.bound by_number
