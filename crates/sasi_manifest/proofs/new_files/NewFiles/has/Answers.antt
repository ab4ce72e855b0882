use Rattle.std.proofs.Common.{◌∙◌, List, ap, ℕ}
use Rattle.sasi_manifest.specs.ListedFiles.{is_among, has_file}
use Rattle.sasi_manifest.specs.declared.files.ListedFile.{ListedFile}
use Rattle.sasi_manifest.proofs.NumberTrees.{has_numbers}
use Rattle.sasi_manifest.proofs.new_files.NewFiles.has.Goals as goal

pub returns : goal.returns
returns c =
    c.has.ensures ∙ ap (λ (l : List ℕ). is_among l c.args.number) c.self.invariant ∙ has_numbers c.args.number c.self.inside.files
    ∙ ap (λ (l : List ListedFile). has_file l c.args.number) c.self.view_is
