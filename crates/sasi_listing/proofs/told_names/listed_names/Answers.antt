use Rattle.std.proofs.Common.{◌∙◌, ◌++◌, List, ap, map}
use Rattle.sasi_host.specs.declared.name.FileName.{FileName}
use Rattle.sasi_segments.specs.Sorting.{sort}
use Rattle.sasi_manifest.specs.FileNames.{file_names}
use Rattle.sasi_manifest.specs.ListedDefinition.{ListedDefinition}
use Rattle.sasi_manifest.specs.ListedTables.{listed}
use Rattle.sasi_layout.specs.FileNames.{told_cmp}
use Rattle.sasi_listing.proofs.ToldOrder.{names_of_tables}
use Rattle.sasi_listing.proofs.told_names.listed_names.Goals as goal

pub returns : goal.returns
returns c =
    c.sort_names.ensures
    ∙ ap (λ (l : List FileName). sort told_cmp l)
    (c.in_ok-push_tables.ensures ∙ ap (λ (l : List FileName). l ++ file_names (map listed c.as_slice.result.now)) c.new-names.ensures.items ∙ ap (λ (l : List ListedDefinition). file_names l) c.as_slice.ensures.tables
    ∙ names_of_tables c.args.tables.now)
