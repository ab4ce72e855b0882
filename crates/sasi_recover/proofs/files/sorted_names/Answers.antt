use Rattle.std.proofs.Common.{◌∙◌, ◌++◌, ap, List, map}
use Rattle.sasi_host.specs.declared.name.FileName.{FileName}
use Rattle.sasi_manifest.specs.FileNames.{file_names}
use Rattle.sasi_manifest.specs.ListedDefinition.{ListedDefinition}
use Rattle.sasi_manifest.specs.ListedTables.{listed}
use Rattle.sasi_recover.proofs.NameLists.{are_listed, reads_of_names}
use Rattle.sasi_recover.proofs.files.sorted_names.Goals as goal

pub returns-clause-listed : goal.returns-clause-listed
returns-clause-listed c =
    are_listed c.args.listing.now c.push_tables.new.names.items c.sort_unstable.new.self.items
    (c.in_ok-push_tables.ensures ∙ ap (λ (l : List FileName). l ++ file_names (map listed c.as_slice.result.now)) c.new-names.ensures.items ∙ ap (λ (l : List ListedDefinition). file_names l) c.as_slice.ensures.tables)
    c.sort_unstable.ensures.permutation c.sort_unstable.ensures.sorted

pub returns-clause-reads : goal.returns-clause-reads
returns-clause-reads c =
    reads_of_names c.args.listing.now.tables c.push_tables.new.names.items c.sort_unstable.new.self.items
    (c.in_ok-push_tables.ensures ∙ ap (λ (l : List FileName). l ++ file_names (map listed c.as_slice.result.now)) c.new-names.ensures.items ∙ ap (λ (l : List ListedDefinition). file_names l) c.as_slice.ensures.tables)
    c.sort_unstable.ensures.permutation
