use Rattle.std.proofs.Common.{◌++◌, ◌∙◌, List, ap, ap₂, map}
use Rattle.sasi_host.specs.declared.name.FileName.{FileName}
use Rattle.sasi_layout.specs.FileNames.{names_listed, told_cmp}
use Rattle.sasi_manifest.specs.ListedDefinition.{ListedDefinition}
use Rattle.sasi_manifest.specs.declared.listing.Listing.{Listing}
use Rattle.sasi_print.specs.declared.file_lines.FileState.TheVariants.{Building, Current, Obsolete}
use Rattle.sasi_segments.specs.Sorting.{sort}
use Rattle.sasi_store.specs.ToldFiles.{built_of, in_state}
use Rattle.sasi_store.specs.declared.show_files.ToldFile.{ToldFile}
use Rattle.sasi_store.proofs.ToldFiles.{names_are}
use Rattle.sasi_store.proofs.show_files.unsorted.Goals as goal

pub returns : goal.returns
returns c l is =
    let names = c.deref-2.ensures.value ∙ c.in_ok-current.ensures ∙ ap (λ (listing : Listing). sort told_cmp (names_listed (map (λ (t : ListedDefinition). t.files) listing.tables))) c.listing.ensures.listing in
    let current = names_are c.deref-2.result.now c.args.parts.now.manifest.listing l names is in
    let held = c.deref-3.ensures.value ∙ c.in_ok-held.ensures in
    let built = c.deref-4.ensures.value ∙ c.in_ok-built.ensures ∙ ap built_of c.deref.ensures.value in
    c.in_ok-add-3.ensures
    ∙ ap₂ (λ (told : List ToldFile) (ns : List FileName). told ++ in_state Building ns)
    (c.in_ok-add-2.ensures
    ∙ ap₂ (λ (told : List ToldFile) (ns : List FileName). told ++ in_state Obsolete ns)
    (c.in_ok-add.ensures ∙ ap₂ (λ (told : List ToldFile) (ns : List FileName). told ++ in_state Current ns) c.new-told.ensures.items current) held) built
