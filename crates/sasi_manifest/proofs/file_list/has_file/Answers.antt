use Rattle.std.proofs.Common.{false, slice_get, ap, ◌∙◌}
use Rattle.std.specs.Prelude.{nat_eq}
use Rattle.std.specs.Option.{option_map_or}
use Rattle.sasi_manifest.specs.declared.files.ListedFile.{ListedFile}
use Rattle.sasi_manifest.proofs.FileOrder.{has_there}
use Rattle.sasi_manifest.proofs.file_list.has_file.Goals as goal

pub returns : goal.returns
returns c =
    c.is_at.ensures ∙ ap (λ i. option_map_or (λ (f : ListedFile). nat_eq f.number c.args.number) (slice_get c.args.files.now i) false) c.position_of.ensures.place
    ∙ has_there c.args.number 0 c.args.files.now c.requires
