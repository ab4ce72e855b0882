use Rattle.std.proofs.Common.{rules}
use Rattle.std.proofs.lemmas.Fn.{dedup_same}
use Rattle.sasi_host.specs.Names.{name_eq}
use Rattle.sasi_store.proofs.show_files.leave_once.Goals as goal

pub returns : goal.returns
returns c = dedup_same _ (λ a b. name_eq a.name b.name) _ (λ x y b f' x' y' k. search rules) _ _ c.dedup_by_key.ensures.filtered
