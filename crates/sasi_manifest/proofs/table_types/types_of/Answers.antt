use Rattle.std.proofs.Common.{rules, ◌<◌, List, length, sym, subst}
use Rattle.sasi_model.specs.State.{Column}
use Rattle.sasi_manifest.proofs.KeyWithin.{key_within}
use Rattle.sasi_manifest.proofs.table_types.types_of.Goals as goal

pub put_others-requires : goal.put_others-requires
put_others-requires c =
    subst (λ (l : List Column). c.args.table.now.key < length l) (sym c.as_slice-columns.ensures)
    (key_within c.args.table.now.key c.args.table.now.columns c.args.table.now.key_is_there)

pub returns : goal.returns
returns c = search rules
