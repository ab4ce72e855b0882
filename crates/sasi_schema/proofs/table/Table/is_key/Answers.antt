use Rattle.std.proofs.Common.{◌≡◌, ◌∙◌, rules}
use Rattle.sasi_model.specs.Abbreviations.{key_name}
use Rattle.sasi_model.specs.Statements.{same}
use Rattle.sasi_schema.specs.Defined.{definition}
use Rattle.sasi_schema.proofs.Keys.{is_key_by_name}
use Rattle.sasi_schema.proofs.table.Table.is_key.Goals as goal

pub returns : goal.returns
returns c =
    let t = c.args.self.now in
    let compared : c.eq.result ≡ same c.args.column.now (key_name (definition t)) = search rules in
    compared ∙ is_key_by_name (definition t) c.args.column.now t.key_is_there
