use Rattle.std.proofs.Common.{sym, refl}
use Rattle.sasi_schema.specs.Defined.{definition, definitions}
use Rattle.sasi_schema.proofs.IndexColumns.{indexable}
use Rattle.sasi_schema.proofs.index.new_index.Goals as goal

pub returns-clause-made : goal.returns-clause-made
returns-clause-made c =
    let t = c.in-Some.found.now in
    let ensures = c.in_ok-number.ensures in
    let is = indexable (definitions c.args.tables.now) (definition t) c.args.name c.args.column.now c.args.class.now c.args.options.now c.in_ok-number.number c.in_ok-number.kind t.key_is_there
    ensures.answers ensures.number ensures.kind in
    record {
      definition = definition t;
      found = sym c.in-Some.ensures.definition;
      number = sym (c.in-Some.ensures.number c.requires);
      index = rw (ensures.number, ensures.kind, c.mode_given.ensures, c.rule_given.ensures) refl;
      kind = is.kind;
      above = is.above;
      within = is.within;
      ruled = rw c.rule_given.ensures is.ruled;
    }
