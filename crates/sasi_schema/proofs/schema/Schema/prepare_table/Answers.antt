use Rattle.std.proofs.Common.{◌<◌, ◌+◌, sym, ◌∙◌, rules, subst}
use Rattle.std.specs.List.{All}
use Rattle.std.proofs.lemmas.List.Elements.{All-nil}
use Rattle.sasi_schema.specs.IndexFacts.{IsIndexOf}
use Rattle.sasi_schema.specs.Defined.{definitions}
use Rattle.sasi_schema.proofs.Allowed.{allowed, few_tables}
use Rattle.sasi_schema.proofs.schema.Schema.prepare_table.Goals as goal

pub key_position-key-requires : goal.key_position-key-requires
key_position-key-requires c = (allowed (definitions c.deref.result.now) c.args.table.now c.as_slice-columns_in.result.now c.args.keys.now c.in_ok-check.ensures).few

pub overflow_cast-number : goal.overflow_cast-number
overflow_cast-number c =
    let is = allowed (definitions c.deref.result.now) c.args.table.now c.as_slice-columns_in.result.now c.args.keys.now c.in_ok-check.ensures in
    let few : c.len.result < 256 = few_tables c.deref.result.now c.len.result (c.len.ensures ∙ sym c.deref.ensures.len) is in
    search rules

pub overflow_add-number : goal.overflow_add-number
overflow_add-number c =
    let is = allowed (definitions c.deref.result.now) c.args.table.now c.as_slice-columns_in.result.now c.args.keys.now c.in_ok-check.ensures in
    let few : c.len.result < 256 = few_tables c.deref.result.now c.len.result (c.len.ensures ∙ sym c.deref.ensures.len) is in
    search rules

pub invariant_of-result : goal.invariant_of-result
invariant_of-result c =
    let is = allowed (definitions c.deref.result.now) c.args.table.now c.as_slice-columns_in.result.now c.args.keys.now c.in_ok-check.ensures in
    record {
      key_is_there = rw (c.in_ok-copy-2.ensures, c.key_position-key.ensures, ← c.as_slice-columns_in.ensures) is.key;
      few = rw (c.in_ok-copy-2.ensures, ← c.as_slice-columns_in.ensures) is.few;
      index_facts = subst (All (IsIndexOf (c.len.result + 1) c.in_ok-copy-2.field-0 c.key_position-key.result)) (sym c.new.ensures) (All-nil _);
    }
