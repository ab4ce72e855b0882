use Rattle.std.proofs.Common.{◌≡◌, ◌-◌, ◌^◌, ℕ, IfOk, List, Option, min, sym, ap, subst, ◌∙◌}
use Rattle.std.specs.Option.{option_map_or}
use Rattle.sasi_candidates.specs.Checks.{checked}
use Rattle.sasi_machine.specs.Refusal.{refusal_of}
use Rattle.sasi_model.specs.Conditions.{Condition}
use Rattle.sasi_model.specs.Filters.{row_limit, where_of}
use Rattle.sasi_model.specs.Refusals.{Refusal}
use Rattle.sasi_schema.specs.Defined.{definition, numbers_of}
use Rattle.sasi_machine_layout.specs.Checks.{table_checks}
use Rattle.sasi_machine_layout.specs.Contents.{table_with}
use Rattle.sasi_machine_layout.specs.Hits.{parts_in}
use Rattle.sasi_machine_layout.proofs.AnsweredChecks.{missing_kinds, refused_none, taken}
use Rattle.sasi_machine_layout.proofs.candidates.count_in.Goals as goal

pub returns-then-is_some-clause-checks : goal.returns-then-is_some-clause-checks
returns-then-is_some-clause-checks g c =
    sym (refused_none refusal_of c.in_ok-refused.refused _ (table_checks (table_with (definition c.args.table.now) (numbers_of c.args.table.now) c.args.parts.now) c.args.select.now)
    c.in_ok-refused.ensures.refusal (sym c.is_some.ensures ∙ c.if-is_some.true))

pub new-requires : goal.new-requires
new-requires g c = record { written = c.requires.written; taken = taken refusal_of c.in_ok-refused.refused _ c.in_ok-refused.ensures.refusal (sym c.is_some.ensures ∙ c.if-is_some.false) }

pub returns-clause-checks : goal.returns-clause-checks
returns-clause-checks g c =
    let q = c.in_ok-query.query in
    let d = definition c.args.table.now in
    let t = table_with d (numbers_of c.args.table.now) c.args.parts.now in
    let none = taken refusal_of c.in_ok-refused.refused _ c.in_ok-refused.ensures.refusal (sym c.is_some.ensures ∙ c.if-is_some.false) in
    let same : min (checked q.limit (where_of q.filter) (parts_in c.args.table.now c.args.parts.now)) (2 ^ 64 - 1) ≡ table_checks t c.args.select.now =
    ap (λ (limit : Option ℕ). min (checked limit (where_of q.filter) (parts_in c.args.table.now c.args.parts.now)) (2 ^ 64 - 1)) c.in_ok-query.ensures.limit
    ∙ ap (λ (cs : List Condition). min (checked (row_limit c.args.select.now.limit) (where_of cs) (parts_in c.args.table.now c.args.parts.now)) (2 ^ 64 - 1)) c.in_ok-query.ensures.filter in
    subst (λ (n : ℕ). IfOk c.checked.result (λ count. count ≡ n)) (same ∙ sym (ap (λ (o : Option Refusal). option_map_or (λ r. 0) o (table_checks t c.args.select.now)) none)) c.checked.ensures.count

pub returns-clause-missing : goal.returns-clause-missing
returns-clause-missing g c =
    missing_kinds (definition c.args.table.now) c.in_ok-query.query.filter _ _ c.checked.result (c.new.ensures.kinds ∙ c.select_refusal.ensures.kinds) (λ class. c.in_ok-query.ensures.classes _ class) c.checked.ensures.missing
