use Rattle.std.proofs.Common.{◌≡◌, ℕ, List, [], map, take, drop}
use Rattle.std.specs.List.{list_any}
use Rattle.std.specs.BTreeSet.{contains}
use Rattle.sasi_types.specs.Key.{key_cmp}
use Rattle.sasi_model.specs.Statements.{same}
use Rattle.sasi_model.specs.Refusals.{repeat_rules}
use Rattle.sasi_model.specs.Abbreviations.{first_refusal}
use Rattle.sasi_schema.proofs.repeats.repeated_column.Given as goal

-- the set has the names so far, of which none stands twice
abbrev pub invariant-loop-column : goal.invariant-loop-column
invariant-loop-column g l =
    let names = map (λ c. c.0) l.columns in
    record {
      seen : (q : List ℕ) → contains key_cmp l.seen q ≡ list_any (same q) (take l.column-index names);
      once : first_refusal (repeat_rules [] names) ≡ first_refusal (repeat_rules (take l.column-index names) (drop l.column-index names));
    }
