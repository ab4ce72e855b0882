use Rattle.std.proofs.Common.{◌≡◌, ℕ, List, [], take, drop}
use Rattle.std.specs.List.{list_any}
use Rattle.std.specs.BTreeSet.{contains}
use Rattle.sasi_types.specs.Key.{key_cmp}
use Rattle.sasi_model.specs.Statements.{same}
use Rattle.sasi_model.specs.Refusals.{repeat_rules}
use Rattle.sasi_model.specs.Abbreviations.{first_refusal}
use Rattle.sasi_schema.proofs.repeats.repeated_name.Given as goal

-- the set has the names so far, of which none stands twice
abbrev pub invariant-loop-name : goal.invariant-loop-name
invariant-loop-name l = record {
  seen : (q : List ℕ) → contains key_cmp l.seen q ≡ list_any (same q) (take l.name-index l.names);
  once : first_refusal (repeat_rules [] l.names) ≡ first_refusal (repeat_rules (take l.name-index l.names) (drop l.name-index l.names));
}
