-- An index that was prepared may be added to its table.
use Rattle.std.proofs.Common.{◌≡◌, ℕ, zero, suc, ◌-◌, ◌≤◌, true, false, List, [], ◌∷◌, if◌then◌else◌, Option, None, Some, slice_get, refl, ap, ◌∙◌, arith}
use Rattle.sasi_model.specs.State.{Definition, definition_of}
use Rattle.sasi_model.specs.Abbreviations.{one_more}
use Rattle.sasi_model.specs.Indexes.{IndexOption}
use Rattle.sasi_model.specs.Tokens.{same}
use Rattle.sasi_schema.specs.declared.index.NewIndex.{NewIndex}
use Rattle.sasi_schema.specs.IndexFacts.{IsIndexIn}
use Rattle.sasi_schema.specs.Numbers.{number_of_table}
use Rattle.sasi_schema.specs.SchemaViews.{IsNewIndex, numbered_def}
use Rattle.sasi_schema.proofs.Indexed.{number_within}

-- the table of a name stands where its number says
pub stands_at_number : (name : List ℕ) (ds : List Definition) (d : Definition) (n : ℕ) → definition_of name ds ≡ Some d → number_of_table name ds ≡ Some n → slice_get ds (n - 1) ≡ Some d
stands_at_number name [] d n is number = cc
stands_at_number name (x ∷ ds) d n is number =
    elim (same x.name name) as (λ b. (if b then Some x else definition_of name ds) ≡ Some d → (if b then Some 1 else one_more (number_of_table name ds)) ≡ Some n → slice_get (x ∷ ds) (n - 1) ≡ Some d) [
      | true ↦ λ e f. let here : 1 ≡ n = cc in rw (← here) e
      | false ↦ λ e f. elim (number_of_table name ds) as (λ o. number_of_table name ds ≡ o → one_more o ≡ Some n → slice_get (x ∷ ds) (n - 1) ≡ Some d) [
        | None ↦ λ _ g. cc
        | Some zero ↦ λ there g. let low : 1 ≤ 0 = (number_within name ds 0 there).0 in absurd (omega arith)
        | Some (suc q) ↦ λ there g.
            let later : suc (suc q) ≡ n = cc in
            let above : suc (suc q) - 1 ≡ suc q = omega arith in
            let below : q ≡ suc q - 1 = omega arith in
            rw (← later) (ap (slice_get (x ∷ ds)) above ∙ ap (slice_get ds) below ∙ stands_at_number name ds d (suc q) e there)
      ] refl f
    ] is number

pub new_index_fits : (tables : List Definition) (name : Option (List ℕ)) (table column : List ℕ) (options : List IndexOption) (new : NewIndex) (number : ℕ)
    → IsNewIndex tables name table column options new → IsIndexIn tables (numbered_def number new)
new_index_fits tables name table column options new number is = record {
  definition = is.definition;
  above = (number_within table tables new.table is.number).0;
  found = stands_at_number table tables is.definition new.table is.found is.number;
  is = record { table = refl; above = is.above; within = is.within; kind = is.kind; ruled = is.ruled };
}
