-- The WHERE of a SELECT, with its literals read: conditions, as the model's.
use Rattle.std.specs.Prelude.{◌≡◌, ℕ, Some, ⊤}
use Rattle.std.specs.Str.{IsUtf8}
use Rattle.sasi_types.specs.declared.value.Value.{Value}
use Rattle.sasi_types.specs.declared.value.Value.TheVariants as values
use Rattle.sasi_model.specs.Cells.{Partition, value_at}
use Rattle.sasi_model.specs.Conditions as model
use Rattle.sasi_model.specs.Indexes.{index_of}
use Rattle.sasi_machine.specs.declared.condition.Comparison.{Comparison}
use Rattle.sasi_machine.specs.declared.condition.Comparison.TheVariants as comparisons
use Rattle.sasi_machine.specs.declared.condition.Condition.{Condition}
use Rattle.sasi_machine.specs.declared.condition.Condition.TheVariants.{OfKey, Indexed, Plain}
use Rattle.sasi_machine.specs.declared.search.Search.{Search}

-- ---- as the model's

abbrev pub model_search : Search → model.Search
model_search search = record { op = search.op; words = search.words }

abbrev pub model_comparison : Comparison → model.Comparison
model_comparison (comparisons.Text text) = model.Equals text
model_comparison (comparisons.Uuid bytes) = model.Equals bytes
model_comparison (comparisons.Between least greatest) = model.Between least greatest

abbrev pub model_condition : Condition → model.Condition
model_condition (OfKey key) = model.OfKey key
model_condition (Indexed index search) = model.Indexed (index_of index) (model_search search)
model_condition (Plain column comparison) = model.Plain column (model_comparison comparison)

-- ---- texts

-- a text is UTF-8
abbrev pub IsText : Value → Type 0
IsText (values.Text text) = IsUtf8 text
IsText value = ⊤

-- so is each value of the partition
abbrev pub HasTexts : Partition → Type 0
HasTexts p = (column : ℕ) (value : Value) → value_at p column ≡ Some value → IsText value
