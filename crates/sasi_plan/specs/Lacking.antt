-- The class of analyzer that the indexes of a WHERE need and a kit lacks.
use Rattle.std.specs.Prelude.{if◌then◌else◌, List, [], ◌∷◌, Option, None, Some}
use Rattle.std.specs.Option.{option_or}
use Rattle.sasi_types.specs.Rule.{class_of}
use Rattle.sasi_types.specs.declared.class.Class.{Class}
use Rattle.sasi_types.specs.declared.rule.Rule.{Rule}
use Rattle.sasi_analyzers.specs.Kits.{has_class}
use Rattle.sasi_model.specs.Conditions.{Condition, Indexed, OfKey, Plain}

-- the class of the rule, where none of these classes is it
abbrev pub lacked_for : List Class → Option Rule → Option Class
lacked_for kinds None = None
lacked_for kinds (Some rule) = if has_class (class_of rule) kinds then None else Some (class_of rule)

-- a condition on an indexed column needs that of the index's rule
abbrev pub lacked_by : List Class → Condition → Option Class
lacked_by kinds (OfKey key) = None
lacked_by kinds (Indexed index search) = lacked_for kinds index.rule
lacked_by kinds (Plain column comparison) = None

-- the first class that one of the conditions needs and that is lacking
abbrev pub first_lacked : List Class → List Condition → Option Class
first_lacked kinds [] = None
first_lacked kinds (c ∷ cs) = option_or (lacked_by kinds c) (first_lacked kinds cs)
