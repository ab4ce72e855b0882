-- The first index whose analyzer isn't there, among those so far.
use Rattle.std.specs.Prelude.{◌≡◌, ◌<◌, ℕ, true, false, List, Contains, Option, None, Some}
use Rattle.std.specs.List.{flat_map}
use Rattle.std.specs.Option.{option_map, option_to_list}
use Rattle.sasi_types.specs.Rule.{class_of}
use Rattle.sasi_types.specs.declared.class.Class.{Class}
use Rattle.sasi_types.specs.declared.index_def.IndexDef.{IndexDef}
use Rattle.sasi_analyzers.specs.Kits.{has_class}
use Rattle.sasi_layout.specs.Classes.{HasAll}
use Rattle.sasi_recover.specs.declared.classes.Missing.{Missing}

-- the class that an index needs, with its number
abbrev pub needed_by : IndexDef → List (ℕ × Class)
needed_by def = option_to_list (option_map (λ rule. (def.number, class_of rule)) def.rule)

abbrev pub needed_by_all : List IndexDef → List (ℕ × Class)
needed_by_all defs = flat_map needed_by defs

-- it is the one with the least number of those whose analyzer isn't there
pub record IsFirst (kinds : List Class) (needed : List (ℕ × Class)) (missing : Missing) : Type 0 where
  pub needs : Contains needed (missing.index, missing.class)
  pub lacks : has_class missing.class kinds ≡ false
  pub earlier : (n : ℕ) (other : Class) → Contains needed (n, other) → n < missing.index → has_class other kinds ≡ true

-- or there is none
abbrev pub IsMissingOf : List Class → List (ℕ × Class) → Option Missing → Type 0
IsMissingOf kinds needed None = HasAll kinds needed
IsMissingOf kinds needed (Some missing) = IsFirst kinds needed missing
