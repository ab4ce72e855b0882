-- How the terms of a text are made.
use Rattle.std.specs.Prelude.{Bool}
use Rattle.sasi_types.specs.declared.class.Class.{Class}
use Rattle.sasi_types.specs.declared.class.Class.TheVariants.{NonTokenizing, Standard}
use Rattle.sasi_types.specs.declared.rule.Rule.{Rule}
use Rattle.sasi_types.specs.declared.rule.Rule.TheVariants.{Whole, Words}

-- the class of analyzer that makes them
abbrev pub class_of : Rule → Class
class_of (Whole fold) = NonTokenizing
class_of (Words fold) = Standard

-- the letters A to Z become a to z
abbrev pub folds : Rule → Bool
folds (Whole fold) = fold
folds (Words fold) = fold
