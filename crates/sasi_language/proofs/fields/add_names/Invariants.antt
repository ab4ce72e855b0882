use Rattle.std.proofs.Common.{length}
use Rattle.sasi_language.proofs.fields.add_names.Given as goal

-- the names that are left
abbrev pub decreases-names : goal.decreases-names
decreases-names l = length l.left
