use Rattle.std.proofs.Common.{◌++◌, ℕ, List, map, take}
use Rattle.sasi_types.specs.declared.class.Class.{Class}
use Rattle.sasi_recover.specs.Missing.{IsMissingOf, needed_by_all}
use Rattle.sasi_recover.proofs.classes.missing_in.Given as goal

abbrev pub invariant-loop-def : goal.invariant-loop-def
invariant-loop-def g l = (needed : List (ℕ × Class)) → IsMissingOf (map (λ b. (goal.Analyzer-dyn g (b.vtable, b.value)).kind b.value) l.kit.objects.items) needed l.fn.before
    → IsMissingOf (map (λ b. (goal.Analyzer-dyn g (b.vtable, b.value)).kind b.value) l.kit.objects.items) (needed ++ needed_by_all (take l.def-index l.defs)) l.found
