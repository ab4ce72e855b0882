-- The line that a SELECT adds while tracing is on.
use Rattle.std.specs.Prelude.{ℕ, List, codes, ◌++◌}
use Rattle.std.specs.Fmt.{decimal}
use Rattle.sasi_model.specs.Lines.{line}

-- the number of candidates that were checked
abbrev pub checked_line : ℕ → List ℕ
checked_line candidates = line (codes "checked " ++ decimal candidates)
