-- A source of candidates that may be missing.
use Rattle.std.specs.Prelude.{Option, None, Some}

-- P of the source, or else Q
abbrev pub SourceOr : {C : Type 0} → Option C → (C → Type 0) → Type 0 → Type 0
SourceOr None P Q = Q
SourceOr (Some c) P Q = P c
