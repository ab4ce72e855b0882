-- Numbers that are spent: each has 32 bits.
use Rattle.std.specs.Prelude.{ℕ, ◌-◌, ◌^◌, Bool, false, nat_eq, nat_lt, if◌then◌else◌, List, [], ◌∷◌, ◌++◌, length, suc, Option, None, Some}
use Rattle.sasi_layout.specs.declared.number_kind.NumberKind.{NumberKind}
use Rattle.sasi_layout.specs.declared.number_kind.NumberKind.TheVariants as kinds
use Rattle.sasi_manifest.specs.declared.files.PartNumber.{PartNumber}
use Rattle.sasi_manifest.specs.Edits.{encoded}
use Rattle.sasi_layout.specs.Layout.{Layout}
use Rattle.sasi_layout.specs.Moves.{Compact, Create, Define, Draw, Flush, Freeze, Move, Put, compact_edits, flush_parts, moved, parts_of_compaction}

-- a number is drawn for each of the parts, one after another; this is the last used one before
abbrev pub part_draws : ℕ → List PartNumber → List (NumberKind × ℕ)
part_draws used [] = []
part_draws used (p ∷ parts) = (kinds.Part, used) ∷ part_draws (suc used) parts

-- the kinds of which a move draws the next number, in this order, with the last used one
abbrev pub draws : Layout → Move → List (NumberKind × ℕ)
draws l (Put m) = []
draws l (Freeze table) = []
draws l (Flush table) = (kinds.Data, l.used.«data») ∷ (part_draws l.used.part (flush_parts table l) ++ (kinds.Log, l.used.log) ∷ [])
draws l (Create d) = []
draws l (Define table index) = (kinds.Index, l.used.index) ∷ []
draws l Draw = (kinds.Data, l.used.«data») ∷ []
draws l (Compact c) = part_draws l.used.part (parts_of_compaction c l)

-- the manifest's record of a move has more than 2^30 bytes: that of a compaction alone may name so many files
abbrev pub is_too_long : Layout → Move → Bool
is_too_long l (Compact c) = nat_lt (2 ^ 30) (length (encoded (compact_edits c l)))
is_too_long l move = false

-- the first kind of which no number is left, and else another
abbrev pub first_spent : List (NumberKind × ℕ) → Option NumberKind → Option NumberKind
first_spent [] other = other
first_spent (draw ∷ rest) other = if nat_eq draw.1 (2 ^ 32 - 1) then Some draw.0 else first_spent rest other

-- the kind of which a layout has no number left for its moves, if there is one
abbrev pub spent : Layout → List Move → Option NumberKind
spent l [] = None
spent l (m ∷ ms) = first_spent (draws l m) (if is_too_long l m then Some kinds.Record else spent (moved m l) ms)
