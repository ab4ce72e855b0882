-- What the mode SPARSE stores, and how its term blocks are grouped.
use Rattle.std.specs.Prelude.{ℕ, ◌+◌, ◌/◌, Bool, true, nat_le}
use Rattle.sasi_types.specs.declared.mode.Mode.{Mode}
use Rattle.sasi_types.specs.declared.mode.Mode.TheVariants.{Prefix, Contains, Sparse}

-- a term of so many keys is stored
abbrev pub is_stored : ℕ → Bool
is_stored keys = nat_le keys 5

-- a term of so many keys isn't too common for an index of this mode
abbrev pub is_rare : Mode → ℕ → Bool
is_rare Prefix keys = true
is_rare Contains keys = true
is_rare Sparse keys = is_stored keys

-- so many term blocks have so many groups of 64, of which the last one may have fewer
abbrev pub superblocks : ℕ → ℕ
superblocks blocks = (blocks + 63) / 64
