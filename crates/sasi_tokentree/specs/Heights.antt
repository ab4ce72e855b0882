-- The height of a tree.
use Rattle.std.specs.Prelude.{ℕ, zero, suc, ◌+◌, ◌/◌, ◌^◌, nat_le, if◌then◌else◌}
use Rattle.sasi_tokentree.specs.Format.{nodes, size}

-- how many levels a tree of so many entries has
unfoldable pub height : ℕ → ℕ → ℕ
height zero count = 0
height (suc most) count = if nat_le count 255 then 1 else (1 + height most (nodes count))

-- how many bytes the levels below the root take
unfoldable pub bytes_below_root : ℕ → ℕ → ℕ
bytes_below_root zero count = 0
bytes_below_root (suc most) count = if nat_le count 255 then 0 else (size count + bytes_below_root most (nodes count))

-- the most entries of a level, by its number
abbrev pub level_limit : ℕ → ℕ
level_limit zero = 2 ^ 64
level_limit (suc level) = level_limit level / 128

-- how many bytes all levels of so many entries take
unfoldable pub levels_size : ℕ → ℕ → ℕ
levels_size zero count = 0
levels_size (suc most) count = if nat_le count 255 then size count else (size count + levels_size most (nodes count))
