-- Which columns are picked, by their numbers.
use Rattle.std.specs.Prelude.{ℕ, zero, suc}
use Rattle.sasi_cells.specs.declared.picked.PickedColumn.{PickedColumn}
use Rattle.sasi_cells.specs.declared.picked.PickedColumn.TheVariants.{Key, Column}

-- the key has the number 0
abbrev pub pick : ℕ → PickedColumn
pick zero = Key
pick (suc n) = Column (suc n)
