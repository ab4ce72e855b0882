use Rattle.std.proofs.Common.{◌≡◌, ◌++◌, drop, map}
use Rattle.sasi_views.specs.declared.part.Part.TheVariants.{Map}
use Rattle.sasi_tables.proofs.view_list.list_maps.Given as goal

-- the maps that are left are listed next
abbrev pub invariant-loop-number : goal.invariant-loop-number
invariant-loop-number l = l.listed ++ map (λ n. Map n) (drop l.number-index l.numbers) ≡ l.fn.listed ++ map (λ n. Map n) l.numbers
