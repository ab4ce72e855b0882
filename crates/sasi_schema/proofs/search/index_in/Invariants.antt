use Rattle.std.proofs.Common.{◌≡◌, map, drop}
use Rattle.std.specs.List.{find}
use Rattle.sasi_model.specs.Indexes.{index_of}
use Rattle.sasi_model.specs.Tokens.{same}
use Rattle.sasi_schema.proofs.search.index_in.Given as goal

-- the indexes so far have other names
abbrev pub invariant-loop-def : goal.invariant-loop-def
invariant-loop-def l = find (λ i. same i.name l.name) (map index_of l.indexes) ≡ find (λ i. same i.name l.name) (map index_of (drop l.def-index l.indexes))
