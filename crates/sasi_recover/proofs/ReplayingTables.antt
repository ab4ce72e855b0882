-- Which tables of a listing a mutation is replayed into.
use Rattle.std.proofs.Common.{◌≡◌, ℕ, zero, suc, ◌-◌, ◌<◌, ◌≤◌, true, false, nat_lt, nat_le, List, length, map, get_or, slice_get, Some, refl, sym, ap, subst, ◌∙◌, arith}
use Rattle.std.proofs.lemmas.Bool.Decides.{nat_tests}
use Rattle.std.proofs.lemmas.Option.{slice_get-map, slice_get_past, slice_get_read}
use Rattle.std.specs.Option.{option_map}
use Rattle.sasi_manifest.specs.declared.listed.ListedTable.{ListedTable}
use Rattle.sasi_manifest.specs.ListedTables.{listed}
use Rattle.sasi_folder.specs.Replay.{is_replayed}
use Rattle.sasi_folder.proofs.Reached.{reaches}

-- ---- a mutation of a table

pub is_replayed_there : (tables : List ListedTable) (segment number : ℕ) (t : ListedTable) → (number ≡ 0 → ⊥) → true ≡ nat_lt (number - 1) (length tables) → t ≡ get_or tables (number - 1) t → nat_le t.since segment ≡ is_replayed (map listed tables) segment number
is_replayed_there tables segment zero t some inside is = absurd (some refl)
is_replayed_there tables segment (suc before) t some inside is =
    let index : suc before - 1 ≡ before = omega arith in
    let within : before < length tables = grind (arith, nat_tests) in
    let there : slice_get tables before ≡ Some t = slice_get_read tables (length tables) before t refl within (subst (λ k. t ≡ get_or tables k t) index is) in
    sym (ap (reaches segment) (slice_get-map listed tables before ∙ ap (option_map listed) there))

pub is_replayed_nothing : (tables : List ListedTable) (segment number : ℕ) → (number ≡ 0 → ⊥) → false ≡ nat_lt (number - 1) (length tables) → false ≡ is_replayed (map listed tables) segment number
is_replayed_nothing tables segment zero some outside = absurd (some refl)
is_replayed_nothing tables segment (suc before) some outside =
    let past : length tables ≤ before = grind (arith, nat_tests) in
    sym (ap (reaches segment) (slice_get-map listed tables before ∙ ap (option_map listed) (slice_get_past tables before past)))
