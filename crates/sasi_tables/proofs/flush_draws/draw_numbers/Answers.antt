use Rattle.std.proofs.Common.{◌≡◌, ◌-◌, ◌<◌, ap, arith, length, map, slice_get, Some, ◌∙◌}
use Rattle.std.proofs.lemmas.Result.{IfErr-weaker, IfOk-weaker}
use Rattle.sasi_manifest.specs.ListedTables.{listed}
use Rattle.sasi_manifest.specs.declared.listing.Listing.{Listing}
use Rattle.sasi_tables.specs.TablesView.{wanted_of}
use Rattle.sasi_tables.proofs.FlushedMaps.{row_inside, row_there}
use Rattle.sasi_tables.proofs.HeldChanges.{has_map}
use Rattle.sasi_tables.proofs.flush_draws.draw_numbers.Goals as goal

pub bounds-rows-table : goal.bounds-rows-table
bounds-rows-table c =
    let p = c.args.parts.now in
    let has = has_map p.maps p.last_map (wanted_of p) p.tables.items c.requires.mapped c.args.table c.requires.there in
    let within : c.args.table - 1 < length p.tables.items = omega (arith, has.some, has.inside) in
    let seen : map listed c.as_slice-rows.result.now ≡ p.manifest.listing.tables = c.as_slice-rows.ensures.tables ∙ ap (λ (l : Listing). l.tables) c.listing.ensures.listing in
    row_inside p.maps p.last_map p.manifest.listing.tables p.tables.items c.requires.mapped (c.args.table - 1) within c.as_slice-rows.result.now seen

there_in : (c : goal.After-draw_row) → slice_get c.args.parts.now.manifest.listing.tables (c.args.table - 1) ≡ Some (listed c.index-rows-table.result)
there_in c =
    let p = c.args.parts.now in
    let has = has_map p.maps p.last_map (wanted_of p) p.tables.items c.requires.mapped c.args.table c.requires.there in
    let within : c.args.table - 1 < length p.tables.items = omega (arith, has.some, has.inside) in
    let seen : map listed c.as_slice-rows.result.now ≡ p.manifest.listing.tables = c.as_slice-rows.ensures.tables ∙ ap (λ (l : Listing). l.tables) c.listing.ensures.listing in
    row_there p.maps p.last_map p.manifest.listing.tables p.tables.items c.requires.mapped (c.args.table - 1) within c.as_slice-rows.result.now seen c.index-rows-table.result c.index-rows-table.is

pub returns-clause-drawn : goal.returns-clause-drawn
returns-clause-drawn c = IfOk-weaker c.draw_row.result _ _ (λ drawn is. (c.index-rows-table.result, there_in c, is)) c.draw_row.ensures.drawn

pub returns-clause-stops : goal.returns-clause-stops
returns-clause-stops c = IfErr-weaker c.draw_row.result _ _ (λ f is. (c.index-rows-table.result, there_in c, is)) c.draw_row.ensures.stops
