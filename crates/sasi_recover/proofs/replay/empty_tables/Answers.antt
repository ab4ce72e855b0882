use Rattle.std.proofs.Common.{◌∙◌, ◌+◌, ◌++◌, ◌∷◌, [], List, None, ap, drop, map, refl, sym}
use Rattle.sasi_manifest.specs.ListedTables.{listed}
use Rattle.sasi_recover.specs.declared.opened.TableMap.{TableMap}
use Rattle.sasi_recover.specs.ReplayState.{empty_maps}
use Rattle.sasi_recover.proofs.EmptyTables.{maps_done, maps_more}
use Rattle.sasi_recover.proofs.TypedTables.{all_typed}
use Rattle.sasi_recover.proofs.replay.empty_tables.Goals as goal

pub loop-listed-preserved : goal.loop-listed-preserved
loop-listed-preserved c =
    let i = c.loop-listed.listed-index in
    let rest = empty_maps c.args.partitioner (1 + (i + 1)) (map listed (drop (i + 1) c.args.tables.now)) in
    ap (λ (l : List TableMap). l ++ rest) c.in_ok-push.ensures.items
    ∙ ap (λ m. (c.loop-listed.maps.items ++ (record { number = c.listed-item.result.table.number; memtable = m; first = None }) ∷ []) ++ rest) c.new.ensures
    ∙ maps_more c.args.partitioner c.loop-listed.maps.items c.args.tables.now i c.listed-item.result c.listed-item.result.table.number c.loop-listed-test.true c.listed-item.is c.requires.numbers refl
    ∙ c.loop-listed.invariant

pub returns-clause-empty : goal.returns-clause-empty
returns-clause-empty c = sym (maps_done c.args.partitioner c.loop-listed.maps.items c.args.tables.now c.loop-listed.listed-index c.loop-listed-test.false) ∙ c.loop-listed.invariant

pub returns-clause-typed : goal.returns-clause-typed
returns-clause-typed c = all_typed c.args.tables.now
