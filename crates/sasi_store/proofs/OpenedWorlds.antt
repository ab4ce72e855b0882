-- The world of a cursor's plan over the view that it opens: its rows are those of the SELECT.
use Rattle.std.proofs.Common.{◌≡◌, ◌-◌, ◌++◌, ℕ, List, [], ◌∷◌, map, slice_get, Some, sym, ap, subst, ◌∙◌, append_assoc}
use Rattle.std.proofs.lemmas.List.{map-append}
use Rattle.std.specs.FinMap as map_
use Rattle.sasi_cells.specs.Maps.{merged}
use Rattle.sasi_host.specs.Names.{Folder}
use Rattle.sasi_host.specs.View.{IsSound, View}
use Rattle.sasi_model.specs.Abbreviations.{Partitions}
use Rattle.sasi_model.specs.Cells.{Partition}
use Rattle.sasi_model.specs.Filters.{where_of}
use Rattle.sasi_machine.specs.Prepares as prepares
use Rattle.sasi_machine.specs.declared.prepared.Selection.{Selection}
use Rattle.sasi_layout.specs.Layout.{Layout, TableParts, state_of}
use Rattle.sasi_layout.specs.Serving.{CanChange, Serves, TableInMemory}
use Rattle.sasi_candidates.specs.Checks.{rows as answer}
use Rattle.sasi_candidates.specs.LayoutParts.{part_of_file, part_of_map, parts_of}
use Rattle.sasi_candidates.specs.Parts.{Part, maps_of}
use Rattle.sasi_engine.specs.HitCandidates.{PlanWorld}
use Rattle.sasi_plan.specs.Answers.{row_of}
use Rattle.sasi_plan.specs.Plans.{PlanView}
use Rattle.sasi_plan.specs.Reading.{IsReadIn}
use Rattle.sasi_fetch.specs.Printing.{row_picked}
use Rattle.sasi_views.specs.declared.part.Part as view
use Rattle.sasi_views.specs.declared.part.Part.TheVariants as view_part
use Rattle.sasi_tables.specs.Freezing.{HasEmptyMemtable}
use Rattle.sasi_tables.specs.TablesView.{IsOfParts, memory_of}
use Rattle.sasi_tables.specs.ViewParts.{aside_parts}
use Rattle.sasi_tables.specs.declared.parts.Parts.{Parts}
use Rattle.sasi_tables.specs.declared.table_maps.TableMaps.{TableMaps}
use Rattle.sasi_store.specs.Selects.{IsPlanFor}
use Rattle.sasi_store.proofs.AsideViews.{aside, aside_merged, aside_read}
use Rattle.sasi_store.proofs.OpenedViews.{holds_nothing, memtable_last}
use Rattle.sasi_store.proofs.SelectWorlds.{rows_have, table, world, world_read}
use Rattle.sasi_store.proofs.ViewWorlds.{held}

module _ (v : View) (sound : IsSound v) (p : Parts) (of : IsOfParts p) (ready : CanChange v (memory_of p)) (rows : Selection) (plan : PlanView) (is : IsPlanFor p rows plan) (l : Layout) (serves : Serves v (memory_of p) l)
    (x : TableMaps) (there : slice_get p.tables.items (rows.table - 1) ≡ Some x) (empty : HasEmptyMemtable rows.table p) (folder : Folder) (now : v.files ≡ Some folder) where
  abbrev t : TableParts
  t = (table v sound p of ready rows plan is l serves).0

  -- the parts in front of the memtable
  abbrev fronts : List Part
  fronts = map (part_of_file t) t.files ++ map part_of_map t.frozen

  abbrev memtable_empty : t.memtable ≡ map_.empty
  memtable_empty =
      let h = held v sound p of ready rows.table l serves t (table v sound p of ready rows plan is l serves).1 in
      sym (ap (λ (m : TableInMemory). m.memtable) h.2) ∙ holds_nothing h.0.memtable.partitions (empty h.0 h.1)

  abbrev parts_are : parts_of t ≡ fronts ++ part_of_map t.memtable ∷ []
  parts_are =
      ap (λ (ps : List Part). map (part_of_file t) t.files ++ ps) (map-append part_of_map t.frozen (t.memtable ∷ []))
      ∙ sym (append_assoc (map (part_of_file t) t.files) (map part_of_map t.frozen) (part_of_map t.memtable ∷ []))

  abbrev whole : PlanWorld
  whole = world v sound p of ready rows plan is l serves folder now

  abbrev read : IsReadIn whole plan (aside_parts p rows.table ++ view_part.Map x.memtable ∷ []) p.maps
  read = subst (λ (ps : List view.Part). IsReadIn whole plan ps p.maps) (memtable_last p rows.table x there) (world_read v sound p of ready rows plan is l serves folder now)

  abbrev pub opened : PlanWorld
  opened = aside whole plan (aside_parts p rows.table) x.memtable p.maps fronts t.memtable read parts_are memtable_empty

  -- **The plan is read in it,**
  pub opened_read : IsReadIn opened plan (aside_parts p rows.table) p.maps
  opened_read = aside_read whole plan (aside_parts p rows.table) x.memtable p.maps fronts t.memtable read parts_are memtable_empty

  abbrev pub opened_rows : List (List ℕ × Partition)
  opened_rows = map row_of (answer plan.limit (where_of plan.conditions) (merged (maps_of opened.parts)))

  -- **and its rows are those that the SELECT has.**
  pub opened_have : map (row_picked plan.picked) opened_rows ≡ prepares.rows_asked (state_of l) rows
  opened_have =
      ap (λ (m : Partitions). map (row_picked plan.picked) (map row_of (answer plan.limit (where_of plan.conditions) m))) (aside_merged whole plan (aside_parts p rows.table) x.memtable p.maps fronts t.memtable read parts_are memtable_empty)
      ∙ rows_have v sound p of ready rows plan is l serves
