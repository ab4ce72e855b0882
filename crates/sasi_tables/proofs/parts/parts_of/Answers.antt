use Rattle.std.proofs.Common.{◌≡◌, [], List, map, sym, subst, ap, ◌∙◌}
use Rattle.std.specs.List.{AllByRecursion}
use Rattle.sasi_layout.specs.Classes.{KnowsIndexes}
use Rattle.sasi_manifest.specs.ListedDefinition.{ListedDefinition}
use Rattle.sasi_manifest.specs.ListedTables.{listed}
use Rattle.sasi_manifest.specs.declared.listing.Listing.{Listing}
use Rattle.sasi_manifest.specs.Listings.{listed_definitions}
use Rattle.sasi_memindex.specs.Book.{Book}
use Rattle.sasi_recover.specs.OpenedFolder.{opened_store}
use Rattle.sasi_recover.specs.ReplayState.{AreMapsFrom}
use Rattle.sasi_tables.specs.Held.{AreMapped, HasRegularIndexes, HeldTable, Subject, in_memory, subjects_of}
use Rattle.sasi_tables.specs.TablesView.{AreTables}
use Rattle.sasi_tables.proofs.ListedSchema.{seen_definitions}
use Rattle.sasi_tables.proofs.OpenedMaps.{can_open, mapped_none, rows_regular, rows_wanted}
use Rattle.sasi_tables.proofs.TablesInMemory.{opened_memory, opened_tables}
use Rattle.sasi_tables.proofs.parts.parts_of.Goals as goal

pub add_tables-requires-clause-mapped : goal.add_tables-requires-clause-mapped
add_tables-requires-clause-mapped g c = subst (λ (book : Book). AreMapped book 0 [] []) (sym c.new-maps.ensures) (mapped_none 0)

pub add_tables-requires-clause-can : goal.add_tables-requires-clause-can
add_tables-requires-clause-can g c =
    let k = c.args.opened.manifest.listing in
    let rows : map listed c.as_slice-listed.result.now ≡ k.tables = c.as_slice-listed.ensures.tables ∙ ap (λ (l : Listing). l.tables) c.listing.ensures.listing in
    can_open (map (λ b. (goal.Analyzer-dyn g (b.vtable, b.value)).kind b.value) c.args.kit.now.objects.items) k.partitioner k.floor k.last 1 c.as_slice-listed.result.now c.args.opened.tables.items
    (subst (λ (ts : List ListedDefinition). AreMapsFrom k.partitioner k.floor k.last 1 ts c.args.opened.tables.items) (sym rows) c.requires.maps)
    (subst (λ (ts : List ListedDefinition). AllByRecursion (KnowsIndexes (map (λ b. (goal.Analyzer-dyn g (b.vtable, b.value)).kind b.value) c.args.kit.now.objects.items)) (listed_definitions ts)) (sym rows) c.requires.classes)

pub returns-clause-memory : goal.returns-clause-memory
returns-clause-memory g c =
    let opened = c.args.opened in
    let rows = c.as_slice-listed.ensures.tables ∙ ap (λ (l : Listing). l.tables) c.listing.ensures.listing in
    let definitions = c.in_ok-schema.ensures ∙ seen_definitions c.as_slice-listed.result.now ∙ ap listed_definitions rows in
    let tables = ap (map in_memory) c.in_ok-add_tables.ensures.held ∙ opened_memory opened.tables.items in
    λ i. record (opened_store opened) { definitions = definitions i; tables = tables i }

pub returns-clause-parts : goal.returns-clause-parts
returns-clause-parts g c =
    let opened = c.args.opened in
    let rows : map listed c.as_slice-listed.result.now ≡ opened.manifest.listing.tables = c.as_slice-listed.ensures.tables ∙ ap (λ (l : Listing). l.tables) c.listing.ensures.listing in
    record {
      tables = subst (λ (xs : List HeldTable). AreTables opened.manifest.listing.partitioner xs) (sym c.in_ok-add_tables.ensures.held) (opened_tables opened.manifest.listing opened.tables.items c.requires.maps);
      mapped = subst (λ (w : List (List Subject)). AreMapped c.add_tables.new.maps c.add_tables.new.last w c.add_tables.new.tables.items) (sym (rows_wanted c.as_slice-listed.result.now) ∙ ap (map subjects_of) rows) c.in_ok-add_tables.ensures.mapped;
      regular = subst (AllByRecursion HasRegularIndexes) rows (rows_regular c.as_slice-listed.result.now);
    }
