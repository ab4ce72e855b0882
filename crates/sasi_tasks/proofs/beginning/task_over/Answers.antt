use Rattle.std.proofs.Common.{◌-◌, ◌∙◌, List, ap, map, refl, subst, sym}
use Rattle.sasi_manifest.specs.Edits.{files_of}
use Rattle.sasi_manifest.specs.Listings.{by_number}
use Rattle.sasi_manifest.specs.declared.files.ListedFile.{ListedFile}
use Rattle.sasi_manifest.specs.declared.listing.Listing.{Listing}
use Rattle.sasi_manifest.specs.declared.listed.ListedTable.{ListedTable}
use Rattle.sasi_model.specs.Abbreviations.{types_of}
use Rattle.sasi_schema.specs.Defined.{definition}
use Rattle.sasi_tasks.specs.Running.{IsOverAll}
use Rattle.sasi_tasks.proofs.DrawnNumbers.{row_inside, row_listed}
use Rattle.sasi_tasks.proofs.beginning.task_over.Goals as goal

pub bounds-rows-index : goal.bounds-rows-index
bounds-rows-index c =
    row_inside c.as_slice-rows.result.now c.args.parts.now.manifest.listing.tables (c.as_slice-rows.ensures.tables ∙ ap (λ (l : Listing). l.tables) c.listing-listing.ensures.listing) c.args.table c.requires.some c.requires.within

pub returns : goal.returns
returns c =
    let p = c.args.parts.now in
    let seen = c.as_slice-rows.ensures.tables ∙ ap (λ (l : Listing). l.tables) c.listing-listing.ensures.listing in
    let within = row_inside c.as_slice-rows.result.now p.manifest.listing.tables seen c.args.table c.requires.some c.requires.within in
    subst (IsOverAll p c.args.table c.args.number) (sym c.begin.ensures) (record {
      row = c.index-rows-index.result;
      there = row_listed c.as_slice-rows.result.now p.manifest.listing.tables seen (c.args.table - 1) c.index-rows-index.result within c.index-rows-index.is;
      sources_are = c.in_ok-sources.ensures ∙ ap (λ (fs : List ListedFile). map (λ (f : ListedFile). f.number) fs) (c.files_of.ensures ∙ ap (λ (l : Listing). files_of l.tables c.args.table) c.listing-listing.ensures.listing);
      number_is = refl;
      indexes_are = c.in_ok-indexes.ensures ∙ ap by_number c.as_slice.ensures ∙ ap (λ (t : ListedTable). by_number t.table.indexes) (sym c.index-rows-index.is);
      types_are = c.in_ok-types.ensures ∙ ap (λ (t : ListedTable). types_of (definition t.table)) (sym c.index-rows-index.is);
      partitioner_is = ap (λ (l : Listing). l.partitioner) c.listing-listing.ensures.listing;
      before = refl;
      usable = refl;
    })
