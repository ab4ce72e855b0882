use Rattle.std.proofs.Common.{◌∙◌, length, arith, ap, sym, subst}
use Rattle.sasi_host.specs.Names.{Bytes}
use Rattle.sasi_model.specs.State.{Definition}
use Rattle.sasi_types.specs.declared.index_def.IndexDef.{IndexDef}
use Rattle.sasi_schema.specs.IndexFacts.{IsIndexIn}
use Rattle.sasi_manifest.specs.Listings.{listed_definitions}
use Rattle.sasi_manifest.specs.Abbreviations.{listed_names}
use Rattle.sasi_manifest.specs.Naming.{IsFree}
use Rattle.sasi_manifest.proofs.Applying.{applies_create, applies_replace, no_start}
use Rattle.sasi_manifest.proofs.Defining.{applies_index, index_in}
use Rattle.sasi_manifest.proofs.KeyPositions.{key_at}
use Rattle.sasi_manifest.proofs.apply.change.Goals as goal

pub unreachable-requires : goal.unreachable-requires
unreachable-requires c = no_start _ _ _ _ (rw c.in-Start.is at c.requires)

pub new-table-requires-clause-key : goal.new-table-requires-clause-key
new-table-requires-clause-key c =
    let can = applies_create _ _ _ _ _ _ (rw c.in-CreateTable.is at c.requires) in
    rw c.in_ok-columns-in-CreateTable.ensures (key_at c.in-CreateTable.key _ can.apart can.key_within)

pub new-table-requires-clause-few : goal.new-table-requires-clause-few
new-table-requires-clause-few c =
    let can = applies_create _ _ _ _ _ _ (rw c.in-CreateTable.is at c.requires) in
    omega (arith, can.few_columns, ap length c.in_ok-columns-in-CreateTable.ensures)

pub add_table-requires-clause-number : goal.add_table-requires-clause-number
add_table-requires-clause-number c =
    let can = applies_create _ _ _ _ _ _ (rw c.in-CreateTable.is at c.requires) in
    omega (arith, c.new-table.ensures.number, can.next)

pub add_table-requires-clause-few : goal.add_table-requires-clause-few
add_table-requires-clause-few c =
    let can = applies_create _ _ _ _ _ _ (rw c.in-CreateTable.is at c.requires) in
    omega (arith, can.next, can.few)

pub add_table-requires-clause-free : goal.add_table-requires-clause-free
add_table-requires-clause-free c =
    let can = applies_create _ _ _ _ _ _ (rw c.in-CreateTable.is at c.requires) in
    subst (λ (n : Bytes). IsFree (listed_names c.args.listing.now.tables) n) (sym (ap (λ (d : Definition). d.name) c.new-table.ensures.definition ∙ c.in_ok-name-in-CreateTable.ensures)) can.free

pub add_index-requires : goal.add_index-requires
add_index-requires c =
    let can = applies_index _ _ _ (rw c.in-CreateIndex.is at c.requires) in
    subst (λ (d : IndexDef). IsIndexIn (listed_definitions c.args.listing.now.tables) d) (sym c.in_ok-copy-in-CreateIndex.ensures) (index_in _ _ can)

pub replace_files-requires-clause-some : goal.replace_files-requires-clause-some
replace_files-requires-clause-some c = (applies_replace _ _ _ _ _ _ _ (rw c.in-Replace.is at c.requires)).some

pub replace_files-requires-clause-within : goal.replace_files-requires-clause-within
replace_files-requires-clause-within c = (applies_replace _ _ _ _ _ _ _ (rw c.in-Replace.is at c.requires)).within
