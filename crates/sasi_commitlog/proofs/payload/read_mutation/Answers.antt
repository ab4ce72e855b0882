use Rattle.std.proofs.Common.{◌≡◌, ℕ, ◌∙◌, ap, sym, subst, List, Ok, Err}
use Rattle.std.proofs.lemmas.Result.{err_from_is_err_and}
use Rattle.sasi_cells.specs.Entries.{Entry, IsOrdered, partition_of}
use Rattle.sasi_model.specs.Cells.{Partition}
use Rattle.sasi_formats.proofs.WholeLaws.{reads_all}
use Rattle.sasi_body.specs.Body.{Content}
use Rattle.sasi_commitlog.specs.Format.{mutation_of, payload_of, IsMutationOf}
use Rattle.sasi_commitlog.proofs.Payloads.{mutation_in}
use Rattle.sasi_commitlog.proofs.payload.read_mutation.Goals as goal

pub returns-in_err-table-clause-shown : goal.returns-in_err-table-clause-shown
returns-in_err-table-clause-shown c =
    let p = err_from_is_err_and c.from_residual.result c.from_residual.ensures.1 in
    rw (p.1, p.2) (reads_all {A = ℕ × Content} (mutation_of c.args.tables.now) c.args.payload.now (Err c.in_err-table.field-0.0) c.in_err-table.ensures).shown

pub from_entries-change-requires : goal.from_entries-change-requires
from_entries-change-requires c =
    let t = c.in_ok-table in
    let is = mutation_in c.args.tables.now c.args.payload.now t.table t.key t.deleted t.cells (reads_all (mutation_of c.args.tables.now) c.args.payload.now
    (Ok (t.table, (t.key, (t.deleted, t.cells)))) t.ensures).is in
    subst (λ (l : List Entry). IsOrdered t.deleted l) (sym c.into_vec.ensures) is.ordered

pub returns-clause-bytes : goal.returns-clause-bytes
returns-clause-bytes c =
    let t = c.in_ok-table in
    let is = mutation_in c.args.tables.now c.args.payload.now t.table t.key t.deleted t.cells (reads_all (mutation_of c.args.tables.now) c.args.payload.now
    (Ok (t.table, (t.key, (t.deleted, t.cells)))) t.ensures).is in
    let change : partition_of t.deleted t.cells ≡ c.from_entries-change.result = ap (λ (l : List Entry). partition_of t.deleted l) (sym c.into_vec.ensures) ∙ sym c.from_entries-change.ensures in
    is.bytes_are ∙ ap (λ (p : Partition). payload_of (record { table = t.table; key = t.key; change = p })) change

pub returns-clause-of_table : goal.returns-clause-of_table
returns-clause-of_table c =
    let t = c.in_ok-table in
    let is = mutation_in c.args.tables.now c.args.payload.now t.table t.key t.deleted t.cells (reads_all (mutation_of c.args.tables.now) c.args.payload.now
    (Ok (t.table, (t.key, (t.deleted, t.cells)))) t.ensures).is in
    let change : partition_of t.deleted t.cells ≡ c.from_entries-change.result = ap (λ (l : List Entry). partition_of t.deleted l) (sym c.into_vec.ensures) ∙ sym c.from_entries-change.ensures in
    subst (λ (p : Partition). IsMutationOf c.args.tables.now (record { table = t.table; key = t.key; change = p })) change is.of
