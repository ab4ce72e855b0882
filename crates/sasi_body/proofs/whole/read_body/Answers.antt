use Rattle.std.proofs.Common.{◌≡◌, ◌∙◌, ap, sym, subst, List, Err, Ok}
use Rattle.std.proofs.lemmas.Result.{err_from_is_err_and}
use Rattle.sasi_host.specs.Names.{Bytes}
use Rattle.sasi_types.specs.declared.column.ColumnType.{ColumnType}
use Rattle.sasi_cells.specs.Entries.{Entry, IsOrdered, partition_of}
use Rattle.sasi_model.specs.Cells.{Partition}
use Rattle.sasi_formats.specs.Formats.{Encodes}
use Rattle.sasi_formats.specs.Reader.{read_whole}
use Rattle.sasi_formats.specs.Whole.{GivesWhole, ReadsWhole}
use Rattle.sasi_formats.specs.declared.fault.FormatFault.{FormatFault}
use Rattle.sasi_formats.proofs.WholeLaws.{reads_all}
use Rattle.sasi_body.specs.Body.{Content, body, body_of, content, IsBodyOf}
use Rattle.sasi_body.proofs.Bodies.{body_encodes, encodes_body, read_again}
use Rattle.sasi_body.proofs.whole.read_body.Goals as goal

failed : (listed listed' : List ColumnType) (bytes : Bytes) (f : FormatFault) → listed' ≡ listed → GivesWhole {A = Content} (read_whole (body_of listed') bytes) (Err f) → ReadsWhole (body_of listed) bytes (Err f)
failed listed listed' bytes f same h = subst (λ (l : List ColumnType). ReadsWhole (body_of l) bytes (Err f)) same (reads_all (body_of listed') bytes (Err f) h)

got : (listed listed' : List ColumnType) (bytes : Bytes) (value : Content) → listed' ≡ listed → GivesWhole (read_whole (body_of listed') bytes) (Ok value) → Encodes (body_of listed) value bytes
got listed listed' bytes value same h = subst (λ (l : List ColumnType). Encodes (body_of l) value bytes) same (reads_all (body_of listed') bytes (Ok value) h).is

pub returns-in_err-key-clause-no_false_damage : goal.returns-in_err-key-clause-no_false_damage
returns-in_err-key-clause-no_false_damage c key part is same =
    let p = err_from_is_err_and c.from_residual.result c.from_residual.ensures.1 in
    let reads = failed c.args.types.now c.as_slice.result.now c.args.bytes.now c.in_err-key.field-0.0 c.as_slice.ensures c.in_err-key.ensures in
    rw (p.1, p.2) (reads.again (content key part) (body_encodes c.args.types.now key part c.args.bytes.now is same))

pub returns-in_err-key-clause-shown : goal.returns-in_err-key-clause-shown
returns-in_err-key-clause-shown c =
    let p = err_from_is_err_and c.from_residual.result c.from_residual.ensures.1 in
    let reads = failed c.args.types.now c.as_slice.result.now c.args.bytes.now c.in_err-key.field-0.0 c.as_slice.ensures c.in_err-key.ensures in
    rw (p.1, p.2) reads.shown

pub from_entries-requires : goal.from_entries-requires
from_entries-requires c =
    let encodes = got c.args.types.now c.as_slice.result.now c.args.bytes.now (c.in_ok-key.key, (c.in_ok-key.deleted, c.in_ok-key.cells)) c.as_slice.ensures c.in_ok-key.ensures in
    subst (λ (l : List Entry). IsOrdered c.in_ok-key.deleted l) (sym c.into_vec.ensures) (encodes_body c.args.types.now c.args.bytes.now c.in_ok-key.key c.in_ok-key.deleted c.in_ok-key.cells encodes).ordered

pub returns-clause-bytes : goal.returns-clause-bytes
returns-clause-bytes c =
    let encodes = got c.args.types.now c.as_slice.result.now c.args.bytes.now (c.in_ok-key.key, (c.in_ok-key.deleted, c.in_ok-key.cells)) c.as_slice.ensures c.in_ok-key.ensures in
    let part : partition_of c.in_ok-key.deleted c.in_ok-key.cells ≡ c.from_entries.result = ap (λ (l : List Entry). partition_of c.in_ok-key.deleted l) (sym c.into_vec.ensures) ∙ sym c.from_entries.ensures in
    (encodes_body c.args.types.now c.args.bytes.now c.in_ok-key.key c.in_ok-key.deleted c.in_ok-key.cells encodes).bytes_are ∙ ap (λ (p : Partition). body c.in_ok-key.key p) part

pub returns-clause-in_table : goal.returns-clause-in_table
returns-clause-in_table c =
    let encodes = got c.args.types.now c.as_slice.result.now c.args.bytes.now (c.in_ok-key.key, (c.in_ok-key.deleted, c.in_ok-key.cells)) c.as_slice.ensures c.in_ok-key.ensures in
    let part : partition_of c.in_ok-key.deleted c.in_ok-key.cells ≡ c.from_entries.result = ap (λ (l : List Entry). partition_of c.in_ok-key.deleted l) (sym c.into_vec.ensures) ∙ sym c.from_entries.ensures in
    subst (λ (p : Partition). IsBodyOf c.args.types.now c.in_ok-key.key p) part (encodes_body c.args.types.now c.args.bytes.now c.in_ok-key.key c.in_ok-key.deleted c.in_ok-key.cells encodes).body_is

pub returns-clause-again : goal.returns-clause-again
returns-clause-again c key part is same =
    let encodes = got c.args.types.now c.as_slice.result.now c.args.bytes.now (c.in_ok-key.key, (c.in_ok-key.deleted, c.in_ok-key.cells)) c.as_slice.ensures c.in_ok-key.ensures in
    let all = read_again c.args.types.now c.args.bytes.now c.in_ok-key.key c.in_ok-key.deleted c.in_ok-key.cells key part encodes is same in
    (all.keys, c.from_entries.ensures ∙ ap (λ (l : List Entry). partition_of c.in_ok-key.deleted l) c.into_vec.ensures ∙ all.parts)
