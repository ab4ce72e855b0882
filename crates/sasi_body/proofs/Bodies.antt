-- Bytes are the body of at most one key and partition of a table, and such bytes show no corruption.
use Rattle.std.proofs.Common.{◌≡◌, ◌≤◌, ℕ, List, ◌++◌, length, refl, sym, ap, ◌∙◌}
use Rattle.sasi_host.specs.Names.{Bytes}
use Rattle.sasi_host.specs.declared.damage.FormatRule.{FormatRule}
use Rattle.sasi_types.specs.declared.column.ColumnType.{ColumnType}
use Rattle.sasi_model.specs.Cells.{Partition}
use Rattle.sasi_cells.specs.Entries.{Entry, IsOrdered, partition_of}
use Rattle.sasi_formats.specs.Formats.{Encodes, encoded}
use Rattle.sasi_formats.specs.Reader.{Corruption, Broken}
use Rattle.sasi_formats.specs.Failures.{FailsWhole}
use Rattle.sasi_formats.proofs.Agreement.{one_content, is_encoded, never_both, same_front}
use Rattle.sasi_formats.proofs.Encoding.{encoded_only, fits}
use Rattle.sasi_formats.proofs.Offsets.{whole_within}
use Rattle.sasi_body.specs.Body.{Content, body_of, content, body, cells_of, IsBodyOf}
use Rattle.sasi_body.proofs.FitBodies.{body_fits, fits_body, cells_are, partition_is}
use Rattle.sasi_body.proofs.BodyBytes.{same_body}

-- the body of a key and a partition of the table is in its format
pub body_encodes : (listed : List ColumnType) (key : Bytes) (part : Partition) (bytes : Bytes) → IsBodyOf listed key part → bytes ≡ body key part → Encodes (body_of listed) (content key part) bytes
body_encodes listed key part bytes is same = is_encoded (body_of listed) (content key part) bytes (body_fits listed key part is) (same ∙ sym (same_body listed key part))

-- bytes in the format are the body of a key and a partition of the table
pub record IsBodyIn (listed : List ColumnType) (bytes key : Bytes) (deleted : ℕ) (entries : List Entry) : Type 0 where
  pub ordered : IsOrdered deleted entries
  pub body_is : IsBodyOf listed key (partition_of deleted entries)
  pub bytes_are : bytes ≡ body key (partition_of deleted entries)

pub encodes_body : (listed : List ColumnType) (bytes key : Bytes) (deleted : ℕ) (entries : List Entry) → Encodes (body_of listed) (key, (deleted, entries)) bytes → IsBodyIn listed bytes key deleted entries
encodes_body listed bytes key deleted entries h =
    let fit = fits_body listed key deleted entries (fits (body_of listed) (key, (deleted, entries)) bytes h) in
    record {
      ordered = fit.ordered;
      body_is = fit.body_is;
      bytes_are = encoded_only (body_of listed) (key, (deleted, entries)) bytes h ∙ ap (λ (l : List Entry). encoded (body_of listed) (key, (deleted, l))) (sym (cells_are deleted entries fit.ordered)) ∙ same_body listed key (partition_of deleted entries);
    }

-- what is read is what was put
pub record IsSame (key read_key : Bytes) (part read_part : Partition) : Type 0 where
  pub keys : read_key ≡ key
  pub parts : read_part ≡ part

contents_same : (key key' : Bytes) (part : Partition) (deleted : ℕ) (entries : List Entry) → IsOrdered deleted entries → (key', (deleted, entries)) ≡ content key part → IsSame key key' part (partition_of deleted entries)
contents_same key key' part deleted entries ordered same = record {
  keys = ap (λ (c : Content). c.0) same;
  parts = partition_is deleted entries part ordered (ap (λ (c : Content). c.1.0) same) (ap (λ (c : Content). c.1.1) same);
}

pub read_again : (listed : List ColumnType) (bytes key' : Bytes) (deleted : ℕ) (entries : List Entry) (key : Bytes) (part : Partition) → Encodes (body_of listed) (key', (deleted, entries)) bytes → IsBodyOf listed key part → bytes ≡ body key part
    → IsSame key key' part (partition_of deleted entries)
read_again listed bytes key' deleted entries key part h is same =
    contents_same key key' part deleted entries (encodes_body listed bytes key' deleted entries h).ordered (one_content (body_of listed) (key', (deleted, entries)) (content key part) bytes h (body_encodes listed key part bytes is same))

-- two bodies of a table that begin the same bytes are those of one key and partition
pub bodies_same : (listed : List ColumnType) (key key' : Bytes) (part part' : Partition) (a b : Bytes) → IsBodyOf listed key part → IsBodyOf listed key' part' → body key part ++ a ≡ body key' part' ++ b → (key ≡ key') × (part ≡ part') × (a ≡ b)
bodies_same listed key key' part part' a b first second same =
    let encodes = body_encodes listed key part (body key part) first refl in
    let both = same_front (body_of listed) (content key part) (content key' part') (body key part) (body key' part') a b encodes (body_encodes listed key' part' (body key' part') second refl) same in
    let ordered = (encodes_body listed (body key part) key part.deleted (cells_of part) encodes).ordered in
    let parts = contents_same key' key part' part.deleted (cells_of part) ordered both.0 in
    (parts.keys, sym (partition_is part.deleted (cells_of part) part ordered refl refl) ∙ parts.parts, both.1)

-- a body of the table shows no corruption
pub no_corruption : (listed : List ColumnType) (key : Bytes) (part : Partition) (bytes : Bytes) (f : Corruption) → IsBodyOf listed key part → bytes ≡ body key part → FailsWhole (body_of listed) bytes f → ⊥
no_corruption listed key part bytes f is same h = never_both (body_of listed) bytes (content key part) f (body_encodes listed key part bytes is same) h

-- the offset of a broken rule lies within the bytes
pub offset_within : (listed : List ColumnType) (bytes : Bytes) (rule : FormatRule) (at : ℕ) (seen : Bytes) → FailsWhole (body_of listed) bytes (Broken rule at seen) → at ≤ length bytes
offset_within listed bytes rule at seen h = whole_within (body_of listed) bytes (Broken rule at seen) h
