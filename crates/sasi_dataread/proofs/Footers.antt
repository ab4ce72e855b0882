-- The header and the footer of a data file: it has those of its content, and shows no corruption of them.
use Rattle.std.specs.Int.{w64}
use Rattle.std.proofs.Common.{◌≡◌, ◌-◌, ◌^◌, ◌<◌, ◌≤◌, ℕ, List, length, subst, arith, Some}
use Rattle.sasi_host.specs.declared.name.FileName.{FileName}
use Rattle.sasi_host.specs.declared.damage.Damage.{Damage}
use Rattle.sasi_host.specs.declared.damage.FormatRule.TheVariants as rule
use Rattle.sasi_host.specs.declared.fault.ReadFault.{ReadFault}
use Rattle.sasi_host.specs.declared.fault.ReadFault.TheVariants as fault
use Rattle.sasi_host.specs.Names.{Bytes}
use Rattle.sasi_host.specs.View.{View, contents}
use Rattle.sasi_host.specs.Damages.{HasAt, DamageShown, ShowsEnd}
use Rattle.sasi_host.proofs.DamageLaws.{shown_as}
use Rattle.sasi_types.specs.declared.column.ColumnType.{ColumnType}
use Rattle.sasi_types.specs.declared.partitioner.Partitioner.{Partitioner}
use Rattle.sasi_formats.specs.Formats.{Encodes, Fits, encoded}
use Rattle.sasi_formats.specs.Fields.{number, ◌&◌}
use Rattle.sasi_formats.specs.Fields as field
use Rattle.sasi_formats.proofs.Fitting.{fits_checked, fits_range}
use Rattle.sasi_formats.specs.Headers.{file_header}
use Rattle.sasi_formats.proofs.Encoding.{encoded_only, fits}
use Rattle.sasi_formats.proofs.Headers.{header_of_size}
use Rattle.sasi_tokentree.specs.Damages.{is_node_offset}
use Rattle.sasi_framing.specs.Damages.ShowsFraming.{too_short}
use Rattle.sasi_framing.proofs.Laws.{AreOfSize, one_footer, undamaged}
use Rattle.sasi_datawrite.specs.declared.footer.Footer.{Footer}
use Rattle.sasi_datawrite.specs.Format.{Content, counted_fields, end_before, end_mark, footer, footer_fields, header, is_count, magic}
use Rattle.sasi_datawrite.specs.Files.{IsDataFile}
use Rattle.sasi_datawrite.proofs.Footers.{header_encodes, mark_encodes, mark_of_size, footer_is, footer_of_size}
use Rattle.sasi_dataread.specs.Reads.{NoFalseDataDamage}
use Rattle.sasi_dataread.proofs.Laws.{in_range, footer_of, header_stands, footer_stands, least_size}
use Rattle.sasi_dataread.specs.Damages.{ShowsHeaderOrFooter}
use Rattle.sasi_dataread.specs.HeaderAndFooter.{HasHeaderAndFooter, data_framing}

pub data_sizes : AreOfSize data_framing
data_sizes = record { header = header_of_size magic 0; numbers = λ _ at. footer_of_size at; mark = mark_of_size; mark_fits = fits end_mark tt (encoded end_mark tt) mark_encodes }

module _ (partitioner : Partitioner) (types : List ColumnType) (bytes : Bytes) (content : Content) (is : IsDataFile partitioner types bytes content) (short : length bytes ≤ 2 ^ 62) where
  data_framed : HasHeaderAndFooter bytes (footer_of partitioner content)
  data_framed = record {
    begins = subst (λ (l : Bytes). HasAt bytes 0 l) (encoded_only (file_header magic 0) tt header header_encodes) (header_stands partitioner types bytes content is);
    header_fits = fits (file_header magic 0) tt header header_encodes;
    at = length bytes - 40;
    at_end = omega (arith, least_size partitioner types bytes content is);
    ends = subst (λ (l : Bytes). HasAt bytes (length bytes - 40) l) (footer_is (length bytes - 40) (footer_of partitioner content)) (footer_stands partitioner types bytes content is);
    numbers_fit = in_range partitioner types bytes content is short;
  }

  pub data_undamaged : (file : FileName) (damage : Damage) → ShowsHeaderOrFooter file bytes damage → ⊥
  data_undamaged = undamaged data_framing data_sizes bytes tt (footer_of partitioner content) data_framed (least_size partitioner types bytes content is)

  -- its footer is that of its content
  pub footer_tells : (numbers : Footer) → HasHeaderAndFooter bytes numbers → numbers ≡ footer_of partitioner content
  footer_tells numbers = one_footer data_framing data_sizes bytes tt (footer_of partitioner content) data_framed tt numbers

-- a footer counts a partition, in any file
pub counts_one : (at : ℕ) (f : Footer) (part : Bytes) → Encodes (footer at) f part → 0 < f.tree.pairs
counts_one at f part is =
    let fields : Fits (footer_fields at) f = (fits_checked rule.Place 8 (λ (g : Footer). is_node_offset g.end at g.tree.root) (footer_fields at) f (fits (footer at) f part is)).0 in
    let counted : Fits (counted_fields at f.tree.root) (f.tree.pairs, (f.max_timestamp, f.end)) = fields.0.1 in
    let range = fits_range w64 1 (2 ^ 64 - 1) f.tree.pairs
    (fits_checked rule.Number 8 (λ (n : ℕ × (ℕ × ℕ)). is_count at f.tree.root n.1.1 n.0) (field.in_range w64 1 (2 ^ 64 - 1) & number w64 & end_before at) (f.tree.pairs, (f.max_timestamp, f.end)) counted).0.0 in
    omega (arith, range.above)

-- a file that is too short for a data file
pub end_shown : (v : View) (file : FileName) (f : ReadFault) → DamageShown v file (ShowsEnd 97 file) f → DamageShown v file (ShowsHeaderOrFooter file) f
end_shown v file f shown = shown_as (ShowsEnd 97 file) (ShowsHeaderOrFooter file) v file f (λ bytes damage is ends. too_short ends) shown

-- damage that is shown is none of a data file
pub no_false_shown : (v : View) (file : FileName) (f : ReadFault) → ((bytes : Bytes) → contents v file ≡ Some bytes → length bytes ≤ 2 ^ 62) → DamageShown v file (ShowsHeaderOrFooter file) f → NoFalseDataDamage v file f
no_false_shown v file fault.Failed short shown = tt
no_false_shown v file fault.OutOfMemory short shown = tt
no_false_shown v file (fault.Damaged damage) short shown = λ bytes partitioner types content is of. data_undamaged partitioner types bytes content of (short bytes is) file damage (shown bytes is)
