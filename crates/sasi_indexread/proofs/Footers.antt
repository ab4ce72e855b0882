-- The header and the footer of an index file: it has those of its content, and shows no corruption of them.
use Rattle.std.proofs.Common.{◌≡◌, ◌-◌, ◌^◌, ◌≤◌, length, subst, arith, Some}
use Rattle.sasi_types.specs.declared.column.ColumnType.{ColumnType}
use Rattle.sasi_types.specs.declared.mode.Mode.{Mode}
use Rattle.sasi_host.specs.declared.name.FileName.{FileName}
use Rattle.sasi_host.specs.declared.damage.Damage.{Damage}
use Rattle.sasi_host.specs.declared.fault.ReadFault.{ReadFault}
use Rattle.sasi_host.specs.declared.fault.ReadFault.TheVariants as fault
use Rattle.sasi_host.specs.Names.{Bytes}
use Rattle.sasi_host.specs.View.{View, contents}
use Rattle.sasi_host.specs.Damages.{HasAt, DamageShown, ShowsEnd}
use Rattle.sasi_host.proofs.DamageLaws.{shown_as}
use Rattle.sasi_formats.specs.Formats.{encoded}
use Rattle.sasi_formats.proofs.Encoding.{fits}
use Rattle.sasi_framing.specs.Framing.{HasFraming}
use Rattle.sasi_framing.specs.Damages.ShowsFraming.{too_short}
use Rattle.sasi_framing.proofs.Laws.{AreOfSize, one_footer, one_header, undamaged}
use Rattle.sasi_indexwrite.specs.declared.footer.Footer.{Footer}
use Rattle.sasi_indexwrite.specs.Content.{IndexContent}
use Rattle.sasi_indexwrite.specs.Files.{IsIndexFile}
use Rattle.sasi_indexwrite.specs.Format.{end_mark}
use Rattle.sasi_indexread.specs.Opened.{NoFalseIndexDamage}
use Rattle.sasi_indexread.specs.HeaderAndFooter.{HasHeaderAndFooter, ShowsHeaderOrFooter, index_framing}
use Rattle.sasi_indexread.proofs.Fields.{footer_is, footer_of_size, header_fits, header_is, header_of_size, mark_encodes, mark_of_size}
use Rattle.sasi_indexread.proofs.Standing.{header_stands, footer_stands, in_range, least_size, numbers_of}

pub index_sizes : AreOfSize index_framing
index_sizes = record { header = header_of_size; numbers = λ head at. footer_of_size head.0 at; mark = mark_of_size; mark_fits = fits end_mark tt (encoded end_mark tt) mark_encodes }

module _ (bytes : Bytes) (content : IndexContent) (is : IsIndexFile bytes content) (short : length bytes ≤ 2 ^ 62) where
  abbrev own : Mode × ColumnType
  own = (content.mode, content.kind)

  index_framed : HasFraming index_framing bytes own (numbers_of bytes content is)
  index_framed = record {
    begins = subst (λ (l : Bytes). HasAt bytes 0 l) (header_is content.mode content.kind) (header_stands bytes content is);
    header_fits = header_fits content.mode content.kind is.content_is.has_terms;
    at = length bytes - 72;
    at_end = omega (arith, least_size bytes content is);
    ends = subst (λ (l : Bytes). HasAt bytes (length bytes - 72) l) (footer_is content.mode (length bytes - 72) (numbers_of bytes content is)) (footer_stands bytes content is);
    numbers_fit = in_range bytes content is short;
  }

  pub index_undamaged : (file : FileName) (damage : Damage) → ShowsHeaderOrFooter file bytes damage → ⊥
  index_undamaged = undamaged index_framing index_sizes bytes own (numbers_of bytes content is) index_framed (least_size bytes content is)

  -- its header and footer are those of its content
  pub numbers_tell : (mode : Mode) (kind : ColumnType) (numbers : Footer) → HasHeaderAndFooter bytes mode kind numbers → numbers ≡ numbers_of bytes content is
  numbers_tell mode kind numbers has = one_footer index_framing index_sizes bytes own (numbers_of bytes content is) index_framed (mode, kind) numbers has

  pub header_told : (mode : Mode) (kind : ColumnType) (numbers : Footer) → HasHeaderAndFooter bytes mode kind numbers → ◌≡◌ {A = Mode × ColumnType} (mode, kind) (content.mode, content.kind)
  header_told mode kind numbers has = one_header index_framing index_sizes bytes own (numbers_of bytes content is) index_framed (mode, kind) numbers has

-- a file that is too short for an index file
pub end_shown : (v : View) (file : FileName) (f : ReadFault) → DamageShown v file (ShowsEnd 4168 file) f → DamageShown v file (ShowsHeaderOrFooter file) f
end_shown v file f shown = shown_as (ShowsEnd 4168 file) (ShowsHeaderOrFooter file) v file f (λ bytes damage is ends. too_short ends) shown

-- damage that is shown is none of an index file
pub no_false_shown : (v : View) (file : FileName) (f : ReadFault) → ((bytes : Bytes) → contents v file ≡ Some bytes → length bytes ≤ 2 ^ 62) → DamageShown v file (ShowsHeaderOrFooter file) f → NoFalseIndexDamage v file f
no_false_shown v file fault.Failed short shown = tt
no_false_shown v file fault.OutOfMemory short shown = tt
no_false_shown v file (fault.Damaged damage) short shown = λ bytes content is of. index_undamaged bytes content of (short bytes is) file damage (shown bytes is)
