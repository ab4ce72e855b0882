-- How an index file ends.
use Rattle.std.specs.Prelude.{◌≡◌, ◌==◌, ◌%◌, ◌&&◌, ◌+◌, ◌≤◌, ℕ, nat_le, true, length, refl}
use Rattle.std.specs.Int.{w64}
use Rattle.std.proofs.Common.{arith, rules, subst}
use Rattle.sasi_types.specs.declared.column.ColumnType.{ColumnType}
use Rattle.sasi_types.specs.declared.mode.Mode.{Mode}
use Rattle.sasi_host.specs.declared.damage.FormatRule.TheVariants.{Place}
use Rattle.sasi_host.specs.Damages.{HasAt}
use Rattle.sasi_host.specs.Names.{Bytes}
use Rattle.sasi_host.proofs.Offsets.{second_at}
use Rattle.sasi_formats.specs.Fields.{number}
use Rattle.sasi_formats.specs.Formats.{encoded}
use Rattle.sasi_formats.proofs.Fitting.{both_true, fits_checked}
use Rattle.sasi_indexwrite.specs.declared.footer.Footer.{Footer}
use Rattle.sasi_indexwrite.specs.Format.{end_mark, footer, is_first}
use Rattle.sasi_indexread.specs.HeaderAndFooter.{HasHeaderAndFooter}
use Rattle.sasi_folder.specs.Opens.{EndsAsIndexFile}

-- a footer that leads to a first term block stands behind the first page
behind_first : (at first : ℕ) → is_first at first ≡ true → 4096 ≤ at
behind_first at first is =
    let pages = both_true (first % 4096 == 0) (nat_le 4096 first && nat_le first at) is in
    let ends = both_true (nat_le 4096 first) (nat_le first at) pages.1 in
    let above : 4096 ≤ first = search (rules, ends.0) in
    let below : first ≤ at = search (rules, ends.1) in
    omega (arith, above, below)

-- **A file with the header and the footer of an index file ends as one.**
pub ends_as_index : (bytes : Bytes) (mode : Mode) (kind : ColumnType) (numbers : Footer) → HasHeaderAndFooter bytes mode kind numbers → EndsAsIndexFile bytes
ends_as_index bytes mode kind numbers has =
    let at = has.at in
    let passes = (fits_checked Place 8 (is_first at) (number w64) numbers.blocks.first has.numbers_fit.0.0).1 in
    let size : length (encoded (footer mode at) numbers) ≡ 64 = refl in
    record {
      long = omega (arith, has.at_end, behind_first at numbers.blocks.first passes);
      at = at + 64;
      at_end = omega (arith, has.at_end);
      mark = subst (λ n. HasAt bytes (at + n) (encoded end_mark tt)) size (second_at bytes at (encoded (footer mode at) numbers) (encoded end_mark tt) has.ends);
    }
