-- What is known of a file by its first and its last bytes.
use Rattle.std.proofs.Common.{◌≡◌, ℕ, ◌+◌, ◌-◌, ◌≤◌, ◌++◌, length, take, drop, sym, ◌∙◌, ap, subst, arith, length-drop, take-append-drop}
use Rattle.std.proofs.lemmas.List.{length-take-le}
use Rattle.sasi_host.specs.declared.name.FileName.{FileName}
use Rattle.sasi_host.specs.declared.damage.Damage.{Damage}
use Rattle.sasi_host.specs.Names.{Bytes}
use Rattle.sasi_host.specs.Damages.{HasAt}
use Rattle.sasi_host.proofs.Offsets.{first_at, second_at}
use Rattle.sasi_formats.specs.Formats.{Encodes, encoded}
use Rattle.sasi_formats.specs.Parts.{ShowsBrokenPart}
use Rattle.sasi_formats.proofs.Encoding.{encoded_only, fits}
use Rattle.sasi_framing.specs.Framing.{Framing, HasFraming, HasMark, EndsWith}
use Rattle.sasi_framing.specs.Damages.{ShowsFraming}
use Rattle.sasi_framing.specs.Damages.ShowsFraming.{in_mark, in_header, in_footer}

-- a header that breaks its format
pub header_shows : {A B : Type 0} (framing : Framing A B) (file : FileName) (bytes header : Bytes) (damage : Damage) → HasMark framing bytes → length header ≡ 16 → HasAt bytes 0 header
    → ((whole : Bytes) → HasAt whole 0 header → ShowsBrokenPart framing.header 0 (length header) file whole damage) → ShowsFraming framing file bytes damage
header_shows framing file bytes header damage mark long has shown =
    in_header mark (subst (λ (n : ℕ). ShowsBrokenPart framing.header 0 n file bytes damage) long (shown bytes has))

-- the last bytes of a file, cut into numbers and a mark
module _ {A B : Type 0} (framing : Framing A B) (file : FileName) (size : ℕ) (footer numbers mark bytes : Bytes) (long : length footer ≡ framing.size + 8) (within : framing.size + 8 ≤ size)
    (front : numbers ≡ take framing.size footer) (behind : mark ≡ drop framing.size footer) (read : EndsWith size footer bytes) where
  abbrev at : ℕ
  at = size - (framing.size + 8)

  whole : footer ≡ numbers ++ mark
  whole = sym (take-append-drop framing.size footer) ∙ ap (λ (l : Bytes). l ++ drop framing.size footer) (sym front) ∙ ap (λ (l : Bytes). numbers ++ l) (sym behind)

  numbers_long : length numbers ≡ framing.size
  numbers_long = ap length front ∙ length-take-le framing.size footer (omega (arith, long))

  mark_long : length mark ≡ 8
  mark_long = omega (arith, ap length behind, length-drop framing.size footer, long)

  footer_at : HasAt bytes at (numbers ++ mark)
  footer_at = subst (λ (n : ℕ). HasAt bytes (size - n) (numbers ++ mark)) long (subst (λ (l : Bytes). HasAt bytes (size - length footer) l) whole read.ends)

  mark_at : HasAt bytes (at + framing.size) mark
  mark_at = subst (λ (n : ℕ). HasAt bytes (at + n) mark) numbers_long (second_at bytes at numbers mark footer_at)

  -- a mark that breaks its format
  pub mark_shows : (damage : Damage) → ((other : Bytes) → HasAt other (at + framing.size) mark → ShowsBrokenPart framing.mark (at + framing.size) (length mark) file other damage) → ShowsFraming framing file bytes damage
  mark_shows damage shown =
      in_mark (at + framing.size) (omega (arith, within, read.size_is)) (subst (λ (n : ℕ). ShowsBrokenPart framing.mark (at + framing.size) n file bytes damage) mark_long (shown bytes mark_at))

  -- the mark at the end
  pub mark_stands : Encodes framing.mark tt mark → HasAt bytes (at + framing.size) (encoded framing.mark tt)
  mark_stands encodes = subst (λ (l : Bytes). HasAt bytes (at + framing.size) l) (encoded_only framing.mark tt mark encodes) mark_at

  pub has_mark : Encodes framing.mark tt mark → HasMark framing bytes
  has_mark encodes = record { at = at + framing.size; at_end = omega (arith, within, read.size_is); ends = mark_stands encodes }

  -- numbers that break theirs, behind a header in its format
  pub numbers_show : (damage : Damage) (header : Bytes) (head : A) → Encodes framing.mark tt mark → HasAt bytes 0 header → Encodes framing.header head header
      → ((other : Bytes) → HasAt other at numbers → ShowsBrokenPart (framing.numbers head at) at (length numbers) file other damage) → ShowsFraming framing file bytes damage
  numbers_show damage header head encodes begins first shown =
      in_footer (record {
        mark = has_mark encodes;
        head = head;
        begins = subst (λ (l : Bytes). HasAt bytes 0 l) (encoded_only framing.header head header first) begins;
        header_fits = fits framing.header head header first;
      }) at (omega (arith, within, read.size_is))
      (subst (λ (n : ℕ). ShowsBrokenPart (framing.numbers head at) at n file bytes damage) numbers_long (shown bytes (first_at bytes at numbers mark footer_at)))

  -- a header and a footer in their formats
  pub framed : (header : Bytes) (head : A) (values : B) → HasAt bytes 0 header → Encodes framing.header head header → Encodes (framing.numbers head at) values numbers → Encodes framing.mark tt mark → HasFraming framing bytes head values
  framed header head values begins first second third = record {
    begins = subst (λ (l : Bytes). HasAt bytes 0 l) (encoded_only framing.header head header first) begins;
    header_fits = fits framing.header head header first;
    at = at;
    at_end = omega (arith, within, read.size_is);
    ends =
        subst (λ (l : Bytes). HasAt bytes at (l ++ encoded framing.mark tt)) (encoded_only (framing.numbers head at) values numbers second)
        (subst (λ (l : Bytes). HasAt bytes at (numbers ++ l)) (encoded_only framing.mark tt mark third) footer_at);
    numbers_fit = fits (framing.numbers head at) values numbers second;
  }
