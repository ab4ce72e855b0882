-- A file with a header and a footer in their formats shows no corruption of them, and tells their values.
use Rattle.std.proofs.Common.{◌≡◌, ℕ, ◌+◌, ◌≤◌, ◌++◌, [], length, sym, ◌∙◌, ap, subst, arith}
use Rattle.sasi_host.specs.declared.name.FileName.{FileName}
use Rattle.sasi_host.specs.declared.damage.Damage.{Damage}
use Rattle.sasi_host.specs.Names.{Bytes}
use Rattle.sasi_host.specs.Damages.{HasAt}
use Rattle.sasi_host.proofs.Offsets.{first_at, second_at, same_at}
use Rattle.sasi_formats.specs.Formats.{Encodes, Fits, encoded}
use Rattle.sasi_formats.specs.Parts.{ShowsBrokenPart}
use Rattle.sasi_formats.proofs.Agreement.{same_front}
use Rattle.sasi_formats.proofs.Encoding.{encodes}
use Rattle.sasi_formats.proofs.OfSize.{IsOfSize}
use Rattle.sasi_formats.proofs.PartLaws.{part_apart}
use Rattle.sasi_framing.specs.Framing.{Framing, HasFraming}
use Rattle.sasi_framing.specs.Damages.{ShowsFraming}
use Rattle.sasi_framing.specs.Damages.ShowsFraming.{too_short, in_mark, in_header, in_footer}

-- the values of each part have as many bytes as the framing says, and there is a mark
pub record AreOfSize {A B : Type 0} (framing : Framing A B) : Type 0 where
  pub header : IsOfSize framing.header 16
  pub numbers : (head : A) (at : ℕ) → IsOfSize (framing.numbers head at) framing.size
  pub mark : IsOfSize framing.mark 8
  pub mark_fits : Fits framing.mark tt

module _ {A B : Type 0} (framing : Framing A B) (sizes : AreOfSize framing) (bytes : Bytes) (head : A) (values : B) (has : HasFraming framing bytes head values) where
  header_encodes : Encodes framing.header head (encoded framing.header head)
  header_encodes = encodes framing.header head has.header_fits

  numbers_encode : Encodes (framing.numbers head has.at) values (encoded (framing.numbers head has.at) values)
  numbers_encode = encodes (framing.numbers head has.at) values has.numbers_fit

  numbers_long : length (encoded (framing.numbers head has.at) values) ≡ framing.size
  numbers_long = (sizes.numbers head has.at).sized values (encoded (framing.numbers head has.at) values) numbers_encode

  mark_encodes : Encodes framing.mark tt (encoded framing.mark tt)
  mark_encodes = encodes framing.mark tt sizes.mark_fits

  mark_at : (at : ℕ) → at + 8 ≡ length bytes → HasAt bytes at (encoded framing.mark tt)
  mark_at at ends =
      let here : has.at + length (encoded (framing.numbers head has.at) values) ≡ at = omega (arith, numbers_long, has.at_end, ends) in
      subst (λ (n : ℕ). HasAt bytes n (encoded framing.mark tt)) here (second_at bytes has.at (encoded (framing.numbers head has.at) values) (encoded framing.mark tt) has.ends)

  numbers_at : HasAt bytes has.at (encoded (framing.numbers head has.at) values)
  numbers_at = first_at bytes has.at (encoded (framing.numbers head has.at) values) (encoded framing.mark tt) has.ends

  -- it begins with no other header
  same_header : (other : A) → HasAt bytes 0 (encoded framing.header other) → Fits framing.header other → other ≡ head
  same_header other begins header_fits =
      let mine : Encodes framing.header other (encoded framing.header other) = encodes framing.header other header_fits in
      let same : encoded framing.header other ≡ encoded framing.header head =
      same_at bytes 0 (encoded framing.header other) (encoded framing.header head) begins has.begins
      (sizes.header.sized other (encoded framing.header other) mine ∙ sym (sizes.header.sized head (encoded framing.header head) header_encodes))
      in
      (same_front framing.header other head (encoded framing.header other) (encoded framing.header head) [] [] mine header_encodes (ap (λ (l : Bytes). l ++ []) same)).0

  -- it shows no corruption
  pub undamaged : framing.least ≤ length bytes → (file : FileName) (damage : Damage) → ShowsFraming framing file bytes damage → ⊥
  undamaged least file damage (too_short ends) = omega (arith, ends.short, least)
  undamaged least file damage (in_mark at ends broken) =
      part_apart framing.mark at 8 file bytes (encoded framing.mark tt) tt damage mark_encodes (mark_at at ends) (sizes.mark.sized tt (encoded framing.mark tt) mark_encodes) broken
  undamaged least file damage (in_header mark broken) =
      part_apart framing.header 0 16 file bytes (encoded framing.header head) head damage header_encodes has.begins (sizes.header.sized head (encoded framing.header head) header_encodes) broken
  undamaged least file damage (in_footer before at ends broken) =
      let here : at ≡ has.at = omega (arith, has.at_end, ends) in
      let first : before.head ≡ head = same_header before.head before.begins before.header_fits in
      part_apart (framing.numbers head has.at) has.at framing.size file bytes (encoded (framing.numbers head has.at) values) values damage numbers_encode numbers_at numbers_long
      (subst (λ (n : ℕ). ShowsBrokenPart (framing.numbers head n) n framing.size file bytes damage) here
      (subst (λ (h : A). ShowsBrokenPart (framing.numbers h at) at framing.size file bytes damage) first broken))

  -- and it has no other header or footer
  pub one_header : (other : A) (others : B) → HasFraming framing bytes other others → other ≡ head
  one_header other others is = same_header other is.begins is.header_fits

  pub one_footer : (other : A) (others : B) → HasFraming framing bytes other others → others ≡ values
  one_footer other others is = footers_agree others (subst (λ (h : A). HasFraming framing bytes h others) (one_header other others is) is)
    where
      footers_agree : (others : B) → HasFraming framing bytes head others → others ≡ values
      footers_agree others is =
          let here : is.at ≡ has.at = omega (arith, is.at_end, has.at_end) in
          let own : Bytes = encoded (framing.numbers head has.at) others in
          let mine : Encodes (framing.numbers head has.at) others own =
          subst (λ (n : ℕ). Encodes (framing.numbers head n) others (encoded (framing.numbers head n) others)) here (encodes (framing.numbers head is.at) others is.numbers_fit)
          in
          let stands : HasAt bytes has.at own =
          subst (λ (n : ℕ). HasAt bytes n (encoded (framing.numbers head n) others)) here (first_at bytes is.at (encoded (framing.numbers head is.at) others) (encoded framing.mark tt) is.ends)
          in
          let same : own ≡ encoded (framing.numbers head has.at) values =
          same_at bytes has.at own (encoded (framing.numbers head has.at) values) stands numbers_at ((sizes.numbers head has.at).sized others own mine ∙ sym numbers_long)
          in
          (same_front (framing.numbers head has.at) others values own (encoded (framing.numbers head has.at) values) [] [] mine numbers_encode (ap (λ (l : Bytes). l ++ []) same)).0
