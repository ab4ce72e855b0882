-- The end of a data file, as an opening looks at it.
use Rattle.std.proofs.Common.{◌≡◌, ℕ, ◌+◌, ◌-◌, ◌^◌, ◌≤◌, List, [], ◌++◌, length, replicate, take, refl, sym, ◌∙◌, ap, subst, arith}
use Rattle.std.proofs.lemmas.List.{length-replicate, take-append-le, take_all}
use Rattle.sasi_host.specs.declared.name.FileName.{FileName}
use Rattle.sasi_host.specs.declared.damage.Damage.{Damage}
use Rattle.sasi_host.specs.Names.{Bytes}
use Rattle.sasi_host.specs.Damages.{HasAt}
use Rattle.sasi_host.proofs.Offsets.{same_at}
use Rattle.sasi_types.specs.declared.column.ColumnType.{ColumnType}
use Rattle.sasi_types.specs.declared.partitioner.Partitioner.{Partitioner}
use Rattle.sasi_formats.specs.Formats.{Encodes, encoded}
use Rattle.sasi_formats.specs.Parts.{ShowsBrokenPart}
use Rattle.sasi_formats.proofs.Agreement.{same_front}
use Rattle.sasi_formats.proofs.Encoding.{encodes}
use Rattle.sasi_formats.proofs.PartLaws.{part_apart}
use Rattle.sasi_framing.specs.Framing.{EndsWith}
use Rattle.sasi_datawrite.specs.declared.footer.Footer.{Footer}
use Rattle.sasi_datawrite.specs.Format.{Content, end_mark, footer, footer_bytes}
use Rattle.sasi_datawrite.specs.Files.{IsDataFile}
use Rattle.sasi_datawrite.proofs.Footers.{footer_is}
use Rattle.sasi_dataread.proofs.Laws.{footer_length, footer_of, footer_stands, in_range}
use Rattle.sasi_dataread.specs.HeaderAndFooter.{EndsAsDataFile}

-- a part that is shown as broken encodes no numbers
pub no_numbers : (at : ℕ) (file : FileName) (part : Bytes) (damage : Damage) (numbers : Footer) → ((bytes : Bytes) → HasAt bytes at part → ShowsBrokenPart (footer at) at (length part) file bytes damage) → Encodes (footer at) numbers part → ⊥
no_numbers at file part damage numbers shown is =
    let whole : Bytes = replicate at 0 ++ part ++ [] in
    let has : HasAt whole at part = record { front = replicate at 0; rest = []; is = refl; offset_is = length-replicate at 0 } in
    part_apart (footer at) at (length part) file whole part numbers damage is has refl (shown whole has)

-- and a part that encodes some encodes no others
pub one_value : (at : ℕ) (part : Bytes) (numbers others : Footer) → Encodes (footer at) numbers part → Encodes (footer at) others part → numbers ≡ others
one_value at part numbers others one other = (same_front (footer at) numbers others part part [] [] one other refl).0

-- a file with this mark at its end
pub ends_as : (bytes : Bytes) (size : ℕ) → size ≡ length bytes → 97 ≤ size → HasAt bytes (size - 40 + 32) (encoded end_mark tt) → EndsAsDataFile bytes
ends_as bytes size same long mark = record { long = omega (arith, same, long); at = size - 40 + 32; at_end = omega (arith, same, long); mark = mark }

take_front : (a b : Bytes) → take (length a) (a ++ b) ≡ a
take_front a b = take-append-le (length a) a b (omega arith) ∙ take_all (length a) a (omega arith)

-- the last bytes of a data file encode its numbers
pub numbers_encoded : (partitioner : Partitioner) (types : List ColumnType) (bytes read : Bytes) (content : Content) (size : ℕ) → IsDataFile partitioner types bytes content → length bytes ≤ 2 ^ 62 → EndsWith size read bytes → length read ≡ 40
    → Encodes (footer (size - 40)) (footer_of partitioner content) (take 32 read)
numbers_encoded partitioner types bytes read content size is short ends sized =
    let own = footer_of partitioner content in
    let at = length bytes - 40 in
    let here : HasAt bytes at read = subst (λ (n : ℕ). HasAt bytes (n - 40) read) ends.size_is (subst (λ (n : ℕ). HasAt bytes (size - n) read) sized ends.ends) in
    let whole : read ≡ footer_bytes own = same_at bytes at read (footer_bytes own) here (footer_stands partitioner types bytes content is) (sized ∙ sym (footer_length own)) in
    let front : take 32 read ≡ encoded (footer at) own = ap (take 32) (whole ∙ footer_is at own) ∙ take_front (encoded (footer at) own) (encoded end_mark tt) in
    subst (λ (n : ℕ). Encodes (footer (n - 40)) own (take 32 read)) (sym ends.size_is)
    (subst (λ (l : Bytes). Encodes (footer at) own l) (sym front) (encodes (footer at) own (in_range partitioner types bytes content is short)))
