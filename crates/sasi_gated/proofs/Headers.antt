-- The header of a gated file, and what its first page shows of it.
use Rattle.std.proofs.Common.{◌≡◌, ℕ, ◌≤◌, [], ◌++◌, length, take, drop, refl, sym, ◌∙◌, ap, subst, append_assoc, take-append-drop}
use Rattle.std.proofs.lemmas.List.{length-take-le}
use Rattle.sasi_host.specs.declared.name.FileName.{FileName}
use Rattle.sasi_host.specs.declared.damage.Damage.{Damage}
use Rattle.sasi_host.specs.Names.{Bytes}
use Rattle.sasi_host.specs.Damages.{HasAt}
use Rattle.sasi_formats.specs.Formats.{Encodes, encoded}
use Rattle.sasi_formats.specs.Headers.{file_header}
use Rattle.sasi_formats.specs.Parts.{ShowsBrokenPart}
use Rattle.sasi_formats.proofs.Agreement.{one_encoding}
use Rattle.sasi_formats.proofs.Headers.{header_encodes as encodes_header}
use Rattle.sasi_gated.specs.Format.{header, magic}
use Rattle.sasi_gated.specs.Damages.{IsGatedDamage}
use Rattle.sasi_gated.specs.Damages.IsGatedDamage.{in_header}

pub header_is : (file : FileName) → header file ≡ encoded (file_header (magic file.kind) file.number) tt
unfolding header
header_is file = refl

-- the format has its bytes
pub header_encodes : (file : FileName) → Encodes (file_header (magic file.kind) file.number) tt (header file)
header_encodes file = subst (λ (l : Bytes). Encodes (file_header (magic file.kind) file.number) tt l) (sym (header_is file)) (encodes_header (magic file.kind) file.number)

-- a page whose first sixteen bytes are a header begins with it
pub page_begins : (file : FileName) (page part m : Bytes) → m ≡ magic file.kind → part ≡ take 16 page → Encodes (file_header m file.number) tt part → (rest : Bytes) × (page ≡ header file ++ rest)
page_begins file page part m is part_is encodes =
    let own = subst (λ (l : Bytes). Encodes (file_header l file.number) tt part) is encodes in
    let same : part ≡ header file = one_encoding (file_header (magic file.kind) file.number) tt part (header file) own (header_encodes file) in
    (drop 16 page, sym (take-append-drop 16 page) ∙ ap (λ (l : Bytes). l ++ drop 16 page) (sym part_is ∙ same))

-- what they show, the file shows
pub page_breaks : (file : FileName) (page more part m : Bytes) (damage : Damage) → m ≡ magic file.kind → part ≡ take 16 page → 16 ≤ length page
    → ((bytes : Bytes) → HasAt bytes 0 part → ShowsBrokenPart (file_header m file.number) 0 (length part) file bytes damage) → IsGatedDamage file (page ++ more) damage
page_breaks file page more part m damage is part_is long shows =
    let size : length part ≡ 16 = ap length part_is ∙ length-take-le 16 page long in
    let cut : page ≡ part ++ drop 16 page = sym (take-append-drop 16 page) ∙ ap (λ (l : Bytes). l ++ drop 16 page) (sym part_is) in
    let has : HasAt (page ++ more) 0 part = record { front = []; rest = drop 16 page ++ more; is = ap (λ (l : Bytes). l ++ more) cut ∙ append_assoc part (drop 16 page) more; offset_is = refl } in
    in_header (subst (λ (n : ℕ). ShowsBrokenPart (file_header (magic file.kind) file.number) 0 n file (page ++ more) damage) size
    (subst (λ (l : Bytes). ShowsBrokenPart (file_header l file.number) 0 (length part) file (page ++ more) damage) is (shows (page ++ more) has)))
