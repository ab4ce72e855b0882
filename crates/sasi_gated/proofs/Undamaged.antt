-- A gated file shows no damage.
use Rattle.std.specs.Prelude.{◌≡◌, ◌≢◌, ℕ, ◌+◌, ◌^◌, ◌<◌, List, [], ◌∷◌, ◌++◌, length, take, drop, refl}
use Rattle.std.proofs.Common.{sym, ◌∙◌, ap, subst, arith, length-append, ⊎_elim}
use Rattle.std.proofs.lemmas.List.{take_at, drop-drop}
use Rattle.std.proofs.lemmas.Nat.{from_be_bytes-to_be_bytes_4}
use Rattle.std.specs.Int.{to_be_bytes, from_be_bytes, w32}
use Rattle.sasi_host.specs.declared.name.FileName.{FileName}
use Rattle.sasi_host.specs.declared.damage.Damage.{Damage}
use Rattle.sasi_host.specs.Names.{Bytes}
use Rattle.sasi_formats.specs.Headers.{file_header}
use Rattle.sasi_formats.proofs.PartLaws.{part_apart}
use Rattle.sasi_gated.specs.Format.{magic, header, frame, IsLength, FromGate, IsGated}
use Rattle.sasi_gated.specs.Gates.{IsAtGate}
use Rattle.sasi_gated.specs.Damages.{EndsEarly, IsGatedDamage}
use Rattle.sasi_gated.specs.Damages.IsGatedDamage.{truncated, in_header, bad_length}
use Rattle.sasi_gated.proofs.Headers.{header_encodes}
use Rattle.sasi_gated.proofs.Laws.{frame_states, frame_length, header_length, left_at}
use Rattle.sasi_gated.proofs.AtGates.{rest_at}

not_early : (rest : Bytes) (left : List Bytes) → FromGate rest left → EndsEarly rest → ⊥
not_early [] [] (tail, is) early = cc
not_early [] (p ∷ left) (tail, opens, from) early = let is = opens.is in cc
not_early (gate ∷ rest) [] (tail, is) early = early.0 cc
not_early (gate ∷ rest) (p ∷ left) (tail, opens, from) early =
    let both : gate ∷ rest ≡ opens.gate ∷ (frame p ++ tail) = opens.is in
    let same : rest ≡ frame p ++ tail = cc in
    ⊎_elim (λ few. omega (arith, few, ap length same, length-append (frame p) tail, frame_length p))
    (λ lacks. let short = lacks.short in omega (arith, short, ap length same, length-append (frame p) tail, frame_length p, ap (λ (l : Bytes). from_be_bytes w32 (take 4 l)) same, frame_states p tail opens.payload_fits))
    early.1

stated_same : (count : ℕ) (seen rest p tail : Bytes) → seen ≡ to_be_bytes w32 count → count < 2 ^ 32 → IsLength (length p)
    → seen ++ rest ≡ frame p ++ tail → IsLength count
stated_same count seen rest p tail stated small fits same =
    let is : count ≡ length p =
    sym (from_be_bytes-to_be_bytes_4 count small) ∙ sym (ap (from_be_bytes w32) (take_at (to_be_bytes w32 count) rest 4 refl)) ∙ ap (λ (l : Bytes). from_be_bytes w32 (take 4 (l ++ rest))) (sym stated)
    ∙ ap (λ (l : Bytes). from_be_bytes w32 (take 4 l)) same ∙ frame_states p tail fits
    in
    subst IsLength (sym is) fits

length_stands : (gate count : ℕ) (seen rest : Bytes) (left : List Bytes) → gate ≢ 0 → seen ≡ to_be_bytes w32 count → count < 2 ^ 32
    → FromGate (gate ∷ (seen ++ rest)) left → IsLength count
length_stands gate count seen rest [] is_open stated small (tail, is) = absurd (is_open cc)
length_stands gate count seen rest (p ∷ left) is_open stated small (tail, opens, from) =
    let both : gate ∷ (seen ++ rest) ≡ opens.gate ∷ (frame p ++ tail) = opens.is in
    stated_same count seen rest p tail stated small opens.payload_fits cc

-- what stands behind an open gate is its length
rest_behind : (file : FileName) (bytes : Bytes) (at : ℕ) (done : List Bytes) (gate : ℕ) (rest : Bytes) → IsAtGate file bytes at done (gate ∷ rest) → rest ≡ drop (at + 1) bytes
rest_behind file bytes at done gate rest stands = ap (λ (l : Bytes). drop 1 l) (sym (rest_at file bytes at done (gate ∷ rest) stands)) ∙ drop-drop 1 at bytes

-- no damage is true of a gated file
pub gated_undamaged : (file : FileName) (bytes : Bytes) (damage : Damage) (records : List Bytes) → IsGated file bytes records
    → IsGatedDamage file bytes damage → ⊥
gated_undamaged file bytes damage records gated (truncated cut tells) =
    ⊎_elim (λ few. omega (arith, few, ap length gated.is, length-append (header file) gated.rest, header_length file))
    (λ early. let left = left_at file bytes early.0 early.1 early.2 records early.3 gated in not_early early.2 left.0 left.2 early.4)
    cut
gated_undamaged file bytes damage records gated (in_header broken) =
    part_apart (file_header (magic file.kind) file.number) 0 16 file bytes (header file) tt damage (header_encodes file)
    (record { front = []; rest = gated.rest; is = gated.is; offset_is = refl }) (header_length file) broken
gated_undamaged file bytes damage records gated (bad_length bad) =
    let left = left_at file bytes bad.at bad.done (bad.gate ∷ bad.rest) records bad.gate_stands gated in
    let stated = to_be_bytes w32 bad.shows.count in
    let begins : bad.rest ≡ stated ++ drop (bad.at + 1 + 4) bytes = rest_behind file bytes bad.at bad.done bad.gate bad.rest bad.gate_stands ∙ bad.shows.stands in
    bad.shows.no_length (length_stands bad.gate bad.shows.count stated (drop (bad.at + 1 + 4) bytes) left.0 bad.is_open refl bad.shows.count_fits
    (subst (λ (l : Bytes). FromGate (bad.gate ∷ l) left.0) begins left.2))
