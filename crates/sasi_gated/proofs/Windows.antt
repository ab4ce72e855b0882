-- What the first page shows of a file.
use Rattle.std.proofs.Common.{◌≡◌, ℕ, ◌+◌, ◌*◌, ◌<◌, [], ◌++◌, length, take, drop, sym, ◌∙◌, ap, subst, arith, append_assoc, take-append-drop}
use Rattle.std.proofs.lemmas.List.{length-take, drop_all, drop-drop}
use Rattle.sasi_host.specs.declared.name.FileName.{FileName}
use Rattle.sasi_host.specs.declared.damage.Damage.{Damage}
use Rattle.sasi_host.specs.Names.{Bytes}
use Rattle.sasi_gated.specs.Format.{header}
use Rattle.sasi_gated.specs.Damages.{IsGatedDamage}

-- bytes that were read stand where they were read, before the others
pub read_at : (bytes out : Bytes) (at n : ℕ) → out ≡ take n (drop at bytes) → drop at bytes ≡ out ++ drop (at + n) bytes
read_at bytes out at n is =
    sym (take-append-drop n (drop at bytes)) ∙ ap (λ (l : Bytes). l ++ drop n (drop at bytes)) (sym is) ∙ ap (λ (l : Bytes). out ++ l) (drop-drop n at bytes)

-- the first page, and the others behind it
first_page : (bytes page : Bytes) → page ≡ take 4096 (drop (4096 * 0) bytes) → bytes ≡ page ++ drop 4096 bytes
first_page bytes page is = sym (take-append-drop 4096 bytes) ∙ ap (λ (l : Bytes). l ++ drop 4096 bytes) (sym is)

-- it begins with the header, and so does the file
pub header_read : (file : FileName) (bytes page : Bytes) → page ≡ take 4096 (drop (4096 * 0) bytes) → (rest : Bytes) × (page ≡ header file ++ rest)
    → (rest : Bytes) × (bytes ≡ header file ++ rest)
header_read file bytes page is (rest, begins) = (
  rest ++ drop 4096 bytes,
  first_page bytes page is ∙ ap (λ (l : Bytes). l ++ drop 4096 bytes) begins ∙ append_assoc (header file) rest (drop 4096 bytes),
)

-- or it shows a damage, and so does the file
pub header_shows : (file : FileName) (bytes page : Bytes) (damage : Damage) → page ≡ take 4096 (drop (4096 * 0) bytes)
    → ((more : Bytes) → (length page < 16 → more ≡ []) → IsGatedDamage file (page ++ more) damage) → IsGatedDamage file bytes damage
header_shows file bytes page damage is shows =
    subst (λ (l : Bytes). IsGatedDamage file l damage) (sym (first_page bytes page is))
    (shows (drop 4096 bytes) (λ short. drop_all 4096 bytes (omega (arith, short, ap length is, length-take 4096 bytes))))
