-- A new gated file.
use Rattle.std.proofs.Common.{◌≡◌, ℕ, ◌+◌, ◌-◌, [], ◌∷◌, ◌++◌, length, Option, Some, None, IfSome, refl, sym, ◌∙◌, ap, subst, arith, length-append}
use Rattle.std.specs.Option.{option_to_list}
use Rattle.sasi_host.specs.declared.name.FileName.{FileName}
use Rattle.sasi_host.specs.Names.{Bytes}
use Rattle.sasi_host.specs.View.{View}
use Rattle.sasi_host.specs.Disk.{IsFileDurable}
use Rattle.sasi_gated.specs.Format.{header, frame, new_gated_file, IsPayload}
use Rattle.sasi_gated.specs.Gates.{IsAtGate}
use Rattle.sasi_gated.specs.Handles.{IsAtEnd}
use Rattle.sasi_gated.proofs.Laws.{at_first_gate, at_next_gate, header_length, frame_length}

-- the closed gate is the last byte
pub new_file_gate : (file : FileName) (first : Option Bytes) → IfSome first IsPayload
    → IsAtGate file (new_gated_file file first) (length (new_gated_file file first) - 1) (option_to_list first) (0 ∷ [])
new_file_gate file None fits =
    subst (λ (n : ℕ). IsAtGate file (header file ++ 0 ∷ []) n [] (0 ∷ [])) size (at_first_gate file (header file ++ 0 ∷ []) (0 ∷ []) refl)
  where
    size : 16 ≡ length (header file ++ 0 ∷ []) - 1
    size = omega (arith, header_length file, length-append (header file) (0 ∷ []))
new_file_gate file (Some payload) fits =
    subst (λ (n : ℕ). IsAtGate file (header file ++ 1 ∷ (frame payload ++ 0 ∷ [])) n (payload ∷ []) (0 ∷ [])) size
    (at_next_gate file (header file ++ 1 ∷ (frame payload ++ 0 ∷ [])) 16 [] (1 ∷ (frame payload ++ 0 ∷ [])) payload (0 ∷ [])
    (at_first_gate file (header file ++ 1 ∷ (frame payload ++ 0 ∷ [])) (1 ∷ (frame payload ++ 0 ∷ [])) refl)
    (record { gate = 1; is_open = (λ is. cc); payload_fits = fits; is = refl }))
  where
    size : 16 + (5 + length payload) ≡ length (header file ++ 1 ∷ (frame payload ++ 0 ∷ [])) - 1
    size =
        omega
        (arith, header_length file, frame_length payload, length-append (header file) (1 ∷ (frame payload ++ 0 ∷ [])), length-append (frame payload) (0 ∷ []))

pub new_file_end : (v : View) (file : FileName) (first : Option Bytes) (bytes : Bytes) (count : ℕ) → bytes ≡ new_gated_file file first
    → IfSome first IsPayload → count ≡ length bytes → IsFileDurable v file bytes → IsAtEnd v file (count - 1) (option_to_list first)
new_file_end v file first bytes count is fits size kept = record {
  bytes = new_gated_file file first;
  rest = 0 ∷ [];
  kept = subst (λ (l : Bytes). IsFileDurable v file l) is kept;
  at_gate =
      subst (λ (n : ℕ). IsAtGate file (new_gated_file file first) (n - 1) (option_to_list first) (0 ∷ [])) (sym (size ∙ ap length is))
      (new_file_gate file first fits);
  closed = ([], refl);
}
