-- What a crash leaves in each of the two writes of an append.
use Rattle.std.proofs.Common.{◌≡◌, ◌≢◌, inl, inr, ℕ, ◌+◌, ◌<◌, List, [], ◌∷◌, ◌++◌, length, get_or, take, drop, refl, sym, ◌∙◌, ap, subst, arith, append_assoc, length-append, take-append-drop}
use Rattle.std.proofs.lemmas.Bool.{cases_eq}
use Rattle.std.proofs.lemmas.List.{take_at, drop_at, drop_more, append-nil}
use Rattle.sasi_host.specs.declared.name.FileName.{FileName}
use Rattle.sasi_host.specs.Names.{Bytes}
use Rattle.sasi_host.specs.Disk.{Torn, overlay}
use Rattle.sasi_gated.specs.Format.{header, frame, OpenRecords, IsPayload, IsGated, IsBeforeOrAfter}
use Rattle.sasi_gated.specs.Gates.{IsAtGate}
use Rattle.sasi_gated.proofs.Laws.{gated_at}

-- around the byte behind base
module _ (base : Bytes) (at : ℕ) (offset : at ≡ length base) where
  one : (g : ℕ) (xs : Bytes) → base ++ g ∷ xs ≡ (base ++ g ∷ []) ++ xs
  one g xs = sym (append_assoc base (g ∷ []) xs)

  one_length : (g : ℕ) → length (base ++ g ∷ []) ≡ at + 1
  one_length g = omega (arith, offset, length-append base (g ∷ []))

  take_behind : (g : ℕ) (xs : Bytes) → take (at + 1) (base ++ g ∷ xs) ≡ base ++ g ∷ []
  take_behind g xs = ap (λ (l : Bytes). take (at + 1) l) (one g xs) ∙ take_at (base ++ g ∷ []) xs (at + 1) (one_length g)

  drop_behind : (g : ℕ) (xs : Bytes) → drop (at + 1) (base ++ g ∷ xs) ≡ xs
  drop_behind g xs = ap (λ (l : Bytes). drop (at + 1) l) (one g xs) ∙ drop_at (base ++ g ∷ []) xs (at + 1) (one_length g)

  -- what a torn write behind a byte leaves
  pub torn_after : (g n : ℕ) (xs c : Bytes) → Torn (at + 1) n (base ++ g ∷ xs) c → c ≡ base ++ g ∷ drop (at + 1) c
  torn_after g n xs c torn =
      sym (take-append-drop (at + 1) c) ∙ ap (λ (l : Bytes). l ++ drop (at + 1) c) (torn.before ∙ take_behind g xs) ∙ append_assoc base (g ∷ []) (drop (at + 1) c)

  -- what a torn write of that byte leaves
  pub torn_at : (g : ℕ) (xs c : Bytes) → Torn at 1 (base ++ g ∷ xs) c → c ≡ base ++ get_or c at 0 ∷ xs
  torn_at g xs c torn =
      let long : at < length c = omega (arith, torn.no_shorter, length-append base (g ∷ xs), offset) in
      let rest : drop at c ≡ get_or c at 0 ∷ xs = drop_more c at 0 long ∙ ap (λ (l : Bytes). get_or c at 0 ∷ l) (torn.after ∙ drop_behind g xs) in
      sym (take-append-drop at c) ∙ ap (λ (l : Bytes). l ++ drop at c) (torn.before ∙ take_at base (g ∷ xs) at (sym offset)) ∙ ap (λ (l : Bytes). base ++ l) rest

  -- that byte, written whole
  pub written_at : (g h : ℕ) (xs : Bytes) → overlay (base ++ g ∷ xs) at (h ∷ []) ≡ base ++ h ∷ xs
  written_at g h xs =
      ap (λ (l : Bytes). l ++ (h ∷ []) ++ drop (at + 1) (base ++ g ∷ xs)) (take_at base (g ∷ xs) at (sym offset))
      ∙ ap (λ (l : Bytes). base ++ (h ∷ []) ++ l) (drop_behind g xs)
      ∙ append_assoc base (h ∷ []) xs

  -- bytes behind it, written whole
  pub written_after : (g : ℕ) (xs bytes : Bytes)
      → overlay (base ++ g ∷ xs) (at + 1) bytes ≡ base ++ g ∷ (bytes ++ drop (at + 1 + length bytes) (base ++ g ∷ xs))
  written_after g xs bytes =
      ap (λ (l : Bytes). l ++ bytes ++ drop (at + 1 + length bytes) (base ++ g ∷ xs)) (take_behind g xs)
      ∙ append_assoc (base ++ g ∷ []) bytes _
      ∙ append_assoc base (g ∷ []) _

module _ (file : FileName) (front rest payload : Bytes) (records : List Bytes) (stand : OpenRecords front records) (fits : IsPayload payload)
    (at : ℕ) (offset : at ≡ length (header file ++ front)) where
  abbrev base : Bytes
  base = header file ++ front

  gate_at : (xs : Bytes) → IsAtGate file (base ++ xs) at records xs
  gate_at xs = record { front = front; is = refl; records_stand = stand; offset_is = offset }

  before : (gate : ℕ) (xs : Bytes) → gate ≡ 0 → IsGated file (base ++ gate ∷ xs) records
  before gate xs shut =
      subst (λ (l : List Bytes). IsGated file (base ++ gate ∷ xs) l) (append-nil records)
      (gated_at file (base ++ gate ∷ xs) at records (gate ∷ xs) [] (gate_at (gate ∷ xs)) (xs, ap (λ (g : ℕ). g ∷ xs) shut))

  after : (gate : ℕ) (xs : Bytes) → gate ≢ 0 → IsGated file (base ++ gate ∷ (frame payload ++ 0 ∷ xs)) (records ++ payload ∷ [])
  after gate xs is_open =
      gated_at file (base ++ gate ∷ (frame payload ++ 0 ∷ xs)) at records (gate ∷ (frame payload ++ 0 ∷ xs)) (payload ∷ []) (gate_at (gate ∷ (frame payload ++ 0 ∷ xs)))
      (0 ∷ xs, record { gate = gate; is_open = is_open; payload_fits = fits; is = refl }, (xs, refl))

  -- behind a closed gate anything may stand
  pub first_write : (n : ℕ) (c : Bytes) → Torn (at + 1) n (base ++ 0 ∷ rest) c → IsBeforeOrAfter file records payload c
  first_write n c torn = inl (subst (λ (l : Bytes). IsGated file l records) (sym (torn_after base at offset 0 n rest c torn)) (before 0 _ refl))

  -- the record stands whole behind its gate
  pub second_write : (tail c : Bytes) → Torn at 1 (base ++ 0 ∷ (frame payload ++ 0 ∷ tail)) c → IsBeforeOrAfter file records payload c
  second_write tail c torn =
      let gate = get_or c at 0 in
      let is = torn_at base at offset 0 (frame payload ++ 0 ∷ tail) c torn in
      subst (λ (l : Bytes). IsBeforeOrAfter file records payload l) (sym is) (elim (cases_eq gate 0) [
        | inl shut ↦ inl (before gate _ shut)
        | inr is_open ↦ inr (after gate tail is_open)
      ])
