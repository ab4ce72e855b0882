-- An append, over what a host tells before it, between its two writes and after it.
use Rattle.std.proofs.Common.{◌≡◌, ℕ, ◌+◌, List, [], ◌∷◌, ◌++◌, length, drop, refl, sym, ◌∙◌, ap, subst, arith, append_assoc, length-append}
use Rattle.sasi_host.specs.declared.name.FileName.{FileName}
use Rattle.sasi_host.specs.Names.{Bytes}
use Rattle.sasi_host.specs.View.{View, IsSound, Reaches}
use Rattle.sasi_host.specs.Disk.{IsFileDurable, Changes, FileChange, InPlace, Torn, LeftWith, AnyChange, Becomes, overlay}
use Rattle.sasi_host.proofs.ContentLaws.{reaches_on, reaches_written}
use Rattle.sasi_host.proofs.Durability.{leaves, leaves_on}
use Rattle.sasi_host.proofs.ChangeLaws.{touches, touches_on}
use Rattle.sasi_gated.specs.Format.{header, frame, IsPayload, IsBeforeOrAfter}
use Rattle.sasi_gated.specs.Gates.{IsAtGate}
use Rattle.sasi_gated.specs.Handles.{IsAtEnd}
use Rattle.sasi_gated.proofs.Laws.{at_next_gate, frame_length}
use Rattle.sasi_gated.proofs.Torn.{first_write, second_write, written_after, written_at}

-- what an append writes behind the gate
pub framed_length : (payload bytes : Bytes) → bytes ≡ frame payload ++ 0 ∷ [] → length bytes ≡ 5 + length payload
framed_length payload bytes whole = omega (arith, ap length whole, length-append (frame payload) (0 ∷ []), frame_length payload)

-- no other file changes
pub touched : (a b c : View) (file : FileName) (at n m : ℕ) → Changes (FileChange file (InPlace (Torn (at + 1) n))) a b
    → Changes (FileChange file (InPlace (Torn at m))) b c → Changes (FileChange file AnyChange) a c
touched a b c file at n m first second =
    touches_on a b c file (touches a b file (InPlace (Torn (at + 1) n)) first) (touches b c file (InPlace (Torn at m)) second)

-- the new closed gate stands within the file
pub reaches_end : (a b c : View) (file : FileName) (at : ℕ) (bytes : Bytes) → Changes (FileChange file (InPlace (Torn (at + 1) (length bytes)))) a b
    → Becomes file (λ (w : Bytes). overlay w (at + 1) bytes) a b → Changes (FileChange file (InPlace (Torn at 1))) b c → Reaches a file (at + 1)
    → Reaches c file (at + length bytes + 1)
reaches_end a b c file at bytes first becomes second reaches =
    let same : at + 1 + length bytes ≡ at + length bytes + 1 = omega arith in
    subst (λ (n : ℕ). Reaches c file n) same
    (reaches_on b c file (Torn at 1) (at + 1 + length bytes) second (λ x y torn. torn.no_shorter)
    (reaches_written a b file (FileChange file (InPlace (Torn (at + 1) (length bytes)))) (at + 1) bytes first becomes reaches))

module _ (a b : View) (file : FileName) (at : ℕ) (records : List Bytes) (payload bytes : Bytes) (sound_a : IsSound a)
    (end : IsAtEnd a file at records) (fits : IsPayload payload) (whole : bytes ≡ frame payload ++ 0 ∷ [])
    (first : Changes (FileChange file (InPlace (Torn (at + 1) (length bytes)))) a b) where
  abbrev P : Bytes → Type 0
  P = IsBeforeOrAfter file records payload

  abbrev base : Bytes
  base = header file ++ end.at_gate.front

  abbrev behind : Bytes
  behind = end.closed.0

  kept : IsFileDurable a file (base ++ 0 ∷ behind)
  kept = subst (λ (l : Bytes). IsFileDurable a file l) (end.at_gate.is ∙ ap (λ (l : Bytes). base ++ l) end.closed.1) end.kept

  -- the first write leaves the records as they were
  pub staging : Changes (FileChange file (LeftWith P)) a b
  staging = leaves a b file (Torn (at + 1) (length bytes)) (base ++ 0 ∷ behind) P sound_a kept first
      (first_write file end.at_gate.front behind payload records end.at_gate.records_stand fits at end.at_gate.offset_is (length bytes))

  tail : Bytes
  tail = drop (at + 1 + length bytes) (base ++ 0 ∷ behind)

  module _ (stored : (w : Bytes) → IsFileDurable a file w → IsFileDurable b file (overlay w (at + 1) bytes)) where
    staged : IsFileDurable b file (base ++ 0 ∷ (frame payload ++ 0 ∷ tail))
    unfolding tail
    staged = subst (λ (l : Bytes). IsFileDurable b file l)
        (written_after base at end.at_gate.offset_is 0 behind bytes ∙ ap (λ (l : Bytes). base ++ 0 ∷ (l ++ tail)) whole ∙ ap (λ (l : Bytes). base ++ 0 ∷ l) (append_assoc (frame payload) (0 ∷ []) tail))
        (stored _ kept)

    module _ (c : View) (sound_b : IsSound b) (second : Changes (FileChange file (InPlace (Torn at 1))) b c) where
      -- the second leaves them with the new one or without
      pub opening : Changes (FileChange file (LeftWith P)) a c
      opening = leaves_on a b c file P staging (leaves b c file (Torn at 1) (base ++ 0 ∷ (frame payload ++ 0 ∷ tail)) P sound_b staged second
          (second_write file end.at_gate.front behind payload records end.at_gate.records_stand fits at end.at_gate.offset_is tail))

      -- and then each image has it
      pub appended : ((w : Bytes) → IsFileDurable b file w → IsFileDurable c file (overlay w at (1 ∷ [])))
          → IsAtEnd c file (at + length bytes) (records ++ payload ∷ [])
      appended opens = record {
        bytes = base ++ 1 ∷ (frame payload ++ 0 ∷ tail);
        rest = 0 ∷ tail;
        kept = subst (λ (l : Bytes). IsFileDurable c file l) (written_at base at end.at_gate.offset_is 0 1 (frame payload ++ 0 ∷ tail)) (opens _ staged);
        at_gate = subst (λ (n : ℕ). IsAtGate file (base ++ 1 ∷ (frame payload ++ 0 ∷ tail)) n (records ++ payload ∷ []) (0 ∷ tail)) size next_gate;
        closed = (tail, refl);
      }
        where
          size : at + (5 + length payload) ≡ at + length bytes
          size = ap (λ (n : ℕ). at + n) (sym (framed_length payload bytes whole))

          next_gate : IsAtGate file (base ++ 1 ∷ (frame payload ++ 0 ∷ tail)) (at + (5 + length payload)) (records ++ payload ∷ []) (0 ∷ tail)
          next_gate = at_next_gate file (base ++ 1 ∷ (frame payload ++ 0 ∷ tail)) at records (1 ∷ (frame payload ++ 0 ∷ tail)) payload (0 ∷ tail)
              (record { front = end.at_gate.front; is = refl; records_stand = end.at_gate.records_stand; offset_is = end.at_gate.offset_is })
              (record { gate = 1; is_open = (λ is. cc); payload_fits = fits; is = refl })
