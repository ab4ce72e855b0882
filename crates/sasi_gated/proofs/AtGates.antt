-- A read at a gate.
use Rattle.std.proofs.Common.{◌≡◌, inl, inr, ⊎_elim, ℕ, eqb, get_or, ◌+◌, ◌<◌, ◌≤◌, Bool, true, false, List, [], ◌∷◌, ◌++◌, length, take, drop, refl, sym, ◌∙◌, ap, subst, arith, append_assoc, length-append, length-drop, take-append-drop}
use Rattle.std.specs.Prelude.{not}
use Rattle.std.proofs.lemmas.Bool.Decides.{eqb_tells}
use Rattle.std.proofs.lemmas.List.{length-take, take_at, drop_at, nil_from_length}
use Rattle.std.proofs.lemmas.Nat.{from_be_bytes-to_be_bytes_4}
use Rattle.std.specs.Int.{to_be_bytes, from_be_bytes, w32}
use Rattle.sasi_host.specs.declared.name.FileName.{FileName}
use Rattle.sasi_host.specs.declared.damage.Damage.{Damage}
use Rattle.sasi_host.specs.Names.{Bytes}
use Rattle.sasi_host.specs.Damages.{ShowsEnd}
use Rattle.sasi_gated.specs.Format.{header, IsLength, Opens, Closes}
use Rattle.sasi_gated.specs.Gates.{IsAtGate}
use Rattle.sasi_gated.specs.AtGate.{HasGate, ShowsLength}
use Rattle.sasi_gated.specs.Damages.{EndsEarly, IsGatedDamage, TellsSize}
use Rattle.sasi_gated.specs.Damages.IsGatedDamage.{truncated, bad_length}
use Rattle.sasi_gated.proofs.Laws.{frame_is}
use Rattle.sasi_gated.proofs.Windows.{read_at}

-- a gate by its byte
gate_byte : (gate : ℕ) (bytes behind : Bytes) → bytes ≡ gate ∷ behind → HasGate (not (eqb gate 0)) bytes behind
gate_byte gate bytes behind is = ⊎_elim
    (λ yes. subst (λ (b : Bool). HasGate (not b) bytes behind) (sym yes.0) (is ∙ ap (λ (n : ℕ). n ∷ behind) yes.1))
    (λ no. subst (λ (b : Bool). HasGate (not b) bytes behind) (sym no.0) (gate, no.1, is))
    (eqb_tells gate 0)

-- a gate whose byte was read
pub gate_seen : (bytes out : Bytes) (at : ℕ) → out ≡ take 1 (drop at bytes) → at + 1 ≤ length bytes
    → HasGate (not (eqb (get_or out 0 0) 0)) (drop at bytes) (drop (at + 1) bytes)
gate_seen bytes out at is within =
    from out (read_at bytes out at 1 is) (omega (arith, within, ap length is, length-take 1 (drop at bytes), length-drop at bytes))
  where
    from : (o : Bytes) → drop at bytes ≡ o ++ drop (at + 1) bytes → length o ≡ 1 → HasGate (not (eqb (get_or o 0 0) 0)) (drop at bytes) (drop (at + 1) bytes)
    from [] parts long = absurd (omega (arith, long))
    from (gate ∷ []) parts long = gate_byte gate (drop at bytes) (drop (at + 1) bytes) parts
    from (gate ∷ (next ∷ others)) parts long = absurd (omega (arith, long))

-- a gate stands within the file
pub gate_within : (is_open : Bool) (bytes : Bytes) (at : ℕ) → HasGate is_open (drop at bytes) (drop (at + 1) bytes) → at < length bytes
gate_within true bytes at has = omega (arith, ap length has.2, length-drop at bytes)
gate_within false bytes at has = omega (arith, ap length has, length-drop at bytes)

module _ (file : FileName) (bytes : Bytes) (at : ℕ) (done : List Bytes) (rest : Bytes) (gate : IsAtGate file bytes at done rest) where
  pub rest_at : drop at bytes ≡ rest
  rest_at = ap (λ (l : Bytes). drop at l) gate.is ∙ drop_at (header file ++ gate.front) rest at (sym gate.offset_is)

  size : at + length rest ≡ length bytes
  size = omega (arith, gate.offset_is, ap length gate.is, length-append (header file ++ gate.front) rest)

  -- the same gate, with what stands from it on spelled otherwise
  gate_as : (other : Bytes) → rest ≡ other → IsAtGate file bytes at done other
  gate_as other same = subst (λ (l : Bytes). IsAtGate file bytes at done l) same gate

  -- the file ends before the gate
  pub no_gate : (damage : Damage) → ShowsEnd (at + 1) file bytes damage → IsGatedDamage file bytes damage
  no_gate damage ends =
      let none : rest ≡ [] = nil_from_length rest (omega (arith, ends.short, size)) in
      truncated (inr (at, done, rest, gate, subst EndsEarly (sym none) tt)) ends.tells

  pub closes : (is_open : Bool) → is_open ≡ false → HasGate is_open (drop at bytes) (drop (at + 1) bytes) → Closes rest
  closes true is has = absurd (cc)
  closes false is has = (drop (at + 1) bytes, sym rest_at ∙ has)

  module _ (is_open : Bool) (is_true : is_open ≡ true) (has : HasGate is_open (drop at bytes) (drop (at + 1) bytes)) where
    opened : HasGate true (drop at bytes) (drop (at + 1) bytes)
    opened = subst (λ (o : Bool). HasGate o (drop at bytes) (drop (at + 1) bytes)) is_true has

    gate_is : rest ≡ opened.0 ∷ drop (at + 1) bytes
    gate_is = sym rest_at ∙ opened.2

    -- the file ends within the length, or it is none that a record has
    pub no_length : (damage : Damage) → ShowsLength (at + 1) file bytes damage → IsGatedDamage file bytes damage
    no_length damage (inl ends) =
        truncated (inr (
          at,
          done,
          rest,
          gate,
          subst EndsEarly (sym gate_is) (opened.1, inl (omega (arith, ends.short, size, ap length gate_is))),
        )) ends.tells
    no_length damage (inr bad) = bad_length (record {
      at = at;
      done = done;
      gate = opened.0;
      rest = drop (at + 1) bytes;
      gate_stands = gate_as (opened.0 ∷ drop (at + 1) bytes) gate_is;
      is_open = opened.1;
      shows = bad;
    })

    module _ (count : ℕ) (fits : IsLength count) (states : drop (at + 1) bytes ≡ to_be_bytes w32 count ++ drop (at + 1 + 4) bytes) where
      payload_begins : rest ≡ opened.0 ∷ (to_be_bytes w32 count ++ drop (at + 5) bytes)
      payload_begins =
          gate_is ∙ ap (λ (l : Bytes). opened.0 ∷ l) states
          ∙ ap (λ (n : ℕ). opened.0 ∷ (to_be_bytes w32 count ++ drop n bytes)) (omega arith)

      pub payload_within : at + 5 ≤ length bytes
      payload_within = omega (arith, size, ap length payload_begins, length-append (to_be_bytes w32 count) (drop (at + 5) bytes))

      -- the record, read whole
      pub opens : (out : Bytes) → out ≡ take count (drop (at + 5) bytes) → length out ≡ count → (tail : Bytes) × Opens rest out tail
      opens out is long = (
        drop count (drop (at + 5) bytes),
        record {
          gate = opened.0;
          is_open = opened.1;
          payload_fits = subst IsLength (sym long) fits;
          is = payload_begins ∙ ap (λ (l : Bytes). opened.0 ∷ l) (
              ap (λ (n : ℕ). to_be_bytes w32 n ++ drop (at + 5) bytes) (sym long)
              ∙ ap (λ (l : Bytes). to_be_bytes w32 (length out) ++ l)
              (sym (take-append-drop count (drop (at + 5) bytes)) ∙ ap (λ (l : Bytes). l ++ drop count (drop (at + 5) bytes)) (sym is))
              ∙ sym (append_assoc (to_be_bytes w32 (length out)) out (drop count (drop (at + 5) bytes)))
              ∙ ap (λ (l : Bytes). l ++ drop count (drop (at + 5) bytes)) (sym (frame_is out)));
        },
      )

      states_count : from_be_bytes w32 (take 4 (to_be_bytes w32 count ++ drop (at + 5) bytes)) ≡ count
      states_count =
          ap (from_be_bytes w32) (take_at (to_be_bytes w32 count) (drop (at + 5) bytes) 4 refl)
          ∙ from_be_bytes-to_be_bytes_4 count (omega (arith, fits.short))

      -- the file ends within it
      pub ends_within : (damage : Damage) → TellsSize file bytes damage → length (drop (at + 5) bytes) < count → IsGatedDamage file bytes damage
      ends_within damage tells short = truncated (inr (
        at,
        done,
        rest,
        gate,
        subst EndsEarly (sym payload_begins) (
          opened.1,
          inr (record {
            length_is = subst IsLength (sym states_count) fits;
            short = omega (arith, short, states_count, length-append (to_be_bytes w32 count) (drop (at + 5) bytes));
          }),
        ),
      )) tells
