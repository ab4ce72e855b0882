-- Reading from gate to gate.
use Rattle.std.proofs.Common.{◌≡◌, ℕ, ◌+◌, ◌<◌, ◌^◌, List, [], ◌∷◌, ◌++◌, length, Bool, true, false, Some, ap, subst, arith, length-append}
use Rattle.sasi_host.specs.declared.name.FileName.{FileName}
use Rattle.sasi_host.specs.declared.damage.Damage.{Damage}
use Rattle.sasi_host.specs.Names.{Bytes}
use Rattle.sasi_host.specs.View.{View, IsSound, IsTold, contents}
use Rattle.sasi_host.specs.Disk.{Changes, IsFileDurable, Same}
use Rattle.sasi_host.proofs.Durability.{file_durable_contents, file_durable_same}
use Rattle.sasi_gated.specs.Format.{header, FromGate}
use Rattle.sasi_gated.specs.Gates.{ReadsFrom, IsAtGate, ReadsAt}
use Rattle.sasi_gated.specs.Damages.{IsGatedDamage}
use Rattle.sasi_gated.specs.Handles.{IsReading, ReadsOn}
use Rattle.sasi_gated.proofs.Laws.{at_next_gate, gated_at, opens_same, opens_not_closes}
use Rattle.sasi_gated.proofs.Undamaged.{gated_undamaged}

-- a closed gate, where the reader stays
pub read_closed : (more : Bool) (file : FileName) (bytes : Bytes) (at : ℕ) (done : List Bytes) (rest out : Bytes) → more ≡ false → ReadsFrom more rest out
    → IsAtGate file bytes at done rest → ReadsAt false file bytes at done rest out
read_closed more file bytes at done rest out is gives gate = let g = subst (λ (m : Bool). ReadsFrom m rest out) is gives in (g.0, g.1, gate)

-- a record, behind which it then stands
pub read_opened : (more : Bool) (file : FileName) (bytes : Bytes) (at count : ℕ) (done : List Bytes) (rest out : Bytes) → more ≡ true
    → ReadsFrom more rest out → IsAtGate file bytes at done rest → count ≡ length out → ReadsAt true file bytes (at + 5 + count) done rest out
read_opened more file bytes at count done rest out is gives gate size =
    let g = subst (λ (m : Bool). ReadsFrom m rest out) is gives in
    let offset : at + (5 + length out) ≡ at + 5 + count = omega arith in
    (g.0, g.1, subst (λ (n : ℕ). IsAtGate file bytes n (done ++ out ∷ []) g.0) offset (at_next_gate file bytes at done rest out g.0 gate g.1))

-- a gate stands within the file
pub not_too_long : (a : View) (file : FileName) (bytes : Bytes) (at : ℕ) (done : List Bytes) (rest out : Bytes) → IsSound a
    → contents a file ≡ Some bytes → ReadsAt true file bytes at done rest out → 2 ^ 62 < at → ⊥
not_too_long a file bytes at done rest out sound is (tail, opens, gate) long =
    let fits = sound.fits file bytes is in
    omega (arith, fits, long, gate.offset_is, ap length gate.is, length-append (header file ++ gate.front) tail)

module _ (a b : View) (file : FileName) (at : ℕ) (done left : List Bytes) (sound : IsSound a) (told : IsTold a) (reading : IsReading a file at done left) where
  pub reads : contents a file ≡ Some reading.bytes
  reads = file_durable_contents a file reading.bytes sound told reading.kept

  -- a file with these records shows no damage
  pub undamaged : (damage : Damage)
      → ((bytes : Bytes) (before : List Bytes) (rest : Bytes) → contents a file ≡ Some bytes → IsAtGate file bytes at before rest → IsGatedDamage file bytes damage)
      → ⊥
  undamaged damage shows =
      gated_undamaged file reading.bytes damage (done ++ left)
      (gated_at file reading.bytes at done reading.rest left reading.at_gate reading.records_left)
      (shows reading.bytes done reading.rest reads reading.at_gate)

  -- what is read is the first of the records that are left
  pub reads_next : (same : Changes Same a b) (more : Bool) (after : ℕ) (out : Bytes)
      → ((bytes : Bytes) (before : List Bytes) (rest : Bytes) → contents a file ≡ Some bytes → IsAtGate file bytes at before rest → ReadsAt more file bytes after before rest out)
      → ReadsOn more b file after done left out
  reads_next same more after out read = from more left reading.records_left (read reading.bytes done reading.rest reads reading.at_gate)
    where
      kept : IsFileDurable b file reading.bytes
      kept = file_durable_same a b file reading.bytes same reading.kept

      from : (m : Bool) (records : List Bytes) → FromGate reading.rest records → ReadsAt m file reading.bytes after done reading.rest out
          → ReadsOn m b file after done records out
      from true [] closes (tail, opens, gate) = opens_not_closes reading.rest out tail opens closes
      from true (r ∷ rs) (tail, first, others) (behind, opens, gate) =
          let one = opens_same reading.rest out r behind tail opens first in (
            one.0,
            record {
              bytes = reading.bytes;
              rest = tail;
              kept = kept;
              at_gate =
                  subst (λ (l : Bytes). IsAtGate file reading.bytes after (done ++ l ∷ []) tail) one.0
                  (subst (λ (l : Bytes). IsAtGate file reading.bytes after (done ++ out ∷ []) l) one.1 gate);
              records_left = others;
            },
          )
      from false [] closes (none, closed, gate) = record { bytes = reading.bytes; rest = reading.rest; kept = kept; at_gate = gate; closed = closed }
      from false (r ∷ rs) (tail, first, others) (none, closed, gate) = opens_not_closes reading.rest r tail first closed
