-- Reading from mutation to mutation.
use Rattle.std.proofs.Common.{◌≡◌, ℕ, Bool, true, false, List, [], ◌∷◌, map, Some, None, refl, sym, ◌∙◌, subst, inr}
use Rattle.std.proofs.lemmas.List.{map-append}
use Rattle.sasi_host.specs.declared.name.FileName.{FileName}
use Rattle.sasi_host.specs.declared.damage.Damage.{Damage}
use Rattle.sasi_host.specs.declared.fault.ReadFault.{ReadFault}
use Rattle.sasi_host.specs.declared.fault.ReadFault.TheVariants as fault
use Rattle.sasi_host.specs.Names.{Bytes}
use Rattle.sasi_host.specs.View.{View, IsTold}
use Rattle.sasi_host.specs.Damages.{seen_bytes}
use Rattle.sasi_gated.specs.Gates.{IsAtGate, ReadsAt}
use Rattle.sasi_host.specs.Damages.{OnDamage}
use Rattle.sasi_gated.specs.Handles.{IsReading, ReadsOn}
use Rattle.sasi_cells.specs.declared.mutation.Mutation.{Mutation}
use Rattle.sasi_commitlog.specs.Format.{payload_of, Tables, IsMutationOf}
use Rattle.sasi_commitlog.specs.LogPosition.{IsReadingLog}
use Rattle.sasi_commitlog.specs.Damages.{RecordBreaks, ShowsLog}
use Rattle.sasi_commitlog.specs.Faults.{IsMutationDamage}
use Rattle.sasi_commitlog.specs.Reads.{ReadsNext}
use Rattle.sasi_commitlog.proofs.Laws.{payloads_same}

pub on_damage : (P Q : Damage → Type 0) (f : ReadFault) → ((damage : Damage) → P damage → Q damage) → OnDamage P f → OnDamage Q f
on_damage P Q fault.Failed weaker p = tt
on_damage P Q fault.OutOfMemory weaker p = tt
on_damage P Q (fault.Damaged damage) weaker p = weaker damage p

-- where a segment is read, its only fault is to be out of memory, so no damage is reported
pub no_false_read : {v : View} {file : FileName} {at : ℕ} {tables : Tables} (f : ReadFault) → ((done left : List Mutation) → IsTold v → IsReadingLog v file at tables done left → f ≡ fault.OutOfMemory)
    → OnDamage (λ _. (done left : List Mutation) → IsTold v → IsReadingLog v file at tables done left → ⊥) f
no_false_read fault.Failed memory = tt
no_false_read fault.OutOfMemory memory = tt
no_false_read (fault.Damaged damage) memory = λ done left told reading. let is = memory done left told reading in cc

-- ---- a closed gate

pub closed_gate : (more : Bool) (file : FileName) (bytes : Bytes) (after : ℕ) (done : List Bytes) (rest out : Bytes) → more ≡ false
    → ReadsAt more file bytes after done rest out → ReadsAt false file bytes after done rest []
closed_gate more file bytes after done rest out is reads = let r = subst (λ (m : Bool). ReadsAt m file bytes after done rest out) is reads in (refl, r.1, r.2)

pub none_left : (v : View) (file : FileName) (after : ℕ) (tables : Tables) (done left : List Mutation) (more : Bool) (out : Bytes)
    → more ≡ false → ReadsOn more v file after (map payload_of done) (map payload_of left) out → ReadsNext None v file after tables done left
none_left v file after tables done [] more out is reads = subst (λ (m : Bool). ReadsOn m v file after (map payload_of done) [] out) is reads
none_left v file after tables done (first ∷ others) more out is reads = subst (λ (m : Bool). ReadsOn m v file after (map payload_of done) (payload_of first ∷ map payload_of others) out) is reads

-- ---- an open gate

pub opened_gate : (more : Bool) (file : FileName) (bytes : Bytes) (after : ℕ) (done : List Bytes) (rest out payload : Bytes) → more ≡ true
    → out ≡ payload → ReadsAt more file bytes after done rest out → ReadsAt true file bytes after done rest payload
opened_gate more file bytes after done rest out payload is same reads =
    subst (λ (l : Bytes). ReadsAt true file bytes after done rest l) same (subst (λ (m : Bool). ReadsAt m file bytes after done rest out) is reads)

pub first_read : (v w : View) (file : FileName) (at after : ℕ) (tables : Tables) (done left : List Mutation) (more : Bool) (out : Bytes)
    (mutation : Mutation) → more ≡ true → out ≡ payload_of mutation → IsMutationOf tables mutation → IsReadingLog w file at tables done left
    → ReadsOn more v file after (map payload_of done) (map payload_of left) out → ReadsNext (Some mutation) v file after tables done left
first_read v w file at after tables done [] more out mutation is same of reading reads = subst (λ (m : Bool). ReadsOn m v file after (map payload_of done) [] out) is reads
first_read v w file at after tables done (first ∷ others) more out mutation is same of reading reads =
    let r = subst (λ (m : Bool). ReadsOn m v file after (map payload_of done) (payload_of first ∷ map payload_of others) out) is reads in (
      payloads_same tables mutation first of reading.of_tables.0 (sym same ∙ r.0),
      record {
        reading = subst (λ (l : List Bytes). IsReading v file after l (map payload_of others)) (sym (map-append payload_of done (first ∷ []))) r.1;
        of_tables = reading.of_tables.1;
      },
    )

-- the gate is followed by the payload of the first mutation that is left
pub first_left : (v w : View) (file : FileName) (at after : ℕ) (tables : Tables) (done left : List Mutation) (more : Bool) (out : Bytes) → more ≡ true → IsReadingLog w file at tables done left
    → ReadsOn more v file after (map payload_of done) (map payload_of left) out → (first : Mutation) × IsMutationOf tables first × (out ≡ payload_of first)
first_left v w file at after tables done [] more out is reading reads = absurd (subst (λ (m : Bool). ReadsOn m v file after (map payload_of done) [] out) is reads)
first_left v w file at after tables done (first ∷ others) more out is reading reads =
    let r = subst (λ (m : Bool). ReadsOn m v file after (map payload_of done) (payload_of first ∷ map payload_of others) out) is reads in (first, reading.of_tables.0, r.0)

-- ---- damage

-- damage of the record that was read is damage of the file
pub record_shown : (tables : Tables) (file named : FileName) (at gate after : ℕ) (bytes : Bytes) (done : List Bytes)
    (rest out payload : Bytes) (more : Bool) (damage : Damage) → named ≡ file → gate ≡ at → payload ≡ out → more ≡ true
    → IsMutationDamage tables named gate payload damage → ReadsAt more file bytes after done rest out → IsAtGate file bytes at done rest → ShowsLog tables file bytes damage
record_shown tables file named at gate after bytes done rest out payload more damage named_is gate_is payload_is is record_damage reads stands =
    let r = subst (λ (m : Bool). ReadsAt m file bytes after done rest out) is reads in
    inr (record {
      named = record_damage.named ∙ named_is;
      gate = at;
      done = done;
      rest = rest;
      payload = out;
      tail = r.0;
      gate_stands = stands;
      record_stands = r.1;
      breaks =
          subst (λ (n : ℕ). RecordBreaks tables n out damage.rule damage.at (seen_bytes damage.seen)) gate_is
          (subst (λ (l : Bytes). RecordBreaks tables gate l damage.rule damage.at (seen_bytes damage.seen)) payload_is record_damage.breaks);
    })
