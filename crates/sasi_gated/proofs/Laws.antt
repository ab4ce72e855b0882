-- Laws of the format: the bytes of a gated file tell its records, and show no damage.
use Rattle.std.specs.Prelude.{◌≡◌, ℕ, ◌+◌, List, [], ◌∷◌, ◌++◌, length, take, drop, refl}
use Rattle.std.proofs.Common.{sym, ◌∙◌, ap, subst, arith, append_assoc, length-append}
use Rattle.std.proofs.lemmas.List.{take_at, drop_at, append-nil}
use Rattle.std.proofs.lemmas.Nat.{from_be_bytes-to_be_bytes_4}
use Rattle.std.specs.Int.{to_be_bytes, from_be_bytes, w32}
use Rattle.sasi_host.specs.declared.name.FileName.{FileName}
use Rattle.sasi_host.specs.declared.name.Kind.{Kind}
use Rattle.sasi_host.specs.declared.name.Kind.TheVariants.{Manifest, Seal, Log, Data, Index, Segment}
use Rattle.sasi_host.specs.Names.{Bytes}
use Rattle.sasi_host.specs.View.{View}
use Rattle.sasi_gated.specs.Format.{magic, header, frame, IsPayload, Opens, Closes, OpenRecords, FromGate, IsGated}
use Rattle.sasi_gated.specs.Gates.{IsAtGate}
use Rattle.sasi_gated.specs.Handles.{IsAtEnd}
use Rattle.sasi_formats.proofs.Headers.{header_length as encoded_length}
use Rattle.sasi_gated.proofs.Headers.{header_is}

-- ---- one record

-- the length, and then the payload
pub frame_is : (payload : Bytes) → frame payload ≡ to_be_bytes w32 (length payload) ++ payload
unfolding frame
frame_is payload = refl

-- four bytes more than the payload
pub frame_length : (payload : Bytes) → length (frame payload) ≡ 4 + length payload
frame_length payload = ap length (frame_is payload) ∙ length-append (to_be_bytes w32 (length payload)) payload

framed : (payload rest : Bytes) → frame payload ++ rest ≡ to_be_bytes w32 (length payload) ++ (payload ++ rest)
framed payload rest = ap (λ (l : Bytes). l ++ rest) (frame_is payload) ∙ append_assoc (to_be_bytes w32 (length payload)) payload rest

-- the four bytes behind a gate state the length of the payload
pub frame_states : (payload rest : Bytes) → IsPayload payload → from_be_bytes w32 (take 4 (frame payload ++ rest)) ≡ length payload
frame_states payload rest fits =
    ap (λ (l : Bytes). from_be_bytes w32 (take 4 l)) (framed payload rest)
    ∙ ap (from_be_bytes w32) (take_at (to_be_bytes w32 (length payload)) (payload ++ rest) 4 refl)
    ∙ from_be_bytes-to_be_bytes_4 (length payload) (omega (arith, fits.short))

behind_length : (payload rest : Bytes) → drop 4 (frame payload ++ rest) ≡ payload ++ rest
behind_length payload rest = ap (λ (l : Bytes). drop 4 l) (framed payload rest) ∙ drop_at (to_be_bytes w32 (length payload)) (payload ++ rest) 4 refl

-- a frame ends where its length says
pub frames_same : (p q a b : Bytes) → IsPayload p → IsPayload q → frame p ++ a ≡ frame q ++ b → (p ≡ q) × (a ≡ b)
frames_same p q a b p_fits q_fits same =
    let size : length p ≡ length q = sym (frame_states p a p_fits) ∙ ap (λ (l : Bytes). from_be_bytes w32 (take 4 l)) same ∙ frame_states q b q_fits in
    let behind : p ++ a ≡ q ++ b = sym (behind_length p a) ∙ ap (λ (l : Bytes). drop 4 l) same ∙ behind_length q b in (
      sym (take_at p a (length p) refl) ∙ ap (λ (l : Bytes). take (length p) l) behind ∙ take_at q b (length p) (sym size),
      sym (drop_at p a (length p) refl) ∙ ap (λ (l : Bytes). drop (length p) l) behind ∙ drop_at q b (length p) (sym size),
    )

-- at most one record opens the bytes
pub opens_same : (bytes p q a b : Bytes) → Opens bytes p a → Opens bytes q b → (p ≡ q) × (a ≡ b)
opens_same bytes p q a b first second =
    let both : first.gate ∷ (frame p ++ a) ≡ second.gate ∷ (frame q ++ b) = sym first.is ∙ second.is in
    frames_same p q a b first.payload_fits second.payload_fits cc

-- an open gate isn't closed
pub opens_not_closes : (bytes p a : Bytes) → Opens bytes p a → Closes bytes → ⊥
opens_not_closes bytes p a first (rest, is) =
    let both : first.gate ∷ (frame p ++ a) ≡ 0 ∷ rest = sym first.is ∙ is in
    first.is_open cc

-- ---- records one after another

opens_more : (bytes payload rest more : Bytes) → Opens bytes payload rest → Opens (bytes ++ more) payload (rest ++ more)
opens_more bytes payload rest more first = record {
  gate = first.gate;
  is_open = first.is_open;
  payload_fits = first.payload_fits;
  is = ap (λ (l : Bytes). l ++ more) first.is ∙ ap (λ (l : Bytes). first.gate ∷ l) (append_assoc (frame payload) rest more);
}

-- one more record behind others
pub open_records_push : (front : Bytes) (done : List Bytes) (rest payload tail : Bytes) → OpenRecords front done → (next : Opens rest payload tail)
    → OpenRecords (front ++ next.gate ∷ frame payload) (done ++ payload ∷ [])
open_records_push front [] rest payload tail none next = (
  [],
  record {
    gate = next.gate;
    is_open = next.is_open;
    payload_fits = next.payload_fits;
    is = ap (λ (l : Bytes). l ++ next.gate ∷ frame payload) none ∙ ap (λ (l : Bytes). next.gate ∷ l) (sym (append-nil (frame payload)));
  },
  refl,
)
open_records_push front (r ∷ records) rest payload tail (behind, first, others) next =
    (behind ++ next.gate ∷ frame payload, opens_more front r behind (next.gate ∷ frame payload) first, open_records_push behind records rest payload tail others next)

-- open records before records up to a closed gate
pub from_gate_before : (front : Bytes) (done : List Bytes) (rest : Bytes) (left : List Bytes) → OpenRecords front done → FromGate rest left
    → FromGate (front ++ rest) (done ++ left)
from_gate_before front [] rest left none from = subst (λ (l : Bytes). FromGate (l ++ rest) left) (sym none) from
from_gate_before front (r ∷ records) rest left (behind, first, others) from =
    (behind ++ rest, opens_more front r behind rest first, from_gate_before behind records rest left others from)

-- and what is left behind them
pub from_gate_behind : (front : Bytes) (done : List Bytes) (rest : Bytes) (records : List Bytes) → OpenRecords front done
    → FromGate (front ++ rest) records → (left : List Bytes) × (records ≡ done ++ left) × FromGate rest left
from_gate_behind front [] rest records none from = (records, refl, subst (λ (l : Bytes). FromGate (l ++ rest) records) none from)
from_gate_behind front (d ∷ done) rest [] (behind, first, others) closed =
    absurd (opens_not_closes (front ++ rest) d (behind ++ rest) (opens_more front d behind rest first) closed)
from_gate_behind front (d ∷ done) rest (r ∷ records) (behind, first, others) (tail, next, from) =
    let same = opens_same (front ++ rest) d r (behind ++ rest) tail (opens_more front d behind rest first) next in
    let more = from_gate_behind behind done rest records others (subst (λ (l : Bytes). FromGate l records) (sym same.1) from) in
    (more.0, ap (λ (p : Bytes). p ∷ records) (sym same.0) ∙ ap (λ (l : List Bytes). d ∷ l) more.1, more.2)

-- the bytes from a gate on tell their records
pub from_gate_same : (bytes : Bytes) (left right : List Bytes) → FromGate bytes left → FromGate bytes right → left ≡ right
from_gate_same bytes [] [] first second = refl
from_gate_same bytes [] (q ∷ right) first (b, next, others) = absurd (opens_not_closes bytes q b next first)
from_gate_same bytes (p ∷ left) [] (a, next, others) second = absurd (opens_not_closes bytes p a next second)
from_gate_same bytes (p ∷ left) (q ∷ right) (a, first, others) (b, second, more) =
    let same = opens_same bytes p q a b first second in
    ap (λ (l : List Bytes). p ∷ l) (from_gate_same a left right others (subst (λ (l : Bytes). FromGate l right) (sym same.1) more)) ∙ ap (λ (r : Bytes). r ∷ right) same.0

-- ---- whole files

-- each magic has eight bytes
pub magic_length : (kind : Kind) → length (magic kind) ≡ 8
magic_length Manifest = refl
magic_length Seal = refl
magic_length Log = refl
magic_length Data = refl
magic_length Index = refl
magic_length Segment = refl

-- and each header sixteen
pub header_length : (file : FileName) → length (header file) ≡ 16
header_length file = omega (arith, ap length (header_is file), encoded_length (magic file.kind) file.number, magic_length file.kind)

header_apart : (file : FileName) (a b : Bytes) → header file ++ a ≡ header file ++ b → a ≡ b
header_apart file a b same =
    sym (drop_at (header file) a (length (header file)) refl)
    ∙ ap (λ (l : Bytes). drop (length (header file)) l) same
    ∙ drop_at (header file) b (length (header file)) refl

-- a gated file has one list of records
pub records_same : (file : FileName) (bytes : Bytes) (left right : List Bytes) → IsGated file bytes left → IsGated file bytes right → left ≡ right
records_same file bytes left right first second =
    from_gate_same first.rest left right first.records_stand (subst (λ (l : Bytes). FromGate l right) (sym (header_apart file first.rest second.rest (sym first.is ∙ second.is))) second.records_stand)

-- a reader at a gate of a file that has these records from there on
pub gated_at : (file : FileName) (bytes : Bytes) (at : ℕ) (done : List Bytes) (rest : Bytes) (left : List Bytes) → IsAtGate file bytes at done rest
    → FromGate rest left → IsGated file bytes (done ++ left)
gated_at file bytes at done rest left gate from = record {
  rest = gate.front ++ rest;
  is = gate.is ∙ append_assoc (header file) gate.front rest;
  records_stand = from_gate_before gate.front done rest left gate.records_stand from;
}

-- and what is left of a gated file's records at a gate
pub left_at : (file : FileName) (bytes : Bytes) (at : ℕ) (done : List Bytes) (rest : Bytes) (records : List Bytes) → IsAtGate file bytes at done rest
    → IsGated file bytes records → (left : List Bytes) × (records ≡ done ++ left) × FromGate rest left
left_at file bytes at done rest records gate gated =
    let same : gated.rest ≡ gate.front ++ rest = header_apart file gated.rest (gate.front ++ rest) (sym gated.is ∙ gate.is ∙ append_assoc (header file) gate.front rest) in
    from_gate_behind gate.front done rest records gate.records_stand (subst (λ (l : Bytes). FromGate l records) same gated.records_stand)

-- a gated file at whose end a reader stands has these records
pub gated_end : (v : View) (file : FileName) (at : ℕ) (records : List Bytes) → (end : IsAtEnd v file at records) → IsGated file end.bytes records
gated_end v file at records end =
    subst (λ (l : List Bytes). IsGated file end.bytes l) (append-nil records) (gated_at file end.bytes at records end.rest [] end.at_gate end.closed)

-- behind the header stands the first gate
pub at_first_gate : (file : FileName) (bytes rest : Bytes) → bytes ≡ header file ++ rest → IsAtGate file bytes 16 [] rest
at_first_gate file bytes rest is = record {
  front = [];
  is = is ∙ ap (λ (l : Bytes). l ++ rest) (sym (append-nil (header file)));
  records_stand = refl;
  offset_is = sym (header_length file) ∙ ap length (sym (append-nil (header file)));
}

-- behind an open record stands the next gate
pub at_next_gate : (file : FileName) (bytes : Bytes) (at : ℕ) (done : List Bytes) (rest payload tail : Bytes) → IsAtGate file bytes at done rest
    → Opens rest payload tail → IsAtGate file bytes (at + (5 + length payload)) (done ++ payload ∷ []) tail
at_next_gate file bytes at done rest payload tail gate next = record {
  front = gate.front ++ next.gate ∷ frame payload;
  is =
      gate.is ∙ ap (λ (l : Bytes). header file ++ gate.front ++ l) next.is ∙ sym (append_assoc (header file ++ gate.front) (next.gate ∷ frame payload) tail)
      ∙ ap (λ (l : Bytes). l ++ tail) (append_assoc (header file) gate.front (next.gate ∷ frame payload));
  records_stand = open_records_push gate.front done rest payload tail gate.records_stand next;
  offset_is = omega (
    arith,
    gate.offset_is,
    frame_length payload,
    length-append (header file) gate.front,
    length-append (header file)
        (gate.front ++ next.gate ∷ frame payload),
    length-append gate.front (next.gate ∷ frame payload),
  );
}
