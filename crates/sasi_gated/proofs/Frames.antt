-- The payload of a frame.
use Rattle.std.proofs.Common.{◌≡◌, ◌-◌, ◌≤◌, ◌^◌, [], ◌∷◌, ◌++◌, length, drop, refl, sym, ◌∙◌, ap, subst, arith, length-append}
use Rattle.std.proofs.lemmas.List.{take_at, drop_at}
use Rattle.std.specs.Int.{to_be_bytes, w32}
use Rattle.sasi_host.specs.Names.{Bytes}
use Rattle.sasi_gated.specs.Format.{frame, IsPayload}
use Rattle.sasi_gated.proofs.Laws.{frame_is}
use Rattle.sasi_gated.specs.Records.{payload_in, IsFramed}

-- the payload that was framed is the one that is seen
pub payload_of_frame : (p bytes : Bytes) → bytes ≡ frame p ++ 0 ∷ [] → payload_in bytes ≡ p
payload_of_frame p bytes is =
    ap payload_in is
    ∙ ap (λ (l : Bytes). drop 4 l) (take_at (frame p) (0 ∷ []) (length (frame p ++ 0 ∷ []) - 1) (omega (arith, length-append (frame p) (0 ∷ []))))
    ∙ ap (λ (l : Bytes). drop 4 l) (frame_is p)
    ∙ drop_at (to_be_bytes w32 (length p)) p 4 refl

-- and the bytes are framed
pub framed : (p bytes : Bytes) → bytes ≡ frame p ++ 0 ∷ [] → 1 ≤ length p → length p ≤ 2 ^ 30 → IsFramed bytes
framed p bytes is some short =
    let e = payload_of_frame p bytes is in
    record { whole = is ∙ ap (λ (l : Bytes). frame l ++ 0 ∷ []) (sym e); payload = subst IsPayload (sym e) (record { some = some; short = short }) }
