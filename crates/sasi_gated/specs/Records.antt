-- A record in memory, as its bytes stand in a file behind the gate.
use Rattle.std.specs.Prelude.{◌≡◌, ◌-◌, [], ◌∷◌, ◌++◌, length, take, drop}
use Rattle.sasi_host.specs.Names.{Bytes}
use Rattle.sasi_gated.specs.Format.{frame, IsPayload}

-- the payload between the length and the last byte
abbrev pub payload_in : Bytes → Bytes
payload_in bytes = drop 4 (take (length bytes - 1) bytes)

-- a frame, and the closed gate that follows it in the file
pub record IsFramed (bytes : Bytes) : Type 0 where
  pub whole : bytes ≡ frame (payload_in bytes) ++ 0 ∷ []
  pub payload : IsPayload (payload_in bytes)
