-- The bytes of a gated file.
use Rattle.std.specs.Prelude.{◌≡◌, ◌≢◌, ◌⊎◌, ℕ, ◌^◌, ◌≤◌, List, [], ◌∷◌, ◌++◌, length, Option, Some, None}
use Rattle.std.specs.Int.{to_be_bytes, w32}
use Rattle.sasi_host.specs.declared.name.FileName.{FileName}
use Rattle.sasi_host.specs.declared.name.Kind.{Kind}
use Rattle.sasi_host.specs.declared.name.Kind.TheVariants.{Manifest}
use Rattle.sasi_host.specs.Names.{Bytes}
use Rattle.sasi_formats.specs.Formats.{encoded}
use Rattle.sasi_formats.specs.Headers.{file_header}

-- "SASIMAN1" for a manifest and "SASILOG1" for a log. Files of the other kinds aren't gated, so it doesn't matter what they would begin with.
abbrev pub magic : Kind → Bytes
magic Manifest = 83 ∷ 65 ∷ 83 ∷ 73 ∷ 77 ∷ 65 ∷ 78 ∷ 49 ∷ []
magic _ = 83 ∷ 65 ∷ 83 ∷ 73 ∷ 76 ∷ 79 ∷ 71 ∷ 49 ∷ []

-- the header: the magic, the version 1 and the file's number
unfoldable pub header : FileName → Bytes
header file = encoded (file_header (magic file.kind) file.number) tt

-- what stands behind the gate of a record: its length and its payload
unfoldable pub frame : Bytes → Bytes
frame payload = to_be_bytes w32 (length payload) ++ payload

-- a record has 1 to 2^30 bytes
pub record IsLength (count : ℕ) : Type 0 where
  pub some : 1 ≤ count
  pub short : count ≤ 2 ^ 30

-- one record behind its open gate, which is any byte but 0, and then the rest
pub record Opens (bytes payload rest : Bytes) : Type 0 where
  pub gate : ℕ
  pub is_open : gate ≢ 0
  pub payload_fits : IsLength (length payload)
  pub is : bytes ≡ gate ∷ (frame payload ++ rest)

-- these records, one after another, each behind its open gate, and nothing else
abbrev pub OpenRecords : Bytes → List Bytes → Type 0
OpenRecords bytes [] = bytes ≡ []
OpenRecords bytes (payload ∷ payloads) = (rest : Bytes) × Opens bytes payload rest × OpenRecords rest payloads

-- from a gate on: these records, and then a closed gate, and bytes behind it that mean nothing
abbrev pub FromGate : Bytes → List Bytes → Type 0
FromGate bytes [] = (rest : Bytes) × (bytes ≡ 0 ∷ rest)
FromGate bytes (payload ∷ payloads) = (rest : Bytes) × Opens bytes payload rest × FromGate rest payloads

-- the bytes are a gated file of this name with these records and no others
pub record IsGated (file : FileName) (bytes : Bytes) (records : List Bytes) : Type 0 where
  pub rest : Bytes
  pub is : bytes ≡ header file ++ rest
  pub records_stand : FromGate rest records

-- ---- abbreviations

-- the payload of a record
abbrev pub IsPayload : Bytes → Type 0
IsPayload payload = IsLength (length payload)

-- a closed gate
abbrev pub Closes : Bytes → Type 0
Closes bytes = FromGate bytes []

-- ---- what is written

-- a new file: its header, one record behind an open gate if there is one, and a closed gate
abbrev pub new_gated_file : FileName → Option Bytes → Bytes
new_gated_file file None = header file ++ 0 ∷ []
new_gated_file file (Some payload) = header file ++ 1 ∷ (frame payload ++ 0 ∷ [])

-- the records from before, with one more or without it
abbrev pub IsBeforeOrAfter : FileName → List Bytes → Bytes → Bytes → Type 0
IsBeforeOrAfter file records payload bytes = IsGated file bytes records ⊎ IsGated file bytes (records ++ payload ∷ [])
