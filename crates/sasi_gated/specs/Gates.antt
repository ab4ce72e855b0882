-- Where a reader of a gated file stands, and what it reads there.
use Rattle.std.specs.Prelude.{Bool, true, false, ◌≡◌, ℕ, List, [], ◌∷◌, ◌++◌, length}
use Rattle.sasi_host.specs.declared.name.FileName.{FileName}
use Rattle.sasi_host.specs.Names.{Bytes}
use Rattle.sasi_gated.specs.Format.{header, Opens, Closes, OpenRecords}

-- behind the header and these records a gate stands at this offset, and from it on the file has these bytes, whatever they are
pub record IsAtGate (file : FileName) (bytes : Bytes) (at : ℕ) (done : List Bytes) (rest : Bytes) : Type 0 where
  pub front : Bytes
  pub is : bytes ≡ header file ++ front ++ rest
  pub records_stand : OpenRecords front done
  pub offset_is : at ≡ length (header file ++ front)

-- What a read gives where these bytes stand from a gate on: true and the record behind an open one, false and nothing at a closed one.
abbrev pub ReadsFrom : Bool → Bytes → Bytes → Type 0
ReadsFrom true rest out = (tail : Bytes) × Opens rest out tail
ReadsFrom false rest out = (out ≡ []) × Closes rest

-- What a read at a gate gives: true and the record behind an open one, and it goes on to the next gate; false and nothing at a closed one, where it stays.
abbrev pub ReadsAt : Bool → FileName → Bytes → ℕ → List Bytes → Bytes → Bytes → Type 0
ReadsAt true file bytes at done rest out = (tail : Bytes) × Opens rest out tail × IsAtGate file bytes at (done ++ out ∷ []) tail
ReadsAt false file bytes at done rest out = (out ≡ []) × Closes rest × IsAtGate file bytes at done rest
