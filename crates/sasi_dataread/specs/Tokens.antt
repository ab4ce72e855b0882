-- Where the tokens of a scan come from: none of a partitioner means the tokens that the key tree stores.
use Rattle.std.specs.Prelude.{◌≡◌, ℕ, Option, None, Some, ⊤}
use Rattle.sasi_types.specs.declared.partitioner.Partitioner.{Partitioner}
use Rattle.sasi_types.specs.Token.{token_of}
use Rattle.sasi_host.specs.Names.{Bytes}

-- the token of a key whose pair stores this one: the stored one, or that of the key under a partitioner
abbrev pub token_by : Option Partitioner → ℕ → Bytes → ℕ
token_by None stored key = stored
token_by (Some partitioner) stored key = token_of partitioner key

-- the tokens of a content under this partitioner are those of the scan, where its key tree stores them
abbrev pub AgreesWith : Option Partitioner → Partitioner → Type 0
AgreesWith None partitioner = ⊤
AgreesWith (Some own) partitioner = own ≡ partitioner
