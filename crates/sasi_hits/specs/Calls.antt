-- What a call on the stream of one file needs and leaves.
use Rattle.std.specs.Prelude.{◌≡◌, ℕ, ◌+◌, ◌≤◌, false, Option, None, Some, Result, Ok, Err}
use Rattle.sasi_host.specs.declared.name.FileName.{FileName}
use Rattle.sasi_host.specs.declared.damage.Damage.{Damage}
use Rattle.sasi_host.specs.declared.fault.ReadFault.{ReadFault}
use Rattle.sasi_host.specs.Names.{Bytes, Folder}
use Rattle.sasi_host.specs.View.{View, contents_in}

-- the only file that it may read
abbrev pub IsFile : FileName → FileName → Type 0
IsFile file name = name ≡ file

-- the file shows the damage, as the folder reads
abbrev pub ShowsIn : FileName → (Bytes → Damage → Type 0) → Option Folder → Damage → Type 0
ShowsIn file Shows files damage = (bytes : Bytes) → contents_in files file ≡ Some bytes → Shows bytes damage

-- the reads of a call, and those that what it gives may still take, are together at most so many
abbrev pub SpendsOn : {T : Type 0} → (T → ℕ → Type 0) → ℕ → ℕ → ℕ → Result T ReadFault → Type 0
SpendsOn Pays most before now (Ok value) = (rest : ℕ) × Pays value rest × (now + rest ≤ before + most)
SpendsOn Pays most before now (Err fault) = now ≤ before + most

-- a view with these files and nothing else: what is known of files alone is known of it
abbrev pub quiet : Option Folder → View
quiet files = record {
  files = files;
  emitted = None;
  image = λ folder. ⊥;
  moment = 0;
  left = λ t folder out. ⊥;
  disk_faults = 0;
  out_faults = 0;
  reads = 0;
  calls = 0;
  emits = 0;
  failed_last = false;
  refused = 0;
  failing = None;
}
