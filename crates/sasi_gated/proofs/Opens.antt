-- A gated file that was opened.
use Rattle.std.proofs.Common.{◌≡◌, List, [], ◌++◌}
use Rattle.sasi_host.specs.declared.name.FileName.{FileName}
use Rattle.sasi_host.specs.declared.damage.Damage.{Damage}
use Rattle.sasi_host.specs.declared.fault.ReadFault.{ReadFault}
use Rattle.sasi_host.specs.declared.fault.ReadFault.TheVariants as fault
use Rattle.sasi_host.specs.Names.{Bytes}
use Rattle.sasi_host.specs.View.{View}
use Rattle.sasi_host.proofs.Durability.{file_durable_same}
use Rattle.sasi_host.specs.Disk.{Changes, IsFileDurable, Same}
use Rattle.sasi_gated.specs.Format.{header, IsGated}
use Rattle.sasi_gated.specs.Gates.{IsAtGate}
use Rattle.sasi_host.specs.Damages.{OnDamage}
use Rattle.sasi_gated.specs.Handles.{IsReading}
use Rattle.sasi_gated.proofs.Laws.{at_first_gate}

pub on_damage_weaker : (P Q : Damage → Type 0) (f : ReadFault) → ((damage : Damage) → P damage → Q damage) → OnDamage P f → OnDamage Q f
on_damage_weaker P Q fault.Failed weaker p = tt
on_damage_weaker P Q fault.OutOfMemory weaker p = tt
on_damage_weaker P Q (fault.Damaged damage) weaker p = weaker damage p

pub opened_gate : (file : FileName) (bytes : Bytes) → (rest : Bytes) × (bytes ≡ header file ++ rest) → (rest : Bytes) × IsAtGate file bytes 16 [] rest
opened_gate file bytes (rest, is) = (rest, at_first_gate file bytes rest is)

pub opened_reading : (a b : View) (file : FileName) (bytes : Bytes) (records : List Bytes) → Changes Same a b → IsFileDurable a file bytes
    → IsGated file bytes records → IsReading b file 16 [] records
opened_reading a b file bytes records same kept gated = record {
  bytes = bytes;
  rest = gated.rest;
  kept = file_durable_same a b file bytes same kept;
  at_gate = at_first_gate file bytes gated.rest gated.is;
  records_left = gated.records_stand;
}
