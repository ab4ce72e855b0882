-- Laws of where a reader stands in a gated file.
use Rattle.std.specs.Prelude.{◌≡◌, ℕ, List, Some}
use Rattle.std.proofs.Common.{inl, ◌∙◌, ap}
use Rattle.std.specs.FinMap.{get}
use Rattle.sasi_host.specs.declared.name.FileName.{FileName}
use Rattle.sasi_host.specs.Names.{Bytes, Folder}
use Rattle.sasi_host.specs.View.{View, IsSound}
use Rattle.sasi_host.specs.Disk.{Changes, LeftWith, Same, FileChange, IsFileDurable}
use Rattle.sasi_host.proofs.ChangeLaws.{changes_among, stays}
use Rattle.sasi_gated.specs.Format.{IsBeforeOrAfter}
use Rattle.sasi_gated.proofs.Laws.{gated_end}
use Rattle.sasi_gated.specs.Handles.{IsAtEnd}

-- where nothing is done, each image has the records before an append
pub unmoved : (v : View) (file : FileName) (at : ℕ) (records : List Bytes) (payload : Bytes) → IsSound v → IsAtEnd v file at records
    → Changes (FileChange file (LeftWith (IsBeforeOrAfter file records payload))) v v
unmoved v file at records payload sound end =
    changes_among v v (λ x. get x file ≡ Some end.bytes) Same (FileChange file (LeftWith (IsBeforeOrAfter file records payload))) sound end.kept (stays v)
    (λ x y is same. record { others = λ name other. ap (λ (f : Folder). get f name) same; this = (end.bytes, ap (λ (f : Folder). get f file) same ∙ is, inl (gated_end v file at records end)) })

-- a file ends where it did, where each image has its bytes as before
pub end_stays : (a b : View) (file : FileName) (at : ℕ) (records : List Bytes) → ((bytes : Bytes) → IsFileDurable a file bytes → IsFileDurable b file bytes)
    → IsAtEnd a file at records → IsAtEnd b file at records
end_stays a b file at records still end = record { bytes = end.bytes; rest = end.rest; kept = still end.bytes end.kept; at_gate = end.at_gate; closed = end.closed }
