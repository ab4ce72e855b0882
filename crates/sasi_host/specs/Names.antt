-- The order of file names, and folders as finite maps in this order.
use Rattle.std.specs.Prelude.{ℕ, List, Bool, nat_eq}
use Rattle.std.specs.Ordering.{nat_cmp, on, then_cmp, eq_of_both}
use Rattle.std.specs.declared.cmp.Ordering.{Ordering}
use Rattle.std.specs.FinMap.{FinMap}
use Rattle.sasi_host.specs.declared.name.Kind.{Kind}
use Rattle.sasi_host.specs.declared.name.Kind.TheVariants.{Manifest, Seal, Log, Data, Index, Segment}
use Rattle.sasi_host.specs.declared.name.FileName.{FileName}

-- the rank of a kind in the order of names
abbrev pub rank : Kind → ℕ
rank Manifest = 0
rank Seal = 1
rank Log = 2
rank Data = 3
rank Index = 4
rank Segment = 5

-- the file of this kind and number, which is no part of an index
abbrev pub plain_name : Kind → ℕ → FileName
plain_name kind number = record { kind = kind; number = number; index = 0; part = 0 }

abbrev pub manifest_name : ℕ → FileName
manifest_name = plain_name Manifest

-- the empty file that tells that the manifest of this number is whole
abbrev pub seal_name : ℕ → FileName
seal_name = plain_name Seal

-- the segment of the commit log with this number
abbrev pub log_name : ℕ → FileName
log_name = plain_name Log

abbrev pub data_name : ℕ → FileName
data_name = plain_name Data

-- by kind, then by number, index and part
abbrev pub name_cmp : FileName → FileName → Ordering
name_cmp =
    then_cmp (on (λ n. rank n.kind) nat_cmp) (then_cmp (on (λ n. n.number) nat_cmp) (then_cmp (on (λ n. n.index) nat_cmp) (on (λ n. n.part) nat_cmp)))

-- all four are the same
abbrev pub name_eq : FileName → FileName → Bool
name_eq =
    eq_of_both (eq_of_both (eq_of_both (on (λ n. rank n.kind) nat_eq) (on (λ n. n.number) nat_eq)) (on (λ n. n.index) nat_eq))
    (on (λ n. n.part) nat_eq)

-- the bytes of a file, or of a reply
abbrev pub Bytes : Type 0
Bytes = List ℕ

-- what each name of a folder holds
abbrev pub Folder : Type 0
Folder = FinMap name_cmp Bytes
