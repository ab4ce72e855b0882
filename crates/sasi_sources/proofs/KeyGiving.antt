-- What a look-up gives of the key.
use Rattle.std.proofs.Common.{◌≡◌, ℕ, List, [], Option, None, Some, Result, Ok, Err, IfOk, refl, sym, subst}
use Rattle.std.specs.FinMap as map_
use Rattle.std.specs.Option.{option_map}
use Rattle.sasi_types.specs.declared.column.ColumnType.{ColumnType}
use Rattle.sasi_types.specs.declared.decorated_key.DecoratedKey.{DecoratedKey}
use Rattle.sasi_types.specs.declared.partitioner.Partitioner.{Partitioner}
use Rattle.sasi_host.specs.Names.{Folder}
use Rattle.sasi_model.specs.Cells.{Partition}
use Rattle.sasi_datawrite.specs.Format.{Content}
use Rattle.sasi_manifest.specs.declared.files.ListedFile.{ListedFile}
use Rattle.sasi_memtable.specs.MemtableView.{MemtableView}
use Rattle.sasi_scan.specs.Parts.{merged_parts}
use Rattle.sasi_recheck.specs.Sources.{Candidate, GivesFirst}
use Rattle.sasi_sources.specs.KeyCandidates.{IsKeyOf, KeyLeaves, found_of}

pub if_ok : {T E : Type 0} (P Q : T → Type 0) (r : Result T E) → ((v : T) → P v → Q v) → IfOk r P → IfOk r Q
if_ok P Q (Ok v) follows is = follows v is
if_ok P Q (Err e) follows is = tt

-- what was found is the one candidate
gives_found : (Left : List Candidate → Type 0) (key : DecoratedKey) (found : Option Partition) → Left [] → GivesFirst Left (found_of key found) (option_map (λ part. (key.key, part)) found)
gives_found Left key None none = (refl, none)
gives_found Left key (Some part) none = ((key, part), [], refl, refl, refl, none)

pub key_given : (types : List ColumnType) (files : List ListedFile) (before after : Option DecoratedKey) (key : DecoratedKey) (seen now : Option Folder) (maps : List MemtableView) (left : List Candidate) (found : Option (List ℕ × Partition))
    → before ≡ Some key → after ≡ None → KeyLeaves types files before seen maps left
    → ((p : Partitioner) (contents : List Content) → IsKeyOf seen types files key p contents → found ≡ option_map (λ part. (key.key, part)) (map_.get (merged_parts p contents maps) key))
    → GivesFirst (KeyLeaves types files after now maps) left found
key_given types files before after key seen now maps left found was is leaves gives =
    let of : KeyLeaves types files (Some key) seen maps left = subst (λ (k : Option DecoratedKey). KeyLeaves types files k seen maps left) was leaves in
    let none : KeyLeaves types files after now maps [] = subst (λ (k : Option DecoratedKey). KeyLeaves types files k now maps []) (sym is) refl in
    subst (λ (l : List Candidate). GivesFirst (KeyLeaves types files after now maps) l found) (sym of.3)
    (subst (λ (f : Option (List ℕ × Partition)). GivesFirst (KeyLeaves types files after now maps) (found_of key (map_.get (merged_parts of.0 of.1 maps) key)) f) (sym (gives of.0 of.1 of.2))
    (gives_found (KeyLeaves types files after now maps) key (map_.get (merged_parts of.0 of.1 maps) key) none))
