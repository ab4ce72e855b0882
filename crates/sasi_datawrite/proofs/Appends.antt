-- Bytes written behind what a file holds.
use Rattle.std.proofs.Common.{◌≡◌, ℕ, List, ◌+◌, ◌++◌, length, take, Some, sym, ◌∙◌, ap, subst, arith, append_assoc}
use Rattle.std.proofs.lemmas.List.{append-nil, drop_all, take_all}
use Rattle.std.specs.FinMap.{get}
use Rattle.std.specs.Prelude.{Option, is_some}
use Rattle.sasi_host.specs.declared.name.FileName.{FileName}
use Rattle.sasi_host.specs.Names.{Bytes}
use Rattle.sasi_host.specs.View.{IsThere, Reaches, View, Holds}
use Rattle.sasi_host.specs.Disk.{Relation, Same, Changes, FileChange, InPlace, AnyChange, Becomes, Torn, overlay}
use Rattle.sasi_host.proofs.ContentLaws.{reaches_on, told_before}
use Rattle.sasi_host.proofs.ChangeLaws.{changes_as}
use Rattle.sasi_types.specs.declared.tree.Pair.{Pair}
use Rattle.sasi_types.specs.declared.tree.TreeRef.{TreeRef}
use Rattle.sasi_tokentree.specs.Format.{tree_bytes, tree_ref}
use Rattle.sasi_tokentree.specs.Writes.{Writes, KeepsBefore}
use Rattle.sasi_datawrite.specs.declared.footer.Footer.{Footer}
use Rattle.sasi_datawrite.specs.Format.{footer_bytes, trailer}

-- bytes over no bytes are behind the others
pub overlay_behind : (old more : Bytes) → overlay old (length old) more ≡ old ++ more
overlay_behind old more =
    ap (λ (l : Bytes). take (length old) old ++ more ++ l) (drop_all (length old + length more) old (omega arith)) ∙ append-nil (take (length old) old ++ more)
    ∙ ap (λ (l : Bytes). l ++ more) (take_all (length old) old (omega arith))

-- what was written where the file ended is behind what it held
pub holds_behind : (a b : View) (S : Relation) (file : FileName) (at : ℕ) (bytes more : Bytes) → Changes S a b → Becomes file
    (λ old. overlay old at more) a b → length bytes ≡ at → Holds a file bytes → Holds b file (bytes ++ more)
holds_behind a b S file at bytes more change becomes is holds told =
    becomes bytes (holds (told_before S a b change told)) ∙ ap (λ (l : Bytes). Some l) (ap (λ (n : ℕ). overlay bytes n more) (sym is) ∙ overlay_behind bytes more)

-- a file that reaches to an offset is there, and so is one that was written, also in part
pub there_reached : (v : View) (file : FileName) (at : ℕ) → Reaches v file at → IsThere v file
there_reached v file at reaches told = ap (λ (o : Option Bytes). is_some o) (reaches told).1

pub there_written : (a b : View) (file : FileName) (at n : ℕ) → Changes (FileChange file (InPlace (Torn at n))) a b → Reaches a file at → IsThere b file
there_written a b file at n change reaches = there_reached b file at (reaches_on a b file (Torn at n) at change (λ x y torn. torn.no_shorter) reaches)

-- a call that leaves the folder as it is
pub touches_same : (a b : View) (file : FileName) → Changes Same a b → Changes (FileChange file AnyChange) a b
touches_same a b file same = changes_as a b Same (FileChange file AnyChange) same (λ x y is. record { others = λ name other. ap (λ d. get d name) is; this = tt })

-- the key tree and the footer are behind what the file held
pub trailer_written : (a b c : View) (file : FileName) (end : ℕ) (pairs : List Pair) (max_timestamp : ℕ) (tree : TreeRef) (more : Bytes) → Writes a b file end
    (tree_bytes end pairs) → tree ≡ tree_ref end pairs → more ≡ footer_bytes (record { tree = tree; max_timestamp = max_timestamp; end = end })
    → ((bytes : Bytes) → Holds b file bytes → Holds c file (bytes ++ more)) → (bytes : Bytes) → length bytes ≡ end → Holds a file bytes → Holds c file (bytes ++ trailer pairs max_timestamp end)
trailer_written a b c file end pairs max_timestamp tree more written referred is appended bytes at holds =
    subst (λ (l : Bytes). Holds c file l) (append_assoc bytes (tree_bytes end pairs) (footer_bytes (numbers (tree_ref end pairs))))
    (subst (λ (l : Bytes). Holds c file (bytes ++ tree_bytes end pairs ++ l)) (is ∙ ap (λ (t : TreeRef). footer_bytes (numbers t)) referred)
    (appended (bytes ++ tree_bytes end pairs) (holds_behind a b (FileChange file (InPlace (KeepsBefore end))) file end bytes (tree_bytes end pairs) written.changes written.becomes at holds)))
  where
    numbers : TreeRef → Footer
    numbers t = record { tree = t; max_timestamp = max_timestamp; end = end }
