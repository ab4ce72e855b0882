-- Bytes written behind what a file holds.
use Rattle.std.proofs.Common.{◌≡◌, ℕ, ◌+◌, ◌++◌, length, take, Option, None, Some, refl, sym, ◌∙◌, ap, subst, arith, [], append_assoc, length-append}
use Rattle.std.proofs.lemmas.List.{append-nil, drop_all, take_all}
use Rattle.std.specs.Prelude.{IsSome}
use Rattle.std.specs.FinMap.{get}
use Rattle.sasi_host.specs.declared.name.FileName.{FileName}
use Rattle.sasi_host.specs.Names.{Bytes}
use Rattle.sasi_host.specs.View.{View, Holds, IsThere, Reaches, contents}
use Rattle.sasi_host.specs.Disk.{Relation, Same, Changes, FileChange, InPlace, AnyChange, Becomes, overlay}
use Rattle.sasi_host.proofs.ContentLaws.{contents_same, told_before}
use Rattle.sasi_host.proofs.ChangeLaws.{changes_as}
use Rattle.sasi_tokentree.specs.Writes.{Writes, KeepsBefore}
use Rattle.sasi_indexwrite.specs.Appending.{IsAppending, next_tree}
use Rattle.sasi_indexwrite.specs.declared.tree_writer.TreeWriter.{TreeWriter}

-- bytes over no bytes are behind the others
overlay_behind : (old more : Bytes) → overlay old (length old) more ≡ old ++ more
overlay_behind old more =
    ap (λ (l : Bytes). take (length old) old ++ more ++ l) (drop_all (length old + length more) old (omega arith)) ∙ append-nil (take (length old) old ++ more)
    ∙ ap (λ (l : Bytes). l ++ more) (take_all (length old) old (omega arith))

-- what was written where the file ended is behind what it held
pub holds_behind : (a b : View) (S : Relation) (file : FileName) (at : ℕ) (bytes more : Bytes) → Changes S a b → Becomes file
    (λ old. overlay old at more) a b → length bytes ≡ at → Holds a file bytes → Holds b file (bytes ++ more)
holds_behind a b S file at bytes more change becomes is holds told =
    becomes bytes (holds (told_before S a b change told)) ∙ ap (λ (l : Bytes). Some l) (ap (λ (n : ℕ). overlay bytes n more) (sym is) ∙ overlay_behind bytes more)

-- the same of what several calls wrote
pub written_behind : (a b : View) (file : FileName) (at : ℕ) (bytes more : Bytes) → Writes a b file at more → length bytes ≡ at → Holds a file bytes → Holds b file (bytes ++ more)
written_behind a b file at bytes more written is holds = holds_behind a b (FileChange file (InPlace (KeepsBefore at))) file at bytes more written.changes written.becomes is holds

some_is : (o : Option Bytes) → IsSome o → (x : Bytes) × (o ≡ Some x)
some_is None h = cc
some_is (Some x) h = (x, refl)

-- where a file ends it reaches
pub reaches_end : (a b : View) (file : FileName) (at : ℕ) → Changes Same a b → IsThere a file → ((bytes : Bytes) → contents a file ≡ Some bytes → at ≡ length bytes) → Reaches b file at
reaches_end a b file at same there size told =
    let was = some_is (contents a file) (there (told_before Same a b same told)) in
    (was.0, contents_same a b file same ∙ was.1, omega (arith, size was.0 was.1))

-- a call that leaves the folder as it is
pub touches_same : (a b : View) (file : FileName) → Changes Same a b → Changes (FileChange file AnyChange) a b
touches_same a b file same = changes_as a b Same (FileChange file AnyChange) same (λ x y is. record { others = λ name other. ap (λ d. get d name) is; this = tt })

-- the file by another name of it
pub of_file : (a b : View) (one other : FileName) → other ≡ one → Changes (FileChange other AnyChange) a b → Changes (FileChange one AnyChange) a b
of_file a b one other is change = subst (λ (f : FileName). Changes (FileChange f AnyChange) a b) is change

-- ---- trees that are written a page or more at a time

-- what wasn't written yet is behind what the file held
pub out_written : (a b : View) (S : Relation) (old new : TreeWriter) (bytes : Bytes) → Changes S a b → Becomes old.file (λ was. overlay was old.end old.unwritten.items) a b → new.file ≡ old.file → next_tree new ≡ next_tree old → new.unwritten.items ≡ []
    → IsAppending a old bytes → IsAppending b new bytes
out_written a b S old new bytes change becomes file next none was = record {
  written = bytes;
  ends = omega (arith, sym (ap length was.whole), length-append was.written old.unwritten.items, was.ends, next, ap length none);
  holds =
      subst (λ f. Holds b f bytes) (sym file) (subst (λ (l : Bytes). Holds b old.file l) was.whole (holds_behind a b S old.file old.end was.written old.unwritten.items change becomes was.ends was.holds));
  whole = ap (λ (l : Bytes). bytes ++ l) none ∙ append-nil bytes;
}

-- a tree more in memory
pub kept_unwritten : (v : View) (old new : TreeWriter) (bytes more : Bytes) → new.file ≡ old.file → new.end ≡ old.end → new.unwritten.items ≡ old.unwritten.items ++ more → IsAppending v old bytes → IsAppending v new (bytes ++ more)
kept_unwritten v old new bytes more file end is was = record {
  written = was.written;
  ends = was.ends ∙ sym end;
  holds = subst (λ f. Holds v f was.written) (sym file) was.holds;
  whole = ap (λ (l : Bytes). was.written ++ l) is ∙ sym (append_assoc was.written old.unwritten.items more) ∙ ap (λ (l : Bytes). l ++ more) was.whole;
}

-- a tree more in the file
pub kept_written : (a b : View) (old new : TreeWriter) (bytes more : Bytes) → new.file ≡ old.file → new.end ≡ old.end + length more → old.unwritten.items ≡ [] → new.unwritten.items ≡ [] → Writes a b old.file old.end more → IsAppending a old bytes
    → IsAppending b new (bytes ++ more)
kept_written a b old new bytes more file end none still written was =
    let whole : was.written ≡ bytes = sym (append-nil was.written) ∙ ap (λ (l : Bytes). was.written ++ l) (sym none) ∙ was.whole in
    record {
      written = bytes ++ more;
      ends = omega (arith, length-append bytes more, sym (ap length whole), was.ends, end);
      holds =
          subst (λ f. Holds b f (bytes ++ more)) (sym file)
          (subst (λ (l : Bytes). Holds b old.file (l ++ more)) whole (written_behind a b old.file old.end was.written more written was.ends was.holds));
      whole = ap (λ (l : Bytes). (bytes ++ more) ++ l) still ∙ append-nil (bytes ++ more);
    }

-- where all is written the file holds it
pub all_written : (v : View) (trees : TreeWriter) (bytes : Bytes) → trees.unwritten.items ≡ [] → IsAppending v trees bytes → Holds v trees.file bytes
all_written v trees bytes none was =
    subst (λ (l : Bytes). Holds v trees.file l) (sym (append-nil was.written) ∙ ap (λ (l : Bytes). was.written ++ l) (sym none) ∙ was.whole) was.holds
