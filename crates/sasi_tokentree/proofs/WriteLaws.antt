-- Laws of writes, one after another.
use Rattle.std.specs.Prelude.{◌≡◌, ℕ, ◌+◌, ◌≤◌, ◌++◌, [], length, take, drop, Option, Some, None, is_some, refl}
use Rattle.std.specs.FinMap.{get}
use Rattle.std.proofs.Common.{sym, ◌∙◌, ap, subst, arith, append_assoc, length-append, take-append-drop}
use Rattle.std.proofs.lemmas.List.{take_at, drop_at, drop-drop, append-nil, take-take, length-take-le}
use Rattle.sasi_host.specs.declared.name.FileName.{FileName}
use Rattle.sasi_host.specs.Names.{Bytes, Folder}
use Rattle.sasi_host.specs.View.{View, Reaches, contents, contents_in}
use Rattle.sasi_host.specs.Disk.{Changes, Same, FileChange, InPlace, Torn, Becomes, overlay}
use Rattle.sasi_host.proofs.ContentLaws.{reaches_written}
use Rattle.sasi_host.proofs.ChangeLaws.{changes_on, changes_as, stays, step_on, step_as}
use Rattle.sasi_tokentree.specs.Writes.{KeepsBefore, ChangesFrom, KeepsCounts, Writes}

-- what stays before an offset stays before each earlier one
pub past_earlier : (at later : ℕ) (old new : Bytes) → at ≤ later → KeepsBefore later old new → KeepsBefore at old new
past_earlier at later old new le past = record {
  before = sym (take-take at later new le) ∙ ap (λ (l : Bytes). take at l) past.before ∙ take-take at later old le;
  no_shorter = past.no_shorter;
}

pub past_on : (at : ℕ) (a b c : Bytes) → KeepsBefore at a b → KeepsBefore at b c → KeepsBefore at a c
past_on at a b c first second = record {
  before = second.before ∙ first.before;
  no_shorter = omega (arith, first.no_shorter, second.no_shorter);
}

in_place_on : (at : ℕ) (x y z : Option Bytes) → InPlace (KeepsBefore at) x y → InPlace (KeepsBefore at) y z → InPlace (KeepsBefore at) x z
in_place_on at None None None first second = tt
in_place_on at None None (Some c) first second = second
in_place_on at None (Some b) z first second = absurd first
in_place_on at (Some a) None z first second = absurd first
in_place_on at (Some a) (Some b) None first second = second
in_place_on at (Some a) (Some b) (Some c) first second = past_on at a b c first second

in_place_earlier : (at later : ℕ) → at ≤ later → (x y : Option Bytes) → InPlace (KeepsBefore later) x y → InPlace (KeepsBefore at) x y
in_place_earlier at later le None None changed = tt
in_place_earlier at later le None (Some b) changed = changed
in_place_earlier at later le (Some a) None changed = changed
in_place_earlier at later le (Some a) (Some b) changed = past_earlier at later a b le changed

in_place_torn : (at n : ℕ) (x y : Option Bytes) → InPlace (Torn at n) x y → InPlace (KeepsBefore at) x y
in_place_torn at n None None changed = tt
in_place_torn at n None (Some b) changed = changed
in_place_torn at n (Some a) None changed = changed
in_place_torn at n (Some a) (Some b) changed = record { before = changed.before; no_shorter = changed.no_shorter }

in_place_same : (at : ℕ) (x : Option Bytes) → InPlace (KeepsBefore at) x x
in_place_same at None = tt
in_place_same at (Some a) = record { before = refl; no_shorter = omega arith }

-- a change from an offset on, and then one from a later offset on
pub changes_past_on : (a b c : View) (file : FileName) (at later : ℕ) → at ≤ later → ChangesFrom file at a b → ChangesFrom file later b c → ChangesFrom file at a c
changes_past_on a b c file at later le first second =
    changes_on a b c (FileChange file (InPlace (KeepsBefore at))) (FileChange file (InPlace (KeepsBefore later))) (FileChange file (InPlace (KeepsBefore at))) first second (λ x y s. s)
    (step_on file (InPlace (KeepsBefore at)) (InPlace (KeepsBefore later)) (InPlace (KeepsBefore at)) (λ x y z s t. in_place_on at x y z s (in_place_earlier at later le y z t)))

-- a write changes the file from its offset on
pub changes_past_torn : (a b : View) (file : FileName) (at n : ℕ) → Changes (FileChange file (InPlace (Torn at n))) a b → ChangesFrom file at a b
changes_past_torn a b file at n change =
    changes_as a b (FileChange file (InPlace (Torn at n))) (FileChange file (InPlace (KeepsBefore at))) change (step_as file (InPlace (Torn at n)) (InPlace (KeepsBefore at)) (in_place_torn at n))

-- where nothing is done, nothing changes
pub changes_past_stays : (v : View) (file : FileName) (at : ℕ) → ChangesFrom file at v v
changes_past_stays v file at =
    changes_as v v Same (FileChange file (InPlace (KeepsBefore at))) (stays v) (λ x y same. subst (λ (f : Folder). FileChange file (InPlace (KeepsBefore at)) x f) (sym same) (record {
      others = λ name other. refl;
      this = in_place_same at (get x file);
    }))

-- bytes over bytes, and then more bytes behind them
pub overlay_on : (old x y : Bytes) (at : ℕ) → at ≤ length old → overlay (overlay old at x) (at + length x) y ≡ overlay old at (x ++ y)
overlay_on old x y at within =
    let front = take at old ++ x in
    let rest = drop (at + length x) old in
    let long : length front ≡ at + length x = omega (arith, length-append (take at old) x, length-take-le at old within) in
    let more : length x + length y ≡ length (x ++ y) = sym (length-append x y) in
    let behind : drop (at + length x + length y) (front ++ rest) ≡ drop (at + length (x ++ y)) old =
    sym (drop-drop (length y) (at + length x) (front ++ rest)) ∙ ap (λ (l : Bytes). drop (length y) l) (drop_at front rest (at + length x) long) ∙ drop-drop (length y) (at + length x) old
    ∙ ap (λ (n : ℕ). drop n old) (omega (arith, more))
    in
    ap (λ (l : Bytes). l ++ y ++ drop (at + length x + length y) (front ++ rest)) (take_at front rest (at + length x) long)
    ∙ ap (λ (l : Bytes). front ++ y ++ l) behind
    ∙ ap (λ (l : Bytes). l ++ drop (at + length (x ++ y)) old) (append_assoc (take at old) x y)

-- nothing is written
pub writes_nothing : (v : View) (file : FileName) (at : ℕ) → Reaches v file at → Writes v v file at []
writes_nothing v file at reaches = record {
  becomes = λ bytes is. is ∙ ap (λ (l : Bytes). Some l) (sym (ap (λ (l : Bytes). l ++ drop (at + 0) bytes) (append-nil (take at bytes)) ∙ ap
      (λ (n : ℕ). take at bytes ++ drop n bytes) (omega arith) ∙ take-append-drop at bytes));
  reaches = λ told. let r = reaches told in (r.0, r.1, omega (arith, r.2));
  changes = changes_past_stays v file at;
  counts = record { disk = refl; out = refl; reads = refl };
}

-- a file that reads so reaches as far as it is known to
told_reaches : (a : View) (file : FileName) (at : ℕ) (bytes : Bytes) → Reaches a file at → contents a file ≡ Some bytes → at ≤ length bytes
told_reaches a file at bytes reaches is = from a.files refl
  where
    from : (o : Option Folder) → a.files ≡ o → at ≤ length bytes
    from None none = let no : contents_in None file ≡ Some bytes = sym (ap (λ (o : Option Folder). contents_in o file) none) ∙ is in absurd (cc)
    from (Some f) some =
        let r = reaches (ap (λ (o : Option Folder). is_some o) some) in
        let same : r.0 ≡ bytes = cc in
        omega (arith, r.2, ap length same)

-- what is written behind what was written is written with it
pub writes_on : (a b c : View) (file : FileName) (at : ℕ) (x y : Bytes) → Reaches a file at → Writes a b file at x → Writes b c file (at + length x) y → Writes a c file at (x ++ y)
writes_on a b c file at x y reaches first second = record {
  becomes = λ bytes is.
      let was = told_reaches a file at bytes reaches is in
      second.becomes (overlay bytes at x) (first.becomes bytes is) ∙ ap (λ (l : Bytes). Some l) (overlay_on bytes x y at was);
  reaches = λ told. let r = second.reaches told in (r.0, r.1, omega (arith, r.2, length-append x y));
  changes = changes_past_on a b c file at (at + length x) (omega arith) first.changes second.changes;
  counts = record {
    disk = second.counts.disk ∙ first.counts.disk;
    out = second.counts.out ∙ first.counts.out;
    reads = second.counts.reads ∙ first.counts.reads;
  };
}

-- one write writes its bytes
pub writes_once : (a b : View) (file : FileName) (at : ℕ) (bytes wanted : Bytes) → bytes ≡ wanted → Reaches a file at → Becomes file
    (λ old. overlay old at bytes) a b → Changes (FileChange file (InPlace (Torn at (length bytes)))) a b → KeepsCounts a b
    → Writes a b file at wanted
writes_once a b file at bytes wanted is reaches becomes changes counts = subst (λ (l : Bytes). Writes a b file at l) is (record {
  becomes = becomes;
  reaches = reaches_written a b file (FileChange file (InPlace (Torn at (length bytes)))) at bytes changes becomes reaches;
  changes = changes_past_torn a b file at (length bytes) changes;
  counts = counts;
})
