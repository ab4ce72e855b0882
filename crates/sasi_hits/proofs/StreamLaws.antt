-- The pairs that are given, as hits of a stream.
use Rattle.std.proofs.Common.{◌≡◌, ℕ, ◌+◌, ◌≤◌, cond, List, [], ◌∷◌, Option, None, Some, refl, sym, ap, subst, ◌∙◌, arith, Result, Ok}
use Rattle.std.specs.List.{filter}
use Rattle.std.specs.Option.{option_map}
use Rattle.sasi_types.specs.declared.tree.Pair.{Pair}
use Rattle.sasi_types.specs.declared.tree.TreeRef.{TreeRef}
use Rattle.sasi_host.specs.declared.name.FileName.{FileName}
use Rattle.sasi_host.specs.declared.damage.Damage.{Damage}
use Rattle.sasi_host.specs.declared.fault.ReadFault.{ReadFault}
use Rattle.sasi_host.specs.Names.{Bytes, Folder}
use Rattle.sasi_host.specs.Disk.{Changes, Same}
use Rattle.sasi_host.specs.PageReading.{HasReadOn}
use Rattle.sasi_host.specs.View.{View}
use Rattle.sasi_host.proofs.ContentLaws.{contents_same}
use Rattle.sasi_tokentree.specs.Damages.{ShowsPairs}
use Rattle.sasi_tokentree.specs.Scans.{IsAtLast, PairScan}
use Rattle.sasi_datawrite.specs.declared.footer.Footer.{Footer}
use Rattle.sasi_dataread.specs.HeaderAndFooter.{HasHeaderAndFooter}
use Rattle.sasi_ranges.specs.declared.entry.Entry.{Entry}
use Rattle.sasi_ranges.specs.StreamCalls.{Gives, Spends, StreamFaults}
use Rattle.sasi_hits.specs.Calls.{ShowsIn, SpendsOn}
use Rattle.sasi_hits.specs.KeyTrees.{KeysShow, ScansKeys, ShowsKeyTree}
use Rattle.sasi_hits.specs.KeyTrees.ShowsKeyTree.{inside}
use Rattle.sasi_hits.specs.Pairs.{GivesPair, entries_of, entry_of, is_from}
use Rattle.sasi_hits.proofs.CallLaws.{faults_shown}
use Rattle.sasi_hits.proofs.PairLaws.{from_yes}

-- ---- hits

pub entries_give : (leaf part : ℕ) (Left : List Pair → Type 0) (left : List Pair) (es : List Entry) (found : Option Pair) → es ≡ entries_of leaf part left → GivesPair Left left found
    → Gives (λ (rest : List Entry). (pairs : List Pair) × Left pairs × (rest ≡ entries_of leaf part pairs)) es (option_map (entry_of leaf part) found)
entries_give leaf part Left left es None is gives = (is ∙ ap (entries_of leaf part) gives.0, ([], gives.1, refl))
entries_give leaf part Left left es (Some pair) is gives = (entries_of leaf part gives.0, is ∙ ap (entries_of leaf part) gives.1, (gives.0, gives.2, refl))

-- no token is below 0
pub from_zero : (xs : List Pair) → filter (is_from 0) xs ≡ xs
from_zero [] = refl
from_zero (x ∷ xs) = ap (λ b. cond b (x ∷ filter (is_from 0) xs) (filter (is_from 0) xs)) (from_yes 0 x (omega arith)) ∙ ap (λ l. x ∷ l) (from_zero xs)

-- ---- reads

pub spends_then : {T R : Type 0} (Pays : R → ℕ → Type 0) (Later : ℕ → Type 0) (most u v w : ℕ) (x : R) (y : T) → SpendsOn Pays most u v (Ok x)
    → ((rest : ℕ) → Pays x rest → (left : ℕ) × Later left × (w + left ≤ v + rest)) → Spends {T = T} Later most u w (Ok y)
spends_then Pays Later most u v w x y first second =
    let next = second first.0 first.1 in
    (next.0, next.1, omega (arith, first.2, next.2))

-- ---- an open data file

module _ (file : FileName) (scan after : PairScan) where
  pub scans_on : (K : Option Folder → Type 0) (A B : FileName → Type 0) (v w : View) → after.tree ≡ scan.tree → HasReadOn K A B v w scan.buffered after.buffered → IsAtLast after w.files → ScansKeys file scan v.files → ScansKeys file after w.files
  scans_on K A B v w tree read at_last is = record {
    named = read.file ∙ is.named;
    buffered = read.buffered;
    at_last = at_last;
    footer = λ bytes reads.
        (let footer = is.footer bytes (sym (contents_same v w file read.changes) ∙ reads) in
        (footer.0, footer.1, tree ∙ footer.2));
  }

  -- damage of its tree is damage of the file
  pub key_faults : {T L : Type 0} (Leaves : L → Type 0) (v w : View) (r : Result T ReadFault) → Changes Same v w → ScansKeys file scan v.files
      → StreamFaults (ShowsIn scan.buffered.file (ShowsPairs scan.buffered.file scan.tree) v.files) (ShowsIn scan.buffered.file (ShowsPairs scan.buffered.file scan.tree) w.files) Leaves v w r
      → StreamFaults (KeysShow file v.files) (KeysShow file w.files) Leaves v w r
  key_faults {T} {L} Leaves v w r change is one =
      faults_shown file (ShowsPairs file scan.tree) (ShowsKeyTree file) Leaves v w r change (λ damage shows bytes reads. tells damage bytes (is.footer bytes reads) (shows bytes reads))
      (subst (λ (n : FileName). StreamFaults (ShowsIn n (ShowsPairs n scan.tree) v.files) (ShowsIn n (ShowsPairs n scan.tree) w.files) Leaves v w r) is.named one)
    where
      tells : (damage : Damage) (bytes : Bytes) → (numbers : Footer) × HasHeaderAndFooter bytes numbers × (scan.tree ≡ numbers.tree) → ShowsPairs file scan.tree bytes damage → ShowsKeyTree file bytes damage
      tells damage bytes footer shows = inside footer.0 footer.1 (subst (λ (t : TreeRef). ShowsPairs file t bytes damage) footer.2 shows)
