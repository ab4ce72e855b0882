-- What a scan or a search reads in any file: the pairs of the key tree, and the partitions to which they lead.
use Rattle.std.proofs.Common.{◌≡◌, ℕ, suc, ◌+◌, ◌-◌, ◌<◌, ◌≤◌, List, ◌∷◌, length, drop, refl, sym, ◌∙◌, ap, subst, arith, length-drop, ⊎_elim, Option, Some, None, is_some, true, false}
use Rattle.std.proofs.lemmas.Bool.Decides.{leb_tells}
use Rattle.std.proofs.lemmas.List.{get_or-drop}
use Rattle.sasi_host.specs.declared.name.FileName.{FileName}
use Rattle.sasi_host.specs.Names.{Bytes}
use Rattle.sasi_host.specs.View.{View, contents}
use Rattle.sasi_host.specs.Disk.{Changes, Same}
use Rattle.sasi_host.proofs.ContentLaws.{contents_same}
use Rattle.sasi_types.specs.declared.tree.Pair.{Pair}
use Rattle.sasi_types.specs.declared.tree.TreeRef.{TreeRef}
use Rattle.sasi_model.specs.Cells.{Partition}
use Rattle.sasi_tokentree.specs.Format.{pair_at, IsRising, HasTree}
use Rattle.sasi_tokentree.specs.Scans.{HasEntry, ReadsEntry, ReadsHeader, ReadsFirstPair, ReadsNextPair, StepsToPair}
use Rattle.sasi_tokentree.proofs.NodeParts.{do_not_fall}
use Rattle.sasi_dataread.specs.Opened.{OpenDataFile}
use Rattle.sasi_dataread.specs.Bodies.{IsPartitionOffset}
use Rattle.sasi_dataread.specs.Reads.{IsStoredAt, LeadsToPartition}
use Rattle.sasi_dataread.specs.Finds.{FindsStored, HasOtherKey, LeadsTo, ReadsStoredKey}
use Rattle.sasi_dataread.proofs.Opening.{stored_before}

-- ---- the pair that was read, and its partition

-- the header of a leaf, in a file by another name
pub header_of : (v : View) (opened : OpenDataFile) (file : FileName) (tree : TreeRef) (passed : ℕ) (found : Option Pair) → file ≡ opened.file → tree ≡ opened.tree
    → ReadsHeader v file tree passed found → ReadsHeader v opened.file opened.tree passed found
header_of v opened file tree passed found file_is tree_is reads = subst (λ (n : FileName). ReadsHeader v n opened.tree passed found) file_is (subst (λ (t : TreeRef). ReadsHeader v file t passed found) tree_is reads)

pub header_before : (v w : View) (file : FileName) (tree : TreeRef) (passed : ℕ) (found : Option Pair) → Changes Same v w → ReadsHeader w file tree passed found → ReadsHeader v file tree passed found
header_before v w file tree passed None change reads = tt
header_before v w file tree passed (Some pair) change reads = λ leaf at bytes is. reads leaf at bytes (contents_same v w file change ∙ is)

-- it leads to the partition that is read then
unfoldable pub leads_there : (v w : View) (opened : OpenDataFile) (before after : ℕ) (pair : Pair) (key : Bytes) (part : Partition) → after ≡ before + 1
    → ReadsEntry v opened.file opened.tree after (Some pair) → ReadsHeader v opened.file opened.tree after (Some pair) → Changes Same v w → IsPartitionOffset opened.end pair.place
    → IsStoredAt w opened pair.place key part → LeadsToPartition v opened before pair.token key part
leads_there v w opened before after pair key part one entry header change begins stored =
    let index : entry.0 ≡ before = omega (arith, entry.1, one) in
    record {
      pair = pair;
      token_is = refl;
      entry = λ bytes is. subst (λ (n : ℕ). HasEntry bytes opened.tree n pair) index (entry.2 bytes is);
      header = λ leaf at bytes is. header leaf (omega (arith, at, one)) bytes is;
      begins = begins;
      stored = stored_before v w opened pair.place key part change stored;
    }

-- ---- a search

-- what was found stands there
pub found_there : (v w : View) (opened : OpenDataFile) (token place : ℕ) (key : Bytes) (passed : ℕ) (next : Option Pair) (found : Option Partition) → Changes Same v w → LeadsTo token next (Some place)
    → ReadsEntry v opened.file opened.tree passed next → ReadsHeader v opened.file opened.tree passed next → IsPartitionOffset opened.end place → ReadsStoredKey w opened place key found → FindsStored v opened token key found
found_there v w opened token place key passed next None change leads entry header begins reads = tt
found_there v w opened token place key passed next (Some part) change leads entry header begins reads =
    let pair : Pair = record { token = token; place = place } in
    let read = subst (λ (o : Option Pair). ReadsEntry v opened.file opened.tree passed o) leads entry in
    let behind = subst (λ (o : Option Pair). ReadsHeader v opened.file opened.tree passed o) leads header in
    (read.0, leads_there v w opened read.0 passed pair key part read.1 read behind change begins reads)

pub is_found : (found : Option Partition) → is_some found ≡ true → found ≡ None → ⊥
is_found None some none = absurd (cc)
is_found (Some part) some none = absurd (cc)

-- The search has come to an index of the pairs: this is the pair there. Each pair with the token before it leads to another
-- key, and no pair from it on has a lower token.
pub record Looks (v : View) (opened : OpenDataFile) (token : ℕ) (key : Bytes) (pairs : List Pair) (turns passed : ℕ) (next : Option Pair) : Type 0 where
  pub index : ℕ
  pub far : turns ≤ index
  pub takes : StepsToPair pairs index passed next
  pub above : (other : ℕ) → index ≤ other → other < length pairs → token ≤ (pair_at pairs other).token
  pub others : (other : ℕ) → other < index → other < length pairs → (pair_at pairs other).token ≡ token → HasOtherKey v opened (pair_at pairs other).place key

-- where it stands after the first pair at or after the token
pub looks_first : (v : View) (opened : OpenDataFile) (file : FileName) (tree : TreeRef) (token : ℕ) (key : Bytes) (passed : ℕ) (next : Option Pair) → file ≡ opened.file → tree ≡ opened.tree
    → ReadsFirstPair v file tree token passed next → (bytes : Bytes) (pairs : List Pair) → contents v opened.file ≡ Some bytes → HasTree bytes opened.tree pairs → Looks v opened token key pairs 0 passed next
looks_first v opened file tree token key passed next file_is tree_is reads bytes pairs is has =
    let from = reads bytes pairs (ap (λ (f : FileName). contents v f) file_is ∙ is) (subst (λ (t : TreeRef). HasTree bytes t pairs) (sym tree_is) has) in
    record {
      index = from.0;
      far = omega arith;
      takes = from.2;
      above = from.1.above;
      others = λ other lt within same. absurd (omega (arith, same, from.1.below other lt));
    }

-- the next pair, of a tree by another name
pub next_there : (v w : View) (opened : OpenDataFile) (file : FileName) (tree : TreeRef) (before after : ℕ) (next : Option Pair) → file ≡ opened.file → tree ≡ opened.tree → Changes Same v w
    → ReadsNextPair w file tree before after next → (bytes : Bytes) (pairs : List Pair) → contents v opened.file ≡ Some bytes → HasTree bytes opened.tree pairs → StepsToPair pairs before after next
next_there v w opened file tree before after next file_is tree_is change reads bytes pairs is has =
    reads bytes pairs (ap (λ (f : FileName). contents w f) file_is ∙ contents_same v w opened.file change ∙ is) (subst (λ (t : TreeRef). HasTree bytes t pairs) (sym tree_is) has)

pair_here : (pairs : List Pair) (index : ℕ) (pair : Pair) (rest : List Pair) → drop index pairs ≡ pair ∷ rest → pair_at pairs index ≡ pair
pair_here pairs index pair rest is =
    let here : pair_at pairs (index + 0) ≡ pair = sym (get_or-drop index pairs 0 (record { token = 0; place = 0 })) ∙ ap (λ (l : List Pair). pair_at l 0) is in
    ap (λ (k : ℕ). pair_at pairs k) (omega arith) ∙ here

pub left_of : (pairs : List Pair) (index passed : ℕ) (pair : Pair) → drop index pairs ≡ pair ∷ drop passed pairs → (index < length pairs) × (length pairs - suc index ≡ length pairs - passed)
left_of pairs index passed pair is =
    let taken : length (drop index pairs) ≡ length (pair ∷ drop passed pairs) = ap (λ (l : List Pair). length l) is in
    let here = length-drop index pairs in
    let there = length-drop passed pairs in
    (omega (arith, taken, here, there), omega (arith, taken, here, there))

other_of : (v : View) (opened : OpenDataFile) (place : ℕ) (key : Bytes) (found : Option Partition) → is_some found ≡ false → ReadsStoredKey v opened place key found → HasOtherKey v opened place key
other_of v opened place key None none reads = reads
other_of v opened place key (Some part) none reads = absurd (cc)

other_before : (v w : View) (opened : OpenDataFile) (place : ℕ) (key : Bytes) → Changes Same v w → HasOtherKey w opened place key → HasOtherKey v opened place key
other_before v w opened place key change has = (has.0, has.1, has.2, stored_before v w opened place has.0 has.1 change has.3)

-- the partition there has another key
pub looks_on : (v w : View) (opened : OpenDataFile) (token : ℕ) (key : Bytes) (pairs : List Pair) (turns passed place after : ℕ) (last next : Option Pair) (found : Option Partition) → Changes Same v w
    → Looks v opened token key pairs turns passed last → LeadsTo token last (Some place) → ReadsStoredKey w opened place key found → is_some found ≡ false → StepsToPair pairs passed after next
    → Looks v opened token key pairs (turns + 1) after next
looks_on v w opened token key pairs turns passed place after last next found change looks leads reads none takes =
    let pair : Pair = record { token = token; place = place } in
    let here : drop looks.index pairs ≡ pair ∷ drop passed pairs = subst (λ (o : Option Pair). StepsToPair pairs looks.index passed o) leads looks.takes in
    let left = left_of pairs looks.index passed pair here in
    let is = pair_here pairs looks.index pair (drop passed pairs) here in
    let differs : HasOtherKey v opened pair.place key = other_before v w opened place key change (other_of w opened place key found none reads) in
    record {
      index = passed;
      far = omega (arith, looks.far, left.0, left.1);
      takes = takes;
      above = λ other le lt. looks.above other (omega (arith, le, left.0, left.1)) lt;
      others = λ other lt within same.
          ⊎_elim
          (λ ge.
          let this : looks.index ≡ other = omega (arith, ge.1, lt, within, left.0, left.1) in
          subst (λ (n : ℕ). HasOtherKey v opened (pair_at pairs n).place key) this (subst (λ (p : Pair). HasOtherKey v opened p.place key) (sym is) differs))
          (λ less. looks.others other less.1 within same)
          (leb_tells looks.index other);
    }

-- ---- none is found

-- where the next pair has another token
pub misses_there : (v : View) (opened : OpenDataFile) (token : ℕ) (key : Bytes) (pairs : List Pair) (turns passed : ℕ) (next : Option Pair) → IsRising pairs → Looks v opened token key pairs turns passed next
    → LeadsTo token next None → (index : ℕ) → index < length pairs → (pair_at pairs index).token ≡ token → HasOtherKey v opened (pair_at pairs index).place key
misses_there v opened token key pairs turns passed None rising looks differs index lt same = looks.others index (omega (arith, lt, ap (λ (l : List Pair). length l) looks.takes.0, length-drop looks.index pairs)) lt same
misses_there v opened token key pairs turns passed (Some pair) rising looks differs index lt same =
    let is = pair_here pairs looks.index pair (drop passed pairs) looks.takes in
    let left = left_of pairs looks.index passed pair looks.takes in
    let least = looks.above looks.index (omega arith) left.0 in
    ⊎_elim
    (λ ge.
    let there : looks.index + (index - looks.index) ≡ index = omega (arith, ge.1) in
    let falls = do_not_fall pairs rising looks.index (index - looks.index) (omega (arith, there, lt)) in
    absurd (differs pair refl (omega (arith, least, falls, same, ap (λ (p : Pair). p.token) is, ap (λ (k : ℕ). (pair_at pairs k).token) there))))
    (λ less. looks.others index less.1 lt same)
    (leb_tells looks.index index)

-- where all pairs are passed
pub misses_all : (v : View) (opened : OpenDataFile) (token : ℕ) (key : Bytes) (pairs : List Pair) (turns passed : ℕ) (next : Option Pair) → Looks v opened token key pairs turns passed next → length pairs ≤ turns
    → (index : ℕ) → index < length pairs → (pair_at pairs index).token ≡ token → HasOtherKey v opened (pair_at pairs index).place key
misses_all v opened token key pairs turns passed next looks le index lt same = looks.others index (omega (arith, le, looks.far, lt)) lt same
