-- The keys of a token, gathered from the partitions of a data file.
use Rattle.std.proofs.Common.{◌≡◌, ◌≢◌, ◌⊎◌, ℕ, zero, suc, ◌+◌, ◌-◌, ◌*◌, ◌<◌, ◌≤◌, List, ◌∷◌, [], ◌++◌, length, take, drop, refl, sym, ◌∙◌, ap, subst, arith, length-append, append_assoc, append-nil, inl, inr, IsSome, Option, Some, None, Bool, true}
use Rattle.std.specs.Prelude.{nat_eq, if◌then◌else◌}
use Rattle.std.specs.declared.result.Result.{Result}
use Rattle.std.specs.List.{AllByRecursion}
use Rattle.std.proofs.lemmas.Bool.{eq-eqb, ne_eqb}
use Rattle.std.proofs.lemmas.List.{drop_all}
use Rattle.sasi_host.specs.declared.name.FileName.{FileName}
use Rattle.sasi_host.specs.declared.fault.ReadFault.{ReadFault}
use Rattle.sasi_host.specs.Names.{Bytes}
use Rattle.sasi_host.specs.View.{View, ReadCost, contents}
use Rattle.sasi_host.specs.Disk.{Changes, Same}
use Rattle.sasi_types.specs.declared.partitioner.Partitioner.{Partitioner}
use Rattle.sasi_types.specs.declared.tree.Pair.{Pair}
use Rattle.sasi_types.specs.declared.tree.TreeRef.{TreeRef}
use Rattle.sasi_types.specs.Token.{token_of}
use Rattle.sasi_model.specs.Cells.{Partition}
use Rattle.sasi_body.specs.Body.{body}
use Rattle.sasi_tokentree.specs.Damages.{start}
use Rattle.sasi_tokentree.specs.Format.{HasTree, pair_at}
use Rattle.sasi_tokentree.specs.Heights.{height}
use Rattle.sasi_tokentree.specs.Reads.{CountsBelow, CountsDown}
use Rattle.sasi_tokentree.specs.Scans.{HasEntry, PairScan, PassesOne, ReadsEntry, ReadsFirstPair, ReadsHeader, StepsBehindCounted, StepsToPair}
use Rattle.sasi_tokentree.proofs.LeafPairs.{count_is}
use Rattle.sasi_datawrite.specs.Format.{Content, header, key_pairs, pairs_from, partition_bytes, partitions}
use Rattle.sasi_datawrite.proofs.Laws.{pairs_length}
use Rattle.sasi_dataread.specs.declared.token_keys.PlacedKey.{PlacedKey}
use Rattle.sasi_dataread.specs.Opened.{OpenDataFile, StandsAt}
use Rattle.sasi_dataread.specs.Reads.{IsOpenOn}
use Rattle.sasi_dataread.specs.Bodies.{IsPartitionOffset, partition_pages}
use Rattle.sasi_dataread.specs.Scans.{KeysAreBytes}
use Rattle.sasi_dataread.specs.Finds.{LeadsTo, token_reads}
use Rattle.sasi_dataread.specs.PlacedKeys.{AddsKey, BeginsToken, HasKeysOfToken, LeadToKeys, LeadsToKey, keys_at}
use Rattle.sasi_dataread.proofs.Pairs.{as_many_left, nth, nth_stands}
use Rattle.sasi_dataread.proofs.DataScan.{IsShort, open_same, tree_there}
use Rattle.sasi_dataread.proofs.Looking.{leads_there, left_of}
use Rattle.sasi_dataread.proofs.Finding.{all_above, begun, first_causes, is_here, left_cost, left_less, steps_to_it}

-- ---- the keys of the partitions from an index on

abbrev pub keys_left : Partitioner → ℕ → ℕ → Content → ℕ → List PlacedKey
keys_left partitioner token at content zero = keys_at partitioner token at content
keys_left partitioner token at [] (suc index) = []
keys_left partitioner token at (one ∷ others) (suc index) = keys_left partitioner token (at + length (partition_bytes one.0 one.1)) others index

-- a partition of another token adds none
other_token : (partitioner : Partitioner) (token at : ℕ) (one : Bytes × Partition) (others : Content) → token_of partitioner one.0 ≢ token
    → keys_at partitioner token at (one ∷ others) ≡ keys_at partitioner token (at + length (partition_bytes one.0 one.1)) others
other_token partitioner token at one others differs =
    ap (λ (b : Bool). (if b then record { place = at; key = one.0 } ∷ [] else []) ++ keys_at partitioner token (at + length (partition_bytes one.0 one.1)) others)
    (ne_eqb (token_of partitioner one.0) token differs)

-- partitions of lower tokens add none
below_add_none : (partitioner : Partitioner) (token at : ℕ) (content : Content) (count : ℕ) → ((index : ℕ) → index < count → (pair_at (pairs_from partitioner at content) index).token < token)
    → keys_at partitioner token at content ≡ keys_left partitioner token at content count
below_add_none partitioner token at content zero below = refl
below_add_none partitioner token at [] (suc count) below = refl
below_add_none partitioner token at (one ∷ others) (suc count) below =
    other_token partitioner token at one others (λ same. absurd (omega (arith, same, below 0 (omega arith))))
    ∙ below_add_none partitioner token (at + length (partition_bytes one.0 one.1)) others count (λ index lt. below (suc index) (omega (arith, lt)))

-- nor do those of higher ones
higher_none : (partitioner : Partitioner) (token at : ℕ) (content : Content) → AllByRecursion (λ one. token < token_of partitioner one.0) content → keys_at partitioner token at content ≡ []
higher_none partitioner token at [] all = refl
higher_none partitioner token at (one ∷ others) all =
    other_token partitioner token at one others (λ same. absurd (omega (arith, same, all.0))) ∙ higher_none partitioner token (at + length (partition_bytes one.0 one.1)) others all.1

above_add_none : (partitioner : Partitioner) (token at : ℕ) (content : Content) (index : ℕ) → AllByRecursion (λ one. token < token_of partitioner one.0) (drop index content) → keys_left partitioner token at content index ≡ []
above_add_none partitioner token at content zero all = higher_none partitioner token at content all
above_add_none partitioner token at [] (suc index) all = refl
above_add_none partitioner token at (one ∷ others) (suc index) all = above_add_none partitioner token (at + length (partition_bytes one.0 one.1)) others index all

keys_same : (partitioner : Partitioner) (token at : ℕ) (content : Content) (n m : ℕ) → length content - n ≡ length content - m → keys_left partitioner token at content n ≡ keys_left partitioner token at content m
keys_same partitioner token at [] zero zero is = refl
keys_same partitioner token at [] zero (suc m) is = refl
keys_same partitioner token at [] (suc n) zero is = refl
keys_same partitioner token at [] (suc n) (suc m) is = refl
keys_same partitioner token at (one ∷ others) zero zero is = refl
keys_same partitioner token at (one ∷ others) zero (suc m) is = absurd (omega (arith, is))
keys_same partitioner token at (one ∷ others) (suc n) zero is = absurd (omega (arith, is))
keys_same partitioner token at (one ∷ others) (suc n) (suc m) is = keys_same partitioner token (at + length (partition_bytes one.0 one.1)) others n m (omega (arith, is))

-- one with the token adds its key
adds_one : (partitioner : Partitioner) (token at : ℕ) (content : Content) (index : ℕ) (one : Bytes × Partition) (rest : Content) → drop index content ≡ one ∷ rest → token_of partitioner one.0 ≡ token
    → keys_left partitioner token at content index ≡ record { place = at + length (partitions (take index content)); key = one.0 } ∷ keys_left partitioner token at content (suc index)
adds_one partitioner token at [] zero one rest is same = absurd (cc)
adds_one partitioner token at [] (suc index) one rest is same = absurd (cc)
adds_one partitioner token at (first ∷ others) zero one rest is same =
    let this : first ≡ one = cc in
    let eq : nat_eq (token_of partitioner first.0) token ≡ true = eq-eqb (token_of partitioner first.0) token (ap (λ (o : Bytes × Partition). token_of partitioner o.0) this ∙ same) in
    let place : at ≡ at + length (partitions (take 0 (first ∷ others))) = omega arith in
    ap (λ (b : Bool). (if b then record { place = at; key = first.0 } ∷ [] else []) ++ behind) eq
    ∙ ap (λ (o : Bytes × Partition). placed at o.0 ∷ behind) this
    ∙ ap (λ (n : ℕ). placed n one.0 ∷ behind) place
  where
    behind : List PlacedKey
    behind = keys_at partitioner token (at + length (partition_bytes first.0 first.1)) others

    placed : ℕ → Bytes → PlacedKey
    placed n key = record { place = n; key = key }
adds_one partitioner token at (first ∷ others) (suc index) one rest is same =
    adds_one partitioner token (at + length (partition_bytes first.0 first.1)) others index one rest is same
    ∙ ap (λ (n : ℕ). placed n ∷ keys_left partitioner token (at + length (partition_bytes first.0 first.1)) others (suc index))
    (omega (arith, length-append (partition_bytes first.0 first.1) (partitions (take index others))))
  where
    placed : ℕ → PlacedKey
    placed n = record { place = n; key = one.0 }

-- the partition to which a pair leads is the next with the token
pub record IsNextKey (partitioner : Partitioner) (content : Content) (token place index passed : ℕ) : Type 0 where
  pub one : Bytes × Partition
  pub stands : StandsAt content place one.0 one.1
  pub next_is : keys_left partitioner token (length header) content index ≡ record { place = place; key = one.0 } ∷ keys_left partitioner token (length header) content passed

next_key : (partitioner : Partitioner) (content : Content) (token place index passed : ℕ) → StepsToPair (key_pairs partitioner content) index passed (Some (record { token = token; place = place }))
    → IsNextKey partitioner content token place index passed
next_key partitioner content token place index passed takes =
    let pair : Pair = record { token = token; place = place } in
    let n = nth partitioner (length header) content index pair (drop passed (key_pairs partitioner content)) takes in
    let left = as_many_left partitioner content index passed pair takes in
    let token_is : token ≡ token_of partitioner n.one.0 = ap (λ (p : Pair). p.token) n.pair_is in
    let place_is : place ≡ length header + length (partitions (take index content)) = ap (λ (p : Pair). p.place) n.pair_is in
    record {
      one = n.one;
      stands = nth_stands partitioner content index pair n;
      next_is =
          adds_one partitioner token (length header) content index n.one (drop (suc index) content) n.left (sym token_is)
          ∙ ap (λ (k : ℕ). placed k n.one.0 ∷ keys_left partitioner token (length header) content (suc index)) (sym place_is)
          ∙ ap (λ (l : List PlacedKey). placed place n.one.0 ∷ l) (keys_same partitioner token (length header) content (suc index) passed left.1);
    }
  where
    placed : ℕ → Bytes → PlacedKey
    placed k key = record { place = k; key = key }

-- ---- in a data file of a content

-- The keys of the partitions before an index with the token were gathered: this is the pair there, and no pair from it on has a lower
-- token. The reads so far and those that are left are no more than so many.
pub record Gathers (partitioner : Partitioner) (content : Content) (token turns passed : ℕ) (next : Option Pair) (keys : List PlacedKey) (reads most : ℕ) : Type 0 where
  pub index : ℕ
  pub far : turns ≤ index
  pub takes : StepsToPair (key_pairs partitioner content) index passed next
  pub above : (other : ℕ) → index ≤ other → other < length content → token ≤ (pair_at (key_pairs partitioner content) other).token
  pub gathered : keys_at partitioner token (length header) content ≡ keys ++ keys_left partitioner token (length header) content index
  pub costs : reads + left_cost partitioner token (length header) content index ≤ most

-- where it stands after the first pair at or after the token
pub gathers_first : {T : Type 0} (v w : View) (opened : OpenDataFile) (tree : PairScan) (token : ℕ) (passed : ℕ) (next : Option Pair)
    (result : Result T ReadFault) → tree ≡ begun opened → IsShort v opened.file → ReadsFirstPair v tree.buffered.file tree.tree token passed next
    → ((most : ℕ) → tree.tree.pairs ≤ most → ReadCost (2 * height most tree.tree.pairs + 2) v w result)
    → (most : ℕ) (partitioner : Partitioner) (content : Content) → opened.tree.pairs ≤ most → IsOpenOn v opened partitioner content → KeysAreBytes content
    → Gathers partitioner content token 0 passed next [] w.reads (v.reads + (2 * height most opened.tree.pairs + 2 + token_reads partitioner token (length header) content))
gathers_first v w opened tree token passed next result tree_is short gives causes most partitioner content le is have =
    let file_is : tree.buffered.file ≡ opened.file = ap (λ (t : PairScan). t.buffered.file) tree_is in
    let ref_is : tree.tree ≡ opened.tree = ap (λ (t : PairScan). t.tree) tree_is in
    let from = gives is.bytes (key_pairs partitioner content) (ap (λ (f : FileName). contents v f) file_is ∙ is.reads) (tree_there v opened tree.tree ref_is short partitioner content is have) in
    let first = (first_causes v w opened tree result tree_is causes most le).reads in
    let counts : CountsBelow (key_pairs partitioner content) token from.0 = from.1 in
    record {
      index = from.0;
      far = omega arith;
      takes = from.2;
      above = λ other ge lt. counts.above other ge (omega (arith, lt, pairs_length partitioner (length header) content));
      gathered = below_add_none partitioner token (length header) content from.0 counts.below;
      costs = omega (arith, first, left_less partitioner token (length header) content from.0);
    }

-- the partition to which the pair leads is there
pub key_stands : (partitioner : Partitioner) (content : Content) (token turns passed place reads most : ℕ) (next : Option Pair) (keys : List PlacedKey) →
    Gathers partitioner content token turns passed next keys reads most → LeadsTo token next (Some place) → (one : Bytes × Partition) × StandsAt content place one.0 one.1
key_stands partitioner content token turns passed place reads most next keys g leads =
    let here = next_key partitioner content token place g.index passed (steps_to_it partitioner content token place g.index passed next leads g.takes) in
    (here.one, here.stands)

-- what reading it costs
pub key_costs : (v w : View) (opened : OpenDataFile) (partitioner : Partitioner) (content : Content) (token turns passed place reads most now : ℕ) (next : Option Pair) (keys : List PlacedKey)
    → IsOpenOn v opened partitioner content → Changes Same v w → Gathers partitioner content token turns passed next keys reads most → LeadsTo token next (Some place)
    → ((key : Bytes) (part : Partition) → IsOpenOn w opened partitioner content → StandsAt content place key part → now ≤ reads + partition_pages place (length (body key part))) → now + 1 ≤ most
key_costs v w opened partitioner content token turns passed place reads most now next keys is change g leads bound =
    let here = is_here partitioner content token place g.index passed (steps_to_it partitioner content token place g.index passed next leads g.takes) in
    omega (arith, g.costs, here.cost_is, bound here.one.0 here.one.1 (open_same v w opened partitioner content change is) here.stands)

-- its key is gathered
pub gathers_on : (v w : View) (opened : OpenDataFile) (partitioner : Partitioner) (content : Content) (token turns passed place reads most after now : ℕ) (last next : Option Pair) (keys more : List PlacedKey)
    → IsOpenOn v opened partitioner content → Changes Same v w → Gathers partitioner content token turns passed last keys reads most → LeadsTo token last (Some place) → AddsKey w opened place keys more
    → ((key : Bytes) (part : Partition) → IsOpenOn w opened partitioner content → StandsAt content place key part → now ≤ reads + (partition_pages place (length (body key part)) + 1))
    → StepsToPair (key_pairs partitioner content) passed after next → Gathers partitioner content token (turns + 1) after next more now most
gathers_on v w opened partitioner content token turns passed place reads most after now last next keys more is change g leads adds bound takes =
    let steps = steps_to_it partitioner content token place g.index passed last leads g.takes in
    let here = is_here partitioner content token place g.index passed steps in
    let found = next_key partitioner content token place g.index passed steps in
    let now_open = open_same v w opened partitioner content change is in
    let key_is : found.one.0 ≡ adds.key = sym (adds.right partitioner content found.one.0 found.one.1 now_open found.stands) in
    let left = keys_left partitioner token (length header) content passed in
    record {
      index = passed;
      far = omega (arith, g.far, here.on);
      takes = takes;
      above = λ other le lt. g.above other (omega (arith, le, here.on)) lt;
      gathered =
          g.gathered ∙ ap (λ (l : List PlacedKey). keys ++ l) (found.next_is ∙ ap (λ (k : Bytes). placed k ∷ left) key_is)
          ∙ regroup keys (placed adds.key) left ∙ ap (λ (l : List PlacedKey). l ++ left) (sym adds.added);
      costs = omega (arith, g.costs, here.cost_is, bound here.one.0 here.one.1 now_open here.stands);
    }
  where
    placed : Bytes → PlacedKey
    placed k = record { place = place; key = k }

    regroup : (a : List PlacedKey) (x : PlacedKey) (b : List PlacedKey) → a ++ x ∷ b ≡ (a ++ x ∷ []) ++ b
    regroup a x b = simp append_assoc

-- all are gathered where the next pair has another token
pub gathers_none : (v : View) (opened : OpenDataFile) (partitioner : Partitioner) (content : Content) (token turns passed : ℕ) (next : Option Pair) (keys : List PlacedKey) (reads most : ℕ)
    → IsOpenOn v opened partitioner content → Gathers partitioner content token turns passed next keys reads most → LeadsTo token next None → keys ≡ keys_at partitioner token (length header) content
gathers_none v opened partitioner content token turns passed next keys reads most is g other =
    sym (
    g.gathered ∙ ap (λ (l : List PlacedKey). keys ++ l) (above_add_none partitioner token (length header) content g.index (all_above v opened partitioner content token g.index passed next is g.takes g.above other))
    ∙ append-nil keys
    )

-- and where all pairs were passed
pub gathers_all : (partitioner : Partitioner) (content : Content) (token turns passed : ℕ) (next : Option Pair) (keys : List PlacedKey) (reads most : ℕ) →
    Gathers partitioner content token turns passed next keys reads most → length content ≤ turns → keys ≡ keys_at partitioner token (length header) content
gathers_all partitioner content token turns passed next keys reads most g le =
    let none : drop g.index content ≡ [] = drop_all g.index content (omega (arith, le, g.far)) in
    sym (
    g.gathered
    ∙ ap (λ (l : List PlacedKey). keys ++ l)
    (above_add_none partitioner token (length header) content g.index (subst (λ (l : Content). AllByRecursion (λ one. token < token_of partitioner one.0) l) (sym none) tt))
    ∙ append-nil keys
    )

-- ---- in any file

-- the scan of the key tree has come to the pair with this index
abbrev pub ComesTo : OpenDataFile → ℕ → ℕ → Option Pair → Type 0
ComesTo opened index passed None = opened.tree.pairs ≤ index
ComesTo opened index passed (Some pair) = passed ≡ index + 1

-- the keys are those of the pairs from the first one that isn't below the token up to the one that was read last
pub record GathersStored (v : View) (opened : OpenDataFile) (token turns passed : ℕ) (next : Option Pair) (keys : List PlacedKey) : Type 0 where
  pub first : ℕ
  pub begins : BeginsToken v opened token first
  pub below : (bytes : Bytes) (pairs : List Pair) → contents v opened.file ≡ Some bytes → HasTree bytes opened.tree pairs → CountsBelow pairs token first
  pub lead : LeadToKeys v opened token first keys
  pub turn : turns ≤ length keys
  pub comes : ComesTo opened (first + length keys) passed next

pub stored_first : (v : View) (opened : OpenDataFile) (file : FileName) (tree : TreeRef) (token passed : ℕ) (next : Option Pair) → file ≡ opened.file → tree ≡ opened.tree
    → StepsBehindCounted v file tree token passed next → ReadsFirstPair v file tree token passed next → (IsSome next → passed ≤ tree.pairs) → GathersStored v opened token 0 passed next []
stored_first v opened file tree token passed None file_is tree_is steps gives within = record {
  first = passed;
  begins = λ bytes is. subst (λ (t : TreeRef). (t.pairs ≡ 0) ⊎ CountsDown bytes token 0 (start t) t.pairs passed) tree_is (steps.1 bytes (ap (λ (f : FileName). contents v f) file_is ∙ is));
  below = λ bytes pairs is has.
      (let from = gives bytes pairs (ap (λ (f : FileName). contents v f) file_is ∙ is) (subst (λ (t : TreeRef). HasTree bytes t pairs) (sym tree_is) has) in
      subst (λ (n : ℕ). CountsBelow pairs token n) (sym from.2.1) from.1);
  lead = tt;
  turn = omega arith;
  comes = omega (arith, steps.0, ap (λ (t : TreeRef). t.pairs) tree_is);
}
stored_first v opened file tree token passed (Some pair) file_is tree_is steps gives within = record {
  first = steps.0;
  begins = λ bytes is. inr (subst (λ (t : TreeRef). CountsDown bytes token 0 (start t) t.pairs steps.0) tree_is (steps.2 bytes (ap (λ (f : FileName). contents v f) file_is ∙ is)));
  below = λ bytes pairs is has.
      (let tree_has = subst (λ (t : TreeRef). HasTree bytes t pairs) (sym tree_is) has in
      let from = gives bytes pairs (ap (λ (f : FileName). contents v f) file_is ∙ is) tree_has in
      let left = left_of pairs from.0 passed pair from.2 in
      let same : from.0 ≡ steps.0 = omega (arith, left.0, left.1, within refl, count_is bytes tree pairs tree_has, steps.1) in
      subst (λ (n : ℕ). CountsBelow pairs token n) same from.1);
  lead = tt;
  turn = omega arith;
  comes = omega (arith, steps.1);
}

lead_on : (v : View) (opened : OpenDataFile) (token first : ℕ) (keys : List PlacedKey) (placed : PlacedKey) → LeadToKeys v opened token first keys → LeadsToKey v opened token (first + length keys) placed
    → LeadToKeys v opened token first (keys ++ placed ∷ [])
lead_on v opened token first [] placed lead one = (subst (λ (n : ℕ). LeadsToKey v opened token n placed) (omega arith) one, tt)
lead_on v opened token first (key ∷ keys) placed lead one = (
  lead.0,
  lead_on v opened token (suc first) keys placed lead.1 (subst (λ (n : ℕ). LeadsToKey v opened token n placed) (omega arith) one),
)

comes_on : (opened : OpenDataFile) (scan after : PairScan) (before now : ℕ) (next : Option Pair) → scan.tree ≡ opened.tree → scan.passed ≡ before + 1 → now ≡ before + 1 → PassesOne scan after next
    → ComesTo opened now after.passed next
comes_on opened scan after before now None tree_is comes one steps = omega (arith, steps.0, ap (λ (t : TreeRef). t.pairs) tree_is, comes, one)
comes_on opened scan after before now (Some pair) tree_is comes one steps = omega (arith, steps.1, comes, one)

-- the pair leads to the key that is added
added_key : (v w : View) (opened : OpenDataFile) (token place index passed : ℕ) (last : Option Pair) (keys more : List PlacedKey) (adds : AddsKey w opened place keys more) → Changes Same v w → passed ≡ index + 1
    → LeadsTo token last (Some place) → ReadsEntry v opened.file opened.tree passed last → ReadsHeader v opened.file opened.tree passed last → IsPartitionOffset opened.end place
    → LeadsToKey v opened token index (record { place = place; key = adds.key })
unfolding leads_there
added_key v w opened token place index passed last keys more adds change comes leads entry header offset =
    let pair : Pair = record { token = token; place = place } in
    let read = subst (λ (o : Option Pair). ReadsEntry v opened.file opened.tree passed o) leads entry in
    let behind = subst (λ (o : Option Pair). ReadsHeader v opened.file opened.tree passed o) leads header in
    record { part = adds.part; leads = leads_there v w opened index passed pair adds.key adds.part comes read behind change offset adds.stored; at = refl }

pub stored_on : (v w : View) (opened : OpenDataFile) (token turns place : ℕ) (scan after : PairScan) (last next : Option Pair) (keys more : List PlacedKey) → Changes Same v w
    → GathersStored v opened token turns scan.passed last keys → LeadsTo token last (Some place) → ReadsEntry v opened.file opened.tree scan.passed last → ReadsHeader v opened.file opened.tree scan.passed last
    → IsPartitionOffset opened.end place → AddsKey w opened place keys more → scan.tree ≡ opened.tree → PassesOne scan after next → GathersStored v opened token (turns + 1) after.passed next more
stored_on v w opened token turns place scan after last next keys more change g leads entry header offset adds tree_is steps =
    let index = g.first + length keys in
    let placed : PlacedKey = record { place = place; key = adds.key } in
    let comes : scan.passed ≡ index + 1 = subst (λ (o : Option Pair). ComesTo opened index scan.passed o) leads g.comes in
    let longer : length more ≡ length keys + 1 = ap (λ (l : List PlacedKey). length l) adds.added ∙ length-append keys (placed ∷ []) in
    let one = added_key v w opened token place index scan.passed last keys more adds change comes leads entry header offset in
    record {
      first = g.first;
      begins = g.begins;
      below = g.below;
      lead = subst (λ (l : List PlacedKey). LeadToKeys v opened token g.first l) (sym adds.added) (lead_on v opened token g.first keys placed g.lead one);
      turn = omega (arith, g.turn, longer);
      comes = comes_on opened scan after index (g.first + length more) next tree_is comes (omega (arith, longer)) steps;
    }

-- it ends at a pair of another token
pub stored_none : (v : View) (opened : OpenDataFile) (token turns passed : ℕ) (next : Option Pair) (keys : List PlacedKey) → GathersStored v opened token turns passed next keys
    → ReadsEntry v opened.file opened.tree passed next → LeadsTo token next None → HasKeysOfToken v opened token keys
stored_none v opened token turns passed None keys g entry other = record { first = g.first; begins = g.begins; below = g.below; lead = g.lead; ends = inl g.comes }
stored_none v opened token turns passed (Some pair) keys g entry other =
    let index : entry.0 ≡ g.first + length keys = omega (arith, entry.1, g.comes) in
    record {
      first = g.first;
      begins = g.begins;
      below = g.below;
      lead = g.lead;
      ends = inr (pair, other pair refl, λ bytes is. subst (λ (n : ℕ). HasEntry bytes opened.tree n pair) index (entry.2 bytes is));
    }

-- or where all were passed
pub stored_all : (v : View) (opened : OpenDataFile) (token turns passed : ℕ) (next : Option Pair) (keys : List PlacedKey) → GathersStored v opened token turns passed next keys → opened.tree.pairs ≤ turns
    → HasKeysOfToken v opened token keys
stored_all v opened token turns passed next keys g le = record { first = g.first; begins = g.begins; below = g.below; lead = g.lead; ends = inl (omega (arith, le, g.turn)) }
