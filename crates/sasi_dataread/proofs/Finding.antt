-- A key looked for among the partitions of a data file.
use Rattle.std.proofs.Common.{Ok, ◌≡◌, ◌≢◌, ◌⊎◌, ℕ, zero, suc, ◌+◌, ◌-◌, ◌*◌, ◌<◌, ◌≤◌, List, ◌∷◌, [], length, take, drop, map, refl, sym, ◌∙◌, ap, subst, arith, length-append, ⊎_elim, Option, Some, None, is_some, Bool, true, false, cond}
use Rattle.std.specs.Prelude.{nat_eq, if◌then◌else◌}
use Rattle.std.specs.declared.result.Result.{Result}
use Rattle.std.specs.List.{AllByRecursion}
use Rattle.std.specs.List.Sorted.{IsStrictlySortedBy}
use Rattle.std.specs.Cmp.Lexicographic.{same_text}
use Rattle.std.proofs.lemmas.Bool.{false_from_ne_true, eq-eqb}
use Rattle.std.proofs.lemmas.List.{drop_all, get_or-drop}
use Rattle.std.proofs.lemmas.Map.Entries.{lookup_head, lookup_tail}
use Rattle.sasi_host.specs.declared.name.FileName.{FileName}
use Rattle.sasi_host.specs.declared.fault.ReadFault.{ReadFault}
use Rattle.sasi_host.specs.declared.fault.ReadFault.TheVariants as fault
use Rattle.sasi_host.specs.Names.{Bytes}
use Rattle.sasi_host.specs.View.{View, ReadCost, contents}
use Rattle.sasi_host.specs.Disk.{Changes, Same}
use Rattle.sasi_types.specs.declared.partitioner.Partitioner.{Partitioner}
use Rattle.sasi_types.specs.declared.tree.Pair.{Pair}
use Rattle.sasi_types.specs.declared.tree.TreeRef.{TreeRef}
use Rattle.sasi_types.specs.Key.{key_eq}
use Rattle.sasi_types.specs.DecoratedKey.{decorated_cmp}
use Rattle.sasi_types.specs.Token.{token_of}
use Rattle.sasi_model.specs.Cells.{Partition}
use Rattle.sasi_body.specs.Body.{body}
use Rattle.sasi_tokentree.specs.Format.{pair_at}
use Rattle.sasi_tokentree.specs.Heights.{height}
use Rattle.sasi_tokentree.specs.Reads.{CountsBelow}
use Rattle.sasi_tokentree.specs.Scans.{ReadsEntry, ReadsFirstPair, IsEntryBuffered, StepsToPair, PairScan, entry_cost}
use Rattle.sasi_tokentree.proofs.EntryPages.{next_entry_cost}
use Rattle.sasi_datawrite.specs.Format.{Content, header, key_pairs, pairs_from, partition_bytes, partitions, decorated_key}
use Rattle.sasi_datawrite.proofs.Laws.{pairs_length}
use Rattle.sasi_dataread.specs.Opened.{OpenDataFile, StandsAt}
use Rattle.sasi_dataread.specs.Reads.{IsOpenOn, ReadsWithin, NoFalsePartitionDamage}
use Rattle.sasi_dataread.specs.Bodies.{partition_pages}
use Rattle.sasi_dataread.specs.Scans.{KeysAreBytes, NoFalseOpenedDamage}
use Rattle.sasi_dataread.specs.Finds.{partition_of, token_reads, LeadsTo, ReadsPartitionOfKey}
use Rattle.sasi_dataread.proofs.Pairs.{nth, nth_stands, as_many_left, left_behind, none_left, less_token}
use Rattle.sasi_host.proofs.CauseLaws.{reads_within}
use Rattle.sasi_dataread.proofs.ReadChains.{passes_none, passes_on}
use Rattle.sasi_dataread.proofs.DataScan.{IsShort, open_same, tree_there}

-- ---- keys and tokens

-- keys of different tokens differ
key_differs : (partitioner : Partitioner) (key other : Bytes) → token_of partitioner key ≢ token_of partitioner other → key_eq key other ≡ false
key_differs partitioner key other differ = false_from_ne_true (key_eq key other) (λ is. differ (ap (λ (b : Bytes). token_of partitioner b) (same_text key other (sym is))))

-- where the first partition doesn't have the key, the others tell
on_others : (key : Bytes) (one : Bytes × Partition) (others : Content) → None ≡ partition_of (one ∷ []) key → partition_of (one ∷ others) key ≡ partition_of others key
on_others key one others none = by (key_eq key one.0) refl none
  where
    by : (is : Bool) → key_eq key one.0 ≡ is → None ≡ cond is (Some one.1) None → partition_of (one ∷ others) key ≡ partition_of others key
    by true eq given = absurd (cc)
    by false eq given = lookup_tail (key_eq key) one others eq

-- where it does, it tells
on_first : (key : Bytes) (one : Bytes × Partition) (others : Content) (found : Option Partition) → is_some found ≡ true → found ≡ partition_of (one ∷ []) key → partition_of (one ∷ others) key ≡ found
on_first key one others found some is = by (key_eq key one.0) refl is
  where
    by : (b : Bool) → key_eq key one.0 ≡ b → found ≡ cond b (Some one.1) None → partition_of (one ∷ others) key ≡ found
    by true eq given = lookup_head (key_eq key) one others eq ∙ sym given
    by false eq given = absurd (cc)

-- a partition that was read doesn't have the key, or does
pub read_other : (key other k : Bytes) (p : Partition) → key_eq key other ≡ false → other ≡ k → None ≡ partition_of ((k, p) ∷ []) key
read_other key other k p differs same = sym (lookup_tail (key_eq key) (k, p) [] (ap (λ (b : Bytes). key_eq key b) (sym same) ∙ differs))

pub read_same : (key other k : Bytes) (part p : Partition) → key_eq key other ≡ true → other ≡ k → part ≡ p → Some part ≡ partition_of ((k, p) ∷ []) key
read_same key other k part p equals same part_is = ap (λ (q : Partition). Some q) part_is ∙ sym (lookup_head (key_eq key) (k, p) [] (ap (λ (b : Bytes). key_eq key b) (sym same) ∙ equals))

-- partitions of lower tokens don't have the key
below_passed : (partitioner : Partitioner) (key : Bytes) (at : ℕ) (content : Content) (count : ℕ) →
    ((index : ℕ) → index < count → (pair_at (pairs_from partitioner at content) index).token < token_of partitioner key) → partition_of content key ≡
    partition_of (drop count content) key
below_passed partitioner key at content zero below = refl
below_passed partitioner key at [] (suc count) below = refl
below_passed partitioner key at (one ∷ others) (suc count) below =
    lookup_tail (key_eq key) one others (key_differs partitioner key one.0 (λ same. absurd (omega (arith, same, below 0 (omega arith)))))
    ∙ below_passed partitioner key (at + length (partition_bytes one.0 one.1)) others count (λ index lt. below (suc index) (omega (arith, lt)))

-- nor do those of higher ones
above_none : (partitioner : Partitioner) (key : Bytes) (content : Content) → AllByRecursion (λ one. token_of partitioner key < token_of partitioner one.0) content → partition_of content key ≡ None
above_none partitioner key [] all = refl
above_none partitioner key (one ∷ others) all = lookup_tail (key_eq key) one others
    (key_differs partitioner key one.0 (λ same. absurd (omega (arith, same, all.0)))) ∙ above_none partitioner key others all.1

tokens_behind : (partitioner : Partitioner) (token : ℕ) (one : Bytes × Partition) (others : Content) → IsStrictlySortedBy decorated_cmp
    (map (decorated_key partitioner) (one ∷ others)) → token < token_of partitioner one.0 → AllByRecursion (λ o. token < token_of partitioner o.0)
    (one ∷ others)
unfolding IsStrictlySortedBy
tokens_behind partitioner token one [] sorted less = (less, tt)
tokens_behind partitioner token one (two ∷ others) sorted less = (
  less,
  tokens_behind partitioner token two others sorted.1
      (omega (arith, less, less_token (decorated_key partitioner one) (decorated_key partitioner two) sorted.0.0)),
)

sorted_behind : (partitioner : Partitioner) (content : Content) (index : ℕ) → IsStrictlySortedBy decorated_cmp (map (decorated_key partitioner) content) →
    IsStrictlySortedBy decorated_cmp (map (decorated_key partitioner) (drop index content))
unfolding IsStrictlySortedBy
sorted_behind partitioner content zero sorted = sorted
sorted_behind partitioner [] (suc index) sorted = sorted
sorted_behind partitioner (one ∷ others) (suc index) sorted = sorted_behind partitioner others index sorted.1

-- ---- what the partitions from an index on cost

abbrev pub left_cost : Partitioner → ℕ → ℕ → Content → ℕ → ℕ
left_cost partitioner token at content zero = token_reads partitioner token at content
left_cost partitioner token at [] (suc index) = 0
left_cost partitioner token at (one ∷ others) (suc index) = left_cost partitioner token (at + length (partition_bytes one.0 one.1)) others index

pub left_less : (partitioner : Partitioner) (token at : ℕ) (content : Content) (index : ℕ) → left_cost partitioner token at content index ≤ token_reads partitioner token at content
left_less partitioner token at content zero = omega arith
left_less partitioner token at [] (suc index) = omega arith
left_less partitioner token at (one ∷ others) (suc index) = omega (arith, left_less partitioner token (at + length (partition_bytes one.0 one.1)) others index)

left_same : (partitioner : Partitioner) (token at : ℕ) (content : Content) (n m : ℕ) → length content - n ≡ length content - m → left_cost partitioner
    token at content n ≡ left_cost partitioner token at content m
left_same partitioner token at [] zero zero is = refl
left_same partitioner token at [] zero (suc m) is = refl
left_same partitioner token at [] (suc n) zero is = refl
left_same partitioner token at [] (suc n) (suc m) is = refl
left_same partitioner token at (one ∷ others) zero zero is = refl
left_same partitioner token at (one ∷ others) zero (suc m) is = absurd (omega (arith, is))
left_same partitioner token at (one ∷ others) (suc n) zero is = absurd (omega (arith, is))
left_same partitioner token at (one ∷ others) (suc n) (suc m) is = left_same partitioner token (at + length (partition_bytes one.0 one.1)) others n m (omega (arith, is))

-- one with the token
left_one : (partitioner : Partitioner) (token at : ℕ) (content : Content) (index : ℕ) (one : Bytes × Partition) (rest : Content) → drop index content ≡ one ∷ rest → token_of partitioner one.0 ≡ token
    → left_cost partitioner token at content index ≡ partition_pages (at + length (partitions (take index content))) (length (body one.0 one.1)) + 1 + left_cost partitioner token at content (suc index)
left_one partitioner token at [] zero one rest is same = absurd (cc)
left_one partitioner token at [] (suc index) one rest is same = absurd (cc)
left_one partitioner token at (first ∷ others) zero one rest is same =
    let this : first ≡ one = cc in
    let eq : nat_eq (token_of partitioner first.0) token ≡ true = eq-eqb (token_of partitioner first.0) token (ap (λ (o : Bytes × Partition). token_of partitioner o.0) this ∙ same) in
    let place : at + length (partitions (take 0 (first ∷ others))) ≡ at = omega arith in
    ap (λ (b : Bool). (if b then partition_pages at (length (body first.0 first.1)) + 1 else 0) + behind) eq
    ∙ ap (λ (o : Bytes × Partition). partition_pages at (length (body o.0 o.1)) + 1 + behind) this
    ∙ ap (λ (n : ℕ). partition_pages n (length (body one.0 one.1)) + 1 + behind) (sym place)
  where
    behind : ℕ
    behind = token_reads partitioner token (at + length (partition_bytes first.0 first.1)) others
left_one partitioner token at (first ∷ others) (suc index) one rest is same =
    left_one partitioner token (at + length (partition_bytes first.0 first.1)) others index one rest is same
    ∙ ap (λ (n : ℕ). partition_pages n (length (body one.0 one.1)) + 1 + left_cost partitioner token (at + length (partition_bytes first.0 first.1)) others
    (suc index)) (omega (arith, length-append (partition_bytes first.0 first.1) (partitions (take index others))))

-- ---- a search

-- The search has come to an index: this is the pair there. None of the partitions before it has the key, and no pair from
-- it on has a lower token. The reads so far and those that are left are no more than so many.
pub record Searches (partitioner : Partitioner) (content : Content) (token : ℕ) (key : Bytes) (turns passed : ℕ) (next : Option Pair) (reads most : ℕ) : Type 0 where
  pub index : ℕ
  pub far : turns ≤ index
  pub takes : StepsToPair (key_pairs partitioner content) index passed next
  pub above : (other : ℕ) → index ≤ other → other < length content → token ≤ (pair_at (key_pairs partitioner content) other).token
  pub same : token ≡ token_of partitioner key → partition_of content key ≡ partition_of (drop index content) key
  pub costs : reads + left_cost partitioner token (length header) content index ≤ most

pub begins : (partitioner : Partitioner) (content : Content) (token : ℕ) (key : Bytes) (passed : ℕ) (next : Option Pair) (reads most : ℕ) (count : ℕ)
    → CountsBelow (key_pairs partitioner content) token count → StepsToPair (key_pairs partitioner content) count passed next
    → reads + token_reads partitioner token (length header) content ≤ most → Searches partitioner content token key 0 passed next reads most
begins partitioner content token key passed next reads most count counts takes costs = record {
  index = count;
  far = omega arith;
  takes = takes;
  above = λ other le lt. counts.above other le (omega (arith, lt, pairs_length partitioner (length header) content));
  same = λ is. below_passed partitioner key (length header) content count (λ index lt. omega (arith, is, counts.below index lt));
  costs = omega (arith, costs, left_less partitioner token (length header) content count);
}

-- the tree before its first pair
abbrev pub begun : OpenDataFile → PairScan
begun opened = record { buffered = record { file = opened.file; page = None; bytes = [] }; tree = opened.tree; passed = 0; last = None }

pub first_causes : {T : Type 0} (v w : View) (opened : OpenDataFile) (tree : PairScan) (result : Result T ReadFault) → tree ≡ begun opened →
    ((most : ℕ) → tree.tree.pairs ≤ most → ReadCost (2 * height most tree.tree.pairs + 2) v w result)
    → (most : ℕ) → opened.tree.pairs ≤ most → ReadCost (2 * height most opened.tree.pairs + 2) v w result
first_causes v w opened tree result tree_is causes = subst (λ (t : TreeRef). (most : ℕ) → t.pairs ≤ most → ReadCost (2 * height most t.pairs + 2) v
    w result) (ap (λ (t : PairScan). t.tree) tree_is) causes

-- where it stands after the first pair at or after the token
pub starts : {T : Type 0} (v w : View) (opened : OpenDataFile) (tree : PairScan) (token : ℕ) (key : Bytes) (passed : ℕ) (next : Option Pair)
    (result : Result T ReadFault) → tree ≡ begun opened → IsShort v opened.file → ReadsFirstPair v tree.buffered.file tree.tree token passed next
    → ((most : ℕ) → tree.tree.pairs ≤ most → ReadCost (2 * height most tree.tree.pairs + 2) v w result)
    → (most : ℕ) (partitioner : Partitioner) (content : Content) → opened.tree.pairs ≤ most → IsOpenOn v opened partitioner content → KeysAreBytes content
    → Searches partitioner content token key 0 passed next w.reads (v.reads + (2 * height most opened.tree.pairs + 2 + token_reads partitioner token (length header) content))
starts v w opened tree token key passed next result tree_is short gives causes most partitioner content le is have =
    let file_is : tree.buffered.file ≡ opened.file = ap (λ (t : PairScan). t.buffered.file) tree_is in
    let ref_is : tree.tree ≡ opened.tree = ap (λ (t : PairScan). t.tree) tree_is in
    let from = gives is.bytes (key_pairs partitioner content) (ap (λ (f : FileName). contents v f) file_is ∙ is.reads) (tree_there v opened tree.tree ref_is short partitioner content is have) in
    let first = (first_causes v w opened tree result tree_is causes most le).reads in
    begins partitioner content token key passed next w.reads (v.reads +
    (2 * height most opened.tree.pairs + 2 + token_reads partitioner token (length header) content)) from.0 from.1 from.2 (omega (arith, first))

pub first_passes : {T : Type 0} (v w : View) (n m : ℕ) (x : T) → Changes Same v w → ReadCost n v w (Ok x) → n ≤ m → ReadsWithin m v w
first_passes v w n m x change causes le = passes_on v v w 0 n m x (passes_none v) causes change (omega (arith, le))

-- ---- the partition to which the pair leads

pub record IsHere (partitioner : Partitioner) (content : Content) (token place index passed : ℕ) : Type 0 where
  pub one : Bytes × Partition
  pub stands : StandsAt content place one.0 one.1
  pub left : drop index content ≡ one ∷ drop passed content
  pub cost_is : left_cost partitioner token (length header) content index ≡ partition_pages place (length (body one.0 one.1)) + 1 + left_cost partitioner token (length header) content passed
  pub on : suc index ≤ passed

pub is_here : (partitioner : Partitioner) (content : Content) (token place index passed : ℕ) → StepsToPair (key_pairs partitioner content) index passed
    (Some (record { token = token; place = place })) → IsHere partitioner content token place index passed
is_here partitioner content token place index passed takes =
    let pair : Pair = record { token = token; place = place } in
    let n = nth partitioner (length header) content index pair (drop passed (key_pairs partitioner content)) takes in
    let left = as_many_left partitioner content index passed pair takes in
    let token_is : token ≡ token_of partitioner n.one.0 = ap (λ (p : Pair). p.token) n.pair_is in
    let place_is : place ≡ length header + length (partitions (take index content)) = ap (λ (p : Pair). p.place) n.pair_is in
    record {
      one = n.one;
      stands = nth_stands partitioner content index pair n;
      left = n.left ∙ ap (λ (l : Content). n.one ∷ l) (left_behind partitioner content index passed pair takes);
      cost_is =
          left_one partitioner token (length header) content index n.one (drop (suc index) content) n.left (sym token_is)
          ∙ ap (λ (k : ℕ). partition_pages k (length (body n.one.0 n.one.1)) + 1 + left_cost partitioner token (length header) content (suc index)) (sym place_is)
          ∙ ap (λ (k : ℕ). partition_pages place (length (body n.one.0 n.one.1)) + 1 + k) (left_same partitioner token (length header) content (suc index) passed left.1);
      on = omega (arith, left.0, left.1);
    }

pub steps_to_it : (partitioner : Partitioner) (content : Content) (token place index passed : ℕ) (next : Option Pair) → LeadsTo token next (Some place) →
    StepsToPair (key_pairs partitioner content) index passed next → StepsToPair (key_pairs partitioner content) index passed
    (Some (record { token = token; place = place }))
steps_to_it partitioner content token place index passed next leads takes = subst (λ (o : Option Pair). StepsToPair (key_pairs partitioner content) index passed o) leads takes

is_none : (found : Option Partition) → is_some found ≡ false → None ≡ found
is_none None none = refl
is_none (Some part) none = absurd (cc)

-- it is there
pub stands_here : (partitioner : Partitioner) (content : Content) (token : ℕ) (key : Bytes) (turns passed place reads most : ℕ) (next : Option Pair) →
    Searches partitioner content token key turns passed next reads most → LeadsTo token next (Some place) → (one : Bytes × Partition) × StandsAt
    content place one.0 one.1
stands_here partitioner content token key turns passed place reads most next s leads =
    let here = is_here partitioner content token place s.index passed (steps_to_it partitioner content token place s.index passed next leads s.takes) in
    (here.one, here.stands)

-- what reading it costs
pub here_costs : (v w : View) (opened : OpenDataFile) (partitioner : Partitioner) (content : Content) (token : ℕ) (key : Bytes)
    (turns passed place reads most now : ℕ) (next : Option Pair) → IsOpenOn v opened partitioner content → Changes Same v w
    → Searches partitioner content token key turns passed next reads most → LeadsTo token next (Some place)
    → ((key : Bytes) (part : Partition) → IsOpenOn w opened partitioner content → StandsAt content place key part → now ≤ reads + partition_pages place (length (body key part))) → now + 1 ≤ most
here_costs v w opened partitioner content token key turns passed place reads most now next is change s leads bound =
    let here = is_here partitioner content token place s.index passed (steps_to_it partitioner content token place s.index passed next leads s.takes) in
    omega (arith, s.costs, here.cost_is, bound here.one.0 here.one.1 (open_same v w opened partitioner content change is) here.stands)

-- it has the key
pub found_here : (v w : View) (opened : OpenDataFile) (partitioner : Partitioner) (content : Content) (token : ℕ) (key : Bytes)
    (turns passed place reads most : ℕ) (next : Option Pair) (found : Option Partition) → IsOpenOn v opened partitioner content → Changes Same v w
    → Searches partitioner content token key turns passed next reads most → LeadsTo token next (Some place) → ReadsPartitionOfKey w opened place key found →
    is_some found ≡ true → token ≡ token_of partitioner key → found ≡ partition_of content key
found_here v w opened partitioner content token key turns passed place reads most next found is change s leads gives some same =
    let here = is_here partitioner content token place s.index passed (steps_to_it partitioner content token place s.index passed next leads s.takes) in
    let given = gives partitioner content here.one.0 here.one.1 (open_same v w opened partitioner content change is) here.stands in
    sym (s.same same ∙ ap (λ (l : Content). partition_of l key) here.left ∙ on_first key here.one (drop passed content) found some given)

-- it hasn't
pub searches_on : (v w : View) (opened : OpenDataFile) (partitioner : Partitioner) (content : Content) (token : ℕ) (key : Bytes)
    (turns passed place reads most after now : ℕ) (last next : Option Pair) (found : Option Partition) → IsOpenOn v opened partitioner content →
    Changes Same v w
    → Searches partitioner content token key turns passed last reads most → LeadsTo token last (Some place) → ReadsPartitionOfKey w opened place key found → is_some found ≡ false
    → ((key : Bytes) (part : Partition) → IsOpenOn w opened partitioner content → StandsAt content place key part → now ≤ reads +
    (partition_pages place (length (body key part)) + 1)) → StepsToPair (key_pairs partitioner content) passed after next
    → Searches partitioner content token key (turns + 1) after next now most
searches_on v w opened partitioner content token key turns passed place reads most after now last next found is change s leads gives none bound takes =
    let here = is_here partitioner content token place s.index passed (steps_to_it partitioner content token place s.index passed last leads s.takes) in
    let now_open = open_same v w opened partitioner content change is in
    record {
      index = passed;
      far = omega (arith, s.far, here.on);
      takes = takes;
      above = λ other le lt. s.above other (omega (arith, le, here.on)) lt;
      same = λ same. s.same same ∙ ap (λ (l : Content). partition_of l key) here.left ∙ on_others key here.one (drop passed content)
          (is_none found none ∙ gives partitioner content here.one.0 here.one.1 now_open here.stands);
      costs = omega (arith, s.costs, here.cost_is, bound here.one.0 here.one.1 now_open here.stands);
    }

-- the pair behind one that was found takes at most one page more
pub one_more : {T : Type 0} (view a b : View) (file : FileName) (ref : TreeRef) (tree : PairScan) (token place : ℕ) (next : Option Pair)
    (result : Result T ReadFault) → LeadsTo token next (Some place) → ReadsEntry view file ref tree.passed next → IsEntryBuffered tree next
    → ReadCost (entry_cost tree.buffered.page tree.tree tree.passed) a b result → ReadCost 1 a b result
one_more view a b file ref tree token place next result leads gives entry_buffered causes =
    let pair : Pair = record { token = token; place = place } in
    let entry = subst (λ (o : Option Pair). ReadsEntry view file ref tree.passed o) leads gives in
    reads_within a b (entry_cost tree.buffered.page tree.tree tree.passed) 1 result
    (next_entry_cost tree pair (omega (arith, entry.1)) (subst (λ (o : Option Pair). IsEntryBuffered tree o) leads entry_buffered)) causes

-- ---- none is left

-- where the next pair has another token, the partitions that are left have higher ones
pub all_above : (v : View) (opened : OpenDataFile) (partitioner : Partitioner) (content : Content) (token index passed : ℕ) (next : Option Pair) → IsOpenOn v opened partitioner content → StepsToPair (key_pairs partitioner content) index passed next
    → ((other : ℕ) → index ≤ other → other < length content → token ≤ (pair_at (key_pairs partitioner content) other).token) → LeadsTo token next None
    → AllByRecursion (λ one. token < token_of partitioner one.0) (drop index content)
all_above v opened partitioner content token index passed None is takes above other =
    subst (λ (l : Content). AllByRecursion (λ one. token < token_of partitioner one.0) l) (sym (none_left partitioner content index takes.0)) tt
all_above v opened partitioner content token index passed (Some pair) is takes above other =
    let n = nth partitioner (length header) content index pair (drop passed (key_pairs partitioner content)) takes in
    let left = as_many_left partitioner content index passed pair takes in
    let here : pair_at (key_pairs partitioner content) (index + 0) ≡ pair = sym
    (get_or-drop index (key_pairs partitioner content) 0 (record { token = 0; place = 0 })) ∙ ap (λ (l : List Pair). pair_at l 0) takes in
    let at : pair_at (key_pairs partitioner content) index ≡ pair = ap (λ (k : ℕ). pair_at (key_pairs partitioner content) k) (omega arith) ∙ here in
    let token_is : pair.token ≡ token_of partitioner n.one.0 = ap (λ (p : Pair). p.token) n.pair_is in
    let least = above index (omega arith) left.0 in
    let less : token < pair.token = ⊎_elim (λ lt. lt) (λ eq. absurd (other pair refl (sym eq))) (below_or_same token pair.token (omega (arith, least, ap (λ (p : Pair). p.token) at))) in
    let sorted = subst (λ (l : Content). IsStrictlySortedBy decorated_cmp (map (decorated_key partitioner) l)) n.left (sorted_behind partitioner content index is.data_file.content_is.rising) in
    subst (λ (l : Content). AllByRecursion (λ one. token < token_of partitioner one.0) l) (sym n.left)
    (tokens_behind partitioner token n.one (drop (suc index) content) sorted (omega (arith, less, token_is)))
  where
    below_or_same : (m n : ℕ) → m ≤ n → (m < n) ⊎ (m ≡ n)
    below_or_same m n le = grind arith

pub none_here : (v : View) (opened : OpenDataFile) (partitioner : Partitioner) (content : Content) (token : ℕ) (key : Bytes) (turns passed : ℕ)
    (next : Option Pair) (reads most : ℕ) → IsOpenOn v opened partitioner content → Searches partitioner content token key turns passed next reads
    most
    → LeadsTo token next None → token ≡ token_of partitioner key → None ≡ partition_of content key
none_here v opened partitioner content token key turns passed next reads most is s other same =
    let above = all_above v opened partitioner content token s.index passed next is s.takes s.above other in
    sym (s.same same ∙ above_none partitioner key (drop s.index content) (subst (λ (t : ℕ). AllByRecursion (λ one. t < token_of partitioner one.0) (drop s.index content)) same above))

pub all_passed : (partitioner : Partitioner) (content : Content) (token : ℕ) (key : Bytes) (turns passed : ℕ) (next : Option Pair) (reads most : ℕ) →
    Searches partitioner content token key turns passed next reads most → length content ≤ turns → token ≡ token_of partitioner key → None ≡
    partition_of content key
all_passed partitioner content token key turns passed next reads most s le same = sym (s.same same ∙ ap (λ (l : Content). partition_of l key) (drop_all s.index content (omega (arith, le, s.far))))

-- ---- damage

pub no_false_here : (v w : View) (opened : OpenDataFile) (place : ℕ) (f : ReadFault) →
    ((partitioner : Partitioner) (content : Content) → IsOpenOn v opened partitioner content → KeysAreBytes content →
    (one : Bytes × Partition) × StandsAt content place one.0 one.1)
    → Changes Same v w → NoFalsePartitionDamage w opened place f → NoFalseOpenedDamage v opened f
no_false_here v w opened place fault.Failed stands change no_false_damage = tt
no_false_here v w opened place fault.OutOfMemory stands change no_false_damage = tt
no_false_here v w opened place (fault.Damaged damage) stands change no_false_damage = λ partitioner content is have.
    let at = stands partitioner content is have in
    no_false_damage partitioner content at.0.0 at.0.1 (open_same v w opened partitioner content change is) at.1

pub no_false_before : (v w : View) (opened : OpenDataFile) (f : ReadFault) → Changes Same v w → NoFalseOpenedDamage w opened f → NoFalseOpenedDamage v opened f
no_false_before v w opened fault.Failed change no_false_damage = tt
no_false_before v w opened fault.OutOfMemory change no_false_damage = tt
no_false_before v w opened (fault.Damaged damage) change no_false_damage = λ partitioner content is. no_false_damage partitioner content (open_same v w opened partitioner content change is)
