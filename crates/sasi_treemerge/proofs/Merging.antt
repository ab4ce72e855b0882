-- What a merge gives, step by step.
use Rattle.std.specs.Prelude.{◌≡◌, ℕ, zero, suc, ◌+◌, ◌*◌, ◌<◌, ◌≤◌, ◌⊎◌, true, false, List, [], ◌∷◌, ◌++◌, length, drop, get_or, All, Contains, Option, None, Some, IfSome, IsSome, refl}
use Rattle.std.proofs.Common.{◌∙◌, sym, ap, subst, arith, inl, inr, ⊎_elim}
use Rattle.std.specs.List.Sorted.{IsPermutation}
use Rattle.std.specs.Option.{option_to_list}
use Rattle.std.specs.Ordering.{is_lt}
use Rattle.std.specs.BinaryHeap.{IsHeap, KeepsHeap}
use Rattle.std.proofs.lemmas.List.Elements.{All-append, All-cons, All-contains, All-contains_itself, All-from_recursion, All-head, All-nil, All-tail, All-weaker, Contains-append_right}
use Rattle.std.proofs.lemmas.List.Sorted.{All-permutation, Contains-permutation, IsPermutation-sym, sum_by-IsPermutation, sum_by_popped, sum_by_pushed}
use Rattle.sasi_types.specs.declared.tree.Pair.{Pair}
use Rattle.sasi_types.specs.declared.tree.TreeRef.{TreeRef}
use Rattle.sasi_host.specs.declared.name.FileName.{FileName}
use Rattle.sasi_host.specs.Names.{Bytes}
use Rattle.sasi_host.specs.View.{View, contents}
use Rattle.sasi_host.proofs.ContentLaws.{contents_same}
use Rattle.sasi_host.specs.Disk.{Changes, Same}
use Rattle.sasi_host.specs.Buffered.{IsBuffered}
use Rattle.sasi_host.proofs.BufferedLaws.{buffered_after}
use Rattle.sasi_host.specs.declared.fault.ReadFault.{ReadFault}
use Rattle.sasi_host.specs.declared.fault.ReadFault.TheVariants as fault
use Rattle.sasi_host.specs.Damages.{DamageShown}
use Rattle.sasi_host.proofs.DamageLaws.{shown_as, shown_before}
use Rattle.sasi_tokentree.proofs.AfterRead.{reads_still}
use Rattle.sasi_treemerge.specs.MergeDamages.{NoFalseDamageOf, NoFalseSourceDamage, ShowsSources}
use Rattle.sasi_tokentree.specs.Damages.{ShowsPairs}
use Rattle.std.proofs.lemmas.Bool.Decides.{leb_tells}
use Rattle.sasi_tokentree.specs.Format.{HasTree}
use Rattle.sasi_tokentree.specs.Scans.{HasEntry, HasPassed, PairScan, PassesOne, ReadsNextPair, StepsToPair}
use Rattle.sasi_treemerge.specs.declared.merge.TreeMerge.{TreeMerge}
use Rattle.sasi_treemerge.specs.declared.held_pair.HeldPair.{HeldPair}
use Rattle.sasi_treemerge.specs.declared.tree_source.TreeSource.{TreeSource}
use Rattle.sasi_treemerge.specs.Held.{held_cmp}
use Rattle.sasi_treemerge.specs.Sources.{is_before, source_cmp}
use Rattle.sasi_treemerge.specs.Merges.{AdvancesTo, CanMerge, IsAtHead, IsPairOf, IsRead, IsReadable, IsSourceIn, IsSourceOf, IsStillGiven, IsStillRead, ReadsEach, StepsBy, TreesStay, held_of, is_left, left_in, left_of, sources_of, unread_in, unread_of}
use Rattle.sasi_treemerge.proofs.PairOrder.{first_least, not_before_on}

-- ---- lists

pub contains_first : {X : Type 0} (x : X) (xs : List X) → Contains (x ∷ xs) x
contains_first x xs = (0, omega arith, refl)

pub contains_later : {X : Type 0} (x y : X) (xs : List X) → Contains xs y → Contains (x ∷ xs) y
contains_later x y xs has = (suc has.0, omega (arith, has.1), has.2)

pub contains_cases : {X : Type 0} (x y : X) (xs : List X) → Contains (x ∷ xs) y → (x ≡ y) ⊎ Contains xs y
contains_cases {X = X} x y xs has = from has.0 has.1 has.2
  where
    from : (k : ℕ) → k < length (x ∷ xs) → get_or (x ∷ xs) k y ≡ y → (x ≡ y) ⊎ Contains xs y
    from zero lt is = inl is
    from (suc k) lt is = inr (k, omega (arith, lt), is)

pub contains_none : {X : Type 0} (xs : List X) (y : X) → xs ≡ [] → Contains xs y → ⊥
contains_none xs y none has = omega (arith, has.1, ap length none)

-- ---- one step

differ : true ≡ false → ⊥
differ e = cc

module _ (v : View) (file : FileName) (bytes : Bytes) (lists : List (List Pair)) (old new : List TreeSource) (head : Pair) (steps : StepsBy v head old new)
    (named : All (λ (s : TreeSource). s.tree.value.buffered.file ≡ file) old) (reads : contents v file ≡ Some bytes) (each : All (IsSourceIn bytes lists) old) where
  source_there : Contains old steps.source
  source_there = Contains-permutation (steps.source ∷ steps.others) old steps.source (IsPermutation-sym old (steps.source ∷ steps.others) steps.taken) (contains_first steps.source steps.others)

  own : IsSourceIn bytes lists steps.source
  own = All-contains (IsSourceIn bytes lists) old steps.source each source_there

  own_reads : contents v steps.source.tree.value.buffered.file ≡ Some bytes
  own_reads = ap (λ (n : FileName). contents v n) (All-contains (λ (s : TreeSource). s.tree.value.buffered.file ≡ file) old steps.source named source_there) ∙ reads

  head_first : Contains own.pairs steps.source.head
  head_first =
      drop_has own.is.before own.pairs steps.source.head (subst (λ (l : List Pair). Contains l steps.source.head) (sym own.is.left) (contains_first steps.source.head (drop steps.source.tree.value.passed own.pairs)))
    where
      drop_has : (n : ℕ) (pairs : List Pair) (p : Pair) → Contains (drop n pairs) p → Contains pairs p
      drop_has zero pairs p has = has
      drop_has (suc n) [] p has = has
      drop_has (suc n) (x ∷ pairs) p has = contains_later x p pairs (drop_has n pairs p has)

  -- the head is one of the lists' pairs
  pub head_listed : IsPairOf lists head
  head_listed = record { pairs = own.pairs; listed = own.listed; has = subst (λ (p : Pair). Contains own.pairs p) (sym steps.head_is) head_first }

  -- no pair that a source still gives comes before it
  pub given_least : (pairs : List Pair) (pair : Pair) → IsStillGiven bytes pairs old pair → is_before pair head ≡ false
  given_least pairs pair still =
      let first = first_least pairs still.is.before still.source.tree.value.passed still.source.head pair still.is.tree.rising still.is.left still.gives in
      let bound = All-contains (λ (s : TreeSource). is_lt (source_cmp steps.source s) ≡ false) old still.source (All-from_recursion _ old steps.least) still.there in
      ap (λ (p : Pair). is_before pair p) steps.head_is ∙ not_before_on pair still.source.head steps.source.head first bound

  -- what the next source of the same list is
  next_is : (pairs : List Pair) (next : TreeSource) → IsSourceOf bytes pairs steps.source → AdvancesTo v steps.source.tree.value (Some next) → IsSourceOf bytes pairs next
  next_is pairs next is advances = record {
    tree = subst (λ (t : TreeRef). HasTree bytes t pairs) (sym advances.0) is.tree;
    before = steps.source.tree.value.passed;
    left = advances.3 bytes pairs own_reads is.tree;
  }

  others_each : All (IsSourceIn bytes lists) steps.others
  others_each = All-tail (IsSourceIn bytes lists) steps.source steps.others (All-permutation (IsSourceIn bytes lists) old (steps.source ∷ steps.others) steps.taken each)

  pub each_on : All (IsSourceIn bytes lists) new
  each_on = from steps.next steps.advances steps.put
    where
      from : (next : Option TreeSource) → AdvancesTo v steps.source.tree.value next → IsPermutation (option_to_list next ++ steps.others) new → All (IsSourceIn bytes lists) new
      from None advances put = All-permutation (IsSourceIn bytes lists) steps.others new put others_each
      from (Some next) advances put =
          All-permutation (IsSourceIn bytes lists) (next ∷ steps.others) new put
          (All-cons (IsSourceIn bytes lists) next steps.others (record { pairs = own.pairs; listed = own.listed; is = next_is own.pairs next own.is advances }) others_each)

  other_there : (s : TreeSource) → Contains steps.others s → Contains new s
  other_there s has = Contains-permutation (option_to_list steps.next ++ steps.others) new s steps.put (Contains-append_right (option_to_list steps.next) steps.others s has)

  -- a pair of the source, other than its head, is still given by the next one
  by_next : (pairs : List Pair) (pair : Pair) (next : Option TreeSource) → IsSourceOf bytes pairs steps.source → AdvancesTo v steps.source.tree.value next → IsPermutation (option_to_list next ++ steps.others) new
      → Contains (drop steps.source.tree.value.passed pairs) pair → IsStillGiven bytes pairs new pair
  by_next pairs pair None is advances put has = absurd (contains_none (drop steps.source.tree.value.passed pairs) pair (advances.1 bytes pairs own_reads is.tree) has)
  by_next pairs pair (Some next) is advances put has = record {
    source = next;
    there = Contains-permutation (next ∷ steps.others) new next put (contains_first next steps.others);
    is = next_is pairs next is advances;
    gives = subst (λ (l : List Pair). Contains l pair) (advances.3 bytes pairs own_reads is.tree) has;
  }

  -- once the head is no longer left, the others are still given
  pub still_given : (last_now : Option Pair) (floor_now : ℕ) → is_left last_now floor_now head ≡ false → (pairs : List Pair) (pair : Pair) → is_left last_now floor_now pair ≡ true → IsStillGiven bytes pairs old pair → IsStillGiven bytes pairs new pair
  still_given last_now floor_now gone pairs pair left was = ⊎_elim
      (λ this.
      let is : IsSourceOf bytes pairs steps.source = subst (λ (s : TreeSource). IsSourceOf bytes pairs s) (sym this) was.is in
      let has : Contains (steps.source.head ∷ drop steps.source.tree.value.passed pairs) pair = subst (λ (s : TreeSource). Contains (s.head ∷ drop s.tree.value.passed pairs) pair) (sym this) was.gives in
      ⊎_elim
      (λ first. absurd (differ (sym left ∙ ap (λ (p : Pair). is_left last_now floor_now p) (sym first ∙ sym steps.head_is) ∙ gone)))
      (λ later. by_next pairs pair steps.next is steps.advances steps.put later)
      (contains_cases steps.source.head pair (drop steps.source.tree.value.passed pairs) has))
      (λ other. record { source = was.source; there = other_there was.source other; is = was.is; gives = was.gives })
      (contains_cases steps.source was.source steps.others (Contains-permutation old (steps.source ∷ steps.others) was.source steps.taken was.there))

-- ---- how many pairs are left

pub fewer_left : (v : View) (head : Pair) (old new : List TreeSource) → StepsBy v head old new → All (λ (s : TreeSource). s.tree.value.passed ≤ s.tree.value.tree.pairs) old → left_of new < left_of old
fewer_left v head old new steps within = from steps.next steps.advances steps.put
  where
    gone : left_of steps.others + left_in steps.source ≡ left_of old
    gone = sum_by_popped left_in steps.source old steps.others steps.taken

    from : (next : Option TreeSource) → AdvancesTo v steps.source.tree.value next → IsPermutation (option_to_list next ++ steps.others) new → left_of new < left_of old
    from None advances put = omega (arith, gone, sum_by-IsPermutation left_in steps.others new put)
    from (Some next) advances put =
        let less : left_in next < left_in steps.source = omega (arith, ap (λ (t : TreeRef). t.pairs) advances.0, advances.1, advances.2) in
        omega (arith, gone, less, sum_by_pushed left_in next steps.others new put)

-- ---- where the folder stays

at_head_still : (a b : View) (file : FileName) (source : TreeSource) → Changes Same a b → IsAtHead a file source → IsAtHead b file source
at_head_still a b file source same is = record {
  passed = is.passed;
  stands = (is.stands.0, is.stands.1, λ bytes told. is.stands.2 bytes (sym (contents_same a b file same) ∙ told));
  last_is = is.last_is;
}

pub merge_still : (a b : View) (merge : TreeMerge) → Changes Same a b → CanMerge a merge → CanMerge b merge
merge_still a b merge same can = record {
  heap = can.heap;
  held_heap = can.held_heap;
  each = All-weaker (IsReadable a merge.file) (IsReadable b merge.file)
      (λ s is. record { named = is.named; buffered = buffered_after s.tree.value.buffered a b same is.buffered; at_head = at_head_still a b merge.file s same is.at_head }) (sources_of merge) can.each;
}

-- where its pairs in memory change alone
pub can_hold : (a b : View) (merge new : TreeMerge) → Changes Same a b → sources_of new ≡ sources_of merge → new.file ≡ merge.file → IsHeap held_cmp (held_of new) → CanMerge a merge → CanMerge b new
can_hold a b merge new same sources file held can =
    let now = merge_still a b merge same can in
    record {
      heap = subst (λ (l : List TreeSource). IsHeap source_cmp l) (sym sources) can.heap;
      held_heap = held;
      each = subst (λ (l : List TreeSource). All (IsReadable b new.file) l) (sym sources) (subst (λ (n : FileName). All (IsReadable b n) (sources_of merge)) (sym file) now.each);
    }

-- ---- a scan advances

pub advances_to_none : (v : View) (scan after : PairScan) (found : Option Pair) → found ≡ None → ReadsNextPair v scan.buffered.file scan.tree scan.passed after.passed found → PassesOne scan after found → AdvancesTo v scan None
advances_to_none v scan after found is reads ends =
    ((subst (λ (o : Option Pair). PassesOne scan after o) is ends).0, λ bytes pairs told has. (subst (λ (o : Option Pair). StepsToPair pairs scan.passed after.passed o) is (reads bytes pairs told has)).0)

pub advances_to_some : (v : View) (scan : PairScan) (next : TreeSource) (found : Option Pair) → found ≡ Some next.head → ReadsNextPair v scan.buffered.file scan.tree scan.passed next.tree.value.passed found
    → next.tree.value.tree ≡ scan.tree → PassesOne scan next.tree.value found → (IsSome found → HasPassed next.tree.value.tree next.tree.value.passed) → AdvancesTo v scan (Some next)
advances_to_some v scan next found is reads same ends passed =
    let there : IsSome found = subst (λ (o : Option Pair). IsSome o) (sym is) refl in
    let within = (passed there).within in
    (same, (subst (λ (o : Option Pair). PassesOne scan next.tree.value o) is ends).1, omega (arith, within, ap (λ (t : TreeRef). t.pairs) same), λ bytes pairs told has. subst (λ (o : Option Pair). StepsToPair pairs scan.passed next.tree.value.passed o) is (reads bytes pairs told has))

-- ---- one source more or less

-- the source that a scan gives
pub source_readable : (v b : View) (file : FileName) (scan : PairScan) (found : Option TreeSource) (source : TreeSource) → Changes Same v b → found ≡ Some source → scan.buffered.file ≡ file → IfSome found (λ (s : TreeSource). s.tree.value.buffered.file ≡ scan.buffered.file)
    → IfSome found (λ (s : TreeSource). IsBuffered s.tree.value.buffered b.files) → IfSome found (IsAtHead v scan.buffered.file) → IsReadable b file source
source_readable v b file scan found source same is scanned named buffered at_head =
    let here : source.tree.value.buffered.file ≡ scan.buffered.file = subst (λ (o : Option TreeSource). IfSome o (λ (s : TreeSource). s.tree.value.buffered.file ≡ scan.buffered.file)) is named in
    let at : IsAtHead v scan.buffered.file source = subst (λ (o : Option TreeSource). IfSome o (IsAtHead v scan.buffered.file)) is at_head in
    record {
      named = here ∙ scanned;
      buffered = subst (λ (o : Option TreeSource). IfSome o (λ (s : TreeSource). IsBuffered s.tree.value.buffered b.files)) is buffered;
      at_head = at_head_still v b file source same (subst (λ (n : FileName). IsAtHead v n source) scanned at);
    }

pub can_add : (a b : View) (merge new : TreeMerge) (source : TreeSource) → CanMerge a merge → Changes Same a b → KeepsHeap source_cmp (sources_of merge) (sources_of new) → IsPermutation (source ∷ sources_of merge) (sources_of new) → new.file ≡ merge.file
    → held_of new ≡ held_of merge → IsReadable b merge.file source → CanMerge b new
can_add a b merge new source can same keeps put file held readable =
    let now = merge_still a b merge same can in
    record {
      heap = keeps can.heap;
      held_heap = subst (λ (l : List HeldPair). IsHeap held_cmp l) (sym held) can.held_heap;
      each = subst (λ (n : FileName). All (IsReadable b n) (sources_of new)) (sym file)
          (All-permutation (IsReadable b merge.file) (source ∷ sources_of merge) (sources_of new) put (All-cons (IsReadable b merge.file) source (sources_of merge) readable now.each));
    }

pub first_readable : (v : View) (merge : TreeMerge) (source : TreeSource) (others : List TreeSource) → CanMerge v merge → IsPermutation (sources_of merge) (source ∷ others) → IsReadable v merge.file source
first_readable v merge source others can taken = All-head (IsReadable v merge.file) source others (All-permutation (IsReadable v merge.file) (sources_of merge) (source ∷ others) taken can.each)

pub rest_can : (a b : View) (merge new : TreeMerge) (source : TreeSource) → CanMerge a merge → Changes Same a b → IsPermutation (sources_of merge) (source ∷ sources_of new) → IsHeap source_cmp (sources_of new) → new.file ≡ merge.file → held_of new ≡ held_of merge → CanMerge b new
rest_can a b merge new source can same taken heap file held =
    let now = merge_still a b merge same can in
    record {
      heap = heap;
      held_heap = subst (λ (l : List HeldPair). IsHeap held_cmp l) (sym held) can.held_heap;
      each = subst (λ (n : FileName). All (IsReadable b n) (sources_of new)) (sym file)
          (All-tail (IsReadable b merge.file) source (sources_of new) (All-permutation (IsReadable b merge.file) (sources_of merge) (source ∷ sources_of new) taken now.each));
    }

-- ---- reads

pub add_reads : (before after : ℕ) (v : View) (scan : PairScan) (source : TreeSource) (old new : List TreeSource) → AdvancesTo v scan (Some source) → scan.passed ≡ 0 → IsPermutation (source ∷ old) new → after ≤ before + 2
    → after + 2 * unread_of new ≤ before + 2 * unread_of old + 2 * scan.tree.pairs
add_reads before after v scan source old new advances first put cost =
    omega (arith, sum_by_pushed unread_in source old new put, ap (λ (t : TreeRef). t.pairs) advances.0, advances.1, advances.2, first, cost)

pub tree_pairs : (before after : ℕ) (v : View) (scan : PairScan) (list : TreeRef) (source : TreeSource) (old new : List TreeSource) {file : FileName} → scan ≡ record { buffered = record { file = file; page = None; bytes = [] }; tree = list; passed = 0; last = None }
    → AdvancesTo v scan (Some source) → IsPermutation (source ∷ old) new → after ≤ before + 2 → after + 2 * unread_of new ≤ before + 2 * unread_of old + 2 * list.pairs
tree_pairs before after v scan list source old new is advances put cost =
    omega (arith, add_reads before after v scan source old new advances (ap (λ (s : PairScan). s.passed) is) put cost, ap (λ (s : PairScan). s.tree.pairs) is)

pub ended_reads : (before after : ℕ) (source : TreeSource) (old others : List TreeSource) → IsPermutation old (source ∷ others) → after ≤ before + 2 → (source.tree.value.tree.pairs ≤ source.tree.value.passed → after ≡ before)
    → after + 2 * unread_of others ≤ before + 2 * unread_of old
ended_reads before after source old others taken cost ended = ⊎_elim
    (λ over. omega (arith, sum_by_popped unread_in source old others taken, ended over.1))
    (λ more. omega (arith, sum_by_popped unread_in source old others taken, more.1, cost))
    (leb_tells source.tree.value.tree.pairs source.tree.value.passed)

pub step_reads : (before after : ℕ) (v : View) (source next : TreeSource) (old others new : List TreeSource) → IsPermutation old (source ∷ others) → IsPermutation (next ∷ others) new → AdvancesTo v source.tree.value (Some next) → after ≤ before + 2
    → after + 2 * unread_of new ≤ before + 2 * unread_of old
step_reads before after v source next old others new taken put advances cost =
    omega (arith, sum_by_popped unread_in source old others taken, sum_by_pushed unread_in next others new put, ap (λ (t : TreeRef). t.pairs) advances.0, advances.1, advances.2, cost)

-- ---- damage

pub head_shown : (v : View) (file : FileName) (source : TreeSource) (old others : List TreeSource) (f : ReadFault) → IsPermutation old (source ∷ others) → DamageShown v file (ShowsPairs file source.tree.value.tree) f → DamageShown v file (ShowsSources old file) f
head_shown v file source old others f taken shown =
    shown_as (ShowsPairs file source.tree.value.tree) (ShowsSources old file) v file f
    (λ bytes damage is shows. record { source = source; there = Contains-permutation (source ∷ others) old source (IsPermutation-sym old (source ∷ others) taken) (contains_first source others); shows = shows })
    shown

pub no_false_head : (v : View) (file : FileName) (source : TreeSource) (old others : List TreeSource) (f : ReadFault) → IsPermutation old (source ∷ others) → NoFalseSourceDamage v file source f → NoFalseDamageOf v file old f
no_false_head v file source old others fault.Failed taken right = tt
no_false_head v file source old others fault.OutOfMemory taken right = tt
no_false_head v file source old others (fault.Damaged damage) taken right = λ bytes lists is each.
    (let own = All-contains (IsSourceIn bytes lists) old source each (Contains-permutation (source ∷ others) old source (IsPermutation-sym old (source ∷ others) taken) (contains_first source others)) in
    right bytes own.pairs is own.is)

-- ---- trees

pub trees_same : (sources : List TreeSource) → TreesStay sources sources
trees_same sources = All-weaker (Contains sources) (λ (s : TreeSource). (was : TreeSource) × Contains sources was × (s.tree.value.tree ≡ was.tree.value.tree)) (λ s has. (s, has, refl)) sources (All-contains_itself sources)

pub trees_on : (a b c : List TreeSource) → TreesStay a b → TreesStay b c → TreesStay a c
trees_on a b c first second =
    All-weaker (λ (s : TreeSource). (was : TreeSource) × Contains b was × (s.tree.value.tree ≡ was.tree.value.tree)) (λ (s : TreeSource). (was : TreeSource) × Contains a was × (s.tree.value.tree ≡ was.tree.value.tree))
    (λ s has. (let before = All-contains (λ (t : TreeSource). (was : TreeSource) × Contains a was × (t.tree.value.tree ≡ was.tree.value.tree)) b has.0 first has.1 in (before.0, before.1, has.2 ∙ before.2))) c second

next_tree : (v : View) (old : List TreeSource) (source : TreeSource) (next : Option TreeSource) → AdvancesTo v source.tree.value next → Contains old source → All (λ (s : TreeSource). (was : TreeSource) × Contains old was × (s.tree.value.tree ≡ was.tree.value.tree)) (option_to_list next)
next_tree v old source None advances there = All-nil (λ (s : TreeSource). (was : TreeSource) × Contains old was × (s.tree.value.tree ≡ was.tree.value.tree))
next_tree v old source (Some next) advances there =
    All-cons (λ (s : TreeSource). (was : TreeSource) × Contains old was × (s.tree.value.tree ≡ was.tree.value.tree)) next [] (source, there, advances.0) (All-nil (λ (s : TreeSource). (was : TreeSource) × Contains old was × (s.tree.value.tree ≡ was.tree.value.tree)))

pub trees_step : (v : View) (head : Pair) (old new : List TreeSource) → StepsBy v head old new → TreesStay old new
trees_step v head old new steps = from steps.next steps.advances steps.put
  where
    from : (next : Option TreeSource) → AdvancesTo v steps.source.tree.value next → IsPermutation (option_to_list next ++ steps.others) new → TreesStay old new
    from next advances put =
        let P = λ (s : TreeSource). (was : TreeSource) × Contains old was × (s.tree.value.tree ≡ was.tree.value.tree) in
        let back = λ (s : TreeSource) (has : Contains (steps.source ∷ steps.others) s). Contains-permutation (steps.source ∷ steps.others) old s (IsPermutation-sym old (steps.source ∷ steps.others) steps.taken) has in
        All-permutation P (option_to_list next ++ steps.others) new put
        (All-append P (option_to_list next) steps.others (next_tree v old steps.source next advances (back steps.source (contains_first steps.source steps.others)))
        (All-weaker (Contains steps.others) P (λ s has. (s, back s (contains_later steps.source s steps.others has), refl)) steps.others (All-contains_itself steps.others)))

pub named_all : (v : View) (merge : TreeMerge) → CanMerge v merge → All (λ (s : TreeSource). s.tree.value.buffered.file ≡ merge.file) (sources_of merge)
named_all v merge can = All-weaker (IsReadable v merge.file) (λ (s : TreeSource). s.tree.value.buffered.file ≡ merge.file) (λ s is. is.named) (sources_of merge) can.each

pub within_all : (v : View) (merge : TreeMerge) → CanMerge v merge → All (λ (s : TreeSource). s.tree.value.passed ≤ s.tree.value.tree.pairs) (sources_of merge)
within_all v merge can = All-weaker (IsReadable v merge.file) (λ (s : TreeSource). s.tree.value.passed ≤ s.tree.value.tree.pairs) (λ s is. is.at_head.passed.within) (sources_of merge) can.each

pub left_same : (last now : Option Pair) (floor floor_now : ℕ) (pair : Pair) → now ≡ last → floor_now ≡ floor → is_left now floor_now pair ≡ is_left last floor pair
left_same last now floor floor_now pair same below = ap (λ (l : Option Pair). is_left l floor_now pair) same ∙ ap (λ (n : ℕ). is_left last n pair) below

-- the damage of a source was that of one of the sources before, whose trees these are
pub shown_of : (a b : View) (file now : FileName) (old new : List TreeSource) (f : ReadFault) → TreesStay old new → Changes Same a b → now ≡ file → DamageShown b now (ShowsSources new now) f → DamageShown a file (ShowsSources old file) f
shown_of a b file now old new f stay same named shown =
    shown_before (ShowsSources old file) a b file f same
    (shown_as (ShowsSources new file) (ShowsSources old file) b file f
    (λ bytes damage is shows. (let was = All-contains (λ (s : TreeSource). (t : TreeSource) × Contains old t × (s.tree.value.tree ≡ t.tree.value.tree)) new shows.source stay shows.there in
    record { source = was.0; there = was.1; shows = subst (λ (t : TreeRef). ShowsPairs file t bytes damage) was.2 shows.shows }))
    (subst (λ (n : FileName). DamageShown b n (ShowsSources new n) f) named shown))

pub no_false_of : (a b : View) (file now : FileName) (old new : List TreeSource) (f : ReadFault) → ((bytes : Bytes) (lists : List (List Pair)) → contents a file ≡ Some bytes → All (IsSourceIn bytes lists) old → All (IsSourceIn bytes lists) new)
    → Changes Same a b → now ≡ file → NoFalseDamageOf b now new f → NoFalseDamageOf a file old f
no_false_of a b file now old new fault.Failed stay same named right = tt
no_false_of a b file now old new fault.OutOfMemory stay same named right = tt
no_false_of a b file now old new (fault.Damaged damage) stay same named right = λ bytes lists is each. right bytes lists (reads_still a b file now bytes same named is) (stay bytes lists is each)

-- ---- no entry is lost

pub each_none : (v : View) (file : FileName) (sources : List TreeSource) → ReadsEach v file sources sources
each_none v file sources source index there low high = inr (source, there, refl, low)

module _ (v u w : View) (file : FileName) (head : Pair) (mid new : List TreeSource) (merge : TreeMerge) (steps : StepsBy w head mid new) (can : CanMerge u merge) (are : sources_of merge ≡ new) (file_is : merge.file ≡ file) (same : Changes Same v u) where
  -- the source with the least pair read its next entry, or is at its end
  read_or_later : (index : ℕ) (next : Option TreeSource) → AdvancesTo w steps.source.tree.value next → IsPermutation (option_to_list next ++ steps.others) new → steps.source.tree.value.passed ≤ index → index < steps.source.tree.value.tree.pairs
      → IsRead v file steps.source.tree.value.tree index ⊎ IsStillRead new steps.source.tree.value.tree index
  read_or_later index None advances put low high = absurd (omega (arith, advances.0, low, high))
  read_or_later index (Some next) advances put low high = ⊎_elim
      (λ later. inr (next, there, advances.0, omega (arith, advances.1, later.1)))
      (λ early.
      let at : IsAtHead u file next = subst (λ (n : FileName). IsAtHead u n next) file_is (All-contains (IsReadable u merge.file) (sources_of merge) next can.each (subst (λ (l : List TreeSource). Contains l next) (sym are) there)).at_head in
      let one : at.stands.0 ≡ index = omega (arith, at.stands.1, advances.1, low, early.1) in
      inl (
        next.head,
        λ bytes is. subst (λ (n : ℕ). HasEntry bytes steps.source.tree.value.tree n next.head) one
            (subst (λ (t : TreeRef). HasEntry bytes t at.stands.0 next.head) advances.0 (at.stands.2 bytes (contents_same v u file same ∙ is))),
      ))
      (leb_tells (steps.source.tree.value.passed + 1) index)
    where
      there : Contains new next
      there = Contains-permutation (next ∷ steps.others) new next put (contains_first next steps.others)

  pub each_step : (old : List TreeSource) → ReadsEach v file old mid → ReadsEach v file old new
  each_step old was source index there low high = ⊎_elim
      (λ read. inl read)
      (λ still.
      let tree_is = still.2 in
      let within : index < still.0.tree.value.tree.pairs = omega (arith, high, ap (λ (t : TreeRef). t.pairs) tree_is) in
      ⊎_elim
      (λ this.
      let own_tree : steps.source.tree.value.tree ≡ source.tree.value.tree = ap (λ (s : TreeSource). s.tree.value.tree) this ∙ tree_is in
      let passed_is : steps.source.tree.value.passed ≡ still.0.tree.value.passed = ap (λ (s : TreeSource). s.tree.value.passed) this in
      subst (λ (t : TreeRef). IsRead v file t index ⊎ IsStillRead new t index) own_tree
      (read_or_later index steps.next steps.advances steps.put (omega (arith, passed_is, still.3)) (omega (arith, high, ap (λ (t : TreeRef). t.pairs) own_tree))))
      (λ other. inr (still.0, Contains-permutation (option_to_list steps.next ++ steps.others) new still.0 steps.put (Contains-append_right (option_to_list steps.next) steps.others still.0 other), tree_is, still.3))
      (contains_cases steps.source still.0 steps.others (Contains-permutation mid (steps.source ∷ steps.others) still.0 steps.taken still.1)))
      (was source index there low high)
