-- The sources whose heads have the least key go on: what all have left, and what stays true of them.
use Rattle.std.proofs.Common.{◌≡◌, ◌<◌, ℕ, suc, zero, Bool, true, false, cond, if◌then◌else◌, List, [], ◌∷◌, ◌++◌, length, map, set, get_or, slice_get, Option, None, Some, IfSome, refl, sym, ap, subst, ◌∙◌, arith, append_assoc}
use Rattle.std.specs.FinMap as map_
use Rattle.std.specs.List.{AllByRecursion}
use Rattle.sasi_types.specs.declared.column.ColumnType.{ColumnType}
use Rattle.sasi_types.specs.declared.decorated_key.DecoratedKey.{DecoratedKey}
use Rattle.sasi_types.specs.declared.partitioner.Partitioner.{Partitioner}
use Rattle.sasi_model.specs.Cells.{Partition, empty_partition, merge}
use Rattle.sasi_types.specs.DecoratedKey.{decorated_cmp}
use Rattle.std.specs.Ordering.{eq_by_cmp}
use Rattle.sasi_cells.specs.Maps.{joined}
use Rattle.sasi_cells.proofs.Laws.Decorated.{equal_keys}
use Rattle.sasi_host.specs.declared.fault.ReadFault.{ReadFault}
use Rattle.sasi_host.specs.Names.{Folder}
use Rattle.sasi_host.specs.Damages.{OnDamage}
use Rattle.sasi_manifest.specs.declared.files.ListedFile.{ListedFile}
use Rattle.sasi_memtable.specs.MemtableView.{MemtableView, entries_after}
use Rattle.sasi_merge.specs.Merging.{GivesLeast, Head, has_key, merged_heads, part_at, with_token}
use Rattle.sasi_merge.specs.Streams.{Entries, IsRising, behind, head_of, merged_entries, moved}
use Rattle.sasi_merge.proofs.Streams.{all_rising, next_entry, no_entry}
use Rattle.sasi_scan.specs.declared.source.Source.{Source}
use Rattle.sasi_scan.specs.declared.source.Source.TheVariants.{File, Map}
use Rattle.sasi_scan.specs.Parts.{IsMergeOfParts, IsOfPart, merged_all}
use Rattle.sasi_scan.specs.Sources.{AreMoved, CanStep, IsHeadOf, IsListedSource, IsMoved, IsMovedAt, IsSourceOf, NoFalseSourceDamage, StepsTo, advances, stays}
use Rattle.sasi_scan.specs.Left.{AreLeft, IsLeft, IsLeftInMap}
use Rattle.sasi_scan.specs.Scanning.{CanScan, GivesFirst, IsScanOf, IsScanning, scan_of}
use Rattle.sasi_scan.proofs.KeyOrder.{moved_given}
use Rattle.sasi_scan.proofs.Steps.{after_first, file_left, no_false_source, steps_can, steps_head, steps_listed, steps_of}

-- ---- positions

pub got : {X : Type 0} (xs : List X) (at : ℕ) (x : X) → at < length xs → x ≡ get_or xs at x → slice_get xs at ≡ Some x
got [] at x inside is = absurd (omega arith)
got (y ∷ ys) zero x inside is = ap Some (sym is)
got (y ∷ ys) (suc at) x inside is = got ys at x (omega arith) is

pub set_itself : {X : Type 0} (xs : List X) (at : ℕ) (x : X) → slice_get xs at ≡ Some x → xs ≡ set xs at x
set_itself [] at x is = refl
set_itself (y ∷ ys) zero x is = let same : y ≡ x = cc in ap (λ z. z ∷ ys) same
set_itself (y ∷ ys) (suc at) x is = ap (λ zs. y ∷ zs) (set_itself ys at x is)

pub all_at : {X : Type 0} (P : X → Type 0) (xs : List X) (at : ℕ) (x : X) → AllByRecursion P xs → slice_get xs at ≡ Some x → P x
all_at P [] at x all is = absurd (let no : None ≡ Some x = is in cc)
all_at P (y ∷ ys) zero x all is = let same : y ≡ x = cc in subst P same all.0
all_at P (y ∷ ys) (suc at) x all is = all_at P ys at x all.1 is

-- what holds of one holds of whatever stands there
pub at_one : {X : Type 0} (P : X → Type 0) (xs : List X) (at : ℕ) (x : X) → slice_get xs at ≡ Some x → P x → (y : X) → slice_get xs at ≡ Some y → P y
at_one P xs at x there p y is = let same : x ≡ y = cc in subst P same p

-- ---- heads

head_left : (seen : Option Folder) (p : Partitioner) (ms : List MemtableView) (head : Head) (source : Source) (left : Entries) → IsLeft seen p ms head source left → head ≡ head_of left
head_left seen p ms head (File scan) left is = is.head_is
head_left seen p ms head (Map position) left is = is.head_is

heads_are : (seen : Option Folder) (p : Partitioner) (ms : List MemtableView) (heads : List Head) (sources : List Source) (lefts : List Entries) → AreLeft seen p ms heads sources lefts → heads ≡ map head_of lefts
heads_are seen p ms [] sources lefts are = sym (ap (map head_of) are.1)
heads_are seen p ms (h ∷ heads) (s ∷ sources) (left ∷ lefts) are = let one = head_left seen p ms h s left are.0 in let rest = heads_are seen p ms heads sources lefts are.1 in λ i. one i ∷ rest i
heads_are seen p ms (h ∷ heads) [] lefts are = absurd are
heads_are seen p ms (h ∷ heads) (s ∷ sources) [] are = absurd are

-- ---- one source more

module _ (seen : Option Folder) (ms : List MemtableView) (key : DecoratedKey) where
  more : (n : ℕ) (heads : List Head) (sources : List Source) (nexts : List Head) (afters : List Source) (head : Head) (source : Source) (next : Head) (after : Source) → AreMoved seen ms key n heads sources nexts afters → slice_get nexts n ≡ Some head → slice_get afters n ≡ Some source → IsMoved seen ms key head source next after → AreMoved seen ms key (suc n) heads sources (set nexts n next) (set afters n after)
  more zero heads sources nexts afters head source next after so_far had was moved =
      subst (λ (hs : List Head). AreMoved seen ms key 1 hs sources (set nexts 0 next) (set afters 0 after)) so_far.0
      (subst (λ (ss : List Source). AreMoved seen ms key 1 nexts ss (set nexts 0 next) (set afters 0 after)) so_far.1 (first nexts afters had was))
    where
      first : (hs : List Head) (ss : List Source) → slice_get hs 0 ≡ Some head → slice_get ss 0 ≡ Some source → AreMoved seen ms key 1 hs ss (set hs 0 next) (set ss 0 after)
      first [] ss had was = absurd (let no : None ≡ Some head = had in cc)
      first (h ∷ hs) [] had was = absurd (let no : None ≡ Some source = was in cc)
      first (h ∷ hs) (s ∷ ss) had was =
          let same_head : head ≡ h = cc in
          let same_source : source ≡ s = cc in
          (subst (λ (x : Head). IsMoved seen ms key x s next after) same_head (subst (λ (x : Source). IsMoved seen ms key head x next after) same_source moved), (refl, refl))
  more (suc n) (h ∷ heads) (s ∷ sources) (i ∷ nexts) (t ∷ afters) head source next after so_far had was moved = (so_far.0, more n heads sources nexts afters head source next after so_far.1 had was moved)
  more (suc n) heads sources nexts afters head source next after so_far had was moved = absurd so_far

  pub moved_more : (n : ℕ) (heads : List Head) (sources : List Source) (nexts : List Head) (afters : List Source) (heads_new : List Head) (sources_new : List Source) → AreMoved seen ms key n heads sources nexts afters → IsMovedAt seen ms key n nexts afters heads_new sources_new → AreMoved seen ms key (suc n) heads sources heads_new sources_new
  moved_more n heads sources nexts afters heads_new sources_new so_far at =
      subst (λ (hs : List Head). AreMoved seen ms key (suc n) heads sources hs sources_new) (sym at.heads_are)
      (subst (λ (ss : List Source). AreMoved seen ms key (suc n) heads sources (set nexts n at.next) ss) (sym at.sources_are)
      (more n heads sources nexts afters at.head at.source at.next at.after so_far at.had at.was at.moved))

  -- ---- as many

  pub as_many_heads : (n : ℕ) (heads : List Head) (sources : List Source) (nexts : List Head) (afters : List Source) → AreMoved seen ms key n heads sources nexts afters → length nexts ≡ length heads
  as_many_heads zero heads sources nexts afters moved = ap length moved.0
  as_many_heads (suc n) (h ∷ heads) (s ∷ sources) (i ∷ nexts) (t ∷ afters) moved = ap (λ k. suc k) (as_many_heads n heads sources nexts afters moved.1)
  as_many_heads (suc n) heads sources nexts afters moved = absurd moved

  pub as_many_sources : (n : ℕ) (heads : List Head) (sources : List Source) (nexts : List Head) (afters : List Source) → AreMoved seen ms key n heads sources nexts afters → length afters ≡ length sources
  as_many_sources zero heads sources nexts afters moved = ap length moved.1
  as_many_sources (suc n) (h ∷ heads) (s ∷ sources) (i ∷ nexts) (t ∷ afters) moved = ap (λ k. suc k) (as_many_sources n heads sources nexts afters moved.1)
  as_many_sources (suc n) heads sources nexts afters moved = absurd moved

  -- ---- what stays of the sources

  -- what each step keeps true of a source stays true of all
  sources_keep : (P : Source → Type 0) → ((source : Source) (head : Head) (after : Source) → StepsTo seen ms key source head after → P source → P after) → (n : ℕ) (heads : List Head) (sources : List Source) (nexts : List Head) (afters : List Source) → AreMoved seen ms key n heads sources nexts afters → AllByRecursion P sources → AllByRecursion P afters
  sources_keep P keeps zero heads sources nexts afters moved all = subst (AllByRecursion P) (sym moved.1) all
  sources_keep P keeps (suc n) (h ∷ heads) (s ∷ sources) (i ∷ nexts) (t ∷ afters) moved all = (one moved.0, sources_keep P keeps n heads sources nexts afters moved.1 all.1)
    where
      one : IsMoved seen ms key h s i t → P t
      one (advances has steps) = keeps s i t steps all.0
      one (stays has next_is after_is) = subst P (sym after_is) all.0
  sources_keep P keeps (suc n) heads sources nexts afters moved all = absurd moved

  pub moved_can : (n : ℕ) (heads : List Head) (sources : List Source) (nexts : List Head) (afters : List Source) → AreMoved seen ms key n heads sources nexts afters → AllByRecursion (CanStep seen ms) sources → AllByRecursion (CanStep seen ms) afters
  moved_can = sources_keep (CanStep seen ms) (λ source head after steps can. steps_can seen ms key source head after steps can)

  pub moved_listed : (files : List ListedFile) (types : List ColumnType) (n : ℕ) (heads : List Head) (sources : List Source) (nexts : List Head) (afters : List Source) → AreMoved seen ms key n heads sources nexts afters → AllByRecursion (IsListedSource seen files types) sources → AllByRecursion (IsListedSource seen files types) afters
  moved_listed files types = sources_keep (IsListedSource seen files types) (λ source head after steps listed. steps_listed seen ms key files types source head after steps listed)

  pub moved_scan : (n : ℕ) (heads : List Head) (sources : List Source) (nexts : List Head) (afters : List Source) → AreMoved seen ms key n heads sources nexts afters → CanScan seen ms (scan_of heads sources) → CanScan seen ms (scan_of nexts afters)
  moved_scan n heads sources nexts afters moved scan = record {
    can = moved_can n heads sources nexts afters moved scan.can;
    counted = as_many_heads n heads sources nexts afters moved ∙ scan.counted ∙ sym (as_many_sources n heads sources nexts afters moved);
    given = moved_given seen ms key n heads sources nexts afters moved scan.given;
  }

  -- in any file what they have left stays of the parts
  moved_of : (types : List ColumnType) (n : ℕ) (heads : List Head) (sources : List Source) (nexts : List Head) (afters : List Source) → AreMoved seen ms key n heads sources nexts afters → AllByRecursion (IsSourceOf types) sources → AllByRecursion (IsSourceOf types) afters
  moved_of types = sources_keep (IsSourceOf types) (λ source head after steps of. steps_of seen ms key types source head after steps of)

  moved_heads : (types : List ColumnType) (n : ℕ) (heads : List Head) (sources : List Source) (nexts : List Head) (afters : List Source) → AreMoved seen ms key n heads sources nexts afters → AllByRecursion (CanStep seen ms) sources → AllByRecursion (IsSourceOf types) sources → AllByRecursion (IsHeadOf types ms) heads → AllByRecursion (IsHeadOf types ms) nexts
  moved_heads types zero heads sources nexts afters moved can all had = subst (AllByRecursion (IsHeadOf types ms)) (sym moved.0) had
  moved_heads types (suc n) (h ∷ heads) (s ∷ sources) (i ∷ nexts) (t ∷ afters) moved can all had = (one moved.0, moved_heads types n heads sources nexts afters moved.1 can.1 all.1 had.1)
    where
      one : IsMoved seen ms key h s i t → IsHeadOf types ms i
      one (advances has steps) = steps_head seen ms key types s i t steps can.0 all.0
      one (stays has next_is after_is) = subst (IsHeadOf types ms) (sym next_is) had.0
  moved_heads types (suc n) heads sources nexts afters moved can all had = absurd moved

  pub still_of : (files : List ListedFile) (types : List ColumnType) (n : ℕ) (heads : List Head) (sources : List Source) (nexts : List Head) (afters : List Source) → AreMoved seen ms key n heads sources nexts afters → CanScan seen ms (scan_of heads sources) → IsScanOf seen files types ms (scan_of heads sources) → IsScanOf seen files types ms (scan_of nexts afters)
  still_of files types n heads sources nexts afters moved scan of = record {
    listed = moved_listed files types n heads sources nexts afters moved of.listed;
    sources_of = moved_of types n heads sources nexts afters moved of.sources_of;
    heads_of = moved_heads types n heads sources nexts afters moved scan.can of.sources_of of.heads_of;
  }

  -- ---- what is left

  one_left : (p : Partitioner) (head : Head) (source : Source) (next : Head) (after : Source) (left : Entries) → IsMoved seen ms key head source next after → IsLeft seen p ms head source left → IsLeft seen p ms next after (moved key left)
  one_left p head source next after left (advances has steps) is =
      let has_it : has_key key (head_of left) ≡ true = sym (ap (has_key key) (head_left seen p ms head source left is)) ∙ has in
      subst (IsLeft seen p ms next after) (sym (ap (λ b. cond b (behind left) left) has_it)) (goes source after steps is has_it)
    where
      goes_in_map : (old new : ℕ) (left : Entries) → StepsTo seen ms key (Map old) next (Map new) → IsLeftInMap ms old head left → has_key key (head_of left) ≡ true → IsLeftInMap ms new next (behind left)
      goes_in_map old new [] steps is has_it = absurd (let no : false ≡ true = has_it in cc)
      goes_in_map old new (e ∷ rest) steps is has_it =
          let same : key ≡ e.0 = equal_keys key e.0 has_it in
          let behind_it : entries_after (Some key) (map_.entries is.m.partitions) ≡ rest =
          ap (λ (k : DecoratedKey). entries_after (Some k) (map_.entries is.m.partitions)) same ∙ ap (entries_after (Some e.0)) is.is ∙ after_first is.before e rest (subst IsRising is.is (map_.entries_sorted is.m.partitions)) in
          record {
            m = is.m;
            there = ap (slice_get ms) steps.0 ∙ is.there;
            before = is.before ++ e ∷ [];
            is = is.is ∙ sym (append_assoc is.before (e ∷ []) rest);
            head_is = steps.1 is.m is.there ∙ ap head_of behind_it;
          }

      goes : (old new : Source) → StepsTo seen ms key old next new → IsLeft seen p ms head old left → has_key key (head_of left) ≡ true → IsLeft seen p ms next new (behind left)
      goes (File old) (File new) steps is has_it = file_left seen p old new (behind left) next is.behind_it steps
      goes (Map old) (Map new) steps is has_it = goes_in_map old new left steps is has_it
      goes (File old) (Map new) steps is has_it = absurd steps
      goes (Map old) (File new) steps is has_it = absurd steps
  one_left p head source next after left (stays has next_is after_is) is =
      let has_not : has_key key (head_of left) ≡ false = sym (ap (has_key key) (head_left seen p ms head source left is)) ∙ has in
      subst (IsLeft seen p ms next after) (sym (ap (λ b. cond b (behind left) left) has_not))
      (subst (λ (h : Head). IsLeft seen p ms h after left) (sym next_is) (subst (λ (s : Source). IsLeft seen p ms head s left) (sym after_is) is))

  -- the first so many have moved
  abbrev pub some_left : ℕ → List Entries → List Entries
  some_left zero lefts = lefts
  some_left (suc n) [] = []
  some_left (suc n) (left ∷ lefts) = moved key left ∷ some_left n lefts

  pub moved_left : (p : Partitioner) (n : ℕ) (heads : List Head) (sources : List Source) (nexts : List Head) (afters : List Source) (lefts : List Entries) → AreMoved seen ms key n heads sources nexts afters → AreLeft seen p ms heads sources lefts → AreLeft seen p ms nexts afters (some_left n lefts)
  moved_left p zero heads sources nexts afters lefts moved are =
      subst (λ (hs : List Head). AreLeft seen p ms hs afters lefts) (sym moved.0) (subst (λ (ss : List Source). AreLeft seen p ms heads ss lefts) (sym moved.1) are)
  moved_left p (suc n) (h ∷ heads) (s ∷ sources) (i ∷ nexts) (t ∷ afters) (left ∷ lefts) moved are = (one_left p h s i t left moved.0 are.0, moved_left p n heads sources nexts afters lefts moved.1 are.1)
  moved_left p (suc n) (h ∷ heads) (s ∷ sources) (i ∷ nexts) (t ∷ afters) [] moved are = absurd are
  moved_left p (suc n) heads sources nexts afters lefts moved are = absurd moved

  all_some : (p : Partitioner) (heads : List Head) (sources : List Source) (lefts : List Entries) → AreLeft seen p ms heads sources lefts → some_left (length sources) lefts ≡ map (moved key) lefts
  all_some p [] sources lefts are = ap (λ (ls : List Entries). some_left (length sources) ls) are.1 ∙ none (length sources) ∙ sym (ap (map (moved key)) are.1)
    where
      none : (n : ℕ) → some_left n [] ≡ []
      none zero = refl
      none (suc n) = refl
  all_some p (h ∷ heads) (s ∷ sources) (left ∷ lefts) are = ap (λ (ls : List Entries). moved key left ∷ ls) (all_some p heads sources lefts are.1)
  all_some p (h ∷ heads) [] lefts are = absurd are
  all_some p (h ∷ heads) (s ∷ sources) [] are = absurd are

  pub all_moved : (p : Partitioner) (heads : List Head) (sources : List Source) (nexts : List Head) (afters : List Source) (lefts : List Entries) → AreMoved seen ms key (length sources) heads sources nexts afters → AreLeft seen p ms heads sources lefts → AreLeft seen p ms nexts afters (map (moved key) lefts)
  all_moved p heads sources nexts afters lefts moved are = subst (AreLeft seen p ms nexts afters) (all_some p heads sources lefts are) (moved_left p (length sources) heads sources nexts afters lefts moved are)

-- ---- damage

-- a source at a position has something left
pub left_at : (seen : Option Folder) (p : Partitioner) (ms : List MemtableView) (heads : List Head) (sources : List Source) (lefts : List Entries) (at : ℕ) (source : Source) (f : ReadFault) → AreLeft seen p ms heads sources lefts → slice_get sources at ≡ Some source → NoFalseSourceDamage seen source f → OnDamage (λ _. ⊥) f
left_at seen p ms [] sources lefts at source f are was no_false = absurd (let no : None ≡ Some source = sym (ap (λ (ss : List Source). slice_get ss at) are.0) ∙ was in cc)
left_at seen p ms (h ∷ heads) (s ∷ sources) (left ∷ lefts) zero source f are was no_false =
    let same : source ≡ s = cc in
    no_false_source seen p ms h s left f are.0 (subst (λ (x : Source). NoFalseSourceDamage seen x f) same no_false)
left_at seen p ms (h ∷ heads) (s ∷ sources) (left ∷ lefts) (suc at) source f are was no_false = left_at seen p ms heads sources lefts at source f are.1 was no_false
left_at seen p ms (h ∷ heads) [] lefts at source f are was no_false = absurd are
left_at seen p ms (h ∷ heads) (s ∷ sources) [] at source f are was no_false = absurd are

-- ---- the next partition of the merge

-- merged by one more
all_push : (base : Partition) (parts : List Partition) (part : Partition) → merged_all base (parts ++ part ∷ []) ≡ merge (merged_all base parts) part
all_push base [] part = refl
all_push base (p ∷ parts) part = all_push (merge base p) parts part

module _ (types : List ColumnType) (maps : List MemtableView) where
  others_push : (key : List ℕ) (parts : List Partition) (part : Partition) → AllByRecursion (IsOfPart types maps key) parts → IsOfPart types maps key part → AllByRecursion (IsOfPart types maps key) (parts ++ part ∷ [])
  others_push key [] part all one = (one, tt)
  others_push key (p ∷ parts) part all one = (all.0, others_push key parts part all.1 one)

  -- what a later part has is merged onto what older ones have
  pub joined_of : (key : List ℕ) (a b : Option Partition) → IfSome a (IsMergeOfParts types maps key) → IfSome b (IsOfPart types maps key) → IfSome (joined a b) (IsMergeOfParts types maps key)
  joined_of key a None one two = one
  joined_of key None (Some q) one two = record { oldest = q; others = []; oldest_of = two; others_of = tt; is = refl }
  joined_of key (Some p) (Some q) one two = record {
    oldest = one.oldest;
    others = one.others ++ q ∷ [];
    oldest_of = one.oldest_of;
    others_of = others_push key one.others q one.others_of two;
    is = ap (λ (w : Partition). merge w q) one.is ∙ sym (all_push (merge empty_partition one.oldest) one.others q);
  }

  part_of : (key : DecoratedKey) (h : Head) → IsHeadOf types maps h → IfSome (part_at key h) (IsOfPart types maps key.key)
  part_of key None of = tt
  part_of key (Some h) of = by (eq_by_cmp decorated_cmp key (with_token h.0 h.1)) refl
    where
      by : (b : Bool) → eq_by_cmp decorated_cmp key (with_token h.0 h.1) ≡ b → IfSome (if b then Some h.2 else None) (IsOfPart types maps key.key)
      by true same = subst (λ (k : DecoratedKey). IsOfPart types maps k.key h.2) (sym (equal_keys key (with_token h.0 h.1) same)) of
      by false other = tt

  heads_of_parts : (key : DecoratedKey) (base : Option Partition) (heads : List Head) → IfSome base (IsMergeOfParts types maps key.key) → AllByRecursion (IsHeadOf types maps) heads → IfSome (merged_heads key base heads) (IsMergeOfParts types maps key.key)
  heads_of_parts key base [] one all = one
  heads_of_parts key base (h ∷ heads) one all = heads_of_parts key (joined base (part_at key h)) heads (joined_of key.key base (part_at key h) one (part_of key h all.0)) all.1

  -- what is given is the merge of what the parts have
  pub least_of : (heads : List Head) (token : ℕ) (key : List ℕ) (part : Partition) → AllByRecursion (IsHeadOf types maps) heads → GivesLeast heads token (Some (key, part)) → IsMergeOfParts types maps key part
  least_of heads token key part all least = subst (λ (o : Option Partition). IfSome o (IsMergeOfParts types maps key)) least.0 (heads_of_parts (with_token token key) None heads tt all)

-- ---- the whole step

module _ (seen : Option Folder) (p : Partitioner) (ms : List MemtableView) (heads : List Head) (sources : List Source) (left : Entries) (on : IsScanning seen p ms (scan_of heads sources) left) where
  -- nothing is left where each source is at its end
  pub none_given : (token : ℕ) → GivesLeast heads token None → GivesFirst seen p ms left (scan_of heads sources) None
  none_given token least =
      let none : merged_entries on.each ≡ [] = no_entry on.each (subst (AllByRecursion (λ h. h ≡ None)) (heads_are seen p ms heads sources on.each on.each_is) least) in
      (on.is ∙ none, record { each = on.each; each_is = on.each_is; rising = on.rising; is = sym none })

  -- the least key was given, and the sources went on
  pub next_given : (nexts : List Head) (afters : List Source) (token : ℕ) (key : List ℕ) (part : Partition) → GivesLeast heads token (Some (key, part)) → AreMoved seen ms (with_token token key) (length sources) heads sources nexts afters → GivesFirst seen p ms left (scan_of nexts afters) (Some (key, part))
  next_given nexts afters token key part least moved_all =
      let given = subst (λ (hs : List Head). GivesLeast hs token (Some (key, part))) (heads_are seen p ms heads sources on.each on.each_is) least in
      record {
        token = token;
        rest = merged_entries (map (moved (with_token token key)) on.each);
        is = on.is ∙ next_entry (with_token token key) part on.each on.rising given.1 given.0;
        others = record {
          each = map (moved (with_token token key)) on.each;
          each_is = all_moved seen ms (with_token token key) p heads sources nexts afters on.each moved_all on.each_is;
          rising = all_rising (with_token token key) on.each on.rising;
          is = refl;
        };
      }
