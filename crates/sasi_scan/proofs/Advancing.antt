-- The loop in which sources go on, with reads between.
use Rattle.std.proofs.Common.{◌≡◌, ◌+◌, ◌<◌, ℕ, suc, zero, List, [], ◌∷◌, length, get_or, set, slice_get, take, ◌++◌, cond, Option, None, Some, true, false, refl, sym, ap, ◌∙◌, subst, arith}
use Rattle.std.specs.List.{AllByRecursion}
use Rattle.sasi_types.specs.declared.column.ColumnType.{ColumnType}
use Rattle.sasi_types.specs.declared.decorated_key.DecoratedKey.{DecoratedKey}
use Rattle.sasi_types.specs.declared.partitioner.Partitioner.{Partitioner}
use Rattle.sasi_host.specs.declared.fault.ReadFault.{ReadFault}
use Rattle.sasi_host.specs.Names.{Folder}
use Rattle.sasi_host.specs.Damages.{OnDamage}
use Rattle.sasi_host.specs.Disk.{Changes, Same}
use Rattle.sasi_host.specs.View.{View}
use Rattle.sasi_manifest.specs.declared.files.ListedFile.{ListedFile}
use Rattle.sasi_memtable.specs.MemtableView.{MemtableView}
use Rattle.sasi_merge.specs.Merging.{Head, has_key, head_with, merged_part, merged_with}
use Rattle.sasi_merge.proofs.LeastKeys.{part_push}
use Rattle.sasi_model.specs.Cells.{Partition}
use Rattle.sasi_merge.specs.Streams.{Entries}
use Rattle.sasi_scan.specs.declared.source.Source.{Source}
use Rattle.sasi_scan.specs.Parts.{ShowsListed}
use Rattle.sasi_scan.specs.Sources.{AreMoved, CanStep, IsListedSource, IsMovedAt, NoFalseSourceDamage, ShowsSource, StepsTo, advances, stays}
use Rattle.sasi_scan.specs.Left.{AreLeft}
use Rattle.sasi_scan.proofs.Costs.{reads_same}
use Rattle.sasi_scan.proofs.Moves.{all_at, as_many_heads, as_many_sources, got, left_at, moved_can, moved_left, moved_listed, moved_more, set_itself, some_left}
use Rattle.sasi_scan.proofs.Steps.{source_shown}

some_at : {X : Type 0} (xs : List X) (n : ℕ) → n < length xs → (x : X) × (slice_get xs n ≡ Some x)
some_at [] n inside = absurd (omega arith)
some_at (x ∷ xs) zero inside = (x, refl)
some_at (x ∷ xs) (suc n) inside = some_at xs n (omega arith)

-- ---- one position

-- the source at a position has the key, and advances
pub goes_at : (seen : Option Folder) (ms : List MemtableView) (key : DecoratedKey) (at : ℕ) (heads : List Head) (sources : List Source) (nexts : List Head) (afters : List Source) (head : Head) (source : Source) (next : Head) (after : Source) → at < length heads → at < length sources → head ≡ get_or heads at head → source ≡ get_or sources at source → has_key key head ≡ true → StepsTo seen ms key source next after → nexts ≡ set heads at next → afters ≡ set sources at after → IsMovedAt seen ms key at heads sources nexts afters
goes_at seen ms key at heads sources nexts afters head source next after in_heads in_sources head_is source_is has steps heads_are sources_are = record {
  head = head;
  source = source;
  next = next;
  after = after;
  had = got heads at head in_heads head_is;
  was = got sources at source in_sources source_is;
  moved = advances has steps;
  heads_are = heads_are;
  sources_are = sources_are;
}

-- it has another, and stays
pub stays_at : (seen : Option Folder) (ms : List MemtableView) (key : DecoratedKey) (at : ℕ) (heads : List Head) (sources : List Source) (head : Head) → at < length heads → at < length sources → head ≡ get_or heads at head → has_key key head ≡ false → IsMovedAt seen ms key at heads sources heads sources
stays_at seen ms key at heads sources head in_heads in_sources head_is has =
    let one = some_at sources at in_sources in
    let had = got heads at head in_heads head_is in
    record {
      head = head;
      source = one.0;
      next = head;
      after = one.0;
      had = had;
      was = one.1;
      moved = stays has refl refl;
      heads_are = set_itself heads at head had;
      sources_are = set_itself sources at one.0 one.1;
    }

-- the head that it had is given, if it had the key
pub had_key : (key : DecoratedKey) (heads : List Head) (at : ℕ) (seen head given : Head) → slice_get heads at ≡ Some seen → has_key key seen ≡ true → slice_get heads at ≡ Some given → slice_get heads at ≡ Some head → given ≡ head_with key head
had_key key heads at seen head given seen_is has given_is head_is =
    let same : given ≡ head = (let both : Some given ≡ Some head = sym given_is ∙ head_is in cc) in
    let one : seen ≡ head = (let both : Some seen ≡ Some head = sym seen_is ∙ head_is in cc) in
    same ∙ sym (ap (λ b. cond b head None) (ap (has_key key) (sym one) ∙ has))

pub had_other : (key : DecoratedKey) (heads : List Head) (at : ℕ) (seen head : Head) → slice_get heads at ≡ Some seen → has_key key seen ≡ false → slice_get heads at ≡ Some head → None ≡ head_with key head
had_other key heads at seen head seen_is other head_is =
    let one : seen ≡ head = (let both : Some seen ≡ Some head = sym seen_is ∙ head_is in cc) in
    sym (ap (λ b. cond b head None) (ap (has_key key) (sym one) ∙ other))

-- ---- what is merged

-- a source that hasn't moved yet has its head
untouched : (seen : Option Folder) (ms : List MemtableView) (key : DecoratedKey) (n : ℕ) (heads : List Head) (sources : List Source) (nexts : List Head) (afters : List Source) → AreMoved seen ms key n heads sources nexts afters → slice_get nexts n ≡ slice_get heads n
untouched seen ms key zero heads sources nexts afters moved = ap (λ (hs : List Head). slice_get hs 0) moved.0
untouched seen ms key (suc n) (h ∷ heads) (s ∷ sources) (i ∷ nexts) (t ∷ afters) moved = untouched seen ms key n heads sources nexts afters moved.1
untouched seen ms key (suc n) heads sources nexts afters moved = absurd moved

take_more : (heads : List Head) (n : ℕ) (head : Head) → slice_get heads n ≡ Some head → take (n + 1) heads ≡ take n heads ++ head ∷ []
take_more heads n head is = ap (λ m. take m heads) later ∙ more heads n is
  where
    later : n + 1 ≡ suc n
    later = omega arith

    more : (hs : List Head) (m : ℕ) → slice_get hs m ≡ Some head → take (suc m) hs ≡ take m hs ++ head ∷ []
    more [] m there = cc
    more (h ∷ hs) zero there = let same : h ≡ head = cc in ap (λ (x : Head). x ∷ []) same
    more (h ∷ hs) (suc m) there = ap (λ (xs : List Head). h ∷ xs) (more hs m there)

take_all : (heads : List Head) (n : ℕ) → length heads ≡ n → take n heads ≡ heads
take_all [] zero all = refl
take_all [] (suc n) all = refl
take_all (h ∷ heads) zero all = absurd (omega arith)
take_all (h ∷ heads) (suc n) all = ap (λ (xs : List Head). h ∷ xs) (take_all heads n (omega arith))

pub all_merged : (key : DecoratedKey) (heads : List Head) (n : ℕ) (part : Partition) → length heads ≡ n → part ≡ merged_part key (take n heads) → part ≡ merged_part key heads
all_merged key heads n part all is = is ∙ ap (merged_part key) (take_all heads n all)

-- the head of one more source is merged
pub one_merged : (seen : Option Folder) (ms : List MemtableView) (key : DecoratedKey) (at : ℕ) (heads : List Head) (sources : List Source) (nexts : List Head) (afters : List Source) (part new : Partition) (given : Head)
    → AreMoved seen ms key at heads sources nexts afters → at < length heads → part ≡ merged_part key (take at heads)
    → ((head : Head) → slice_get nexts at ≡ Some head → given ≡ head_with key head) → new ≡ merged_with part given → new ≡ merged_part key (take (at + 1) heads)
one_merged seen ms key at heads sources nexts afters part new given moved inside so_far given_is new_is =
    let one = some_at heads at inside in
    new_is
    ∙ ap (λ (p : Partition). merged_with p given) so_far
    ∙ ap (merged_with (merged_part key (take at heads))) (given_is one.0 (untouched seen ms key at heads sources nexts afters moved ∙ one.1))
    ∙ sym (part_push key (take at heads) one.0)
    ∙ ap (merged_part key) (sym (take_more heads at one.0 one.1))

-- ---- in the loop

module _ (v w : View) (ms : List MemtableView) (key : DecoratedKey) (at : ℕ) (heads : List Head) (sources : List Source) (nexts : List Head) (afters : List Source) (change : Changes Same v w) (moved : AreMoved v.files ms key at heads sources nexts afters) where
  -- the positions are those of the sources
  pub at_head : length heads ≡ length sources → at < length sources → at < length nexts
  at_head counted inside = omega (arith, counted, as_many_heads v.files ms key at heads sources nexts afters moved)

  pub at_source : at < length sources → at < length afters
  at_source inside = omega (arith, as_many_sources v.files ms key at heads sources nexts afters moved)

  -- the sources can go on
  pub still_can : AllByRecursion (CanStep v.files ms) sources → AllByRecursion (CanStep w.files ms) afters
  still_can can = subst (λ (o : Option Folder). AllByRecursion (CanStep o ms) afters) (sym (reads_same v w change)) (moved_can v.files ms key at heads sources nexts afters moved can)

  -- one more went on
  pub one_more : (heads_new : List Head) (sources_new : List Source) → IsMovedAt w.files ms key at nexts afters heads_new sources_new → AreMoved v.files ms key (at + 1) heads sources heads_new sources_new
  one_more heads_new sources_new next =
      let later : suc at ≡ at + 1 = omega arith in
      subst (λ (n : ℕ). AreMoved v.files ms key n heads sources heads_new sources_new) later
      (moved_more v.files ms key at heads sources nexts afters heads_new sources_new moved
      (subst (λ (o : Option Folder). IsMovedAt o ms key at nexts afters heads_new sources_new) (reads_same v w change) next))

  -- damage is that of a listed file
  pub moving_shown : (files : List ListedFile) (types : List ColumnType) (f : ReadFault) → at < length sources → ((source : Source) → slice_get afters at ≡ Some source → ShowsSource w.files source f) → AllByRecursion (IsListedSource v.files files types) sources → OnDamage (ShowsListed v.files files types) f
  moving_shown files types f inside shown listed =
      let one = some_at afters at (at_source inside) in
      source_shown v.files files types one.0 f
      (all_at (IsListedSource v.files files types) afters at one.0 (moved_listed v.files ms key files types at heads sources nexts afters moved listed) one.1)
      (subst (λ (o : Option Folder). ShowsSource o one.0 f) (reads_same v w change) (shown one.0 one.1))

  -- and there is none where the sources have partitions left
  pub no_false_moving : (p : Partitioner) (lefts : List Entries) (f : ReadFault) → at < length sources → ((source : Source) → slice_get afters at ≡ Some source → NoFalseSourceDamage w.files source f) → AreLeft v.files p ms heads sources lefts → OnDamage (λ _. ⊥) f
  no_false_moving p lefts f inside no_false are =
      let one = some_at afters at (at_source inside) in
      left_at v.files p ms nexts afters (some_left v.files ms key at lefts) at one.0 f (moved_left v.files ms key p at heads sources nexts afters lefts moved are) one.1
      (subst (λ (o : Option Folder). NoFalseSourceDamage o one.0 f) (reads_same v w change) (no_false one.0 one.1))
