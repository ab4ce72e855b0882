-- Pairs in memory, and trees that are read whole into memory.
use Rattle.std.specs.Prelude.{◌≡◌, ℕ, ◌+◌, ◌<◌, ◌≤◌, ◌⊎◌, List, [], ◌∷◌, ◌++◌, length, drop, Contains, Option, None, Some, Ok, refl}
use Rattle.std.proofs.Common.{◌∙◌, sym, ap, subst, arith, inl, inr, ⊎_elim}
use Rattle.std.proofs.lemmas.Bool.Decides.{leb_tells}
use Rattle.std.proofs.lemmas.List.{append-nil, append_assoc, get_or_append_left, get_or_push, length_push}
use Rattle.std.proofs.lemmas.List.Elements.{Contains-append_left, Contains-push, Contains-push_cases}
use Rattle.std.proofs.lemmas.List.Sorted.{Contains-permutation, IsPermutation-sym}
use Rattle.sasi_types.specs.declared.tree.Pair.{Pair}
use Rattle.sasi_types.specs.declared.tree.TreeRef.{TreeRef}
use Rattle.sasi_host.specs.declared.name.FileName.{FileName}
use Rattle.sasi_host.specs.Names.{Bytes}
use Rattle.sasi_host.specs.View.{ReadCost, View, contents}
use Rattle.sasi_host.specs.Damages.{DamageShown}
use Rattle.sasi_host.specs.Disk.{Changes, Same}
use Rattle.sasi_host.specs.declared.fault.ReadFault.{ReadFault}
use Rattle.sasi_host.specs.declared.fault.ReadFault.TheVariants as fault
use Rattle.sasi_host.proofs.ContentLaws.{contents_same}
use Rattle.sasi_host.proofs.DamageLaws.{shown_before}
use Rattle.sasi_tokentree.specs.Reads.{NoFalseTreeDamage}
use Rattle.sasi_tokentree.specs.Format.{HasTree, pair_at}
use Rattle.sasi_tokentree.specs.Scans.{HasEntry, PairScan}
use Rattle.sasi_treemerge.specs.declared.held_pair.HeldPair.{HeldPair}
use Rattle.sasi_treemerge.specs.declared.tree_source.TreeSource.{TreeSource}
use Rattle.sasi_treemerge.specs.Held.{IsHeld}
use Rattle.sasi_treemerge.specs.MergeDamages.{NoFalseSourceDamage}
use Rattle.sasi_tokentree.specs.Damages.{ShowsPairs}
use Rattle.sasi_treemerge.proofs.Stepping.{Pays, pays_on}
use Rattle.sasi_treemerge.specs.Merges.{AdvancesTo, HoldsMore, HoldsOne, HoldsTree, IsAtHead, IsSourceOf, unread_in}
use Rattle.sasi_treemerge.proofs.Merging.{contains_cases, contains_first, contains_later}

-- ---- pairs in memory

-- none more
holds_none : (held : List HeldPair) → HoldsMore [] held held
holds_none held = record { kept = λ pair is. is; added = λ pair has. absurd (omega (arith, has.1)); only = λ pair is. inl is }

-- and one more
pub holds_next : (more : List Pair) (pair : Pair) (old mid new : List HeldPair) → HoldsMore more old mid → HoldsOne pair mid new → HoldsMore (more ++ pair ∷ []) old new
holds_next more pair old mid new first put = record {
  kept = λ one is. stays one (first.kept one is);
  added = λ one has. ⊎_elim (λ before. stays one (first.added one before)) (λ this. subst (λ (p : Pair). IsHeld new p) this here) (Contains-push_cases more pair one has);
  only = λ one is. ⊎_elim
      (λ this. inr (subst (λ (p : Pair). Contains (more ++ pair ∷ []) p) (ap (λ (h : HeldPair). h.pair) this) (last more pair)))
      (λ other. ⊎_elim (λ old_one. inl old_one) (λ one_more. inr (earlier more pair one one_more)) (first.only one other))
      (contains_cases (record { pair = pair }) (record { pair = one }) mid (Contains-permutation new (record { pair = pair } ∷ mid) (record { pair = one }) (IsPermutation-sym (record { pair = pair } ∷ mid) new put) is));
}
  where
    stays : (one : Pair) → IsHeld mid one → IsHeld new one
    stays one is = Contains-permutation (record { pair = pair } ∷ mid) new (record { pair = one }) put (contains_later (record { pair = pair }) (record { pair = one }) mid is)

    here : IsHeld new pair
    here = Contains-permutation (record { pair = pair } ∷ mid) new (record { pair = pair }) put (contains_first (record { pair = pair }) mid)

    last : (l : List Pair) (p : Pair) → Contains (l ++ p ∷ []) p
    last l p = Contains-push l p

    earlier : (l : List Pair) (p q : Pair) → Contains l q → Contains (l ++ p ∷ []) q
    earlier l p q has = Contains-append_left l (p ∷ []) q has

-- ---- a tree that is read whole

-- what was read of a tree up to a source's head, of which all before the head is in memory
pub record IsReading (v : View) (file : FileName) (list : TreeRef) (source : TreeSource) (old held : List HeldPair) : Type 0 where
  pub before : List Pair
  pub tree : source.tree.value.tree ≡ list
  pub count : length before + 1 ≡ source.tree.value.passed
  pub stands : (index : ℕ) → index < length before + 1 → (bytes : Bytes) → contents v file ≡ Some bytes → HasEntry bytes list index (pair_at (before ++ source.head ∷ []) index)
  pub is : (bytes : Bytes) (pairs : List Pair) → contents v file ≡ Some bytes → HasTree bytes list pairs → pairs ≡ (before ++ source.head ∷ []) ++ drop source.tree.value.passed pairs
  pub put : HoldsMore before old held

-- one entry more
read_more : (v : View) (file : FileName) (list : TreeRef) (read : List Pair) (head : Pair) → ((index : ℕ) → index < length read → (bytes : Bytes) → contents v file ≡ Some bytes → HasEntry bytes list index (pair_at read index))
    → ((bytes : Bytes) → contents v file ≡ Some bytes → HasEntry bytes list (length read) head) → (index : ℕ) → index < length read + 1 → (bytes : Bytes) → contents v file ≡ Some bytes → HasEntry bytes list index (pair_at (read ++ head ∷ []) index)
read_more v file list read head earlier last index lt bytes told = ⊎_elim
    (λ low. subst (λ (p : Pair). HasEntry bytes list index p) (sym (get_or_append_left read (head ∷ []) (record { token = 0; place = 0 }) index low.1)) (earlier index low.1 bytes told))
    (λ high.
    let here : index ≡ length read = omega (arith, high.1, lt) in
    subst (λ (p : Pair). HasEntry bytes list index p) (sym (get_or_push read head (record { token = 0; place = 0 }) index (sym here))) (subst (λ (n : ℕ). HasEntry bytes list n head) (sym here) (last bytes told)))
    (by_order index (length read))
  where
    by_order : (m n : ℕ) → (Unit {0} × (m < n)) ⊎ (Unit {0} × (n ≤ m))
    by_order m n = ⊎_elim (λ le. inr (tt, le.1)) (λ gt. inl (tt, gt.1)) (leb_tells n m)

-- the entry at a source's head
head_entry : (v : View) (file : FileName) (list : TreeRef) (source : TreeSource) (index : ℕ) → IsAtHead v file source → source.tree.value.tree ≡ list → source.tree.value.passed ≡ index + 1 → (bytes : Bytes) → contents v file ≡ Some bytes → HasEntry bytes list index source.head
head_entry v file list source index at tree passed bytes told =
    subst (λ (t : TreeRef). HasEntry bytes t index source.head) tree (subst (λ (n : ℕ). HasEntry bytes source.tree.value.tree n source.head) (omega (arith, at.stands.1, passed)) (at.stands.2 bytes told))

-- before the first pair
pub begins : (v : View) (file : FileName) (list : TreeRef) (scan : PairScan) (source : TreeSource) (held : List HeldPair) → scan ≡ record { buffered = record { file = file; page = None; bytes = [] }; tree = list; passed = 0; last = None }
    → AdvancesTo v scan (Some source) → IsAtHead v file source → IsReading v file list source held held
begins v file list scan source held is advances at =
    let start = subst (λ (s : PairScan). AdvancesTo v s (Some source)) is advances in
    record {
      before = [];
      tree = start.0;
      count = sym start.1;
      stands = read_more v file list [] source.head (λ index lt bytes told. absurd (omega (arith, lt))) (head_entry v file list source 0 at start.0 start.1);
      is = start.3;
      put = holds_none held;
    }

module _ (v : View) (file : FileName) (list : TreeRef) (source : TreeSource) (old mid new : List HeldPair) (reading : IsReading v file list source old mid) (put : HoldsOne source.head mid new) where
  -- one pair more is in memory
  more_put : HoldsMore (reading.before ++ source.head ∷ []) old new
  more_put = holds_next reading.before source.head old mid new reading.put put

  long : length (reading.before ++ source.head ∷ []) ≡ source.tree.value.passed
  long = length_push reading.before source.head ∙ reading.count

  pub reads_on : (next : TreeSource) → source.tree.value.buffered.file ≡ file → AdvancesTo v source.tree.value (Some next) → IsAtHead v file next → IsReading v file list next old new
  reads_on next named advances at = record {
    before = reading.before ++ source.head ∷ [];
    tree = advances.0 ∙ reading.tree;
    count = omega (arith, long, advances.1);
    stands = read_more v file list (reading.before ++ source.head ∷ []) next.head (λ index lt bytes told. reading.stands index (omega (arith, lt, long, reading.count)) bytes told)
        (head_entry v file list next (length (reading.before ++ source.head ∷ [])) at (advances.0 ∙ reading.tree) (omega (arith, long, advances.1)));
    is = λ bytes pairs told tree.
        reading.is bytes pairs told tree
        ∙ ap (λ (l : List Pair). (reading.before ++ source.head ∷ []) ++ l) (advances.3 bytes pairs (ap (λ (n : FileName). contents v n) named ∙ told) (subst (λ (t : TreeRef). HasTree bytes t pairs) (sym reading.tree) tree))
        ∙ sym (append_assoc (reading.before ++ source.head ∷ []) (next.head ∷ []) (drop next.tree.value.passed pairs));
    put = more_put;
  }

  pub read_all : source.tree.value.buffered.file ≡ file → source.tree.value.passed ≤ source.tree.value.tree.pairs → AdvancesTo v source.tree.value None → HoldsTree v file list old new
  read_all named within advances =
      let all : source.tree.value.passed ≡ list.pairs = omega (arith, within, advances.0, ap (λ (t : TreeRef). t.pairs) reading.tree) in
      record {
        read = reading.before ++ source.head ∷ [];
        whole = record {
          count = long ∙ all;
          stands = λ index lt bytes told. reading.stands index (omega (arith, lt, all, reading.count)) bytes told;
          is = λ bytes pairs told tree. sym (reading.is bytes pairs told tree
              ∙ ap (λ (l : List Pair). (reading.before ++ source.head ∷ []) ++ l) (advances.1 bytes pairs (ap (λ (n : FileName). contents v n) named ∙ told) (subst (λ (t : TreeRef). HasTree bytes t pairs) (sym reading.tree) tree))
              ∙ append-nil (reading.before ++ source.head ∷ []));
        };
        put = more_put;
      }

-- a tree without pairs
pub reads_none : (v : View) (file : FileName) (list : TreeRef) (scan : PairScan) (held : List HeldPair) → scan ≡ record { buffered = record { file = file; page = None; bytes = [] }; tree = list; passed = 0; last = None } → AdvancesTo v scan None → HoldsTree v file list held held
reads_none v file list scan held is advances =
    let start = subst (λ (s : PairScan). AdvancesTo v s None) is advances in
    record {
      read = [];
      whole = record { count = omega (arith, start.0); stands = λ index lt bytes told. absurd (omega (arith, start.0, lt)); is = λ bytes pairs told tree. sym (start.1 bytes pairs told tree) };
      put = holds_none held;
    }

-- the source reads the tree's pairs in their order
reading_source : (v : View) (file : FileName) (list : TreeRef) (source : TreeSource) (old held : List HeldPair) (bytes : Bytes) (pairs : List Pair) → IsReading v file list source old held → contents v file ≡ Some bytes → HasTree bytes list pairs
    → IsSourceOf bytes pairs source
reading_source v file list source old held bytes pairs reading told tree = record {
  tree = subst (λ (t : TreeRef). HasTree bytes t pairs) (sym reading.tree) tree;
  before = length reading.before;
  left = dropped reading.before source.head pairs (drop source.tree.value.passed pairs) (reading.is bytes pairs told tree ∙ append_assoc reading.before (source.head ∷ []) (drop source.tree.value.passed pairs));
}
  where
    dropped : (front : List Pair) (head : Pair) (all rest : List Pair) → all ≡ front ++ head ∷ rest → drop (length front) all ≡ head ∷ rest
    dropped front head all rest is = ap (λ (l : List Pair). drop (length front) l) is ∙ drop_front front (head ∷ rest)
      where
        drop_front : (a b : List Pair) → drop (length a) (a ++ b) ≡ b
        drop_front [] b = refl
        drop_front (x ∷ a) b = drop_front a b

-- ---- where the folder stays

pub advances_before : (a b : View) (scan : PairScan) (found : Option TreeSource) → Changes Same a b → AdvancesTo b scan found → AdvancesTo a scan found
advances_before a b scan None same advances = (advances.0, λ bytes pairs told tree. advances.1 bytes pairs (contents_same a b scan.buffered.file same ∙ told) tree)
advances_before a b scan (Some source) same advances = (advances.0, advances.1, advances.2, λ bytes pairs told tree. advances.3 bytes pairs (contents_same a b scan.buffered.file same ∙ told) tree)

pub at_head_before : (a b : View) (file : FileName) (source : TreeSource) → Changes Same a b → IsAtHead b file source → IsAtHead a file source
at_head_before a b file source same is = record { passed = is.passed; stands = (is.stands.0, is.stands.1, λ bytes told. is.stands.2 bytes (contents_same a b file same ∙ told)); last_is = is.last_is }

-- ---- reads

-- the first read of a tree
pub first_pays : {S : Type 0} (a b : View) (scan : PairScan) (list : TreeRef) {file : FileName} (source : TreeSource) (x : S) → scan ≡ record { buffered = record { file = file; page = None; bytes = [] }; tree = list; passed = 0; last = None }
    → AdvancesTo a scan (Some source) → ReadCost 2 a b (Ok x) → Pays a b list.pairs (unread_in source)
first_pays a b scan list source x is advances cost =
    let start = subst (λ (s : PairScan). AdvancesTo a s (Some source)) is advances in
    record { disk = cost.ok; out = cost.out; reads = omega (arith, cost.reads, start.1, start.2, ap (λ (t : TreeRef). t.pairs) start.0) }

-- a further one
pub next_pays : {S : Type 0} (a b c : View) (before : ℕ) (source next : TreeSource) (x : S) → Pays a b before (unread_in source) → AdvancesTo b source.tree.value (Some next) → ReadCost 2 b c (Ok x) → Pays a c before (unread_in next)
next_pays a b c before source next x pays advances cost =
    pays_on a b c before (unread_in source) (unread_in next) 2 x pays cost (omega (arith, cost.reads, advances.1, advances.2, ap (λ (t : TreeRef). t.pairs) advances.0))

-- ---- damage

-- damage of the source is damage of the tree
pub reading_shown : (a b : View) (file : FileName) (list : TreeRef) (source : TreeSource) (old held : List HeldPair) (f : ReadFault) → IsReading a file list source old held → Changes Same a b → DamageShown b file (ShowsPairs file source.tree.value.tree) f
    → DamageShown a file (ShowsPairs file list) f
reading_shown a b file list source old held f reading same shown = shown_before (ShowsPairs file list) a b file f same (subst (λ (t : TreeRef). DamageShown b file (ShowsPairs file t) f) reading.tree shown)

pub no_false_reading : (a b : View) (file : FileName) (list : TreeRef) (source : TreeSource) (old held : List HeldPair) (f : ReadFault) → IsReading a file list source old held → Changes Same a b → NoFalseSourceDamage b file source f
    → NoFalseTreeDamage a file list f
no_false_reading a b file list source old held fault.Failed reading same right = tt
no_false_reading a b file list source old held fault.OutOfMemory reading same right = tt
no_false_reading a b file list source old held (fault.Damaged damage) reading same right = λ bytes pairs told tree.
    right bytes pairs (contents_same a b file same ∙ told) (reading_source a file list source old held bytes pairs reading told tree)
