-- The pairs of a key tree, one after another.
use Rattle.std.proofs.Common.{◌≡◌, ℕ, suc, ◌+◌, ◌-◌, ◌/◌, ◌^◌, ⊎_elim, ◌<◌, ◌≤◌, true, false, List, [], ◌∷◌, ◌++◌, length, drop, map, Option, None, Some, IfErr, refl, sym, ap, subst, ◌∙◌, inl, inr, arith, append_assoc, append-nil, Result}
use Rattle.std.proofs.lemmas.Bool.Decides.{leb_tells}
use Rattle.std.specs.List.{AllByRecursion, filter}
use Rattle.std.specs.List.Sorted.{IsStrictlySortedBy}
use Rattle.std.specs.declared.cmp.Ordering.TheVariants.{Less}
use Rattle.sasi_types.specs.declared.column.ColumnType.{ColumnType}
use Rattle.sasi_types.specs.declared.decorated_key.DecoratedKey.{DecoratedKey}
use Rattle.sasi_types.specs.declared.partitioner.Partitioner.{Partitioner}
use Rattle.sasi_types.specs.DecoratedKey.{decorated_cmp}
use Rattle.sasi_types.specs.declared.tree.Pair.{Pair}
use Rattle.sasi_types.specs.declared.tree.TreeRef.{TreeRef}
use Rattle.sasi_host.specs.declared.name.FileName.{FileName}
use Rattle.sasi_host.specs.declared.fault.ReadFault.{ReadFault}
use Rattle.sasi_host.specs.Names.{Bytes}
use Rattle.sasi_host.specs.View.{ReadCost, View, contents}
use Rattle.sasi_host.specs.Damages.{DamageShown, OnDamage}
use Rattle.sasi_host.specs.Disk.{Changes, Same}
use Rattle.sasi_host.specs.Buffered.{reached}
use Rattle.sasi_host.proofs.ContentLaws.{contents_same}
use Rattle.sasi_host.proofs.Offsets.{at_ends}
use Rattle.sasi_host.proofs.Pages.{fresh_reaches}
use Rattle.sasi_tokentree.specs.Damages.{ShowsPairs, ShowsPairsBy, pair_offset, start}
use Rattle.sasi_tokentree.proofs.Rising.{shows_more}
use Rattle.sasi_tokentree.specs.Format.{HasTree, IsBefore, entry}
use Rattle.sasi_tokentree.specs.Reads.{NoFalseTreeDamage}
use Rattle.sasi_tokentree.specs.Scans.{HasEntry, IsEntryBuffered, PairScan, PassesOne, ReadsEntry, ReadsNextPair, StepsToPair, entry_cost, header_read, read_from}
use Rattle.sasi_tokentree.proofs.EntryPages.{header_short, read_behind}
use Rattle.sasi_tokentree.proofs.LeafPairs.{ends_within, tree_stands}
use Rattle.sasi_tokentree.proofs.Sizes.{entry_length}
use Rattle.sasi_treemerge.specs.Sources.{is_before}
use Rattle.sasi_treemerge.proofs.PairOrder.{is_before_yes}
use Rattle.sasi_datawrite.specs.Format.{Content, decorated_key, pairs_from, partition_bytes}
use Rattle.sasi_datawrite.proofs.Laws.{partition_length}
use Rattle.sasi_dataread.specs.ReadCosts.{file_pages}
use Rattle.sasi_dataread.proofs.Pairs.{less_token}
use Rattle.sasi_ranges.specs.StreamCalls.{StreamFaults}
use Rattle.sasi_ranges.proofs.Calling.{on_err}
use Rattle.sasi_hits.specs.Calls.{ShowsIn}
use Rattle.sasi_hits.specs.KeyTrees.{KeysLeave, ScanGives, ScanLeaves, ScanPays}
use Rattle.sasi_hits.specs.Pairs.{GivesPair, PairsRise, is_from}
use Rattle.sasi_hits.specs.inside.KeepingKeys.{scan_pays_stays}
use Rattle.sasi_hits.proofs.CallLaws.{faults_of}
use Rattle.sasi_hits.proofs.PairLaws.{first_kept, none_from, rise_behind}

-- ---- which pair

pub next_leaves : (scan after : PairScan) (u v : View) (found : Option Pair) (left : List Pair) → after.buffered.file ≡ scan.buffered.file → after.tree ≡ scan.tree → Changes Same u v
    → ReadsNextPair u scan.buffered.file scan.tree scan.passed after.passed found → ScanLeaves scan u.files left → GivesPair (ScanLeaves after v.files) left found
next_leaves scan after u v found left file tree change steps is = by found (steps is.bytes is.pairs is.reads is.tree)
  where
    leaves : (rest : List Pair) → rest ≡ drop after.passed is.pairs → ScanLeaves after v.files rest
    leaves rest rest_is = record {
      bytes = is.bytes;
      pairs = is.pairs;
      reads = ap (λ (f : FileName). contents v f) file ∙ contents_same u v scan.buffered.file change ∙ is.reads;
      tree = subst (λ (t : TreeRef). HasTree is.bytes t is.pairs) (sym tree) is.tree;
      left_is = rest_is;
    }

    by : (found : Option Pair) → StepsToPair is.pairs scan.passed after.passed found → GivesPair (ScanLeaves after v.files) left found
    by None step = (is.left_is ∙ step.0, leaves [] (sym (ap (λ (n : ℕ). drop n is.pairs) step.1 ∙ step.0)))
    by (Some pair) step = (drop after.passed is.pairs, is.left_is ∙ step, leaves (drop after.passed is.pairs) refl)

-- so far these pairs were passed, none of which is from the floor on
pub record Passed (floor : ℕ) (all now : List Pair) : Type 0 where
  pub passed : List Pair
  pub parts : all ≡ passed ++ now
  pub below : AllByRecursion (λ x. is_from floor x ≡ false) passed

pub passed_none : (floor : ℕ) (all : List Pair) → Passed floor all all
passed_none floor all = record { passed = []; parts = refl; below = tt }

all_more : (P : Pair → Type 0) (xs : List Pair) (x : Pair) → AllByRecursion P xs → P x → AllByRecursion P (xs ++ x ∷ [])
all_more P [] x all one = (one, tt)
all_more P (y ∷ ys) x all one = (all.0, all_more P ys x all.1 one)

pub passed_one : (floor : ℕ) (all now rest : List Pair) (pair : Pair) → now ≡ pair ∷ rest → is_from floor pair ≡ false → Passed floor all now → Passed floor all rest
passed_one floor all now rest pair is below so_far = record {
  passed = so_far.passed ++ pair ∷ [];
  parts = so_far.parts ∙ ap (λ l. so_far.passed ++ l) is ∙ regroup so_far.passed (pair ∷ []) rest;
  below = all_more (λ x. is_from floor x ≡ false) so_far.passed pair so_far.below below;
}
  where
    regroup : (a b c : List Pair) → a ++ (b ++ c) ≡ (a ++ b) ++ c
    regroup a b c = simp append_assoc

pub gives_end : (floor : ℕ) (Left : List Pair → Type 0) (all now : List Pair) → now ≡ [] → Left [] → Passed floor all now → ScanGives floor Left all None
gives_end floor Left all now none left so_far = (
  subst (λ (l : List Pair). AllByRecursion (λ x. is_from floor x ≡ false) l) (sym (so_far.parts ∙ ap (λ l. so_far.passed ++ l) none ∙ append-nil so_far.passed)) so_far.below,
  left,
)

pub gives_one : (floor : ℕ) (Left : List Pair → Type 0) (all now rest : List Pair) (pair : Pair) → now ≡ pair ∷ rest → is_from floor pair ≡ true → Left rest → Passed floor all now
    → ScanGives floor Left all (Some pair)
gives_one floor Left all now rest pair is from left so_far = (so_far.passed, rest, so_far.parts ∙ ap (λ l. so_far.passed ++ l) is, so_far.below, from, left)

-- ---- what it costs

some_same : {A : Type 0} (a b : A) → ◌≡◌ {A = Option A} (Some a) (Some b) → a ≡ b
some_same a b is = cc

pair_ends : (tree : TreeRef) (passed : ℕ) → read_from tree passed + (16 + header_read passed) ≡ pair_offset tree passed + 16
pair_ends tree passed = omega (arith, header_short passed)

pair_behind : (tree : TreeRef) (passed : ℕ) → read_from tree (passed + 1) ≡ pair_offset tree passed + 16
pair_behind tree passed = read_behind tree (passed + 1) (omega arith) ∙ ap (λ (n : ℕ). pair_offset tree n + 16) (omega arith)

-- the page on which the entry ends is buffered, and the pages up to it are paid
pays_pair : (scan after : PairScan) (a b : View) (most : ℕ) (pair : Pair) → after.buffered.file ≡ scan.buffered.file → after.tree ≡ scan.tree → after.passed ≡ scan.passed + 1 → Changes Same a b
    → ((bytes : Bytes) → contents a scan.buffered.file ≡ Some bytes → HasEntry bytes scan.tree scan.passed pair)
    → after.buffered.page ≡ Some ((pair_offset scan.tree scan.passed + 15) / 4096) → b.reads ≤ a.reads + entry_cost scan.buffered.page scan.tree scan.passed
    → ScanPays scan a.files most → (rest : ℕ) × ScanPays after b.files rest × (b.reads + rest ≤ a.reads + most)
pays_pair scan after a b most pair file tree passed change stands page cost is =
    let at = pair_offset scan.tree scan.passed in
    let within : at + 16 ≤ length is.bytes = omega (arith, at_ends is.bytes at (entry pair) (stands is.bytes is.reads).stands, entry_length pair) in
    let one = fresh_reaches scan.buffered.page (read_from scan.tree scan.passed) (16 + header_read scan.passed) (omega arith) (λ p this. (let before = is.begins p this in omega (arith, before))) in
    let ends = pair_ends scan.tree scan.passed in
    let now : reached after.buffered.page ≡ suc ((at + 15) / 4096) = ap reached page in (
      file_pages is.bytes - reached after.buffered.page,
      record {
        bytes = is.bytes;
        pairs = is.pairs;
        reads = ap (λ (f : FileName). contents b f) file ∙ contents_same a b scan.buffered.file change ∙ is.reads;
        tree = subst (λ (t : TreeRef). HasTree is.bytes t is.pairs) (sym tree) is.tree;
        begins = λ p this.
            let same : p ≡ (at + 15) / 4096 = some_same p ((at + 15) / 4096) (sym this ∙ page) in
            let next : read_from after.tree after.passed ≡ at + 16 = ap (λ (t : TreeRef). read_from t after.passed) tree ∙ ap (λ (n : ℕ). read_from scan.tree n) passed ∙ pair_behind scan.tree scan.passed in
            omega (arith, same, next);
        within = omega (arith, now, within);
        left = omega arith;
      },
      omega (arith, cost, one, ends, now, within, is.left, is.within),
    )

-- a call that fails costs no more than the pages that are left
pays_fails : (scan : PairScan) (a b : View) (most : ℕ) → b.reads ≤ a.reads + entry_cost scan.buffered.page scan.tree scan.passed → ScanPays scan a.files most
    → ((bytes : Bytes) (pairs : List Pair) → contents a scan.buffered.file ≡ Some bytes → HasTree bytes scan.tree pairs → pair_offset scan.tree scan.passed + 16 ≤ length bytes) → b.reads ≤ a.reads + most
pays_fails scan a b most cost is fits =
    let within = fits is.bytes is.pairs is.reads is.tree in
    let one = fresh_reaches scan.buffered.page (read_from scan.tree scan.passed) (16 + header_read scan.passed) (omega arith) (λ p this. (let before = is.begins p this in omega (arith, before))) in
    let ends = pair_ends scan.tree scan.passed in
    omega (arith, cost, one, ends, within, is.left, is.within)

leads_within : (scan : PairScan) (a : View) → ((bytes : Bytes) → contents a scan.buffered.file ≡ Some bytes → length bytes ≤ 2 ^ 62) → scan.passed < scan.tree.pairs
    → (bytes : Bytes) (pairs : List Pair) → contents a scan.buffered.file ≡ Some bytes → HasTree bytes scan.tree pairs → pair_offset scan.tree scan.passed + 16 ≤ length bytes
leads_within scan a short few bytes pairs reads tree =
    let count : length pairs ≡ scan.tree.pairs = sym (ap (λ (t : TreeRef). t.pairs) tree.referred) in
    ends_within bytes (start scan.tree) scan.passed pairs (tree_stands bytes scan.tree pairs tree (omega (arith, count, few)) (short bytes reads)) (omega (arith, count, few))

-- ---- each exit

pub pays_err : (scan : PairScan) (a b : View) (most : ℕ) → ((bytes : Bytes) → contents a scan.buffered.file ≡ Some bytes → length bytes ≤ 2 ^ 62)
    → b.reads ≤ a.reads + entry_cost scan.buffered.page scan.tree scan.passed → (scan.tree.pairs ≤ scan.passed → b.reads ≡ a.reads) → ScanPays scan a.files most → b.reads ≤ a.reads + most
pays_err scan a b most short cost ended is = ⊎_elim
    (λ over. omega (arith, ended over.1))
    (λ few. pays_fails scan a b most cost is (leads_within scan a short few.1))
    (leb_tells scan.tree.pairs scan.passed)

pub pays_none : (scan after : PairScan) (a b : View) (most : ℕ) → Changes Same a b → PassesOne scan after None → (scan.tree.pairs ≤ scan.passed → b.reads ≡ a.reads) → ScanPays scan a.files most
    → (rest : ℕ) × ScanPays after b.files rest × (b.reads + rest ≤ a.reads + most)
pays_none scan after a b most change passes ended is = (
  most,
  subst (λ (w : PairScan). ScanPays w b.files most) (sym passes.1) (scan_pays_stays a.files b.files scan most (contents_same a b scan.buffered.file change) is),
  omega (arith, ended passes.0),
)

pub pays_some : (scan after : PairScan) (a b : View) (most : ℕ) (pair : Pair) → after.buffered.file ≡ scan.buffered.file → after.tree ≡ scan.tree → Changes Same a b → PassesOne scan after (Some pair)
    → ReadsEntry a scan.buffered.file scan.tree after.passed (Some pair) → IsEntryBuffered after (Some pair) → b.reads ≤ a.reads + entry_cost scan.buffered.page scan.tree scan.passed
    → ScanPays scan a.files most → (rest : ℕ) × ScanPays after b.files rest × (b.reads + rest ≤ a.reads + most)
pays_some scan after a b most pair file tree change passes entry buffered cost is =
    let index : entry.0 ≡ scan.passed = omega (arith, entry.1, passes.1) in
    pays_pair scan after a b most pair file tree passes.1 change
    (λ bytes reads. subst (λ (n : ℕ). HasEntry bytes scan.tree n pair) index (entry.2 bytes reads))
    (buffered ∙ ap (λ (n : ℕ). Some ((n + 15) / 4096)) (ap (λ (t : TreeRef). pair_offset t (after.passed - 1)) tree ∙ ap (λ (n : ℕ). pair_offset scan.tree n) (omega (arith, passes.1))))
    cost is

-- damage is reported only where the file hasn't the tree
pub none_left_shown : {T : Type 0} (v : View) (scan : PairScan) (r : Result T ReadFault) → IfErr r (NoFalseTreeDamage v scan.buffered.file scan.tree)
    → IfErr r (OnDamage (λ _. (left : List Pair) → ScanLeaves scan v.files left → ⊥))
none_left_shown v scan r right =
    on_err (λ _. (bytes : Bytes) (pairs : List Pair) → contents v scan.buffered.file ≡ Some bytes → HasTree bytes scan.tree pairs → ⊥) (λ _. (left : List Pair) → ScanLeaves scan v.files left → ⊥) r
    (λ damage no left is. no is.bytes is.pairs is.reads is.tree) right

-- the faults of one call, by the scan with which the calls began
pub call_faults : {T : Type 0} (Alone : ℕ → Type 0) (first scan : PairScan) (v w : View) (n : ℕ) (r : Result T ReadFault) → scan.buffered.file ≡ first.buffered.file → scan.tree ≡ first.tree → Changes Same v w → ReadCost n v w r
    → IfErr r (DamageShown v scan.buffered.file (ShowsPairsBy Alone scan.buffered.file scan.tree)) → IfErr r (NoFalseTreeDamage v scan.buffered.file scan.tree)
    → StreamFaults (ShowsIn first.buffered.file (ShowsPairs first.buffered.file first.tree) v.files) (ShowsIn first.buffered.file (ShowsPairs first.buffered.file first.tree) w.files) (ScanLeaves scan v.files) v w r
call_faults Alone first scan v w n r file_is tree_is change causes damaged undamaged =
    let file = scan.buffered.file in
    let own : StreamFaults (ShowsIn file (ShowsPairs file scan.tree) v.files) (ShowsIn file (ShowsPairs file scan.tree) w.files) (ScanLeaves scan v.files) v w r =
    faults_of file (ShowsPairs file scan.tree) (ScanLeaves scan v.files) v w n r change causes
    (on_err (ShowsIn file (ShowsPairsBy Alone file scan.tree) v.files) (ShowsIn file (ShowsPairs file scan.tree) v.files) r (λ damage is bytes reads. shows_more Alone file scan.tree bytes damage (is bytes reads)) damaged)
    (none_left_shown v scan r undamaged) in
    subst (λ (t : TreeRef). StreamFaults (ShowsIn first.buffered.file (ShowsPairs first.buffered.file t) v.files) (ShowsIn first.buffered.file (ShowsPairs first.buffered.file t) w.files) (ScanLeaves scan v.files) v w r) tree_is
    (subst (λ (n : FileName). StreamFaults (ShowsIn n (ShowsPairs n scan.tree) v.files) (ShowsIn n (ShowsPairs n scan.tree) w.files) (ScanLeaves scan v.files) v w r) file_is own)

-- ---- as a stream

-- what a scan gives from the floor on is the first of what is left from there
pub keys_give : (file : FileName) (types : List ColumnType) (floor : ℕ) (after : PairScan) (v : View) (left pairs : List Pair) (found : Option Pair) → after.buffered.file ≡ file → PairsRise pairs → left ≡ filter (is_from floor) pairs
    → ScanGives floor (ScanLeaves after v.files) pairs found → GivesPair (KeysLeave file types floor (Some after) v.files) left found
keys_give file types floor after v left pairs found named rise is gives = by found gives
  where
    by : (found : Option Pair) → ScanGives floor (ScanLeaves after v.files) pairs found → GivesPair (KeysLeave file types floor (Some after) v.files) left found
    by None end = (
      is ∙ ap (filter (is_from floor)) (sym (append-nil pairs)) ∙ none_from (is_from floor) pairs [] end.0,
      record { pairs = []; of_tree = (named, end.1); rise = tt; from = refl },
    )
    by (Some pair) one = (
      filter (is_from floor) one.1,
      is ∙ ap (filter (is_from floor)) one.2 ∙ none_from (is_from floor) one.0 (pair ∷ one.1) one.3 ∙ first_kept (is_from floor) pair one.1 one.4,
      record { pairs = one.1; of_tree = (named, one.5); rise = (rise_behind one.0 (pair ∷ one.1) (subst PairsRise one.2 rise)).1; from = refl },
    )

-- ---- the pairs of a data file rise

pub less_before : (key q : DecoratedKey) (place at : ℕ) → place < at → decorated_cmp key q ≡ Less → is_before (record { token = key.token; place = place }) (record { token = q.token; place = at }) ≡ true
less_before key q place at lt less = is_before_yes _ _ (before_by (less_token key q less))
  where
    before_by : key.token ≤ q.token → IsBefore (record { token = key.token; place = place }) (record { token = q.token; place = at })
    before_by le = ⊎_elim (λ same. inr (omega (arith, le, same.1), lt)) (λ more. inl more.1) (leb_tells q.token key.token)

all_behind : (p : Partitioner) (key : DecoratedKey) (place at : ℕ) (content : Content) → place < at → AllByRecursion (λ q. decorated_cmp key q ≡ Less) (map (decorated_key p) content)
    → AllByRecursion (λ y. is_before (record { token = key.token; place = place }) y ≡ true) (pairs_from p at content)
all_behind p key place at [] lt all = tt
all_behind p key place at (one ∷ content) lt all = (
  less_before key (decorated_key p one) place at lt all.0,
  all_behind p key place (at + length (partition_bytes one.0 one.1)) content (omega (arith, lt)) all.1,
)

pub pairs_rise : (p : Partitioner) (at : ℕ) (content : Content) → IsStrictlySortedBy decorated_cmp (map (decorated_key p) content) → PairsRise (pairs_from p at content)
unfolding IsStrictlySortedBy
pairs_rise p at [] sorted = tt
pairs_rise p at (one ∷ content) sorted =
    let next = at + length (partition_bytes one.0 one.1) in
    let lt : at < next = omega (arith, partition_length one.0 one.1) in
    (all_behind p (decorated_key p one) at next content lt sorted.0, pairs_rise p next content sorted.1)
