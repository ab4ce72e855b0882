-- Open searches give their next hit.
use Rattle.std.proofs.Common.{◌≡◌, ◌∙◌, ℕ, ◌≤◌, List, [], Option, None, Some, IfOk, OnOk, refl, sym, ap, subst, arith, Result, Ok, Err}
use Rattle.sasi_types.specs.declared.tree.Pair.{Pair}
use Rattle.sasi_host.specs.declared.name.FileName.{FileName}
use Rattle.sasi_host.specs.declared.fault.ReadFault.{ReadFault}
use Rattle.sasi_host.specs.Names.{Bytes, Folder}
use Rattle.sasi_host.specs.Disk.{Changes, Same}
use Rattle.sasi_host.specs.View.{View, contents_in}
use Rattle.sasi_host.proofs.ContentLaws.{contents_same}
use Rattle.sasi_terms.specs.declared.op.Op.{Op}
use Rattle.sasi_treemerge.specs.Merges.{SpendsReads}
use Rattle.sasi_indexwrite.specs.Content.{IndexContent}
use Rattle.sasi_indexread.specs.Damages.{ShowsIndex, ShowsIndexFile}
use Rattle.sasi_indexread.specs.Opened.{HasHeaderAndFooterOf, OpenIndexFile}
use Rattle.sasi_indexread.specs.Searches.{Searching}
use Rattle.sasi_ranges.specs.StreamCalls.{Spends, StreamFaults}
use Rattle.sasi_hits.specs.declared.open_searches.WordSearches.{WordSearches}
use Rattle.sasi_hits.specs.declared.word_search.WordSearch.{WordSearch}
use Rattle.sasi_hits.specs.Calls.{ShowsIn, quiet}
use Rattle.sasi_hits.specs.HitPairs.{AreHits}
use Rattle.sasi_hits.specs.IndexHits.{AreOpen, HitsShow, SearchesLeave}
use Rattle.sasi_indexread.specs.Damages.ShowsIndexFile.{inside}
use Rattle.sasi_hits.specs.Pairs.{GivesPair}
use Rattle.sasi_hits.specs.WordSearches.{AreSearching, CanMeet, MeetLeaves, MeetPays, words_cost}
use Rattle.sasi_hits.specs.inside.Moving.{are_searching_move, can_meet_moves}
use Rattle.sasi_hits.proofs.CallLaws.{faults_shown}

-- ---- the files alone

module _ (v : View) (op : Op) (words : List Bytes) (first : Searching) (others : List WordSearch) where
  pub searching_at : (content : IndexContent) → AreSearching (quiet v.files) op words first others content → AreSearching v op words first others content
  searching_at content is = are_searching_move (quiet v.files) v op words first others content refl is

  pub searching_quiet : (content : IndexContent) → AreSearching v op words first others content → AreSearching (quiet v.files) op words first others content
  searching_quiet content is = are_searching_move v (quiet v.files) op words first others content refl is

pub meet_at : (v : View) (first : Searching) (others : List WordSearch) → CanMeet (quiet v.files) first others → CanMeet v first others
meet_at v first others is = can_meet_moves (quiet v.files) v first others refl is

pub meet_quiet : (v : View) (first : Searching) (others : List WordSearch) → CanMeet v first others → CanMeet (quiet v.files) first others
meet_quiet v first others is = can_meet_moves v (quiet v.files) first others refl is

-- what is known of what is left
pub gives_as : (Left Other : List Pair → Type 0) (left : List Pair) (found : Option Pair) → ((rest : List Pair) → Left rest → Other rest) → GivesPair Left left found → GivesPair Other left found
gives_as Left Other left None more gives = (gives.0, more [] gives.1)
gives_as Left Other left (Some pair) more gives = (gives.0, gives.1, more gives.0 gives.2)

-- they leave these hits, for some words
abbrev pub LeaveSome : WordSearches → Option Folder → List Pair → Type 0
LeaveSome searches files left = (op : Op) × (words : List Bytes) × (floor : ℕ) × SearchesLeave op words floor searches files left

-- ---- what is given, and what it takes

module _ (v w : View) (op : Op) (words : List Bytes) (first now : Searching) (old new : List WordSearch) (content : IndexContent) (is : AreSearching (quiet v.files) op words first old content) where
  abbrev GoesOn : Type 0
  GoesOn = (op : Op) (words : List Bytes) (content : IndexContent) → AreSearching v op words first old content → AreSearching w op words now new content

  on : GoesOn → AreSearching (quiet w.files) op words now new content
  on goes = searching_quiet w op words now new content (goes op words content (searching_at v op words first old content is))

  pub leaves_on : (floor : ℕ) (left : List Pair) (r : Result (Option Pair) ReadFault) → OnOk r GoesOn → IfOk r (GivesPair (AreHits content op words now.merge.last floor) left)
      → IfOk r (GivesPair (MeetLeaves (quiet w.files) op words floor now new) left)
  leaves_on floor left (Ok None) goes gives = (gives.0, (content, on goes, gives.1))
  leaves_on floor left (Ok (Some pair)) goes gives = (gives.0, gives.1, (content, on goes, gives.2))
  leaves_on floor left (Err f) goes gives = tt

  pub pays_on : {T : Type 0} (most : ℕ) (r : Result T ReadFault) → words_cost content first old ≤ most → OnOk r GoesOn → SpendsReads v w (words_cost content first old) (words_cost content now new) r
      → Spends (MeetPays (quiet w.files) op words now new) most v.reads w.reads r
  pays_on most (Ok x) within goes spent = (words_cost content now new, (content, on goes, omega arith), omega (arith, spent, within))
  pays_on most (Err f) within goes spent = omega (arith, spent, within)

-- ---- damage

module _ (index : OpenIndexFile) where
  -- the file has the header and the footer by which it was opened
  abbrev pub WasOpened : Option Folder → Type 0
  WasOpened files = (bytes : Bytes) → contents_in files index.file ≡ Some bytes → HasHeaderAndFooterOf bytes index

  pub hit_faults : {T L : Type 0} (Leaves : L → Type 0) (v w : View) (r : Result T ReadFault) → Changes Same v w → WasOpened v.files
      → StreamFaults (ShowsIn index.file (ShowsIndex index) v.files) (ShowsIn index.file (ShowsIndex index) w.files) Leaves v w r
      → StreamFaults (HitsShow index.file v.files) (HitsShow index.file w.files) Leaves v w r
  hit_faults Leaves v w r change opened one =
      faults_shown index.file (ShowsIndex index) (ShowsIndexFile index.file) Leaves v w r change
      (λ damage shows bytes reads. inside index.mode index.kind (record { blocks = index.blocks; table = (opened bytes reads).0; spill = index.spill }) (opened bytes reads).1 (shows bytes reads)) one

-- ---- they are open still

pub open_on : (v w : View) (file : FileName) (old new : WordSearches) (now : Searching) (others : List WordSearch) → Changes Same v w → new.first ≡ now → new.others.items ≡ others → now.index ≡ old.first.index
    → AreOpen file old v.files → CanMeet w now others → AreOpen file new w.files
open_on v w file old new now others change first_is others_are index is can =
    let kept : new.first.index ≡ old.first.index = ap (λ (s : Searching). s.index) first_is ∙ index in
    record {
      named = ap (λ (o : OpenIndexFile). o.file) kept ∙ is.named;
      opened = λ bytes reads.
          subst (λ (o : OpenIndexFile). HasHeaderAndFooterOf bytes o) (sym kept) (is.opened bytes (sym (contents_same v w file change) ∙ reads));
      can = subst (λ (s : Searching). CanMeet (quiet w.files) s new.others.items) (sym first_is)
          (subst (λ (l : List WordSearch). CanMeet (quiet w.files) now l) (sym others_are) (meet_quiet w now others can));
    }
