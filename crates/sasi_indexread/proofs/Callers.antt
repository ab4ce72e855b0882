-- For callers: a new search can go on, and searches the file that was opened; and so where the folder stays.
use Rattle.std.specs.Prelude.{◌≡◌, ℕ, ◌≤◌, nat_le, ◌&&◌, Bool, true, false, List, All, Option, refl}
use Rattle.std.proofs.Common.{◌∙◌, sym, ap, subst, arith, rules}
use Rattle.std.proofs.lemmas.List.Elements.{All-nil}
use Rattle.sasi_host.specs.Names.{Bytes}
use Rattle.sasi_host.specs.View.{View}
use Rattle.sasi_host.specs.Disk.{Changes, Same}
use Rattle.sasi_host.proofs.ContentLaws.{contents_same}
use Rattle.sasi_indexwrite.specs.Content.{IndexContent}
use Rattle.sasi_treemerge.specs.declared.tree_source.TreeSource.{TreeSource}
use Rattle.sasi_indexread.specs.Damages.{IsListedTree}
use Rattle.sasi_types.specs.declared.tree.Pair.{Pair}
use Rattle.sasi_terms.specs.declared.op.Op.{Op}
use Rattle.sasi_treemerge.specs.declared.merge.TreeMerge.{TreeMerge}
use Rattle.sasi_treemerge.specs.Merges.{Gives, IsReadable, Parts, is_behind, is_left, parts_of}
use Rattle.sasi_indexread.specs.Asked.{asked_lists}
use Rattle.sasi_indexread.specs.Opened.{IsOpenOn, OpenIndexFile}
use Rattle.sasi_indexread.specs.Searches.{AreListed, CanSearch, IsFresh, IsSearching, Searching, searching}
use Rattle.sasi_treemerge.proofs.Merging.{merge_still}

-- a new search can go on
pub fresh_can : (v : View) (asked : Searching) → IsFresh asked → CanSearch v asked
fresh_can v asked fresh = record {
  named = fresh.named;
  merge = record { heap = fresh.heap; held_heap = fresh.held_heap; each = subst (λ (l : List TreeSource). All (IsReadable v asked.merge.file) l) (sym fresh.empty) (All-nil (IsReadable v asked.merge.file)) };
  listed = λ bytes is. subst (λ (l : List TreeSource). All (λ (s : TreeSource). IsListedTree asked.index bytes s.tree.value.tree) l) (sym fresh.empty) (All-nil (λ (s : TreeSource). IsListedTree asked.index bytes s.tree.value.tree));
  fresh = λ _. (fresh.empty, fresh.none_held);
}

-- and searches the file that was opened
pub fresh_searches : (v : View) (asked : Searching) (content : IndexContent) → IsFresh asked → IsOpenOn v asked.index content → IsSearching v asked content
fresh_searches v asked content fresh opened = record { is_open = opened; gives = λ done. absurd (differ (sym done ∙ fresh.begins)) }
  where
    differ : true ≡ false → ⊥
    differ e = cc

unfoldable pub open_still : (a b : View) (opened : OpenIndexFile) (content : IndexContent) → Changes Same a b → IsOpenOn a opened content → IsOpenOn b opened content
open_still a b opened content same is = record {
  bytes = is.bytes;
  reads = contents_same a b opened.file same ∙ is.reads;
  index_file = is.index_file;
  mode = is.mode;
  kind = is.kind;
  blocks = is.blocks;
  spill = is.spill;
}

pub listed_still : (a b : View) (opened : OpenIndexFile) (sources : List TreeSource) → Changes Same a b → AreListed b opened sources → AreListed a opened sources
listed_still a b opened sources same listed = λ bytes is. listed bytes (contents_same a b opened.file same ∙ is)

-- where the folder stays, it can go on as before
pub can_still : (a b : View) (asked : Searching) → Changes Same a b → CanSearch a asked → CanSearch b asked
can_still a b asked same can = record {
  named = can.named;
  merge = merge_still a b asked.merge same can.merge;
  listed = λ bytes is. can.listed bytes (sym (contents_same a b asked.index.file same) ∙ is);
  fresh = can.fresh;
}

pub searches_still : (a b : View) (asked : Searching) (content : IndexContent) → Changes Same a b → IsSearching a asked content → IsSearching b asked content
unfolding open_still
searches_still a b asked content same is = record { is_open = open_still a b asked.index content same is.is_open; gives = is.gives }

-- ---- a search whose floor rises

low_left : (last : Option Pair) (low high : ℕ) (pair : Pair) → low ≤ high → is_left last high pair ≡ true → is_left last low pair ≡ true
low_left last low high pair le left = from (is_behind last pair) (nat_le high pair.token) refl refl left
  where
    from : (behind above : Bool) → is_behind last pair ≡ behind → nat_le high pair.token ≡ above → behind && above ≡ true → is_behind last pair && nat_le low pair.token ≡ true
    from true true one two h =
        let far : high ≤ pair.token = search (rules, two) in
        let near : low ≤ pair.token = omega (arith, far, le) in
        let test : nat_le low pair.token ≡ true = search (rules, near) in
        ap (λ (b : Bool). b && nat_le low pair.token) one ∙ test
    from true false one two h = absurd cc
    from false above one two h = absurd cc

pub skip_searches : (v : View) (index : OpenIndexFile) (op : Op) (body : Bytes) (is_collected : Bool) (old new : TreeMerge) (content : IndexContent) → new.last ≡ old.last → old.floor ≤ new.floor → parts_of new ≡ parts_of old
    → IsSearching v (searching index op body is_collected old) content → IsSearching v (searching index op body is_collected new) content
skip_searches v index op body is_collected old new content last floor same was = record {
  is_open = was.is_open;
  gives = λ done.
      (let gives = was.gives done in
      subst (λ (l : Parts). Gives was.is_open.bytes (asked_lists content op body) new.last new.floor l) (sym same) (record {
        each = gives.each;
        held = gives.held;
        all = λ pairs pair listed has left.
            gives.all pairs pair listed has
            (low_left old.last old.floor new.floor pair floor (ap (λ (l : Option Pair). is_left l new.floor pair) (sym last) ∙ left));
      }));
}

unfoldable pub open_back : (a b : View) (opened : OpenIndexFile) (content : IndexContent) → Changes Same a b → IsOpenOn b opened content → IsOpenOn a opened content
open_back a b opened content same is = record {
  bytes = is.bytes;
  reads = sym (contents_same a b opened.file same) ∙ is.reads;
  index_file = is.index_file;
  mode = is.mode;
  kind = is.kind;
  blocks = is.blocks;
  spill = is.spill;
}
