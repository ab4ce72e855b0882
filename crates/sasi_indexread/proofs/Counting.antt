-- The reads of a search.
use Rattle.std.specs.Prelude.{◌≡◌, ℕ, ◌+◌, ◌*◌, ◌≤◌, Bool, true, false, not, ◌&&◌, if◌then◌else◌, List, [], length, take, get_or, Option, None, Some, refl}
use Rattle.std.proofs.Common.{◌∙◌, sym, ap, subst, arith}
use Rattle.std.specs.List.{sum_by}
use Rattle.std.proofs.lemmas.List.Sums.{sum_by-take-le, sum_by_more}
use Rattle.sasi_types.specs.declared.column.ColumnType.{ColumnType}
use Rattle.sasi_types.specs.declared.tree.Pair.{Pair}
use Rattle.sasi_types.specs.declared.tree.TreeRef.{TreeRef}
use Rattle.sasi_host.specs.declared.name.FileName.{FileName}
use Rattle.sasi_host.specs.Names.{Bytes}
use Rattle.sasi_host.specs.View.{View, contents}
use Rattle.sasi_host.specs.Disk.{Changes, Same}
use Rattle.sasi_terms.specs.declared.op.Op.{Op}
use Rattle.sasi_tokentree.proofs.AfterRead.{reads_still}
use Rattle.sasi_termblocks.specs.declared.block_ref.BlockRef.{BlockRef}
use Rattle.sasi_termblocks.specs.declared.term_entry.TermEntry.{TermEntry}
use Rattle.sasi_termblocks.specs.Scans.{HasBlocks, HasPassed, ReadsFirst, ReadsNext, StepsTo}
use Rattle.sasi_indexwrite.specs.Content.{IndexContent, TermPairs}
use Rattle.sasi_indexwrite.specs.Format.{entries}
use Rattle.sasi_treemerge.specs.declared.tree_source.TreeSource.{TreeSource}
use Rattle.sasi_treemerge.specs.declared.merge.TreeMerge.{TreeMerge}
use Rattle.sasi_treemerge.specs.Merges.{Parts, sources_of, unread_of}
use Rattle.sasi_indexread.specs.Asked.{asks_none, is_asked, is_asked_term, is_match, is_run}
use Rattle.sasi_indexread.specs.Collects.{AddsEntry, AddsIf}
use Rattle.sasi_indexread.specs.Costs.{added_pairs, cost_if, cost_left, list_pairs, term_cost, terms_cost, whole_cost}
use Rattle.sasi_indexread.specs.Opened.{IsOpenOn, OpenIndexFile}
use Rattle.sasi_indexread.specs.Searches.{searching}
use Rattle.sasi_indexread.proofs.Collecting.{entry_here}
use Rattle.sasi_indexread.proofs.Laws.{HasPairsOf, IsEntryOf}
use Rattle.sasi_indexread.proofs.Laws.HasPairsOf.{by_entry, by_tree}
use Rattle.sasi_indexread.proofs.Scanning.{IsShort, blocks_there, some_here, spill_there}

no_truth : false ≡ true → ⊥
no_truth e = cc

-- the scan read this entry last, and cost no more than the terms so far
pub record Costs (content : IndexContent) (ref : BlockRef) (op : Op) (body : Bytes) (turn page index : ℕ) (entry : Option TermEntry) (low high : ℕ) : Type 0 where
  pub from : ℕ
  pub steps : StepsTo ref (entries content) (from + turn) page index entry
  pub spent : high ≤ low + sum_by (term_cost content op body) (take (from + turn) content.terms)

-- at the end no more than all
pub costs_end : (content : IndexContent) (ref : BlockRef) (op : Op) (body : Bytes) (turn page index low high : ℕ) (entry : Option TermEntry) → Costs content ref op body turn page index entry low high → high ≤ low + terms_cost content op body
costs_end content ref op body turn page index low high entry was = omega (arith, was.spent, sum_by-take-le (term_cost content op body) content.terms (was.from + turn))

-- the reads of an entry's pairs are within those pairs
few_read : (bytes : Bytes) (pairs : List Pair) (entry : TermEntry) → HasPairsOf bytes pairs entry → list_pairs entry.list ≤ length pairs
few_read bytes pairs entry (by_tree tree is has) = omega (arith, ap (λ (o : Option TreeRef). list_pairs o) is, ap (λ (t : TreeRef). t.pairs) has.referred)
few_read bytes pairs entry (by_entry none is) = omega (arith, ap (λ (o : Option TreeRef). list_pairs o) none)

-- where the scan stops, no tree was added
pub none_added : (u : View) (added : FileName) (kind : ColumnType) (op : Op) (body : Bytes) (entry : TermEntry) (old new : Parts) → AddsEntry u added kind op body entry false old new → added_pairs kind op body entry ≡ 0
none_added u added kind op body entry old new adds = by (is_match kind op body entry.term) adds
  where
    by : (test : Bool) → AddsIf u added op entry test false old new → (if test then list_pairs entry.list else 0) ≡ 0
    by true h = absurd (no_truth h.0)
    by false h = refl

module _ (v : View) (opened : OpenIndexFile) (op : Op) (body : Bytes) (short : IsShort v opened.file) (some : asks_none opened.kind op ≡ false) (content : IndexContent) (on : IsOpenOn v opened content) where
  asked_is : (one : TermPairs) → is_asked_term content op body one ≡ is_match opened.kind op body one.0
  asked_is one = ap (λ (k : ColumnType). is_asked k op body one.0) (sym on.kind) ∙ ap (λ (b : Bool). not b && is_match opened.kind op body one.0) some

  -- a term costs what its entry does
  one_cost : (entry : TermEntry) (one : TermPairs) (u : View) (added : FileName) (old new : Parts) → IsEntryOf on.bytes one entry → AddsEntry u added opened.kind op body entry true old new → 1 + 2 * added_pairs opened.kind op body entry ≤ term_cost content op body one
  one_cost entry one u added old new is adds =
      subst (λ (b : Bool). 1 + 2 * added_pairs opened.kind op body entry ≤ cost_if b (is_run op) (length one.1)) (sym (asked_is one ∙ ap (λ (t : Bytes). is_match opened.kind op body t) (sym is.term)))
      (by (is_match opened.kind op body entry.term) (is_run op) refl adds)
    where
      by : (test run : Bool) → is_run op ≡ run → AddsIf u added op entry test true old new → 1 + 2 * (if test then list_pairs entry.list else 0) ≤ cost_if test run (length one.1)
      by true run run_is h = omega (arith, few_read on.bytes one.1 entry is.has)
      by false true run_is h = absurd (no_truth (sym (h.0 ∙ ap (λ (b : Bool). not b) run_is)))
      by false false run_is h = omega arith

  -- its pairs alone cost no more, where they could not be added
  pairs_cost : (entry : TermEntry) (one : TermPairs) → IsEntryOf on.bytes one entry → 2 * added_pairs opened.kind op body entry ≤ term_cost content op body one
  pairs_cost entry one is =
      subst (λ (b : Bool). 2 * added_pairs opened.kind op body entry ≤ cost_if b (is_run op) (length one.1)) (sym (asked_is one ∙ ap (λ (t : Bytes). is_match opened.kind op body t) (sym is.term)))
      (by (is_match opened.kind op body entry.term) (is_run op))
    where
      by : (test run : Bool) → 2 * (if test then list_pairs entry.list else 0) ≤ cost_if test run (length one.1)
      by true run = omega (arith, few_read on.bytes one.1 entry is.has)
      by false true = omega arith
      by false false = omega arith

  -- what an entry in hand costs is within what all terms cost, where its tree could not be added
  pub entry_within : (turn page index low high : ℕ) (entry : TermEntry) → Costs content opened.blocks op body turn page index (Some entry) low high → high + 2 * added_pairs opened.kind op body entry ≤ low + terms_cost content op body
  entry_within turn page index low high entry was =
      let k = was.from + turn in
      let here = entry_here v opened.file on.bytes content on.index_file (short on.bytes on.reads) on.reads op body (some_here v opened op body short some content on) opened.blocks None 0 turn page index k entry was.steps.0 in
      omega (
        arith,
        was.spent,
        pairs_cost entry (get_or content.terms k ([], [])) here.is_entry,
        sum_by_more (term_cost content op body) content.terms k ([], []) here.within,
        sum_by-take-le (term_cost content op body) content.terms (k + 1),
      )

  -- and where the next one could not be read
  pub next_within : (w : View) (turn page index low high : ℕ) (entry : TermEntry) (old new : Parts) (added : FileName) → Costs content opened.blocks op body turn page index (Some entry) low high
      → AddsEntry w added opened.kind op body entry true old new → high + 2 * added_pairs opened.kind op body entry + 1 ≤ low + terms_cost content op body
  next_within w turn page index low high entry old new added was adds =
      let k = was.from + turn in
      let here = entry_here v opened.file on.bytes content on.index_file (short on.bytes on.reads) on.reads op body (some_here v opened op body short some content on) opened.blocks None 0 turn page index k entry was.steps.0 in
      omega (
        arith,
        was.spent,
        one_cost entry (get_or content.terms k ([], [])) w added old new here.is_entry adds,
        sum_by_more (term_cost content op body) content.terms k ([], []) here.within,
        sum_by-take-le (term_cost content op body) content.terms (k + 1),
      )

  pub costs_begin : (page index low high : ℕ) (entry : Option TermEntry) (file : FileName) (ref : BlockRef) (sought : Bytes) → file ≡ opened.file → ref ≡ opened.blocks → ReadsFirst v file ref sought page index entry → high ≤ low
      → Costs content opened.blocks op body 0 page index entry low high
  costs_begin page index low high entry file ref sought named is first le =
      let has = subst (λ (r : BlockRef). HasBlocks on.bytes r (entries content)) (sym is) (blocks_there v opened content on short) in
      let r = first on.bytes (entries content) (ap (λ (n : FileName). contents v n) named ∙ on.reads) has in
      let base : r.0 ≡ r.0 + 0 = omega arith in
      record {
        from = r.0;
        steps = subst (λ (n : ℕ). StepsTo opened.blocks (entries content) n page index entry) base (subst (λ (b : BlockRef). StepsTo b (entries content) r.0 page index entry) is r.2);
        spent = omega (arith, le);
      }

  pub costs_on : (w u : View) (turn page index new_page new_index low high now : ℕ) (entry : TermEntry) (next : Option TermEntry) (old new : Parts) (added file : FileName) (ref : BlockRef) → file ≡ opened.file → ref ≡ opened.blocks → Changes Same v w
      → Costs content opened.blocks op body turn page index (Some entry) low high → AddsEntry u added opened.kind op body entry true old new → ReadsNext w file ref page index new_page new_index next → now ≤ high + 2 * added_pairs opened.kind op body entry + 1
      → Costs content opened.blocks op body (turn + 1) new_page new_index next low now
  costs_on w u turn page index new_page new_index low high now entry next old new added file ref named is same was adds reads le =
      let has = subst (λ (r : BlockRef). HasBlocks on.bytes r (entries content)) (sym is) (blocks_there v opened content on short) in
      let k = was.from + turn in
      let here = entry_here v opened.file on.bytes content on.index_file (short on.bytes on.reads) on.reads op body (some_here v opened op body short some content on) opened.blocks None 0 turn page index k entry was.steps.0 in
      let up : was.from + turn + 1 ≡ was.from + (turn + 1) = omega arith in
      let step = reads on.bytes (entries content) (k + 1) (reads_still v w opened.file file on.bytes same named on.reads) has (subst (λ (b : BlockRef). HasPassed b (entries content) page index (k + 1)) (sym is) was.steps.1) in
      record {
        from = was.from;
        steps = subst (λ (n : ℕ). StepsTo opened.blocks (entries content) n new_page new_index next) up (subst (λ (b : BlockRef). StepsTo b (entries content) (k + 1) new_page new_index next) is step);
        spent = omega (
          arith,
          le,
          was.spent,
          one_cost entry (get_or content.terms k ([], [])) u added old new here.is_entry adds,
          sum_by_more (term_cost content op body) content.terms k ([], []) here.within,
          ap (λ (n : ℕ). sum_by (term_cost content op body) (take n content.terms)) up,
        );
      }

-- ---- the spill

pub none_unread : (sources : List TreeSource) → sources ≡ [] → unread_of sources ≡ 0
none_unread sources none = ap (λ (l : List TreeSource). unread_of l) none

pub spill_pairs : (v : View) (opened : OpenIndexFile) (list : TreeRef) → IsShort v opened.file → list ≡ opened.spill → (content : IndexContent) → IsOpenOn v opened content → list.pairs ≡ length content.spill
spill_pairs v opened list short is content on = ap (λ (t : TreeRef). t.pairs) is ∙ ap (λ (t : TreeRef). t.pairs) (spill_there v opened content on short).referred

-- ---- what is left

pub left_first : (index : OpenIndexFile) (op : Op) (body : Bytes) (done : Bool) (merge : TreeMerge) (content : IndexContent) → done ≡ false → cost_left (searching index op body done merge) content ≡ whole_cost index.blocks.levels content op body
left_first index op body done merge content is = ap (λ (d : Bool). cost_left (searching index op body d merge) content) is

pub left_then : (index : OpenIndexFile) (op : Op) (body : Bytes) (done : Bool) (merge : TreeMerge) (content : IndexContent) → done ≡ true → cost_left (searching index op body done merge) content ≡ 2 * unread_of (sources_of merge)
left_then index op body done merge content is = ap (λ (d : Bool). cost_left (searching index op body d merge) content) is
