-- What a loop over the postings has taken.
use Rattle.std.proofs.Common.{◌≡◌, List, [], ◌∷◌, ◌++◌, refl, sym, ◌∙◌, subst, append_assoc}
use Rattle.std.proofs.lemmas.List.Sums.{fold-append}
use Rattle.sasi_types.specs.declared.tree.Pair.{Pair}
use Rattle.sasi_host.specs.Names.{Bytes}
use Rattle.sasi_host.specs.View.{View, Reaches}
use Rattle.sasi_host.specs.Disk.{AnyChange, Changes, FileChange}
use Rattle.sasi_host.proofs.ChangeLaws.{touches_on, untouched}
use Rattle.sasi_segments.specs.declared.posting.Posting.{Posting}
use Rattle.sasi_tokentree.specs.Writes.{KeepsCounts}
use Rattle.sasi_indexwrite.specs.declared.term_writer.TermWriter.{TermWriter}
use Rattle.sasi_indexwrite.specs.TermsSoFar.{AreSortedPostings, CanFollow, TermsSoFar, add, gathered, nothing}
use Rattle.sasi_indexwrite.specs.Writing.{CanStoreTerm, HasWritten, KeepsGathered}
use Rattle.sasi_indexwrite.proofs.Grouping.{next_follows}

-- the first of all postings were taken, and the others are left
pub record HasTaken (old new : View) (all left : List Posting) (was now : TermWriter) (spill : List Pair) : Type 0 where
  pub done : List Posting
  pub all_is : all ≡ done ++ left
  pub keeps : KeepsGathered now spill (gathered done)
  pub ok : (header : Bytes) → HasWritten old was header [] → HasWritten new now header (gathered done).closed
  pub ready : CanStoreTerm now
  pub room : Reaches new now.trees.file now.trees.end
  pub file : now.trees.file ≡ was.trees.file
  pub mode : now.mode ≡ was.mode
  pub changes : Changes (FileChange was.trees.file AnyChange) old new
  pub counts : KeepsCounts old new

-- none yet
pub none_taken : (v : View) (all : List Posting) (writer : TermWriter) (spill : List Pair) → KeepsGathered writer spill (gathered []) → CanStoreTerm writer → Reaches v writer.trees.file writer.trees.end → HasTaken v v all all writer writer spill
none_taken v all writer spill keeps ready room = record {
  done = [];
  all_is = refl;
  keeps = keeps;
  ok = λ header was. was;
  ready = ready;
  room = room;
  file = refl;
  mode = refl;
  changes = untouched v writer.trees.file;
  counts = record { disk = refl; out = refl; reads = refl };
}

-- the next one can follow
pub follows_taken : (old new : View) (all left : List Posting) (posting : Posting) (was now : TermWriter) (spill : List Pair) → AreSortedPostings all → HasTaken old new all (posting ∷ left) was now spill → CanFollow now.term now.pairs posting
follows_taken old new all left posting was now spill valid taken =
    let follows = next_follows taken.done posting left (subst (λ (l : List Posting). AreSortedPostings l) taken.all_is valid) in
    subst (λ (t : Bytes). CanFollow t now.pairs posting) (sym taken.keeps.term) (subst (λ (l : List Pair). CanFollow (gathered taken.done).term l posting) (sym taken.keeps.pairs) follows)

-- and then it was taken too
pub one_more : (old mid new : View) (all left : List Posting) (posting : Posting) (was before now : TermWriter) (spill more : List Pair) → HasTaken old mid all (posting ∷ left) was before spill
    → ((so_far : TermsSoFar) → KeepsGathered before spill so_far → KeepsGathered now more (add so_far posting))
    → ((header : Bytes) (so_far : TermsSoFar) → KeepsGathered before spill so_far → HasWritten mid before header so_far.closed → HasWritten new now header (add so_far posting).closed)
    → CanStoreTerm now → Reaches new now.trees.file now.trees.end → now.trees.file ≡ before.trees.file → now.mode ≡ before.mode → Changes (FileChange before.trees.file AnyChange) mid new → KeepsCounts mid new → HasTaken old new all left was now more
one_more old mid new all left posting was before now spill more taken keeps ok ready room file mode changes counts = record {
  done = taken.done ++ posting ∷ [];
  all_is = taken.all_is ∙ sym (append_assoc taken.done (posting ∷ []) left);
  keeps = subst (λ (s : TermsSoFar). KeepsGathered now more s) added (keeps (gathered taken.done) taken.keeps);
  ok = λ header first. subst (λ (s : TermsSoFar). HasWritten new now header s.closed) added (ok header (gathered taken.done) taken.keeps (taken.ok header first));
  ready = ready;
  room = room;
  file = file ∙ taken.file;
  mode = mode ∙ taken.mode;
  changes = touches_on old mid new was.trees.file taken.changes (subst (λ f. Changes (FileChange f AnyChange) mid new) taken.file changes);
  counts = record {
    disk = counts.disk ∙ taken.counts.disk;
    out = counts.out ∙ taken.counts.out;
    reads = counts.reads ∙ taken.counts.reads;
  };
}
  where
    added : add (gathered taken.done) posting ≡ gathered (taken.done ++ posting ∷ [])
    added = sym (fold-append add nothing taken.done (posting ∷ []))
