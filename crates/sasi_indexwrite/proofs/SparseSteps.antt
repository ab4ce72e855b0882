-- One more term of an index file of the mode SPARSE.
use Rattle.std.proofs.Common.{◌≡◌, ℕ, ◌≤◌, Bool, true, false, List, [], ◌∷◌, ◌++◌, length, Some, None, sym, ◌∙◌, ap, subst, rules, append-nil}
use Rattle.std.specs.Prelude.{not, if◌then◌else◌}
use Rattle.std.specs.List.{AllByRecursion, filter, flat_map}
use Rattle.std.proofs.lemmas.List.Concat.{flat_map-append}
use Rattle.std.proofs.lemmas.List.Elements.{filter-append}
use Rattle.sasi_types.specs.declared.tree.Pair.{Pair}
use Rattle.sasi_host.specs.Names.{Bytes}
use Rattle.sasi_host.specs.View.{View}
use Rattle.sasi_sparse.specs.Sparse.{is_stored}
use Rattle.sasi_termblocks.specs.declared.term_entry.TermEntry.{TermEntry}
use Rattle.sasi_termblocks.specs.Blocks.{blocks, items_of}
use Rattle.sasi_termblocks.specs.Writing.{HasPushed}
use Rattle.sasi_indexwrite.specs.declared.term_writer.TermWriter.{TermWriter}
use Rattle.sasi_indexwrite.specs.Content.{HasFewPairs, IsTerm, TermPairs}
use Rattle.sasi_indexwrite.specs.Grouped.{HasGroups}
use Rattle.sasi_indexwrite.specs.Kept.{common_pairs, rare_terms}
use Rattle.sasi_indexwrite.specs.Superblocks.{inline_blocks, inline_entries}
use Rattle.sasi_indexwrite.specs.Writing.{HasSuperblocks}
use Rattle.sasi_indexwrite.proofs.Lists.{all_join}
use Rattle.sasi_indexwrite.proofs.Numbering.{inline_push}

-- ---- rare terms and common ones

module _ (closed : List TermPairs) (one : TermPairs) where
  rare_is : (b : Bool) → is_stored (length one.1) ≡ b → rare_terms (closed ++ one ∷ []) ≡ rare_terms closed ++ (if b then one ∷ [] else [])
  rare_is b is = filter-append (λ (t : TermPairs). is_stored (length t.1)) closed (one ∷ []) ∙ ap (λ (t : Bool). rare_terms closed ++ (if t then one ∷ [] else [])) is

  common_is : (b : Bool) → is_stored (length one.1) ≡ b → common_pairs (closed ++ one ∷ []) ≡ common_pairs closed ++ flat_map (λ (t : TermPairs). t.1) (if not b then one ∷ [] else [])
  common_is b is =
      ap (λ (l : List TermPairs). flat_map (λ (t : TermPairs). t.1) l) (filter-append (λ (t : TermPairs). not (is_stored (length t.1))) closed (one ∷ []))
      ∙ flat_map-append (λ (t : TermPairs). t.1) (filter (λ (t : TermPairs). not (is_stored (length t.1))) closed) (filter (λ (t : TermPairs). not (is_stored (length t.1))) (one ∷ []))
      ∙ ap (λ (t : Bool). common_pairs closed ++ flat_map (λ (t : TermPairs). t.1) (if not t then one ∷ [] else [])) is

few_stored : (keys : ℕ) → keys ≤ 5 → is_stored keys ≡ true
few_stored keys few = search (rules, few)

-- a rare term's entry was added, and its pairs taken
pub inline_written : (a b : View) (old new : TermWriter) (term : Bytes) (pairs few : List Pair) (header : Bytes) (closed : List TermPairs) → IsTerm (term, pairs) → length pairs ≤ 5 → few ≡ pairs
    → ((entries : List TermEntry) → HasPushed old.blocks entries → HasPushed new.blocks (entries ++ record { term = term; list = None; inline = Some few } ∷ [])) → (count : ℕ)
    → ((entries : List TermEntry) → HasPushed new.blocks entries → count ≡ length (blocks (items_of entries)))
    → ((header : Bytes) (kept : List TermPairs) (term : Bytes) → count ≡ length (inline_blocks (kept ++ (term, pairs) ∷ [])) → HasGroups a old.trees old.groups header kept → HasGroups b new.trees new.groups header (kept ++ (term, pairs) ∷ []))
    → new.common ≡ old.common → HasSuperblocks a old header closed → HasSuperblocks b new header (closed ++ (term, pairs) ∷ [])
inline_written a b old new term pairs few header closed one short same pushed count counted taken common was =
    let stored = few_stored (length pairs) short in
    let terms : rare_terms closed ++ (term, pairs) ∷ [] ≡ rare_terms (closed ++ (term, pairs) ∷ []) = sym (rare_is closed (term, pairs) true stored) in
    let entries : inline_entries (rare_terms closed) ++ record { term = term; list = None; inline = Some few } ∷ [] ≡ inline_entries (rare_terms closed ++ (term, pairs) ∷ []) =
    ap (λ (l : List Pair). inline_entries (rare_terms closed) ++ record { term = term; list = None; inline = Some l } ∷ []) same ∙ sym (inline_push (rare_terms closed) (term, pairs))
    in
    let has = subst (λ (l : List TermEntry). HasPushed new.blocks l) entries (pushed (inline_entries (rare_terms closed)) was.pushed) in
    record {
      begins = was.begins;
      grouped = subst (λ (l : List TermPairs). HasGroups b new.trees new.groups header l) terms
          (taken header (rare_terms closed) term (counted (inline_entries (rare_terms closed ++ (term, pairs) ∷ [])) has) was.grouped);
      pushed = subst (λ (l : List TermPairs). HasPushed new.blocks (inline_entries l)) terms has;
      each = subst (λ (l : List TermPairs). AllByRecursion IsTerm l) terms (all_join IsTerm (rare_terms closed) ((term, pairs) ∷ []) was.each (one, tt));
      few = subst (λ (l : List TermPairs). AllByRecursion HasFewPairs l) terms (all_join HasFewPairs (rare_terms closed) ((term, pairs) ∷ []) was.few (short, tt));
      common_is = common ∙ was.common_is ∙ sym (common_is closed (term, pairs) true stored ∙ append-nil (common_pairs closed));
    }

-- a common term's pairs were kept for the spill
pub common_written : (v : View) (old new : TermWriter) (term : Bytes) (pairs : List Pair) (header : Bytes) (closed : List TermPairs) → is_stored (length pairs) ≡ false → new.trees ≡ old.trees → new.blocks ≡ old.blocks → new.groups ≡ old.groups
    → new.common ≡ old.common ++ pairs → HasSuperblocks v old header closed → HasSuperblocks v new header (closed ++ (term, pairs) ∷ [])
common_written v old new term pairs header closed many trees blocks groups common was =
    let terms : rare_terms closed ≡ rare_terms (closed ++ (term, pairs) ∷ []) = sym (rare_is closed (term, pairs) false many ∙ append-nil (rare_terms closed)) in
    record {
      begins = was.begins;
      grouped = subst (λ (l : List TermPairs). HasGroups v new.trees new.groups header l) terms
          (subst (λ t. HasGroups v t new.groups header (rare_terms closed)) (sym trees) (subst (λ g. HasGroups v old.trees g header (rare_terms closed)) (sym groups) was.grouped));
      pushed = subst (λ (l : List TermPairs). HasPushed new.blocks (inline_entries l)) terms (subst (λ w. HasPushed w (inline_entries (rare_terms closed))) (sym blocks) was.pushed);
      each = subst (λ (l : List TermPairs). AllByRecursion IsTerm l) terms was.each;
      few = subst (λ (l : List TermPairs). AllByRecursion HasFewPairs l) terms was.few;
      common_is =
          common ∙ ap (λ (l : List Pair). l ++ pairs) was.common_is ∙ ap (λ (l : List Pair). common_pairs closed ++ l) (sym (append-nil pairs)) ∙ sym (common_is closed (term, pairs) false many);
    }
