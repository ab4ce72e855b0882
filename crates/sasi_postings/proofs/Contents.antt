-- The postings of an index over a data file, partition by partition.
use Rattle.std.proofs.Common.{◌≡◌, ℕ, ◌+◌, ◌≤◌, Bool, true, List, [], ◌∷◌, ◌++◌, length, map, refl, sym, ◌∙◌, ap, subst, arith, length-append}
use Rattle.std.specs.Prelude.{Option}
use Rattle.std.specs.FinMap as map_
use Rattle.std.specs.List.{flat_map, zip}
use Rattle.std.proofs.lemmas.List.{append-nil, length-map, map-append}
use Rattle.std.proofs.lemmas.Grind.{flat_map-append}
use Rattle.sasi_types.specs.declared.partitioner.Partitioner.{Partitioner}
use Rattle.sasi_types.specs.declared.rule.Rule.{Rule}
use Rattle.sasi_types.specs.declared.tree.Pair.{Pair}
use Rattle.sasi_types.specs.Token.{token_of}
use Rattle.sasi_host.specs.Names.{Bytes}
use Rattle.sasi_model.specs.Cells.{Partition}
use Rattle.sasi_model.specs.IndexTerms.{terms_of_cell}
use Rattle.sasi_segments.specs.declared.posting.Posting.{Posting}
use Rattle.sasi_segments.specs.Postings.{in_order}
use Rattle.sasi_segments.proofs.Order.{none_in_order}
use Rattle.sasi_datawrite.specs.Format.{Content, front, header, key_pairs, pairs_from, partition_bytes, partitions}
use Rattle.sasi_datawrite.proofs.Laws.{pairs_length, pairs_push, partition_length}
use Rattle.sasi_indexwrite.proofs.Callers.{none_gathered}
use Rattle.sasi_postings.specs.Postings.{AreGathered, gathered_postings, is_short, paired, postings_at, with_postings}
use Rattle.sasi_postings.proofs.Adding.{with_both, with_in_order}
use Rattle.sasi_postings.proofs.Terms.{gathered_with}

zip_push : {A B : Type 0} (xs : List A) (ys : List B) (a : A) (b : B) → length xs ≡ length ys → zip (xs ++ a ∷ []) (ys ++ b ∷ []) ≡ zip xs ys ++ (a, b) ∷ []
zip_push [] [] a b same = refl
zip_push [] (y ∷ ys) a b same = absurd (omega (arith, same))
zip_push (x ∷ xs) [] a b same = absurd (omega (arith, same))
zip_push {A} {B} (x ∷ xs) (y ∷ ys) a b same = ap (λ (l : List (A × B)). (x, y) ∷ l) (zip_push xs ys a b (omega (arith, same)))

abbrev pub pair_for : Partitioner → Bytes → ℕ → Pair
pair_for partitioner key place = record { token = token_of partitioner key; place = place }

abbrev parts : Content → List Partition
parts content = map (λ (one : Bytes × Partition). one.1) content

module _ (partitioner : Partitioner) (column : ℕ) (rule : Option Rule) where
  abbrev of_short : Pair × Partition → List Posting
  of_short one = postings_at is_short column rule one.0 one.1

  paired_push : (content : Content) (key : Bytes) (part : Partition) → paired partitioner (content ++ (key, part) ∷ []) ≡ paired partitioner content ++ (pair_for partitioner key (length (front content)), part) ∷ []
  paired_push content key part =
      ap (λ (ps : List Pair). zip ps (parts (content ++ (key, part) ∷ []))) (pairs_push partitioner (length header) content key part)
      ∙ ap (λ (n : ℕ). zip (key_pairs partitioner content ++ pair_for partitioner key n ∷ []) (parts (content ++ (key, part) ∷ []))) (sym (length-append header (partitions content)))
      ∙ ap (λ (l : List Partition). zip (key_pairs partitioner content ++ pair_for partitioner key (length (front content)) ∷ []) l) (map-append (λ (one : Bytes × Partition). one.1) content ((key, part) ∷ []))
      ∙ zip_push (key_pairs partitioner content) (parts content) (pair_for partitioner key (length (front content))) part (pairs_length partitioner (length header) content ∙ sym (length-map content (λ (one : Bytes × Partition). one.1)))

  -- one more partition adds its postings, at the offset where the others end
  pub postings_push : (content : Content) (key : Bytes) (part : Partition) → gathered_postings partitioner column rule (content ++ (key, part) ∷ [])
      ≡ with_postings (gathered_postings partitioner column rule content) (postings_at is_short column rule (record { token = token_of partitioner key; place = length (front content) }) part)
  postings_push content key part =
      ap (λ (l : List (Pair × Partition)). in_order (flat_map of_short l)) (paired_push content key part)
      ∙ ap in_order (flat_map-append of_short (paired partitioner content) ((pair_for partitioner key (length (front content)), part) ∷ []) ∙ ap (λ (l : List Posting). flat_map of_short (paired partitioner content) ++ l) (append-nil (postings_at is_short column rule (pair_for partitioner key (length (front content))) part)))
      ∙ sym (with_in_order (flat_map of_short (paired partitioner content)) (postings_at is_short column rule (pair_for partitioner key (length (front content))) part))

  -- where there is no partition, there is no posting
  pub postings_none : gathered_postings partitioner column rule [] ≡ []
  postings_none = none_in_order

module _ (kept : Bytes → Bool) (shorter : (term : Bytes) → kept term ≡ true → is_short term ≡ true) (partitioner : Partitioner) (column : ℕ) (rule : Option Rule) where
  abbrev each_of : Pair × Partition → List Posting
  each_of one = postings_at kept column rule one.0 one.1

  gathered_from : (at : ℕ) (content : Content) (all : List Posting) → AreGathered all at
      → AreGathered (with_postings all (flat_map each_of (zip (pairs_from partitioner at content) (parts content)))) (at + length (partitions content))
  gathered_from at [] all old = subst (λ (n : ℕ). AreGathered all n) (omega arith) old
  gathered_from at (one ∷ others) all old =
      let size = length (partition_bytes one.0 one.1) in
      let mine = postings_at kept column rule (pair_for partitioner one.0 at) one.1 in
      let rest = flat_map each_of (zip (pairs_from partitioner (at + size) others) (parts others)) in
      let long : 4 ≤ size = omega (arith, partition_length one.0 one.1) in
      let first : AreGathered (with_postings all mine) (at + size) = gathered_with kept shorter all (pair_for partitioner one.0 at) (terms_of_cell rule (map_.get one.1.cells column)) (at + size) (omega (arith, long)) old in
      let others_too : AreGathered (with_postings (with_postings all mine) rest) (at + size + length (partitions others)) = gathered_from (at + size) others (with_postings all mine) first in
      subst (λ (n : ℕ). AreGathered (with_postings all (mine ++ rest)) n) (omega (arith, length-append (partition_bytes one.0 one.1) (partitions others)))
      (subst (λ (l : List Posting). AreGathered l (at + size + length (partitions others))) (with_both all mine rest) others_too)

  -- an index file can be written of them
  pub content_gathered : (content : Content) → AreGathered (in_order (flat_map each_of (paired partitioner content))) (length (front content))
  content_gathered content =
      let none : AreGathered [] (length header) = record { sorted = none_gathered; below = tt } in
      let is : with_postings [] (flat_map each_of (paired partitioner content)) ≡ in_order (flat_map each_of (paired partitioner content)) =
      ap (λ (l : List Posting). with_postings l (flat_map each_of (paired partitioner content))) (sym none_in_order) ∙ with_in_order [] (flat_map each_of (paired partitioner content)) in
      subst (λ (l : List Posting). AreGathered l (length (front content))) is
      (subst (λ (n : ℕ). AreGathered (with_postings [] (flat_map each_of (paired partitioner content))) n) (sym (length-append header (partitions content))) (gathered_from (length header) content [] none))
