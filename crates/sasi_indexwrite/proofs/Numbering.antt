-- The blocks of entries as one more comes: each entry before keeps the number of its block.
use Rattle.std.proofs.Common.{◌≡◌, ℕ, zero, suc, ◌+◌, ◌-◌, ◌≤◌, Bool, true, false, List, [], ◌∷◌, ◌++◌, length, Some, None, refl, sym, ◌∙◌, ap, subst, arith, append_assoc, append-nil}
use Rattle.std.specs.Prelude.{nat_le, replicate, if◌then◌else◌}
use Rattle.std.specs.List.{zip}
use Rattle.std.proofs.lemmas.List.{length_push, map_push}
use Rattle.std.proofs.lemmas.List.Sums.{fold-append}
use Rattle.sasi_termblocks.specs.declared.term_entry.TermEntry.{TermEntry}
use Rattle.sasi_termblocks.specs.Blocks.{Cut, Item, add, blocks, cut_of, items_of, size, term_item, with_last}
use Rattle.sasi_indexwrite.specs.Content.{TermPairs}
use Rattle.sasi_indexwrite.specs.Superblocks.{block_numbers, inline_blocks, inline_entries, numbered_terms}

numbers_join : (n : ℕ) (a b : List (List Item)) → block_numbers n (a ++ b) ≡ block_numbers n a ++ block_numbers (n + length a) b
numbers_join n [] b = ap (λ (m : ℕ). block_numbers m b) (omega arith)
numbers_join n (x ∷ a) b =
    ap (λ (l : List ℕ). replicate (length x) n ++ l) (numbers_join (suc n) a b ∙ ap (λ (m : ℕ). block_numbers (suc n) a ++ block_numbers m b) (omega arith))
    ∙ sym (append_assoc (replicate (length x) n) (block_numbers (suc n) a) (block_numbers (n + length (x ∷ a)) b))

-- those of the full blocks, and then those of the last one
last_numbers : (full : List (List Item)) (last : List Item) → block_numbers 0 (with_last full last) ≡ block_numbers 0 full ++ replicate (length last) (length full)
last_numbers full [] = sym (append-nil (block_numbers 0 full))
last_numbers full (x ∷ xs) =
    numbers_join 0 full ((x ∷ xs) ∷ [])
    ∙ ap (λ (l : List ℕ). block_numbers 0 full ++ l) (append-nil (replicate (length (x ∷ xs)) (0 + length full)) ∙ ap (λ (m : ℕ). replicate (length (x ∷ xs)) m) (omega arith))

closed_numbers : (full : List (List Item)) (last : List Item) → block_numbers 0 (full ++ last ∷ []) ++ [] ≡ block_numbers 0 (with_last full last)
closed_numbers full last =
    append-nil (block_numbers 0 (full ++ last ∷ [])) ∙ numbers_join 0 full (last ∷ [])
    ∙ ap (λ (l : List ℕ). block_numbers 0 full ++ l) (append-nil (replicate (length last) (0 + length full)) ∙ ap (λ (m : ℕ). replicate (length last) m) (omega arith)) ∙ sym (last_numbers full last)

replicate_push : (n x : ℕ) → replicate (suc n) x ≡ replicate n x ++ x ∷ []
replicate_push zero x = refl
replicate_push (suc n) x = ap (λ (l : List ℕ). x ∷ l) (replicate_push n x)

last_length : (full : List (List Item)) (last : List Item) (item : Item) → length (with_last full (last ++ item ∷ [])) ≡ length full + 1
last_length full [] item = omega (arith, length_push full (item ∷ []))
last_length full (x ∷ xs) item = omega (arith, length_push full (x ∷ (xs ++ item ∷ [])))

with_most : (full : List (List Item)) (last : List Item) → (length full ≤ length (with_last full last)) × (length (with_last full last) ≤ length full + 1)
with_most full [] = (omega arith, omega arith)
with_most full (x ∷ xs) = (omega (arith, length_push full (x ∷ xs)), omega (arith, length_push full (x ∷ xs)))

-- an entry more is in the last block, and those before are where they were
pub record OneMore (was now : List (List Item)) : Type 0 where
  pub numbers : block_numbers 0 now ≡ block_numbers 0 was ++ (length now - 1) ∷ []
  pub some : 1 ≤ length now
  pub above : length was ≤ length now
  pub near : length now ≤ length was + 2

one_in : (full : List (List Item)) (last : List Item) (item : Item) (was : List (List Item)) → block_numbers 0 full ++ replicate (length last) (length full) ≡ block_numbers 0 was → length was ≤ length full + 1 → length full ≤ length was + 1
    → OneMore was (with_last full (last ++ item ∷ []))
one_in full last item was same above near = record {
  numbers =
      last_numbers full (last ++ item ∷ [])
      ∙ ap (λ (n : ℕ). block_numbers 0 full ++ replicate n (length full)) longer
      ∙ ap (λ (l : List ℕ). block_numbers 0 full ++ l) (replicate_push (length last) (length full))
      ∙ sym (append_assoc (block_numbers 0 full) (replicate (length last) (length full)) (length full ∷ []))
      ∙ ap (λ (l : List ℕ). l ++ length full ∷ []) same
      ∙ ap (λ (n : ℕ). block_numbers 0 was ++ n ∷ []) number;
  some = omega (arith, last_length full last item);
  above = omega (arith, last_length full last item, above);
  near = omega (arith, last_length full last item, near);
}
  where
    longer : length (last ++ item ∷ []) ≡ suc (length last)
    longer = omega (arith, length_push last item)

    number : length full ≡ length (with_last full (last ++ item ∷ [])) - 1
    number = omega (arith, last_length full last item)

one_added : (cut : Cut) (item : Item) → OneMore (with_last cut.full cut.last) (with_last (add cut item).full (add cut item).last)
one_added cut item = by_test (nat_le (size cut.last + (2 + length item.bytes)) 4096)
  where
    by_test : (b : Bool) → OneMore (with_last cut.full cut.last) (with_last (if b then cut else record { full = cut.full ++ cut.last ∷ []; last = [] }).full ((if b then cut else record { full = cut.full ++ cut.last ∷ []; last = [] }).last ++ item ∷ []))
    by_test true = one_in cut.full cut.last item (with_last cut.full cut.last) (sym (last_numbers cut.full cut.last)) (with_most cut.full cut.last).1 (omega (arith, (with_most cut.full cut.last).0))
    by_test false =
        one_in (cut.full ++ cut.last ∷ []) [] item (with_last cut.full cut.last) (closed_numbers cut.full cut.last)
        (omega (arith, length_push cut.full cut.last, (with_most cut.full cut.last).1)) (omega (arith, length_push cut.full cut.last, (with_most cut.full cut.last).0))

one_pushed : (items : List Item) (item : Item) → OneMore (blocks items) (blocks (items ++ item ∷ []))
unfolding cut_of
one_pushed items item =
    subst (λ (c : Cut). OneMore (blocks items) (with_last c.full c.last)) (sym (fold-append add (record { full = []; last = [] }) items (item ∷ []))) (one_added (cut_of items) item)

-- ---- terms with their pairs in their entries

pub inline_push : (terms : List TermPairs) (one : TermPairs) → inline_entries (terms ++ one ∷ []) ≡ inline_entries terms ++ inline_entries (one ∷ [])
inline_push terms one = map_push (λ (t : TermPairs). record { term = t.0; list = None; inline = Some t.1 }) terms one

pub term_pushed : (terms : List TermPairs) (one : TermPairs) → OneMore (inline_blocks terms) (inline_blocks (terms ++ one ∷ []))
term_pushed terms one =
    let entry : TermEntry = record { term = one.0; list = None; inline = Some one.1 } in
    subst (λ (l : List Item). OneMore (inline_blocks terms) (blocks l)) (sym (ap items_of (inline_push terms one) ∙ map_push term_item (inline_entries terms) entry))
    (one_pushed (items_of (inline_entries terms)) (term_item entry))

zip_push : (xs : List ℕ) (ys : List TermPairs) (x : ℕ) (y : TermPairs) → length xs ≡ length ys → zip (xs ++ x ∷ []) (ys ++ y ∷ []) ≡ zip xs ys ++ (x, y) ∷ []
zip_push [] [] x y same = refl
zip_push [] (b ∷ ys) x y same = absurd (omega (arith, same))
zip_push (a ∷ xs) [] x y same = absurd (omega (arith, same))
zip_push (a ∷ xs) (b ∷ ys) x y same = ap (λ (l : List (ℕ × TermPairs)). (a, b) ∷ l) (zip_push xs ys x y (omega (arith, same)))

pub numbered_push : (terms : List TermPairs) (one : TermPairs) → length (block_numbers 0 (inline_blocks terms)) ≡ length terms
    → numbered_terms (terms ++ one ∷ []) ≡ numbered_terms terms ++ (length (inline_blocks (terms ++ one ∷ [])) - 1, one) ∷ []
numbered_push terms one long =
    ap (λ (l : List ℕ). zip l (terms ++ one ∷ [])) (term_pushed terms one).numbers
    ∙ zip_push (block_numbers 0 (inline_blocks terms)) terms (length (inline_blocks (terms ++ one ∷ [])) - 1) one long
