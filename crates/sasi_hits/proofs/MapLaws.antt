-- The hits of a map, in their order.
use Rattle.std.proofs.Common.{◌≡◌, ℕ, suc, ◌+◌, ◌<◌, ◌≤◌, true, List, [], ◌∷◌, ◌++◌, length, drop, get_or, refl, sym, ap, ◌∙◌, add-one, arith, append_assoc, length-append}
use Rattle.std.proofs.Math.Seq.{drop-cons}
use Rattle.std.proofs.lemmas.List.{append-nil, drop_all}
use Rattle.std.specs.List.{AllByRecursion}
use Rattle.std.specs.List.Sorted.{IsStrictlySortedBy}
use Rattle.std.specs.declared.cmp.Ordering.TheVariants.{Less}
use Rattle.sasi_types.specs.declared.decorated_key.DecoratedKey.{DecoratedKey}
use Rattle.sasi_types.specs.DecoratedKey.{decorated_cmp}
use Rattle.sasi_treemerge.specs.Sources.{is_before}
use Rattle.sasi_ranges.specs.declared.entry.Entry.{Entry}
use Rattle.sasi_ranges.specs.Entries.{Rises}
use Rattle.sasi_hits.specs.MapHits.{key_hits, placed}
use Rattle.sasi_hits.specs.Pairs.{PairsRise, entries_of}
use Rattle.sasi_hits.specs.inside.Rising.{entries_rise}
use Rattle.sasi_hits.proofs.KeyLaws.{less_before}

placed_behind : (key : DecoratedKey) (place at : ℕ) (keys : List DecoratedKey) → place < at → AllByRecursion (λ q. decorated_cmp key q ≡ Less) keys
    → AllByRecursion (λ y. is_before (record { token = key.token; place = place }) y ≡ true) (placed at keys)
placed_behind key place at [] lt all = tt
placed_behind key place at (q ∷ keys) lt all = (less_before key q place at lt all.0, placed_behind key place (suc at) keys (omega (arith, lt)) all.1)

placed_rise : (at : ℕ) (keys : List DecoratedKey) → IsStrictlySortedBy decorated_cmp keys → PairsRise (placed at keys)
unfolding IsStrictlySortedBy
placed_rise at [] sorted = tt
placed_rise at (key ∷ keys) sorted = (placed_behind key at (suc at) keys (omega arith) sorted.0, placed_rise (suc at) keys sorted.1)

pub key_hits_rise : (leaf part : ℕ) (keys : List DecoratedKey) → IsStrictlySortedBy decorated_cmp keys → Rises (key_hits leaf part keys)
key_hits_rise leaf part keys sorted = entries_rise leaf part (placed 0 keys) (placed_rise 0 keys sorted)

-- the hits so far and those that are left
pub record HasPlaced (leaf part : ℕ) (keys : List DecoratedKey) (n : ℕ) (entries : List Entry) : Type 0 where
  pub many : length entries ≡ n
  pub parts : entries ++ entries_of leaf part (placed n (drop n keys)) ≡ key_hits leaf part keys

pub one_placed : (leaf part : ℕ) (keys : List DecoratedKey) (n place : ℕ) (entries new : List Entry) (key : DecoratedKey) → n < length keys → key ≡ get_or keys n key → place ≡ length entries
    → new ≡ entries ++ record { token = key.token; leaf = leaf; part = part; place = place } ∷ [] → HasPlaced leaf part keys n entries → HasPlaced leaf part keys (n + 1) new
one_placed leaf part keys n place entries new key inside is place_is pushed so_far =
    let e : ℕ → Entry = λ k. record { token = key.token; leaf = leaf; part = part; place = k } in
    let rest = drop (n + 1) keys in
    let next : drop n keys ≡ key ∷ rest = rw (add-one, drop-cons keys n key inside, ← is) refl in
    let one_more : n + 1 ≡ suc n = omega arith in
    record {
      many = omega (arith, so_far.many, ap (λ (l : List Entry). length l) pushed, length-append entries (e place ∷ []));
      parts =
          ap (λ (l : List Entry). l ++ entries_of leaf part (placed (n + 1) rest)) pushed
          ∙ ap (λ k. (entries ++ e k ∷ []) ++ entries_of leaf part (placed (n + 1) rest)) (place_is ∙ so_far.many)
          ∙ ap (λ k. (entries ++ e n ∷ []) ++ entries_of leaf part (placed k rest)) one_more
          ∙ append_assoc entries (e n ∷ []) (entries_of leaf part (placed (suc n) rest))
          ∙ ap (λ l. entries ++ entries_of leaf part (placed n l)) (sym next)
          ∙ so_far.parts;
    }

-- all of them are
pub all_placed : (leaf part : ℕ) (keys : List DecoratedKey) (n : ℕ) (entries : List Entry) → length keys ≤ n → HasPlaced leaf part keys n entries → entries ≡ key_hits leaf part keys
all_placed leaf part keys n entries end is =
    sym (append-nil entries) ∙ ap (λ l. entries ++ entries_of leaf part (placed n l)) (sym (drop_all n keys end)) ∙ is.parts
