-- The numbers of pairs that were written fit their fields.
use Rattle.std.proofs.Common.{◌≡◌, ℕ, zero, suc, ◌+◌, ◌-◌, ◌*◌, ◌^◌, ◌<◌, ◌≤◌, List, [], ◌∷◌, length, refl, sym, subst, arith, lit<, ⊎_elim}
use Rattle.std.proofs.lemmas.Bool.Decides.{leb_tells}
use Rattle.sasi_types.specs.declared.tree.Pair.{Pair}
use Rattle.sasi_tokentree.specs.Format.{pair_at, nodes, entries_of_node, AreFit}
use Rattle.sasi_tokentree.proofs.StoredLevels.{part_at}

-- the numbers of one pair fit
abbrev pub IsFit : Pair → Type 0
IsFit pair = (pair.token < 2 ^ 64) × (pair.place < 2 ^ 64)

-- those of the first so many do
abbrev pub FirstFit : List Pair → ℕ → Type 0
FirstFit entries count = (index : ℕ) → index < count → IsFit (pair_at entries index)

past : (entries : List Pair) (index : ℕ) → length entries ≤ index → pair_at entries index ≡ record { token = 0; place = 0 }
past [] zero le = refl
past [] (suc index) le = refl
past (one ∷ others) zero le = absurd (omega arith)
past (one ∷ others) (suc index) le = past others index (omega arith)

pub first_none : (entries : List Pair) → FirstFit entries 0
first_none entries index lt = absurd (omega arith)

pub first_more : (entries : List Pair) (count : ℕ) → FirstFit entries count → IsFit (pair_at entries count) → FirstFit entries (count + 1)
first_more entries count first one index lt = ⊎_elim
    (λ last. subst (λ (n : ℕ). IsFit (pair_at entries n)) (omega (arith, last.1, lt)) one)
    (λ below. first index below.1)
    (leb_tells count index)

pub all_fit : (entries : List Pair) (count : ℕ) → length entries ≤ count → FirstFit entries count → AreFit entries
all_fit entries count enough first index = ⊎_elim
    (λ behind. subst (λ (p : Pair). IsFit p) (sym (past entries index behind.1)) (lit< tt, lit< tt))
    (λ within. first index (omega (arith, within.1, enough)))
    (leb_tells (length entries) index)

-- a node more of a level
pub node_more : (entries here : List Pair) (index : ℕ) → here ≡ entries_of_node entries index → FirstFit entries (255 * index) → AreFit here → FirstFit entries (255 * (index + 1))
node_more entries here index is first fit k lt = ⊎_elim
    (λ behind.
    let same : 255 * index + (k - 255 * index) ≡ k = omega (arith, behind.1) in
    subst (λ (n : ℕ). IsFit (pair_at entries n)) same
    (subst (λ (p : Pair). IsFit p) (part_at entries index (k - 255 * index) (omega (arith, behind.1, lt))) (subst (λ (l : List Pair). IsFit (pair_at l (k - 255 * index))) is (fit (k - 255 * index)))))
    (λ below. first k below.1)
    (leb_tells (255 * index) k)

pub level_fits : (entries : List Pair) (index : ℕ) → index ≡ nodes (length entries) → FirstFit entries (255 * index) → AreFit entries
level_fits entries index all first = all_fit entries (255 * index) (omega (arith, all)) first
