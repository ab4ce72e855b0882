-- The grammar's reader finds exactly the statements that the grammar spells, and the fault where there is none.
use Rattle.std.proofs.Common.{◌≡◌, ◌<◌, ℕ, suc, true, List, [], ◌∷◌, ◌++◌, length, refl, sym, ap, ◌∙◌, append_assoc, append-nil, subst, ◌↔◌, arith}
use Rattle.sasi_model.specs.Tokens.{Token}
use Rattle.sasi_model.specs.Forms.{Form, Spells, Begins}
use Rattle.sasi_model.specs.FormReader.{Reading, Got, Stuck, read, ended, decides}
use Rattle.sasi_model.specs.Faults.{IsFault}
use Rattle.sasi_model.specs.Statements.{piece}
use Rattle.sasi_cql.proofs.Explained.{Explains, begins_whole, explained}
use Rattle.sasi_cql.proofs.Completed.{complete}
use Rattle.sasi_cql.proofs.Passing.{left_of, Leaves, passes}

-- everywhere in the grammar the next token decides
pub piece_decides : decides piece ≡ true
piece_decides = refl

module _ {A : Type 0} (form : Form A) (d : decides form ≡ true) where
  spelled : (tokens : List Token) (value : A) (r : Reading A) → Explains (Spells form) (Begins form) tokens r → r ≡ Got value [] → Spells form value tokens
  spelled tokens value (Stuck size) e h = absurd cc
  spelled tokens value (Got v behind) e h =
      let same : v ≡ value = cc in
      let none : behind ≡ [] = cc in
      let whole : tokens ≡ e.front = e.whole ∙ rw none (simp append-nil) in
      let P : A → List Token → Type 0 = λ a ts. Spells form a ts in
      subst (λ (ts : List Token). P value ts) (sym whole) (subst (λ (a : A). P a e.front) same e.is)

  -- a whole text is read exactly where it is spelled
  pub agrees : (tokens : List Token) (value : A) → (read form tokens ≡ Got value []) ↔ Spells form value tokens
  agrees tokens value = (spelled tokens value (read form tokens) (explained form tokens), λ s. read_whole s) where
    read_whole : Spells form value tokens → read form tokens ≡ Got value []
    read_whole s = let P : List Token → Type 0 = λ ts. read form ts ≡ Got value [] in subst P (append-nil tokens) (complete form value tokens [] d s refl)

  no_further : (tokens front rest : List Token) (t : Token) (r : Reading A) → read form tokens ≡ r → tokens ≡ front ++ t ∷ rest → length rest < left_of r → ¬ (Begins form (front ++ t ∷ []))
  no_further tokens front rest t r is whole more b =
      let P : List Token → Type 0 = λ ts. Leaves (read form ts) rest in
      let all : (front ++ t ∷ []) ++ rest ≡ tokens = sym (rw whole (simp append_assoc)) in
      let passed : Leaves (read form tokens) rest = subst P all (passes form (front ++ t ∷ []) rest d b) in
      let Q : Reading A → Type 0 = λ r. Leaves r rest in
      let left = subst Q is passed in
      absurd (omega arith)

  -- where the reader is stuck is the fault
  pub stuck_is_fault : (tokens : List Token) (size : ℕ) → read form tokens ≡ Stuck size → IsFault form tokens size
  stuck_is_fault tokens size is = by_reading (read form tokens) (explained form tokens) is refl where
    by_reading : (r : Reading A) → Explains (Spells form) (Begins form) tokens r → r ≡ Stuck size → read form tokens ≡ r → IsFault form tokens size
    by_reading (Got v behind) e h p = absurd cc
    by_reading (Stuck n) e h p =
        let same : n ≡ size = cc in
        record {
          front = e.2.front;
          left = e.0;
          whole = e.2.whole;
          counted = e.1 ∙ same;
          begins = e.2.is;
          ends = λ t rest left_is. no_further tokens e.2.front rest t (Stuck n) p (e.2.whole ∙ ap (λ (ts : List Token). e.2.front ++ ts) left_is) (let size = ap length left_is in let is = e.1 in omega arith);
        }

  -- so is what stands behind a text
  pub behind_is_fault : (tokens : List Token) (value : A) (t : Token) (rest : List Token) → read form tokens ≡ Got value (t ∷ rest) → IsFault form tokens (suc (length rest))
  behind_is_fault tokens value t rest is = by_reading (read form tokens) (explained form tokens) is refl where
    by_reading : (r : Reading A) → Explains (Spells form) (Begins form) tokens r → r ≡ Got value (t ∷ rest) → read form tokens ≡ r → IsFault form tokens (suc (length rest))
    by_reading (Stuck n) e h p = absurd cc
    by_reading (Got v behind) e h p =
        let same : behind ≡ t ∷ rest = cc in
        record {
          front = e.front;
          left = behind;
          whole = e.whole;
          counted = ap length same;
          begins = begins_whole form v e.front e.is;
          ends = λ u us left_is. no_further tokens e.front us u (Got v behind) p (e.whole ∙ ap (λ (ts : List Token). e.front ++ ts) left_is) (let size = ap length left_is in omega arith);
        }

  -- ---- whole texts

  whole_got : (r : Reading A) (value : A) (behind : List Token) → ended r ≡ Got value behind → r ≡ Got value []
  whole_got (Got v []) value behind h = let same : v ≡ value = cc in ap (λ (a : A). Got a []) same
  whole_got (Got v (t ∷ ts)) value behind h = absurd cc
  whole_got (Stuck n) value behind h = absurd cc

  pub reads : (tokens : List Token) (value : A) (behind : List Token) → ended (read form tokens) ≡ Got value behind → Spells form value tokens
  reads tokens value behind h = (agrees tokens value).0 (whole_got (read form tokens) value behind h)

  pub refuses : (tokens : List Token) (n : ℕ) → ended (read form tokens) ≡ Stuck n → (value : A) → ¬ (Spells form value tokens)
  refuses tokens n stuck value s =
      let got = (agrees tokens value).1 s in
      let P : Reading A → Type 0 = λ r. ended r ≡ Stuck n in
      let both : Got value [] ≡ Stuck n = subst P got stuck in
      absurd cc

  pub place : (tokens : List Token) (n : ℕ) → ended (read form tokens) ≡ Stuck n → IsFault form tokens n
  place tokens n stuck = by_reading (read form tokens) refl stuck where
    by_reading : (r : Reading A) → read form tokens ≡ r → ended r ≡ Stuck n → IsFault form tokens n
    by_reading (Got v []) p h = absurd cc
    by_reading (Got v (t ∷ rest)) p h =
        let same : suc (length rest) ≡ n = cc in
        let P : ℕ → Type 0 = λ k. IsFault form tokens k in
        subst P same (behind_is_fault tokens v t rest p)
    by_reading (Stuck m) p h =
        let same : m ≡ n = cc in
        let P : ℕ → Type 0 = λ k. IsFault form tokens k in
        subst P same (stuck_is_fault tokens m p)

  -- tokens stand for one value
  pub one_value : (tokens : List Token) (one other : A) → Spells form one tokens → Spells form other tokens → one ≡ other
  one_value tokens one other s t =
      let both : Got one [] ≡ Got other [] = sym ((agrees tokens one).1 s) ∙ (agrees tokens other).1 t in
      cc
