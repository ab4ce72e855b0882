-- Strings between quotes: how many bytes they have, and the text that stands there.
use Rattle.std.proofs.Common.{◌≡◌, ℕ, suc, ◌+◌, ◌≤◌, ◌<◌, Bool, true, false, not, ◌==◌, cond, List, [], ◌∷◌, length, take, drop, get_or, Option, None, Some, refl, sym, ap, ◌∙◌, arith, add-one}
use Rattle.std.proofs.Math.Seq.{drop-cons}
use Rattle.std.proofs.lemmas.List.{drop_all}
use Rattle.std.specs.Bool.{then_some}
use Rattle.sasi_model.specs.Tokens.{QuotedText, quoted_on, quoted_text}
use Rattle.sasi_cql.specs.ModelTokens.{quoted_size, undoubled, closes_string, is_first_quote}

-- a size with the bytes before it
abbrev pub size_behind : ℕ → Option ℕ → Option ℕ
size_behind n None = None
size_behind n (Some size) = Some (n + size)

size_behind-zero : (o : Option ℕ) → size_behind 0 o ≡ o
size_behind-zero None = refl
size_behind-zero (Some size) = ap (λ (n : ℕ). Some n) (omega arith)

size_behind-twice : (m n : ℕ) (o : Option ℕ) → size_behind m (size_behind n o) ≡ size_behind (m + n) o
size_behind-twice m n None = refl
size_behind-twice m n (Some size) = ap (λ (n : ℕ). Some n) (omega arith)

size-quoted_on : (b n : ℕ) (q : Option QuotedText) → quoted_size (quoted_on b n q) ≡ size_behind n (quoted_size q)
size-quoted_on b n None = refl
size-quoted_on b n (Some q) = refl

-- how many bytes there are up to and with the closing quote, where a quote stands in front that may be the first of two, or none
abbrev pub closing : Bool → List ℕ → Option ℕ
closing false [] = None
closing true [] = Some 0
closing false (b ∷ bs) = size_behind 1 (closing (b == 39) bs)
closing true (b ∷ bs) = cond (b == 39) (size_behind 1 (closing false bs)) (Some 0)

pub size_is : (bs : List ℕ) → quoted_size (quoted_text bs) ≡ closing false bs
size_is [] = refl
size_is (b ∷ []) = last (b == 39) where
  last : (e : Bool) → quoted_size (cond e (Some (record { text = []; size = 1 })) None) ≡ size_behind 1 (closing e [])
  last true = refl
  last false = refl
size_is (b ∷ c ∷ bs) = first (b == 39) (size_is bs) (size_is (c ∷ bs)) where
  second : (e : Bool) → quoted_size (quoted_text bs) ≡ closing false bs
      → quoted_size (cond e (quoted_on 39 2 (quoted_text bs)) (Some (record { text = []; size = 1 }))) ≡ size_behind 1 (cond e (size_behind 1 (closing false bs)) (Some 0))
  second true p = rw (size-quoted_on 39 2 (quoted_text bs), p, size_behind-twice 1 1 (closing false bs)) refl
  second false p = refl

  first : (e : Bool) → quoted_size (quoted_text bs) ≡ closing false bs → quoted_size (quoted_text (c ∷ bs)) ≡ closing false (c ∷ bs)
      → quoted_size (cond e (cond (c == 39) (quoted_on 39 2 (quoted_text bs)) (Some (record { text = []; size = 1 }))) (quoted_on b 1 (quoted_text (c ∷ bs))))
      ≡ size_behind 1 (closing e (c ∷ bs))
  first true p q = second (c == 39) p
  first false p q = rw (size-quoted_on b 1 (quoted_text (c ∷ bs)), q) refl

pub closing_begun : (bs : List ℕ) → closing false bs ≡ size_behind 0 (closing false (drop 0 bs))
closing_begun bs = sym (size_behind-zero (closing false bs))

is_true : (b : Bool) → not b ≡ false → b ≡ true
is_true true h = refl
is_true false h = absurd cc

is_false : (b : Bool) → not b ≡ true → b ≡ false
is_false false h = refl
is_false true h = absurd cc

-- one more byte
pub closing_more : (bs : List ℕ) (i : ℕ) (quote : Bool) → i < length bs → closing false bs ≡ size_behind i (closing quote (drop i bs))
    → closes_string quote (get_or bs i 0) ≡ false
    → closing false bs ≡ size_behind (i + 1) (closing (is_first_quote quote (get_or bs i 0)) (drop (i + 1) bs))
closing_more bs i true h so_far goes_on =
    so_far ∙ rw (add-one, drop-cons bs i 0 h, is_true (get_or bs i 0 == 39) goes_on) (size_behind-twice i 1 _ ∙ rw add-one refl)
closing_more bs i false h so_far goes_on =
    so_far ∙ rw (add-one, drop-cons bs i 0 h) (size_behind-twice i 1 _ ∙ rw add-one refl)

-- a byte that is no quote after one that is
pub closing_here : (bs : List ℕ) (i : ℕ) (quote : Bool) → i < length bs → closing false bs ≡ size_behind i (closing quote (drop i bs))
    → closes_string quote (get_or bs i 0) ≡ true → closing false bs ≡ Some i
closing_here bs i true h so_far here =
    so_far ∙ rw (drop-cons bs i 0 h, is_false (get_or bs i 0 == 39) here) (ap (λ (n : ℕ). Some n) (omega arith))
closing_here bs i false h so_far here = absurd cc

-- at the end
pub closing_all : (bs : List ℕ) (i : ℕ) (quote : Bool) → length bs ≤ i → i ≤ length bs → closing false bs ≡ size_behind i (closing quote (drop i bs))
    → closing false bs ≡ then_some quote (length bs)
closing_all bs i true h bound so_far = so_far ∙ rw (drop_all i bs h) (ap (λ (n : ℕ). Some n) (omega arith))
closing_all bs i false h bound so_far = so_far ∙ rw (drop_all i bs h) refl

-- a string that is closed after this many bytes
pub record Closed (bs : List ℕ) (q : QuotedText) : Type 0 where
  pub before : ℕ
  pub size_is : q.size ≡ suc before
  pub text_is : undoubled (take before bs) ≡ q.text
  pub bound : q.size ≤ length bs

closed_on : (b n : ℕ) (found : Option QuotedText) (q : QuotedText) → quoted_on b n found ≡ Some q
    → (others : QuotedText) × (found ≡ Some others) × (q ≡ record { text = b ∷ others.text; size = n + others.size })
closed_on b n None q h = absurd cc
closed_on b n (Some others) q h = (others, refl, cc)

closed_here : (b : ℕ) (bs : List ℕ) (q : QuotedText) → Some (record { text = []; size = 1 }) ≡ Some q → Closed (b ∷ bs) q
closed_here b bs q h =
    let is : record { text = []; size = 1 } ≡ q = cc in
    rw (← is) (record { before = 0; size_is = refl; text_is = refl; bound = omega arith })

doubled_more : (bs : List ℕ) (q : QuotedText) → Closed bs q → Closed (39 ∷ 39 ∷ bs) (record { text = 39 ∷ q.text; size = 2 + q.size })
doubled_more bs q k = record {
  before = suc (suc k.before);
  size_is = let is = k.size_is in omega arith;
  text_is = ap (λ (text : List ℕ). 39 ∷ text) k.text_is;
  bound = let bound = k.bound in omega arith;
}

other_more : (b : ℕ) (bs : List ℕ) (q : QuotedText) → (b == 39) ≡ false → Closed bs q → Closed (b ∷ bs) (record { text = b ∷ q.text; size = 1 + q.size })
other_more b bs q other k = record {
  before = suc k.before;
  size_is = let is = k.size_is in omega arith;
  text_is = rw other (ap (λ (text : List ℕ). b ∷ text) k.text_is);
  bound = let bound = k.bound in omega arith;
}

is_quote : (b : ℕ) → (b == 39) ≡ true → b ≡ 39
is_quote b h = grind arith

pub closed : (bs : List ℕ) (q : QuotedText) → quoted_text bs ≡ Some q → Closed bs q
closed [] q h = absurd cc
closed (b ∷ []) q h = last (b == 39) h where
  last : (e : Bool) → cond e (Some (record { text = []; size = 1 })) None ≡ Some q → Closed (b ∷ []) q
  last true h = closed_here b [] q h
  last false h = absurd cc
closed (b ∷ c ∷ bs) q h = first (b == 39) (c == 39) refl refl (closed bs) (closed (c ∷ bs)) h where
  first : (e f : Bool) → (b == 39) ≡ e → (c == 39) ≡ f → ((p : QuotedText) → quoted_text bs ≡ Some p → Closed bs p) → ((p : QuotedText) → quoted_text (c ∷ bs) ≡ Some p → Closed (c ∷ bs) p)
      → cond e (cond f (quoted_on 39 2 (quoted_text bs)) (Some (record { text = []; size = 1 }))) (quoted_on b 1 (quoted_text (c ∷ bs))) ≡ Some q → Closed (b ∷ c ∷ bs) q
  first true true is_b is_c one two h =
      let others = closed_on 39 2 (quoted_text bs) q h in
      rw (others.2, is_quote b is_b, is_quote c is_c) (doubled_more bs others.0 (one others.0 others.1))
  first true false is_b is_c one two h = closed_here b (c ∷ bs) q h
  first false f is_b is_c one two h =
      let others = closed_on b 1 (quoted_text (c ∷ bs)) q h in
      rw others.2 (other_more b (c ∷ bs) others.0 is_b (two others.0 others.1))
