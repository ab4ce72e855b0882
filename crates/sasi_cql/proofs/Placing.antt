-- The tokens of a text and their offsets, one token after another.
use Rattle.std.proofs.Common.{◌≡◌, ◌≤◌, ◌<◌, ℕ, zero, suc, ◌+◌, ◌-◌, Bool, true, false, List, [], ◌∷◌, length, drop, refl, sym, ap, ◌∙◌, cond, arith}
use Rattle.sasi_model.specs.Abbreviations.{behind_first}
use Rattle.sasi_model.specs.Pieces.{closes, opened_by}
use Rattle.sasi_model.specs.Tokens as model
use Rattle.sasi_model.specs.Tokens.{is_separator, lexeme, size_from, tokens, tokens_from}
use Rattle.sasi_cql.specs.declared.token.Token.{Token}
use Rattle.sasi_cql.specs.ModelTokens.{IsLexeme, Skips, IsNextToken, HasNoToken}
use Rattle.sasi_cql.proofs.Comments.{not_closed_behind}

tokens_passed : (n : ℕ) (bs : List ℕ) → tokens_from n bs ≡ tokens (drop n bs)
tokens_passed zero bs = refl
tokens_passed (suc n) [] = refl
tokens_passed (suc n) (b ∷ bs) = tokens_passed n bs

sizes_passed : (n count : ℕ) (bs : List ℕ) → size_from n count bs ≡ size_from 0 count (drop n bs)
sizes_passed zero count bs = refl
sizes_passed (suc n) count [] = refl
sizes_passed (suc n) count (b ∷ bs) = sizes_passed n count bs

-- ---- separators

-- only separators lead from the text to what is left, and no `*/` is behind its first byte where none is found
pub record SkippedSoFar (text left : List ℕ) (unclosed : Bool) : Type 0 where
  pub tokens_are : tokens text ≡ tokens left
  pub sizes_are : (count : ℕ) → size_from 0 count text ≡ size_from 0 count left
  pub no_close : unclosed ≡ true → closes (behind_first left) ≡ false

pub skipped_none : (text : List ℕ) (unclosed : Bool) → (unclosed ≡ true → closes (behind_first text) ≡ false) → SkippedSoFar text text unclosed
skipped_none text unclosed kept = record { tokens_are = refl; sizes_are = λ count. refl; no_close = kept }

size_here : (b : ℕ) (bs : List ℕ) (count : ℕ) → is_separator b bs ≡ true → size_from 0 count (b ∷ bs) ≡ size_from 0 count (drop (opened_by b bs) bs)
size_here b bs zero is = rw is (sizes_passed (opened_by b bs) zero bs)
size_here b bs (suc count) is = rw is (sizes_passed (opened_by b bs) (suc count) bs)

pub skipped_more : (text left : List ℕ) (first : ℕ) (behind : List ℕ) (before unclosed : Bool) → left ≡ first ∷ behind → is_separator first behind ≡ true
    → (unclosed ≡ true → closes (behind_first behind) ≡ false) → SkippedSoFar text left before → SkippedSoFar text (drop (opened_by first behind) behind) unclosed
skipped_more text left first behind before unclosed is separator kept s = record {
  tokens_are = s.tokens_are ∙ rw (is, separator) (tokens_passed (opened_by first behind) behind);
  sizes_are = λ count. s.sizes_are count ∙ rw is (size_here first behind count separator);
  no_close = λ h. not_closed_behind (opened_by first behind) behind (kept h);
}

pub skipped_to : (text left : List ℕ) (first : ℕ) (behind : List ℕ) (before : Bool) → left ≡ first ∷ behind → is_separator first behind ≡ false → SkippedSoFar text left before → Skips text left
skipped_to text left first behind before is other s = record {
  tokens_are = s.tokens_are;
  sizes_are = s.sizes_are;
  at_token = λ b bs here. (let both : first ∷ behind ≡ b ∷ bs = sym is ∙ here in let one : first ≡ b = cc in let rest : behind ≡ bs = cc in rw (← one, ← rest) other);
}

pub skipped_all : (text left : List ℕ) (before : Bool) → left ≡ [] → SkippedSoFar text left before → Skips text left
skipped_all text left before is s = record {
  tokens_are = s.tokens_are;
  sizes_are = s.sizes_are;
  at_token = λ b bs here. (let both : [] ≡ b ∷ bs = sym is ∙ here in absurd cc);
}

-- ---- the next token

pub next_is : (text left : List ℕ) (first : ℕ) (behind : List ℕ) (token : Token) (rest : List ℕ) → left ≡ first ∷ behind → Skips text left → IsLexeme (lexeme first behind) behind token rest → IsNextToken text token rest
next_is text left first behind token rest is s x = record {
  tokens_are = s.tokens_are ∙ rw (is, s.at_token first behind is, x.token_is, x.left_is) (ap (λ (ts : List model.Token). (lexeme first behind).token ∷ ts) (tokens_passed (lexeme first behind).inside behind));
  sizes_are = λ count. s.sizes_are (suc count) ∙ rw (is, s.at_token first behind is, x.left_is) (sizes_passed (lexeme first behind).inside count behind);
}

pub none_is : (text left : List ℕ) → left ≡ [] → Skips text left → HasNoToken text
none_is text left is s = record {
  tokens_are = s.tokens_are ∙ rw is refl;
  sizes_are = λ count. s.sizes_are count ∙ rw is refl;
}

pub next_kept : (left : List ℕ) (first : ℕ) (behind : List ℕ) (token : Token) (rest : List ℕ) (unclosed : Bool) → left ≡ first ∷ behind → IsLexeme (lexeme first behind) behind token rest
    → (unclosed ≡ true → closes (behind_first (behind_first left)) ≡ false) → unclosed ≡ true → closes (behind_first rest) ≡ false
next_kept left first behind token rest unclosed is x kept h = rw x.left_is (not_closed_behind (lexeme first behind).inside behind (rw is at kept h))

-- ---- counts

no_more : (inside : ℕ) (bs : List ℕ) → length (tokens_from inside bs) ≤ length bs
no_more inside [] = omega arith
no_more (suc inside) (b ∷ bs) = let h = no_more inside bs in omega arith
no_more zero (b ∷ bs) = by_test (is_separator b bs) (no_more (opened_by b bs) bs) (no_more (lexeme b bs).inside bs) where
  by_test : (g : Bool) → length (tokens_from (opened_by b bs) bs) ≤ length bs → length (tokens_from (lexeme b bs).inside bs) ≤ length bs
      → length (cond g (tokens_from (opened_by b bs) bs) ((lexeme b bs).token ∷ tokens_from (lexeme b bs).inside bs)) ≤ suc (length bs)
  by_test true h k = omega arith
  by_test false h k = omega arith

-- so many tokens were counted in front of what is left
pub record Counted (text : List ℕ) (count : ℕ) (left : List ℕ) (unclosed : Bool) : Type 0 where
  pub so_far : length (tokens text) ≡ count + length (tokens left)
  pub no_close : unclosed ≡ true → closes (behind_first left) ≡ false

pub counted_more : (text : List ℕ) (count : ℕ) (left : List ℕ) (was unclosed : Bool) (token : Token) (rest : List ℕ) → IsNextToken left token rest → (unclosed ≡ true → closes (behind_first rest) ≡ false)
    → Counted text count left was → Counted text (count + 1) rest unclosed
counted_more text count left was unclosed token rest next kept c = record {
  so_far = (let size = ap length next.tokens_are in let so_far = c.so_far in omega arith);
  no_close = kept;
}

pub counted_to : (text : List ℕ) (count : ℕ) (left : List ℕ) (was : Bool) → HasNoToken left → Counted text count left was → count ≡ length (tokens text)
counted_to text count left was none c = let size = ap length none.tokens_are in let so_far = c.so_far in omega arith

pub counted_all : (text : List ℕ) (left : List ℕ) (was : Bool) → Counted text (length text) left was → length text ≡ length (tokens text)
counted_all text left was c = let most = no_more 0 text in let so_far = c.so_far in omega arith

-- ---- sizes

pub size_fits : (inside count : ℕ) (bs : List ℕ) → size_from inside count bs ≤ length bs
size_fits inside count [] = omega arith
size_fits (suc inside) count (b ∷ bs) = let h = size_fits inside count bs in omega arith
size_fits zero zero (b ∷ bs) = by_test (is_separator b bs) (size_fits (opened_by b bs) zero bs) where
  by_test : (g : Bool) → size_from (opened_by b bs) zero bs ≤ length bs → cond g (size_from (opened_by b bs) zero bs) (suc (length bs)) ≤ suc (length bs)
  by_test true h = omega arith
  by_test false h = omega arith
size_fits zero (suc count) (b ∷ bs) = by_test (is_separator b bs) (size_fits (opened_by b bs) (suc count) bs) (size_fits (lexeme b bs).inside count bs) where
  by_test : (g : Bool) → size_from (opened_by b bs) (suc count) bs ≤ length bs → size_from (lexeme b bs).inside count bs ≤ length bs
      → cond g (size_from (opened_by b bs) (suc count) bs) (size_from (lexeme b bs).inside count bs) ≤ suc (length bs)
  by_test true h k = omega arith
  by_test false h k = omega arith

-- so many tokens were passed on the way to the one that is looked for
pub record Placed (text : List ℕ) (count passed : ℕ) (left : List ℕ) (unclosed : Bool) : Type 0 where
  pub so_far : size_from 0 count text ≡ size_from 0 (count - passed) left
  pub no_close : unclosed ≡ true → closes (behind_first left) ≡ false

pub placed_none : (text : List ℕ) (count : ℕ) → Placed text count 0 text false
placed_none text count = record { so_far = (let same : count - 0 ≡ count = omega arith in rw same refl); no_close = λ h. absurd cc }

pub placed_more : (text : List ℕ) (count passed : ℕ) (left : List ℕ) (was unclosed : Bool) (token : Token) (rest : List ℕ) → passed < count → IsNextToken left token rest → (unclosed ≡ true → closes (behind_first rest) ≡ false)
    → Placed text count passed left was → Placed text count (passed + 1) rest unclosed
placed_more text count passed left was unclosed token rest some next kept p = record {
  so_far =
      let more : count - passed ≡ suc (count - (passed + 1)) = omega arith in
      p.so_far ∙ rw more (next.sizes_are (count - (passed + 1)));
  no_close = kept;
}

pub placed_end : (text : List ℕ) (count passed : ℕ) (left : List ℕ) (was : Bool) → HasNoToken left → Placed text count passed left was → 0 ≡ size_from 0 count text
placed_end text count passed left was none p = sym (p.so_far ∙ none.sizes_are (count - passed))

pub placed_here : (text : List ℕ) (count : ℕ) (left rest : List ℕ) (was : Bool) → Skips left rest → Placed text count count left was → length rest ≡ size_from 0 count text
placed_here text count left rest was s p =
    let none : count - count ≡ 0 = omega arith in
    let here : size_from 0 count text ≡ size_from 0 0 left = p.so_far ∙ rw none refl in
    sym (here ∙ s.sizes_are 0 ∙ by_rest rest s.at_token) where
      by_rest : (bs : List ℕ) → ((b : ℕ) (behind : List ℕ) → bs ≡ b ∷ behind → is_separator b behind ≡ false) → size_from 0 0 bs ≡ length bs
      by_rest [] at = refl
      by_rest (b ∷ bs) at = rw (at b bs refl) refl
