-- The first token of bytes: strings, uuids, names and integers.
use Rattle.std.proofs.Common.{◌≡◌, ℕ, zero, suc, ◌+◌, ◌-◌, ◌*◌, ◌≤◌, ◌<◌, Bool, true, false, ◌==◌, List, [], ◌∷◌, length, take, drop, Option, None, Some, refl, ◌∙◌, length-take, get_or, drop-cons, leb, ltb, cond, arith}
use Rattle.std.proofs.lemmas.List.{drop_all}
use Rattle.uuid.specs.Text.{parsed, parsed_hyphenated}
use Rattle.sasi_model.specs.Pieces.{starts}
use Rattle.sasi_model.specs.Abbreviations.{starts_word, digits_value_on}
use Rattle.sasi_model.specs.Tokens as model
use Rattle.sasi_model.specs.Tokens.{QuotedText, quoted_text, string_lexeme, uuid_in_front, digits_value}
use Rattle.sasi_cql.specs.ModelTokens.{at_most, quoted_size, undoubled}
use Rattle.sasi_cql.proofs.Strings.{closed}

-- ---- strings

pub string_first : (bs : List ℕ) (size : ℕ) → Some size ≡ quoted_size (quoted_text bs)
    → string_lexeme (quoted_text bs) ≡ record { token = model.Quoted (undoubled (take (size - 1) bs)); inside = size }
string_first bs size h = sized (quoted_text bs) refl h where
  sized : (q : Option QuotedText) → quoted_text bs ≡ q → Some size ≡ quoted_size q → string_lexeme q ≡ record { token = model.Quoted (undoubled (take (size - 1) bs)); inside = size }
  sized None p h = absurd cc
  sized (Some q) p h =
      let k = closed bs q p in
      let same_size : size ≡ q.size = cc in
      let is = k.size_is in
      let front : size - 1 ≡ k.before = omega arith in
      rw (front, same_size, k.text_is) refl

pub string_size : (bs : List ℕ) (size : ℕ) → Some size ≡ quoted_size (quoted_text bs) → (0 < size) × (size ≤ length bs)
string_size bs size h = sized (quoted_text bs) refl h where
  sized : (q : Option QuotedText) → quoted_text bs ≡ q → Some size ≡ quoted_size q → (0 < size) × (size ≤ length bs)
  sized None p h = absurd cc
  sized (Some q) p h =
      let k = closed bs q p in
      let same_size : size ≡ q.size = cc in
      let is = k.size_is in
      let bound = k.bound in
      (omega arith, omega arith)

-- ---- uuids

pub too_short : (bytes : List ℕ) → length bytes < 36 → None ≡ uuid_in_front bytes
unfolding uuid_in_front
too_short bytes h =
    let all : length bytes ≤ 36 = omega arith in
    let other : (length (take 36 bytes) == 36) ≡ false = simp length-take (grind arith) in
    rw (drop_all 36 bytes all, other) refl

pub goes_on : (bytes : List ℕ) → starts_word (drop 36 bytes) ≡ true → None ≡ uuid_in_front bytes
unfolding uuid_in_front
goes_on bytes h = rw h refl

hyphenated : (text : List ℕ) → length text ≡ 36 → parsed text ≡ parsed_hyphenated text
hyphenated text h = rw h refl

pub uuid_first : (bytes : List ℕ) → starts_word (drop 36 bytes) ≡ false → length (take 36 bytes) ≡ 36 → parsed (take 36 bytes) ≡ uuid_in_front bytes
unfolding uuid_in_front
uuid_first bytes h size = hyphenated (take 36 bytes) size ∙ rw h refl

pub uuid_size : (bytes uuid : List ℕ) → Some uuid ≡ uuid_in_front bytes → 36 ≤ length bytes
uuid_size bytes uuid h = by_test (ltb (length bytes) 36) refl where
  by_test : (short : Bool) → ltb (length bytes) 36 ≡ short → 36 ≤ length bytes
  by_test true p = let none = too_short bytes (grind arith) in absurd cc
  by_test false p = grind arith

pub not_parsed : (text : List ℕ) → ((u : List ℕ) × (parsed text ≡ Some u) → false ≡ true) → None ≡ parsed text
not_parsed text none = by_result (parsed text) none where
  by_result : (result : Option (List ℕ)) → ((u : List ℕ) × (result ≡ Some u) → false ≡ true) → None ≡ result
  by_result None h = refl
  by_result (Some u) h = let wrong = h (u, refl) in absurd cc

-- ---- quoted names

pub starts_some : (c n : ℕ) (bytes : List ℕ) → starts c (drop n bytes) ≡ true → n + 1 ≤ length bytes
starts_some c zero [] h = absurd cc
starts_some c zero (b ∷ bs) h = omega arith
starts_some c (suc n) [] h = absurd cc
starts_some c (suc n) (b ∷ bs) h = let some = starts_some c n bs h in omega arith

-- ---- integers

grows : (n : ℕ) (digits : List ℕ) → n ≤ digits_value_on n digits
grows n [] = omega arith
grows n (b ∷ bs) = let more = grows (10 * n + (b - 48)) bs in omega arith

-- the digits so far have a value above the limit
pub too_many_digits : (limit : ℕ) (digits : List ℕ) (i value : ℕ) → i < length digits → digits_value digits ≡ digits_value_on value (drop i digits) → None ≡ at_most limit (10 * value + (get_or digits i 0 - 48))
    → None ≡ at_most limit (digits_value digits)
too_many_digits limit digits i value some so_far above =
    let more = grows (10 * value + (get_or digits i 0 - 48)) (drop (suc i) digits) in
    let all : digits_value digits ≡ digits_value_on (10 * value + (get_or digits i 0 - 48)) (drop (suc i) digits) = so_far ∙ rw (drop-cons digits i 0 some) refl in
    by_tests (leb (10 * value + (get_or digits i 0 - 48)) limit) (leb (digits_value digits) limit) refl refl above all more where
      by_tests : (a b : Bool) → leb (10 * value + (get_or digits i 0 - 48)) limit ≡ a → leb (digits_value digits) limit ≡ b → None ≡ cond a (Some (10 * value + (get_or digits i 0 - 48))) None
          → digits_value digits ≡ digits_value_on (10 * value + (get_or digits i 0 - 48)) (drop (suc i) digits)
          → 10 * value + (get_or digits i 0 - 48) ≤ digits_value_on (10 * value + (get_or digits i 0 - 48)) (drop (suc i) digits)
          → None ≡ cond b (Some (digits_value digits)) None
      by_tests true b p q above all more = absurd cc
      by_tests false false p q above all more = refl
      by_tests false true p q above all more = absurd (grind arith)
