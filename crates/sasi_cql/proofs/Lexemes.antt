-- The tokens of a text are well-formed.
use Rattle.std.proofs.Common.{◌≡◌, ℕ, zero, suc, ◌+◌, ◌<◌, Bool, true, false, cond, ◌&&◌, ◌||◌, ◌==◌, nat_eq, nat_le, List, [], ◌∷◌, ◌++◌, length, take, drop, get_or, Option, None, Some, refl, sym, ap, subst, ◌∙◌, arith, append_assoc, length-append}
use Rattle.std.proofs.lemmas.List.{append-nil, take_at, drop_at}
use Rattle.std.proofs.Math.Seq.{get_or-append_seam}
use Rattle.std.proofs.lemmas.List.Folds.{length-prefix_len}
use Rattle.std.proofs.lemmas.Str.{IsUtf8-append, IsUtf8-take, IsUtf8-drop, IsCharBoundary-before_ascii, IsCharBoundary-after_ascii}
use Rattle.std.specs.List.{AllByRecursion, list_all, prefix_len}
use Rattle.std.specs.Prelude.{unwrap_or}
use Rattle.std.specs.Str.{IsUtf8}
use Rattle.uuid.specs.Text.{by_index, parsed_hyphenated}
use Rattle.sasi_model.specs.Pieces.{opened_by, starts}
use Rattle.sasi_model.specs.Tokens.{Token, QuotedName, Open, Close, Comma, Star, Equal, Less, LessEqual, More, MoreEqual, Colon, OpenBrace, CloseBrace, Semicolon, Unknown, QuotedText, Lexeme, is_separator, is_word_byte, is_letter, is_digit, lexeme, lower_byte, name_lexeme, negative_lexeme, other_lexeme, positive_lexeme, quoted_on, quoted_text, sign, sign_lexeme, string_lexeme, tokens, tokens_from, uuid_in_front, word_lexeme, word_on}
use Rattle.sasi_model.specs.Abbreviations.{lexeme_or, lower, starts_digit, starts_word}
use Rattle.sasi_model.specs.Naming.{IsName}
use Rattle.sasi_model.specs.WellFormed.{IsWellFormedToken}

-- ---- texts in strings

-- a byte of ASCII, and what stands before it and after it
module _ (front : List ℕ) (b : ℕ) (behind : List ℕ) (ascii : b < 128) (text : IsUtf8 (front ++ b ∷ behind)) where
  here : get_or (front ++ b ∷ behind) (length front) 0 ≡ b
  here = get_or-append_seam front b behind 0

  within : length front < length (front ++ b ∷ behind)
  within = omega (arith, length-append front (b ∷ behind))

  pub utf8_before : IsUtf8 front
  utf8_before =
      subst IsUtf8 (take_at front (b ∷ behind) (length front) refl)
      (IsUtf8-take (front ++ b ∷ behind) (length front) text (IsCharBoundary-before_ascii (front ++ b ∷ behind) (length front) within (omega (arith, here, ascii))))

  after : front ++ b ∷ behind ≡ (front ++ b ∷ []) ++ behind
  after = sym (append_assoc front (b ∷ []) behind)

  pub utf8_behind : IsUtf8 behind
  utf8_behind =
      let cut = IsUtf8-drop (front ++ b ∷ behind) (length front + 1) text (IsCharBoundary-after_ascii (front ++ b ∷ behind) (length front) text within (omega (arith, here, ascii))) in
      let at : length (front ++ b ∷ []) ≡ length front + 1 = omega (arith, length-append front (b ∷ [])) in
      subst IsUtf8 (ap (drop (length front + 1)) after ∙ drop_at (front ++ b ∷ []) behind (length front + 1) at) cut

  pub utf8_with : IsUtf8 (front ++ b ∷ [])
  utf8_with =
      let cut = IsUtf8-take (front ++ b ∷ behind) (length front + 1) text (IsCharBoundary-after_ascii (front ++ b ∷ behind) (length front) text within (omega (arith, here, ascii))) in
      let at : length (front ++ b ∷ []) ≡ length front + 1 = omega (arith, length-append front (b ∷ [])) in
      subst IsUtf8 (ap (take (length front + 1)) after ∙ take_at (front ++ b ∷ []) behind (length front + 1) at) cut

is_39 : (b : ℕ) → nat_eq b 39 ≡ true → b ≡ 39
is_39 b is = grind arith

quoted_some : (b n : ℕ) (o : Option QuotedText) (q : QuotedText) → quoted_on b n o ≡ Some q → (p : QuotedText) × (o ≡ Some p) × (q.text ≡ b ∷ p.text)
quoted_some b n None q is = cc
quoted_some b n (Some p) q is = let e : Some (record { text = b ∷ p.text; size = n + p.size }) ≡ Some q = is in (p, refl, sym (some_text e))
  where
    some_text : {x : QuotedText} → Some x ≡ Some q → x.text ≡ q.text
    some_text {x} e = let same : x ≡ q = cc in ap (λ (x : QuotedText). x.text) same

-- a string's text goes on with what stands before it
string_on : (bs front : List ℕ) (q : QuotedText) → IsUtf8 (front ++ bs) → quoted_text bs ≡ Some q → IsUtf8 (front ++ q.text)
string_on [] front q text is = cc
string_on (b ∷ []) front q text is =
    elim (nat_eq b 39) as (λ v. nat_eq b 39 ≡ v → cond v (Some (record { text = []; size = 1 })) None ≡ Some q → IsUtf8 (front ++ q.text)) [
      | true ↦ λ quote e.
          let empty : q.text ≡ [] = (let same : record { text = []; size = 1 } ≡ q = cc in sym (ap (λ (x : QuotedText). x.text) same)) in
          rw (empty, append-nil) (utf8_before front b [] (omega (arith, is_39 b quote)) text)
      | false ↦ λ other e. cc
    ] refl is
string_on (b ∷ c ∷ bs) front q text is =
    elim (nat_eq b 39) as (λ v. nat_eq b 39 ≡ v → cond v
    (cond (nat_eq c 39) (quoted_on 39 2 (quoted_text bs)) (Some (record { text = []; size = 1 })))
    (quoted_on b 1 (quoted_text (c ∷ bs))) ≡ Some q → IsUtf8 (front ++ q.text)) [
      | true ↦ λ quote e.
          elim (nat_eq c 39) as (λ v. nat_eq c 39 ≡ v → cond v (quoted_on 39 2 (quoted_text bs)) (Some (record { text = []; size = 1 })) ≡ Some q → IsUtf8 (front ++ q.text)) [
            | true ↦ λ second f.
                let p = quoted_some 39 2 (quoted_text bs) q f in
                let small : b < 128 = omega (arith, is_39 b quote) in
                let behind = utf8_behind front b (c ∷ bs) small text in
                let rest = utf8_behind [] c bs (omega (arith, is_39 c second)) behind in
                let with_one : IsUtf8 (front ++ 39 ∷ []) = subst (λ (x : ℕ). IsUtf8 (front ++ x ∷ [])) (is_39 b quote) (utf8_with front b (c ∷ bs) small text) in
                let whole = string_on bs (front ++ 39 ∷ []) p.0 (IsUtf8-append (front ++ 39 ∷ []) bs with_one rest) p.1 in
                rw p.2 (subst IsUtf8 (append_assoc front (39 ∷ []) p.0.text) whole)
            | false ↦ λ other f.
                let empty : q.text ≡ [] = (let same : record { text = []; size = 1 } ≡ q = cc in sym (ap (λ (x : QuotedText). x.text) same)) in
                rw (empty, append-nil) (utf8_before front b (c ∷ bs) (omega (arith, is_39 b quote)) text)
          ] refl e
      | false ↦ λ other e.
          let p = quoted_some b 1 (quoted_text (c ∷ bs)) q e in
          let whole = string_on (c ∷ bs) (front ++ b ∷ []) p.0 (subst IsUtf8 (sym (append_assoc front (b ∷ []) (c ∷ bs))) text) p.1 in
          rw p.2 (subst IsUtf8 (append_assoc front (b ∷ []) p.0.text) whole)
    ] refl is

pub string_is_utf8 : (bs : List ℕ) (q : QuotedText) → IsUtf8 bs → quoted_text bs ≡ Some q → IsUtf8 q.text
string_is_utf8 bs q text is = string_on bs [] q text is

-- ---- words

prefix_passes : (p : ℕ → Bool) (xs : List ℕ) → list_all p (take (prefix_len p xs) xs) ≡ true
prefix_passes p [] = refl
prefix_passes p (x ∷ xs) =
    elim (p x) as (λ v. p x ≡ v → list_all p (take (cond v (1 + prefix_len p xs) 0) (x ∷ xs)) ≡ true) [
      | true ↦ λ yes. let e : 1 + prefix_len p xs ≡ suc (prefix_len p xs) = omega arith in rw (e, yes) (prefix_passes p xs)
      | false ↦ λ no. refl
    ] refl

lower_is_word : (b : ℕ) → is_word_byte b ≡ true → is_word_byte (lower_byte b) ≡ true
lower_is_word b is = grind arith

lower_word : (bs : List ℕ) → list_all is_word_byte bs ≡ true → list_all is_word_byte (lower bs) ≡ true
lower_word [] is = refl
lower_word (b ∷ bs) is =
    let parts = both (is_word_byte b) (list_all is_word_byte bs) is in
    rw (lower_is_word b parts.0) (lower_word bs parts.1)
  where
    both : (x y : Bool) → (x && y) ≡ true → (x ≡ true) × (y ≡ true)
    both true true e = (refl, refl)
    both true false e = cc
    both false y e = cc

-- ---- uuids

size_by_index : (n : ℕ) (f : ℕ → ℕ) → length (by_index n f) ≡ n
unfolding by_index
size_by_index zero f = refl
size_by_index (suc n) f = omega (arith, length-append (by_index n f) (f n ∷ []), size_by_index n f)

uuid_simple : (test : Bool) (f : ℕ → ℕ) (bytes : List ℕ) → cond test (Some (by_index 16 f)) None ≡ Some bytes → length bytes ≡ 16
uuid_simple true f bytes is = let same_bytes : by_index 16 f ≡ bytes = cc in ap length (sym same_bytes) ∙ size_by_index 16 f
uuid_simple false f bytes is = cc

uuid_hyphens : (test other : Bool) (f : ℕ → ℕ) (bytes : List ℕ) → cond test (cond other (Some (by_index 16 f)) None) None ≡ Some bytes → length bytes ≡ 16
uuid_hyphens true other f bytes is = uuid_simple other f bytes is
uuid_hyphens false other f bytes is = cc

uuid_size : (text bytes : List ℕ) → uuid_in_front text ≡ Some bytes → length bytes ≡ 16
unfolding uuid_in_front
uuid_size text bytes is =
    elim (starts_word (drop 36 text)) as (λ v. cond v None (parsed_hyphenated (take 36 text)) ≡ Some bytes → length bytes ≡ 16) [
      | true ↦ λ e. cc
      | false ↦ λ e. uuid_hyphens _ _ _ bytes e
    ] is

-- ---- tokens

sign_written : (b : ℕ) → IsWellFormedToken (sign b)
sign_written b = by (b == 40) (b == 41) (b == 44) (b == 42) (b == 61) (b == 60) (b == 62) (b == 58) (b == 123) (b == 125) (b == 59)
  where
    or_none : (x : Bool) (o : Option Token) (t : Token) → IsWellFormedToken t → IsWellFormedToken (unwrap_or o Unknown) → IsWellFormedToken (unwrap_or (cond x (Some t) o) Unknown)
    or_none true o t this other = this
    or_none false o t this other = other

    by : (c d e f g h i j k l m : Bool) → IsWellFormedToken (unwrap_or (cond c (Some Open) (cond d (Some Close) (cond e (Some Comma) (cond f (Some Star) (cond g (Some Equal) (cond h (Some Less)
        (cond i (Some More) (cond j (Some Colon) (cond k (Some OpenBrace) (cond l (Some CloseBrace) (cond m (Some Semicolon) None))))))))))) Unknown)
    by c d e f g h i j k l m =
        or_none c _ Open tt (or_none d _ Close tt (or_none e _ Comma tt (or_none f _ Star tt (or_none g _ Equal tt (or_none h _ Less tt
        (or_none i _ More tt (or_none j _ Colon tt (or_none k _ OpenBrace tt (or_none l _ CloseBrace tt (or_none m _ Semicolon tt tt))))))))))

sign_lexeme_written : (b : ℕ) (behind : List ℕ) → IsWellFormedToken (sign_lexeme b behind).token
sign_lexeme_written b behind = by (b == 60 && starts 61 behind) (b == 62 && starts 61 behind)
  where
    by : (x y : Bool) → IsWellFormedToken (cond {A = Lexeme} x (record { token = LessEqual; inside = 1 }) (cond y (record { token = MoreEqual; inside = 1 }) (record { token = sign b; inside = 0 }))).token
    by true y = tt
    by false true = tt
    by false false = sign_written b

letter_is_word : (b : ℕ) → is_letter b ≡ true → is_word_byte b ≡ true
letter_is_word b is = by (is_letter b) (is_digit b) (b == 95) is
  where
    by : (x y z : Bool) → x ≡ true → (x || y || z) ≡ true
    by true y z e = refl
    by false y z e = cc

word_written : (b : ℕ) (behind : List ℕ) → is_letter b ≡ true → IsWellFormedToken (word_lexeme b behind).token
word_written b behind is = (omega arith, lower_word (b ∷ take (word_on behind) behind) (rw (letter_is_word b is) (prefix_passes is_word_byte behind)))

string_written : (behind : List ℕ) (o : Option QuotedText) → IsUtf8 behind → quoted_text behind ≡ o → IsWellFormedToken (string_lexeme o).token
string_written behind None text is = tt
string_written behind (Some q) text is = string_is_utf8 behind q text is

name_written_here : (behind : List ℕ) → IsWellFormedToken (name_lexeme behind).token
name_written_here behind = by (nat_le 1 (word_on behind)) (nat_le (word_on behind) 48) (starts 34 (drop (word_on behind) behind)) refl refl
  where
    named : nat_le 1 (word_on behind) ≡ true → nat_le (word_on behind) 48 ≡ true → IsName (take (word_on behind) behind)
    named some short = record {
      some = let n : length (take (word_on behind) behind) ≡ word_on behind = length-prefix_len is_word_byte behind in grind arith;
      short = let n : length (take (word_on behind) behind) ≡ word_on behind = length-prefix_len is_word_byte behind in grind arith;
      word = prefix_passes is_word_byte behind;
    }

    by : (x y z : Bool) → nat_le 1 (word_on behind) ≡ x → nat_le (word_on behind) 48 ≡ y → IsWellFormedToken
        (cond {A = Lexeme} (x && y && z) (record { token = QuotedName (take (word_on behind) behind); inside = suc (word_on behind) })
        (record { token = Unknown; inside = 0 })).token
    by true true true some short = named some short
    by true true false some short = tt
    by true false z some short = tt
    by false y z some short = tt

other_written : (front : List ℕ) (b : ℕ) (behind : List ℕ) → IsUtf8 (front ++ b ∷ behind) → IsWellFormedToken (other_lexeme b behind).token
unfolding other_lexeme
other_written front b behind text = by (is_letter b) (is_digit b) (b == 45 && starts_digit behind) (b == 39) (b == 34) refl refl
  where
    by : (x y z u v : Bool) → is_letter b ≡ x → (b == 39) ≡ u
        → IsWellFormedToken (cond x (word_lexeme b behind)
        (cond y (positive_lexeme b behind) (cond z (negative_lexeme behind)
        (cond u (string_lexeme (quoted_text behind)) (cond v (name_lexeme behind) (sign_lexeme b behind)))))).token
    by true y z u v letter quote = word_written b behind letter
    by false true z u v letter quote = tt
    by false false true u v letter quote = tt
    by false false false true v letter quote = string_written behind (quoted_text behind) (utf8_behind front b behind (omega (arith, is_39 b quote)) text) refl
    by false false false false true letter quote = name_written_here behind
    by false false false false false letter quote = sign_lexeme_written b behind

lexeme_written : (front : List ℕ) (b : ℕ) (behind : List ℕ) → IsUtf8 (front ++ b ∷ behind) → IsWellFormedToken (lexeme b behind).token
unfolding lexeme
lexeme_written front b behind text = by (uuid_in_front (b ∷ behind)) refl
  where
    by : (o : Option (List ℕ)) → uuid_in_front (b ∷ behind) ≡ o → IsWellFormedToken (lexeme_or o (other_lexeme b behind)).token
    by None is = other_written front b behind text
    by (Some bytes) is = uuid_size (b ∷ behind) bytes is

tokens_on : (inside : ℕ) (front bs : List ℕ) → IsUtf8 (front ++ bs) → AllByRecursion IsWellFormedToken (tokens_from inside bs)
tokens_on zero front [] text = tt
tokens_on (suc inside) front [] text = tt
tokens_on (suc inside) front (b ∷ bs) text = tokens_on inside (front ++ b ∷ []) bs (subst IsUtf8 (sym (append_assoc front (b ∷ []) bs)) text)
tokens_on zero front (b ∷ bs) text =
    let behind : IsUtf8 ((front ++ b ∷ []) ++ bs) = subst IsUtf8 (sym (append_assoc front (b ∷ []) bs)) text in
    elim (is_separator b bs) as (λ v. AllByRecursion IsWellFormedToken (cond v (tokens_from (opened_by b bs) bs) ((lexeme b bs).token ∷ tokens_from (lexeme b bs).inside bs))) [
      | true ↦ tokens_on (opened_by b bs) (front ++ b ∷ []) bs behind
      | false ↦ (lexeme_written front b bs text, tokens_on (lexeme b bs).inside (front ++ b ∷ []) bs behind)
    ]

-- the tokens of a text
pub tokens_written : (text : List ℕ) → IsUtf8 text → AllByRecursion IsWellFormedToken (tokens text)
tokens_written text utf8 = tokens_on 0 [] text utf8
