-- The text of a piece as a list of tokens: words, names, literals and signs, with spaces and comments between them. As
-- with pieces, the definitions look ahead: for each token they say how many bytes after its first belong to it. A byte
-- that begins no token is the token Unknown, which no statement has.
use Rattle.std.specs.Prelude.{◌+◌, ◌-◌, ◌*◌, ◌^◌, ℕ, zero, suc, Bool, true, false, ◌||◌, ◌&&◌, ◌==◌, nat_eq, nat_lt, nat_le, if◌then◌else◌, pos, neg_ℤ, List, [], ◌∷◌, length, take, drop, map, Option, None, Some}
use Rattle.std.specs.List.{fold, prefix_len}
use Rattle.std.specs.Cmp.Lexicographic.{pointwise}
use Rattle.std.specs.Map.{lookup}
use Rattle.std.specs.Option.{option_map, option_map_or, unwrap_or}
use Rattle.uuid.specs.Text.{parsed_hyphenated}
use Rattle.sasi_types.specs.declared.literal.Number.{Number}
use Rattle.sasi_types.specs.declared.literal.Number.TheVariants.{Fits, Wide}
use Rattle.sasi_model.specs.Pieces.{is_space, is_line, is_block, closes, opened_by, begins, starts}

pub data Token : Type 0 where
  -- a letter, and the letters, digits and `_` after it, in lower case
  Word : List ℕ → Token
  -- the text between double quotes, in its own case
  QuotedName : List ℕ → Token
  -- the text between single quotes, with doubled quotes made single
  Quoted : List ℕ → Token
  Integer : Number → Token
  -- by its sixteen bytes
  Uuid : List ℕ → Token
  Open : Token
  Close : Token
  Comma : Token
  Star : Token
  Equal : Token
  Less : Token
  LessEqual : Token
  More : Token
  MoreEqual : Token
  Colon : Token
  OpenBrace : Token
  CloseBrace : Token
  Semicolon : Token
  Unknown : Token

-- a token, and how many of the bytes after its first belong to it
pub record Lexeme : Type 0 where
  pub token : Token
  pub inside : ℕ

-- ---- words

abbrev pub is_upper : ℕ → Bool
is_upper b = nat_le 65 b && nat_le b 90

abbrev pub is_letter : ℕ → Bool
is_letter b = is_upper b || (nat_le 97 b && nat_le b 122)

abbrev pub is_digit : ℕ → Bool
is_digit b = nat_le 48 b && nat_le b 57

-- a byte that a word may go on with
abbrev pub is_word_byte : ℕ → Bool
is_word_byte b = is_letter b || is_digit b || b == 95

abbrev pub lower_byte : ℕ → ℕ
lower_byte b = if is_upper b then b + 32 else b

-- the number of letters, digits and `_` at the start
abbrev pub word_on : List ℕ → ℕ
word_on behind = prefix_len is_word_byte behind

abbrev pub word_lexeme : ℕ → List ℕ → Lexeme
word_lexeme b behind = record { token = Word (map lower_byte (b ∷ take (word_on behind) behind)); inside = word_on behind }

-- ---- quoted names

-- of 1 to 48 letters, digits and `_`
abbrev pub name_lexeme : List ℕ → Lexeme
name_lexeme behind =
    if nat_le 1 (word_on behind) && nat_le (word_on behind) 48 && starts 34 (drop (word_on behind) behind)
    then record { token = QuotedName (take (word_on behind) behind); inside = suc (word_on behind) }
    else record { token = Unknown; inside = 0 }

-- ---- strings

-- a string after its opening quote: its text, and how many bytes it has with the closing quote
pub record QuotedText : Type 0 where
  pub text : List ℕ
  pub size : ℕ

abbrev pub quoted_on : ℕ → ℕ → Option QuotedText → Option QuotedText
quoted_on b bytes found = option_map (λ q. record { text = b ∷ q.text; size = bytes + q.size }) found

-- none where no quote closes it
abbrev pub quoted_text : List ℕ → Option QuotedText
quoted_text [] = None
quoted_text (b ∷ []) = if b == 39 then Some (record { text = []; size = 1 }) else None
quoted_text (b ∷ c ∷ bs) =
    if b == 39 then (if c == 39 then quoted_on 39 2 (quoted_text bs) else Some (record { text = []; size = 1 }))
    else quoted_on b 1 (quoted_text (c ∷ bs))

abbrev pub string_lexeme : Option QuotedText → Lexeme
string_lexeme found = option_map_or (λ q. record { token = Quoted q.text; inside = q.size }) found (record { token = Unknown; inside = 0 })

-- ---- integers

-- the value of decimal digits
abbrev pub digits_value : List ℕ → ℕ
digits_value digits = fold (λ n b. 10 * n + (b - 48)) 0 digits

-- 128 bits have the numbers from -2^127 to 2^127 - 1
abbrev pub positive : ℕ → Number
positive n = if nat_lt n (2 ^ 127) then Fits (pos n) else Wide

abbrev pub negative : ℕ → Number
negative n = if nat_le n (2 ^ 127) then Fits (neg_ℤ (pos n)) else Wide

-- the number of digits at the start
abbrev pub digits_on : List ℕ → ℕ
digits_on behind = prefix_len is_digit behind

abbrev pub positive_lexeme : ℕ → List ℕ → Lexeme
positive_lexeme b behind = record { token = Integer (positive (digits_value (b ∷ take (digits_on behind) behind))); inside = digits_on behind }

-- after its `-`
abbrev pub negative_lexeme : List ℕ → Lexeme
negative_lexeme behind = record { token = Integer (negative (digits_value (take (digits_on behind) behind))); inside = digits_on behind }

-- ---- uuids

-- the sixteen bytes of the uuid at the start: 8-4-4-4-12 hexadecimal digits, and then no letter, digit or `_`
unfoldable pub uuid_in_front : List ℕ → Option (List ℕ)
uuid_in_front bytes = if begins is_word_byte (drop 36 bytes) then None else parsed_hyphenated (take 36 bytes)

-- ---- signs

-- the token of a sign of one byte
abbrev pub sign : ℕ → Token
sign b = unwrap_or (lookup (λ c. b == c)
    ((40, Open) ∷ (41, Close) ∷ (44, Comma) ∷ (42, Star) ∷ (61, Equal) ∷ (60, Less) ∷ (62, More) ∷ (58, Colon) ∷ (123, OpenBrace) ∷ (125, CloseBrace) ∷ (59, Semicolon) ∷ [])) Unknown

-- `<=` and `>=` are one sign each
abbrev pub sign_lexeme : ℕ → List ℕ → Lexeme
sign_lexeme b behind =
    if b == 60 && starts 61 behind then record { token = LessEqual; inside = 1 }
    else if b == 62 && starts 61 behind then record { token = MoreEqual; inside = 1 }
    else record { token = sign b; inside = 0 }

-- ---- the tokens

-- the token of a byte and those after it, where it is no uuid
unfoldable pub other_lexeme : ℕ → List ℕ → Lexeme
other_lexeme b behind =
    if is_letter b then word_lexeme b behind
    else if is_digit b then positive_lexeme b behind
    else if b == 45 && begins is_digit behind then negative_lexeme behind
    else if b == 39 then string_lexeme (quoted_text behind)
    else if b == 34 then name_lexeme behind
    else sign_lexeme b behind

-- a uuid is tried first
unfoldable pub lexeme : ℕ → List ℕ → Lexeme
lexeme b behind = option_map_or (λ bytes. record { token = Uuid bytes; inside = 35 }) (uuid_in_front (b ∷ behind)) (other_lexeme b behind)

-- the byte is a space or begins a comment. A `/*` without a `*/` is no comment
unfoldable pub is_separator : ℕ → List ℕ → Bool
is_separator b behind = is_space b || is_line b behind || (is_block b behind && closes (drop 1 behind))

-- the tokens of bytes of which the first `inside` belong to the token or the comment before them
abbrev pub tokens_from : ℕ → List ℕ → List Token
tokens_from inside [] = []
tokens_from (suc inside) (b ∷ bs) = tokens_from inside bs
tokens_from zero (b ∷ bs) =
    if is_separator b bs then tokens_from (opened_by b bs) bs
    else (lexeme b bs).token ∷ tokens_from (lexeme b bs).inside bs

abbrev pub tokens : List ℕ → List Token
tokens text = tokens_from 0 text

-- ---- offsets

-- the number of bytes from a token on that has so many tokens in front of it, 0 where there are no more tokens
abbrev pub size_from : ℕ → ℕ → List ℕ → ℕ
size_from inside count [] = 0
size_from (suc inside) count (b ∷ bs) = size_from inside count bs
size_from zero zero (b ∷ bs) = if is_separator b bs then size_from (opened_by b bs) zero bs else suc (length bs)
size_from zero (suc count) (b ∷ bs) = if is_separator b bs then size_from (opened_by b bs) (suc count) bs else size_from (lexeme b bs).inside count bs

-- the offset of a token that has so many tokens in front of it, the end of the text where there are no more tokens
abbrev pub offset_of : List ℕ → ℕ → ℕ
offset_of text count = length text - size_from 0 count text

-- ---- wanted tokens

-- two texts are the same bytes
abbrev pub same : List ℕ → List ℕ → Bool
same = pointwise nat_eq

-- the token is the one that is wanted, which is a word or a sign
abbrev pub same_token : Token → Token → Bool
same_token (Word wanted) (Word letters) = same letters wanted
same_token Open Open = true
same_token Close Close = true
same_token Comma Comma = true
same_token Star Star = true
same_token Equal Equal = true
same_token Less Less = true
same_token LessEqual LessEqual = true
same_token More More = true
same_token MoreEqual MoreEqual = true
same_token Colon Colon = true
same_token OpenBrace OpenBrace = true
same_token CloseBrace CloseBrace = true
same_token Semicolon Semicolon = true
same_token _ _ = false
