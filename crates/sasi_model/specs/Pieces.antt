-- A script is a list of bytes, cut into pieces, one for each statement. A piece ends at the next `;` outside strings, quoted
-- names and comments. Spaces and comments before it are no part of it. The definitions look ahead: for each byte they say
-- how many bytes after it belong to the string, quoted name or comment that it opens.
use Rattle.std.specs.Prelude.{◌++◌, ◌^◌, ℕ, zero, suc, Bool, true, false, ◌||◌, ◌&&◌, ◌==◌, nat_lt, if◌then◌else◌, List, [], ◌∷◌, length, map, drop}
use Rattle.sasi_types.specs.declared.piece.PieceEnd.{PieceEnd}
use Rattle.sasi_types.specs.declared.piece.PieceEnd.TheVariants as ends

-- ---- what a byte opens

-- the number of bytes up to the first c, which counts too; all of them without a c
abbrev pub to_byte : ℕ → List ℕ → ℕ
to_byte c [] = 0
to_byte c (b ∷ bs) = if b == c then 1 else suc (to_byte c bs)

-- there is a first byte, and it passes the test
abbrev pub begins : (ℕ → Bool) → List ℕ → Bool
begins test [] = false
begins test (b ∷ bs) = test b

-- the first byte is c
abbrev pub starts : ℕ → List ℕ → Bool
starts c bytes = begins (λ b. b == c) bytes

-- the number of bytes up to the first `*/`, which counts too; all of them without one
abbrev pub to_close : List ℕ → ℕ
to_close [] = 0
to_close (b ∷ bs) = if b == 42 && starts 47 bs then 2 else suc (to_close bs)

-- there is a `*/`
abbrev pub closes : List ℕ → Bool
closes [] = false
closes (b ∷ bs) = (b == 42 && starts 47 bs) || closes bs

-- a byte and those after it begin with `--` or `//`: a comment up to the end of the line
abbrev pub is_line : ℕ → List ℕ → Bool
is_line b behind = (b == 45 && starts 45 behind) || (b == 47 && starts 47 behind)

-- they begin with `/*`: a comment up to the next `*/`
abbrev pub is_block : ℕ → List ℕ → Bool
is_block b behind = b == 47 && starts 42 behind

-- the number of bytes after a byte that belong to the string, the quoted name or the comment that it opens
abbrev pub opened_by : ℕ → List ℕ → ℕ
opened_by b behind =
    if b == 39 then to_byte 39 behind
    else if b == 34 then to_byte 34 behind
    else if is_line b behind then to_byte 10 behind
    else if is_block b behind then suc (to_close (drop 1 behind))
    else 0

-- a space, a tab, CR or LF
abbrev pub is_space : ℕ → Bool
is_space b = b == 32 || b == 9 || b == 13 || b == 10

-- ---- the cut

-- the pieces that end with their `;`, and the bytes after the last of them
pub record Cut : Type 0 where
  pub whole : List (List ℕ)
  pub rest : List ℕ

abbrev pub byte_in_front : ℕ → List (List ℕ) → List ℕ → Cut
byte_in_front b [] rest = record { whole = []; rest = b ∷ rest }
byte_in_front b (p ∷ ps) rest = record { whole = (b ∷ p) ∷ ps; rest = rest }

-- with one more byte at the start, which ends no piece
abbrev pub in_front : ℕ → Cut → Cut
in_front b c = byte_in_front b c.whole c.rest

-- with one more piece at the start, which is this byte
abbrev pub ended_by : ℕ → Cut → Cut
ended_by b c = record { whole = (b ∷ []) ∷ c.whole; rest = c.rest }

-- The cut of bytes of which the first `inside` belong to a string, a quoted name or a comment. `begun` says that a piece has
-- begun before them. A `/*` without a `*/` is no comment: it begins a piece.
abbrev pub scan : Bool → ℕ → List ℕ → Cut
scan begun inside [] = record { whole = []; rest = [] }
scan true (suc inside) (b ∷ bs) = in_front b (scan true inside bs)
scan false (suc inside) (b ∷ bs) = scan false inside bs
scan true zero (b ∷ bs) = if b == 59 then ended_by b (scan false 0 bs) else in_front b (scan true (opened_by b bs) bs)
scan false zero (b ∷ bs) =
    if is_space b then scan false 0 bs
    else if is_line b bs then scan false (opened_by b bs) bs
    else if is_block b bs && closes (drop 1 bs) then scan false (opened_by b bs) bs
    else if b == 59 then ended_by b (scan false 0 bs)
    else in_front b (scan true (opened_by b bs) bs)

-- ---- the pieces

-- a piece with its text, which has at most 2^20 bytes, or why it has none
pub data Piece : Type 0 where
  Whole : List ℕ → Piece
  -- more bytes; true where a `;` ends it, false where the script does
  TooLong : Bool → Piece
  -- the script ends inside it
  Unfinished : Piece

-- the piece with this end and this text
abbrev pub piece_of : PieceEnd → List ℕ → Piece
piece_of ends.Whole text = Whole text
piece_of (ends.TooLong finished) text = TooLong finished
piece_of ends.Unfinished text = Unfinished

abbrev pub whole_piece : List ℕ → Piece
whole_piece text = if nat_lt (2 ^ 20) (length text) then TooLong true else Whole text

-- the piece of the bytes after the last `;`
abbrev pub last_piece : List ℕ → List Piece
last_piece [] = []
last_piece (b ∷ bs) = (if nat_lt (2 ^ 20) (length (b ∷ bs)) then TooLong false else Unfinished) ∷ []

-- the pieces of a script: those that end with a `;`, and at most one after them
pub record Pieces : Type 0 where
  pub whole : List Piece
  pub last : List Piece

abbrev pub pieces : List ℕ → Pieces
pieces bytes = record { whole = map whole_piece (scan false 0 bytes).whole; last = last_piece (scan false 0 bytes).rest }

abbrev pub all_pieces : List ℕ → List Piece
all_pieces bytes = (pieces bytes).whole ++ (pieces bytes).last
