-- The state of a splitter, and the pieces of the rest of a script from there on.
use Rattle.std.specs.Prelude.{◌≡◌, ◌≤◌, ℕ, suc, ◌+◌, Bool, true, false, ◌||◌, ◌==◌, nat_lt, if◌then◌else◌, List, [], ◌∷◌, ◌++◌, length, map, Option, None, Some}
use Rattle.sasi_types.specs.declared.piece.PieceEnd.{PieceEnd}
use Rattle.sasi_types.specs.declared.piece.PieceEnd.TheVariants as ends
use Rattle.sasi_model.specs.Pieces.{to_byte, starts, to_close, closes, is_space, Cut, scan, Piece, Whole, TooLong, Unfinished, piece_of, whole_piece, last_piece, Pieces}
use Rattle.sasi_model.specs.Abbreviations.{behind_first, PIECE_LIMIT}
use Rattle.sasi_cql.specs.declared.mode.ScanMode.{ScanMode}
use Rattle.sasi_cql.specs.declared.mode.ScanMode.TheVariants.{Plain, Dash, Slash, Quote, QuotedName, Line, Block, Star}
use Rattle.sasi_cql.specs.declared.stage.PieceStage.{PieceStage}
use Rattle.sasi_cql.specs.declared.stage.PieceStage.TheVariants.{Front, Begun, Ended}

-- the number of bytes of the rest that belong to what is open
abbrev pub inside : ScanMode → List ℕ → ℕ
inside Plain left = 0
inside Dash left = if starts 45 left then to_byte 10 left else 0
inside Slash left = if starts 47 left then to_byte 10 left else if starts 42 left then suc (to_close (behind_first left)) else 0
inside Quote left = to_byte 39 left
inside QuotedName left = to_byte 34 left
inside Line left = to_byte 10 left
inside Block left = to_close left
inside Star left = if starts 47 left then 1 else to_close left

-- ---- the pieces of what is left, where a piece has begun

-- the piece that ends after `more`; `size` bytes of it came before, and `text` are those that were kept
abbrev pub whole_with : List ℕ → ℕ → List ℕ → Piece
whole_with text size more = if nat_lt PIECE_LIMIT (size + length more) then TooLong true else Whole (text ++ more)

-- the piece of so many bytes that the script ends in
abbrev pub last_sized : ℕ → List Piece
last_sized size = if size == 0 then [] else (if nat_lt PIECE_LIMIT size then TooLong false else Unfinished) ∷ []

-- the pieces of a cut, with the bytes so far
abbrev pub pieces_with : List ℕ → ℕ → List (List ℕ) → List ℕ → Pieces
pieces_with text size [] rest = record { whole = []; last = last_sized (size + length rest) }
pieces_with text size (p ∷ ps) rest = record { whole = whole_with text size p ∷ map whole_piece ps; last = last_piece rest }

-- the pieces of the rest, after the bytes so far and the mode that they leave
abbrev pub continued_pieces : List ℕ → ℕ → ScanMode → List ℕ → Pieces
continued_pieces text size mode left =
    pieces_with text size (scan true (inside mode left) left).whole (scan true (inside mode left) left).rest

-- ---- the pieces of what is left, where none has begun

-- the pieces of a cut
abbrev pub plain_pieces : Cut → Pieces
plain_pieces c = record { whole = map whole_piece c.whole; last = last_piece c.rest }

-- the open comment, of which `size` bytes came, is never closed: it is the last piece
abbrev pub open_pieces : ℕ → List ℕ → Pieces
open_pieces size left = record { whole = []; last = last_sized (size + length left) }

-- after `size` bytes of what is open before a piece. A `-` or `/` alone turns out to begin a piece
abbrev pub front_pieces : ℕ → ScanMode → List ℕ → Pieces
front_pieces size Plain left = plain_pieces (scan false 0 left)
front_pieces size Line left = plain_pieces (scan false (to_byte 10 left) left)
front_pieces size Block left = if closes left then plain_pieces (scan false (to_close left) left) else open_pieces size left
front_pieces size Star left =
    if starts 47 left || closes left then plain_pieces (scan false (inside Star left) left)
    else open_pieces size left
front_pieces size Dash left =
    if starts 45 left then plain_pieces (scan false (to_byte 10 left) left)
    else continued_pieces (45 ∷ []) 1 Plain left
front_pieces size Slash left =
    if starts 47 left then plain_pieces (scan false (to_byte 10 left) left)
    else if starts 42 left then
    (if closes (behind_first left) then plain_pieces (scan false (suc (to_close (behind_first left))) left) else open_pieces 1 left)
    else continued_pieces (47 ∷ []) 1 Plain left
front_pieces size Quote left = open_pieces size left
front_pieces size QuotedName left = open_pieces size left

-- ---- where a splitter stands

pub record SplitterState : Type 0 where
  -- the text of the piece, as far as it is kept
  pub text : List ℕ
  -- the number of bytes of the piece so far, or of the open comment before it, up to one more than a piece may have
  pub size : ℕ
  -- the progress of the piece
  pub stage : PieceStage
  -- what is open
  pub mode : ScanMode

-- the pieces of the rest, by the state of the splitter
abbrev pub pieces_at : PieceStage → List ℕ → ℕ → ScanMode → List ℕ → Pieces
pieces_at Front text size mode left = front_pieces size mode left
pieces_at Begun text size mode left = continued_pieces text size mode left
pieces_at Ended text size mode left = front_pieces 0 Plain left

-- the pieces of the rest of a script
unfoldable pub resume : SplitterState → List ℕ → Pieces
resume s left = pieces_at s.stage s.text s.size s.mode left

-- pieces, and others before them
abbrev pub behind : List Piece → Pieces → Pieces
behind front p = record { whole = front ++ p.whole; last = p.last }

-- the piece that ended so, if one did
abbrev pub reported : Option PieceEnd → List ℕ → List Piece
reported None text = []
reported (Some end) text = piece_of end text ∷ []

-- ---- one more byte

-- what a byte opens where nothing is open
abbrev pub opens : ℕ → ScanMode
opens b = if b == 39 then Quote else if b == 34 then QuotedName else if b == 45 then Dash else if b == 47 then Slash else Plain

-- the mode after one more byte
abbrev pub mode_after : ScanMode → ℕ → ScanMode
mode_after Plain b = opens b
mode_after Dash b = if b == 45 then Line else opens b
mode_after Slash b = if b == 47 then Line else if b == 42 then Block else opens b
mode_after Quote b = if b == 39 then Plain else Quote
mode_after QuotedName b = if b == 34 then Plain else QuotedName
mode_after Line b = if b == 10 then Plain else Line
mode_after Block b = if b == 42 then Star else Block
mode_after Star b = if b == 47 then Plain else if b == 42 then Star else Block

-- the byte ends a piece
abbrev pub ends_at : ScanMode → ℕ → Bool
ends_at Plain b = b == 59
ends_at Dash b = b == 59
ends_at Slash b = b == 59
ends_at _ b = false

-- the byte begins no piece, where none has begun before it
abbrev pub leads : ScanMode → ℕ → Bool
leads Plain b = is_space b || b == 45 || b == 47
leads Dash b = b == 45
leads Slash b = b == 47 || b == 42
leads _ b = true

-- the size with one more byte
abbrev pub size_after : ℕ → ℕ
size_after size = if nat_lt PIECE_LIMIT size then size else suc size

-- the text after one more byte, where `size` bytes came before
abbrev pub kept : List ℕ → ℕ → ℕ → List ℕ
kept text size b = if nat_lt size PIECE_LIMIT then text ++ b ∷ [] else text

-- the stage after a byte of a piece
abbrev pub stage_after : ScanMode → ℕ → PieceStage
stage_after mode b = if ends_at mode b then Ended else Begun

-- before a piece: the byte that may begin it
abbrev pub tentative : ScanMode → List ℕ
tentative Dash = 45 ∷ []
tentative Slash = 47 ∷ []
tentative _ = []

-- before a piece: the size with one more byte, which led to this mode
abbrev pub front_size : ScanMode → ℕ → ℕ
front_size Dash size = 1
front_size Slash size = 1
front_size Block size = size_after size
front_size Star size = size_after size
front_size _ size = 0

-- before a piece: the count of bytes is one that the mode may have
abbrev pub front_fits : ScanMode → ℕ → Bool
front_fits Plain size = size == 0
front_fits Line size = size == 0
front_fits Dash size = size == 1
front_fits Slash size = size == 1
front_fits Block size = true
front_fits Star size = true
front_fits _ size = false

-- what holds of each state of a splitter
pub record IsSplitterState (text : List ℕ) (size : ℕ) (stage : PieceStage) (mode : ScanMode) : Type 0 where
  pub few : length text ≤ PIECE_LIMIT
  pub counted : length text ≤ size
  pub front : stage ≡ Front → (text ≡ tentative mode) × (front_fits mode size ≡ true)

-- ---- the end of a piece

-- the end of a piece of this size at its own last byte, if it has ended
abbrev pub end_at : PieceStage → ℕ → Option PieceEnd
end_at Ended size = Some (if nat_lt PIECE_LIMIT size then ends.TooLong true else ends.Whole)
end_at _ size = None

-- the end of a piece of this size at the end of the script, if there is one
abbrev pub last_end_of : PieceStage → ℕ → Option PieceEnd
last_end_of Ended size = None
last_end_of _ size = if size == 0 then None else Some (if nat_lt PIECE_LIMIT size then ends.TooLong false else ends.Unfinished)
