-- One more byte: the pieces of what is left, begun before the byte and after it.
use Rattle.std.proofs.Common.{◌≡◌, ℕ, suc, ◌+◌, Bool, true, false, ◌&&◌, cond, nat_eq, nat_lt, List, [], ◌∷◌, ◌++◌, length, map, refl, sym, ap, ◌∙◌, arith, append_assoc, length-append}
use Rattle.sasi_model.specs.Pieces.{starts, to_close, closes, opened_by, scan, is_space, Cut, in_front, byte_in_front, Piece, Whole, TooLong, Unfinished, whole_piece, last_piece, Pieces}
use Rattle.sasi_model.specs.Abbreviations.{behind_first, PIECE_LIMIT}
use Rattle.sasi_cql.specs.SplitterState.{inside, whole_with, last_sized, pieces_with, plain_pieces, continued_pieces, open_pieces, front_pieces, pieces_at, opens, mode_after, ends_at, leads, size_after, kept, stage_after, tentative, front_size, front_fits, reported, end_at, behind, resume, SplitterState, IsSplitterState}
use Rattle.sasi_cql.specs.declared.mode.ScanMode.{ScanMode}
use Rattle.sasi_cql.specs.declared.mode.ScanMode.TheVariants.{Plain, Dash, Slash, Quote, QuotedName, Line, Block, Star}
use Rattle.sasi_cql.specs.declared.stage.PieceStage.{PieceStage}
use Rattle.sasi_cql.specs.declared.stage.PieceStage.TheVariants.{Front, Begun, Ended}

-- ---- a byte of a piece, in the cut

-- what a byte opens, by the bytes after it and by the mode after it
opened_is : (b : ℕ) (left : List ℕ) → opened_by b left ≡ inside (opens b) left
opened_is b left = grind arith

-- a byte of a piece that ends no piece goes before what is cut after it
body_step : (m : ScanMode) (b : ℕ) (left : List ℕ) → ends_at m b ≡ false
    → scan true (inside m (b ∷ left)) (b ∷ left) ≡ in_front b (scan true (inside (mode_after m b) left) left)
body_step Plain b left e = rw (e, opened_is b left) refl
body_step Dash b left e = grind (arith, opened_is)
body_step Slash b left e = grind (arith, opened_is)
body_step Quote b left e = grind arith
body_step QuotedName b left e = grind arith
body_step Line b left e = grind arith
body_step Block b left e = grind arith
body_step Star b left e = grind arith

-- a comment that nothing closes reaches to the end
unclosed : (bs : List ℕ) → closes bs ≡ false → scan true (to_close bs) bs ≡ record { whole = []; rest = bs }
unclosed [] h = refl
unclosed (b ∷ bs) h =
    let later : closes bs ≡ false = grind arith in
    let here : (nat_eq b 42 && starts 47 bs) ≡ false = grind arith in
    rw (here, unclosed bs later) refl

-- ---- the count of bytes

-- pieces of which none is whole
abbrev only : List Piece → Pieces
only last = record { whole = []; last = last }

-- pieces of which the first, of so many bytes, has this text
abbrev first_of : ℕ → List ℕ → List (List ℕ) → List ℕ → Pieces
first_of size text ps rest = record { whole = cond (nat_lt PIECE_LIMIT size) (TooLong true) (Whole text) ∷ map whole_piece ps; last = last_piece rest }

-- one more byte of a piece that the script ends in
last_front : (size n : ℕ) → last_sized (size + suc n) ≡ last_sized (size_after size + n)
last_front size n = grind arith

-- one more byte of a piece that ends
whole_front : (text : List ℕ) (size b : ℕ) (xs : List ℕ)
    → whole_with text size (b ∷ xs) ≡ whole_with (kept text size b) (size_after size) xs
whole_front text size b xs = grind (arith, append_assoc, length-append)

-- the last piece, by its count of bytes
last_is : (rest : List ℕ) → last_sized (length rest) ≡ last_piece rest
last_is [] = refl
last_is (b ∷ bs) = some (length bs) where
  some : (n : ℕ) → last_sized (suc n) ≡ cond (nat_lt PIECE_LIMIT (suc n)) (TooLong false) Unfinished ∷ []
  some n = grind arith

none_more : (n : ℕ) → 0 + n ≡ n
none_more n = omega arith

one_more : (n : ℕ) → 1 + n ≡ suc n
one_more n = omega arith

front : (text : List ℕ) (size b : ℕ) (whole : List (List ℕ)) (rest : List ℕ)
    → pieces_with text size (byte_in_front b whole rest).whole (byte_in_front b whole rest).rest ≡ pieces_with (kept text size b) (size_after size) whole rest
front text size b [] rest = ap only (last_front size (length rest))
front text size b (p ∷ ps) rest = ap (λ w. record { whole = w ∷ map whole_piece ps; last = last_piece rest }) (whole_front text size b p)

end_front : (text : List ℕ) (size : ℕ)
    → whole_with text size (59 ∷ []) ∷ [] ≡ reported (end_at Ended (size_after size)) (kept text size 59)
end_front text size = grind (arith, append_assoc, length-append)

-- a piece of which nothing has come
plain_with : (c : Cut) → pieces_with [] 0 c.whole c.rest ≡ plain_pieces c
plain_with c = plain_list c.whole c.rest where
  plain_list : (whole : List (List ℕ)) (rest : List ℕ)
      → pieces_with [] 0 whole rest ≡ plain_pieces (record { whole = whole; rest = rest })
  plain_list [] rest = ap only (ap last_sized (none_more (length rest)) ∙ last_is rest)
  plain_list (p ∷ ps) rest = ap (λ n. first_of n p ps rest) (none_more (length p))

-- a byte that begins a piece
first_byte : (b : ℕ) (c : Cut) → plain_pieces (in_front b c) ≡ pieces_with (b ∷ []) 1 c.whole c.rest
first_byte b c = first_list c.whole c.rest where
  first_list : (whole : List (List ℕ)) (rest : List ℕ)
      → plain_pieces (byte_in_front b whole rest) ≡ pieces_with (b ∷ []) 1 whole rest
  first_list [] rest = ap only (sym (last_is (b ∷ rest)) ∙ ap last_sized (sym (one_more (length rest))))
  first_list (p ∷ ps) rest = ap (λ n. first_of n (b ∷ p) ps rest) (sym (one_more (length p)))

-- ---- a byte before a piece

-- a `/*` that nothing closes is the last piece
open_first : (left : List ℕ) → starts 42 left ≡ true → closes (behind_first left) ≡ false
    → plain_pieces (in_front 47 (scan true (suc (to_close (behind_first left))) left)) ≡ open_pieces 1 left
open_first [] s h = refl
open_first (b ∷ bs) s h = rw (unclosed bs h) (ap only (sym (last_is (47 ∷ b ∷ bs)) ∙ ap last_sized (sym (one_more (suc (length bs))))))

front_dash : (size : ℕ) (left : List ℕ) → front_pieces size Plain (45 ∷ left) ≡ front_pieces 1 Dash left
front_dash size left = dash _ refl where
  dash : (line : Bool) → starts 45 left ≡ line → front_pieces size Plain (45 ∷ left) ≡ front_pieces 1 Dash left
  dash true l = rw l refl
  dash false l = rw l (first_byte 45 (scan true 0 left))

front_slash : (size : ℕ) (left : List ℕ) → front_pieces size Plain (47 ∷ left) ≡ front_pieces 1 Slash left
front_slash size left = slash _ _ _ refl refl refl where
  slash : (line block closed : Bool) → starts 47 left ≡ line → starts 42 left ≡ block → closes (behind_first left) ≡ closed
      → front_pieces size Plain (47 ∷ left) ≡ front_pieces 1 Slash left
  slash true block closed l k h = rw l refl
  slash false true true l k h = rw (l, k, h) refl
  slash false true false l k h = rw (l, k, h) (open_first left k h)
  slash false false closed l k h = rw (l, k) (first_byte 47 (scan true 0 left))

front_space : (size b : ℕ) (left : List ℕ) → is_space b ≡ true
    → front_pieces size Plain (b ∷ left) ≡ front_pieces 0 Plain left
front_space size b left e = rw e refl

plain_lead : (size b : ℕ) (left : List ℕ) (d l : Bool) → nat_eq b 45 ≡ d → nat_eq b 47 ≡ l → leads Plain b ≡ true
    → front_pieces size Plain (b ∷ left) ≡ front_pieces (front_size (opens b) size) (opens b) left
plain_lead size b left true l d_is l_is h = let is : b ≡ 45 = grind arith in rw is (front_dash size left)
plain_lead size b left false true d_is l_is h = let is : b ≡ 47 = grind arith in rw is (front_slash size left)
plain_lead size b left false false d_is l_is h =
    let space : is_space b ≡ true = grind arith in
    let plain : opens b ≡ Plain = grind arith in
    rw plain (front_space size b left space)

open_front : (size b : ℕ) (left : List ℕ) → open_pieces size (b ∷ left) ≡ open_pieces (size_after size) left
open_front size b left = ap only (last_front size (length left))

slash_star : (left : List ℕ) → front_pieces 1 Slash (42 ∷ left) ≡ front_pieces 2 Block left
slash_star left = star _ refl where
  star : (closed : Bool) → closes left ≡ closed → front_pieces 1 Slash (42 ∷ left) ≡ front_pieces 2 Block left
  star true h = rw h refl
  star false h = rw h (open_front 1 42 left)

slash_lead : (size b : ℕ) (left : List ℕ) (l k : Bool) → nat_eq b 47 ≡ l → nat_eq b 42 ≡ k → leads Slash b ≡ true
    → nat_eq size 1 ≡ true
    → front_pieces size Slash (b ∷ left) ≡ front_pieces (front_size (mode_after Slash b) size) (mode_after Slash b) left
slash_lead size b left true k l_is k_is h fits = let is : b ≡ 47 = grind arith in rw is refl
slash_lead size b left false true l_is k_is h fits = let is : b ≡ 42 = grind arith in let one : size ≡ 1 = grind arith in rw (is, one) (slash_star left)
slash_lead size b left false false l_is k_is h fits = let no : leads Slash b ≡ false = rw (l_is, k_is) refl in cc

line_lead : (size b : ℕ) (left : List ℕ)
    → front_pieces size Line (b ∷ left) ≡ front_pieces (front_size (mode_after Line b) size) (mode_after Line b) left
line_lead size b left = line _ refl where
  line : (ends : Bool) → nat_eq b 10 ≡ ends
      → front_pieces size Line (b ∷ left) ≡ front_pieces (front_size (mode_after Line b) size) (mode_after Line b) left
  line true e = rw e refl
  line false e = rw e refl

block_lead : (size b : ℕ) (left : List ℕ)
    → front_pieces size Block (b ∷ left) ≡ front_pieces (front_size (mode_after Block b) size) (mode_after Block b) left
block_lead size b left = block _ _ _ refl refl refl where
  block : (star slash closed : Bool) → nat_eq b 42 ≡ star → starts 47 left ≡ slash → closes left ≡ closed
      → front_pieces size Block (b ∷ left) ≡ front_pieces (front_size (mode_after Block b) size) (mode_after Block b) left
  block true true closed e f g = rw (e, f) refl
  block true false true e f g = rw (e, f, g) refl
  block true false false e f g = rw (e, f, g) (open_front size b left)
  block false slash true e f g = rw (e, g) refl
  block false slash false e f g = rw (e, g) (open_front size b left)

star_lead : (size b : ℕ) (left : List ℕ)
    → front_pieces size Star (b ∷ left) ≡ front_pieces (front_size (mode_after Star b) size) (mode_after Star b) left
star_lead size b left = star _ refl where
  star : (slash : Bool) → nat_eq b 47 ≡ slash
      → front_pieces size Star (b ∷ left) ≡ front_pieces (front_size (mode_after Star b) size) (mode_after Star b) left
  star true e = rw e refl
  star false e = rw e (block_lead size b left)

-- a byte that leaves it open whether a piece begins
lead_step : (size : ℕ) (m : ScanMode) (b : ℕ) (left : List ℕ) → leads m b ≡ true → front_fits m size ≡ true
    → front_pieces size m (b ∷ left) ≡ front_pieces (front_size (mode_after m b) size) (mode_after m b) left
lead_step size Plain b left h fits = plain_lead size b left _ _ refl refl h
lead_step size Dash b left h fits = let is : b ≡ 45 = grind arith in rw is refl
lead_step size Slash b left h fits = slash_lead size b left _ _ refl refl h fits
lead_step size Line b left h fits = line_lead size b left
lead_step size Block b left h fits = block_lead size b left
lead_step size Star b left h fits = star_lead size b left
lead_step size Quote b left h fits = cc fits
lead_step size QuotedName b left h fits = cc fits

dash_other : (b : ℕ) (left : List ℕ) → nat_eq b 45 ≡ false
    → front_pieces 1 Dash (b ∷ left) ≡ continued_pieces (45 ∷ []) 1 Plain (b ∷ left)
dash_other b left e = rw e refl

slash_other : (b : ℕ) (left : List ℕ) → nat_eq b 47 ≡ false → nat_eq b 42 ≡ false
    → front_pieces 1 Slash (b ∷ left) ≡ continued_pieces (47 ∷ []) 1 Plain (b ∷ left)
slash_other b left e f = rw (e, f) refl

-- a byte that begins a piece
begin_step : (size : ℕ) (m : ScanMode) (b : ℕ) (left : List ℕ) → leads m b ≡ false → front_fits m size ≡ true
    → front_pieces size m (b ∷ left) ≡ continued_pieces (tentative m) size Plain (b ∷ left)
begin_step size Plain b left h fits =
    let s : is_space b ≡ false = grind arith in
    let d : nat_eq b 45 ≡ false = grind arith in
    let l : nat_eq b 47 ≡ false = grind arith in
    let none : size ≡ 0 = grind arith in
    let front : front_pieces 0 Plain (b ∷ left) ≡ plain_pieces (scan true 0 (b ∷ left)) = rw (s, d, l) refl in
    rw none (front ∙ sym (plain_with (scan true 0 (b ∷ left))))
begin_step size Dash b left h fits = let one : size ≡ 1 = grind arith in rw one (dash_other b left h)
begin_step size Slash b left h fits = let one : size ≡ 1 = grind arith in rw one (slash_other b left (grind arith) (grind arith))
begin_step size Line b left h fits = cc h
begin_step size Block b left h fits = cc h
begin_step size Star b left h fits = cc h
begin_step size Quote b left h fits = cc h
begin_step size QuotedName b left h fits = cc h

-- ---- what the splitter's calls say

abbrev standing : List ℕ → ℕ → PieceStage → ScanMode → SplitterState
standing text size stage mode = record { text = text; size = size; stage = stage; mode = mode }

pub begin_law : (text : List ℕ) (size : ℕ) (stage : PieceStage) (mode : ScanMode) (b : ℕ) (left : List ℕ) → IsSplitterState text size stage mode → stage ≡ Front
    → leads mode b ≡ false
    → resume (standing text size Begun Plain) (b ∷ left) ≡ resume (standing text size stage mode) (b ∷ left)
unfolding resume
begin_law text size stage mode b left ok is h =
    let facts = ok.front is in
    rw (is, facts.0) (sym (begin_step size mode b left h facts.1))

pub lead_law : (text new : List ℕ) (size : ℕ) (stage : PieceStage) (mode : ScanMode) (b : ℕ) (left : List ℕ) → IsSplitterState text size stage mode → stage ≡ Front
    → leads mode b ≡ true
    → resume (standing text size stage mode) (b ∷ left) ≡ resume (standing new (front_size (mode_after mode b) size) stage (mode_after mode b)) left
unfolding resume
lead_law text new size stage mode b left ok is h = rw is (lead_step size mode b left h (ok.front is).1)

-- a byte of a piece, which ends it or does not
body_law : (text : List ℕ) (size : ℕ) (mode : ScanMode) (b : ℕ) (left : List ℕ) (ends : Bool) → ends_at mode b ≡ ends
    → continued_pieces text size mode (b ∷ left) ≡ behind (reported (end_at (cond ends Ended Begun) (size_after size)) (kept text size b))
    (pieces_at (cond ends Ended Begun) (kept text size b) (size_after size) (mode_after mode b) left)
body_law text size mode b left false e =
    ap (λ (c : Cut). pieces_with text size c.whole c.rest) (body_step mode b left e)
    ∙ front text size b (scan true (inside (mode_after mode b) left) left).whole (scan true (inside (mode_after mode b) left) left).rest
body_law text size mode b left true e = ends mode e where
  here : (left : List ℕ)
      → pieces_with text size ((59 ∷ []) ∷ (scan false 0 left).whole) (scan false 0 left).rest ≡ behind (reported (end_at Ended (size_after size)) (kept text size 59)) (front_pieces 0 Plain left)
  here left = ap (λ f. record { whole = f ++ map whole_piece (scan false 0 left).whole; last = last_piece (scan false 0 left).rest }) (end_front text size)

  ends : (m : ScanMode) → ends_at m b ≡ true
      → continued_pieces text size m (b ∷ left) ≡ behind (reported (end_at Ended (size_after size)) (kept text size b)) (front_pieces 0 Plain left)
  ends Plain e = let is : b ≡ 59 = grind arith in rw is (here left)
  ends Dash e = let is : b ≡ 59 = grind arith in rw is (here left)
  ends Slash e = let is : b ≡ 59 = grind arith in rw is (here left)
  ends Quote e = cc e
  ends QuotedName e = cc e
  ends Line e = cc e
  ends Block e = cc e
  ends Star e = cc e

pub push_law : (text : List ℕ) (size : ℕ) (stage : PieceStage) (mode : ScanMode) (b : ℕ) (left : List ℕ) → stage ≡ Begun
    → resume (standing text size stage mode) (b ∷ left) ≡ behind
    (reported (end_at (stage_after mode b) (size_after size)) (kept text size b))
    (resume (standing (kept text size b) (size_after size) (stage_after mode b) (mode_after mode b)) left)
unfolding resume
push_law text size stage mode b left is = rw is (body_law text size mode b left _ refl)
