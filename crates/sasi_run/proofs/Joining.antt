-- Pieces run from a world, one after another, and their replies: joined, and one to each.
use Rattle.std.proofs.Common.{◌≡◌, ℕ, zero, suc, List, [], ◌∷◌, ◌++◌, length, take, drop, refl, sym, ◌∙◌, ap, append_assoc}
use Rattle.std.specs.List.{concat}
use Rattle.std.proofs.lemmas.List.{append-nil}
use Rattle.std.proofs.Math.Seq.{take-append_seam, drop-append_seam}
use Rattle.sasi_model.specs.Pieces.{Piece}
use Rattle.sasi_layout.specs.Running.{after_pieces, replies_of}
use Rattle.sasi_layout.specs.Transitions.{Transitions}
use Rattle.sasi_run.specs.Recovering.{next_reply}
use Rattle.sasi_run.specs.Shapes.{answers_of}

-- ---- nothing

pub nil_front : (xs ys : List ℕ) → xs ++ ys ≡ [] → xs ≡ []
nil_front [] ys is = refl
nil_front (x ∷ xs) ys is = cc

pub nil_back : (xs ys : List ℕ) → xs ++ ys ≡ [] → ys ≡ []
nil_back [] ys is = is
nil_back (x ∷ xs) ys is = cc

module _ {W : Type 0} (t : Transitions W) where
  -- ---- one after another

  pub after-append : (ps qs : List Piece) (w : W) → after_pieces t w (ps ++ qs) ≡ after_pieces t (after_pieces t w ps) qs
  after-append [] qs w = refl
  after-append (p ∷ ps) qs w = after-append ps qs (t.after w p)

  pub replies-append : (ps qs : List Piece) (w : W) → replies_of t w (ps ++ qs) ≡ replies_of t w ps ++ replies_of t (after_pieces t w ps) qs
  replies-append [] qs w = refl
  replies-append (p ∷ ps) qs w = ap (λ (l : List ℕ). t.reply w p ++ l) (replies-append ps qs (t.after w p))
      ∙ sym (append_assoc (t.reply w p) (replies_of t (t.after w p) ps) (replies_of t (after_pieces t (t.after w p) ps) qs))

  -- ---- one reply to each

  pub length-answers : (ps : List Piece) (w : W) → length (answers_of t w ps) ≡ length ps
  length-answers [] w = refl
  length-answers (p ∷ ps) w = ap suc (length-answers ps (t.after w p))

  pub concat-answers : (ps : List Piece) (w : W) → concat (answers_of t w ps) ≡ replies_of t w ps
  concat-answers [] w = refl
  concat-answers (p ∷ ps) w = ap (λ (l : List ℕ). t.reply w p ++ l) (concat-answers ps (t.after w p))

  -- the first n of them are the replies to the first n pieces
  pub take-answers : (n : ℕ) (ps : List Piece) (w : W) → take n (answers_of t w ps) ≡ answers_of t w (take n ps)
  take-answers zero ps w = refl
  take-answers (suc n) [] w = refl
  take-answers (suc n) (p ∷ ps) w = ap (λ (l : List (List ℕ)). t.reply w p ∷ l) (take-answers n ps (t.after w p))

  -- and the others those to the others
  pub drop-answers : (n : ℕ) (ps : List Piece) (w : W) → drop n (answers_of t w ps) ≡ answers_of t (after_pieces t w (take n ps)) (drop n ps)
  drop-answers zero ps w = refl
  drop-answers (suc n) [] w = refl
  drop-answers (suc n) (p ∷ ps) w = drop-answers n ps (t.after w p)

  pub first_replies_are : (n : ℕ) (ps : List Piece) (w : W) → concat (take n (answers_of t w ps)) ≡ replies_of t w (take n ps)
  first_replies_are n ps w = ap concat (take-answers n ps w) ∙ concat-answers (take n ps) w

  pub next_reply_is : (n : ℕ) (ps : List Piece) (w : W) → next_reply (answers_of t w ps) n ≡ replies_of t (after_pieces t w (take n ps)) (take 1 (drop n ps))
  next_reply_is n ps w = ap (λ (l : List (List ℕ)). concat (take 1 l)) (drop-answers n ps w) ∙ first_replies_are 1 (drop n ps) (after_pieces t w (take n ps))

  -- ---- where some of the pieces come first

  module _ (w : W) (done rest all : List Piece) (parts : all ≡ done ++ rest) where
    taken : take (length done) all ≡ done
    taken = ap (take (length done)) parts ∙ take-append_seam done rest

    pub first_answers : take (length done) (answers_of t w all) ≡ answers_of t w done
    first_answers = take-answers (length done) all w ∙ ap (λ (ps : List Piece). answers_of t w ps) taken

    pub first_shown : replies_of t w done ≡ concat (take (length done) (answers_of t w all))
    first_shown = sym (first_replies_are (length done) all w ∙ ap (λ (ps : List Piece). replies_of t w ps) taken)

    left : drop (length done) all ≡ rest
    left = ap (drop (length done)) parts ∙ drop-append_seam done rest

    pub next_answer : (piece : Piece) (others : List Piece) → rest ≡ piece ∷ others → next_reply (answers_of t w all) (length done) ≡ t.reply (after_pieces t w done) piece
    next_answer piece others next = next_reply_is (length done) all w
        ∙ ap (λ (ps : List Piece). replies_of t (after_pieces t w ps) (take 1 (drop (length done) all))) taken
        ∙ ap (λ (ps : List Piece). replies_of t (after_pieces t w done) (take 1 ps)) (left ∙ next)
        ∙ append-nil (t.reply (after_pieces t w done) piece)
