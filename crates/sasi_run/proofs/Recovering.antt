-- What a crash leaves is the state after the pieces whose replies were shown, or after one more; and a largest number of such pieces exists.
use Rattle.std.proofs.Common.{◌≡◌, ◌⊎◌, ℕ, zero, suc, ◌+◌, ◌-◌, ◌<◌, ◌≤◌, List, [], ◌∷◌, ◌++◌, length, take, drop, refl, sym, ◌∙◌, ap, subst, inl, inr, ⊎_elim, arith, append_assoc, length-append}
use Rattle.std.specs.List.{concat}
use Rattle.std.proofs.lemmas.List.{append-nil, append_cancel_left}
use Rattle.std.proofs.Math.Seq.{take-append-add, take-append_seam, drop-append_seam}
use Rattle.sasi_host.specs.Names.{Folder}
use Rattle.sasi_model.specs.Pieces.{Piece}
use Rattle.sasi_model.specs.State.{State}
use Rattle.sasi_layout.specs.Running.{after_pieces, replies_of}
use Rattle.sasi_layout.specs.Shape.{StandsSealed}
use Rattle.sasi_layout.specs.Transitions.{Transitions}
use Rattle.sasi_run.specs.Recovering.{IsReplyCount, IsPartOfNextReply, next_reply}
use Rattle.sasi_run.specs.Shapes.{answers_of}
use Rattle.sasi_run.proofs.Joining.{after-append, first_replies_are, length-answers, next_reply_is, nil_back, nil_front, replies-append}
use Rattle.sasi_run.proofs.Moments.{Crashed, IsAnswering, IsBetweenPieces, StepsByState, state_in, valid_after}

-- ---- a largest number of whole replies exists

abbrev Begins : List ℕ → List ℕ → Type 0
Begins xs ys = (more : List ℕ) × (ys ≡ xs ++ more)

same_byte : (x y : ℕ) → (x ≡ y) ⊎ (x ≡ y → ⊥)
same_byte x y = by (x - y) (y - x) refl refl
  where
    by : (k j : ℕ) → k ≡ x - y → j ≡ y - x → (x ≡ y) ⊎ (x ≡ y → ⊥)
    by zero zero a b = inl (omega arith)
    by (suc k) j a b = inr (λ is. absurd (omega arith))
    by zero (suc j) a b = inr (λ is. absurd (omega arith))

-- a list begins with another, or it doesn't
begins_or_not : (xs ys : List ℕ) → Begins xs ys ⊎ (Begins xs ys → ⊥)
begins_or_not [] ys = inl (ys, refl)
begins_or_not (x ∷ xs) [] = inr (λ b. longer b.0 b.1)
  where
    longer : (more : List ℕ) → [] ≡ (x ∷ xs) ++ more → ⊥
    longer more e = cc
begins_or_not (x ∷ xs) (y ∷ ys) = ⊎_elim
    (λ is. ⊎_elim (λ b. inl (both is b.0 b.1)) (λ never. inr (λ b. never (behind_it b.0 b.1))) (begins_or_not xs ys))
    (λ other. inr (λ b. other (first_is b.0 b.1)))
    (same_byte x y)
  where
    both : x ≡ y → (more : List ℕ) → ys ≡ xs ++ more → Begins (x ∷ xs) (y ∷ ys)
    both is more e = (more, cc)

    behind_it : (more : List ℕ) → y ∷ ys ≡ (x ∷ xs) ++ more → Begins xs ys
    behind_it more e = (more, cc)

    first_is : (more : List ℕ) → y ∷ ys ≡ (x ∷ xs) ++ more → x ≡ y
    first_is more e = cc

counted_from : (answers : List (List ℕ)) (shown : List ℕ) (k : ℕ) → k ≤ length answers
    → ((m : ℕ) (more : List ℕ) → k < m → m ≤ length answers → shown ≡ concat (take m answers) ++ more → ⊥) → (n : ℕ) × IsReplyCount answers shown n
counted_from answers shown zero within no_more = (0, record { within = within; rest = shown; begins = refl; no_more = no_more })
counted_from answers shown (suc k) within no_more = ⊎_elim
    (λ b. (suc k, record { within = within; rest = b.0; begins = b.1; no_more = no_more }))
    (λ never. counted_from answers shown k (omega arith) (λ m more less few is. by m more never less few is (m - suc k) refl))
    (begins_or_not (concat (take (suc k) answers)) shown)
  where
    by : (m : ℕ) (more : List ℕ) → (Begins (concat (take (suc k) answers)) shown → ⊥) → k < m → m ≤ length answers
        → shown ≡ concat (take m answers) ++ more → (j : ℕ) → j ≡ m - suc k → ⊥
    by m more never less few is zero e =
        let same : m ≡ suc k = omega arith in
        never (more, is ∙ ap (λ i. concat (take i answers) ++ more) same)
    by m more never less few is (suc j) e = no_more m more (omega arith) few is

pub counted : (answers : List (List ℕ)) (shown : List ℕ) → (n : ℕ) × IsReplyCount answers shown n
counted answers shown = counted_from answers shown (length answers) (omega arith) (λ m more less few is. absurd (omega arith))

-- nothing is a first part of any reply
none_next : (answers : List (List ℕ)) (n : ℕ) (bytes : List ℕ) → bytes ≡ [] → IsPartOfNextReply answers n bytes
none_next answers n bytes none = record { back = next_reply answers n; parts = ap (λ (l : List ℕ). l ++ next_reply answers n) (sym none) }

pub nothing_shown : (answers : List (List ℕ)) (n : ℕ) (c : IsReplyCount answers [] n) → IsPartOfNextReply answers n c.rest
nothing_shown answers n c = none_next answers n c.rest (nil_back (concat (take n answers)) c.rest (sym c.begins))

-- ---- what that number tells of the state

-- the state after the first n pieces, or after one more
abbrev pub IsStateIn : {W : Type 0} → Transitions W → W → List Piece → ℕ → State → Type 0
IsStateIn t w pieces n s = (s ≡ state_in t (after_pieces t w (take n pieces))) ⊎ ((n < length pieces) × (s ≡ state_in t (after_pieces t w (take (suc n) pieces))))

module _ {W : Type 0} (t : Transitions W) (laws : StepsByState t) where
  silent : (pieces : List Piece) (w : W) → laws.IsValid w → replies_of t w pieces ≡ [] → state_in t (after_pieces t w pieces) ≡ state_in t w
  silent [] w valid none = refl
  silent (p ∷ pieces) w valid none =
      let first = laws.silent w p valid (nil_front (t.reply w p) _ none) in
      silent pieces (t.after w p) (laws.valid w p valid) (nil_back (t.reply w p) _ none) ∙ first

  module _ (w : W) (valid : laws.IsValid w) (before : List ℕ) (pieces : List Piece) (folder : Folder) (out shown : List ℕ) (went : out ≡ before ++ shown) (n : ℕ)
      (is_count : IsReplyCount (answers_of t w pieces) shown n) where
    begins : shown ≡ replies_of t w (take n pieces) ++ is_count.rest
    begins = is_count.begins ∙ ap (λ (l : List ℕ). l ++ is_count.rest) (first_replies_are t n pieces w)

    no_more : (m : ℕ) (more : List ℕ) → n < m → m ≤ length pieces → shown ≡ replies_of t w (take m pieces) ++ more → ⊥
    no_more m more less few is = is_count.no_more m more less (omega (arith, few, length-answers t pieces w))
        (is ∙ ap (λ (l : List ℕ). l ++ more) (sym (first_replies_are t m pieces w)))

    at_least : (done rest : List Piece) (more : List ℕ) → pieces ≡ done ++ rest → shown ≡ replies_of t w done ++ more → length done ≤ n
    at_least done rest more parts is = by (n - length done) (length done - n) refl refl
      where
        by : (k j : ℕ) → k ≡ n - length done → j ≡ length done - n → length done ≤ n
        by k zero a b = omega arith
        by k (suc j) a b = (
            let same : take (length done) pieces ≡ done = ap (take (length done)) parts ∙ take-append_seam done rest in
            absurd (no_more (length done) more (omega arith) (omega (arith, ap length parts, length-append done rest))
            (is ∙ ap (λ (l : List Piece). replies_of t w l ++ more) (sym same)))
            )

    -- the first n pieces, where so many of them were answered
    split : (done rest : List Piece) → pieces ≡ done ++ rest → length done ≤ n → take n pieces ≡ done ++ take (n - length done) rest
    split done rest parts le =
        let count : length done + (n - length done) ≡ n = omega (arith, le) in
        subst (λ m. take m pieces ≡ done ++ take (n - length done) rest) count
        (ap (take (length done + (n - length done))) parts ∙ take-append-add done rest (n - length done))

    -- the state for which the folder stands, and what was shown behind the replies
    abbrev pub After : Type 0
    After = IsPartOfNextReply (answers_of t w pieces) n is_count.rest × ((u : State) × StandsSealed folder u × IsStateIn t w pieces n u)

    quiet : (done rest : List Piece) → pieces ≡ done ++ rest → IsBetweenPieces t w before done folder out → After
    quiet done rest parts is =
        let shows : shown ≡ replies_of t w done ++ [] = append_cancel_left before shown (replies_of t w done ++ [])
        (sym went ∙ is.went ∙ ap (λ (l : List ℕ). before ++ l) (sym (append-nil (replies_of t w done)))) in
        let le = at_least done rest [] parts shows in
        let m = after_pieces t w done in
        let mid = take (n - length done) rest in
        let first = split done rest parts le in
        let none : replies_of t m mid ++ is_count.rest ≡ [] = sym (append_cancel_left (replies_of t w done) [] (replies_of t m mid ++ is_count.rest)
        (sym shows ∙ begins ∙ ap (λ (l : List Piece). replies_of t w l ++ is_count.rest) first
        ∙ ap (λ (l : List ℕ). l ++ is_count.rest) (replies-append t done mid w)
        ∙ append_assoc (replies_of t w done) (replies_of t m mid) is_count.rest)) in
        let same : state_in t (after_pieces t w (take n pieces)) ≡ state_in t m = ap (λ (l : List Piece). state_in t (after_pieces t w l)) first
        ∙ ap (λ (x : W). state_in t x) (after-append t done mid w) ∙ silent mid m (valid_after t laws done w valid) (nil_front (replies_of t m mid) is_count.rest none) in
        (none_next (answers_of t w pieces) n is_count.rest (nil_back (replies_of t m mid) is_count.rest none), (state_in t m, is.stands, inl (sym same)))

    answering : (done rest : List Piece) → pieces ≡ done ++ rest → IsAnswering t w before done rest folder out → After
    answering done rest parts is =
        let shows : shown ≡ replies_of t w done ++ is.front = append_cancel_left before shown (replies_of t w done ++ is.front) (sym went ∙ is.went) in
        let le = at_least done rest is.front parts shows in
        by (n - length done) refl shows le
      where
        by : (k : ℕ) → k ≡ n - length done → shown ≡ replies_of t w done ++ is.front → length done ≤ n → After
        by zero count shows le = (
            let all : pieces ≡ done ++ (is.piece ∷ is.others) = parts ∙ ap (λ (l : List Piece). done ++ l) is.next in
            let one : length done + 1 ≡ suc n = omega (arith, le) in
            let first : take (suc n) pieces ≡ done ++ (is.piece ∷ []) = subst (λ j. take j pieces ≡ done ++ (is.piece ∷ [])) one
            (ap (take (length done + 1)) all ∙ take-append-add done (is.piece ∷ is.others) 1) in
            let within : n < length pieces = omega (arith, le, ap length all, length-append done (is.piece ∷ is.others)) in
            let m = after_pieces t w done in
            let taken : take n pieces ≡ done = split done rest parts le ∙ ap (λ k. done ++ take k rest) (sym count) ∙ append-nil done in
            let size : length done ≡ n = omega (arith, le) in
            let left : drop n pieces ≡ is.piece ∷ is.others = subst (λ j. drop j pieces ≡ is.piece ∷ is.others) size
            (ap (drop (length done)) all ∙ drop-append_seam done (is.piece ∷ is.others)) in
            let cut : is.front ≡ is_count.rest = append_cancel_left (replies_of t w done) is.front is_count.rest
            (sym shows ∙ begins ∙ ap (λ (l : List Piece). replies_of t w l ++ is_count.rest) taken) in
            let next : next_reply (answers_of t w pieces) n ≡ is.front ++ is.back = next_reply_is t n pieces w
            ∙ ap (λ (l : List Piece). replies_of t (after_pieces t w l) (take 1 (drop n pieces))) taken
            ∙ ap (λ (l : List Piece). replies_of t m (take 1 l)) left ∙ append-nil (t.reply m is.piece) ∙ is.parts in (
              record { back = is.back; parts = next ∙ ap (λ (l : List ℕ). l ++ is.back) cut },
              (
                state_in t (t.after m is.piece),
                is.stands,
                inr (within, sym (ap (λ (l : List Piece). state_in t (after_pieces t w l)) first ∙ ap (λ (x : W). state_in t x) (after-append t done (is.piece ∷ []) w))),
              ),
            )
            )
        by (suc j) count shows le = (
            let m = after_pieces t w done in
            let later = (t.after m is.piece) in
            let mid = take j is.others in
            let taken : take (n - length done) rest ≡ is.piece ∷ mid = ap (λ k. take k rest) (sym count) ∙ ap (take (suc j)) is.next in
            let first : take n pieces ≡ done ++ (is.piece ∷ mid) = split done rest parts le ∙ ap (λ (l : List Piece). done ++ l) taken in
            let begun : is.front ≡ replies_of t m (is.piece ∷ mid) ++ is_count.rest = append_cancel_left (replies_of t w done) is.front
            (replies_of t m (is.piece ∷ mid) ++ is_count.rest)
            (sym shows ∙ begins ∙ ap (λ (l : List Piece). replies_of t w l ++ is_count.rest) first
            ∙ ap (λ (l : List ℕ). l ++ is_count.rest) (replies-append t done (is.piece ∷ mid) w)
            ∙ append_assoc (replies_of t w done) (replies_of t m (is.piece ∷ mid)) is_count.rest) in
            let tail = is.back ++ (replies_of t later mid ++ is_count.rest) in
            let whole : is.front ++ [] ≡ is.front ++ tail = append-nil is.front ∙ begun
            ∙ append_assoc (t.reply m is.piece) (replies_of t later mid) is_count.rest
            ∙ ap (λ (l : List ℕ). l ++ (replies_of t later mid ++ is_count.rest)) is.parts
            ∙ append_assoc is.front is.back (replies_of t later mid ++ is_count.rest) in
            let none : tail ≡ [] = sym (append_cancel_left is.front [] tail whole) in
            let silent_mid = silent mid later (laws.valid m is.piece (valid_after t laws done w valid))
            (nil_front (replies_of t later mid) is_count.rest (nil_back is.back (replies_of t later mid ++ is_count.rest) none)) in (
              none_next (answers_of t w pieces) n is_count.rest (nil_back (replies_of t later mid) is_count.rest (nil_back is.back (replies_of t later mid ++ is_count.rest) none)),
              (
                state_in t later,
                is.stands,
                inl (sym (ap (λ (l : List Piece). state_in t (after_pieces t w l)) first ∙ ap (λ (x : W). state_in t x) (after-append t done (is.piece ∷ mid) w) ∙ silent_mid)),
              ),
            )
            )

    pub after_crash : Crashed t w before pieces folder out → After
    after_crash was = ⊎_elim (quiet was.done was.rest was.parts) (answering was.done was.rest was.parts) was.stands
