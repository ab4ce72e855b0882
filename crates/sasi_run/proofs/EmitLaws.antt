-- How many emits replies take.
use Rattle.std.proofs.Common.{◌≡◌, ◌==◌, ◌+◌, ◌∙◌, ℕ, zero, suc, Bool, true, false, List, [], ◌∷◌, ◌++◌, length, refl, sym, subst, arith, rules, add-zero}
use Rattle.sasi_host.specs.View.{counted, counted_by}
use Rattle.sasi_model.specs.Pieces.{Piece}
use Rattle.sasi_layout.specs.Running.{after_pieces}
use Rattle.sasi_store.specs.Worlds.{World, steps}
use Rattle.sasi_run.specs.EmitCounts.{MakesEmits, emits_in, emits_of}
use Rattle.sasi_run.specs.FileCalls.{emits_after}
use Rattle.sasi_run.proofs.Worlds.{emits_both}

-- ---- one reply

pub no_reply : (n : ℕ) (reply : List ℕ) (test : Bool) → test ≡ (length reply == 0) → test ≡ true → n ≡ emits_after n reply
no_reply n [] test tested is = refl
no_reply n (byte ∷ reply) test tested is =
    let none : length (byte ∷ reply) ≡ 0 = search (rules, sym tested ∙ is) in absurd (omega (arith, none))

pub one_reply : (n m : ℕ) (reply : List ℕ) (test : Bool) → test ≡ (length reply == 0) → test ≡ false → m ≡ counted n → m ≡ emits_after n reply
one_reply n m [] test tested is once = (let empty : test ≡ true = tested in cc)
one_reply n m (byte ∷ reply) test tested is once = once

-- the reply behind a change
pub emits_reply : (n m k : ℕ) (bytes reply : List ℕ) → m ≡ n → bytes ≡ reply → k ≡ emits_after m bytes → k ≡ emits_after n reply
emits_reply n m k bytes reply same said call =
    subst (λ (x : ℕ). k ≡ emits_after x reply) same (subst (λ (l : List ℕ). k ≡ emits_after m l) said call)

-- ---- emits, one after another

pub makes_none : (n m : ℕ) → m ≡ n → MakesEmits 0 n m
makes_none n m same = record { none = λ _. same; some = λ more. absurd (omega (arith, more)) }

pub makes_one : (n m : ℕ) → m ≡ counted n → MakesEmits 1 n m
makes_one n m once = record { none = λ is. absurd (omega (arith, is)); some = λ _. once }

pub makes_reply : (n m : ℕ) (reply : List ℕ) → m ≡ emits_after n reply → MakesEmits (emits_of reply) n m
makes_reply n m [] call = makes_none n m call
makes_reply n m (byte ∷ reply) call = makes_one n m call

-- so many, by an equation
pub makes_same : (j k n m : ℕ) → j ≡ k → MakesEmits j n m → MakesEmits k n m
makes_same j k n m same makes = subst (λ (x : ℕ). MakesEmits x n m) same makes

pub makes_alone : (k n m : ℕ) → MakesEmits k n m → MakesEmits (k + 0) n m
makes_alone k n m makes = makes_same k (k + 0) n m (sym (add-zero k)) makes

pub makes_behind_none : (k n m : ℕ) → MakesEmits k n m → MakesEmits (0 + k) n m
makes_behind_none k n m makes = makes_same k (0 + k) n m (omega arith) makes

pub makes_both : (j k a b c : ℕ) → MakesEmits j a b → MakesEmits k b c → MakesEmits (j + k) a c
makes_both zero k a b c first second = makes_behind_none k a c (subst (λ (x : ℕ). MakesEmits k x c) (first.none refl) second)
makes_both (suc j) zero a b c first second = makes_alone (suc j) a c (subst (λ (x : ℕ). MakesEmits (suc j) a x) (sym (second.none refl)) first)
makes_both (suc j) (suc k) a b c first second = record { none = λ is. absurd (omega (arith, is)); some = λ _. twice }
  where
    twice : c ≡ counted_by a (suc j + suc k)
    twice =
        let once : b ≡ counted_by a (suc j) = first.some (omega arith) in
        let again : c ≡ counted_by b (suc k) = second.some (omega arith) in
        omega (arith, once, again)

-- ---- the replies to pieces

module _ (w : World) (ps qs : List Piece) (a b c : ℕ) (first : MakesEmits (emits_in w ps) a b) where
  -- the replies to more pieces
  pub makes_more : MakesEmits (emits_in (after_pieces steps w ps) qs) b c → MakesEmits (emits_in w (ps ++ qs)) a c
  makes_more second = makes_same _ _ a c (sym (emits_both ps qs w)) (makes_both (emits_in w ps) (emits_in (after_pieces steps w ps) qs) a b c first second)

  -- and other emits behind them
  pub makes_more_and : (others : ℕ) → MakesEmits (emits_in (after_pieces steps w ps) qs + others) b c → MakesEmits (emits_in w (ps ++ qs) + others) a c
  makes_more_and others second =
      let sum : emits_in w ps + (emits_in (after_pieces steps w ps) qs + others) ≡ emits_in w (ps ++ qs) + others = omega (arith, emits_both ps qs w) in
      makes_same _ _ a c sum (makes_both (emits_in w ps) (emits_in (after_pieces steps w ps) qs + others) a b c first second)
