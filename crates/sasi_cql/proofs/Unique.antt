-- Tokens have at most one fault.
use Rattle.std.proofs.Common.{◌≡◌, ◌≤◌, ℕ, zero, suc, Bool, ◌||◌, List, [], ◌∷◌, ◌++◌, length, refl, sym, ap, ◌∙◌, append_assoc, append-nil, length-append, subst, arith, ◌⊎◌, inl, inr}
use Rattle.sasi_model.specs.Tokens.{Token}
use Rattle.sasi_model.specs.Forms.{Form, Never, Nothing, One, Then, As, Where, Choose, Many, Phrase, Behind, begin_items, BeginItems, Spells, Begins}
use Rattle.sasi_model.specs.Faults.{IsFault}
use Rattle.sasi_cql.proofs.Explained.{begins_whole, begins_nothing}

-- ---- two ways to split

-- the first ends within the second's front, or the second's front ends within the first
abbrev Splits : List Token → List Token → List Token → List Token → Type 0
Splits xs ys us vs = ((m : List Token) × (us ≡ xs ++ m)) ⊎ ((m : List Token) × (xs ≡ us ++ m) × (m ++ ys ≡ vs))

splits : (xs ys us vs : List Token) → xs ++ ys ≡ us ++ vs → Splits xs ys us vs
splits [] ys us vs h = inl (us, refl)
splits (x ∷ xs) ys [] vs h = inr (x ∷ xs, refl, h)
splits (x ∷ xs) ys (u ∷ us) vs h =
    let first : x ≡ u = cc in
    let rest : xs ++ ys ≡ us ++ vs = cc in
    again first (splits xs ys us vs rest) where
      again : x ≡ u → Splits xs ys us vs → Splits (x ∷ xs) ys (u ∷ us) vs
      again is (inl s) = inl (s.0, rw (is, s.1) refl)
      again is (inr s) = inr (s.0, rw (is, s.1) refl, s.2)

nothing_left : (xs ys : List Token) → xs ++ ys ≡ [] → xs ≡ []
nothing_left [] ys h = refl
nothing_left (x ∷ xs) ys h = absurd cc

-- ---- a beginning's front is a beginning

front_behind : {A : Type 0} (first : A → Phrase) (begins : Phrase) (second : A → Phrase) → ((a : A) (ts : List Token) → first a ts → begins ts) → ((ts more : List Token) → begins (ts ++ more) → begins ts)
    → ((a : A) (ts more : List Token) → second a (ts ++ more) → second a ts) → (front more : List Token) → Behind first second (front ++ more) → begins front ⊎ Behind first second front
front_behind first begins second begun of_first of_second front more b = by_split (splits front more b.front b.behind b.whole) where
  by_split : Splits front more b.front b.behind → begins front ⊎ Behind first second front
  by_split (inl s) = let P : List Token → Type 0 = λ ts. begins ts in inl (of_first front s.0 (subst P s.1 (begun b.value b.front b.starts)))
  by_split (inr s) =
      let P : List Token → Type 0 = λ ts. second b.value ts in
      inr (record { value = b.value; front = b.front; behind = s.0; whole = s.1; starts = b.starts; ends = of_second b.value s.0 more (subst P (sym s.2) b.ends) })

front_items : {A : Type 0} (between : Token) (marks : A → Bool) (item : Bool → A → Phrase) (begins : Bool → Phrase) → ((m : Bool) (a : A) (ts : List Token) → item m a ts → begins m ts) → ((m : Bool) → begins m [])
    → ((m : Bool) (ts more : List Token) → begins m (ts ++ more) → begins m ts) → (n : ℕ) (marked : Bool) (front more : List Token) → begin_items between marks item begins n marked (front ++ more)
    → BeginItems between marks item begins marked front
front_items between marks item begins begun none of_first zero marked front more b = record { whole_items = zero; is = of_first marked front more b }
front_items between marks item begins begun none of_first (suc n) marked front more b =
    by_split (splits front more b.front b.behind b.whole) (front_items between marks item begins begun none of_first n (marked || marks b.value)) where
      by_split : Splits front more b.front b.behind → ((front more : List Token) → begin_items between marks item begins n (marked || marks b.value) (front ++ more) → BeginItems between marks item begins (marked || marks b.value) front)
          → BeginItems between marks item begins marked front
      by_split (inl s) others = let P : List Token → Type 0 = λ ts. begins marked ts in record { whole_items = zero; is = of_first marked front s.0 (subst P s.1 (begun marked b.value b.front b.starts)) }
      by_split (inr s) others = by_rest s.0 s.1 (s.2 ∙ b.ends.whole) others where
        by_rest : (m : List Token) → front ≡ b.front ++ m → m ++ more ≡ between ∷ b.ends.behind
            → ((front more : List Token) → begin_items between marks item begins n (marked || marks b.value) (front ++ more) → BeginItems between marks item begins (marked || marks b.value) front)
            → BeginItems between marks item begins marked front
        by_rest [] p q others =
            let P : List Token → Type 0 = λ ts. begins marked ts in
            record { whole_items = zero; is = subst P (sym (p ∙ simp append-nil)) (begun marked b.value b.front b.starts) }
        by_rest (x ∷ m) p q others =
            let first : x ≡ between = cc in
            let rest : m ++ more ≡ b.ends.behind = cc in
            let P : List Token → Type 0 = λ ts. begin_items between marks item begins n (marked || marks b.value) ts in
            let behind = others m more (subst P (sym rest) b.ends.spelled) in
            record { whole_items = suc behind.whole_items; is = record { value = b.value; front = b.front; behind = x ∷ m; whole = p; starts = b.starts; ends = record { behind = m; whole = rw first refl; spelled = behind.is } } }

pub begins_front : {A : Type 0} (form : Form A) (front more : List Token) → Begins form (front ++ more) → Begins form front
begins_front Never front more b = nothing_left front more b
begins_front (Nothing a) front more b = nothing_left front more b
begins_front (One value_of) front more (inl b) = inl (nothing_left front more b)
begins_front (One value_of) [] more (inr s) = inl refl
begins_front (One value_of) (x ∷ front) more (inr (value, s)) =
    let first : x ≡ s.token = (let h = s.alone in cc) in
    let rest : front ++ more ≡ [] = (let h = s.alone in cc) in
    inr (value, record { token = s.token; alone = rw (first, nothing_left front more rest) refl; stands = s.stands })
begins_front (Then first second) front more (inl b) = inl (begins_front first front more b)
begins_front (Then first second) front more (inr b) =
    front_behind (Spells first) (Begins first) (λ a. Begins second) (begins_whole first) (begins_front first) (λ a ts more p. begins_front second ts more p) front more b
begins_front (As f form) front more b = begins_front form front more b
begins_front (Where test form) front more b = begins_front form front more b
begins_front (Choose token first second) [] more (inl b) = begins_nothing (Choose token first second)
begins_front (Choose token first second) (x ∷ front) more (inl b) =
    let is : x ≡ token = (let h = b.whole in cc) in
    let rest : front ++ more ≡ b.behind = (let h = b.whole in cc) in
    let P : List Token → Type 0 = λ ts. Begins first ts in
    inl (record { behind = front; whole = rw is refl; spelled = begins_front first front more (subst P (sym rest) b.spelled) })
begins_front (Choose token first second) front more (inr b) = inr (begins_front second front more b)
begins_front (Many between marks item marked) front more b =
    front_items between marks (λ m. Spells (item m)) (λ m. Begins (item m)) (λ m a ts s. begins_whole (item m) a ts s) (λ m. begins_nothing (item m)) (λ m ts more p. begins_front (item m) ts more p) b.whole_items marked front more b.is

-- ---- the fault

-- a text that begins one is no longer than what stands in front of a fault
no_longer : {A : Type 0} (form : Form A) (tokens : List Token) (size : ℕ) → IsFault form tokens size → (front left : List Token) → tokens ≡ front ++ left → Begins form front → size ≤ length left
no_longer form tokens size f front left whole b = by_left f.left f.whole f.counted f.ends where
  by_left : (rest : List Token) → tokens ≡ f.front ++ rest → length rest ≡ size → ((t : Token) (ts : List Token) → rest ≡ t ∷ ts → ¬ (Begins form (f.front ++ t ∷ []))) → size ≤ length left
  by_left [] p q e = omega arith
  by_left (t ∷ ts) p q e = by_split (splits (f.front ++ t ∷ []) ts front left (append_assoc f.front (t ∷ []) ts ∙ (sym p ∙ whole))) where
    by_split : Splits (f.front ++ t ∷ []) ts front left → size ≤ length left
    by_split (inl s) = let P : List Token → Type 0 = λ us. Begins form us in absurd (e t ts refl (begins_front form (f.front ++ t ∷ []) s.0 (subst P s.1 b)))
    by_split (inr s) = by_middle s.0 s.1 s.2 where
      by_middle : (m : List Token) → f.front ++ t ∷ [] ≡ front ++ m → m ++ ts ≡ left → size ≤ length left
      by_middle [] u v = let P : List Token → Type 0 = λ us. Begins form us in absurd (e t ts refl (subst P (sym (u ∙ simp append-nil)) b))
      by_middle (x ∷ m) u v = let all = ap length v in let sum = length-append (x ∷ m) ts in omega arith

-- tokens have at most one fault
pub one_fault : {A : Type 0} (form : Form A) (tokens : List Token) (one other : ℕ) → IsFault form tokens one → IsFault form tokens other → one ≡ other
one_fault form tokens one other f g =
    let p = no_longer form tokens one f g.front g.left g.whole g.begins in
    let q = no_longer form tokens other g f.front f.left f.whole f.begins in
    let a = f.counted in
    let b = g.counted in
    omega arith
