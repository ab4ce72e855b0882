-- Entries in the order of their tokens, one token after another.
use Rattle.std.proofs.Common.{◌≡◌, ℕ, suc, ◌<◌, ◌≤◌, Bool, true, false, cond, ◌&&◌, ◌||◌, not, nat_eq, List, [], ◌∷◌, ◌++◌, map, refl, sym, ap, ap₂, subst, ◌∙◌, arith, ⊎_elim}
use Rattle.std.proofs.lemmas.Bool.Decides.{leb_tells, nat_tests}
use Rattle.std.specs.Cmp.{nat_cmp_is}
use Rattle.std.specs.List.{AllByRecursion, filter, flat_map, list_any}
use Rattle.std.specs.Ordering.{nat_cmp, ordering_then}
use Rattle.std.specs.declared.cmp.Ordering.{Ordering}
use Rattle.std.specs.declared.cmp.Ordering.TheVariants.{Less, Equal, Greater}
use Rattle.sasi_ranges.specs.declared.entry.Entry.{Entry}
use Rattle.sasi_ranges.specs.Entries.{Above, Rises}
use Rattle.sasi_engine.specs.TokenTurns.{with_token}

-- ---- tokens that don't fall

above_token : (x y : Entry) → Above x y → x.token ≤ y.token
above_token x y less = ⊎_elim
    (λ le. le.1)
    (λ gt. (let is : Less ≡ Greater = sym less ∙ ap (λ (o : Ordering). ordering_then (ordering_then (ordering_then o (nat_cmp x.leaf y.leaf)) (nat_cmp x.part y.part)) (nat_cmp x.place y.place)) (sym (nat_cmp_is x.token y.token Greater gt.1)) in absurd (cc)))
    (leb_tells x.token y.token)

abbrev pub DontFall : List Entry → Type 0
DontFall [] = Unit {0}
DontFall (x ∷ xs) = AllByRecursion (λ (y : Entry). x.token ≤ y.token) xs × DontFall xs

all_from : (x : Entry) (xs : List Entry) → AllByRecursion (Above x) xs → AllByRecursion (λ (y : Entry). x.token ≤ y.token) xs
all_from x [] all = tt
all_from x (y ∷ xs) all = (above_token x y all.0, all_from x xs all.1)

pub dont_fall : (es : List Entry) → Rises es → DontFall es
dont_fall [] rises = tt
dont_fall (x ∷ es) rises = (all_from x es rises.0, dont_fall es rises.1)

-- ---- the entries with the least token come first

abbrev without_token : ℕ → List Entry → List Entry
without_token token es = filter (λ (e : Entry). not (nat_eq e.token token)) es

pub none_at : (t : ℕ) (es : List Entry) → AllByRecursion (λ (e : Entry). t < e.token) es → (with_token t es ≡ []) × (without_token t es ≡ es)
none_at t [] all = (refl, refl)
none_at t (e ∷ es) all =
    let rest = none_at t es all.1 in
    let other : nat_eq e.token t ≡ false = higher t e.token all.0 in (
      ap (λ b. cond b (e ∷ with_token t es) (with_token t es)) other ∙ rest.0,
      ap (λ b. cond (not b) (e ∷ without_token t es) (without_token t es)) other ∙ ap (λ l. e ∷ l) rest.1,
    )
  where
    higher : (x y : ℕ) → x < y → nat_eq y x ≡ false
    higher x y lt = grind (arith, nat_tests)

pub all_higher : (t u : ℕ) (es : List Entry) → t < u → AllByRecursion (λ (e : Entry). u ≤ e.token) es → AllByRecursion (λ (e : Entry). t < e.token) es
all_higher t u [] lt all = tt
all_higher t u (e ∷ es) lt all = (omega (arith, lt, all.0), all_higher t u es lt all.1)

split_off : (t : ℕ) (es : List Entry) → AllByRecursion (λ (e : Entry). t ≤ e.token) es → DontFall es → es ≡ with_token t es ++ without_token t es
split_off t [] all falls = refl
split_off t (e ∷ es) all falls = by (nat_eq e.token t) refl (split_off t es all.1 falls.1)
  where
    later : (x y : ℕ) → x ≤ y → nat_eq y x ≡ false → x < y
    later x y le other = grind (arith, nat_tests)

    by : (b : Bool) → nat_eq e.token t ≡ b → es ≡ with_token t es ++ without_token t es → e ∷ es ≡ cond b (e ∷ with_token t es) (with_token t es) ++ cond (not b) (e ∷ without_token t es) (without_token t es)
    by true same rest = ap (λ l. e ∷ l) rest
    by false other rest =
        (let higher = none_at t es (all_higher t e.token es (later t e.token all.0 other) falls.0) in
        sym (ap₂ (λ front back. front ++ e ∷ back) higher.0 higher.1))

-- ---- one run for each token

abbrev pub TokensApart : List ℕ → Type 0
TokensApart [] = Unit {0}
TokensApart (t ∷ ts) = AllByRecursion (λ u. t < u) ts × TokensApart ts

kept_all : (P : Entry → Type 0) (test : Entry → Bool) (es : List Entry) → AllByRecursion P es → AllByRecursion P (filter test es)
kept_all P test [] all = tt
kept_all P test (e ∷ es) all = by (test e) (kept_all P test es all.1)
  where
    by : (b : Bool) → AllByRecursion P (filter test es) → AllByRecursion P (cond b (e ∷ filter test es) (filter test es))
    by true rest = (all.0, rest)
    by false rest = rest

kept_fall : (test : Entry → Bool) (es : List Entry) → DontFall es → DontFall (filter test es)
kept_fall test [] falls = tt
kept_fall test (e ∷ es) falls = by (test e) (kept_fall test es falls.1)
  where
    by : (b : Bool) → DontFall (filter test es) → DontFall (cond b (e ∷ filter test es) (filter test es))
    by true rest = (kept_all (λ (y : Entry). e.token ≤ y.token) test es falls.0, rest)
    by false rest = rest

-- the token of each is one of these
abbrev pub AreAmong : List ℕ → List Entry → Type 0
AreAmong ts es = AllByRecursion (λ (e : Entry). list_any (nat_eq e.token) ts ≡ true) es

no_fewer : (t n : ℕ) (ts : List ℕ) → AllByRecursion (λ u. t < u) ts → (nat_eq n t || list_any (nat_eq n) ts) ≡ true → t ≤ n
no_fewer t n [] all any = by (nat_eq n t) refl any
  where
    same : (x y : ℕ) → nat_eq x y ≡ true → y ≤ x
    same x y e = grind (arith, nat_tests)

    by : (b : Bool) → nat_eq n t ≡ b → (b || false) ≡ true → t ≤ n
    by true e is = same n t e
    by false e is = cc
no_fewer t n (u ∷ ts) all any = by (nat_eq n t) refl (nat_eq n u) refl any (no_fewer t n ts all.1)
  where
    same : (x y : ℕ) → nat_eq x y ≡ true → y ≤ x
    same x y e = grind (arith, nat_tests)

    by : (b : Bool) → nat_eq n t ≡ b → (c : Bool) → nat_eq n u ≡ c → (b || (c || list_any (nat_eq n) ts)) ≡ true → ((nat_eq n t || list_any (nat_eq n) ts) ≡ true → t ≤ n) → t ≤ n
    by true e c d is later = same n t e
    by false e true d is later = omega (arith, same n u d, all.0)
    by false e false d is later = later (ap (λ b. b || list_any (nat_eq n) ts) e ∙ is)

all_no_fewer : (t : ℕ) (ts : List ℕ) (es : List Entry) → AllByRecursion (λ u. t < u) ts → AreAmong (t ∷ ts) es → AllByRecursion (λ (e : Entry). t ≤ e.token) es
all_no_fewer t ts [] below among = tt
all_no_fewer t ts (e ∷ es) below among = (no_fewer t e.token ts below among.0, all_no_fewer t ts es below among.1)

among_rest : (t : ℕ) (ts : List ℕ) (es : List Entry) → AreAmong (t ∷ ts) es → AreAmong ts (without_token t es)
among_rest t ts [] among = tt
among_rest t ts (e ∷ es) among = by (nat_eq e.token t) refl among.0 (among_rest t ts es among.1)
  where
    by : (b : Bool) → nat_eq e.token t ≡ b → (b || list_any (nat_eq e.token) ts) ≡ true → AreAmong ts (without_token t es) → AreAmong ts (cond (not b) (e ∷ without_token t es) (without_token t es))
    by true same is rest = rest
    by false other is rest = (is, rest)

still_with : (t u : ℕ) (es : List Entry) → t < u → with_token u (without_token t es) ≡ with_token u es
still_with t u [] lt = refl
still_with t u (e ∷ es) lt = by (nat_eq e.token t) refl (still_with t u es lt)
  where
    apart : (x y z : ℕ) → nat_eq z x ≡ true → x < y → nat_eq z y ≡ false
    apart x y z same lt = grind (arith, nat_tests)

    by : (b : Bool) → nat_eq e.token t ≡ b → with_token u (without_token t es) ≡ with_token u es → with_token u (cond (not b) (e ∷ without_token t es) (without_token t es)) ≡ cond (nat_eq e.token u) (e ∷ with_token u es) (with_token u es)
    by true same rest = rest ∙ ap (λ b. cond b (e ∷ with_token u es) (with_token u es)) (sym (apart t u e.token same lt))
    by false other rest = ap (λ l. cond (nat_eq e.token u) (e ∷ l) l) rest

same_runs : (t : ℕ) (ts : List ℕ) (es : List Entry) → AllByRecursion (λ u. t < u) ts → flat_map (λ u. with_token u (without_token t es)) ts ≡ flat_map (λ u. with_token u es) ts
same_runs t [] es below = refl
same_runs t (u ∷ ts) es below = ap₂ (λ l m. l ++ m) (still_with t u es below.0) (same_runs t ts es below.1)

runs_fall : (ts : List ℕ) (es : List Entry) → TokensApart ts → DontFall es → AreAmong ts es → es ≡ flat_map (λ t. with_token t es) ts
runs_fall [] [] apart falls among = refl
runs_fall [] (e ∷ es) apart falls among = (let no : false ≡ true = among.0 in cc)
runs_fall (t ∷ ts) es apart falls among =
    split_off t es (all_no_fewer t ts es apart.0 among) falls
    ∙ ap (λ l. with_token t es ++ l)
    (runs_fall ts (without_token t es) apart.1 (kept_fall (λ (e : Entry). not (nat_eq e.token t)) es falls) (among_rest t ts es among) ∙ same_runs t ts es apart.0)

-- **Entries that rise, whose tokens are among these, are the entries with the first of the tokens, then those with the next.**
pub token_runs : (ts : List ℕ) (es : List Entry) → TokensApart ts → Rises es → AreAmong ts es → es ≡ flat_map (λ t. with_token t es) ts
token_runs ts es apart rises among = runs_fall ts es apart (dont_fall es rises) among
