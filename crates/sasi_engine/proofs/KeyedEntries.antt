-- The entries of one token of a stream: those that are read of it behind a skip are all.
use Rattle.std.proofs.Common.{◌≡◌, ◌≢◌, ℕ, ◌<◌, ◌≤◌, Bool, true, false, cond, nat_eq, nat_lt, List, [], ◌∷◌, ◌++◌, Option, None, Some, IfSome, refl, sym, ap, ap₂, subst, ◌∙◌, arith, append-nil}
use Rattle.std.proofs.lemmas.Bool.Decides.{nat_tests}
use Rattle.std.proofs.lemmas.List.Elements.{filter-append}
use Rattle.std.specs.List.{AllByRecursion, filter}
use Rattle.std.specs.Option.{option_to_list}
use Rattle.sasi_ranges.specs.declared.entry.Entry.{Entry}
use Rattle.sasi_ranges.specs.Entries.{Rises, from_token}
use Rattle.sasi_engine.specs.TokenTurns.{TakesNext, with_token}
use Rattle.sasi_engine.specs.inside.KeyedSteps.{begin_with}
use Rattle.sasi_engine.proofs.Runs.{DontFall, all_higher, dont_fall, none_at}

-- ---- tests of tokens

lower_apart : (x t : ℕ) → nat_lt x t ≡ true → nat_eq x t ≡ false
lower_apart x t e = grind (arith, nat_tests)

at_least : (x t : ℕ) → nat_lt x t ≡ false → t ≤ x
at_least x t e = grind (arith, nat_tests)

higher : (x t : ℕ) → t ≤ x → nat_eq x t ≡ false → t < x
higher x t le e = grind (arith, nat_tests)

equal : (x t : ℕ) → nat_eq x t ≡ true → x ≡ t
equal x t e = grind (arith, nat_tests)

itself : (t : ℕ) → nat_eq t t ≡ true
itself t = grind (arith, nat_tests)

above_other : (x t : ℕ) → t ≤ x → x ≢ t → t < x
above_other x t le other = by (nat_eq x t) refl
  where
    by : (b : Bool) → nat_eq x t ≡ b → t < x
    by true e = absurd (other (equal x t e))
    by false e = higher x t le e

-- ---- behind a skip

-- a skip drops none of them,
skipped_none : (t : ℕ) (es : List Entry) → with_token t (from_token t es) ≡ with_token t es
skipped_none t [] = refl
skipped_none t (e ∷ es) = by (nat_lt e.token t) refl (skipped_none t es)
  where
    by : (b : Bool) → nat_lt e.token t ≡ b → with_token t (from_token t es) ≡ with_token t es → with_token t (cond b (from_token t es) (e ∷ es)) ≡ with_token t (e ∷ es)
    by true below rest = rest ∙ ap (λ b. cond b (e ∷ with_token t es) (with_token t es)) (sym (lower_apart e.token t below))
    by false above rest = refl

-- what is left doesn't fall, and is from the token on
record IsFrom (t : ℕ) (es : List Entry) : Type 0 where
  pub fall : DontFall es
  pub above : AllByRecursion (λ (e : Entry). t ≤ e.token) es

all_above : (t u : ℕ) (es : List Entry) → t ≤ u → AllByRecursion (λ (e : Entry). u ≤ e.token) es → AllByRecursion (λ (e : Entry). t ≤ e.token) es
all_above t u [] le all = tt
all_above t u (e ∷ es) le all = (omega (arith, le, all.0), all_above t u es le all.1)

left_from : (t : ℕ) (es : List Entry) → DontFall es → IsFrom t (from_token t es)
left_from t [] fall = record { fall = tt; above = tt }
left_from t (e ∷ es) fall = by (nat_lt e.token t) refl (left_from t es fall.1)
  where
    by : (b : Bool) → nat_lt e.token t ≡ b → IsFrom t (from_token t es) → IsFrom t (cond b (from_token t es) (e ∷ es))
    by true below rest = rest
    by false above rest = (let le = at_least e.token t above in record { fall = fall; above = (le, all_above t e.token es le fall.0) })

-- ---- the first run

behind_run : (xs ys : List Entry) → DontFall (xs ++ ys) → DontFall ys
behind_run [] ys fall = fall
behind_run (x ∷ xs) ys fall = behind_run xs ys fall.1

all_behind_run : (P : Entry → Type 0) (xs ys : List Entry) → AllByRecursion P (xs ++ ys) → AllByRecursion P ys
all_behind_run P [] ys all = all
all_behind_run P (x ∷ xs) ys all = all_behind_run P xs ys all.1

all_with : (t : ℕ) (es : List Entry) → AllByRecursion (λ (e : Entry). e.token ≡ t) es → with_token t es ≡ es
all_with t [] all = refl
all_with t (e ∷ es) all =
    ap (λ b. cond b (e ∷ with_token t es) (with_token t es)) (ap (λ n. nat_eq n t) all.0 ∙ itself t) ∙ ap (λ (l : List Entry). e ∷ l) (all_with t es all.1)

none_behind : (t : ℕ) (after : Option Entry) (rest : List Entry) → IfSome after (λ (e : Entry). e.token ≢ t) → (after ≡ None → rest ≡ []) → IsFrom t (option_to_list after ++ rest) → with_token t (option_to_list after ++ rest) ≡ []
none_behind t None rest apart ends from = ap (with_token t) (ends refl)
none_behind t (Some e) rest apart ends from =
    let lt = above_other e.token t from.above.0 apart in
    (none_at t (e ∷ rest) (lt, all_higher t e.token rest lt from.fall.0)).0

none_higher : (t : ℕ) (e : Entry) (es : List Entry) → DontFall (e ∷ es) → t < e.token → with_token t (e ∷ es) ≡ []
none_higher t e es fall lt = (none_at t (e ∷ es) (lt, all_higher t e.token es lt fall.0)).0

module _ (Left : List Entry → Type 0) (after : Option Entry) (token : ℕ) (es : List Entry) (rises : Rises es) where
  abbrev from : IsFrom token (from_token token es)
  from = left_from token es (dont_fall es rises)

  -- **What is read begins with the token: it is the run.**
  pub run_read : (entries : List Entry) → TakesNext Left None after (from_token token es) entries → begin_with token entries ≡ true → entries ≡ with_token token es
  run_read [] takes begins = cc
  run_read (e ∷ more) takes begins =
      let first : e.token ≡ token = equal e.token token begins in
      let behind : List Entry = option_to_list after ++ takes.rest in
      let own : AllByRecursion (λ (x : Entry). x.token ≡ token) (e ∷ more) = (first, subst (λ t. AllByRecursion (λ (x : Entry). x.token ≡ t) more) first takes.of_token) in
      let whole : IsFrom token ((e ∷ more) ++ behind) = subst (IsFrom token) takes.parts from in
      let left : IsFrom token behind = record { fall = behind_run (e ∷ more) behind whole.fall; above = all_behind_run (λ (x : Entry). token ≤ x.token) (e ∷ more) behind whole.above } in
      let none : with_token token behind ≡ [] = none_behind token after takes.rest (subst (λ t. IfSome after (λ (x : Entry). x.token ≢ t)) first takes.apart) takes.ends left in
      sym (append-nil (e ∷ more))
      ∙ sym (ap₂ (λ (xs ys : List Entry). xs ++ ys) (all_with token (e ∷ more) own) none)
      ∙ sym (filter-append (λ (x : Entry). nat_eq x.token token) (e ∷ more) behind)
      ∙ ap (with_token token) (sym takes.parts)
      ∙ skipped_none token es

  -- **Where it begins with another one, there is no run.**
  pub no_run : (entries : List Entry) → TakesNext Left None after (from_token token es) entries → begin_with token entries ≡ false → [] ≡ with_token token es
  no_run [] takes begins = sym (ap (with_token token) takes.0) ∙ skipped_none token es
  no_run (e ∷ more) takes begins =
      let behind : List Entry = more ++ (option_to_list after ++ takes.rest) in
      let whole : IsFrom token (e ∷ behind) = subst (IsFrom token) takes.parts from in
      sym (ap (with_token token) takes.parts ∙ none_higher token e behind whole.fall (higher e.token token whole.above.0 begins)) ∙ skipped_none token es
