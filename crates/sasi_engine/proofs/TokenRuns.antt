-- For callers: the entries that are read of a token are all that the stream has of it.
use Rattle.std.proofs.Common.{◌≡◌, ◌≢◌, ℕ, List, [], ◌∷◌, ◌++◌, Option, None, Some, IfSome, refl, sym, ap, subst, ◌∙◌}
use Rattle.std.specs.List.{AllByRecursion}
use Rattle.std.specs.Option.{option_to_list}
use Rattle.sasi_ranges.specs.declared.entry.Entry.{Entry}

-- the first one has another token
abbrev pub BeginsApart : ℕ → List Entry → Type 0
BeginsApart token [] = Unit {0}
BeginsApart token (e ∷ es) = e.token ≢ token

-- entries with a token, and then none of it at first: there is one way to part them
pub one_parting : (token : ℕ) (a c b d : List Entry) → AllByRecursion (λ (e : Entry). e.token ≡ token) a → AllByRecursion (λ (e : Entry). e.token ≡ token) c → BeginsApart token b → BeginsApart token d → a ++ b ≡ c ++ d → (a ≡ c) × (b ≡ d)
one_parting token [] [] b d own other apart after same = (refl, same)
one_parting token [] (x ∷ c) b d own other apart after same = absurd (subst (BeginsApart token) same apart other.0)
one_parting token (x ∷ a) [] b d own other apart after same = absurd (subst (BeginsApart token) (sym same) after own.0)
one_parting token (x ∷ a) (y ∷ c) b d own other apart after same =
    let first : x ≡ y = cc in
    let rest : a ++ b ≡ c ++ d = cc in
    let parts = one_parting token a c b d own.1 other.1 apart after rest in (λ i. first i ∷ parts.0 i, parts.1)

begins_ahead : (token : ℕ) (after : Option Entry) (rest : List Entry) → IfSome after (λ (e : Entry). e.token ≢ token) → (after ≡ None → rest ≡ []) → BeginsApart token (option_to_list after ++ rest)
begins_ahead token None rest apart ends = subst (BeginsApart token) (sym (ends refl)) tt
begins_ahead token (Some e) rest apart ends = apart

-- **What was read of the token is its run, and what is behind it is left.**
pub run_taken : (token : ℕ) (run others taken : List Entry) (after : Option Entry) (rest : List Entry) → AllByRecursion (λ (e : Entry). e.token ≡ token) run → BeginsApart token others → AllByRecursion (λ (e : Entry). e.token ≡ token) taken
    → IfSome after (λ (e : Entry). e.token ≢ token) → (after ≡ None → rest ≡ []) → run ++ others ≡ taken ++ (option_to_list after ++ rest) → (taken ≡ run) × (option_to_list after ++ rest ≡ others)
run_taken token run others taken after rest own apart of_token ahead ends same =
    let parts = one_parting token run taken others (option_to_list after ++ rest) own of_token apart (begins_ahead token after rest ahead ends) same in (sym parts.0, sym parts.1)
