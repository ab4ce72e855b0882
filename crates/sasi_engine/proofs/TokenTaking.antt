-- Entries that are taken from a stream, one after another.
use Rattle.std.proofs.Common.{◌≡◌, ◌≢◌, ℕ, List, [], ◌∷◌, ◌++◌, Option, None, Some, IfSome, refl, sym, ap, subst, ◌∙◌}
use Rattle.std.proofs.lemmas.List.{append-nil, append_assoc}
use Rattle.std.specs.List.{AllByRecursion}
use Rattle.std.specs.Option.{option_to_list}
use Rattle.sasi_ranges.specs.declared.entry.Entry.{Entry}
use Rattle.sasi_ranges.specs.StreamCalls.{Gives}
use Rattle.sasi_engine.specs.TokenTurns.{GivesAfter, HasNext, HasTaken, TakesNext, TakesToken}

pub taken_none : (Left : List Entry → Type 0) (token : ℕ) (old es : List Entry) → Left es → HasTaken Left token old old es
taken_none Left token old es left = record { taken = []; new_is = sym (append-nil old); of_token = tt; behind = es; parts = refl; left = left }

all_more : (token : ℕ) (taken : List Entry) (e : Entry) → AllByRecursion (λ (x : Entry). x.token ≡ token) taken → e.token ≡ token → AllByRecursion (λ (x : Entry). x.token ≡ token) (taken ++ e ∷ [])
all_more token [] e all is = (is, tt)
all_more token (x ∷ taken) e all is = (all.0, all_more token taken e all.1 is)

-- one more
pub taken_one : (Before Left : List Entry → Type 0) (token : ℕ) (old now new es : List Entry) (e : Entry) (one : HasTaken Before token old now es) → Gives Left one.behind (Some e) → e.token ≡ token → new ≡ now ++ e ∷ [] → HasTaken Left token old new es
taken_one Before Left token old now new es e one gives is pushed = record {
  taken = one.taken ++ e ∷ [];
  new_is = pushed ∙ ap (λ l. l ++ e ∷ []) one.new_is ∙ append_assoc old one.taken (e ∷ []);
  of_token = all_more token one.taken e one.of_token is;
  behind = gives.0;
  parts = one.parts ∙ ap (λ l. one.taken ++ l) gives.1 ∙ sym (append_assoc one.taken (e ∷ []) gives.0);
  left = gives.2;
}

-- ---- the next token

behind_first : (Left : List Entry → Type 0) (before after : Option Entry) (es given taken behind : List Entry) (first : Entry) → option_to_list before ++ es ≡ first ∷ given → given ≡ taken ++ behind → AllByRecursion (λ (e : Entry). e.token ≡ first.token) taken
    → IfSome after (λ (e : Entry). e.token ≢ first.token) → Gives Left behind after → HasNext Left before after es first taken
behind_first Left before None es given taken behind first parts splits of_token apart gives = record {
  rest = [];
  parts = parts ∙ ap (λ l. first ∷ l) (splits ∙ ap (λ l. taken ++ l) gives.0);
  of_token = of_token;
  apart = apart;
  ends = λ is. refl;
  left = gives.1;
}
behind_first Left before (Some e) es given taken behind first parts splits of_token apart gives = record {
  rest = gives.0;
  parts = parts ∙ ap (λ l. first ∷ l) (splits ∙ ap (λ l. taken ++ l) gives.1);
  of_token = of_token;
  apart = apart;
  ends = λ is. cc;
  left = gives.2;
}

-- the first entry, and those with its token
pub next_some : (Mid Left : List Entry → Type 0) (before after : Option Entry) (es old entries : List Entry) (first : Entry) (gives : GivesAfter Mid before es (Some first)) → old ≡ [] ++ first ∷ [] → TakesToken Left first.token old entries gives.0 after
    → TakesNext Left before after es entries
next_some Mid Left before after es old entries first gives begins takes =
    subst (TakesNext Left before after es) (sym (takes.new_is ∙ ap (λ l. l ++ takes.taken) begins))
    (behind_first Left before after es gives.0 takes.taken takes.behind first gives.1 takes.parts takes.of_token takes.apart takes.gives)
