-- Known bytes that are consumed, one read after another.
use Rattle.std.proofs.Common.{◌≡◌, ℕ, List, [], ◌∷◌, ◌++◌, length, Option, None, Some, refl, sym, ap, ◌∙◌, subst, arith, append_assoc}
use Rattle.std.proofs.lemmas.List.{append-nil}
use Rattle.std.specs.Io.KnownBytes.{Consumes, Keeps}

pub consumes_both : (a b c : Option (List ℕ)) (xs ys : List ℕ) → Consumes a b xs → Consumes b c ys → Consumes a c (xs ++ ys)
consumes_both None b c xs ys p q = tt
consumes_both (Some a) None c xs ys p q = absurd p
consumes_both (Some a) (Some b) None xs ys p q = absurd q
consumes_both (Some a) (Some b) (Some c) xs ys p q = rw (p, q) (sym (append_assoc xs ys c))

-- a call that gave nothing
pub consumes_kept : (a b c : Option (List ℕ)) (xs : List ℕ) → Consumes a b xs → Keeps b c → Consumes a c xs
consumes_kept None b c xs p q = tt
consumes_kept (Some a) None c xs p q = absurd p
consumes_kept (Some a) (Some b) None xs p q = absurd q
consumes_kept (Some a) (Some b) (Some c) xs p q = rw q p

pub consumes_nothing : (a : Option (List ℕ)) → Consumes a a []
consumes_nothing None = tt
consumes_nothing (Some xs) = refl

no_bytes : (xs : List ℕ) → length xs ≡ 0 → xs ≡ []
no_bytes [] e = refl
no_bytes (x ∷ xs) e = absurd (omega arith)

-- a read that gave no bytes
pub consumes_none : (a b c : Option (List ℕ)) (xs none : List ℕ) → Consumes a b xs → Consumes b c none → length none ≡ 0 → Consumes a c xs
consumes_none a b c xs none p q e = subst (λ ys. Consumes a c ys) (ap (λ ys. xs ++ ys) (no_bytes none e) ∙ append-nil xs)
    (consumes_both a b c xs none p q)
