use Rattle.std.proofs.Common.{◌≡◌, ℕ, ◌<◌, [], Contains, Option, None, Some, IsSome, refl, ap, subst, ◌∙◌, arith}
use Rattle.std.specs.Prelude.{MatchOption}
use Rattle.std.specs.NonZero.{non_zero_usize_get}
use Rattle.lru.proofs.Splits.{Contains-nil}
use Rattle.lru.specs.LruCache.{lru_cache}
use Rattle.sasi_cache.specs.Pages.{Pages}
use Rattle.sasi_cache.proofs.cached.Cached.new.Goals as goal

is_one : {X : Type 0} (o : Option X) (n : ℕ) (P : X → Type 0) → 0 < n → MatchOption o (n ≡ 0) P → IsSome o
is_one None n P some is = absurd (omega (arith, some, is))
is_one (Some x) n P some is = refl

is_that : {X : Type 0} (o : Option X) (x : X) (n : ℕ) (f : X → ℕ) → o ≡ Some x → MatchOption o (n ≡ 0) (λ y. f y ≡ n) → f x ≡ n
is_that {X} o x n f same is = subst (λ (p : Option X). MatchOption p (n ≡ 0) (λ y. f y ≡ n)) same is

pub unwrap-room-requires : goal.unwrap-room-requires
unwrap-room-requires c = is_one c.new.result c.args.pages _ c.requires c.new.ensures

pub returns-clause-empty : goal.returns-clause-empty
returns-clause-empty c = c.in_ok-pages.ensures ∙ ap (λ (n : ℕ). lru_cache [] n) (is_that c.new.result c.unwrap-room.result c.args.pages non_zero_usize_get c.unwrap-room.ensures c.new.ensures)

pub returns-clause-agrees : goal.returns-clause-agrees
returns-clause-agrees c files e has = absurd (Contains-nil e (subst (λ (p : Pages). Contains p.entries e) c.in_ok-pages.ensures has))

pub returns-clause-covers : goal.returns-clause-covers
returns-clause-covers c name covers = Contains-nil covers.0 (subst (λ (p : Pages). Contains p.entries covers.0) c.in_ok-pages.ensures covers.1)
