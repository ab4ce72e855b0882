use Rattle.std.proofs.Common.{◌≡◌, ◌<◌, ◌≤◌, ◌∙◌, ℕ, zero, suc, List, [], ◌∷◌, ap, get_or, length, refl, arith}
use Rattle.sasi_ranges.specs.declared.head.Head.TheVariants.{Ended}
use Rattle.sasi_ranges.specs.declared.head.Headed.{Headed}
use Rattle.sasi_ranges.specs.inside.Heads.{head_at}
use Rattle.sasi_ranges.proofs.intersection.head_at.Goals as goal

head_past : {S : Type 0} (hs : List (Headed S)) (at : ℕ) → length hs ≤ at → Ended ≡ head_at hs at
head_past [] at past = refl
head_past (h ∷ hs) zero past = absurd (omega (arith, past))
head_past (h ∷ hs) (suc at) past = head_past hs at (omega (arith, past))

head_here : {S : Type 0} (hs : List (Headed S)) (at : ℕ) (d : Headed S) → at < length hs → (get_or hs at d).head ≡ head_at hs at
head_here [] at d here = absurd (omega (arith, here))
head_here (h ∷ hs) zero d here = refl
head_here (h ∷ hs) (suc at) d here = head_here hs at d (omega (arith, here))

pub returns-in-None : goal.returns-in-None
returns-in-None g c = let found = c.in-None.ensures.lookup in head_past c.args.streams.now c.args.at found.3

pub returns-in-Some : goal.returns-in-Some
returns-in-Some g c =
    let found = c.in-Some.ensures.lookup in
    ap (λ (h : Headed _). h.head) found.1 ∙ head_here c.args.streams.now c.args.at c.in-Some.stream.now found.3.0
