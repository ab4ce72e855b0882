-- The first live segment after a flush: no other table needs a segment before it.
use Rattle.std.specs.Prelude.{ℕ, suc, Bool, true, false, cond, nat_eq, List, Option, None, Some, map, ⊤, ◌≡◌, ◌≤◌, ◌∷◌, []}
use Rattle.std.proofs.Common.{sym, subst, arith}
use Rattle.sasi_types.specs.declared.partitioner.Partitioner.{Partitioner}
use Rattle.sasi_cells.specs.declared.mutation.Mutation.{Mutation}
use Rattle.sasi_host.specs.Names.{Folder}
use Rattle.sasi_layout.proofs.Replaying.{IsFrom}
use Rattle.sasi_layout.specs.Layout.{TableParts, bare_table}
use Rattle.sasi_layout.specs.Moves.{lesser, floor_without}
use Rattle.sasi_layout.specs.Shape.{first_in, AreShaped}

from_lower : (b c : ℕ) (o : Option ℕ) → b ≤ c → IsFrom c o → IsFrom b o
from_lower b c None le from = tt
from_lower b c (Some k) le from = omega (arith, le, from)

lesser_below : (o : Option ℕ) (n : ℕ) → lesser o n ≤ n
lesser_below None n = omega arith
lesser_below (Some k) n = omega arith

from_lesser : (o : Option ℕ) (n : ℕ) → IsFrom (lesser o n) o
from_lesser None n = tt
from_lesser (Some k) n = omega arith

-- no other table needs a segment before this one
abbrev pub NeedFrom : ℕ → ℕ → ℕ → List TableParts → Type 0
NeedFrom bound n table [] = ⊤
NeedFrom bound n table (t ∷ ts) = (nat_eq n table ≡ false → IsFrom bound t.first) × NeedFrom bound (suc n) table ts

need_lower : (b c n table : ℕ) (ts : List TableParts) → b ≤ c → NeedFrom c n table ts → NeedFrom b n table ts
need_lower b c n table [] le need = tt
need_lower b c n table (t ∷ ts) le need = (λ other. from_lower b c t.first le (need.0 other), need_lower b c (suc n) table ts le need.1)

pub need_floor : (n table last : ℕ) (ts : List TableParts) → NeedFrom (floor_without n table last ts) n table ts
need_floor n table last [] = tt
need_floor n table last (t ∷ ts) =
    let rest = floor_without (suc n) table last ts in
    elim (nat_eq n table) as (λ b. (b ≡ false → IsFrom (cond b rest (lesser t.first rest)) t.first) × NeedFrom (cond b rest (lesser t.first rest)) (suc n) table ts) [
      | true ↦ (λ e. cc, need_floor (suc n) table last ts)
      | false ↦ (λ e. from_lesser t.first rest, need_lower (lesser t.first rest) rest (suc n) table ts (lesser_below t.first rest) (need_floor (suc n) table last ts))
    ]

pub floor_below : (n table last : ℕ) (ts : List TableParts) → floor_without n table last ts ≤ last
floor_below n table last [] = omega arith
floor_below n table last (t ∷ ts) =
    let rest = floor_without (suc n) table last ts in
    elim (nat_eq n table) as (λ b. cond b rest (lesser t.first rest) ≤ last) [
      | true ↦ floor_below (suc n) table last ts
      | false ↦ omega (arith, lesser_below t.first rest, floor_below (suc n) table last ts)
    ]

above_lesser : (b : ℕ) (o : Option ℕ) (n : ℕ) → IsFrom b o → b ≤ n → b ≤ lesser o n
above_lesser b None n from le = le
above_lesser b (Some k) n from le = omega (arith, from, le)

first_from : (table since n : ℕ) (logs : List (List Mutation)) → IsFrom n (first_in table since n logs)
first_from table since n [] = tt
first_from table since n (ms ∷ logs) = by _ (first_from table since (suc n) logs)
  where
    by : (b : Bool) → IsFrom (suc n) (first_in table since (suc n) logs) → IsFrom n (cond b (Some n) (first_in table since (suc n) logs))
    by true rest = omega arith
    by false rest = from_lower n (suc n) (first_in table since (suc n) logs) (omega arith) rest

pub floor_above : (x : Folder) (p : Partitioner) (floor n table last : ℕ) (logs : List (List Mutation)) (ts : List TableParts) → AreShaped x p floor n logs (map bare_table ts) → floor ≤ last → floor ≤ floor_without n table last ts
floor_above x p floor n table last logs [] are le = le
floor_above x p floor n table last logs (t ∷ ts) are le =
    let rest = floor_without (suc n) table last ts in
    let later = floor_above x p floor (suc n) table last logs ts are.1 le in
    elim (nat_eq n table) as (λ b. floor ≤ cond b rest (lesser t.first rest)) [
      | true ↦ later
      | false ↦ above_lesser floor t.first rest (subst (IsFrom floor) (sym are.0.first) (first_from n t.since floor logs)) later
    ]
