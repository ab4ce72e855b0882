-- What a source of candidates owes, and which price pays it.
use Rattle.std.proofs.Common.{◌≡◌, ℕ, ◌+◌, ◌≤◌, List, [], ◌∷◌, ◌++◌, map, refl, ap, arith}
use Rattle.std.specs.List.{AllByRecursion}
use Rattle.sasi_types.specs.Token.{token_of}
use Rattle.sasi_candidates.specs.Costs.{token_cost}
use Rattle.sasi_candidates.specs.Groups.{Group}
use Rattle.sasi_lookup.specs.Files.{LookedFile}
use Rattle.sasi_lookup.specs.Reads.{turn_reads}
use Rattle.sasi_recheck.specs.Sources.{Candidate, first_price}
use Rattle.sasi_engine.specs.HitCandidates.{IsRowOf, Owes, PlanWorld, candidates_at, owed_behind, prices_from, prices_of}
use Rattle.sasi_engine.specs.TokenHits.{AreSmall, contents_in_files}
use Rattle.sasi_engine.proofs.LookCosts.{first_within, later_within}

-- ---- the first price

covers : (w : PlanWorld) (owed price : ℕ) (rows : List Candidate) (groups : List Group) → owed ≤ first_price (prices_from w owed groups) → owed ≤ first_price (prices_of owed price rows ++ prices_from w (owed_behind owed rows) groups)
covers w owed price [] groups rest = rest
covers w owed price (e ∷ rows) groups rest = omega arith

prices_cover : (w : PlanWorld) (owed : ℕ) (groups : List Group) → owed ≤ first_price (prices_from w owed groups)
prices_cover w owed [] = omega arith
prices_cover w owed (g ∷ gs) =
    let price = token_cost w.partitioner w.parts g.token in
    let one : owed + token_cost w.partitioner w.parts g.token ≤ first_price (prices_from w owed (g ∷ gs)) = covers w (owed + price) price (candidates_at w g).rows gs (prices_cover w (owed + price) gs) in
    omega (arith, one)

-- the first price pays what is owed,
owed_within : (w : PlanWorld) (owed token : ℕ) (groups : List Group) (prices : List ℕ) → Owes w owed token [] groups prices → owed ≤ first_price prices
owed_within w owed token [] prices owes = owes
owed_within w owed token (g ∷ gs) prices owes = omega (arith, prices_cover w owed (g ∷ gs), ap first_price owes)

group_cover : (w : PlanWorld) (owed : ℕ) (g : Group) (gs : List Group) → owed + token_cost w.partitioner w.parts g.token ≤ first_price (prices_from w owed (g ∷ gs))
group_cover w owed g gs =
    let price = token_cost w.partitioner w.parts g.token in
    covers w (owed + price) price (candidates_at w g).rows gs (prices_cover w (owed + price) gs)

-- and with it a look at the next token
pub turn_within : (w : PlanWorld) (owed token : ℕ) (g : Group) (gs : List Group) (prices : List ℕ) → Owes w owed token [] (g ∷ gs) prices → owed + token_cost w.partitioner w.parts g.token ≤ first_price prices
turn_within w owed token g gs prices owes = omega (arith, group_cover w owed g gs, ap first_price owes)

-- ---- a new source

pub owes_nothing : (w : PlanWorld) (token : ℕ) (groups : List Group) → Owes w 0 token [] groups (prices_from w 0 groups)
owes_nothing w token [] = omega arith
owes_nothing w token (g ∷ gs) = refl

-- ---- the next token

-- what is owed behind it
pub record OwesMore (w : PlanWorld) (owed spent token : ℕ) (rows : List Candidate) (groups : List Group) (prices : List ℕ) : Type 0 where
  pub more : ℕ
  pub owes : Owes w more token rows groups prices
  pub paid : owed + spent ≤ more

-- where the token has no candidate
none_owes : (w : PlanWorld) (owed token : ℕ) (groups : List Group) (prices : List ℕ) → prices ≡ prices_from w owed groups → Owes w owed token [] groups prices
none_owes w owed token [] prices is = omega (arith, ap first_price is)
none_owes w owed token (g ∷ gs) prices is = is

pub turned_owes : (w : PlanWorld) (owed before : ℕ) (g : Group) (gs : List Group) (prices : List ℕ) (files : List LookedFile) (key : List ℕ) → token_of w.partitioner key ≡ g.token → AreSmall w.parts → AllByRecursion (IsRowOf w g.token) (candidates_at w g).rows
    → Owes w owed before [] (g ∷ gs) prices → OwesMore w owed (turn_reads w.partitioner g.token files (contents_in_files w.parts)) g.token (candidates_at w g).rows gs prices
turned_owes w owed before g gs prices files key own small all owes = by (candidates_at w g).rows all owes
  where
    price : ℕ
    price = token_cost w.partitioner w.parts g.token

    spent : ℕ
    spent = turn_reads w.partitioner g.token files (contents_in_files w.parts)

    by : (rows : List Candidate) → AllByRecursion (IsRowOf w g.token) rows → prices ≡ prices_of (owed + price) price rows ++ prices_from w (owed_behind (owed + price) rows) gs → OwesMore w owed spent g.token rows gs prices
    by [] are is = record { more = owed + price; owes = none_owes w (owed + price) g.token gs prices is; paid = omega (arith, first_within w.partitioner g.token key own files w.parts small) }
    by (e ∷ rows) are is = record {
      more = owed + spent;
      owes = (owed + price, is, omega (arith, first_within w.partitioner g.token e.0.key are.0.own_token files w.parts small));
      paid = omega arith;
    }

-- what is read of it is within a look at the token
pub turn_cost : (w : PlanWorld) (token : ℕ) (files : List LookedFile) (key : List ℕ) → token_of w.partitioner key ≡ token → AreSmall w.parts → turn_reads w.partitioner token files (contents_in_files w.parts) ≤ token_cost w.partitioner w.parts token
turn_cost w token files key own small = omega (arith, first_within w.partitioner token key own files w.parts small)

-- ---- the next key

-- the price of the key pays what is owed, and the others are left
pub looked_owes : (w : PlanWorld) (token : ℕ) (rows : List Candidate) (groups : List Group) (prices : List ℕ) → AllByRecursion (IsRowOf w token) rows
    → prices ≡ map (λ (x : Candidate). token_cost w.partitioner w.parts token) rows ++ prices_from w 0 groups → Owes w 0 token rows groups prices
looked_owes w token [] groups prices all is = none_owes w 0 token groups prices is
looked_owes w token (e ∷ rows) groups prices all is = (token_cost w.partitioner w.parts token, is, omega (arith, later_within w.partitioner token e.0.key all.0.own_token w.parts))

-- ---- at any time

-- the next price pays what is owed
pub owes_within : (w : PlanWorld) (owed token : ℕ) (rows : List Candidate) (groups : List Group) (prices : List ℕ) → Owes w owed token rows groups prices → owed ≤ first_price prices
owes_within w owed token [] groups prices owes = owed_within w owed token groups prices owes
owes_within w owed token (e ∷ rows) groups prices owes = omega (arith, owes.2, ap first_price owes.1)
