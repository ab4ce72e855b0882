-- What is left of a union and of an intersection rises.
use Rattle.std.proofs.Common.{ℕ, Bool, true, false, cond, List, [], ◌∷◌, Option, None, Some, sym, subst}
use Rattle.std.specs.List.{AllByRecursion, filter}
use Rattle.sasi_host.specs.Names.{Folder}
use Rattle.sasi_ranges.specs.declared.entry.Entry.{Entry}
use Rattle.sasi_ranges.specs.declared.head.Headed.{Headed}
use Rattle.sasi_ranges.specs.Entries.{Above, Rises}
use Rattle.sasi_ranges.specs.StreamCalls.{Gives}
use Rattle.sasi_ranges.specs.inside.Meets.{MetLeaves, is_met, met_by}
use Rattle.sasi_ranges.specs.inside.Unions.{UnionLeaves}
use Rattle.sasi_ranges.proofs.Sets.{unites_rises}

filter_above : (e : Entry) (test : Entry → Bool) (es : List Entry) → AllByRecursion (Above e) es → AllByRecursion (Above e) (filter test es)
filter_above e test [] all = tt
filter_above e test (x ∷ xs) all = by (test x) (filter_above e test xs all.1)
  where
    by : (b : Bool) → AllByRecursion (Above e) (filter test xs) → AllByRecursion (Above e) (cond b (x ∷ filter test xs) (filter test xs))
    by true later = (all.0, later)
    by false later = later

pub filter_rises : (test : Entry → Bool) (es : List Entry) → Rises es → Rises (filter test es)
filter_rises test [] rises = tt
filter_rises test (x ∷ xs) rises = by (test x) (filter_rises test xs rises.1)
  where
    by : (b : Bool) → Rises (filter test xs) → Rises (cond b (x ∷ filter test xs) (filter test xs))
    by true later = (filter_above x test xs rises.0, later)
    by false later = later

pub union_rises_on : {S : Type 0} (leaves : S → Option Folder → List Entry → Type 0) (files : Option Folder) (hs : List (Headed S)) (es : List Entry)
    → UnionLeaves leaves files hs es → Rises es
union_rises_on leaves files hs es left = unites_rises left.0 es left.2 left.3

pub met_rises_on : {S : Type 0} (leaves : S → Option Folder → List Entry → Type 0) (files : Option Folder) (hs : List (Headed S)) (relations : List (List ℕ)) (current : Option ℕ) (es : List Entry) → MetLeaves leaves files hs relations current es → Rises es
met_rises_on leaves files hs relations current es left =
    subst Rises (sym left.4.2) (filter_rises (is_met (met_by relations) current left.0) left.4.0 (unites_rises left.0 left.4.0 left.2 left.4.1))

-- what is given and what is left rise together
pub gives_rising : (Left : List Entry → Type 0) (es : List Entry) (found : Option Entry) → ((rest : List Entry) → Left rest → Rises rest)
    → Gives Left es found → Gives (λ rest. Left rest × Rises rest) es found
gives_rising Left es None rises gives = (gives.0, (gives.1, rises [] gives.1))
gives_rising Left es (Some e) rises gives = (gives.0, gives.1, (gives.2, rises gives.0 gives.2))
