-- Cells of which each comes after the one before rise by their columns.
use Rattle.std.proofs.Common.{◌≡◌, ◌<◌, ◌≤◌, ℕ, Bool, true, false, ◌&&◌, Option, None, Some, refl, sym, ap, ◌∙◌, subst, arith, rules, List, [], ◌∷◌, ◌++◌}
use Rattle.std.specs.Prelude.{nat_le, not}
use Rattle.std.specs.List.{AllByRecursion, list_all}
use Rattle.std.specs.Ordering.{nat_cmp, is_lt}
use Rattle.std.specs.FinMap.{is_sorted}
use Rattle.std.specs.FinMap.Entries.{below_all}
use Rattle.std.proofs.lemmas.Bool.Decides.{nat_tests}
use Rattle.sasi_types.specs.declared.column.ColumnType.{ColumnType}
use Rattle.sasi_model.specs.Stored.{IsCell, IsListed}
use Rattle.sasi_cells.specs.Entries.{Entry, is_above, IsOrdered}
use Rattle.sasi_formats.specs.Formats.{Fits, fit_items}
use Rattle.sasi_formats.specs.Fields.{last}
use Rattle.sasi_formats.proofs.Fitting.{both_true}
use Rattle.sasi_formats.proofs.Putting.{last_push}
use Rattle.sasi_body.specs.Body.{is_next, cell}
use Rattle.sasi_body.proofs.FitCells.{cell_fits, fits_cell}

-- each cell comes after the one before
abbrev pub is_chain : Option Entry → List Entry → Type 0
is_chain before [] = Unit {0}
is_chain before (e ∷ others) = (is_next before e.0 ≡ true) × is_chain (Some e) others

is_less : (a b : ℕ) → a < b → is_lt (nat_cmp a b) ≡ true
is_less a b h = grind (arith, nat_tests)

less : (a b : ℕ) → is_lt (nat_cmp a b) ≡ true → a < b
less a b h = grind (arith, nat_tests)

and_true : (a b : Bool) → a ≡ true → b ≡ true → a && b ≡ true
and_true true b h k = k
and_true false b h k = absurd cc

-- ---- a chain is sorted

all_below : (k : ℕ) (before : Entry) (cells : List Entry) → k ≤ before.0 → is_chain (Some before) cells → below_all nat_cmp k cells ≡ true
all_below k before [] at h = refl
all_below k before (e ∷ others) at h =
    let next : before.0 < e.0 = search (rules, h.0) in
    and_true (is_lt (nat_cmp k e.0)) (below_all nat_cmp k others) (is_less k e.0 (omega (arith, at, next))) (all_below k e others (omega (arith, at, next)) h.1)

pub chain_sorted : (before : Option Entry) (cells : List Entry) → is_chain before cells → is_sorted nat_cmp cells ≡ true
chain_sorted before [] h = refl
chain_sorted before (e ∷ others) h = and_true (below_all nat_cmp e.0 others) (is_sorted nat_cmp others) (all_below e.0 e others (omega arith) h.1) (chain_sorted (Some e) others h.1)

-- ---- and sorted cells are a chain

pub sorted_chain : (before : Option Entry) (cells : List Entry) → ((e : Entry) → before ≡ Some e → below_all nat_cmp e.0 cells ≡ true) → is_sorted nat_cmp cells ≡ true → is_chain before cells
sorted_chain before [] below sorted = tt
sorted_chain before (e ∷ others) below sorted =
    let parts = both_true (below_all nat_cmp e.0 others) (is_sorted nat_cmp others) sorted in
    (first before below, sorted_chain (Some e) others (λ x is. let same : e ≡ x = cc in ap (λ (y : Entry). below_all nat_cmp y.0 others) (sym same) ∙ parts.0) parts.1)
  where
    first : (before : Option Entry) → ((x : Entry) → before ≡ Some x → below_all nat_cmp x.0 (e ∷ others) ≡ true) → is_next before e.0 ≡ true
    first None below = refl
    first (Some x) below = let lower = less x.0 e.0 (both_true (is_lt (nat_cmp x.0 e.0)) (below_all nat_cmp x.0 others) (below x refl)).0 in search (rules, lower)

-- ---- the cells of a body

-- the cells are those of a table, above a deletion, and rise after others
pub record FitCells (listed : List ColumnType) (deleted : ℕ) (before : Option Entry) (cells : List Entry) : Type 0 where
  pub each : AllByRecursion (IsCell deleted) cells
  pub listed_are : AllByRecursion (IsListed listed) cells
  pub rising : is_chain before cells

pub cells_fit : (listed : List ColumnType) (deleted : ℕ) (cells before : List Entry) → FitCells listed deleted (last before) cells → fit_items (λ b. Fits (cell listed deleted b)) before cells
cells_fit listed deleted [] before h = tt
cells_fit listed deleted (e ∷ others) before h = (
  cell_fits listed deleted before e (record { is = h.each.0; listed_is = h.listed_are.0; next = h.rising.0 }),
  cells_fit listed deleted others (before ++ e ∷ [])
      (record { each = h.each.1; listed_are = h.listed_are.1; rising = subst (λ (o : Option Entry). is_chain o others) (sym (last_push before e)) h.rising.1 }),
)

pub fit_cells : (listed : List ColumnType) (deleted : ℕ) (cells before : List Entry) → fit_items (λ b. Fits (cell listed deleted b)) before cells → FitCells listed deleted (last before) cells
fit_cells listed deleted [] before h = record { each = tt; listed_are = tt; rising = tt }
fit_cells listed deleted (e ∷ others) before h =
    let one = fits_cell listed deleted before e h.0 in
    let more = fit_cells listed deleted others (before ++ e ∷ []) h.1 in
    record { each = (one.is, more.each); listed_are = (one.listed_is, more.listed_are); rising = (one.next, subst (λ (o : Option Entry). is_chain o others) (last_push before e) more.rising) }

-- cells of a body are above its deletion
all_above : (deleted : ℕ) (cells : List Entry) → AllByRecursion (IsCell deleted) cells → list_all (is_above deleted) cells ≡ true
all_above deleted [] h = refl
all_above deleted (e ∷ others) h =
    let above : deleted < e.1.time = h.0.above in
    let is : not (nat_le e.1.time deleted) ≡ true = grind (arith, nat_tests) in
    and_true (not (nat_le e.1.time deleted)) (list_all (is_above deleted) others) is (all_above deleted others h.1)

pub cells_ordered : (listed : List ColumnType) (deleted : ℕ) (before : Option Entry) (cells : List Entry) → FitCells listed deleted before cells → IsOrdered deleted cells
cells_ordered listed deleted before cells h = record { rising = chain_sorted before cells h.rising; above = all_above deleted cells h.each }
