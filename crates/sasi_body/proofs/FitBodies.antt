-- A key and a partition have a body in a table exactly where they fit its format.
use Rattle.std.proofs.Common.{◌≡◌, ◌^◌, ◌≤◌, ◌-◌, ℕ, zero, suc, Bool, true, false, ◌||◌, length, None, T, refl, sym, ap, ◌∙◌, subst, arith, rules, List, []}
use Rattle.std.specs.Int.{w16, w64}
use Rattle.std.specs.Prelude.{nat_lt, nat_le, slice_get}
use Rattle.std.specs.List.{AllByRecursion}
use Rattle.std.specs.Ordering.{nat_cmp}
use Rattle.std.specs.FinMap as map
use Rattle.std.specs.FinMap.{is_sorted}
use Rattle.std.proofs.lemmas.Bool.Decides.{nat_tests}
use Rattle.sasi_host.specs.Names.{Bytes}
use Rattle.sasi_host.specs.declared.damage.FormatRule.TheVariants as rule
use Rattle.sasi_types.specs.declared.column.ColumnType.{ColumnType}
use Rattle.sasi_model.specs.Cells.{Cells, Partition}
use Rattle.sasi_model.specs.Stored.{IsCell, IsCount, IsListed}
use Rattle.sasi_cells.specs.Entries.{Entry, IsOrdered, partition_of}
use Rattle.sasi_formats.specs.Formats.{Fits}
use Rattle.sasi_formats.specs.Fields.{number}
use Rattle.sasi_formats.proofs.Fitting.{both_true, when_true, number_fits, checked_fits, fits_checked, range_fits, fits_range}
use Rattle.sasi_formats.specs.Codings.{when_is}
use Rattle.sasi_body.specs.Body.{body_of, content, cells_of, IsBodyOf}
use Rattle.sasi_body.specs.Abbreviations.{is_typed, is_count}
use Rattle.sasi_body.proofs.TypedValues.{typed_is, is_typed_at}
use Rattle.sasi_body.proofs.Rising.{sorted_chain, cells_fit, fit_cells, cells_ordered}

test : (b : Bool) → b ≡ true → T b
test b e = subst T (sym e) tt

tested : (b : Bool) → T b → b ≡ true
tested true h = refl
tested false h = absurd h

-- ---- the number of cells

pub count_is : (deleted n : ℕ) → IsCount deleted n → is_count deleted n ≡ true
count_is zero n h = let few = h.few in let some = h.some refl in grind (arith, nat_tests)
count_is (suc d) n h = let few = h.few in grind (arith, nat_tests)

pub is_count_of : (deleted n : ℕ) → is_count deleted n ≡ true → IsCount deleted n
is_count_of deleted n h =
    let tests = both_true (nat_le n 64) (nat_lt 0 n || nat_lt 0 deleted) h in
    record { few = search (rules, tests.0); some = λ none. some n (ap (λ (d : ℕ). nat_lt 0 n || nat_lt 0 d) (sym none) ∙ tests.1) }
  where
    some : (n : ℕ) → nat_lt 0 n || nat_lt 0 0 ≡ true → 1 ≤ n
    some zero h = absurd cc
    some (suc n) h = omega arith

-- ---- the cells of a partition

pub cells_are : (deleted : ℕ) (entries : List Entry) → IsOrdered deleted entries → cells_of (partition_of deleted entries) ≡ entries
cells_are deleted entries h = map.entries-from_sorted nat_cmp entries (test (is_sorted nat_cmp entries) h.rising)

pub partition_is : (deleted : ℕ) (entries : List Entry) (part : Partition) → IsOrdered deleted entries → deleted ≡ part.deleted → entries ≡ cells_of part → partition_of deleted entries ≡ part
partition_is deleted entries part h time same =
    let partition : ℕ → Cells → Partition = λ d m. record { deleted = d; cells = m } in
    ap (λ (d : ℕ). partition d (partition_of deleted entries).cells) time ∙ ap (λ (m : Cells). partition part.deleted m) (map.same_entries_map (partition_of deleted entries).cells part.cells (cells_are deleted entries h ∙ same))

cells_sorted : (part : Partition) → is_sorted nat_cmp (cells_of part) ≡ true
cells_sorted part = tested (is_sorted nat_cmp (cells_of part)) (map.entries_sorted part.cells)

-- ---- bodies

-- a key and a partition that have a body fit
pub body_fits : (listed : List ColumnType) (key_bytes : Bytes) (part : Partition) → IsBodyOf listed key_bytes part → Fits (body_of listed) (content key_bytes part)
body_fits listed key_bytes part is =
    let chain = sorted_chain None (cells_of part) (λ e none. absurd cc) (cells_sorted part) in (
      (
        range_fits w16 1 (2 ^ 16 - 1) (length key_bytes) is.has.key_short is.has.key_some (omega (arith, is.has.key_short)),
        when_true (is_typed (slice_get listed 0) key_bytes) key_bytes (typed_is listed 0 key_bytes is.key_typed),
      ),
      (
        range_fits w64 0 (2 ^ 62) part.deleted (omega (arith, is.has.deleted)) (omega arith) is.has.deleted,
        (
          checked_fits rule.Number 2 (is_count part.deleted) (number w16) (length (cells_of part)) (number_fits w16 (length (cells_of part)) (omega (arith, is.has.count.few))) (count_is part.deleted (length (cells_of part)) is.has.count),
          cells_fit listed part.deleted (cells_of part) [] (record { each = is.has.cells; listed_are = is.columns; rising = chain }),
        ),
      ),
    )

-- entries that fit are those of a partition that has a body
pub record FitsBody (listed : List ColumnType) (key_bytes : Bytes) (deleted : ℕ) (entries : List Entry) : Type 0 where
  pub ordered : IsOrdered deleted entries
  pub body_is : IsBodyOf listed key_bytes (partition_of deleted entries)

pub fits_body : (listed : List ColumnType) (key_bytes : Bytes) (deleted : ℕ) (entries : List Entry) → Fits (body_of listed) (key_bytes, (deleted, entries)) → FitsBody listed key_bytes deleted entries
fits_body listed key_bytes deleted entries h =
    let key_range = fits_range w16 1 (2 ^ 16 - 1) (length key_bytes) h.0.0 in
    let typed = (when_is (is_typed (slice_get listed 0) key_bytes) key_bytes key_bytes h.0.1).0 in
    let deletion_range = fits_range w64 0 (2 ^ 62) deleted h.1.0 in
    let count = (fits_checked rule.Number 2 (is_count deleted) (number w16) (length entries) h.1.1.0).1 in
    let fit = fit_cells listed deleted entries [] h.1.1.1 in
    let ordered = cells_ordered listed deleted None entries fit in
    let same : entries ≡ cells_of (partition_of deleted entries) = sym (cells_are deleted entries ordered) in
    record {
      ordered = ordered;
      body_is = record {
        has = record {
          key_some = key_range.above;
          key_short = key_range.fits;
          deleted = deletion_range.below;
          count = subst (λ (l : List Entry). IsCount deleted (length l)) same (is_count_of deleted (length entries) count);
          cells = subst (λ (l : List Entry). AllByRecursion (IsCell deleted) l) same fit.each;
        };
        key_typed = is_typed_at listed 0 key_bytes typed;
        columns = subst (λ (l : List Entry). AllByRecursion (IsListed listed) l) same fit.listed_are;
      };
    }
