-- The parts that the last unit of a compaction draws.
use Rattle.std.proofs.Common.{◌≡◌, ℕ, suc, ◌<◌, ◌≤◌, ◌+◌, ◌++◌, ◌-◌, ◌^◌, Bool, true, false, if◌then◌else◌, List, [], ◌∷◌, drop, get_or, length, map, slice_get, None, Some, refl, sym, ap, ◌∙◌, append_assoc, arith}
use Rattle.std.specs.Prelude.{nat_eq}
use Rattle.std.proofs.lemmas.Bool.Decides.{nat_tests}
use Rattle.std.proofs.lemmas.List.{append-nil, drop_all, length-map}
use Rattle.std.proofs.lemmas.List.Elements.{filter-append}
use Rattle.std.specs.List.{filter}
use Rattle.sasi_manifest.specs.declared.files.PartNumber.{PartNumber}
use Rattle.sasi_layout.proofs.Parts.{drawn_length}
use Rattle.sasi_layout.specs.Compacting.{Compaction, indexes_left}
use Rattle.sasi_layout.specs.Layout.{drawn}
use Rattle.sasi_layout.specs.Spent.{first_spent, part_draws}
use Rattle.sasi_layout.specs.declared.number_kind.NumberKind.TheVariants as kinds
use Rattle.sasi_manifest.specs.ListedDefinition.{ListedDefinition}
use Rattle.sasi_manifest.specs.ListedTables.{listed}
use Rattle.sasi_manifest.specs.declared.listed.ListedTable.{ListedTable}
use Rattle.sasi_tables.proofs.TablesInMemory.{index_got, map_there}
use Rattle.sasi_tasks.specs.Running.{DrawsParts, numbers_of}

-- a number is left for each where there is room for so many
drawn_left : (used : ℕ) (ns : List ℕ) → used + length ns < 2 ^ 32 → first_spent (part_draws used (drawn used ns)) None ≡ None
drawn_left used [] room = refl
drawn_left used (n ∷ ns) room =
    let left : nat_eq used (2 ^ 32 - 1) ≡ false = grind (arith, nat_tests, room) in
    ap (λ b. if b then Some kinds.Part else first_spent (part_draws (suc used) (drawn (suc used) ns)) None) left ∙ drawn_left (suc used) ns (omega (arith, room))

-- and else the last one is spent on the way
pub drawn_spent : (used : ℕ) (ns : List ℕ) → used < 2 ^ 32 → 2 ^ 32 ≤ used + length ns → first_spent (part_draws used (drawn used ns)) None ≡ Some kinds.Part
drawn_spent used [] fits over = absurd (omega (arith, fits, over))
drawn_spent used (n ∷ ns) fits over = by (nat_eq used (2 ^ 32 - 1)) refl (drawn_spent (suc used) ns)
  where
    by : (b : Bool) → nat_eq used (2 ^ 32 - 1) ≡ b → (suc used < 2 ^ 32 → 2 ^ 32 ≤ suc used + length ns → first_spent (part_draws (suc used) (drawn (suc used) ns)) None ≡ Some kinds.Part)
        → (if b then Some kinds.Part else first_spent (part_draws (suc used) (drawn (suc used) ns)) None) ≡ Some kinds.Part
    by true is rest = refl
    by false is rest = rest (let more : suc used < 2 ^ 32 = grind (arith, nat_tests, is, fits) in more) (omega (arith, over))

-- where none is left to come, all are there
pub all_drawn : (used last i : ℕ) (ns : List ℕ) (parts : List PartNumber) → length ns ≤ i → parts ++ drawn last (drop i ns) ≡ drawn used ns → parts ≡ drawn used ns
all_drawn used last i ns parts over is = sym (append-nil parts) ∙ ap (λ (l : List ℕ). parts ++ drawn last l) (sym (drop_all i ns over)) ∙ is

-- **They are those of the indexes that are left.**
pub draws : (used : ℕ) (c : Compaction) (numbers left : List ℕ) (parts : List PartNumber) → left ≡ indexes_left c numbers → parts ≡ drawn used left → used + length left < 2 ^ 32 → DrawsParts used c numbers parts
draws used c numbers left parts same are room = record {
  are = are ∙ ap (drawn used) same;
  room = omega (arith, room, ap length are, drawn_length used left);
  unspent = ap (λ (ps : List PartNumber). first_spent (part_draws used ps) None) are ∙ drawn_left used left room;
}

-- the next one, if it passes, and those behind it
pub next_left : (p : ℕ → Bool) (out : List ℕ) (n : ℕ) (behind whole : List ℕ) → out ++ filter p (n ∷ behind) ≡ whole → (out ++ filter p (n ∷ [])) ++ filter p behind ≡ whole
next_left p out n behind whole is = append_assoc out (filter p (n ∷ [])) (filter p behind) ∙ ap (λ (l : List ℕ). out ++ l) (sym (filter-append p (n ∷ []) behind)) ∙ is

-- ---- the row of the table

module _ (rows : List ListedTable) (tables : List ListedDefinition) (seen : map listed rows ≡ tables) where
  pub row_inside : (table : ℕ) → 0 < table → table ≤ length tables → table - 1 < length rows
  row_inside table some within = omega (arith, some, within, length-map rows listed, ap length seen)

  pub row_listed : (at : ℕ) (x : ListedTable) → at < length rows → x ≡ get_or rows at x → slice_get tables at ≡ Some (listed x)
  row_listed at x within is = ap (λ (l : List ListedDefinition). slice_get l at) (sym seen) ∙ map_there listed rows at x (index_got rows at x within is)

  -- the numbers of its indexes are those that are listed
  pub left_there : (at : ℕ) (x : ListedTable) (row : ListedDefinition) → at < length rows → x ≡ get_or rows at x → slice_get tables at ≡ Some row → numbers_of x.table.indexes ≡ row.numbers
  left_there at x row within is there = ap (λ (t : ListedDefinition). t.numbers) same
    where
      same : listed x ≡ row
      same = let two : Some (listed x) ≡ Some row = sym (row_listed at x within is) ∙ there in cc
