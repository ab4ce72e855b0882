-- The partitions that a compaction merges stay while other moves are made.
use Rattle.std.proofs.Common.{◌≡◌, ◌<◌, ◌≤◌, ◌||◌, ◌++◌, ℕ, suc, Bool, true, false, cond, nat_eq, List, [], ◌∷◌, map, Option, Some, refl, sym, ap, ◌∙◌, arith}
use Rattle.std.proofs.lemmas.Bool.Decides.{nat_tests}
use Rattle.std.specs.FinMap as map_
use Rattle.std.specs.List.{AllByRecursion, filter}
use Rattle.std.specs.Option.{option_map, option_map_or}
use Rattle.sasi_cells.specs.Maps.{merged}
use Rattle.sasi_manifest.specs.ListedFiles.{is_among}
use Rattle.sasi_model.specs.Abbreviations.{Partitions}
use Rattle.sasi_model.specs.Asked as ask
use Rattle.sasi_model.specs.Asked.{Asked}
use Rattle.sasi_model.specs.Changes.{at_number}
use Rattle.sasi_layout.proofs.ListingLaws.{rising_bound}
use Rattle.sasi_layout.proofs.StillRunning.{AreOthers, IsOther, numbered_other, numbered_own, still_running}
use Rattle.sasi_layout.specs.Compacting.{Compaction, IsRunning, chosen, compact_table}
use Rattle.sasi_layout.specs.Layout.{File, Layout, TableParts, numbered}
use Rattle.sasi_layout.specs.Moves.{Compact, Create, Define, Draw, Flush, Freeze, Move, Put, after_moves, after_put, define_table, flush_table, flushed_file, freeze_table, moved, new_parts, put_table}
use Rattle.sasi_layout.specs.Statements.{any_partition, are_full, flush_where, moves_asked, tests_unflushed}
use Rattle.sasi_tasks.specs.Tasks.{source_map}

-- a file that isn't chosen
unchosen : (p : File → Bool) (fs : List File) (f : File) → p f ≡ false → filter p (fs ++ f ∷ []) ≡ filter p fs
unchosen p [] f other = ap (λ b. cond b (f ∷ []) []) other
unchosen p (g ∷ gs) f other =
    let rest = unchosen p gs f other in
    elim (p g) as (λ b. cond b (g ∷ filter p (gs ++ f ∷ [])) (filter p (gs ++ f ∷ [])) ≡ cond b (g ∷ filter p gs) (filter p gs)) [
      | true ↦ ap (λ (l : List File). g ∷ l) rest
      | false ↦ rest
    ]

-- a number above all of these
not_among : (ns : List ℕ) (high n : ℕ) → AllByRecursion (λ k. k < high) ns → high ≤ n → is_among ns n ≡ false
not_among [] high n below above = refl
not_among (k ∷ ns) high n below above =
    let apart : nat_eq n k ≡ false = grind (arith, nat_tests, below.0, above) in
    ap (λ b. b || is_among ns n) apart ∙ not_among ns high n below.1 above

-- the item of a number, where more come behind it
still_there : {A : Type 0} (n number : ℕ) (xs more : List A) (x : A) → numbered n number xs ≡ Some x → numbered n number (xs ++ more) ≡ Some x
still_there n number [] more x there = cc
still_there {A} n number (y ∷ xs) more x there =
    elim (nat_eq n number) as (λ b. cond b (Some y) (numbered (suc n) number xs) ≡ Some x → cond b (Some y) (numbered (suc n) number (xs ++ more)) ≡ Some x) [
      | true ↦ λ is. is
      | false ↦ λ is. still_there (suc n) number xs more x is
    ] there

module _ (c : Compaction) (l : Layout) (is : IsRunning c l) where
  -- the merge of the sources in a table
  abbrev sources_in : TableParts → Partitions
  sources_in t = merged (map (λ (f : File). f.holds) (chosen c.sources t.files))

  abbrev sources_at : Option TableParts → Partitions
  sources_at o = option_map_or sources_in o map_.empty

  changed_sources : (table : ℕ) (f : TableParts → TableParts) → chosen c.sources (f is.row).files ≡ chosen c.sources is.row.files → sources_at (numbered 1 c.table (at_number 1 table f l.tables)) ≡ source_map c l
  changed_sources table f same = by (nat_eq c.table table) refl
    where
      by : (b : Bool) → nat_eq c.table table ≡ b → sources_at (numbered 1 c.table (at_number 1 table f l.tables)) ≡ source_map c l
      by false apart = ap sources_at (numbered_other f 1 c.table table l.tables apart)
      by true own =
          let here : table ≡ c.table = grind (arith, nat_tests, own) in
          ap (λ n. sources_at (numbered 1 c.table (at_number 1 n f l.tables))) here
          ∙ ap sources_at (numbered_own f 1 c.table l.tables ∙ ap (option_map f) is.there)
          ∙ ap (λ (fs : List File). merged (map (λ (f : File). f.holds) fs)) same
          ∙ ap sources_at (sym is.there)

-- **Each move but its own last unit leaves them.**
sources_still : (c : Compaction) (m : Move) (l : Layout) → IsOther c m → IsRunning c l → source_map c (moved m l) ≡ source_map c l
sources_still c (Put m) l other is = changed_sources c l is m.table (put_table l.partitioner l.last m) refl
sources_still c (Freeze table) l other is = changed_sources c l is table freeze_table refl
sources_still c (Flush table) l other is =
    let high = l.used.«data» in
    let bound = rising_bound c.output high is.takes.later is.takes.rise in
    changed_sources c l is table (flush_table (suc high) l.used.part (suc l.last))
    (unchosen (λ (f : File). is_among c.sources f.listed.number) is.row.files (flushed_file (suc high) l.used.part is.row) (not_among c.sources c.output (suc high) is.takes.below (omega (arith, bound))))
sources_still c (Create d) l other is = ap (sources_at c l is) (still_there 1 c.table l.tables (new_parts d l.last ∷ []) is.row is.there ∙ sym is.there)
sources_still c (Define table index) l other is = changed_sources c l is table (define_table (suc l.used.index) index) refl
sources_still c Draw l other is = refl
sources_still c (Compact one) l other is = ap (sources_at c l is) (numbered_other (compact_table l.used.part one) 1 c.table one.table l.tables other)

-- so it is under way over the same partitions
pub runs_still : (ms : List Move) (c : Compaction) (l : Layout) → AreOthers c ms → IsRunning c l → IsRunning c (after_moves ms l) × (source_map c (after_moves ms l) ≡ source_map c l)
runs_still [] c l others is = (is, refl)
runs_still (m ∷ ms) c l others is =
    let rest = runs_still ms c (moved m l) others.1 (still_running c m l others.0 is) in
    (rest.0, rest.1 ∙ sources_still c m l others.0 is)

-- **The moves that a change of tables asks for are others.**
pub asked_others : (c : Compaction) (l : Layout) (asked : Asked) → AreOthers c (moves_asked l asked)
asked_others c l ask.NoChange = tt
asked_others c l (ask.Creates d) = (tt, tt)
asked_others c l (ask.Defines table index) = (tt, tt)
asked_others c l (ask.Writes table key change) = (tt, flush_others are_full table (after_put (record { table = table; key = key; change = change }) l))
  where
    flush_others : (test : List Partitions → Bool) (n : ℕ) (m : Layout) → AreOthers c (flush_where test n m)
    flush_others test n m = elim (tests_unflushed test n m) as (λ b. AreOthers c (cond b (Flush n ∷ []) [])) [ true ↦ (tt, tt) | false ↦ tt ]
asked_others c l (ask.Flushes table) = elim (tests_unflushed any_partition table l) as (λ b. AreOthers c (cond b (Flush table ∷ []) [])) [ true ↦ (tt, tt) | false ↦ tt ]
