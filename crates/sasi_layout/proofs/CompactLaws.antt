-- What a compaction leaves of its table: the state, and the numbers of the files in order.
use Rattle.std.specs.Prelude.{◌≡◌, ◌||◌, ◌<◌, ◌≤◌, ℕ, suc, true, false, cond, not, nat_eq, nat_le, List, [], ◌∷◌, ◌++◌, map, Some, refl}
use Rattle.std.proofs.Common.{sym, ap, subst, ◌∙◌, arith, append_assoc}
use Rattle.std.proofs.lemmas.Bool.Decides.{nat_tests}
use Rattle.std.proofs.lemmas.List.{map-append}
use Rattle.std.specs.FinMap as map_
use Rattle.std.specs.List.{AllByRecursion}
use Rattle.sasi_model.specs.Abbreviations.{Partitions}
use Rattle.sasi_model.specs.Changes.{at_number}
use Rattle.sasi_model.specs.State.{Table}
use Rattle.sasi_cells.specs.Maps.{merged}
use Rattle.sasi_cells.proofs.Laws.Maps.{replaced_some}
use Rattle.sasi_manifest.specs.declared.files.ListedFile.{ListedFile}
use Rattle.sasi_manifest.specs.ListedDefinition.{ListedDefinition}
use Rattle.sasi_manifest.specs.ListedFiles.{is_among, with_file, without}
use Rattle.sasi_manifest.proofs.Replacing.{At}
use Rattle.sasi_layout.specs.Compacting.{Compaction, IsRunning, TakesFirstOf, chosen, compact_table, insert_file, others, output_file}
use Rattle.sasi_layout.specs.Layout.{File, Layout, TableParts, listed_of, numbered, state_of, table_of, unflushed}
use Rattle.sasi_layout.specs.Moves.{after_compact}
use Rattle.sasi_layout.specs.NumbersInOrder.{HasFilesInOrder, HasIndexesNumbered, HasNumbersInOrder, Rising}
use Rattle.sasi_layout.proofs.Numbered.{at_past, seen_of_it}

-- ---- numbers

pub rising_lower : (a b high : ℕ) (fs : List ListedFile) → a ≤ b → Rising b high fs → Rising a high fs
rising_lower a b high [] le rise = omega (arith, le, rise)
rising_lower a b high (f ∷ fs) le rise = (omega (arith, le, rise.0), rise.1)

not_among : (n bound : ℕ) (ks : List ℕ) → AllByRecursion (λ k. k < bound) ks → bound ≤ n → is_among ks n ≡ false
not_among n bound [] below le = refl
not_among n bound (k ∷ ks) below le =
    let other : nat_eq n k ≡ false = (let less : k < bound = below.0 in grind (arith, nat_tests)) in
    ap (λ b. b || is_among ks n) other ∙ not_among n bound ks below.1 le

-- ---- files and what is listed of them

pub listed_others : (ns : List ℕ) (fs : List File) → map (λ (f : File). f.listed) (others ns fs) ≡ without ns (map (λ (f : File). f.listed) fs)
listed_others ns [] = refl
listed_others ns (f ∷ fs) =
    let rest = listed_others ns fs in
    elim (is_among ns f.listed.number) as (λ b. map (λ (f : File). f.listed) (cond (not b) (f ∷ others ns fs) (others ns fs)) ≡ cond (not b) (f.listed ∷ without ns (map (λ (f : File). f.listed) fs)) (without ns (map (λ (f : File). f.listed) fs))) [
      | true ↦ rest
      | false ↦ ap (λ (l : List ListedFile). f.listed ∷ l) rest
    ]

pub listed_inserted : (f : File) (fs : List File) → map (λ (f : File). f.listed) (insert_file f fs) ≡ with_file f.listed (map (λ (f : File). f.listed) fs)
listed_inserted f [] = refl
listed_inserted f (g ∷ gs) =
    let rest = listed_inserted f gs in
    elim (nat_le f.listed.number g.listed.number) as (λ b. map (λ (f : File). f.listed) (cond b (f ∷ g ∷ gs) (g ∷ insert_file f gs)) ≡ cond b (f.listed ∷ g.listed ∷ map (λ (f : File). f.listed) gs) (g.listed ∷ with_file f.listed (map (λ (f : File). f.listed) gs))) [
      | true ↦ refl
      | false ↦ ap (λ (l : List ListedFile). g.listed ∷ l) rest
    ]

-- files whose listing is in two parts are in two parts
record Split (fs : List File) (older later : List ListedFile) : Type 0 where
  front : List File
  back : List File
  is : fs ≡ front ++ back
  front_is : map (λ (f : File). f.listed) front ≡ older
  back_is : map (λ (f : File). f.listed) back ≡ later

split_files : (fs : List File) (older later : List ListedFile) → map (λ (f : File). f.listed) fs ≡ older ++ later → Split fs older later
split_files fs [] later same = record { front = []; back = fs; is = refl; front_is = refl; back_is = same }
split_files [] (g ∷ older) later same = cc
split_files (f ∷ fs) (g ∷ older) later same =
    let first : f.listed ≡ g = cc in
    let more : map (λ (f : File). f.listed) fs ≡ older ++ later = cc in
    let rest = split_files fs older later more in
    record { front = f ∷ rest.front; back = rest.back; is = ap (λ (l : List File). f ∷ l) rest.is; front_is = λ i. first i ∷ rest.front_is i; back_is = rest.back_is }

-- ---- the sources and the rest

chosen_none : (bound high : ℕ) (ns : List ℕ) (fs : List File) → AllByRecursion (λ n. n < bound) ns → Rising bound high (map (λ (f : File). f.listed) fs) → chosen ns fs ≡ []
chosen_none bound high ns [] below rise = refl
chosen_none bound high ns (f ∷ fs) below rise =
    let out = not_among f.listed.number bound ns below (omega (arith, rise.0)) in
    ap (λ b. cond b (f ∷ chosen ns fs) (chosen ns fs)) out ∙ chosen_none bound high ns fs below (rising_lower bound f.listed.number high (map (λ (f : File). f.listed) fs) (omega (arith, rise.0)) rise.1)

others_all : (bound high : ℕ) (ns : List ℕ) (fs : List File) → AllByRecursion (λ n. n < bound) ns → Rising bound high (map (λ (f : File). f.listed) fs) → others ns fs ≡ fs
others_all bound high ns [] below rise = refl
others_all bound high ns (f ∷ fs) below rise =
    let out = not_among f.listed.number bound ns below (omega (arith, rise.0)) in
    ap (λ b. cond (not b) (f ∷ others ns fs) (others ns fs)) out ∙ ap (λ (l : List File). f ∷ l) (others_all bound high ns fs below (rising_lower bound f.listed.number high (map (λ (f : File). f.listed) fs) (omega (arith, rise.0)) rise.1))

abbrev AreNamed : List ℕ → List File → Type 0
AreNamed ns fs = AllByRecursion (λ (f : File). is_among ns f.listed.number ≡ true) fs

chosen_is : (bound high : ℕ) (ns : List ℕ) (older later : List File) → AreNamed ns older → AllByRecursion (λ n. n < bound) ns → Rising bound high (map (λ (f : File). f.listed) later) → chosen ns (older ++ later) ≡ older
chosen_is bound high ns [] later named below rise = chosen_none bound high ns later below rise
chosen_is bound high ns (f ∷ fs) later named below rise =
    ap (λ b. cond b (f ∷ chosen ns (fs ++ later)) (chosen ns (fs ++ later))) named.0 ∙ ap (λ (l : List File). f ∷ l) (chosen_is bound high ns fs later named.1 below rise)

others_are : (bound high : ℕ) (ns : List ℕ) (older later : List File) → AreNamed ns older → AllByRecursion (λ n. n < bound) ns → Rising bound high (map (λ (f : File). f.listed) later) → others ns (older ++ later) ≡ later
others_are bound high ns [] later named below rise = others_all bound high ns later below rise
others_are bound high ns (f ∷ fs) later named below rise =
    ap (λ b. cond (not b) (f ∷ others ns (fs ++ later)) (others ns (fs ++ later))) named.0 ∙ others_are bound high ns fs later named.1 below rise

insert_first : (f : File) (high : ℕ) (fs : List File) → Rising f.listed.number high (map (λ (f : File). f.listed) fs) → insert_file f fs ≡ f ∷ fs
insert_first f high [] rise = refl
insert_first f high (g ∷ gs) rise =
    let le : nat_le f.listed.number g.listed.number ≡ true = (let less : f.listed.number < g.listed.number = rise.0 in grind (arith, nat_tests)) in
    ap (λ b. cond b (f ∷ g ∷ gs) (g ∷ insert_file f gs)) le

to_files : (ns : List ℕ) (fs : List File) (older : List ListedFile) → map (λ (f : File). f.listed) fs ≡ older → AllByRecursion (λ (f : ListedFile). is_among ns f.number ≡ true) older → AreNamed ns fs
to_files ns fs older is named = by fs (subst (AllByRecursion (λ (f : ListedFile). is_among ns f.number ≡ true)) (sym is) named)
  where
    by : (fs : List File) → AllByRecursion (λ (f : ListedFile). is_among ns f.number ≡ true) (map (λ (f : File). f.listed) fs) → AreNamed ns fs
    by [] named = tt
    by (f ∷ fs) named = (named.0, by fs named.1)

-- The sources of a table are its first files, and the output stands in front of the others.
pub record Compacts (used high : ℕ) (c : Compaction) (t : TableParts) : Type 0 where
  pub front : List File
  pub back : List File
  pub is : t.files ≡ front ++ back
  pub sources : chosen c.sources t.files ≡ front
  pub files : (compact_table used c t).files ≡ output_file used c t ∷ back
  pub rest : others c.sources t.files ≡ back
  pub rise : Rising c.output high (map (λ (f : File). f.listed) back)

pub compacts : (used high : ℕ) (c : Compaction) (t : TableParts) → TakesFirstOf high c t → Compacts used high c t
compacts used high c t takes =
    let split = split_files t.files takes.older takes.later takes.parts in
    let named = to_files c.sources split.front takes.older split.front_is takes.named in
    let rise : Rising c.output high (map (λ (f : File). f.listed) split.back) = subst (Rising c.output high) (sym split.back_is) takes.rise in
    let sources : chosen c.sources t.files ≡ split.front = ap (chosen c.sources) split.is ∙ chosen_is c.output high c.sources split.front split.back named takes.below rise in
    let rest : others c.sources t.files ≡ split.back = ap (others c.sources) split.is ∙ others_are c.output high c.sources split.front split.back named takes.below rise in
    record {
      front = split.front;
      back = split.back;
      is = split.is;
      sources = sources;
      files = ap (insert_file (output_file used c t)) rest ∙ insert_first (output_file used c t) high split.back rise;
      rest = rest;
      rise = rise;
    }

-- ---- the state

abbrev pub holds_of : List File → List Partitions
holds_of fs = map (λ (f : File). f.holds) fs

compact_seen : (used high : ℕ) (c : Compaction) (t : TableParts) → TakesFirstOf high c t → table_of (compact_table used c t) ≡ table_of t
compact_seen used high c t takes =
    let has = compacts used high c t takes in
    ap (λ (k : Partitions). record { definition = t.definition; partitions = k }) (
    ap (λ (fs : List File). merged (holds_of fs ++ unflushed t)) has.files
    ∙ ap (λ (fs : List File). merged (merged (holds_of fs) ∷ (holds_of has.back ++ unflushed t))) has.sources
    ∙ sym (replaced_some map_.empty [] (holds_of has.front) (holds_of has.back ++ unflushed t))
    ∙ ap merged (sym (append_assoc (holds_of has.front) (holds_of has.back) (unflushed t)))
    ∙ ap (λ (ps : List Partitions). merged (ps ++ unflushed t)) (sym (map-append (λ (f : File). f.holds) has.front has.back))
    ∙ ap (λ (fs : List File). merged (holds_of fs ++ unflushed t)) (sym has.is))

-- ---- the table of a number

-- the item is this one
abbrev pub IsOne : {A : Type 0} → A → A → Type 0
IsOne x y = y ≡ x

pub one_at : {A : Type 0} (n number : ℕ) (xs : List A) (x : A) → numbered n number xs ≡ Some x → At n number (IsOne x) xs
one_at n number [] x there = tt
one_at {A} n number (y ∷ xs) x there =
    elim (nat_eq n number) as (λ b. nat_eq n number ≡ b → cond b (Some y) (numbered (suc n) number xs) ≡ Some x → (b ≡ true → IsOne x y) × At (suc n) number (IsOne x) xs) [
      | true ↦ λ own is. (λ _. cc, at_past (suc n) number (IsOne x) xs (let same : n ≡ number = grind (arith, nat_tests, own) in omega (arith, same)))
      | false ↦ λ other is. (λ e. cc, one_at (suc n) number xs x is)
    ] refl there

pub at_one : {A : Type 0} (P : A → Type 0) (n number : ℕ) (xs : List A) (x : A) → numbered n number xs ≡ Some x → P x → At n number P xs
at_one {A} P n number xs x there has = by n xs (one_at n number xs x there)
  where
    by : (n : ℕ) (xs : List A) → At n number (IsOne x) xs → At n number P xs
    by n [] is = tt
    by n (y ∷ ys) is = (λ own. subst P (sym (is.0 own)) has, by (suc n) ys is.1)

same_at : {A : Type 0} (n number : ℕ) (xs : List A) → at_number n number (λ x. x) xs ≡ xs
same_at n number [] = refl
same_at n number (x ∷ xs) =
    let rest = same_at (suc n) number xs in
    elim (nat_eq n number) as (λ b. cond b x x ∷ at_number (suc n) number (λ x. x) xs ≡ x ∷ xs) [ true ↦ λ i. x ∷ rest i | false ↦ λ i. x ∷ rest i ]

-- **A compaction leaves the state.**
pub compact_state : (c : Compaction) (l : Layout) → IsRunning c l → state_of (after_compact c l) ≡ state_of l
compact_state c l running = ap (λ (ts : List Table). record { partitioner = l.partitioner; tables = ts })
    (seen_of_it table_of (compact_table l.used.part c) (TakesFirstOf l.used.«data» c) (λ (t : Table). t) (λ t takes. compact_seen l.used.part l.used.«data» c t takes) 1 c.table l.tables (at_one (TakesFirstOf l.used.«data» c) 1 c.table l.tables running.row running.there running.takes)
    ∙ same_at 1 c.table (map table_of l.tables))

-- ---- the numbers

compact_files : (used high last : ℕ) (c : Compaction) (t : TableParts) → TakesFirstOf high c t → HasFilesInOrder high last (listed_of t) → HasFilesInOrder high last (listed_of (compact_table used c t))
compact_files used high last c t takes is =
    let has = compacts used high c t takes in
    record {
      rise = subst (λ (fs : List File). Rising 0 high (map (λ (f : File). f.listed) fs)) (sym has.files) (takes.some, has.rise);
      since = is.since;
    }

in_order_at : (P Q R : TableParts → Type 0) (f : TableParts → TableParts) → ((t : TableParts) → P t → Q t → R (f t)) → ((t : TableParts) → Q t → R t) → (n number : ℕ) (ts : List TableParts) → At n number P ts → AllByRecursion Q ts → AllByRecursion R (at_number n number f ts)
in_order_at P Q R f changed kept n number [] at all = tt
in_order_at P Q R f changed kept n number (t ∷ ts) at all =
    let rest = in_order_at P Q R f changed kept (suc n) number ts at.1 all.1 in
    elim (nat_eq n number) as (λ b. (b ≡ true → P t) → R (cond b (f t) t) × AllByRecursion R (at_number (suc n) number f ts)) [
      | true ↦ λ is. (changed t (is refl) all.0, rest)
      | false ↦ λ is. (kept t all.0, rest)
    ] at.0

-- ---- by the tables' parts

pub to_parts : (P : ListedDefinition → Type 0) (ts : List TableParts) → AllByRecursion P (map listed_of ts) → AllByRecursion (λ t. P (listed_of t)) ts
to_parts P [] all = tt
to_parts P (t ∷ ts) all = (all.0, to_parts P ts all.1)

pub of_parts : (P : ListedDefinition → Type 0) (ts : List TableParts) → AllByRecursion (λ t. P (listed_of t)) ts → AllByRecursion P (map listed_of ts)
of_parts P [] all = tt
of_parts P (t ∷ ts) all = (all.0, of_parts P ts all.1)

pub compact_in_order : (c : Compaction) (l : Layout) → IsRunning c l → HasNumbersInOrder l → HasNumbersInOrder (after_compact c l)
compact_in_order c l running in_order =
    let high : ℕ = l.used.«data» in
    let f = compact_table l.used.part c in
    let at = at_one (TakesFirstOf high c) 1 c.table l.tables running.row running.there running.takes in
    record {
      files = of_parts (HasFilesInOrder high l.last) (at_number 1 c.table f l.tables)
          (in_order_at (λ t. TakesFirstOf high c t) (λ t. HasFilesInOrder high l.last (listed_of t)) (λ t. HasFilesInOrder high l.last (listed_of t)) f
          (λ t takes is. compact_files l.used.part high l.last c t takes is) (λ t is. is) 1 c.table l.tables at (to_parts (HasFilesInOrder high l.last) l.tables in_order.files));
      indexes = of_parts (HasIndexesNumbered l.used.index) (at_number 1 c.table f l.tables)
          (in_order_at (λ t. TakesFirstOf high c t) (λ t. HasIndexesNumbered l.used.index (listed_of t)) (λ t. HasIndexesNumbered l.used.index (listed_of t)) f
          (λ t takes is. record { counted = is.counted; within = is.within }) (λ t is. is) 1 c.table l.tables at (to_parts (HasIndexesNumbered l.used.index) l.tables in_order.indexes));
    }
