-- A compaction that is under way stays so while other moves are made: files of flushes come behind its sources.
use Rattle.std.specs.Prelude.{◌≡◌, ◌≤◌, ◌<◌, ◌||◌, ℕ, suc, Bool, true, false, cond, nat_eq, List, [], ◌∷◌, ◌++◌, map, Some, ⊤, refl}
use Rattle.std.proofs.Common.{sym, ap, subst, ◌∙◌, arith, append_assoc}
use Rattle.std.proofs.lemmas.Bool.Decides.{nat_tests}
use Rattle.std.proofs.lemmas.List.{append-nil, map-append}
use Rattle.std.specs.List.{AllByRecursion}
use Rattle.std.specs.Option.{option_map}
use Rattle.sasi_model.specs.Changes.{at_number}
use Rattle.sasi_manifest.specs.declared.files.ListedFile.{ListedFile}
use Rattle.sasi_manifest.specs.ListedFiles.{is_among}
use Rattle.sasi_layout.specs.Compacting.{Compaction, IsRunning, TakesFirst, TakesFirstOf, begun, compact_table}
use Rattle.sasi_layout.specs.Layout.{File, Layout, TableParts, listed_of, numbered}
use Rattle.sasi_layout.specs.Moves.{Compact, Create, Define, Draw, Flush, Freeze, Move, Put, after_draw, after_moves, define_table, flush_table, flushed_file, freeze_table, moved, new_parts, put_table}
use Rattle.sasi_layout.specs.NumbersInOrder.{HasFilesInOrder, HasNumbersInOrder, Rising}
use Rattle.sasi_layout.proofs.ListingLaws.{rising_bound}
use Rattle.sasi_layout.proofs.CompactLaws.{to_parts}
use Rattle.sasi_layout.proofs.MovesInOrder.{rising_higher, rising_push}
use Rattle.sasi_layout.proofs.Parts.{numbered_all}

-- ---- the item of a number

-- after a change of the item of one number, that of another is the same
pub numbered_other : {A : Type 0} (f : A → A) (n number other : ℕ) (xs : List A) → nat_eq number other ≡ false → numbered n number (at_number n other f xs) ≡ numbered n number xs
numbered_other f n number other [] apart = refl
numbered_other {A} f n number other (x ∷ xs) apart =
    let rest = numbered_other f (suc n) number other xs apart in
    elim (nat_eq n number) as (λ b. nat_eq n number ≡ b → cond b (Some (cond (nat_eq n other) (f x) x)) (numbered (suc n) number (at_number (suc n) other f xs)) ≡ cond b (Some x) (numbered (suc n) number xs)) [
      | true ↦ λ own. (
          let not : nat_eq n other ≡ false = grind (arith, nat_tests, own, apart) in
          ap (λ b. Some (cond b (f x) x)) not)
      | false ↦ λ _. rest
    ] refl

-- and that of this number is changed
pub numbered_own : {A : Type 0} (f : A → A) (n number : ℕ) (xs : List A) → numbered n number (at_number n number f xs) ≡ option_map f (numbered n number xs)
numbered_own f n number [] = refl
numbered_own {A} f n number (x ∷ xs) =
    let rest = numbered_own f (suc n) number xs in
    elim (nat_eq n number) as (λ b. cond b (Some (cond b (f x) x)) (numbered (suc n) number (at_number (suc n) number f xs)) ≡ option_map f (cond b (Some x) (numbered (suc n) number xs))) [
      | true ↦ refl
      | false ↦ rest
    ]

numbered_longer : {A : Type 0} (n number : ℕ) (xs more : List A) (x : A) → numbered n number xs ≡ Some x → numbered n number (xs ++ more) ≡ Some x
numbered_longer n number [] more x there = cc
numbered_longer {A} n number (y ∷ xs) more x there =
    elim (nat_eq n number) as (λ b. cond b (Some y) (numbered (suc n) number xs) ≡ Some x → cond b (Some y) (numbered (suc n) number (xs ++ more)) ≡ Some x) [
      | true ↦ λ is. is
      | false ↦ λ is. numbered_longer (suc n) number xs more x is
    ] there

-- ---- the files

-- where more numbers are used
takes_higher : (a b : ℕ) (c : Compaction) (fs : List ListedFile) → a ≤ b → TakesFirst a c fs → TakesFirst b c fs
takes_higher a b c fs le is = record { older = is.older; later = is.later; parts = is.parts; named = is.named; below = is.below; some = is.some; rise = rising_higher c.output a b is.later le is.rise }

-- where one more file comes, of the next number
takes_pushed : (high : ℕ) (c : Compaction) (fs : List ListedFile) (f : ListedFile) → f.number ≡ suc high → TakesFirst high c fs → TakesFirst (suc high) c (fs ++ f ∷ [])
takes_pushed high c fs f next is = record {
  older = is.older;
  later = is.later ++ f ∷ [];
  parts = ap (λ (l : List ListedFile). l ++ f ∷ []) is.parts ∙ append_assoc is.older is.later (f ∷ []);
  named = is.named;
  below = is.below;
  some = is.some;
  rise = rising_push c.output high is.later f is.rise next;
}

flush_takes : (high part last : ℕ) (c : Compaction) (t : TableParts) → TakesFirstOf high c t → TakesFirstOf (suc high) c (flush_table (suc high) part last t)
flush_takes high part last c t is = subst (TakesFirst (suc high) c) (sym (map-append (λ (f : File). f.listed) t.files (flushed_file (suc high) part t ∷ []))) (takes_pushed high c (map (λ (f : File). f.listed) t.files) (flushed_file (suc high) part t).listed refl is)

-- ---- moves

-- the table of a number after a change that keeps what is said of it
module _ (c : Compaction) (l : Layout) (high : ℕ) (le : l.used.«data» ≤ high) (table : ℕ) (f : TableParts → TableParts) where
  row_after : ((t : TableParts) → TakesFirstOf l.used.«data» c t → TakesFirstOf high c (f t)) → (t : TableParts) → numbered 1 c.table l.tables ≡ Some t → TakesFirstOf l.used.«data» c t
      → (k : TableParts) × (numbered 1 c.table (at_number 1 table f l.tables) ≡ Some k) × TakesFirstOf high c k
  row_after changed t there takes = by (nat_eq c.table table) refl
    where
      by : (b : Bool) → nat_eq c.table table ≡ b → (k : TableParts) × (numbered 1 c.table (at_number 1 table f l.tables) ≡ Some k) × TakesFirstOf high c k
      by false apart = (t, numbered_other f 1 c.table table l.tables apart ∙ there, takes_higher l.used.«data» high c (map (λ (f : File). f.listed) t.files) le takes)
      by true own = (
          let same : table ≡ c.table = grind (arith, nat_tests, own) in
          let here : numbered 1 c.table (at_number 1 table f l.tables) ≡ Some (f t) = ap (λ n. numbered 1 c.table (at_number 1 n f l.tables)) same ∙ numbered_own f 1 c.table l.tables ∙ ap (option_map f) there in
          (f t, here, changed t takes))

-- the numbers of the tables that moves compact
abbrev pub IsOther : Compaction → Move → Type 0
IsOther c (Compact other) = nat_eq c.table other.table ≡ false
IsOther c move = ⊤

abbrev pub AreOthers : Compaction → List Move → Type 0
AreOthers c [] = ⊤
AreOthers c (m ∷ ms) = IsOther c m × AreOthers c ms

-- **It stays under way over each move but its own last unit.**
pub still_running : (c : Compaction) (m : Move) (l : Layout) → IsOther c m → IsRunning c l → IsRunning c (moved m l)
still_running c (Put m) l other is =
    let row = row_after c l l.used.«data» (omega arith) m.table (put_table l.partitioner l.last m) (λ t takes. takes) is.row is.there is.takes in
    record { row = row.0; there = row.1; takes = row.2 }
still_running c (Freeze table) l other is =
    let row = row_after c l l.used.«data» (omega arith) table freeze_table (λ t takes. takes) is.row is.there is.takes in
    record { row = row.0; there = row.1; takes = row.2 }
still_running c (Flush table) l other is =
    let high = l.used.«data» in
    let row = row_after c l (suc high) (omega arith) table (flush_table (suc high) l.used.part (suc l.last)) (λ t takes. flush_takes high l.used.part (suc l.last) c t takes) is.row is.there is.takes in
    record { row = row.0; there = row.1; takes = row.2 }
still_running c (Create d) l other is = record { row = is.row; there = numbered_longer 1 c.table l.tables (new_parts d l.last ∷ []) is.row is.there; takes = is.takes }
still_running c (Define table index) l other is =
    let row = row_after c l l.used.«data» (omega arith) table (define_table (suc l.used.index) index) (λ t takes. takes) is.row is.there is.takes in
    record { row = row.0; there = row.1; takes = row.2 }
still_running c Draw l other is = record { row = is.row; there = is.there; takes = takes_higher l.used.«data» (suc l.used.«data») c (map (λ (f : File). f.listed) is.row.files) (omega arith) is.takes }
still_running c (Compact one) l other is = record { row = is.row; there = numbered_other (compact_table l.used.part one) 1 c.table one.table l.tables other ∙ is.there; takes = is.takes }

pub still_running_after : (c : Compaction) (ms : List Move) (l : Layout) → AreOthers c ms → IsRunning c l → IsRunning c (after_moves ms l)
still_running_after c [] l others is = is
still_running_after c (m ∷ ms) l others is = still_running_after c ms (moved m l) others.1 (still_running c m l others.0 is)

-- **One that takes in all files of a table under the next number is under way.**
pub begins_running : (l : Layout) (table : ℕ) (t : TableParts) (indexes : List ℕ) → numbered 1 table l.tables ≡ Some t → HasNumbersInOrder l → IsRunning (begun l.used.«data» table t indexes) (after_draw l)
begins_running l table t indexes there in_order = record {
  row = t;
  there = there;
  takes = record {
    older = map (λ (f : File). f.listed) t.files;
    later = [];
    parts = sym (append-nil (map (λ (f : File). f.listed) t.files));
    named = all_named (map (λ (f : File). f.listed) t.files);
    below = all_below 0 l.used.«data» (map (λ (f : File). f.listed) t.files) (numbered_all (λ (t : TableParts). HasFilesInOrder l.used.«data» l.last (listed_of t)) 1 table l.tables t there (to_parts (HasFilesInOrder l.used.«data» l.last) l.tables in_order.files)).rise;
    some = omega arith;
    rise = omega arith;
  };
}
  where
    number_of : ListedFile → ℕ
    number_of f = f.number

    among_more : (n : ℕ) (ks more : List ℕ) → is_among ks n ≡ true → is_among (ks ++ more) n ≡ true
    among_more n [] more is = cc
    among_more n (k ∷ ks) more is =
        elim (nat_eq n k) as (λ b. (b || is_among ks n) ≡ true → (b || is_among (ks ++ more) n) ≡ true) [ true ↦ λ _. refl | false ↦ λ rest. among_more n ks more rest ] is

    named_from : (before fs : List ListedFile) → AllByRecursion (λ (f : ListedFile). is_among (map number_of (before ++ fs)) f.number ≡ true) fs
    named_from before [] = tt
    named_from before (f ∷ fs) = (
      ap (λ (ks : List ℕ). is_among ks f.number) (map-append number_of before (f ∷ fs)) ∙ here (map number_of before),
      subst (λ (all : List ListedFile). AllByRecursion (λ (g : ListedFile). is_among (map number_of all) g.number ≡ true) fs) (append_assoc before (f ∷ []) fs) (named_from (before ++ f ∷ []) fs),
    )
      where
        here : (ks : List ℕ) → is_among (ks ++ f.number ∷ map number_of fs) f.number ≡ true
        here [] = (let same : nat_eq f.number f.number ≡ true = grind (arith, nat_tests) in ap (λ b. b || is_among (map number_of fs) f.number) same)
        here (k ∷ ks) = (let rest = here ks in elim (nat_eq f.number k) as (λ b. (b || is_among (ks ++ f.number ∷ map number_of fs) f.number) ≡ true) [ true ↦ refl | false ↦ rest ])

    all_named : (fs : List ListedFile) → AllByRecursion (λ (f : ListedFile). is_among (map number_of fs) f.number ≡ true) fs
    all_named fs = named_from [] fs

    all_below : (low high : ℕ) (fs : List ListedFile) → Rising low high fs → AllByRecursion (λ n. n < suc high) (map number_of fs)
    all_below low high [] rise = tt
    all_below low high (f ∷ fs) rise = (omega (arith, rising_bound f.number high fs rise.1), all_below f.number high fs rise.1)
