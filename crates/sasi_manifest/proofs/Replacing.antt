-- Files in the place of others: the listing stays consistent.
use Rattle.std.specs.Prelude.{◌≡◌, ℕ, zero, suc, ◌+◌, ◌-◌, ◌<◌, ◌≤◌, ◌^◌, Bool, true, false, not, ◌&&◌, ◌||◌, cond, nat_eq, nat_le, List, [], ◌∷◌, ◌++◌, slice_get, if◌then◌else◌, refl}
use Rattle.std.proofs.Common.{sym, ap, subst, ◌∙◌, arith, rules}
use Rattle.std.specs.List.{AllByRecursion, list_any}
use Rattle.std.specs.Option.{option_map_or}
use Rattle.std.proofs.lemmas.Bool.Decides.{nat_tests}
use Rattle.std.proofs.lemmas.List.Folds.{list_any-append}
use Rattle.std.proofs.lemmas.List.Sums.{sum_by-cons}
use Rattle.sasi_manifest.specs.declared.files.ListedFile.{ListedFile}
use Rattle.sasi_manifest.specs.Consistent.{FilesRise, owners}
use Rattle.sasi_manifest.specs.Edits.{are_within, files_of, is_new, is_taken}
use Rattle.sasi_manifest.specs.ListedDefinition.{ListedDefinition}
use Rattle.sasi_manifest.specs.ListedFiles.{has_file, is_among, with_file, with_files, without}
use Rattle.sasi_manifest.specs.Listings.{at_number, replaced}
use Rattle.sasi_manifest.proofs.Applying.{AreCurrent, AreNewFiles}

-- ---- tests

both : (a b : Bool) → a && b ≡ true → (a ≡ true) × (b ≡ true)
both true b is = (refl, is)
both false b is = cc

pub either_false : (a b : Bool) → (a || b) ≡ false → (a ≡ false) × (b ≡ false)
either_false true b is = cc
either_false false b is = (refl, is)

not_false : (a : Bool) → not a ≡ true → a ≡ false
not_false true is = cc
not_false false is = refl

false_not : (a : Bool) → not a ≡ false → a ≡ true
false_not true is = refl
false_not false is = cc

-- a test that can't be true is false
contra : (a : Bool) → (a ≡ true → false ≡ true) → a ≡ false
contra true h = (let never = h refl in cc)
contra false h = refl

swap_or : (a b c : Bool) → (a || (b || c)) ≡ (b || (a || c))
swap_or true true c = refl
swap_or true false c = refl
swap_or false b c = refl

join_or : (a b c : Bool) → (a || (b || c)) ≡ ((b || a) || c)
join_or true true c = refl
join_or true false c = refl
join_or false true c = refl
join_or false false c = refl

pub same_number : (m n : ℕ) → nat_eq m n ≡ true → m ≡ n
same_number m n is = search (rules, is)

-- ---- items by their numbers

-- the item of this number is so
abbrev pub At : {A : Type 0} → ℕ → ℕ → (A → Type 0) → List A → Type 0
At n number P [] = Unit {0}
At n number P (x ∷ xs) = (nat_eq n number ≡ true → P x) × At (suc n) number P xs

pub all_at : {A : Type 0} (P Q : A → Type 0) (f : A → A) → ((x : A) → P x → Q (f x)) → ((x : A) → P x → Q x) → (n number : ℕ) (xs : List A) → AllByRecursion P xs → AllByRecursion Q (at_number n number f xs)
all_at P Q f changed kept n number [] all = tt
all_at P Q f changed kept n number (x ∷ xs) all =
    (elim (nat_eq n number) as (λ b. Q (if b then f x else x)) [ true ↦ changed x all.0 | false ↦ kept x all.0 ], all_at P Q f changed kept (suc n) number xs all.1)

all_and : {A : Type 0} (P Q : A → Type 0) (xs : List A) → AllByRecursion P xs → AllByRecursion Q xs → AllByRecursion (λ x. P x × Q x) xs
all_and P Q [] p q = tt
all_and P Q (x ∷ xs) p q = ((p.0, q.0), all_and P Q xs p.1 q.1)

-- items behind the number stay
pub unchanged : {A : Type 0} (n number : ℕ) (f : A → A) (xs : List A) → number < n → at_number n number f xs ≡ xs
unchanged n number f [] below = refl
unchanged n number f (x ∷ xs) below =
    let other : nat_eq n number ≡ false = grind (arith, nat_tests, below) in
    let rest = unchanged (suc n) number f xs (omega (arith, below)) in
    ap (λ b. (if b then f x else x) ∷ at_number (suc n) number f xs) other ∙ ap (λ l. x ∷ l) rest

-- ---- first segments

pub since_replaced : (last table since n : ℕ) (removed : List ℕ) (added : List ListedFile) (tables : List ListedDefinition) → are_within last table n tables ≡ true → since ≤ last
    → AllByRecursion (λ t. t.since ≤ last) (at_number n table (replaced removed added since) tables)
since_replaced last table since n removed added [] within fits = tt
since_replaced last table since n removed added (t ∷ tables) within fits =
    let parts = both (nat_eq n table || nat_le t.since last) (are_within last table (suc n) tables) within in (
      elim (nat_eq n table) as (λ b. (b || nat_le t.since last) ≡ true → (if b then replaced removed added since t else t).since ≤ last) [
        | true ↦ λ _. fits
        | false ↦ λ is. search (rules, is)
      ] parts.0,
      since_replaced last table since (suc n) removed added tables parts.1 fits,
    )

-- ---- which numbers are there

has_with_file : (f : ListedFile) (files : List ListedFile) (n : ℕ) → has_file (with_file f files) n ≡ (nat_eq n f.number || has_file files n)
has_with_file f [] n = refl
has_with_file f (g ∷ gs) n =
    let rest = has_with_file f gs n in
    elim (nat_le f.number g.number) as (λ b. has_file (if b then f ∷ g ∷ gs else g ∷ with_file f gs) n ≡ (nat_eq n f.number || (nat_eq n g.number || has_file gs n))) [
      | true ↦ refl
      | false ↦ ap (λ b. nat_eq n g.number || b) rest ∙ swap_or (nat_eq n g.number) (nat_eq n f.number) (has_file gs n)
    ]

pub has_with_files : (added files : List ListedFile) (n : ℕ) → has_file (with_files added files) n ≡ (has_file added n || has_file files n)
has_with_files [] files n = refl
has_with_files (f ∷ added) files n =
    has_with_files added (with_file f files) n ∙ ap (λ b. has_file added n || b) (has_with_file f files n) ∙ join_or (has_file added n) (nat_eq n f.number) (has_file files n)

and_false : (a : Bool) → (a && false) ≡ false
and_false true = refl
and_false false = refl

by_removed : (own gone had removed kept : Bool) → (own ≡ true → removed ≡ gone) → kept ≡ (had && not removed) → (if not gone then (own || kept) else kept) ≡ ((own || had) && not removed)
by_removed true true had true kept same is = is ∙ and_false had
by_removed true true had false kept same is = (let never = same refl in cc)
by_removed true false had true kept same is = (let never = same refl in cc)
by_removed true false had false kept same is = refl
by_removed false true had removed kept same is = is
by_removed false false had removed kept same is = is

has_either : (b : Bool) (xs ys : List ListedFile) (n : ℕ) → has_file (if b then xs else ys) n ≡ (if b then has_file xs n else has_file ys n)
has_either true xs ys n = refl
has_either false xs ys n = refl

pub has_without : (removed : List ℕ) (files : List ListedFile) (n : ℕ) → has_file (without removed files) n ≡ (has_file files n && not (is_among removed n))
has_without removed [] n = refl
has_without removed (f ∷ files) n =
    has_either (not (is_among removed f.number)) (f ∷ without removed files) (without removed files) n
    ∙ by_removed (nat_eq n f.number) (is_among removed f.number) (has_file files n) (is_among removed n) (has_file (without removed files) n)
    (λ own. ap (is_among removed) (same_number n f.number own)) (has_without removed files n)

-- ---- rising numbers

rise_lower : (low above : ℕ) (files : List ListedFile) → low ≤ above → FilesRise above files → FilesRise low files
rise_lower low above [] le rise = tt
rise_lower low above (f ∷ files) le rise = (omega (arith, rise.0), rise.1, rise.2)

without_rises : (removed : List ℕ) (above : ℕ) (files : List ListedFile) → FilesRise above files → FilesRise above (without removed files)
without_rises removed above [] rise = tt
without_rises removed above (f ∷ files) rise =
    let rest = without_rises removed f.number files rise.2 in
    elim (not (is_among removed f.number)) as (λ b. FilesRise above (if b then f ∷ without removed files else without removed files)) [
      | true ↦ (rise.0, rise.1, rest)
      | false ↦ rise_lower above f.number (without removed files) (omega (arith, rise.0)) rest
    ]

with_file_rises : (f : ListedFile) (above : ℕ) (files : List ListedFile) → FilesRise above files → above < f.number → f.number < 2 ^ 32 → has_file files f.number ≡ false → FilesRise above (with_file f files)
with_file_rises f above [] rise lower fits free = (lower, fits, tt)
with_file_rises f above (g ∷ gs) rise lower fits free =
    let parts = either_false (nat_eq f.number g.number) (has_file gs f.number) free in
    let rest : g.number < f.number → FilesRise g.number (with_file f gs) = λ less. with_file_rises f g.number gs rise.2 less fits parts.1 in
    elim (nat_le f.number g.number) as (λ b. nat_le f.number g.number ≡ b → FilesRise above (if b then f ∷ g ∷ gs else g ∷ with_file f gs)) [
      | true ↦ λ is.
          let less : f.number < g.number = grind (arith, nat_tests, parts.0, is) in
          (lower, fits, (less, rise.1, rise.2))
      | false ↦ λ is.
          let less : g.number < f.number = grind (arith, nat_tests, is) in
          (rise.0, rise.1, rest less)
    ] refl

-- a number that is new behind one more file is new before it
new_before : (tables : List ListedDefinition) (removed : List ℕ) (before : List ListedFile) (f : ListedFile) (n : ℕ) → is_new tables removed (before ++ f ∷ []) n ≡ true → (is_new tables removed before n ≡ true) × (nat_eq n f.number ≡ false)
new_before tables removed before f n is =
    let parts = both (not (is_taken tables removed n)) (not (has_file (before ++ f ∷ []) n)) is in
    let joined : has_file (before ++ f ∷ []) n ≡ (has_file before n || has_file (f ∷ []) n) = list_any-append (λ (g : ListedFile). nat_eq n g.number) before (f ∷ []) in
    let none = either_false (has_file before n) (has_file (f ∷ []) n) (sym joined ∙ not_false (has_file (before ++ f ∷ []) n) parts.1) in (
      ap (λ b. not (is_taken tables removed n) && not b) none.0 ∙ ap (λ b. b && true) parts.0,
      (either_false (nat_eq n f.number) false none.1).0,
    )

with_files_rise : (tables : List ListedDefinition) (table : ℕ) (removed : List ℕ) (before added files : List ListedFile) → AreNewFiles tables table removed before added → FilesRise 0 files
    → ((n : ℕ) → is_new tables removed before n ≡ true → has_file files n ≡ false) → FilesRise 0 (with_files added files)
with_files_rise tables table removed before [] files new rise free = rise
with_files_rise tables table removed before (f ∷ added) files new rise free =
    with_files_rise tables table removed (before ++ f ∷ []) added (with_file f files) new.1
    (with_file_rises f 0 files rise (omega (arith, new.0.some)) new.0.number_fits (free f.number new.0.free))
    (λ n is. (let earlier = new_before tables removed before f n is in
    has_with_file f files n ∙ ap (λ b. b || has_file files n) earlier.1 ∙ free n earlier.0))

-- what a table has, the tables have
each_listed : (tables rest : List ListedDefinition) → ((n : ℕ) → list_any (λ t. has_file t.files n) rest ≡ true → list_any (λ t. has_file t.files n) tables ≡ true)
    → AllByRecursion (λ (t : ListedDefinition). (n : ℕ) → has_file t.files n ≡ true → list_any (λ t. has_file t.files n) tables ≡ true) rest
each_listed tables [] inside = tt
each_listed tables (t ∷ rest) inside = (
  λ n has. inside n (ap (λ b. b || list_any (λ t. has_file t.files n) rest) has),
  each_listed tables rest (λ n has. inside n (by_or (has_file t.files n) (list_any (λ t. has_file t.files n) rest) has)),
)
  where
    by_or : (a b : Bool) → b ≡ true → (a || b) ≡ true
    by_or true b is = refl
    by_or false b is = is

-- what is new isn't among the files that stay
new_is_free : (tables : List ListedDefinition) (removed : List ℕ) (files : List ListedFile) (n : ℕ) → (has_file files n ≡ true → list_any (λ t. has_file t.files n) tables ≡ true)
    → is_taken tables removed n ≡ false → has_file (without removed files) n ≡ false
new_is_free tables removed files n listed free = has_without removed files n ∙ by (has_file files n) (is_among removed n) (list_any (λ t. has_file t.files n) tables) listed free
  where
    by : (had gone any : Bool) → (had ≡ true → any ≡ true) → (any && not gone) ≡ false → (had && not gone) ≡ false
    by true gone true h is = is
    by true gone false h is = (let never = h refl in cc)
    by false gone any h is = refl

pub files_replaced : (tables : List ListedDefinition) (table since : ℕ) (removed : List ℕ) (added : List ListedFile) → AreNewFiles tables table removed [] added → AllByRecursion (λ t. FilesRise 0 t.files) tables
    → AllByRecursion (λ t. FilesRise 0 t.files) (at_number 1 table (replaced removed added since) tables)
files_replaced tables table since removed added new rise =
    all_at (λ (t : ListedDefinition). FilesRise 0 t.files × ((n : ℕ) → has_file t.files n ≡ true → list_any (λ t. has_file t.files n) tables ≡ true)) (λ t. FilesRise 0 t.files) (replaced removed added since)
    (λ t is. with_files_rise tables table removed [] added (without removed t.files) new (without_rises removed 0 t.files is.0)
    (λ n free. new_is_free tables removed t.files n (is.1 n) (not_false (is_taken tables removed n) (both (not (is_taken tables removed n)) true free).0)))
    (λ t is. is.0) 1 table tables
    (all_and (λ (t : ListedDefinition). FilesRise 0 t.files) (λ (t : ListedDefinition). (n : ℕ) → has_file t.files n ≡ true → list_any (λ t. has_file t.files n) tables ≡ true) tables rise (each_listed tables tables (λ n is. is)))

-- ---- none stands in two tables

abbrev bit : Bool → ℕ
bit b = cond b 1 0

owners_more : (n : ℕ) (t : ListedDefinition) (tables : List ListedDefinition) → owners n (t ∷ tables) ≡ bit (has_file t.files n) + owners n tables
owners_more n t tables = sum_by-cons (λ (t : ListedDefinition). cond (has_file t.files n) 1 0) t tables

no_owner : (n : ℕ) (tables : List ListedDefinition) → list_any (λ t. has_file t.files n) tables ≡ false → owners n tables ≡ 0
no_owner n [] none = refl
no_owner n (t ∷ tables) none =
    let parts = either_false (has_file t.files n) (list_any (λ t. has_file t.files n) tables) none in
    omega (arith, owners_more n t tables, ap bit parts.0, no_owner n tables parts.1)

at_most_one : (b : Bool) → bit b ≤ 1
at_most_one true = omega arith
at_most_one false = omega arith

-- one table changes, and none had the file
one_owner : (n table first : ℕ) (f : ListedDefinition → ListedDefinition) (tables : List ListedDefinition) → list_any (λ t. has_file t.files n) tables ≡ false → owners n (at_number first table f tables) ≤ 1
one_owner n table first f [] none = omega arith
one_owner n table first f (t ∷ tables) none = by (nat_eq first table) refl (one_owner n table (suc first) f tables parts.1)
  where
    parts : (has_file t.files n ≡ false) × (list_any (λ t. has_file t.files n) tables ≡ false)
    parts = either_false (has_file t.files n) (list_any (λ t. has_file t.files n) tables) none

    by : (b : Bool) → nat_eq first table ≡ b → owners n (at_number (suc first) table f tables) ≤ 1 → owners n ((if b then f t else t) ∷ at_number (suc first) table f tables) ≤ 1
    by true here rest =
        let same : first ≡ table = same_number first table here in
        let stays = unchanged (suc first) table f tables (omega (arith, same)) in
        omega (arith, owners_more n (f t) (at_number (suc first) table f tables), at_most_one (has_file (f t).files n), ap (owners n) stays, no_owner n tables parts.1)
    by false other rest = omega (arith, rest, owners_more n t (at_number (suc first) table f tables), ap bit parts.0)

no_more : (a b : Bool) → (a ≡ true → b ≡ true) → bit a ≤ bit b
no_more true true h = omega arith
no_more true false h = (let never = h refl in cc)
no_more false b h = omega arith

-- the table that changes has the file only where it had it
pub same_owners : (n table first : ℕ) (f : ListedDefinition → ListedDefinition) (tables : List ListedDefinition) → At first table (λ t. has_file (f t).files n ≡ true → has_file t.files n ≡ true) tables
    → owners n (at_number first table f tables) ≤ owners n tables
same_owners n table first f [] all = omega arith
same_owners n table first f (t ∷ tables) all =
    let rest = same_owners n table (suc first) f tables all.1 in
    elim (nat_eq first table) as (λ b. (b ≡ true → has_file (f t).files n ≡ true → has_file t.files n ≡ true) → owners n ((if b then f t else t) ∷ at_number (suc first) table f tables) ≤ owners n (t ∷ tables)) [
      | true ↦ λ had. omega (arith, rest, owners_more n (f t) (at_number (suc first) table f tables), owners_more n t tables, no_more (has_file (f t).files n) (has_file t.files n) (had refl))
      | false ↦ λ had. omega (arith, rest, owners_more n t (at_number (suc first) table f tables), owners_more n t tables)
    ] all.0

-- the files of a table are those of the item of its number
at_of_files : (n first index : ℕ) (tables : List ListedDefinition) → has_file (option_map_or (λ t. t.files) (slice_get tables index) []) n ≡ true → At first (first + index) (λ t. has_file t.files n ≡ true) tables
at_of_files n first index [] has = tt
at_of_files n first zero (t ∷ tables) has = (λ _. has, at_behind n (suc first) (first + 0) tables (omega arith))
  where
    at_behind : (n first number : ℕ) (tables : List ListedDefinition) → number < first → At first number (λ t. has_file t.files n ≡ true) tables
    at_behind n first number [] below = tt
    at_behind n first number (t ∷ tables) below =
        (λ here. (let same : first ≡ number = same_number first number here in absurd (omega (arith, same, below))), at_behind n (suc first) number tables (omega (arith, below)))
at_of_files n first (suc index) (t ∷ tables) has =
    let moved : suc first + index ≡ first + suc index = omega arith in (
      λ here. (let same : first ≡ first + suc index = same_number first (first + suc index) here in absurd (omega (arith, same))),
      subst (λ number. At (suc first) number (λ t. has_file t.files n ≡ true) tables) moved (at_of_files n (suc first) index tables has),
    )

at_map : {A : Type 0} (P Q : A → Type 0) → ((x : A) → P x → Q x) → (n number : ℕ) (xs : List A) → At n number P xs → At n number Q xs
at_map P Q h n number [] all = tt
at_map P Q h n number (x ∷ xs) all = (λ is. h x (all.0 is), at_map P Q h (suc n) number xs all.1)

pub at_each : {A : Type 0} (P : A → Type 0) → ((x : A) → P x) → (n number : ℕ) (xs : List A) → At n number P xs
at_each P h n number [] = tt
at_each P h n number (x ∷ xs) = (λ _. h x, at_each P h (suc n) number xs)

-- a removed number is that of a file of the table
removed_there : (files : List ListedFile) (before removed : List ℕ) (n : ℕ) → AreCurrent files before removed → is_among removed n ≡ true → has_file files n ≡ true
removed_there files before [] n all is = cc
removed_there files before (m ∷ removed) n all is =
    elim (nat_eq n m) as (λ b. nat_eq n m ≡ b → (b || is_among removed n) ≡ true → has_file files n ≡ true) [
      | true ↦ λ same _. (let equal : n ≡ m = same_number n m same in ap (has_file files) equal ∙ (both (has_file files m) (not (is_among before m)) all.1).0)
      | false ↦ λ other rest. removed_there files (before ++ m ∷ []) removed n all.2 rest
    ] refl is

-- an added number isn't that of a file that stays
added_free : (tables : List ListedDefinition) (table : ℕ) (removed : List ℕ) (before added : List ListedFile) (n : ℕ) → AreNewFiles tables table removed before added → has_file added n ≡ true → is_taken tables removed n ≡ false
added_free tables table removed before [] n new is = cc
added_free tables table removed before (f ∷ added) n new is =
    elim (nat_eq n f.number) as (λ b. nat_eq n f.number ≡ b → (b || has_file added n) ≡ true → is_taken tables removed n ≡ false) [
      | true ↦ λ same _.
          let equal : n ≡ f.number = same_number n f.number same in
          ap (is_taken tables removed) equal ∙ not_false (is_taken tables removed f.number) (both (not (is_taken tables removed f.number)) (not (has_file before f.number)) new.0.free).0
      | false ↦ λ other rest. added_free tables table removed (before ++ f ∷ []) added n new.1 rest
    ] refl is

has_replaced : (removed : List ℕ) (added : List ListedFile) (since n : ℕ) (t : ListedDefinition) → has_file (replaced removed added since t).files n ≡ (has_file added n || (has_file t.files n && not (is_among removed n)))
has_replaced removed added since n t = has_with_files added (without removed t.files) n ∙ ap (λ b. has_file added n || b) (has_without removed t.files n)

pub apart_replaced : (tables : List ListedDefinition) (table since : ℕ) (removed : List ℕ) (added : List ListedFile) → 1 ≤ table → AreNewFiles tables table removed [] added → AreCurrent (files_of tables table) [] removed
    → ((n : ℕ) → owners n tables ≤ 1) → (n : ℕ) → owners n (at_number 1 table (replaced removed added since) tables) ≤ 1
apart_replaced tables table since removed added some new current apart n =
    by (has_file added n) refl (is_among removed n) refl
  where
    f : ListedDefinition → ListedDefinition
    f = replaced removed added since

    numbered : 1 + (table - 1) ≡ table
    numbered = omega arith

    by : (new_here : Bool) → has_file added n ≡ new_here → (gone : Bool) → is_among removed n ≡ gone → owners n (at_number 1 table f tables) ≤ 1
    by false not_added gone removed_is =
        let had : (t : ListedDefinition) → has_file (f t).files n ≡ true → has_file t.files n ≡ true = λ t is.
        (both (has_file t.files n) (not (is_among removed n)) (sym (has_replaced removed added since n t ∙ ap (λ b. b || (has_file t.files n && not (is_among removed n))) not_added) ∙ is)).0 in
        omega (arith, apart n, same_owners n table 1 f tables (at_each (λ t. has_file (f t).files n ≡ true → has_file t.files n ≡ true) had 1 table tables))
    by true is_added true removed_is =
        let there = at_of_files n 1 (table - 1) tables (removed_there (files_of tables table) [] removed n current removed_is) in
        omega (
          arith,
          apart n,
          same_owners n table 1 f tables
              (at_map (λ t. has_file t.files n ≡ true) (λ t. has_file (f t).files n ≡ true → has_file t.files n ≡ true) (λ t has _. has) 1 table tables
              (subst (λ number. At 1 number (λ t. has_file t.files n ≡ true) tables) numbered there)),
        )
    by true is_added false removed_is =
        let free = added_free tables table removed [] added n new is_added in
        let none : list_any (λ t. has_file t.files n) tables ≡ false = sym (and_true (list_any (λ t. has_file t.files n) tables)) ∙ ap (λ b. list_any (λ t. has_file t.files n) tables && not b) (sym removed_is) ∙ free in
        one_owner n table 1 f tables none
      where
        and_true : (a : Bool) → (a && true) ≡ a
        and_true true = refl
        and_true false = refl
