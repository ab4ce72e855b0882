-- What is listed after the last unit of a compaction: its sources were the first files of their table, and the output stands in their place.
use Rattle.std.proofs.Common.{◌≡◌, ◌⊎◌, inl, inr, ⊎_elim, ◌∙◌, ◌||◌, ◌&&◌, ◌++◌, ◌+◌, ◌<◌, ◌≤◌, ◌-◌, ℕ, suc, Bool, true, false, cond, not, nat_eq, nat_le, List, [], ◌∷◌, length, map, slice_get, take, None, Some, refl, sym, ap, subst, arith}
use Rattle.std.proofs.lemmas.Bool.Decides.{nat_tests}
use Rattle.std.proofs.lemmas.List.Elements.{All-contains, All-from_recursion, Contains-append_cases}
use Rattle.std.proofs.lemmas.List.Sums.{sum_by-cons}
use Rattle.std.specs.Prelude.{Contains}
use Rattle.std.specs.FinMap as map_
use Rattle.std.specs.List.{AllByRecursion, count_by, list_any}
use Rattle.sasi_host.specs.declared.name.FileName.{FileName}
use Rattle.sasi_manifest.proofs.Replacing.{unchanged}
use Rattle.sasi_manifest.specs.Consistent.{owners}
use Rattle.sasi_manifest.specs.FileNames.{has_name}
use Rattle.sasi_manifest.specs.ListedDefinition.{ListedDefinition}
use Rattle.sasi_manifest.specs.ListedFiles.{has_file, is_among, is_name_of, with_file, with_files, without}
use Rattle.sasi_manifest.specs.Listings.{at_number, replaced}
use Rattle.sasi_manifest.specs.declared.files.ListedFile.{ListedFile}
use Rattle.sasi_layout.proofs.CompactLaws.{compacts, listed_others}
use Rattle.sasi_layout.proofs.FileNameLaws.{has_name_by, have_name, number_unnamed}
use Rattle.sasi_layout.specs.Compacting.{Compaction, TakesFirst}
use Rattle.sasi_layout.specs.Layout.{File, TableParts, numbered}
use Rattle.sasi_layout.specs.NumbersInOrder.{Rising}
use Rattle.sasi_tables.proofs.Composition.{numbered_at}
use Rattle.sasi_tables.proofs.FlushingTables.{none_without}

-- ---- tests

never : true ≡ false → ⊥
never e = cc

clash : (b : Bool) → b ≡ true → b ≡ false → ⊥
clash b is isnt = never (sym is ∙ isnt)

or_either : (a b : Bool) → (a || b) ≡ true → (a ≡ false → b ≡ true)
or_either true b is none = absurd (never none)
or_either false b is none = is

same_number : (a b : ℕ) → nat_eq a b ≡ true → a ≡ b
same_number a b is = grind (arith, nat_tests, is)

-- ---- the files of the table

-- files without partitions
abbrev plain : ListedFile → File
plain f = record { listed = f; holds = map_.empty }

plain_listed : (fs : List ListedFile) → map (λ (f : File). f.listed) (map plain fs) ≡ fs
plain_listed [] = refl
plain_listed (f ∷ fs) = ap (λ (l : List ListedFile). f ∷ l) (plain_listed fs)

abbrev alone : List ListedFile → TableParts
alone fs = record { definition = record { name = []; columns = []; key = 0; indexes = [] }; numbers = []; since = 0; first = None; files = map plain fs; frozen = []; memtable = map_.empty }

first_file : (f : ListedFile) (high : ℕ) (fs : List ListedFile) → Rising f.number high fs → with_file f fs ≡ f ∷ fs
first_file f high [] rise = refl
first_file f high (g ∷ gs) rise =
    let le : nat_le f.number g.number ≡ true = (let less : f.number < g.number = rise.0 in grind (arith, nat_tests)) in
    ap (λ b. cond b (f ∷ g ∷ gs) (g ∷ with_file f gs)) le

module _ (high : ℕ) (c : Compaction) (fs : List ListedFile) (takes : TakesFirst high c fs) where
  -- the files that stay are later than the output
  pub left_rise : Rising c.output high (without c.sources fs)
  left_rise =
      let has = compacts 0 high c (alone fs) (subst (TakesFirst high c) (sym (plain_listed fs)) takes) in
      let left : without c.sources fs ≡ map (λ (f : File). f.listed) has.back =
      ap (without c.sources) (sym (plain_listed fs)) ∙ sym (listed_others c.sources (map plain fs)) ∙ ap (λ (l : List File). map (λ (f : File). f.listed) l) has.rest in
      subst (Rising c.output high) (sym left) has.rise

  -- and the output stands in front of them
  pub files_after : (out : ListedFile) → out.number ≡ c.output → with_files (out ∷ []) (without c.sources fs) ≡ out ∷ without c.sources fs
  files_after out is = first_file out high (without c.sources fs) (subst (λ (n : ℕ). Rising n high (without c.sources fs)) (sym is) left_rise)

-- those that go are the first ones
without_above : (n low high : ℕ) (ns : List ℕ) (fs : List ListedFile) → n ≤ low → Rising low high fs → without (n ∷ ns) fs ≡ without ns fs
without_above n low high ns [] le rise = refl
without_above n low high ns (f ∷ fs) le rise =
    let other : nat_eq f.number n ≡ false = (let less : low < f.number = rise.0 in grind (arith, nat_tests, le)) in
    let rest = without_above n f.number high ns fs (omega (arith, le, rise.0)) rise.1 in
    ap (λ b. cond (not (b || is_among ns f.number)) (f ∷ without (n ∷ ns) fs) (without (n ∷ ns) fs)) other
    ∙ ap (λ (l : List ListedFile). cond (not (is_among ns f.number)) (f ∷ l) l) rest

abbrev pub numbers_in : List ListedFile → List ℕ
numbers_in fs = map (λ (f : ListedFile). f.number) fs

first_split : (low high : ℕ) (ns : List ℕ) (fs : List ListedFile) → Rising low high fs → numbers_in (take (length ns) fs) ≡ ns → fs ≡ take (length ns) fs ++ without ns fs
first_split low high [] fs rise are = sym (none_without fs)
first_split low high (n ∷ ns) [] rise are = cc
first_split low high (n ∷ ns) (f ∷ fs) rise are =
    let own : f.number ≡ n = cc in
    let more : numbers_in (take (length ns) fs) ≡ ns = cc in
    let gone : nat_eq f.number n ≡ true = grind (arith, nat_tests, own) in
    let left : without (n ∷ ns) (f ∷ fs) ≡ without ns fs =
    ap (λ b. cond (not (b || is_among ns f.number)) (f ∷ without (n ∷ ns) fs) (without (n ∷ ns) fs)) gone ∙ without_above n f.number high ns fs (omega (arith, own)) rise.1 in
    ap (λ (l : List ListedFile). f ∷ l) (first_split f.number high ns fs rise.1 more ∙ ap (λ (l : List ListedFile). take (length ns) fs ++ l) (sym left))

-- ---- numbers of names

-- a name of a file has its number
pub own_number : (f : ListedFile) (name : FileName) → is_name_of f name ≡ true → name.number ≡ f.number
own_number f name is = by (nat_eq name.number f.number) refl
  where
    by : (b : Bool) → nat_eq name.number f.number ≡ b → name.number ≡ f.number
    by true same = same_number name.number f.number same
    by false other = absurd (clash (is_name_of f name) is (number_unnamed name f (λ same. (let own : nat_eq name.number f.number ≡ true = grind (arith, nat_tests, same) in clash (nat_eq name.number f.number) own other))))

-- and so one of several
have_number : (fs : List ListedFile) (name : FileName) → have_name fs name ≡ true → has_file fs name.number ≡ true
have_number [] name is = cc
have_number (f ∷ fs) name is = by (is_name_of f name) refl (have_number fs name)
  where
    or_right : (a b : Bool) → b ≡ true → (a || b) ≡ true
    or_right true b there = refl
    or_right false b there = there

    by : (b : Bool) → is_name_of f name ≡ b → (have_name fs name ≡ true → has_file fs name.number ≡ true) → has_file (f ∷ fs) name.number ≡ true
    by true own rest =
        let same = own_number f name own in
        let test : nat_eq name.number f.number ≡ true = grind (arith, nat_tests, same) in
        ap (λ b. b || has_file fs name.number) test
    by false other rest = or_right (nat_eq name.number f.number) (has_file fs name.number) (rest (or_either (is_name_of f name) (have_name fs name) is other))

pub file_among : (fs : List ListedFile) (ns : List ℕ) (n : ℕ) → numbers_in fs ≡ ns → has_file fs n ≡ is_among ns n
file_among [] [] n are = refl
file_among [] (m ∷ ns) n are = cc
file_among (f ∷ fs) [] n are = cc
file_among (f ∷ fs) (m ∷ ns) n are =
    let own : f.number ≡ m = cc in
    let more : numbers_in fs ≡ ns = cc in
    let rest = file_among fs ns n more in
    λ i. nat_eq n (own i) || rest i

-- files that rise above a number haven't it
none_below : (low high n : ℕ) (fs : List ListedFile) → n ≤ low → Rising low high fs → has_file fs n ≡ false
none_below low high n [] le rise = refl
none_below low high n (f ∷ fs) le rise =
    let other : nat_eq n f.number ≡ false = (let less : low < f.number = rise.0 in grind (arith, nat_tests, le)) in
    ap (λ b. b || has_file fs n) other ∙ none_below f.number high n fs (omega (arith, le, rise.0)) rise.1

pub below_all : (ns : List ℕ) (bound n : ℕ) → AllByRecursion (λ n. n < bound) ns → is_among ns n ≡ true → n < bound
below_all [] bound n all is = cc
below_all (m ∷ ns) bound n all is = by (nat_eq n m) refl (below_all ns bound n all.1)
  where
    by : (b : Bool) → nat_eq n m ≡ b → (is_among ns n ≡ true → n < bound) → n < bound
    by true same rest = (let one = same_number n m same in omega (arith, one, all.0))
    by false other rest = rest (or_either (nat_eq n m) (is_among ns n) is other)

-- ---- the other tables

abbrev pub emptied : ListedDefinition → ListedDefinition
emptied t = record t { files = [] }

swap : (a b c : Bool) → (a || (b || c)) ≡ (b || (a || c))
swap true true c = refl
swap true false c = refl
swap false b c = refl

module _ (p : ListedDefinition → Bool) (f : ListedDefinition → ListedDefinition) (row : ListedDefinition) (none : (t : ListedDefinition) → p (emptied t) ≡ false) (table : ℕ) where
  any_at : (n : ℕ) (ts : List ListedDefinition) → numbered n table ts ≡ Some row → list_any p (at_number n table f ts) ≡ (p (f row) || list_any p (at_number n table emptied ts))
  any_at n [] there = cc
  any_at n (t ∷ ts) there = by (nat_eq n table) refl there (any_at (suc n) ts)
    where
      by : (b : Bool) → nat_eq n table ≡ b → cond b (Some t) (numbered (suc n) table ts) ≡ Some row
          → (numbered (suc n) table ts ≡ Some row → list_any p (at_number (suc n) table f ts) ≡ (p (f row) || list_any p (at_number (suc n) table emptied ts)))
          → (p (cond b (f t) t) || list_any p (at_number (suc n) table f ts)) ≡ (p (f row) || (p (cond b (emptied t) t) || list_any p (at_number (suc n) table emptied ts)))
      by true own is rest =
          let one : t ≡ row = cc in
          let number = same_number n table own in
          let first = unchanged (suc n) table f ts (omega (arith, number)) in
          let second = unchanged (suc n) table emptied ts (omega (arith, number)) in
          ap (λ (l : List ListedDefinition). p (f t) || list_any p l) first ∙ ap (λ (k : ListedDefinition). p (f k) || list_any p ts) one
          ∙ ap (λ (l : List ListedDefinition). p (f row) || list_any p l) (sym second) ∙ ap (λ b. p (f row) || (b || list_any p (at_number (suc n) table emptied ts))) (sym (none t))
      by false other is rest = ap (λ b. p t || b) (rest is) ∙ swap (p t) (p (f row)) (list_any p (at_number (suc n) table emptied ts))

module _ (p : ListedDefinition → Bool) where
  counts : (t : ListedDefinition) (ts : List ListedDefinition) (b : Bool) → p t ≡ b → count_by p (t ∷ ts) ≡ cond b 1 0 + count_by p ts
  counts t ts b is = sum_by-cons (λ (t : ListedDefinition). cond (p t) 1 0) t ts ∙ ap (λ b. cond b 1 0 + count_by p ts) is

  zero_any : (us : List ListedDefinition) → count_by p us ≤ 0 → list_any p us ≡ false
  zero_any [] few = refl
  zero_any (u ∷ us) few = by (p u) refl (zero_any us)
    where
      by : (b : Bool) → p u ≡ b → (count_by p us ≤ 0 → list_any p us ≡ false) → (p u || list_any p us) ≡ false
      by true is rest = absurd (omega (arith, few, counts u us true is))
      by false is rest = ap (λ b. b || list_any p us) is ∙ rest (omega (arith, few, counts u us false is))

  module _ (row : ListedDefinition) (table : ℕ) (own : p row ≡ true) where
    counted : (k : ℕ) (us : List ListedDefinition) → numbered k table us ≡ Some row → 1 ≤ count_by p us
    counted k [] there = cc
    counted k (u ∷ us) there = by (nat_eq k table) there (counted (suc k) us)
      where
        by : (b : Bool) → cond b (Some u) (numbered (suc k) table us) ≡ Some row → (numbered (suc k) table us ≡ Some row → 1 ≤ count_by p us) → 1 ≤ count_by p (u ∷ us)
        by true is rest =
            let one : u ≡ row = cc in
            omega (arith, counts u us true (ap p one ∙ own))
        by false is rest = omega (arith, sum_by-cons (λ (t : ListedDefinition). cond (p t) 1 0) u us, rest is)

    -- of the other tables none passes where the row does and one at most
    one_owner : (n : ℕ) (ts : List ListedDefinition) → numbered n table ts ≡ Some row → count_by p ts ≤ 1 → ((t : ListedDefinition) → p (emptied t) ≡ false) → list_any p (at_number n table emptied ts) ≡ false
    one_owner n [] there few none = refl
    one_owner n (t ∷ ts) there few none = by (nat_eq n table) refl there (λ is less. one_owner (suc n) ts is less none)
      where
        at : (b : Bool) → p t ≡ b → numbered (suc n) table ts ≡ Some row → (numbered (suc n) table ts ≡ Some row → count_by p ts ≤ 1 → list_any p (at_number (suc n) table emptied ts) ≡ false)
            → (p t || list_any p (at_number (suc n) table emptied ts)) ≡ false
        at true also is rest = absurd (omega (arith, few, counts t ts true also, counted (suc n) ts is))
        at false isnt is rest = ap (λ b. b || list_any p (at_number (suc n) table emptied ts)) isnt ∙ rest is (omega (arith, few, counts t ts false isnt))

        by : (b : Bool) → nat_eq n table ≡ b → cond b (Some t) (numbered (suc n) table ts) ≡ Some row
            → (numbered (suc n) table ts ≡ Some row → count_by p ts ≤ 1 → list_any p (at_number (suc n) table emptied ts) ≡ false) → (p (cond b (emptied t) t) || list_any p (at_number (suc n) table emptied ts)) ≡ false
        by true is here rest =
            let one : t ≡ row = cc in
            let number = same_number n table is in
            ap (λ b. b || list_any p (at_number (suc n) table emptied ts)) (none t) ∙ ap (λ (l : List ListedDefinition). list_any p l) (unchanged (suc n) table emptied ts (omega (arith, number)))
            ∙ zero_any ts (omega (arith, few, counts t ts true (ap p one ∙ own)))
        by false is here rest = at (p t) refl here rest

-- ---- names of all tables

abbrev IsNamed : FileName → ListedDefinition → Bool
IsNamed name t = have_name t.files name

same_rows : (n table : ℕ) (ts : List ListedDefinition) → at_number n table (λ (t : ListedDefinition). t) ts ≡ ts
same_rows n table [] = refl
same_rows n table (t ∷ ts) =
    let rest = same_rows (suc n) table ts in
    elim (nat_eq n table) as (λ b. cond b t t ∷ at_number (suc n) table (λ (t : ListedDefinition). t) ts ≡ t ∷ ts) [ true ↦ λ i. t ∷ rest i | false ↦ λ i. t ∷ rest i ]

named_numbers : (name : FileName) (ts : List ListedDefinition) → list_any (IsNamed name) ts ≡ true → list_any (λ (t : ListedDefinition). has_file t.files name.number) ts ≡ true
named_numbers name [] is = cc
named_numbers name (t ∷ ts) is = by (have_name t.files name) refl (named_numbers name ts)
  where
    or_right : (a b : Bool) → b ≡ true → (a || b) ≡ true
    or_right true b there = refl
    or_right false b there = there

    by : (b : Bool) → have_name t.files name ≡ b → (list_any (IsNamed name) ts ≡ true → list_any (λ (t : ListedDefinition). has_file t.files name.number) ts ≡ true) → list_any (λ (t : ListedDefinition). has_file t.files name.number) (t ∷ ts) ≡ true
    by true own rest = ap (λ b. b || list_any (λ (t : ListedDefinition). has_file t.files name.number) ts) (have_number t.files name own)
    by false other rest = or_right (has_file t.files name.number) (list_any (λ (t : ListedDefinition). has_file t.files name.number) ts) (rest (or_either (have_name t.files name) (list_any (IsNamed name) ts) is other))

have_append : (fs gs : List ListedFile) (name : FileName) → have_name (fs ++ gs) name ≡ (have_name fs name || have_name gs name)
have_append [] gs name = refl
have_append (f ∷ fs) gs name = ap (λ b. is_name_of f name || b) (have_append fs gs name) ∙ join (is_name_of f name) (have_name fs name) (have_name gs name)
  where
    join : (a b c : Bool) → (a || (b || c)) ≡ ((a || b) || c)
    join true b c = refl
    join false b c = refl

file_first : (fs gs : List ListedFile) (n : ℕ) → has_file fs n ≡ true → has_file (fs ++ gs) n ≡ true
file_first [] gs n has = cc
file_first (f ∷ fs) gs n has = by (nat_eq n f.number) refl (file_first fs gs n)
  where
    by : (b : Bool) → nat_eq n f.number ≡ b → (has_file fs n ≡ true → has_file (fs ++ gs) n ≡ true) → (nat_eq n f.number || has_file (fs ++ gs) n) ≡ true
    by true own rest = ap (λ b. b || has_file (fs ++ gs) n) own
    by false other rest = ap (λ b. b || has_file (fs ++ gs) n) other ∙ rest (or_either (nat_eq n f.number) (has_file fs n) has other)

own_files : (whole fs : List ListedFile) → ((n : ℕ) → has_file fs n ≡ true → has_file whole n ≡ true) → AllByRecursion (λ (g : ListedFile). has_file whole g.number ≡ true) fs
own_files whole [] inside = tt
own_files whole (f ∷ fs) inside = (inside f.number (own (has_file fs f.number)), own_files whole fs (λ n is. inside n (later (nat_eq n f.number) (has_file fs n) is)))
  where
    own : (b : Bool) → (nat_eq f.number f.number || b) ≡ true
    own b = (let same : nat_eq f.number f.number ≡ true = grind (arith, nat_tests) in ap (λ x. x || b) same)

    later : (a b : Bool) → b ≡ true → (a || b) ≡ true
    later true b is = refl
    later false b is = is

module _ (ts : List ListedDefinition) (table : ℕ) (some : 0 < table) (row : ListedDefinition) (there : slice_get ts (table - 1) ≡ Some row) (apart : (n : ℕ) → owners n ts ≤ 1)
    (low high : ℕ) (rise : Rising low high row.files) (c : Compaction) (takes : TakesFirst high c row.files) (firsts : numbers_in (take (length c.sources) row.files) ≡ c.sources) where
  -- the files that go
  abbrev taken : List ListedFile
  taken = take (length c.sources) row.files

  abbrev left : List ListedFile
  left = without c.sources row.files

  abbrev rest : FileName → Bool
  rest name = list_any (IsNamed name) (at_number 1 table emptied ts)

  here : numbered 1 table ts ≡ Some row
  here = numbered_at table ts row some there

  listed_before : (name : FileName) → has_name ts name ≡ ((have_name taken name || have_name left name) || rest name)
  listed_before name =
      has_name_by name ts ∙ ap (list_any (IsNamed name)) (sym (same_rows 1 table ts)) ∙ any_at (IsNamed name) (λ (t : ListedDefinition). t) row (λ t. refl) table 1 ts here
      ∙ ap (λ (fs : List ListedFile). have_name fs name || rest name) (first_split low high c.sources row.files rise firsts) ∙ ap (λ b. b || rest name) (have_append taken left name)

  -- a name of those that go is listed,
  pub taken_listed : (name : FileName) → have_name taken name ≡ true → has_name ts name ≡ true
  taken_listed name is = listed_before name ∙ ap (λ b. (b || have_name left name) || rest name) is

  taken_number : (name : FileName) → have_name taken name ≡ true → is_among c.sources name.number ≡ true
  taken_number name is = sym (file_among taken c.sources name.number firsts) ∙ have_number taken name is

  -- has a lower number than the output,
  taken_below : (name : FileName) → have_name taken name ≡ true → name.number < c.output
  taken_below name is = below_all c.sources c.output name.number takes.below (taken_number name is)

  not_left : (name : FileName) → have_name taken name ≡ true → have_name left name ≡ false
  not_left name is = by (have_name left name) refl
    where
      by : (b : Bool) → have_name left name ≡ b → have_name left name ≡ false
      by false isnt = isnt
      by true also = absurd (clash (has_file left name.number) (have_number left name also) (none_below c.output high name.number left (omega (arith, taken_below name is)) (left_rise high c row.files takes)))

  row_has : (n : ℕ) → is_among c.sources n ≡ true → has_file row.files n ≡ true
  row_has n is = ap (λ (fs : List ListedFile). has_file fs n) (first_split low high c.sources row.files rise firsts) ∙ file_first taken left n (file_among taken c.sources n firsts ∙ is)

  -- no other table has a file of a source's number
  pub others_without : (n : ℕ) → is_among c.sources n ≡ true → list_any (λ (t : ListedDefinition). has_file t.files n) (at_number 1 table emptied ts) ≡ false
  others_without n is = one_owner (λ (t : ListedDefinition). has_file t.files n) row table (row_has n is) 1 ts here (apart n) (λ t. refl)

  not_rest : (name : FileName) → have_name taken name ≡ true → rest name ≡ false
  not_rest name is = by (rest name) refl
    where
      by : (b : Bool) → rest name ≡ b → rest name ≡ false
      by false isnt = isnt
      by true also = absurd (clash _ (named_numbers name (at_number 1 table emptied ts) also) (others_without name.number (taken_number name is)))

  -- a listed name of a source's number is one of those that go
  pub all_taken : (name : FileName) → is_among c.sources name.number ≡ true → has_name ts name ≡ true → have_name taken name ≡ true
  all_taken name of is = by (have_name taken name) (have_name left name) (rest name) refl refl (sym (listed_before name) ∙ is)
    where
      by : (t l r : Bool) → have_name left name ≡ l → rest name ≡ r → ((t || l) || r) ≡ true → t ≡ true
      by true l r l_is r_is there = refl
      by false true r l_is r_is there = absurd (clash (has_file left name.number) (have_number left name l_is) (none_below c.output high name.number left (omega (arith, below_all c.sources c.output name.number takes.below of)) (left_rise high c row.files takes)))
      by false false r l_is r_is there = absurd (clash _ (named_numbers name (at_number 1 table emptied ts) (r_is ∙ there)) (others_without name.number of))

  -- a file of the table goes, or stays
  pub goes_or_stays : (f : ListedFile) → Contains row.files f → (is_among c.sources f.number ≡ true) ⊎ Contains (without c.sources row.files) f
  goes_or_stays f has =
      ⊎_elim (λ of. inl (sym (file_among taken c.sources f.number firsts) ∙ All-contains (λ (g : ListedFile). has_file taken g.number ≡ true) taken f (All-from_recursion (λ (g : ListedFile). has_file taken g.number ≡ true) taken (own_files taken taken (λ n is. is))) of)) (λ stays. inr stays)
      (Contains-append_cases taken left f (subst (λ (fs : List ListedFile). Contains fs f) (first_split low high c.sources row.files rise firsts) has))

  -- **Afterwards the names of the output are listed, and of the others those that don't go.**
  pub names_compacted : (out : ListedFile) (since : ℕ) → out.number ≡ c.output → (name : FileName)
      → has_name (at_number 1 table (replaced c.sources (out ∷ []) since) ts) name ≡ (is_name_of out name || (has_name ts name && not (have_name taken name)))
  names_compacted out since is name =
      has_name_by name (at_number 1 table f ts) ∙ any_at (IsNamed name) f row (λ t. refl) table 1 ts here ∙ ap (λ (fs : List ListedFile). have_name fs name || rest name) (files_after high c row.files takes out is)
      ∙ by (is_name_of out name) (have_name taken name) (have_name left name) (rest name) (not_left name) (not_rest name) ∙ ap (λ b. is_name_of out name || (b && not (have_name taken name))) (sym (listed_before name))
    where
      f : ListedDefinition → ListedDefinition
      f = replaced c.sources (out ∷ []) since

      by : (o t l r : Bool) → (t ≡ true → l ≡ false) → (t ≡ true → r ≡ false) → ((o || l) || r) ≡ (o || (((t || l) || r) && not t))
      by true t l r one two = refl
      by false true l r one two = (λ i. one refl i || two refl i)
      by false false true r one two = refl
      by false false false true one two = refl
      by false false false false one two = refl
