-- The tables of a store in memory, by their numbers.
use Rattle.std.proofs.Common.{◌≡◌, ℕ, zero, suc, ◌+◌, ◌-◌, ◌<◌, true, false, cond, nat_eq, List, [], ◌∷◌, ◌++◌, length, map, set, get_or, slice_get, Some, refl, sym, ap, subst, ◌∙◌, arith}
use Rattle.std.proofs.lemmas.Bool.Decides.{nat_tests}
use Rattle.std.specs.List.{AllByRecursion}
use Rattle.sasi_types.specs.declared.partitioner.Partitioner.{Partitioner}
use Rattle.sasi_cells.specs.declared.mutation.Mutation.{Mutation}
use Rattle.sasi_host.specs.Names.{Folder}
use Rattle.sasi_layout.specs.Layout.{TableParts, bare_table}
use Rattle.sasi_layout.specs.Serving.{AreTablesReady, IsTableReady, TableInMemory}
use Rattle.sasi_layout.specs.Shape.{AreShaped, HasFile}
use Rattle.sasi_manifest.specs.Listings.{at_number}
use Rattle.sasi_manifest.proofs.Replacing.{At, unchanged}
use Rattle.sasi_model.specs.State.{Definition}
use Rattle.sasi_manifest.specs.declared.listing.Listing.{Listing}
use Rattle.sasi_manifest.specs.ListedDefinition.{ListedDefinition}
use Rattle.sasi_recover.specs.ReplayState.{AreMaps, AreMapsFrom}
use Rattle.sasi_tables.specs.Held.{HeldTable, in_memory, opened_held}
use Rattle.sasi_recover.specs.OpenedFolder.{opened_table}
use Rattle.sasi_recover.specs.declared.opened.TableMap.{TableMap}
use Rattle.sasi_memtable.specs.MemtableView.{MemtableView}
use Rattle.sasi_schema.specs.Numbers.{RisesFrom}
use Rattle.sasi_tables.specs.TablesView.{AreTables}

-- ---- a list with one item set

module _ {A B : Type 0} (f : A → B) (g : B → B) where
  -- setting an item changes the one with its number
  set_behind : (n at : ℕ) (xs : List A) (x y : A) → slice_get xs at ≡ Some x → f y ≡ g (f x) → map f (set xs at y) ≡ at_number n (n + at) g (map f xs)
  set_behind n at [] x y there is = cc
  set_behind n zero (z ∷ xs) x y there is =
      let same : z ≡ x = cc in
      let here : nat_eq n (n + 0) ≡ true = grind (arith, nat_tests) in
      let first : f y ≡ g (f z) = is ∙ ap (λ k. g (f k)) (sym same) in
      let rest : map f xs ≡ at_number (suc n) (n + 0) g (map f xs) = sym (unchanged (suc n) (n + 0) g (map f xs) (omega arith)) in
      ap (λ k. k ∷ map f xs) first ∙ ap (λ (l : List B). g (f z) ∷ l) rest ∙ sym (ap (λ b. cond b (g (f z)) (f z) ∷ at_number (suc n) (n + 0) g (map f xs)) here)
  set_behind n (suc at) (z ∷ xs) x y there is =
      let other : nat_eq n (n + suc at) ≡ false = grind (arith, nat_tests) in
      let number : suc n + at ≡ n + suc at = omega arith in
      ap (λ (l : List B). f z ∷ l) (set_behind (suc n) at xs x y there is ∙ ap (λ (k : ℕ). at_number (suc n) k g (map f xs)) number)
      ∙ sym (ap (λ b. cond b (g (f z)) (f z) ∷ at_number (suc n) (n + suc at) g (map f xs)) other)

  pub set_numbered : (number : ℕ) (xs : List A) (x y : A) → 0 < number → slice_get xs (number - 1) ≡ Some x → f y ≡ g (f x) → map f (set xs (number - 1) y) ≡ at_number 1 number g (map f xs)
  set_numbered number xs x y some there is =
      let e : 1 + (number - 1) ≡ number = omega (arith, some) in
      set_behind 1 (number - 1) xs x y there is ∙ ap (λ (k : ℕ). at_number 1 k g (map f xs)) e

-- what is seen of the items stays, where it is the same of the new one
pub unseen_set : {A B : Type 0} (f : A → B) (at : ℕ) (xs : List A) (x y : A) → slice_get xs at ≡ Some x → f y ≡ f x → map f (set xs at y) ≡ map f xs
unseen_set f at [] x y there is = cc
unseen_set f zero (z ∷ xs) x y there is = let same : z ≡ x = cc in ap (λ k. k ∷ map f xs) (is ∙ ap f (sym same))
unseen_set f (suc at) (z ∷ xs) x y there is = ap (λ (l : List _). f z ∷ l) (unseen_set f at xs x y there is)

pub length_set : {A : Type 0} (xs : List A) (at : ℕ) (y : A) → length (set xs at y) ≡ length xs
length_set [] at y = refl
length_set (x ∷ xs) zero y = refl
length_set (x ∷ xs) (suc at) y = omega (arith, length_set xs at y)

-- what all have, they still have
pub all_set : {A : Type 0} (P : A → Type 0) (at : ℕ) (xs : List A) (y : A) → AllByRecursion P xs → P y → AllByRecursion P (set xs at y)
all_set P at [] y all is = tt
all_set P zero (z ∷ xs) y all is = (is, all.1)
all_set P (suc at) (z ∷ xs) y all is = (all.0, all_set P at xs y all.1 is)

pub all_at : {A : Type 0} (P : A → Type 0) (at : ℕ) (xs : List A) (x : A) → AllByRecursion P xs → slice_get xs at ≡ Some x → P x
all_at P at [] x all there = cc
all_at P zero (z ∷ xs) x all there = let same : z ≡ x = cc in subst P same all.0
all_at P (suc at) (z ∷ xs) x all there = all_at P at xs x all.1 there

pub all_push : {A : Type 0} (P : A → Type 0) (xs : List A) (x : A) → AllByRecursion P xs → P x → AllByRecursion P (xs ++ x ∷ [])
all_push P [] x all is = (is, tt)
all_push P (y ∷ xs) x all is = (all.0, all_push P xs x all.1 is)

-- an item of which something is seen
pub seen_there : {A B : Type 0} (f : A → B) (xs : List A) (at : ℕ) (y : B) → slice_get (map f xs) at ≡ Some y → (x : A) × (slice_get xs at ≡ Some x)
seen_there f [] at y there = cc
seen_there f (x ∷ xs) zero y there = (x, refl)
seen_there f (x ∷ xs) (suc at) y there = seen_there f xs at y there

pub seen_as : {A B : Type 0} (f : A → B) (xs : List A) (at : ℕ) (y : B) → slice_get (map f xs) at ≡ Some y → (x : A) × (slice_get xs at ≡ Some x) × (f x ≡ y)
seen_as f [] at y there = cc
seen_as f (x ∷ xs) zero y there = let one : f x ≡ y = cc in (x, refl, one)
seen_as f (x ∷ xs) (suc at) y there = seen_as f xs at y there

pub map_there : {A B : Type 0} (f : A → B) (xs : List A) (at : ℕ) (x : A) → slice_get xs at ≡ Some x → slice_get (map f xs) at ≡ Some (f x)
map_there f [] at x there = cc
map_there f (z ∷ xs) zero x there = let same : z ≡ x = cc in ap (λ k. Some (f k)) same
map_there f (z ∷ xs) (suc at) x there = map_there f xs at x there

pub there_inside : {A : Type 0} (xs : List A) (at : ℕ) (x : A) → slice_get xs at ≡ Some x → at < length xs
there_inside [] at x there = cc
there_inside (y ∷ xs) zero x there = omega arith
there_inside (y ∷ xs) (suc at) x there = omega (arith, there_inside xs at x there)

-- an item inside
pub inside_there : {A : Type 0} (xs : List A) (at : ℕ) → at < length xs → (x : A) × (slice_get xs at ≡ Some x)
inside_there [] at below = absurd (omega (arith, below))
inside_there (x ∷ xs) zero below = (x, refl)
inside_there (x ∷ xs) (suc at) below = inside_there xs at (omega (arith, below))

-- the item that an index gives
pub index_got : {A : Type 0} (xs : List A) (at : ℕ) (x : A) → at < length xs → x ≡ get_or xs at x → slice_get xs at ≡ Some x
index_got [] at x below is = absurd (omega (arith, below))
index_got (y ∷ xs) zero x below is = ap Some (sym is)
index_got (y ∷ xs) (suc at) x below is = index_got xs at x (omega (arith, below)) is

-- ---- numbers

pub rises_push : (n : ℕ) (numbers : List ℕ) (last : ℕ) → RisesFrom n numbers → last ≡ n + length numbers → RisesFrom n (numbers ++ last ∷ [])
rises_push n [] last rises is = (omega (arith, is), tt)
rises_push n (m ∷ numbers) last rises is = (rises.0, rises_push (suc n) numbers last rises.1 (omega (arith, is)))

-- ---- tables in memory, with their definitions

module _ (p : Partitioner) where
  -- as many as there are definitions
  pub as_many : (floor last : ℕ) (ds : List Definition) (ts : List TableInMemory) → AreTablesReady p floor last ds ts → length ts ≡ length ds
  as_many floor last [] [] ready = refl
  as_many floor last [] (t ∷ ts) ready = absurd ready
  as_many floor last (d ∷ ds) [] ready = absurd ready
  as_many floor last (d ∷ ds) (t ∷ ts) ready = omega (arith, as_many floor last ds ts ready.1)

  -- that of a number
  pub ready_at : (floor last at : ℕ) (ds : List Definition) (ts : List TableInMemory) (d : Definition) (t : TableInMemory) → AreTablesReady p floor last ds ts → slice_get ds at ≡ Some d → slice_get ts at ≡ Some t → IsTableReady p floor last d t
  ready_at floor last at [] ts d t ready defined there = cc
  ready_at floor last at (x ∷ ds) [] d t ready defined there = cc
  ready_at floor last zero (x ∷ ds) (y ∷ ts) d t ready defined there =
      let one : x ≡ d = cc in
      let two : y ≡ t = cc in
      subst (λ (d : Definition). IsTableReady p floor last d t) one (subst (IsTableReady p floor last x) two ready.0)
  ready_at floor last (suc at) (x ∷ ds) (y ∷ ts) d t ready defined there = ready_at floor last at ds ts d t ready.1 defined there

  -- that of a definition
  pub ready_there : (floor last at : ℕ) (ds : List Definition) (ts : List TableInMemory) (d : Definition) → AreTablesReady p floor last ds ts → slice_get ds at ≡ Some d → (t : TableInMemory) × IsTableReady p floor last d t
  ready_there floor last at [] ts d ready defined = cc
  ready_there floor last at (x ∷ ds) [] d ready defined = absurd ready
  ready_there floor last zero (x ∷ ds) (y ∷ ts) d ready defined = let one : x ≡ d = cc in (y, subst (λ (d : Definition). IsTableReady p floor last d y) one ready.0)
  ready_there floor last (suc at) (x ∷ ds) (y ∷ ts) d ready defined = ready_there floor last at ds ts d ready.1 defined

  -- the definition of one
  pub ready_in_memory : (floor last at : ℕ) (ds : List Definition) (ts : List TableInMemory) (t : TableInMemory) → AreTablesReady p floor last ds ts → slice_get ts at ≡ Some t → (d : Definition) × IsTableReady p floor last d t
  ready_in_memory floor last at ds [] t ready there = cc
  ready_in_memory floor last at [] (x ∷ ts) t ready there = absurd ready
  ready_in_memory floor last zero (d ∷ ds) (x ∷ ts) t ready there = let one : x ≡ t = cc in (d, subst (IsTableReady p floor last d) one ready.0)
  ready_in_memory floor last (suc at) (d ∷ ds) (x ∷ ts) t ready there = ready_in_memory floor last at ds ts t ready.1 there

  -- one of them changes, and the others stay ready
  pub ready_changed : (P : Definition → Type 0) (f : TableInMemory → TableInMemory) (floor last new_floor new_last : ℕ)
      → ((d : Definition) (t : TableInMemory) → P d → IsTableReady p floor last d t → IsTableReady p new_floor new_last d (f t))
      → ((d : Definition) (t : TableInMemory) → IsTableReady p floor last d t → IsTableReady p new_floor new_last d t)
      → (n number : ℕ) (ds : List Definition) (ts : List TableInMemory) → At n number P ds → AreTablesReady p floor last ds ts → AreTablesReady p new_floor new_last ds (at_number n number f ts)
  ready_changed P f floor last new_floor new_last changed kept n number [] [] at ready = tt
  ready_changed P f floor last new_floor new_last changed kept n number [] (t ∷ ts) at ready = absurd ready
  ready_changed P f floor last new_floor new_last changed kept n number (d ∷ ds) [] at ready = absurd ready
  ready_changed P f floor last new_floor new_last changed kept n number (d ∷ ds) (t ∷ ts) at ready =
      let rest = ready_changed P f floor last new_floor new_last changed kept (suc n) number ds ts at.1 ready.1 in
      elim (nat_eq n number) as (λ b. (b ≡ true → P d) → IsTableReady p new_floor new_last d (cond b (f t) t) × AreTablesReady p new_floor new_last ds (at_number (suc n) number f ts)) [
        | true ↦ λ here. (changed d t (here refl) ready.0, rest)
        | false ↦ λ here. (kept d t ready.0, rest)
      ] at.0

  -- one more
  pub ready_push : (floor last : ℕ) (ds : List Definition) (ts : List TableInMemory) (d : Definition) (t : TableInMemory) → AreTablesReady p floor last ds ts → IsTableReady p floor last d t → AreTablesReady p floor last (ds ++ d ∷ []) (ts ++ t ∷ [])
  ready_push floor last [] [] d t ready is = (is, tt)
  ready_push floor last [] (y ∷ ts) d t ready is = absurd ready
  ready_push floor last (x ∷ ds) [] d t ready is = absurd ready
  ready_push floor last (x ∷ ds) (y ∷ ts) d t ready is = (ready.0, ready_push floor last ds ts d t ready.1 is)

-- ---- what the item of a number has

at_past : {A : Type 0} (P : A → Type 0) (n number : ℕ) (xs : List A) → number < n → At n number P xs
at_past P n number [] past = tt
at_past P n number (x ∷ xs) past = ((λ is. let same : n ≡ number = grind (arith, nat_tests) in absurd (omega (arith, same, past))), at_past P (suc n) number xs (omega (arith, past)))

at_behind : {A : Type 0} (P : A → Type 0) (n at : ℕ) (xs : List A) (x : A) → slice_get xs at ≡ Some x → P x → At n (n + at) P xs
at_behind P n at [] x there is = cc
at_behind P n zero (z ∷ xs) x there is = let same : z ≡ x = cc in ((λ _. subst P (sym same) is), at_past P (suc n) (n + 0) xs (omega arith))
at_behind P n (suc at) (z ∷ xs) x there is =
    let number : suc n + at ≡ n + suc at = omega arith in
    ((λ here. let same : n ≡ n + suc at = grind (arith, nat_tests) in absurd (omega (arith, same))), subst (λ (k : ℕ). At (suc n) k P xs) number (at_behind P (suc n) at xs x there is))

pub at_numbered : {A : Type 0} (P : A → Type 0) (number : ℕ) (xs : List A) (x : A) → 0 < number → slice_get xs (number - 1) ≡ Some x → P x → At 1 number P xs
at_numbered P number xs x some there is =
    let e : 1 + (number - 1) ≡ number = omega (arith, some) in
    subst (λ (k : ℕ). At 1 k P xs) e (at_behind P 1 (number - 1) xs x there is)

-- ---- the memtables of an opened folder

opened_numbers : (p : Partitioner) (floor last n : ℕ) (ts : List ListedDefinition) (xs : List TableMap) → AreMapsFrom p floor last n ts xs → RisesFrom n (map (λ (t : HeldTable). t.number) (map opened_held xs))
opened_numbers p floor last n [] [] maps = tt
opened_numbers p floor last n [] (x ∷ xs) maps = absurd maps
opened_numbers p floor last n (t ∷ ts) [] maps = absurd maps
opened_numbers p floor last n (t ∷ ts) (x ∷ xs) maps = (maps.0.number_is, opened_numbers p floor last (suc n) ts xs maps.1)

opened_under : (p : Partitioner) (floor last n : ℕ) (ts : List ListedDefinition) (xs : List TableMap) → AreMapsFrom p floor last n ts xs → AllByRecursion (λ (t : HeldTable). t.memtable.partitioner ≡ p) (map opened_held xs)
opened_under p floor last n [] [] maps = tt
opened_under p floor last n [] (x ∷ xs) maps = absurd maps
opened_under p floor last n (t ∷ ts) [] maps = absurd maps
opened_under p floor last n (t ∷ ts) (x ∷ xs) maps = (maps.0.under, opened_under p floor last (suc n) ts xs maps.1)

opened_frozen : (p : Partitioner) (xs : List TableMap) → AllByRecursion (λ (t : HeldTable). AllByRecursion (λ (m : MemtableView). m.partitioner ≡ p) t.frozen) (map opened_held xs)
opened_frozen p [] = tt
opened_frozen p (x ∷ xs) = (tt, opened_frozen p xs)

pub opened_tables : (listing : Listing) (xs : List TableMap) → AreMaps listing xs → AreTables listing.partitioner (map opened_held xs)
opened_tables listing xs maps = record {
  numbers = opened_numbers listing.partitioner listing.floor listing.last 1 listing.tables xs maps;
  under = opened_under listing.partitioner listing.floor listing.last 1 listing.tables xs maps;
  frozen = opened_frozen listing.partitioner xs;
}

-- what is in memory of them
pub opened_memory : (xs : List TableMap) → map in_memory (map opened_held xs) ≡ map opened_table xs
opened_memory [] = refl
opened_memory (x ∷ xs) = ap (λ (l : List TableInMemory). opened_table x ∷ l) (opened_memory xs)

-- ---- the files of a table

-- where the folder has the shape of a layout, it has the files of each table
pub shaped_at : (folder : Folder) (p : Partitioner) (floor n : ℕ) (logs : List (List Mutation)) (ts : List TableParts) (at : ℕ) (t : TableParts) → AreShaped folder p floor n logs (map bare_table ts) → slice_get ts at ≡ Some t → AllByRecursion (HasFile folder p t.definition t.numbers) t.files
shaped_at folder p floor n logs [] at t are there = cc
shaped_at folder p floor n logs (x ∷ ts) zero t are there = let same : x ≡ t = cc in subst (λ (t : TableParts). AllByRecursion (HasFile folder p t.definition t.numbers) t.files) same are.0.files
shaped_at folder p floor n logs (x ∷ ts) (suc at) t are there = shaped_at folder p floor (suc n) logs ts at t are.1 there
