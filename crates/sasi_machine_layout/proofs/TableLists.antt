-- The tables of a layout, by their definitions, the numbers of their indexes, and the rest.
use Rattle.std.proofs.Common.{◌≡◌, ◌+◌, ◌<◌, ℕ, zero, suc, true, false, cond, List, [], ◌∷◌, ◌++◌, get_or, length, map, set, slice_get, Some, refl, sym, ap, subst, ◌∙◌, arith}
use Rattle.std.specs.Prelude.{nat_eq}
use Rattle.std.specs.List.{AllByRecursion}
use Rattle.std.proofs.lemmas.Bool.Decides.{nat_tests}
use Rattle.sasi_model.specs.Changes.{at_number}
use Rattle.sasi_model.specs.State.{Definition}
use Rattle.sasi_manifest.proofs.Replacing.{unchanged}
use Rattle.sasi_layout.specs.Layout.{TableParts, numbered}
use Rattle.sasi_layout.specs.Moves.{floor_without, lesser}
use Rattle.sasi_machine_layout.specs.Contents.{AreHeld, table_with, tables_of}
use Rattle.sasi_machine_layout.specs.Draws.{floor_of}
use Rattle.sasi_machine_layout.specs.declared.contents.TableContents.{TableContents}

-- ---- one of them

-- the definition and the numbers of the table at a position
pub record HasAt (ds : List Definition) (ns : List (List ℕ)) (ts : List TableContents) (at : ℕ) (t : TableContents) : Type 0 where
  pub definition : Definition
  pub numbers : List ℕ
  pub defined : slice_get ds at ≡ Some definition
  pub numbered : slice_get ns at ≡ Some numbers
  pub there : slice_get (tables_of ds ns ts) at ≡ Some (table_with definition numbers t)

pub has_at : (ds : List Definition) (ns : List (List ℕ)) (ts : List TableContents) (at : ℕ) (t : TableContents) → AreHeld ds ns ts → slice_get ts at ≡ Some t → HasAt ds ns ts at t
has_at [] [] [] at t held got = cc
has_at [] [] (x ∷ ts) at t held got = absurd held
has_at [] (n ∷ ns) ts at t held got = absurd held
has_at (d ∷ ds) [] ts at t held got = absurd held
has_at (d ∷ ds) (n ∷ ns) [] at t held got = absurd held
has_at (d ∷ ds) (n ∷ ns) (x ∷ ts) zero t held got =
    let same : x ≡ t = (let e : Some x ≡ Some t = got in cc) in
    record { definition = d; numbers = n; defined = refl; numbered = refl; there = ap (λ (t : TableContents). Some (table_with d n t)) same }
has_at (d ∷ ds) (n ∷ ns) (x ∷ ts) (suc at) t held got =
    let rest = has_at ds ns ts at t held got in
    record { definition = rest.definition; numbers = rest.numbers; defined = rest.defined; numbered = rest.numbered; there = rest.there }

-- the item of a number stands before it
pub numbered_at : {A : Type 0} (k at number : ℕ) (xs : List A) (x : A) → number ≡ k + at → slice_get xs at ≡ Some x → numbered k number xs ≡ Some x
numbered_at k at number [] x is got = cc
numbered_at {A} k zero number (y ∷ xs) x is got =
    let here : nat_eq k number ≡ true = grind (arith, nat_tests, is) in
    ap (λ b. cond b (Some y) (numbered (suc k) number xs)) here ∙ got
numbered_at {A} k (suc at) number (y ∷ xs) x is got =
    let other : nat_eq k number ≡ false = grind (arith, nat_tests, is) in
    ap (λ b. cond b (Some y) (numbered (suc k) number xs)) other ∙ numbered_at (suc k) at number xs x (omega (arith, is)) got

-- as many tables as definitions
pub as_many : (ds : List Definition) (ns : List (List ℕ)) (ts : List TableContents) → AreHeld ds ns ts → length ts ≡ length ds
as_many [] [] [] held = refl
as_many [] [] (x ∷ ts) held = absurd held
as_many [] (n ∷ ns) ts held = absurd held
as_many (d ∷ ds) [] ts held = absurd held
as_many (d ∷ ds) (n ∷ ns) [] held = absurd held
as_many (d ∷ ds) (n ∷ ns) (x ∷ ts) held = ap (λ n. suc n) (as_many ds ns ts held)

pub parts_as_many : (ds : List Definition) (ns : List (List ℕ)) (ts : List TableContents) → AreHeld ds ns ts → length (tables_of ds ns ts) ≡ length ds
parts_as_many [] [] [] held = refl
parts_as_many [] [] (x ∷ ts) held = absurd held
parts_as_many [] (n ∷ ns) ts held = absurd held
parts_as_many (d ∷ ds) [] ts held = absurd held
parts_as_many (d ∷ ds) (n ∷ ns) [] held = absurd held
parts_as_many (d ∷ ds) (n ∷ ns) (x ∷ ts) held = ap (λ n. suc n) (parts_as_many ds ns ts held)

pub definitions_in : (ds : List Definition) (ns : List (List ℕ)) (ts : List TableContents) → AreHeld ds ns ts → map (λ (t : TableParts). t.definition) (tables_of ds ns ts) ≡ ds
definitions_in [] [] [] held = refl
definitions_in [] [] (x ∷ ts) held = absurd held
definitions_in [] (n ∷ ns) ts held = absurd held
definitions_in (d ∷ ds) [] ts held = absurd held
definitions_in (d ∷ ds) (n ∷ ns) [] held = absurd held
definitions_in (d ∷ ds) (n ∷ ns) (x ∷ ts) held = ap (λ (l : List Definition). d ∷ l) (definitions_in ds ns ts held)

-- ---- one is changed

-- in what it has beside its definition
pub set_at : (f : TableParts → TableParts) (ds : List Definition) (ns : List (List ℕ)) (ts : List TableContents) (k at number : ℕ) (t new : TableContents) → AreHeld ds ns ts → slice_get ts at ≡ Some t → number ≡ k + at
    → ((d : Definition) (n : List ℕ) → slice_get ds at ≡ Some d → slice_get ns at ≡ Some n → f (table_with d n t) ≡ table_with d n new) → tables_of ds ns (set ts at new) ≡ at_number k number f (tables_of ds ns ts)
set_at f [] [] [] k at number t new held got is changed = cc
set_at f [] [] (x ∷ ts) k at number t new held got is changed = absurd held
set_at f [] (n ∷ ns) ts k at number t new held got is changed = absurd held
set_at f (d ∷ ds) [] ts k at number t new held got is changed = absurd held
set_at f (d ∷ ds) (n ∷ ns) [] k at number t new held got is changed = absurd held
set_at f (d ∷ ds) (n ∷ ns) (x ∷ ts) k zero number t new held got is changed =
    let same : x ≡ t = (let e : Some x ≡ Some t = got in cc) in
    let here : nat_eq k number ≡ true = grind (arith, nat_tests, is) in
    let rest = tables_of ds ns ts in
    let one : f (table_with d n x) ≡ table_with d n new = ap (λ (t : TableContents). f (table_with d n t)) same ∙ changed d n refl refl in
    ap (λ (p : TableParts). p ∷ rest) (sym one)
    ∙ ap (λ (l : List TableParts). f (table_with d n x) ∷ l) (sym (unchanged (suc k) number f rest (omega (arith, is))))
    ∙ ap (λ b. cond b (f (table_with d n x)) (table_with d n x) ∷ at_number (suc k) number f rest) (sym here)
set_at f (d ∷ ds) (n ∷ ns) (x ∷ ts) k (suc at) number t new held got is changed =
    let other : nat_eq k number ≡ false = grind (arith, nat_tests, is) in
    ap (λ (l : List TableParts). table_with d n x ∷ l) (set_at f ds ns ts (suc k) at number t new held got (omega (arith, is)) changed)
    ∙ ap (λ b. cond b (f (table_with d n x)) (table_with d n x) ∷ at_number (suc k) number f (tables_of ds ns ts)) (sym other)

pub held_set : (ds : List Definition) (ns : List (List ℕ)) (ts : List TableContents) (at : ℕ) (new : TableContents) → AreHeld ds ns ts → AreHeld ds ns (set ts at new)
held_set [] [] [] at new held = tt
held_set [] [] (x ∷ ts) at new held = absurd held
held_set [] (n ∷ ns) ts at new held = absurd held
held_set (d ∷ ds) [] ts at new held = absurd held
held_set (d ∷ ds) (n ∷ ns) [] at new held = absurd held
held_set (d ∷ ds) (n ∷ ns) (x ∷ ts) zero new held = held
held_set (d ∷ ds) (n ∷ ns) (x ∷ ts) (suc at) new held = held_set ds ns ts at new held

-- in its definition
module _ (f : Definition → Definition) (g : List ℕ → List ℕ) (h : TableParts → TableParts) where
  pub defined_at : ((d : Definition) (n : List ℕ) (t : TableContents) → h (table_with d n t) ≡ table_with (f d) (g n) t) → (k number : ℕ) (ds : List Definition) (ns : List (List ℕ)) (ts : List TableContents) → AreHeld ds ns ts
      → tables_of (at_number k number f ds) (at_number k number g ns) ts ≡ at_number k number h (tables_of ds ns ts)
  defined_at same k number [] [] [] held = refl
  defined_at same k number [] [] (x ∷ ts) held = absurd held
  defined_at same k number [] (n ∷ ns) ts held = absurd held
  defined_at same k number (d ∷ ds) [] ts held = absurd held
  defined_at same k number (d ∷ ds) (n ∷ ns) [] held = absurd held
  defined_at same k number (d ∷ ds) (n ∷ ns) (x ∷ ts) held =
      let rest = defined_at same (suc k) number ds ns ts held in
      elim (nat_eq k number) as (λ b. table_with (cond b (f d) d) (cond b (g n) n) x ∷ tables_of (at_number (suc k) number f ds) (at_number (suc k) number g ns) ts ≡ cond b (h (table_with d n x)) (table_with d n x) ∷ at_number (suc k) number h (tables_of ds ns ts)) [
        | true ↦ λ i. sym (same d n x) i ∷ rest i
        | false ↦ ap (λ (l : List TableParts). table_with d n x ∷ l) rest
      ]

pub held_defined : (f : Definition → Definition) (g : List ℕ → List ℕ) (k number : ℕ) (ds : List Definition) (ns : List (List ℕ)) (ts : List TableContents) → AreHeld ds ns ts → AreHeld (at_number k number f ds) (at_number k number g ns) ts
held_defined f g k number [] [] [] held = tt
held_defined f g k number [] [] (x ∷ ts) held = absurd held
held_defined f g k number [] (n ∷ ns) ts held = absurd held
held_defined f g k number (d ∷ ds) [] ts held = absurd held
held_defined f g k number (d ∷ ds) (n ∷ ns) [] held = absurd held
held_defined f g k number (d ∷ ds) (n ∷ ns) (x ∷ ts) held = held_defined f g (suc k) number ds ns ts held

-- ---- there is one more

pub push_table : (ds : List Definition) (ns : List (List ℕ)) (ts : List TableContents) (d : Definition) (n : List ℕ) (t : TableContents) → AreHeld ds ns ts
    → tables_of (ds ++ d ∷ []) (ns ++ n ∷ []) (ts ++ t ∷ []) ≡ tables_of ds ns ts ++ table_with d n t ∷ []
push_table [] [] [] d n t held = refl
push_table [] [] (x ∷ ts) d n t held = absurd held
push_table [] (m ∷ ns) ts d n t held = absurd held
push_table (e ∷ ds) [] ts d n t held = absurd held
push_table (e ∷ ds) (m ∷ ns) [] d n t held = absurd held
push_table (e ∷ ds) (m ∷ ns) (x ∷ ts) d n t held = ap (λ (l : List TableParts). table_with e m x ∷ l) (push_table ds ns ts d n t held)

pub held_push : (ds : List Definition) (ns : List (List ℕ)) (ts : List TableContents) (d : Definition) (n : List ℕ) (t : TableContents) → AreHeld ds ns ts → AreHeld (ds ++ d ∷ []) (ns ++ n ∷ []) (ts ++ t ∷ [])
held_push [] [] [] d n t held = tt
held_push [] [] (x ∷ ts) d n t held = absurd held
held_push [] (m ∷ ns) ts d n t held = absurd held
held_push (e ∷ ds) [] ts d n t held = absurd held
held_push (e ∷ ds) (m ∷ ns) [] d n t held = absurd held
held_push (e ∷ ds) (m ∷ ns) (x ∷ ts) d n t held = held_push ds ns ts d n t held

-- ---- the floor

pub floor_is : (k table last : ℕ) (ds : List Definition) (ns : List (List ℕ)) (ts : List TableContents) → AreHeld ds ns ts → floor_of k table last (map (λ (t : TableContents). t.first) ts) ≡ floor_without k table last (tables_of ds ns ts)
floor_is k table last [] [] [] held = refl
floor_is k table last [] [] (x ∷ ts) held = absurd held
floor_is k table last [] (n ∷ ns) ts held = absurd held
floor_is k table last (d ∷ ds) [] ts held = absurd held
floor_is k table last (d ∷ ds) (n ∷ ns) [] held = absurd held
floor_is k table last (d ∷ ds) (n ∷ ns) (x ∷ ts) held =
    ap (λ (floor : ℕ). cond (nat_eq k table) floor (lesser x.first floor)) (floor_is (suc k) table last ds ns ts held)

-- ---- an item

-- there is an item at each position
pub item_at : {A : Type 0} (xs : List A) (at : ℕ) → at < length xs → (x : A) × (slice_get xs at ≡ Some x)
item_at [] at below = absurd (omega (arith, below))
item_at (x ∷ xs) zero below = (x, refl)
item_at (x ∷ xs) (suc at) below = item_at xs at (omega (arith, below))

pub index_got : {A : Type 0} (xs : List A) (at : ℕ) (x : A) → at < length xs → x ≡ get_or xs at x → slice_get xs at ≡ Some x
index_got [] at x below is = absurd (omega (arith, below))
index_got (y ∷ xs) zero x below is = ap Some (sym is)
index_got (y ∷ xs) (suc at) x below is = index_got xs at x (omega (arith, below)) is

-- a fact on all items, of one of them
pub all_at : {A : Type 0} (P : A → Type 0) (at : ℕ) (xs : List A) (x : A) → AllByRecursion P xs → slice_get xs at ≡ Some x → P x
all_at P at [] x all there = cc
all_at P zero (z ∷ xs) x all there = (let same : z ≡ x = (let e : Some z ≡ Some x = there in cc) in subst P same all.0)
all_at P (suc at) (z ∷ xs) x all there = all_at P at xs x all.1 there
