-- One item of a list is changed.
use Rattle.std.proofs.Common.{◌≡◌, ℕ, zero, suc, ◌+◌, ◌<◌, ◌≤◌, List, [], ◌∷◌, length, take, map, Option, refl, sym, ap, subst, inl, inr, ⊎_elim, arith}
use Rattle.std.proofs.lemmas.List.Sums.{sum_by-cons}
use Rattle.std.specs.List.{AllByRecursion, slice_index_or, slice_set, sum_by}
use Rattle.sasi_host.specs.declared.name.FileName.{FileName}
use Rattle.sasi_host.specs.declared.damage.Damage.{Damage}
use Rattle.sasi_host.specs.Names.{Folder}
use Rattle.sasi_ranges.specs.EachStream.{SomeOpens, SomeShows}

pub all_as : {A : Type 0} (P Q : A → Type 0) (xs : List A) → ((x : A) → P x → Q x) → AllByRecursion P xs → AllByRecursion Q xs
all_as P Q [] more all = tt
all_as P Q (x ∷ xs) more all = (more x all.0, all_as P Q xs more all.1)

pub all_mapped : {A B : Type 0} (P : B → Type 0) (f : A → B) (xs : List A) → AllByRecursion (λ x. P (f x)) xs → AllByRecursion P (map f xs)
all_mapped P f [] all = tt
all_mapped P f (x ∷ xs) all = (all.0, all_mapped P f xs all.1)

pub mapped_all : {A B : Type 0} (P : B → Type 0) (f : A → B) (xs : List A) → AllByRecursion P (map f xs) → AllByRecursion (λ x. P (f x)) xs
mapped_all P f [] all = tt
mapped_all P f (x ∷ xs) all = (all.0, mapped_all P f xs all.1)

pub map_twice : {A B C : Type 0} (g : B → C) (f : A → B) (xs : List A) → map g (map f xs) ≡ map (λ x. g (f x)) xs
map_twice g f [] = refl
map_twice g f (x ∷ xs) = ap (λ l. g (f x) ∷ l) (map_twice g f xs)

module _ {A : Type 0} (d : A) where
  pub all_at : (P : A → Type 0) (xs : List A) (i : ℕ) → i < length xs → AllByRecursion P xs → P (slice_index_or xs i d)
  all_at P [] i lt all = absurd (omega (arith, lt))
  all_at P (x ∷ xs) zero lt all = all.0
  all_at P (x ∷ xs) (suc i) lt all = all_at P xs i (omega (arith, lt)) all.1

  pub all_set : (P Q : A → Type 0) (xs : List A) (i : ℕ) (new : A) → ((x : A) → P x → Q x) → Q new → AllByRecursion P xs → AllByRecursion Q (slice_set xs i new)
  all_set P Q [] i new more is all = tt
  all_set P Q (x ∷ xs) zero new more is all = (is, all_as P Q xs more all.1)
  all_set P Q (x ∷ xs) (suc i) new more is all = (more x all.0, all_set P Q xs i new more is all.1)

  pub map_set : {B : Type 0} (f : A → B) (xs : List A) (i : ℕ) (new : A) → i < length xs → f new ≡ f (slice_index_or xs i d) → map f (slice_set xs i new) ≡ map f xs
  map_set f [] i new lt is = refl
  map_set f (x ∷ xs) zero new lt is = ap (λ y. y ∷ map f xs) is
  map_set f (x ∷ xs) (suc i) new lt is = ap (λ l. f x ∷ l) (map_set f xs i new (omega (arith, lt)) is)

  -- what one item spends is spent of all
  pub sum_set : (f : A → ℕ) (xs : List A) (i : ℕ) (new : A) (before now : ℕ) → i < length xs → now + f new ≤ before + f (slice_index_or xs i d) → now + sum_by f (slice_set xs i new) ≤ before + sum_by f xs
  sum_set f [] i new before now lt spent = absurd (omega (arith, lt))
  sum_set f (x ∷ xs) zero new before now lt spent = omega (arith, spent, sum_by-cons f x xs, sum_by-cons f new xs)
  sum_set f (x ∷ xs) (suc i) new before now lt spent =
      omega (arith, sum_set f xs i new before now (omega (arith, lt)) spent, sum_by-cons f x xs, sum_by-cons f x (slice_set xs i new))

  pub sum_at : (f : A → ℕ) (xs : List A) (i : ℕ) → i < length xs → f (slice_index_or xs i d) ≤ sum_by f xs
  sum_at f [] i lt = absurd (omega (arith, lt))
  sum_at f (x ∷ xs) zero lt = omega (arith, sum_by-cons f x xs)
  sum_at f (x ∷ xs) (suc i) lt = omega (arith, sum_at f xs i (omega (arith, lt)), sum_by-cons f x xs)

  -- the first so many, and one more
  pub all_more : (P : A → Type 0) (xs : List A) (i n : ℕ) → i < length xs → n ≡ suc i → P (slice_index_or xs i d) → AllByRecursion P (take i xs) → AllByRecursion P (take n xs)
  all_more P xs i n lt next is all = subst (λ (k : ℕ). AllByRecursion P (take k xs)) (sym next) (go xs i lt is all)
    where
      go : (xs : List A) (i : ℕ) → i < length xs → P (slice_index_or xs i d) → AllByRecursion P (take i xs) → AllByRecursion P (take (suc i) xs)
      go [] i lt is all = absurd (omega (arith, lt))
      go (x ∷ xs) zero lt is all = (is, tt)
      go (x ∷ xs) (suc i) lt is all = (all.0, go xs i (omega (arith, lt)) is all.1)

  -- ---- streams

  pub open_at : (opens : A → FileName → Type 0) (xs : List A) (i : ℕ) (name : FileName) → i < length xs → opens (slice_index_or xs i d) name → SomeOpens opens xs name
  open_at opens [] i name lt is = absurd (omega (arith, lt))
  open_at opens (x ∷ xs) zero name lt is = inl is
  open_at opens (x ∷ xs) (suc i) name lt is = inr (open_at opens xs i name (omega (arith, lt)) is)

  pub open_set : (opens : A → FileName → Type 0) (xs : List A) (i : ℕ) (new : A) (name : FileName) → (opens new name → opens (slice_index_or xs i d) name) → SomeOpens opens (slice_set xs i new) name → SomeOpens opens xs name
  open_set opens [] i new name fewer is = absurd is
  open_set opens (x ∷ xs) zero new name fewer is = ⊎_elim (λ here. inl (fewer here)) (λ later. inr later) is
  open_set opens (x ∷ xs) (suc i) new name fewer is = ⊎_elim (λ here. inl here) (λ later. inr (open_set opens xs i new name fewer later)) is

  pub show_at : (shows : A → Option Folder → Damage → Type 0) (files : Option Folder) (xs : List A) (i : ℕ) (damage : Damage) → i < length xs → shows (slice_index_or xs i d) files damage → SomeShows shows files xs damage
  show_at shows files [] i damage lt is = absurd (omega (arith, lt))
  show_at shows files (x ∷ xs) zero damage lt is = inl is
  show_at shows files (x ∷ xs) (suc i) damage lt is = inr (show_at shows files xs i damage (omega (arith, lt)) is)

  pub show_set : (shows : A → Option Folder → Damage → Type 0) (old new : Option Folder) (xs : List A) (i : ℕ) (one : A) (damage : Damage) → new ≡ old
      → (shows one new damage → shows (slice_index_or xs i d) old damage) → SomeShows shows new (slice_set xs i one) damage → SomeShows shows old xs damage
  show_set shows old new [] i one damage same fewer is = absurd is
  show_set shows old new (x ∷ xs) zero one damage same fewer is = ⊎_elim (λ here. inl (fewer here)) (λ later. inr (subst (λ (o : Option Folder). SomeShows shows o xs damage) same later)) is
  show_set shows old new (x ∷ xs) (suc i) one damage same fewer is = ⊎_elim (λ here. inl (subst (λ (o : Option Folder). shows x o damage) same here)) (λ later. inr (show_set shows old new xs i one damage same fewer later)) is
