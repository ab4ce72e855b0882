-- A list of items is read item by item.
use Rattle.std.proofs.Common.{◌≡◌, ℕ, zero, suc, List, [], ◌∷◌, ◌++◌, refl, sym, ap, ◌∙◌, append_assoc, append-nil, subst}
use Rattle.sasi_fields.specs.Reading.{Reading}
use Rattle.sasi_formats.specs.Reader.{Outcome, Got, Failed, Corruption, ◌>>=◌, outcome_as, read_items}
use Rattle.sasi_formats.specs.declared.fault.FormatFault.{FormatFault}
use Rattle.sasi_formats.specs.declared.fault.FormatFault.TheVariants.{OutOfMemory, Short, Long, Broken}
use Rattle.sasi_formats.specs.Gives.{FailsWith}

abbrev pub Item : Type 0 → Type 0
Item A = List A → Reading → Outcome A

-- with these items before
abbrev pub all_before : {A : Type 0} → List A → Outcome (List A) → Outcome (List A)
all_before items r = outcome_as (λ others. items ++ others) r

-- all the items are those so far and those that are left
abbrev pub SoFar : {A : Type 0} → Item A → ℕ → Reading → ℕ → List A → Reading → Type 0
SoFar item count start left items s = read_items item count [] start ≡ all_before items (read_items item left items s)

nothing_before : {A : Type 0} (r : Outcome (List A)) → r ≡ all_before [] r
nothing_before (Got others behind) = refl
nothing_before (Failed f) = refl

one_before : {A : Type 0} (items : List A) (a : A) (r : Outcome (List A)) → all_before items (outcome_as (λ others. a ∷ others) r) ≡ all_before (items ++ a ∷ []) r
one_before items a (Got others behind) = ap (λ (l : List _). Got l behind) (sym (append_assoc items (a ∷ []) others))
one_before items a (Failed f) = refl

module _ {A : Type 0} (item : Item A) (count : ℕ) (start : Reading) where
  pub items_begin : SoFar item count start count [] start
  items_begin = nothing_before (read_items item count [] start)

  pub items_more : (left : ℕ) (items : List A) (s : Reading) (a : A) (t : Reading) → item items s ≡ Got a t → SoFar item count start (suc left) items s → SoFar item count start left (items ++ a ∷ []) t
  items_more left items s a t got so_far =
      so_far ∙ ap (λ (r : Outcome A). all_before items (r >>= λ a s. outcome_as (λ others. a ∷ others) (read_items item left (items ++ a ∷ []) s))) got ∙ one_before items a (read_items item left (items ++ a ∷ []) t)

  pub items_failed : (left : ℕ) (items : List A) (s : Reading) (f : Corruption) → item items s ≡ Failed f → SoFar item count start (suc left) items s → read_items item count [] start ≡ Failed f
  items_failed left items s f failed so_far =
      so_far ∙ ap (λ (r : Outcome A). all_before items (r >>= λ a s. outcome_as (λ others. a ∷ others) (read_items item left (items ++ a ∷ []) s))) failed

  pub items_fail : (left : ℕ) (items : List A) (s : Reading) (fault : FormatFault) → FailsWith (item items s) fault → SoFar item count start (suc left) items s → FailsWith (read_items item count [] start) fault
  items_fail left items s OutOfMemory h so_far = tt
  items_fail left items s Short h so_far = items_failed left items s _ h so_far
  items_fail left items s Long h so_far = items_failed left items s _ h so_far
  items_fail left items s (Broken b) h so_far = items_failed left items s _ h so_far

  pub items_end : (items : List A) (s : Reading) → SoFar item count start zero items s → read_items item count [] start ≡ Got items s
  items_end items s so_far = so_far ∙ ap (λ (l : List A). Got l s) (append-nil items)

  -- for the turns and the exits of a loop
  pub items_step : (left next : ℕ) (items before new : List A) (s : Reading) (a : A) (t : Reading) → left ≡ suc next → before ≡ items → item before s ≡ Got a t → new ≡ items ++ a ∷ [] → SoFar item count start left items s
      → SoFar item count start next new t
  items_step left next items before new s a t counted same got pushed so_far =
      subst (λ (l : List A). SoFar item count start next l t) (sym pushed)
      (items_more next items s a t (ap (λ (l : List A). item l s) (sym same) ∙ got) (subst (λ (n : ℕ). SoFar item count start n items s) counted so_far))

  pub items_fault : (left next : ℕ) (items before : List A) (s : Reading) (fault : FormatFault) → left ≡ suc next → before ≡ items → FailsWith (item before s) fault → SoFar item count start left items s → FailsWith (read_items item count [] start) fault
  items_fault left next items before s fault counted same told so_far =
      items_fail next items s fault (subst (λ (l : List A). FailsWith (item l s) fault) same told) (subst (λ (n : ℕ). SoFar item count start n items s) counted so_far)

  pub items_all : (left : ℕ) (items : List A) (s : Reading) → left ≡ 0 → SoFar item count start left items s → read_items item count [] start ≡ Got items s
  items_all left items s none so_far = items_end items s (subst (λ (n : ℕ). SoFar item count start n items s) none so_far)
