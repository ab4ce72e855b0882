-- The parts that the last unit of a compaction draws: those of indexes that the table has and the task was begun with, in order.
use Rattle.std.proofs.Common.{◌≡◌, ◌||◌, ◌+◌, ◌<◌, ◌≤◌, ◌^◌, ℕ, suc, Bool, true, false, cond, nat_eq, List, [], ◌∷◌, length, refl, sym, ap, subst, arith}
use Rattle.std.proofs.lemmas.Bool.Decides.{nat_tests}
use Rattle.std.specs.List.{AllByRecursion, filter, list_any}
use Rattle.sasi_types.specs.declared.index_def.IndexDef.{IndexDef}
use Rattle.sasi_layout.proofs.Parts.{drawn_indexes, drawn_length}
use Rattle.sasi_layout.specs.Layout.{drawn}
use Rattle.sasi_manifest.specs.ListedFiles.{FitParts, IndexesRise, IsPart, NumbersRise, is_among}
use Rattle.sasi_pairs.specs.SealedFiles.{AreDefined}
use Rattle.sasi_tasks.specs.Running.{numbers_of}

or_left : (a b : Bool) → a ≡ true → (a || b) ≡ true
or_left a b is = ap (λ x. x || b) is

or_right : (a b : Bool) → b ≡ true → (a || b) ≡ true
or_right true b is = refl
or_right false b is = is

itself : (n : ℕ) → nat_eq n n ≡ true
itself n = grind (arith, nat_tests)

-- ---- of some numbers those that pass

all_passed : (P : ℕ → Type 0) (p : ℕ → Bool) (ns : List ℕ) → AllByRecursion P ns → AllByRecursion P (filter p ns)
all_passed P p [] all = tt
all_passed P p (n ∷ ns) all = by (p n) (all_passed P p ns all.1)
  where
    by : (b : Bool) → AllByRecursion P (filter p ns) → AllByRecursion P (cond b (n ∷ filter p ns) (filter p ns))
    by true rest = (all.0, rest)
    by false rest = rest

passed_test : (p : ℕ → Bool) (ns : List ℕ) → AllByRecursion (λ (n : ℕ). p n ≡ true) (filter p ns)
passed_test p [] = tt
passed_test p (n ∷ ns) = by (p n) refl (passed_test p ns)
  where
    by : (b : Bool) → p n ≡ b → AllByRecursion (λ (n : ℕ). p n ≡ true) (filter p ns) → AllByRecursion (λ (n : ℕ). p n ≡ true) (cond b (n ∷ filter p ns) (filter p ns))
    by true is rest = (is, rest)
    by false is rest = rest

rise_lower : (low above : ℕ) (ns : List ℕ) → low ≤ above → NumbersRise above ns → NumbersRise low ns
rise_lower low above [] le rise = tt
rise_lower low above (n ∷ ns) le rise = (omega (arith, le, rise.0), rise.1)

passed_rise : (p : ℕ → Bool) (above : ℕ) (ns : List ℕ) → NumbersRise above ns → NumbersRise above (filter p ns)
passed_rise p above [] rise = tt
passed_rise p above (n ∷ ns) rise = by (p n) (passed_rise p n ns rise.1)
  where
    by : (b : Bool) → NumbersRise n (filter p ns) → NumbersRise above (cond b (n ∷ filter p ns) (filter p ns))
    by true rest = (rise.0, rest)
    by false rest = rise_lower above n (filter p ns) (omega (arith, rise.0)) rest

passed_few : (p : ℕ → Bool) (ns : List ℕ) → length (filter p ns) ≤ length ns
passed_few p [] = omega arith
passed_few p (n ∷ ns) = by (p n) (passed_few p ns)
  where
    by : (b : Bool) → length (filter p ns) ≤ length ns → length (cond b (n ∷ filter p ns) (filter p ns)) ≤ suc (length ns)
    by true rest = omega (arith, rest)
    by false rest = omega (arith, rest)

-- what all numbers have, one of them has
among_has : (P : ℕ → Type 0) (ns : List ℕ) (n : ℕ) → AllByRecursion P ns → is_among ns n ≡ true → P n
among_has P [] n all is = cc
among_has P (m ∷ ns) n all is = by (nat_eq n m) refl is (among_has P ns n all.1)
  where
    by : (b : Bool) → nat_eq n m ≡ b → (b || is_among ns n) ≡ true → (is_among ns n ≡ true → P n) → P n
    by true own there rest = (let same : m ≡ n = grind (arith, nat_tests, own) in subst P same all.0)
    by false other there rest = rest there

all_lead : (P Q : ℕ → Type 0) (ns : List ℕ) → ((n : ℕ) → P n → Q n) → AllByRecursion P ns → AllByRecursion Q ns
all_lead P Q [] leads all = tt
all_lead P Q (n ∷ ns) leads all = (leads n all.0, all_lead P Q ns leads all.1)

-- ---- the parts

parts_each : (numbers : List ℕ) (used : ℕ) (ns : List ℕ) → AllByRecursion (λ (n : ℕ). is_among numbers n ≡ true) ns → AllByRecursion (λ (n : ℕ). n < 2 ^ 32) ns → used + length ns < 2 ^ 32 → AllByRecursion (IsPart numbers) (drawn used ns)
parts_each numbers used [] listed fits room = tt
parts_each numbers used (n ∷ ns) listed fits room = (
  record { listed = listed.0; index_fits = fits.0; some = omega arith; part_fits = omega (arith, room) },
  parts_each numbers (suc used) ns listed.1 fits.1 (omega (arith, room)),
)

parts_rise : (used above : ℕ) (ns : List ℕ) → NumbersRise above ns → IndexesRise (drawn used ns)
parts_rise used above [] rise = tt
parts_rise used above (n ∷ ns) rise = subst (NumbersRise n) (sym (drawn_indexes (suc used) ns)) rise.1

-- **They fit the record.**
pub left_fit : (used : ℕ) (numbers indexes : List ℕ) → AllByRecursion (λ (n : ℕ). (1 ≤ n) × (n < 2 ^ 32)) numbers → NumbersRise 0 indexes → length indexes < 2 ^ 16 → used + length (drawn used (filter (is_among numbers) indexes)) < 2 ^ 32
    → FitParts numbers (drawn used (filter (is_among numbers) indexes))
left_fit used numbers indexes small rise few room =
    let left : List ℕ = filter (is_among numbers) indexes in
    record {
      few = omega (arith, few, drawn_length used left, passed_few (is_among numbers) indexes);
      each = parts_each numbers used left (passed_test (is_among numbers) indexes)
          (all_lead (λ (n : ℕ). is_among numbers n ≡ true) (λ (n : ℕ). n < 2 ^ 32) left (λ n is. (among_has (λ (n : ℕ). (1 ≤ n) × (n < 2 ^ 32)) numbers n small is).1) (passed_test (is_among numbers) indexes))
          (omega (arith, room, drawn_length used left));
      rise = parts_rise used 0 left (passed_rise (is_among numbers) 0 indexes rise);
    }

-- ---- their definitions

def_among : (defs : List IndexDef) (n : ℕ) → is_among (numbers_of defs) n ≡ true → list_any (λ (def : IndexDef). nat_eq n def.number) defs ≡ true
def_among [] n is = cc
def_among (def ∷ defs) n is = by (nat_eq n def.number) refl is (def_among defs n)
  where
    by : (b : Bool) → nat_eq n def.number ≡ b → (b || is_among (numbers_of defs) n) ≡ true → (is_among (numbers_of defs) n ≡ true → list_any (λ (def : IndexDef). nat_eq n def.number) defs ≡ true)
        → (nat_eq n def.number || list_any (λ (def : IndexDef). nat_eq n def.number) defs) ≡ true
    by true own there rest = or_left (nat_eq n def.number) (list_any (λ (def : IndexDef). nat_eq n def.number) defs) own
    by false other there rest = or_right (nat_eq n def.number) (list_any (λ (def : IndexDef). nat_eq n def.number) defs) (rest there)

among_all : (whole ns : List ℕ) → ((n : ℕ) → is_among ns n ≡ true → is_among whole n ≡ true) → AllByRecursion (λ (n : ℕ). is_among whole n ≡ true) ns
among_all whole [] inside = tt
among_all whole (n ∷ ns) inside = (inside n (or_left (nat_eq n n) (is_among ns n) (itself n)), among_all whole ns (λ m is. inside m (or_right (nat_eq m n) (is_among ns m) is)))

drawn_defined : (defs : List IndexDef) (used : ℕ) (ns : List ℕ) → AllByRecursion (λ (n : ℕ). is_among (numbers_of defs) n ≡ true) ns → AreDefined defs (drawn used ns)
drawn_defined defs used [] all = tt
drawn_defined defs used (n ∷ ns) all = (def_among defs n all.0, drawn_defined defs (suc used) ns all.1)

-- **Each is one of the task's indexes.**
pub left_defined : (defs : List IndexDef) (used : ℕ) (p : ℕ → Bool) → AreDefined defs (drawn used (filter p (numbers_of defs)))
left_defined defs used p =
    drawn_defined defs used (filter p (numbers_of defs)) (all_passed (λ (n : ℕ). is_among (numbers_of defs) n ≡ true) p (numbers_of defs) (among_all (numbers_of defs) (numbers_of defs) (λ n is. is)))
