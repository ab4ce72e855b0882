-- Files that are deleted one after another: of some names those that are chosen.
use Rattle.std.proofs.Common.{◌≡◌, ◌||◌, ◌&&◌, ◌++◌, ◌+◌, ◌<◌, ℕ, Bool, true, false, List, [], ◌∷◌, length, drop, get_or, map, refl, sym, ap, subst, ◌∙◌, add-one}
use Rattle.std.proofs.Math.Seq.{drop-cons}
use Rattle.std.proofs.lemmas.List.Folds.{list_any-append}
use Rattle.std.specs.List.{AllByRecursion, flat_map, list_any}
use Rattle.std.specs.FinMap.{get}
use Rattle.sasi_host.specs.declared.name.FileName.{FileName}
use Rattle.sasi_host.specs.Disk.{Changes, FileChange, MaybeDeleted, Same, Within}
use Rattle.sasi_host.specs.Names.{Folder, name_eq}
use Rattle.sasi_host.specs.View.{IsAbsent, IsThere, View, contents}
use Rattle.sasi_host.proofs.ChangeLaws.{changes_as, changes_on, stays, step_within}
use Rattle.sasi_host.proofs.ContentLaws.{absent_where, contents_kept, contents_same, there_where}
use Rattle.sasi_layout.proofs.FileNameLaws.{name_itself, name_same, name_there}
use Rattle.sasi_tasks.specs.Unheld.{AreGone, AreOnce, AreThere, AreUnchosen, is_one_of}

abbrev among : List FileName → FileName → Bool
among names name = list_any (name_eq name) names

clash : true ≡ false → ⊥
clash e = cc

first_of : (x y : Bool) → (x && y) ≡ true → x ≡ true
first_of true y is = refl
first_of false y is = is

second_of : (x y : Bool) → (x && y) ≡ true → y ≡ true
second_of true y is = is
second_of false y is = absurd (clash (sym is))

both_true : (x y : Bool) → x ≡ true → y ≡ true → (x && y) ≡ true
both_true x y one two = ap (λ b. b && y) one ∙ two

smaller : (x y z : Bool) → (x ≡ true → y ≡ true) → (y && z) ≡ false → (x && z) ≡ false
smaller true y z leads is = ap (λ b. b && z) (sym (leads refl)) ∙ is
smaller false y z leads is = refl

or_right : (x y : Bool) → y ≡ true → (x || y) ≡ true
or_right true y is = refl
or_right false y is = is

pub left_false : (x y : Bool) → (x || y) ≡ false → x ≡ false
left_false true y is = is
left_false false y is = refl

pub right_false : (x y : Bool) → (x || y) ≡ false → y ≡ false
right_false true y is = absurd (clash is)
right_false false y is = is

-- ---- names of two lists

in_first : (xs rest : List FileName) (n : FileName) → among xs n ≡ true → among (xs ++ rest) n ≡ true
in_first xs rest n is = list_any-append (name_eq n) xs rest ∙ ap (λ b. b || among rest n) is

in_rest : (xs rest : List FileName) (n : FileName) → among rest n ≡ true → among (xs ++ rest) n ≡ true
in_rest xs rest n is = list_any-append (name_eq n) xs rest ∙ or_right (among xs n) (among rest n) is

in_neither : (xs rest : List FileName) (n : FileName) → among xs n ≡ false → among rest n ≡ false → among (xs ++ rest) n ≡ false
in_neither xs rest n one two = list_any-append (name_eq n) xs rest ∙ ap (λ b. b || among rest n) one ∙ two

once_apart : (xs rest : List FileName) → AreOnce (xs ++ rest) → (n : FileName) → among rest n ≡ true → among xs n ≡ false
once_apart [] rest once n there = refl
once_apart (x ∷ xs) rest once n there = by (name_eq n x) refl (once_apart xs rest once.1 n there)
  where
    by : (t : Bool) → name_eq n x ≡ t → among xs n ≡ false → (name_eq n x || among xs n) ≡ false
    by true same others = absurd (clash (sym (in_rest xs rest x (subst (λ (m : FileName). among rest m ≡ true) (name_same n x same) there)) ∙ once.0))
    by false apart others = ap (λ b. b || among xs n) apart ∙ others

once_rest : (xs rest : List FileName) → AreOnce (xs ++ rest) → AreOnce rest
once_rest [] rest once = once
once_rest (x ∷ xs) rest once = once_rest xs rest once.1

once_first : (xs rest : List FileName) → AreOnce (xs ++ rest) → AreOnce xs
once_first [] rest once = tt
once_first (x ∷ xs) rest once = (left_false (among xs x) (among rest x) (sym (list_any-append (name_eq x) xs rest) ∙ once.0), once_first xs rest once.1)

all_first : (P : FileName → Type 0) (xs rest : List FileName) → AllByRecursion P (xs ++ rest) → AllByRecursion P xs
all_first P [] rest all = tt
all_first P (x ∷ xs) rest all = (all.0, all_first P xs rest all.1)

all_rest : (P : FileName → Type 0) (xs rest : List FileName) → AllByRecursion P (xs ++ rest) → AllByRecursion P rest
all_rest P [] rest all = all
all_rest P (x ∷ xs) rest all = all_rest P xs rest all.1

here : (x : FileName) (xs : List FileName) → among (x ∷ xs) x ≡ true
here x xs = ap (λ b. b || among xs x) (name_itself x)

each_of : (P : FileName → Type 0) (xs : List FileName) → ((n : FileName) → among xs n ≡ true → P n) → AllByRecursion P xs
each_of P [] each = tt
each_of P (x ∷ xs) each = (each x (here x xs), each_of P xs (λ n is. each n (or_right (name_eq n x) (among xs n) is)))

-- the item at a position, and those behind it
dropped_at : {A : Type 0} (xs : List A) (i : ℕ) (d : A) → i < length xs → drop i xs ≡ get_or xs i d ∷ drop (i + 1) xs
dropped_at xs i d within = drop-cons xs i d within ∙ ap (λ n. get_or xs i d ∷ drop n xs) (sym (add-one i))

pub dropped : {A : Type 0} (xs : List A) (i : ℕ) (x : A) → i < length xs → x ≡ get_or xs i x → drop i xs ≡ x ∷ drop (i + 1) xs
dropped xs i x within is = dropped_at xs i x within ∙ ap (λ y. y ∷ drop (i + 1) xs) (sym is)

-- ---- what was deleted so far

-- **Of all names those that aren't left are gone where they are chosen**, and those that are left are there.
pub record HasDeleted (chosen : FileName → Bool) (all rest : List FileName) (a b : View) : Type 0 where
  pub changes : Changes (Within (is_one_of chosen all)) a b
  pub gone : (n : FileName) → is_one_of chosen all n ≡ true → list_any (name_eq n) rest ≡ false → IsAbsent b n
  pub left : AreThere chosen b rest
  pub once : AreOnce rest
  pub within : (n : FileName) → list_any (name_eq n) rest ≡ true → list_any (name_eq n) all ≡ true
  pub disk : b.disk_faults ≡ a.disk_faults
  pub out : b.out_faults ≡ a.out_faults
  pub reads : b.reads ≡ a.reads

pub within_none : (mine : FileName → Bool) (v : View) → Changes (Within mine) v v
within_none mine v = changes_as v v Same (Within mine) (stays v) (λ x y same name other. ap (λ (f : Folder). get f name) same)

pub none_deleted : (chosen : FileName → Bool) (all : List FileName) (a : View) → AreThere chosen a all → AreOnce all → HasDeleted chosen all all a a
none_deleted chosen all a there once = record {
  changes = within_none (is_one_of chosen all) a;
  gone = λ n is none. absurd (clash (sym (first_of (among all n) (chosen n) is) ∙ none));
  left = there;
  once = once;
  within = λ n is. is;
  disk = refl;
  out = refl;
  reads = refl;
}

-- what the next ones need
module _ (chosen : FileName → Bool) (all xs rest : List FileName) (a b : View) (before : HasDeleted chosen all (xs ++ rest) a b) where
  pub next_there : AreThere chosen b xs
  next_there = all_first (λ (n : FileName). chosen n ≡ true → IsThere b n) xs rest before.left

  pub next_once : AreOnce xs
  next_once = once_first xs rest before.once

  pub next_unchosen : AreUnchosen chosen all → AreUnchosen chosen xs
  next_unchosen none = each_of (λ (n : FileName). chosen n ≡ false) xs (λ n is. name_there (λ (m : FileName). chosen m ≡ false) n all none (before.within n (in_first xs rest n is)))

  module _ (c : View) (change : Changes (Within (is_one_of chosen xs)) b c) where
    kept : (n : FileName) → among xs n ≡ false → contents c n ≡ contents b n
    kept n other = contents_kept b c (Within (is_one_of chosen xs)) n (λ x y s. s n (ap (λ t. t && chosen n) other)) change

    pub changed_on : Changes (Within (is_one_of chosen all)) a c
    changed_on = changes_on a b c (Within (is_one_of chosen all)) (Within (is_one_of chosen xs)) (Within (is_one_of chosen all)) before.changes change (λ x y s. s)
        (λ x y z s step n other. step n (smaller (among xs n) (among all n) (chosen n) (λ is. before.within n (in_first xs rest n is)) other) ∙ s n other)

    still : (ys : List FileName) → ((n : FileName) → among ys n ≡ true → among xs n ≡ false) → AreThere chosen b ys → AreThere chosen c ys
    still [] apart there = tt
    still (y ∷ ys) apart there = (
      λ is. there_where b c (Within (is_one_of chosen xs)) y change (kept y (apart y (here y ys))) (there.0 is),
      still ys (λ n is. apart n (or_right (name_eq n y) (among ys n) is)) there.1,
    )

    gone_on : AreGone chosen c xs → (n : FileName) → is_one_of chosen all n ≡ true → among rest n ≡ false → IsAbsent c n
    gone_on gone n is behind = by (among xs n) refl
      where
        by : (t : Bool) → among xs n ≡ t → IsAbsent c n
        by true one = name_there (λ (m : FileName). chosen m ≡ true → IsAbsent c m) n xs gone one (second_of (among all n) (chosen n) is)
        by false other = absent_where b c n (kept n other) (before.gone n is (in_neither xs rest n other behind))

    -- **Then the next ones are deleted.**
    pub deleted_on : AreGone chosen c xs → c.disk_faults ≡ b.disk_faults → c.out_faults ≡ b.out_faults → c.reads ≡ b.reads → HasDeleted chosen all rest a c
    deleted_on gone disk out reads = record {
      changes = changed_on;
      gone = gone_on gone;
      left = still rest (once_apart xs rest before.once) (all_rest (λ (n : FileName). chosen n ≡ true → IsThere b n) xs rest before.left);
      once = once_rest xs rest before.once;
      within = λ n is. before.within n (in_rest xs rest n is);
      disk = disk ∙ before.disk;
      out = out ∙ before.out;
      reads = reads ∙ before.reads;
    }

-- **Where none is left, all that are chosen are gone.**
pub all_gone : (chosen : FileName → Bool) (all : List FileName) (a b : View) → HasDeleted chosen all [] a b → AreGone chosen b all
all_gone chosen all a b deleted = each_of (λ (n : FileName). chosen n ≡ true → IsAbsent b n) all (λ n one is. deleted.gone n (both_true (among all n) (chosen n) one is) refl)

-- and so after a call that changes nothing
pub gone_same : (chosen : FileName → Bool) (names : List FileName) (b c : View) → Changes Same b c → AreGone chosen b names → AreGone chosen c names
gone_same chosen [] b c same gone = tt
gone_same chosen (n ∷ names) b c same gone = (λ is. absent_where b c n (contents_same b c n same) (gone.0 is), gone_same chosen names b c same gone.1)

-- ---- one name, and those of one part

-- one file that is chosen
pub one_deleted : (chosen : FileName → Bool) (name : FileName) (b c : View) → chosen name ≡ true → Changes (FileChange name MaybeDeleted) b c → Changes (Within (is_one_of chosen (name ∷ []))) b c
one_deleted chosen name b c is change = step_within (is_one_of chosen (name ∷ [])) name MaybeDeleted b c (both_true (among (name ∷ []) name) (chosen name) (here name []) is) change

module _ (chosen : FileName → Bool) (all : List FileName) (a b : View) where
  pub at_name : (names : List FileName) (i : ℕ) (d : FileName) → i < length names → HasDeleted chosen all (drop i names) a b → HasDeleted chosen all (get_or names i d ∷ drop (i + 1) names) a b
  at_name names i d within = subst (λ (l : List FileName). HasDeleted chosen all l a b) (dropped_at names i d within)

  pub at_each : {A : Type 0} (f : A → FileName) (xs : List A) (i : ℕ) (d : A) → i < length xs → HasDeleted chosen all (map f (drop i xs)) a b → HasDeleted chosen all (f (get_or xs i d) ∷ map f (drop (i + 1) xs)) a b
  at_each {A} f xs i d within = subst (λ (l : List A). HasDeleted chosen all (map f l) a b) (dropped_at xs i d within)

  pub at_list : {A : Type 0} (f : A → List FileName) (xs : List A) (i : ℕ) (x : A) → i < length xs → x ≡ get_or xs i x → HasDeleted chosen all (flat_map f (drop i xs)) a b → HasDeleted chosen all (f x ++ flat_map f (drop (i + 1) xs)) a b
  at_list {A} f xs i x within is = subst (λ (l : List A). HasDeleted chosen all (flat_map f l) a b) (dropped xs i x within is)

-- ---- the next name

pub or_false : (x y : Bool) → x ≡ false → y ≡ false → (x || y) ≡ false
or_false x y one two = ap (λ b. b || y) one ∙ two

module _ (chosen : FileName → Bool) (all : List FileName) (a b : View) (name : FileName) (rest : List FileName) (before : HasDeleted chosen all (name ∷ rest) a b) where
  pub one_there : chosen name ≡ true → IsThere b name
  one_there = before.left.0

  pub one_unchosen : AreUnchosen chosen all → chosen name ≡ false
  one_unchosen none = (next_unchosen chosen all (name ∷ []) rest a b before none).0

  module _ (c : View) (change : Changes (Within (is_one_of chosen (name ∷ []))) b c) where
    pub one_changed : Changes (Within (is_one_of chosen all)) a c
    one_changed = changed_on chosen all (name ∷ []) rest a b before c change

    pub one_on : AreGone chosen c (name ∷ []) → c.disk_faults ≡ b.disk_faults → c.out_faults ≡ b.out_faults → c.reads ≡ b.reads → HasDeleted chosen all rest a c
    one_on gone disk out reads = deleted_on chosen all (name ∷ []) rest a b before c change gone disk out reads
