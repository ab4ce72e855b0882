-- Folders from which files are deleted.
use Rattle.std.proofs.Common.{◌≡◌, ◌≢◌, ℕ, ◌+◌, ◌≤◌, ◌<◌, ◌||◌, Bool, true, false, List, [], ◌∷◌, length, take, drop, get_or, All, Contains, Option, Some, None, IsSome, is_some, refl, sym, ◌∙◌, ap, subst, inl, inr, ⊎_elim, arith, add-one}
use Rattle.std.proofs.Math.Seq.{drop-cons}
use Rattle.std.proofs.lemmas.Bool.Decides.{nat_tests}
use Rattle.std.proofs.lemmas.List.Elements.{All-more, All-weaker, All-contains, recursion_from_All}
use Rattle.std.specs.List.{AllByRecursion, list_any}
use Rattle.std.specs.List.Sorted.{IsStrictlySortedBy}
use Rattle.std.specs.Ordering.{is_eq}
use Rattle.std.specs.declared.cmp.Ordering.TheVariants.{Less}
use Rattle.std.specs.FinMap.{get}
use Rattle.sasi_host.specs.declared.name.FileName.{FileName}
use Rattle.sasi_host.specs.Names.{Bytes, Folder, name_cmp, name_eq, log_name, manifest_name, seal_name}
use Rattle.sasi_host.proofs.NameCases.{name_cases}
use Rattle.sasi_host.specs.NameLaws.{test_here}
use Rattle.sasi_host.specs.View.{View, IsAbsent, IsThere, contents, contents_in}
use Rattle.sasi_host.specs.Disk.{Changes, IsFileDurable, Lists, MaybeDeleted, Relation, Same, FileChange}
use Rattle.sasi_host.proofs.ContentLaws.{contents_other, there_where}
use Rattle.sasi_host.proofs.ChangeLaws.{changes_as, changes_on, stays}
use Rattle.sasi_folder.specs.FolderContents.{IsFresh}
use Rattle.sasi_recover.specs.declared.unlisted_files.Keep.TheVariants.{Store}
use Rattle.sasi_layout.specs.Kept.{has_segment}
use Rattle.sasi_recover.specs.Deletion.{DeletedUnless, Deletes, keeps}
use Rattle.sasi_recover.specs.Opening.{KeepsStore}
use Rattle.sasi_recover.proofs.NameLists.{any_of}
use Rattle.sasi_recover.proofs.SyncedFolder.{listed_there}

-- ---- one file

-- what isn't there doesn't come
none_stays : (kept : Bool) (a b : Option Bytes) → DeletedUnless kept a b → a ≡ None → b ≡ None
none_stays true a b same none = same ∙ none
none_stays false a b (inl same) none = same ∙ none
none_stays false a b (inr gone) none = gone

pub unless_same : (kept : Bool) (a b : Option Bytes) → b ≡ a → DeletedUnless kept a b
unless_same true a b same = same
unless_same false a b same = inl same

unless_on : (kept : Bool) (a b c : Option Bytes) → DeletedUnless kept a b → DeletedUnless kept b c → DeletedUnless kept a c
unless_on true a b c first second = second ∙ first
unless_on false a b c first (inl same) = subst (λ (o : Option Bytes). MaybeDeleted a o) (sym same) first
unless_on false a b c first (inr gone) = inr gone

pub kept_one : (a : View) (name : FileName) (kept : Bool) → kept ≡ true → Changes (FileChange name (DeletedUnless kept)) a a
kept_one a name kept is = changes_as a a Same (FileChange name (DeletedUnless kept)) (stays a) (λ x y same. record {
  others = λ other apart. ap (λ (f : Folder). get f other) same;
  this = unless_same kept (get x name) (get y name) (ap (λ (f : Folder). get f name) same);
})

pub deleted_one : (a b : View) (name : FileName) (kept : Bool) → kept ≡ false → Changes (FileChange name MaybeDeleted) a b
    → Changes (FileChange name (DeletedUnless kept)) a b
deleted_one a b name kept is change = subst (λ (k : Bool). Changes (FileChange name (DeletedUnless k)) a b) (sym is) change

-- ---- many files

pub deletes_none : (a : View) (kept : FileName → Bool) → Changes (Deletes kept) a a
deletes_none a kept = changes_as a a Same (Deletes kept) (stays a)
    (λ x y same name. unless_same (kept name) (get x name) (get y name) (ap (λ (f : Folder). get f name) same))

one_of_many : (kept : FileName → Bool) (name : FileName) (x y : Folder) → FileChange name (DeletedUnless (kept name)) x y → Deletes kept x y
one_of_many kept name x y step other = ⊎_elim
    (λ same. subst (λ (n : FileName). DeletedUnless (kept n) (get x n) (get y n)) (sym same) step.this)
    (λ apart. unless_same (kept other) (get x other) (get y other) (step.others other apart))
    (name_cases other name)

pub deletes_on : (a b c : View) (kept : FileName → Bool) (name : FileName) → Changes (Deletes kept) a b
    → Changes (FileChange name (DeletedUnless (kept name))) b c → Changes (Deletes kept) a c
deletes_on a b c kept name first second = changes_on a b c (Deletes kept) (FileChange name (DeletedUnless (kept name))) (Deletes kept) first
    second (λ x y s. s)
    (λ x y z s step other. unless_on (kept other) (get x other) (get y other) (get z other) (s other) (one_of_many kept name y z step other))

-- what isn't there doesn't come back
absent_after : (a b : View) (S : Relation) (name : FileName) → ((x y : Folder) → S x y → get x name ≡ None → get y name ≡ None)
    → Changes S a b → IsAbsent a name → IsAbsent b name
absent_after a b S name keeps change absent = from a.files refl
  where
    from : (o : Option Folder) → a.files ≡ o → contents b name ≡ None
    from None is = ap (λ (o : Option Folder). contents_in o name) (change.untold is)
    from (Some f) is =
        let g = change.seen f is in
        ap (λ (o : Option Folder). contents_in o name) g.1 ∙ keeps f g.0 g.2 (sym (ap (λ (o : Option Folder). contents_in o name) is) ∙ absent)

pub absent_deletes : (a b : View) (kept : FileName → Bool) (name : FileName) → Changes (Deletes kept) a b → IsAbsent a name → IsAbsent b name
absent_deletes a b kept name change absent = absent_after a b (Deletes kept) name
    (λ x y s. none_stays (kept name) (get x name) (get y name) (s name)) change absent

absent_one : (a b : View) (kept : FileName → Bool) (file name : FileName) → Changes (FileChange file (DeletedUnless (kept file))) a b
    → IsAbsent a name → IsAbsent b name
absent_one a b kept file name change absent =
    absent_after a b (FileChange file (DeletedUnless (kept file))) name
    (λ x y step. none_stays (kept name) (get x name) (get y name) (one_of_many kept file x y step name)) change absent

-- ---- the names that are left

-- a name that comes later is another one
later_apart : (file name : FileName) → name_cmp file name ≡ Less → name ≢ file
later_apart file name less same =
    let here : name_cmp file file ≡ Less = subst (λ (n : FileName). name_cmp file n ≡ Less) same less in
    let test : is_eq (name_cmp file file) ≡ true = test_here file in
    let other : is_eq (name_cmp file file) ≡ false = ap is_eq here in
    both (sym test ∙ other)
  where
    both : true ≡ false → ⊥
    both is = cc

-- the listed names that are left are there, in their order
pub record AreLeft (v : View) (names : List FileName) : Type 0 where
  pub there : AllByRecursion (IsThere v) names
  pub sorted : IsStrictlySortedBy name_cmp names

pub all_left : (v : View) (names : List FileName) → Lists v names → IsStrictlySortedBy name_cmp names → AreLeft v names
all_left v names lists sorted = record { there = recursion_from_All (IsThere v) names (listed_there v names lists); sorted = sorted }

module _ (a b : View) (kept : FileName → Bool) (file : FileName) (change : Changes (FileChange file (DeletedUnless (kept file))) a b) where
  still_there : (names : List FileName) → AllByRecursion (λ name. name_cmp file name ≡ Less) names → AllByRecursion (IsThere a) names
      → AllByRecursion (IsThere b) names
  still_there [] later there = tt
  still_there (name ∷ names) later there = (
    there_where a b (FileChange file (DeletedUnless (kept file))) name change
        (contents_other a b file name (DeletedUnless (kept file)) (later_apart file name later.0) change) there.0,
    still_there names later.1 there.1,
  )

  rest_left : (names : List FileName) → AreLeft a (file ∷ names) → AreLeft b names
  unfolding IsStrictlySortedBy
  rest_left names left = record { there = still_there names left.sorted.0 left.there.1; sorted = left.sorted.1 }

  -- those so far are gone
  pub gone_more : (names : List FileName) (i : ℕ) (d : FileName) → i < length names → file ≡ get_or names i d
      → All (λ name. kept name ≡ false → IsAbsent a name) (take i names) → (kept file ≡ false → IsAbsent b file)
      → All (λ name. kept name ≡ false → IsAbsent b name) (take (i + 1) names)
  gone_more names i d within is done one =
      All-more (λ name. kept name ≡ false → IsAbsent b name) names i d within
      (All-weaker (λ name. kept name ≡ false → IsAbsent a name) (λ name. kept name ≡ false → IsAbsent b name)
      (λ name absent other. absent_one a b kept file name change (absent other)) (take i names) done)
      (subst (λ (n : FileName). kept n ≡ false → IsAbsent b n) is one)

  -- and the others are left
  pub left_more : (names : List FileName) (i : ℕ) (d : FileName) → i < length names → file ≡ get_or names i d → AreLeft a (drop i names)
      → AreLeft b (drop (i + 1) names)
  left_more names i d within is left =
      let cons : drop i names ≡ file ∷ drop (i + 1) names = drop-cons names i d within
      ∙ ap (λ n. get_or names i d ∷ drop n names) (sym (add-one i)) ∙ ap (λ (n : FileName). n ∷ drop (i + 1) names) (sym is) in
      rest_left (drop (i + 1) names) (subst (AreLeft a) cons left)

pub first_left : (v : View) (names : List FileName) (i : ℕ) (d : FileName) → i < length names → AreLeft v (drop i names)
    → IsThere v (get_or names i d)
first_left v names i d within left = (subst (λ (l : List FileName). AllByRecursion (IsThere v) l) (drop-cons names i d within) left.there).0

-- all others are gone, where the listed ones are
pub gone_all : (a b : View) (kept : FileName → Bool) (names : List FileName) → Lists a names → Changes (Deletes kept) a b
    → All (λ name. kept name ≡ false → IsAbsent b name) names → (name : FileName) → kept name ≡ false → IsAbsent b name
gone_all a b kept names lists change gone name other = from (contents a name) refl
  where
    told_of : (o : Option Folder) (bytes : Bytes) → contents_in o name ≡ Some bytes → IsSome o
    told_of None bytes is = cc
    told_of (Some f) bytes is = refl

    from : (o : Option Bytes) → contents a name ≡ o → IsAbsent b name
    from None none = absent_deletes a b kept name change none
    from (Some bytes) has = All-contains (λ name. kept name ≡ false → IsAbsent b name) names name gone
        ((lists (told_of a.files bytes has) name).1 (ap (λ (o : Option Bytes). is_some o) has)) other

-- ---- what stays

pub deletes_kept : (a b : View) (kept : FileName → Bool) (name : FileName) (bytes : Bytes) → kept name ≡ true → Changes (Deletes kept) a b
    → IsFileDurable a name bytes → IsFileDurable b name bytes
deletes_kept a b kept name bytes is change has x now =
    let was = change.image x now in
    let same : get x name ≡ get was.0 name = subst (λ (k : Bool). DeletedUnless k (get was.0 name) (get x name)) is (was.2 name) in
    same ∙ has was.0 was.1

or_first : (a b c d : Bool) → a ≡ true → (a || (b || (c || d))) ≡ true
or_first true b c d is = refl
or_first false b c d is = cc

or_second : (a b c d : Bool) → b ≡ true → (a || (b || (c || d))) ≡ true
or_second true b c d is = refl
or_second false true c d is = refl
or_second false false c d is = cc

or_third : (a b c d : Bool) → c ≡ true → (a || (b || (c || d))) ≡ true
or_third true b c d is = refl
or_third false true c d is = refl
or_third false false true d is = refl
or_third false false false d is = cc

or_fourth : (a b c d : Bool) → d ≡ true → (a || (b || (c || d))) ≡ true
or_fourth true b c d is = refl
or_fourth false true c d is = refl
or_fourth false false true d is = refl
or_fourth false false false d is = is

pub keeps_manifest : (number floor last : ℕ) (files : List FileName) → keeps (Store number floor last) files (manifest_name number) ≡ true
keeps_manifest number floor last files =
    let own : name_eq (manifest_name number) (manifest_name number) ≡ true = grind (arith, nat_tests) in
    or_first (name_eq (manifest_name number) (manifest_name number)) (name_eq (manifest_name number) (seal_name number)) (has_segment floor last (manifest_name number)) (list_any (name_eq (manifest_name number)) files) own

pub keeps_seal : (number floor last : ℕ) (files : List FileName) → keeps (Store number floor last) files (seal_name number) ≡ true
keeps_seal number floor last files =
    let own : name_eq (seal_name number) (seal_name number) ≡ true = grind (arith, nat_tests) in
    or_second (name_eq (seal_name number) (manifest_name number)) (name_eq (seal_name number) (seal_name number)) (has_segment floor last (seal_name number)) (list_any (name_eq (seal_name number)) files) own

pub keeps_segment : (number floor last : ℕ) (files : List FileName) (segment : ℕ) → floor ≤ segment → segment ≤ last → keeps (Store number floor last) files (log_name segment) ≡ true
keeps_segment number floor last files segment above below =
    let own : has_segment floor last (log_name segment) ≡ true = grind (arith, nat_tests, above, below) in
    or_third (name_eq (log_name segment) (manifest_name number)) (name_eq (log_name segment) (seal_name number)) (has_segment floor last (log_name segment)) (list_any (name_eq (log_name segment)) files) own

pub keeps_listed : (number floor last : ℕ) (files : List FileName) (name : FileName) → Contains files name → keeps (Store number floor last) files name ≡ true
keeps_listed number floor last files name has = or_fourth (name_eq name (manifest_name number)) (name_eq name (seal_name number)) (has_segment floor last name) (list_any (name_eq name) files) (any_of files name has)

pub unless_kept : (kept : Bool) (a b : Option Bytes) → kept ≡ true → DeletedUnless kept a b → b ≡ a
unless_kept true a b is same = same
unless_kept false a b is either = cc

-- what the store has there stays
pub deletes_store : (number floor last : ℕ) (files : List FileName) (x y : Folder) → Deletes (keeps (Store number floor last) files) x y → KeepsStore number floor last x y
deletes_store number floor last files x y deletes =
    let same = λ (name : FileName) (is : keeps (Store number floor last) files name ≡ true). unless_kept _ (get x name) (get y name) is (deletes name) in
    record {
      seal = ap (λ (o : Option Bytes). is_some o) (same (seal_name number) (keeps_seal number floor last files));
      higher = λ other above. none_stays (keeps (Store number floor last) files (seal_name other)) (get x (seal_name other))
          (get y (seal_name other)) (deletes (seal_name other));
      manifest = same (manifest_name number) (keeps_manifest number floor last files);
      logs = λ segment above below. same (log_name segment) (keeps_segment number floor last files segment above below);
    }

-- and so do its listed files
pub deletes_listed : (number floor last : ℕ) (files : List FileName) (x y : Folder) (name : FileName) → Contains files name → Deletes (keeps (Store number floor last) files) x y → get y name ≡ get x name
deletes_listed number floor last files x y name has deletes = unless_kept _ (get x name) (get y name) (keeps_listed number floor last files name has) (deletes name)

-- a new folder stays new
pub deletes_fresh : (kept : FileName → Bool) (x y : Folder) → Deletes kept x y → IsFresh x → IsFresh y
deletes_fresh kept x y deletes fresh name other another = none_stays (kept name) (get x name) (get y name) (deletes name) (fresh name other another)
