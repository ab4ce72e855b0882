-- Laws of changes of a folder, one after another.
use Rattle.std.specs.Prelude.{◌≡◌, ◌⊎◌, Option, Bool, true, false, refl}
use Rattle.std.proofs.Common.{inl, inr, ⊎_elim, sym, ◌∙◌, ap, subst, arith}
use Rattle.std.specs.FinMap.{get}
use Rattle.sasi_host.specs.declared.name.FileName.{FileName}
use Rattle.sasi_host.specs.Names.{Bytes, Folder}
use Rattle.sasi_host.specs.View.{View, LeavesNow, CrashLeaves, IsSound}
use Rattle.sasi_host.proofs.FailingLaws.{told_none, told_on}
use Rattle.sasi_host.specs.Disk.{Relation, Same, FromImage, Changes, FileChange, Within, AnyChange, Each}

-- one stretch of moments after another
pub crash_leaves_on : (a b c : View) (P Q U : Folder → Bytes → Type 0) → CrashLeaves a b P → CrashLeaves b c Q
    → ((x : Folder) (e : Bytes) → P x e → U x e) → ((x : Folder) (e : Bytes) → Q x e → U x e) → CrashLeaves a c U
crash_leaves_on a b c P Q U first second early late = record {
  later = omega (arith, first.later, second.later);
  left = λ t x e le gone. ⊎_elim
      (λ before. ⊎_elim (λ was. inl was) (λ p. inr (early x e p)) (first.left t x e le before))
      (λ q. inr (late x e q))
      (second.left t x e (omega (arith, le, first.later)) gone);
}

-- nothing is done
pub stays : (v : View) → Changes Same v v
stays v = record {
  seen = λ f is. (f, is, refl);
  untold = λ is. is;
  image = λ c now. (c, now, refl);
  during = record { later = omega arith; left = λ t x e le gone. inl gone };
  emitted = refl;
  emits = refl;
  told = told_none v;
}

-- one change after another
pub changes_on : (a b c : View) (S T U : Relation) → Changes S a b → Changes T b c → ((x y : Folder) → S x y → U x y)
    → ((x y z : Folder) → S x y → T y z → U x z) → Changes U a c
changes_on a b c S T U first second early both = record {
  seen = λ f is.
      let mid = first.seen f is in
      let end = second.seen mid.0 mid.1 in
      (end.0, end.1, both f mid.0 end.0 mid.2 end.2);
  untold = λ is. second.untold (first.untold is);
  image = λ z now.
      let mid = second.image z now in
      let start = first.image mid.0 mid.1 in
      (start.0, start.1, both start.0 mid.0 z start.2 mid.2);
  during = crash_leaves_on a b c (FromImage S a) (FromImage T b) (FromImage U a) first.during second.during
      (λ x e since. (since.0, since.1, early since.0 x since.2, since.3))
      (λ x e since.
      let start = first.image since.0 since.1 in
      (start.0, start.1, both start.0 since.0 x start.2 since.2, sym first.emitted ∙ since.3));
  emitted = second.emitted ∙ first.emitted;
  emits = second.emits ∙ first.emits;
  told = told_on a b c first.told second.told;
}

-- a change satisfies each wider relation
pub changes_as : (a b : View) (S U : Relation) → Changes S a b → ((x y : Folder) → S x y → U x y) → Changes U a b
changes_as a b S U change wider = record {
  seen = λ f is. let g = change.seen f is in (g.0, g.1, wider f g.0 g.2);
  untold = change.untold;
  image = λ c now. let d = change.image c now in (d.0, d.1, wider d.0 c d.2);
  during =
      crash_leaves_on a a b (FromImage U a) (FromImage S a) (FromImage U a) (stays_during a) change.during (λ x e p. p)
      (λ x e since. (since.0, since.1, wider since.0 x since.2, since.3));
  emitted = change.emitted;
  emits = change.emits;
  told = change.told;
}
  where
    stays_during : (v : View) → CrashLeaves v v (FromImage U a)
    stays_during v = record { later = omega arith; left = λ t x e le gone. inl gone }

-- nothing is done, as a change of one file
pub untouched : (v : View) (file : FileName) → Changes (FileChange file AnyChange) v v
untouched v file =
    changes_as v v Same (FileChange file AnyChange) (stays v) (λ x y same. record { others = λ name other. ap (λ (f : Folder). get f name) same; this = tt })

-- a call that leaves the folder as it is comes after a change
pub then_same : (a b c : View) (S : Relation) → Changes S a b → Changes Same b c → Changes S a c
then_same a b c S first second = changes_on a b c S Same S first second (λ x y s. s) (λ x y z s same. subst (λ w. S x w) (sym same) s)

-- what is known of each image before a change tells more of the change
pub changes_among : (a b : View) (I : Folder → Type 0) (S U : Relation) → IsSound a → ((x : Folder) → a.image x → I x) → Changes S a b
    → ((x y : Folder) → I x → S x y → U x y) → Changes U a b
changes_among a b I S U sound known change more = record {
  seen = λ f is. let g = change.seen f is in (g.0, g.1, more f g.0 (known f (sound.reads f is)) g.2);
  untold = change.untold;
  image = λ c now. let d = change.image c now in (d.0, d.1, more d.0 c (known d.0 d.1) d.2);
  during =
      crash_leaves_on a a b (FromImage U a) (FromImage S a) (FromImage U a)
      (record { later = omega arith; left = λ t x e le gone. inl gone }) change.during (λ x e p. p)
      (λ x e since. (since.0, since.1, more since.0 x (known since.0 since.1) since.2, since.3));
  emitted = change.emitted;
  emits = change.emits;
  told = change.told;
}

-- what a crash since a start leaves: an image at the start, or what some moment since leaves
pub since_start : (a b : View) (P : Folder → Bytes → Type 0) → IsSound a → CrashLeaves a b P → (c : Folder) (e : Bytes) → b.left a.moment c e
    → LeavesNow a c e ⊎ P c e
since_start a b P sound passes c e left = ⊎_elim (λ was. inl (sound.only_now c e was)) (λ p. inr p) (passes.left a.moment c e (omega arith) left)

-- ---- changes of one file

-- one change of a file after another
pub step_on : (file : FileName) (R Q U : Option Bytes → Option Bytes → Type 0) → ((x y z : Option Bytes) → R x y → Q y z → U x z) → (a b c : Folder)
    → FileChange file R a b → FileChange file Q b c → FileChange file U a c
step_on file R Q U both a b c first second = record {
  others = λ name other. second.others name other ∙ first.others name other;
  this = both _ _ _ first.this second.this;
}

-- a change of a file satisfies each wider relation
pub step_as : (file : FileName) (R U : Option Bytes → Option Bytes → Type 0) → ((x y : Option Bytes) → R x y → U x y) → (a b : Folder)
    → FileChange file R a b → FileChange file U a b
step_as file R U wider a b step = record { others = step.others; this = wider _ _ step.this }

-- a change of one file is any change of it
pub touches : (a b : View) (file : FileName) (R : Option Bytes → Option Bytes → Type 0) → Changes (FileChange file R) a b → Changes (FileChange file AnyChange) a b
touches a b file R change = changes_as a b (FileChange file R) (FileChange file AnyChange) change (λ x y step. record { others = step.others; this = tt })

-- and another change of it
pub touches_on : (a b c : View) (file : FileName) → Changes (FileChange file AnyChange) a b → Changes (FileChange file AnyChange) b c → Changes (FileChange file AnyChange) a c
touches_on a b c file first second =
    changes_on a b c (FileChange file AnyChange) (FileChange file AnyChange) (FileChange file AnyChange) first second (λ x y s. s)
    (step_on file AnyChange AnyChange AnyChange (λ x y z s t. tt))

-- ---- changes within a set of files

-- a change of one file of a set
pub step_within : (mine : FileName → Bool) (file : FileName) (R : Option Bytes → Option Bytes → Type 0) (a b : View) → mine file ≡ true
    → Changes (FileChange file R) a b → Changes (Within mine) a b
step_within mine file R a b is change =
    changes_as a b (FileChange file R) (Within mine) change
    (λ x y step name not_mine. step.others name (λ same. both_ways (sym is ∙ ap mine (sym same) ∙ not_mine)))
  where
    both_ways : true ≡ false → ⊥
    both_ways e = cc

-- and another change of that set
pub within_on : (mine : FileName → Bool) (a b c : View) → Changes (Within mine) a b → Changes (Within mine) b c → Changes (Within mine) a c
within_on mine a b c first second =
    changes_on a b c (Within mine) (Within mine) (Within mine) first second (λ x y s. s)
    (λ x y z s t name not_mine. t name not_mine ∙ s name not_mine)

-- ---- what each image has

-- what each image has stays, where the change keeps it
pub each_on : (a b : View) (S : Relation) (P : Folder → Type 0) → Changes S a b → ((x y : Folder) → S x y → P x → P y) → Each a P → Each b P
each_on a b S P change keeps each c now = let d = change.image c now in keeps d.0 c d.2 (each d.0 d.1)

-- at each moment within a change from images that have P, what a crash leaves has Q
pub at_each_moment : (a b : View) (S : Relation) (P Q : Folder → Type 0) → IsSound a → Changes S a b → Each a P → ((x y : Folder) → P x → S x y → Q y)
    → Changes (λ x y. Q y) a b
at_each_moment a b S P Q sound change each leads = changes_among a b P S (λ x y. Q y) sound each change leads

-- and so on over the next change
pub then_each_moment : (a b c : View) (Q : Folder → Type 0) → Changes (λ x y. Q y) a b → Changes (λ x y. Q y) b c → Changes (λ x y. Q y) a c
then_each_moment a b c Q first second = changes_on a b c (λ x y. Q y) (λ x y. Q y) (λ x y. Q y) first second (λ x y q. q) (λ x y z q r. r)
