-- Moves after moves, and moves that are made where a table's maps pass a test.
use Rattle.std.proofs.Common.{◌≡◌, ◌<◌, ◌≤◌, ◌-◌, ◌+◌, ℕ, zero, suc, Bool, true, false, cond, nat_eq, List, [], ◌∷◌, slice_get, Option, None, Some, Result, Ok, Err, refl, sym, ap, subst, ◌∙◌, arith}
use Rattle.std.specs.Prelude.{IfErr, OnOk}
use Rattle.std.proofs.lemmas.Bool.Decides.{nat_tests}
use Rattle.std.specs.Option.{option_map_or}
use Rattle.sasi_host.proofs.ChangeLaws.{changes_on, stays}
use Rattle.sasi_host.specs.Disk.{Changes, Same}
use Rattle.sasi_host.specs.View.{FailedAtLast, IsSound, View}
use Rattle.sasi_cells.specs.declared.mutation.Mutation.{Mutation}
use Rattle.sasi_layout.proofs.Trails.{moves_early, moves_none, moves_on}
use Rattle.sasi_layout.specs.Between.{Between}
use Rattle.sasi_layout.specs.Layout.{Layout, TableParts, unflushed}
use Rattle.sasi_layout.specs.Moves.{Flush, Move, Put, after_moves, after_put}
use Rattle.sasi_layout.specs.Serving.{CanChange, Serves, StoreInMemory, TableInMemory, table_in_memory}
use Rattle.sasi_layout.specs.Spent.{spent}
use Rattle.sasi_layout.specs.Statements.{flush_where, numbered, tests_unflushed}
use Rattle.sasi_layout.specs.declared.number_kind.NumberKind.{NumberKind}
use Rattle.sasi_model.specs.Abbreviations.{Partitions}
use Rattle.sasi_recover.specs.OpenedFolder.{AnyFolderChange}
use Rattle.sasi_tables.specs.Faults.{OnSpent, StepCauses}
use Rattle.sasi_tables.specs.Held.{unflushed_maps}
use Rattle.sasi_tables.specs.MakesMoves.{MakesMoves, MovesOf}
use Rattle.sasi_tables.specs.declared.fault.StepFault.{StepFault}
use Rattle.sasi_tables.specs.declared.fault.StepFault.TheVariants as fault
use Rattle.sasi_tables.proofs.MoveCauses.{any_change, none_made}
use Rattle.sasi_tables.proofs.ListedFrames.{keeps_on, keeps_same, same_used, used_on}
use Rattle.sasi_tables.proofs.TablesInMemory.{seen_as}

-- ---- a mutation, and moves after it

-- further causes
causes_on : {T U : Type 0} (a b c : View) (x : T) (result : Result U StepFault) → StepCauses {T = T} a b (Ok x) → StepCauses b c result → StepCauses a c result
causes_on a b c x (Ok y) first second = record { disk = omega (arith, first.disk, second.disk); out = second.out ∙ first.out; ok = second.ok ∙ first.ok; failed = tt; others = tt }
causes_on a b c x (Err e) first second = record {
  disk = omega (arith, first.disk, second.disk);
  out = second.out ∙ first.out;
  ok = tt;
  failed = λ same. subst (λ (n : ℕ). FailedAtLast n c.disk_faults c.failed_last) first.ok (second.failed same);
  others = λ other. second.others other ∙ first.ok;
}

changes_both : (a b c : View) → Changes AnyFolderChange a b → Changes AnyFolderChange b c → Changes AnyFolderChange a c
changes_both a b c first second = changes_on a b c AnyFolderChange AnyFolderChange AnyFolderChange first second (λ x y step. tt) (λ x y z one two. tt)

none_spent : (kind : NumberKind) → None ≡ Some kind → ⊥
none_spent kind e = cc

module _ (m : Mutation) (more : MovesOf) where
  abbrev pub both : MovesOf
  both l = Put m ∷ more (after_put m l)

  -- the mutation wasn't put
  pub put_alone : {T : Type 0} (a b : View) (old new : StoreInMemory) (e : StepFault) → MakesMoves {T = T} (λ l. Put m ∷ []) a b old new (Err e) → {U : Type 0} → MakesMoves {T = U} both a b old new (Err e)
  put_alone a b old new e first = record {
    exactly = tt;
    any_moment = λ l serves. moves_early l a b (Put m ∷ []) (more (after_put m l)) (first.any_moment l serves);
    serves = tt;
    ready = tt;
    unspent = tt;
    spent_is = by e first.spent_is;
    undamaged = first.undamaged;
    present = first.present;
    changes = first.changes;
    files_stay = first.files_stay;
    listed_stay = tt;
    numbers_stay = tt;
    reads = first.reads;
    causes = record { disk = first.causes.disk; out = first.causes.out; ok = tt; failed = first.causes.failed; others = first.causes.others };
  }
    where
      by : (e : StepFault) → OnSpent (λ kind. (l : Layout) → Serves a old l → spent l (Put m ∷ []) ≡ Some kind) e → OnSpent (λ kind. (l : Layout) → Serves a old l → spent l (both l) ≡ Some kind) e
      by fault.Failed is = tt
      by fault.OutOfMemory is = tt
      by (fault.Damaged damage) is = tt
      by (fault.NumbersSpent kind) is = λ l serves. absurd (none_spent kind (is l serves))
      by (fault.AnalyzerMissing class) is = tt

  -- it was, and these moves come after it
  pub put_then : {T U : Type 0} (x : T) (a b c : View) (old mid new : StoreInMemory) (result : Result U StepFault) → MakesMoves {T = T} (λ l. Put m ∷ []) a b old mid (Ok x) → MakesMoves more b c mid new result → MakesMoves both a c old new result
  put_then x a b c old mid new result first second = record {
    exactly = by_ok result (λ all aside are has. (let mid_has = first.exactly aside are has in all aside mid_has.0 mid_has.1)) second.exactly;
    any_moment = λ l serves. moves_on l a b c (Put m ∷ []) (more (after_put m l)) (first.any_moment l serves) (second.any_moment (after_put m l) (first.serves l serves));
    serves = by_ok result (λ all l serves. all (after_put m l) (first.serves l serves)) second.serves;
    ready = second.ready;
    unspent = by_ok result (λ all l serves. all (after_put m l) (first.serves l serves)) second.unspent;
    spent_is = by_spent result second.spent_is;
    undamaged = second.undamaged;
    present = second.present;
    changes = changes_both a b c first.changes second.changes;
    files_stay = used_on a b c old.used.«data» mid.used.«data» first.numbers_stay first.files_stay second.files_stay;
    listed_stay = by_ok result (keeps_on old.used.«data» mid.used.«data» new.used.«data» old.manifest.listing mid.manifest.listing new.manifest.listing first.numbers_stay first.listed_stay) second.listed_stay;
    numbers_stay = by_ok result (λ higher. (let before : old.used.«data» ≤ mid.used.«data» = first.numbers_stay in omega (arith, before, higher))) second.numbers_stay;
    reads = second.reads ∙ first.reads;
    causes = causes_on a b c x result first.causes second.causes;
  }
    where
      by_ok : {V P Q : Type 0} (r : Result V StepFault) → (P → Q) → OnOk r P → OnOk r Q
      by_ok (Ok y) f p = f p
      by_ok (Err e) f p = tt

      by_fault : (e : StepFault) → OnSpent (λ kind. (l : Layout) → Serves b mid l → spent l (more l) ≡ Some kind) e → OnSpent (λ kind. (l : Layout) → Serves a old l → spent l (both l) ≡ Some kind) e
      by_fault fault.Failed is = tt
      by_fault fault.OutOfMemory is = tt
      by_fault (fault.Damaged damage) is = tt
      by_fault (fault.NumbersSpent kind) is = λ l serves. is (after_put m l) (first.serves l serves)
      by_fault (fault.AnalyzerMissing class) is = tt

      by_spent : {V : Type 0} (r : Result V StepFault) → IfErr r (OnSpent (λ kind. (l : Layout) → Serves b mid l → spent l (more l) ≡ Some kind)) → IfErr r (OnSpent (λ kind. (l : Layout) → Serves a old l → spent l (both l) ≡ Some kind))
      by_spent (Ok y) is = tt
      by_spent (Err e) is = by_fault e is

-- ---- a test of a table's maps

numbered_behind : {A : Type 0} (n at : ℕ) (xs : List A) (x : A) → slice_get xs at ≡ Some x → numbered n (n + at) xs ≡ Some x
numbered_behind n at [] x there = cc
numbered_behind n zero (y ∷ xs) x there =
    let here : nat_eq n (n + 0) ≡ true = grind (arith, nat_tests) in
    ap (λ b. cond b (Some y) (numbered (suc n) (n + 0) xs)) here ∙ there
numbered_behind n (suc at) (y ∷ xs) x there =
    let other : nat_eq n (n + suc at) ≡ false = grind (arith, nat_tests) in
    let number : suc n + at ≡ n + suc at = omega arith in
    ap (λ b. cond b (Some y) (numbered (suc n) (n + suc at) xs)) other ∙ ap (λ (k : ℕ). numbered (suc n) k xs) (sym number) ∙ numbered_behind (suc n) at xs x there

pub numbered_at : {A : Type 0} (number : ℕ) (xs : List A) (x : A) → 0 < number → slice_get xs (number - 1) ≡ Some x → numbered 1 number xs ≡ Some x
numbered_at number xs x some there =
    let e : 1 + (number - 1) ≡ number = omega (arith, some) in
    ap (λ (k : ℕ). numbered 1 k xs) (sym e) ∙ numbered_behind 1 (number - 1) xs x there

module _ (test : List Partitions → Bool) (table : ℕ) (v : View) (store : StoreInMemory) (h : TableInMemory) (some : 0 < table) (there : slice_get store.tables (table - 1) ≡ Some h) where
  -- the test of the layout is that of the store
  pub tests_are : (l : Layout) → Serves v store l → tests_unflushed test table l ≡ test (unflushed_maps h)
  tests_are l serves =
      let t = seen_as table_in_memory l.tables (table - 1) h (ap (λ (ts : List TableInMemory). slice_get ts (table - 1)) (sym serves.tables) ∙ there) in
      ap (λ (o : Option TableParts). option_map_or (λ t. test (unflushed t)) o false) (numbered_at table l.tables t.0 some t.1) ∙ ap (λ (k : TableInMemory). test (unflushed_maps k)) t.2

  moves_where : (b : Bool) → test (unflushed_maps h) ≡ b → (l : Layout) → Serves v store l → flush_where test table l ≡ cond b (Flush table ∷ []) []
  moves_where b is l serves = ap (λ t. cond t (Flush table ∷ []) []) (tests_are l serves ∙ is)

  abbrev done : Result (Unit {0}) StepFault
  done = Ok tt

  -- it doesn't pass: no move
  pub passes_not : IsSound v → CanChange v store → test (unflushed_maps h) ≡ false → MakesMoves (flush_where test table) v v store store done
  passes_not sound ready is = record {
    exactly = λ aside are has. (are, has);
    any_moment = λ l serves. moves_none l v (flush_where test table l) sound (λ x now. (_, serves.shape x now));
    serves = λ l serves. subst (λ (ms : List Move). Serves v store (after_moves ms l)) (sym (moves_where false is l serves)) serves;
    ready = ready;
    unspent = λ l serves. ap (spent l) (moves_where false is l serves);
    spent_is = tt;
    undamaged = tt;
    present = tt;
    changes = any_change Same v v (stays v);
    files_stay = same_used store.used.«data» v v (stays v);
    listed_stay = keeps_same store.used.«data» store.used.«data» store.manifest.listing (omega arith);
    numbers_stay = omega arith;
    reads = refl;
    causes = none_made v done (λ e is. cc);
  }

  -- it does: a flush
  pub passes : {T : Type 0} (b : View) (new : StoreInMemory) (result : Result T StepFault) → test (unflushed_maps h) ≡ true → MakesMoves (λ l. Flush table ∷ []) v b store new result → MakesMoves (flush_where test table) v b store new result
  passes b new result is makes = record {
    exactly = makes.exactly;
    any_moment = λ l serves. subst (λ (ms : List Move). Changes (λ x y. Between l ms y) v b) (sym (moves_where true is l serves)) (makes.any_moment l serves);
    serves = by_ok result (λ all l serves. subst (λ (ms : List Move). Serves b new (after_moves ms l)) (sym (moves_where true is l serves)) (all l serves)) makes.serves;
    ready = makes.ready;
    unspent = by_ok result (λ all l serves. ap (spent l) (moves_where true is l serves) ∙ all l serves) makes.unspent;
    spent_is = by_spent result makes.spent_is;
    undamaged = makes.undamaged;
    present = makes.present;
    changes = makes.changes;
    files_stay = makes.files_stay;
    listed_stay = makes.listed_stay;
    numbers_stay = makes.numbers_stay;
    reads = makes.reads;
    causes = makes.causes;
  }
    where
      by_ok : {V P Q : Type 0} (r : Result V StepFault) → (P → Q) → OnOk r P → OnOk r Q
      by_ok (Ok y) f p = f p
      by_ok (Err e) f p = tt

      by_fault : (e : StepFault) → OnSpent (λ kind. (l : Layout) → Serves v store l → spent l (Flush table ∷ []) ≡ Some kind) e → OnSpent (λ kind. (l : Layout) → Serves v store l → spent l (flush_where test table l) ≡ Some kind) e
      by_fault fault.Failed is_spent = tt
      by_fault fault.OutOfMemory is_spent = tt
      by_fault (fault.Damaged damage) is_spent = tt
      by_fault (fault.NumbersSpent kind) is_spent = λ l serves. ap (spent l) (moves_where true is l serves) ∙ is_spent l serves
      by_fault (fault.AnalyzerMissing class) is_spent = tt

      by_spent : {V : Type 0} (r : Result V StepFault) → IfErr r (OnSpent (λ kind. (l : Layout) → Serves v store l → spent l (Flush table ∷ []) ≡ Some kind)) → IfErr r (OnSpent (λ kind. (l : Layout) → Serves v store l → spent l (flush_where test table l) ≡ Some kind))
      by_spent (Ok y) is_spent = tt
      by_spent (Err e) is_spent = by_fault e is_spent
