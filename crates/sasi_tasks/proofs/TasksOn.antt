-- The tasks of a layout after a step of one of them.
use Rattle.std.proofs.Common.{◌≡◌, ◌∙◌, ◌+◌, ◌-◌, ◌<◌, ℕ, zero, suc, Bool, true, false, cond, if◌then◌else◌, is_some, nat_eq, nat_lt, not, List, [], ◌∷◌, ◌++◌, length, slice_get, Option, None, Some, append_assoc, length-append, refl, sym, ap, subst, arith}
use Rattle.std.proofs.lemmas.Bool.Decides.{nat_tests}
use Rattle.std.specs.FinMap as map_
use Rattle.std.specs.List.{AllByRecursion, find, slice_set}
use Rattle.std.specs.Option.{option_map_or}
use Rattle.sasi_host.specs.View.{View}
use Rattle.sasi_merge.specs.Streams.{Entries}
use Rattle.sasi_compact.proofs.SomeLeft.{some_left}
use Rattle.sasi_compact.specs.Tasks.{IsCompactingTo}
use Rattle.sasi_compact.specs.Tasks as task_
use Rattle.sasi_compact.specs.declared.compaction.Compaction as lower
use Rattle.sasi_compact.specs.declared.output.Output.{Output}
use Rattle.sasi_compact.specs.declared.task.CompactTask.{CompactTask}
use Rattle.sasi_layout.specs.Compacting.{Compaction}
use Rattle.sasi_layout.specs.Layout.{Layout}
use Rattle.sasi_layout.specs.Moves.{Compact, Move}
use Rattle.sasi_tasks.specs.Running.{AreApart, AreTasksOf, IsApartFrom, IsTaskOf, numbers_of}
use Rattle.sasi_tasks.specs.Tasks.{Task, advanced, end_moves, ends_in, is_of, keys_left, running, step_moves, without}
use Rattle.sasi_tasks.specs.declared.running.RunningTask.{RunningTask}
use Rattle.sasi_tasks.proofs.PassingAll.{PassesSome}
use Rattle.sasi_tasks.proofs.SteppedTasks.{number_of, stepped}

never : true ≡ false → ⊥
never e = cc

-- ---- the first one of a table has passed so many keys

abbrev pub going_on : ℕ → (Task → ℕ) → List Task → List Task
going_on table f [] = []
going_on table f (k ∷ ks) = if is_of table k then record k { passed = f k } ∷ ks else k ∷ going_on table f ks

-- what ends, of the one that is found
abbrev ends_with : Option Task → List Move
ends_with found = option_map_or (λ (k : Task). Compact k.compaction ∷ []) found []

module _ (table : ℕ) (f : Task → ℕ) where
  gone_on : (k : Task) (ks : List Task) (t : Bool) → is_of table k ≡ t → going_on table f (k ∷ ks) ≡ (if t then record k { passed = f k } ∷ ks else k ∷ going_on table f ks)
  gone_on k ks t is = ap (λ b. if b then record k { passed = f k } ∷ ks else k ∷ going_on table f ks) is

  -- it is still the one that runs there,
  pub same_end : (ks : List Task) → end_moves table (going_on table f ks) ≡ end_moves table ks
  same_end [] = refl
  same_end (k ∷ ks) = by (is_of table k) refl (same_end ks)
    where
      by : (t : Bool) → is_of table k ≡ t → end_moves table (going_on table f ks) ≡ end_moves table ks → end_moves table (going_on table f (k ∷ ks)) ≡ end_moves table (k ∷ ks)
      by true is rest = ap (end_moves table) (gone_on k ks true is) ∙ ap (λ b. ends_with (cond b (Some (record k { passed = f k })) (find (is_of table) ks))) is ∙ sym (ap (λ b. ends_with (cond b (Some k) (find (is_of table) ks))) is)
      by false is rest = ap (end_moves table) (gone_on k ks false is) ∙ ap (λ b. ends_with (cond b (Some k) (find (is_of table) (going_on table f ks)))) is ∙ rest ∙ sym (ap (λ b. ends_with (cond b (Some k) (find (is_of table) ks))) is)

  -- and the others are the others
  pub same_without : (ks : List Task) → without table (going_on table f ks) ≡ without table ks
  same_without [] = refl
  same_without (k ∷ ks) = by (is_of table k) refl (same_without ks)
    where
      by : (t : Bool) → is_of table k ≡ t → without table (going_on table f ks) ≡ without table ks → without table (going_on table f (k ∷ ks)) ≡ without table (k ∷ ks)
      by true is rest = ap (without table) (gone_on k ks true is) ∙ ap (λ b. cond (not b) (record k { passed = f k } ∷ without table ks) (without table ks)) is ∙ sym (ap (λ b. cond (not b) (k ∷ without table ks) (without table ks)) is)
      by false is rest =
          ap (without table) (gone_on k ks false is) ∙ ap (λ b. cond (not b) (k ∷ without table (going_on table f ks)) (without table (going_on table f ks))) is ∙ ap (λ (xs : List Task). k ∷ xs) rest
          ∙ sym (ap (λ b. cond (not b) (k ∷ without table ks) (without table ks)) is)

-- ---- the task at a position

same_table : (v : View) (l : Layout) (x : RunningTask) (k : Task) (table : ℕ) → IsTaskOf v l x k → is_of table k ≡ nat_eq x.table table
same_table v l x k table of = ap (λ (c : Compaction). nat_eq c.table table) of.is

own_of : (v : View) (l : Layout) (x r : RunningTask) (k : Task) → x ≡ r → IsTaskOf v l x k → is_of r.table k ≡ true
own_of v l x r k one of =
    let same : x.table ≡ r.table = ap (λ (o : RunningTask). o.table) one in
    let is : nat_eq x.table r.table ≡ true = grind (arith, nat_tests, same) in
    same_table v l x k r.table of ∙ is

other_of : (v : View) (l : Layout) (x r : RunningTask) (k : Task) → (x.table ≡ r.table → ⊥) → IsTaskOf v l x k → is_of r.table k ≡ false
other_of v l x r k apart of = (let is : nat_eq x.table r.table ≡ false = grind (arith, nat_tests, apart) in same_table v l x k r.table of ∙ is)

table_apart : (x r : RunningTask) (rs : List RunningTask) (at : ℕ) → slice_get rs at ≡ Some r → IsApartFrom rs x → x.table ≡ r.table → ⊥
table_apart x r [] at there apart = cc
table_apart x r (o ∷ rs) zero there apart = (let one : o ≡ r = cc in λ same. apart.0.0 (ap (λ (k : RunningTask). k.table) one ∙ sym same))
table_apart x r (o ∷ rs) (suc at) there apart = table_apart x r rs at there apart.1

module _ (v : View) (l : Layout) (r : RunningTask) where
  -- the one that runs in its table is its own
  pub own_running : (rs : List RunningTask) (ks : List Task) (at : ℕ) → AreApart rs → AreTasksOf v l rs ks → slice_get rs at ≡ Some r → (k : Task) × (running r.table ks ≡ Some k) × IsTaskOf v l r k
  own_running [] ks at apart are there = cc
  own_running (x ∷ rs) [] at apart are there = absurd are
  own_running (x ∷ rs) (k ∷ ks) zero apart are there =
      let one : x ≡ r = cc in
      (k, ap (λ b. cond b (Some k) (find (is_of r.table) ks)) (own_of v l x r k one are.0), subst (λ (o : RunningTask). IsTaskOf v l o k) one are.0)
  own_running (x ∷ rs) (k ∷ ks) (suc at) apart are there =
      let rest = own_running rs ks at apart.1 are.1 there in
      (rest.0, ap (λ b. cond b (Some k) (find (is_of r.table) ks)) (other_of v l x r k (table_apart x r rs at there apart.0) are.0) ∙ rest.1, rest.2)

  none_without : (rs : List RunningTask) (ks : List Task) → IsApartFrom rs r → AreTasksOf v l rs ks → without r.table ks ≡ ks
  none_without [] [] apart are = refl
  none_without [] (k ∷ ks) apart are = absurd are
  none_without (x ∷ rs) [] apart are = absurd are
  none_without (x ∷ rs) (k ∷ ks) apart are = ap (λ b. cond (not b) (k ∷ without r.table ks) (without r.table ks)) (other_of v l x r k apart.0.0 are.0) ∙ ap (λ (xs : List Task). k ∷ xs) (none_without rs ks apart.1 are.1)

  -- where it ends within the units, the others are left
  pub ended : (units : ℕ) (rs : List RunningTask) (ks : List Task) (at : ℕ) (k : Task) → AreApart rs → AreTasksOf v l rs ks → slice_get rs at ≡ Some r → running r.table ks ≡ Some k → ends_in units l k ≡ true → advanced r.table units l ks ≡ without r.table ks
  ended units [] ks at k apart are there found ends = cc
  ended units (x ∷ rs) [] at k apart are there found ends = absurd are
  ended units (x ∷ rs) (m ∷ ks) zero k apart are there found ends =
      let one : x ≡ r = cc in
      let own = own_of v l x r m one are.0 in
      let is : Some m ≡ Some k = sym (ap (λ b. cond b (Some m) (find (is_of r.table) ks)) own) ∙ found in
      let same : m ≡ k = cc in
      ap (λ b. if b then (if ends_in units l m then ks else record m { passed = m.passed + units } ∷ ks) else m ∷ advanced r.table units l ks) own
      ∙ ap (λ (o : Task). if ends_in units l o then ks else record m { passed = m.passed + units } ∷ ks) same ∙ ap (λ b. if b then ks else record m { passed = m.passed + units } ∷ ks) ends
      ∙ sym (none_without rs ks (subst (IsApartFrom rs) one apart.0) are.1) ∙ sym (ap (λ b. cond (not b) (m ∷ without r.table ks) (without r.table ks)) own)
  ended units (x ∷ rs) (m ∷ ks) (suc at) k apart are there found ends =
      let other = other_of v l x r m (table_apart x r rs at there apart.0) are.0 in
      ap (λ b. if b then (if ends_in units l m then ks else record m { passed = m.passed + units } ∷ ks) else m ∷ advanced r.table units l ks) other
      ∙ ap (λ (xs : List Task). m ∷ xs) (ended units rs ks at k apart.1 are.1 there (sym (ap (λ b. cond b (Some m) (find (is_of r.table) ks)) other) ∙ found) ends)
      ∙ sym (ap (λ b. cond (not b) (m ∷ without r.table ks) (without r.table ks)) other)

-- where it doesn't, it has passed so many more
pub not_ended : (table units : ℕ) (l : Layout) (ks : List Task) (k : Task) → running table ks ≡ Some k → ends_in units l k ≡ false → advanced table units l ks ≡ going_on table (λ (o : Task). o.passed + units) ks
not_ended table units l [] k found ends = cc
not_ended table units l (m ∷ ks) k found ends = by (is_of table m) refl (λ behind. not_ended table units l ks k behind ends)
  where
    by : (t : Bool) → is_of table m ≡ t → (running table ks ≡ Some k → advanced table units l ks ≡ going_on table (λ (o : Task). o.passed + units) ks) → advanced table units l (m ∷ ks) ≡ going_on table (λ (o : Task). o.passed + units) (m ∷ ks)
    by true own rest =
        let is : Some m ≡ Some k = sym (ap (λ b. cond b (Some m) (find (is_of table) ks)) own) ∙ found in
        let same : m ≡ k = cc in
        ap (λ b. if b then (if ends_in units l m then ks else record m { passed = m.passed + units } ∷ ks) else m ∷ advanced table units l ks) own
        ∙ ap (λ (o : Task). if ends_in units l o then ks else record m { passed = m.passed + units } ∷ ks) same ∙ ap (λ b. if b then ks else record m { passed = m.passed + units } ∷ ks) ends
        ∙ sym (gone_on table (λ (o : Task). o.passed + units) m ks true own)
    by false other rest =
        ap (λ b. if b then (if ends_in units l m then ks else record m { passed = m.passed + units } ∷ ks) else m ∷ advanced table units l ks) other
        ∙ ap (λ (xs : List Task). m ∷ xs) (rest (sym (ap (λ b. cond b (Some m) (find (is_of table) ks)) other) ∙ found))
        ∙ sym (gone_on table (λ (o : Task). o.passed + units) m ks false other)

-- the moves of a step, by whether it ends
pub step_moves_are : (table units : ℕ) (l : Layout) (ks : List Task) (k : Task) (t : Bool) → running table ks ≡ Some k → ends_in units l k ≡ t → step_moves table units l ks ≡ (if t then end_moves table ks else [])
step_moves_are table units l ks k t found ends =
    ap (λ (o : Option Task). option_map_or (λ (m : Task). if ends_in units l m then Compact m.compaction ∷ [] else []) o []) found ∙ ap (λ b. if b then Compact k.compaction ∷ [] else []) ends
    ∙ ap (λ (ms : List Move). if t then ms else []) (sym (ap ends_with found))

-- ---- the task itself

-- how many keys are left to it
pub left_of : (v : View) (l : Layout) (r : RunningTask) (k : Task) → (of : IsTaskOf v l r k) → keys_left l k ≡ length of.left
left_of v l r k of =
    let all = ap length (sym of.whole) ∙ length-append of.passed of.left in
    omega (arith, all, of.passed_is)

module _ (a b : View) (l : Layout) (r : RunningTask) (k : Task) (of : IsTaskOf a l r k) (can : task_.CanGoOn a r.task) (task : CompactTask) (same : task.compaction ≡ r.task.compaction)
    (some : PassesSome b task of.passed of.left) (moved : 0 < length of.left → 0 < length some.more) where
  -- one key is passed at least
  positive : 0 < length (of.passed ++ some.more)
  positive = by r.task.output refl of.compacting
    where
      count : length (of.passed ++ some.more) ≡ length of.passed + length some.more
      count = length-append of.passed some.more

      by : (o : Option Output) → r.task.output ≡ o → IsCompactingTo a r.task.compaction o of.passed of.left → 0 < length (of.passed ++ some.more)
      by None none all = omega (arith, count, moved (some_left a.files r.task.compaction of.passed of.left can.can all))
      by (Some o) begun all =
          let before : nat_lt 0 k.passed ≡ true = sym of.begun ∙ ap (λ (x : Option Output). is_some x) begun in
          let larger : 0 < k.passed = grind (arith, nat_tests, before) in
          omega (arith, count, larger, of.passed_is)

  has_output : is_some task.output ≡ true
  has_output = by task.output some.compacting
    where
      by : (o : Option Output) → IsCompactingTo b task.compaction o (of.passed ++ some.more) some.rest → is_some o ≡ true
      by None all = absurd (let none = ap length all.none_passed in omega (arith, positive, none))
      by (Some o) all = refl

  -- **It is the same task of the layout, with more keys passed.**
  pub own_task : (n : ℕ) → k.passed + length some.more ≡ n → IsTaskOf b l (stepped r task) (record k { passed = n })
  own_task n is = record {
    is = of.is ∙ ap (λ (c : lower.Compaction). record { table = r.table; output = c.number; sources = c.sources; indexes = numbers_of c.indexes }) (sym same);
    runs = of.runs;
    passed = of.passed ++ some.more;
    left = some.rest;
    compacting = some.compacting;
    passed_is = count;
    whole = append_assoc of.passed some.more some.rest ∙ ap (λ (es : Entries). of.passed ++ es) some.parts ∙ of.whole;
    begun = has_output ∙ sym larger;
  }
    where
      count : length (of.passed ++ some.more) ≡ n
      count = omega (arith, length-append of.passed some.more, of.passed_is, is)

      larger : nat_lt 0 n ≡ true
      larger = (let more : 0 < n = omega (arith, positive, count) in grind (arith, nat_tests, more))

-- ---- all of them

module _ (a b : View) (l : Layout) (r : RunningTask) (task : CompactTask) (f : Task → ℕ) (P : RunningTask → Type 0) (own : (k : Task) → IsTaskOf a l r k → IsTaskOf b l (stepped r task) (record k { passed = f k }))
    (step : (o : RunningTask) (k : Task) → (number_of o ≡ number_of r → ⊥) → P o → IsTaskOf a l o k → IsTaskOf b l o k) where
  others_are : (rs : List RunningTask) (ks : List Task) → IsApartFrom rs r → AllByRecursion P rs → AreTasksOf a l rs ks → AreTasksOf b l rs ks
  others_are [] [] apart all are = tt
  others_are [] (k ∷ ks) apart all are = absurd are
  others_are (o ∷ rs) [] apart all are = absurd are
  others_are (o ∷ rs) (k ∷ ks) apart all are = (step o k apart.0.1 all.0 are.0, others_are rs ks apart.1 all.1 are.1)

  number_apart : (x : RunningTask) (rs : List RunningTask) (at : ℕ) → slice_get rs at ≡ Some r → IsApartFrom rs x → number_of x ≡ number_of r → ⊥
  number_apart x [] at there apart = cc
  number_apart x (o ∷ rs) zero there apart = (let one : o ≡ r = cc in λ same. apart.0.1 (ap (λ (k : RunningTask). number_of k) one ∙ sym same))
  number_apart x (o ∷ rs) (suc at) there apart = number_apart x rs at there apart.1

  -- **They are those of the layout, with the one gone on.**
  pub tasks_on : (rs : List RunningTask) (ks : List Task) (at : ℕ) → slice_get rs at ≡ Some r → AreApart rs → AllByRecursion P rs → AreTasksOf a l rs ks → AreTasksOf b l (slice_set rs at (stepped r task)) (going_on r.table f ks)
  tasks_on [] ks at there apart all are = cc
  tasks_on (x ∷ rs) [] at there apart all are = absurd are
  tasks_on (x ∷ rs) (k ∷ ks) zero there apart all are =
      let one : x ≡ r = cc in
      subst (λ (ms : List Task). AreTasksOf b l (stepped r task ∷ rs) ms) (sym (gone_on r.table f k ks true (own_of a l x r k one are.0)))
      (own k (subst (λ (o : RunningTask). IsTaskOf a l o k) one are.0), others_are rs ks (subst (IsApartFrom rs) one apart.0) all.1 are.1)
  tasks_on (x ∷ rs) (k ∷ ks) (suc at) there apart all are =
      subst (λ (ms : List Task). AreTasksOf b l (x ∷ slice_set rs at (stepped r task)) ms) (sym (gone_on r.table f k ks false (other_of a l x r k (table_apart x r rs at there apart.0) are.0)))
      (step x k (number_apart x rs at there apart.0) all.0 are.0, tasks_on rs ks at there apart.1 all.1 are.1)
