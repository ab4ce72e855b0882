-- What a reader's call gives and costs, once the values of its row are picked.
use Rattle.std.proofs.Common.{◌≡◌, ℕ, zero, suc, Bool, true, false, cond, List, [], ◌∷◌, map, Option, None, Some, Result, Ok, Err, IfErr, IfOk, OnOk, inl, inr, refl, sym, ap, subst, ◌∙◌, arith}
use Rattle.std.proofs.lemmas.Bool.{and_parts}
use Rattle.std.specs.List.{AllByRecursion, filter}
use Rattle.sasi_types.specs.declared.class.Class.{Class}
use Rattle.sasi_types.specs.declared.value.Value.{Value}
use Rattle.sasi_host.specs.declared.damage.Damage.{Damage}
use Rattle.sasi_host.specs.declared.fault.ReadFault.{ReadFault}
use Rattle.sasi_host.specs.declared.fault.ReadFault.TheVariants as read_fault
use Rattle.sasi_host.specs.Names.{Folder}
use Rattle.sasi_host.specs.View.{View}
use Rattle.sasi_cells.specs.declared.picked.Picked.{Picked}
use Rattle.sasi_cells.specs.Rows as cells
use Rattle.sasi_memindex.specs.Book.{Book}
use Rattle.sasi_model.specs.Cells.{Partition, is_live}
use Rattle.sasi_model.specs.Filters.{Filter, accepts, answers, where_of}
use Rattle.sasi_ranges.specs.StreamCalls.{Spends, StreamFaults}
use Rattle.sasi_candidates.specs.Checks.{given, given_of}
use Rattle.sasi_recheck.specs.Rows.{RecheckView}
use Rattle.sasi_recheck.specs.Sources.{Candidate}
use Rattle.sasi_plan.specs.declared.plan_fault.PlanFault.{PlanFault}
use Rattle.sasi_plan.specs.declared.plan_fault.PlanFault.TheVariants as fault
use Rattle.sasi_plan.specs.Answers.{CountsTo, GivesNext, RowsLeft, row_of}
use Rattle.sasi_plan.specs.Faults.{GivesPicked, IsPickedOf, OnPlanMissing, RowFaults, SpendsRow, fault_of_read, picked_values}

-- ---- a row that is given is there

abbrev IsThereRow : List ℕ × Partition → Type 0
IsThereRow row = is_live row.1 ≡ true

all_there : (f : Filter) (left : List Candidate) → AllByRecursion IsThereRow (map row_of (filter (answers f) left))
all_there f [] = tt
all_there f (e ∷ left) = by (answers f e) refl (all_there f left)
  where
    by : (b : Bool) → answers f e ≡ b → AllByRecursion IsThereRow (map row_of (filter (answers f) left)) → AllByRecursion IsThereRow (map row_of (cond b (e ∷ filter (answers f) left) (filter (answers f) left)))
    by true is rest = ((and_parts (is_live e.1) (accepts f e.0.key e.1) is).0, rest)
    by false is rest = rest

some_there : (f : Filter) (n : ℕ) (left : List Candidate) → AllByRecursion IsThereRow (map row_of (given_of n (answers f) left))
some_there f zero left = tt
some_there f (suc n) [] = tt
some_there f (suc n) (e ∷ left) = by (answers f e) refl (some_there f n left) (some_there f (suc n) left)
  where
    by : (b : Bool) → answers f e ≡ b → AllByRecursion IsThereRow (map row_of (given_of n (answers f) left)) → AllByRecursion IsThereRow (map row_of (given_of (suc n) (answers f) left))
        → AllByRecursion IsThereRow (map row_of (cond b (e ∷ given_of n (answers f) left) (given_of (suc n) (answers f) left)))
    by true is one other = ((and_parts (is_live e.1) (accepts f e.0.key e.1) is).0, one)
    by false is one other = other

given_there : (f : Filter) (limit : Option ℕ) (left : List Candidate) → AllByRecursion IsThereRow (map row_of (given limit (answers f) left))
given_there f None left = all_there f left
given_there f (Some n) left = some_there f n left

first_there : (f : Filter) (limit : Option ℕ) (left : List Candidate) (row : List ℕ × Partition) (others : List (List ℕ × Partition)) → map row_of (given limit (answers f) left) ≡ row ∷ others → is_live row.1 ≡ true
first_there f limit left row others is = (let all : AllByRecursion IsThereRow (row ∷ others) = subst (AllByRecursion IsThereRow) is (given_there f limit left) in all.0)

module _ (picked : Picked) where
  picked_there : (row : List ℕ × Partition) → is_live row.1 ≡ true → cells.row_of picked.key row.0 picked.columns row.1 ≡ Some (picked_values picked row)
  picked_there row there = ap (λ b. cond b (Some (picked_values picked row)) None) there

  -- ---- what is given

  module _ (f : Filter) (limit : Option ℕ) (left : List Candidate) (Left : List (List ℕ × Partition) → Type 0) where
    abbrev first : List (List ℕ × Partition)
    first = map row_of (given limit (answers f) left)

    gives_picked : (found : Result (Option (List ℕ × Partition)) ReadFault) (result : Result (Option (List (Option Value))) PlanFault) → IsPickedOf picked found result
        → IfOk found (GivesNext Left (map row_of (given limit (answers f) left))) → IfOk result (GivesPicked picked Left (map row_of (given limit (answers f) left)))
    gives_picked (Err e) result is gives = subst (λ r. IfOk r (GivesPicked picked Left first)) (sym is) tt
    gives_picked (Ok None) result is gives = subst (λ r. IfOk r (GivesPicked picked Left first)) (sym is) gives
    gives_picked (Ok (Some row)) result (inl is) gives = subst (λ r. IfOk r (GivesPicked picked Left first)) (sym is) tt
    gives_picked (Ok (Some row)) result (inr is) gives =
        subst (λ r. IfOk r (GivesPicked picked Left first)) (sym (is ∙ ap Ok (picked_there row (first_there f limit left row gives.0 gives.1)))) (row, gives.0, gives.1, refl, gives.2)

    counted_picked : (count checked : ℕ) (found : Result (Option (List ℕ × Partition)) ReadFault) (result : Result (Option (List (Option Value))) PlanFault) → IsPickedOf picked found result
        → IfOk found (GivesNext Left (map row_of (given limit (answers f) left))) → IfOk found (λ row. row ≡ None → checked ≡ count) → IfOk result (λ row. row ≡ None → checked ≡ count)
    counted_picked count checked (Err e) result is gives all = subst (λ r. IfOk r (λ row. row ≡ None → checked ≡ count)) (sym is) tt
    counted_picked count checked (Ok None) result is gives all = subst (λ r. IfOk r (λ row. row ≡ None → checked ≡ count)) (sym is) (λ none. all refl)
    counted_picked count checked (Ok (Some row)) result (inl is) gives all = subst (λ r. IfOk r (λ row. row ≡ None → checked ≡ count)) (sym is) tt
    counted_picked count checked (Ok (Some row)) result (inr is) gives all =
        subst (λ r. IfOk r (λ row. row ≡ None → checked ≡ count)) (sym (is ∙ ap Ok (picked_there row (first_there f limit left row gives.0 gives.1)))) (λ none. cc)

  -- of the rows that are left, and of the count
  module _ {C : Type 0} (Leaves : C → Option Folder → Book → List Candidate → Type 0) (old : RecheckView C) (files : Option Folder) (book : Book) (Left : List (List ℕ × Partition) → Type 0) where
    pub picked_rows : (found : Result (Option (List ℕ × Partition)) ReadFault) (result : Result (Option (List (Option Value))) PlanFault) → IsPickedOf picked found result
        → ((rows : List (List ℕ × Partition)) → RowsLeft Leaves old files book rows → IfOk found (GivesNext Left rows)) → (rows : List (List ℕ × Partition)) → RowsLeft Leaves old files book rows
        → IfOk result (GivesPicked picked Left rows)
    picked_rows found result is gives rows left =
        let f = where_of old.filter in
        let all = map row_of (given old.rows_left (answers f) left.0) in
        subst (λ (rs : List (List ℕ × Partition)). IfOk result (GivesPicked picked Left rs)) (sym left.2) (gives_picked f old.rows_left left.0 Left found result is (gives all (left.0, left.1, refl)))

    pub picked_counted : (checked : ℕ) (found : Result (Option (List ℕ × Partition)) ReadFault) (result : Result (Option (List (Option Value))) PlanFault) → IsPickedOf picked found result
        → ((rows : List (List ℕ × Partition)) → RowsLeft Leaves old files book rows → IfOk found (GivesNext Left rows)) → ((count : ℕ) → CountsTo Leaves old files book count → IfOk found (λ row. row ≡ None → checked ≡ count))
        → (count : ℕ) → CountsTo Leaves old files book count → IfOk result (λ row. row ≡ None → checked ≡ count)
    picked_counted checked found result is gives all count left =
        let f = where_of old.filter in
        counted_picked f old.rows_left left.0 Left count checked found result is (gives (map row_of (given old.rows_left (answers f) left.0)) (left.0, left.1, refl)) (all count left)

  -- ---- what it costs and leaves

  pub ok_picked : (P : Type 0) (found : Result (Option (List ℕ × Partition)) ReadFault) (result : Result (Option (List (Option Value))) PlanFault) → IsPickedOf picked found result → OnOk found P → OnOk result P
  ok_picked P (Err e) result is on = subst (λ r. OnOk r P) (sym is) tt
  ok_picked P (Ok None) result is on = subst (λ r. OnOk r P) (sym is) on
  ok_picked P (Ok (Some row)) result (inl is) on = subst (λ r. OnOk r P) (sym is) tt
  ok_picked P (Ok (Some row)) result (inr is) on = subst (λ r. OnOk r P) (sym is) on

  pub spends_picked : (Pays : ℕ → Type 0) (most before now : ℕ) (found : Result (Option (List ℕ × Partition)) ReadFault) (result : Result (Option (List (Option Value))) PlanFault) → IsPickedOf picked found result
      → Spends Pays most before now found → SpendsRow Pays most before now result
  spends_picked Pays most before now (Err e) result is spent = subst (λ r. SpendsRow Pays most before now r) (sym is) spent
  spends_picked Pays most before now (Ok None) result is spent = subst (λ r. SpendsRow Pays most before now r) (sym is) spent
  spends_picked Pays most before now (Ok (Some row)) result (inl is) spent = subst (λ r. SpendsRow Pays most before now r) (sym is) (omega (arith, spent.2))
  spends_picked Pays most before now (Ok (Some row)) result (inr is) spent = subst (λ r. SpendsRow Pays most before now r) (sym is) spent

  -- no analyzer is missing
  pub none_missing : (P : Class → Type 0) (found : Result (Option (List ℕ × Partition)) ReadFault) (result : Result (Option (List (Option Value))) PlanFault) → IsPickedOf picked found result → IfErr result (OnPlanMissing P)
  none_missing P (Err read_fault.Failed) result is = subst (λ r. IfErr r (OnPlanMissing P)) (sym is) tt
  none_missing P (Err read_fault.OutOfMemory) result is = subst (λ r. IfErr r (OnPlanMissing P)) (sym is) tt
  none_missing P (Err (read_fault.Damaged damage)) result is = subst (λ r. IfErr r (OnPlanMissing P)) (sym is) tt
  none_missing P (Ok None) result is = subst (λ r. IfErr r (OnPlanMissing P)) (sym is) tt
  none_missing P (Ok (Some row)) result (inl is) = subst (λ r. IfErr r (OnPlanMissing P)) (sym is) tt
  none_missing P (Ok (Some row)) result (inr is) = subst (λ r. IfErr r (OnPlanMissing P)) (sym is) tt

-- ---- faults

module _ {L : Type 0} (Shown Shows : Damage → Type 0) (Leaves : L → Type 0) (u v : View) where
  abbrev Row : Type 0
  Row = Option (List (Option Value))

  read_faults : (e : ReadFault) → StreamFaults {T = Option (List ℕ × Partition)} Shown Shows Leaves u v (Err e) → RowFaults {T = Row} Shown Shows Leaves u v (Err (fault_of_read e))
  read_faults read_fault.Failed one = record { disk = one.causes.disk; out = one.causes.out; ok = tt; failed = λ is. one.causes.failed refl; others = λ other. absurd (other refl); damaged = tt; undamaged = tt; shows = one.shows }
  read_faults read_fault.OutOfMemory one = record { disk = one.causes.disk; out = one.causes.out; ok = tt; failed = λ is. cc; others = λ other. one.causes.memory refl; damaged = tt; undamaged = tt; shows = one.shows }
  read_faults (read_fault.Damaged damage) one = record {
    disk = one.causes.disk;
    out = one.causes.out;
    ok = tt;
    failed = λ is. cc;
    others = λ other. one.causes.damaged damage refl;
    damaged = one.damaged;
    undamaged = one.undamaged;
    shows = one.shows;
  }

  ok_faults : (found : Option (List ℕ × Partition)) (row : Row) → StreamFaults Shown Shows Leaves u v (Ok found) → RowFaults Shown Shows Leaves u v (Ok row)
  ok_faults found row one = record { disk = one.causes.disk; out = one.causes.out; ok = one.causes.ok; failed = tt; others = tt; damaged = tt; undamaged = tt; shows = one.shows }

  memory_faults : (found : Option (List ℕ × Partition)) → StreamFaults Shown Shows Leaves u v (Ok found) → RowFaults {T = Row} Shown Shows Leaves u v (Err fault.OutOfMemory)
  memory_faults found one = record { disk = one.causes.disk; out = one.causes.out; ok = tt; failed = λ is. cc; others = λ other. one.causes.ok; damaged = tt; undamaged = tt; shows = one.shows }

  pub picked_faults : (picked : Picked) (found : Result (Option (List ℕ × Partition)) ReadFault) (result : Result Row PlanFault) → IsPickedOf picked found result → StreamFaults Shown Shows Leaves u v found
      → RowFaults Shown Shows Leaves u v result
  picked_faults picked (Err e) result is one = subst (λ r. RowFaults Shown Shows Leaves u v r) (sym is) (read_faults e one)
  picked_faults picked (Ok None) result is one = subst (λ r. RowFaults Shown Shows Leaves u v r) (sym is) (ok_faults None None one)
  picked_faults picked (Ok (Some row)) result (inl is) one = subst (λ r. RowFaults Shown Shows Leaves u v r) (sym is) (memory_faults (Some row) one)
  picked_faults picked (Ok (Some row)) result (inr is) one = subst (λ r. RowFaults Shown Shows Leaves u v r) (sym is) (ok_faults (Some row) (cells.row_of picked.key row.0 picked.columns row.1) one)

-- where an analyzer is missing nothing was read
pub missing_faults : {L : Type 0} (Shown : Damage → Type 0) (Leaves : L → Type 0) (v : View) (class : Class) → RowFaults {T = Option (List (Option Value))} Shown Shown Leaves v v (Err (fault.Missing class))
missing_faults Shown Leaves v class = record { disk = omega arith; out = refl; ok = tt; failed = λ is. cc; others = λ other. refl; damaged = tt; undamaged = tt; shows = λ damage is. is }
