-- A new reader has the rows of the answer before it, and pays what its plan may take; each call gives the next row and keeps that promise.
use Rattle.std.proofs.Common.{◌≡◌, ℕ, suc, ◌+◌, ◌-◌, ◌≤◌, Bool, List, [], ◌∷◌, map, take, drop, sum, Option, None, Some, Result, Ok, Err, IfOk, OnOk, refl, sym, ap, subst, ◌∙◌, arith}
use Rattle.std.specs.FinMap.{get}
use Rattle.std.specs.List.{sum_by}
use Rattle.sasi_types.specs.declared.column.ColumnType.{ColumnType}
use Rattle.sasi_types.specs.declared.decorated_key.DecoratedKey.{DecoratedKey}
use Rattle.sasi_types.specs.Token.{token_of}
use Rattle.sasi_host.specs.declared.fault.ReadFault.{ReadFault}
use Rattle.sasi_host.specs.Names.{Folder}
use Rattle.sasi_cells.specs.Maps.{merged}
use Rattle.sasi_memindex.specs.Book.{Book}
use Rattle.sasi_model.specs.Cells.{Partition}
use Rattle.sasi_model.specs.Conditions.{Condition}
use Rattle.sasi_model.specs.Filters.{answers, key_asked, where_of}
use Rattle.sasi_model.specs.State.{decorated}
use Rattle.sasi_ranges.specs.StreamCalls.{Spends}
use Rattle.sasi_scan.specs.Finding.{key_reads}
use Rattle.sasi_scan.specs.Paging.{table_reads}
use Rattle.sasi_candidates.specs.Candidates.{candidates}
use Rattle.sasi_candidates.specs.Checks.{checked, given, looked, rows}
use Rattle.sasi_candidates.specs.Costs.{file_cost, files_of, token_cost}
use Rattle.sasi_candidates.specs.Groups.{Group, groups, groups_with, looks, rows_in}
use Rattle.sasi_candidates.specs.Parts.{maps_of}
use Rattle.sasi_candidates.proofs.Answers.{answer_is_checked}
use Rattle.sasi_candidates.proofs.GroupLaws.{groups_have}
use Rattle.sasi_views.specs.declared.part.Part as view
use Rattle.sasi_memindex.proofs.GrowthLaws.{grown_not}
use Rattle.sasi_recheck.specs.Rows.{GivesAllowed, RecheckView, allowed_after, asked_in, counted_on, looked_in}
use Rattle.sasi_recheck.specs.Sources.{Candidate}
use Rattle.sasi_engine.specs.declared.relation.IndexedRelation.{IndexedRelation}
use Rattle.sasi_engine.specs.HitCandidates.{PlanWorld, candidates_at, looked_groups, prices_from}
use Rattle.sasi_engine.specs.TokenHits.{contents_in_files}
use Rattle.sasi_plan.specs.declared.plan.PlanSource.{PlanSource}
use Rattle.sasi_plan.specs.declared.plan.PlanSource.TheVariants.{Nothing, OfKey, OfTable}
use Rattle.sasi_plan.specs.Answers.{CountsTo, GivesNext, ReadsLeft, ReadsUpTo, RowsLeft, lesser, paid, row_of}
use Rattle.sasi_plan.specs.Plans.{PlanView}
use Rattle.sasi_plan.specs.Reading.{IsBounded, IsBoundedBy, IsMadeFor, IsPending, IsReadIn, KeyPrices, PendingLeaves, PendingPays, PricesOf, TablePrices, listed_files, plan_reads, reads_by}
use Rattle.sasi_plan.proofs.AskedRows.{AsksOne, allowed_lesser, asked_lesser, fewer_paid, next_lesser}
use Rattle.sasi_plan.proofs.GivenLaws.{called, counted_more, first_pays, paid_nothing}
use Rattle.sasi_plan.proofs.PaidLaws.{hits_paid, one_paid}

-- ---- what a plan may take

-- where no price is told nothing is paid beside
unpaid : {A : Type 0} (limit : Option ℕ) (test : A → Bool) (xs : List A) → paid limit test xs [] ≡ 0
unpaid None test xs = refl
unpaid (Some n) test xs = paid_nothing test n xs

module _ (w : PlanWorld) (limit : Option ℕ) where
  abbrev test : Candidate → Bool
  test = answers (where_of w.conditions)

  abbrev left : List Candidate
  left = candidates w.parts (where_of w.conditions)

  -- so much at any time and these prices, which together are at most so much
  abbrev IsWithin : (ℕ → List ℕ → Type 0) → ℕ → Type 0
  IsWithin Prices most = (many : ℕ) × (prices : List ℕ) × Prices many prices × (many + paid limit test left prices ≤ most)

  key_within : (key : DecoratedKey) (rs : List IndexedRelation) → key_asked w.conditions ≡ Some key.key → key ≡ decorated w.partitioner key.key → IsBoundedBy w rs
      → IsWithin (KeyPrices w key rs) (reads_by w rs limit (key_reads w.partitioner key.key (contents_in_files w.parts)))
  key_within key [] asked own bounded = (key_reads w.partitioner key.key (contents_in_files w.parts), [], omega arith, omega (arith, unpaid limit test left))
  key_within key (r ∷ rs) asked own bounded =
      let most = sum_by (file_cost w.partitioner w.conditions) (files_of w.parts) in
      let group : Group = record { token = key.token; rows = left } in
      let one = one_paid w limit test group in
      let token : key.token ≡ token_of w.partitioner key.key = ap (λ (k : DecoratedKey). k.token) own in
      let look = looks (token_cost w.partitioner w.parts) test limit in
      let all : look (groups w.partitioner w.parts w.conditions) ≡ look (group ∷ []) =
      ap (λ o. look (groups_with w.partitioner w.parts (where_of w.conditions) o)) asked ∙ ap (λ t. look (record { token = t; rows = left } ∷ [])) (sym token) in
      (most, token_cost w.partitioner w.parts key.token ∷ [], (bounded, refl, refl), omega (arith, one, all))

  table_within : (rs : List IndexedRelation) → key_asked w.conditions ≡ None → IsBoundedBy w rs → IsWithin (TablePrices w rs) (reads_by w rs limit (table_reads (Some w.folder) (listed_files w.listed)))
  table_within [] free bounded = (table_reads (Some w.folder) (listed_files w.listed), [], omega arith, omega (arith, unpaid limit test left))
  table_within (r ∷ rs) free bounded =
      let most = sum_by (file_cost w.partitioner w.conditions) (files_of w.parts) in
      let prices = prices_from w 0 (looked_groups w) in
      let gs : List Group = map (candidates_at w) (looked_groups w) in
      let same : groups w.partitioner w.parts w.conditions ≡ gs = ap (groups_with w.partitioner w.parts (where_of w.conditions)) free in
      let have : rows_in gs ≡ left = ap rows_in (sym same) ∙ groups_have w.partitioner w.parts w.conditions in (
        most,
        prices,
        (bounded, refl, refl),
        omega (
          arith,
          hits_paid w limit test 0 (looked_groups w),
          ap (λ l. paid limit test l prices) have,
          ap (looks (token_cost w.partitioner w.parts) test limit) same,
        ),
      )

  plan_within : (source : PlanSource) (types : List ColumnType) (listed : List view.Part) → IsMadeFor w source types listed → IsBounded w source → IsWithin (PricesOf w source) (plan_reads w source limit)
  plan_within Nothing types listed made bounded = (0, [], tt, omega (arith, unpaid limit test left))
  plan_within (OfKey key relations) types listed made bounded = key_within key relations.items made.1 made.3 bounded
  plan_within (OfTable relations) types listed made bounded = table_within relations.items made.1 bounded

-- ---- a new reader

module _ (w : PlanWorld) (plan : PlanView) (listed : List view.Part) (book : Book) (is : IsReadIn w plan listed book) where
  pending_in : IsPending w book plan.source plan.types listed (Some w.folder) book
  pending_in = record {
    view_is = is.view_is;
    listed_are = is.listed_are;
    types_are = is.types_are;
    made = is.made;
    seen = record { files_are = λ name told. refl; maps_are = λ number used. grown_not (get book number) };
  }

  -- what holds by the conditions of the world holds by those of the plan
  by_plan : (P : List Condition → Type 0) → P w.conditions → P plan.conditions
  by_plan P = subst P is.conditions_are

  abbrev first : List Candidate
  first = candidates w.parts (where_of w.conditions)

  first_left : PendingLeaves plan.source plan.types listed (Some w.folder) book first
  first_left = (w, book, pending_in, refl)

  pub new_rows : (left : List Candidate) × PendingLeaves plan.source plan.types listed (Some w.folder) book left
      × (map row_of (rows plan.limit (where_of plan.conditions) (merged (maps_of w.parts))) ≡ map row_of (given plan.limit (answers (where_of plan.conditions)) left))
  new_rows = (
    first,
    first_left,
    by_plan (λ cs. map row_of (rows plan.limit (where_of cs) (merged (maps_of w.parts))) ≡ map row_of (given plan.limit (answers (where_of cs)) first)) (ap (map row_of) (sym (answer_is_checked plan.limit (where_of w.conditions) w.parts))),
  )

  pub new_counts : (left : List Candidate) × PendingLeaves plan.source plan.types listed (Some w.folder) book left
      × (counted_on 0 (checked plan.limit (where_of plan.conditions) w.parts) ≡ counted_on 0 (looked plan.limit (answers (where_of plan.conditions)) left))
  new_counts =
      (first, first_left, by_plan (λ cs. counted_on 0 (checked plan.limit (where_of cs) w.parts) ≡ counted_on 0 (looked plan.limit (answers (where_of cs)) first)) refl)

  -- what is paid for the rows that are asked for is no more than what the plan takes with that LIMIT
  pub new_reads : (asked : Option ℕ) → IsBounded w plan.source
      → (left : List Candidate) × (many : ℕ) × (prices : List ℕ) × PendingLeaves plan.source plan.types listed (Some w.folder) book left × PendingPays plan.source plan.types listed (Some w.folder) book many prices
      × (many + paid (lesser asked plan.limit) (answers (where_of plan.conditions)) left prices ≤ plan_reads w plan.source (lesser asked plan.limit))
  new_reads asked bounded =
      let limit = lesser asked plan.limit in
      let takes = plan_within w limit plan.source plan.types listed is.made bounded in (
        first,
        takes.0,
        takes.1,
        first_left,
        (w, book, pending_in, takes.2),
        by_plan (λ cs. takes.0 + paid limit (answers (where_of cs)) first takes.1 ≤ plan_reads w plan.source limit) takes.3,
      )

-- ---- a call

module _ {C : Type 0} (Leaves : C → Option Folder → Book → List Candidate → Type 0) (Pays : C → Option Folder → Book → ℕ → List ℕ → Type 0) where
  -- what a call on the rechecked candidates says
  pub record HasRechecked (book : Book) (old new : RecheckView C) (was now : Option Folder) (before after : ℕ) (result : Result (Option (List ℕ × Partition)) ReadFault) : Type 0 where
    pub row : (left : List Candidate) → Leaves old.candidates was book left → IfOk result (GivesAllowed old.rows_left (answers (where_of old.filter)) (Leaves new.candidates now book) left)
    pub allowed : IfOk result (λ row. new.rows_left ≡ allowed_after old.rows_left row)
    pub counts : (left : List Candidate) → Leaves old.candidates was book left → OnOk result (new.checked ≡ counted_on old.checked (looked_in old.rows_left (answers (where_of old.filter)) left))
    pub reads : (left : List Candidate) (most : ℕ) (prices : List ℕ) → Leaves old.candidates was book left → Pays old.candidates was book most prices
        → Spends (λ rest. Pays new.candidates now book rest (drop (asked_in old.rows_left (answers (where_of old.filter)) left) prices)) (most + sum (take (asked_in old.rows_left (answers (where_of old.filter)) left) prices)) before after result
    pub same_filter : new.filter ≡ old.filter

  -- **What so many rows take is enough for fewer.**
  pub fewer_reads : (r : RecheckView C) (files : Option Folder) (book : Book) (n m most : ℕ) → n ≤ m → ReadsUpTo Leaves Pays r files book (Some m) most → ReadsUpTo Leaves Pays r files book (Some n) most
  fewer_reads r files book n m most within is = (is.0, is.1, is.2, is.3, is.4, omega (arith, is.5, fewer_paid n m within r.rows_left (answers (where_of r.filter)) is.0 is.2))

  module _ (book : Book) (old new : RecheckView C) (was now : Option Folder) (before after : ℕ) where
    -- by the conditions, and the rows that are allowed
    carried : (limit : Option ℕ) (P : Option ℕ → List Condition → Type 0) → new.rows_left ≡ limit → new.filter ≡ old.filter → P limit old.filter → P new.rows_left new.filter
    carried limit P allowed filter is = subst (λ l. P l new.filter) (sym allowed) (subst (P limit) (sym filter) is)

    abbrev passes : Candidate → Bool
    passes = answers (where_of old.filter)

    pub next_row : (result : Result (Option (List ℕ × Partition)) ReadFault) → HasRechecked book old new was now before after result
        → (rows : List (List ℕ × Partition)) → RowsLeft Leaves old was book rows → IfOk result (GivesNext (RowsLeft Leaves new now book) rows)
    next_row (Err fault) has rows is = tt
    next_row (Ok None) has rows is =
        let call = called passes old.rows_left (Leaves new.candidates now book) is.0 None (has.row is.0 is.1) in
        let none = call.given_ends refl in (
          is.2 ∙ call.given_is ∙ ap (map row_of) none,
          (call.rest, call.others, carried old.rows_left (λ l cs. [] ≡ map row_of (given l (answers (where_of cs)) call.rest)) has.allowed has.same_filter (ap (map row_of) (sym none))),
        )
    next_row (Ok (Some row)) has rows is =
        let call = called passes old.rows_left (Leaves new.candidates now book) is.0 (Some row) (has.row is.0 is.1) in
        let limit = allowed_after old.rows_left (Some row) in
        let others = map row_of (given limit passes call.rest) in
        (others, is.2 ∙ call.given_is, (call.rest, call.others, carried limit (λ l cs. others ≡ map row_of (given l (answers (where_of cs)) call.rest)) has.allowed has.same_filter refl))

    pub next_counts : (result : Result (Option (List ℕ × Partition)) ReadFault) → HasRechecked book old new was now before after result
        → (count : ℕ) → CountsTo Leaves old was book count → OnOk result (CountsTo Leaves new now book count)
    next_counts (Err fault) has count is = tt
    next_counts (Ok found) has count is =
        let call = called passes old.rows_left (Leaves new.candidates now book) is.0 found (has.row is.0 is.1) in
        let limit = allowed_after old.rows_left found in
        let here = looked_in old.rows_left passes is.0 in
        let more = looked limit passes call.rest in (
          call.rest,
          call.others,
          carried limit (λ l cs. count ≡ counted_on new.checked (looked l (answers (where_of cs)) call.rest)) has.allowed has.same_filter
              (is.2 ∙ ap (counted_on old.checked) call.looked_is ∙ counted_more old.checked here more ∙ ap (λ c. counted_on c more) (sym (has.counts is.0 is.1))),
        )

    -- without a row all are counted
    pub next_counted : (result : Result (Option (List ℕ × Partition)) ReadFault) → HasRechecked book old new was now before after result
        → (count : ℕ) → CountsTo Leaves old was book count → IfOk result (λ row. row ≡ None → new.checked ≡ count)
    next_counted (Err fault) has count is = tt
    next_counted (Ok found) has count is = λ none.
        let call = called passes old.rows_left (Leaves new.candidates now book) is.0 found (has.row is.0 is.1) in
        let all : looked old.rows_left passes is.0 ≡ looked_in old.rows_left passes is.0 = omega (arith, call.looked_is, call.looked_ends none) in
        has.counts is.0 is.1 ∙ ap (counted_on old.checked) (sym all) ∙ sym is.2

    -- ---- what it takes, up to the last of the rows that are asked for

    module _ (asked : Option ℕ) (one : AsksOne asked) (most : ℕ) (is : ReadsUpTo Leaves Pays old was book asked most) where
      abbrev limit : Option ℕ
      limit = lesser asked old.rows_left

      abbrev here : ℕ
      here = asked_in old.rows_left passes is.0

      same : asked_in limit passes is.0 ≡ here
      same = asked_lesser passes asked old.rows_left one is.0

      failing_spends : (fault : ReadFault) → HasRechecked book old new was now before after (Err fault) → after ≤ before + most
      failing_spends fault has =
          let first : sum (take here is.2) ≤ paid limit passes is.0 is.2 = subst (λ k. sum (take k is.2) ≤ paid limit passes is.0 is.2) same (first_pays limit passes is.0 is.2) in
          omega (arith, has.reads is.0 is.1 is.2 is.3 is.4, is.5, first)

      -- what is left is left for the rows behind the one that was found
      finding_spends : (found : Option (List ℕ × Partition)) → HasRechecked book old new was now before after (Ok found)
          → (rest : ℕ) × ReadsUpTo Leaves Pays new now book (allowed_after asked found) rest × (after + rest ≤ before + most)
      finding_spends found has =
          let call = called passes limit (Leaves new.candidates now book) is.0 found (allowed_lesser passes asked old.rows_left one (Leaves new.candidates now book) is.0 found (has.row is.0 is.3)) in
          let spent = has.reads is.0 is.1 is.2 is.3 is.4 in
          let prices = drop here is.2 in
          let others = lesser (allowed_after asked found) (allowed_after old.rows_left found) in
          let own = paid others passes call.rest prices in
          let both : sum (take here is.2) + own ≤ paid limit passes is.0 is.2 =
          subst (λ l. sum (take here is.2) + paid l passes call.rest prices ≤ paid limit passes is.0 is.2) (next_lesser asked old.rows_left found)
          (subst (λ k. sum (take k is.2) + paid (allowed_after limit found) passes call.rest (drop k is.2) ≤ paid limit passes is.0 is.2) same (call.paid_is is.2)) in (
            spent.0 + own,
            (
              call.rest,
              spent.0,
              prices,
              call.others,
              spent.1,
              carried (allowed_after old.rows_left found) (λ l cs. spent.0 + paid (lesser (allowed_after asked found) l) (answers (where_of cs)) call.rest prices ≤ spent.0 + own) has.allowed has.same_filter (omega arith),
            ),
            omega (arith, spent.2, is.5, both),
          )

    pub next_reads : (result : Result (Option (List ℕ × Partition)) ReadFault) → HasRechecked book old new was now before after result
        → (most : ℕ) → ReadsLeft Leaves Pays old was book most → Spends (ReadsLeft Leaves Pays new now book) most before after result
    next_reads (Err fault) has most is = failing_spends None tt most is fault has
    next_reads (Ok None) has most is = finding_spends None tt most is None has
    next_reads (Ok (Some row)) has most is = finding_spends None tt most is (Some row) has

    pub next_reads_up_to : (result : Result (Option (List ℕ × Partition)) ReadFault) → HasRechecked book old new was now before after result
        → (n most : ℕ) → ReadsUpTo Leaves Pays old was book (Some (suc n)) most → Spends (ReadsUpTo Leaves Pays new now book (Some n)) most before after result
    next_reads_up_to (Err fault) has n most is = failing_spends (Some (suc n)) tt most is fault has
    next_reads_up_to (Ok None) has n most is = (let spent = finding_spends (Some (suc n)) tt most is None has in (spent.0, fewer_reads new now book n (suc n) spent.0 (omega arith) spent.1, spent.2))
    next_reads_up_to (Ok (Some row)) has n most is =
        let spent = finding_spends (Some (suc n)) tt most is (Some row) has in
        (spent.0, fewer_reads new now book n (suc n - 1) spent.0 (omega arith) spent.1, spent.2)
