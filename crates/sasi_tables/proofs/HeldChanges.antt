-- What a mutation, a flush and a new table leave of the maps of tables.
use Rattle.std.proofs.Common.{◌≡◌, ℕ, Bool, zero, suc, ◌+◌, ◌-◌, ◌<◌, ◌≤◌, true, false, cond, nat_eq, List, [], ◌∷◌, ◌++◌, map, set, slice_get, is_some, Option, None, Some, refl, sym, ap, subst, ◌∙◌, inl, inr, ⊎_elim, arith}
use Rattle.std.specs.Prelude.{◌⊎◌, Contains, IsSome}
use Rattle.std.specs.List.{AllByRecursion}
use Rattle.std.proofs.lemmas.List.{map-append}
use Rattle.std.proofs.lemmas.List.Elements.{Contains-append_left, Contains-push, Contains-push_cases}
use Rattle.std.proofs.lemmas.Bool.Decides.{nat_tests}
use Rattle.std.proofs.lemmas.Cmp.{nat_cmp_total}
use Rattle.std.specs.Cmp.{nat_cmp_is}
use Rattle.std.specs.declared.cmp.Ordering.{Ordering}
use Rattle.std.specs.declared.cmp.Ordering.TheVariants.{Less, Equal, Greater}
use Rattle.std.specs.FinMap.{get, get-insert, insert}
use Rattle.std.specs.Ordering.{eq_by_cmp, is_eq, nat_cmp}
use Rattle.sasi_cells.specs.declared.mutation.Mutation.{Mutation}
use Rattle.sasi_layout.specs.Moves.{or_else}
use Rattle.sasi_memindex.specs.declared.map_part.MapPart.{MapPart}
use Rattle.sasi_memindex.specs.Book.{Book, IsChanged, bare}
use Rattle.sasi_memtable.specs.MemtableView.{MemtableView, with_change}
use Rattle.sasi_recover.specs.declared.opened.TableMap.{TableMap}
use Rattle.sasi_types.specs.declared.index_def.IndexDef.{IndexDef}
use Rattle.sasi_tables.specs.declared.table_maps.TableMaps.{TableMaps}
use Rattle.sasi_tables.specs.Held.{AreForgotten, AreMapped, HasIndexes, HasMapFor, HasNoOthers, IsAddedTo, IsOfTable, IsFrozen, IsPutIn, IsReplaced, OthersStay, Subject, held_by, held_of, map_in, numbers_of, opened_held, subject_of}
use Rattle.sasi_views.specs.Books.{Book as ViewBook, count_of}
use Rattle.sasi_views.specs.declared.component.Component.TheVariants.{Map}
use Rattle.sasi_tables.specs.Puts.{HasTableFor, IsPutAt, put_map}
use Rattle.sasi_tables.proofs.AddedToMaps.{bare_has, map_of, now_indexed, same_map}
use Rattle.sasi_tables.proofs.HeldMaps.{OtherTablesStay, first_in, held_length, held_push, held_set, held_there, in_all, mapped_push, mapped_set, mapped_there, maps_same, news_stay, one_there, only_in, other_number, others_stay, rise_last, rise_push, set_at, set_other, set_there}

-- ---- a map that is put into the book

never : true ≡ false → ⊥
never e = cc

itself : (a : ℕ) → nat_eq a a ≡ true
itself a = grind (arith, nat_tests)

pub other_key : (a b : ℕ) → nat_eq a b ≡ false → eq_by_cmp nat_cmp a b ≡ false
other_key a b differ = by (nat_cmp a b) refl
  where
    by : (o : Ordering) → nat_cmp a b ≡ o → is_eq o ≡ false
    by Less is = refl
    by Greater is = refl
    by Equal is =
        let same : a ≡ b = grind (arith, nat_tests) in
        absurd (never (sym (subst (λ k. nat_eq a k ≡ true) same (itself a)) ∙ differ))

pub same_key : (a : ℕ) → eq_by_cmp nat_cmp a a ≡ true
same_key a = ap is_eq (sym (nat_cmp_is a a Equal refl))

pub insert_others : (book : Book) (number : ℕ) (part : MapPart) → OthersStay number book (insert book number part)
insert_others book number part other differ = get-insert nat_cmp_total book number part other ∙ ap (λ b. cond b (Some part) (get book other)) (other_key other number differ)

pub insert_here : (book : Book) (number : ℕ) (part : MapPart) → get (insert book number part) number ≡ Some part
insert_here book number part = get-insert nat_cmp_total book number part number ∙ ap (λ b. cond b (Some part) (get book number)) (same_key number)

-- ---- a table's maps

-- a map that has them is there
all_some : (book : Book) (ns : List ℕ) → ((number : ℕ) → Contains ns number → (part : MapPart) × (get book number ≡ Some part)) → AllByRecursion (λ number. IsSome (get book number)) ns
all_some book ns each = in_all (λ number. IsSome (get book number)) ns (λ number has. ap is_some (each number has).1)

module _ (book : Book) (last : ℕ) (wanted : List (List Subject)) (ts : List TableMaps) (mapped : AreMapped book last wanted ts) where
  pub maps_there : (at : ℕ) (t : TableMaps) → slice_get ts at ≡ Some t → AllByRecursion (λ number. IsSome (get book number)) (numbers_of t)
  maps_there at t found = all_some book (numbers_of t) (λ number has. let is = mapped_there book last wanted ts mapped at t found number has in (is.0, is.3))

  pub has_map : (number : ℕ) → HasTableFor number (held_of book ts) → HasMapFor number ts book
  has_map number has = record {
    some = has.some;
    inside = subst (λ k. number ≤ k) (held_length book ts) has.inside;
    there = λ t found. maps_there (number - 1) t found;
  }

  -- a frozen map isn't the memtable
  frozen_apart : (at : ℕ) (t : TableMaps) → slice_get ts at ≡ Some t → (number : ℕ) → Contains t.frozen number → nat_eq number t.memtable ≡ false
  frozen_apart at t there number has = other_number number t.memtable (λ same. absurd (omega (arith, same, rise_last t.frozen t.memtable number (mapped.rising at t there) has)))

  own_memtable : (t : TableMaps) → Contains (numbers_of t) t.memtable
  own_memtable t = Contains-push t.frozen t.memtable

  -- ---- a mutation

  module _ (m : Mutation) (segment : ℕ) (after : Book) (new : List TableMaps) (t : TableMaps) (there : slice_get ts (m.table - 1) ≡ Some t) (is : IsPutIn segment m t ts new book after) where
    abbrev first : TableMaps
    first = record t { first = or_else t.first (Some segment) }

    changed_map : (o n : Option MapPart) → IsChanged m.key m.change o n → map_of n ≡ with_change (map_of o) m.key m.change
    changed_map None n changed = absurd changed
    changed_map (Some old) None changed = absurd changed
    changed_map (Some old) (Some new) changed = changed.merged

    frozen_stays : (number : ℕ) → Contains t.frozen number → get after number ≡ get book number
    frozen_stays number has = is.others number (frozen_apart (m.table - 1) t there number has)

    put_seen : held_by after first ≡ put_map segment m.key m.change (held_by book t)
    put_seen =
        let frozen = maps_same book after t.frozen frozen_stays in
        let memtable = changed_map (get book t.memtable) (get after t.memtable) is.changed in
        λ i. record { number = t.number; frozen = frozen i; memtable = memtable i; first = or_else t.first (Some segment) }

    pub put_held : IsPutAt segment m (held_of book ts) (held_of after new)
    put_held row found =
        let same : held_by book t ≡ row = one_there (held_by book t) row (slice_get (held_of book ts) (m.table - 1)) (held_there book ts (m.table - 1) t there) found in
        ap (held_of after) is.tables_are
        ∙ held_set book after ts (m.table - 1) t first there (others_stay book last wanted ts mapped after (m.table - 1) t t.memtable there (own_memtable t) is.others)
        ∙ ap (set (held_of book ts) (m.table - 1)) (put_seen ∙ ap (put_map segment m.key m.change) same)

    changed_indexes : (subjects : List Subject) (o n : Option MapPart) → IsChanged m.key m.change o n → HasIndexes subjects o → HasIndexes subjects n
    changed_indexes subjects None n changed has = absurd has
    changed_indexes subjects (Some old) None changed has = absurd changed
    changed_indexes subjects (Some old) (Some new) changed has = record { subjects_are = changed.same ∙ has.subjects_are; kept = changed.kept }

    put_indexed : (subjects : List Subject) (number : ℕ) → slice_get wanted (m.table - 1) ≡ Some subjects → Contains (numbers_of t) number → HasIndexes subjects (get after number)
    put_indexed subjects number found has =
        let before = mapped.indexed (m.table - 1) t subjects number there found has in
        ⊎_elim (λ (frozen : Contains t.frozen number). subst (HasIndexes subjects) (sym (frozen_stays number frozen)) before)
        (λ (same : t.memtable ≡ number). subst (λ k. HasIndexes subjects (get after k)) same
        (changed_indexes subjects (get book t.memtable) (get after t.memtable) is.changed (subst (λ k. HasIndexes subjects (get book k)) (sym same) before)))
        (Contains-push_cases t.frozen t.memtable number has)

    pub put_mapped : AreMapped after last wanted new
    put_mapped =
        subst (AreMapped after last wanted) (sym is.tables_are)
        (mapped_set book last wanted ts mapped after last wanted (m.table - 1) t first there (omega arith) (λ number has. inl has) (mapped.rising (m.table - 1) t there)
        (others_stay book last wanted ts mapped after (m.table - 1) t t.memtable there (own_memtable t) is.others) refl (λ i differ. refl) put_indexed)

  -- ---- another map in the place of all

  module _ (at : ℕ) (t : TableMaps) (there : slice_get ts at ≡ Some t) (memtable : MemtableView) (defs : List IndexDef) (after : Book) (new : List TableMaps) (change : IsReplaced at memtable defs t ts new book after) where
    abbrev alone : TableMaps
    alone = record t { frozen = []; first = None }

    replaced_stay : OtherTablesStay at ts book after
    replaced_stay = others_stay book last wanted ts mapped after at t t.memtable there (own_memtable t) change.others

    pub replaced_held : held_of after new ≡ set (held_of book ts) at (record (held_by book t) { frozen = []; memtable = memtable; first = None })
    replaced_held =
        let seen : held_by after alone ≡ record (held_by book t) { frozen = []; memtable = memtable; first = None } =
        ap (λ (v : MemtableView). record { number = t.number; frozen = []; memtable = v; first = None }) (same_map defs (Some (bare memtable)) (get after t.memtable) change.made) in
        ap (held_of after) change.tables_are ∙ held_set book after ts at t alone there replaced_stay ∙ ap (set (held_of book ts) at) seen

    pub replaced_mapped : slice_get wanted at ≡ Some (map subject_of defs) → AreMapped after last wanted new
    replaced_mapped had =
        subst (AreMapped after last wanted) (sym change.tables_are)
        (mapped_set book last wanted ts mapped after last wanted at t alone there (omega arith)
        (λ number has. inl (subst (λ k. Contains (numbers_of t) k) (only_in t.memtable number has) (own_memtable t))) (tt, tt) replaced_stay refl (λ i differ. refl)
        (λ subjects number found has.
        subst (λ k. HasIndexes subjects (get after k)) (only_in t.memtable number has)
        (subst (λ (l : List Subject). HasIndexes l (get after t.memtable)) (one_there (map subject_of defs) subjects (slice_get wanted at) had found)
        (now_indexed defs [] (Some (bare memtable)) (get after t.memtable) change.made (bare_has memtable)))))

    -- the frozen maps that are dropped then are no table's
    module _ (views : ViewBook) (left : Book) (gone : AreForgotten views t.frozen after left) where
      pub forgotten_stay : (i : ℕ) (x : TableMaps) (number : ℕ) → slice_get new i ≡ Some x → Contains (numbers_of x) number → get left number ≡ get after number
      forgotten_stay i x number found has = gone.others number (λ frozen.
          ⊎_elim (λ (here : (i ≡ at) × (x ≡ alone)).
          let same : t.memtable ≡ number = only_in t.memtable number (subst (λ (r : TableMaps). Contains (numbers_of r) number) here.1 has) in
          omega (arith, same, rise_last t.frozen t.memtable number (mapped.rising at t there) frozen))
          (λ (kept : (i ≡ at → ⊥) × (slice_get ts i ≡ Some x)). kept.0 (mapped.apart i at x t number kept.1 there has (Contains-append_left t.frozen (t.memtable ∷ []) number frozen)))
          (set_there ts at alone i x (subst (λ (l : List TableMaps). slice_get l i ≡ Some x) change.tables_are found)))

      -- and the book has no others then, if it had none
      pub no_others : HasNoOthers views ts book → HasNoOthers views new left
      no_others before number some = by (count_of views (Map number)) refl
        where
          now : IsSome (get after number)
          now = ap is_some (sym (gone.kept number some)) ∙ some

          never_some : get left number ≡ None → ⊥
          never_some none = never (sym some ∙ ap is_some none)

          is_own : t.memtable ≡ number → IsOfTable new number
          is_own same = (at, alone, ap (λ (l : List TableMaps). slice_get l at) change.tables_are ∙ set_at ts at t alone there, subst (λ k. Contains (t.memtable ∷ []) k) same (first_in t.memtable []))

          found_in : count_of views (Map number) ≡ 0 → nat_eq number t.memtable ≡ false → (i : ℕ) (x : TableMaps) → slice_get ts i ≡ Some x → Contains (numbers_of x) number → (b : Bool) → nat_eq i at ≡ b → IsOfTable new number
          found_in none other i x found has true same =
              let i_is : i ≡ at = grind (arith, nat_tests) in
              let x_is : x ≡ t = one_there x t (slice_get ts i) found (ap (slice_get ts) i_is ∙ there) in
              ⊎_elim (λ (frozen : Contains t.frozen number). absurd (never_some (gone.gone number frozen none)))
              (λ (own : t.memtable ≡ number). is_own own)
              (Contains-push_cases t.frozen t.memtable number (subst (λ (r : TableMaps). Contains (numbers_of r) number) x_is has))
          found_in none other i x found has false differ =
              (i, x, ap (λ (l : List TableMaps). slice_get l i) change.tables_are ∙ set_other ts at alone i (λ same. never (sym (ap (λ k. nat_eq k at) same ∙ itself at) ∙ differ)) ∙ found, has)

          in_table : count_of views (Map number) ≡ 0 → (b : Bool) → nat_eq number t.memtable ≡ b → IsOfTable new number ⊎ (0 < count_of views (Map number))
          in_table none true same = inl (is_own (sym (let e : number ≡ t.memtable = grind (arith, nat_tests) in e)))
          in_table none false other =
              ⊎_elim (λ (was : IsOfTable ts number). inl (found_in none other was.0 was.1 was.2 was.3 (nat_eq was.0 at) refl))
              (λ (listed : 0 < count_of views (Map number)). inr listed)
              (before number (ap is_some (sym (change.others number other)) ∙ now))

          by : (n : ℕ) → count_of views (Map number) ≡ n → IsOfTable new number ⊎ (0 < count_of views (Map number))
          by zero none = in_table none (nat_eq number t.memtable) refl
          by (suc n) is = inr (omega (arith, is))

  -- ---- a memtable that is frozen

  module _ (at : ℕ) (t : TableMaps) (there : slice_get ts at ≡ Some t) (memtable : MemtableView) (defs : List IndexDef) (after : Book) (new : List TableMaps) (change : IsFrozen last at memtable defs t ts new book after) where
    abbrev frozen : TableMaps
    frozen = record t { frozen = numbers_of t; memtable = suc last }

    news : (i : ℕ) (x : TableMaps) (number : ℕ) → slice_get ts i ≡ Some x → Contains (numbers_of x) number → get after number ≡ get book number
    news = news_stay book last wanted ts mapped after (suc last) (omega arith) change.others

    pub frozen_held : held_of after new ≡ set (held_of book ts) at (record (held_by book t) { frozen = (held_by book t).frozen ++ (held_by book t).memtable ∷ []; memtable = memtable })
    frozen_held =
        let maps : map (map_in after) (numbers_of t) ≡ map (map_in book) t.frozen ++ map_in book t.memtable ∷ [] =
        maps_same book after (numbers_of t) (λ number has. news at t number there has) ∙ map-append (map_in book) t.frozen (t.memtable ∷ []) in
        let made = same_map defs (Some (bare memtable)) (get after (suc last)) change.made in
        let seen : held_by after frozen ≡ record (held_by book t) { frozen = (held_by book t).frozen ++ (held_by book t).memtable ∷ []; memtable = memtable } =
        λ i. record { number = t.number; frozen = maps i; memtable = made i; first = t.first } in
        ap (held_of after) change.tables_are ∙ held_set book after ts at t frozen there (λ i x number differ found has. news i x number found has) ∙ ap (set (held_of book ts) at) seen

    frozen_indexed : slice_get wanted at ≡ Some (map subject_of defs) → (subjects : List Subject) (number : ℕ) → slice_get wanted at ≡ Some subjects → Contains (numbers_of frozen) number → HasIndexes subjects (get after number)
    frozen_indexed had subjects number found has =
        ⊎_elim (λ (old : Contains (numbers_of t) number). subst (HasIndexes subjects) (sym (news at t number there old)) (mapped.indexed at t subjects number there found old))
        (λ (same : suc last ≡ number). subst (λ k. HasIndexes subjects (get after k)) same
        (subst (λ (l : List Subject). HasIndexes l (get after (suc last))) (one_there (map subject_of defs) subjects (slice_get wanted at) had found)
        (now_indexed defs [] (Some (bare memtable)) (get after (suc last)) change.made (bare_has memtable))))
        (Contains-push_cases (numbers_of t) (suc last) number has)

    pub frozen_mapped : slice_get wanted at ≡ Some (map subject_of defs) → AreMapped after (suc last) wanted new
    frozen_mapped had =
        subst (AreMapped after (suc last) wanted) (sym change.tables_are)
        (mapped_set book last wanted ts mapped after (suc last) wanted at t frozen there (omega arith)
        (λ number has. ⊎_elim (λ (old : Contains (numbers_of t) number). inl old) (λ (same : suc last ≡ number). inr (omega (arith, same), omega (arith, same))) (Contains-push_cases (numbers_of t) (suc last) number has))
        (rise_push (numbers_of t) (suc last) (mapped.rising at t there) (λ number has. omega (arith, mapped.used at t number there has)))
        (λ i x number differ found has. news i x number found has) refl (λ i differ. refl) (frozen_indexed had))

  -- ---- one table more

  module _ (table : TableMap) (defs : List IndexDef) (after : Book) (new : List TableMaps) (is : IsAddedTo last table defs ts new book after) where
    abbrev more : TableMaps
    more = record { number = table.number; frozen = []; memtable = suc last; first = table.first }

    pub added_held : held_of after new ≡ held_of book ts ++ opened_held table ∷ []
    added_held =
        ap (held_of after) is.tables_are ∙ held_push book last wanted ts mapped after more is.others
        ∙ ap (λ (v : MemtableView). held_of book ts ++ record { number = table.number; frozen = []; memtable = v; first = table.first } ∷ []) (same_map defs (Some (bare table.memtable)) (get after (suc last)) is.made)

    pub added_mapped : (number : ℕ) → number ≡ last + 1 → AreMapped after number (wanted ++ map subject_of defs ∷ []) new
    added_mapped number next =
        let number_is : suc last ≡ number = omega (arith, next) in
        subst (λ (k : ℕ). AreMapped after k (wanted ++ map subject_of defs ∷ []) new) number_is
        (subst (AreMapped after (suc last) (wanted ++ map subject_of defs ∷ [])) (sym is.tables_are)
        (mapped_push book last wanted ts mapped after (map subject_of defs) more refl is.others
        (now_indexed defs [] (Some (bare table.memtable)) (get after (suc last)) is.made (bare_has table.memtable))))
