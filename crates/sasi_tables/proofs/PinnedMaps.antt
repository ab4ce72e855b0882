-- What a change of tables leaves of the frozen maps that a view lists which is out.
use Rattle.std.proofs.Common.{◌≡◌, ℕ, Bool, true, false, suc, ◌-◌, ◌<◌, ◌≤◌, nat_eq, List, [], ◌∷◌, ◌++◌, set, slice_get, Option, None, Some, refl, sym, ap, subst, ◌∙◌, inl, inr, ⊎_elim, arith}
use Rattle.std.specs.Prelude.{◌⊎◌, Contains}
use Rattle.std.specs.FinMap.{get}
use Rattle.std.proofs.lemmas.Bool.Decides.{nat_tests}
use Rattle.std.proofs.lemmas.List.Elements.{Contains-append_cases, Contains-append_left, Contains-push}
use Rattle.sasi_cells.specs.declared.mutation.Mutation.{Mutation}
use Rattle.sasi_memindex.specs.declared.map_part.MapPart.{MapPart}
use Rattle.sasi_memindex.specs.Book.{Book, IsAdded}
use Rattle.sasi_memtable.specs.MemtableView.{MemtableView}
use Rattle.sasi_memindex.specs.Growth.{IsGrown}
use Rattle.sasi_memindex.proofs.GrowthLaws.{grown_again, grown_not}
use Rattle.sasi_recover.specs.declared.opened.TableMap.{TableMap}
use Rattle.sasi_types.specs.declared.column.ColumnType.{ColumnType}
use Rattle.sasi_types.specs.declared.index_def.IndexDef.{IndexDef}
use Rattle.sasi_types.specs.declared.rule.Rule.{Rule}
use Rattle.sasi_views.specs.Books.{Book as ViewBook, count_of}
use Rattle.sasi_views.specs.declared.component.Component.TheVariants.{Map}
use Rattle.sasi_tables.specs.Held.{AreForgotten, AreForgottenBut, IsAddedTo, IsAddedToAll, IsFrozen, IsPutIn, IsReplaced, OthersStay, numbers_of}
use Rattle.sasi_tables.specs.Pinned.{AreReleased, IsAside, IsMemtable, KeepsPinned}
use Rattle.sasi_tables.specs.TablesView.{IsOfParts}
use Rattle.sasi_tables.specs.declared.parts.Parts.{Parts}
use Rattle.sasi_tables.specs.declared.table_maps.TableMaps.{TableMaps}
use Rattle.sasi_tables.proofs.HeldMaps.{first_in, later_in, none_in, one_there, only_in, other_number, push_there, rise_last, set_there}

-- ---- several changes

-- **A reader goes on after one change and another,**
pub pinned_again : (views : ViewBook) (p q r : Parts) → KeepsPinned views p q → KeepsPinned views q r → KeepsPinned views p r
pinned_again views p q r first second = record {
  stay = λ number aside listed. grown_again (get p.maps number) (get q.maps number) (get r.maps number) (first.stay number aside listed) (second.stay number (first.aside number aside) listed);
  aside = λ number aside. second.aside number (first.aside number aside);
}

-- a map stays aside where no table is changed
aside_still : (p q : Parts) → q.tables.items ≡ p.tables.items → q.last_map ≡ p.last_map → (number : ℕ) → IsAside p number → IsAside q number
aside_still p q tables last number aside = record {
  numbered = subst (λ k. number ≤ k) (sym last) aside.numbered;
  apart = λ is. aside.apart (subst (λ (ts : List TableMaps). IsMemtable ts number) tables is);
}

-- **and where no table is changed and the maps that a view lists stay.**
pub pinned_listed : (views : ViewBook) (p q : Parts) → ((number : ℕ) → 0 < count_of views (Map number) → get q.maps number ≡ get p.maps number) → q.tables.items ≡ p.tables.items → q.last_map ≡ p.last_map → KeepsPinned views p q
pinned_listed views p q same tables last = record {
  stay = λ number aside listed. subst (λ (o : Option MapPart). IsGrown (get p.maps number) o) (sym (same number listed)) (grown_not (get p.maps number));
  aside = aside_still p q tables last;
}

-- ---- maps that are forgotten

pub pinned_forgotten : (views : ViewBook) (p q : Parts) (numbers : List ℕ) → AreForgotten views numbers p.maps q.maps → q.tables.items ≡ p.tables.items → q.last_map ≡ p.last_map → KeepsPinned views p q
pinned_forgotten views p q numbers gone tables last = pinned_listed views p q gone.listed tables last

-- **So are those that no table has: the parts are released of them,**
pub parts_released : (views : ViewBook) (p : Parts) (numbers : List ℕ) (after : Book) → AreForgottenBut p.tables.items views numbers p.maps after → AreReleased views numbers p (record p { maps = after })
parts_released views p numbers after gone = record { rest = refl; gone = gone.gone; listed = gone.listed; own = gone.own; others = gone.others }

-- **and a reader of another view goes on.**
pub pinned_released : (views : ViewBook) (p q : Parts) (numbers : List ℕ) → AreReleased views numbers p q → KeepsPinned views p q
pinned_released views p q numbers released = pinned_listed views p q released.listed (ap (λ (r : Parts). r.tables.items) released.rest) (ap (λ (r : Parts). r.last_map) released.rest)

-- ---- a change of one map

-- the memtables of tables one of which is set, and of tables with one more
set_memtable : (ts : List TableMaps) (at : ℕ) (new : TableMaps) (number : ℕ) → IsMemtable (set ts at new) number → IsMemtable ts number ⊎ (new.memtable ≡ number)
set_memtable ts at new number is =
    ⊎_elim (λ (here : (is.0 ≡ at) × (is.1 ≡ new)). inr (ap (λ (t : TableMaps). t.memtable) (sym here.1) ∙ is.3))
    (λ (kept : (is.0 ≡ at → ⊥) × (slice_get ts is.0 ≡ Some is.1)). inl (is.0, is.1, kept.1, is.3))
    (set_there ts at new is.0 is.1 is.2)

push_memtable : (ts : List TableMaps) (new : TableMaps) (number : ℕ) → IsMemtable (ts ++ new ∷ []) number → IsMemtable ts number ⊎ (new.memtable ≡ number)
push_memtable ts new number is =
    ⊎_elim (λ here. inr (ap (λ (t : TableMaps). t.memtable) (sym here.1) ∙ is.3)) (λ old. inl (is.0, is.1, old.1, is.3)) (push_there ts new is.0 is.1 is.2)

-- the map with this number is changed, which wasn't set aside, and it is the memtable of one table then
module _ (views : ViewBook) (p q : Parts) (changed : ℕ) (apart : (number : ℕ) → IsAside p number → changed ≡ number → ⊥) (others : OthersStay changed p.maps q.maps) (last : p.last_map ≤ q.last_map)
    (memtables : (number : ℕ) → IsMemtable q.tables.items number → IsMemtable p.tables.items number ⊎ (changed ≡ number)) where
  pinned_one : KeepsPinned views p q
  pinned_one = record {
    stay = λ number aside listed.
        subst (λ (o : Option MapPart). IsGrown (get p.maps number) o) (sym (others number (other_number number changed (λ same. apart number aside (sym same))))) (grown_not (get p.maps number));
    aside = λ number aside. record {
      numbered = omega (arith, last, aside.numbered);
      apart = λ is. ⊎_elim (λ (old : IsMemtable p.tables.items number). aside.apart old) (λ (same : changed ≡ number). apart number aside same) (memtables number is);
    };
  }

-- a table's own memtable, and a new map
module _ (p : Parts) where
  own_apart : (at : ℕ) (t : TableMaps) → slice_get p.tables.items at ≡ Some t → (number : ℕ) → IsAside p number → t.memtable ≡ number → ⊥
  own_apart at t there number aside same = aside.apart (at, t, there, same)

  new_apart : (number : ℕ) → IsAside p number → suc p.last_map ≡ number → ⊥
  new_apart number aside same = omega (arith, same, aside.numbered)

module _ (views : ViewBook) (p q : Parts) where
  -- **A mutation,**
  pub pinned_put : (segment : ℕ) (m : Mutation) (t : TableMaps) → slice_get p.tables.items (m.table - 1) ≡ Some t → IsPutIn segment m t p.tables.items q.tables.items p.maps q.maps → q.last_map ≡ p.last_map → KeepsPinned views p q
  pinned_put segment m t there is last =
      pinned_one views p q t.memtable (own_apart p (m.table - 1) t there) is.others (omega (arith, last))
      (λ number in_new. set_memtable p.tables.items (m.table - 1) _ number (subst (λ (ts : List TableMaps). IsMemtable ts number) is.tables_are in_new))

  -- **an empty map in the place of a table's maps,**
  pub pinned_replaced : (at : ℕ) (memtable : MemtableView) (defs : List IndexDef) (t : TableMaps) → slice_get p.tables.items at ≡ Some t → IsReplaced at memtable defs t p.tables.items q.tables.items p.maps q.maps → q.last_map ≡ p.last_map
      → KeepsPinned views p q
  pinned_replaced at memtable defs t there is last =
      pinned_one views p q t.memtable (own_apart p at t there) is.others (omega (arith, last))
      (λ number in_new. set_memtable p.tables.items at _ number (subst (λ (ts : List TableMaps). IsMemtable ts number) is.tables_are in_new))

  -- **a freeze,**
  pub pinned_frozen : (at : ℕ) (memtable : MemtableView) (defs : List IndexDef) (t : TableMaps) → IsFrozen p.last_map at memtable defs t p.tables.items q.tables.items p.maps q.maps → suc p.last_map ≡ q.last_map → KeepsPinned views p q
  pinned_frozen at memtable defs t is last =
      pinned_one views p q (suc p.last_map) (new_apart p) is.others (omega (arith, last))
      (λ number in_new. set_memtable p.tables.items at _ number (subst (λ (ts : List TableMaps). IsMemtable ts number) is.tables_are in_new))

  -- **a new table**
  pub pinned_added : (t : TableMap) (defs : List IndexDef) → IsAddedTo p.last_map t defs p.tables.items q.tables.items p.maps q.maps → suc p.last_map ≡ q.last_map → KeepsPinned views p q
  pinned_added t defs is last =
      pinned_one views p q (suc p.last_map) (new_apart p) is.others (omega (arith, last))
      (λ number in_new. push_memtable p.tables.items _ number (subst (λ (ts : List TableMaps). IsMemtable ts number) is.tables_are in_new))

-- ---- an index

contained : (ns : List ℕ) (k : ℕ) → Contains ns k ⊎ (Contains ns k → ⊥)
contained [] k = inr (none_in k)
contained (n ∷ ns) k = by (nat_eq n k) refl (contained ns k)
  where
    by : (b : Bool) → nat_eq n k ≡ b → Contains ns k ⊎ (Contains ns k → ⊥) → Contains (n ∷ ns) k ⊎ (Contains (n ∷ ns) k → ⊥)
    by true is rest = let same : n ≡ k = grind (arith, nat_tests) in inl (subst (λ i. Contains (n ∷ ns) i) same (first_in n ns))
    by false is rest =
        ⊎_elim (λ (has : Contains ns k). inl (later_in n ns k has))
        (λ (none : Contains ns k → ⊥). inr (λ has.
        ⊎_elim (λ (here : Contains (n ∷ []) k). differ is (only_in n k here)) (λ (later : Contains ns k). none later) (Contains-append_cases (n ∷ []) ns k has)))
        rest
      where
        differ : nat_eq n k ≡ false → n ≡ k → ⊥
        differ is same = grind (arith, nat_tests)

added_grown : (number column : ℕ) (type : ColumnType) (rule : Option Rule) (o n : Option MapPart) → IsAdded number column type rule o n → IsGrown o n
added_grown number column type rule None n added = absurd added
added_grown number column type rule (Some old) None added = absurd added
added_grown number column type rule (Some old) (Some new) added = record {
  same = ap (λ (part : MapPart). part.map) added.is;
  added = (number, added.added) ∷ [];
  indexes_are = ap (λ (part : MapPart). part.indexes) added.is;
}

-- **and a new index leave what a reader goes on with.**
pub pinned_indexed : (views : ViewBook) (p q : Parts) (def : IndexDef) (numbers : List ℕ) → IsAddedToAll def numbers p.maps q.maps → q.tables.items ≡ p.tables.items → q.last_map ≡ p.last_map → KeepsPinned views p q
pinned_indexed views p q def numbers all tables last = record {
  stay = λ number aside listed.
      ⊎_elim (λ (has : Contains numbers number). added_grown def.number def.column def.kind def.rule (get p.maps number) (get q.maps number) (all.added number has))
      (λ (none : Contains numbers number → ⊥). subst (λ (o : Option MapPart). IsGrown (get p.maps number) o) (sym (all.others number none)) (grown_not (get p.maps number)))
      (contained numbers number);
  aside = aside_still p q tables last;
}

-- ---- the frozen maps of a table

-- **They are set aside.**
pub frozen_aside : (p : Parts) → IsOfParts p → (at : ℕ) (t : TableMaps) → slice_get p.tables.items at ≡ Some t → (number : ℕ) → Contains t.frozen number → IsAside p number
frozen_aside p of at t there number has = record {
  numbered = of.mapped.used at t number there own;
  apart = λ is.
      let x : TableMaps = is.1 in
      let its : Contains (numbers_of x) number = subst (λ k. Contains (numbers_of x) k) is.3 (Contains-push x.frozen x.memtable) in
      let here : at ≡ is.0 = of.mapped.apart at is.0 t x number there is.2 own its in
      let same : x ≡ t = one_there x t (slice_get p.tables.items at) (ap (slice_get p.tables.items) here ∙ is.2) there in
      omega (arith, ap (λ (r : TableMaps). r.memtable) same, is.3, rise_last t.frozen t.memtable number (of.mapped.rising at t there) has);
}
  where
    own : Contains (numbers_of t) number
    own = Contains-append_left t.frozen (t.memtable ∷ []) number has
