-- For callers: which entries the intersection has.
use Rattle.std.proofs.Common.{◌≡◌, ℕ, zero, suc, ◌+◌, ◌<◌, ◌≤◌, Bool, true, false, cond, ◌&&◌, ◌||◌, nat_eq, Contains, List, [], ◌∷◌, ◌++◌, length, map, slice_get, Option, None, Some, refl, sym, ap, ap₂, subst, ◌∙◌, arith}
use Rattle.std.proofs.lemmas.Bool.{and_parts}
use Rattle.std.proofs.lemmas.Bool.Decides.{nat_tests}
use Rattle.std.proofs.lemmas.List.Folds.{list_any-append}
use Rattle.std.specs.List.{AllByRecursion, list_any}
use Rattle.sasi_types.specs.declared.partitioner.Partitioner.{Partitioner}
use Rattle.sasi_types.specs.declared.tree.Pair.{Pair}
use Rattle.sasi_datawrite.specs.Format.{key_pairs}
use Rattle.sasi_layout.specs.Flushed.{contents_of}
use Rattle.sasi_ranges.specs.declared.entry.Entry.{Entry}
use Rattle.sasi_ranges.specs.Lists.{each_relation_has, intersection_by}
use Rattle.sasi_ranges.proofs.ListLaws.{intersection_by_from, intersection_by_has, intersection_by_tokens}
use Rattle.sasi_candidates.specs.Costs.{has_index}
use Rattle.sasi_candidates.specs.Parts.{Part}
use Rattle.sasi_candidates.proofs.PairLists.{any_at}
use Rattle.sasi_hits.specs.Pairs.{entries_of}
use Rattle.sasi_engine.specs.Asked.{Asked, first_lacking, hit_pairs, indexed_in}
use Rattle.sasi_engine.specs.HitLists.{hit_lists, key_list, own_lists, part_lists}

-- ---- an entry of the intersection is one of the lists

-- one of the items, which passes
record SomeItem {A : Type 0} (test : A → Bool) (xs : List A) : Type 0 where
  pub item : A
  pub listed : Contains xs item
  pub passes : test item ≡ true

some_item : {A : Type 0} (test : A → Bool) (xs : List A) → list_any test xs ≡ true → SomeItem test xs
some_item test [] any = cc
some_item test (x ∷ xs) any = by (test x) refl any (some_item test xs)
  where
    by : (b : Bool) → test x ≡ b → (b || list_any test xs) ≡ true → (list_any test xs ≡ true → SomeItem test xs) → SomeItem test (x ∷ xs)
    by true is any later = record { item = x; listed = (0, omega arith, refl); passes = is }
    by false isnt any later = (let rest = later any in record { item = rest.item; listed = (suc rest.listed.0, omega (arith, rest.listed.1), rest.listed.2); passes = rest.passes })

both : (b c : Bool) → (b ≡ true → c ≡ true) → (c ≡ true → b ≡ true) → b ≡ c
both true c there back = sym (there refl)
both false true there back = back refl
both false false there back = refl

and_true : (b c : Bool) → b ≡ true → c ≡ true → (b && c) ≡ true
and_true true c first second = second
and_true false c first second = first

module _ (relations : List (List ℕ)) (lists : List (List Entry)) (token : ℕ) (test : Entry → Bool) (tells : (e : Entry) → test e ≡ true → e.token ≡ token) where
  -- **Of a token that every relation has, the intersection has each entry that some list has.**
  pub any_entry : list_any test (intersection_by relations lists) ≡ (each_relation_has relations lists token && list_any (list_any test) lists)
  any_entry = both (list_any test (intersection_by relations lists)) (each_relation_has relations lists token && list_any (list_any test) lists)
      (λ any.
      (let found = some_item test (intersection_by relations lists) any in
      let from = intersection_by_from relations lists found.item found.listed in
      and_true (each_relation_has relations lists token) (list_any (list_any test) lists)
      (ap (each_relation_has relations lists) (sym (tells found.item found.passes)) ∙ intersection_by_tokens relations lists found.item found.listed)
      (any_at (list_any test) lists from.0 from.1.0 from.1.1 from.1.2 (any_at test from.0 found.item from.2.0 from.2.1 from.2.2 found.passes))))
      (λ any.
      (let parts = and_parts (each_relation_has relations lists token) (list_any (list_any test) lists) any in
      let l = some_item (list_any test) lists parts.1 in
      let found = some_item test l.item l.passes in
      let there = intersection_by_has relations lists l.item found.item l.listed found.listed (ap (each_relation_has relations lists) (tells found.item found.passes) ∙ parts.0) in
      any_at test (intersection_by relations lists) found.item there.0 there.1 there.2 found.passes))

-- ---- the list of a relation and a part

-- the entry is this one
abbrev pub is_entry : ℕ → ℕ → ℕ → ℕ → Entry → Bool
is_entry token leaf part place e = nat_eq e.token token && (nat_eq e.leaf leaf && (nat_eq e.part part && nat_eq e.place place))

-- the pair is this one
abbrev pub is_pair : ℕ → ℕ → Pair → Bool
is_pair token place x = nat_eq x.token token && nat_eq x.place place

module _ (token leaf part place : ℕ) where
  abbrev test : Entry → Bool
  test e = is_entry token leaf part place e

  own_entries : (own : ℕ) (at : ℕ) (pairs : List Pair) → nat_eq own leaf ≡ true → nat_eq at part ≡ true → list_any test (entries_of own at pairs) ≡ list_any (is_pair token place) pairs
  own_entries own at [] same here = refl
  own_entries own at (x ∷ pairs) same here = ap₂ (λ b c. (nat_eq x.token token && (b && (c && nat_eq x.place place))) || list_any test (entries_of own at pairs)) same here ∙ ap (λ b. is_pair token place x || b) (own_entries own at pairs same here)

  never : (b c d : Bool) → c ≡ false → (b && (c && d)) ≡ false
  never true c d isnt = ap (λ x. x && d) isnt
  never false c d isnt = refl

  never_more : (b c d e : Bool) → d ≡ false → (b && (c && (d && e))) ≡ false
  never_more true true d e isnt = ap (λ x. x && e) isnt
  never_more true false d e isnt = refl
  never_more false c d e isnt = refl

  other_leaf : (own at : ℕ) (pairs : List Pair) → nat_eq own leaf ≡ false → list_any test (entries_of own at pairs) ≡ false
  other_leaf own at [] other = refl
  other_leaf own at (x ∷ pairs) other = ap₂ (λ b c. b || c) (never (nat_eq x.token token) (nat_eq own leaf) (nat_eq at part && nat_eq x.place place) other) (other_leaf own at pairs other)

  other_part : (own at : ℕ) (pairs : List Pair) → nat_eq at part ≡ false → list_any test (entries_of own at pairs) ≡ false
  other_part own at [] other = refl
  other_part own at (x ∷ pairs) other = ap₂ (λ b c. b || c) (never_more (nat_eq x.token token) (nat_eq own leaf) (nat_eq at part) (nat_eq x.place place) other) (other_part own at pairs other)

  -- ---- in one part

  module _ (p : Partitioner) where
    key_nowhere : (at : ℕ) (one : Part) (o : Option ℕ) → ((own : ℕ) → o ≡ Some own → (nat_eq own leaf ≡ false)) → list_any (list_any test) (key_list p at one o) ≡ false
    key_nowhere at one None differs = refl
    key_nowhere at one (Some own) differs = ap (λ b. b || false) (other_leaf own at (key_pairs p (contents_of one.holds)) (differs own refl))

    key_elsewhere : (at : ℕ) (one : Part) (o : Option ℕ) → nat_eq at part ≡ false → list_any (list_any test) (key_list p at one o) ≡ false
    key_elsewhere at one None other = refl
    key_elsewhere at one (Some own) other = ap (λ b. b || false) (other_part own at (key_pairs p (contents_of one.holds)) other)

    own_elsewhere : (at own : ℕ) (one : Part) (asked : List Asked) → nat_eq at part ≡ false → list_any (list_any test) (own_lists p at one own asked) ≡ false
    own_elsewhere at own one [] other = refl
    own_elsewhere at own one (a ∷ asked) other = by (has_index a.index one.origin) (own_elsewhere at (suc own) one asked other)
      where
        by : (b : Bool) → list_any (list_any test) (own_lists p at one (suc own) asked) ≡ false
            → list_any (list_any test) (cond b (entries_of own at (hit_pairs p a one) ∷ own_lists p at one (suc own) asked) (own_lists p at one (suc own) asked)) ≡ false
        by true rest = ap₂ (λ b c. b || c) (other_part own at (hit_pairs p a one) other) rest
        by false rest = rest

    part_elsewhere : (asked : List Asked) (at : ℕ) (one : Part) → nat_eq at part ≡ false → list_any (list_any test) (part_lists p asked at one) ≡ false
    part_elsewhere asked at one other =
        list_any-append (list_any test) (key_list p at one (first_lacking 0 (indexed_in asked one))) (own_lists p at one 0 asked)
        ∙ ap₂ (λ b c. b || c) (key_elsewhere at one (first_lacking 0 (indexed_in asked one)) other) (own_elsewhere at 0 one asked other)

    parts_elsewhere : (asked : List Asked) (at : ℕ) (parts : List Part) → part < at → list_any (list_any test) (hit_lists p asked at parts) ≡ false
    parts_elsewhere asked at [] behind = refl
    parts_elsewhere asked at (one ∷ parts) behind =
        list_any-append (list_any test) (part_lists p asked at one) (hit_lists p asked (suc at) parts)
        ∙ ap₂ (λ b c. b || c) (part_elsewhere asked at one (higher part at behind)) (parts_elsewhere asked (suc at) parts (omega (arith, behind)))
      where
        higher : (x y : ℕ) → x < y → nat_eq y x ≡ false
        higher x y lt = grind (arith, nat_tests)

    own_behind : (at own : ℕ) (one : Part) (asked : List Asked) → leaf < own → list_any (list_any test) (own_lists p at one own asked) ≡ false
    own_behind at own one [] behind = refl
    own_behind at own one (a ∷ asked) behind = by (has_index a.index one.origin) (own_behind at (suc own) one asked (omega (arith, behind)))
      where
        higher : (x y : ℕ) → x < y → nat_eq y x ≡ false
        higher x y lt = grind (arith, nat_tests)

        by : (b : Bool) → list_any (list_any test) (own_lists p at one (suc own) asked) ≡ false
            → list_any (list_any test) (cond b (entries_of own at (hit_pairs p a one) ∷ own_lists p at one (suc own) asked) (own_lists p at one (suc own) asked)) ≡ false
        by true rest = ap₂ (λ b c. b || c) (other_leaf own at (hit_pairs p a one) (higher leaf own behind)) rest
        by false rest = rest

    or_false : (b : Bool) → (b || false) ≡ b
    or_false true = refl
    or_false false = refl

    -- the list of the relation
    own_there : (at own i : ℕ) (one : Part) (asked : List Asked) (a : Asked) → leaf ≡ own + i → slice_get asked i ≡ Some a → has_index a.index one.origin ≡ true → nat_eq at part ≡ true
        → list_any (list_any test) (own_lists p at one own asked) ≡ list_any (is_pair token place) (hit_pairs p a one)
    own_there at own i one [] a leaf_is listed has here = cc
    own_there at own zero one (b ∷ asked) a leaf_is listed has here =
        (let same : b ≡ a = cc in
        ap (λ t. list_any (list_any test) (cond t (entries_of own at (hit_pairs p b one) ∷ own_lists p at one (suc own) asked) (own_lists p at one (suc own) asked))) (ap (λ (x : Asked). has_index x.index one.origin) same ∙ has)
        ∙ ap₂ (λ c d. c || d) (own_entries own at (hit_pairs p b one) (equal own leaf (omega (arith, leaf_is))) here) (own_behind at (suc own) one asked (omega (arith, leaf_is)))
        ∙ or_false (list_any (is_pair token place) (hit_pairs p b one))
        ∙ ap (λ (x : Asked). list_any (is_pair token place) (hit_pairs p x one)) same)
      where
        equal : (x y : ℕ) → x ≡ y → nat_eq x y ≡ true
        equal x y e = grind (arith, nat_tests)
    own_there at own (suc i) one (b ∷ asked) a leaf_is listed has here = by (has_index b.index one.origin) (own_there at (suc own) i one asked a (omega (arith, leaf_is)) listed has here)
      where
        lower : (x y : ℕ) → x < y → nat_eq x y ≡ false
        lower x y lt = grind (arith, nat_tests)

        by : (t : Bool) → list_any (list_any test) (own_lists p at one (suc own) asked) ≡ list_any (is_pair token place) (hit_pairs p a one)
            → list_any (list_any test) (cond t (entries_of own at (hit_pairs p b one) ∷ own_lists p at one (suc own) asked) (own_lists p at one (suc own) asked)) ≡ list_any (is_pair token place) (hit_pairs p a one)
        by true rest = ap₂ (λ c d. c || d) (other_leaf own at (hit_pairs p b one) (lower own leaf (omega (arith, leaf_is)))) rest
        by false rest = rest

    -- the first relation that lacks its index is another one
    lacks_other : (n i own : ℕ) (one : Part) (asked : List Asked) (a : Asked) → slice_get asked i ≡ Some a → has_index a.index one.origin ≡ true → first_lacking n (indexed_in asked one) ≡ Some own → nat_eq own (n + i) ≡ false
    lacks_other n i own one [] a listed has lacks = cc
    lacks_other n zero own one (b ∷ asked) a listed has lacks =
        (let same : b ≡ a = cc in
        let there : has_index b.index one.origin ≡ true = ap (λ (x : Asked). has_index x.index one.origin) same ∙ has in
        let later : first_lacking (suc n) (indexed_in asked one) ≡ Some own = ap (λ t. first_lacking n (t ∷ indexed_in asked one)) (sym there) ∙ lacks in
        higher n own (at_least (suc n) own (indexed_in asked one) later))
      where
        higher : (x y : ℕ) → suc x ≤ y → nat_eq y (x + 0) ≡ false
        higher x y le = grind (arith, nat_tests)

        at_least : (m x : ℕ) (bits : List Bool) → first_lacking m bits ≡ Some x → m ≤ x
        at_least m x [] is = cc
        at_least m x (true ∷ bits) is = omega (arith, at_least (suc m) x bits is)
        at_least m x (false ∷ bits) is = (let same : m ≡ x = cc in omega (arith, same))
    lacks_other n (suc i) own one (b ∷ asked) a listed has lacks = by (has_index b.index one.origin) lacks (lacks_other (suc n) i own one asked a listed has)
      where
        moved : (x y z : ℕ) → nat_eq x (suc y + z) ≡ false → nat_eq x (y + suc z) ≡ false
        moved x y z e = grind (arith, nat_tests)

        first : (x y : ℕ) → nat_eq x (x + suc y) ≡ false
        first x y = grind (arith, nat_tests)

        by : (t : Bool) → first_lacking n (t ∷ indexed_in asked one) ≡ Some own → (first_lacking (suc n) (indexed_in asked one) ≡ Some own → nat_eq own (suc n + i) ≡ false) → nat_eq own (n + suc i) ≡ false
        by true later rest = moved own n i (rest later)
        by false here rest = (let same : n ≡ own = cc in ap (λ k. nat_eq k (n + suc i)) (sym same) ∙ first n i)

    part_there : (asked : List Asked) (at : ℕ) (one : Part) (a : Asked) → slice_get asked leaf ≡ Some a → has_index a.index one.origin ≡ true → nat_eq at part ≡ true
        → list_any (list_any test) (part_lists p asked at one) ≡ list_any (is_pair token place) (hit_pairs p a one)
    part_there asked at one a listed has here =
        list_any-append (list_any test) (key_list p at one (first_lacking 0 (indexed_in asked one))) (own_lists p at one 0 asked)
        ∙ ap₂ (λ b c. b || c)
        (key_nowhere at one (first_lacking 0 (indexed_in asked one)) (λ own lacks. (let same : leaf ≡ 0 + leaf = omega arith in ap (nat_eq own) same ∙ lacks_other 0 leaf own one asked a listed has lacks)))
        (own_there at 0 leaf one asked a (omega arith) listed has here)

    -- ---- in all parts

    parts_there : (asked : List Asked) (at k : ℕ) (parts : List Part) (one : Part) (a : Asked) → part ≡ at + k → slice_get parts k ≡ Some one → slice_get asked leaf ≡ Some a → has_index a.index one.origin ≡ true
        → list_any (list_any test) (hit_lists p asked at parts) ≡ list_any (is_pair token place) (hit_pairs p a one)
    parts_there asked at k [] one a part_is found listed has = cc
    parts_there asked at zero (x ∷ parts) one a part_is found listed has =
        (let same : x ≡ one = cc in
        list_any-append (list_any test) (part_lists p asked at x) (hit_lists p asked (suc at) parts)
        ∙ ap₂ (λ b c. b || c)
        (ap (λ (y : Part). list_any (list_any test) (part_lists p asked at y)) same ∙ part_there asked at one a listed has (equal at part (omega (arith, part_is))))
        (parts_elsewhere asked (suc at) parts (omega (arith, part_is)))
        ∙ or_false (list_any (is_pair token place) (hit_pairs p a one)))
      where
        equal : (x y : ℕ) → x ≡ y → nat_eq x y ≡ true
        equal x y e = grind (arith, nat_tests)
    parts_there asked at (suc k) (x ∷ parts) one a part_is found listed has =
        list_any-append (list_any test) (part_lists p asked at x) (hit_lists p asked (suc at) parts)
        ∙ ap₂ (λ b c. b || c) (part_elsewhere asked at x (lower at part (omega (arith, part_is)))) (parts_there asked (suc at) k parts one a (omega (arith, part_is)) found listed has)
      where
        lower : (y z : ℕ) → y < z → nat_eq y z ≡ false
        lower y z lt = grind (arith, nat_tests)

-- **Of a token that every relation has, the intersection has exactly those entries of a relation and a part with its index that are hits.**
pub entry_there : (p : Partitioner) (asked : List Asked) (parts : List Part) (relations : List (List ℕ)) (token leaf part place : ℕ) (a : Asked) (one : Part) → slice_get asked leaf ≡ Some a → slice_get parts part ≡ Some one
    → has_index a.index one.origin ≡ true → each_relation_has relations (hit_lists p asked 0 parts) token ≡ true
    → list_any (is_entry token leaf part place) (intersection_by relations (hit_lists p asked 0 parts)) ≡ list_any (is_pair token place) (hit_pairs p a one)
entry_there p asked parts relations token leaf part place a one listed found has asks =
    any_entry relations (hit_lists p asked 0 parts) token (is_entry token leaf part place)
    (λ e is. equal e.token token (and_parts (nat_eq e.token token) (nat_eq e.leaf leaf && (nat_eq e.part part && nat_eq e.place place)) is).0)
    ∙ ap₂ (λ b c. b && c) asks (parts_there token leaf part place p asked 0 part parts one a (omega arith) found listed has)
  where
    equal : (x y : ℕ) → nat_eq x y ≡ true → x ≡ y
    equal x y e = grind (arith, nat_tests)
