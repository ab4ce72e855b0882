-- The keys that the searches of all words give.
use Rattle.std.proofs.Common.{◌≡◌, ℕ, ◌+◌, ◌<◌, ◌≤◌, Bool, true, false, cond, if◌then◌else◌, ◌&&◌, List, [], ◌∷◌, ◌++◌, length, map, drop, get_or, Option, Some, refl, sym, ap, ap₂, subst, ◌∙◌, append_assoc, append-nil}
use Rattle.std.proofs.lemmas.List.{drop_all}
use Rattle.std.specs.FinMap as map_
use Rattle.std.specs.List.{AllByRecursion, filter}
use Rattle.std.specs.Option.{option_map_or}
use Rattle.sasi_types.specs.declared.decorated_key.DecoratedKey.{DecoratedKey}
use Rattle.sasi_terms.specs.declared.op.Op.{Op}
use Rattle.sasi_cells.proofs.Laws.Decorated.{entries_have}
use Rattle.sasi_model.specs.Abbreviations.{Partitions}
use Rattle.sasi_model.specs.Cells.{Partition}
use Rattle.sasi_model.specs.IndexTerms.{any_holds, terms_of_cell}
use Rattle.sasi_memindex.specs.Hits.{keys_in}
use Rattle.sasi_memindex.specs.MemIndexView.{MemIndexView}
use Rattle.sasi_memindex.proofs.SearchLaws.{kept_at}
use Rattle.sasi_engine.specs.inside.Found.{all_hold, is_in_all, keys_with}
use Rattle.sasi_engine.proofs.Adding.{grown, item_next}
use Rattle.sasi_engine.proofs.FoundLaws.{map_filter, same_filter}

filter_filter : {A : Type 0} (f g : A → Bool) (xs : List A) → filter f (filter g xs) ≡ filter (λ x. g x && f x) xs
filter_filter f g [] = refl
filter_filter f g (x ∷ xs) = by (g x) (f x) refl (filter_filter f g xs)
  where
    by : (b c : Bool) → f x ≡ c → filter f (filter g xs) ≡ filter (λ y. g y && f y) xs
        → filter f (cond b (x ∷ filter g xs) (filter g xs)) ≡ cond (b && c) (x ∷ filter (λ y. g y && f y) xs) (filter (λ y. g y && f y) xs)
    by true true is rest = ap (λ t. cond t (x ∷ filter f (filter g xs)) (filter f (filter g xs))) is ∙ ap (λ l. x ∷ l) rest
    by true false is rest = ap (λ t. cond t (x ∷ filter f (filter g xs)) (filter f (filter g xs))) is ∙ rest
    by false c is rest = rest

module _ (op : Op) (index : MemIndexView) (m : Partitions) where
  -- a term of the partition's cell is as asked
  abbrev holds_at : List ℕ → Partition → Bool
  holds_at word p = any_holds op word (terms_of_cell index.rule (map_.get p.cells index.column))

  in_each : (q : DecoratedKey) (p : Partition) → map_.get m q ≡ Some p → (words : List (List ℕ)) → is_in_all (map (λ word. keys_in op word index m) words) q ≡ all_hold op words index p
  in_each q p found [] = refl
  in_each q p found (word ∷ words) =
      ap₂ (λ b c. b && c)
      (kept_at (holds_at word) q (map_.entries m) (map_.entries_sorted m) ∙ ap (λ (o : Option Partition). option_map_or (holds_at word) o false) (sym (map_.get-entries m q) ∙ found))
      (in_each q p found words)

  -- **The keys of the first word that each other word gives as well are those of all words.**
  pub words_met : (first : List ℕ) (others : List (List ℕ)) → filter (is_in_all (map (λ word. keys_in op word index m) others)) (keys_in op first index m) ≡ keys_with op (first ∷ others) index m
  words_met first others =
      map_filter (λ (e : DecoratedKey × Partition). e.0) (is_in_all (map (λ word. keys_in op word index m) others)) (filter (λ (e : DecoratedKey × Partition). holds_at first e.1) (map_.entries m))
      ∙ ap (map (λ (e : DecoratedKey × Partition). e.0))
      (filter_filter (λ (e : DecoratedKey × Partition). is_in_all (map (λ word. keys_in op word index m) others) e.0) (λ (e : DecoratedKey × Partition). holds_at first e.1) (map_.entries m)
      ∙ same_filter (λ (e : DecoratedKey × Partition). holds_at first e.1 && is_in_all (map (λ word. keys_in op word index m) others) e.0) (λ (e : DecoratedKey × Partition). all_hold op (first ∷ others) index e.1) (map_.entries m)
      (entries_have (λ (e : DecoratedKey × Partition). (holds_at first e.1 && is_in_all (map (λ word. keys_in op word index m) others) e.0) ≡ all_hold op (first ∷ others) index e.1) m
      (λ q p found. ap (λ b. holds_at first p && b) (in_each q p found others))))

  and_true : (b : Bool) → b ≡ (b && true)
  and_true true = refl
  and_true false = refl

  all_so : (first : List ℕ) (es : List (DecoratedKey × Partition)) → AllByRecursion (λ (e : DecoratedKey × Partition). holds_at first e.1 ≡ (holds_at first e.1 && true)) es
  all_so first [] = tt
  all_so first (e ∷ es) = (and_true (holds_at first e.1), all_so first es)

  -- and one word alone
  pub one_word : (first : List ℕ) → keys_in op first index m ≡ keys_with op (first ∷ []) index m
  one_word first = ap (map (λ (e : DecoratedKey × Partition). e.0))
      (same_filter (λ (e : DecoratedKey × Partition). holds_at first e.1) (λ (e : DecoratedKey × Partition). holds_at first e.1 && true) (map_.entries m) (all_so first (map_.entries m)))

pub pushed_all : {A : Type 0} (P : A → Type 0) (xs new : List A) (x : A) → new ≡ xs ++ x ∷ [] → AllByRecursion P xs → P x → AllByRecursion P new
pushed_all {A} P xs new x pushed all is = subst (λ l. AllByRecursion P l) (sym pushed) (go xs all)
  where
    go : (ys : List A) → AllByRecursion P ys → AllByRecursion P (ys ++ x ∷ [])
    go [] none = (is, tt)
    go (y ∷ ys) all = (all.0, go ys all.1)

-- one word more is searched
pub one_searched : (op : Op) (index : MemIndexView) (m : Partitions) (words : List (List ℕ)) (n : ℕ) (lists new : List (List DecoratedKey)) (word : List ℕ) (found : List DecoratedKey) → n < length words → word ≡ get_or words n word → found ≡ keys_in op word index m
    → new ≡ lists ++ found ∷ [] → lists ++ map (λ w. keys_in op w index m) (drop n words) ≡ map (λ w. keys_in op w index m) words → new ++ map (λ w. keys_in op w index m) (drop (n + 1) words) ≡ map (λ w. keys_in op w index m) words
one_searched op index m words n lists new word found inside is found_is pushed so_far =
    let f : List ℕ → List DecoratedKey = λ w. keys_in op w index m in
    grown lists new (map f (drop n words)) (map f (drop (n + 1) words)) (map f words) found pushed
    (ap (map f) (item_next words n word inside is) ∙ ap (λ (l : List DecoratedKey). l ∷ map f (drop (n + 1) words)) (sym found_is)) so_far

-- all are
pub all_searched : (op : Op) (index : MemIndexView) (m : Partitions) (words : List (List ℕ)) (n : ℕ) (lists : List (List DecoratedKey)) → length words ≤ n → lists ++ map (λ w. keys_in op w index m) (drop n words) ≡ map (λ w. keys_in op w index m) words
    → lists ≡ map (λ w. keys_in op w index m) words
all_searched op index m words n lists end so_far = sym (append-nil lists) ∙ ap (λ l. lists ++ map (λ w. keys_in op w index m) l) (sym (drop_all n words end)) ∙ so_far

-- one key more is looked for
pub common_next : (test : DecoratedKey → Bool) (keys : List DecoratedKey) (n : ℕ) (key : DecoratedKey) (common new : List DecoratedKey) → n < length keys → key ≡ get_or keys n key → new ≡ common ++ (if test key then key ∷ [] else [])
    → common ++ filter test (drop n keys) ≡ filter test keys → new ++ filter test (drop (n + 1) keys) ≡ filter test keys
common_next test keys n key common new inside is kept so_far =
    ap (λ l. l ++ filter test (drop (n + 1) keys)) kept ∙ append_assoc common (if test key then key ∷ [] else []) (filter test (drop (n + 1) keys)) ∙ ap (λ l. common ++ l) (by (test key)) ∙ ap (λ l. common ++ filter test l) (sym (item_next keys n key inside is)) ∙ so_far
  where
    by : (b : Bool) → (if b then key ∷ [] else []) ++ filter test (drop (n + 1) keys) ≡ cond b (key ∷ filter test (drop (n + 1) keys)) (filter test (drop (n + 1) keys))
    by true = refl
    by false = refl
