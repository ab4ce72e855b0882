-- The hits of parts, test by test.
use Rattle.std.proofs.Common.{◌≡◌, if◌then◌else◌, ◌+◌, ◌<◌, ℕ, Bool, true, false, not, ◌||◌, ◌&&◌, List, [], ◌∷◌, ◌++◌, drop, get_or, length, map, refl, sym, ap, ◌∙◌}
use Rattle.std.proofs.lemmas.List.{at_drop_more}
use Rattle.std.specs.List.{filter, list_all, list_any}
use Rattle.sasi_candidates.specs.LayoutParts.{part_of_file, part_of_map}
use Rattle.sasi_candidates.specs.Parts.{Part, hit_in_index, is_stored, maps_of, posted}
use Rattle.sasi_candidates.proofs.Answers.{maps_of_parts}
use Rattle.sasi_layout.specs.Layout.{File, TableParts}
use Rattle.sasi_schema.specs.Defined.{definition, numbers_of}
use Rattle.sasi_schema.specs.declared.table.Table.{Table}
use Rattle.sasi_model.specs.Abbreviations.{Partitions}
use Rattle.sasi_model.specs.Conditions.{Search}
use Rattle.sasi_model.specs.IndexTerms.{any_holds, terms_at}
use Rattle.sasi_model.specs.State.{Index}
use Rattle.sasi_types.specs.declared.decorated_key.DecoratedKey.{DecoratedKey}
use Rattle.sasi_machine_layout.specs.Contents.{file_of, maps_in, table_with}
use Rattle.sasi_machine_layout.specs.Hits.{parts_in}
use Rattle.sasi_machine_layout.specs.declared.contents.FileContents.{FileContents}
use Rattle.sasi_machine_layout.specs.declared.contents.TableContents.{TableContents}

-- where each passes, all are left
all_left : {A : Type 0} (test : A → Bool) (xs : List A) → list_any (λ x. not (test x)) xs ≡ false → filter test xs ≡ xs
all_left test [] none = refl
all_left {A} test (x ∷ xs) none = by (test x) none (all_left test xs)
  where
    by : (b : Bool) → (not b || list_any (λ x. not (test x)) xs) ≡ false → (list_any (λ x. not (test x)) xs ≡ false → filter test xs ≡ xs) → (if b then x ∷ filter test xs else filter test xs) ≡ x ∷ xs
    by true none rest = ap (λ (l : List A). x ∷ l) (rest none)
    by false none rest = cc

same_test : {A : Type 0} (f g : A → Bool) → ((x : A) → f x ≡ g x) → (xs : List A) → list_all f xs ≡ list_all g xs
same_test f g same [] = refl
same_test f g same (x ∷ xs) = (let rest = same_test f g same xs in λ i. same x i && rest i)

-- a key that isn't in the spill is a hit where its terms are as asked
stored_hit : (index : Index) (search : Search) (m : Partitions) (q : DecoratedKey) → list_any (λ term. not (is_stored index m term)) (terms_at index.rule index.column m q) ≡ false
    → hit_in_index index search m q ≡ list_all (λ word. any_holds search.op word (terms_at index.rule index.column m q)) search.words
stored_hit index search m q is =
    ap (λ b. b || list_all (posted index search.op m q) search.words) is
    ∙ same_test (posted index search.op m q) (λ word. any_holds search.op word (terms_at index.rule index.column m q)) (λ word. ap (any_holds search.op word) (all_left (is_stored index m) (terms_at index.rule index.column m q) is)) search.words

pub stored_found : (index : Index) (search : Search) (m : Partitions) (q : DecoratedKey) (first second : List (List ℕ)) (found : Bool) → first ≡ terms_at index.rule index.column m q → second ≡ terms_at index.rule index.column m q
    → list_any (λ term. not (is_stored index m term)) first ≡ false → found ≡ list_all (λ word. any_holds search.op word second) search.words → found ≡ hit_in_index index search m q
stored_found index search m q first second found first_is second_is none found_is =
    found_is ∙ ap (λ (ts : List (List ℕ)). list_all (λ word. any_holds search.op word ts) search.words) second_is
    ∙ sym (stored_hit index search m q (ap (λ (ts : List (List ℕ)). list_any (λ term. not (is_stored index m term)) ts) (sym first_is) ∙ none))

-- ---- file by file

module _ (here : Part → Bool) (t : TableParts) (m : Partitions) where
  abbrev left_parts : List FileContents → List Part
  left_parts fs = map (part_of_file t) (map file_of fs) ++ map part_of_map (m ∷ [])

  next_file : (fs : List FileContents) (at : ℕ) (f : FileContents) (hit : Bool) → at < length fs → f ≡ get_or fs at f → here (part_of_file t (file_of f)) ≡ hit → list_any here (left_parts (drop at fs)) ≡ (hit || list_any here (left_parts (drop (at + 1) fs)))
  next_file fs at f hit inside is hits =
      at_drop_more (λ (fs : List FileContents). list_any here (left_parts fs)) fs at f inside
      ∙ ap (λ (x : FileContents). list_any here (left_parts (x ∷ drop (at + 1) fs))) (sym is)
      ∙ ap (λ b. b || list_any here (left_parts (drop (at + 1) fs))) hits

  -- one that isn't a hit, and one that is
  pub file_passed : (fs : List FileContents) (at : ℕ) (f : FileContents) (all : List Part) → at < length fs → f ≡ get_or fs at f → here (part_of_file t (file_of f)) ≡ false
      → list_any here all ≡ list_any here (left_parts (drop at fs)) → list_any here all ≡ list_any here (left_parts (drop (at + 1) fs))
  file_passed fs at f all inside is other so_far = so_far ∙ next_file fs at f false inside is other

  pub file_hit : (fs : List FileContents) (at : ℕ) (f : FileContents) (all : List Part) → at < length fs → f ≡ get_or fs at f → here (part_of_file t (file_of f)) ≡ true
      → list_any here all ≡ list_any here (left_parts (drop at fs)) → true ≡ list_any here all
  file_hit fs at f all inside is hits so_far = sym (so_far ∙ next_file fs at f true inside is hits)

-- ---- the maps of the parts

file_maps : (fs : List FileContents) (m : Partitions) → map (λ (f : File). f.holds) (map file_of fs) ++ m ∷ [] ≡ map (λ (f : FileContents). f.holds.partitions) fs ++ m ∷ []
file_maps [] m = refl
file_maps (f ∷ fs) m = ap (λ (ms : List Partitions). f.holds.partitions ∷ ms) (file_maps fs m)

pub maps_are : (table : Table) (t : TableContents) → maps_of (parts_in table t) ≡ maps_in t
maps_are table t = maps_of_parts (table_with (definition table) (numbers_of table) t) ∙ file_maps t.files.items t.memtable.partitions
