-- Conditions of which some are on the key: their candidates, and what they cost, are told by the others and the key.
use Rattle.std.proofs.Common.{◌≡◌, ℕ, ◌+◌, ◌*◌, ◌≤◌, Bool, true, false, cond, ◌&&◌, ◌||◌, not, if◌then◌else◌, List, [], ◌∷◌, length, None, Some, refl, sym, ap, ap₂, subst, ◌∙◌, arith}
use Rattle.std.proofs.lemmas.Bool.{and_parts}
use Rattle.std.proofs.lemmas.List.Sums.{sum_by-cons}
use Rattle.std.specs.FinMap as map_
use Rattle.std.specs.List.{filter, list_any, sum_by}
use Rattle.sasi_types.specs.declared.column.ColumnType.{ColumnType}
use Rattle.sasi_types.specs.declared.decorated_key.DecoratedKey.{DecoratedKey}
use Rattle.sasi_types.specs.declared.partitioner.Partitioner.{Partitioner}
use Rattle.sasi_cells.specs.Maps.{merged}
use Rattle.sasi_model.specs.Conditions.{Condition, Indexed, OfKey, Plain}
use Rattle.sasi_model.specs.Filters.{all_of, key_asked, leaves, where_of}
use Rattle.sasi_model.specs.Tokens.{same}
use Rattle.sasi_memindex.specs.Book.{Book}
use Rattle.sasi_views.specs.declared.part.Part as view
use Rattle.sasi_ranges.specs.declared.entry.Entry.{Entry}
use Rattle.sasi_candidates.specs.Candidates.{admits, candidates, is_candidate}
use Rattle.sasi_candidates.specs.Costs.{file_cost, files_of, lacks_index, narrows, pages_of_file, reads_all, searches_cost, token_cost}
use Rattle.sasi_candidates.specs.Parts.{Origin, Part, maps_of}
use Rattle.sasi_recheck.specs.Sources.{Candidate}
use Rattle.sasi_engine.specs.declared.hand.Hand.{Hand}
use Rattle.sasi_engine.specs.declared.relation.IndexedRelation.{IndexedRelation}
use Rattle.sasi_engine.specs.Asked.{Asked, asked_of}
use Rattle.sasi_engine.specs.HitCandidates.{IsLeft, IsMadeOf, IsOwing, IsWorld, PlanWorld}
use Rattle.sasi_engine.specs.KeyedHits.{IsKeyedWorld, agree}
use Rattle.sasi_engine.specs.Views.{IsPlannedFor}
use Rattle.sasi_engine.specs.inside.KeyedSteps.{IsKeyLeft, IsKeyOwing, rows_of_key}
use Rattle.sasi_engine.proofs.KeyPlaces.{equal_bytes}

-- the conditions that aren't on the key
abbrev free_of : List Condition → List Condition
free_of [] = []
free_of (OfKey bytes ∷ conditions) = free_of conditions
free_of (Indexed index search ∷ conditions) = Indexed index search ∷ free_of conditions
free_of (Plain column comparison ∷ conditions) = Plain column comparison ∷ free_of conditions

asked_free : (conditions : List Condition) → asked_of (free_of conditions) ≡ asked_of conditions
asked_free [] = refl
asked_free (OfKey bytes ∷ conditions) = asked_free conditions
asked_free (Indexed index search ∷ conditions) = ap (λ (l : List Asked). record { index = index; search = search } ∷ l) (asked_free conditions)
asked_free (Plain column comparison ∷ conditions) = asked_free conditions

no_key_asked : (conditions : List Condition) → key_asked (free_of conditions) ≡ None
no_key_asked [] = refl
no_key_asked (OfKey bytes ∷ conditions) = no_key_asked conditions
no_key_asked (Indexed index search ∷ conditions) = no_key_asked conditions
no_key_asked (Plain column comparison ∷ conditions) = no_key_asked conditions

-- ---- candidates

and_false : (b : Bool) → (b && false) ≡ false
and_false true = refl
and_false false = refl

-- the others decide about the key,
key_admitted : (parts : List Part) (q : DecoratedKey) (key : List ℕ) (conditions : List Condition) → agree key conditions ≡ true → same q.key key ≡ true → all_of (admits parts q) (leaves conditions) ≡ all_of (admits parts q) (leaves (free_of conditions))
key_admitted parts q key [] agreed is = refl
key_admitted parts q key (OfKey other ∷ conditions) agreed is =
    let both = and_parts (same other key) (agree key conditions) agreed in
    ap (λ b. b && all_of (admits parts q) (leaves conditions)) (ap (same q.key) (equal_bytes other key both.0) ∙ is) ∙ key_admitted parts q key conditions both.1 is
key_admitted parts q key (Indexed index search ∷ conditions) agreed is = ap (λ b. admits parts q (Indexed index search) && b) (key_admitted parts q key conditions agreed is)
key_admitted parts q key (Plain column comparison ∷ conditions) agreed is = key_admitted parts q key conditions agreed is

-- and no other key is left
others_refused : (parts : List Part) (q : DecoratedKey) (key : List ℕ) (conditions : List Condition) → key_asked conditions ≡ Some key → same q.key key ≡ false → all_of (admits parts q) (leaves conditions) ≡ false
others_refused parts q key [] asked isnt = cc
others_refused parts q key (OfKey other ∷ conditions) asked isnt =
    (let other_is : other ≡ key = cc in ap (λ b. b && all_of (admits parts q) (leaves conditions)) (ap (same q.key) other_is ∙ isnt))
others_refused parts q key (Indexed index search ∷ conditions) asked isnt = ap (λ b. admits parts q (Indexed index search) && b) (others_refused parts q key conditions asked isnt) ∙ and_false (admits parts q (Indexed index search))
others_refused parts q key (Plain column comparison ∷ conditions) asked isnt = others_refused parts q key conditions asked isnt

module _ (parts : List Part) (key : List ℕ) (conditions : List Condition) (asked : key_asked conditions ≡ Some key) (agreed : agree key conditions ≡ true) where
  abbrev of_all : Candidate → Bool
  of_all e = is_candidate parts (where_of conditions) e.0

  abbrev of_free : Candidate → Bool
  of_free e = is_candidate parts (where_of (free_of conditions)) e.0

  kept_rows : (es : List Candidate) → filter of_all es ≡ rows_of_key key (filter of_free es)
  kept_rows [] = refl
  kept_rows (e ∷ es) = by (same e.0.key key) refl (of_free e) refl (kept_rows es)
    where
      rest : List Candidate
      rest = filter of_free es

      by : (b : Bool) → same e.0.key key ≡ b → (c : Bool) → of_free e ≡ c → filter of_all es ≡ rows_of_key key rest → cond (of_all e) (e ∷ filter of_all es) (filter of_all es) ≡ rows_of_key key (cond c (e ∷ rest) rest)
      by true is true left others =
          ap (λ b. cond b (e ∷ filter of_all es) (filter of_all es)) (key_admitted parts e.0 key conditions agreed is ∙ left) ∙ ap (λ (l : List Candidate). e ∷ l) others ∙ sym (ap (λ b. cond b (e ∷ rows_of_key key rest) (rows_of_key key rest)) is)
      by true is false refused others = ap (λ b. cond b (e ∷ filter of_all es) (filter of_all es)) (key_admitted parts e.0 key conditions agreed is ∙ refused) ∙ others
      by false isnt true left others =
          ap (λ b. cond b (e ∷ filter of_all es) (filter of_all es)) (others_refused parts e.0 key conditions asked isnt) ∙ others ∙ sym (ap (λ b. cond b (e ∷ rows_of_key key rest) (rows_of_key key rest)) isnt)
      by false isnt false refused others = ap (λ b. cond b (e ∷ filter of_all es) (filter of_all es)) (others_refused parts e.0 key conditions asked isnt) ∙ others

  -- **The candidates are those of the other conditions that have the key.**
  keyed_candidates : candidates parts (where_of conditions) ≡ rows_of_key key (candidates parts (where_of (free_of conditions)))
  keyed_candidates = kept_rows (map_.entries (merged (maps_of parts)))

-- ---- costs

free_searches : (part : Part) (conditions : List Condition) → sum_by (searches_cost part) (free_of conditions) ≡ sum_by (searches_cost part) conditions
free_searches part [] = refl
free_searches part (OfKey bytes ∷ conditions) = omega (arith, free_searches part conditions, sum_by-cons (searches_cost part) (OfKey bytes) conditions)
free_searches part (Indexed index search ∷ conditions) =
    sum_by-cons (searches_cost part) (Indexed index search) (free_of conditions) ∙ ap (λ n. searches_cost part (Indexed index search) + n) (free_searches part conditions) ∙ sym (sum_by-cons (searches_cost part) (Indexed index search) conditions)
free_searches part (Plain column comparison ∷ conditions) =
    sum_by-cons (searches_cost part) (Plain column comparison) (free_of conditions) ∙ ap (λ n. searches_cost part (Plain column comparison) + n) (free_searches part conditions) ∙ sym (sum_by-cons (searches_cost part) (Plain column comparison) conditions)

free_lacks : (origin : Origin) (conditions : List Condition) → list_any (lacks_index origin) (free_of conditions) ≡ list_any (lacks_index origin) conditions
free_lacks origin [] = refl
free_lacks origin (OfKey bytes ∷ conditions) = free_lacks origin conditions
free_lacks origin (Indexed index search ∷ conditions) = ap (λ b. lacks_index origin (Indexed index search) || b) (free_lacks origin conditions)
free_lacks origin (Plain column comparison ∷ conditions) = free_lacks origin conditions

some_narrows : (conditions : List Condition) → 1 ≤ length (asked_of conditions) → list_any narrows conditions ≡ true
some_narrows [] some = absurd (omega (arith, some))
some_narrows (OfKey bytes ∷ conditions) some = refl
some_narrows (Indexed index search ∷ conditions) some = refl
some_narrows (Plain column comparison ∷ conditions) some = some_narrows conditions some

module _ (p : Partitioner) (conditions : List Condition) (some : 1 ≤ length (asked_of conditions)) where
  free_some : 1 ≤ length (asked_of (free_of conditions))
  free_some = subst (λ (asked : List Asked). 1 ≤ length asked) (sym (asked_free conditions)) some

  free_reads : (origin : Origin) → reads_all (free_of conditions) origin ≡ reads_all conditions origin
  free_reads origin = ap₂ (λ b c. b || not c) (free_lacks origin conditions) (some_narrows (free_of conditions) free_some ∙ sym (some_narrows conditions some))

  free_file : (part : Part) → file_cost p (free_of conditions) part ≡ file_cost p conditions part
  free_file part = ap₂ (λ n b. n + (if b then 2 * pages_of_file p part.holds else 0)) (free_searches part conditions) (free_reads part.origin)

  -- **A condition on the key costs nothing in the files.**
  free_cost : (parts : List Part) → sum_by (file_cost p (free_of conditions)) (files_of parts) ≡ sum_by (file_cost p conditions) (files_of parts)
  free_cost parts = ap (λ (f : Part → ℕ). sum_by f (files_of parts)) (λ i part. free_file part i)

-- ---- the world

abbrev pub free_world : PlanWorld → PlanWorld
free_world w = record w { conditions = free_of w.conditions }

module _ (w : PlanWorld) (key : DecoratedKey) (book : Book) (world : IsKeyedWorld w key book) where
  pub free_is : IsWorld (free_world w) book
  free_is = record {
    planned = subst (λ (asked : List Asked). IsPlannedFor w.folder w.partitioner w.table book w.types w.relations w.listed asked w.parts) (sym (asked_free w.conditions)) world.planned;
    free = no_key_asked w.conditions;
    some = free_some w.partitioner w.conditions world.some;
    ordered = world.ordered;
    own_tokens = world.own_tokens;
  }

  -- **A new source leaves the candidate of the conditions,**
  pub free_left : (Hits : List Entry → Type 0) (hand : Hand) → hand.keys.items ≡ [] → IsLeft (free_world w) (Some w.folder) book Hits None hand (candidates w.parts (where_of (free_of w.conditions)))
      → IsKeyLeft (free_world w) (Some w.folder) book Hits hand key (candidates w.parts (where_of w.conditions))
  free_left Hits hand none is = record {
    by_hits = candidates w.parts (where_of (free_of w.conditions));
    are_left = is;
    none = none;
    own = world.own;
    left_is = keyed_candidates w.parts key.key w.conditions world.asked world.agreed;
  }

  -- **and it takes what they may cost in the files, and a look at the token.**
  pub free_owing : (Hits : List Entry → Type 0) (Pays : ℕ → Type 0) (hand : Hand) (prices : List ℕ) → hand.keys.items ≡ [] → IsOwing (free_world w) (Some w.folder) book Hits Pays None hand (sum_by (file_cost w.partitioner (free_of w.conditions)) (files_of w.parts)) 0 prices
      → IsKeyOwing (free_world w) (Some w.folder) book Hits Pays hand key (sum_by (file_cost w.partitioner w.conditions) (files_of w.parts)) (token_cost w.partitioner w.parts key.token ∷ [])
  free_owing Hits Pays hand prices none is = record {
    left = rows_of_key key.key is.left;
    is_left = record { by_hits = is.left; are_left = is.is_left; none = none; own = world.own; left_is = refl };
    small = is.small;
    hits_pay = subst Pays (free_cost w.partitioner w.conditions world.some w.parts) is.hits_pay;
    look_pays = omega arith;
  }

pub free_made : (w : PlanWorld) (types : List ColumnType) (relations : List IndexedRelation) (listed : List view.Part) → IsMadeOf w types relations listed → IsMadeOf (free_world w) types relations listed
free_made w types relations listed made = record { types_are = made.types_are; relations_are = made.relations_are; listed_are = made.listed_are }
