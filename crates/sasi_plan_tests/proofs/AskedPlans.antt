-- What plans of SELECTs ask of the map's indexes.
use Rattle.std.proofs.Common.{◌≡◌, ◌⊎◌, ℕ, Bool, true, false, cond, nat_eq, List, [], ◌∷◌, map, Option, Some, unwrap_or, inl, inr, sym, subst}
use Rattle.std.specs.List.{AllByRecursion}
use Rattle.sasi_types.specs.declared.index_def.IndexDef.{IndexDef}
use Rattle.sasi_types.specs.declared.partitioner.Partitioner.{Partitioner}
use Rattle.sasi_memindex.specs.Book.{Book}
use Rattle.sasi_model.specs.Conditions.{Condition}
use Rattle.sasi_model.specs.Indexes.{index_of}
use Rattle.sasi_model.specs.State.{Definition}
use Rattle.sasi_views.specs.declared.part.Part.{Part}
use Rattle.sasi_engine.specs.Asked.{Asked, asked_of}
use Rattle.sasi_engine.specs.Findable.{HasWords}
use Rattle.sasi_sources.specs.Maps.{IsOneOf}
use Rattle.sasi_engine.specs.declared.relation.IndexedRelation.{IndexedRelation}
use Rattle.sasi_plan.specs.Plans.{IsAskedOf, IsNumbered, IsSourceOf, number_on, relation_of}
use Rattle.sasi_plan.specs.Reading.{PendingReady}
use Rattle.sasi_plan.specs.declared.plan.PlanSource.{PlanSource}
use Rattle.sasi_plan.specs.declared.plan.PlanSource.TheVariants.{Nothing, OfKey, OfTable}
use Rattle.sasi_plan.proofs.PlanLaws.{all_numbered}
use Rattle.sasi_plan_tests.specs.Fixture.{HasMaps, IsOn, IsOwnPart, SourceIsOn}
use Rattle.sasi_plan_tests.proofs.MapLaws.{parts_found}

abbrev numbers_in : List IndexDef → List ℕ
numbers_in defs = map (λ (def : IndexDef). def.number) defs

number_there : (column : ℕ) (defs : List IndexDef) (n : ℕ) → number_on column defs ≡ Some n → IsOneOf (numbers_in defs) n
number_there column [] n is = cc
number_there column (def ∷ defs) n is = by (nat_eq def.column column) is (number_there column defs n)
  where
    by : (b : Bool) → cond b (Some def.number) (number_on column defs) ≡ Some n → (number_on column defs ≡ Some n → IsOneOf (numbers_in defs) n) → (n ≡ def.number) ⊎ IsOneOf (numbers_in defs) n
    by true is later = inl cc
    by false is later = inr (later is)

relations_on : (d : Definition) (defs : List IndexDef) (asked : List Asked) → AllByRecursion (IsAskedOf d) asked → AllByRecursion (IsNumbered defs) asked → AllByRecursion (IsOn (numbers_in defs)) (map (relation_of defs) asked)
relations_on d defs [] all numbered = tt
relations_on d defs (a ∷ asked) all numbered = (
  record {
    words = all.0.askable.some;
    listed = subst (λ (o : Option ℕ). IsOneOf (numbers_in defs) (unwrap_or o 0)) (sym numbered.0.1) (number_there a.index.column defs numbered.0.0 numbered.0.1);
  },
  relations_on d defs asked all.1 numbered.1,
)

by_source : (p : Partitioner) (defs : List IndexDef) (conditions : List Condition) (numbers : List ℕ) → AllByRecursion (IsOn numbers) (map (relation_of defs) (asked_of conditions)) → (source : PlanSource) → IsSourceOf p defs conditions source → SourceIsOn numbers source
by_source p defs conditions numbers all Nothing is = tt
by_source p defs conditions numbers all (OfKey key relations) is = subst (AllByRecursion (IsOn numbers)) (sym is.3) all
by_source p defs conditions numbers all (OfTable relations) is = subst (AllByRecursion (IsOn numbers)) (sym is.1) all

-- a plan asks by the indexes of its table
pub source_on : (p : Partitioner) (d : Definition) (defs : List IndexDef) (conditions : List Condition) (source : PlanSource) → d.indexes ≡ map index_of defs → AllByRecursion (IsAskedOf d) (asked_of conditions) → IsSourceOf p defs conditions source
    → SourceIsOn (map (λ (def : IndexDef). def.number) defs) source
source_on p d defs conditions source are all is =
    by_source p defs conditions (numbers_in defs) (relations_on d defs (asked_of conditions) all (all_numbered d defs (asked_of conditions) are all)) source is

all_words : (numbers : List ℕ) (relations : List IndexedRelation) → AllByRecursion (IsOn numbers) relations → AllByRecursion HasWords relations
all_words numbers [] all = tt
all_words numbers (relation ∷ relations) all = (all.0.words, all_words numbers relations all.1)

-- **So it can be read over the fixture's parts.**
pub source_ready : (numbers : List ℕ) (book : Book) → HasMaps numbers book → (listed : List Part) → AllByRecursion IsOwnPart listed → (source : PlanSource) → SourceIsOn numbers source → PendingReady source listed book
source_ready numbers book has listed own Nothing on = tt
source_ready numbers book has listed own (OfKey key relations) on = (all_words numbers relations.items on, parts_found numbers book has relations.items on listed own)
source_ready numbers book has listed own (OfTable relations) on = (all_words numbers relations.items on, parts_found numbers book has relations.items on listed own)
