-- The next key of a source of candidates: it is that of the first candidate, and what is left behind it.
use Rattle.std.proofs.Common.{◌≡◌, ℕ, ◌+◌, ◌≤◌, List, [], ◌∷◌, ◌++◌, ◌==◌, drop, length, map, reverse, true, Option, None, IfOk, Result, Ok, Err, refl, sym, ap, subst, ◌∙◌, arith, rules}
use Rattle.std.proofs.lemmas.List.{reverse-append}
use Rattle.std.specs.FinMap as map_
use Rattle.std.specs.List.{AllByRecursion}
use Rattle.sasi_types.specs.declared.partitioner.Partitioner.{Partitioner}
use Rattle.sasi_types.specs.Token.{token_of}
use Rattle.sasi_host.specs.declared.fault.ReadFault.{ReadFault}
use Rattle.sasi_host.specs.Names.{Folder}
use Rattle.sasi_cells.specs.Maps.{merged}
use Rattle.sasi_memindex.specs.Book.{Book}
use Rattle.sasi_datawrite.specs.Format.{Content}
use Rattle.sasi_ranges.specs.declared.entry.Entry.{Entry}
use Rattle.sasi_candidates.specs.Groups.{rows_in}
use Rattle.sasi_candidates.specs.Parts.{maps_of}
use Rattle.sasi_scan.specs.Finding.{file_maps, found_in}
use Rattle.sasi_lookup.specs.Lookups.{HasKeysOf, IsLookingIn, IsTurned, LookupView}
use Rattle.sasi_lookup.specs.Reads.{found_pages}
use Rattle.sasi_recheck.specs.Sources.{Candidate, first_price}
use Rattle.sasi_engine.specs.declared.hand.Hand.{Hand}
use Rattle.sasi_engine.specs.declared.step.Outcome.{Outcome}
use Rattle.sasi_engine.specs.declared.step.Outcome.TheVariants.{Found}
use Rattle.sasi_engine.specs.HitCandidates.{IsLeft, IsOwing, IsRowOf, Owes, PlanWorld, candidates_at}
use Rattle.sasi_engine.specs.Parts.{hits_in}
use Rattle.sasi_engine.specs.TokenHits.{contents_in_files, maps_numbered}
use Rattle.sasi_engine.specs.inside.Steps.{SourceLeaves, SourceOwes, StepGives, StepSpends, step_of}
use Rattle.sasi_engine.proofs.OwingLaws.{looked_owes}
use Rattle.sasi_engine.proofs.WorldLaws.{world_found}

-- a hand, of which a key was taken
pub record IsTaken (old new : Hand) (key : List ℕ) : Type 0 where
  pub keys_are : old.keys.items ≡ new.keys.items ++ key ∷ []
  pub relations_are : new.relations ≡ old.relations
  pub parts_are : new.parts.items ≡ old.parts.items
  pub maps_are : new.maps.items ≡ old.maps.items
  pub lookup_is : new.lookup ≡ old.lookup
  pub token_is : new.token ≡ old.token

-- the first of the rows has the key
record HasFirst (new : Hand) (rows : List Candidate) (key : List ℕ) : Type 0 where
  pub row : Candidate
  pub others : List Candidate
  pub rows_are : rows ≡ row ∷ others
  pub key_is : row.0.key ≡ key
  pub keys_are : map (λ (e : Candidate). e.0.key) others ≡ reverse new.keys.items

first_row : (new : Hand) (rows : List Candidate) (key : List ℕ) → map (λ (e : Candidate). e.0.key) rows ≡ key ∷ reverse new.keys.items → HasFirst new rows key
first_row new [] key same = cc
first_row new (e ∷ rows) key same = record { row = e; others = rows; rows_are = refl; key_is = cc; keys_are = cc }

module _ (w : PlanWorld) (files : Option Folder) (book : Book) (Hits : List Entry → Type 0) (ahead : Option Entry) (old new : Hand) (key : List ℕ) (taken : IsTaken old new key) (left : List Candidate) (is : IsLeft w files book Hits ahead old left) where
  the_first : HasFirst new is.rows key
  the_first = first_row new is.rows key (is.in_hand.keys_are ∙ ap reverse taken.keys_are ∙ reverse-append new.keys.items (key ∷ []))

  abbrev row : Candidate
  row = the_first.row

  abbrev others : List Candidate
  others = the_first.others

  rows_all : AllByRecursion (IsRowOf w old.token) (row ∷ others)
  rows_all = subst (AllByRecursion (IsRowOf w old.token)) the_first.rows_are is.in_hand.rows_are

  keys_all : AllByRecursion (λ (e : Candidate). HasKeysOf w.partitioner old.token (contents_in_files w.parts) old.lookup) (row ∷ others)
  keys_all = subst (AllByRecursion (λ (e : Candidate). HasKeysOf w.partitioner old.token (contents_in_files w.parts) old.lookup)) the_first.rows_are is.in_hand.turned

  -- the look-up looks in the files, and has in hand the keys of the token
  looking : IsLookingIn files w.partitioner (contents_in_files w.parts) new.lookup
  looking = subst (λ (l : LookupView). IsLookingIn files w.partitioner (contents_in_files w.parts) l) (sym taken.lookup_is) is.looks

  has_keys : HasKeysOf w.partitioner new.token (contents_in_files w.parts) new.lookup
  has_keys = subst (λ t. HasKeysOf w.partitioner t (contents_in_files w.parts) new.lookup) (sym taken.token_is) (subst (λ (l : LookupView). HasKeysOf w.partitioner old.token (contents_in_files w.parts) l) (sym taken.lookup_is) keys_all.0)

  key_token : token_of w.partitioner key ≡ new.token
  key_token = ap (token_of w.partitioner) (sym the_first.key_is) ∙ rows_all.0.own_token ∙ sym taken.token_is

  row_is : row.0 ≡ record { token = new.token; key = key }
  row_is i = record { token = (rows_all.0.of_token ∙ sym taken.token_is) i; key = the_first.key_is i }

  abbrev left_behind : IsLeft w files book Hits ahead new (others ++ rows_in (map (candidates_at w) is.groups))
  left_behind = record {
    origin = is.origin;
    world = is.world;
    count = taken.relations_are ∙ is.count;
    hits_are = ap (map hits_in) taken.parts_are ∙ is.hits_are;
    looks = looking;
    maps_are = ap (maps_numbered book) taken.maps_are ∙ is.maps_are;
    passed = is.passed;
    groups = is.groups;
    groups_are = is.groups_are;
    entries = is.entries;
    given = is.given;
    entries_are = is.entries_are;
    rows = others;
    in_hand = record {
      keys_are = the_first.keys_are;
      rows_are = subst (λ t. AllByRecursion (IsRowOf w t) others) (sym taken.token_is) rows_all.1;
      turned = subst (λ t. AllByRecursion (λ (e : Candidate). HasKeysOf w.partitioner t (contents_in_files w.parts) new.lookup) others) (sym taken.token_is)
          (subst (λ (l : LookupView). AllByRecursion (λ (e : Candidate). HasKeysOf w.partitioner old.token (contents_in_files w.parts) l) others) (sym taken.lookup_is) keys_all.1);
    };
    left_is = refl;
  }

  module _ (outcome : Outcome)
      (found : (p : Partitioner) (contents : List Content) → IsLookingIn files p contents new.lookup → HasKeysOf p new.token contents new.lookup → token_of p key ≡ new.token
      → outcome ≡ step_of key (found_in (record { token = new.token; key = key }) None (file_maps p contents ++ maps_numbered book new.maps.items))) where
    -- **It is the first candidate.**
    is_found : outcome ≡ Found key row.1
    is_found =
        found w.partitioner (contents_in_files w.parts) looking has_keys key_token
        ∙ ap (step_of key) (world_found w is.origin is.world book new.maps.items (ap (maps_numbered book) taken.maps_are ∙ is.maps_are) (record { token = new.token; key = key })
        ∙ ap (map_.get (merged (maps_of w.parts))) (sym row_is) ∙ rows_all.0.merged_is)

    looked_gives : StepGives (SourceLeaves Hits ahead new files book) left outcome
    looked_gives = subst (StepGives (SourceLeaves Hits ahead new files book) left) (sym is_found) (
      row,
      others ++ rows_in (map (candidates_at w) is.groups),
      is.left_is ∙ ap (λ (rows : List Candidate). rows ++ rows_in (map (candidates_at w) is.groups)) the_first.rows_are,
      the_first.key_is,
      refl,
      (w, left_behind),
    )

  -- ---- what is owed

  module _ (owed : ℕ) (prices : List ℕ) (owes : Owes w owed old.token is.rows is.groups prices) where
    owes_row : Owes w owed old.token (row ∷ others) is.groups prices
    owes_row = subst (λ (rows : List Candidate). Owes w owed old.token rows is.groups prices) the_first.rows_are owes

    -- the price pays for the look-up
    looked_paid : owed + found_pages key (contents_in_files w.parts) ≤ first_price prices
    looked_paid = omega (arith, owes_row.2, ap first_price owes_row.1, ap (λ (k : List ℕ). found_pages k (contents_in_files w.parts)) the_first.key_is)

    owes_behind : Owes w 0 new.token others is.groups (drop 1 prices)
    owes_behind = subst (λ t. Owes w 0 t others is.groups (drop 1 prices)) (sym taken.token_is) (looked_owes w old.token others is.groups (drop 1 prices) rows_all.1 (ap (drop 1) owes_row.1))

-- ---- every result

pub looked_result : (w : PlanWorld) (files : Option Folder) (book : Book) (Hits : List Entry → Type 0) (ahead : Option Entry) (old new : Hand) (key : List ℕ) → IsTaken old new key → (left : List Candidate) → IsLeft w files book Hits ahead old left → (r : Result Outcome ReadFault)
    → IfOk r (λ (o : Outcome). (p : Partitioner) (contents : List Content) → IsLookingIn files p contents new.lookup → HasKeysOf p new.token contents new.lookup → token_of p key ≡ new.token
    → o ≡ step_of key (found_in (record { token = new.token; key = key }) None (file_maps p contents ++ maps_numbered book new.maps.items)))
    → IfOk r (StepGives (SourceLeaves Hits ahead new files book) left)
looked_result w files book Hits ahead old new key taken left is (Ok o) found = looked_gives w files book Hits ahead old new key taken left is o found
looked_result w files book Hits ahead old new key taken left is (Err f) found = tt

pub looked_owing : (w : PlanWorld) (files : Option Folder) (book : Book) (Hits : List Entry → Type 0) (Pays : ℕ → Type 0) (ahead : Option Entry) (old new : Hand) (key : List ℕ) → IsTaken old new key → (most owed : ℕ) (prices : List ℕ) → IsOwing w files book Hits Pays ahead old most owed prices
    → (was now : ℕ) → ((p : Partitioner) (contents : List Content) → IsLookingIn files p contents new.lookup → HasKeysOf p new.token contents new.lookup → now ≤ was + found_pages key contents) → (r : Result Outcome ReadFault)
    → IfOk r (λ (o : Outcome). (p : Partitioner) (contents : List Content) → IsLookingIn files p contents new.lookup → HasKeysOf p new.token contents new.lookup → token_of p key ≡ new.token
    → o ≡ step_of key (found_in (record { token = new.token; key = key }) None (file_maps p contents ++ maps_numbered book new.maps.items)))
    → StepSpends (SourceOwes Hits Pays ahead new files book) most owed prices was now r
looked_owing w files book Hits Pays ahead old new key taken most owed prices is was now reads (Err f) found =
    omega (
      arith,
      reads w.partitioner (contents_in_files w.parts) (looking w files book Hits ahead old new key taken is.left is.is_left) (has_keys w files book Hits ahead old new key taken is.left is.is_left),
      looked_paid w files book Hits ahead old new key taken is.left is.is_left owed prices is.owes,
    )
looked_owing w files book Hits Pays ahead old new key taken most owed prices is was now reads (Ok o) found =
    subst (λ (x : Outcome). StepSpends (SourceOwes Hits Pays ahead new files book) most owed prices was now (Ok x)) (sym (is_found w files book Hits ahead old new key taken is.left is.is_left o found)) (
      most,
      (
        w,
        record {
          left = _;
          is_left = left_behind w files book Hits ahead old new key taken is.left is.is_left;
          small = is.small;
          hits_pay = is.hits_pay;
          owes = owes_behind w files book Hits ahead old new key taken is.left is.is_left owed prices is.owes;
        },
      ),
      omega (
        arith,
        reads w.partitioner (contents_in_files w.parts) (looking w files book Hits ahead old new key taken is.left is.is_left) (has_keys w files book Hits ahead old new key taken is.left is.is_left),
        looked_paid w files book Hits ahead old new key taken is.left is.is_left owed prices is.owes,
      ),
    )

-- the files are right, and a token is in hand
pub looked_turned : (w : PlanWorld) (files : Option Folder) (book : Book) (Hits : List Entry → Type 0) (ahead : Option Entry) (old new : Hand) (key : List ℕ) → IsTaken old new key → (left : List Candidate) → IsLeft w files book Hits ahead old left
    → (has : Partitioner × (ℕ × List Content)) × IsTurned files new.lookup has
looked_turned w files book Hits ahead old new key taken left is =
    ((w.partitioner, (new.token, contents_in_files w.parts)), (looking w files book Hits ahead old new key taken left is, has_keys w files book Hits ahead old new key taken left is))

pub none_there : {A : Type 0} (xs : List A) → (length xs == 0) ≡ true → xs ≡ []
none_there [] is = refl
none_there (x ∷ xs) is = let none : length (x ∷ xs) ≡ 0 = search (rules, is) in absurd (omega (arith, none))
