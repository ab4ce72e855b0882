-- The exits of a turn to the next token.
use Rattle.std.proofs.Common.{◌≡◌, ℕ, ◌+◌, ◌≤◌, List, [], ◌∷◌, Option, None, Some, refl, sym, ap, subst, ◌∙◌, arith, Ok}
use Rattle.sasi_types.specs.declared.partitioner.Partitioner.{Partitioner}
use Rattle.sasi_host.specs.Names.{Folder}
use Rattle.sasi_memindex.specs.Book.{Book}
use Rattle.sasi_datawrite.specs.Format.{Content}
use Rattle.sasi_ranges.specs.declared.entry.Entry.{Entry}
use Rattle.sasi_candidates.specs.Groups.{Group}
use Rattle.sasi_lookup.specs.Lookups.{HasKeysOf, IsLookingIn}
use Rattle.sasi_lookup.specs.Reads.{turn_reads}
use Rattle.sasi_recheck.specs.Sources.{Candidate, first_price}
use Rattle.sasi_engine.specs.declared.hand.Hand.{Hand}
use Rattle.sasi_engine.specs.declared.step.Outcome.TheVariants.{Ended, Passed}
use Rattle.sasi_engine.specs.HitCandidates.{IsLeft, Owes, PlanWorld, candidates_at}
use Rattle.sasi_engine.specs.TokenHits.{contents_in_files}
use Rattle.sasi_engine.specs.TokenTurns.{HasNext, TakesNext}
use Rattle.sasi_engine.specs.inside.Steps.{AreKeysLeft, IsSameHand, SourceLeaves, SourceOwes, StepGives, StepSpends, first_token}
use Rattle.sasi_engine.proofs.OwingLaws.{OwesMore, owes_within, turn_cost, turn_within, turned_owes}
use Rattle.sasi_engine.proofs.TurnedLaws.{ended, ends_left, none_in_hand, the_group, the_looked, turned}

no_first : (es : List Entry) → first_token es ≡ None → es ≡ []
no_first [] none = refl
no_first (e ∷ es) none = cc

-- the entries have a first one with the token
record HasFirst (es : List Entry) (token : ℕ) : Type 0 where
  pub first : Entry
  pub others : List Entry
  pub is : es ≡ first ∷ others
  pub token_is : first.token ≡ token

some_first : (es : List Entry) (token : ℕ) → first_token es ≡ Some token → HasFirst es token
some_first [] token some = cc
some_first (e ∷ es) token some = record { first = e; others = es; is = refl; token_is = cc }

module _ (files : Option Folder) (book : Book) (Before Left : List Entry → Type 0) (before after : Option Entry) (old : Hand) (none : old.keys.items ≡ []) (entries : List Entry) (takes : (es : List Entry) → Before es → TakesNext Left before after es entries) where
  -- ---- no token is left

  module _ (end : first_token entries ≡ None) where
    ended_takes : (es : List Entry) → Before es → TakesNext Left before after es []
    ended_takes es given = subst (TakesNext Left before after es) (no_first entries end) (takes es given)

    pub turn_ends : (left : List Candidate) → SourceLeaves Before before old files book left → StepGives (SourceLeaves Left after old files book) left Ended
    turn_ends left is =
        let took = ended_takes is.1.entries is.1.given in (
          ends_left is.0 files book Before Left before after old old left is.1 none took.0,
          (is.0, ended is.0 files book Before Left before after old old left is.1 none took.0 took.1 took.2),
        )

    pub turn_ends_owing : (Pays After : ℕ → Type 0) (most owed : ℕ) (prices : List ℕ) (was now : ℕ) → ((m : ℕ) → Pays m → (rest : ℕ) × After rest × (now + rest ≤ was + m)) → SourceOwes Before Pays before old files book most owed prices
        → StepSpends (SourceOwes Left After after old files book) most owed prices was now (Ok Ended)
    turn_ends_owing Pays After most owed prices was now spends is =
        let one = is.1 in
        let took = ended_takes one.is_left.entries one.is_left.given in
        let paid = spends most one.hits_pay in (
          paid.0,
          (
            is.0,
            record {
              left = [];
              is_left = ended is.0 files book Before Left before after old old one.left one.is_left none took.0 took.1 took.2;
              small = one.small;
              hits_pay = paid.1;
              owes = omega arith;
            },
          ),
          omega (arith, paid.2, owes_within is.0 owed old.token one.is_left.rows one.is_left.groups prices one.owes),
        )

  -- ---- the next token

  module _ (token : ℕ) (begins : first_token entries ≡ Some token) where
    abbrev first : HasFirst entries token
    first = some_first entries token begins

    abbrev NextOf : List Entry → Type 0
    NextOf es = HasNext Left before after es first.first first.others

    next_of : (es : List Entry) → Before es → NextOf es
    next_of es given = subst (TakesNext Left before after es) first.is (takes es given)

    module _ (new : Hand) (same : IsSameHand old new) (keys : AreKeysLeft new token entries) (has : (p : Partitioner) (contents : List Content) → IsLookingIn files p contents old.lookup → HasKeysOf p token contents new.lookup)
        (looks : (p : Partitioner) (contents : List Content) → IsLookingIn files p contents old.lookup → IsLookingIn files p contents new.lookup) where
      own_keys : AreKeysLeft new first.first.token (first.first ∷ first.others)
      own_keys = subst (λ t. AreKeysLeft new t (first.first ∷ first.others)) (sym first.token_is) (subst (AreKeysLeft new token) first.is keys)

      abbrev passed : (w : PlanWorld) (left : List Candidate) → (is : IsLeft w files book Before before old left) → IsLeft w files book Left after new left
      passed w left is =
          turned w files book Before Left before after old new left is none first.first first.others (next_of is.entries is.given) same own_keys
          (subst (λ t. HasKeysOf w.partitioner t (contents_in_files w.parts) new.lookup) (sym first.token_is) (has w.partitioner (contents_in_files w.parts) is.looks)) (looks w.partitioner (contents_in_files w.parts) is.looks)

      pub turn_passes : (left : List Candidate) → SourceLeaves Before before old files book left → StepGives (SourceLeaves Left after new files book) left Passed
      turn_passes left is = (is.0, passed is.0 left is.1)

      pub turn_passes_owing : (Pays After : ℕ → Type 0) (most owed : ℕ) (prices : List ℕ) (was mid now : ℕ) → ((m : ℕ) → Pays m → (rest : ℕ) × After rest × (mid + rest ≤ was + m))
          → ((p : Partitioner) (contents : List Content) → IsLookingIn files p contents old.lookup → now ≤ mid + turn_reads p token old.lookup.files contents) → SourceOwes Before Pays before old files book most owed prices
          → StepSpends (SourceOwes Left After after new files book) most owed prices was now (Ok Passed)
      turn_passes_owing Pays After most owed prices was mid now spends reads is =
          let w = is.0 in
          let one = is.1 in
          let left = one.is_left in
          let paid = spends most one.hits_pay in
          let next = next_of left.entries left.given in
          let group = the_group w files book Before Left before after old new one.left left none first.first first.others next in
          let looked = the_looked w files book Before Left before after old new one.left left none first.first first.others next in
          let owed_here = subst (λ (gs : List Group). Owes w owed old.token [] gs prices) group.groups_are (subst (λ (rows : List Candidate). Owes w owed old.token rows left.groups prices) (none_in_hand w files book Before Left before after old new one.left left none) one.owes) in
          let more : OwesMore w owed (turn_reads w.partitioner group.group.token old.lookup.files (contents_in_files w.parts)) group.group.token (candidates_at w group.group).rows group.others prices =
          turned_owes w owed old.token group.group group.others prices old.lookup.files looked.key looked.own one.small looked.rows owed_here in
          let token_is : token ≡ group.group.token = sym first.token_is ∙ group.token_is in (
            paid.0,
            more.more,
            (
              w,
              record {
                left = one.left;
                is_left = passed w one.left left;
                small = one.small;
                hits_pay = paid.1;
                owes = subst (λ t. Owes w more.more t (candidates_at w group.group).rows group.others prices) (sym (keys.token_is ∙ token_is)) more.owes;
              },
            ),
            omega (arith, paid.2, more.paid, reads w.partitioner (contents_in_files w.parts) left.looks, ap (λ t. turn_reads w.partitioner t old.lookup.files (contents_in_files w.parts)) token_is),
          )

    -- where the look-up fails, the next price pays what was read
    pub turn_fails_owing : (Pays After : ℕ → Type 0) (most owed : ℕ) (prices : List ℕ) (was mid now : ℕ) → ((m : ℕ) → Pays m → (rest : ℕ) × After rest × (mid + rest ≤ was + m))
        → ((p : Partitioner) (contents : List Content) → IsLookingIn files p contents old.lookup → now ≤ mid + turn_reads p token old.lookup.files contents) → SourceOwes Before Pays before old files book most owed prices
        → now + owed ≤ was + (most + first_price prices)
    turn_fails_owing Pays After most owed prices was mid now spends reads is =
        let w = is.0 in
        let one = is.1 in
        let left = one.is_left in
        let paid = spends most one.hits_pay in
        let next = next_of left.entries left.given in
        let group = the_group w files book Before Left before after old old one.left left none first.first first.others next in
        let looked = the_looked w files book Before Left before after old old one.left left none first.first first.others next in
        let owed_here = subst (λ (gs : List Group). Owes w owed old.token [] gs prices) group.groups_are (subst (λ (rows : List Candidate). Owes w owed old.token rows left.groups prices) (none_in_hand w files book Before Left before after old old one.left left none) one.owes) in
        let token_is : token ≡ group.group.token = sym first.token_is ∙ group.token_is in
        omega (
          arith,
          paid.2,
          reads w.partitioner (contents_in_files w.parts) left.looks,
          ap (λ t. turn_reads w.partitioner t old.lookup.files (contents_in_files w.parts)) token_is,
          turn_cost w group.group.token old.lookup.files looked.key looked.own one.small,
          turn_within w owed old.token group.group group.others prices owed_here,
        )

-- where the stream of hits fails
pub stream_fails_owing : (files : Option Folder) (book : Book) (Before : List Entry → Type 0) (Pays : ℕ → Type 0) (before : Option Entry) (old : Hand) (most owed : ℕ) (prices : List ℕ) (was now : ℕ) → ((m : ℕ) → Pays m → now ≤ was + m)
    → SourceOwes Before Pays before old files book most owed prices → now + owed ≤ was + (most + first_price prices)
stream_fails_owing files book Before Pays before old most owed prices was now spends is =
    omega (arith, spends most is.1.hits_pay, owes_within is.0 owed old.token is.1.is_left.rows is.1.is_left.groups prices is.1.owes)
