-- What was gathered of postings in their order has exactly these postings.
use Rattle.std.proofs.Common.{◌≡◌, ℕ, ◌+◌, ◌<◌, ◌≤◌, inl, inr, Bool, true, false, List, [], ◌∷◌, ◌++◌, length, get_or, refl, sym, ◌∙◌, ap, subst, arith, rules, append_assoc, append-nil}
use Rattle.std.specs.Prelude.{map, nat_lt, ◌==◌, if◌then◌else◌}
use Rattle.std.specs.List.{AllByRecursion, flat_map, fold}
use Rattle.std.specs.List.Sorted.{IsStrictlySortedBy}
use Rattle.std.specs.Ordering.{is_lt, nat_cmp, ordering_then}
use Rattle.std.specs.declared.cmp.Ordering.{Ordering}
use Rattle.std.specs.declared.cmp.Ordering.TheVariants.{Less, Equal, Greater}
use Rattle.std.specs.Cmp.Lexicographic.{same_text, nat_list_cmp_total}
use Rattle.std.proofs.lemmas.Cmp.{tied_itself}
use Rattle.std.proofs.lemmas.List.{map_push, map-append, get_or_push, length_push}
use Rattle.std.proofs.lemmas.List.Concat.{flat_map-append}
use Rattle.std.proofs.lemmas.Map.Lookups.{exact_bytes, exact_unsigned}
use Rattle.sasi_types.specs.Term.{term_cmp, term_eq}
use Rattle.sasi_types.specs.declared.list_kind.ListKind.{ListKind}
use Rattle.sasi_types.specs.declared.list_kind.ListKind.TheVariants.{Stored, Spill}
use Rattle.sasi_types.specs.declared.tree.Pair.{Pair}
use Rattle.sasi_host.specs.Names.{Bytes}
use Rattle.sasi_segments.specs.declared.posting.Posting.{Posting}
use Rattle.sasi_segments.specs.Postings.{posting_cmp, posting_of}
use Rattle.sasi_tokentree.specs.Format.{IsBefore, IsRising}
use Rattle.sasi_termblocks.specs.Entries.{is_below}
use Rattle.sasi_termblocks.specs.Scans.{IsRising as AreRisingTerms}
use Rattle.sasi_indexwrite.specs.Content.{TermPairs, postings_of, spill_postings, term_postings, terms_in}
use Rattle.sasi_indexwrite.specs.TermsSoFar.{AreSortedPostings, CanFollow, IsPosting, TermsSoFar, add, add_as, all_terms, gathered, nothing, with_pairs}
use Rattle.sasi_indexwrite.proofs.Lists.{all_at, all_first, all_second, rises_push}

-- ---- two postings in their order

not_less : (t : Bool) → (if t then Equal else Greater) ≡ Less → ⊥
not_less true h = cc
not_less false h = cc

less_lt : (a b : ℕ) → nat_cmp a b ≡ Less → a < b
less_lt a b h = by_test (nat_lt a b) refl h
  where
    by_test : (t : Bool) → nat_lt a b ≡ t → (if t then Less else (if a == b then Equal else Greater)) ≡ Less → a < b
    by_test true is h = search (rules, is)
    by_test false is h = absurd (not_less (a == b) h)

before_by : (x y : Pair) (r : Ordering) → nat_cmp x.token y.token ≡ r → ordering_then r (nat_cmp x.place y.place) ≡ Less → IsBefore x y
before_by x y Less is h = inl (less_lt x.token y.token is)
before_by x y Equal is h = inr (exact_unsigned x.token y.token is, less_lt x.place y.place h)
before_by x y Greater is h = absurd (cc)

-- pairs whose postings are in their order
pub pairs_before : (x y : Pair) → ordering_then (nat_cmp x.token y.token) (nat_cmp x.place y.place) ≡ Less → IsBefore x y
pairs_before x y h = before_by x y (nat_cmp x.token y.token) refl h

-- the terms rise, or are the same and the pairs rise
data Follows (a b : Bytes) (x y : Pair) : Type 0 where
  other_term : is_below a b ≡ true → Follows a b x y
  same_term : a ≡ b → IsBefore x y → Follows a b x y

follows_by : (a b : Bytes) (x y : Pair) (r : Ordering) → term_cmp a b ≡ r → ordering_then r (ordering_then (nat_cmp x.token y.token) (nat_cmp x.place y.place)) ≡ Less → Follows a b x y
follows_by a b x y Less is h = other_term (ap is_lt is)
follows_by a b x y Equal is h = same_term (exact_bytes a b is) (pairs_before x y h)
follows_by a b x y Greater is h = absurd (cc)

stored_follows : (a b : Bytes) (x y : Pair) → posting_cmp (posting_of a Stored x) (posting_of b Stored y) ≡ Less → Follows a b x y
stored_follows a b x y h = follows_by a b x y (term_cmp a b) refl h

spill_before : (x y : Pair) → posting_cmp (posting_of [] Spill x) (posting_of [] Spill y) ≡ Less → IsBefore x y
spill_before x y h = pairs_before x y h

no_stored_behind : (term : Bytes) (x y : Pair) → posting_cmp (posting_of [] Spill x) (posting_of term Stored y) ≡ Less → ⊥
no_stored_behind term x y h = cc

-- ---- what the postings in front of another one are

-- they come before it
abbrev pub AreBefore : List Posting → Posting → Type 0
AreBefore done posting = AllByRecursion (λ q. posting_cmp q posting ≡ Less) done

at_middle : {X : Type 0} (P : X → Type 0) (before : List X) (x : X) (behind : List X) → AllByRecursion P (before ++ x ∷ behind) → P x
at_middle P [] x behind all = all.0
at_middle P (y ∷ before) x behind all = at_middle P before x behind all.1

pub sorted_before : (done : List Posting) (posting : Posting) (rest : List Posting) → IsStrictlySortedBy posting_cmp (done ++ posting ∷ rest) → AreBefore done posting
unfolding IsStrictlySortedBy
sorted_before [] posting rest sorted = tt
sorted_before (q ∷ done) posting rest sorted = (at_middle (λ y. posting_cmp q y ≡ Less) done posting rest sorted.0, sorted_before done posting rest sorted.1)

-- pairs of one kind of postings before another one
mapped_before : (make : Pair → Posting) (pairs : List Pair) (posting : Posting) → AreBefore (map make pairs) posting → AllByRecursion (λ x. posting_cmp (make x) posting ≡ Less) pairs
mapped_before make [] posting all = tt
mapped_before make (x ∷ pairs) posting all = (all.0, mapped_before make pairs posting all.1)

-- no posting of a term comes behind the spill
spill_empty : (spill : List Pair) (term : Bytes) (pair : Pair) → AreBefore (spill_postings spill) (posting_of term Stored pair) → spill ≡ []
spill_empty [] term pair before = refl
spill_empty (x ∷ spill) term pair before = absurd (no_stored_behind term x pair before.0)

-- ---- pairs and terms that rise

spill_push : (spill : List Pair) (pair : Pair) → IsRising spill → AreBefore (spill_postings spill) (posting_of [] Spill pair) → IsRising (spill ++ pair ∷ [])
spill_push spill pair rising before =
    let each = mapped_before (posting_of [] Spill) spill (posting_of [] Spill pair) before in
    let zero_pair : Pair = record { token = 0; place = 0 } in
    rises_push IsBefore zero_pair spill pair rising
    (λ n is. spill_before (get_or spill n zero_pair) pair (all_at (λ x. posting_cmp (posting_of [] Spill x) (posting_of [] Spill pair) ≡ Less) spill zero_pair n (omega (arith, is)) each))

same_before : (a b : Bytes) (x y : Pair) → a ≡ b → Follows a b x y → IsBefore x y
same_before a b x y is (same_term _ before) = before
same_before a b x y is (other_term below) =
    let equal : term_cmp a b ≡ Equal = ap (λ (t : Bytes). term_cmp a t) (sym is) ∙ tied_itself nat_list_cmp_total a in
    absurd (let no : is_lt Equal ≡ true = sym (ap is_lt equal) ∙ below in cc)

stored_push : (term : Bytes) (pairs : List Pair) (pair : Pair) → IsRising pairs → AreBefore (map (posting_of term Stored) pairs) (posting_of term Stored pair) → IsRising (pairs ++ pair ∷ [])
stored_push term pairs pair rising before =
    let each = mapped_before (posting_of term Stored) pairs (posting_of term Stored pair) before in
    let zero_pair : Pair = record { token = 0; place = 0 } in
    rises_push IsBefore zero_pair pairs pair rising
    (λ n is.
    same_before term term (get_or pairs n zero_pair) pair refl
    (stored_follows term term (get_or pairs n zero_pair) pair
    (all_at (λ x. posting_cmp (posting_of term Stored x) (posting_of term Stored pair) ≡ Less) pairs zero_pair n (omega (arith, is)) each)))

-- another term comes behind one that has pairs
below_other : (a b : Bytes) (x y : Pair) → term_eq a b ≡ false → Follows a b x y → is_below a b ≡ true
below_other a b x y differ (other_term below) = below
below_other a b x y differ (same_term is before) =
    let both : term_eq a a ≡ false = ap (λ (t : Bytes). term_eq a t) is ∙ differ in
    absurd (not_itself a both)
  where
    not_itself : (t : Bytes) → term_eq t t ≡ false → ⊥
    not_itself [] h = cc
    not_itself (b ∷ t) h = not_itself t (search (rules, h))

terms_push : (terms : List Bytes) (last term : Bytes) → AreRisingTerms (terms ++ last ∷ []) → is_below last term ≡ true → AreRisingTerms ((terms ++ last ∷ []) ++ term ∷ [])
terms_push terms last term rising below =
    rises_push (λ a b. is_below a b ≡ true) [] (terms ++ last ∷ []) term rising
    (λ n is.
    let end : length terms ≡ n = omega (arith, is, length_push terms last) in
    subst (λ (t : Bytes). is_below t term ≡ true) (sym (get_or_push terms last [] n end)) below)

-- ---- the postings of what was gathered

with_pairs_postings : (term : Bytes) (pairs : List Pair) → flat_map term_postings (with_pairs term pairs) ≡ map (posting_of term Stored) pairs
with_pairs_postings term [] = refl
with_pairs_postings term (pair ∷ pairs) = append-nil (map (posting_of term Stored) (pair ∷ pairs))

terms_postings : (closed : List TermPairs) (term : Bytes) (pairs : List Pair) → flat_map term_postings (closed ++ with_pairs term pairs) ≡ flat_map term_postings closed ++ map (posting_of term Stored) pairs
terms_postings closed term pairs = flat_map-append term_postings closed (with_pairs term pairs) ∙ ap (λ (l : List Posting). flat_map term_postings closed ++ l) (with_pairs_postings term pairs)

-- it is what postings give
pub record IsGathered (all : TermsSoFar) (done : List Posting) : Type 0 where
  pub postings_are : postings_of (all_terms all) all.spill ≡ done
  pub rising : AreRisingTerms (terms_in (all_terms all))
  pub begun : all.pairs ≡ [] → all.closed ≡ []
  pub pairs : IsRising all.pairs
  pub spill : IsRising all.spill

none_rising : {X : Type 0} (R : X → X → Type 0) (d : X) (index : ℕ) → index + 1 < length {A = X} [] → R (get_or [] index d) (get_or [] (index + 1) d)
none_rising R d index lt = absurd (omega arith)

one_rising : {X : Type 0} (R : X → X → Type 0) (d x : X) (index : ℕ) → index + 1 < length (x ∷ []) → R (get_or (x ∷ []) index d) (get_or (x ∷ []) (index + 1) d)
one_rising R d x index lt = absurd (omega arith)

nothing_gathered : IsGathered nothing []
nothing_gathered = record {
  postings_are = refl;
  rising = none_rising (λ a b. is_below a b ≡ true) [];
  begun = λ _. refl;
  pairs = none_rising IsBefore (record { token = 0; place = 0 });
  spill = none_rising IsBefore (record { token = 0; place = 0 });
}

-- one of the spill
add_spill : (all : TermsSoFar) (done : List Posting) (pair : Pair) → IsGathered all done → AreBefore done (posting_of [] Spill pair) → IsGathered (add_as Spill all [] pair) (done ++ posting_of [] Spill pair ∷ [])
add_spill all done pair is before =
    let terms = flat_map term_postings (all_terms all) in
    let own : AreBefore (spill_postings all.spill) (posting_of [] Spill pair) =
    all_second (λ q. posting_cmp q (posting_of [] Spill pair) ≡ Less) terms (spill_postings all.spill) (subst (λ (l : List Posting). AreBefore l (posting_of [] Spill pair)) (sym is.postings_are) before)
    in
    record {
      postings_are =
          ap (λ (l : List Posting). terms ++ l) (map_push (posting_of [] Spill) all.spill pair) ∙ sym (append_assoc terms (spill_postings all.spill) (posting_of [] Spill pair ∷ []))
          ∙ ap (λ (l : List Posting). l ++ posting_of [] Spill pair ∷ []) is.postings_are;
      rising = is.rising;
      begun = is.begun;
      pairs = is.pairs;
      spill = spill_push all.spill pair is.spill own;
    }

module _ (all : TermsSoFar) (done : List Posting) (term : Bytes) (pair : Pair) (is : IsGathered all done) (before : AreBefore done (posting_of term Stored pair)) where
  abbrev posting : Posting
  posting = posting_of term Stored pair

  all_before : AreBefore (postings_of (all_terms all) all.spill) posting
  all_before = subst (λ (l : List Posting). AreBefore l posting) (sym is.postings_are) before

  no_spill : all.spill ≡ []
  no_spill = spill_empty all.spill term pair (all_second (λ q. posting_cmp q posting ≡ Less) (flat_map term_postings (all_terms all)) (spill_postings all.spill) all_before)

  -- the postings so far are those of the terms
  terms_are : flat_map term_postings all.closed ++ map (posting_of all.term Stored) all.pairs ≡ done
  terms_are =
      sym (terms_postings all.closed all.term all.pairs) ∙ sym (append-nil (flat_map term_postings (all_terms all)))
      ∙ ap (λ (l : List Pair). flat_map term_postings (all_terms all) ++ spill_postings l) (sym no_spill) ∙ is.postings_are

  last_before : AreBefore (map (posting_of all.term Stored) all.pairs) posting
  last_before =
      all_second (λ q. posting_cmp q posting ≡ Less) (flat_map term_postings all.closed) (map (posting_of all.term Stored) all.pairs) (subst (λ (l : List Posting). AreBefore l posting) (sym terms_are) before)

  -- the postings of terms with no spill, and one more
  with_more : (closed : List TermPairs) (own : Bytes) (pairs : List Pair) → flat_map term_postings closed ++ map (posting_of own Stored) pairs ≡ done ++ posting ∷ [] → postings_of (closed ++ with_pairs own pairs) all.spill ≡ done ++ posting ∷ []
  with_more closed own pairs same =
      ap (λ (l : List Pair). flat_map term_postings (closed ++ with_pairs own pairs) ++ spill_postings l) no_spill ∙ append-nil (flat_map term_postings (closed ++ with_pairs own pairs))
      ∙ terms_postings closed own pairs ∙ same

  nonempty : (pairs : List Pair) → pairs ++ pair ∷ [] ≡ [] → ⊥
  nonempty [] h = cc
  nonempty (x ∷ pairs) h = cc

  -- of the same term
  terms_same : (closed : List TermPairs) (own : Bytes) (pairs : List Pair) → AreRisingTerms (terms_in (closed ++ with_pairs own pairs)) → (pairs ≡ [] → closed ≡ []) → AreRisingTerms (terms_in (closed ++ with_pairs own (pairs ++ pair ∷ [])))
  terms_same closed own [] rising begun =
      subst (λ (l : List TermPairs). AreRisingTerms (terms_in (l ++ (own, pair ∷ []) ∷ []))) (sym (begun refl)) (one_rising (λ a b. is_below a b ≡ true) [] own)
  terms_same closed own (x ∷ pairs) rising begun =
      subst (λ (l : List Bytes). AreRisingTerms l) (map-append (λ (one : TermPairs). one.0) closed ((own, x ∷ pairs) ∷ []) ∙ sym (map-append (λ (one : TermPairs). one.0) closed ((own, (x ∷ pairs) ++ pair ∷ []) ∷ []))) rising

  add_same : all.term ≡ term → IsGathered (record { closed = all.closed; term = term; pairs = all.pairs ++ pair ∷ []; spill = all.spill }) (done ++ posting ∷ [])
  add_same same =
      let own : AreBefore (map (posting_of term Stored) all.pairs) posting = subst (λ (t : Bytes). AreBefore (map (posting_of t Stored) all.pairs) posting) same last_before in
      let so_far : flat_map term_postings all.closed ++ map (posting_of term Stored) all.pairs ≡ done = subst (λ (t : Bytes). flat_map term_postings all.closed ++ map (posting_of t Stored) all.pairs ≡ done) same terms_are in
      record {
        postings_are = with_more all.closed term (all.pairs ++ pair ∷ [])
            (ap (λ (l : List Posting). flat_map term_postings all.closed ++ l) (map_push (posting_of term Stored) all.pairs pair)
            ∙ sym (append_assoc (flat_map term_postings all.closed) (map (posting_of term Stored) all.pairs) (posting ∷ [])) ∙ ap (λ (l : List Posting). l ++ posting ∷ []) so_far);
        rising = terms_same all.closed term all.pairs (subst (λ (t : Bytes). AreRisingTerms (terms_in (all.closed ++ with_pairs t all.pairs))) same is.rising) is.begun;
        begun = λ none. absurd (nonempty all.pairs none);
        pairs = stored_push term all.pairs pair is.pairs own;
        spill = is.spill;
      }

  -- of another one
  terms_other : (closed : List TermPairs) (own : Bytes) (pairs : List Pair) → AreRisingTerms (terms_in (closed ++ with_pairs own pairs)) → (pairs ≡ [] → closed ≡ []) → AreBefore (map (posting_of own Stored) pairs) posting → term_eq own term ≡ false
      → AreRisingTerms (terms_in ((closed ++ with_pairs own pairs) ++ (term, pair ∷ []) ∷ []))
  terms_other closed own [] rising begun last differ =
      subst (λ (l : List TermPairs). AreRisingTerms (terms_in ((l ++ []) ++ (term, pair ∷ []) ∷ []))) (sym (begun refl)) (one_rising (λ a b. is_below a b ≡ true) [] term)
  terms_other closed own (x ∷ pairs) rising begun last differ =
      let first : TermPairs → Bytes = λ one. one.0 in
      let before_it : terms_in (closed ++ (own, x ∷ pairs) ∷ []) ≡ terms_in closed ++ own ∷ [] = map_push first closed (own, x ∷ pairs) in
      let below : is_below own term ≡ true = below_other own term x pair differ (stored_follows own term x pair last.0) in
      subst (λ (l : List Bytes). AreRisingTerms l) (ap (λ (l : List Bytes). l ++ term ∷ []) (sym before_it) ∙ sym (map_push first (closed ++ (own, x ∷ pairs) ∷ []) (term, pair ∷ [])))
      (terms_push (terms_in closed) own term (subst (λ (l : List Bytes). AreRisingTerms l) before_it rising) below)

  add_other : term_eq all.term term ≡ false → IsGathered (record { closed = all.closed ++ with_pairs all.term all.pairs; term = term; pairs = pair ∷ []; spill = all.spill }) (done ++ posting ∷ [])
  add_other differ = record {
    postings_are = with_more (all_terms all) term (pair ∷ []) (ap (λ (l : List Posting). l ++ posting ∷ []) (terms_postings all.closed all.term all.pairs ∙ terms_are));
    rising = terms_other all.closed all.term all.pairs is.rising is.begun last_before differ;
    begun = λ none. absurd (nonempty [] none);
    pairs = one_rising IsBefore (record { token = 0; place = 0 }) pair;
    spill = is.spill;
  }

  add_by : (b : Bool) → term_eq all.term term ≡ b
      → IsGathered (record { closed = if b then all.closed else (all.closed ++ with_pairs all.term all.pairs); term = term; pairs = (if b then all.pairs else []) ++ pair ∷ []; spill = all.spill }) (done ++ posting ∷ [])
  add_by true same = add_same (same_text all.term term (sym same))
  add_by false differ = add_other differ

  pub add_stored : IsGathered (add_as Stored all term pair) (done ++ posting ∷ [])
  add_stored = add_by (term_eq all.term term) refl

add_kind : (list : ListKind) (all : TermsSoFar) (done : List Posting) (term : Bytes) (pair : Pair) → IsGathered all done → (list ≡ Spill → term ≡ []) → AreBefore done (posting_of term list pair)
    → IsGathered (add_as list all term pair) (done ++ posting_of term list pair ∷ [])
add_kind Stored all done term pair is none before = add_stored all done term pair is before
add_kind Spill all done term pair is none before =
    let empty : term ≡ [] = none refl in
    subst (λ (t : Bytes). IsGathered (add_as Spill all t pair) (done ++ posting_of t Spill pair ∷ [])) (sym empty)
    (add_spill all done pair is (subst (λ (t : Bytes). AreBefore done (posting_of t Spill pair)) empty before))

-- one posting more
pub add_one : (all : TermsSoFar) (done : List Posting) (posting : Posting) → IsGathered all done → IsPosting posting → AreBefore done posting → IsGathered (add all posting) (done ++ posting ∷ [])
add_one all done posting is valid before = add_kind posting.list all done posting.term posting.pair is valid.spill before

-- ---- all postings

sorted_first : (done rest : List Posting) → IsStrictlySortedBy posting_cmp (done ++ rest) → IsStrictlySortedBy posting_cmp done
unfolding IsStrictlySortedBy
sorted_first [] rest sorted = tt
sorted_first (q ∷ done) rest sorted = (all_first (λ y. posting_cmp q y ≡ Less) done rest sorted.0, sorted_first done rest sorted.1)

gathered_on : (all : TermsSoFar) (before done : List Posting) → IsGathered all before → AreSortedPostings (before ++ done) → IsGathered (fold add all done) (before ++ done)
gathered_on all before [] is valid = subst (λ (l : List Posting). IsGathered all l) (sym (append-nil before)) is
gathered_on all before (posting ∷ done) is valid =
    let same : (before ++ posting ∷ []) ++ done ≡ before ++ posting ∷ done = append_assoc before (posting ∷ []) done in
    let one : IsGathered (add all posting) (before ++ posting ∷ []) =
    add_one all before posting is (at_middle IsPosting before posting done valid.each) (sorted_before before posting done valid.rising)
    in
    subst (λ (l : List Posting). IsGathered (fold add (add all posting) done) l) same
    (gathered_on (add all posting) (before ++ posting ∷ []) done one (subst (λ (l : List Posting). AreSortedPostings l) (sym same) valid))

-- what is gathered of postings in their order has these postings
pub gathered_is : (postings : List Posting) → AreSortedPostings postings → IsGathered (gathered postings) postings
gathered_is postings valid = gathered_on nothing [] postings nothing_gathered valid

pub first_gathered : (done rest : List Posting) → AreSortedPostings (done ++ rest) → AreSortedPostings done
first_gathered done rest valid = record {
  rising = sorted_first done rest valid.rising;
  each = all_first IsPosting done rest valid.each;
}

can_follow : (list : ListKind) (all : TermsSoFar) (done : List Posting) (term : Bytes) (pair : Pair) → length term ≤ 1024 → IsGathered (add_as list all term pair) done → CanFollow all.term all.pairs (posting_of term list pair)
can_follow Stored all done term pair short is = (short, is.pairs)
can_follow Spill all done term pair short is = tt

-- the next posting can follow
pub next_follows : (done : List Posting) (posting : Posting) (rest : List Posting) → AreSortedPostings (done ++ posting ∷ rest) → CanFollow (gathered done).term (gathered done).pairs posting
next_follows done posting rest valid =
    let one : IsPosting posting = at_middle IsPosting done posting rest valid.each in
    can_follow posting.list (gathered done) (done ++ posting ∷ []) posting.term posting.pair one.short
    (add_one (gathered done) done posting (gathered_is done (first_gathered done (posting ∷ rest) valid)) one (sorted_before done posting rest valid.rising))
