-- What one token in front decides.
use Rattle.std.proofs.Common.{◌≡◌, ℕ, zero, suc, Bool, true, false, not, ◌||◌, ◌&&◌, List, [], ◌∷◌, ◌++◌, Option, None, Some, refl, sym, ap, ◌∙◌, inl, inr, is_some, subst}
use Rattle.std.specs.List.{list_any}
use Rattle.sasi_model.specs.Tokens.{Token, same_token}
use Rattle.sasi_model.specs.Forms.{Form, Never, Nothing, One, Then, As, Where, Choose, Many, Phrase, items, Spells, begin_items, Begins}
use Rattle.sasi_model.specs.FormReader.{after, nullable, starts, goes_on, is_one_of, decides}
use Rattle.sasi_cql.proofs.Explained.{token_is, begins_whole}

-- ---- tests

pub both : (a b : Bool) → (a && b) ≡ true → (a ≡ true) × (b ≡ true)
both true b h = (refl, h)
both false b h = absurd cc

pub none_of : (a : Bool) → not a ≡ true → a ≡ false
none_of true h = absurd cc
none_of false h = refl

pub or_left : (a b : Bool) → a ≡ true → (a || b) ≡ true
or_left true b h = refl
or_left false b h = absurd cc

pub or_right : (a b : Bool) → b ≡ true → (a || b) ≡ true
or_right true b h = refl
or_right false b h = h

pub neither : (a b : Bool) → (a || b) ≡ false → (a ≡ false) × (b ≡ false)
neither true b h = absurd cc
neither false b h = (refl, h)

-- of both items
pub of_item : (m : Bool) (test : Bool → Bool) → test false ≡ true → test true ≡ true → test m ≡ true
of_item false test f t = f
of_item true test f t = t

-- ---- what goes on

-- what is behind doesn't begin with one of these
abbrev pub stops : List Token → List Token → Bool
stops tokens [] = true
stops tokens (t ∷ behind) = not (is_one_of tokens t)

any_append : {A : Type 0} (p : A → Bool) (xs ys : List A) → list_any p (xs ++ ys) ≡ false → (list_any p xs ≡ false) × (list_any p ys ≡ false)
any_append p [] ys h = (refl, h)
any_append p (x ∷ xs) ys h =
    let n = neither (p x) (list_any p (xs ++ ys)) h in
    let m = any_append p xs ys n.1 in
    (rw (n.0, m.0) refl, m.1)

no : (a : Bool) → a ≡ false → not a ≡ true
no true h = absurd cc
no false h = refl

pub stops_both : (xs ys behind : List Token) → stops (xs ++ ys) behind ≡ true → (stops xs behind ≡ true) × (stops ys behind ≡ true)
stops_both xs ys [] h = (refl, refl)
stops_both xs ys (t ∷ behind) h =
    let n = any_append (λ k. same_token k t) xs ys (none_of _ h) in
    (no _ n.0, no _ n.1)

-- a token for which a test holds is none of those for which it fails
pub apart : (p : Token → Bool) (ks : List Token) (t : Token) → p t ≡ true → list_any p ks ≡ false → not (is_one_of ks t) ≡ true
apart p [] t is none = refl
apart p (k ∷ ks) t is none = by_test (same_token k t) refl (apart p ks t is (neither (p k) (list_any p ks) none).1) where
  by_test : (b : Bool) → same_token k t ≡ b → not (is_one_of ks t) ≡ true → not (b || is_one_of ks t) ≡ true
  by_test false h others = others
  by_test true h others =
      let first = (neither (p k) (list_any p ks) none).0 in
      let here : p k ≡ true = rw (token_is k t h) at is in
      absurd cc

pub after_none : (token : Token) (behind : List Token) → stops (token ∷ []) behind ≡ true → after token behind ≡ None
after_none token [] h = refl
after_none token (t ∷ behind) h = rw ((neither (same_token token t) false (none_of _ h)).0) refl

-- ---- what deciding says of parts

module _ {A : Type 0} (between : Token) (marks : A → Bool) (item : Bool → Form A) (marked : Bool) where
  abbrev Decides : Type 0
  Decides = decides (Many between marks item marked) ≡ true

  many_parts : Decides → (same_token between between ≡ true) × (decides (item false) ≡ true) × (decides (item true) ≡ true) × (nullable (item false) ≡ false) × (nullable (item true) ≡ false) × (is_one_of (goes_on (item false) ++ goes_on (item true)) between ≡ false)
  many_parts d =
      let f = both (same_token between between && decides (item false) && decides (item true) && not (nullable (item false)) && not (nullable (item true))) _ d in
      let e = both (same_token between between && decides (item false) && decides (item true) && not (nullable (item false))) _ f.0 in
      let c = both (same_token between between && decides (item false) && decides (item true)) _ e.0 in
      let b = both (same_token between between && decides (item false)) _ c.0 in
      let a = both (same_token between between) _ b.0 in
      (a.0, a.1, b.1, none_of _ c.1, none_of _ e.1, none_of _ f.1)

  pub between_is_itself : Decides → same_token between between ≡ true
  between_is_itself d = (many_parts d).0

  pub item_decides : (m : Bool) → Decides → decides (item m) ≡ true
  item_decides m d = of_item m (λ m. decides (item m)) (many_parts d).1 (many_parts d).2

  pub item_not_null : (m : Bool) → Decides → nullable (item m) ≡ false
  item_not_null false d = (many_parts d).3
  item_not_null true d = (many_parts d).4

  pub stops_between : (behind : List Token) → Decides → stops (goes_on (item false) ++ goes_on (item true)) (between ∷ behind) ≡ true
  stops_between behind d = no _ (many_parts d).5

  pub stops_item : (m : Bool) (behind : List Token) → stops (goes_on (item false) ++ goes_on (item true)) behind ≡ true → stops (goes_on (item m)) behind ≡ true
  stops_item false behind h = (stops_both (goes_on (item false)) (goes_on (item true)) behind h).0
  stops_item true behind h = (stops_both (goes_on (item false)) (goes_on (item true)) behind h).1

module _ {A B : Type 0} (first : Form A) (second : Form B) where
  then_parts : decides (Then first second) ≡ true → (decides first ≡ true) × (decides second ≡ true) × (list_any (starts second) (goes_on first) ≡ false)
  then_parts d =
      let ds = both (decides first && decides second) _ d in
      let dd = both (decides first) (decides second) ds.0 in
      (dd.0, dd.1, none_of _ ds.1)

  pub first_decides : decides (Then first second) ≡ true → decides first ≡ true
  first_decides d = (then_parts d).0

  pub second_decides : decides (Then first second) ≡ true → decides second ≡ true
  second_decides d = (then_parts d).1

  pub second_apart : decides (Then first second) ≡ true → list_any (starts second) (goes_on first) ≡ false
  second_apart d = (then_parts d).2

module _ {A : Type 0} (token : Token) (first second : Form A) where
  choose_parts : decides (Choose token first second) ≡ true → (same_token token token ≡ true) × (decides first ≡ true) × (decides second ≡ true) × (starts second token ≡ false)
  choose_parts d =
      let c = both (same_token token token && decides first && decides second) _ d in
      let b = both (same_token token token && decides first) _ c.0 in
      let a = both (same_token token token) _ b.0 in
      (a.0, a.1, b.1, none_of _ c.1)

  pub token_is_itself : decides (Choose token first second) ≡ true → same_token token token ≡ true
  token_is_itself d = (choose_parts d).0

  pub chosen_decides : decides (Choose token first second) ≡ true → decides first ≡ true
  chosen_decides d = (choose_parts d).1

  pub other_decides : decides (Choose token first second) ≡ true → decides second ≡ true
  other_decides d = (choose_parts d).2

  pub other_apart : decides (Choose token first second) ≡ true → starts second token ≡ false
  other_apart d = (choose_parts d).3

-- ---- nothing, and the first token

append_nothing : (xs ys : List Token) → [] ≡ xs ++ ys → ([] ≡ xs) × ([] ≡ ys)
append_nothing [] ys h = (refl, h)
append_nothing (x ∷ xs) ys h = absurd cc

no_items : {A : Type 0} (between : Token) (marks : A → Bool) (item : Bool → A → Phrase) → ((m : Bool) (a : A) → item m a [] → ⊥) → (values : List A) (marked : Bool) → items between marks item marked values [] → ⊥
no_items between marks item none [] marked s = s
no_items between marks item none (a ∷ []) marked s = none marked a s
no_items between marks item none (a ∷ b ∷ others) marked s =
    let is = (append_nothing s.front s.behind s.whole).1 ∙ s.ends.whole in
    absurd cc

pub spells_nothing : {A : Type 0} (form : Form A) (value : A) (tokens : List Token) → decides form ≡ true → tokens ≡ [] → Spells form value tokens → nullable form ≡ true
spells_nothing Never value tokens d e s = absurd s
spells_nothing (Nothing a) value tokens d e s = refl
spells_nothing (One value_of) value tokens d e s = let is = sym e ∙ s.alone in absurd cc
spells_nothing (Then first second) value tokens d e s =
    let parts = append_nothing s.front s.behind (sym e ∙ s.whole) in
    rw (spells_nothing first value.0 s.front (first_decides first second d) (sym parts.0) s.starts, spells_nothing second value.1 s.behind (second_decides first second d) (sym parts.1) s.ends) refl
spells_nothing (As f form) value tokens d e s = spells_nothing form s.from tokens d e s.spelled
spells_nothing (Where test form) value tokens d e s = spells_nothing form value tokens d e s.1
spells_nothing (Choose token first second) value tokens d e (inl s) = let is = sym e ∙ s.whole in absurd cc
spells_nothing (Choose token first second) value tokens d e (inr s) = spells_nothing second value tokens (other_decides token first second d) e s
spells_nothing (Many between marks item marked) values tokens d e s =
    absurd (no_items between marks (λ m. Spells (item m)) (λ m a p.
    let null = spells_nothing (item m) a [] (item_decides between marks item marked m d) refl p in
    let none = item_not_null between marks item marked m d in
    absurd cc) values marked (subst (λ (ts : List Token). items between marks (λ m. Spells (item m)) marked values ts) e s))

-- ---- the first token of a beginning

some_value : {A : Type 0} (v : Option A) (value : A) → v ≡ Some value → is_some v ≡ true
some_value v value h = rw h refl

module _ (t : Token) where
  -- a beginning of two parts, by what the first of them may be
  starts_behind : {A : Type 0} (spells : A → Phrase) (second : A → Phrase) (first_null first_starts second_starts : Bool) → ((a : A) (ts rest : List Token) → ts ≡ t ∷ rest → spells a ts → first_starts ≡ true)
      → ((a : A) → spells a [] → first_null ≡ true) → ((a : A) (rest : List Token) → second a (t ∷ rest) → second_starts ≡ true)
      → (tokens : List Token) (value : A) (front behind : List Token) → t ∷ tokens ≡ front ++ behind → spells value front → second value behind
      → (first_starts || (first_null && second_starts)) ≡ true
  starts_behind spells second first_null first_starts second_starts of_first null of_second tokens value [] behind is f s =
      let P : List Token → Type 0 = λ ts. second value ts in
      or_right first_starts _ (rw (null value f, of_second value tokens (subst P (sym is) s)) refl)
  starts_behind spells second first_null first_starts second_starts of_first null of_second tokens value (x ∷ front) behind is f s =
      let same : x ≡ t = cc in
      or_left first_starts _ (of_first value (x ∷ front) front (ap (λ (y : Token). y ∷ front) same) f)

items_start : {A : Type 0} (between : Token) (marks : A → Bool) (item : Bool → A → Phrase) (begins : Bool → Phrase) (first : Bool) (t : Token) (marked : Bool)
    → ((ts rest : List Token) → ts ≡ t ∷ rest → begins marked ts → first ≡ true) → ((a : A) (ts rest : List Token) → ts ≡ t ∷ rest → item marked a ts → first ≡ true) → ((a : A) → item marked a [] → ⊥)
    → (n : ℕ) (tokens rest : List Token) → tokens ≡ t ∷ rest → begin_items between marks item begins n marked tokens → first ≡ true
items_start between marks item begins first t marked begun of_item none zero tokens rest e b = begun tokens rest e b
items_start between marks item begins first t marked begun of_item none (suc n) tokens rest e b = by_front b.front (sym e ∙ b.whole) b.starts where
  by_front : (front : List Token) → t ∷ rest ≡ front ++ b.behind → item marked b.value front → first ≡ true
  by_front [] is s = absurd (none b.value s)
  by_front (x ∷ front) is s =
      let same : x ≡ t = cc in
      of_item b.value (x ∷ front) front (ap (λ (y : Token). y ∷ front) same) s

pub begins_starts : {A : Type 0} (form : Form A) (t : Token) (tokens rest : List Token) → decides form ≡ true → tokens ≡ t ∷ rest → Begins form tokens → starts form t ≡ true
begins_starts Never t tokens rest d e b = let is = sym e ∙ b in absurd cc
begins_starts (Nothing a) t tokens rest d e b = let is = sym e ∙ b in absurd cc
begins_starts (One value_of) t tokens rest d e (inl b) = let is = sym e ∙ b in absurd cc
begins_starts (One value_of) t tokens rest d e (inr (value, s)) =
    let is = sym e ∙ s.alone in
    let same : t ≡ s.token = cc in
    some_value (value_of t) value (rw same s.stands)
begins_starts (Then first second) t tokens rest d e (inl b) = or_left (starts first t) _ (begins_starts first t tokens rest (first_decides first second d) e b)
begins_starts (Then first second) t tokens rest d e (inr b) =
    starts_behind t (Spells first) (λ a. Begins second) (nullable first) (starts first t) (starts second t)
    (λ a ts rest is s. begins_starts first t ts rest (first_decides first second d) is (begins_whole first a ts s))
    (λ a s. spells_nothing first a [] (first_decides first second d) refl s)
    (λ a rest s. begins_starts second t (t ∷ rest) rest (second_decides first second d) refl s) rest b.value b.front b.behind (sym e ∙ b.whole) b.starts b.ends
begins_starts (As f form) t tokens rest d e b = begins_starts form t tokens rest d e b
begins_starts (Where test form) t tokens rest d e b = begins_starts form t tokens rest d e b
begins_starts (Choose token first second) t tokens rest d e (inl b) =
    let is = sym e ∙ b.whole in
    let same : t ≡ token = cc in
    or_left (same_token token t) _ (rw same (token_is_itself token first second d))
begins_starts (Choose token first second) t tokens rest d e (inr b) = or_right (same_token token t) _ (begins_starts second t tokens rest (other_decides token first second d) e b)
begins_starts (Many between marks item marked) t tokens rest d e b =
    items_start between marks (λ m. Spells (item m)) (λ m. Begins (item m)) (starts (item marked) t) t marked
    (λ ts rest is p. begins_starts (item marked) t ts rest (item_decides between marks item marked marked d) is p)
    (λ a ts rest is s. begins_starts (item marked) t ts rest (item_decides between marks item marked marked d) is (begins_whole (item marked) a ts s))
    (λ a s.
    let null = spells_nothing (item marked) a [] (item_decides between marks item marked marked d) refl s in
    let none = item_not_null between marks item marked marked d in
    absurd cc) b.whole_items tokens rest e b.is
