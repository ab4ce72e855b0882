-- What is spelled is read, where what is behind it doesn't go on with it.
use Rattle.std.proofs.Common.{◌≡◌, ◌≤◌, ℕ, zero, suc, Bool, true, false, ◌||◌, List, [], ◌∷◌, ◌++◌, length, None, refl, ap, ◌∙◌, append_assoc, inl, inr, length-append, subst, arith, if◌then◌else◌}
use Rattle.sasi_model.specs.Tokens.{Token, same_token}
use Rattle.sasi_model.specs.Forms.{Form, Never, Nothing, One, Then, As, Where, Choose, Many, Phrase, items, Spells}
use Rattle.sasi_model.specs.FormReader.{Reading, Got, after, read_items, read, starts, goes_on, decides}
use Rattle.sasi_cql.proofs.Explained.{begins_whole}
use Rattle.sasi_cql.proofs.Deciding.{stops, stops_both, apart, after_none, between_is_itself, item_decides, stops_between, stops_item, first_decides, second_decides, second_apart, token_is_itself, chosen_decides, other_decides, other_apart, spells_nothing, begins_starts}

-- what is behind the first part of two
pub stops_first : {A B : Type 0} (first : Form A) (second : Form B) → decides (Then first second) ≡ true → (value : B) (part behind : List Token) → Spells second value part → stops (goes_on (Then first second)) behind ≡ true
    → stops (goes_on first) (part ++ behind) ≡ true
stops_first first second d value [] behind s h =
    let null = spells_nothing second value [] (second_decides first second d) refl s in
    let P : Bool → Type 0 = λ b. stops (goes_on second ++ (if b then goes_on first else [])) behind ≡ true in
    (stops_both (goes_on second) (goes_on first) behind (subst P null h)).1
stops_first first second d value (t ∷ part) behind s h =
    apart (starts second) (goes_on first) t (begins_starts second t (t ∷ part) part (second_decides first second d) refl (begins_whole second value (t ∷ part) s)) (second_apart first second d)

-- the token isn't in front of the other form's text
pub other_front : {A : Type 0} (token : Token) (first second : Form A) → decides (Choose token first second) ≡ true → (value : A) (part behind : List Token) → Spells second value part → stops (goes_on (Choose token first second)) behind ≡ true
    → after token (part ++ behind) ≡ None
other_front token first second d value [] behind s h =
    let null = spells_nothing second value [] (other_decides token first second d) refl s in
    let P : Bool → Type 0 = λ b. stops (goes_on first ++ (goes_on second ++ (if b then token ∷ [] else []))) behind ≡ true in
    let all = stops_both (goes_on first) (goes_on second ++ token ∷ []) behind (subst P null h) in
    after_none token behind (stops_both (goes_on second) (token ∷ []) behind all.1).1
other_front token first second d value (t ∷ part) behind s h =
    let first_is = begins_starts second t (t ∷ part) part (other_decides token first second d) refl (begins_whole second value (t ∷ part) s) in
    after_none token ((t ∷ part) ++ behind) (apart (starts second) (token ∷ []) t first_is (rw (other_apart token first second d) refl))

-- ---- items

pub few_items : {A : Type 0} (between : Token) (marks : A → Bool) (item : Bool → A → Phrase) (values : List A) (marked : Bool) (tokens : List Token) → items between marks item marked values tokens → length values ≤ suc (length tokens)
few_items between marks item [] marked tokens s = absurd s
few_items between marks item (a ∷ []) marked tokens s = omega arith
few_items between marks item (a ∷ b ∷ others) marked tokens s =
    let fewer = few_items between marks item (b ∷ others) (marked || marks a) s.ends.behind s.ends.spelled in
    let whole = ap length s.whole ∙ length-append s.front s.behind in
    let rest = ap length s.ends.whole in
    omega arith

complete_items : {A : Type 0} (between : Token) (marks : A → Bool) (item : Bool → A → Phrase) (read : Bool → List Token → Reading A) (ks : List Token) → same_token between between ≡ true → ((ts : List Token) → stops ks (between ∷ ts) ≡ true)
    → ((m : Bool) (a : A) (ts behind : List Token) → item m a ts → stops ks behind ≡ true → read m (ts ++ behind) ≡ Got a behind)
    → (values : List A) (n : ℕ) (marked : Bool) (tokens behind : List Token) → length values ≤ n → items between marks item marked values tokens → stops (between ∷ ks) behind ≡ true
    → read_items between marks read n marked (tokens ++ behind) ≡ Got values behind
unfolding read_items
complete_items between marks item read ks itself ends complete [] n marked tokens behind few s h = absurd s
complete_items between marks item read ks itself ends complete (a ∷ values) zero marked tokens behind few s h = absurd (omega arith)
complete_items between marks item read ks itself ends complete (a ∷ []) (suc n) marked tokens behind few s h =
    let hs = stops_both (between ∷ []) ks behind h in
    rw (complete marked a tokens behind s hs.1, after_none between behind hs.0) refl
complete_items between marks item read ks itself ends complete (a ∷ b ∷ others) (suc n) marked tokens behind few s h =
    let whole : tokens ++ behind ≡ s.front ++ between ∷ (s.ends.behind ++ behind) = rw (s.whole, s.ends.whole) (simp append_assoc) in
    let fewer : length (b ∷ others) ≤ n = omega arith in
    rw (whole, complete marked a s.front (between ∷ (s.ends.behind ++ behind)) s.starts (ends (s.ends.behind ++ behind)), itself, complete_items between marks item read ks itself ends complete (b ∷ others) n (marked || marks a) s.ends.behind behind fewer s.ends.spelled h) refl

-- ---- forms

-- what is spelled is read
pub complete : {A : Type 0} (form : Form A) (value : A) (tokens behind : List Token) → decides form ≡ true → Spells form value tokens → stops (goes_on form) behind ≡ true → read form (tokens ++ behind) ≡ Got value behind
complete Never value tokens behind d s h = absurd s
complete (Nothing a) value tokens behind d s h = rw (s.0, s.1) refl
complete (One value_of) value tokens behind d s h = rw (s.alone, s.stands) refl
complete (Then first second) value tokens behind d s h =
    let whole : tokens ++ behind ≡ s.front ++ (s.behind ++ behind) = rw s.whole (simp append_assoc) in
    rw (whole, complete first value.0 s.front (s.behind ++ behind) (first_decides first second d) s.starts (stops_first first second d value.1 s.behind behind s.ends h), complete second value.1 s.behind behind (second_decides first second d) s.ends (stops_both (goes_on second) _ behind h).0) refl
complete (As f form) value tokens behind d s h = rw (complete form s.from tokens behind d s.spelled h, s.is) refl
complete (Where test form) value tokens behind d s h = rw (complete form value tokens behind d s.1 h, s.0) refl
complete (Choose token first second) value tokens behind d (inl s) h =
    rw (s.whole, token_is_itself token first second d, complete first value s.behind behind (chosen_decides token first second d) s.spelled (stops_both (goes_on first) _ behind h).0) refl
complete (Choose token first second) value tokens behind d (inr s) h =
    rw (other_front token first second d value tokens behind s h, complete second value tokens behind (other_decides token first second d) s (stops_both (goes_on second) _ behind (stops_both (goes_on first) _ behind h).1).0) refl
complete (Many between marks item marked) values tokens behind d s h =
    let few = few_items between marks (λ m. Spells (item m)) values marked tokens s in
    let size = length-append tokens behind in
    complete_items between marks (λ m. Spells (item m)) (λ m. read (item m)) (goes_on (item false) ++ goes_on (item true)) (between_is_itself between marks item marked d) (λ ts. stops_between between marks item marked ts d)
    (λ m a ts behind p ends. complete (item m) a ts behind (item_decides between marks item marked m d) p (stops_item between marks item marked m behind ends))
    values (suc (length (tokens ++ behind))) marked tokens behind (omega arith) s h
