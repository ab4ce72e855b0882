-- The least of the first entries is the first entry of the union.
use Rattle.std.proofs.Common.{◌≡◌, ◌⊎◌, ◌≤◌, ℕ, zero, suc, ◌<◌, nat_lt, Bool, true, false, cond, List, [], ◌∷◌, length, map, Option, None, Some, refl, sym, ap, subst, ◌∙◌, inl, inr, ⊎_elim, arith}
use Rattle.std.specs.List.{AllByRecursion, slice_index_or, slice_set}
use Rattle.std.specs.declared.cmp.Ordering.{Ordering}
use Rattle.std.specs.declared.cmp.Ordering.TheVariants.{Less, Equal, Greater}
use Rattle.std.specs.Ordering.{nat_cmp, ordering_reverse, ordering_then, is_eq, is_lt, MatchOrdering}
use Rattle.std.proofs.lemmas.Cmp.{ranked}
use Rattle.std.proofs.lemmas.Bool.Decides.{nat_tests}
use Rattle.std.specs.FinMap.{nat_cmp-IsAntisymmetric}
use Rattle.sasi_host.specs.Names.{Folder}
use Rattle.sasi_ranges.specs.declared.entry.Entry.{Entry}
use Rattle.sasi_ranges.specs.declared.head.Head.{Head}
use Rattle.sasi_ranges.specs.declared.head.Head.TheVariants.{Unread, At, Ended}
use Rattle.sasi_ranges.specs.declared.head.Headed.{Headed}
use Rattle.sasi_ranges.specs.Entries.{entry_cmp, entry_total, from_token}
use Rattle.sasi_ranges.specs.inside.Heads.{AllLeave, AreRead, AtHead, HeadLeaves, IsRead, dropped, head_without, least_from, lesser, streams_of}
use Rattle.sasi_ranges.specs.inside.Unions.{BeginsWith, IsLeast, NotBelow, SomeBegins, Unites, drop_if}

-- ---- a function of the first so many

abbrev pub mapped_first : {A : Type 0} → ℕ → (A → A) → List A → List A
mapped_first zero f xs = xs
mapped_first (suc i) f [] = []
mapped_first (suc i) f (x ∷ xs) = f x ∷ mapped_first i f xs

pub mapped_one : {A : Type 0} (d : A) (i n : ℕ) (f : A → A) (xs : List A) (new : A) → i < length xs → n ≡ suc i
    → new ≡ f (slice_index_or (mapped_first i f xs) i d) → slice_set (mapped_first i f xs) i new ≡ mapped_first n f xs
mapped_one {A} d i n f xs new at next is = go i xs at is ∙ ap (λ k. mapped_first k f xs) (sym next)
  where
    go : (i : ℕ) (xs : List A) → i < length xs → new ≡ f (slice_index_or (mapped_first i f xs) i d)
        → slice_set (mapped_first i f xs) i new ≡ mapped_first (suc i) f xs
    go i [] at is = absurd (omega arith)
    go zero (x ∷ xs) at is = ap (λ y. y ∷ xs) is
    go (suc i) (x ∷ xs) at is = ap (λ l. f x ∷ l) (go i xs (omega arith) is)

pub mapped_all : {A : Type 0} (n : ℕ) (f : A → A) (xs : List A) → n ≡ length xs → mapped_first n f xs ≡ map f xs
mapped_all zero f [] is = refl
mapped_all zero f (x ∷ xs) is = absurd (omega arith)
mapped_all (suc n) f [] is = absurd (omega arith)
mapped_all (suc n) f (x ∷ xs) is = ap (λ l. f x ∷ l) (mapped_all n f xs (omega arith))

-- ---- the order

both_equal : (r s : Ordering) → ordering_then r s ≡ Equal → (r ≡ Equal) × (s ≡ Equal)
both_equal Less s e = cc
both_equal Equal s e = (refl, e)
both_equal Greater s e = cc

-- only equal entries tie
pub same_entry : (a b : Entry) → entry_cmp a b ≡ Equal → a ≡ b
same_entry a b tie =
    let first = both_equal (ordering_then (ordering_then (nat_cmp a.token b.token) (nat_cmp a.leaf b.leaf)) (nat_cmp a.part b.part)) (nat_cmp a.place b.place) tie in
    let second = both_equal (ordering_then (nat_cmp a.token b.token) (nat_cmp a.leaf b.leaf)) (nat_cmp a.part b.part) first.0 in
    let third = both_equal (nat_cmp a.token b.token) (nat_cmp a.leaf b.leaf) second.0 in
    let token = nat_cmp-IsAntisymmetric a.token b.token third.0 in
    let leaf = nat_cmp-IsAntisymmetric a.leaf b.leaf third.1 in
    let part = nat_cmp-IsAntisymmetric a.part b.part second.1 in
    let place = nat_cmp-IsAntisymmetric a.place b.place first.1 in
    λ i. record { token = token i; leaf = leaf i; part = part i; place = place i }

neither : (r : Ordering) → is_lt r ≡ false → is_lt (ordering_reverse r) ≡ false → r ≡ Equal
neither Less a b = cc
neither Equal a b = refl
neither Greater a b = cc

pub not_apart : (a b : Entry) → is_lt (entry_cmp a b) ≡ false → is_lt (entry_cmp b a) ≡ false → a ≡ b
not_apart a b first second = same_entry a b (neither (entry_cmp a b) first (ap is_lt (sym (entry_total.antisymm b a)) ∙ second))

-- ---- lists

begins_none_below : (a b : Entry) (lists : List (List Entry)) → SomeBegins a lists → AllByRecursion (NotBelow b) lists → is_lt (entry_cmp a b) ≡ false
begins_none_below a b [] some none = absurd some
begins_none_below a b ([] ∷ ls) some none = ⊎_elim (λ here. absurd here) (λ later. begins_none_below a b ls later none.1) some
begins_none_below a b ((x ∷ xs) ∷ ls) some none = ⊎_elim (λ here. subst (λ (e : Entry). is_lt (entry_cmp e b) ≡ false) here none.0) (λ later. begins_none_below a b ls later none.1) some

-- there is one least
pub one_least : (a b : Entry) (lists : List (List Entry)) → IsLeast a lists → IsLeast b lists → a ≡ b
one_least a b lists first second = not_apart a b (begins_none_below a b lists first.some second.none_below) (begins_none_below b a lists second.some first.none_below)

none_begins : (e : Entry) (lists : List (List Entry)) → AllByRecursion (λ l. l ≡ []) lists → SomeBegins e lists → ⊥
none_begins e [] empty some = some
none_begins e (l ∷ ls) empty some = ⊎_elim (λ here. subst (BeginsWith e) empty.0 here) (λ later. none_begins e ls empty.1 later) some

pub unites_least : (e : Entry) (lists : List (List Entry)) (es : List Entry) → IsLeast e lists → Unites lists es
    → (rest : List Entry) × (es ≡ e ∷ rest) × Unites (map (drop_if e) lists) rest
unites_least e lists [] least is = absurd (none_begins e lists is least.some)
unites_least e lists (x ∷ es) least is =
    let same : x ≡ e = one_least x e lists is.0 least in
    (es, ap (λ (y : Entry). y ∷ es) same, subst (λ (y : Entry). Unites (map (drop_if y) lists) es) same is.1)

pub unites_none : (lists : List (List Entry)) (es : List Entry) → AllByRecursion (λ l. l ≡ []) lists → Unites lists es → es ≡ []
unites_none lists [] empty is = refl
unites_none lists (e ∷ es) empty is = absurd (none_begins e lists empty is.0.some)

-- ---- the heads

-- what is chosen of a list of heads, with one so far
record Chosen {S : Type 0} (so_far found : Option Entry) (hs : List (Headed S)) (lists : List (List Entry)) : Type 0 where
  none : found ≡ None → (so_far ≡ None) × AllByRecursion (λ l. l ≡ []) lists
  some : (e : Entry) → found ≡ Some e
      → ((so_far ≡ Some e) ⊎ SomeBegins e lists) × ((x : Entry) → so_far ≡ Some x → is_lt (entry_cmp x e) ≡ false) × AllByRecursion (NotBelow e) lists

pub not_itself : (r : Ordering) → r ≡ ordering_reverse r → is_lt r ≡ false
not_itself Less e = cc
not_itself Equal e = refl
not_itself Greater e = refl

not_less_back : (r : Ordering) → is_lt r ≡ true → is_lt (ordering_reverse r) ≡ false
not_less_back Less e = refl
not_less_back Equal e = cc
not_less_back Greater e = cc

equal_or : (r : Ordering) → is_lt r ≡ false → (r ≡ Equal) ⊎ (r ≡ Greater)
equal_or Less e = cc
equal_or Equal e = inl refl
equal_or Greater e = inr refl

pub less_is : (r : Ordering) → is_lt r ≡ true → r ≡ Less
less_is Less e = refl
less_is Equal e = cc
less_is Greater e = cc

-- what isn't below a lesser one isn't below one that isn't above it
pub stays_above : (x y e : Entry) → is_lt (entry_cmp x y) ≡ false → is_lt (entry_cmp y e) ≡ false → is_lt (entry_cmp x e) ≡ false
stays_above x y e first second = by (is_lt (entry_cmp x e)) refl
  where
    by : (t : Bool) → is_lt (entry_cmp x e) ≡ t → is_lt (entry_cmp x e) ≡ false
    by false is = is
    by true is = ⊎_elim
        (λ tie. (let at : y ≡ e = same_entry y e tie in subst (λ (z : Entry). is_lt (entry_cmp x z) ≡ false) at first))
        (λ above. (
        let back : entry_cmp e y ≡ Less = entry_total.antisymm e y ∙ ap ordering_reverse above in
        let less : entry_cmp x y ≡ Less = entry_total.trans x e y (less_is _ is) back in
        let no : true ≡ false = ap is_lt (sym less) ∙ first in
        cc
        ))
        (equal_or (entry_cmp y e) second)

-- one more head, at its end or at an entry
one_ended : {S : Type 0} (so_far found : Option Entry) (hs : List (Headed S)) (h : Headed S) (l : List Entry) (ls : List (List Entry)) → l ≡ []
    → Chosen {S = S} so_far found hs ls → Chosen {S = S} so_far found (h ∷ hs) (l ∷ ls)
one_ended {S} so_far found hs h l ls empty later = record {
  none = λ is. (let parts = later.none is in (parts.0, (empty, parts.1)));
  some = λ e is. (let parts = later.some e is in (⊎_elim (λ first. inl first) (λ begins. inr (inr begins)) parts.0, parts.1, (subst (NotBelow e) (sym empty) tt, parts.2)));
}

some_is : {A : Type 0} (x y : A) → Some x ≡ Some y → x ≡ y
some_is x y e = cc

one_at : {S : Type 0} (so_far found : Option Entry) (hs : List (Headed S)) (h : Headed S) (x : Entry) (l : List Entry) (ls : List (List Entry))
    → ((rest : List Entry) × (l ≡ x ∷ rest)) → Chosen {S = S} (lesser so_far (At x)) found hs ls → Chosen {S = S} so_far found (h ∷ hs) (l ∷ ls)
one_at {S} None found hs h x l ls at later = record {
  none = λ is. (let parts = later.none is in let no : Some x ≡ None = parts.0 in cc);
  some = λ e is. (let parts = later.some e is in (
    inr (⊎_elim (λ first. inl (subst (BeginsWith e) (sym at.1) (some_is x e first))) (λ begins. inr begins) parts.0),
    (λ y none. cc),
    (subst (NotBelow e) (sym at.1) (parts.1 x refl), parts.2),
  ));
}
one_at {S} (Some y) found hs h x l ls at later = by (is_lt (entry_cmp x y)) refl later
  where
    by : (t : Bool) → is_lt (entry_cmp x y) ≡ t → Chosen {S = S} (cond t (Some x) (Some y)) found hs ls → Chosen {S = S} (Some y) found (h ∷ hs) (l ∷ ls)
    by true less later = record {
      none = λ is. (let parts = later.none is in let no : Some x ≡ None = parts.0 in cc);
      some = λ e is. (let parts = later.some e is in
          let above : is_lt (entry_cmp y x) ≡ false = ap is_lt (entry_total.antisymm y x) ∙ not_less_back (entry_cmp x y) less in (
            inr (⊎_elim (λ first. inl (subst (BeginsWith e) (sym at.1) (some_is x e first))) (λ begins. inr begins) parts.0),
            (λ z same. subst (λ (k : Entry). is_lt (entry_cmp k e) ≡ false) (some_is y z same) (stays_above y x e above (parts.1 x refl))),
            (subst (NotBelow e) (sym at.1) (parts.1 x refl), parts.2),
          ));
    }
    by false not_less later = record {
      none = λ is. (let parts = later.none is in let no : Some y ≡ None = parts.0 in cc);
      some = λ e is. (let parts = later.some e is in (
        ⊎_elim (λ first. inl first) (λ begins. inr (inr begins)) parts.0,
        parts.1,
        (subst (NotBelow e) (sym at.1) (stays_above x y e not_less (parts.1 y refl)), parts.2),
      ));
    }

module _ {S : Type 0} (leaves : S → Option Folder → List Entry → Type 0) (files : Option Folder) where
  one_head : (so_far : Option Entry) (hs : List (Headed S)) (h : Headed S) (head : Head) (l : List Entry) (ls : List (List Entry)) → IsRead head
      → AtHead leaves files head h.stream l → Chosen {S = S} (lesser so_far head) (least_from (lesser so_far head) hs) hs ls
      → Chosen {S = S} so_far (least_from (lesser so_far head) hs) (h ∷ hs) (l ∷ ls)
  one_head so_far hs h Unread l ls read at later = absurd read
  one_head so_far hs h Ended l ls read at later = one_ended so_far (least_from so_far hs) hs h l ls at later
  one_head so_far hs h (At x) l ls read at later = one_at so_far (least_from (lesser so_far (At x)) hs) hs h x l ls (at.0, at.1) later

  chosen : (so_far : Option Entry) (hs : List (Headed S)) (lists : List (List Entry)) → AreRead hs → AllLeave leaves files hs lists
      → Chosen {S = S} so_far (least_from so_far hs) hs lists
  chosen so_far [] [] read all = record { none = λ is. (is, tt); some = λ e is. (inl is, (λ x at. subst (λ (z : Entry). is_lt (entry_cmp z e) ≡ false) (some_is e x (sym is ∙ at)) (not_itself (entry_cmp e e) (entry_total.antisymm e e))), tt) }
  chosen so_far [] (l ∷ ls) read all = absurd all
  chosen so_far (h ∷ hs) [] read all = absurd all
  chosen so_far (h ∷ hs) (l ∷ ls) read all = one_head so_far hs h h.head l ls read.0 all.0 (chosen (lesser so_far h.head) hs ls read.1 all.1)

  pub least_is : (hs : List (Headed S)) (lists : List (List Entry)) (e : Entry) → AreRead hs → AllLeave leaves files hs lists → least_from None hs ≡ Some e
      → IsLeast e lists
  least_is hs lists e read all is =
      let parts = (chosen None hs lists read all).some e is in
      record { none_below = parts.2; some = ⊎_elim (λ no. (let not : None ≡ Some e = no in cc)) (λ begins. begins) parts.0 }

  pub all_ended : (hs : List (Headed S)) (lists : List (List Entry)) → AreRead hs → AllLeave leaves files hs lists → least_from None hs ≡ None
      → AllByRecursion (λ l. l ≡ []) lists
  all_ended hs lists read all is = ((chosen None hs lists read all).none is).1

  -- ---- without the least

  head_dropped : (e : Entry) (head : Head) (s : S) (l : List Entry) → IsRead head → AtHead leaves files head s l
      → AtHead leaves files (head_without e head) s (drop_if e l)
  head_dropped e Unread s l read at = absurd read
  head_dropped e Ended s l read at = ap (drop_if e) at
  head_dropped e (At x) s l read at = subst (λ (k : List Entry). AtHead leaves files (head_without e (At x)) s (drop_if e k)) (sym at.1) (by (is_eq (entry_cmp x e)))
    where
      by : (t : Bool) → AtHead leaves files (cond t Unread (At x)) s (cond t at.0 (x ∷ at.0))
      by true = at.2
      by false = (at.0, refl, at.2)

  pub all_dropped : (e : Entry) (hs : List (Headed S)) (lists : List (List Entry)) → AreRead hs → AllLeave leaves files hs lists
      → AllLeave leaves files (map (dropped e) hs) (map (drop_if e) lists)
  all_dropped e [] [] read all = tt
  all_dropped e [] (l ∷ ls) read all = absurd all
  all_dropped e (h ∷ hs) [] read all = absurd all
  all_dropped e (h ∷ hs) (l ∷ ls) read all = (head_dropped e h.head h.stream l read.0 all.0, all_dropped e hs ls read.1 all.1)

pub streams_dropped : {S : Type 0} (e : Entry) (hs : List (Headed S)) → streams_of (map (dropped e) hs) ≡ streams_of hs
streams_dropped e [] = refl
streams_dropped e (h ∷ hs) = ap (λ (k : List _). h.stream ∷ k) (streams_dropped e hs)

-- ---- without what is below a token

token_by : (r u v w : Ordering) (a b : ℕ) → MatchOrdering r (a < b) (a ≡ b) (b < a) → is_lt (ordering_then (ordering_then (ordering_then r u) v) w) ≡ false
    → b ≤ a
token_by Less u v w a b h is = (let no : true ≡ false = is in cc)
token_by Equal u v w a b h is = omega arith
token_by Greater u v w a b h is = omega arith

pub token_above : (x e : Entry) → is_lt (entry_cmp x e) ≡ false → e.token ≤ x.token
token_above x e is = token_by (nat_cmp x.token e.token) (nat_cmp x.leaf e.leaf) (nat_cmp x.part e.part) (nat_cmp x.place e.place) x.token e.token (ranked x.token e.token _ refl) is

kept_list : (t : ℕ) (e : Entry) (l : List Entry) → t ≤ e.token → NotBelow e l → from_token t l ≡ l
kept_list t e [] above is = refl
kept_list t e (x ∷ xs) above is = (let at = token_above x e is in let no : nat_lt x.token t ≡ false = grind (arith, nat_tests) in ap (λ b. cond b (from_token t xs) (x ∷ xs)) no)

kept_lists : (t : ℕ) (e : Entry) (ls : List (List Entry)) → t ≤ e.token → AllByRecursion (NotBelow e) ls → map (from_token t) ls ≡ ls
kept_lists t e [] above is = refl
kept_lists t e (l ∷ ls) above is = ap (λ k. k ∷ map (from_token t) ls) (kept_list t e l above is.0) ∙ ap (λ k. l ∷ k) (kept_lists t e ls above is.1)

tie_is : (r : Ordering) → is_eq r ≡ true → r ≡ Equal
tie_is Less e = cc
tie_is Equal e = refl
tie_is Greater e = cc

passed_list : (t : ℕ) (e : Entry) (l : List Entry) → nat_lt e.token t ≡ true → from_token t (drop_if e l) ≡ from_token t l
passed_list t e [] below = refl
passed_list t e (x ∷ xs) below = by (is_eq (entry_cmp x e)) refl
  where
    by : (b : Bool) → is_eq (entry_cmp x e) ≡ b → from_token t (cond b xs (x ∷ xs)) ≡ from_token t (x ∷ xs)
    by true tie = let same : x ≡ e = same_entry x e (tie_is (entry_cmp x e) tie) in sym (ap (λ b. cond b (from_token t xs) (x ∷ xs)) (ap (λ (y : Entry). nat_lt y.token t) same ∙ below))
    by false other = refl

passed_lists : (t : ℕ) (e : Entry) (ls : List (List Entry)) → nat_lt e.token t ≡ true → map (from_token t) (map (drop_if e) ls) ≡ map (from_token t) ls
passed_lists t e [] below = refl
passed_lists t e (l ∷ ls) below = ap (λ k. k ∷ map (from_token t) (map (drop_if e) ls)) (passed_list t e l below) ∙ ap (λ k. from_token t l ∷ k) (passed_lists t e ls below)

empty_lists : (t : ℕ) (ls : List (List Entry)) → AllByRecursion (λ l. l ≡ []) ls → AllByRecursion (λ l. l ≡ []) (map (from_token t) ls)
empty_lists t [] is = tt
empty_lists t (l ∷ ls) is = (ap (from_token t) is.0, empty_lists t ls is.1)

skip_one : (t : ℕ) (e : Entry) (ls : List (List Entry)) (es : List Entry) (b : Bool) → nat_lt e.token t ≡ b → IsLeast e ls → Unites (map (drop_if e) ls) es
    → Unites (map (from_token t) (map (drop_if e) ls)) (from_token t es) → Unites (map (from_token t) ls) (cond b (from_token t es) (e ∷ es))
skip_one t e ls es true below least is later = subst (λ (k : List (List Entry)). Unites k (from_token t es)) (passed_lists t e ls below) later
skip_one t e ls es false above least is later = (let at : t ≤ e.token = grind (arith, nat_tests) in subst (λ (k : List (List Entry)). IsLeast e k × Unites (map (drop_if e) k) es) (sym (kept_lists t e ls at least.none_below)) (least, is))

pub unites_skip : (t : ℕ) (ls : List (List Entry)) (es : List Entry) → Unites ls es → Unites (map (from_token t) ls) (from_token t es)
unites_skip t ls [] is = empty_lists t ls is
unites_skip t ls (e ∷ es) is = skip_one t e ls es (nat_lt e.token t) refl is.0 is.1 (unites_skip t (map (drop_if e) ls) es is.1)

-- ---- one stream changed at an index, and its list by f

module _ {S : Type 0} (d : Headed S) (leaves : S → Option Folder → List Entry → Type 0) (f : List Entry → List Entry) where
  pub leave_mapped : (x y : Option Folder) (hs : List (Headed S)) (i n : ℕ) (new : Headed S) (lists : List (List Entry)) → i < length hs → n ≡ suc i → y ≡ x
      → ((es : List Entry) → HeadLeaves leaves x (slice_index_or hs i d) es → HeadLeaves leaves y new (f es)) → AllLeave leaves x hs (mapped_first i f lists) → AllLeave leaves y (slice_set hs i new) (mapped_first n f lists)
  leave_mapped x y hs i n new lists at next same keeps all = subst (λ k. AllLeave leaves y (slice_set hs i new) (mapped_first k f lists)) (sym next) (go hs i lists at keeps all)
    where
      go : (hs : List (Headed S)) (i : ℕ) (lists : List (List Entry)) → i < length hs
          → ((es : List Entry) → HeadLeaves leaves x (slice_index_or hs i d) es → HeadLeaves leaves y new (f es))
          → AllLeave leaves x hs (mapped_first i f lists) → AllLeave leaves y (slice_set hs i new) (mapped_first (suc i) f lists)
      go [] i lists at keeps all = absurd (omega arith)
      go (k ∷ hs) zero [] at keeps all = absurd all
      go (k ∷ hs) (suc i) [] at keeps all = absurd all
      go (k ∷ hs) zero (l ∷ ls) at keeps all = (keeps l all.0, subst (λ (o : Option Folder). AllLeave leaves o hs ls) (sym same) all.1)
      go (k ∷ hs) (suc i) (l ∷ ls) at keeps all = (subst (λ (o : Option Folder). HeadLeaves leaves o k (f l)) (sym same) all.0, go hs i ls (omega arith) keeps all.1)

pub leave_length : {S : Type 0} (leaves : S → Option Folder → List Entry → Type 0) (x : Option Folder) (hs : List (Headed S)) (lists : List (List Entry))
    → AllLeave leaves x hs lists → length hs ≡ length lists
leave_length leaves x [] [] all = refl
leave_length leaves x [] (l ∷ ls) all = absurd all
leave_length leaves x (h ∷ hs) [] all = absurd all
leave_length leaves x (h ∷ hs) (l ∷ ls) all = ap suc (leave_length leaves x hs ls all.1)
