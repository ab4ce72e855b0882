-- What a content has of a key, by the keys of the key's token.
use Rattle.std.proofs.Common.{◌≡◌, ℕ, ◌+◌, nat_eq, Bool, true, false, if◌then◌else◌, List, [], ◌∷◌, ◌++◌, length, map, None, Some, refl, sym, ap, subst, ◌∙◌, length-append, arith}
use Rattle.std.specs.declared.cmp.Ordering.{Ordering}
use Rattle.std.specs.declared.cmp.Ordering.TheVariants.{Less, Equal}
use Rattle.std.specs.Cmp.{nat_cmp_total}
use Rattle.std.specs.Cmp.Lexicographic.{nat_list_cmp_total, same_text, texts_ties}
use Rattle.std.specs.List.{AllByRecursion}
use Rattle.std.specs.List.Sorted.{IsStrictlySortedBy}
use Rattle.std.specs.Ordering.{is_eq, nat_cmp, ordering_then}
use Rattle.std.proofs.lemmas.Bool.{eq-eqb, eqb-true, false_from_ne_true}
use Rattle.std.proofs.lemmas.Cmp.{tied_itself}
use Rattle.std.proofs.lemmas.Map.Entries.{lookup_head, lookup_tail}
use Rattle.sasi_types.specs.declared.decorated_key.DecoratedKey.{DecoratedKey}
use Rattle.sasi_types.specs.declared.partitioner.Partitioner.{Partitioner}
use Rattle.sasi_types.specs.DecoratedKey.{decorated_cmp, decorated_total}
use Rattle.sasi_types.specs.Key.{key_cmp, key_eq}
use Rattle.sasi_types.specs.Token.{token_of}
use Rattle.sasi_model.specs.Cells.{Partition}
use Rattle.sasi_host.specs.Names.{Bytes}
use Rattle.sasi_body.specs.Body.{body}
use Rattle.sasi_datawrite.specs.Format.{Content, IsContent, decorated_key, header, partition_bytes, partitions}
use Rattle.sasi_dataread.specs.declared.token_keys.PlacedKey.{PlacedKey}
use Rattle.sasi_dataread.specs.Bodies.{partition_pages}
use Rattle.sasi_dataread.specs.Finds.{partition_of}
use Rattle.sasi_dataread.specs.Opened.{StandsAt}
use Rattle.sasi_dataread.specs.PlacedKeys.{keys_at}
use Rattle.sasi_lookup.specs.KeySearches.{HasNo, KeysRise}
use Rattle.sasi_lookup.specs.Reads.{key_pages}

-- ---- equal keys

pub key_itself : (key : Bytes) → key_eq key key ≡ true
key_itself key = texts_ties key key ∙ ap is_eq (tied_itself nat_list_cmp_total key)

pub is_same_key : (key other : Bytes) → key_eq key other ≡ true → key ≡ other
is_same_key key other is = same_text key other (sym is)

-- ---- the keys of a token rise

abbrev key_of : PlacedKey → Bytes
key_of placed = placed.key

abbrev decorated_as : Partitioner → Bytes → DecoratedKey
decorated_as p key = record { token = token_of p key; key = key }

below_same : (p : Partitioner) (token : ℕ) (a b : Bytes) → token_of p a ≡ token → token_of p b ≡ token → decorated_cmp (decorated_as p a) (decorated_as p b) ≡ Less → key_cmp a b ≡ Less
below_same p token a b first second below =
    let tied : nat_cmp (token_of p a) (token_of p b) ≡ Equal = ap (λ (n : ℕ). nat_cmp (token_of p a) n) (second ∙ sym first) ∙ tied_itself nat_cmp_total (token_of p a) in
    sym (ap (λ (o : Ordering). ordering_then o (key_cmp a b)) tied) ∙ below

below_all : (p : Partitioner) (token at : ℕ) (key : Bytes) (others : Content) → token_of p key ≡ token
    → AllByRecursion (λ d. decorated_cmp (decorated_as p key) d ≡ Less) (map (decorated_key p) others) → AllByRecursion (λ k. key_cmp key k ≡ Less) (map key_of (keys_at p token at others))
below_all p token at key [] is all = tt
below_all p token at key (one ∷ others) is all = by (nat_eq (token_of p one.0) token) refl (below_all p token (at + length (partition_bytes one.0 one.1)) key others is all.1)
  where
    left : List PlacedKey
    left = keys_at p token (at + length (partition_bytes one.0 one.1)) others

    by : (t : Bool) → nat_eq (token_of p one.0) token ≡ t → AllByRecursion (λ k. key_cmp key k ≡ Less) (map key_of left)
        → AllByRecursion (λ k. key_cmp key k ≡ Less) (map key_of ((if t then record { place = at; key = one.0 } ∷ [] else []) ++ left))
    by true same rest = (below_same p token key one.0 is (eqb-true (token_of p one.0) token same) all.0, rest)
    by false other rest = rest

pub keys_rise : (p : Partitioner) (token at : ℕ) (content : Content) → IsStrictlySortedBy decorated_cmp (map (decorated_key p) content) → KeysRise (keys_at p token at content)
unfolding IsStrictlySortedBy
keys_rise p token at [] rising = tt
keys_rise p token at (one ∷ others) rising = by (nat_eq (token_of p one.0) token) refl (keys_rise p token (at + length (partition_bytes one.0 one.1)) others rising.1)
  where
    next : ℕ
    next = at + length (partition_bytes one.0 one.1)

    by : (t : Bool) → nat_eq (token_of p one.0) token ≡ t → KeysRise (keys_at p token next others) → KeysRise ((if t then record { place = at; key = one.0 } ∷ [] else []) ++ keys_at p token next others)
    by true same rest = (below_all p token next one.0 others (eqb-true (token_of p one.0) token same) rising.0, rest)
    by false other rest = rest

-- ---- a key that isn't among those of its token

-- the content lacks it
pub has_none : (p : Partitioner) (token at : ℕ) (key : Bytes) (content : Content) → token_of p key ≡ token → HasNo key (keys_at p token at content) → partition_of content key ≡ None
has_none p token at key [] is none = refl
has_none p token at key (one ∷ others) is none =
    let split = by (nat_eq (token_of p one.0) token) refl none in
    lookup_tail (key_eq key) one others split.0 ∙ has_none p token (at + length (partition_bytes one.0 one.1)) key others is split.1
  where
    left : List PlacedKey
    left = keys_at p token (at + length (partition_bytes one.0 one.1)) others

    by : (t : Bool) → nat_eq (token_of p one.0) token ≡ t → HasNo key ((if t then record { place = at; key = one.0 } ∷ [] else []) ++ left) → (key_eq key one.0 ≡ false) × HasNo key left
    by true same all = (all.0, all.1)
    by false other all = (
      false_from_ne_true (key_eq key one.0) (λ equal. (
          let token_is : token_of p one.0 ≡ token = sym (ap (token_of p) (is_same_key key one.0 equal)) ∙ is in
          let no : true ≡ false = sym (eq-eqb (token_of p one.0) token token_is) ∙ other in
          cc)),
      all,
    )

-- ---- a key that stands at an offset

not_itself : (p : Partitioner) (key : Bytes) → decorated_cmp (decorated_as p key) (decorated_as p key) ≡ Less → ⊥
not_itself p key less = let no : Equal ≡ Less = sym (tied_itself decorated_total (decorated_as p key)) ∙ less in cc

differs : (p : Partitioner) (first key : Bytes) (part : Partition) (before behind : Content)
    → AllByRecursion (λ d. decorated_cmp (decorated_as p first) d ≡ Less) (map (decorated_key p) (before ++ (key, part) ∷ behind)) → key_eq key first ≡ false
differs p first key part [] behind all =
    false_from_ne_true (key_eq key first) (λ equal. not_itself p first (subst (λ (k : Bytes). decorated_cmp (decorated_as p first) (decorated_as p k) ≡ Less) (is_same_key key first equal) all.0))
differs p first key part (one ∷ before) behind all = differs p first key part before behind all.1

-- it is the content's, and its pages are those of its partition
pub record IsKeyOf (at : ℕ) (content : Content) (place : ℕ) (key : Bytes) (part : Partition) : Type 0 where
  pub partition_is : partition_of content key ≡ Some part
  pub pages_are : key_pages key at content ≡ partition_pages place (length (body key part))

key_there : (p : Partitioner) (at : ℕ) (key : Bytes) (part : Partition) (before behind : Content) → IsStrictlySortedBy decorated_cmp (map (decorated_key p) (before ++ (key, part) ∷ behind))
    → IsKeyOf at (before ++ (key, part) ∷ behind) (at + length (partitions before)) key part
unfolding IsStrictlySortedBy
key_there p at key part [] behind rising = record {
  partition_is = lookup_head (key_eq key) (key, part) behind (key_itself key);
  pages_are = (
      let none : at ≡ at + length (partitions []) = omega arith in
      ap (λ (t : Bool). if t then partition_pages at (length (body key part)) else key_pages key (at + length (partition_bytes key part)) behind) (key_itself key) ∙ ap (λ (n : ℕ). partition_pages n (length (body key part))) none);
}
key_there p at key part (one ∷ before) behind rising =
    let size = length (partition_bytes one.0 one.1) in
    let rest = key_there p (at + size) key part before behind rising.1 in
    let other = differs p one.0 key part before behind rising.0 in
    let offset : at + size + length (partitions before) ≡ at + length (partitions (one ∷ before)) = omega (arith, length-append (partition_bytes one.0 one.1) (partitions before)) in
    record {
      partition_is = lookup_tail (key_eq key) one (before ++ (key, part) ∷ behind) other ∙ rest.partition_is;
      pages_are =
          ap (λ (t : Bool). if t then partition_pages at (length (body one.0 one.1)) else key_pages key (at + size) (before ++ (key, part) ∷ behind)) other
          ∙ rest.pages_are
          ∙ ap (λ (n : ℕ). partition_pages n (length (body key part))) offset;
    }

pub key_stands : (p : Partitioner) (content : Content) (place : ℕ) (key : Bytes) (part : Partition) → IsContent p content → StandsAt content place key part → IsKeyOf (length header) content place key part
key_stands p content place key part is stands =
    let there = key_there p (length header) key part stands.before stands.behind (subst (λ (c : Content). IsStrictlySortedBy decorated_cmp (map (decorated_key p) c)) stands.is is.rising) in
    subst (λ (c : Content). IsKeyOf (length header) c place key part) (sym stands.is)
    (subst (λ (n : ℕ). IsKeyOf (length header) (stands.before ++ (key, part) ∷ stands.behind) n key part) (sym (stands.begins ∙ length-append header (partitions stands.before))) there)
