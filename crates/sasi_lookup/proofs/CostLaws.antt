-- For callers: what is read for a token, and for its candidates, is within what a look at the token may cost.
use Rattle.std.proofs.Common.{◌≡◌, ℕ, ◌+◌, ◌*◌, ◌^◌, ◌≤◌, nat_eq, Bool, true, false, if◌then◌else◌, List, [], ◌∷◌, ◌++◌, length, refl, sym, ap, ◌∙◌, arith}
use Rattle.std.proofs.lemmas.Bool.{eq-eqb}
use Rattle.sasi_types.specs.declared.partitioner.Partitioner.{Partitioner}
use Rattle.sasi_types.specs.Key.{key_eq}
use Rattle.sasi_types.specs.Token.{token_of}
use Rattle.sasi_host.specs.Names.{Bytes}
use Rattle.sasi_body.specs.Body.{body}
use Rattle.sasi_tokentree.specs.Heights.{height}
use Rattle.sasi_datawrite.specs.Format.{Content, partition_bytes}
use Rattle.sasi_dataread.specs.declared.token_keys.PlacedKey.{PlacedKey}
use Rattle.sasi_dataread.specs.Bodies.{partition_pages}
use Rattle.sasi_dataread.specs.Finds.{token_reads}
use Rattle.sasi_dataread.specs.PlacedKeys.{keys_at}
use Rattle.sasi_candidates.specs.Costs.{token_pages}
use Rattle.sasi_candidates.proofs.CostLaws.{height_five, keys_within, reads_are}
use Rattle.sasi_lookup.specs.Reads.{key_pages}
use Rattle.sasi_lookup.proofs.ContentLaws.{is_same_key}

-- the partition of a key is one of those with its token
has_token : (p : Partitioner) (token : ℕ) (key other : Bytes) → token_of p key ≡ token → key_eq key other ≡ true → nat_eq (token_of p other) token ≡ true
has_token p token key other is equal = eq-eqb (token_of p other) token (sym (ap (token_of p) (is_same_key key other equal)) ∙ is)

some_pages : (at count : ℕ) → 1 ≤ partition_pages at count
some_pages at count = omega arith

-- **Each candidate costs at most the pages of its token.**
pub key_within : (p : Partitioner) (token at : ℕ) (key : Bytes) (content : Content) → token_of p key ≡ token → key_pages key at content ≤ token_pages p token at content
key_within p token at key [] is = omega arith
key_within p token at key (one ∷ others) is = by (key_eq key one.0) (nat_eq (token_of p one.0) token) (has_token p token key one.0 is) (key_within p token next key others is)
  where
    next : ℕ
    next = at + length (partition_bytes one.0 one.1)

    pages : ℕ
    pages = partition_pages at (length (body one.0 one.1))

    by : (e t : Bool) → (e ≡ true → t ≡ true) → key_pages key next others ≤ token_pages p token next others → (if e then pages else key_pages key next others) ≤ (if t then pages else 0) + token_pages p token next others
    by true true has rest = omega arith
    by true false has rest = absurd (let no : false ≡ true = has refl in cc)
    by false true has rest = omega (arith, rest)
    by false false has rest = omega (arith, rest)

-- the partitions of the token's other keys have a page each
keys_and_one : (p : Partitioner) (token at : ℕ) (key : Bytes) (content : Content) → token_of p key ≡ token → length (keys_at p token at content) + key_pages key at content ≤ token_pages p token at content + 1
keys_and_one p token at key [] is = omega arith
keys_and_one p token at key (one ∷ others) is =
    by (key_eq key one.0) (nat_eq (token_of p one.0) token) (has_token p token key one.0 is) (keys_within p token next others) (keys_and_one p token next key others is) (some_pages at (length (body one.0 one.1)))
  where
    next : ℕ
    next = at + length (partition_bytes one.0 one.1)

    pages : ℕ
    pages = partition_pages at (length (body one.0 one.1))

    left : List PlacedKey
    left = keys_at p token next others

    by : (e t : Bool) → (e ≡ true → t ≡ true) → length left ≤ token_pages p token next others → length left + key_pages key next others ≤ token_pages p token next others + 1 → 1 ≤ pages
        → length ((if t then record { place = at; key = one.0 } ∷ [] else []) ++ left) + (if e then pages else key_pages key next others) ≤ ((if t then pages else 0) + token_pages p token next others) + 1
    by true true has few rest some = omega (arith, few)
    by true false has few rest some = absurd (let no : false ≡ true = has refl in cc)
    by false true has few rest some = omega (arith, rest, some)
    by false false has few rest some = omega (arith, rest)

-- **To open a file, to read the keys of a token in it, and one candidate,** is within what one look at the token may cost there.
pub first_look_within : (p : Partitioner) (token at : ℕ) (key : Bytes) (content : Content) (most pairs : ℕ) → token_of p key ≡ token → 16 * pairs ≤ 2 ^ 40
    → 3 + (2 * height most pairs + 2 + token_reads p token at content) + key_pages key at content ≤ 16 + 2 * token_pages p token at content
first_look_within p token at key content most pairs is short = omega (arith, height_five most pairs short, reads_are p token at content, keys_within p token at content, keys_and_one p token at key content is)
