-- For callers: what it costs to read the keys of a token in a file is within what one look at the token may cost there; and the whole cost grows
-- with LIMIT.
use Rattle.std.proofs.Common.{◌≡◌, ℕ, zero, suc, ◌+◌, ◌*◌, ◌^◌, ◌≤◌, nat_eq, Bool, true, false, if◌then◌else◌, List, [], ◌∷◌, ◌++◌, length, None, Some, refl, arith, ⊎_elim}
use Rattle.std.proofs.lemmas.Bool.Decides.{leb_tells}
use Rattle.sasi_types.specs.declared.partitioner.Partitioner.{Partitioner}
use Rattle.sasi_types.specs.Token.{token_of}
use Rattle.sasi_model.specs.Conditions.{Condition}
use Rattle.sasi_model.specs.Filters.{answers, where_of}
use Rattle.sasi_body.specs.Body.{body}
use Rattle.sasi_tokentree.specs.Format.{nodes}
use Rattle.sasi_tokentree.specs.Heights.{height}
use Rattle.sasi_tokentree.proofs.HeightLaws.{more_high, one_high}
use Rattle.sasi_datawrite.specs.Format.{Content, partition_bytes}
use Rattle.sasi_dataread.specs.declared.token_keys.PlacedKey.{PlacedKey}
use Rattle.sasi_dataread.specs.Bodies.{partition_pages}
use Rattle.sasi_dataread.specs.Finds.{token_reads}
use Rattle.sasi_dataread.specs.PlacedKeys.{keys_at}
use Rattle.sasi_candidates.specs.Costs.{cost, token_cost, token_pages}
use Rattle.sasi_candidates.specs.Groups.{groups}
use Rattle.sasi_candidates.specs.Parts.{Part}
use Rattle.sasi_candidates.proofs.GroupLaws.{looks_more, looks_most}

-- ---- the height of a key tree

-- the powers of 255
abbrev pub most_pairs : ℕ → ℕ
most_pairs zero = 1
most_pairs (suc levels) = 255 * most_pairs levels

few_nodes : (pairs p : ℕ) → pairs ≤ 255 * p → nodes pairs ≤ p
few_nodes pairs p le = omega (arith, le)

height_within : (levels most pairs : ℕ) → pairs ≤ most_pairs (suc levels) → height most pairs ≤ suc levels
unfolding height
height_within levels zero pairs le = omega arith
height_within zero (suc most) pairs le = omega (arith, le, one_high most pairs (omega (arith, le)))
height_within (suc levels) (suc most) pairs le = ⊎_elim
    (λ few. omega (arith, one_high most pairs few.1))
    (λ many. omega (arith, more_high most pairs many.1, height_within levels most (nodes pairs) (few_nodes pairs (most_pairs (suc levels)) le)))
    (leb_tells pairs 255)

-- In a file below 2^40 bytes the key tree has at most 5 levels, since a pair has 16 bytes.
pub height_five : (most pairs : ℕ) → 16 * pairs ≤ 2 ^ 40 → height most pairs ≤ 5
height_five most pairs short = height_within 4 most pairs (omega (arith, short))

-- ---- the partitions with a token

-- each is on one page at least
some_pages : (at count : ℕ) → 1 ≤ partition_pages at count
some_pages at count = omega arith

pub keys_within : (p : Partitioner) (token at : ℕ) (content : Content) → length (keys_at p token at content) ≤ token_pages p token at content
keys_within p token at [] = omega arith
keys_within p token at (one ∷ others) = by (nat_eq (token_of p one.0) token) (keys_within p token (at + length (partition_bytes one.0 one.1)) others)
  where
    left : List PlacedKey
    left = keys_at p token (at + length (partition_bytes one.0 one.1)) others

    by : (t : Bool) → length left ≤ token_pages p token (at + length (partition_bytes one.0 one.1)) others
        → length ((if t then record { place = at; key = one.0 } ∷ [] else []) ++ left) ≤ (if t then partition_pages at (length (body one.0 one.1)) else 0) + token_pages p token (at + length (partition_bytes one.0 one.1)) others
    by true later = omega (arith, later, some_pages at (length (body one.0 one.1)))
    by false later = omega (arith, later)

-- reading them costs their pages, and one for the pair behind each
pub reads_are : (p : Partitioner) (token at : ℕ) (content : Content) → token_reads p token at content ≡ token_pages p token at content + length (keys_at p token at content)
reads_are p token at [] = refl
reads_are p token at (one ∷ others) = by (nat_eq (token_of p one.0) token) (reads_are p token (at + length (partition_bytes one.0 one.1)) others)
  where
    next : ℕ
    next = at + length (partition_bytes one.0 one.1)

    by : (t : Bool) → token_reads p token next others ≡ token_pages p token next others + length (keys_at p token next others)
        → (if t then partition_pages at (length (body one.0 one.1)) + 1 else 0) + token_reads p token next others
        ≡ ((if t then partition_pages at (length (body one.0 one.1)) else 0) + token_pages p token next others) + length ((if t then record { place = at; key = one.0 } ∷ [] else []) ++ keys_at p token next others)
    by true later = omega (arith, later)
    by false later = omega (arith, later)

-- **To open a file and to read the keys of a token in it** is within what one look at the token may cost there, also where it has none.
pub look_within : (p : Partitioner) (token at : ℕ) (content : Content) (most pairs : ℕ) → 16 * pairs ≤ 2 ^ 40 → 3 + (2 * height most pairs + 2 + token_reads p token at content) ≤ 16 + 2 * token_pages p token at content
look_within p token at content most pairs short = omega (arith, height_five most pairs short, reads_are p token at content, keys_within p token at content)

-- ---- all of it

-- **The cost of a SELECT grows with LIMIT, and is most where there is none.**
pub cost_more : (p : Partitioner) (parts : List Part) (conditions : List Condition) (m n : ℕ) → m ≤ n → cost p parts conditions (Some m) ≤ cost p parts conditions (Some n)
cost_more p parts conditions m n le = omega (arith, looks_more (token_cost p parts) (answers (where_of conditions)) m n (groups p parts conditions) le)

pub cost_most : (p : Partitioner) (parts : List Part) (conditions : List Condition) (n : ℕ) → cost p parts conditions (Some n) ≤ cost p parts conditions None
cost_most p parts conditions n = omega (arith, looks_most (token_cost p parts) (answers (where_of conditions)) n (groups p parts conditions))
