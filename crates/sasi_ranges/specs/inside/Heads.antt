-- Streams, each with its first entry once that was read.
use Rattle.std.specs.Prelude.{◌≡◌, ℕ, zero, suc, max, min, if◌then◌else◌, List, [], ◌∷◌, map, Option, None, Some}
use Rattle.std.specs.List.{AllByRecursion}
use Rattle.std.specs.Ordering.{is_eq, is_lt}
use Rattle.sasi_host.specs.Names.{Folder}
use Rattle.sasi_host.specs.declared.name.FileName.{FileName}
use Rattle.sasi_host.specs.declared.damage.Damage.{Damage}
use Rattle.sasi_ranges.specs.declared.entry.Entry.{Entry}
use Rattle.sasi_ranges.specs.declared.head.Head.{Head}
use Rattle.sasi_ranges.specs.declared.head.Head.TheVariants.{Unread, At, Ended}
use Rattle.sasi_ranges.specs.declared.head.Headed.{Headed}
use Rattle.sasi_ranges.specs.Entries.{entry_cmp}
use Rattle.sasi_ranges.specs.EachStream.{EachIsReady, EachPays, SomeOpens, SomeShows}

-- a stream of which nothing was read
abbrev pub unread : {S : Type 0} → S → Headed S
unread s = record { head = Unread; stream = s }

abbrev pub streams_of : {S : Type 0} → List (Headed S) → List S
streams_of hs = map (λ (h : Headed _). h.stream) hs

-- ---- what is left

module _ {S : Type 0} (leaves : S → Option Folder → List Entry → Type 0) (files : Option Folder) where
  abbrev pub AtHead : Head → S → List Entry → Type 0
  AtHead Unread s es = leaves s files es
  AtHead (At e) s es = (rest : List Entry) × (es ≡ e ∷ rest) × leaves s files rest
  AtHead Ended s es = es ≡ []

  -- this list, with the first entry where that was read
  abbrev pub HeadLeaves : Headed S → List Entry → Type 0
  HeadLeaves h es = AtHead h.head h.stream es

  -- each the list of its position
  abbrev pub AllLeave : List (Headed S) → List (List Entry) → Type 0
  AllLeave [] [] = Unit {0}
  AllLeave [] (l ∷ ls) = ⊥
  AllLeave (h ∷ hs) [] = ⊥
  AllLeave (h ∷ hs) (l ∷ ls) = HeadLeaves h l × AllLeave hs ls

-- the first entry was read
abbrev pub IsRead : Head → Type 0
IsRead Unread = ⊥
IsRead (At e) = Unit {0}
IsRead Ended = Unit {0}

abbrev pub AreRead : {S : Type 0} → List (Headed S) → Type 0
AreRead hs = AllByRecursion (λ (h : Headed _). IsRead h.head) hs

-- ---- what is told of the streams

abbrev pub HeadsPay : {S : Type 0} → (S → Option Folder → ℕ → Type 0) → Option Folder → List (Headed S) → ℕ → Type 0
HeadsPay pays files hs most = EachPays pays files (streams_of hs) most

abbrev pub HeadsReady : {S : Type 0} → (S → Option Folder → Type 0) → Option Folder → List (Headed S) → Type 0
HeadsReady ready files hs = EachIsReady ready files (streams_of hs)

abbrev pub HeadsOpen : {S : Type 0} → (S → FileName → Type 0) → List (Headed S) → FileName → Type 0
HeadsOpen opens hs name = SomeOpens opens (streams_of hs) name

abbrev pub HeadsShow : {S : Type 0} → (S → Option Folder → Damage → Type 0) → Option Folder → List (Headed S) → Damage → Type 0
HeadsShow shows files hs damage = SomeShows shows files (streams_of hs) damage

-- the head of what a stream gives
abbrev pub head_of_found : Option Entry → Head
head_of_found None = Ended
head_of_found (Some e) = At e

-- ---- the least first entry

-- the lesser of the least one so far and a first entry
abbrev pub lesser : Option Entry → Head → Option Entry
lesser least Unread = least
lesser least Ended = least
lesser None (At e) = Some e
lesser (Some least) (At e) = if is_lt (entry_cmp e least) then Some e else Some least

-- the least of one so far and the first entries
abbrev pub least_from : {S : Type 0} → Option Entry → List (Headed S) → Option Entry
least_from least [] = least
least_from least (h ∷ hs) = least_from (lesser least h.head) hs

-- the head without its entry, if it is this one
abbrev pub head_without : Entry → Head → Head
head_without e Unread = Unread
head_without e Ended = Ended
head_without e (At x) = if is_eq (entry_cmp x e) then Unread else At x

abbrev pub dropped : {S : Type 0} → Entry → Headed S → Headed S
dropped e h = record { head = head_without e h.head; stream = h.stream }

-- ---- tokens of first entries

-- the head at a position; one at its end past the last
abbrev pub head_at : {S : Type 0} → List (Headed S) → ℕ → Head
head_at [] at = Ended
head_at (h ∷ hs) zero = h.head
head_at (h ∷ hs) (suc at) = head_at hs at

-- the lesser of a token so far and that of a first entry
abbrev pub lesser_token : Option ℕ → Head → Option ℕ
lesser_token low Unread = low
lesser_token low Ended = low
lesser_token None (At e) = Some e.token
lesser_token (Some so_far) (At e) = Some (min so_far e.token)

-- the least of a token so far and those of the first entries at these positions
abbrev pub low_at : {S : Type 0} → List (Headed S) → Option ℕ → List ℕ → Option ℕ
low_at hs low [] = low
low_at hs low (at ∷ ats) = low_at hs (lesser_token low (head_at hs at)) ats

-- the greater of a token so far and another, if there is one
abbrev pub greater_token : ℕ → Option ℕ → Option ℕ
greater_token so_far None = None
greater_token so_far (Some token) = Some (max so_far token)

-- the greatest of a token so far and the least tokens of the relations, where each has one
abbrev pub greatest_low : {S : Type 0} → List (Headed S) → Option ℕ → List (List ℕ) → Option ℕ
greatest_low hs None relations = None
greatest_low hs (Some so_far) [] = Some so_far
greatest_low hs (Some so_far) (positions ∷ relations) = greatest_low hs (greater_token so_far (low_at hs None positions)) relations
