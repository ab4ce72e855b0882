-- A header and a footer are read by no more reads than the file has pages.
use Rattle.std.proofs.Common.{◌≡◌, ℕ, ◌+◌, ◌-◌, ◌/◌, ◌<◌, ◌≤◌, Bool, Option, None, Some, ap, arith, subst, ⊎_elim}
use Rattle.std.specs.Prelude.{if◌then◌else◌, min}
use Rattle.std.proofs.lemmas.Bool.Decides.{eqb_tells, leb_tells}
use Rattle.sasi_host.specs.Buffered.{buffered_at, pages_of, unbuffered_pages}

-- a header is at the start of the file's first page
pub header_within : (head size start now : ℕ) → head ≤ 4096 → head ≤ size → now ≤ start + unbuffered_pages None 0 head → now ≤ start + min 3 (pages_of 0 size)
header_within head size start now small within spent = omega (arith, small, within, spent)

-- bytes of one page's length lie on two pages at most
on_two_pages : (buffered : Option ℕ) (at n : ℕ) → n ≤ 4096 → unbuffered_pages buffered at n ≤ 2
on_two_pages buffered at n small = omega (arith, small)

-- with the first page buffered, the last bytes of a file take its other pages at most
behind_first : (page at n size : ℕ) → page ≡ 0 → at + n ≡ size → 0 < size → 1 + unbuffered_pages (Some page) at n ≤ pages_of 0 size
behind_first page at n size first is some = ⊎_elim
    (λ yes. (let here : buffered_at (Some page) at ≡ 1 = ap (λ (b : Bool). if b then 1 else 0) yes.0 in omega (arith, first, is, some, yes.1, here)))
    (λ no. (let other : buffered_at (Some page) at ≡ 0 = ap (λ (b : Bool). if b then 1 else 0) no.0 in omega (arith, first, is, some, no.1, other)))
    (eqb_tells page (at / 4096))

-- so a header and then a footer take at most the pages of the file
pub both_within : (buffered : Option ℕ) (head foot size start mid now : ℕ) → head ≤ 4096 → foot ≤ 4096 → head ≤ size → foot ≤ size → (0 < head → buffered ≡ Some ((0 + head - 1) / 4096))
    → mid ≤ start + unbuffered_pages None 0 head → now ≤ mid + unbuffered_pages buffered (size - foot) foot → now ≤ start + min 3 (pages_of 0 size)
both_within buffered head foot size start mid now small short within ends page first second =
    ⊎_elim (λ none. without none.1) (λ some. after some.1) (leb_tells head 0)
  where
    without : head ≤ 0 → now ≤ start + min 3 (pages_of 0 size)
    without none = omega (arith, none, short, ends, first, second)

    over : (cost : ℕ) → now ≤ mid + cost → cost ≤ 2 → 1 + cost ≤ pages_of 0 size → now ≤ start + min 3 (pages_of 0 size)
    over cost spent few all = omega (arith, small, first, spent, few, all)

    after : 0 < head → now ≤ start + min 3 (pages_of 0 size)
    after some =
        let last : ℕ = (0 + head - 1) / 4096 in
        let same : unbuffered_pages buffered (size - foot) foot ≡ unbuffered_pages (Some last) (size - foot) foot = ap (λ (b : Option ℕ). unbuffered_pages b (size - foot) foot) (page some) in
        over (unbuffered_pages (Some last) (size - foot) foot) (subst (λ (n : ℕ). now ≤ mid + n) same second) (on_two_pages (Some last) (size - foot) foot short)
        (behind_first last (size - foot) foot size (omega (arith, small)) (omega (arith, ends)) (omega (arith, some, within)))
