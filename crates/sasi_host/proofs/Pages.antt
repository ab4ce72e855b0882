-- Runs of a file's bytes, made of what its pages gave.
use Rattle.std.proofs.Common.{◌≡◌, ◌≢◌, ◌⊎◌, inl, inr, ⊎_elim, refl, ℕ, zero, suc, ◌+◌, ◌-◌, ◌*◌, ◌/◌, ◌%◌, ◌<◌, ◌≤◌, Option, Some, None, ◌++◌, length, take, drop, sym, ◌∙◌, ap, subst, arith, length-drop}
use Rattle.std.specs.Prelude.{Bool, true, false, min, nat_eq, if◌then◌else◌}
use Rattle.std.proofs.lemmas.List.{drop_all, take_all, take-take, drop-take, drop-drop, length-take}
use Rattle.std.proofs.lemmas.Slice.{take-put_mid}
use Rattle.std.proofs.lemmas.Bool.Decides.{eqb_tells, leb_tells, nat_tests}
use Rattle.std.proofs.Math.Seq.{take-add}
use borrow.Rule.Slice.PartMut.{put_mid}
use Rattle.sasi_host.specs.declared.name.FileName.{FileName}
use Rattle.sasi_host.specs.declared.fault.ReadFault.{ReadFault}
use Rattle.sasi_host.specs.Names.{Bytes}
use Rattle.sasi_host.specs.View.{View, IsThere, contents}
use Rattle.sasi_host.specs.Disk.{Changes, Same, Fills}
use Rattle.sasi_host.proofs.ContentLaws.{contents_same, there_where}
use Rattle.sasi_host.specs.Damages.{DamageShown, ShowsEnd}
use Rattle.sasi_host.proofs.DamageLaws.{shown_before, end_later}
use Rattle.sasi_host.specs.Buffered.{pages_of, buffered_at, reached, unbuffered_pages}
use Rattle.sasi_host.specs.Sequential.{BeginsBy}

-- what was read of a page is all that the file has there
pub page_read : (bytes old new : Bytes) (page count : ℕ) → length old ≡ 4096 → Fills bytes (page * 4096) old new count
    → take count new ≡ take 4096 (drop (4096 * page) bytes)
page_read bytes old new page count long fills =
    let there = drop (4096 * page) bytes in
    let size : length (take 4096 there) ≤ count = omega (arith, long, fills.taken, length-take 4096 there, length-drop (4096 * page) bytes) in
    fills.front ∙ ap (λ (n : ℕ). take count (drop n bytes)) (omega arith)
    ∙ sym (take-take count 4096 there (omega (arith, long, fills.taken)))
    ∙ take_all count (take 4096 there) size

-- the bytes of a run that lies on the buffered page
pub page_gives : (bytes page : Bytes) (at n : ℕ) → page ≡ take 4096 (drop (4096 * (at / 4096)) bytes) → at % 4096 + n ≤ 4096
    → take n (drop (at % 4096) page) ≡ take n (drop at bytes)
page_gives bytes page at n is le =
    let begin = at % 4096 in
    let start = 4096 * (at / 4096) in
    sym (drop-take begin n page)
    ∙ ap (λ (l : Bytes). drop begin (take (begin + n) l)) is
    ∙ ap (λ (l : Bytes). drop begin l) (take-take (begin + n) 4096 (drop start bytes) le)
    ∙ drop-take begin n (drop start bytes)
    ∙ ap (λ (l : Bytes). take n l) (drop-drop begin start bytes)
    ∙ ap (λ (k : ℕ). take n (drop k bytes)) (omega arith)

-- how long it is
pub page_long : (bytes page : Bytes) (at : ℕ) → page ≡ take 4096 (drop (4096 * (at / 4096)) bytes)
    → length page ≡ min 4096 (length bytes - 4096 * (at / 4096))
page_long bytes page at is =
    ap (λ (l : Bytes). length l) is ∙ omega (arith, length-take 4096 (drop (4096 * (at / 4096)) bytes), length-drop (4096 * (at / 4096)) bytes)

-- how long a part of a buffer is
pub part_long : (out : Bytes) (filled part : ℕ) → filled + part ≤ length out → length (take (filled + part - filled) (drop filled out)) ≡ part
part_long out filled part le = omega (arith, le, length-take (filled + part - filled) (drop filled out), length-drop filled out)

-- what a buffer has from an offset on
pub rest_of_page : (bytes : Bytes) (offset filled from : ℕ) → from ≡ min offset filled → take (filled - from) (drop from bytes) ≡ drop offset (take filled bytes)
rest_of_page bytes offset filled from is = ⊎_elim (λ yes. whole yes.1) (λ no. none no.1) (leb_tells offset filled)
  where
    whole : offset ≤ filled → take (filled - from) (drop from bytes) ≡ drop offset (take filled bytes)
    whole le =
        let at_offset : from ≡ offset = omega arith in
        let all : offset + (filled - from) ≡ filled = omega arith in
        ap (λ (n : ℕ). take (filled - from) (drop n bytes)) at_offset
        ∙ sym (drop-take offset (filled - from) bytes)
        ∙ ap (λ (n : ℕ). drop offset (take n bytes)) all

    none : filled < offset → take (filled - from) (drop from bytes) ≡ drop offset (take filled bytes)
    none lt =
        let nothing : filled - from ≡ 0 = omega arith in
        ap (λ (n : ℕ). take n (drop from bytes)) nothing ∙ sym (drop_all offset (take filled bytes) (omega (arith, length-take filled bytes)))

-- one part more
pub part_more : (bytes out part : Bytes) (at filled n k m : ℕ) → take filled out ≡ take filled (drop at bytes) → filled ≤ length out
    → part ≡ take n (drop (at + filled) bytes) → length part ≡ n → m ≡ filled + n
    → take m (put_mid filled k out part) ≡ take m (drop at bytes)
part_more bytes out part at filled n k m is le read long all =
    take-put_mid filled k out part m (omega (arith, long, all)) le
    ∙ ap (λ (l : Bytes). l ++ part) is
    ∙ ap (λ (l : Bytes). take filled (drop at bytes) ++ l) (read ∙ ap (λ (l : Bytes). take n l) (ap (λ (i : ℕ). drop i bytes) (omega arith) ∙ sym (drop-drop filled at bytes)))
    ∙ sym (take-add filled n (drop at bytes))
    ∙ ap (λ (i : ℕ). take i (drop at bytes)) (sym all)

-- ---- how many pages are read

-- at most one page of a run is buffered
buffered_at_most_one : (buffered : Option ℕ) (at : ℕ) → buffered_at buffered at ≤ 1
buffered_at_most_one None at = omega arith
buffered_at_most_one (Some page) at = case (nat_eq page (at / 4096))
  where
    case : (b : Bool) → (if b then 1 else 0) ≤ 1
    case true = omega arith
    case false = omega arith

-- and is that where it is the first
buffered_at_first : (page at : ℕ) → page ≡ at / 4096 → buffered_at (Some page) at ≡ 1
buffered_at_first page at is = grind (arith, nat_tests)

-- a part on one page and what is left behind it take no more pages than both in one
pub spend : (buffered : Option ℕ) (here part left : ℕ) → 0 < part → part ≡ min (4096 - here % 4096) left
    → unbuffered_pages buffered here part + unbuffered_pages (Some (here / 4096)) (here + part) (left - part) ≤ unbuffered_pages buffered here left
spend buffered here part left some is =
    over (buffered_at buffered here) (buffered_at (Some (here / 4096)) (here + part)) (buffered_at_most_one buffered here) (buffered_at_first (here / 4096) (here + part))
  where
    over : (h k : ℕ) → h ≤ 1 → (here / 4096 ≡ (here + part) / 4096 → k ≡ 1)
        → (pages_of here part - h) + (pages_of (here + part) (left - part) - k) ≤ pages_of here left - h
    over h k most same = grind (arith, some, is, most, same)

-- so no more are read than the whole run takes
pub spend_on : (buffered next : Option ℕ) (at filled part whole n start before after most : ℕ) → next ≡ Some ((at + filled) / 4096) → 0 < part
    → part ≡ min (4096 - (at + filled) % 4096) (whole - filled) → n ≡ part
    → before + unbuffered_pages buffered (at + filled) (whole - filled) ≤ start + most → after ≤ before + unbuffered_pages buffered (at + filled) n
    → after + unbuffered_pages next (at + (filled + part)) (whole - (filled + part)) ≤ start + most
spend_on buffered next at filled part whole n start before after most page some is long credit spent =
    let behind : unbuffered_pages next (at + (filled + part)) (whole - (filled + part)) ≡ unbuffered_pages (Some ((at + filled) / 4096)) (at + filled + part) (whole - filled - part) =
    ap (λ (p : Option ℕ). unbuffered_pages p (at + (filled + part)) (whole - (filled + part))) page
    ∙ ap (λ (i : ℕ). unbuffered_pages (Some ((at + filled) / 4096)) i (whole - (filled + part))) (omega arith)
    ∙ ap (λ (i : ℕ). unbuffered_pages (Some ((at + filled) / 4096)) (at + filled + part) i) (omega arith)
    in
    let here : unbuffered_pages buffered (at + filled) n ≡ unbuffered_pages buffered (at + filled) part = ap (λ (i : ℕ). unbuffered_pages buffered (at + filled) i) long in
    over (unbuffered_pages buffered (at + filled) part) (unbuffered_pages buffered (at + filled) n) _ _ _ (spend buffered (at + filled) part (whole - filled) some is) here behind credit spent
  where
    over : (part_cost read_cost rest_cost next_cost left_cost : ℕ) → part_cost + rest_cost ≤ left_cost → read_cost ≡ part_cost → next_cost ≡ rest_cost
        → before + left_cost ≤ start + most → after ≤ before + read_cost → after + next_cost ≤ start + most
    over part_cost read_cost rest_cost next_cost left_cost all here behind credit spent = omega arith

-- the first of them takes no more
pub spend_first : (buffered : Option ℕ) (here part left n : ℕ) → 0 < part → part ≡ min (4096 - here % 4096) left → n ≡ part
    → unbuffered_pages buffered here n ≤ unbuffered_pages buffered here left
spend_first buffered here part left n some is long =
    let all : unbuffered_pages buffered here part + unbuffered_pages (Some (here / 4096)) (here + part) (left - part) ≤ unbuffered_pages buffered here left = spend buffered here part left some is in
    let this : unbuffered_pages buffered here n ≡ unbuffered_pages buffered here part = ap (λ (i : ℕ). unbuffered_pages buffered here i) long in
    over _ _ _ _ all this
  where
    over : (part_cost read_cost rest_cost left_cost : ℕ) → part_cost + rest_cost ≤ left_cost → read_cost ≡ part_cost → read_cost ≤ left_cost
    over part_cost read_cost rest_cost left_cost all this = omega arith

-- at the start all is left
pub spend_none : (buffered : Option ℕ) (at whole : ℕ) → unbuffered_pages buffered (at + 0) (whole - 0) ≡ unbuffered_pages buffered at whole
spend_none buffered at whole = ap (λ (i : ℕ). unbuffered_pages buffered i (whole - 0)) (omega arith) ∙ ap (λ (i : ℕ). unbuffered_pages buffered at i) (omega arith)

-- ---- how far a sequential reader reads

-- a page is that of an offset, or another
at_page : (page at : ℕ) → ((page ≡ at / 4096) × (buffered_at (Some page) at ≡ 1)) ⊎ ((page ≢ at / 4096) × (buffered_at (Some page) at ≡ 0))
at_page page at =
    ⊎_elim (λ yes. inl (yes.1, ap (λ (b : Bool). if b then 1 else 0) yes.0)) (λ no. inr (no.1, ap (λ (b : Bool). if b then 1 else 0) no.0))
    (eqb_tells page (at / 4096))

-- behind its buffered page it reads no more pages than those that it comes to
pub fresh_reaches : (buffered : Option ℕ) (at n : ℕ) → 0 < n → BeginsBy buffered at → unbuffered_pages buffered at n + reached buffered ≤ (at + n - 1) / 4096 + 1
fresh_reaches None at n some begins = omega arith
fresh_reaches (Some page) at n some begins =
    let before = begins page refl in
    ⊎_elim (λ yes. omega (arith, before, yes.0, yes.1)) (λ no. omega (arith, before, no.0, no.1)) (at_page page at)

-- and with a part on one page that one alone
pub part_reaches : (buffered : Option ℕ) (here part left n before after : ℕ) → 0 < part → part ≡ min (4096 - here % 4096) left → n ≡ part
    → BeginsBy buffered here → after ≤ before + unbuffered_pages buffered here n → after + reached buffered ≤ before + (here / 4096 + 1)
part_reaches buffered here part left n before after some is long begins spent =
    over (unbuffered_pages buffered here n) (reached buffered) (fresh_reaches buffered here n (omega arith) begins) spent
  where
    over : (cost back : ℕ) → cost + back ≤ (here + n - 1) / 4096 + 1 → after ≤ before + cost → after + back ≤ before + (here / 4096 + 1)
    over cost back fresh all = omega arith

-- what was read so far ends within the file, where it begins there
pub ends_within : (bytes : Bytes) (at filled : ℕ) → at ≤ length bytes → (0 < filled → at + filled ≤ length bytes) → at + filled ≤ length bytes
ends_within bytes at zero le within = omega arith
ends_within bytes at (suc filled) le within = within (omega arith)

-- so the page that is read next begins there
pub no_further_here : (bytes : Bytes) (at filled start before after first now : ℕ) → at ≤ length bytes → (0 < filled → at + filled ≤ length bytes)
    → before + first ≤ start + now → after + now ≤ before + ((at + filled) / 4096 + 1) → after + first ≤ start + (length bytes / 4096 + 1)
no_further_here bytes at filled start before after first now le within once more = let ends = ends_within bytes at filled le within in omega (arith, ends)

-- ---- one read after another

-- a file reads as before after a change that leaves the folder as it is
pub reads_on : (a b : View) (was now : FileName) (bytes : Bytes) → Changes Same a b → now ≡ was → contents a was ≡ Some bytes
    → contents b now ≡ Some bytes
reads_on a b was now bytes change same is = contents_same a b now change ∙ ap (λ (f : FileName). contents a f) same ∙ is

-- and is there as before
pub there_on : (a b : View) (was now : FileName) → Changes Same a b → now ≡ was → IsThere a was → IsThere b now
there_on a b was now change same there =
    there_where a b Same now change (contents_same a b now change) (subst (λ (f : FileName). IsThere a f) (sym same) there)

-- what a file shows at its end it showed before
pub end_before : (a b : View) (was now : FileName) (near far : ℕ) (f : ReadFault) → Changes Same a b → now ≡ was → near ≤ far
    → DamageShown b now (ShowsEnd near now) f → DamageShown a was (ShowsEnd far was) f
end_before a b was now near far f change same le shown =
    subst (λ (name : FileName). DamageShown a name (ShowsEnd far name) f) same (end_later a now near far f le (shown_before (ShowsEnd near now) a b now f change shown))
