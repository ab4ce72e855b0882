-- What the parts of a read at a gate cost together.
use Rattle.std.proofs.Common.{◌≡◌, ◌⊎◌, ⊎_elim, None, ℕ, suc, ◌+◌, ◌-◌, ◌/◌, ◌<◌, ◌≤◌, Option, Some, subst, ap, refl, arith}
use Rattle.sasi_host.specs.declared.name.FileName.{FileName}
use Rattle.std.proofs.lemmas.Bool.Decides.{eqb_tells}
use Rattle.sasi_host.specs.View.{View, counted}
use Rattle.sasi_host.specs.Disk.{Changes, Same}
use Rattle.sasi_host.proofs.ContentLaws.{contents_same}
use Rattle.sasi_host.specs.Buffered.{reached, unbuffered_pages}
use Rattle.sasi_host.proofs.Pages.{fresh_reaches}
use Rattle.sasi_host.specs.Sequential.{BeginsBy, ReachesTo, ReadsEachOnce}
use Rattle.sasi_host.proofs.SequentialLaws.{begins_known, page_within, once_on}

-- a part on one page that ends at this offset
pub part_once : (a b : View) (file : FileName) (before after : Option ℕ) (at end : ℕ) → after ≡ Some (at / 4096) → at ≤ end
    → ReachesTo a file end → b.reads + reached before ≤ a.reads + (at / 4096 + 1) → ReadsEachOnce a b file before after end
part_once a b file before after at end page le within pages =
    let begins = begins_known after (at / 4096) end page (omega (arith, le)) in
    record {
      sequential = begins;
      pages = omega (arith, ap reached page, pages);
      within = within;
      page = λ bytes is. page_within after end bytes begins (within bytes is);
    }

-- a reader that stays at the gate
pub stays_once : (a b : View) (file : FileName) (before after : Option ℕ) (near far : ℕ) → near ≤ far → BeginsBy after near
    → ReadsEachOnce a b file before after far → ReadsEachOnce a b file before after near
stays_once a b file before after near far le begins once = record {
  sequential = begins;
  pages = once.pages;
  within = λ bytes is. omega (arith, le, once.within bytes is);
  page = once.page;
}

-- some bytes read at once
pub into_once : (a b : View) (file : FileName) (before after : Option ℕ) (at n : ℕ) → 0 < n → after ≡ Some ((at + n - 1) / 4096)
    → ReachesTo a file (at + n) → BeginsBy before at → b.reads ≤ a.reads + unbuffered_pages before at n → ReadsEachOnce a b file before after (at + n)
into_once a b file before after at n some page within begins spent =
    let now : reached after ≡ suc ((at + n - 1) / 4096) = ap reached page in
    let sequential = begins_known after ((at + n - 1) / 4096) (at + n) page (omega arith) in
    record {
      sequential = sequential;
      pages = over (unbuffered_pages before at n) (reached before) (reached after) (fresh_reaches before at n some begins) now spent;
      within = within;
      page = λ bytes is. page_within after (at + n) bytes sequential (within bytes is);
    }
  where
    over : (cost back here : ℕ) → cost + back ≤ (at + n - 1) / 4096 + 1 → here ≡ suc ((at + n - 1) / 4096) → b.reads ≤ a.reads + cost
        → b.reads + back ≤ a.reads + here
    over cost back here fresh now all = omega arith

-- the same up to an offset that is spelled otherwise
pub once_to : (a b : View) (file : FileName) (before after : Option ℕ) (end other : ℕ) → end ≡ other → ReadsEachOnce a b file before after end
    → ReadsEachOnce a b file before after other
once_to a b file before after end other same once = subst (λ (n : ℕ). ReadsEachOnce a b file before after n) same once

-- a page that was loaded
pub load_pages : (before : Option ℕ) (at reads after : ℕ) → BeginsBy before at → (after ≡ reads) ⊎ (after ≡ counted reads)
    → (before ≡ Some (at / 4096) → after ≡ reads) → after + reached before ≤ reads + (at / 4096 + 1)
load_pages None at reads after begins once same_page = ⊎_elim (λ none. omega (arith, none)) (λ one. omega (arith, one)) once
load_pages (Some page) at reads after begins once same_page =
    let before = begins page refl in
    ⊎_elim (λ here. omega (arith, here.1, same_page (ap (λ (n : ℕ). Some n) here.1)))
    (λ other. ⊎_elim (λ none. omega (arith, before, none)) (λ one. omega (arith, before, other.1, one)) once) (eqb_tells page (at / 4096))

-- the header was read
pub header_once : (a b : View) (file : FileName) (after : Option ℕ) → after ≡ Some 0 → ReachesTo a file 16 → b.reads ≤ a.reads + 1 → ReadsEachOnce a b file None after 16
header_once a b file after page within pages = part_once a b file None after 0 16 page (omega arith) within (omega (arith, pages))

-- the gate and the length behind it
pub head_once : (a b c : View) (file named : FileName) (first second third : Option ℕ) (at : ℕ) → named ≡ file → Changes Same a b
    → ReadsEachOnce a b file first second (at + 1) → ReadsEachOnce b c named second third (at + 1 + 4) → ReadsEachOnce a c file first third (at + 5)
head_once a b c file named first second third at name same one two =
    once_to a c file first third (at + 1 + 4) (at + 5) (omega arith)
    (once_on a b c file named first second third (at + 1) (at + 1 + 4) name (contents_same a b file same) one two)
