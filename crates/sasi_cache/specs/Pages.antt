-- Cached pages, and the files that they are of.
use Rattle.std.specs.Prelude.{◌≡◌, ◌⊎◌, ℕ, ◌*◌, Bool, not, List, filter, length, Contains, Option, Some, take, drop, nat_eq, refl}
use Rattle.std.specs.Ordering.{on, eq_of_both}
use Rattle.std.specs.Cmp.{IsEquivalence, and_equiv, nat_eq_equiv}
use Rattle.std.specs.Cmp.Rules.{comparing}
use Rattle.std.specs.Map.{lookup}
use Rattle.std.proofs.Common.{sym, ◌∙◌, rules}
use Rattle.lru.specs.LruCache.{LruCache, lru_cache, promoted, put_entries}
use Rattle.sasi_host.specs.declared.name.FileName.{FileName}
use Rattle.sasi_host.specs.Names.{Bytes, Folder, name_eq}
use Rattle.sasi_host.specs.View.{contents_in}
use Rattle.sasi_cache.specs.declared.page_key.PageKey.{PageKey}

-- a page of a file
abbrev pub page_key : FileName → ℕ → PageKey
page_key file page = record { file = file; page = page }

-- the same page of the same file
abbrev pub key_eq : PageKey → PageKey → Bool
key_eq = eq_of_both (on (λ k. k.file) name_eq) (on (λ k. k.page) nat_eq)

-- it is an equivalence, as that of names is
pub names_equal : IsEquivalence name_eq
names_equal = search (comparing, rules)

files_equal : IsEquivalence (on (λ (k : PageKey). k.file) name_eq)
files_equal = record { refl = λ k. names_equal.refl k.file; symm = λ j k. names_equal.symm j.file k.file; congr = λ i j k. names_equal.congr i.file j.file k.file }

numbers_equal : IsEquivalence (on (λ (k : PageKey). k.page) nat_eq)
numbers_equal = record { refl = λ k. nat_eq_equiv.refl k.page; symm = λ j k. nat_eq_equiv.symm j.page k.page; congr = λ i j k. nat_eq_equiv.congr i.page j.page k.page }

pub keys_equal : IsEquivalence key_eq
keys_equal = and_equiv files_equal numbers_equal

-- a page and its bytes
abbrev pub Entry : Type 0
Entry = PageKey × Bytes

-- the cached pages, the one used last in front, and how many there may be
abbrev pub Pages : Type 0
Pages = LruCache PageKey Bytes

-- ---- which pages are cached

-- the bytes of a page, if it is cached
abbrev pub cached : PageKey → Pages → Option Bytes
cached key pages = lookup (key_eq key) pages.entries

-- a page of this file is cached
abbrev pub Covers : List Entry → FileName → Type 0
Covers es name = (e : Entry) × Contains es e × (e.0.file ≡ name)

-- the pages that aren't of this file
abbrev pub without : FileName → List Entry → List Entry
without file es = filter (λ e. not (name_eq e.0.file file)) es

-- ---- what using a page makes of the cache

-- the page, if it is cached, is the one used last
abbrev pub recalled : PageKey → Pages → Pages
recalled key pages = lru_cache (promoted (key_eq key) pages.entries) pages.cap

-- the page is kept as the one used last; where there is no room, the one used longest ago goes
abbrev pub kept : PageKey → Bytes → Pages → Pages
kept key bytes pages = lru_cache (put_entries key_eq pages key bytes) pages.cap

-- A page that was read is kept, if there is memory for it.
abbrev pub Keeps : PageKey → Pages → Pages → Type 0
Keeps key old new = (new ≡ old) ⊎ ((bytes : Bytes) × (new ≡ kept key bytes old))

-- The page is cached and used: its bytes fill the front of the buffer.
pub record IsRecalled (key : PageKey) (old new : Pages) (before after : Bytes) (n : ℕ) : Type 0 where
  pub bytes : Bytes
  pub was : cached key old ≡ Some bytes
  pub count : n ≡ length bytes
  pub front : take n after ≡ bytes
  pub rest : drop n after ≡ drop n before
  pub used : new ≡ recalled key old

-- ---- what the files have on them

-- the file, where it is told, has these bytes on that page
abbrev pub IsPage : Option Folder → Entry → Type 0
IsPage files e = (bytes : Bytes) → contents_in files e.0.file ≡ Some bytes → e.1 ≡ take 4096 (drop (4096 * e.0.page) bytes)

-- each of the pages is that of the files
abbrev pub ArePages : Option Folder → List Entry → Type 0
ArePages files es = (e : Entry) → Contains es e → IsPage files e

-- they stay so as long as the files that they are of read as before
pub pages_still : (es : List Entry) (old new : Option Folder) → ArePages old es → ((name : FileName) → Covers es name → contents_in new name ≡ contents_in old name) → ArePages new es
pages_still es old new are same e has bytes is = are e has bytes (sym (same e.0.file (e, has, refl)) ∙ is)
