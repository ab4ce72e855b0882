-- What is cached after pages came and went.
use Rattle.std.proofs.Common.{◌≡◌, ◌⊎◌, ◌-◌, ◌*◌, ◌≤◌, min, ℕ, nat_eq, Bool, true, false, ◌&&◌, List, Contains, IsSome, Option, None, Some, is_some, refl, length, take, drop, sym, ap, subst, ◌∙◌, inl, inr, ⊎_elim, arith, length-drop}
use Rattle.std.proofs.lemmas.List.{take_all, take-take, length-take}
use Rattle.std.proofs.lemmas.Bool.Decides.{nat_tests}
use Rattle.lru.proofs.CallerLemmas.{Contains-promoted, Contains-put_entries, Contains-lookup}
use Rattle.sasi_host.specs.declared.name.FileName.{FileName}
use Rattle.sasi_host.specs.Names.{Bytes, Folder, name_eq, rank}
use Rattle.sasi_host.specs.NameLaws.{name_numbers, named, named_back}
use Rattle.sasi_host.specs.View.{View, contents_in}
use Rattle.sasi_host.specs.Disk.{Changes, Fills, Same}
use Rattle.sasi_host.proofs.ContentLaws.{contents_same}
use Rattle.sasi_host.proofs.Pages.{page_read}
use Rattle.sasi_cache.specs.declared.page_key.PageKey.{PageKey}
use Rattle.sasi_cache.specs.Pages.{ArePages, Covers, Entry, IsPage, Pages, cached, kept, key_eq, page_key, recalled}

-- names that the test finds equal are one
same_file : (a b : FileName) → name_eq a b ≡ true → a ≡ b
same_file a b same = sym (named_back a) ∙ numbers ∙ named_back b
  where
    rank_is : rank a.kind ≡ rank b.kind
    rank_is = grind (arith, nat_tests)

    number_is : a.number ≡ b.number
    number_is = grind (arith, nat_tests)

    index_is : a.index ≡ b.index
    index_is = grind (arith, nat_tests)

    part_is : a.part ≡ b.part
    part_is = grind (arith, nat_tests)

    numbers : named (name_numbers a) ≡ named (name_numbers b)
    numbers = λ i. named (rank_is i, (number_is i, (index_is i, part_is i)))

both : (b c : Bool) → (b && c) ≡ true → (b ≡ true) × (c ≡ true)
both true c e = (refl, e)
both false c e = cc

same_number : (m n : ℕ) → nat_eq m n ≡ true → n ≡ m
same_number m n same = grind (arith, nat_tests)

-- and so are keys
same_key : (a b : PageKey) → key_eq a b ≡ true → b ≡ a
same_key a b same =
    let parts = both (name_eq a.file b.file) (nat_eq a.page b.page) same in
    let file : b.file ≡ a.file = sym (same_file a.file b.file parts.0) in
    let page : b.page ≡ a.page = same_number a.page b.page parts.1 in
    λ i. page_key (file i) (page i)

-- ---- fewer pages

fewer_pages : (files : Option Folder) (es fs : List Entry) → ((e : Entry) → Contains fs e → Contains es e) → ArePages files es → ArePages files fs
fewer_pages files es fs fewer are e has = are e (fewer e has)

fewer_covered : (es fs : List Entry) (name : FileName) → ((e : Entry) → Contains fs e → Contains es e) → Covers fs name → Covers es name
fewer_covered es fs name fewer has = (has.0, fewer has.0 has.1, has.2)

-- ---- a page that is used again

-- the pages are those that were cached
among : (old new : Pages) (key : PageKey) → new ≡ recalled key old → (e : Entry) → Contains new.entries e → Contains old.entries e
among old new key is e has = Contains-promoted (key_eq key) old.entries e (subst (λ (p : Pages). Contains p.entries e) is has)

pub recalled_pages : (files : Option Folder) (old new : Pages) (key : PageKey) → new ≡ recalled key old → ArePages files old.entries → ArePages files new.entries
recalled_pages files old new key is = fewer_pages files old.entries new.entries (among old new key is)

pub recalled_covers : (name : FileName) (old new : Pages) (key : PageKey) → new ≡ recalled key old → Covers new.entries name → Covers old.entries name
recalled_covers name old new key is = fewer_covered old.entries new.entries name (among old new key is)

-- what was found is the page
pub found_page : (files : Option Folder) (old : Pages) (key : PageKey) (bytes : Bytes) → cached key old ≡ Some bytes → ArePages files old.entries → IsPage files (key, bytes)
found_page files old key bytes is are =
    let there = Contains-lookup (key_eq key) old.entries bytes is in
    subst (λ (k : PageKey). IsPage files (k, bytes)) (same_key key there.0 there.2) (are (there.0, bytes) there.1)

none_is_some : (o : Option Bytes) → o ≡ None → IsSome o → ⊥
none_is_some None is some = cc
none_is_some (Some bytes) is some = cc

-- a page isn't cached and found missing
pub missed : (key : PageKey) (a b : Pages) → a ≡ b → cached key a ≡ None → IsSome (cached key b) → ⊥
missed key a b same none some = none_is_some (cached key a) none (subst (λ (p : Pages). IsSome (cached key p)) (sym same) some)

pub found_missing : (key : PageKey) (bytes : Bytes) (a b : Pages) → a ≡ b → cached key a ≡ Some bytes → cached key b ≡ None → ⊥
found_missing key bytes a b same found none = none_is_some (cached key b) none (subst (λ (p : Pages). IsSome (cached key p)) same (ap (λ (o : Option Bytes). is_some o) found))

-- and fills the buffer as the file does
pub hit_fills : (file old new : Bytes) (page count : ℕ) (bytes : Bytes) → length old ≡ 4096 → bytes ≡ take 4096 (drop (4096 * page) file) → count ≡ length bytes
    → take count new ≡ bytes → drop count new ≡ drop count old → Fills file (page * 4096) old new count
hit_fills file old new page count bytes long is is_count front rest =
    let there = drop (4096 * page) file in
    let size : length bytes ≡ min 4096 (length file - 4096 * page) = ap (λ (l : Bytes). length l) is ∙ omega (arith, length-take 4096 there, length-drop (4096 * page) file) in
    let few : count ≤ 4096 = omega (arith, is_count, size) in
    let whole : take count bytes ≡ bytes = take_all count bytes (omega (arith, is_count)) in
    record {
      taken = omega (arith, long, is_count, size);
      front = front ∙ sym whole ∙ ap (λ (l : Bytes). take count l) is ∙ take-take count 4096 there few ∙ ap (λ (k : ℕ). take count (drop k file)) (omega arith);
      rest = rest;
    }

-- ---- a page that is kept

put_is : (old new : Pages) (key : PageKey) (bytes : Bytes) → (new ≡ kept key bytes old) ⊎ (new ≡ old) → (e : Entry) → Contains new.entries e → Contains old.entries e ⊎ (e ≡ (key, bytes))
put_is old new key bytes is e has = ⊎_elim put same is
  where
    pair : e.0 ≡ key → e.1 ≡ bytes → e ≡ (key, bytes)
    pair first second = λ i. (first i, second i)

    put : new ≡ kept key bytes old → Contains old.entries e ⊎ (e ≡ (key, bytes))
    put now = ⊎_elim
        (λ before. inl before)
        (λ here. inr (⊎_elim (λ at. pair at here.0) (λ equal. pair (same_key key e.0 equal.2) here.0) here.1))
        (Contains-put_entries key_eq old key bytes e (subst (λ (p : Pages). Contains p.entries e) now has))

    same : new ≡ old → Contains old.entries e ⊎ (e ≡ (key, bytes))
    same now = inl (subst (λ (p : Pages). Contains p.entries e) now has)

pub kept_pages : (files : Option Folder) (old new : Pages) (key : PageKey) (bytes : Bytes) → (new ≡ kept key bytes old) ⊎ (new ≡ old) → IsPage files (key, bytes) → ArePages files old.entries → ArePages files new.entries
kept_pages files old new key bytes is one are e has = ⊎_elim (are e) (λ put. subst (IsPage files) (sym put) one) (put_is old new key bytes is e has)

pub kept_covers : (name : FileName) (old new : Pages) (key : PageKey) (bytes : Bytes) → (new ≡ kept key bytes old) ⊎ (new ≡ old) → Covers new.entries name → Covers old.entries name ⊎ (name ≡ key.file)
kept_covers name old new key bytes is covers =
    ⊎_elim (λ before. inl (covers.0, before, covers.2)) (λ put. inr (sym covers.2 ∙ ap (λ (e : Entry). e.0.file) put)) (put_is old new key bytes is covers.0 covers.1)

-- ---- a page that is read

-- cached pages stay those of the files where the folder stays as it is
pub pages_after : (a b : View) → Changes Same a b → (es : List Entry) → ArePages a.files es → ArePages b.files es
pages_after a b change es are e has bytes is = are e has bytes (sym (contents_same a b e.0.file change) ∙ is)

-- and what was read is the page
pub page_after : (a b : View) → Changes Same a b → (file : FileName) (page count : ℕ) (old new bytes : Bytes) → length old ≡ 4096 → bytes ≡ take count new
    → ((whole : Bytes) → contents_in a.files file ≡ Some whole → Fills whole (page * 4096) old new count) → IsPage b.files (page_key file page, bytes)
page_after a b change file page count old new bytes long is fills whole reads =
    is ∙ page_read whole old new page count long (fills whole (sym (contents_same a b file change) ∙ reads))
