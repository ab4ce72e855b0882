use Rattle.std.proofs.Common.{◌≡◌, ◌*◌, Option, inl, inr, ⊎_elim, sym, ap, subst, ◌∙◌}
use Rattle.sasi_host.specs.Disk.{Fills}
use Rattle.sasi_host.specs.Names.{Bytes, Folder}
use Rattle.sasi_host.proofs.ChangeLaws.{stays}
use Rattle.sasi_cache.specs.Pages.{ArePages, Covers, Pages, kept, page_key, recalled}
use Rattle.sasi_cache.proofs.Kept.{found_missing, found_page, hit_fills, kept_covers, kept_pages, missed, page_after, pages_after, recalled_covers, recalled_pages}
use Rattle.sasi_cache.proofs.cached.CachedPageReader.page.Goals as goal

-- the pages of equal caches
same_pages : (files : Option Folder) (a b : Pages) → a ≡ b → ArePages files b.entries → ArePages files a.entries
same_pages files a b same are = subst (λ (p : Pages). ArePages files p.entries) (sym same) are

-- ---- a cached page

pub returns-in-Some-clause-ok : goal.returns-in-Some-clause-ok
returns-in-Some-clause-ok g c bytes is =
    let some = c.in-Some.ensures.some in
    let was = found_page _ c.self.inside.pages (page_key c.args.file c.args.page) some.bytes some.was (same_pages _ _ _ c.self.view_is c.requires.agrees) bytes is in
    hit_fills bytes c.args.out.now c.recall.new.out c.args.page c.in-Some.count some.bytes c.told-out was some.count some.front some.rest

pub returns-in-Some-clause-agrees : goal.returns-in-Some-clause-agrees
returns-in-Some-clause-agrees g c = recalled_pages _ _ _ (page_key c.args.file c.args.page) c.in-Some.ensures.some.used (same_pages _ _ _ c.self.view_is c.requires.agrees)

pub returns-in-Some-clause-covers : goal.returns-in-Some-clause-covers
returns-in-Some-clause-covers g c name covers =
    inl (subst (λ (p : Pages). Covers p.entries name) c.self.view_is (recalled_covers name _ _ (page_key c.args.file c.args.page) c.in-Some.ensures.some.used covers))

pub returns-in-Some-clause-changes : goal.returns-in-Some-clause-changes
returns-in-Some-clause-changes g c = stays (g.H.Host.view c.args.host.now)

pub returns-in-Some-clause-moments : goal.returns-in-Some-clause-moments
returns-in-Some-clause-moments g c t folder out le left = left

pub returns-in-Some-clause-used : goal.returns-in-Some-clause-used
returns-in-Some-clause-used g c some = c.in-Some.ensures.some.used ∙ ap (λ (p : Pages). recalled (page_key c.args.file c.args.page) p) c.self.view_is

pub returns-in-Some-clause-kept : goal.returns-in-Some-clause-kept
returns-in-Some-clause-kept g c none = absurd (found_missing (page_key c.args.file c.args.page) c.in-Some.ensures.some.bytes _ _ c.self.view_is c.in-Some.ensures.some.was none)

-- ---- a page that was read

pub returns-in-Ok-clause-ok : goal.returns-in-Ok-clause-ok
returns-in-Ok-clause-ok g c bytes is = subst (λ (o : Bytes). Fills bytes (c.args.page * 4096) o c.read.new.buf c.in-Ok.count) c.in_default.ensures.untouched (c.in-Ok.ensures.ok bytes is)

pub returns-in-Ok-clause-agrees : goal.returns-in-Ok-clause-agrees
returns-in-Ok-clause-agrees g c =
    let v = g.H.Host.view c.args.host.now in
    let w = g.H.Host.view c.read.new.self in
    kept_pages w.files _ _ (page_key c.args.file c.args.page) c.new.result c.keep.ensures
    (page_after v w c.read.ensures.changes c.args.file c.args.page c.in-Ok.count c.args.out.now c.read.new.buf c.new.result c.told-out c.new.ensures
    (λ bytes is. subst (λ (o : Bytes). Fills bytes (c.args.page * 4096) o c.read.new.buf c.in-Ok.count) c.in_default.ensures.untouched (c.in-Ok.ensures.ok bytes is)))
    (pages_after v w c.read.ensures.changes _ (same_pages _ _ _ (c.in_default.ensures.unused ∙ c.self.view_is) c.requires.agrees))

pub returns-in-Ok-clause-covers : goal.returns-in-Ok-clause-covers
returns-in-Ok-clause-covers g c name covers =
    ⊎_elim
    (λ before. inl (subst (λ (p : Pages). Covers p.entries name) (c.in_default.ensures.unused ∙ c.self.view_is) before))
    (λ this. inr this)
    (kept_covers name _ _ (page_key c.args.file c.args.page) c.new.result c.keep.ensures covers)

pub returns-in-Ok-clause-free : goal.returns-in-Ok-clause-free
returns-in-Ok-clause-free g c some = absurd (missed (page_key c.args.file c.args.page) _ _ c.self.view_is c.in_default.ensures.none some)

pub returns-in-Ok-clause-used : goal.returns-in-Ok-clause-used
returns-in-Ok-clause-used g c some = absurd (missed (page_key c.args.file c.args.page) _ _ c.self.view_is c.in_default.ensures.none some)

pub returns-in-Ok-clause-kept : goal.returns-in-Ok-clause-kept
returns-in-Ok-clause-kept g c none =
    let unused = c.in_default.ensures.unused ∙ c.self.view_is in
    ⊎_elim (λ put. inr (c.new.result, put ∙ ap (λ (p : Pages). kept (page_key c.args.file c.args.page) c.new.result p) unused)) (λ same. inl (same ∙ unused)) c.keep.ensures

-- ---- a read that failed

pub returns-in-Err-clause-agrees : goal.returns-in-Err-clause-agrees
returns-in-Err-clause-agrees g c = pages_after _ _ c.read.ensures.changes _ (same_pages _ _ _ (c.in_default.ensures.unused ∙ c.self.view_is) c.requires.agrees)

pub returns-in-Err-clause-covers : goal.returns-in-Err-clause-covers
returns-in-Err-clause-covers g c name covers = inl (subst (λ (p : Pages). Covers p.entries name) (c.in_default.ensures.unused ∙ c.self.view_is) covers)

pub returns-in-Err-clause-free : goal.returns-in-Err-clause-free
returns-in-Err-clause-free g c some = absurd (missed (page_key c.args.file c.args.page) _ _ c.self.view_is c.in_default.ensures.none some)

pub returns-in-Err-clause-used : goal.returns-in-Err-clause-used
returns-in-Err-clause-used g c some = absurd (missed (page_key c.args.file c.args.page) _ _ c.self.view_is c.in_default.ensures.none some)

pub returns-in-Err-clause-failed : goal.returns-in-Err-clause-failed
returns-in-Err-clause-failed g c = c.in_default.ensures.unused ∙ c.self.view_is
