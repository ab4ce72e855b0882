use Rattle.std.proofs.Common.{◌≡◌, ◌-◌, ◌∷◌, ◌++◌, [], true, false, List, Option, Some, None, length, option_map, take, sym, ap, subst, ◌∙◌}
use Rattle.std.specs.List.{IsDistinct}
use Rattle.std.specs.Map.{keys_of}
use Rattle.lru.specs.LruCache.{last_entry, promoted}
use Rattle.sasi_host.specs.Names.{name_eq}
use Rattle.sasi_cache.specs.declared.page_key.PageKey.{PageKey}
use Rattle.sasi_cache.specs.Pages.{Entry, Pages, key_eq}
use Rattle.sasi_cache.proofs.Forgotten.{drops_last, last_is, moves_last}
use Rattle.sasi_cache.proofs.pages.pass_last.Goals as goal

-- the key of the last one
key_is : (es front : List Entry) (last : Entry) (key : PageKey) → Some key ≡ option_map (λ (e : Entry). e.0) (last_entry es) → es ≡ front ++ last ∷ [] → key ≡ last.0
key_is es front last key found is =
    let same : Some key ≡ Some last.0 = found ∙ ap (λ (l : List Entry). option_map (λ (e : Entry). e.0) (last_entry l)) is ∙ ap (λ (o : Option Entry). option_map (λ (e : Entry). e.0) o) (last_is front last) in
    cc

none_left : (es front : List Entry) (last : Entry) → None ≡ option_map (λ (e : Entry). e.0) (last_entry es) → es ≡ front ++ last ∷ [] → ⊥
none_left es front last found is =
    let same : None ≡ Some last.0 = found ∙ ap (λ (l : List Entry). option_map (λ (e : Entry). e.0) (last_entry l)) is ∙ ap (λ (o : Option Entry). option_map (λ (e : Entry). e.0) o) (last_is front last) in
    cc

pub returns-in_default-clause-entries : goal.returns-in_default-clause-entries
returns-in_default-clause-entries c front last is = absurd (none_left _ front last c.in_default.ensures is)

pub returns-then-eq-clause-entries : goal.returns-then-eq-clause-entries
returns-then-eq-clause-entries c front last is =
    let key = key_is _ front last c.in-Some.key c.in-Some.ensures is in
    let of : name_eq last.0.file c.args.file ≡ true = ap (λ (k : PageKey). name_eq k.file c.args.file) (sym key) ∙ sym c.if-eq.ensures in
    ap (λ (p : Pages). p.entries) c.pop_lru.ensures.entries ∙ ap (λ (l : List Entry). take (length l - 1) l) is ∙ drops_last c.args.file front last of

pub returns-clause-entries : goal.returns-clause-entries
returns-clause-entries c front last is =
    let key = key_is _ front last c.in-Some.key c.in-Some.ensures is in
    let of : name_eq last.0.file c.args.file ≡ false = ap (λ (k : PageKey). name_eq k.file c.args.file) (sym key) ∙ sym c.if-eq.ensures in
    let distinct = subst (λ (l : List Entry). IsDistinct key_eq (keys_of l)) is c.len.ensures.valid.0 in
    ap (λ (p : Pages). p.entries) c.promote.ensures.entries
    ∙ ap (λ (k : PageKey). promoted (key_eq k) c.args.pages.now.entries) key
    ∙ ap (λ (l : List Entry). promoted (key_eq last.0) l) is
    ∙ moves_last c.args.file front last of distinct
