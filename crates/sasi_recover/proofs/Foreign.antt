-- The first name that isn't one of those that the making of a store begins with.
use Rattle.std.proofs.Common.{◌≡◌, ◌≢◌, ℕ, ◌+◌, ◌<◌, ◌≤◌, true, false, List, [], ◌∷◌, ◌++◌, length, take, drop, get_or, All, Contains, Option, None, IsSome, is_some, refl, sym, ◌∙◌, ap, append_assoc, subst, arith}
use Rattle.std.proofs.lemmas.List.{take_all, take_more, take-append-drop}
use Rattle.std.proofs.lemmas.List.Elements.{All-contains, All-more, All-same, Contains-append_right, recursion_from_All}
use Rattle.std.specs.FinMap.{get}
use Rattle.sasi_host.specs.declared.damage.Damage.{Damage}
use Rattle.sasi_host.specs.declared.damage.FormatRule.TheVariants.{NoSeal}
use Rattle.sasi_host.specs.declared.name.FileName.{FileName}
use Rattle.sasi_host.specs.Damages.{seen_bytes}
use Rattle.sasi_host.specs.Names.{Bytes, Folder, log_name, manifest_name}
use Rattle.sasi_host.specs.View.{View, contents_in}
use Rattle.sasi_host.specs.Disk.{Lists}
use Rattle.sasi_recover.specs.NewFolder.{ReportsForeign, NoFalseFreshDamage, is_initial}

around : (names : List FileName) (i : ℕ) (d : FileName) → i < length names → names ≡ take i names ++ get_or names i d ∷ drop (i + 1) names
around names i d within =
    sym (take-append-drop (i + 1) names) ∙ ap (λ t. t ++ drop (i + 1) names) (take_more names i d within)
    ∙ append_assoc (take i names) (get_or names i d ∷ []) (drop (i + 1) names)

pub foreign_at : (names : List FileName) (i : ℕ) (d : FileName) (damage : Damage) → i < length names
    → All (λ name. is_initial name ≡ true) (take i names) → is_initial (get_or names i d) ≡ false
    → damage.file ≡ get_or names i d → damage.rule ≡ NoSeal → damage.at ≡ 0 → seen_bytes damage.seen ≡ [] → ReportsForeign names damage
foreign_at names i d damage within firsts other file rule offset_is seen = record {
  before = take i names;
  behind = drop (i + 1) names;
  is = around names i d within ∙ ap (λ (n : FileName). take i names ++ n ∷ drop (i + 1) names) (sym file);
  firsts = recursion_from_All (λ name. is_initial name ≡ true) (take i names) firsts;
  other = ap is_initial file ∙ other;
  rule = rule;
  offset_is = offset_is;
  seen = seen;
}

pub firsts_more : (names : List FileName) (i : ℕ) (d : FileName) → i < length names → All (λ name. is_initial name ≡ true) (take i names)
    → is_initial (get_or names i d) ≡ true → All (λ name. is_initial name ≡ true) (take (i + 1) names)
firsts_more names i d within done one = All-more (λ name. is_initial name ≡ true) names i d within done one

pub firsts_all : (names : List FileName) (i : ℕ) → length names ≤ i → All (λ name. is_initial name ≡ true) (take i names)
    → All (λ name. is_initial name ≡ true) names
firsts_all names i end done = All-same (λ name. is_initial name ≡ true) names (take i names) (sym (take_all i names end)) done

both_ways : true ≡ false → ⊥
both_ways e = cc

pub apart : (name first : FileName) → is_initial first ≡ true → is_initial name ≡ false → name ≢ first
apart name first is other same = both_ways (sym is ∙ ap is_initial (sym same) ∙ other)

pub foreign_listed : (names : List FileName) (damage : Damage) → ReportsForeign names damage → Contains names damage.file
foreign_listed names damage foreign = subst (λ (l : List FileName). Contains l damage.file) (sym foreign.is)
    (Contains-append_right foreign.before (damage.file ∷ foreign.behind) damage.file (0, omega arith, refl))

-- none of the names is such a one, where all are those that the making of a store begins with
pub not_foreign : (names : List FileName) (name : FileName) → All (λ name. is_initial name ≡ true) names → Contains names name → is_initial name ≡ false → ⊥
not_foreign names name firsts has other = both_ways (sym (All-contains (λ n. is_initial n ≡ true) names name firsts has) ∙ other)

-- **A folder in which such a name is there isn't new.**
pub foreign_no_false_damage : (v : View) (names : List FileName) (damage : Damage) → Lists v names → ReportsForeign names damage → NoFalseFreshDamage v
foreign_no_false_damage v names damage lists foreign folder files fresh =
    let there : IsSome (get folder damage.file) = subst (λ (o : Option Folder). IsSome (contents_in o damage.file)) files
    ((lists (ap (λ (o : Option Folder). is_some o) files) damage.file).0 (foreign_listed names damage foreign)) in
    let none : get folder damage.file ≡ None = fresh damage.file (apart damage.file (manifest_name 1) refl foreign.other)
    (apart damage.file (log_name 1) refl foreign.other) in
    both_ways (sym there ∙ ap (λ (o : Option Bytes). is_some o) none)
