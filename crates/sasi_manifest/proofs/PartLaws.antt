-- Parts of indexes have bytes in a file's list of them exactly where they fit it.
use Rattle.std.proofs.Common.{◌≡◌, ◌<◌, ◌-◌, ◌^◌, ℕ, true, List, [], ◌∷◌, ◌++◌, length, map, Option, None, Some, refl, sym, ap, ◌∙◌, subst, arith, rules}
use Rattle.std.specs.Int.{w16, w32}
use Rattle.std.specs.Prelude.{◌||◌, nat_eq, nat_lt}
use Rattle.std.proofs.lemmas.List.Folds.{list_any-append}
use Rattle.std.specs.List.{AllByRecursion, list_any}
use Rattle.std.specs.Option.{option_map_or}
use Rattle.sasi_host.specs.declared.damage.FormatRule.TheVariants as rule
use Rattle.sasi_formats.specs.Formats.{Fits, fit_items}
use Rattle.sasi_formats.specs.Fields.{last, number}
use Rattle.sasi_formats.proofs.Fitting.{number_fits, fits_number, checked_fits, fits_checked, range_fits, fits_range}
use Rattle.sasi_formats.proofs.Putting.{last_push}
use Rattle.sasi_manifest.specs.declared.files.PartNumber.{PartNumber}
use Rattle.sasi_manifest.specs.Edits.{index_part, is_above, part, parts}
use Rattle.sasi_manifest.specs.ListedFiles.{FitParts, IndexesRise, IsPart, NumbersRise, is_among}

-- ---- a part

part_fits : (numbers : List ℕ) (before : List PartNumber) (p : PartNumber) → IsPart numbers p → is_above before p.index ≡ true → Fits (part numbers before) p
part_fits numbers before p is above =
    let index = checked_fits rule.Number 4 (is_among numbers) (number w32) p.index (number_fits w32 p.index is.index_fits) is.listed in
    let own = range_fits w32 1 (2 ^ 32 - 1) p.part is.part_fits is.some (omega (arith, is.part_fits)) in
    checked_fits rule.Order 8 (λ (q : PartNumber). is_above before q.index) (index_part numbers) p ((index, own), refl) above

fits_part : (numbers : List ℕ) (before : List PartNumber) (p : PartNumber) → Fits (part numbers before) p → IsPart numbers p × (is_above before p.index ≡ true)
fits_part numbers before p h =
    let ordered = fits_checked rule.Order 8 (λ (q : PartNumber). is_above before q.index) (index_part numbers) p h in
    let index = fits_checked rule.Number 4 (is_among numbers) (number w32) p.index ordered.0.0.0 in
    let own = fits_range w32 1 (2 ^ 32 - 1) p.part ordered.0.0.1 in
    (record { listed = index.1; index_fits = fits_number w32 p.index index.0; some = own.above; part_fits = own.fits }, ordered.1)

-- ---- parts, one after another

-- they rise behind the last one before them
abbrev RiseBehind : Option PartNumber → List PartNumber → Type 0
RiseBehind None ps = IndexesRise ps
RiseBehind (Some p) ps = NumbersRise p.index (map (λ (q : PartNumber). q.index) ps)

first_above : (o : Option PartNumber) (p : PartNumber) (ps : List PartNumber) → RiseBehind o (p ∷ ps) → option_map_or (λ (q : PartNumber). nat_lt q.index p.index) o true ≡ true
first_above None p ps rise = refl
first_above (Some q) p ps rise = search (rules, rise.0)

rest_rises : (o : Option PartNumber) (p : PartNumber) (ps : List PartNumber) → RiseBehind o (p ∷ ps) → RiseBehind (Some p) ps
rest_rises None p ps rise = rise
rest_rises (Some q) p ps rise = rise.1

rises_on : (o : Option PartNumber) (p : PartNumber) (ps : List PartNumber) → option_map_or (λ (q : PartNumber). nat_lt q.index p.index) o true ≡ true → RiseBehind (Some p) ps → RiseBehind o (p ∷ ps)
rises_on None p ps above rise = rise
rises_on (Some q) p ps above rise = (let less : q.index < p.index = search (rules, above) in (less, rise))

items_fit : (numbers : List ℕ) (before ps : List PartNumber) → AllByRecursion (IsPart numbers) ps → RiseBehind (last before) ps → fit_items (λ before. Fits (part numbers before)) before ps
items_fit numbers before [] each rise = tt
items_fit numbers before (p ∷ ps) each rise = (
  part_fits numbers before p each.0 (first_above (last before) p ps rise),
  items_fit numbers (before ++ p ∷ []) ps each.1 (subst (λ (o : Option PartNumber). RiseBehind o ps) (sym (last_push before p)) (rest_rises (last before) p ps rise)),
)

fit_each : (numbers : List ℕ) (before ps : List PartNumber) → fit_items (λ before. Fits (part numbers before)) before ps → AllByRecursion (IsPart numbers) ps × RiseBehind (last before) ps
fit_each numbers before [] h = (tt, none (last before))
  where
    none : (o : Option PartNumber) → RiseBehind o []
    none None = tt
    none (Some p) = tt
fit_each numbers before (p ∷ ps) h =
    let one = fits_part numbers before p h.0 in
    let more = fit_each numbers (before ++ p ∷ []) ps h.1 in
    ((one.0, more.0), rises_on (last before) p ps one.1 (subst (λ (o : Option PartNumber). RiseBehind o ps) (last_push before p) more.1))

-- **Parts that fit a file of the table have bytes there.**
pub parts_fit : (numbers : List ℕ) (ps : List PartNumber) → FitParts numbers ps → Fits (parts numbers) ps
parts_fit numbers ps fit = (number_fits w16 (length ps) fit.few, items_fit numbers [] ps fit.each fit.rise)

pub fits_parts : (numbers : List ℕ) (ps : List PartNumber) → Fits (parts numbers) ps → FitParts numbers ps
fits_parts numbers ps h =
    let items = fit_each numbers [] ps h.1 in
    record { few = fits_number w16 (length ps) h.0; each = items.0; rise = items.1 }

-- a file needs no parts
pub no_parts : (numbers : List ℕ) → FitParts numbers []
no_parts numbers = record { few = omega arith; each = tt; rise = tt }

-- ---- one more index

one_more : (numbers : List ℕ) (number : ℕ) (p : PartNumber) → IsPart numbers p → IsPart (numbers ++ number ∷ []) p
one_more numbers number p is = record {
  listed = list_any-append (nat_eq p.index) numbers (number ∷ []) ∙ ap (λ b. b || list_any (nat_eq p.index) (number ∷ [])) is.listed;
  index_fits = is.index_fits;
  some = is.some;
  part_fits = is.part_fits;
}

all_more : (numbers : List ℕ) (number : ℕ) (ps : List PartNumber) → AllByRecursion (IsPart numbers) ps → AllByRecursion (IsPart (numbers ++ number ∷ [])) ps
all_more numbers number [] each = tt
all_more numbers number (p ∷ ps) each = (one_more numbers number p each.0, all_more numbers number ps each.1)

-- parts that fit still fit when the table has one index more
pub parts_stay : (numbers : List ℕ) (number : ℕ) (ps : List PartNumber) → FitParts numbers ps → FitParts (numbers ++ number ∷ []) ps
parts_stay numbers number ps fit = record { few = fit.few; each = all_more numbers number ps fit.each; rise = fit.rise }
