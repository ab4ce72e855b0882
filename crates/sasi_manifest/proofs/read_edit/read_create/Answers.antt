use Rattle.std.proofs.Common.{◌≡◌, ℕ, ◌+◌, List, length, map, min, take, refl, sym, ap, subst, ◌∙◌}
use Rattle.std.proofs.lemmas.Result.{err_from_is_err_and}
use Rattle.std.specs.Int.{w32}
use Rattle.sasi_fields.specs.Reading.{Reading}
use Rattle.sasi_host.specs.declared.damage.FormatRule.TheVariants as rule
use Rattle.sasi_formats.specs.Codings.{renamed}
use Rattle.sasi_formats.specs.Fields.{◌&◌, in_range}
use Rattle.sasi_formats.specs.Formats.{Format}
use Rattle.sasi_formats.specs.Gives.{FailsWith}
use Rattle.sasi_formats.specs.Reader.{Got, Outcome, ◌>>=◌, outcome_as, read, tried}
use Rattle.sasi_formats.specs.declared.fault.FormatFault.{FormatFault}
use Rattle.sasi_formats.specs.declared.fault.FormatFault.TheVariants as fault
use Rattle.sasi_manifest.specs.Edits.{TableFields, create, create_fields, create_of, name, new_table, shape}
use Rattle.sasi_manifest.specs.ListedDefinition.{ListedDefinition}
use Rattle.sasi_manifest.proofs.read_edit.read_create.Goals as goal

-- ---- two formats, one behind the other

handed : {A B : Type 0} (o : Outcome A) (next : A → Reading → Outcome B) (f : FormatFault) → FailsWith o f → FailsWith (o >>= next) f
handed o next fault.OutOfMemory fails = tt
handed o next fault.Short fails = ap (λ x. x >>= next) fails
handed o next fault.Long fails = ap (λ x. x >>= next) fails
handed o next (fault.Broken broken) fails = ap (λ x. x >>= next) fails

handed_as : {A B : Type 0} (o : Outcome A) (as_whole : A → B) (f : FormatFault) → FailsWith o f → FailsWith (outcome_as as_whole o) f
handed_as o as_whole fault.OutOfMemory fails = tt
handed_as o as_whole fault.Short fails = ap (outcome_as as_whole) fails
handed_as o as_whole fault.Long fails = ap (outcome_as as_whole) fails
handed_as o as_whole (fault.Broken broken) fails = ap (outcome_as as_whole) fails

module _ {A B : Type 0} (first : Format A) (next : Format B) (s : Reading) where
  abbrev behind : A → Reading → Outcome (A × B)
  behind a t = outcome_as (λ b. (a, b)) (read next t)

  fails_first : (f : FormatFault) → FailsWith (read first s) f → FailsWith (read (first & next) s) f
  fails_first f fails = handed (read first s) behind f fails

  fails_next : (a : A) (t : Reading) (f : FormatFault) → read first s ≡ Got a t → FailsWith (read next t) f → FailsWith (read (first & next) s) f
  fails_next a t f got fails = subst (λ (o : Outcome A). FailsWith (o >>= behind) f) (sym got) (handed_as (read next t) (λ b. (a, b)) f fails)

  gives_both : (a : A) (b : B) (t u : Reading) → read first s ≡ Got a t → read next t ≡ Got b u → read (first & next) s ≡ Got (a, b) u
  gives_both a b t u got more = ap (λ o. o >>= behind) got ∙ ap (outcome_as (λ b. (a, b))) more

-- the same of the fields of a table
fails_whole : (tables : List ListedDefinition) (last : ℕ) (s : Reading) (f : FormatFault) → FailsWith (read (new_table tables last) s) f → FailsWith (read (create tables last) s) f
fails_whole tables last s f fails = handed (read (new_table tables last) s) _ f fails

gives_whole : (tables : List ListedDefinition) (last : ℕ) (s : Reading) (fields : TableFields) (t : Reading) → read (new_table tables last) s ≡ Got fields t → read (create tables last) s ≡ Got (create_of fields) t
gives_whole tables last s fields t got = ap (λ o. o >>= λ a behind. tried ((renamed create_of create_fields (λ _. refl)).decode a) rule.Number (length s.done) (take 0 s.left) behind) got

-- the number that comes next
next_number : (P : ℕ → ℕ → Type 0) (n m l : ℕ) → n ≡ l → m ≡ min (n + 1) 256 → P (n + 1) m → P (l + 1) (min (l + 1) 256)
next_number P n m l same most holds = subst (λ (k : ℕ). P (k + 1) (min (k + 1) 256)) same (subst (λ (k : ℕ). P (n + 1) k) most holds)

abbrev number_in : List ListedDefinition → Format ℕ
number_in tables = in_range w32 (length tables + 1) (min (length tables + 1) 256)

abbrev name_in : List ListedDefinition → Format (List ℕ)
name_in tables = name (map (λ t. t.definition.name) tables)

pub returns-in_err-number : goal.returns-in_err-number
returns-in_err-number c =
    let s = c.args.reader.now in
    let f = c.in_err-number.field-0.0 in
    let tables = c.args.listing.now.tables in
    let last = c.args.listing.now.last in
    let p = err_from_is_err_and c.from_residual.result c.from_residual.ensures.1 in
    rw (p.1, p.2) (fails_whole tables last s f (fails_first (number_in tables) (name_in tables & shape last) s f
    (next_number (λ (a b : ℕ). FailsWith (read (in_range w32 a b) s) f) c.len.result c.min.result (length tables) c.len.ensures.count c.min.ensures c.in_err-number.ensures)))

pub returns-in_err-name : goal.returns-in_err-name
returns-in_err-name c =
    let s = c.args.reader.now in
    let t = c.read_u32_in_range.new.reader in
    let f = c.in_err-name.field-0.0 in
    let tables = c.args.listing.now.tables in
    let last = c.args.listing.now.last in
    let p = err_from_is_err_and c.from_residual-in_err-name.result c.from_residual-in_err-name.ensures.1 in
    rw (p.1, p.2) (fails_whole tables last s f (fails_next (number_in tables) (name_in tables & shape last) s c.in_ok-number.number t f
    (next_number (λ (a b : ℕ). read (in_range w32 a b) s ≡ Got c.in_ok-number.number t) c.len.result c.min.result (length tables) c.len.ensures.count c.min.ensures c.in_ok-number.ensures)
    (fails_first (name_in tables) (shape last) t f c.in_err-name.ensures)))

pub returns-in_err-columns : goal.returns-in_err-columns
returns-in_err-columns c =
    let s = c.args.reader.now in
    let t = c.read_u32_in_range.new.reader in
    let f = c.in_err-columns.field-0.0 in
    let tables = c.args.listing.now.tables in
    let last = c.args.listing.now.last in
    let p = err_from_is_err_and c.from_residual-in_err-columns.result c.from_residual-in_err-columns.ensures.1 in
    rw (p.1, p.2) (fails_whole tables last s f (fails_next (number_in tables) (name_in tables & shape last) s c.in_ok-number.number t f
    (next_number (λ (a b : ℕ). read (in_range w32 a b) s ≡ Got c.in_ok-number.number t) c.len.result c.min.result (length tables) c.len.ensures.count c.min.ensures c.in_ok-number.ensures)
    (fails_next (name_in tables) (shape last) t c.in_ok-name.name c.read_table_name.new.reader f c.in_ok-name.ensures c.in_err-columns.ensures)))

pub returns : goal.returns
returns c =
    let s = c.args.reader.now in
    let t = c.read_u32_in_range.new.reader in
    let u = c.read_table_name.new.reader in
    let v = c.read_shape.new.reader in
    let tables = c.args.listing.now.tables in
    let last = c.args.listing.now.last in
    gives_whole tables last s _ v (gives_both (number_in tables) (name_in tables & shape last) s c.in_ok-number.number _ t v
    (next_number (λ (a b : ℕ). read (in_range w32 a b) s ≡ Got c.in_ok-number.number t) c.len.result c.min.result (length tables) c.len.ensures.count c.min.ensures c.in_ok-number.ensures)
    (gives_both (name_in tables) (shape last) t c.in_ok-name.name _ u v c.in_ok-name.ensures c.in_ok-columns.ensures))
