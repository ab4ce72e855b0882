use Rattle.std.proofs.Common.{◌≡◌, true, [], ◌∷◌, length, refl, sym, ap, ◌∙◌, arith, rules}
use Rattle.std.specs.Prelude.{◌==◌}
use Rattle.sasi_host.specs.Names.{Bytes}
use Rattle.sasi_fields.specs.Reading.{Reading}
use Rattle.sasi_formats.specs.Reader.{closed, ended, read}
use Rattle.sasi_commitlog.specs.Format.{mutation_of}
use Rattle.sasi_commitlog.proofs.payload.read_all.Goals as goal

empty : (l : Bytes) → (length l == 0) ≡ true → l ≡ []
empty [] h = refl
empty (b ∷ l) h = let none : length (b ∷ l) ≡ 0 = search (rules, h) in absurd (omega (arith, none))

pub returns : goal.returns
returns c =
    let t = c.read_fields.new.reader in
    let none : t.left ≡ [] = sym c.left.ensures ∙ empty c.left.result.now (sym c.is_empty.ensures ∙ c.if-not-is_empty.false) in
    (t, ap (λ (s : Reading). ended (read (mutation_of c.args.tables.now) s)) (sym c.new-reader.ensures) ∙ ap (λ r. ended r) c.in_ok-fields.ensures ∙ ap (λ (l : Bytes). closed c.in_ok-fields.fields t l) none)
