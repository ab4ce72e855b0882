use Rattle.std.proofs.Common.{◌≡◌, true, false, [], ◌∷◌, length, refl, sym, ap, ◌∙◌, arith, rules}
use Rattle.std.specs.Prelude.{◌==◌}
use Rattle.sasi_host.specs.Names.{Bytes}
use Rattle.sasi_fields.specs.Reading.{Reading}
use Rattle.sasi_formats.specs.Reader.{Failed, Long, closed, ended, read}
use Rattle.sasi_body.specs.Body.{body_of}
use Rattle.sasi_body.proofs.whole.read_all.Goals as goal

empty : (l : Bytes) → (length l == 0) ≡ true → l ≡ []
empty [] h = refl
empty (b ∷ l) h = let none : length (b ∷ l) ≡ 0 = search (rules, h) in absurd (omega (arith, none))

pub returns : goal.returns
returns c =
    let t = c.read_content.new.reader in
    let none : t.left ≡ [] = sym c.left.ensures ∙ empty c.left.result.now (sym c.is_empty.ensures ∙ c.if-not-is_empty.false) in
    (t, ap (λ (s : Reading). ended (read (body_of c.args.types.now) s)) (sym c.new-reader.ensures) ∙ ap (λ r. ended r) c.in_ok-content.ensures ∙ ap (λ (l : Bytes). closed c.in_ok-content.content t l) none)

full : {A : Type 0} (value : A) (t : Reading) (l : Bytes) → (length l == 0) ≡ false → closed value t l ≡ Failed Long
full value t [] h = absurd cc
full value t (b ∷ l) h = refl

pub returns-then-not-is_empty : goal.returns-then-not-is_empty
returns-then-not-is_empty c =
    let t = c.read_content.new.reader in
    let some : (length c.left.result.now == 0) ≡ false = sym c.is_empty.ensures ∙ c.if-not-is_empty.true in
    ap (λ (s : Reading). ended (read (body_of c.args.types.now) s)) (sym c.new-reader.ensures) ∙ ap (λ r. ended r) c.in_ok-content.ensures
    ∙ ap (λ (l : Bytes). closed c.in_ok-content.content t l) (sym c.left.ensures) ∙ full c.in_ok-content.content t c.left.result.now some
