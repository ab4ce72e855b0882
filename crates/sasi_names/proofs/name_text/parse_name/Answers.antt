use Rattle.std.proofs.Common.{◌≡◌, ◌<◌, ℕ, Some, None, List, ◌∷◌, ◌++◌, inl, inr, sym, subst, ap, ◌∙◌, lit<}
use Rattle.std.proofs.lemmas.Str.Pattern.{split_parts}
use Rattle.std.specs.Fmt.{decimal}
use Rattle.sasi_host.specs.CallLaws.{some_same}
use Rattle.sasi_host.specs.declared.name.Kind.{Kind}
use Rattle.sasi_host.specs.declared.name.FileName.{FileName}
use Rattle.sasi_names.specs.NameText.{word_of, HasNumbers, name_text}
use Rattle.sasi_names.proofs.Dashes.{IsThree, text_is, two_numbers, three_numbers, behind_three, behind_one, number_split, word_read, three_read, three_some, one_some, same_name}
use Rattle.sasi_names.proofs.name_text.parse_name.Goals as goal

three_shown : (name : FileName) (text word numbers number parts index part : List ℕ) → IsThree name.kind
    → text ≡ word ++ (45 ∷ numbers) → numbers ≡ number ++ (45 ∷ parts) → parts ≡ index ++ (45 ∷ part)
    → word ≡ word_of name.kind → number ≡ decimal name.number → index ≡ decimal name.index → part ≡ decimal name.part → text ≡ name_text name
three_shown name text word numbers number parts index part is a b c w n i p =
    let whole : text ≡ word_of name.kind ++ (45 ∷ three_numbers name) = cc in
    whole ∙ sym (text_is name ∙ ap (λ l. word_of name.kind ++ (45 ∷ l)) (behind_three name.kind name is))

pub returns-in_ok-number_of-in-Index-3-clause-spelled : goal.returns-in_ok-number_of-in-Index-3-clause-spelled
returns-in_ok-number_of-in-Index-3-clause-spelled c =
    let word = split_parts 45 _ (Some (c.in_ok-word.word, c.in_ok-word.numbers)) c.in_ok-word.ensures.cases (lit< tt) in
    let number = split_parts 45 _ (Some (c.in_ok-number-in-Index.number, c.in_ok-number-in-Index.parts)) c.in_ok-number-in-Index.ensures.cases (lit< tt) in
    let index = split_parts 45 _ (Some (c.in_ok-index-in-Index.index, c.in_ok-index-in-Index.part)) c.in_ok-index-in-Index.ensures.cases (lit< tt) in
    three_shown _ _ _ _ _ _ _ _ c.in-Index.is word.0 number.0 index.0 (c.in_ok-kind.ensures.spelled) (c.in_ok-number_of-in-Index.ensures.spelled.1)
    (c.in_ok-number_of-in-Index-2.ensures.spelled.1) (c.in_ok-number_of-in-Index-3.ensures.spelled.1)

three_from_one : (name : FileName) (kind : Kind) → IsThree kind → 0 < name.number → 0 < name.index → 0 < name.part → HasNumbers kind name
three_from_one name kind (inl e) n i p = subst (λ k. HasNumbers k name) (sym e) (n, i, p)
three_from_one name kind (inr e) n i p = subst (λ k. HasNumbers k name) (sym e) (n, i, p)

pub returns-in_ok-number_of-in-Index-3-clause-numbers : goal.returns-in_ok-number_of-in-Index-3-clause-numbers
returns-in_ok-number_of-in-Index-3-clause-numbers c =
    three_from_one _ _ c.in-Index.is c.in_ok-number_of-in-Index.ensures.spelled.0 c.in_ok-number_of-in-Index-2.ensures.spelled.0 c.in_ok-number_of-in-Index-3.ensures.spelled.0

pub returns-in_err-number-in-Index-clause-complete : goal.returns-in_err-number-in-Index-clause-complete
returns-in_err-number-in-Index-clause-complete c = λ name has fits is.
    let at = word_read name _ c.in_ok-word.word c.in_ok-word.numbers _ is c.in_ok-word.ensures.cases (c.in_ok-kind.ensures.complete) in
    absurd (number_split name.number _ (two_numbers name) None fits.0 (at.1 ∙ behind_three _ name c.in-Index.is) c.in_err-number-in-Index.ensures.cases)

pub returns-in_err-index-in-Index-clause-complete : goal.returns-in_err-index-in-Index-clause-complete
returns-in_err-index-in-Index-clause-complete c = λ name has fits is.
    let at = word_read name _ c.in_ok-word.word c.in_ok-word.numbers _ is c.in_ok-word.ensures.cases (c.in_ok-kind.ensures.complete) in
    let front = number_split name.number _ (two_numbers name) (Some (c.in_ok-number-in-Index.number, c.in_ok-number-in-Index.parts)) fits.0
    (at.1 ∙ behind_three _ name c.in-Index.is) c.in_ok-number-in-Index.ensures.cases in
    absurd (number_split name.index _ (decimal name.part) None fits.1 front.1 c.in_err-index-in-Index.ensures.cases)

pub returns-in_err-number_of-in-Index-clause-complete : goal.returns-in_err-number_of-in-Index-clause-complete
returns-in_err-number_of-in-Index-clause-complete c = λ name has fits is.
    let at = word_read name _ c.in_ok-word.word c.in_ok-word.numbers _ is c.in_ok-word.ensures.cases (c.in_ok-kind.ensures.complete) in
    let parts = three_read name _ c.in_ok-word.numbers c.in_ok-number-in-Index.number c.in_ok-number-in-Index.parts c.in_ok-index-in-Index.index
    c.in_ok-index-in-Index.part fits c.in-Index.is at.1 c.in_ok-number-in-Index.ensures.cases c.in_ok-index-in-Index.ensures.cases in
    let some = three_some name _ at.0 c.in-Index.is has in
    let none = c.in_err-number_of-in-Index.ensures.complete name.number some.0 fits.0 parts.0 in
    absurd cc

pub returns-in_err-number_of-in-Index-2-clause-complete : goal.returns-in_err-number_of-in-Index-2-clause-complete
returns-in_err-number_of-in-Index-2-clause-complete c = λ name has fits is.
    let at = word_read name _ c.in_ok-word.word c.in_ok-word.numbers _ is c.in_ok-word.ensures.cases (c.in_ok-kind.ensures.complete) in
    let parts = three_read name _ c.in_ok-word.numbers c.in_ok-number-in-Index.number c.in_ok-number-in-Index.parts c.in_ok-index-in-Index.index
    c.in_ok-index-in-Index.part fits c.in-Index.is at.1 c.in_ok-number-in-Index.ensures.cases c.in_ok-index-in-Index.ensures.cases in
    let some = three_some name _ at.0 c.in-Index.is has in
    let none = c.in_err-number_of-in-Index-2.ensures.complete name.index some.1 fits.1 parts.1 in
    absurd cc

pub returns-in_err-number_of-in-Index-3-clause-complete : goal.returns-in_err-number_of-in-Index-3-clause-complete
returns-in_err-number_of-in-Index-3-clause-complete c = λ name has fits is.
    let at = word_read name _ c.in_ok-word.word c.in_ok-word.numbers _ is c.in_ok-word.ensures.cases (c.in_ok-kind.ensures.complete) in
    let parts = three_read name _ c.in_ok-word.numbers c.in_ok-number-in-Index.number c.in_ok-number-in-Index.parts c.in_ok-index-in-Index.index
    c.in_ok-index-in-Index.part fits c.in-Index.is at.1 c.in_ok-number-in-Index.ensures.cases c.in_ok-index-in-Index.ensures.cases in
    let some = three_some name _ at.0 c.in-Index.is has in
    let none = c.in_err-number_of-in-Index-3.ensures.complete name.part some.2 fits.2 parts.2 in
    absurd cc

pub returns-in_ok-number_of-in-Index-3-clause-complete : goal.returns-in_ok-number_of-in-Index-3-clause-complete
returns-in_ok-number_of-in-Index-3-clause-complete c = λ name has fits is.
    let at = word_read name _ c.in_ok-word.word c.in_ok-word.numbers _ is c.in_ok-word.ensures.cases (c.in_ok-kind.ensures.complete) in
    let parts = three_read name _ c.in_ok-word.numbers c.in_ok-number-in-Index.number c.in_ok-number-in-Index.parts c.in_ok-index-in-Index.index
    c.in_ok-index-in-Index.part fits c.in-Index.is at.1 c.in_ok-number-in-Index.ensures.cases c.in_ok-index-in-Index.ensures.cases in
    let some = three_some name _ at.0 c.in-Index.is has in
    let number = c.in_ok-number_of-in-Index.ensures.complete name.number some.0 fits.0 parts.0 in
    let index = c.in_ok-number_of-in-Index-2.ensures.complete name.index some.1 fits.1 parts.1 in
    let part = c.in_ok-number_of-in-Index-3.ensures.complete name.part some.2 fits.2 parts.2 in
    ap Some (same_name name _ _ _ _ at.0 (some_same _ _ number) (some_same _ _ index) (some_same _ _ part))

pub returns-in_ok-number_of-in_default-clause-complete : goal.returns-in_ok-number_of-in_default-clause-complete
returns-in_ok-number_of-in_default-clause-complete c = λ name has fits is.
    let at = word_read name _ c.in_ok-word.word c.in_ok-word.numbers _ is c.in_ok-word.ensures.cases (c.in_ok-kind.ensures.complete) in
    let one = one_some name _ at.0 c.in_default.not-Index c.in_default.not-Segment has in
    let number = c.in_ok-number_of-in_default.ensures.complete name.number one.0 fits.0 (at.1 ∙ behind_one _ name c.in_default.not-Index c.in_default.not-Segment) in
    ap Some (same_name name _ _ _ _ at.0 (some_same _ _ number) (sym one.1) (sym one.2))

pub returns-in_err-number_of-in_default-clause-complete : goal.returns-in_err-number_of-in_default-clause-complete
returns-in_err-number_of-in_default-clause-complete c = λ name has fits is.
    let at = word_read name _ c.in_ok-word.word c.in_ok-word.numbers _ is c.in_ok-word.ensures.cases (c.in_ok-kind.ensures.complete) in
    let one = one_some name _ at.0 c.in_default.not-Index c.in_default.not-Segment has in
    let none = c.in_err-number_of-in_default.ensures.complete name.number one.0 fits.0 (at.1 ∙ behind_one _ name c.in_default.not-Index c.in_default.not-Segment) in
    absurd cc
