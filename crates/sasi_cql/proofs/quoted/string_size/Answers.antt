use Rattle.std.proofs.Common.{◌∙◌, sym}
use Rattle.sasi_cql.proofs.Strings.{size_is, closing_begun, closing_more, closing_here, closing_all}
use Rattle.sasi_cql.proofs.quoted.string_size.Goals as goal

pub bytes-init : goal.bytes-init
bytes-init c = closing_begun c.args.bytes.now

pub returns-then-closes_string : goal.returns-then-closes_string
returns-then-closes_string c =
    sym (size_is c.args.bytes.now ∙ closing_here c.args.bytes.now c.bytes.i c.bytes.quote c.bytes-test.true c.bytes.invariant (sym c.closes_string.ensures ∙ c.if-closes_string.true))

pub bytes-preserved : goal.bytes-preserved
bytes-preserved c =
    rw c.is_first_quote-quote.ensures
    (closing_more c.args.bytes.now c.bytes.i c.bytes.quote c.bytes-test.true c.bytes.invariant (sym c.closes_string.ensures ∙ c.if-closes_string.false))

pub returns : goal.returns
returns c =
    c.then_some.ensures ∙ sym (size_is c.args.bytes.now ∙ closing_all c.args.bytes.now c.bytes.i c.bytes.quote c.bytes-test.false c.bytes.auto.i-end c.bytes.invariant)
