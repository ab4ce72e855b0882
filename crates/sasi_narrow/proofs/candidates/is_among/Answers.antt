use Rattle.std.proofs.Common.{◌∙◌}
use Rattle.std.specs.Cmp.Lexicographic.{nat_list_cmp_total}
use Rattle.sasi_narrow.proofs.Refs.{Ref, any_tied}
use Rattle.sasi_narrow.proofs.Searching.{search_tells}
use Rattle.sasi_narrow.proofs.candidates.is_among.Goals as goal

pub returns : goal.returns
returns c = λ rise.
    c.is_ok.ensures.value
    ∙ search_tells nat_list_cmp_total (λ (r : Ref). r.now) c.args.key.now c.args.keys.now c.binary_search.result rise c.binary_search.ensures.bound c.binary_search.ensures.position
    ∙ any_tied c.args.key.now c.args.keys.now
