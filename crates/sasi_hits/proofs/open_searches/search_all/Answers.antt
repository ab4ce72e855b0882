use Rattle.std.proofs.Common.{◌∙◌, ◌∷◌, sym, ap, List}
use Rattle.sasi_host.specs.Names.{Bytes}
use Rattle.sasi_hits.proofs.open_searches.search_all.Goals as goal

pub returns : goal.returns
returns c =
    let split = c.in-Some.ensures.cases.0 in
    record {
      fresh = c.in_ok-first.ensures.fresh;
      index_is = c.in_ok-first.ensures.asked.0;
      op_is = c.in_ok-first.ensures.asked.1;
      others = c.in_ok-others.ensures.fresh;
      words_are = split ∙ ap (λ (b : Bytes). b ∷ c.in-Some.others.now) (sym (c.in_ok-first.ensures.asked.2 ∙ c.bytes.ensures)) ∙ ap (λ (l : List Bytes). c.in_ok-first.first.body ∷ l) (sym c.in_ok-others.ensures.words);
    }
