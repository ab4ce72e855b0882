use Rattle.std.proofs.Common.{◌∙◌, sym, subst}
use Rattle.sasi_memindex.specs.declared.posting.Posting.{Posting}
use Rattle.sasi_memindex.specs.Runs.{IsFirst}
use Rattle.sasi_memindex.proofs.FirstPostings.{first_posting}
use Rattle.sasi_memindex.proofs.FirstTerms.{first_is}
use Rattle.sasi_memindex.proofs.hits.hits.Goals as goal

pub hits_from-requires : goal.hits_from-requires
hits_from-requires c =
    let op = c.args.op.now in
    let body = c.args.body.now in
    let s = c.args.postings.now in
    let is = first_is c.args.kind op body c.in-Some.term (sym c.in_ok-term.ensures ∙ c.in-Some.is) in
    subst (λ (p : Posting). IsFirst op body p s) (sym c.in_ok-first-in-Some.ensures) (first_posting c.args.kind op body c.in-Some.term is s c.requires)
