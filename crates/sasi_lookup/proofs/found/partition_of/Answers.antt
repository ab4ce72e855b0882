use Rattle.std.proofs.Common.{length, subst, sym, arith}
use Rattle.std.proofs.lemmas.Bool.{not-false, not-true}
use Rattle.std.proofs.lemmas.Result.{err_from_is_err_and}
use Rattle.std.specs.Cmp.Lexicographic.{same_text}
use Rattle.sasi_host.specs.Names.{Bytes}
use Rattle.sasi_body.specs.Body.{IsBodyOf}
use Rattle.sasi_datawrite.specs.Format.{header}
use Rattle.sasi_lookup.specs.KeySearches.{KeysRise}
use Rattle.sasi_lookup.proofs.ContentLaws.{keys_rise}
use Rattle.sasi_lookup.proofs.FileLaws.{cost_handed, cost_none, cost_ok, reads_none}
use Rattle.sasi_lookup.proofs.PartitionLaws.{finds, found_cost, found_shown, is_other, lacks, no_false_found}
use Rattle.sasi_lookup.proofs.found.partition_of.Goals as goal

pub returns-in_default-clause-found : goal.returns-in_default-clause-found
returns-in_default-clause-found g c =
    lacks (g.H.Host.view c.args.host.now) c.args.opened.now c.args.keys.now c.args.key.now
    (λ p token content is are. c.in_default.ensures (subst KeysRise (sym are) (keys_rise p token (length header) content is.rising)))

pub returns-in_default-clause-reads : goal.returns-in_default-clause-reads
returns-in_default-clause-reads g c p token content on are = omega arith

pub returns-in_default-clause-read : goal.returns-in_default-clause-read
returns-in_default-clause-read g c = reads_none _ _ (g.H.Host.view c.args.host.now) c.args.opened.now.file c.requires.read.agrees

pub returns-in_default-clause-causes : goal.returns-in_default-clause-causes
returns-in_default-clause-causes g c = cost_none (g.H.Host.view c.args.host.now) 2050 _

pub returns-in_err-other-clause-reads : goal.returns-in_err-other-clause-reads
returns-in_err-other-clause-reads g c =
    found_cost (g.H.Host.view c.args.host.now) (g.H.Host.view c.at.new.host) c.args.opened.now c.args.keys.now c.in-Some.place c.args.key.now c.in-Some.ensures c.at.ensures.reads

pub returns-in_err-other-clause-damaged : goal.returns-in_err-other-clause-damaged
returns-in_err-other-clause-damaged g c all =
    let p = err_from_is_err_and c.from_residual.result c.from_residual.ensures.1 in
    rw (p.1, p.2) (found_shown (g.H.Host.view c.args.host.now) (g.H.Host.view c.at.new.host) c.args.opened.now c.args.keys.now c.in-Some.place c.args.key.now c.in-Some.ensures c.in_err-other.field-0.0 c.in_err-other.ensures.damaged all)

pub returns-in_err-other-clause-undamaged : goal.returns-in_err-other-clause-undamaged
returns-in_err-other-clause-undamaged g c =
    let p = err_from_is_err_and c.from_residual.result c.from_residual.ensures.1 in
    rw (p.1, p.2) (no_false_found (g.H.Host.view c.args.host.now) (g.H.Host.view c.at.new.host) c.args.opened.now c.args.keys.now c.in-Some.place c.args.key.now c.in-Some.ensures c.in_err-other.field-0.0 c.in_err-other.ensures.undamaged)

pub returns-in_err-other-clause-read : goal.returns-in_err-other-clause-read
returns-in_err-other-clause-read g c = c.at.ensures.read

pub returns-in_err-other-clause-causes : goal.returns-in_err-other-clause-causes
returns-in_err-other-clause-causes g c =
    let p = err_from_is_err_and c.from_residual.result c.from_residual.ensures.1 in
    rw (p.1, p.2) (cost_handed (g.H.Host.view c.args.host.now) (g.H.Host.view c.at.new.host) 2050 c.in_err-other.field-0.0 c.in_err-other.ensures.causes)

pub returns-then-ne-clause-found : goal.returns-then-ne-clause-found
returns-then-ne-clause-found g c p token content on are same =
    absurd (is_other (g.H.Host.view c.args.host.now) (g.H.Host.view c.at.new.host) c.args.opened.now c.args.keys.now c.in-Some.place c.args.key.now c.in-Some.ensures c.in_ok-other.other c.in_ok-other.part c.in_ok-other.ensures.ok
    (not-true _ (sym c.if-ne.ensures)) p token content on are)

pub returns-then-ne-clause-reads : goal.returns-then-ne-clause-reads
returns-then-ne-clause-reads g c =
    found_cost (g.H.Host.view c.args.host.now) (g.H.Host.view c.at.new.host) c.args.opened.now c.args.keys.now c.in-Some.place c.args.key.now c.in-Some.ensures c.at.ensures.reads

pub returns-then-ne-clause-read : goal.returns-then-ne-clause-read
returns-then-ne-clause-read g c = c.at.ensures.read

pub returns-then-ne-clause-causes : goal.returns-then-ne-clause-causes
returns-then-ne-clause-causes g c = cost_ok (g.H.Host.view c.args.host.now) (g.H.Host.view c.at.new.host) 2050 _ _ c.in_ok-other.ensures.causes

pub returns-clause-found : goal.returns-clause-found
returns-clause-found g c p token content on are same =
    finds (g.H.Host.view c.args.host.now) (g.H.Host.view c.at.new.host) c.args.opened.now c.args.keys.now c.in-Some.place c.args.key.now c.in-Some.ensures c.in_ok-other.other c.in_ok-other.part c.in_ok-other.ensures.ok p token content on are

pub returns-clause-stored : goal.returns-clause-stored
returns-clause-stored g c =
    subst (λ (k : Bytes). IsBodyOf c.args.opened.now.types k c.in_ok-other.part) (sym (same_text c.args.key.now c.in_ok-other.other (sym (not-false _ (sym c.if-ne.ensures))))) c.in_ok-other.ensures.in_table

pub returns-clause-reads : goal.returns-clause-reads
returns-clause-reads g c =
    found_cost (g.H.Host.view c.args.host.now) (g.H.Host.view c.at.new.host) c.args.opened.now c.args.keys.now c.in-Some.place c.args.key.now c.in-Some.ensures c.at.ensures.reads

pub returns-clause-read : goal.returns-clause-read
returns-clause-read g c = c.at.ensures.read

pub returns-clause-causes : goal.returns-clause-causes
returns-clause-causes g c = cost_ok (g.H.Host.view c.args.host.now) (g.H.Host.view c.at.new.host) 2050 _ _ c.in_ok-other.ensures.causes
