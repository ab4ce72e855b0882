use Rattle.std.proofs.Common.{subst, sym, ap, ◌∙◌, is_some, Option}
use Rattle.std.proofs.lemmas.Result.{err_from_is_err_and}
use Rattle.sasi_cells.specs.declared.mutation.Mutation.{Mutation}
use Rattle.sasi_commitlog.specs.Format.{IsMutationOf, Tables}
use Rattle.sasi_commitlog.specs.Reads.{IsLogDamageAt, IsReadOf, NoFalseLogDamage, ReadsLogGate, ReadsMutations}
use Rattle.sasi_recover.specs.Replaying.{after_read}
use Rattle.sasi_recover.specs.ReplayState.{seen}
use Rattle.sasi_recover.proofs.replay.merge_next.Goals as goal

pub returns-in_err-mutation-clause-damaged : goal.returns-in_err-mutation-clause-damaged
returns-in_err-mutation-clause-damaged g c =
    let p = err_from_is_err_and c.from_residual.result c.from_residual.ensures.1 in
    rw (p.1, p.2)
    (subst (λ (t : Tables). IsLogDamageAt (g.H.Host.view c.args.host.now) c.args.log.now.file t c.args.log.now.at c.in_err-mutation.field-0.0)
    c.requires.types c.in_err-mutation.ensures.damaged)

pub returns-in_err-mutation-clause-undamaged : goal.returns-in_err-mutation-clause-undamaged
returns-in_err-mutation-clause-undamaged g c =
    let p = err_from_is_err_and c.from_residual.result c.from_residual.ensures.1 in
    rw (p.1, p.2)
    (subst (λ (t : Tables). NoFalseLogDamage (g.H.Host.view c.args.host.now) c.args.log.now.file t c.args.log.now.at c.in_err-mutation.field-0.0)
    c.requires.types c.in_err-mutation.ensures.undamaged)

pub returns-in_ok-merge-in-Some-clause-merged : goal.returns-in_ok-merge-in-Some-clause-merged
returns-in_ok-merge-in-Some-clause-merged g c =
    let read = c.in_ok-mutation.ensures in
    let some = ap (λ (o : Option Mutation). is_some o) c.in-Some.is in
    let log = c.args.log.now in
    record {
      read = c.in_ok-mutation.field-0;
      more = sym some;
      state = c.in_ok-merge-in-Some.ensures.state ∙ ap (after_read c.args.listing.now c.args.number (seen c.args.replay.now)) (sym c.in-Some.is);
      gate = subst (λ (t : Tables). ReadsLogGate (g.H.Host.view c.args.host.now) log.file t log.at c.next.new.self.at c.in_ok-mutation.field-0) c.requires.types
          read.gate;
      mutations = subst
          (λ (t : Tables). ReadsMutations (g.H.Host.view c.args.host.now) (g.H.Host.view c.next.new.host) log.file t log.at c.next.new.self.at
          c.in_ok-mutation.field-0) c.requires.types read.mutations;
      file = read.file;
      usable = read.usable;
      advances = λ more. read.advances some;
      fits = read.fits;
      room = λ none. cc;
    }

pub returns-in-None-clause-merged : goal.returns-in-None-clause-merged
returns-in-None-clause-merged g c =
    let read = c.in_ok-mutation.ensures in
    let log = c.args.log.now in
    record {
      read = c.in_ok-mutation.field-0;
      more = sym (ap (λ (o : Option Mutation). is_some o) c.in-None.is);
      state = ap (after_read c.args.listing.now c.args.number (seen c.args.replay.now)) (sym c.in-None.is);
      gate = subst (λ (t : Tables). ReadsLogGate (g.H.Host.view c.args.host.now) log.file t log.at c.next.new.self.at c.in_ok-mutation.field-0) c.requires.types
          read.gate;
      mutations = subst
          (λ (t : Tables). ReadsMutations (g.H.Host.view c.args.host.now) (g.H.Host.view c.next.new.host) log.file t log.at c.next.new.self.at
          c.in_ok-mutation.field-0) c.requires.types read.mutations;
      file = read.file;
      usable = read.usable;
      advances = λ more. cc;
      fits = read.fits;
      room = λ none. read.room c.in-None.is;
    }

pub merge-requires-clause-known : goal.merge-requires-clause-known
merge-requires-clause-known g c =
    subst (λ (t : Tables). IsMutationOf t c.in-Some.mutation) c.requires.types
    (subst (λ (read : Option Mutation). IsReadOf c.args.types.now read) c.in-Some.is c.in_ok-mutation.ensures.of_tables)
