use Rattle.std.proofs.Common.{◌≡◌, ◌++◌, map, length, ◌∙◌, ap, subst, arith, length-append}
use Rattle.std.specs.Int.{to_be_bytes, w32}
use Rattle.sasi_host.specs.Names.{Bytes}
use Rattle.sasi_host.specs.Disk.{Changes, LeftWith, FileChange}
use Rattle.sasi_host.proofs.ChangeLaws.{untouched}
use Rattle.sasi_gated.specs.Format.{IsBeforeOrAfter}
use Rattle.sasi_gated.proofs.HandleLaws.{unmoved}
use Rattle.sasi_body.specs.Body.{body}
use Rattle.sasi_body.proofs.BodyBytes.{body_short}
use Rattle.sasi_commitlog.specs.Format.{payload_of}
use Rattle.sasi_commitlog.proofs.Payloads.{payload_is}
use Rattle.sasi_commitlog.proofs.segment.append.Goals as goal

pub returns-in_err-put_mutation-clause-any_moment : goal.returns-in_err-put_mutation-clause-any_moment
returns-in_err-put_mutation-clause-any_moment g c mutations end =
    unmoved (g.H.Host.view c.args.host.now) c.args.gated.now.file c.args.gated.now.at (map payload_of mutations) (payload_of c.args.mutation.now) (g.met.H.Host.sound c.args.host.now) end

pub returns-in_err-put_mutation-clause-changes : goal.returns-in_err-put_mutation-clause-changes
returns-in_err-put_mutation-clause-changes g c = untouched (g.H.Host.view c.args.host.now) c.args.gated.now.file

pub new-requires-clause-short : goal.new-requires-clause-short
new-requires-clause-short g c =
    let m = c.args.mutation.now in
    let payload : c.deref.result.now ≡ payload_of m = c.deref.ensures.value ∙ c.in_ok-put_mutation.ensures ∙ ap (λ (l : Bytes). l ++ payload_of m) c.clear.ensures.items in
    omega (arith, ap length payload, ap length (payload_is m), length-append (to_be_bytes w32 m.table) (body m.key m.change), body_short m.key m.change c.requires.body)

pub new-requires-clause-some : goal.new-requires-clause-some
new-requires-clause-some g c =
    let m = c.args.mutation.now in
    let payload : c.deref.result.now ≡ payload_of m = c.deref.ensures.value ∙ c.in_ok-put_mutation.ensures ∙ ap (λ (l : Bytes). l ++ payload_of m) c.clear.ensures.items in
    omega (arith, ap length payload, ap length (payload_is m), length-append (to_be_bytes w32 m.table) (body m.key m.change))

pub returns-in_err-record-clause-any_moment : goal.returns-in_err-record-clause-any_moment
returns-in_err-record-clause-any_moment g c mutations end =
    unmoved (g.H.Host.view c.args.host.now) c.args.gated.now.file c.args.gated.now.at (map payload_of mutations) (payload_of c.args.mutation.now) (g.met.H.Host.sound c.args.host.now) end

pub returns-in_err-record-clause-changes : goal.returns-in_err-record-clause-changes
returns-in_err-record-clause-changes g c = untouched (g.H.Host.view c.args.host.now) c.args.gated.now.file

pub returns-in_err-append-clause-any_moment : goal.returns-in_err-append-clause-any_moment
returns-in_err-append-clause-any_moment g c mutations end =
    let payload : c.in_ok-record.record ≡ payload_of c.args.mutation.now = c.in_ok-record.ensures ∙ c.deref.ensures.value
    ∙ c.in_ok-put_mutation.ensures ∙ ap (λ (l : Bytes). l ++ payload_of c.args.mutation.now) c.clear.ensures.items in
    subst (λ (p : Bytes). Changes (FileChange c.args.gated.now.file
    (LeftWith (IsBeforeOrAfter c.args.gated.now.file (map payload_of mutations) p))) (g.H.Host.view c.args.host.now)
    (g.H.Host.view c.append.new.host)) payload
    (c.append.ensures.any_moment (map payload_of mutations) end)

pub returns-clause-any_moment : goal.returns-clause-any_moment
returns-clause-any_moment g c mutations end =
    let payload : c.in_ok-record.record ≡ payload_of c.args.mutation.now = c.in_ok-record.ensures ∙ c.deref.ensures.value
    ∙ c.in_ok-put_mutation.ensures ∙ ap (λ (l : Bytes). l ++ payload_of c.args.mutation.now) c.clear.ensures.items in
    subst (λ (p : Bytes). Changes (FileChange c.args.gated.now.file
    (LeftWith (IsBeforeOrAfter c.args.gated.now.file (map payload_of mutations) p))) (g.H.Host.view c.args.host.now)
    (g.H.Host.view c.append.new.host)) payload
    (c.append.ensures.any_moment (map payload_of mutations) end)
