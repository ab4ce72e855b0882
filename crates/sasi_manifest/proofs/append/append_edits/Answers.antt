use Rattle.std.proofs.Common.{◌≡◌, length, Some, arith, ap, sym, subst}
use Rattle.sasi_host.specs.Names.{Bytes}
use Rattle.sasi_host.specs.Disk.{Changes, LeftWith, FileChange}
use Rattle.sasi_host.proofs.ChangeLaws.{untouched}
use Rattle.sasi_gated.specs.Format.{IsBeforeOrAfter}
use Rattle.sasi_gated.proofs.HandleLaws.{unmoved}
use Rattle.sasi_manifest.specs.Edits.{encoded}
use Rattle.sasi_manifest.specs.Listings.{length_of, records_of}
use Rattle.sasi_manifest.proofs.Records.{all_writable, record_counts, sizes_stay}
use Rattle.sasi_manifest.proofs.append.append_edits.Goals as goal

pub encode-requires-clause-writable : goal.encode-requires-clause-writable
encode-requires-clause-writable g c = all_writable (Some c.args.listing.now) c.args.edits.now c.requires.apply

pub returns-in_err-record-clause-any_moment : goal.returns-in_err-record-clause-any_moment
returns-in_err-record-clause-any_moment g c records end =
    unmoved (g.H.Host.view c.args.host.now) c.args.gated.now.file c.args.gated.now.at records (encoded c.args.edits.now)
    (g.met.H.Host.sound c.args.host.now) end

pub returns-in_err-record-clause-changes : goal.returns-in_err-record-clause-changes
returns-in_err-record-clause-changes g c = untouched (g.H.Host.view c.args.host.now) c.args.gated.now.file

pub returns-in_err-copy-clause-any_moment : goal.returns-in_err-copy-clause-any_moment
returns-in_err-copy-clause-any_moment g c records end =
    unmoved (g.H.Host.view c.args.host.now) c.args.gated.now.file c.args.gated.now.at records (encoded c.args.edits.now)
    (g.met.H.Host.sound c.args.host.now) end

pub returns-in_err-copy-clause-changes : goal.returns-in_err-copy-clause-changes
returns-in_err-copy-clause-changes g c = untouched (g.H.Host.view c.args.host.now) c.args.gated.now.file

pub returns-in_err-append-clause-any_moment : goal.returns-in_err-append-clause-any_moment
returns-in_err-append-clause-any_moment g c records end =
    subst (λ (l : Bytes). Changes (FileChange c.args.gated.now.file (LeftWith (IsBeforeOrAfter c.args.gated.now.file records l)))
    (g.H.Host.view c.args.host.now) (g.H.Host.view c.append.new.host)) c.in_ok-record.ensures (c.append.ensures.any_moment records end)

pub returns-in_err-change_all-clause-any_moment : goal.returns-in_err-change_all-clause-any_moment
returns-in_err-change_all-clause-any_moment g c records end =
    subst (λ (l : Bytes). Changes (FileChange c.args.gated.now.file (LeftWith (IsBeforeOrAfter c.args.gated.now.file records l)))
    (g.H.Host.view c.args.host.now) (g.H.Host.view c.append.new.host)) c.in_ok-record.ensures (c.append.ensures.any_moment records end)

pub count_record-requires-clause-records : goal.count_record-requires-clause-records
count_record-requires-clause-records g c =
    omega (arith, c.requires.records, (sizes_stay (Some c.args.listing.now) c.args.edits.now c.requires.apply).0, ap records_of c.in_ok-change_all.ensures.ok)

pub count_record-requires-clause-length : goal.count_record-requires-clause-length
count_record-requires-clause-length g c =
    omega (arith, c.requires.length, (sizes_stay (Some c.args.listing.now) c.args.edits.now c.requires.apply).1, ap length_of c.in_ok-change_all.ensures.ok)

pub returns-clause-any_moment : goal.returns-clause-any_moment
returns-clause-any_moment g c records end =
    subst (λ (l : Bytes). Changes (FileChange c.args.gated.now.file (LeftWith (IsBeforeOrAfter c.args.gated.now.file records l)))
    (g.H.Host.view c.args.host.now) (g.H.Host.view c.append.new.host)) c.in_ok-record.ensures (c.append.ensures.any_moment records end)

pub returns-clause-listing : goal.returns-clause-listing
returns-clause-listing g c =
    let size : c.edits_size.result ≡ length (encoded c.args.edits.now) = omega (arith, c.edits_size.ensures, c.requires.short) in
    record_counts (Some c.args.listing.now) (encoded c.args.edits.now) c.change_all.new.listing c.count_record.new.listing c.args.edits.now
    (sym c.in_ok-change_all.ensures.ok) (rw size at c.count_record.ensures)
