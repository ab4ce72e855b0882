use Rattle.std.proofs.Common.{rules}
use Rattle.sasi_host.specs.declared.call.Call.TheVariants.{Emitted}
use Rattle.sasi_host.specs.Memory.{memory_host}
use Rattle.sasi_host.proofs.CallChanges.{err_from}
use Rattle.sasi_host.proofs.HostChanges.{still_emits, emit_failed_counts, emit_refused_counts, disk_moments, disk_emits, disk_emitted, disk_prefixes}
use Rattle.sasi_host.proofs.mem_host_calls.MemHostHost.emit.Goals as goal

pub returns-in_err-begin_emit-clause-emits : goal.returns-in_err-begin_emit-clause-emits
returns-in_err-begin_emit-clause-emits c =
    still_emits (memory_host c.args.self.now) (memory_host c.begin_emit.new.self) c.args.bytes.now (record { start = search rules; calls = search rules })
    (emit_failed_counts (memory_host c.args.self.now) (memory_host c.begin_emit.new.self) (search rules) (c.begin_emit.ensures.to_fail.0 (search rules)) c.begin_emit.ensures.few)

pub returns-then-is_err-clause-emits : goal.returns-then-is_err-clause-emits
returns-then-is_err-clause-emits c =
    let same = err_from c.emit.result (search rules) c.emit.ensures.err in
    still_emits (memory_host c.args.self.now) (memory_host c.refuse_emit.new.self) c.args.bytes.now (record { start = search rules; calls = search rules })
    (emit_refused_counts (memory_host c.args.self.now) (memory_host c.begin_emit.new.self) (memory_host c.refuse_emit.new.self) c.emit.new.self.start c.emit.new.self.calls.items (search rules) (search rules) c.begin_emit.ensures.few c.refuse_emit.ensures.few)

pub returns-clause-moments : goal.returns-clause-moments
returns-clause-moments c =
    disk_moments (Emitted c.args.bytes.now) (memory_host c.args.self.now) (memory_host c.begin_emit.new.self) c.emit.new.self.start c.emit.new.self.calls.items
    c.emit.result (search rules) c.emit.ensures.ok (search rules) (search rules)

pub returns-clause-emits : goal.returns-clause-emits
returns-clause-emits c =
    disk_emits c.args.bytes.now (memory_host c.args.self.now) (memory_host c.begin_emit.new.self) c.emit.new.self.start c.emit.new.self.calls.items
    c.emit.result (search rules) c.emit.ensures.ok (search rules) (search rules) c.begin_emit.ensures.few

pub returns-clause-ok : goal.returns-clause-ok
returns-clause-ok c =
    disk_emitted c.args.bytes.now (memory_host c.args.self.now) (memory_host c.begin_emit.new.self) c.emit.new.self.start c.emit.new.self.calls.items
    c.emit.result (search rules) c.emit.ensures.ok (search rules) (search rules)

pub returns-clause-prefixes : goal.returns-clause-prefixes
returns-clause-prefixes c =
    disk_prefixes c.args.bytes.now (memory_host c.args.self.now) (memory_host c.begin_emit.new.self) c.emit.new.self.start c.emit.new.self.calls.items
    c.emit.result (search rules) c.emit.ensures.ok (search rules) (search rules)
