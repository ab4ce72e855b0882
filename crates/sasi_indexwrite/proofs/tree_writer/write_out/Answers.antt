use Rattle.std.proofs.Common.{◌≡◌, ◌+◌, ◌∙◌, length, refl, arith, ap, rules, subst}
use Rattle.sasi_host.specs.Disk.{Becomes, FileChange, InPlace, Torn, overlay}
use Rattle.sasi_host.specs.Names.{Bytes}
use Rattle.sasi_host.proofs.ChangeLaws.{touches}
use Rattle.sasi_indexwrite.proofs.Appends.{out_written}
use Rattle.sasi_indexwrite.proofs.tree_writer.write_out.Goals as goal

pub returns-in_err-write-clause-changes : goal.returns-in_err-write-clause-changes
returns-in_err-write-clause-changes g c = touches _ _ c.args.trees.now.file (InPlace (Torn c.args.trees.now.end (length c.deref.result.now))) c.write.ensures.changes

pub returns-clause-ok : goal.returns-clause-ok
returns-clause-ok g c bytes was =
    let old = c.args.trees.now in
    let becomes = subst (λ (l : Bytes). Becomes old.file (λ (before : Bytes). overlay before old.end l) (g.H.Host.view c.args.host.now) (g.H.Host.view c.write.new.self)) c.deref.ensures.value c.in_ok-write.ensures.ok in
    let long : c.len.result ≡ length old.unwritten.items = c.len.ensures ∙ search rules in
    out_written _ _ (FileChange old.file (InPlace (Torn old.end (length c.deref.result.now)))) old (record { file = old.file; end = old.end + c.len.result; unwritten = c.clear.new.self }) bytes c.write.ensures.changes becomes refl
    (omega (arith, long, ap length c.clear.ensures.items)) c.clear.ensures.items was

pub returns-clause-changes : goal.returns-clause-changes
returns-clause-changes g c = touches _ _ c.args.trees.now.file (InPlace (Torn c.args.trees.now.end (length c.deref.result.now))) c.write.ensures.changes
