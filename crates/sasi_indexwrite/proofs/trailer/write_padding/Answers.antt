use Rattle.std.proofs.Common.{◌≡◌, ◌-◌, take, subst}
use Rattle.std.specs.Prelude.{replicate}
use Rattle.sasi_host.specs.Names.{Bytes}
use Rattle.sasi_host.specs.Disk.{Becomes, overlay}
use Rattle.sasi_host.proofs.ChangeLaws.{touches}
use Rattle.sasi_indexwrite.specs.Format.{padding}
use Rattle.sasi_indexwrite.proofs.Appends.{holds_behind}
use Rattle.sasi_indexwrite.proofs.Endings.{zeros_front}
use Rattle.sasi_indexwrite.proofs.trailer.write_padding.Goals as goal

pub returns-in_err-write-clause-changes : goal.returns-in_err-write-clause-changes
returns-in_err-write-clause-changes g c = touches _ _ c.args.file _ c.write.ensures.changes

pub returns-clause-changes : goal.returns-clause-changes
returns-clause-changes g c = touches _ _ c.args.file _ c.write.ensures.changes

pub returns-clause-ok : goal.returns-clause-ok
returns-clause-ok g c bytes long holds =
    let zeros : take (c.next_page-next.result - c.args.at) (replicate 4096 0) ≡ padding c.args.at = zeros_front c.args.at c.next_page-next.result c.next_page-next.ensures in
    let becomes = subst (λ (l : Bytes). Becomes c.args.file (λ old. overlay old c.args.at l) (g.H.Host.view c.args.host.now) (g.H.Host.view c.write.new.self)) zeros c.in_ok-write.ensures.ok in
    holds_behind _ _ _ c.args.file c.args.at bytes (padding c.args.at) c.write.ensures.changes becomes long holds
