use Rattle.std.proofs.Common.{arith, refl, rules, sym, take, ◌∙◌, ◌≡◌, false}
use Rattle.std.proofs.lemmas.List.{take_all}
use Rattle.std.proofs.lemmas.List.Elements.{All-same}
use Rattle.sasi_host.specs.declared.name.FileName.{FileName}
use Rattle.sasi_host.specs.View.{IsAbsent}
use Rattle.sasi_recover.specs.Deletion.{keeps}
use Rattle.sasi_recover.proofs.DeletedFiles.{all_left, deletes_none, deletes_on, first_left, gone_all, gone_more, left_more}
use Rattle.sasi_recover.proofs.unlisted_files.delete_unlisted.Goals as goal

pub loop-name-init : goal.loop-name-init
loop-name-init g c = record {
  deletes = deletes_none (g.H.Host.view c.args.host.now) (keeps c.args.keep c.args.files.now);
  gone = λ k d below. absurd (omega (arith, below));
  left = all_left (g.H.Host.view c.args.host.now) c.args.names.now c.requires.lists c.requires.sorted;
  disk = search rules;
  out = search rules;
  reads = search rules;
}

pub delete_unless_kept-requires-clause-there : goal.delete_unless_kept-requires-clause-there
delete_unless_kept-requires-clause-there g c = first_left (g.H.Host.view c.loop-name.host) c.args.names.now c.loop-name.name-index _
    c.loop-name-test.true c.loop-name.invariant.left

pub returns-in_err-delete_unless_kept-clause-changes : goal.returns-in_err-delete_unless_kept-clause-changes
returns-in_err-delete_unless_kept-clause-changes g c =
    deletes_on (g.H.Host.view c.args.host.now) (g.H.Host.view c.loop-name.host) (g.H.Host.view c.delete_unless_kept.new.host)
    (keeps c.args.keep c.args.files.now) _ c.loop-name.invariant.deletes c.delete_unless_kept.ensures.changes

pub loop-name-preserved : goal.loop-name-preserved
loop-name-preserved g c =
    let before = g.H.Host.view c.loop-name.host in
    let now = g.H.Host.view c.delete_unless_kept.new.host in
    record {
      deletes = deletes_on (g.H.Host.view c.args.host.now) before now (keeps c.args.keep c.args.files.now) _ c.loop-name.invariant.deletes
          c.delete_unless_kept.ensures.changes;
      gone = gone_more before now (keeps c.args.keep c.args.files.now) _ c.delete_unless_kept.ensures.changes c.args.names.now c.loop-name.name-index _
          c.loop-name-test.true refl c.loop-name.invariant.gone c.in_ok-delete_unless_kept.ensures.gone;
      left = left_more before now (keeps c.args.keep c.args.files.now) _ c.delete_unless_kept.ensures.changes c.args.names.now c.loop-name.name-index _
          c.loop-name-test.true refl c.loop-name.invariant.left;
      disk = c.in_ok-delete_unless_kept.ensures.causes.ok ∙ c.loop-name.invariant.disk;
      out = c.delete_unless_kept.ensures.causes.out ∙ c.loop-name.invariant.out;
      reads = c.delete_unless_kept.ensures.causes.reads ∙ c.loop-name.invariant.reads;
    }

pub returns-clause-gone : goal.returns-clause-gone
returns-clause-gone g c =
    let now = g.H.Host.view c.loop-name.host in
    let gone = All-same (λ (name : FileName). keeps c.args.keep c.args.files.now name ≡ false → IsAbsent now name) c.args.names.now
    (take c.loop-name.name-index c.args.names.now) (sym (take_all c.loop-name.name-index c.args.names.now c.loop-name-test.false))
    c.loop-name.invariant.gone in
    gone_all (g.H.Host.view c.args.host.now) now (keeps c.args.keep c.args.files.now) c.args.names.now c.requires.lists c.loop-name.invariant.deletes gone
