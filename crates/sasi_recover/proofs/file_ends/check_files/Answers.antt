use Rattle.std.proofs.Common.{◌+◌, List, ◌++◌, take, drop, sym, ◌∙◌, ap, Contains, take-append-drop}
use Rattle.std.proofs.lemmas.List.{drop_more, take_all}
use Rattle.std.proofs.lemmas.List.Elements.{All-more, All-same}
use Rattle.std.proofs.lemmas.Result.{err_from_is_err_and}
use Rattle.sasi_host.specs.declared.name.FileName.{FileName}
use Rattle.sasi_recover.proofs.file_ends.check_files.Goals as goal

pub returns-in_err-check_there-clause-missing : goal.returns-in_err-check_there-clause-missing
returns-in_err-check_there-clause-missing c =
    let p = err_from_is_err_and c.from_residual.result c.from_residual.ensures.1 in
    let files = c.args.files.now in
    let index = c.loop-file.file-index in
    rw (p.1, p.2) (record {
      file = _;
      before = take index files;
      behind = drop (index + 1) files;
      listed = sym (take-append-drop index files) ∙ ap (λ (l : List FileName). take index files ++ l) (drop_more files index _ c.loop-file-test.true);
      earlier = c.loop-file.invariant;
      missing = c.in_err-check_there.ensures.missing;
    })

pub loop-file-preserved : goal.loop-file-preserved
loop-file-preserved c = All-more (Contains c.args.names.now) c.args.files.now c.loop-file.file-index _ c.loop-file-test.true c.loop-file.invariant c.in_ok-check_there.ensures.there

pub returns-clause-there : goal.returns-clause-there
returns-clause-there c = All-same (Contains c.args.names.now) c.args.files.now _ (sym (take_all c.loop-file.file-index c.args.files.now c.loop-file-test.false)) c.loop-file.invariant
