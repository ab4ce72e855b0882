use Rattle.std.proofs.Common.{◌∙◌, List, ap, subst, sym}
use Rattle.sasi_lookup.specs.Files.{LookedFile}
use Rattle.sasi_lookup.specs.Lookups.{AreDataOf, FilesReady, LookupView, unopened_files}
use Rattle.sasi_lookup.proofs.MakingLaws.{unopened_look, unopened_ready}
use Rattle.sasi_lookup.proofs.lookup.Lookup.new.Goals as goal

pub returns-clause-made : goal.returns-clause-made
returns-clause-made c = ap (λ (fs : List LookedFile). (let l : LookupView = record { types = c.args.types; files = fs } in l)) c.in_ok-files.ensures

pub returns-clause-looks : goal.returns-clause-looks
returns-clause-looks c seen p listed contents are have =
    subst (λ (fs : List LookedFile). AreDataOf seen p c.args.types fs contents) (sym (c.in_ok-files.ensures ∙ ap unopened_files are)) (unopened_look seen p c.args.types listed contents have)

pub returns-clause-ready : goal.returns-clause-ready
returns-clause-ready c seen = subst (λ (fs : List LookedFile). FilesReady c.args.types seen fs) (sym c.in_ok-files.ensures) (unopened_ready c.args.types seen c.args.numbers.now)
