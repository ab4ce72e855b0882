use Rattle.std.proofs.Common.{◌≡◌, ◌∙◌, List, Option, ap, subst, sym}
use Rattle.std.specs.List.{AllByRecursion}
use Rattle.sasi_host.specs.Names.{Folder}
use Rattle.sasi_ranges.specs.StreamCalls.{CanStream, HasStreamed}
use Rattle.sasi_ranges.proofs.Calling.{files_same}
use Rattle.sasi_lookup.specs.Files.{IsNamed, LookedFile}
use Rattle.sasi_lookup.specs.Lookups.{FilesOpen, IsLookingIn, IsReady, LookupView}
use Rattle.sasi_lookup.proofs.FindLaws.{ready_named}
use Rattle.sasi_lookup.proofs.LookupLaws.{lookup_faults, lookup_found, lookup_of_parts, lookup_reads}
use Rattle.sasi_lookup.proofs.lookup.Lookup.find.Goals as goal

pub find_in_files-requires : goal.find_in_files-requires
find_in_files-requires g c =
    let v = g.H.Host.view c.args.host.now in
    let same : c.deref.result.now ≡ c.args.self.now.files = c.deref.ensures.value ∙ ap (λ (l : LookupView). l.files) c.self.view_is in
    record {
      read = subst (λ (fs : List LookedFile). CanStream (g.P.PageReader.agrees c.args.pages.now) (FilesOpen fs) v) (sym same) c.requires.read;
      named = subst (λ (fs : List LookedFile). AllByRecursion IsNamed fs) (sym same) (ready_named c.args.self.now.types v.files c.args.self.now.files c.requires.ready);
    }

pub returns-clause-found : goal.returns-clause-found
returns-clause-found g c =
    let same : c.deref.result.now ≡ c.args.self.now.files = c.deref.ensures.value ∙ ap (λ (l : LookupView). l.files) c.self.view_is in
    lookup_found (g.H.Host.view c.args.host.now) (g.H.Host.view c.find_in_files.new.host) c.args.self.now c.deref.result.now same c.requires.ready c.args.key.now c.find_in_files.result c.find_in_files.ensures.found

pub returns-clause-of_parts : goal.returns-clause-of_parts
returns-clause-of_parts g c =
    let same : c.deref.result.now ≡ c.args.self.now.files = c.deref.ensures.value ∙ ap (λ (l : LookupView). l.files) c.self.view_is in
    lookup_of_parts (g.H.Host.view c.args.host.now) (g.H.Host.view c.find_in_files.new.host) c.args.self.now c.deref.result.now same c.requires.ready c.args.key.now c.find_in_files.result c.find_in_files.ensures.of_parts

pub returns-clause-reads : goal.returns-clause-reads
returns-clause-reads g c =
    let same : c.deref.result.now ≡ c.args.self.now.files = c.deref.ensures.value ∙ ap (λ (l : LookupView). l.files) c.self.view_is in
    lookup_reads (g.H.Host.view c.args.host.now) (g.H.Host.view c.find_in_files.new.host) c.args.self.now c.deref.result.now same c.requires.ready c.args.key.now c.find_in_files.ensures.reads

pub returns-clause-read : goal.returns-clause-read
returns-clause-read g c =
    let v = g.H.Host.view c.args.host.now in
    let w = g.H.Host.view c.find_in_files.new.host in
    let same : c.deref.result.now ≡ c.args.self.now.files = c.deref.ensures.value ∙ ap (λ (l : LookupView). l.files) c.self.view_is in
    subst (λ (fs : List LookedFile). HasStreamed (g.P.PageReader.agrees c.find_in_files.new.pages) (g.P.PageReader.covers c.args.pages.now) (g.P.PageReader.covers c.find_in_files.new.pages) (FilesOpen fs) (FilesOpen fs) v w) same c.find_in_files.ensures.read

pub returns-clause-faults : goal.returns-clause-faults
returns-clause-faults g c =
    let same : c.deref.result.now ≡ c.args.self.now.files = c.deref.ensures.value ∙ ap (λ (l : LookupView). l.files) c.self.view_is in
    lookup_faults (g.H.Host.view c.args.host.now) (g.H.Host.view c.find_in_files.new.host) c.args.self.now c.deref.result.now same c.requires.ready c.find_in_files.result c.find_in_files.ensures.faults

pub returns-clause-looks : goal.returns-clause-looks
returns-clause-looks g c p contents are =
    let same = files_same (g.H.Host.view c.args.host.now) (g.H.Host.view c.find_in_files.new.host) c.find_in_files.ensures.read.changes in
    subst (λ (x : Option Folder). IsLookingIn x p contents c.args.self.now) (sym same) are

pub returns-clause-ready : goal.returns-clause-ready
returns-clause-ready g c =
    let same = files_same (g.H.Host.view c.args.host.now) (g.H.Host.view c.find_in_files.new.host) c.find_in_files.ensures.read.changes in
    subst (λ (x : Option Folder). IsReady c.args.self.now x) (sym same) c.requires.ready
