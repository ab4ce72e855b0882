use Rattle.std.proofs.Common.{◌≡◌, ◌∙◌, List, [], refl, ap, arith, subst, sym}
use Rattle.std.proofs.lemmas.List.{with_items_is}
use Rattle.std.specs.Vec.{with_items}
use Rattle.sasi_ranges.specs.StreamCalls.{CanStream}
use Rattle.sasi_lookup.specs.Files.{LookedFile}
use Rattle.sasi_lookup.specs.Lookups.{FilesOpen, LookupView}
use Rattle.sasi_lookup.proofs.LookupLaws.{turn_ready, turned_faults, turned_keys, turned_look, turned_read, turned_reads, turned_ready, turned_same}
use Rattle.sasi_lookup.proofs.lookup.Lookup.turn_to.Goals as goal

pub turn_files-requires-clause-read : goal.turn_files-requires-clause-read
turn_files-requires-clause-read g c =
    let v = g.H.Host.view c.args.host.now in
    subst (λ (fs : List LookedFile). CanStream (g.P.PageReader.agrees c.args.pages.now) (FilesOpen fs) v) (sym (c.deref_mut.ensures.value ∙ ap (λ (l : LookupView). l.files) c.self.view_is)) c.requires.read

pub turn_files-requires-clause-ready : goal.turn_files-requires-clause-ready
turn_files-requires-clause-ready g c =
    let v = g.H.Host.view c.args.host.now in
    let lookup = c.args.self.now in
    turn_ready v v 0 lookup c.self.inside.types _ [] [] (ap (λ (l : LookupView). l.types) c.self.view_is) (c.deref_mut.ensures.value ∙ ap (λ (l : LookupView). l.files) c.self.view_is) refl c.requires.ready

pub returns-clause-keys : goal.returns-clause-keys
returns-clause-keys g c =
    let v = g.H.Host.view c.args.host.now in
    let w = g.H.Host.view c.turn_files.new.host in
    let back : (with_items c.self.inside.files c.turn_files.new.files).items ≡ c.turn_files.new.files = with_items_is c.self.inside.files c.turn_files.new.files (omega (arith, c.turn_files.auto.files, c.deref_mut.ensures.len)) in
    let typed : c.self.inside.types ≡ c.args.self.now.types = ap (λ (l : LookupView). l.types) c.self.view_is in
    let same = c.deref_mut.ensures.value ∙ ap (λ (l : LookupView). l.files) c.self.view_is in
    turned_keys v w c.args.token c.args.self.now c.self.inside.types _ c.turn_files.new.files (with_items c.self.inside.files c.turn_files.new.files).items typed same back c.turn_files.result c.turn_files.ensures.keys

pub returns-clause-looks : goal.returns-clause-looks
returns-clause-looks g c =
    let v = g.H.Host.view c.args.host.now in
    let w = g.H.Host.view c.turn_files.new.host in
    let back : (with_items c.self.inside.files c.turn_files.new.files).items ≡ c.turn_files.new.files = with_items_is c.self.inside.files c.turn_files.new.files (omega (arith, c.turn_files.auto.files, c.deref_mut.ensures.len)) in
    let typed : c.self.inside.types ≡ c.args.self.now.types = ap (λ (l : LookupView). l.types) c.self.view_is in
    let same = c.deref_mut.ensures.value ∙ ap (λ (l : LookupView). l.files) c.self.view_is in
    turned_look v w c.args.token c.args.self.now c.self.inside.types _ c.turn_files.new.files (with_items c.self.inside.files c.turn_files.new.files).items typed same back c.turn_files.ensures.data

pub returns-clause-ready : goal.returns-clause-ready
returns-clause-ready g c =
    let v = g.H.Host.view c.args.host.now in
    let w = g.H.Host.view c.turn_files.new.host in
    let back : (with_items c.self.inside.files c.turn_files.new.files).items ≡ c.turn_files.new.files = with_items_is c.self.inside.files c.turn_files.new.files (omega (arith, c.turn_files.auto.files, c.deref_mut.ensures.len)) in
    let typed : c.self.inside.types ≡ c.args.self.now.types = ap (λ (l : LookupView). l.types) c.self.view_is in
    let same = c.deref_mut.ensures.value ∙ ap (λ (l : LookupView). l.files) c.self.view_is in
    turned_ready v w c.args.token c.args.self.now c.self.inside.types _ c.turn_files.new.files (with_items c.self.inside.files c.turn_files.new.files).items typed same back c.turn_files.ensures.ready

pub returns-clause-same : goal.returns-clause-same
returns-clause-same g c =
    let v = g.H.Host.view c.args.host.now in
    let w = g.H.Host.view c.turn_files.new.host in
    let back : (with_items c.self.inside.files c.turn_files.new.files).items ≡ c.turn_files.new.files = with_items_is c.self.inside.files c.turn_files.new.files (omega (arith, c.turn_files.auto.files, c.deref_mut.ensures.len)) in
    let typed : c.self.inside.types ≡ c.args.self.now.types = ap (λ (l : LookupView). l.types) c.self.view_is in
    let same = c.deref_mut.ensures.value ∙ ap (λ (l : LookupView). l.files) c.self.view_is in
    turned_same v w c.args.token c.args.self.now c.self.inside.types _ c.turn_files.new.files (with_items c.self.inside.files c.turn_files.new.files).items typed same back c.turn_files.ensures.names

pub returns-clause-reads : goal.returns-clause-reads
returns-clause-reads g c =
    let v = g.H.Host.view c.args.host.now in
    let w = g.H.Host.view c.turn_files.new.host in
    let back : (with_items c.self.inside.files c.turn_files.new.files).items ≡ c.turn_files.new.files = with_items_is c.self.inside.files c.turn_files.new.files (omega (arith, c.turn_files.auto.files, c.deref_mut.ensures.len)) in
    let typed : c.self.inside.types ≡ c.args.self.now.types = ap (λ (l : LookupView). l.types) c.self.view_is in
    let same = c.deref_mut.ensures.value ∙ ap (λ (l : LookupView). l.files) c.self.view_is in
    turned_reads v w c.args.token c.args.self.now c.self.inside.types _ c.turn_files.new.files (with_items c.self.inside.files c.turn_files.new.files).items typed same back c.turn_files.ensures.reads

pub returns-clause-read : goal.returns-clause-read
returns-clause-read g c =
    let v = g.H.Host.view c.args.host.now in
    let w = g.H.Host.view c.turn_files.new.host in
    let back : (with_items c.self.inside.files c.turn_files.new.files).items ≡ c.turn_files.new.files = with_items_is c.self.inside.files c.turn_files.new.files (omega (arith, c.turn_files.auto.files, c.deref_mut.ensures.len)) in
    let typed : c.self.inside.types ≡ c.args.self.now.types = ap (λ (l : LookupView). l.types) c.self.view_is in
    let same = c.deref_mut.ensures.value ∙ ap (λ (l : LookupView). l.files) c.self.view_is in
    turned_read v w c.args.token c.args.self.now c.self.inside.types _ c.turn_files.new.files (with_items c.self.inside.files c.turn_files.new.files).items typed same back _ _ _ c.turn_files.ensures.read

pub returns-clause-faults : goal.returns-clause-faults
returns-clause-faults g c =
    let v = g.H.Host.view c.args.host.now in
    let w = g.H.Host.view c.turn_files.new.host in
    let back : (with_items c.self.inside.files c.turn_files.new.files).items ≡ c.turn_files.new.files = with_items_is c.self.inside.files c.turn_files.new.files (omega (arith, c.turn_files.auto.files, c.deref_mut.ensures.len)) in
    let typed : c.self.inside.types ≡ c.args.self.now.types = ap (λ (l : LookupView). l.types) c.self.view_is in
    let same = c.deref_mut.ensures.value ∙ ap (λ (l : LookupView). l.files) c.self.view_is in
    turned_faults v w c.args.token c.args.self.now c.self.inside.types _ c.turn_files.new.files (with_items c.self.inside.files c.turn_files.new.files).items typed same back c.turn_files.result c.turn_files.ensures.faults
