use Rattle.std.proofs.Common.{◌≡◌, ℕ, ◌+◌, ◌*◌, ◌-◌, ◌≤◌, ◌/◌, Option, Some, Err, [], ◌++◌, length, drop, refl, rules, sym, ◌∙◌, ap, subst, arith, length-append}
use Rattle.std.proofs.lemmas.Bool.Decides.{nat_tests}
use Rattle.std.proofs.lemmas.Result.{err_from_is_err_and}
use borrow.Rule.Slice.PartMut.{put_mid}
use Rattle.sasi_host.specs.Names.{Bytes}
use Rattle.sasi_host.specs.Damages.{HasAt}
use Rattle.sasi_host.specs.Buffered.{unbuffered_pages}
use Rattle.sasi_host.proofs.CauseLaws.{fault_reads, ok_reads, reads_on}
use Rattle.sasi_host.proofs.PageReadingLaws.{reads_then}
use Rattle.sasi_host.proofs.Offsets.{at_ends}
use Rattle.sasi_host.proofs.Pages.{end_before, there_on}
use Rattle.sasi_tokentree.specs.Format.{node_header}
use Rattle.sasi_tokentree.specs.declared.node_read.Node.{Node}
use Rattle.sasi_tokentree.proofs.Sizes.{head_length}
use Rattle.sasi_tokentree.proofs.AfterRead.{reads_still}
use Rattle.sasi_tokentree.proofs.NodeReads.{node_is, no_false_early, entries_end, filled_behind, both_read}
use Rattle.sasi_tokentree.proofs.node_read.read_node.Goals as goal

-- what the buffer then has
out_is : (header old out : Bytes) (level count : ℕ) → header ≡ node_header level count → put_mid 8 (length (header ++ drop 8 old) - 8)
    (header ++ drop 8 old) out ≡ node_header level count ++ out
out_is header old out level count is = filled_behind header old out _ (ap length is ∙ head_length level count) refl ∙ ap (λ (l : Bytes). l ++ out) is

-- a header and the entries behind it are on two pages at most
two_pages : (buffered : Option ℕ) (at long : ℕ) → long ≤ 4080 → unbuffered_pages buffered at 8 + unbuffered_pages (Some ((at + 7) / 4096)) (at + 8) long ≤ 2
two_pages buffered at long most = grind (arith, nat_tests)

two_reads : (buffered page : Option ℕ) (at long : ℕ) → page ≡ Some ((at + 7) / 4096) → long ≤ 4080 → unbuffered_pages buffered at 8 + unbuffered_pages page (at + 8) long ≤ 2
two_reads buffered page at long is most = subst (λ (p : Option ℕ). unbuffered_pages buffered at 8 + unbuffered_pages p (at + 8) long ≤ 2) (sym is) (two_pages buffered at long most)

one_header : (buffered : Option ℕ) (at : ℕ) → unbuffered_pages buffered at 8 ≤ 2
one_header buffered at = omega arith

pub read_header-requires : goal.read_header-requires
read_header-requires g c = record { read = c.requires.read; place = c.requires.place; most = c.requires.most; length = search rules }

pub read_into-requires : goal.read_into-requires
read_into-requires g c =
    let read = c.read_header.ensures.read in
    record {
      there = there_on _ _ c.args.buffered.now.file _ read.changes read.file c.requires.read.there;
      agrees = read.agrees;
      buffered = read.buffered;
      offset = omega (arith, c.requires.length, c.requires.place, c.requires.most);
    }

pub returns-in_err-read_header-clause-damaged : goal.returns-in_err-read_header-clause-damaged
returns-in_err-read_header-clause-damaged g c =
    let p = err_from_is_err_and c.from_residual.result c.from_residual.ensures.1 in
    rw (p.1, p.2) c.in_err-read_header.ensures.damaged

pub returns-in_err-read_header-clause-undamaged : goal.returns-in_err-read_header-clause-undamaged
returns-in_err-read_header-clause-undamaged g c =
    let p = err_from_is_err_and c.from_residual.result c.from_residual.ensures.1 in
    rw (p.1, p.2) c.in_err-read_header.ensures.undamaged

pub returns-in_err-read_header-clause-read : goal.returns-in_err-read_header-clause-read
returns-in_err-read_header-clause-read g c = c.read_header.ensures.read

pub returns-in_err-read_into-clause-causes : goal.returns-in_err-read_into-clause-causes
returns-in_err-read_into-clause-causes g c =
    let p = err_from_is_err_and c.from_residual-in_err-read_into.result c.from_residual-in_err-read_into.ensures.1 in
    let f = c.in_err-read_into.field-0.0 in
    rw (p.1, p.2) (fault_reads _ _ 2 2 f (omega arith) (reads_on _ _ _ (unbuffered_pages c.args.buffered.now.page c.args.node.at 8) _ 2 _ (Err f)
    (two_reads c.args.buffered.now.page _ c.args.node.at _ c.in_ok-read_header.ensures.page (omega (arith, c.requires.length, c.requires.most))) c.in_ok-read_header.ensures.causes c.in_err-read_into.ensures.causes))

pub returns-in_err-read_header-clause-causes : goal.returns-in_err-read_header-clause-causes
returns-in_err-read_header-clause-causes g c =
    let p = err_from_is_err_and c.from_residual.result c.from_residual.ensures.1 in
    rw (p.1, p.2) (fault_reads _ _ _ 2 c.in_err-read_header.field-0.0 (one_header c.args.buffered.now.page c.args.node.at) c.in_err-read_header.ensures.causes)

pub returns-clause-causes : goal.returns-clause-causes
returns-clause-causes g c =
    ok_reads _ _ 2 _ _ (reads_on _ _ _ (unbuffered_pages c.args.buffered.now.page c.args.node.at 8) _ 2 _ _
    (two_reads c.args.buffered.now.page _ c.args.node.at _ c.in_ok-read_header.ensures.page (omega (arith, c.requires.length, c.requires.most))) c.in_ok-read_header.ensures.causes c.in_ok-read_into.ensures.causes)

pub returns-in_err-read_into-clause-damaged : goal.returns-in_err-read_into-clause-damaged
returns-in_err-read_into-clause-damaged g c =
    let p = err_from_is_err_and c.from_residual-in_err-read_into.result c.from_residual-in_err-read_into.ensures.1 in
    let node : Node = c.args.node in
    let end = c.args.node.at + (8 + 16 * c.args.node.count) in
    rw (p.1, p.2) (entries_end (λ n. n ≡ node) (g.H.Host.view c.args.host.now) c.args.buffered.now.file end node c.in_err-read_into.field-0.0 refl (omega arith)
    c.in_ok-read_header.ensures.is (end_before _ _ c.args.buffered.now.file _ _ end c.in_err-read_into.field-0.0 c.read_header.ensures.read.changes
    c.read_header.ensures.read.file (omega (arith, c.requires.length)) c.in_err-read_into.ensures.damaged))

pub returns-in_err-read_into-clause-undamaged : goal.returns-in_err-read_into-clause-undamaged
returns-in_err-read_into-clause-undamaged g c =
    let p = err_from_is_err_and c.from_residual-in_err-read_into.result c.from_residual-in_err-read_into.ensures.1 in
    let end = c.args.node.at + (8 + 16 * c.args.node.count) in
    rw (p.1, p.2) (no_false_early (g.H.Host.view c.args.host.now) c.args.buffered.now.file c.args.node.level c.args.node.at c.args.node.count end c.in_err-read_into.field-0.0 (omega arith)
    (end_before _ _ c.args.buffered.now.file _ _ end c.in_err-read_into.field-0.0 c.read_header.ensures.read.changes c.read_header.ensures.read.file
    (omega (arith, c.requires.length)) c.in_err-read_into.ensures.damaged))

pub returns-in_err-read_into-clause-read : goal.returns-in_err-read_into-clause-read
returns-in_err-read_into-clause-read g c = reads_then _ _ _ _ _ _ _ _ _ _ _ c.read_header.ensures.read (record {
  agrees = c.read_into.ensures.agrees;
  covers = c.read_into.ensures.covers;
  changes = c.read_into.ensures.changes;
  buffered = c.read_into.ensures.buffered;
  file = c.read_into.ensures.file;
})

pub returns-clause-header : goal.returns-clause-header
returns-clause-header g c =
    let out = c.read_into.new.out in
    let head = node_header c.args.node.level c.args.node.count in
    subst (λ (l : Bytes). HasAt l 0 head) (sym (out_is c.read_header.new.out c.args.out.now out c.args.node.level c.args.node.count c.in_ok-read_header.ensures.ok))
    (record { front = []; rest = out; is = refl; offset_is = refl })

pub returns-clause-is : goal.returns-clause-is
returns-clause-is g c bytes is =
    let out = c.read_into.new.out in
    let head = node_header c.args.node.level c.args.node.count in
    let now = reads_still _ _ c.args.buffered.now.file _ bytes c.read_header.ensures.read.changes c.read_header.ensures.read.file is in
    subst (λ (l : Bytes). HasAt bytes c.args.node.at l) (sym (out_is c.read_header.new.out c.args.out.now out c.args.node.level c.args.node.count c.in_ok-read_header.ensures.ok))
    (both_read bytes head out c.args.node.at _ (c.in_ok-read_header.ensures.is bytes is) (head_length c.args.node.level c.args.node.count)
    (c.in_ok-read_into.ensures.ok bytes now) (c.in_ok-read_into.ensures.within bytes now))

-- its length
out_length : (header old out : Bytes) (level count : ℕ) → header ≡ node_header level count → length out ≡ 16 * count → length
    (put_mid 8 (length (header ++ drop 8 old) - 8) (header ++ drop 8 old) out) ≡ 8 + 16 * count
out_length header old out level count is long =
    ap length (out_is header old out level count is) ∙ omega (arith, length-append (node_header level count) out, head_length level count, long)

pub returns-clause-ok : goal.returns-clause-ok
returns-clause-ok g c bytes entries is has long =
    node_is bytes _ c.args.node.level c.args.node.at entries has (returns-clause-is g c bytes is)
    (out_length c.read_header.new.out c.args.out.now c.read_into.new.out c.args.node.level c.args.node.count c.in_ok-read_header.ensures.ok (omega (arith, c.requires.length))
    ∙ ap (λ (n : ℕ). 8 + 16 * n) (sym long))

pub returns-clause-whole : goal.returns-clause-whole
returns-clause-whole g c bytes is =
    omega (
      arith,
      at_ends bytes c.args.node.at _ (returns-clause-is g c bytes is),
      out_length c.read_header.new.out c.args.out.now c.read_into.new.out c.args.node.level c.args.node.count c.in_ok-read_header.ensures.ok
          (omega (arith, c.requires.length)),
    )

pub returns-clause-read : goal.returns-clause-read
returns-clause-read g c = reads_then _ _ _ _ _ _ _ _ _ _ _ c.read_header.ensures.read (record {
  agrees = c.read_into.ensures.agrees;
  covers = c.read_into.ensures.covers;
  changes = c.read_into.ensures.changes;
  buffered = c.read_into.ensures.buffered;
  file = c.read_into.ensures.file;
})
