use Rattle.std.proofs.Common.{◌≡◌, ℕ, List, sym, ◌∙◌, subst, arith, lit<}
use Rattle.std.specs.Int.{to_be_bytes, w32}
use Rattle.std.proofs.lemmas.Result.{err_from_is_err_and}
use Rattle.sasi_host.specs.declared.name.FileName.{FileName}
use Rattle.sasi_host.specs.Damages.{HasAt, DamageShown, TellsSize}
use Rattle.sasi_host.proofs.Offsets.{window_at}
use Rattle.sasi_dataread.specs.Damages.ShowsPartition.{wrong_length}
use Rattle.sasi_dataread.proofs.Numbers.{number_at}
use Rattle.sasi_dataread.proofs.Bodies.{far_shown, length_shown, no_false_far, no_false_length}
use Rattle.sasi_dataread.proofs.partition.read_length.Goals as goal

pub returns-then-place-gt-MAX_FILE_SIZE-clause-damaged : goal.returns-then-place-gt-MAX_FILE_SIZE-clause-damaged
returns-then-place-gt-MAX_FILE_SIZE-clause-damaged g c types =
    far_shown types (g.H.Host.view c.args.host.now) c.args.buffered.now.file c.args.end c.args.place c.unexpected_end.result (omega arith)
    (λ bytes is. (g.met.H.Host.sound c.args.host.now).fits c.args.buffered.now.file bytes is)
    (subst (λ (n : FileName). DamageShown (g.H.Host.view c.args.host.now) n (TellsSize n) c.unexpected_end.result) c.file-file.ensures c.unexpected_end.ensures.damaged)

pub returns-then-place-gt-MAX_FILE_SIZE-clause-undamaged : goal.returns-then-place-gt-MAX_FILE_SIZE-clause-undamaged
returns-then-place-gt-MAX_FILE_SIZE-clause-undamaged g c = no_false_far (g.H.Host.view c.args.host.now) c.args.buffered.now.file c.args.end c.args.place
    c.unexpected_end.result (omega arith) (λ bytes is. (g.met.H.Host.sound c.args.host.now).fits c.args.buffered.now.file bytes is)

pub returns-in_err-read_into-clause-damaged : goal.returns-in_err-read_into-clause-damaged
returns-in_err-read_into-clause-damaged g c types =
    let p = err_from_is_err_and c.from_residual.result c.from_residual.ensures.1 in
    rw (p.1, p.2) (length_shown types (g.H.Host.view c.args.host.now) c.args.buffered.now.file c.args.end c.args.place c.in_err-read_into.field-0.0 c.in_err-read_into.ensures.damaged)

pub returns-in_err-read_into-clause-undamaged : goal.returns-in_err-read_into-clause-undamaged
returns-in_err-read_into-clause-undamaged g c =
    let p = err_from_is_err_and c.from_residual.result c.from_residual.ensures.1 in
    rw (p.1, p.2) (no_false_length (g.H.Host.view c.args.host.now) c.args.buffered.now.file c.args.end c.args.place c.in_err-read_into.field-0.0 c.in_err-read_into.ensures.damaged)

pub returns-then-is_wrong_length-clause-damaged : goal.returns-then-is_wrong_length-clause-damaged
returns-then-is_wrong_length-clause-damaged g c types bytes is =
    let field = c.read_into.new.out in
    let stands : HasAt bytes c.args.place field = window_at bytes field c.args.place 4 (c.in_ok-read_into.ensures.ok bytes is) (c.in_ok-read_into.ensures.within bytes is (lit< tt)) in
    wrong_length (record {
      named = c.found-damage.ensures.file ∙ c.file-file.ensures;
      rule = c.found-damage.ensures.rule;
      at = c.found-damage.ensures.at;
      stands = subst (λ (l : List ℕ). HasAt bytes c.args.place l) (sym c.found-damage.ensures.seen) stands;
      count = c.length_in.result;
      told = c.found-damage.ensures.seen ∙ sym c.length_in.ensures;
      fits = omega arith;
      wrong = λ length.
          let over = c.is_wrong_length.ensures.wrong c.if-is_wrong_length.true (omega (arith, length.some)) (omega (arith, length.short)) in
          omega (arith, over, length.within);
    })

pub returns-then-is_wrong_length-clause-undamaged : goal.returns-then-is_wrong_length-clause-undamaged
returns-then-is_wrong_length-clause-undamaged g c bytes count is has wanted =
    let stands : HasAt bytes c.args.place (to_be_bytes w32 c.length_in.result) = window_at bytes (to_be_bytes w32 c.length_in.result) c.args.place 4
    (c.length_in.ensures ∙ c.in_ok-read_into.ensures.ok bytes is) (c.in_ok-read_into.ensures.within bytes is (lit< tt)) in
    let same : c.length_in.result ≡ count = number_at bytes c.args.place c.length_in.result count (omega arith) (omega (arith, wanted.short)) stands has in
    let over = c.is_wrong_length.ensures.wrong c.if-is_wrong_length.true (omega (arith, same, wanted.some)) (omega (arith, same, wanted.short)) in
    omega (arith, over, same, wanted.within)

pub returns-clause-ok : goal.returns-clause-ok
returns-clause-ok g c bytes is =
    let stands : HasAt bytes c.args.place (to_be_bytes w32 c.length_in.result) = window_at bytes (to_be_bytes w32 c.length_in.result) c.args.place 4
    (c.length_in.ensures ∙ c.in_ok-read_into.ensures.ok bytes is) (c.in_ok-read_into.ensures.within bytes is (lit< tt)) in
    subst (λ (n : ℕ). HasAt bytes c.args.place (to_be_bytes w32 n)) (sym c.from-count.ensures) stands
