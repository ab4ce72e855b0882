use Rattle.std.proofs.Common.{◌≡◌, false, length, take, drop, ◌∙◌, sym}
use Rattle.sasi_model.specs.Abbreviations.{starts_word}
use Rattle.sasi_cql.proofs.Lexing.{too_short, goes_on, uuid_first, not_parsed}
use Rattle.sasi_cql.proofs.lexer.uuid_in_front.Goals as goal

pub returns-then-bytes-lt-UUID_SIZE : goal.returns-then-bytes-lt-UUID_SIZE
returns-then-bytes-lt-UUID_SIZE c = too_short c.args.bytes.now c.if-bytes-lt-UUID_SIZE.true

pub returns-then-starts_word : goal.returns-then-starts_word
returns-then-starts_word c = goes_on c.args.bytes.now (rw c.split_at.ensures.back at (sym c.starts_word.ensures ∙ c.if-starts_word.true))

pub returns-in-Ok : goal.returns-in-Ok
returns-in-Ok c =
    let text = c.split_at.ensures.front in
    let alone : starts_word (drop 36 c.args.bytes.now) ≡ false = rw c.split_at.ensures.back at (sym c.starts_word.ensures ∙ c.if-starts_word.false) in
    let size : length (take 36 c.args.bytes.now) ≡ 36 = rw text at c.split_at.ensures.front_len in
    rw c.as_bytes.ensures ((rw text at c.in-Ok.ensures.bytes) ∙ uuid_first c.args.bytes.now alone size)

pub returns-in-Err : goal.returns-in-Err
returns-in-Err c =
    let text = c.split_at.ensures.front in
    let alone : starts_word (drop 36 c.args.bytes.now) ≡ false = rw c.split_at.ensures.back at (sym c.starts_word.ensures ∙ c.if-starts_word.false) in
    let size : length (take 36 c.args.bytes.now) ≡ 36 = rw text at c.split_at.ensures.front_len in
    not_parsed (take 36 c.args.bytes.now) (rw text at c.in-Err.ensures.ok.1) ∙ uuid_first c.args.bytes.now alone size
