use Rattle.sasi_cql.proofs.Parsing.{gives_statement, gives_spelled, gives_written, gives_failure, gives_none, gives_offset}
use Rattle.sasi_cql.proofs.parser.parse.Goals as goal

pub returns-clause-statement : goal.returns-clause-statement
returns-clause-statement c = gives_statement c.args.text.now c.parse_bytes.result (rw c.as_bytes.ensures.value at c.parse_bytes.ensures)

pub returns-clause-reads : goal.returns-clause-reads
returns-clause-reads c = gives_spelled c.args.text.now c.parse_bytes.result (rw c.as_bytes.ensures.value at c.parse_bytes.ensures)

pub returns-clause-written : goal.returns-clause-written
returns-clause-written c = gives_written c.args.text.now c.parse_bytes.result (rw c.as_bytes.ensures.value at c.parse_bytes.ensures) c.utf8.text

pub returns-clause-fails : goal.returns-clause-fails
returns-clause-fails c = gives_failure c.args.text.now c.parse_bytes.result (rw c.as_bytes.ensures.value at c.parse_bytes.ensures)

pub returns-clause-refuses : goal.returns-clause-refuses
returns-clause-refuses c = gives_none c.args.text.now c.parse_bytes.result (rw c.as_bytes.ensures.value at c.parse_bytes.ensures)

pub returns-clause-syntax_offset : goal.returns-clause-syntax_offset
returns-clause-syntax_offset c = gives_offset c.args.text.now c.parse_bytes.result (rw c.as_bytes.ensures.value at c.parse_bytes.ensures)
