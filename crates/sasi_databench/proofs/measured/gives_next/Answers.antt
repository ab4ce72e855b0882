use Rattle.sasi_databench.proofs.measured.gives_next.Goals as goal

pub next-requires-clause-pairs_buffered : goal.next-requires-clause-pairs_buffered
next-requires-clause-pairs_buffered c page bytes is reads = absurd (cc)

pub next-requires-clause-buffered : goal.next-requires-clause-buffered
next-requires-clause-buffered c page bytes is reads = absurd (cc)

pub next-requires-clause-at_last : goal.next-requires-clause-at_last
next-requires-clause-at_last c bytes reads = absurd (cc)

pub next-requires-clause-last : goal.next-requires-clause-last
next-requires-clause-last c = record { holds = λ bytes reads. absurd (cc); content = λ bytes partitioner content agrees reads data_file of keys. absurd (cc) }
