-- What is known of a source and of a sink over memory.
use Rattle.std.specs.Prelude.{ℕ, ◌-◌, List, ◌++◌, drop, length}
use Rattle.gpt_io.specs.Counts.{counted}

-- `left` are the bytes still to come, `failing` the numbers of the reads that fail, counted from 1,
-- `reads` the reads so far and `faults` those of them that failed
pub record SourceState : Type 0 where
  pub left : List ℕ
  pub failing : List ℕ
  pub reads : ℕ
  pub faults : ℕ

-- after a read that gave the first n bytes
abbrev pub after_read : SourceState → ℕ → SourceState
after_read s n = record s { left = drop n s.left; reads = counted s.reads 1 }

-- after a read that failed
abbrev pub after_read_fault : SourceState → SourceState
after_read_fault s = record s { reads = counted s.reads 1; faults = counted s.faults 1 }

-- `held` are the bytes taken so far, `most` the most that one write takes, `room` how many more can
-- be taken, `failing` the numbers of the writes that fail, counted from 1, `writes` the writes so
-- far and `faults` those of them that failed
pub record SinkState : Type 0 where
  pub held : List ℕ
  pub most : ℕ
  pub room : ℕ
  pub failing : List ℕ
  pub writes : ℕ
  pub faults : ℕ

-- after a write that took these bytes
abbrev pub after_write : SinkState → List ℕ → SinkState
after_write s bytes = record s {
  held = s.held ++ bytes;
  room = s.room - length bytes;
  writes = counted s.writes 1;
}

-- after a write that failed
abbrev pub after_write_fault : SinkState → SinkState
after_write_fault s = record s { writes = counted s.writes 1; faults = counted s.faults 1 }
