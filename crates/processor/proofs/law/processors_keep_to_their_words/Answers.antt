use Rattle.processor.proofs.CpuLemmas.{fresh_is_cpu, took_is_cpu, took_keeps, next_word, next_below, next_writes, next_duty, next_other}
use Rattle.processor.proofs.law.processors_keep_to_their_words.Goals as goal

pub returns : goal.returns
returns c = record { start = fresh_is_cpu; kept = took_is_cpu; same = took_keeps; named = next_word; below = next_below; writes = next_writes; duty = next_duty; other = next_other }
