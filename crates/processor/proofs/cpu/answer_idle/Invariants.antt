use Rattle.std.proofs.Common.{◌≡◌, ◌+◌, ◌++◌, length, drop}
use Rattle.std.specs.Prelude.{vec_capacity}
use Rattle.processor.specs.InnerCpus.{idle_answers}
use Rattle.processor.proofs.cpu.answer_idle.Given as goal

abbrev pub invariant-loop-task : goal.invariant-loop-task
invariant-loop-task l = record {
  items : l.answers.items ++ idle_answers l.geometry (drop (length l.answers.items) l.tasks) ≡ l.initial.answers.items ++ idle_answers l.geometry (drop (length l.initial.answers.items) l.tasks);
  count : length l.answers.items ≡ length l.initial.answers.items + l.task-index;
  capacity : vec_capacity l.answers ≡ vec_capacity l.initial.answers;
}
