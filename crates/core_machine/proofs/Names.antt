-- The names of definitions that several proofs name, in one place.
pub use Rattle.bit_locks.specs.Locks.{lock_bit, lock_number, release_act, take_act}
pub use Rattle.core_machine.specs.Facts.{IsCounted, generation_word, is_on_block}
pub use Rattle.core_machine.specs.InnerAgentCaller.{SeesAt, SeesGeneration, comes_before, coming_at, is_around, is_due_at, is_inside, known_at, open_at}
pub use Rattle.core_machine.specs.InnerCallers.{IsMade, Sees, caller_answers, caller_next, caller_tasks, caller_took, duty_by, holder_by, holds, is_due, known_answers, number_by, open_by}
pub use Rattle.core_machine.specs.InnerInvariant.{AreAllowed, DutyOfEach, HoldsIn, IsHistoryOf, NumbersDiffer, pairs_of}
pub use Rattle.core_machine.specs.InnerMachine.{InvariantFor, MachineData, after_turn, after_turns, scene_of, trace_of}
pub use Rattle.core_machine.specs.InnerPlay.{caller_of, callers_from, next_number, opening_of, played}
pub use Rattle.core_machine.specs.InnerScene.{Scene, map_in, scene_after, state_in}
pub use Rattle.core_machine.specs.Scenarios.{cpu_number, first_map, geometry_of, is_cpu, map_at, task_of_ask, task_of_look, turns_in}
pub use Rattle.core_machine.specs.Trace.{TraceEvent, history_of}
pub use Rattle.core_machine.specs.declared.caller.Caller.{Caller}
pub use Rattle.delegate_ops.specs.Deciding.{address_of, generation_in, granule_place, idle_answer, worn_answer}
pub use Rattle.delegate_ops.specs.InnerAgents.{AgentData, HasActs, IsAgent, IsStage, fresh, goes_to, idle_answers, is_look, next_of, task_of, took_at}
pub use Rattle.delegate_ops.specs.InnerEntries.{entries_at, made_at}
pub use Rattle.delegate_ops.specs.InnerScript.{IsPrefix}
pub use Rattle.delegate_ops.specs.Script.{granule_of_task, lock_bit_of}
pub use Rattle.history.specs.Events.{CallEvent}
pub use Rattle.delegate_ops.specs.declared.stage.Change.{Change}
pub use Rattle.delegate_ops.specs.declared.stage.Kept.{Kept}
pub use Rattle.delegate_ops.specs.InnerStages.{Stage}
pub use Rattle.gpi_values.specs.Values.{value_of}
pub use Rattle.gpi_values.specs.declared.gpi.Gpi.{Gpi}
pub use Rattle.gpt_descriptors.specs.Canonical.{canonical_word}
pub use Rattle.gpt_descriptors.specs.Entries.{word_gpi}
pub use Rattle.gpt_descriptors.specs.Level0.{l1_index}
pub use Rattle.gpt_descriptors.specs.Places.{Duty, Generation, GeometryData, IsGeometry, IsWordName, Level1, Lock, WordName, blocks_in_region, gen_place_of, l0_words, l1_index_of, l1_place_of, l1_words, Line, place_of, word_count}
pub use Rattle.gpt_descriptors.specs.Sizes.{SetupData, granule_bytes, size_bytes, space_bytes, space_granules, space_words, table_words, words_of}
pub use Rattle.gpt_descriptors.specs.declared.size.Generations.{Generations}
pub use Rattle.gpt_descriptors.specs.declared.size.Size.{Size}
pub use Rattle.history.specs.Calls.{answer_at, answered_entries, call_entries, entries_by}
pub use Rattle.history.specs.Counts.{count_of, is_by, region_of}
pub use Rattle.history.specs.Entries.{call_in, caller_in, granule_in}
pub use Rattle.history.specs.Legality.{CallAllows, granule_of, needed}
pub use Rattle.history.specs.States.{State, after_entry, start, state_after}
pub use Rattle.history.specs.declared.call.Answer.{Answer}
pub use Rattle.history.specs.declared.call.Task.{Task}
pub use Rattle.history.specs.declared.entry.Entry.{Entry}
pub use Rattle.processor.specs.InnerCpus.{CpuData, IsCpu}
pub use Rattle.scenario_text.specs.declared.scenario.Scenario.{Scenario}
pub use Rattle.scenario_text.specs.declared.scenario.Script.{Script}
pub use Rattle.shared_words.specs.Acts.{after_act, answer_of, place_in}
pub use Rattle.shared_words.specs.declared.act.Act.{Act}
pub use Rattle.table_meaning.specs.Equation.{AreWords, Holder, Step, Whole, apart_by}
pub use Rattle.table_meaning.specs.Facts.{Facts, Keeps, step_of}
pub use Rattle.table_meaning.specs.declared.fusing.Fusing.{Fusing}
pub use Rattle.table_meaning.specs.declared.fusing.Fusing.TheVariants.{Ended, Storing, Testing}
pub use Rattle.core_machine.specs.declared.caller.Caller.TheVariants as caller
pub use Rattle.delegate_ops.specs.InnerStages as stage
pub use Rattle.fuse.specs.Merging as fuse
pub use Rattle.gpi_values.specs.declared.gpi.Gpi.TheVariants as gpi
pub use Rattle.gpt_descriptors.specs.declared.entry.L1Entry.TheVariants as l1
pub use Rattle.gpt_descriptors.specs.declared.size.Size.TheVariants as size
pub use Rattle.history.specs.declared.call.Answer.TheVariants as answer
pub use Rattle.history.specs.declared.call.Task.TheVariants as task
pub use Rattle.history.specs.declared.entry.Entry.TheVariants as entry
pub use Rattle.scenario_text.specs.declared.scenario.Script.TheVariants as script
pub use Rattle.shared_words.specs.declared.act.Act.TheVariants as act
