-- The text of tables: lines of fields between single spaces, each ended by a line feed.
use Rattle.std.specs.Prelude.{ℕ, ◌*◌, List, [], ◌∷◌, ◌++◌, take, drop, codes}
use Rattle.std.specs.List.{flat_map, range_with_len}
use Rattle.gpt_descriptors.specs.Sizes.{table_words}
use Rattle.gpt_descriptors.specs.Level0.{table_count}
pub use Rattle.line_text.specs.Lines.{line}
use Rattle.line_text.specs.Lines.{count, address}
use Rattle.table_build.specs.TableData.{TableData}
use Rattle.report_text.specs.declared.level.Level.{Level}
use Rattle.report_text.specs.declared.level.Level.TheVariants as level
use Rattle.report_text.specs.Runs.{Run, runs_of}

abbrev pub level_fields : Level → List (List ℕ)
level_fields level.Zero = codes "l0" ∷ []
level_fields (level.One table) = codes "l1" ∷ count table ∷ []

-- a run: the index of its first word, how many there are, and the word
abbrev pub run_line : Level → Run → List ℕ
run_line level run =
    line (level_fields level ++ count run.first ∷ count run.count ∷ address run.word ∷ [])

-- the words of a table, as maximal runs
abbrev pub runs_text : Level → List ℕ → List ℕ
runs_text level words = flat_map (run_line level) (runs_of words)

-- n tables of `size` words, from table first on
abbrev pub tables_text : ℕ → List ℕ → ℕ → ℕ → List ℕ
tables_text size words first n =
    flat_map (λ k. runs_text (level.One k) (take size (drop (k * size) words)))
    (range_with_len first n)

-- the level 0 words, and then those of each level 1 table
abbrev pub words_text : TableData → List ℕ
words_text t =
    runs_text level.Zero t.l0 ++ tables_text (table_words t.setup) t.l1 0 (table_count t.l0)

abbrev pub report_line : List ℕ → List ℕ
report_line command = line (codes "report" ∷ codes "1" ∷ command ∷ [])

abbrev pub end_line : List ℕ
end_line = line (codes "end" ∷ [])

-- the report of tables
unfoldable pub report_of_tables : TableData → List ℕ
report_of_tables t = report_line (codes "tables") ++ words_text t ++ end_line
