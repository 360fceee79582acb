-- Tables as plain data.
use Rattle.std.specs.Prelude.{◌≡◌, ℕ, ◌*◌, List, length, IsTrue}
use Rattle.gpt_descriptors.specs.Sizes.{SetupData, table_words}
use Rattle.gpt_descriptors.specs.Level0.{is_l0_good, table_count}

pub record TableData : Type 0 where
  pub setup : SetupData
  pub l0 : List ℕ
  pub l1 : List ℕ

-- the level 0 words fit the setup, and there are the words of each table that they name
pub record AreTables (t : TableData) : Type 0 where
  pub good : IsTrue (is_l0_good t.setup t.l0)
  pub words : length t.l1 ≡ table_count t.l0 * table_words t.setup
