use Rattle.gpt_descriptors.proofs.PlaceLemmas.{place_below, place_distinct, l1_index_one, l1_index_within}
use Rattle.gpt_descriptors.proofs.places.places_are_distinct.Goals as goal

pub returns : goal.returns
returns c = record {
  below = λ g n geometry is. place_below g n is;
  distinct = λ g a b geometry is_a is_b same. place_distinct g a b is_a is_b same;
  one_word = l1_index_one;
  in_tables = l1_index_within;
}
