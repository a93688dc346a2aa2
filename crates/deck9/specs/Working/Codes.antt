-- How a deck is stored, where a model shows one: from the codes of the types in it.
use Rattle.std.specs.Coded.{codes}
use Rattle.arrayvec.specs.ArrayVec.{array_vec_code}
use Rattle.smallvec.specs.SmallVec.{small_vec_code}
use Rattle.std_collections.specs.Layout.BTreeMap.{btree_map_code}

pub ruleset deck_codes = (codes, btree_map_code, small_vec_code, array_vec_code)
