-- What the writers of parts of an object say: which tokens they append.
use Rattle.std.specs.Prelude.{◌≡◌, ◌≤◌, ◌++◌, ◌∷◌, ℕ, List, []}
use Rattle.json.specs.Json.{Items, Json, Members, item, member, no_items, no_members}
use Rattle.json.specs.Token.{Token}
use Rattle.json.specs.Tree.{HasNumbers, ItemsHaveNumbers, MembersHaveNumbers, depth, items_depth, json_tokens, members_depth}
use Rattle.json.specs.Written.{Written}

-- the tokens of items, and of members, without the closing bracket
abbrev pub front_of_items : Items → List Token
front_of_items no_items = []
front_of_items (item j js) = json_tokens j ++ front_of_items js

abbrev pub front_of_members : Members → List Token
front_of_members no_members = []
front_of_members (member k j ms) = Token.key k ∷ (json_tokens j ++ front_of_members ms)

-- these tokens were appended
abbrev pub AppendsTokens : Written → Written → List Token → Type 0
AppendsTokens old new ts = (new.tokens ≡ old.tokens ++ ts) × (new.before ≡ old.before)

-- a value was appended, in which lists and objects nest so deep at most
pub record AppendsValue (most : ℕ) (old new : Written) : Type 0 where
  pub value : Json
  pub numbers : HasNumbers value
  pub shallow : depth value ≤ most
  pub appends : AppendsTokens old new (json_tokens value)

-- the same of items of a list
pub record AppendsItems (most : ℕ) (old new : Written) : Type 0 where
  pub items : Items
  pub numbers : ItemsHaveNumbers items
  pub shallow : items_depth items ≤ most
  pub appends : AppendsTokens old new (front_of_items items)

-- the same of members of an object
pub record AppendsMembers (most : ℕ) (old new : Written) : Type 0 where
  pub members : Members
  pub numbers : MembersHaveNumbers members
  pub shallow : members_depth members ≤ most
  pub appends : AppendsTokens old new (front_of_members members)
