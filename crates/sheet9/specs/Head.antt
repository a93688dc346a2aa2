-- The command that a key names, with a selector or without; which blocks are no commands, and which control the transport.
use Rattle.std.specs.Prelude.{ℕ, ◌+◌, ◌*◌, ◌==◌, ◌||◌, if◌then◌else◌, Bool, List, [], ◌∷◌, length, Option, Some, None}
use Rattle.capture9.specs.Fields.{byte_in}
use Rattle.block9.specs.Command.{group_of}
use Rattle.block9.specs.Replies.{time_sense, time_sense_with}

-- a block's first two bytes as one number
abbrev pub head_from : Option ℕ → Option ℕ → Option ℕ
head_from (Some first) (Some code) = Some (256 * first + code)
head_from _ _ = None

-- the first two bytes that a key names: two hexadecimal digits each, of either case, with one blank (32) between
abbrev pub head_named : List ℕ → Option ℕ
head_named (a ∷ b ∷ blank ∷ c ∷ d ∷ []) = if blank == 32 then head_from (byte_in (a ∷ b ∷ [])) (byte_in (c ∷ d ∷ [])) else None
head_named _ = None

-- CURRENT TIME SENSE with a selector, as one number
abbrev pub with_selector : Option ℕ → Option ℕ → Option ℕ
with_selector (Some head) (Some selector) = if head == time_sense then Some (time_sense_with selector) else None
with_selector _ _ = None

-- what a key of three bytes names: CURRENT TIME SENSE, and behind a blank a selector, which may be any byte
abbrev pub selector_named : List ℕ → Option ℕ
selector_named (a ∷ b ∷ first ∷ c ∷ d ∷ second ∷ e ∷ f ∷ []) = if second == 32 then with_selector (head_named (a ∷ b ∷ first ∷ c ∷ d ∷ [])) (byte_in (e ∷ f ∷ [])) else None
selector_named _ = None

-- a key of eight characters has three bytes
abbrev pub head_or_selector : List ℕ → Option ℕ
head_or_selector key = if length key == 8 then selector_named key else head_named key

-- blocks of groups 1 and 7 are a deck's replies
abbrev pub is_reply : ℕ → Bool
is_reply head = group_of head == 1 || group_of head == 7

-- group 2 is transport control
abbrev pub is_transport : ℕ → Bool
is_transport head = group_of head == 2
