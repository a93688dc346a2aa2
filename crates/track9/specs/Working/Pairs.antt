-- How pairs of a goal and a shown mode change.
use Rattle.std.specs.Prelude.{if◌then◌else◌, ◌∷◌}
use Rattle.track9.specs.Working.Deck.{[], bit_of, Bool, both, Cued, either, Eject, FastForward, has, is_mode, is_some, Jog, List, Mode, modes, ModeSet, Play, Rec, Rewind, shown_with}
use Rattle.track9.specs.Working.Acting.{Acted, reach_of}
use Rattle.track9.specs.Working.Deck.{Shuttle, Stop, Var}

-- the pairs that have these shown modes for each goal
abbrev pub by_goal : (Mode → ModeSet) → List ModeSet
by_goal f = f Stop ∷ f Play ∷ f Rec ∷ f FastForward ∷ f Rewind ∷ f Shuttle ∷ f Jog ∷ f Var ∷ f Cued ∷ f Eject ∷ []

abbrev pub no_pairs : List ModeSet
no_pairs = by_goal (λ g. modes 0)

abbrev pub all_pairs : List ModeSet
all_pairs = by_goal (λ g. modes 0x3FF)

-- all modes that may be shown, with any goal
abbrev pub all_shown : List ModeSet → ModeSet
all_shown p =
    either (either (either (either (either (either (either (either (either
    (shown_with p Stop) (shown_with p Play)) (shown_with p Rec)) (shown_with p FastForward)) (shown_with p Rewind))
    (shown_with p Shuttle)) (shown_with p Jog)) (shown_with p Var)) (shown_with p Cued)) (shown_with p Eject)

-- a goal, where a mode may be shown with it
abbrev pub goal_if_shown : List ModeSet → Mode → ModeSet
goal_if_shown pairs g = if is_some (shown_with pairs g) then modes (bit_of g) else modes 0

-- all goals that a mode may be shown with
abbrev pub goals_of : List ModeSet → ModeSet
goals_of pairs = all_shown (by_goal (goal_if_shown pairs))

-- there is a pair
abbrev pub some_pair : List ModeSet → Bool
some_pair pairs = is_some (all_shown pairs)

-- the modes that a drift can show with a goal that it keeps, of these shown modes and with these in its reach
abbrev pub kept_goal : ModeSet → ModeSet → ModeSet
kept_goal s reach = if is_some s then either s reach else s

-- the modes that a deck can show that has come to a halt, with these in the reach of STOP
abbrev pub halted : List ModeSet → ModeSet → ModeSet
halted p reach = if some_pair p then reach else modes 0

-- the modes that a drift can show with the goal g
abbrev pub drifted_with : Acted → List ModeSet → Mode → ModeSet
drifted_with acted p g =
    if is_mode g Stop then either (kept_goal (shown_with p g) (reach_of acted g)) (halted p (reach_of acted Stop))
    else kept_goal (shown_with p g) (reach_of acted g)

-- the pairs that a drift can reach
abbrev pub drifted : Acted → List ModeSet → List ModeSet
drifted acted p = by_goal (drifted_with acted p)

-- the pairs with this goal in place of theirs
abbrev pub gone_with : Mode → List ModeSet → Mode → ModeSet
gone_with goal p g = if is_mode g goal then all_shown p else modes 0

abbrev pub gone : Mode → List ModeSet → List ModeSet
gone goal p = by_goal (gone_with goal p)

-- these modes shown with a goal, if it is one of those, and with each of those
abbrev pub shown_if : ModeSet → ModeSet → Mode → ModeSet
shown_if goals shown g = if has goals.0 g then shown else modes 0

abbrev pub pairs_of : ModeSet → ModeSet → List ModeSet
pairs_of goals shown = by_goal (shown_if goals shown)

-- the pairs of either
abbrev pub joined : List ModeSet → List ModeSet → List ModeSet
joined p q = by_goal (λ g. either (shown_with p g) (shown_with q g))

-- the pairs with these modes shown
abbrev pub masked : ModeSet → List ModeSet → List ModeSet
masked mask p = by_goal (λ g. both (shown_with p g) mask)
