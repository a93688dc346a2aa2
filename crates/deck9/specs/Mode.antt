-- The modes of a deck's transport, their names, and which of them may be shown on the way to a goal.
use Rattle.std.specs.Prelude.{ℕ, ◌==◌, Bool, List, [], ◌∷◌, codes}
use Rattle.std.specs.List.{list_any}
use Rattle.deck9.specs.declared.mode.Mode.{Mode}
use Rattle.deck9.specs.declared.mode.Mode.TheVariants.{Stop, Play, Rec, FastForward, Rewind, Shuttle, Jog, Var, Cued, Eject}

-- the modes in their order
abbrev pub every_mode : List Mode
every_mode = Stop ∷ Play ∷ Rec ∷ FastForward ∷ Rewind ∷ Shuttle ∷ Jog ∷ Var ∷ Cued ∷ Eject ∷ []

-- the name that a report gives
abbrev pub name_of : Mode → List ℕ
name_of Stop = codes "STOP"
name_of Play = codes "PLAY"
name_of Rec = codes "REC"
name_of FastForward = codes "FF"
name_of Rewind = codes "REW"
name_of Shuttle = codes "SHUTTLE"
name_of Jog = codes "JOG"
name_of Var = codes "VAR"
name_of Cued = codes "CUED"
name_of Eject = codes "EJECT"

-- the modes that may be shown on the way to a goal
abbrev pub on_the_way : Mode → List Mode
on_the_way Rec = Stop ∷ Play ∷ []
on_the_way Cued = Stop ∷ Play ∷ FastForward ∷ Rewind ∷ Shuttle ∷ Jog ∷ Var ∷ []
on_the_way Stop = Stop ∷ []
on_the_way Play = Stop ∷ []
on_the_way FastForward = Stop ∷ []
on_the_way Rewind = Stop ∷ []
on_the_way Shuttle = Stop ∷ []
on_the_way Jog = Stop ∷ []
on_the_way Var = Stop ∷ []
on_the_way Eject = Stop ∷ []

-- the place of a mode in their order
abbrev pub index_of : Mode → ℕ
index_of Stop = 0
index_of Play = 1
index_of Rec = 2
index_of FastForward = 3
index_of Rewind = 4
index_of Shuttle = 5
index_of Jog = 6
index_of Var = 7
index_of Cued = 8
index_of Eject = 9

-- two modes are one
abbrev pub is_mode : Mode → Mode → Bool
is_mode a b = index_of a == index_of b

-- one of the modes
abbrev pub is_one_of : List Mode → Mode → Bool
is_one_of ms m = list_any (is_mode m) ms
