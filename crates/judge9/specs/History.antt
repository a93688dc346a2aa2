-- How far the judging of a capture has come: what was read of it, and what was told.
use Rattle.std.specs.Prelude.{◌≡◌, ◌⊎◌, ℕ, List, [], ◌∷◌, ◌++◌}
use Rattle.capture9.specs.declared.line_byte.LineByte.{LineByte}
use Rattle.capture9.specs.Capture.{IsStartOf}
use Rattle.block9.specs.declared.reason.Reason.{Reason}
use Rattle.report9.specs.declared.verdict.Beginning.{Beginning}
use Rattle.judge9.specs.Beginning.{Rest, judged_from}
use Rattle.judge9.specs.Parts.{AreEvents, AreParts, BrokenPart, Event, IsPart, Part}
use Rattle.judge9.specs.Verdict.{Breaks, Terms}

-- the records that were read; the parts of them that broke, one after another, all of which was told; how far the part after them was
-- told; and what was told besides of the record that breaks this one
pub record History : Type 0 where
  pub items : List LineByte
  pub broken : List BrokenPart
  pub part : Part
  pub besides : List Event

-- a part of which nothing was judged, behind so many records of the capture
abbrev pub no_part : ℕ → Part
no_part past = record { past = past; records = []; exchanges = []; tail = []; events = [] }

-- before the first record
abbrev pub nothing_told : History
nothing_told = record { items = []; broken = []; part = no_part 0; besides = [] }

-- what was told since the last break
abbrev pub told_in : History → List Event
told_in h = h.part.events ++ h.besides

-- what was told besides of the record behind these of a part: nothing, or what is told of it before it breaks the part
abbrev pub IsBesides : Terms → Rest → Part → List Event → Type 0
IsBesides terms left part besides =
    (besides ≡ [])
    ⊎ ((r : LineByte) × (after : List LineByte) × (left.records ≡ part.records ++ r ∷ after) × (reason : Reason) × Breaks terms part.records r reason
    × AreEvents terms part.past [] (part.records ++ r ∷ []) (part.events ++ besides))

-- these are the parts of the records that were read: those that broke, and what is left after them, which begins with the last
pub record IsHistory (terms : Terms) (beginning : Beginning) (h : History) : Type 0 where
  pub left : Rest
  pub parts : AreParts terms (judged_from beginning h.items) h.broken left
  pub is_part : IsPart terms h.part
  pub past : h.part.past ≡ left.past
  pub begins : IsStartOf h.part.records left.records
  pub besides : IsBesides terms left h.part h.besides
