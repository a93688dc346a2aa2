-- How the program ends, by the words of its command line, the capture that they name and the writer.
use Rattle.std.specs.Prelude.{◌≡◌, ◌⊎◌, ℕ, [], List, Option, Result, Ok, Err, Vec, String, map}
use Rattle.std.specs.Global.{Global}
use Rattle.std.specs.Io.KnownBytes.{Keeps}
use Rattle.std.specs.String.{string_bytes}
use Rattle.std.specs.declared.io.Error.{Error}
use Rattle.std.specs.declared.io.ErrorKind.{ErrorKind}
use Rattle.deck9.specs.declared.deck.Deck.{Deck}
use Rattle.deck9.specs.declared.profile.Profile.{Profile}
use Rattle.words9.specs.declared.task.Task.{Task}
use Rattle.words9.specs.declared.task.WordsFault.{WordsFault}
use Rattle.words9.specs.declared.task.WordsFault.TheVariants as words
use Rattle.words9.specs.Words.{AsksVersion, IsNoTask, IsNoValueOf, IsTaskOf, MayAskVersion, joined}
use Rattle.program9.specs.declared.buffered.Buffered.{Buffered}
use Rattle.program9.specs.declared.ending.End.{End}
use Rattle.program9.specs.declared.ending.End.TheVariants as end
use Rattle.program9.specs.declared.ending.Outcome.{Outcome}
use Rattle.program9.specs.declared.judging.Job.{Job}
use Rattle.program9.specs.declared.no_header.FoundHeader.{FoundHeader}
use Rattle.program9.specs.Header.{with_file}
use Rattle.program9.specs.Judging.{EndsJudged, Promise}
use Rattle.program9.specs.Opening.{no_memory, outcome_unopened}
use Rattle.program9.specs.Outcome.{told_after}
use Rattle.program9.specs.Sheet.{EndsOther, FindsDeck}
use Rattle.program9.specs.Version.{TellsVersion}
use Rattle.program9.specs.Want.{kept_by, with_want}

-- what the program is given besides its words: how the captures of tasks, and the sheets that they name, are opened, and what is to
-- come of each; and what a writer holds, where that is known
pub record Streams (R S W : Type 0) : Type 1 where
  pub opens : Option (String Global) → Result R Error → Type 0
  pub coming : R → Option (List ℕ)
  pub opens_sheet : String Global → Result S Error → Type 0
  pub coming_sheet : S → Option (List ℕ)
  pub contents : W → Option (List ℕ)

-- the profile of a task, for a deck that does this of its own
abbrev pub profile_of : Task → Option Deck → Profile
profile_of task deck = record { rate = task.rate; hands = task.hands; deck = deck }

-- the judging of a task begins with this reader, this buffer and this job: the sheets were read and the capture opened; the buffer
-- stands before the writer, holds nothing, and hands on each line at once exactly where the task says so; and the job is that of the
-- task
pub record Begins {R S W : Type 0} (streams : Streams R S W) (task : Task) (out : W) (reader : R) (buffer : Buffered W) (job : Job) : Type 0 where
  pub deck : Option Deck
  pub finds : FindsDeck streams.opens_sheet streams.coming_sheet task.sheets.items (Ok deck)
  pub opens : streams.opens task.file (Ok reader)
  pub is_behind : buffer.to ≡ out
  pub is_empty : buffer.held.bytes.items ≡ []
  pub line_buffered : buffer.held.line_buffered ≡ task.asked.line_buffered
  pub asked : job.asked ≡ task.asked
  pub profile : job.profile ≡ profile_of task deck

-- the end where the judging does not begin, after the capture was opened so: it was not opened, or memory for the buffer was refused
abbrev pub EndsUnbegun : {R : Type 0} → Option (String Global) → Result R Error → Outcome → Type 0
EndsUnbegun file (Err e) end = end ≡ outcome_unopened file e
EndsUnbegun file (Ok reader) end = end ≡ no_memory

-- the capture of a task, whose sheets were read, was opened, and the judging did not begin
pub record EndsOpening {R S W : Type 0} (streams : Streams R S W) (task : Task) (end : Outcome) : Type 0 where
  pub deck : Option Deck
  pub finds : FindsDeck streams.opens_sheet streams.coming_sheet task.sheets.items (Ok deck)
  pub opened : Result R Error
  pub is_opened : streams.opens task.file opened
  pub ends : EndsUnbegun task.file opened end

-- the task ended so before its judging: its other file was not read, or the capture was opened, which it is only then
abbrev pub EndsBefore : {R S W : Type 0} → Streams R S W → Task → Outcome → Type 0
EndsBefore streams task end = EndsOther streams.opens_sheet streams.coming_sheet task.sheets.items task.export.deck_file end ⊎ EndsOpening streams task end

-- the judging of the task began, and ended; where the capture can't be read, the end tells the file, and where the header is at fault,
-- what stands in its place: which bytes are shown of it is tested; and where memory was refused, it tells what the word keeps. If a write failed on the way,
-- it failed with some kind of error, and this is the end then. No contract of a writer says when it fails, and how
pub record EndsJudging {R S W : Type 0} (makes : Promise) (streams : Streams R S W) (task : Task) (out : W) (end : Outcome) (now : Option (List ℕ)) : Type 0 where
  pub reader : R
  pub buffer : Buffered W
  pub job : Job
  pub begins : Begins streams task out reader buffer job
  pub judged : Outcome
  pub is_judged : EndsJudged makes job.asked.report job (streams.coming reader) (streams.contents out) judged now
  pub found : FoundHeader
  pub failed : Option ErrorKind
  pub ends : end ≡ told_after failed (with_want (kept_by task.asked.report task.export.live) (with_file task.file found judged))

-- the task was carried out, and this is the end: it ended before its judging, and nothing is written; or its judging ended
abbrev pub EndsTask : {R S W : Type 0} → Promise → Streams R S W → Task → W → Outcome → Option (List ℕ) → Type 0
EndsTask makes streams task out end now = (EndsBefore streams task end × Keeps (streams.contents out) now) ⊎ EndsJudging makes streams task out end now

-- the end where there is no task: the words are no command, or have a value that an option can't have, or ask for the version, or memory was
-- refused
abbrev pub EndsWithout : WordsFault → Option (List ℕ) → End → Option (List ℕ) → Type 0
EndsWithout (words.Usage text) old told now = (told ≡ end.Usage text) × Keeps old now
EndsWithout words.Version old told now = (outcome : Outcome) × (told ≡ end.Told outcome) × TellsVersion old outcome now
EndsWithout (words.NoValue text) old told now = (told ≡ end.NoValue text) × Keeps old now
EndsWithout words.NoMemory old told now = (told ≡ end.Told no_memory) × Keeps old now

-- the end of the program on these words: they are no command, or one but for a value that an option can't have, and nothing is written; or
-- memory was refused before a task stood, and nothing is written; or they ask for the version, and that is told; or the task that they
-- give was carried out
abbrev pub EndsWords : {R S W : Type 0} → Promise → Streams R S W → List (List ℕ) → W → End → Option (List ℕ) → Type 0
EndsWords makes streams words out (end.Usage text) now = IsNoTask words × ¬ (AsksVersion words) × Keeps (streams.contents out) now
EndsWords makes streams words out (end.NoValue text) now = IsNoValueOf words text × Keeps (streams.contents out) now
EndsWords makes streams words out (end.Told outcome) now =
    ((outcome ≡ no_memory) × Keeps (streams.contents out) now)
    ⊎ ((MayAskVersion words × TellsVersion (streams.contents out) outcome now)
    ⊎ ((task : Task) × IsTaskOf words task × EndsTask makes streams task out outcome now))

-- the end of the program, by its words or by why there are none, with a maker that promises this
abbrev pub EndsProgram : {R S W : Type 0} → Promise → Streams R S W → Result (Vec (String Global) Global) WordsFault → W → End → Option (List ℕ) → Type 0
EndsProgram makes streams (Err fault) out end now = EndsWithout fault (streams.contents out) end now
EndsProgram makes streams (Ok words) out end now = EndsWords makes streams (joined (map (λ s. string_bytes s) words.items)) out end now
