-- Where a judging begins, and where it takes up again after a break: the records that are passed over, and the first one that is
-- judged.
use Rattle.std.specs.Prelude.{◌≡◌, ◌∷◌, ◌⊎◌}
use Rattle.std.specs.Bool.{MatchBool}
use Rattle.judge9.specs.Working.{[], Beginning, Break, CaptureError, Err, false, Follower, GivesEnd, GivesRecord, GivesRefusal, JudgeError, Feed, LineByte, List, None, Ok, Option, Progress}
use Rattle.judge9.specs.Working.{refusal_of, Result, Some, true, Turn, ⊤}
use Rattle.block9.specs.NextPart.{begins_next_part, may_begin}
use Rattle.judge9.specs.Verdict.{Terms}
use Rattle.judge9.specs.Standing.{KnowsNothing}
use Rattle.judge9.specs.Working.Turns.{Comes, ComesTo}

-- these records were given, one after another
abbrev pub GivesAll : {R : Type 0} → Progress R → List LineByte → Progress R → Type 0
GivesAll old [] new = new ≡ old
GivesAll {R} old (r ∷ records) new = (mid : Progress R) × GivesRecord old r mid × GivesAll mid records new

-- none of these records may begin a command, each after the one before it, the first after `last`, if there is one
abbrev pub NoneBegins : Option LineByte → List LineByte → Type 0
NoneBegins last [] = ⊤
NoneBegins last (r ∷ records) = (may_begin last r ≡ false) × NoneBegins (Some r) records

-- the last of these records, or the one before them, if there is one
abbrev pub last_of : Option LineByte → List LineByte → Option LineByte
last_of last [] = last
last_of last (r ∷ records) = last_of (Some r) records

-- records were passed over, and this is what came then: one that may begin a command, the end of the rows, or a refusal
abbrev pub ComesThen : {R : Type 0} → Option LineByte → Progress R → Result (Option LineByte) JudgeError → Progress R → Type 0
ComesThen last old (Ok (Some r)) new = (may_begin last r ≡ true) × GivesRecord old r new
ComesThen last old (Ok None) new = GivesEnd old new
ComesThen last old (Err x) new = (e : CaptureError) × GivesRefusal old e new × (x ≡ refusal_of e)

pub record PassesOver {R : Type 0} (old : Progress R) (last : Option LineByte) (result : Result (Option LineByte) JudgeError) (new : Progress R) : Type 0 where
  pub passed : List LineByte
  pub none_begins : NoneBegins last passed
  pub mid : Progress R
  pub gives : GivesAll old passed mid
  pub then : ComesThen (last_of last passed) mid result new

-- what the first record of a part comes to, of which the rows before it were read up to here: at once, or with those after it
abbrev pub BeginsAt : {R : Type 0} → Feed R → LineByte → Result Turn JudgeError → Feed R → Type 0
BeginsAt {R} j first result k =
    ((result ≡ Err JudgeError.OutOfMemory) × GivesRecord j.rows first k.rows)
    ⊎ ((turn : Turn) × (result ≡ Ok turn) × Comes j k first (Some turn))
    ⊎ ((mid : Feed R) × Comes j mid first None × ComesTo mid result k)

-- the same, whatever rows it was read after
abbrev pub BeginsAfter : {R : Type 0} → Feed R → LineByte → Result Turn JudgeError → Feed R → Type 0
BeginsAfter {R} j first result k =
    (before : Progress R) → GivesRecord before first j.rows → BeginsAt (record { rows = before; follower = j.follower }) first result k

-- the first record that is judged is this one, and was read after these rows
pub record Resumes {R : Type 0} (terms : Terms) (before : Progress R) (first : LineByte) (result : Result Turn JudgeError) (k : Feed R) : Type 0 where
  pub follower : Follower
  pub knows_nothing : KnowsNothing terms follower
  pub with_first : BeginsAt (record { rows = before; follower = follower }) first result k

-- records were passed over after `last`, if there is one, and then came the first one that is judged, the end of the rows, or
-- a refusal
pub record ResumesAfter {R : Type 0} (terms : Terms) (last : Option LineByte) (old : Progress R) (result : Result Turn JudgeError) (k : Feed R) : Type 0 where
  pub passed : List LineByte
  pub none_begins : NoneBegins last passed
  pub mid : Progress R
  pub gives : GivesAll old passed mid
  pub then :
      ((first : LineByte) × (may_begin (last_of last passed) first ≡ true) × Resumes terms mid first result k)
      ⊎ ((result ≡ Ok Turn.End) × GivesEnd mid k.rows × KnowsNothing terms k.follower)
      ⊎ ((e : CaptureError) × GivesRefusal mid e k.rows × (result ≡ Err (refusal_of e)) × KnowsNothing terms k.follower)

-- the judging takes up again after the record that broke a rule, which was read last, or memory is refused
abbrev pub TakesUp : {R : Type 0} → Terms → Break → Feed R → Result Turn JudgeError → Feed R → Type 0
TakesUp {R} terms b j result k =
    ((result ≡ Err JudgeError.OutOfMemory) × (k.rows ≡ j.rows))
    ⊎ MatchBool (begins_next_part b.reason b.record) ((before : Progress R) → GivesRecord before b.record j.rows → Resumes terms before b.record result k)
    (ResumesAfter terms (Some b.record) j.rows result k)

-- what a judging comes to first, from this beginning on, where nothing was judged yet
abbrev pub ComesFirst : {R : Type 0} → Terms → Beginning → Feed R → Result Turn JudgeError → Feed R → Type 0
ComesFirst terms Beginning.FirstRecord j result k = ComesTo j result k
ComesFirst terms Beginning.FirstCommand j result k = ResumesAfter terms None j.rows result k
